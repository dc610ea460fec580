use Rattle.std.proofs.Common.{◌≡◌, ◌∙◌, ◌<◌, ◌≤◌, ℕ, List, length, get_or, ap, arith, refl, subst, sym, ⊎_elim}
use Rattle.std.proofs.lemmas.Bool.{cases_eq}
use Rattle.journal_pass.specs.Known.{Known}
use Rattle.machine.specs.Records.Messages.{entries}
use Rattle.machine.specs.Stages.Pending.{item}
use Rattle.lane_workers.specs.Stints.{stint}
use Rattle.lane_workers.specs.Seen.{HadChance}
use Rattle.lane_workers.proofs.Scanning.{IsOfDay, chance_kept, chance_since, of_day}
use Rattle.lane_workers.proofs.Seeing.{goes_still, goes_then, same_pass}
use Rattle.lane_workers.proofs.workers.scan_run.Goals as goal

pub run_end-end-requires : goal.run_end-end-requires
run_end-end-requires g c =
    let day = g.H.HallName.day in
    let w = c.args.lanes.now.workers in
    let lane = c.args.pass.now.lane in
    let is : c.stint-stint.result.now ≡ stint day w c.args.round lane = c.stint-stint.ensures ∙ (λ j. stint (c.setting.ensures j) w c.args.round (c.lane-lane.ensures j)) in
    let within = c.requires.place in
    omega (arith, within, ap length is)

pub loop-at-init : goal.loop-at-init
loop-at-init g c = record { pass = refl; seen = goes_still g.H.HallName.day c.args.pass.now.lines; past = λ m low less. absurd (omega (arith, low, less)) }

pub scan_message-requires : goal.scan_message-requires
scan_message-requires g c =
    let day = g.H.HallName.day in
    let w = c.args.lanes.now.workers in
    let lane = c.args.pass.now.lane in
    let is : c.stint-stint.result.now ≡ stint day w c.args.round lane = c.stint-stint.ensures ∙ (λ j. stint (c.setting.ensures j) w c.args.round (c.lane-lane.ensures j)) in
    let i = c.loop-at.at in
    let within : i < length (stint day w c.args.round lane) = let test = c.loop-at-test.true in let end = c.run_end-end.ensures.within in omega (arith, test, end, ap length is) in
    let at = subst (λ (xs : List ℕ). IsOfDay day (get_or xs i 0)) (sym is) (of_day day w c.args.round lane i within) in
    record { table = ap (λ (k : Known). k.table) c.loop-at.invariant.pass ∙ c.requires.table; sound = c.requires.lanes.sound; message = (at.first, at.last) }

pub loop-at-preserved : goal.loop-at-preserved
loop-at-preserved g c =
    let day = g.H.HallName.day in
    let P = c.args.pass.now.lines in
    let J = c.loop-at.pass.lines in
    let K = c.scan_message.new.pass.lines in
    let i = c.loop-at.at in
    let stint = c.stint-stint.result.now in
    record {
      pass = same_pass c.args.pass.now c.loop-at.pass c.scan_message.new.pass c.loop-at.invariant.pass c.scan_message.ensures.pass;
      seen = goes_then day P J K c.loop-at.invariant.seen c.scan_message.ensures.seen;
      past = λ m low less. ⊎_elim
          (λ (e : m ≡ i). subst (λ (n : ℕ). (k : ℕ) → k ≤ length (entries day (get_or stint n 0)) → HadChance day P K (item (get_or stint n 0) k)) (sym e)
          (λ k le. chance_since day P J K (item (get_or stint i 0) k) c.loop-at.invariant.seen.begins (c.scan_message.ensures.chance k le)))
          (λ (ne : m ≡ i → ⊥) k le. chance_kept day P J K (item (get_or stint m 0) k) c.scan_message.ensures.seen.begins (c.loop-at.invariant.past m low (omega (arith, less, ne)) k le))
          (cases_eq m i);
    }

pub returns-clause-further : goal.returns-clause-further
returns-clause-further g c =
    let day = g.H.HallName.day in
    let w = c.args.lanes.now.workers in
    let lane = c.args.pass.now.lane in
    let is : c.stint-stint.result.now ≡ stint day w c.args.round lane = c.stint-stint.ensures ∙ (λ j. stint (c.setting.ensures j) w c.args.round (c.lane-lane.ensures j)) in
    let end = c.run_end-end.ensures.within in
    (c.run_end-end.ensures.further, omega (arith, end, ap length is))

pub returns-clause-chances : goal.returns-clause-chances
returns-clause-chances g c =
    let day = g.H.HallName.day in
    let w = c.args.lanes.now.workers in
    let lane = c.args.pass.now.lane in
    let is : c.stint-stint.result.now ≡ stint day w c.args.round lane = c.stint-stint.ensures ∙ (λ j. stint (c.setting.ensures j) w c.args.round (c.lane-lane.ensures j)) in
    let P = c.args.pass.now.lines in
    let J = c.loop-at.pass.lines in
    λ m low less. subst (λ (xs : List ℕ). (k : ℕ) → k ≤ length (entries day (get_or xs m 0)) → HadChance day P J (item (get_or xs m 0) k)) is
    (c.loop-at.invariant.past m low (let test = c.loop-at-test.false in omega (arith, test, less)))
