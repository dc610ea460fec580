use Rattle.std.proofs.Common.{◌≡◌, ◌∙◌, ◌<◌, ℕ, List, true, is_some, length, get_or, ap, arith, refl, subst, sym, ⊎_elim}
use Rattle.std.proofs.lemmas.Bool.{cases_eq}
use Rattle.journal_pass.specs.Known.{Known}
use Rattle.machine.specs.Telling.History.{taken}
use Rattle.lock_book.proofs.Taking.{taken_kept}
use Rattle.lane_workers.specs.Stints.{stint}
use Rattle.lane_workers.specs.Seen.{IsNextOfSender}
use Rattle.lane_workers.proofs.Seeing.{begun_still, goes_still, goes_then, next_in_stint, same_pass}
use Rattle.lane_workers.proofs.workers.take_run.Goals as goal

pub run_end-end-requires : goal.run_end-end-requires
run_end-end-requires g c =
    let day = g.H.HallName.day in
    let w = c.args.lanes.now.workers in
    let lane = c.args.pass.now.lane in
    let is : c.stint-stint.result.now ≡ stint day w c.args.round lane = c.stint-stint.ensures ∙ (λ j. stint (c.setting.ensures j) w c.args.round (c.lane-lane.ensures j)) in
    let within = c.requires.place in
    omega (arith, within, ap length is)

pub loop-i-init : goal.loop-i-init
loop-i-init g c =
    let day = g.H.HallName.day in
    let w = c.args.lanes.now.workers in
    let lane = c.args.pass.now.lane in
    let is : c.stint-stint.result.now ≡ stint day w c.args.round lane = c.stint-stint.ensures ∙ (λ j. stint (c.setting.ensures j) w c.args.round (c.lane-lane.ensures j)) in
    record {
      pass = refl;
      seen = goes_still day c.args.pass.now.lines;
      past = λ k less. subst (λ (xs : List ℕ). is_some (taken c.args.pass.now.lines (get_or xs k 0)) ≡ true) (sym is) (c.requires.before k less);
    }

pub take_one-requires-clause-table : goal.take_one-requires-clause-table
take_one-requires-clause-table g c = ap (λ (k : Known). k.table) c.loop-i.invariant.pass ∙ c.requires.table

pub take_one-requires-clause-next : goal.take_one-requires-clause-next
take_one-requires-clause-next g c =
    let day = g.H.HallName.day in
    let w = c.args.lanes.now.workers in
    let lane = c.args.pass.now.lane in
    let is : c.stint-stint.result.now ≡ stint day w c.args.round lane = c.stint-stint.ensures ∙ (λ j. stint (c.setting.ensures j) w c.args.round (c.lane-lane.ensures j)) in
    let i = c.loop-i.i in
    let J = c.loop-i.pass.lines in
    let begun = begun_still day c.args.round c.args.pass.now.lines J c.loop-i.invariant.seen c.requires.round in
    let within : i < length (stint day w c.args.round lane) = let test = c.loop-i-test.true in let end = c.run_end-end.ensures.within in omega (arith, test, end, ap length is) in
    let past = subst (λ (xs : List ℕ). (k : ℕ) → k < i → is_some (taken J (get_or xs k 0)) ≡ true) is c.loop-i.invariant.past in
    subst (λ (xs : List ℕ). IsNextOfSender day J (get_or xs i 0)) (sym is) (next_in_stint day w c.args.round lane i J c.requires.lanes.sound begun within past)

pub loop-i-preserved : goal.loop-i-preserved
loop-i-preserved g c =
    let day = g.H.HallName.day in
    let J = c.loop-i.pass.lines in
    let K = c.take_one.new.pass.lines in
    let i = c.loop-i.i in
    let stint = c.stint-stint.result.now in
    record {
      pass = same_pass c.args.pass.now c.loop-i.pass c.take_one.new.pass c.loop-i.invariant.pass c.take_one.ensures.pass;
      seen = goes_then day c.args.pass.now.lines J K c.loop-i.invariant.seen c.take_one.ensures.seen;
      past = λ k less. ⊎_elim
          (λ (e : k ≡ i). subst (λ (n : ℕ). is_some (taken K (get_or stint n 0)) ≡ true) (sym e) c.take_one.ensures.taken)
          (λ (ne : k ≡ i → ⊥). taken_kept (get_or stint k 0) J K c.take_one.ensures.seen.begins (c.loop-i.invariant.past k (omega (arith, less, ne))))
          (cases_eq k i);
    }

pub returns-clause-further : goal.returns-clause-further
returns-clause-further g c =
    let day = g.H.HallName.day in
    let w = c.args.lanes.now.workers in
    let lane = c.args.pass.now.lane in
    let is : c.stint-stint.result.now ≡ stint day w c.args.round lane = c.stint-stint.ensures ∙ (λ j. stint (c.setting.ensures j) w c.args.round (c.lane-lane.ensures j)) in
    let end = c.run_end-end.ensures.within in
    (c.run_end-end.ensures.further, omega (arith, end, ap length is))

pub returns-clause-taken : goal.returns-clause-taken
returns-clause-taken g c =
    let day = g.H.HallName.day in
    let w = c.args.lanes.now.workers in
    let lane = c.args.pass.now.lane in
    let is : c.stint-stint.result.now ≡ stint day w c.args.round lane = c.stint-stint.ensures ∙ (λ j. stint (c.setting.ensures j) w c.args.round (c.lane-lane.ensures j)) in
    λ k less. subst (λ (xs : List ℕ). is_some (taken c.loop-i.pass.lines (get_or xs k 0)) ≡ true) is
    (c.loop-i.invariant.past k (let test = c.loop-i-test.false in omega (arith, test, less)))
