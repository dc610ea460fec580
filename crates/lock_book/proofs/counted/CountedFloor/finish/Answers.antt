use Rattle.std.proofs.Common.{◌≡◌, ◌++◌, ◌∙◌, true, length, ap, subst, sym}
use Rattle.cash_amounts.specs.Numbers.{numbered}
use Rattle.batch_records.specs.DayRecord.{Day}
use Rattle.commit_journal.specs.Kept.{Kept}
use Rattle.commit_journal.specs.Line.{History}
use Rattle.machine.specs.Legal.{IsLegal}
use Rattle.machine.specs.Orders.Order.{to_round}
use Rattle.settlement_laws.proofs.DayEnd.PlainRuns.{grows-to_round}
use Rattle.settle_floor.specs.Floors.{AtWork, has_all}
use Rattle.settle_floor.specs.Tills.{KeepsBalances}
use Rattle.journal_pass.specs.Known.{Known, Told, told_lines, with_lines}
use Rattle.lock_book.proofs.Counting.{counted_line}
use Rattle.lock_book.proofs.Loading.{at_work}
use Rattle.lock_book.proofs.counted.CountedFloor.finish.Goals as goal

pub run_round-ended-requires : goal.run_round-ended-requires
run_round-ended-requires g c = record {
  at_work = subst (λ (d : Day). AtWork d c.self.inside.floor (numbered c.till.inside.till)) (sym c.requires.hall.0)
      (at_work g.H.HallName.day c.till.inside.pass.lines c.self.inside.floor c.till.inside.till c.till.invariant.all_there c.till.invariant.balanced
      (sym (c.till.view_is ∙ c.catch_up.ensures.seen ∙ ap (λ (j : Kept). j.history) c.journal-2.ensures)) c.self.invariant.opened);
}

pub count_all-requires-clause-begins : goal.count_all-requires-clause-begins
count_all-requires-clause-begins g c =
    let teller = ap (λ (t : Told). t.lines) (c.catch_up.ensures.teller ∙ c.look-seen.ensures.teller) ∙ c.self.invariant.whole in
    let b = (grows-to_round c.args.setting.now.day c.self.inside.floor.journal.history).beginning in
    (b.0, ap (λ (j : Kept). j.history) c.journal-3.ensures ∙ c.run_round-ended.ensures.lines ∙ b.1 ∙ ap (λ (P : History). b.0 ++ P) (sym teller))

pub count_all-requires-clause-counted : goal.count_all-requires-clause-counted
count_all-requires-clause-counted g c =
    let teller = ap (λ (t : Told). t.lines) (c.catch_up.ensures.teller ∙ c.look-seen.ensures.teller) ∙ c.self.invariant.whole in
    c.look-seen.ensures.length ∙ ap (λ (j : Kept). length j.history) c.journal.ensures ∙ sym (ap length teller)

pub look-requires-clause-whole : goal.look-requires-clause-whole
look-requires-clause-whole g c =
    let told = c.count_all.ensures ∙ ap (λ (j : Kept). told_lines c.catch_up.new.teller j.history) c.journal-3.ensures in
    ap (λ (j : Kept). j.history) c.journal-4.ensures ∙ sym (ap (λ (t : Told). t.lines) told)

pub look-requires-2-clause-whole : goal.look-requires-2-clause-whole
look-requires-2-clause-whole g c =
    let told = c.count_all.ensures ∙ ap (λ (j : Kept). told_lines c.catch_up.new.teller j.history) c.journal-3.ensures in
    ap (λ (j : Kept). j.history) c.journal-5.ensures ∙ sym (ap (λ (t : Told). t.lines) (c.look.ensures.teller ∙ told))

pub invariant_of-self : goal.invariant_of-self
invariant_of-self g c =
    let told = c.count_all.ensures ∙ ap (λ (j : Kept). told_lines c.catch_up.new.teller j.history) c.journal-3.ensures in
    counted_line g.H.HallName.table g.H.HallName.day c.args.setting.now.day c.self.inside.floor c.run_round-ended.new.self c.self.inside.teller c.catch_up.new.teller c.look-2.new.teller c.self.invariant
    (c.catch_up.ensures.teller ∙ c.look-seen.ensures.teller) (c.look-2.ensures.teller ∙ c.look.ensures.teller ∙ told) c.requires.hall.0 c.run_round-ended.ensures.at_work.opened

pub invariant_of-till : goal.invariant_of-till
invariant_of-till g c =
    let day = g.H.HallName.day in
    let till = c.run_round-ended.new.till in
    let work = c.run_round-ended.ensures.at_work in
    let lines = ap (λ (k : Known). k.lines) c.look.ensures.seen ∙ ap (λ (j : Kept). j.history) c.journal-4.ensures in
    record {
      table_is = ap (λ (k : Known). k.table) c.look.ensures.seen ∙ c.till.invariant.table_is;
      day_is = ap (λ (k : Known). k.day) c.look.ensures.seen ∙ c.till.invariant.day_is;
      all_there = subst (λ (d : Day). has_all (numbered till) d ≡ true) c.requires.hall.0 work.all;
      balanced = subst (KeepsBalances (numbered till) day) (sym lines) (subst (λ (d : Day). KeepsBalances (numbered till) d c.run_round-ended.new.self.journal.history) c.requires.hall.0 work.kept);
    }

pub returns-clause-pass : goal.returns-clause-pass
returns-clause-pass g c =
    c.look-2.ensures.seen ∙ ap (λ (k : Known). with_lines k c.journal-5.result.now.history) c.look-seen.ensures.seen
    ∙ ap (λ (j : Kept). with_lines c.args.pass.now j.history) c.journal-5.ensures

pub returns-clause-before : goal.returns-clause-before
returns-clause-before g c =
    let b = c.look-seen.ensures.before in
    let lines = ap (λ (k : Known). k.lines) c.look-seen.ensures.seen ∙ ap (λ (j : Kept). j.history) c.journal.ensures in
    (b.0, sym c.self.view_is ∙ sym lines ∙ b.1)

pub returns-clause-grows : goal.returns-clause-grows
returns-clause-grows g c =
    let b = (grows-to_round c.args.setting.now.day c.self.inside.floor.journal.history).beginning in
    (b.0, c.run_round-ended.ensures.lines ∙ b.1 ∙ ap (λ (P : History). b.0 ++ P) c.self.view_is)

pub returns-clause-legal : goal.returns-clause-legal
returns-clause-legal g c = (
  subst (IsLegal g.H.HallName.day) c.self.view_is c.self.invariant.opened.fits.legal,
  subst (λ (d : Day). IsLegal d c.run_round-ended.new.self.journal.history) c.requires.hall.0 c.run_round-ended.ensures.at_work.opened.fits.legal,
)

pub returns-clause-lines : goal.returns-clause-lines
returns-clause-lines g c =
    c.run_round-ended.ensures.lines ∙ ap (λ (d : Day). to_round d c.self.inside.floor.journal.history) c.requires.hall.0
    ∙ ap (to_round g.H.HallName.day) c.self.view_is

pub returns-clause-ended : goal.returns-clause-ended
returns-clause-ended g c = c.run_round-ended.ensures.ended
