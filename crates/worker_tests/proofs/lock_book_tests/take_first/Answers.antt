use Rattle.std.proofs.Common.{◌≡◌, ◌∙◌, ℕ, true, is_some, arith, subst, sym}
use Rattle.batch_records.specs.DayRecord.{Day}
use Rattle.batch_records.specs.Sound.{is_sound}
use Rattle.machine.specs.Telling.History.{taken}
use Rattle.lock_book.proofs.Taking.{told_taken}
use Rattle.worker_tests.proofs.lock_book_tests.take_first.Goals as goal

pub returns-clause-taken : goal.returns-clause-taken
returns-clause-taken g c = λ told n from to low.
    let one = c.requires.one in
    let is : n ≡ 1 = omega (arith, from, to, one) in
    let sound = subst (λ (d : Day). is_sound d ≡ true) c.setting.ensures c.setting.result.now.sound in
    subst (λ (k : ℕ). is_some (taken c.step.new.pass.lines k) ≡ true) (sym is)
    (told_taken g.H.HallName.day 1 c.args.pass.now.lines c.step.new.pass.lines c.step.result sound c.step.ensures.legal (omega arith) (omega (arith, one)) c.step.ensures.tells (sym c.is_taken.ensures ∙ told))
