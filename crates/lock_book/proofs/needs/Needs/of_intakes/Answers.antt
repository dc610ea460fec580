use Rattle.std.proofs.Common.{arith}
use Rattle.machine.specs.Making.Accounts.{accounts_taken}
use Rattle.machine.specs.Records.Messages.{sort_of}
use Rattle.lock_book.proofs.Needing.{needs_of_all, needs_of_more}
use Rattle.lock_book.proofs.needs.Needs.of_intakes.Goals as goal

pub loop-n-preserved : goal.loop-n-preserved
loop-n-preserved c =
    let day = c.args.setting.now.day in
    needs_of_more (λ n. accounts_taken (sort_of day n) day n) c.args.messages.now c.loop-n.n-index c.loop-n-test.true _ _ _ c.loop-n.invariant c.of_intake.ensures c.either-needs.ensures

pub returns : goal.returns
returns c =
    let day = c.args.setting.now.day in
    needs_of_all (λ n. accounts_taken (sort_of day n) day n) c.args.messages.now c.loop-n.n-index (omega (arith, c.loop-n-test.false)) _ c.loop-n.invariant
