use Rattle.std.proofs.Common.{◌≡◌, ℕ, suc, ◌+◌, length, ap, arith}
use Rattle.program_answers.proofs.Saying.{says}
use Rattle.day_chain.specs.ChainTexts.{fault_text}
use Rattle.day_chain.proofs.YearFacts.{puts_same}
use Rattle.day_chain.proofs.saying.say_apart.Goals as goal

pub returns : goal.returns
returns g c = λ told count.
    let next : c.args.count + 1 ≡ suc (length told) = omega (arith, count) in
    says _ _ (fault_text (suc (length told)) c.args.fault) 8 _ _ (puts_same _ _ _ _ _ (ap (λ (k : ℕ). fault_text k c.args.fault) next) c.put_fault.ensures) c.status_after.ensures
