use Rattle.std.proofs.Common.{◌≡◌, ℕ, suc, ◌+◌, length, ap, arith}
use Rattle.program_answers.proofs.Saying.{says}
use Rattle.day_chain.specs.ChainTexts.{refusal_text}
use Rattle.day_chain.proofs.YearFacts.{puts_same}
use Rattle.day_chain.proofs.saying.refuse.Goals as goal

pub returns : goal.returns
returns g c = λ told count.
    let next : c.args.count + 1 ≡ suc (length told) = omega (arith, count) in
    says _ _ (refusal_text (suc (length told)) c.args.number c.args.code) 3 _ _ (puts_same _ _ _ _ _ (ap (λ (k : ℕ). refusal_text k c.args.number c.args.code) next) c.put_refusal.ensures) c.status_after.ensures
