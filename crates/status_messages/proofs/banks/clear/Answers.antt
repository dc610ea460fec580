use Rattle.std.proofs.Common.{◌∙◌, ap, arith, length, refl}
use Rattle.std.proofs.lemmas.List.{length-set}
use Rattle.status_messages.proofs.Entered.{cleared, cleared_more, cleared_all}
use Rattle.status_messages.proofs.banks.clear.Goals as goal

pub loop-a-init : goal.loop-a-init
loop-a-init c = record { length = refl; before = λ k l. absurd (omega arith) }

pub loop-a-preserved : goal.loop-a-preserved
loop-a-preserved c = record {
  length = ap length c.remove.ensures ∙ length-set c.loop-a.banks c.in-Some.a _ ∙ c.loop-a.invariant.length;
  before = cleared_more c.loop-a.banks c.remove.new.self c.loop-a.at c.in-Some.a c.in-Some.ensures.within c.in-Some.ensures.next c.remove.ensures c.loop-a.invariant.before;
}

pub returns : goal.returns
returns c = cleared c.loop-a.banks (length c.args.banks.now) c.loop-a.invariant.length (cleared_all c.loop-a.banks c.loop-a.at c.loop-a.invariant.before c.in_default.ensures.next)
