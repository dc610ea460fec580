use Rattle.std.proofs.Common.{subst, sym}
use Rattle.number_set.specs.Next.{IsNext}
use Rattle.day_facts.specs.Facts.{StandsFor}
use Rattle.day_facts.specs.Rows.{flag_at}
use Rattle.day_facts.proofs.FirstFlags.{first_debit_stands}
use Rattle.day_facts.proofs.facts.DayFacts.first_unbooked_debit.Goals as goal

pub returns : goal.returns
returns c = λ day J s.
    first_debit_stands day J _ c.args.n _ (subst (λ rows. IsNext (flag_at rows c.args.n) 0 c.first.result) c.debits.ensures c.first.ensures) (subst (StandsFor day J) (sym c.self.view_is) s)
