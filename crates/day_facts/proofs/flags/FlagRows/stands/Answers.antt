use Rattle.std.proofs.Common.{subst, sym}
use Rattle.day_facts.specs.Rows.{IsCounted}
use Rattle.day_facts.proofs.flags.FlagRows.stands.Goals as goal

pub flag_in-requires : goal.flag_in-requires
flag_in-requires c = subst (λ ends. IsCounted ends c.self.inside.items c.as_slice-2.result.now) (sym c.as_slice.ensures.value)
    (subst (λ counts. IsCounted c.self.inside.ends.items c.self.inside.items counts) (sym c.as_slice-2.ensures.value) c.self.invariant.is_counted)
