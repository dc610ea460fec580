-- Tests of account kinds and procedures.
use Rattle.std.specs.Prelude.{ℕ, Bool, true, false, nat_eq}
use Rattle.cash_amounts.specs.declared.records.AccountKind.{AccountKind}
use Rattle.cash_amounts.specs.declared.records.AccountKind.TheVariants.{Dca, Sub, Tech, Fund}
use Rattle.cash_amounts.specs.declared.records.Procedure.{Procedure}
use Rattle.cash_amounts.specs.declared.records.Procedure.TheVariants.{A, B, C, D, E}

abbrev pub is_dca : AccountKind → Bool
is_dca Dca = true
is_dca _ = false

abbrev pub is_sub : AccountKind → Bool
is_sub Sub = true
is_sub _ = false

abbrev pub is_technical : AccountKind → Bool
is_technical Tech = true
is_technical _ = false

abbrev pub is_fund : AccountKind → Bool
is_fund Fund = true
is_fund _ = false

-- the place of a procedure's flag among the five of a system
abbrev pub flag_of : Procedure → ℕ
flag_of A = 0
flag_of B = 1
flag_of C = 2
flag_of D = 3
flag_of E = 4

abbrev pub same_procedure : Procedure → Procedure → Bool
same_procedure p q = nat_eq (flag_of p) (flag_of q)
