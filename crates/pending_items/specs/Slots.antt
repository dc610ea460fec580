-- The slot of a row or none, as a number.
use Rattle.std.specs.Prelude.{◌≡◌, ℕ, Bool, nat_eq, if◌then◌else◌, Option, Some, None}
use Rattle.std.proofs.Common.{sym, ap, ◌∙◌, inl, inr}
use Rattle.std.proofs.lemmas.Bool.{cases_Bool, eqb-true}
use Rattle.pending_items.specs.declared.slot.Slot.TheInside.{Inside}

abbrev pub most : ℕ
most = 4294967295

abbrev pub kept : Inside → Option ℕ
kept s = if nat_eq s.number most then None else Some s.number

abbrev pub of_kept : Option ℕ → Inside
of_kept None = record { number = most }
of_kept (Some s) = record { number = s }

pub of_kept-kept : (s : Inside) → of_kept (kept s) ≡ s
of_kept-kept s = elim (cases_Bool (nat_eq s.number most)) [
  | inl e ↦ ap (λ (b : Bool). of_kept (if b then None else Some s.number)) e ∙ sym (λ i. record { number = eqb-true s.number most e i })
  | inr e ↦ ap (λ (b : Bool). of_kept (if b then None else Some s.number)) e
]
