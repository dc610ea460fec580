-- A place of a line or none, as a number.
use Rattle.std.specs.Prelude.{◌≡◌, ℕ, Bool, nat_eq, if◌then◌else◌, Option, Some, None}
use Rattle.std.proofs.Common.{sym, ap, ◌∙◌, inl, inr}
use Rattle.std.proofs.lemmas.Bool.{cases_Bool, eqb-true}
use Rattle.day_facts.specs.declared.places.Place.TheInside.{Inside}

abbrev pub place_of : Inside → Option ℕ
place_of p = if nat_eq p.number 0 then None else Some p.number

abbrev pub of_place : Option ℕ → Inside
of_place None = record { number = 0 }
of_place (Some n) = record { number = n }

pub of_place-place_of : (p : Inside) → of_place (place_of p) ≡ p
of_place-place_of p = elim (cases_Bool (nat_eq p.number 0)) [
  | inl e ↦ ap (λ (b : Bool). of_place (if b then None else Some p.number)) e ∙ sym (λ i. record { number = eqb-true p.number 0 e i })
  | inr e ↦ ap (λ (b : Bool). of_place (if b then None else Some p.number)) e
]
