-- A run has one status, and its words ask for one thing.
use Rattle.std.proofs.Common.{◌≡◌, ◌∙◌, ℕ, Bool, true, false, ◌||◌, Option, Some, None, refl, sym}
use Rattle.std.specs.Prelude.{nat_eq}
use Rattle.std.proofs.lemmas.Bool.{eq-eqb, false≢true}
use Rattle.program_answers.specs.Programs.{is_no_answer}

-- a status is one number
pub other : {P : Type 0} (s n k : ℕ) → s ≡ n → nat_eq n k ≡ false → s ≡ k → P
other s n k e d h = absurd (false≢true (sym d ∙ eq-eqb n k (sym e ∙ h)))

neither : (a b : Bool) → (a || b) ≡ false → (a ≡ false) × (b ≡ false)
neither false b h = (refl, h)
neither true b h = absurd (false≢true (sym h))

-- an answer has none of the other statuses
pub none_of : (n : ℕ) → is_no_answer n ≡ false → (nat_eq n 1 ≡ false) × (nat_eq n 2 ≡ false) × (nat_eq n 4 ≡ false) × (nat_eq n 5 ≡ false)
none_of n h =
    let one = neither (nat_eq n 1) (nat_eq n 2 || (nat_eq n 4 || nat_eq n 5)) h in
    let two = neither (nat_eq n 2) (nat_eq n 4 || nat_eq n 5) one.1 in
    let four = neither (nat_eq n 4) (nat_eq n 5) two.1 in
    (one.0, two.0, four.0, four.1)

-- no answer has the status of want of memory, nor that of a write that failed
abbrev pub IsNeither : ℕ → Type 0
IsNeither k = (nat_eq 0 k ≡ false) × (nat_eq 3 k ≡ false) × (nat_eq 6 k ≡ false)

pub clash : {P T : Type 0} (o : Option T) (c : T) → o ≡ None → o ≡ Some c → P
clash None c f t = absurd (cc)
clash (Some x) c f t = absurd (cc)

-- words ask for one thing
pub asked : {T : Type 0} {o : Option T} {c k : T} → o ≡ Some c → o ≡ Some k → c ≡ k
asked e h = cc (sym e ∙ h)
