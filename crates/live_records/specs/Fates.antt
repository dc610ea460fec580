-- What has become of a record, by its number, and how what is heard goes on.
use Rattle.std.specs.Prelude.{ℕ, ◌+◌, ◌-◌, ◌≡◌, ◌==◌, ◌≤◌, ◌<◌, true, if◌then◌else◌, List, [], ◌∷◌, ◌++◌, Some, map, slice_get, sum_by}
use Rattle.batch_records.specs.Records.{Fields}
use Rattle.live_records.specs.Heard.{Heard, Numbered, numbers_of, refusals_of}

-- how often a number stands in a list
abbrev pub times : ℕ → List ℕ → ℕ
times n numbers = sum_by (λ k. if k == n then 1 else 0) numbers

-- how often one is told of: as a record of the accepted day, of the open batch, of a batch that was refused, and by a line of its own
abbrev pub fates : ℕ → Heard → ℕ
fates n h = times n (numbers_of h.accepted) + times n (numbers_of h.batch) + times n h.dropped + times n (map (λ x. x.0) (refusals_of h))

-- each stands after the one before it, the first after this number, and is the record of its number
abbrev pub AreRecords : List Fields → ℕ → List Numbered → Type 0
AreRecords records before [] = Unit {0}
AreRecords records before (x ∷ xs) = (before < x.0) × (slice_get records (x.0 - 1) ≡ Some x.1) × AreRecords records x.0 xs

-- a list begins another one
abbrev pub IsFront : {A : Type 0} → List A → List A → Type 0
IsFront {A} xs ys = (more : List A) × (ys ≡ xs ++ more)

-- what is heard goes on: what was accepted, called for or dropped stays, in its order
pub record Continues (before : Heard) (now : Heard) : Type 0 where
  pub count : before.count ≤ now.count
  pub accepted : IsFront before.accepted now.accepted
  pub dropped : IsFront before.dropped now.dropped
  pub calls : IsFront before.calls now.calls
  pub begun : before.begun ≡ true → now.begun ≡ true
  pub broken : before.broken ≡ true → now ≡ before
