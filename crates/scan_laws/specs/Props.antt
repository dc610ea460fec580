-- That members represent what is ready has one proof at most, as a ghost field needs it; and so with candidates.
use Rattle.std.proofs.Common.{ℕ, Bool, Option, Some, None}
use Rattle.std.proofs.Props.{props}
use Rattle.scan_laws.specs.Next.{Represents}
use Rattle.scan_laws.specs.Candidates.{IsFirstRound, HasCandidates}

pub Represents-prop : (members ready : ℕ → Bool) (p : ℕ) → IsProp (Represents members ready p)
Represents-prop members ready p = Prim.hlevel (props)

IsFirstRound-prop : (test : ℕ → Bool) (p : ℕ) (o : Option ℕ) → IsProp (IsFirstRound test p o)
IsFirstRound-prop test p None = Prim.hlevel (props)
IsFirstRound-prop test p (Some y) = Prim.hlevel (props)

pub HasCandidates-prop : (members ready : ℕ → Bool) (stands : ℕ → ℕ → Bool) (p : ℕ) (candidate : ℕ → Option ℕ) → IsProp (HasCandidates members ready stands p candidate)
HasCandidates-prop members ready stands p candidate = Prim.hlevel (IsFirstRound-prop, props)
