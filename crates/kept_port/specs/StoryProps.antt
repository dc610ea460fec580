-- That a port's story goes on has one proof at most.
use Rattle.std.proofs.Common.{◌≡◌, ℕ, List, Option, Some, None, drop}
use Rattle.std.proofs.Props.{props}
use mathlib.Core.HLevel.{Unit-prop}
use Rattle.std.specs.Io.KnownBytes.{Appends, Consumes}
use Rattle.outside_io.specs.Pieces.{SinkState}
use Rattle.outside_io.specs.GhostTexts.{bytes_of}
use Rattle.kept_port.specs.Keepers.{handed_on, keeper_state}
use Rattle.kept_port.specs.Stories.{Flows, GrewFrom, IsSince}
use Rattle.kept_port.specs.declared.log.Log.{Ghosts}
use Rattle.kept_port.specs.declared.keeper.Keeper.{Keeper}
use Rattle.kept_port.specs.declared.story.Story.{Story, Begins, Asked', Wrote'}

texts : IsSet (List ℕ)
texts = Prim.hlevel props

numbers : IsSet ℕ
numbers = Prim.hlevel props

Appends-prop : (old new : Option (List ℕ)) (text : List ℕ) → IsProp (Appends old new text)
Appends-prop None new text = Unit-prop
Appends-prop (Some x) None text = Prim.hlevel props
Appends-prop (Some x) (Some y) text = texts _ _

Consumes-prop : (old new : Option (List ℕ)) (text : List ℕ) → IsProp (Consumes old new text)
Consumes-prop None new text = Unit-prop
Consumes-prop (Some x) None text = Prim.hlevel props
Consumes-prop (Some x) (Some y) text = texts _ _

GrewFrom-prop : (old new : List ℕ) → IsProp (GrewFrom old new)
GrewFrom-prop old new = texts _ _

same-prop : (old new : List ℕ) → IsProp (old ≡ new)
same-prop old new = texts old new

module _ {P L : Type 0} {log : Ghosts L} (state : P → SinkState) where
  pub IsSince-prop : (first now : Keeper P L log) → IsProp (IsSince state first now)
  IsSince-prop first now a b = λ i. record {
    skip = numbers _ _ a.skip b.skip i;
    real = Appends-prop (state first.below).written (state now.below).written (drop first.all_skip (bytes_of now.told)) a.real b.real i;
    left = Consumes-prop (keeper_state state first).reading.left (keeper_state state now).reading.left (handed_on now) a.left b.left i;
  }

  pub Flows-prop : (first now : Keeper P L log) (story : Story (Keeper P L log)) → IsProp (Flows state first now story)
  Flows-prop first now (Begins start) u v = Unit-prop u v
  Flows-prop first now (Asked' marker before then) u v = λ i. (
    IsSince-prop first then.value u.0 v.0 i,
    GrewFrom-prop (bytes_of then.value.told) (bytes_of now.told) u.1 v.1 i,
    Flows-prop first then.value before u.2 v.2 i,
  )
  Flows-prop first now (Wrote' marker before then) u v = λ i. (
    IsSince-prop first then.value u.0 v.0 i,
    GrewFrom-prop (bytes_of then.value.told) (bytes_of now.told) u.1 v.1 i,
    same-prop (handed_on now) (handed_on then.value) u.2 v.2 i,
    Flows-prop first then.value before u.3 v.3 i,
  )
