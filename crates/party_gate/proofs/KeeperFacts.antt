-- What is kept of a line, and what becomes of it.
use Rattle.std.proofs.Common.{◌≡◌, ◌∙◌, ◌++◌, ◌<◌, ◌≤◌, ℕ, Bool, true, false, List, [], ◌∷◌, Some, None, Ok, sym, ap, subst, length, arith}
use Rattle.std.specs.Prelude.{◌==◌, if◌then◌else◌}
use Rattle.std.proofs.lemmas.Bool.{eqb-false, eqb-true, le-ltb}
use Rattle.std.proofs.lemmas.List.{length-append, length-take, take-append-le, take_all}
use Rattle.outside_io.specs.Calls.{Puts}
use Rattle.outside_io.specs.Pieces.{SinkState}
use Rattle.outside_io.specs.TextLine.{line_feed}
use Rattle.outside_io.proofs.PutLemmas.{has_put_none, puts_all}
use Rattle.party_gate.specs.Holding.{Keeps}
use Rattle.party_gate.specs.Passing.{end_ahead, end_with, ends_as, longest_line, passed, passed_as, whose_is}
use Rattle.party_gate.specs.declared.line_keeper.LineKeeper.{LineKeeper}
use Rattle.party_gate.specs.declared.passing.Ending.TheVariants as endings
use Rattle.party_gate.specs.declared.passing.Whose.{Whose}
use Rattle.party_gate.specs.declared.passing.Whose.TheVariants as whose
use Rattle.party_gate.proofs.PassingFacts.{ahead_long, ahead_short, ahead_stays, long_end, long_passed, long_with}

-- ---- a whole line that isn't too long, by whose it is

pub others_pass : (name line : List ℕ) → whose.Others ≡ whose_is name line → (passed name line ≡ []) × (end_with name line ≡ None)
others_pass name line e = (ap (λ (w : Whose). passed_as w line) (sym e), ap (λ (w : Whose). ends_as w line) (sym e))

pub own_passes : (name line : List ℕ) → length line ≤ longest_line → whose.Own ≡ whose_is name line → (passed name line ≡ line) × (end_with name line ≡ None)
own_passes name line short e =
    let test = le-ltb longest_line (length line) short in
    (ap (λ (w : Whose). passed_as w line) (sym e) ∙ ap (λ (x : Bool). if x then [] else line) test, ap (λ (w : Whose). ends_as w line) (sym e) ∙ ap (λ (x : Bool). if x then Some endings.Long else None) test)

pub last_passes : (name line : List ℕ) → length line ≤ longest_line → whose.Last ≡ whose_is name line → (passed name line ≡ line) × (end_with name line ≡ Some endings.Last)
last_passes name line short e =
    let test = le-ltb longest_line (length line) short in
    (ap (λ (w : Whose). passed_as w line) (sym e) ∙ ap (λ (x : Bool). if x then [] else line) test, ap (λ (w : Whose). ends_as w line) (sym e) ∙ ap (λ (x : Bool). if x then Some endings.Long else Some endings.Last) test)

-- ---- a line that is kept in full, or not

pub is_long : (keeper : LineKeeper) (begun : List ℕ) → Keeps keeper begun → length keeper.line.items ≡ longest_line → longest_line ≤ length begun
is_long keeper begun keeps full = let same = ap length keeps.line in let taken = length-take longest_line begun in omega (arith, same, taken, full)

pub is_short : (keeper : LineKeeper) (begun : List ℕ) → Keeps keeper begun → length keeper.line.items < longest_line → length begun < longest_line
is_short keeper begun keeps few = let same = ap length keeps.line in let taken = length-take longest_line begun in omega (arith, same, taken, few)

pub is_all : (keeper : LineKeeper) (begun : List ℕ) → Keeps keeper begun → length keeper.line.items < longest_line → keeper.line.items ≡ begun
is_all keeper begun keeps few = let short = is_short keeper begun keeps few in let within : length begun ≤ longest_line = omega (arith, short) in keeps.line ∙ take_all longest_line begun within

pub full_passes : (keeper : LineKeeper) (begun : List ℕ) → Keeps keeper begun → length keeper.line.items ≡ longest_line → (passed keeper.name (begun ++ line_feed ∷ []) ≡ []) × (end_with keeper.name (begun ++ line_feed ∷ []) ≡ None)
full_passes keeper begun keeps full =
    let long = is_long keeper begun keeps full in
    (long_passed keeper.name begun line_feed long, long_with keeper.name begun line_feed long ∙ sym (ahead_long keeper.name begun long) ∙ keeps.going)

pub full_adds : (keeper : LineKeeper) (begun : List ℕ) (b : ℕ) → Keeps keeper begun → length keeper.line.items ≡ longest_line → end_ahead keeper.name (begun ++ b ∷ []) ≡ None
full_adds keeper begun b keeps full = ahead_stays keeper.name begun b (is_long keeper begun keeps full) ∙ keeps.going

pub full_keeps : (keeper : LineKeeper) (begun : List ℕ) (b : ℕ) → Keeps keeper begun → length keeper.line.items ≡ longest_line → Keeps keeper (begun ++ b ∷ [])
full_keeps keeper begun b keeps full = record {
  line = keeps.line ∙ sym (take-append-le longest_line begun (b ∷ []) (is_long keeper begun keeps full));
  going = full_adds keeper begun b keeps full;
}

pub short_keeps : (keeper next : LineKeeper) (begun : List ℕ) (b : ℕ) → Keeps keeper begun → length keeper.line.items < longest_line → next.name ≡ keeper.name → next.line.items ≡ keeper.line.items ++ b ∷ [] → end_ahead keeper.name (begun ++ b ∷ []) ≡ None → Keeps next (begun ++ b ∷ [])
short_keeps keeper next begun b keeps few same line going =
    let all = is_all keeper begun keeps few in
    let short = is_short keeper begun keeps few in
    let longer = length-append begun (b ∷ []) in
    let within : length (begun ++ b ∷ []) ≤ longest_line = omega (arith, short, longer) in
    record {
      line = line ∙ ap (λ (text : List ℕ). text ++ b ∷ []) all ∙ sym (take_all longest_line (begun ++ b ∷ []) within);
      going = ap (λ (name : List ℕ). end_ahead name (begun ++ b ∷ [])) same ∙ going;
    }

-- no line is open
pub none_kept : (keeper : LineKeeper) → keeper.line.items ≡ [] → Keeps keeper []
none_kept keeper none = record { line = none; going = ahead_short keeper.name [] (omega arith) }

-- ---- what a keeper is told of its room

pub filled : (n : ℕ) (t : Bool) → t ≡ (n == 4096) → t ≡ true → n ≡ longest_line
filled n t is holds = eqb-true n 4096 (sym is ∙ holds)

pub unfilled : (n : ℕ) (t : Bool) → t ≡ (n == 4096) → t ≡ false → n ≤ 4096 → n < longest_line
unfilled n t is fails within = let differs : n ≡ 4096 → ⊥ = eqb-false n 4096 (sym is ∙ fails) in omega (arith, differs, within)

-- ---- for contracts, where a name and a line are read from slices

same_whose : (name line n text : List ℕ) (w : Whose) → n ≡ name → text ≡ line → w ≡ whose_is n text → w ≡ whose_is name line
same_whose name line n text w e f is = is ∙ ap (λ (x : List ℕ). whose_is x text) e ∙ ap (whose_is name) f

pub ahead_by : (name line n text : List ℕ) (w : Whose) → n ≡ name → text ≡ line → longest_line ≤ length text → w ≡ whose_is n text → long_end w ≡ end_ahead name line
ahead_by name line n text w e f long is =
    let long_line : longest_line ≤ length line = subst (λ (x : List ℕ). longest_line ≤ length x) f long in
    ap long_end (same_whose name line n text w e f is) ∙ sym (ahead_long name line long_line)

pub none_passed : {T E : Type 0} (name line n text : List ℕ) (state : SinkState) (value : T) → n ≡ name → text ≡ line → whose.Others ≡ whose_is n text → Puts {E = E} state state (passed name line) (Ok value)
none_passed {T} {E} name line n text state value e f is =
    subst (λ (t : List ℕ). Puts {E = E} state state t (Ok value)) (sym (others_pass name line (same_whose name line n text whose.Others e f is)).0) (puts_all state state [] value (has_put_none state))

pub full_told : {T E : Type 0} (keeper : LineKeeper) (begun : List ℕ) (state : SinkState) (value : T) → length keeper.line.items ≡ longest_line → Keeps keeper begun → Puts {E = E} state state (passed keeper.name (begun ++ line_feed ∷ [])) (Ok value)
full_told {T} {E} keeper begun state value full keeps =
    subst (λ (t : List ℕ). Puts {E = E} state state t (Ok value)) (sym (full_passes keeper begun keeps full).0) (puts_all state state [] value (has_put_none state))
