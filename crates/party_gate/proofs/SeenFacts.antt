-- What one byte more makes of what was seen.
use Rattle.std.proofs.Common.{◌≡◌, ◌∙◌, ◌+◌, ◌++◌, ℕ, Bool, true, false, List, [], ◌∷◌, Option, Some, None, Result, Ok, Err, append_assoc, append-nil, refl, sym, ap, subst, inl, inr, arith}
use Rattle.std.specs.Prelude.{◌||◌, ◌⊎◌, IfOk, OnOk, if◌then◌else◌, is_some, nat_lt}
use Rattle.std.proofs.lemmas.Bool.{cases_eq, false≢true, ne_eqb, true≢false}
use Rattle.std.proofs.lemmas.List.{length-append}
use Rattle.outside_io.specs.Calls.{Puts}
use Rattle.outside_io.specs.Pieces.{SinkState}
use Rattle.outside_io.specs.TextLine.{line_feed}
use Rattle.outside_io.proofs.PutLemmas.{has_put_none, puts_all}
use Rattle.program_answers.specs.LivePrograms.{TellsMore}
use Rattle.party_gate.specs.Holding.{HasSeen, Keeps}
use Rattle.party_gate.specs.Lines.{open_line, whole_lines}
use Rattle.party_gate.specs.Out.{out_program}
use Rattle.party_gate.specs.Passing.{end_ahead, end_of, end_told, end_with, is_told_long, longest_told, passed, status_of, told_to, unless_ended}
use Rattle.party_gate.specs.declared.line_keeper.LineKeeper.{LineKeeper}
use Rattle.party_gate.specs.declared.passing.Ending.{Ending}
use Rattle.party_gate.proofs.KeeperFacts.{none_kept}
use Rattle.party_gate.proofs.PassingFacts.{added_end, fed_end, fed_told, open_more, stays_over, told_line, told_same}

some_is : (o : Option Ending) → is_some o ≡ true → (e : Ending) × (o ≡ Some e)
some_is (Some e) t = (e, refl)
some_is None t = absurd (false≢true t)

none_is : (o : Option Ending) → is_some o ≡ false → o ≡ None
none_is (Some e) t = absurd (true≢false t)
none_is None t = refl

-- ---- nothing follows

pub over_tells : {T E : Type 0} (name : List ℕ) (keeper : LineKeeper) (ending : Option Ending) (size : ℕ) (bytes : List ℕ) (b : ℕ) (state : SinkState) (value : T) → is_some ending ≡ true → HasSeen name keeper ending size bytes
    → TellsMore {E = E} (out_program name) bytes (bytes ++ b ∷ []) state state (Ok value)
over_tells name keeper ending size bytes b state value t seen =
    let some = some_is ending t in
    let stays = stays_over name bytes b some.0 (sym seen.ended ∙ some.1) in
    record { text = []; is = stays.0 ∙ sym (append-nil (told_to name bytes)); put = puts_all state state [] value (has_put_none state) }

pub over_ends : (name : List ℕ) (keeper : LineKeeper) (ending : Option Ending) (size : ℕ) (bytes : List ℕ) (b : ℕ) → is_some ending ≡ true → HasSeen name keeper ending size bytes → ending ≡ end_told name (bytes ++ b ∷ [])
over_ends name keeper ending size bytes b t seen =
    let some = some_is ending t in
    some.1 ∙ sym (stays_over name bytes b some.0 (sym seen.ended ∙ some.1)).1

pub over_keeps : (ending : Option Ending) (P : Type 0) → is_some ending ≡ true → ending ≡ None → P
over_keeps ending P t none = absurd (false≢true (ap is_some (sym none) ∙ t))

-- ---- a line feed

pub fed_tells : {T E : Type 0} (name : List ℕ) (keeper : LineKeeper) (ending : Option Ending) (size : ℕ) (bytes : List ℕ) (b : ℕ) (old new : SinkState) (result : Result T E) → is_some ending ≡ false → b ≡ line_feed → HasSeen name keeper ending size bytes
    → ((begun : List ℕ) → Keeps keeper begun → Puts old new (passed keeper.name (begun ++ line_feed ∷ [])) result) → TellsMore (out_program name) bytes (bytes ++ b ∷ []) old new result
fed_tells name keeper ending size bytes b old new result t feed seen puts =
    let none = none_is ending t in
    subst (λ (x : ℕ). TellsMore (out_program name) bytes (bytes ++ x ∷ []) old new result) (sym feed) (record {
      text = passed name (open_line bytes ++ line_feed ∷ []);
      is = fed_told name bytes (sym seen.ended ∙ none);
      put = subst (λ (n : List ℕ). Puts old new (passed n (open_line bytes ++ line_feed ∷ [])) result) seen.named (puts (open_line bytes) (seen.kept none));
    })

pub fed_ends : (name : List ℕ) (keeper : LineKeeper) (ending : Option Ending) (size : ℕ) (bytes : List ℕ) (b : ℕ) (now : Option Ending) → is_some ending ≡ false → b ≡ line_feed → HasSeen name keeper ending size bytes
    → ((begun : List ℕ) → Keeps keeper begun → now ≡ end_with keeper.name (begun ++ line_feed ∷ [])) → now ≡ end_told name (bytes ++ b ∷ [])
fed_ends name keeper ending size bytes b now t feed seen ends =
    let none = none_is ending t in
    subst (λ (x : ℕ). now ≡ end_told name (bytes ++ x ∷ [])) (sym feed)
    (subst (λ (n : List ℕ). now ≡ end_with n (open_line bytes ++ line_feed ∷ [])) seen.named (ends (open_line bytes) (seen.kept none)) ∙ sym (fed_end name bytes (sym seen.ended ∙ none)))

pub fed_keeps : (bytes : List ℕ) (b : ℕ) (keeper : LineKeeper) → b ≡ line_feed → Keeps keeper [] → Keeps keeper (open_line (bytes ++ b ∷ []))
fed_keeps bytes b keeper feed keeps =
    subst (λ (x : ℕ). Keeps keeper (open_line (bytes ++ x ∷ []))) (sym feed) (subst (Keeps keeper) (sym (open_more bytes [] line_feed)) keeps)

-- ---- any other byte

pub added_tells : {T E : Type 0} (name bytes : List ℕ) (b : ℕ) (state : SinkState) (value : T) → (b ≡ line_feed → ⊥) → TellsMore {E = E} (out_program name) bytes (bytes ++ b ∷ []) state state (Ok value)
added_tells name bytes b state value other =
    record { text = []; is = told_same name bytes b (ne_eqb b line_feed other) ∙ sym (append-nil (told_to name bytes)); put = puts_all state state [] value (has_put_none state) }

pub added_ends : (name : List ℕ) (keeper : LineKeeper) (ending : Option Ending) (size : ℕ) (bytes : List ℕ) (b : ℕ) (now : Option Ending) → is_some ending ≡ false → (b ≡ line_feed → ⊥) → HasSeen name keeper ending size bytes
    → ((begun : List ℕ) → Keeps keeper begun → now ≡ end_ahead keeper.name (begun ++ b ∷ [])) → now ≡ end_told name (bytes ++ b ∷ [])
added_ends name keeper ending size bytes b now t other seen ends =
    let none = none_is ending t in
    subst (λ (n : List ℕ). now ≡ end_ahead n (open_line bytes ++ b ∷ [])) seen.named (ends (open_line bytes) (seen.kept none)) ∙ sym (added_end name bytes b (ne_eqb b line_feed other) (sym seen.ended ∙ none))

pub added_keeps : (name : List ℕ) (keeper next : LineKeeper) (ending : Option Ending) (size : ℕ) (bytes : List ℕ) (b : ℕ) (now : Option Ending) → is_some ending ≡ false → (b ≡ line_feed → ⊥) → HasSeen name keeper ending size bytes
    → ((begun : List ℕ) → Keeps keeper begun → now ≡ None → Keeps next (begun ++ b ∷ [])) → now ≡ None → Keeps next (open_line (bytes ++ b ∷ []))
added_keeps name keeper next ending size bytes b now t other seen keeps none =
    subst (Keeps next) (sym (open_more bytes [] b ∙ ap (λ (x : Bool). if x then [] else open_line bytes ++ b ∷ []) (ne_eqb b line_feed other))) (keeps (open_line bytes) (seen.kept (none_is ending t)) none)

-- ---- of all bytes

-- what is told of bytes begins what is told of more
told_more : (name bytes : List ℕ) (b : ℕ) → (more : List ℕ) × (told_to name (bytes ++ b ∷ []) ≡ told_to name bytes ++ more)
told_more name bytes b = by (cases_eq b line_feed)
  where
    by : (b ≡ line_feed) ⊎ (b ≡ line_feed → ⊥) → (more : List ℕ) × (told_to name (bytes ++ b ∷ []) ≡ told_to name bytes ++ more)
    by (inl feed) =
        let more = unless_ended (end_of name (whole_lines bytes)) (passed name (open_line bytes ++ line_feed ∷ [])) in
        (more, subst (λ (x : ℕ). told_to name (bytes ++ x ∷ []) ≡ told_to name bytes ++ more) (sym feed) (told_line name bytes))
    by (inr other) = ([], told_same name bytes b (ne_eqb b line_feed other) ∙ sym (append-nil (told_to name bytes)))

pub told_on : (name rest front : List ℕ) → (more : List ℕ) × (told_to name (front ++ rest) ≡ told_to name front ++ more)
told_on name [] front = ([], ap (told_to name) (append-nil front) ∙ sym (append-nil (told_to name front)))
told_on name (b ∷ rest) front =
    let one = told_more name front b in
    let all = told_on name rest (front ++ b ∷ []) in
    (one.0 ++ all.0, ap (told_to name) (sym (append_assoc front (b ∷ []) rest)) ∙ all.1 ∙ ap (λ (text : List ℕ). text ++ all.0) one.1 ∙ append_assoc (told_to name front) one.0 all.0)

-- it has seen one byte more
pub has_seen : (name : List ℕ) (keeper next : LineKeeper) (ending now : Option Ending) (size : ℕ) (bytes : List ℕ) (b : ℕ) → HasSeen name keeper ending size bytes → next.name ≡ keeper.name → now ≡ end_told name (bytes ++ b ∷ [])
    → (now ≡ None → Keeps next (open_line (bytes ++ b ∷ []))) → HasSeen name next now (size + 1) (bytes ++ b ∷ [])
has_seen name keeper next ending now size bytes b seen same ended kept =
    let all = length-append bytes (b ∷ []) in
    let was = seen.counted in
    record { named = same ∙ seen.named; ended = ended; counted = omega (arith, all, was); kept = kept }

-- ---- as contracts have it

pub fed_ends_ok : {E : Type 0} (name : List ℕ) (keeper : LineKeeper) (ending : Option Ending) (size : ℕ) (bytes : List ℕ) (b : ℕ) (result : Result (Option Ending) E) → is_some ending ≡ false → b ≡ line_feed → HasSeen name keeper ending size bytes
    → ((begun : List ℕ) → Keeps keeper begun → IfOk result (λ e. e ≡ end_with keeper.name (begun ++ line_feed ∷ []))) → IfOk result (λ e. e ≡ end_told name (bytes ++ b ∷ []))
fed_ends_ok name keeper ending size bytes b (Ok e) t feed seen ends = fed_ends name keeper ending size bytes b e t feed seen ends
fed_ends_ok name keeper ending size bytes b (Err fault) t feed seen ends = tt

pub fed_keeps_ok : {E : Type 0} (bytes : List ℕ) (b : ℕ) (next : LineKeeper) (result : Result (Option Ending) E) → b ≡ line_feed → OnOk result (next.line.items ≡ []) → IfOk result (λ e. e ≡ None → Keeps next (open_line (bytes ++ b ∷ [])))
fed_keeps_ok bytes b next (Ok e) feed none = λ over. fed_keeps bytes b next feed (none_kept next none)
fed_keeps_ok bytes b next (Err fault) feed none = tt

pub is_over : (name : List ℕ) (keeper : LineKeeper) (ending : Option Ending) (size : ℕ) (bytes : List ℕ) → HasSeen name keeper ending size bytes → (is_some ending || nat_lt longest_told size) ≡ (is_some (end_told name bytes) || is_told_long bytes)
is_over name keeper ending size bytes seen = ap (λ (e : Option Ending). is_some e || nat_lt longest_told size) seen.ended ∙ ap (λ (n : ℕ). is_some (end_told name bytes) || nat_lt longest_told n) seen.counted

pub ends_so : (name : List ℕ) (keeper : LineKeeper) (ending : Option Ending) (size : ℕ) (bytes : List ℕ) → HasSeen name keeper ending size bytes → status_of ending (nat_lt longest_told size) ≡ status_of (end_told name bytes) (is_told_long bytes)
ends_so name keeper ending size bytes seen = ap (λ (e : Option Ending). status_of e (nat_lt longest_told size)) seen.ended ∙ ap (λ (n : ℕ). status_of (end_told name bytes) (nat_lt longest_told n)) seen.counted

pub tells_ok : {T U E F : Type 0} (name before now : List ℕ) (old new : SinkState) (value : T) (other : U) → TellsMore {E = E} (out_program name) before now old new (Ok value) → TellsMore {E = F} (out_program name) before now old new (Ok other)
tells_ok name before now old new value other tells = record { text = tells.text; is = tells.is; put = puts_all old new tells.text other tells.put.ok }
