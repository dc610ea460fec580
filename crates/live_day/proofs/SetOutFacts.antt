-- A run that goes on: what it tells of what was read before and of what comes.
use Rattle.std.proofs.Common.{◌≡◌, ◌∙◌, ◌≤◌, ◌++◌, ℕ, Bool, true, false, List, [], None, Some, Result, Ok, Err, append-nil, drop, length, refl, sym, ap, subst, inl}
use Rattle.std.specs.Prelude.{IsErr, if◌then◌else◌, nat_eq}
use Rattle.std.specs.List.{starts_with}
use Rattle.std.proofs.lemmas.List.{drop-append-le}
use Rattle.outside_io.specs.Calls.{Puts}
use Rattle.outside_io.specs.Pieces.{HasPut, SinkState}
use Rattle.outside_io.proofs.PutLemmas.{puts_first, puts_then}
use Rattle.program_answers.specs.LivePrograms.{TellsMore}
use Rattle.live_day.specs.Answers.{longest_input, looked_at}
use Rattle.live_day.specs.Comparing.{beyond, differing_line}
use Rattle.live_day.specs.GoingOn.{HasGone}
use Rattle.live_day.specs.Promises.{Runs, program_of}
use Rattle.live_day.specs.Resumed.{Before, is_own, other_line, told_resumed}
use Rattle.live_day.specs.Resuming.{SetsOut, before}
use Rattle.live_day.specs.Told.{told}
use Rattle.live_day.specs.declared.resuming.Stage.TheVariants as stages
use Rattle.live_day.proofs.EndFacts.{looked_whole, told_front}
use Rattle.live_day.proofs.PlaceFacts.{goes_beyond, not_beyond, wanted_short}

-- ---- what is told of what was read begins what is told of all

pub own_is : (b : Before) (x : Bool) → is_own b ≡ x → told_resumed (Some b) ≡ (if x then drop (length b.written) (told (looked_at (b.read ++ b.rest))) else [])
own_is b x e = ap (λ (y : Bool). if y then drop (length b.written) (told (looked_at (b.read ++ b.rest))) else []) e

resumed_goes : (read written rest more : List ℕ) → starts_with nat_eq (told read) written ≡ true → told (looked_at (read ++ rest)) ≡ told read ++ more → told_resumed (Some (before read written rest)) ≡ beyond written (told read) ++ more
resumed_goes read written rest more own goes =
    own_is (before read written rest) true own ∙ ap (drop (length written)) goes ∙ drop-append-le (length written) (told read) more (wanted_short written (told read) own)
    ∙ ap (λ (t : List ℕ). t ++ more) (sym (goes_beyond written (told read) own))

pub resumed_splits : (read written rest : List ℕ) → length read ≤ longest_input → (more : List ℕ) × (told_resumed (Some (before read written rest)) ≡ beyond written (told read) ++ more)
resumed_splits read written rest low = by (starts_with nat_eq (told read) written) refl
  where
    by : (x : Bool) → starts_with nat_eq (told read) written ≡ x → (more : List ℕ) × (told_resumed (Some (before read written rest)) ≡ beyond written (told read) ++ more)
    by true e = let goes = told_front read rest low in (goes.0, resumed_goes read written rest goes.0 e goes.1)
    by false e = ([], own_is (before read written rest) false e ∙ sym (append-nil []) ∙ ap (λ (t : List ℕ). t ++ []) (sym (not_beyond written (told read) e)))

-- ---- setting out

pub cut_short : {T U E F : Type 0} (read written rest : List ℕ) (old new : SinkState) (fault : E) (result : Result U F) → length read ≤ longest_input → IsErr result → Puts {T = T} old new (beyond written (told read)) (Err fault)
    → Puts old new (told_resumed (Some (before read written rest))) result
cut_short read written rest old new fault result low failed put =
    let splits = resumed_splits read written rest low in
    subst (λ (t : List ℕ). Puts old new t result) (sym splits.1) (puts_first old new (beyond written (told read)) splits.0 fault result failed put)

-- what was written is its own, or differs in a line
line_differs : (written text : List ℕ) (line : ℕ) → Some line ≡ differing_line written text → (starts_with nat_eq text written ≡ false) × (line ≡ other_line written text)
line_differs written text line e = by (starts_with nat_eq text written) refl e
  where
    by : (x : Bool) → starts_with nat_eq text written ≡ x → Some line ≡ (if x then None else Some (other_line written text)) → (starts_with nat_eq text written ≡ false) × (line ≡ other_line written text)
    by true h e = cc e
    by false h e = (h, cc e)

pub line_same : (written text : List ℕ) → None ≡ differing_line written text → starts_with nat_eq text written ≡ true
line_same written text e = by (starts_with nat_eq text written) refl e
  where
    by : (x : Bool) → starts_with nat_eq text written ≡ x → None ≡ (if x then None else Some (other_line written text)) → starts_with nat_eq text written ≡ true
    by true h e = h
    by false h e = cc e

pub differs_told : {T U E F : Type 0} (read written rest : List ℕ) (line : ℕ) (old new : SinkState) (value : T) (other : U) → Some line ≡ differing_line written (told read) → Puts {E = E} old new (beyond written (told read)) (Ok value)
    → Puts {E = F} old new (told_resumed (Some (before read written rest))) (Ok other)
differs_told read written rest line old new value other e put =
    let differs = line_differs written (told read) line e in
    record { ok = subst (λ (t : List ℕ). HasPut old new t) (not_beyond written (told read) differs.0 ∙ sym (own_is (before read written rest) false differs.0)) put.ok; err = tt }

pub differs_at : (Heard : List ℕ → Type 0) (read written rest : List ℕ) (line : ℕ) → Some line ≡ differing_line written (told read) → SetsOut Heard (before read written rest) (stages.Differs line)
differs_at Heard read written rest line e = line_differs written (told read) line e

pub first_gone : (Heard : List ℕ → Type 0) (read : List ℕ) → Heard read → HasGone Heard read
first_gone Heard read heard = record { front = read; more = []; is = sym (append-nil read); heard = heard; counts = inl refl }

pub goes_told : {T U V E F : Type 0} (read written rest : List ℕ) (old mid new : SinkState) (value : T) (result : Result U F) (end : Result V F) → length read ≤ longest_input → None ≡ differing_line written (told read)
    → Puts {E = E} old mid (beyond written (told read)) (Ok value) → TellsMore (program_of Runs) read (read ++ rest) mid new result → ((text : List ℕ) → Puts old new text result → Puts old new text end)
    → Puts old new (told_resumed (Some (before read written rest))) end
goes_told read written rest old mid new value result end low same put more gives =
    let goes : told (looked_at (read ++ rest)) ≡ told read ++ more.text = more.is ∙ ap (λ (b : List ℕ). told b ++ more.text) (looked_whole read low) in
    let whole = resumed_goes read written rest more.text (line_same written (told read) same) goes in
    subst (λ (t : List ℕ). Puts old new t end) (sym whole) (gives (beyond written (told read) ++ more.text) (puts_then old mid new (beyond written (told read)) more.text value result put more.put))

-- the same of a call that gives what this one makes of its value
pub ok_given : {U V E F : Type 0} (old new : SinkState) (value : U) (other : V) → (text : List ℕ) → Puts {E = E} old new text (Ok value) → Puts {E = F} old new text (Ok other)
ok_given old new value other text put = record { ok = put.ok; err = tt }

pub err_given : {U V E F : Type 0} (old new : SinkState) (fault : E) (other : F) → (text : List ℕ) → Puts {T = U} old new text (Err fault) → Puts {T = V} old new text (Err other)
err_given old new fault other text put = record { ok = tt; err = put.err }

pub goes_at : (Heard : List ℕ → Type 0) (read written rest : List ℕ) → None ≡ differing_line written (told read) → HasGone Heard (read ++ rest) → SetsOut Heard (before read written rest) stages.GoesOn
goes_at Heard read written rest same gone = (line_same written (told read) same, gone)
