-- What a live day has taken of a piece of its input.
use Rattle.std.proofs.Common.{◌≡◌, ◌∙◌, ◌+◌, ◌<◌, ◌≤◌, ◌++◌, ℕ, List, [], ◌∷◌, Result, Ok, Err, append_assoc, append-nil, drop, length, refl, sym, ap, subst, arith, take, inl, inr}
use Rattle.std.specs.Prelude.{get_or}
use Rattle.std.specs.Result.{IsErr}
use Rattle.std.proofs.lemmas.Bool.{cases_Bool}
use Rattle.std.proofs.lemmas.List.{take-append-drop, take_all, take_more}
use Rattle.batch_records.specs.Records.{Fields}
use Rattle.outside_io.specs.Pieces.{HasPut, SinkState}
use Rattle.outside_io.proofs.PutLemmas.{has_put_none, has_put_then, puts_all, puts_front}
use Rattle.program_answers.specs.LivePrograms.{TellsMore}
use Rattle.live_records.specs.Fates.{IsFront}
use Rattle.live_day.specs.Answers.{is_settled_by, looked_at}
use Rattle.live_day.specs.Listened.{HasListened}
use Rattle.live_day.specs.Promises.{Runs, program_of}
use Rattle.live_day.specs.Told.{told}
use Rattle.live_day.specs.declared.listening.LiveDay.{LiveDay}
use Rattle.live_day.proofs.Bytes.{settled_told}
use Rattle.live_day.proofs.RunFacts.{told_goes_on}

-- what is told of bytes begins what is told of more, whether they settle the answer or not
goes_on : (front rest : List ℕ) → IsFront (told (looked_at front)) (told (looked_at (front ++ rest)))
goes_on front rest = elim (cases_Bool (is_settled_by front)) [
  | inl e ↦ ([], (settled_told front rest e).1 ∙ sym (append-nil (told (looked_at front))))
  | inr e ↦ told_goes_on front rest e
]

module _ {D : Type 0} (HasHeard : D → List Fields → Type 0) where
  -- its first i bytes were taken, and what they call for was told
  pub record HasTaken (first now : LiveDay D) (start state : SinkState) (piece : List ℕ) (i : ℕ) : Type 0 where
    pub within : i ≤ length piece
    pub heard : (input : List ℕ) → HasListened HasHeard first input → HasListened HasHeard now (input ++ take i piece)
    pub told_so : (input : List ℕ) → HasListened HasHeard first input → (text : List ℕ) × (told (looked_at (input ++ take i piece)) ≡ told (looked_at input) ++ text) × HasPut start state text

  pub none_taken : (first : LiveDay D) (start : SinkState) (piece : List ℕ) → HasTaken first first start start piece 0
  none_taken first start piece = record {
    within = omega arith;
    heard = λ input h. subst (HasListened HasHeard first) (sym (append-nil input)) h;
    told_so = λ input h. ([], ap (λ (bytes : List ℕ). told (looked_at bytes)) (append-nil input) ∙ sym (append-nil (told (looked_at input))), has_put_none start);
  }

  next_bytes : (input piece : List ℕ) (i b : ℕ) → i < length piece → b ≡ get_or piece i 0 → (input ++ take i piece) ++ b ∷ [] ≡ input ++ take (i + 1) piece
  next_bytes input piece i b inside at =
      append_assoc input (take i piece) (b ∷ []) ∙ ap (λ (bytes : List ℕ). input ++ bytes) (ap (λ (x : ℕ). take i piece ++ x ∷ []) at ∙ sym (take_more piece i 0 inside))

  pub one_taken : {T E : Type 0} (first now next : LiveDay D) (start state after : SinkState) (piece : List ℕ) (i b : ℕ) (value : T) → i < length piece → b ≡ get_or piece i 0 → HasTaken first now start state piece i
      → ((input : List ℕ) → HasListened HasHeard now input → TellsMore {E = E} (program_of Runs) input (input ++ b ∷ []) state after (Ok value))
      → ((input : List ℕ) → HasListened HasHeard now input → HasListened HasHeard next (input ++ b ∷ [])) → HasTaken first next start after piece (i + 1)
  one_taken first now next start state after piece i b value inside at t tells hears = record {
    within = omega (arith, inside);
    heard = λ input h. subst (HasListened HasHeard next) (next_bytes input piece i b inside at) (hears (input ++ take i piece) (t.heard input h));
    told_so = λ input h.
        let so = t.told_so input h in
        let one = tells (input ++ take i piece) (t.heard input h) in (
          so.0 ++ one.text,
          ap (λ (bytes : List ℕ). told (looked_at bytes)) (sym (next_bytes input piece i b inside at)) ∙ one.is ∙ ap (λ (bytes : List ℕ). bytes ++ one.text) so.1 ∙ append_assoc (told (looked_at input)) so.0 one.text,
          has_put_then start state after so.0 one.text so.2 one.put.ok,
        );
  }

  pub all_told : {T E : Type 0} (first now : LiveDay D) (start state : SinkState) (piece : List ℕ) (i : ℕ) (value : T) → length piece ≤ i → HasTaken first now start state piece i → (input : List ℕ) → HasListened HasHeard first input
      → TellsMore {E = E} (program_of Runs) input (input ++ piece) start state (Ok value)
  all_told first now start state piece i value past t input h =
      let so = t.told_so input h in
      record {
        text = so.0;
        is = ap (λ (bytes : List ℕ). told (looked_at (input ++ bytes))) (sym (take_all i piece past)) ∙ so.1;
        put = puts_all start state so.0 value so.2;
      }

  pub told_in_part : {T U E F : Type 0} (first now : LiveDay D) (start state after : SinkState) (piece : List ℕ) (i b : ℕ) (fault : E) (result : Result U F) → IsErr result → i < length piece → b ≡ get_or piece i 0 → HasTaken first now start state piece i
      → ((input : List ℕ) → HasListened HasHeard now input → TellsMore {T = T} (program_of Runs) input (input ++ b ∷ []) state after (Err fault)) → (input : List ℕ) → HasListened HasHeard first input → TellsMore (program_of Runs) input (input ++ piece) start after result
  told_in_part first now start state after piece i b fault result failed inside at t tells input h =
      let so = t.told_so input h in
      let one = tells (input ++ take i piece) (t.heard input h) in
      let rest = goes_on (input ++ take (i + 1) piece) (drop (i + 1) piece) in
      let whole : (input ++ take (i + 1) piece) ++ drop (i + 1) piece ≡ input ++ piece = append_assoc input (take (i + 1) piece) (drop (i + 1) piece) ∙ ap (λ (bytes : List ℕ). input ++ bytes) (take-append-drop (i + 1) piece) in
      let now_told : told (looked_at (input ++ take (i + 1) piece)) ≡ told (looked_at input) ++ (so.0 ++ one.text) =
      ap (λ (bytes : List ℕ). told (looked_at bytes)) (sym (next_bytes input piece i b inside at)) ∙ one.is ∙ ap (λ (bytes : List ℕ). bytes ++ one.text) so.1 ∙ append_assoc (told (looked_at input)) so.0 one.text in
      record {
        text = so.0 ++ (one.text ++ rest.0);
        is = ap (λ (bytes : List ℕ). told (looked_at bytes)) (sym whole) ∙ rest.1 ∙ ap (λ (bytes : List ℕ). bytes ++ rest.0) now_told ∙ append_assoc (told (looked_at input)) (so.0 ++ one.text) rest.0
            ∙ ap (λ (bytes : List ℕ). told (looked_at input) ++ bytes) (append_assoc so.0 one.text rest.0);
        put = puts_front start state after so.0 one.text rest.0 (so.0 ++ (one.text ++ rest.0)) fault result failed refl so.2 one.put;
      }
