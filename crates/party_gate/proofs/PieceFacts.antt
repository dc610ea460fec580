-- What a filter has taken of a piece of what is told.
use Rattle.std.proofs.Common.{◌≡◌, ◌∙◌, ◌+◌, ◌<◌, ◌≤◌, ◌++◌, ℕ, List, [], ◌∷◌, Result, Ok, Err, append_assoc, append-nil, drop, length, refl, sym, ap, subst, arith, take}
use Rattle.std.specs.Prelude.{get_or}
use Rattle.std.specs.Result.{IsErr}
use Rattle.std.proofs.lemmas.List.{take-append-drop, take_all, take_more}
use Rattle.outside_io.specs.Pieces.{HasPut, SinkState}
use Rattle.outside_io.proofs.PutLemmas.{has_put_none, has_put_then, puts_all, puts_front}
use Rattle.program_answers.specs.LivePrograms.{TellsMore}
use Rattle.party_gate.specs.Holding.{HasHeard}
use Rattle.party_gate.specs.Out.{out_program}
use Rattle.party_gate.specs.Passing.{told_to}
use Rattle.party_gate.specs.declared.filter.LineFilter.{LineFilter}
use Rattle.party_gate.proofs.SeenFacts.{told_on}

next_bytes : (bytes piece : List ℕ) (i b : ℕ) → i < length piece → b ≡ get_or piece i 0 → (bytes ++ take i piece) ++ b ∷ [] ≡ bytes ++ take (i + 1) piece
next_bytes bytes piece i b inside at =
    append_assoc bytes (take i piece) (b ∷ []) ∙ ap (λ (more : List ℕ). bytes ++ more) (ap (λ (x : ℕ). take i piece ++ x ∷ []) at ∙ sym (take_more piece i 0 inside))

module _ {N : Type 0} (name : List ℕ) where
  -- its first i bytes were taken, and what they call for was told
  pub record HasTaken (first now : LineFilter N) (start state : SinkState) (piece : List ℕ) (i : ℕ) : Type 0 where
    pub within : i ≤ length piece
    pub heard : (bytes : List ℕ) → HasHeard name first bytes → HasHeard name now (bytes ++ take i piece)
    pub told_so : (bytes : List ℕ) → HasHeard name first bytes → (text : List ℕ) × (told_to name (bytes ++ take i piece) ≡ told_to name bytes ++ text) × HasPut start state text

  pub none_taken : (first : LineFilter N) (start : SinkState) (piece : List ℕ) → HasTaken first first start start piece 0
  none_taken first start piece = record {
    within = omega arith;
    heard = λ bytes h. subst (HasHeard name first) (sym (append-nil bytes)) h;
    told_so = λ bytes h. ([], ap (told_to name) (append-nil bytes) ∙ sym (append-nil (told_to name bytes)), has_put_none start);
  }

  pub one_taken : {T E : Type 0} (first now next : LineFilter N) (start state after : SinkState) (piece : List ℕ) (i b : ℕ) (value : T) → i < length piece → b ≡ get_or piece i 0 → HasTaken first now start state piece i
      → ((bytes : List ℕ) → HasHeard name now bytes → TellsMore {E = E} (out_program name) bytes (bytes ++ b ∷ []) state after (Ok value))
      → ((bytes : List ℕ) → HasHeard name now bytes → HasHeard name next (bytes ++ b ∷ [])) → HasTaken first next start after piece (i + 1)
  one_taken first now next start state after piece i b value inside at t tells hears = record {
    within = omega (arith, inside);
    heard = λ bytes h. subst (HasHeard name next) (next_bytes bytes piece i b inside at) (hears (bytes ++ take i piece) (t.heard bytes h));
    told_so = λ bytes h.
        let so = t.told_so bytes h in
        let one = tells (bytes ++ take i piece) (t.heard bytes h) in (
          so.0 ++ one.text,
          ap (told_to name) (sym (next_bytes bytes piece i b inside at)) ∙ one.is ∙ ap (λ (text : List ℕ). text ++ one.text) so.1 ∙ append_assoc (told_to name bytes) so.0 one.text,
          has_put_then start state after so.0 one.text so.2 one.put.ok,
        );
  }

  pub all_told : {T E : Type 0} (first now : LineFilter N) (start state : SinkState) (piece : List ℕ) (i : ℕ) (value : T) → length piece ≤ i → HasTaken first now start state piece i → (bytes : List ℕ) → HasHeard name first bytes
      → TellsMore {E = E} (out_program name) bytes (bytes ++ piece) start state (Ok value)
  all_told first now start state piece i value past t bytes h =
      let so = t.told_so bytes h in
      record {
        text = so.0;
        is = ap (λ (more : List ℕ). told_to name (bytes ++ more)) (sym (take_all i piece past)) ∙ so.1;
        put = puts_all start state so.0 value so.2;
      }

  pub all_heard : (first now : LineFilter N) (start state : SinkState) (piece : List ℕ) (i : ℕ) → length piece ≤ i → HasTaken first now start state piece i → (bytes : List ℕ) → HasHeard name first bytes → HasHeard name now (bytes ++ piece)
  all_heard first now start state piece i past t bytes h = subst (λ (more : List ℕ). HasHeard name now (bytes ++ more)) (take_all i piece past) (t.heard bytes h)

  pub told_in_part : {T U E G : Type 0} (first now : LineFilter N) (start state after : SinkState) (piece : List ℕ) (i b : ℕ) (fault : E) (result : Result U G) → IsErr result → i < length piece → b ≡ get_or piece i 0 → HasTaken first now start state piece i
      → ((bytes : List ℕ) → HasHeard name now bytes → TellsMore {T = T} (out_program name) bytes (bytes ++ b ∷ []) state after (Err fault)) → (bytes : List ℕ) → HasHeard name first bytes → TellsMore (out_program name) bytes (bytes ++ piece) start after result
  told_in_part first now start state after piece i b fault result failed inside at t tells bytes h =
      let so = t.told_so bytes h in
      let one = tells (bytes ++ take i piece) (t.heard bytes h) in
      let rest = told_on name (drop (i + 1) piece) (bytes ++ take (i + 1) piece) in
      let whole : (bytes ++ take (i + 1) piece) ++ drop (i + 1) piece ≡ bytes ++ piece = append_assoc bytes (take (i + 1) piece) (drop (i + 1) piece) ∙ ap (λ (more : List ℕ). bytes ++ more) (take-append-drop (i + 1) piece) in
      let now_told : told_to name (bytes ++ take (i + 1) piece) ≡ told_to name bytes ++ (so.0 ++ one.text) =
      ap (told_to name) (sym (next_bytes bytes piece i b inside at)) ∙ one.is ∙ ap (λ (text : List ℕ). text ++ one.text) so.1 ∙ append_assoc (told_to name bytes) so.0 one.text in
      record {
        text = so.0 ++ (one.text ++ rest.0);
        is = ap (told_to name) (sym whole) ∙ rest.1 ∙ ap (λ (text : List ℕ). text ++ rest.0) now_told ∙ append_assoc (told_to name bytes) (so.0 ++ one.text) rest.0
            ∙ ap (λ (text : List ℕ). told_to name bytes ++ text) (append_assoc so.0 one.text rest.0);
        put = puts_front start state after so.0 one.text rest.0 (so.0 ++ (one.text ++ rest.0)) fault result failed refl so.2 one.put;
      }
