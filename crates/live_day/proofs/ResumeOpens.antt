-- Bytes that are no headers yet, and may still be: some that follow make them whole.
use Rattle.std.proofs.Common.{◌≡◌, ◌∙◌, ◌+◌, ◌-◌, ◌^◌, ◌≤◌, ◌<◌, ◌++◌, ℕ, Bool, true, false, not, List, [], ◌∷◌, Option, None, Some, append_assoc, append-nil, length, length-append, take, drop, refl, sym, ap, arith}
use Rattle.std.specs.Prelude.{◌&&◌, ◌||◌, ◌==◌, codes, decimal, if◌then◌else◌, is_some, nat_eq, nat_le}
use Rattle.std.specs.List.{list_all, starts_with}
use Rattle.std.proofs.Math.Seq.{drop-append_seam, take-append_seam}
use Rattle.std.proofs.lemmas.Bool.{le-leb}
use Rattle.std.proofs.lemmas.Bool.Decides.{Decides-eqb}
use Rattle.std.proofs.lemmas.Slice.Eq.{starts_is}
use Rattle.batch_records.proofs.BoolFacts.{and_both, le_failed, le_meant}
use Rattle.commit_journal.proofs.FieldLemmas.{is_free}
use Rattle.live_day.specs.Answers.{longest_input}
use Rattle.live_day.specs.BeforeText.{counted_text}
use Rattle.live_day.specs.Headers.{number_is}
use Rattle.live_day.specs.Resumed.{Before, before_of, behind_records, counted_by, first_line, has_no_header, has_no_output, is_no_header, longest_output, may_begin, number_within, portion, split_at, with_written}
use Rattle.live_day.proofs.BeginFacts.{some_is}
use Rattle.live_day.proofs.HeaderFacts.{one_line_more, portion_more}
use Rattle.live_day.proofs.HeadersTaken.{portion_taken}
use Rattle.live_day.proofs.UnsettledFacts.{filler, filler_long}

-- whatever follows then, the portion is there
pub record Opens (word : List ℕ) (most : ℕ) (text : List ℕ) : Type 0 where
  pub more : List ℕ
  pub bytes : List ℕ
  pub whole : (rest : List ℕ) → portion word most ((text ++ more) ++ rest) ≡ Some (bytes, rest)

-- as many bytes as are counted, where they are there
abbrev picked : Bool → ℕ → List ℕ → Option (List ℕ × List ℕ)
picked x n after = if x then Some (take n after, drop n after) else None

not_true : (x : Bool) → not x ≡ false → x ≡ true
not_true true e = refl
not_true false e = cc e

module _ (word : List ℕ) (most : ℕ) (text : List ℕ) (low : most < 10 ^ 9) (free : is_free 10 (word ++ codes ";") ≡ true) where
  -- the word is whole with what is missing, and then no bytes follow
  opens_word : starts_with nat_eq (word ++ codes ";") text ≡ true → Opens word most text
  opens_word e =
      let missing : List ℕ = drop (length text) (word ++ codes ";") in
      let is : word ++ codes ";" ≡ text ++ missing = (starts_is Decides-eqb (word ++ codes ";") text (starts_with nat_eq (word ++ codes ";") text) refl).0 e in
      record {
        more = missing ++ (decimal 0 ++ 10 ∷ []);
        bytes = [];
        whole = λ rest.
            ap (portion word most)
            (append_assoc text (missing ++ (decimal 0 ++ 10 ∷ [])) rest
            ∙ ap (λ (t : List ℕ). text ++ t) (append_assoc missing (decimal 0 ++ 10 ∷ []) rest ∙ ap (λ (t : List ℕ). missing ++ t) (append_assoc (decimal 0) (10 ∷ []) rest))
            ∙ sym (append_assoc text missing (decimal 0 ++ 10 ∷ rest))
            ∙ ap (λ (t : List ℕ). t ++ (decimal 0 ++ 10 ∷ rest)) (sym is))
            ∙ portion_taken word most [] rest free (omega arith) (omega arith);
      }

  -- the number is whole
  opens_number : (starts_with nat_eq text (word ++ codes ";") && is_some (number_within most (drop (length word + 1) text))) ≡ true → Opens word most text
  opens_number e =
      let both = and_both (starts_with nat_eq text (word ++ codes ";")) (is_some (number_within most (drop (length word + 1) text))) e in
      let found = some_is (number_within most (drop (length word + 1) text)) both.1 in
      let n = found.0 in
      let number = number_is most (drop (length word + 1) text) n found.1 in
      let size : length (word ++ codes ";") ≡ length word + 1 = length-append word (codes ";") in
      let long = filler_long n in
      let is : text ≡ (word ++ codes ";") ++ decimal (length (filler n)) =
      (starts_is Decides-eqb text (word ++ codes ";") (starts_with nat_eq text (word ++ codes ";")) refl).0 both.0
      ∙ ap (λ (k : ℕ). (word ++ codes ";") ++ drop k text) size
      ∙ ap (λ (t : List ℕ). (word ++ codes ";") ++ t) (sym number.1 ∙ ap decimal (sym long)) in
      record {
        more = 10 ∷ filler n;
        bytes = filler n;
        whole = λ rest.
            ap (portion word most)
            (append_assoc text (10 ∷ filler n) rest
            ∙ ap (λ (t : List ℕ). t ++ (10 ∷ (filler n ++ rest))) is
            ∙ append_assoc (word ++ codes ";") (decimal (length (filler n))) (10 ∷ (filler n ++ rest)))
            ∙ portion_taken word most (filler n) rest free (let l = number.0 in omega (arith, l, long)) (let l = number.0 in omega (arith, l, long, low));
      }

  -- bytes are missing
  opens_bytes : (line after : List ℕ) → first_line text ≡ Some (line, after) → starts_with nat_eq line (word ++ codes ";") ≡ true → (n : ℕ) → number_within most (drop (length word + 1) line) ≡ Some n → length after < n → Opens word most text
  opens_bytes line after first named n number few =
      let missing : List ℕ = filler (n - length after) in
      let long = filler_long (n - length after) in
      let sum = length-append after missing in
      let count : n ≡ length (after ++ missing) = omega (arith, long, sum, few) in
      record {
        more = missing;
        bytes = after ++ missing;
        whole = λ rest.
            let all = length-append (after ++ missing) rest in
            let there : first_line ((text ++ missing) ++ rest) ≡ Some (line, (after ++ missing) ++ rest) =
            ap first_line (append_assoc text missing rest) ∙ one_line_more text (missing ++ rest) line after first ∙ ap (λ (t : List ℕ). Some (line, t)) (sym (append_assoc after missing rest)) in
            let inside : nat_le n (length ((after ++ missing) ++ rest)) ≡ true = le-leb n (length ((after ++ missing) ++ rest)) (omega (arith, count, all)) in
            ap (counted_by word most) there
            ∙ (λ i. if named i then split_at ((after ++ missing) ++ rest) (number i) else None)
            ∙ (λ i. if inside i then Some (take n ((after ++ missing) ++ rest), drop n ((after ++ missing) ++ rest)) else None)
            ∙ ap (λ (k : ℕ). Some (take k ((after ++ missing) ++ rest), drop k ((after ++ missing) ++ rest))) count
            ∙ (λ i. Some (take-append_seam (after ++ missing) rest i, drop-append_seam (after ++ missing) rest i));
      }

  open_portion : portion word most text ≡ None → is_no_header word most text (first_line text) ≡ false → Opens word most text
  open_portion none header = by (first_line text) refl none header
    where
      unfinished : (x : Bool) → nat_le (length text) (length word + 1) ≡ x
          → (if x then starts_with nat_eq (word ++ codes ";") text else starts_with nat_eq text (word ++ codes ";") && is_some (number_within most (drop (length word + 1) text))) ≡ true → Opens word most text
      unfinished true l e = opens_word e
      unfinished false l e = opens_number e

      few : (line after : List ℕ) → first_line text ≡ Some (line, after) → starts_with nat_eq line (word ++ codes ";") ≡ true → (n : ℕ) → number_within most (drop (length word + 1) line) ≡ Some n
          → (x : Bool) → nat_le n (length after) ≡ x → picked x n after ≡ None → Opens word most text
      few line after first named n number true l e = cc e
      few line after first named n number false l e = opens_bytes line after first named n number (le_failed n (length after) l)

      by : (o : Option (List ℕ × List ℕ)) → first_line text ≡ o → counted_by word most o ≡ None → is_no_header word most text o ≡ false → Opens word most text
      by None first none header = unfinished (nat_le (length text) (length word + 1)) refl (not_true (may_begin word most text) header)
      by (Some s) first none header =
          let both = and_both (starts_with nat_eq s.0 (word ++ codes ";")) (is_some (number_within most (drop (length word + 1) s.0))) (not_true (starts_with nat_eq s.0 (word ++ codes ";") && is_some (number_within most (drop (length word + 1) s.0))) header) in
          let found = some_is (number_within most (drop (length word + 1) s.0)) both.1 in
          let split : picked (nat_le found.0 (length s.1)) found.0 s.1 ≡ None =
          sym ((λ i. if both.0 i then split_at s.1 (found.1 i) else None)) ∙ none in
          few s.0 s.1 first both.0 found.0 found.1 (nat_le found.0 (length s.1)) refl split

or_none : (x y : Bool) → (x || y) ≡ false → (x ≡ false) × (y ≡ false)
or_none true y e = cc e
or_none false y e = (refl, e)

pub resume_opens : (front : List ℕ) → before_of front ≡ None → has_no_header front ≡ false → (rest : List ℕ) × (b : Before) × (before_of (front ++ rest) ≡ Some b)
unfolding before_of
resume_opens front none header = by (portion (codes "RECORDS") longest_input front) refl
  where
    parts : (is_no_header (codes "RECORDS") longest_input front (first_line front) ≡ false) × (has_no_output (portion (codes "RECORDS") longest_input front) ≡ false)
    parts = or_none (is_no_header (codes "RECORDS") longest_input front (first_line front)) (has_no_output (portion (codes "RECORDS") longest_input front)) header

    by : (o : Option (List ℕ × List ℕ)) → portion (codes "RECORDS") longest_input front ≡ o → (rest : List ℕ) × (b : Before) × (before_of (front ++ rest) ≡ Some b)
    by None e =
        let o = open_portion (codes "RECORDS") longest_input front (omega arith) refl e parts.0 in (
          o.more ++ counted_text (codes "OUTPUT") [] [],
          record { read = o.bytes; written = []; rest = [] },
          ap (λ (t : List ℕ). behind_records (portion (codes "RECORDS") longest_input t)) (sym (append_assoc front o.more (counted_text (codes "OUTPUT") [] [])))
              ∙ ap behind_records (o.whole (counted_text (codes "OUTPUT") [] []))
              ∙ ap (with_written o.bytes) (portion_taken (codes "OUTPUT") longest_output [] [] refl (omega arith) (omega arith)),
        )
    by (Some s) e =
        let empty : portion (codes "OUTPUT") longest_output s.1 ≡ None = none_of (portion (codes "OUTPUT") longest_output s.1) (sym (ap behind_records e) ∙ none) in
        let o = open_portion (codes "OUTPUT") longest_output s.1 (omega arith) refl empty (ap has_no_output (sym e) ∙ parts.1) in (
          o.more,
          record { read = s.0; written = o.bytes; rest = [] },
          ap behind_records (portion_more (codes "RECORDS") longest_input front o.more s e)
              ∙ ap (with_written s.0) (ap (portion (codes "OUTPUT") longest_output) (sym (append-nil (s.1 ++ o.more))) ∙ o.whole []),
        )
      where
        none_of : (q : Option (List ℕ × List ℕ)) → with_written s.0 q ≡ None → q ≡ None
        none_of None e = refl
        none_of (Some t) e = cc e
