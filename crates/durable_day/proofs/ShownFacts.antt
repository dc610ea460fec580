-- What a disk shows that is cut while a store goes on.
use Rattle.std.proofs.Common.{◌≡◌, ℕ, zero, suc, ◌+◌, ◌*◌, ◌-◌, ◌/◌, ◌%◌, ◌<◌, ◌≤◌, Bool, true, false, List, [], ◌∷◌, ◌++◌, length, take, drop, Result, Ok, Err, refl, sym, ap, ◌∙◌, arith, append_assoc}
use Rattle.std.specs.Prelude.{if◌then◌else◌, is_ok, nat_eq, nat_lt, IsErr}
use Rattle.std.proofs.lemmas.Bool.{lt-ltb, le-ltb, ltb-false, ltb-true, eqb-true, ne_eqb}
use Rattle.std.proofs.lemmas.List.{length-append, take_at, drop_at, drop-drop}
use Rattle.batch_records.specs.DayRecord.{Day}
use Rattle.commit_journal.specs.Line.{Line, History}
use Rattle.commit_journal.specs.Histories.{Begins}
use Rattle.commit_journal.specs.Text.{line_text}
use Rattle.disk_model.specs.Crashes.{overwritten}
use Rattle.disk_model.specs.Cut.{once}
use Rattle.durable_day.specs.Appending.{appended_by, newest_by}
use Rattle.durable_day.specs.Bytes.{gated, stored, StandsFor}
use Rattle.durable_day.specs.Onward.{gone_by, gone_on, lines_after, missing, put_over, with_lines}
use Rattle.durable_day.proofs.AppendFacts.{length-piece, opened, piece_of, with_line}
use Rattle.durable_day.proofs.StoreFacts.{length-gated}

-- ---- what is handed on

pub failed_is : {T E : Type 0} (result : Result T E) → IsErr result → is_ok result ≡ false
failed_is (Ok value) failed = absurd (cc)
failed_is (Err fault) failed = refl

-- ---- one call

pub once_first : (k : ℕ) (old a b : List ℕ) → k < 1 → once old a k ≡ once old b k
once_first zero old a b low = refl
once_first (suc k) old a b low = absurd (omega (arith, low))

pub once_later : (k : ℕ) (old new : List ℕ) → 0 < k → once old new k ≡ new
once_later zero old new low = absurd (omega (arith, low))
once_later (suc k) old new low = refl

-- ---- four calls

pub appended_early : (end : ℕ) (piece old : List ℕ) (k : ℕ) → k < 3 → appended_by end piece old k ≡ once old (overwritten (end + 1) piece old) k
appended_early end piece old k low =
    ap (λ (b : Bool). if b then once old (overwritten (end + 1) piece old) k else overwritten end (1 ∷ []) (overwritten (end + 1) piece old)) (lt-ltb k 3 low)

appended_late : (end : ℕ) (piece old : List ℕ) (k : ℕ) → 3 ≤ k → appended_by end piece old k ≡ overwritten end (1 ∷ []) (overwritten (end + 1) piece old)
appended_late end piece old k low =
    ap (λ (b : Bool). if b then once old (overwritten (end + 1) piece old) k else overwritten end (1 ∷ []) (overwritten (end + 1) piece old)) (le-ltb k 3 low)

pub appended_on : (end : ℕ) (piece old : List ℕ) (k : ℕ) → once (overwritten (end + 1) piece old) (overwritten end (1 ∷ []) (overwritten (end + 1) piece old)) k ≡ appended_by end piece old (2 + k)
appended_on end piece old zero = sym (appended_early end piece old (2 + zero) (omega arith) ∙ once_later (2 + zero) old (overwritten (end + 1) piece old) (omega arith))
appended_on end piece old (suc k) = sym (appended_late end piece old (2 + suc k) (omega arith))

pub newest_none : (J : History) (old : List ℕ) (k : ℕ) → k ≡ 0 → newest_by J old k ≡ old
newest_none [] old k none = refl
newest_none (l ∷ J) old k none =
    let piece = piece_of J l in
    appended_early (length (stored J)) piece old k (omega (arith, none)) ∙ ap (once old (overwritten (length (stored J) + 1) piece old)) none

-- ---- a line more

-- the lines stand in front, a gate, and after it what stood there
abbrev HasFront : History → List ℕ → List ℕ → Type 0
HasFront K old bytes = (gate : ℕ) × (bytes ≡ stored K ++ gate ∷ drop (suc (length (stored K))) old)

longer_by : (K : History) (l : Line) → length (stored (l ∷ K)) ≡ length (stored K) + length (piece_of K l)
unfolding stored
longer_by K l =
    let text : List ℕ = line_text (suc (length K)) l in
    omega (arith, length-append (stored K) (gated text), length-gated text, length-piece K l)

line_put : (K : History) (l : Line) (old bytes : List ℕ) → HasFront K old bytes → newest_by (l ∷ K) bytes 4 ≡ put_over (l ∷ K) old
line_put K l old bytes (gate, is) =
    let end : ℕ = length (stored K) in
    let piece : List ℕ = piece_of K l in
    let rest : List ℕ = drop (suc end) old in
    let tail : List ℕ = drop (length piece) rest in
    let front : List ℕ = stored K ++ gate ∷ [] in
    let size : length front ≡ end + 1 = length-append (stored K) (gate ∷ []) in
    let parts : bytes ≡ front ++ rest = is ∙ sym (append_assoc (stored K) (gate ∷ []) rest) in
    let before : take (end + 1) bytes ≡ front = ap (take (end + 1)) parts ∙ take_at front rest (end + 1) size in
    let behind : drop (end + 1 + length piece) bytes ≡ tail = sym (drop-drop (length piece) (end + 1) bytes) ∙ ap (λ (xs : List ℕ). drop (length piece) (drop (end + 1) xs)) parts ∙ ap (drop (length piece)) (drop_at front rest (end + 1) size) in
    let written : overwritten (end + 1) piece bytes ≡ stored K ++ gate ∷ (piece ++ tail) = append_assoc (take (end + 1) bytes) piece (drop (end + 1 + length piece) bytes) ∙ (λ i. before i ++ (piece ++ behind i)) ∙ append_assoc (stored K) (gate ∷ []) (piece ++ tail) in
    let place : suc end + length piece ≡ suc (length (stored (l ∷ K))) = omega (arith, longer_by K l) in
    let further : tail ≡ drop (suc (length (stored (l ∷ K)))) old = drop-drop (length piece) (suc end) old ∙ ap (λ (n : ℕ). drop n old) place in
    opened end (stored K) (overwritten (end + 1) piece bytes) piece tail gate refl written ∙ with_line K l tail ∙ ap (λ (xs : List ℕ). stored (l ∷ K) ++ 0 ∷ xs) further

-- ---- on the way

-- the journal there is the one with so many lines more
pub lines_there : (day : Day) (J K : History) → Begins J K → Begins K (gone_on day J) → lines_after day J (length K - length J) ≡ K
lines_there day J K (more, from) (others, to) =
    let few : missing day J - (length K - length J) ≡ length others = omega (arith, ap length from, ap length to, length-append more J, length-append others K) in
    ap (λ (n : ℕ). drop n (gone_on day J)) few ∙ ap (drop (length others)) to ∙ drop_at others K (length others) refl

module _ (day : Day) (J K : History) (old : List ℕ) (stands : StandsFor J old) (from : Begins J K) (to : Begins K (gone_on day J)) where
  some_lines : nat_eq (length K - length J) 0 ≡ false → with_lines day J old (length K - length J) ≡ put_over K old
  some_lines e = ap (λ (b : Bool). if b then old else put_over (lines_after day J (length K - length J)) old) e ∙ ap (λ (H : History). put_over H old) (lines_there day J K from to)

  no_lines : nat_eq (length K - length J) 0 ≡ true → with_lines day J old (length K - length J) ≡ old
  no_lines e = ap (λ (b : Bool). if b then old else put_over (lines_after day J (length K - length J)) old) e

  none_before : (more : History) → K ≡ more ++ J → length more ≡ 0 → K ≡ J
  none_before [] is few = is
  none_before (l ∷ more) is few = absurd (omega (arith, few))

  has_front : HasFront K old (with_lines day J old (length K - length J))
  has_front = here (nat_eq (length K - length J) 0) refl
    where
      here : (b : Bool) → nat_eq (length K - length J) 0 ≡ b → HasFront K old (with_lines day J old (length K - length J))
      here false e = (0, some_lines e)
      here true e =
          let zero_lines : length K - length J ≡ 0 = eqb-true (length K - length J) 0 e in
          let same : K ≡ J = none_before from.0 from.1 (omega (arith, zero_lines, ap length from.1, length-append from.0 J)) in
          let front : List ℕ = stored J ++ stands.gate ∷ [] in
          let size : length front ≡ suc (length (stored J)) = omega (arith, length-append (stored J) (stands.gate ∷ [])) in
          let behind : stands.rest ≡ drop (suc (length (stored J))) old = sym (ap (drop (suc (length (stored J)))) (stands.bytes_are ∙ sym (append_assoc (stored J) (stands.gate ∷ []) stands.rest)) ∙ drop_at front stands.rest (suc (length (stored J))) size) in
          let bytes : old ≡ stored J ++ stands.gate ∷ drop (suc (length (stored J))) old = stands.bytes_are ∙ ap (λ (xs : List ℕ). stored J ++ stands.gate ∷ xs) behind in
          (stands.gate, no_lines e ∙ bytes ∙ ap (λ (H : History). stored H ++ stands.gate ∷ drop (suc (length (stored H))) old) (sym same))

  -- after whole lines
  pub gone_whole : (k : ℕ) → k ≡ 4 * (length K - length J) → gone_by day J old k ≡ with_lines day J old (length K - length J)
  gone_whole k is =
      let n : k / 4 ≡ length K - length J = omega (arith, is) in
      let r : k % 4 ≡ 0 = omega (arith, is) in
      newest_none (lines_after day J (suc (k / 4))) (with_lines day J old (k / 4)) (k % 4) r ∙ ap (λ (m : ℕ). with_lines day J old m) n

  module _ (l : Line) (further : Begins (l ∷ K) (gone_on day J)) where
    one_more_line : length (l ∷ K) - length J ≡ suc (length K - length J)
    one_more_line = omega (arith, ap length from.1, length-append from.0 J)

    next_there : lines_after day J (suc (length K - length J)) ≡ l ∷ K
    next_there = ap (λ (m : ℕ). lines_after day J m) (sym one_more_line) ∙ lines_there day J (l ∷ K) (l ∷ from.0, ap (λ (H : History). l ∷ H) from.1) further

    within_line : (k : ℕ) → k < 4 → newest_by (l ∷ K) (with_lines day J old (length K - length J)) k ≡ gone_by day J old (4 * (length K - length J) + k)
    within_line k low =
        let n : (4 * (length K - length J) + k) / 4 ≡ length K - length J = omega (arith, low) in
        let r : (4 * (length K - length J) + k) % 4 ≡ k = omega (arith, low) in
        sym ((λ i. newest_by (lines_after day J (suc (n i))) (with_lines day J old (n i)) (r i)) ∙ ap (λ (H : History). newest_by H (with_lines day J old (length K - length J)) k) next_there)

    never : suc (length K - length J) ≡ 0 → ⊥
    never e = absurd (omega (arith, e))

    whole_line : (k : ℕ) → k ≡ 4 → newest_by (l ∷ K) (with_lines day J old (length K - length J)) k ≡ gone_by day J old (4 * (length K - length J) + k)
    whole_line k is =
        let n : (4 * (length K - length J) + k) / 4 ≡ suc (length K - length J) = omega (arith, is) in
        let r : (4 * (length K - length J) + k) % 4 ≡ 0 = omega (arith, is) in
        let at : ℕ = 4 * (length K - length J) + k in
        ap (newest_by (l ∷ K) (with_lines day J old (length K - length J))) is
        ∙ line_put K l old (with_lines day J old (length K - length J)) has_front
        ∙ ap (λ (H : History). put_over H old) (sym next_there)
        ∙ sym (ap (λ (b : Bool). if b then old else put_over (lines_after day J (suc (length K - length J))) old) (ne_eqb (suc (length K - length J)) 0 never))
        ∙ sym (newest_none (lines_after day J (suc (at / 4))) (with_lines day J old (at / 4)) (at % 4) r ∙ ap (λ (m : ℕ). with_lines day J old m) n)

    pub gone_line : (k : ℕ) → k ≤ 4 → newest_by (l ∷ K) (gone_by day J old (4 * (length K - length J))) k ≡ gone_by day J old (4 * (length K - length J) + k)
    gone_line k few = ap (λ (bytes : List ℕ). newest_by (l ∷ K) bytes k) (gone_whole (4 * (length K - length J)) refl) ∙ here (nat_lt k 4) refl
      where
        here : (b : Bool) → nat_lt k 4 ≡ b → newest_by (l ∷ K) (with_lines day J old (length K - length J)) k ≡ gone_by day J old (4 * (length K - length J) + k)
        here true e = within_line k (ltb-true k 4 e)
        here false e = whole_line k (omega (arith, few, ltb-false k 4 e))

pub gone_none : (day : Day) (J : History) (old : List ℕ) (k : ℕ) → k ≡ 0 → gone_by day J old k ≡ old
gone_none day J old k none = ap (gone_by day J old) none ∙ newest_none (lines_after day J 1) old 0 refl
