-- Balances that are brought up to a journal.
use Rattle.std.proofs.Common.{◌≡◌, ℕ, suc, ◌+◌, ◌-◌, ◌<◌, ◌≤◌, ◌^◌, true, ◌&&◌, not, List, [], ◌∷◌, ◌++◌, length, take, drop, slice_index, ◌⊎◌, inl, inr, refl, sym, ap, subst, ◌∙◌, arith, length-append}
use Rattle.std.specs.Prelude.{nat_lt, if◌then◌else◌, ◌≢◌, slice_index_or}
use Rattle.std.specs.List.{list_all}
use Rattle.std.proofs.lemmas.Bool.{and_parts, false≢true}
use Rattle.std.proofs.lemmas.Bool.Decides.{eqb_tells}
use Rattle.std.proofs.lemmas.List.{append-nil, drop_all, drop_more, length-drop, take-append-drop}
use Rattle.std.proofs.Math.Seq.{drop-append_seam}
use Rattle.batch_records.specs.DayRecord.{Day}
use Rattle.batch_records.specs.Sound.{is_sound}
use Rattle.commit_journal.specs.declared.line.Move.{Move}
use Rattle.commit_journal.specs.Line.{History, Line}
use Rattle.commit_journal.specs.Histories.{Begins, oldest}
use Rattle.machine.specs.Records.Setup.{opening}
use Rattle.machine.specs.Telling.Balances.{balance, credited, credits, debited, debits}
use Rattle.machine.specs.OtherLaws.{is_real}
use Rattle.machine.specs.Legal.{IsLegal}
use Rattle.settlement_laws.proofs.Balances.MovesAreReal.{moves_are_real}
use Rattle.settlement_laws.proofs.Balances.StaysInRange.{stays_in_range}
use Rattle.lock_book.specs.Groups.{account_at, Balanced, CanMoveIn}
use Rattle.lock_book.specs.Moving.{all_moved_at, CanMoveAt, CanMoveAllAt, moved_at, only_at}

-- ---- beginnings by their length

-- a beginning is the history of as many lines
pub oldest-begins : (P J : History) → Begins P J → oldest J (length P) ≡ P
oldest-begins P J p =
    let n : length J - length P ≡ length p.0 = omega (arith, ap length p.1, length-append p.0 P) in
    ap (λ k. drop k J) n ∙ ap (drop (length p.0)) p.1 ∙ drop-append_seam p.0 P

pub oldest-over : (J : History) (i : ℕ) → length J ≤ i → oldest J i ≡ J
oldest-over J i over = let n : length J - i ≡ 0 = omega (arith, over) in ap (λ k. drop k J) n

pub oldest-whole : (J : History) → oldest J (length J) ≡ J
oldest-whole J = oldest-over J (length J) (omega arith)

pub begins-oldest : (J : History) (i : ℕ) → Begins (oldest J i) J
begins-oldest J i = (take (length J - i) J, sym (take-append-drop (length J - i) J))

-- ---- moves on one account

-- a move of a line is on an account at one side only
one_side : (a : ℕ) (m : Move) → is_real m ≡ true → (only_at a m.debit m.amount ≡ 0) ⊎ (only_at a m.credit m.amount ≡ 0)
one_side a m real = elim (eqb_tells m.debit a) [
  | inr f ↦ inl (ap (λ b. if b then m.amount else 0) f.0)
  | inl t ↦ elim (eqb_tells m.credit a) [
    | inr f ↦ inr (ap (λ b. if b then m.amount else 0) f.0)
    | inl u ↦ absurd (apart (t.1 ∙ sym u.1))
  ]
]
  where
    apart : m.debit ≢ m.credit
    apart same = elim (eqb_tells m.debit m.credit) [
      | inl t ↦ false≢true (sym (ap (λ b. not b && nat_lt 0 m.amount) t.0) ∙ real)
      | inr f ↦ f.1 same
    ]

-- what came to an account and what left it cover its moves, and leave room for them
pub record InRange (a came left : ℕ) (ms : List Move) : Type 0 where
  pub each : (i : ℕ) → (left + debits a (take i ms) ≤ came + credits a (take i ms)) × (came + credits a (take i ms) ≤ 10 ^ 18 + (left + debits a (take i ms)))

can_move : (a came left held : ℕ) (m : Move) (ms : List Move) → held + left ≡ came → is_real m ≡ true → InRange a came left (m ∷ ms) → CanMoveAt a m held
can_move a came left held m ms is real range =
    let r = range.each 1 in
    let lower = r.0 in
    let upper = r.1 in
    elim (one_side a m real) [
      | inl none ↦ record { covered = omega (arith, none); fits = omega (arith, none, is, lower, upper) }
      | inr none ↦ record { covered = omega (arith, none, is, lower); fits = omega (arith, none, is, lower, upper) }
    ]

range_rest : (a came left : ℕ) (m : Move) (ms : List Move) → InRange a came left (m ∷ ms) → InRange a (came + only_at a m.credit m.amount) (left + only_at a m.debit m.amount) ms
range_rest a came left m ms range = record {
  each = λ i.
      let r = range.each (suc i) in
      let lower = r.0 in
      let upper = r.1 in
      (omega (arith, lower), omega (arith, upper));
}

-- the moves can be made on the account, and leave what came to it less what left it
pub moves_at : (a came left held : ℕ) (ms : List Move) → held + left ≡ came → list_all is_real ms ≡ true → InRange a came left ms
    → CanMoveAllAt a ms held × (all_moved_at a ms held + (left + debits a ms) ≡ came + credits a ms)
moves_at a came left held [] is real range = (tt, omega (arith, is))
moves_at a came left held (m ∷ ms) is real range =
    let r = and_parts (is_real m) (list_all is_real ms) real in
    let can = can_move a came left held m ms is r.0 range in
    let covered = can.covered in
    let rest = moves_at a (came + only_at a m.credit m.amount) (left + only_at a m.debit m.amount) (moved_at a m held) ms (omega (arith, is, covered)) r.1 (range_rest a came left m ms range) in
    let all = rest.1 in
    ((can, rest.0), omega (arith, all))

-- ---- the moves of a line

-- of the newest line of a legal history
pub line_at : (day : Day) → is_sound day ≡ true → (J : History) (l : Line) → IsLegal day (l ∷ J) → (a held : ℕ) → held ≡ balance day J a
    → CanMoveAllAt a l.moves held × (all_moved_at a l.moves held ≡ balance day (l ∷ J) a)
unfolding credited debited
line_at day sound J l legal a held is =
    let range : InRange a (opening day a + credited J a) (debited J a) l.moves = record { each = λ i. here i } in
    let low = (range.each 0).0 in
    let m = moves_at a (opening day a + credited J a) (debited J a) held l.moves (omega (arith, is, low)) (moves_are_real day (l ∷ J) sound legal).1 range in
    let sum = m.1 in
    (m.0, omega (arith, sum))
  where
    all : l.moves ++ [] ≡ l.moves
    all = append-nil l.moves

    here : (i : ℕ) → (debited J a + debits a (take i l.moves) ≤ (opening day a + credited J a) + credits a (take i l.moves))
        × ((opening day a + credited J a) + credits a (take i l.moves) ≤ 10 ^ 18 + (debited J a + debits a (take i l.moves)))
    here i = subst (λ (ms : List Move). (debited J a + debits a (take i ms) ≤ (opening day a + credited J a) + credits a (take i ms))
        × ((opening day a + credited J a) + credits a (take i ms) ≤ 10 ^ 18 + (debited J a + debits a (take i ms)))) all (stays_in_range day J (l ∷ []) sound legal a i)

legal_rest : (day : Day) (later old : History) → IsLegal day (later ++ old) → IsLegal day old
legal_rest day [] old legal = legal
legal_rest day (l ∷ later) old legal = legal_rest day later old legal.0

pub legal_begin : (day : Day) (P J : History) → Begins P J → IsLegal day J → IsLegal day P
legal_begin day P J b legal = legal_rest day b.0 P (subst (IsLegal day) b.1 legal)

pub legal_oldest : (day : Day) (J : History) (i : ℕ) → IsLegal day J → IsLegal day (oldest J i)
legal_oldest day J i legal = legal_begin day (oldest J i) J (begins-oldest J i) legal

-- the line after the first i lines, as `Journal::line` gives it
pub after_first : (J : History) (i : ℕ) (l : Line) → oldest J (i + 1) ≡ l ∷ oldest J (i + 1 - 1) → oldest J (i + 1) ≡ l ∷ oldest J i
after_first J i l e = let same : i + 1 - 1 ≡ i = omega arith in e ∙ ap (λ (k : ℕ). l ∷ oldest J k) same

-- it can be carried out on balances over the lines before it
pub line_can : (day : Day) → is_sound day ≡ true → (J : History) → IsLegal day J → (i : ℕ) (l : Line) → oldest J (i + 1) ≡ l ∷ oldest J (i + 1 - 1) → (number : ℕ) (items : List ℕ) → Balanced day (oldest J i) number items → CanMoveIn number l.moves items
line_can day sound J legal i l e number items was k low =
    (line_at day sound (oldest J i) l (subst (IsLegal day) (after_first J i l e) (legal_oldest day J (i + 1) legal)) (account_at number k) (slice_index items k) (was k low)).0

-- and they are over these lines and it afterwards
pub balanced_line : (day : Day) → is_sound day ≡ true → (J : History) → IsLegal day J → (i : ℕ) (l : Line) → oldest J (i + 1) ≡ l ∷ oldest J (i + 1 - 1) → (number : ℕ) (items items' : List ℕ) → Balanced day (oldest J i) number items → length items' ≡ length items
    → ((k : ℕ) → k < length items → slice_index items' k ≡ all_moved_at (account_at number k) l.moves (slice_index items k))
    → Balanced day (oldest J (i + 1)) number items'
balanced_line day sound J legal i l e number items items' was same each k low =
    let low' : k < length items = omega (arith, low, same) in
    each k low'
    ∙ (line_at day sound (oldest J i) l (subst (IsLegal day) (after_first J i l e) (legal_oldest day J (i + 1) legal)) (account_at number k) (slice_index items k) (was k low')).1
    ∙ sym (ap (λ (H : History). balance day H (account_at number k)) (after_first J i l e))

-- ---- the loop over the moves of a line

pub record Carries (number : ℕ) (start now : List ℕ) (moves : List Move) (i : ℕ) : Type 0 where
  pub count : length now ≡ length start
  pub rest : CanMoveIn number (drop i moves) now
  pub same : (k : ℕ) → k < length now → all_moved_at (account_at number k) (drop i moves) (slice_index now k) ≡ all_moved_at (account_at number k) moves (slice_index start k)

-- what is left of the moves from the i-th on
pub item_first : (moves : List Move) (i : ℕ) (m : Move) → i < length moves → m ≡ slice_index_or moves i m → drop i moves ≡ m ∷ drop (i + 1) moves
item_first moves i m low is = drop_more moves i m low ∙ ap (λ (x : Move). x ∷ drop (i + 1) moves) (sym is)

pub carries_first : (number : ℕ) (start : List ℕ) (moves : List Move) → CanMoveIn number moves start → Carries number start start moves 0
carries_first number start moves can = record { count = refl; rest = can; same = λ k low. refl }

module _ (number : ℕ) (start now : List ℕ) (moves : List Move) (i : ℕ) (m : Move) (left : drop i moves ≡ m ∷ drop (i + 1) moves) (c : Carries number start now moves i) where
  pub next_can : (k : ℕ) → k < length now → CanMoveAt (account_at number k) m (slice_index now k)
  next_can k low = (subst (λ (ms : List Move). CanMoveAllAt (account_at number k) ms (slice_index now k)) left (c.rest k low)).0

  pub carries_next : (next : List ℕ) → length next ≡ length now → ((k : ℕ) → k < length now → slice_index next k ≡ moved_at (account_at number k) m (slice_index now k)) → Carries number start next moves (i + 1)
  carries_next next count each = record {
    count = count ∙ c.count;
    rest = λ k low.
        let low' : k < length now = omega (arith, low, count) in
        subst (λ (x : ℕ). CanMoveAllAt (account_at number k) (drop (i + 1) moves) x) (sym (each k low')) (subst (λ (ms : List Move). CanMoveAllAt (account_at number k) ms (slice_index now k)) left (c.rest k low')).1;
    same = λ k low.
        let low' : k < length now = omega (arith, low, count) in
        ap (all_moved_at (account_at number k) (drop (i + 1) moves)) (each k low')
        ∙ sym (ap (λ (ms : List Move). all_moved_at (account_at number k) ms (slice_index now k)) left) ∙ c.same k low';
  }

pub carries_last : (number : ℕ) (start now : List ℕ) (moves : List Move) (i : ℕ) → length moves ≤ i → Carries number start now moves i
    → (k : ℕ) → k < length start → slice_index now k ≡ all_moved_at (account_at number k) moves (slice_index start k)
carries_last number start now moves i over c k low =
    let count = c.count in
    let low' : k < length now = omega (arith, low, count) in
    sym (ap (λ (ms : List Move). all_moved_at (account_at number k) ms (slice_index now k)) (drop_all i moves over)) ∙ c.same k low'

-- ---- lines that are counted one by one

-- there are as many lines as were taken
pub length_oldest : (J : History) (i : ℕ) → i ≤ length J → length (oldest J i) ≡ i
length_oldest J i low = let n = length-drop (length J - i) J in omega (arith, low, n)
