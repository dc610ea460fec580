-- The entries that a balance covers in turn are those that it covers with the covered ones before them.
use Rattle.std.proofs.Common.{◌≡◌, ℕ, zero, suc, ◌+◌, ◌-◌, ◌≤◌, ◌<◌, Bool, true, false, not, List, [], ◌∷◌, Some, refl, sym, ◌∙◌, ap, arith, cond, take}
use Rattle.std.specs.Prelude.{nat_lt, nat_le, if◌then◌else◌, map, filter, slice_get, sum_by}
use Rattle.std.specs.List.{enumerate_from}
use Rattle.std.proofs.lemmas.Bool.{ltb-true, ltb-false, leb-true, le-leb, lt-leb, and_parts}
use Rattle.std.proofs.lemmas.List.Sums.{sum_by-cons}
use Rattle.batch_records.specs.DayRecord.{Day}
use Rattle.batch_records.specs.declared.day.Entry.{Entry}
use Rattle.commit_journal.specs.declared.line.Move.{Move}
use Rattle.commit_journal.specs.declared.line.Code.{Code}
use Rattle.commit_journal.specs.declared.line.Code.TheVariants as line_codes
use Rattle.commit_journal.specs.declared.line.Kind.{Kind}
use Rattle.commit_journal.specs.declared.line.Kind.TheVariants as kinds
use Rattle.commit_journal.specs.Line.{Line, History}
use Rattle.machine.specs.Records.Messages.{Sort, BatchD, sort_of, is_d, entries, entry_at, move_of, technical_account}
use Rattle.machine.specs.Telling.History.{is_in, is_ok}
use Rattle.machine.specs.Telling.Balances.{balance}
use Rattle.machine.specs.Telling.Facts.{takes_well}
use Rattle.machine.specs.Stages.Intake.{amount_of, afforded_in_order, intake_moves, moves_as}
use Rattle.machine.specs.Legal.{IsLegal}
use Rattle.machine.specs.Laws.{amount_before, MovesWhatIsAfforded, BatchesOfDMoveInTurn}
use Rattle.settlement_laws.proofs.Base.Made.{Made, made_facts}

-- ---- over a list of entries, by index

-- whether the entry at index i is covered in its turn
abbrev pub turns : ℕ → List Entry → ℕ → Bool
turns available [] i = false
turns available (e ∷ es) zero = not (nat_lt available e.amount)
turns available (e ∷ es) (suc i) = elim (nat_lt available e.amount) [ true ↦ turns available es i | false ↦ turns (available - e.amount) es i ]

abbrev with_first : Bool → Entry → List Entry → List Entry
with_first true e es = e ∷ es
with_first false e es = es

-- the entries whose indices pass
abbrev chosen : (ℕ → Bool) → List Entry → List Entry
chosen q [] = []
chosen q (e ∷ es) = with_first (q 0) e (chosen (λ i. q (suc i)) es)

-- what those of them amount to that stand before index i
abbrev pub weighed : (ℕ → Bool) → List Entry → ℕ → ℕ
weighed q [] i = 0
weighed q (e ∷ es) zero = 0
weighed q (e ∷ es) (suc i) = (if q 0 then e.amount else 0) + weighed (λ j. q (suc j)) es i

covered_is : (available : ℕ) (es : List Entry) → afforded_in_order available es ≡ chosen (turns available es) es
covered_is available [] = refl
covered_is available (e ∷ es) = here (nat_lt available e.amount) (covered_is available es) (covered_is (available - e.amount) es)
  where
    here : (b : Bool) → afforded_in_order available es ≡ chosen (turns available es) es → afforded_in_order (available - e.amount) es ≡ chosen (turns (available - e.amount) es) es →
        elim b [ true ↦ afforded_in_order available es | false ↦ e ∷ afforded_in_order (available - e.amount) es ]
        ≡ with_first (not b) e (chosen (λ i. elim b [ true ↦ turns available es i | false ↦ turns (available - e.amount) es i ]) es)
    here true passed taken = passed
    here false passed taken = ap (λ xs. e ∷ xs) taken

same_bool : (a b : Bool) → (a ≡ true → b ≡ true) → (b ≡ true → a ≡ true) → a ≡ b
same_bool true b f g = sym (f refl)
same_bool false false f g = refl
same_bool false true f g = g refl

fits_alone : (a v : ℕ) → not (nat_lt v a) ≡ nat_le (a + 0) v
fits_alone a v = here (nat_lt v a) refl
  where
    here : (b : Bool) → nat_lt v a ≡ b → not b ≡ nat_le (a + 0) v
    here true e = let l : v < a = ltb-true v a e in sym (lt-leb (a + 0) v (omega arith))
    here false e = let l = ltb-false v a e in sym (le-leb (a + 0) v (omega (arith, l)))

-- an amount fits in what is left exactly where it fits with what was taken
fits_less : (a w c v : ℕ) → c ≤ v → nat_le (a + w) (v - c) ≡ nat_le (a + (c + w)) v
fits_less a w c v h = same_bool (nat_le (a + w) (v - c)) (nat_le (a + (c + w)) v)
    (λ e. le-leb (a + (c + w)) v (let l : a + w ≤ v - c = leb-true (a + w) (v - c) e in omega arith))
    (λ e. le-leb (a + w) (v - c) (let l : a + (c + w) ≤ v = leb-true (a + (c + w)) v e in omega arith))

pub turn_is : (available : ℕ) (es : List Entry) (i : ℕ) (e : Entry) → slice_get es i ≡ Some e → turns available es i ≡ nat_le (e.amount + weighed (turns available es) es i) available
turn_is available [] i e g = cc
turn_is available (x ∷ es) zero e g = ap (λ (y : Entry). not (nat_lt available y.amount)) (some_entry x e g) ∙ fits_alone e.amount available
  where
    some_entry : (a b : Entry) → Some a ≡ Some b → a ≡ b
    some_entry a b p = cc
turn_is available (x ∷ es) (suc i) e g = here (nat_lt available x.amount) refl (turn_is available es i e g) (turn_is (available - x.amount) es i e g)
  where
    nothing_more : (w : ℕ) → w ≡ 0 + w
    nothing_more w = omega arith

    here : (b : Bool) → nat_lt available x.amount ≡ b → turns available es i ≡ nat_le (e.amount + weighed (turns available es) es i) available →
        turns (available - x.amount) es i ≡ nat_le (e.amount + weighed (turns (available - x.amount) es) es i) (available - x.amount) →
        elim b [ true ↦ turns available es i | false ↦ turns (available - x.amount) es i ]
        ≡ nat_le (e.amount + ((if not b then x.amount else 0) + weighed (λ j. elim b [ true ↦ turns available es j | false ↦ turns (available - x.amount) es j ]) es i)) available
    here true h passed taken = passed ∙ ap (λ w. nat_le (e.amount + w) available) (nothing_more (weighed (turns available es) es i))
    here false h passed taken =
        let l = ltb-false available x.amount h in
        taken ∙ fits_less e.amount (weighed (turns (available - x.amount) es) es i) x.amount available (omega (arith, l))

-- ---- by number

next_number : (s i : ℕ) → (s + 1) + i ≡ s + suc i
next_number s i = omega arith

first_number : (s : ℕ) → s ≡ s + 0
first_number s = omega arith

abbrev pub second : List (ℕ × Entry) → List Entry
second xs = map (λ (x : ℕ × Entry). x.1) xs

module _ (p : ℕ → Bool) where
  abbrev pub keep : List (ℕ × Entry) → List (ℕ × Entry)
  keep xs = filter (λ (x : ℕ × Entry). p x.0) xs

  by_number : (q : ℕ → Bool) (s : ℕ) (es : List Entry) → ((i : ℕ) → p (s + i) ≡ q i) → second (keep (enumerate_from s es)) ≡ chosen q es
  by_number q s [] h = refl
  by_number q s (e ∷ es) h = here (p s) (q 0) (ap p (first_number s) ∙ h 0) (by_number (λ i. q (suc i)) (s + 1) es (λ i. ap p (next_number s i) ∙ h (suc i)))
    where
      here : (b c : Bool) → b ≡ c → second (keep (enumerate_from (s + 1) es)) ≡ chosen (λ i. q (suc i)) es →
          second (cond b ((s, e) ∷ keep (enumerate_from (s + 1) es)) (keep (enumerate_from (s + 1) es))) ≡ with_first c e (chosen (λ i. q (suc i)) es)
      here true true same k = ap (λ xs. e ∷ xs) k
      here false false same k = k
      here true false same k = cc
      here false true same k = cc

  pub before_number : (q : ℕ → Bool) (s : ℕ) (es : List Entry) (i : ℕ) → ((j : ℕ) → p (s + j) ≡ q j) → sum_by amount_of (second (keep (take i (enumerate_from s es)))) ≡ weighed q es i
  before_number q s [] zero h = refl
  before_number q s [] (suc i) h = refl
  before_number q s (e ∷ es) zero h = refl
  before_number q s (e ∷ es) (suc i) h = here (p s) (q 0) (ap p (first_number s) ∙ h 0) (before_number (λ j. q (suc j)) (s + 1) es i (λ j. ap p (next_number s j) ∙ h (suc j)))
    where
      rest : List (ℕ × Entry)
      rest = keep (take i (enumerate_from (s + 1) es))

      here : (b c : Bool) → b ≡ c → sum_by amount_of (second rest) ≡ weighed (λ j. q (suc j)) es i →
          sum_by amount_of (second (cond b ((s, e) ∷ rest) rest)) ≡ (if c then e.amount else 0) + weighed (λ j. q (suc j)) es i
      here true true same k = let n : sum_by amount_of (e ∷ second rest) ≡ e.amount + sum_by amount_of (second rest) = sum_by-cons amount_of e (second rest) in omega arith
      here false false same k = omega arith
      here true false same k = cc
      here false true same k = cc

-- whether entry k is covered in its turn
abbrev pub numbered_turn : ℕ → List Entry → ℕ → Bool
numbered_turn available es zero = false
numbered_turn available es (suc i) = turns available es i

pub one_more : (i : ℕ) → 1 + i ≡ suc i
one_more i = omega arith

pub one_less : (i : ℕ) → suc i - 1 ≡ i
one_less i = omega arith

-- ---- the line

pub taken_moves : (kind : Kind) (day : Day) (J : History) (n k : ℕ) (code : Code) (moves : List Move) → is_in kind ≡ true → is_ok code ≡ true → Made kind day J n k code moves → moves ≡ moves_as (sort_of day n) day J n
taken_moves kinds.In day J n k code moves i o m = m.2 ∙ ap (intake_moves day J n) (sym m.1) ∙ here code o
  where
    here : (c : Code) → is_ok c ≡ true → intake_moves day J n c ≡ moves_as (sort_of day n) day J n
    here line_codes.Ok h = refl
    here _ h = cc
taken_moves _ day J n k code moves i o m = cc

of_d : (s : Sort) (day : Day) (J : History) (n : ℕ) → is_d s ≡ true → moves_as s day J n ≡ map (move_of day) (afforded_in_order (balance day J (technical_account day n)) (entries day n))
of_d BatchD day J n h = refl
of_d _ day J n h = cc

moves_in_turn : (day : Day) (J : History) (l : Line) → Made l.head.kind day J l.head.msg l.head.entry l.head.code l.moves → takes_well l ≡ true → is_d (sort_of day l.head.msg) ≡ true → MovesWhatIsAfforded day J l
moves_in_turn day J l m well d = record {
  is_moved = numbered_turn held es;
  moves = taken_moves l.head.kind day J l.head.msg l.head.entry l.head.code l.moves parts.0 parts.1 m
      ∙ of_d (sort_of day l.head.msg) day J l.head.msg d
      ∙ ap (map (move_of day)) (covered_is held es ∙ sym (by_number (numbered_turn held es) (turns held es) 1 es same));
  covered = covers;
}
  where
    held : ℕ
    held = balance day J (technical_account day l.head.msg)

    es : List Entry
    es = entries day l.head.msg

    parts : (is_in l.head.kind ≡ true) × (is_ok l.head.code ≡ true)
    parts = and_parts (is_in l.head.kind) (is_ok l.head.code) well

    same : (i : ℕ) → numbered_turn held es (1 + i) ≡ turns held es i
    same i = ap (numbered_turn held es) (one_more i)

    covers : (k : ℕ) (e : Entry) → entry_at day l.head.msg k ≡ Some e → numbered_turn held es k ≡ nat_le (e.amount + amount_before day l.head.msg (numbered_turn held es) k) held
    covers zero e g = cc
    covers (suc i) e g =
        turn_is held es i e g
        ∙ ap (λ w. nat_le (e.amount + w) held) (sym (before_number (numbered_turn held es) (turns held es) 1 es i same) ∙ ap (λ j. sum_by amount_of (second (keep (numbered_turn held es) (take j (enumerate_from 1 es))))) (sym (one_less i)))

pub batches_of_d_move_in_turn : (day : Day) (J : History) → IsLegal day J → BatchesOfDMoveInTurn day J
batches_of_d_move_in_turn day [] legal = tt
batches_of_d_move_in_turn day (l ∷ J) legal = (batches_of_d_move_in_turn day J legal.0, moves_in_turn day J l (made_facts day J l legal.1).1)
