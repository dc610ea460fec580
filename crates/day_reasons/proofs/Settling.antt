-- The want that settles an item, by the sort of its message.
use Rattle.std.proofs.Common.{◌≡◌, ◌∙◌, ℕ, Bool, true, false, ◌||◌, List, [], ◌∷◌, ◌++◌, Option, Some, None, refl, sym, ap, subst}
use Rattle.std.specs.Prelude.{if◌then◌else◌, is_none, is_some, not}
use Rattle.std.specs.List.{join_with_byte}
use Rattle.std.proofs.lemmas.Bool.{false≢true}
use Rattle.batch_records.specs.DayRecord.{Day}
use Rattle.commit_journal.specs.declared.line.Want.{Want}
use Rattle.commit_journal.specs.declared.line.Want.TheVariants as wants
use Rattle.commit_journal.specs.Line.{History, Line}
use Rattle.machine.specs.declared.answers.Why.{Why}
use Rattle.machine.specs.Words.{is_empty, is_zero, when}
use Rattle.machine.specs.Records.Messages.{Sort, Missing, Pay, BatchA, BatchB, BatchC, BatchD, BatchE, Liquidity, Object, Confirm, Cycle, is_a, is_b, is_c, is_e, is_pay, sort_of}
use Rattle.machine.specs.Making.Lines.{line_of}
use Rattle.machine.specs.Making.Reasons.{books, why_of}
use Rattle.commit_journal.proofs.FieldLemmas.{some_is}
use Rattle.settlement_laws.proofs.Wants.ReasonsMatchLines.{complement}
use Rattle.day_reasons.specs.Told.{item_head, item_text, reason_line, want_line}
use Rattle.day_reasons.specs.Reasons.{reason_fields}
use Rattle.day_reasons.specs.Waits.{IsSettling, is_done, settling, settling_as, waiting_want}

pub of_payment : (s : Sort) (n k : ℕ) → is_pay s ≡ true → when (is_zero k) (wants.Book n k) ≡ settling_as s n k
of_payment Missing n k h = absurd (false≢true h)
of_payment Pay n k h = refl
of_payment BatchA n k h = absurd (false≢true h)
of_payment BatchB n k h = absurd (false≢true h)
of_payment BatchC n k h = absurd (false≢true h)
of_payment BatchD n k h = absurd (false≢true h)
of_payment BatchE n k h = absurd (false≢true h)
of_payment Liquidity n k h = absurd (false≢true h)
of_payment Object n k h = absurd (false≢true h)
of_payment Confirm n k h = absurd (false≢true h)
of_payment Cycle n k h = absurd (false≢true h)

pub of_whole : (s : Sort) (n k : ℕ) → is_b s ≡ true → when (is_zero k) (wants.All n) ≡ settling_as s n k
of_whole Missing n k h = absurd (false≢true h)
of_whole Pay n k h = absurd (false≢true h)
of_whole BatchA n k h = absurd (false≢true h)
of_whole BatchB n k h = refl
of_whole BatchC n k h = absurd (false≢true h)
of_whole BatchD n k h = absurd (false≢true h)
of_whole BatchE n k h = absurd (false≢true h)
of_whole Liquidity n k h = absurd (false≢true h)
of_whole Object n k h = absurd (false≢true h)
of_whole Confirm n k h = absurd (false≢true h)
of_whole Cycle n k h = absurd (false≢true h)

pub of_entries : (s : Sort) (n k : ℕ) → (is_a s || is_c s || is_e s) ≡ true → when (not (is_zero k)) (wants.Book n k) ≡ settling_as s n k
of_entries Missing n k h = absurd (false≢true h)
of_entries Pay n k h = absurd (false≢true h)
of_entries BatchA n k h = refl
of_entries BatchB n k h = absurd (false≢true h)
of_entries BatchC n k h = refl
of_entries BatchD n k h = absurd (false≢true h)
of_entries BatchE n k h = refl
of_entries Liquidity n k h = absurd (false≢true h)
of_entries Object n k h = absurd (false≢true h)
of_entries Confirm n k h = absurd (false≢true h)
of_entries Cycle n k h = absurd (false≢true h)

pub of_none : (s : Sort) (n k : ℕ) → is_pay s ≡ false → is_b s ≡ false → (is_a s || is_c s || is_e s) ≡ false → None ≡ settling_as s n k
of_none Missing n k p b e = refl
of_none Pay n k p b e = absurd (false≢true (sym p))
of_none BatchA n k p b e = absurd (false≢true (sym e))
of_none BatchB n k p b e = absurd (false≢true (sym b))
of_none BatchC n k p b e = absurd (false≢true (sym e))
of_none BatchD n k p b e = refl
of_none BatchE n k p b e = absurd (false≢true (sym e))
of_none Liquidity n k p b e = refl
of_none Object n k p b e = refl
of_none Confirm n k p b e = refl
of_none Cycle n k p b e = refl

-- ---- the want that settles an item is one of those

no_want : (s : Sort) (n k : ℕ) (want : Want) → None ≡ Some want → ⊥
no_want s n k want h = cc

module _ (day : Day) (n : ℕ) (want : Want) where
  -- by a sort that is known by an equation alone
  by_sort : (s : Sort) → sort_of day n ≡ s → (k : ℕ) → settling_as s n k ≡ Some want → IsSettling day want
  by_sort Pay e ℕ.zero h = subst (IsSettling day) (some_is _ _ h) (ap (λ z. books z 0) e)
  by_sort Pay e (ℕ.suc k) h = absurd (no_want Pay n k want h)
  by_sort BatchA e ℕ.zero h = absurd (no_want Pay n 0 want h)
  by_sort BatchA e (ℕ.suc k) h = subst (IsSettling day) (some_is _ _ h) (ap (λ z. books z (ℕ.suc k)) e)
  by_sort BatchB e ℕ.zero h = subst (IsSettling day) (some_is _ _ h) (ap is_b e)
  by_sort BatchB e (ℕ.suc k) h = absurd (no_want Pay n k want h)
  by_sort BatchC e ℕ.zero h = absurd (no_want Pay n 0 want h)
  by_sort BatchC e (ℕ.suc k) h = subst (IsSettling day) (some_is _ _ h) (ap (λ z. books z (ℕ.suc k)) e)
  by_sort BatchE e ℕ.zero h = absurd (no_want Pay n 0 want h)
  by_sort BatchE e (ℕ.suc k) h = subst (IsSettling day) (some_is _ _ h) (ap (λ z. books z (ℕ.suc k)) e)
  by_sort BatchD e k h = absurd (no_want Pay n k want h)
  by_sort Missing e k h = absurd (no_want Pay n k want h)
  by_sort Liquidity e k h = absurd (no_want Pay n k want h)
  by_sort Object e k h = absurd (no_want Pay n k want h)
  by_sort Confirm e k h = absurd (no_want Pay n k want h)
  by_sort Cycle e k h = absurd (no_want Pay n k want h)

  waiting_in : (done : Bool) (k : ℕ) → (if done then None else settling day n k) ≡ Some want → IsSettling day want
  waiting_in true k h = absurd (no_want Pay n k want h)
  waiting_in false k h = by_sort (sort_of day n) refl k h

  pub waiting_settles : (J : History) (k : ℕ) → waiting_want day J n k ≡ Some want → IsSettling day want
  waiting_settles J k h = waiting_in (is_done day J n k) k h

-- ---- what books an entry

pub is_e_else : (s : Sort) (k : ℕ) → books s k ≡ true → is_pay s ≡ false → is_a s ≡ false → is_c s ≡ false → is_e s ≡ true
is_e_else Missing k b p a c = absurd (false≢true b)
is_e_else Pay k b p a c = absurd (false≢true (sym p))
is_e_else BatchA k b p a c = absurd (false≢true (sym a))
is_e_else BatchB k b p a c = absurd (false≢true b)
is_e_else BatchC k b p a c = absurd (false≢true (sym c))
is_e_else BatchD k b p a c = absurd (false≢true b)
is_e_else BatchE k b p a c = refl
is_e_else Liquidity k b p a c = absurd (false≢true b)
is_e_else Object k b p a c = absurd (false≢true b)
is_e_else Confirm k b p a c = absurd (false≢true b)
is_e_else Cycle k b p a c = absurd (false≢true b)

-- a payment is booked as entry 0
pub books_whole : (s : Sort) (k : ℕ) → books s k ≡ true → is_pay s ≡ true → k ≡ 0
books_whole Pay ℕ.zero b p = refl
books_whole Pay (ℕ.suc k) b p = absurd (false≢true b)
books_whole Missing k b p = absurd (false≢true p)
books_whole BatchA k b p = absurd (false≢true p)
books_whole BatchB k b p = absurd (false≢true p)
books_whole BatchC k b p = absurd (false≢true p)
books_whole BatchD k b p = absurd (false≢true p)
books_whole BatchE k b p = absurd (false≢true p)
books_whole Liquidity k b p = absurd (false≢true p)
books_whole Object k b p = absurd (false≢true p)
books_whole Confirm k b p = absurd (false≢true p)
books_whole Cycle k b p = absurd (false≢true p)

-- what a test of a sort says of another day that is the same
pub tested : (test : Sort → Bool) (d day : Day) (n : ℕ) (b c : Bool) → b ≡ test (sort_of d n) → b ≡ c → d ≡ day → test (sort_of day n) ≡ c
tested test d day n b c is h e = subst (λ (x : Day). test (sort_of x n) ≡ c) e (sym is ∙ h)

-- ---- a reason is told exactly while there is no line

line_is_some : (front : List ℕ) → is_empty (front ++ (10 ∷ [])) ≡ false
line_is_some [] = refl
line_is_some (x ∷ xs) = refl

pub told_while_unmade : (day : Day) (J : History) (n k : ℕ) (want : Want) → waiting_want day J n k ≡ Some want → is_empty (item_text day J n k) ≡ is_some (line_of day J want)
unfolding item_text
told_while_unmade day J n k want e = ap (λ (o : Option Want). is_empty (want_line day J n k o)) e ∙ here (why_of day J want) (line_of day J want) (complement day J want)
  where
    here : (o : Option Why) (l : Option Line) → is_some o ≡ is_none l → is_empty (reason_line day J n k want o) ≡ is_some l
    here None None h = absurd (false≢true h)
    here None (Some l) h = refl
    here (Some why) None h = line_is_some (join_with_byte 59 (item_head n k ∷ reason_fields day J want why))
    here (Some why) (Some l) h = absurd (false≢true (sym h))
