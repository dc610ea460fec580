-- A Cover line stands where the answer is yes; of A the fund pays in it what isn't booked, which is never booked then, and of B for the debtors
-- that are short.
use Rattle.std.proofs.Common.{◌≡◌, ℕ, zero, suc, Bool, true, false, ◌&&◌, ◌||◌, not, List, [], ◌∷◌, ◌++◌, Option, Some, None, refl, sym, ap, ◌∙◌}
use Rattle.std.specs.Prelude.{◌<◌, if◌then◌else◌, is_some, nat_lt, map, slice_get, unwrap_or}
use Rattle.std.proofs.lemmas.Bool.{and_parts, false≢true, ltb-true}
use Rattle.std.proofs.lemmas.Option.{same_Some}
use Rattle.batch_records.specs.DayRecord.{Day}
use Rattle.batch_records.specs.declared.day.Entry.{Entry}
use Rattle.commit_journal.specs.declared.line.Move.{Move}
use Rattle.commit_journal.specs.declared.line.Code.{Code}
use Rattle.commit_journal.specs.declared.line.Kind.{Kind}
use Rattle.commit_journal.specs.declared.line.Kind.TheVariants as kinds
use Rattle.commit_journal.specs.Line.{History}
use Rattle.machine.specs.declared.answers.Phase.{Phase}
use Rattle.machine.specs.Records.Messages.{Sort, BatchA, BatchB, sort_of, is_a_or_b, is_a, is_b, is_credit, fund_of, debit_account, debit_entries, credit_entries, move_of}
use Rattle.machine.specs.Telling.History.{is_cover, covered, clock}
use Rattle.machine.specs.Telling.Facts.{answer}
use Rattle.machine.specs.Stages.Phases.{phase, is_open, is_covered, is_overdue, is_answered, is_booked}
use Rattle.machine.specs.Stages.Pending.{is_pending, pending_as, is_next_of_a}
use Rattle.machine.specs.Making.Lines.{may_ask, may_book, is_short_debtor, debit_entries_by, cover_of, covered_debit, cover_moves, is_answered_yes, fund_suffices}
use Rattle.machine.specs.Legal.{IsLegal}
use Rattle.machine.specs.Laws.{EachLine, PaysTheUnbooked, PaysForTheShort, PaysOnYes, BooksNothingPaid, AsksInTime, FundPaysOnYes}
use Rattle.settlement_laws.proofs.Base.Made.{Made, made_facts, made_ask, made_book}
use Rattle.settlement_laws.proofs.Base.PhaseFacts.{open_now}

is_yes : (o : Option Bool) → unwrap_or o false ≡ true → o ≡ Some true
is_yes None h = cc
is_yes (Some true) h = refl
is_yes (Some false) h = cc

get_mapped : (f : Entry → Move) (es : List Entry) (rest : List Move) (i : ℕ) (e : Entry) → slice_get es i ≡ Some e → slice_get (map f es ++ rest) i ≡ Some (f e)
get_mapped f [] rest i e h = cc
get_mapped f (x ∷ es) rest zero e h = ap (λ y. Some (f y)) (same_Some x e h)
get_mapped f (x ∷ es) rest (suc i) e h = get_mapped f es rest i e h

moves_of_a : (s : Sort) (day : Day) (J : History) (n : ℕ) → is_a s ≡ true → cover_moves s day J n ≡ map (cover_of day n) (debit_entries_by day n (λ k. not (is_booked J n k)))
moves_of_a BatchA day J n h = refl
moves_of_a _ day J n h = cc

moves_of_b : (s : Sort) (day : Day) (J : History) (n : ℕ) → is_b s ≡ true → cover_moves s day J n ≡ map (covered_debit day J n) (debit_entries day n) ++ map (move_of day) (credit_entries day n)
moves_of_b BatchB day J n h = refl
moves_of_b _ day J n h = cc

chosen_first : (b : Bool) (x y : Move) → b ≡ true → (if b then x else y) ≡ x
chosen_first true x y h = refl
chosen_first false x y h = cc

chosen_other : (b : Bool) (x y : Move) → b ≡ false → (if b then x else y) ≡ y
chosen_other false x y h = refl
chosen_other true x y h = cc

for_the_short : (day : Day) (J : History) (n : ℕ) (moves : List Move) → is_b (sort_of day n) ≡ true → moves ≡ cover_moves (sort_of day n) day J n → PaysForTheShort day J n moves
for_the_short day J n moves b e i x h =
    let at : slice_get moves i ≡ Some (covered_debit day J n x) =
    ap (λ ms. slice_get ms i) (e ∙ moves_of_b (sort_of day n) day J n b) ∙ get_mapped (covered_debit day J n) (debit_entries day n) (map (move_of day) (credit_entries day n)) i x h in (
      λ short. at ∙ ap Some (chosen_first (is_short_debtor day J n (debit_account day x)) (cover_of day n x) (move_of day x) short),
      λ enough. at ∙ ap Some (chosen_other (is_short_debtor day J n (debit_account day x)) (cover_of day n x) (move_of day x) enough),
    )

line_pays : (kind : Kind) (day : Day) (J : History) (n k : ℕ) (code : Code) (moves : List Move) → is_cover kind ≡ true → Made kind day J n k code moves →
    (answer day J n ≡ Some true) × (is_a (sort_of day n) ≡ true → PaysTheUnbooked day J n moves) × (is_b (sort_of day n) ≡ true → PaysForTheShort day J n moves)
    × (is_answered (phase day J n) ≡ true)
line_pays kinds.Cover day J n k code moves c m =
    let y : is_answered_yes day J n ≡ true = (and_parts (is_answered_yes day J n) (fund_suffices day J n) m.0).0 in (
      is_yes (answer day J n) (and_parts (is_a_or_b (sort_of day n) && is_answered (phase day J n)) (unwrap_or (answer day J n) false) y).1,
      λ a. m.2 ∙ moves_of_a (sort_of day n) day J n a,
      λ b. for_the_short day J n moves b m.2,
      (and_parts (is_a_or_b (sort_of day n)) (is_answered (phase day J n)) (and_parts _ (unwrap_or (answer day J n) false) y).0).1,
    )
line_pays _ day J n k code moves c m = cc

pays_on_yes : (day : Day) (J : History) → IsLegal day J → EachLine (PaysOnYes day) J
pays_on_yes day [] legal = tt
pays_on_yes day (l ∷ J) legal = (pays_on_yes day J legal.0, λ c. line_pays l.head.kind day J _ _ _ _ c (made_facts day J l legal.1).1)

-- ---- and books nothing that the fund has paid

of_covered : (opened next covered credit unbooked : Bool) → opened ≡ false → (opened && next || covered && credit && unbooked) ≡ true → credit ≡ true
of_covered true next covered credit unbooked o h = cc
of_covered false next covered true unbooked o h = refl
of_covered false next true false unbooked o h = cc
of_covered false next false false unbooked o h = cc

credit_pending : (s : Sort) (day : Day) (J : History) (n k : ℕ) (p : Phase) → is_a s ≡ true → is_open p ≡ false → pending_as s day J n k p ≡ true → is_credit day n k ≡ true
credit_pending BatchA day J n k p a o h = of_covered (is_open p) (is_next_of_a day J n k) (is_covered p) (is_credit day n k) (not (is_booked J n k)) o h
credit_pending _ day J n k p a o h = cc

books_credit : (day : Day) (J : History) (n k : ℕ) → may_book day J n k ≡ true → is_a (sort_of day n) ≡ true → is_some (covered J n) ≡ true → is_credit day n k ≡ true
unfolding is_pending
books_credit day J n k h a c = by (is_open (phase day J n)) refl
  where
    by : (b : Bool) → is_open (phase day J n) ≡ b → is_credit day n k ≡ true
    by true o = absurd (false≢true (sym (open_now day J n o).0 ∙ (λ i. a i && c i)))
    by false o = credit_pending (sort_of day n) day J n k (phase day J n) a o (and_parts (pending_as (sort_of day n) day J n k (phase day J n)) (not (is_b (sort_of day n))) (and_parts _ _ h).0).0

books_nothing_paid : (day : Day) (J : History) → IsLegal day J → EachLine (BooksNothingPaid day) J
books_nothing_paid day [] legal = tt
books_nothing_paid day (l ∷ J) legal =
    (books_nothing_paid day J legal.0, λ b a c. books_credit day J l.head.msg l.head.entry (made_book l.head.kind day J _ _ _ _ b (made_facts day J l legal.1).1) a c)

-- ---- and is asked in time

asked_in_time : (day : Day) (J : History) (n : ℕ) → may_ask day J n ≡ true →
    (is_a_or_b (sort_of day n) ≡ true) × (is_overdue (phase day J n) ≡ true) × (is_some (fund_of day n) ≡ true) × (clock J < 86400)
asked_in_time day J n h =
    let early = and_parts _ (nat_lt (clock J) 86400) h in
    let has = and_parts _ (is_some (fund_of day n)) early.0 in
    let due = and_parts (is_a_or_b (sort_of day n)) (is_overdue (phase day J n)) has.0 in
    (due.0, due.1, has.1, ltb-true (clock J) 86400 early.1)

asks_in_time : (day : Day) (J : History) → IsLegal day J → EachLine (AsksInTime day) J
asks_in_time day [] legal = tt
asks_in_time day (l ∷ J) legal = (asks_in_time day J legal.0, λ a. asked_in_time day J l.head.msg (made_ask l.head.kind day J _ _ _ _ a (made_facts day J l legal.1).1))

pub fund_pays_on_yes : (day : Day) (J : History) → IsLegal day J → FundPaysOnYes day J
fund_pays_on_yes day J legal = (pays_on_yes day J legal, books_nothing_paid day J legal, asks_in_time day J legal)
