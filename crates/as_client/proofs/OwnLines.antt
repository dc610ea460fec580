-- A party refuses no status of a legal journal, and has then on each of its accounts what the journal has there.
use Rattle.std.proofs.Common.{◌≡◌, ◌∙◌, ◌≤◌, ◌+◌, ◌-◌, ℕ, Bool, true, false, cond, List, [], ◌∷◌, ◌++◌, None, Ok, refl, sym, ap, subst, arith, append-nil}
use Rattle.std.specs.Prelude.{take}
use Rattle.std.specs.List.{flat_map, list_all}
use Rattle.cash_amounts.specs.declared.cents.TheConstants.{MAX_CENTS}
use Rattle.batch_records.specs.DayRecord.{Day}
use Rattle.batch_records.specs.Sound.{is_sound}
use Rattle.commit_journal.specs.Line.{Line, History}
use Rattle.machine.specs.Records.Setup.{opening, owner}
use Rattle.machine.specs.Telling.Balances.{balance, credited, credits, debited, debits}
use Rattle.machine.specs.Legal.{IsLegal, moves_in_order}
use Rattle.machine.specs.OtherLaws.{is_real}
use Rattle.settlement_laws.proofs.Balances.MovesAreReal.{moves_are_real}
use Rattle.settlement_laws.proofs.Base.Made.{made_facts}
use Rattle.settlement_laws.proofs.Balances.StaysInRange.{stays_in_range}
use Rattle.settlement_laws.proofs.Balances.MovesOfTheDay.{MovesInRange, line_in_range}
use Rattle.settlement_laws.proofs.Base.Sound.{subs_have_dca}
use Rattle.status_messages.specs.declared.status.Status.{Status}
use Rattle.status_messages.specs.declared.status.Status.TheVariants as status
use Rattle.status_messages.specs.Statuses.{account_name, all_statuses, move_statuses, place_after, statuses}
use Rattle.as_client.specs.Views.{brought_by, holding, is_addressed, taken_by, view_fault}
use Rattle.as_client.specs.ViewAnswers.{take_all}
use Rattle.as_client.specs.ViewLaws.{told}
use Rattle.as_client.proofs.OwnBalances.{Shows}
use Rattle.as_client.proofs.OwnMoves.{KeepsRange, Told, moves_told}
use Rattle.as_client.proofs.TurnStatuses.{AllTurns, IsTurn, line_parts}
use Rattle.as_client.proofs.Taking.{Passes, all_taken, onto, passes-append, taking, taking-append, taking_first}

-- ---- statuses that move nothing

turn_shows : (day : Day) (name : List ℕ) (s : Status) (ss : List Status) (came went : ℕ → ℕ) → IsTurn day s → Shows day name ss came went → Shows day name (onto name s ss) came went
unfolding brought_by taken_by
turn_shows day name (status.Turn place to turn msg from id entry reason) ss came went h shows = here (is_addressed name (status.Turn place to turn msg from id entry reason))
  where
    here : (b : Bool) → Shows day name (cond b (status.Turn place to turn msg from id entry reason ∷ ss) ss) came went
    here true a mine =
        let s = shows a mine in
        let b : brought_by ss (account_name day a) ≡ came a = s.0 in
        let t : taken_by ss (account_name day a) ≡ went a = s.1 in
        (omega (arith, b), omega (arith, t))
    here false a mine = shows a mine
turn_shows day name (status.Moved place to debit account amount) ss came went h shows = absurd h

turn_passes : (day : Day) (name : List ℕ) (s : Status) (ss : List Status) → IsTurn day s → view_fault day name ss s ≡ None
unfolding view_fault
turn_passes day name (status.Turn place to turn msg from id entry reason) ss h = refl
turn_passes day name (status.Moved place to debit account amount) ss h = absurd h

turns_told : (day : Day) (name : List ℕ) (xs ss : List Status) (came went : ℕ → ℕ) → AllTurns day xs → Shows day name ss came went → Told day name ss xs came went
unfolding taking Passes
turns_told day name [] ss came went h shows = record { passes = tt; shows = shows }
turns_told day name (x ∷ xs) ss came went h shows =
    let rest : Told day name (onto name x ss) xs came went = turns_told day name xs (onto name x ss) came went h.1 (turn_shows day name x ss came went h.0 shows) in
    record { passes = (λ mine. turn_passes day name x ss h.0, rest.passes); shows = rest.shows }

told_append : (day : Day) (name : List ℕ) (ss xs ys : List Status) (came went came' went' : ℕ → ℕ) → Told day name ss xs came went → Told day name (taking name ss xs) ys came' went' → Told day name ss (xs ++ ys) came' went'
told_append day name ss xs ys came went came' went' h k = record {
  passes = passes-append day name ss xs ys h.passes k.passes;
  shows = subst (λ zs. Shows day name zs came' went') (sym (taking-append name ss xs ys)) k.shows;
}

-- ---- a line

pub line_keeps : (day : Day) (J : History) (l : Line) → is_sound day ≡ true → IsLegal day (l ∷ J) → KeepsRange day (credited J) (debited J) l.moves
line_keeps day J l sound legal a i =
    let in_order : moves_in_order (l ∷ []) ≡ l.moves = append-nil l.moves in
    subst
    (λ ms. (debited J a + debits a (take i ms) ≤ (opening day a + credited J a) + credits a (take i ms)) × ((opening day a + credited J a) + credits a (take i ms) ≤ MAX_CENTS + (debited J a + debits a (take i ms))))
    in_order
    (stays_in_range day J (l ∷ []) sound legal a i)

line_told : (day : Day) (J : History) (l : Line) (name : List ℕ) (ss : List Status) → is_sound day ≡ true → IsLegal day (l ∷ J) → Shows day name ss (credited J) (debited J)
    → Told day name ss (statuses day J l) (credited (l ∷ J)) (debited (l ∷ J))
unfolding credited debited
line_told day J l name ss sound legal shows =
    let told_moves = moves_told day sound name (place_after J) l.moves ss (credited J) (debited J) range real (line_keeps day J l sound legal) shows in
    let parts = line_parts day J l in
    subst (λ xs. Told day name ss xs (λ a. credited J a + credits a l.moves) (λ a. debited J a + debits a l.moves)) (sym parts.is)
    (told_append day name ss moved parts.rest _ _ _ _ told_moves (turns_told day name parts.rest (taking name ss moved) _ _ parts.turns told_moves.shows))
  where
    moved : List Status
    moved = flat_map (move_statuses day (place_after J)) l.moves

    range : MovesInRange day l.moves
    range = line_in_range l.head.kind day J l.head.msg l.head.entry l.head.code l.moves (subs_have_dca day sound) legal.0 (made_facts day J l legal.1).1

    real : list_all is_real l.moves ≡ true
    real = (moves_are_real day (l ∷ J) sound legal).1

-- ---- a journal

pub journal_told : (day : Day) (J : History) (name : List ℕ) → is_sound day ≡ true → IsLegal day J → Told day name [] (all_statuses day J) (credited J) (debited J)
unfolding all_statuses credited debited brought_by taken_by taking Passes
journal_told day [] name sound legal = record { passes = tt; shows = λ a mine. (refl, refl) }
journal_told day (l ∷ J) name sound legal =
    let before = journal_told day J name sound legal.0 in
    told_append day name [] (all_statuses day J) (statuses day J l) (credited J) (debited J) (credited (l ∷ J)) (debited (l ∷ J)) before (line_told day J l name (taking name [] (all_statuses day J)) sound legal before.shows)

pub none_refused : (day : Day) (J : History) (name : List ℕ) → is_sound day ≡ true → IsLegal day J → take_all day name [] (all_statuses day J) ≡ Ok (told day J name)
none_refused day J name sound legal = all_taken day name [] (all_statuses day J) (journal_told day J name sound legal).passes ∙ ap Ok (taking_first name (all_statuses day J))

pub balances_agree : (day : Day) (J : History) (name : List ℕ) (a : ℕ) → is_sound day ≡ true → IsLegal day J → owner day a ≡ name → holding day (told day J name) a ≡ balance day J a
balances_agree day J name a sound legal mine =
    let s = (journal_told day J name sound legal).shows a mine in
    ap (λ ss. holding day ss a) (sym (taking_first name (all_statuses day J))) ∙ ap (λ c. (opening day a + c) - taken_by (taking name [] (all_statuses day J)) (account_name day a)) s.0 ∙ ap (λ d. (opening day a + credited J a) - d) s.1
