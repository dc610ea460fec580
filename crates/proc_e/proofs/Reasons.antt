-- For a batch of E the machine's reasons and conditions are those of bilateral entries.
use Rattle.std.proofs.Common.{◌≡◌, ℕ, zero, suc, Bool, true, false, ◌&&◌, not, List, [], ◌∷◌, Option, Some, None, is_some, is_none, refl, sym, ap, ◌∙◌}
use Rattle.std.specs.Prelude.{option_map}
use Rattle.std.proofs.lemmas.Bool.{false≢true}
use Rattle.cash_amounts.specs.Tests.{some_passes}
use Rattle.batch_records.specs.DayRecord.{Day}
use Rattle.batch_records.specs.declared.day.Entry.{Entry}
use Rattle.commit_journal.specs.declared.line.Want.TheVariants as wants
use Rattle.commit_journal.specs.declared.line.Code.{Code}
use Rattle.commit_journal.specs.declared.line.Code.TheVariants as line_codes
use Rattle.commit_journal.specs.declared.line.Head.{Head}
use Rattle.commit_journal.specs.declared.line.Kind.{Kind}
use Rattle.commit_journal.specs.declared.line.Move.{Move}
use Rattle.commit_journal.specs.declared.line.Kind.TheVariants as kinds
use Rattle.commit_journal.specs.Line.{History}
use Rattle.machine.specs.declared.answers.Why.{Why}
use Rattle.machine.specs.declared.answers.Why.TheVariants as whys
use Rattle.machine.specs.Words.{first_some, only_if, unless, when}
use Rattle.machine.specs.Records.Messages.{Sort, BatchE, sort_of, is_a, is_b, is_credit, is_debit, is_e, entry_at, part, debit_account}
use Rattle.machine.specs.Telling.History.{booked, covered, ended, taken}
use Rattle.machine.specs.Telling.Facts.{revoked}
use Rattle.machine.specs.Stages.Phases.{phase, is_open, is_booked, is_revoked_entry}
use Rattle.machine.specs.Stages.Pending.{item, first_unbooked_debit}
use Rattle.machine.specs.Making.Lines.{expiry_code, reversal, is_covered_part, is_free_part, line, line_of, made, may_book, moves_of_part}
use Rattle.machine.specs.Making.Reasons.{blocked, blocked_part, books, is_open_or_covered, other_phase, short, short_part, untaken, why_not_book, why_not_expire, why_waits}
use Rattle.settlement_laws.proofs.Wants.Answering.{free_rows, line_there, only_open, one_row}
use Rattle.settlement_laws.proofs.Base.PhaseLaws.{untaken_phase}
use Rattle.proc_e.specs.Reasons.{why_part_waits, why_not_pending}
use Rattle.machine.proofs.SortFacts.{e_is}
use Rattle.proc_e.proofs.Entries.{part-is, pending-is}

-- ---- Book: of the reasons those of A fall away

reasons_by : Day → History → ℕ → ℕ → Option ℕ → Sort → Option Entry → Bool → Option Why
reasons_by day J n k end s e passes = first_some (
    option_map whys.Over end
    ∷ unless (is_some e && books s k) whys.NoSuch
    ∷ untaken J n
    ∷ other_phase day J n passes
    ∷ option_map whys.Booked (booked J n k)
    ∷ option_map whys.Revoked (only_if (is_e s) (revoked day J n k))
    ∷ option_map whys.Covered (only_if (is_a s && is_debit day n k) (covered J n))
    ∷ option_map whys.Debits (only_if (is_a s && is_open (phase day J n) && is_credit day n k) (first_unbooked_debit day J n))
    ∷ blocked_part day J (item n k) e
    ∷ short_part day J n e
    ∷ [])

reasons-open : (day : Day) (J : History) (n k : ℕ) → why_not_book day J n k ≡ reasons_by day J n k (ended J) (sort_of day n) (part day n k) (is_open_or_covered (phase day J n))
unfolding why_not_book reasons_by
reasons-open day J n k = refl

reasons-over : (day : Day) (J : History) (n k place : ℕ) (s : Sort) (e : Option Entry) (passes : Bool) → reasons_by day J n k (Some place) s e passes ≡ Some (whys.Over place)
unfolding reasons_by
reasons-over day J n k place s e passes = refl

pub why_over : (day : Day) (J : History) (n k place : ℕ) → ended J ≡ Some place → why_not_book day J n k ≡ Some (whys.Over place)
why_over day J n k place h =
    reasons-open day J n k
    ∙ ap (λ o. reasons_by day J n k o (sort_of day n) (part day n k) (is_open_or_covered (phase day J n))) h
    ∙ reasons-over day J n k place (sort_of day n) (part day n k) (is_open_or_covered (phase day J n))

-- rows of reasons t, p, b, r before those of the debit account
entry_rows : (day : Day) (J : History) (n k : ℕ) (e : Entry) (t p b r : Option Why) →
    first_some (t ∷ p ∷ b ∷ r ∷ None ∷ None ∷ blocked day J (item n k) (debit_account day e) ∷ unless (is_covered_part day J n e) (short day J (debit_account day e)) ∷ [])
    ≡ first_some (t ∷ p ∷ b ∷ r ∷ why_waits day J (item n k) (debit_account day e) e.amount ∷ [])
unfolding why_waits
entry_rows day J n k e (Some w) p b r = refl
entry_rows day J n k e None (Some w) b r = refl
entry_rows day J n k e None None (Some w) r = refl
entry_rows day J n k e None None None (Some w) = refl
entry_rows day J n k e None None None None = one_row (first_some (blocked day J (item n k) (debit_account day e) ∷ unless (is_covered_part day J n e) (short day J (debit_account day e)) ∷ []))

reasons-e : (day : Day) (J : History) (n k : ℕ) → reasons_by day J n k None BatchE (entry_at day n k) (is_open (phase day J n)) ≡ why_not_pending day J n k
unfolding reasons_by why_not_pending
reasons-e day J n zero = refl
reasons-e day J n (suc k) = here (entry_at day n (suc k))
  where
    here : (o : Option Entry) →
        first_some (unless (is_some o && true) whys.NoSuch ∷ untaken J n ∷ other_phase day J n (is_open (phase day J n)) ∷ option_map whys.Booked (booked J n (suc k))
        ∷ option_map whys.Revoked (revoked day J n (suc k)) ∷ None ∷ None ∷ blocked_part day J (item n (suc k)) o ∷ short_part day J n o ∷ [])
        ≡ first_some (unless (is_some o) whys.NoSuch ∷ untaken J n ∷ other_phase day J n (is_open (phase day J n)) ∷ option_map whys.Booked (booked J n (suc k))
        ∷ option_map whys.Revoked (revoked day J n (suc k)) ∷ why_part_waits day J n (suc k) o ∷ [])
    here None = refl
    here (Some e) = entry_rows day J n (suc k) e (untaken J n) (other_phase day J n (is_open (phase day J n))) (option_map whys.Booked (booked J n (suc k))) (option_map whys.Revoked (revoked day J n (suc k)))

pub why-is : (day : Day) (J : History) (n k : ℕ) → is_e (sort_of day n) ≡ true → ended J ≡ None → why_not_book day J n k ≡ why_not_pending day J n k
why-is day J n k h going =
    reasons-open day J n k
    ∙ ap (λ o. reasons_by day J n k o (sort_of day n) (part day n k) (is_open_or_covered (phase day J n))) going
    ∙ ap (λ s. reasons_by day J n k None s (part day n k) (is_open_or_covered (phase day J n))) (e_is (sort_of day n) h)
    ∙ ap (λ e. reasons_by day J n k None BatchE e (is_open_or_covered (phase day J n))) (part-is day n k h)
    ∙ ap (reasons_by day J n k None BatchE (entry_at day n k)) (only_open day J n (ap is_a (e_is (sort_of day n) h)))
    ∙ reasons-e day J n k

-- ---- Book: it may be booked where there is no reason

book_rows : (t : Option ℕ) (o : Bool) (b r : Option ℕ) (w : Option Why) (y z : Why) → (is_none t ≡ true → o ≡ false) →
    (((true && o && not (is_some b)) && not (is_some r)) && true && is_none w)
    ≡ is_none (first_some (when (is_none t) y ∷ unless o z ∷ option_map whys.Booked b ∷ option_map whys.Revoked r ∷ w ∷ []))
book_rows None true b r w y z h = absurd (false≢true (sym (h refl)))
book_rows None false b r w y z h = refl
book_rows (Some i) false b r w y z h = refl
book_rows (Some i) true (Some p) r w y z h = refl
book_rows (Some i) true None (Some p) w y z h = refl
book_rows (Some i) true None None (Some x) y z h = refl
book_rows (Some i) true None None None y z h = refl

book-open : (day : Day) (J : History) (n k : ℕ) → is_e (sort_of day n) ≡ true → may_book day J n k
    ≡ ((is_some (entry_at day n k) && is_open (phase day J n) && not (is_booked J n k) && not (is_revoked_entry day J n k))
    && true && some_passes (λ e. is_free_part day J (item n k) e && is_covered_part day J n e) (entry_at day n k))
book-open day J n k h =
    let test : Option Entry → Bool = some_passes (λ (e : Entry). is_free_part day J (item n k) e && is_covered_part day J n e) in
    ap (λ b. b && not (is_b (sort_of day n)) && test (part day n k)) (pending-is day J n k h)
    ∙ ap (λ s. (is_some (entry_at day n k) && is_open (phase day J n) && not (is_booked J n k) && not (is_revoked_entry day J n k)) && not (is_b s) && test (part day n k)) (e_is (sort_of day n) h)
    ∙ ap (λ p. (is_some (entry_at day n k) && is_open (phase day J n) && not (is_booked J n k) && not (is_revoked_entry day J n k)) && true && test p) (part-is day n k h)

pub may_book-is : (day : Day) (J : History) (n k : ℕ) → is_e (sort_of day n) ≡ true → may_book day J n k ≡ is_none (why_not_pending day J n k)
unfolding why_not_pending
may_book-is day J n k h = book-open day J n k h ∙ here (entry_at day n k)
  where
    untaken_first : is_none (taken J n) ≡ true → is_open (phase day J n) ≡ false
    untaken_first t = ap is_open (untaken_phase day J n t)

    here : (e : Option Entry) → ((is_some e && is_open (phase day J n) && not (is_booked J n k) && not (is_revoked_entry day J n k))
        && true && some_passes (λ e. is_free_part day J (item n k) e && is_covered_part day J n e) e)
        ≡ is_none (first_some (unless (is_some e) whys.NoSuch ∷ untaken J n ∷ other_phase day J n (is_open (phase day J n)) ∷ option_map whys.Booked (booked J n k)
        ∷ option_map whys.Revoked (revoked day J n k) ∷ why_part_waits day J n k e ∷ []))
    here None = refl
    here (Some e) =
        ap (λ b. (true && is_open (phase day J n) && not (is_booked J n k) && not (is_revoked_entry day J n k)) && true && b) (free_rows day J (item n k) e)
        ∙ book_rows (taken J n) (is_open (phase day J n)) (booked J n k) (revoked day J n k) (why_waits day J (item n k) (debit_account day e) e.amount) _ _ untaken_first

-- ---- lines

pub book_made : (day : Day) (J : History) (n k : ℕ) → is_e (sort_of day n) ≡ true → made day J (wants.Book n k) ≡ line kinds.Book n k line_codes.Ok (moves_of_part day (entry_at day n k))
book_made day J n k h = ap (λ e. line kinds.Book n k line_codes.Ok (moves_of_part day e)) (part-is day n k h)

pub expire_made : (day : Day) (J : History) (n : ℕ) → is_e (sort_of day n) ≡ true → made day J (wants.Expire n) ≡ line kinds.Expire n 0 line_codes.Pe []
expire_made day J n h = ap (λ s. line kinds.Expire n 0 (expiry_code s day J n) (reversal s day J n)) (e_is (sort_of day n) h)

-- a line with this head and these moves
written : (kind : Kind) (n k : ℕ) (code : Code) (h : Head) (ms ns : List Move) → h ≡ record { kind = kind; msg = n; entry = k; code = code } → ns ≡ ms →
    line kind n k code ms ≡ record { head = h; moves = ns }
written kind n k code h ms ns e f = λ i. record { head = sym e i; moves = sym f i }

pub book_line-is : (day : Day) (J : History) (n k : ℕ) (h : Head) (moves : List Move) → is_e (sort_of day n) ≡ true → why_not_book day J n k ≡ None →
    h ≡ record { kind = kinds.Book; msg = n; entry = k; code = line_codes.Ok } → moves ≡ moves_of_part day (entry_at day n k) → line_of day J (wants.Book n k) ≡ Some (record { head = h; moves = moves })
book_line-is day J n k h moves e none head same =
    line_there day J (wants.Book n k) none ∙ ap Some (book_made day J n k e ∙ written kinds.Book n k line_codes.Ok h _ moves head same)

pub expire_line-is : (day : Day) (J : History) (n : ℕ) (h : Head) (moves : List Move) → is_e (sort_of day n) ≡ true → why_not_expire day J n ≡ None →
    h ≡ record { kind = kinds.Expire; msg = n; entry = 0; code = line_codes.Pe } → moves ≡ [] → line_of day J (wants.Expire n) ≡ Some (record { head = h; moves = moves })
expire_line-is day J n h moves e none head same =
    line_there day J (wants.Expire n) none ∙ ap Some (expire_made day J n e ∙ written kinds.Expire n 0 line_codes.Pe h [] moves head same)
