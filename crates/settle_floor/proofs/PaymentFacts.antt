-- For a payment the machine's reasons and lines are those of payments.
use Rattle.std.proofs.Common.{◌≡◌, ℕ, Bool, true, false, ◌&&◌, ◌||◌, not, List, [], ◌∷◌, Option, Some, None, is_some, is_none, refl, sym, ap, ◌∙◌, subst}
use Rattle.std.specs.Prelude.{nat_eq, nat_lt, option_map, option_to_list, unwrap_or}
use Rattle.std.specs.List.{list_all, list_any}
use Rattle.std.specs.Option.{option_map_or}
use Rattle.std.proofs.lemmas.Bool.{false≢true, and_parts, eq-eqb, not-false}
use Rattle.cash_amounts.specs.Tests.{some_passes}
use Rattle.cash_amounts.specs.declared.records.Procedure.TheVariants.{A, B, C, D, E}
use Rattle.batch_records.specs.DayRecord.{Day}
use Rattle.batch_records.specs.declared.day.Message.{Message}
use Rattle.batch_records.specs.declared.day.Entry.{Entry}
use Rattle.batch_records.specs.declared.day.Body.{Body}
use Rattle.batch_records.specs.declared.day.Body.TheVariants as bodies
use Rattle.batch_records.specs.Repeats.{message_at}
use Rattle.commit_journal.specs.declared.line.Move.{Move}
use Rattle.commit_journal.specs.declared.line.Code.TheVariants as line_codes
use Rattle.commit_journal.specs.declared.line.Want.TheVariants as wants
use Rattle.commit_journal.specs.Line.{History}
use Rattle.machine.specs.declared.answers.Why.{Why}
use Rattle.machine.specs.declared.answers.Why.TheVariants as whys
use Rattle.machine.specs.Words.{first_some, only_if, unless, when, same_account}
use Rattle.machine.specs.Records.Setup.{account_named}
use Rattle.machine.specs.Records.Messages.{Sort, Missing, Pay, sort_of, sort_of_body, is_pay, is_a, is_a_or_b, is_b, is_e, is_credit, is_debit, part, debit_account, fund_of, move_of, sender, transfer, transfer_in}
use Rattle.machine.specs.Telling.History.{booked, clock, covered, is_accepted}
use Rattle.machine.specs.Telling.Facts.{revoked}
use Rattle.machine.specs.Stages.Phases.{phase, is_open, is_overdue}
use Rattle.machine.specs.Stages.Pending.{item, is_pending, pending_as, stands_on, debit_accounts_as, debit_account_of_part, first_unbooked_debit}
use Rattle.machine.specs.Making.Accounts.{accounts_of_part}
use Rattle.rule_book.specs.Answering.{has_accounts}
use Rattle.machine.specs.Stages.Intake.{accounts_are_wrong, payment_fits, transfer_moves}
use Rattle.machine.specs.Legal.{IsLegal}
use Rattle.machine.specs.Making.Lines.{expiry_code, is_covered_part, is_free_part, may_book, may_lapse, moves_of_part, reversal}
use Rattle.machine.specs.Making.Reasons.{blocked_part, books, is_open_or_covered, other_phase, over, short_part, untaken, why_not_book, why_not_expire, why_waits}
use Rattle.machine.proofs.SortFacts.{pay_is}
use Rattle.settlement_laws.proofs.Wants.Answering.{free_rows, only_open, pending-open, one_row, held_named}
use Rattle.settlement_laws.proofs.Base.PhaseLaws.{going_accepted, open_going}
use Rattle.settlement_laws.proofs.Base.IntakeFacts.{accepted_taken}
use Rattle.settle_floor.specs.Payments.{transfer_move, why_kept, why_unpaid, why_waits_as}

-- ---- a payment has a transfer

pays_in : (b : Body) → is_pay (sort_of_body b) ≡ true → is_some (transfer_in b) ≡ true
pays_in (bodies.Batch A info early till count sum es) h = absurd (false≢true h)
pays_in (bodies.Batch B info early till count sum es) h = absurd (false≢true h)
pays_in (bodies.Batch C info early till count sum es) h = absurd (false≢true h)
pays_in (bodies.Batch D info early till count sum es) h = absurd (false≢true h)
pays_in (bodies.Batch E info early till count sum es) h = absurd (false≢true h)
pays_in (bodies.Pay high debit credit amount) h = refl
pays_in (bodies.Liquidity debit credit amount) h = refl
pays_in (bodies.Object system batch) h = absurd (false≢true h)
pays_in (bodies.Confirm batch answer) h = absurd (false≢true h)
pays_in (bodies.Cycle start) h = absurd (false≢true h)

pays_of : (o : Option Message) → is_pay (option_map_or (λ (m : Message). sort_of_body m.body) o Missing) ≡ true → is_some (option_map_or (λ (m : Message). transfer_in m.body) o None) ≡ true
pays_of None h = absurd (false≢true h)
pays_of (Some m) h = pays_in m.body h

pays : (day : Day) (n : ℕ) → is_pay (sort_of day n) ≡ true → is_some (transfer day n) ≡ true
pays day n h = pays_of (message_at day n) h

-- ---- pending, and where it stands

pub pending-is : (day : Day) (J : History) (n : ℕ) → is_pay (sort_of day n) ≡ true → is_open (phase day J n) ≡ true → is_pending day J (item n 0) ≡ true
pending-is day J n h o = pending-open day J n 0 ∙ ap (λ s. pending_as s day J n 0 (phase day J n)) (pay_is (sort_of day n) h) ∙ o

stands_as : (day : Day) (o : Option Entry) (m : Move) → option_map (move_of day) o ≡ Some m → list_any (λ b. nat_eq b m.debit) (debit_account_of_part day o) ≡ true
stands_as day None m e = cc
stands_as day (Some x) m e =
    let same : move_of day x ≡ m = cc in
    ap (λ b. b || false) (eq-eqb (debit_account day x) m.debit (ap (λ (z : Move). z.debit) same))

pub stands-is : (day : Day) (n : ℕ) (m : Move) → is_pay (sort_of day n) ≡ true → transfer_move day n ≡ Some m → stands_on day m.debit (item n 0) ≡ true
stands-is day n m h e =
    ap (λ s. list_any (λ b. nat_eq b m.debit) (debit_accounts_as s day n 0)) (pay_is (sort_of day n) h)
    ∙ stands_as day (transfer day n) m e

-- ---- an open payment names accounts

held_as : (held : ℕ → Bool) (day : Day) (bank : List ℕ) (o : Option Entry) (m : Move) → some_passes (payment_fits day bank) o ≡ true → list_all held (accounts_of_part day o) ≡ true → option_map (move_of day) o ≡ Some m → held m.debit ≡ true
held_as held day bank None m fits all e = cc
held_as held day bank (Some x) m fits all e =
    let same : move_of day x ≡ m = cc in
    let parts = and_parts _ _ (and_parts _ (not (same_account (account_named day x.debit) (account_named day x.credit))) fits).0 in
    subst (λ a. held a ≡ true) (ap (λ (z : Move). z.debit) same) (held_named held _ (account_named day x.debit) (option_to_list (account_named day x.credit)) parts.0 all)

pub held-is : (held : ℕ → Bool) (day : Day) (J : History) (n : ℕ) (m : Move) → IsLegal day J → is_pay (sort_of day n) ≡ true → has_accounts held day (wants.Book n 0) ≡ true →
    transfer_move day n ≡ Some m → is_open (phase day J n) ≡ true → held m.debit ≡ true
held-is held day J n m legal h all e o =
    let accepted : is_accepted J n ≡ true = going_accepted day J n (open_going (phase day J n) o) in
    let right : accounts_are_wrong (sort_of day n) day n ≡ false = (accepted_taken day J n legal accepted).passed_then.accounts_right in
    held_as held day (sender day n) (transfer day n) m
    (not-false _ (subst (λ s. accounts_are_wrong s day n ≡ false) (pay_is (sort_of day n) h) right)) all e

-- ---- Book

reasons_by : Day → History → ℕ → Sort → Option Entry → Bool → Option Why
reasons_by day J n s e passes = first_some (
    over J
    ∷ unless (is_some e && books s 0) whys.NoSuch
    ∷ untaken J n
    ∷ other_phase day J n passes
    ∷ option_map whys.Booked (booked J n 0)
    ∷ option_map whys.Revoked (only_if (is_e s) (revoked day J n 0))
    ∷ option_map whys.Covered (only_if (is_a s && is_debit day n 0) (covered J n))
    ∷ option_map whys.Debits (only_if (is_a s && is_open (phase day J n) && is_credit day n 0) (first_unbooked_debit day J n))
    ∷ blocked_part day J (item n 0) e
    ∷ short_part day J n e
    ∷ [])

reasons-open : (day : Day) (J : History) (n : ℕ) → why_not_book day J n 0 ≡ reasons_by day J n (sort_of day n) (transfer day n) (is_open_or_covered (phase day J n))
unfolding why_not_book reasons_by
reasons-open day J n = refl

-- the rows with this end, and these reasons of the message
rows : (o t p b x y : Option Why) → first_some (o ∷ None ∷ t ∷ p ∷ b ∷ None ∷ None ∷ None ∷ x ∷ y ∷ []) ≡ first_some (o ∷ t ∷ p ∷ b ∷ first_some (x ∷ y ∷ []) ∷ [])
rows (Some w) t p b x y = refl
rows None (Some w) p b x y = refl
rows None None (Some w) b x y = refl
rows None None None (Some w) x y = refl
rows None None None None x y = one_row (first_some (x ∷ y ∷ []))

reasons-pay : (day : Day) (J : History) (n : ℕ) (e : Option Entry) → transfer day n ≡ e → is_some e ≡ true → reasons_by day J n Pay e (is_open (phase day J n)) ≡ why_unpaid day J n
unfolding reasons_by why_unpaid why_waits
reasons-pay day J n None same there = absurd (false≢true there)
reasons-pay day J n (Some e) same there =
    rows (over J) (untaken J n) (other_phase day J n (is_open (phase day J n))) (option_map whys.Booked (booked J n 0)) (blocked_part day J (item n 0) (Some e)) (short_part day J n (Some e))
    ∙ ap (λ o. first_some (over J ∷ untaken J n ∷ other_phase day J n (is_open (phase day J n)) ∷ option_map whys.Booked (booked J n 0) ∷ why_waits_as day J n (option_map (move_of day) o) ∷ [])) (sym same)

pub book-why : (day : Day) (J : History) (n : ℕ) → is_pay (sort_of day n) ≡ true → why_not_book day J n 0 ≡ why_unpaid day J n
book-why day J n h =
    reasons-open day J n
    ∙ ap (λ s. reasons_by day J n s (transfer day n) (is_open_or_covered (phase day J n))) (pay_is (sort_of day n) h)
    ∙ ap (reasons_by day J n Pay (transfer day n)) (only_open day J n (ap is_a (pay_is (sort_of day n) h)))
    ∙ reasons-pay day J n (transfer day n) refl (pays day n h)

pub transfer_moves_are : (day : Day) (n : ℕ) → option_to_list (transfer_move day n) ≡ transfer_moves day (transfer day n)
transfer_moves_are day n = here (transfer day n)
  where
    here : (o : Option Entry) → option_to_list (option_map (move_of day) o) ≡ transfer_moves day o
    here None = refl
    here (Some e) = refl

pub moves-is : (day : Day) (n : ℕ) → option_to_list (transfer_move day n) ≡ moves_of_part day (part day n 0)
moves-is day n = here (transfer day n)
  where
    here : (o : Option Entry) → option_to_list (option_map (move_of day) o) ≡ moves_of_part day o
    here None = refl
    here (Some e) = refl

-- ---- Expire: nobody is asked, and nothing is given back

kept_by : Day → History → ℕ → Sort → Option Why
kept_by day J n s = first_some (
    over J
    ∷ unless (may_lapse s) whys.NoSuch
    ∷ untaken J n
    ∷ other_phase day J n (is_overdue (phase day J n))
    ∷ when (is_a_or_b s && is_overdue (phase day J n) && is_some (fund_of day n) && nat_lt (clock J) 86400) (whys.Fund (unwrap_or (fund_of day n) 0))
    ∷ [])

kept-open : (day : Day) (J : History) (n : ℕ) → why_not_expire day J n ≡ kept_by day J n (sort_of day n)
unfolding why_not_expire kept_by
kept-open day J n = refl

kept-pay : (day : Day) (J : History) (n : ℕ) → kept_by day J n Pay ≡ why_kept day J n
unfolding kept_by why_kept
kept-pay day J n = here (over J) (untaken J n) (other_phase day J n (is_overdue (phase day J n)))
  where
    here : (o t p : Option Why) → first_some (o ∷ None ∷ t ∷ p ∷ None ∷ []) ≡ first_some (o ∷ t ∷ p ∷ [])
    here (Some w) t p = refl
    here None (Some w) p = refl
    here None None (Some w) = refl
    here None None None = refl

pub expire-why : (day : Day) (J : History) (n : ℕ) → is_pay (sort_of day n) ≡ true → why_not_expire day J n ≡ why_kept day J n
expire-why day J n h = kept-open day J n ∙ ap (kept_by day J n) (pay_is (sort_of day n) h) ∙ kept-pay day J n

pub expire-code : (day : Day) (J : History) (n : ℕ) → is_pay (sort_of day n) ≡ true → line_codes.Ed ≡ expiry_code (sort_of day n) day J n
expire-code day J n h = sym (ap (λ s. expiry_code s day J n) (pay_is (sort_of day n) h))

pub expire-moves : (day : Day) (J : History) (n : ℕ) → is_pay (sort_of day n) ≡ true → [] ≡ reversal (sort_of day n) day J n
expire-moves day J n h = sym (ap (λ s. reversal s day J n) (pay_is (sort_of day n) h))

-- ---- what is left of a payment

book-open : (day : Day) (J : History) (n : ℕ) → is_pay (sort_of day n) ≡ true → may_book day J n 0
    ≡ (is_open (phase day J n) && true && some_passes (λ e. is_free_part day J (item n 0) e && is_covered_part day J n e) (transfer day n))
book-open day J n h =
    let test : Bool = some_passes (λ (e : Entry). is_free_part day J (item n 0) e && is_covered_part day J n e) (transfer day n) in
    ap (λ b. b && not (is_b (sort_of day n)) && test) (pending-open day J n 0)
    ∙ ap (λ s. pending_as s day J n 0 (phase day J n) && not (is_b s) && test) (pay_is (sort_of day n) h)

free_of : (day : Day) (J : History) (n : ℕ) (o : Option Entry) (m : Move) → option_map (move_of day) o ≡ Some m →
    some_passes (λ (e : Entry). is_free_part day J (item n 0) e && is_covered_part day J n e) o ≡ is_none (why_waits day J (item n 0) m.debit m.amount)
free_of day J n None m h = cc
free_of day J n (Some e) m h =
    let same : move_of day e ≡ m = cc in
    free_rows day J (item n 0) e ∙ ap (λ (z : Move). is_none (why_waits day J (item n 0) z.debit z.amount)) same

pub may-book : (day : Day) (J : History) (n : ℕ) (m : Move) → is_pay (sort_of day n) ≡ true → is_open (phase day J n) ≡ true → transfer_move day n ≡ Some m → may_book day J n 0 ≡ is_none (why_waits day J (item n 0) m.debit m.amount)
may-book day J n m h o e =
    book-open day J n h
    ∙ ap (λ b. b && true && some_passes (λ (x : Entry). is_free_part day J (item n 0) x && is_covered_part day J n x) (transfer day n)) o
    ∙ free_of day J n (transfer day n) m e

pub may-book-not : (day : Day) (J : History) (n : ℕ) → is_pay (sort_of day n) ≡ true → is_open (phase day J n) ≡ false → may_book day J n 0 ≡ false
may-book-not day J n h o =
    book-open day J n h
    ∙ ap (λ b. b && true && some_passes (λ (x : Entry). is_free_part day J (item n 0) x && is_covered_part day J n x) (transfer day n)) o
