-- Of a batch of procedure C: the reasons and lines of its wants, and which of its entries are pending.
use Rattle.std.proofs.Common.{◌≡◌, ℕ, zero, suc, Bool, true, false, not, ◌&&◌, List, [], ◌∷◌, Option, Some, None, refl, sym, ap, ◌∙◌, subst}
use Rattle.std.specs.Prelude.{is_some, is_none, nat_eq, option_map}
use Rattle.std.specs.List.{find, list_any}
use Rattle.std.proofs.Math.Bool.{and-true}
use Rattle.std.proofs.lemmas.Bool.{and_from, or_left, eq-eqb}
use Rattle.batch_records.specs.DayRecord.{Day}
use Rattle.batch_records.specs.declared.day.Entry.{Entry}
use Rattle.commit_journal.specs.declared.line.Code.TheVariants as line_codes
use Rattle.commit_journal.specs.declared.line.Kind.TheVariants as kinds
use Rattle.commit_journal.specs.declared.line.Want.TheVariants as wants
use Rattle.commit_journal.specs.Line.{History}
use Rattle.machine.specs.declared.answers.Why.{Why}
use Rattle.machine.specs.declared.answers.Why.TheVariants as whys
use Rattle.machine.specs.Words.{first_some, some_passes, only_if, unless, when}
use Rattle.machine.specs.Records.Messages.{Sort, BatchC, sort_of, is_a, is_b, is_c, is_e, is_debit, is_credit, debit_account, entry_at, fund_account, item_numbers, part, transfer}
use Rattle.machine.specs.Telling.History.{booked, covered, clock}
use Rattle.machine.specs.Telling.Facts.{revoked}
use Rattle.machine.specs.Stages.Phases.{phase, is_booked, is_open, is_overdue}
use Rattle.machine.specs.Stages.Pending.{item, is_pending, pending_as, stands_on, debit_accounts_as, debit_account_of_part, first_unbooked_debit}
use Rattle.machine.specs.Making.Lines.{line, line_of, may_ask, may_expire, may_lapse, may_book, is_covered_part, is_free_part, moves_of_part, expiry_code, reversal}
use Rattle.machine.specs.Making.Reasons.{over, untaken, other_phase, books, is_open_or_covered, blocked_part, short_part, why_not_book, why_not_expire, why_waits}
use Rattle.machine.specs.Orders.Hints.{unfinished}
use Rattle.settlement_laws.proofs.Wants.Answering.{free_rows, line_there, only_open, not_whole}
use Rattle.proc_c.specs.Reasons.{why_not_book_c, may_book_c, next_want}
use Rattle.machine.proofs.SortFacts.{c_is}

-- ---- the reasons of Book

why_as : Sort → Bool → Day → History → ℕ → ℕ → Option Why
why_as s passes day J n k = first_some (
    over J
    ∷ unless (is_some (part day n k) && books s k) whys.NoSuch
    ∷ untaken J n
    ∷ other_phase day J n passes
    ∷ option_map whys.Booked (booked J n k)
    ∷ option_map whys.Revoked (only_if (is_e s) (revoked day J n k))
    ∷ option_map whys.Covered (only_if (is_a s && is_debit day n k) (covered J n))
    ∷ option_map whys.Debits (only_if (is_a s && is_open (phase day J n) && is_credit day n k) (first_unbooked_debit day J n))
    ∷ blocked_part day J (item n k) (part day n k)
    ∷ short_part day J n (part day n k)
    ∷ [])

opened : (day : Day) (J : History) (n k : ℕ) → why_not_book day J n k ≡ why_as (sort_of day n) (is_open_or_covered (phase day J n)) day J n k
unfolding why_not_book why_as
opened day J n k = refl

no_such : (a : Option Why) (b : Bool) (w : Why) (xs ys : List (Option Why)) → first_some (a ∷ unless (b && false) w ∷ xs) ≡ first_some (a ∷ Some w ∷ ys)
no_such None true w xs ys = refl
no_such None false w xs ys = refl
no_such (Some x) b w xs ys = refl

left_out : (a b c d e : Option Why) (rest : List (Option Why)) → first_some (a ∷ b ∷ c ∷ d ∷ e ∷ None ∷ None ∷ None ∷ rest) ≡ first_some (a ∷ b ∷ c ∷ d ∷ e ∷ rest)
left_out None None None None None rest = refl
left_out None None None None (Some x) rest = refl
left_out None None None (Some x) e rest = refl
left_out None None (Some x) d e rest = refl
left_out None (Some x) c d e rest = refl
left_out (Some x) b c d e rest = refl

at_c : (day : Day) (J : History) (n k : ℕ) → why_as BatchC (is_open (phase day J n)) day J n k ≡ why_not_book_c day J n k
unfolding why_as why_not_book_c
at_c day J n zero = no_such (over J) (is_some (transfer day n)) whys.NoSuch _ _
at_c day J n (suc k) =
    left_out (over J) (unless (is_some (entry_at day n (suc k)) && true) whys.NoSuch) (untaken J n) (other_phase day J n (is_open (phase day J n))) (option_map whys.Booked (booked J n (suc k))) (blocked_part day J (item n (suc k)) (entry_at day n (suc k)) ∷ short_part day J n (entry_at day n (suc k)) ∷ [])
    ∙ ap (λ b. first_some (over J ∷ unless b whys.NoSuch ∷ untaken J n ∷ other_phase day J n (is_open (phase day J n)) ∷ option_map whys.Booked (booked J n (suc k)) ∷ blocked_part day J (item n (suc k)) (entry_at day n (suc k)) ∷ short_part day J n (entry_at day n (suc k)) ∷ [])) (and-true (is_some (entry_at day n (suc k))))

pub why_book_is : (day : Day) (J : History) (n k : ℕ) → is_c (sort_of day n) ≡ true → why_not_book day J n k ≡ why_not_book_c day J n k
why_book_is day J n k c =
    opened day J n k
    ∙ ap (λ s. why_as s (is_open_or_covered (phase day J n)) day J n k) (c_is (sort_of day n) c)
    ∙ ap (λ b. why_as BatchC b day J n k) (only_open day J n (ap is_a (c_is (sort_of day n) c)))
    ∙ at_c day J n k

-- ---- the lines

no_entry : (a : Option Why) (xs : List (Option Why)) (w : Why) → first_some (a ∷ Some w ∷ xs) ≡ None → ⊥
no_entry None xs w h = cc
no_entry (Some x) xs w h = cc

never_zero : (day : Day) (J : History) (n : ℕ) → why_not_book_c day J n 0 ≡ None → ⊥
unfolding why_not_book_c
never_zero day J n h = no_entry (over J) _ whys.NoSuch h

pub book_line_is : (day : Day) (J : History) (n k : ℕ) → is_c (sort_of day n) ≡ true → why_not_book_c day J n k ≡ None →
    line_of day J (wants.Book n k) ≡ Some (line kinds.Book n k line_codes.Ok (moves_of_part day (entry_at day n k)))
book_line_is day J n zero c h = absurd (never_zero day J n h)
book_line_is day J n (suc k) c h = line_there day J (wants.Book n (suc k)) (why_book_is day J n (suc k) c ∙ h)

pub expire_line_is : (day : Day) (J : History) (n : ℕ) → is_c (sort_of day n) ≡ true → why_not_expire day J n ≡ None →
    line_of day J (wants.Expire n) ≡ Some (line kinds.Expire n 0 (expiry_code BatchC day J n) [])
expire_line_is day J n c h =
    line_there day J (wants.Expire n) h
    ∙ ap (λ s. Some (line kinds.Expire n 0 (expiry_code s day J n) (reversal s day J n))) (c_is (sort_of day n) c)

-- ---- pending entries

pub part_is : (day : Day) (n k : ℕ) (e : Entry) → entry_at day n k ≡ Some e → part day n k ≡ Some e
part_is day n zero e h = cc
part_is day n (suc k) e h = h

pub pending_is : (day : Day) (J : History) (n k : ℕ) (e : Entry) → is_c (sort_of day n) ≡ true → entry_at day n k ≡ Some e → is_open (phase day J n) ≡ true → booked J n k ≡ None → is_pending day J (item n k) ≡ true
unfolding is_pending
pending_is day J n k e c h o b =
    subst (λ s. pending_as s day J n k (phase day J n) ≡ true) (sym (c_is (sort_of day n) c))
    (and_from _ _ (and_from _ _ (ap is_some h) o) (ap (λ x. not (is_some x)) b))

pub stands_is : (day : Day) (n k : ℕ) (e : Entry) → is_c (sort_of day n) ≡ true → entry_at day n k ≡ Some e → stands_on day (debit_account day e) (item n k) ≡ true
stands_is day n k e c h =
    subst (λ s. list_any (λ b. nat_eq b (debit_account day e)) (debit_accounts_as s day n k) ≡ true) (sym (c_is (sort_of day n) c))
    (subst (λ o. list_any (λ b. nat_eq b (debit_account day e)) (debit_account_of_part day o) ≡ true) (sym (part_is day n k e h)) (or_left (nat_eq (debit_account day e) (debit_account day e)) false (eq-eqb _ _ refl)))

-- ---- what may be booked

may_book_as : Sort → Day → History → ℕ → ℕ → Bool
may_book_as s day J n k =
    pending_as s day J n k (phase day J n) && not (is_b s)
    && some_passes (λ e. is_free_part day J (item n k) e && is_covered_part day J n e) (part day n k)

may_book_opened : (day : Day) (J : History) (n k : ℕ) → may_book day J n k ≡ may_book_as (sort_of day n) day J n k
unfolding may_book_as is_pending
may_book_opened day J n k = refl

three_tests : (o b f w : Bool) → w ≡ f → ((o && b) && true && f) ≡ (o && b && w)
three_tests true true f w h = sym h
three_tests true false f w h = refl
three_tests false b f w h = refl

may_book_at_c : (day : Day) (J : History) (n k : ℕ) → may_book_as BatchC day J n k ≡ may_book_c day J n k
unfolding may_book_as may_book_c
may_book_at_c day J n zero = refl
may_book_at_c day J n (suc k) = here (entry_at day n (suc k))
  where
    here : (o : Option Entry) →
        ((is_some o && is_open (phase day J n) && not (is_booked J n (suc k))) && true && some_passes (λ e. is_free_part day J (item n (suc k)) e && is_covered_part day J n e) o)
        ≡ some_passes (λ e. is_open (phase day J n) && not (is_booked J n (suc k)) && is_none (why_waits day J (item n (suc k)) (debit_account day e) e.amount)) o
    here None = refl
    here (Some e) = three_tests (is_open (phase day J n)) (not (is_booked J n (suc k))) _ (is_none (why_waits day J (item n (suc k)) (debit_account day e) e.amount)) (sym (free_rows day J (item n (suc k)) e))

pub may_book_is : (day : Day) (J : History) (n k : ℕ) → is_c (sort_of day n) ≡ true → may_book day J n k ≡ may_book_c day J n k
may_book_is day J n k c = may_book_opened day J n k ∙ ap (λ s. may_book_as s day J n k) (c_is (sort_of day n) c) ∙ may_book_at_c day J n k

-- ---- what is unfinished

pub unfinished_is : (day : Day) (J : History) (n : ℕ) → is_c (sort_of day n) ≡ true → unfinished day J n ≡ next_want day J n (find (may_book day J n) (item_numbers day n))
unfinished_is day J n c =
    ap (λ b. first_some (option_map (wants.Book n) (find (may_book day J n) (item_numbers day n)) ∷ when b (wants.All n) ∷ when (may_expire day J n) (wants.Expire n) ∷ [])) (not_whole day J n (ap is_b (c_is (sort_of day n) c)))
    ∙ here (find (may_book day J n) (item_numbers day n)) (may_expire day J n) refl
  where
    here : (o : Option ℕ) (b : Bool) → may_expire day J n ≡ b → first_some (option_map (wants.Book n) o ∷ None ∷ when b (wants.Expire n) ∷ []) ≡ next_want day J n o
    here (Some k) b q = refl
    here None true q = ap (λ b. when b (wants.Expire n)) (sym q)
    here None false q = ap (λ b. when b (wants.Expire n)) (sym q)

-- ---- what ends is overdue

last_test : (a b c d : Option Why) (o : Bool) (w : Why) → first_some (a ∷ b ∷ c ∷ unless o w ∷ d ∷ []) ≡ None → o ≡ true
last_test None None None d true w h = refl
last_test None None None d false w h = cc
last_test None None (Some x) d o w h = cc
last_test None (Some x) c d o w h = cc
last_test (Some x) b c d o w h = cc

pub expires_overdue : (day : Day) (J : History) (n : ℕ) → why_not_expire day J n ≡ None → is_overdue (phase day J n) ≡ true
unfolding why_not_expire
expires_overdue day J n h =
    last_test (over J) (unless (may_lapse (sort_of day n)) whys.NoSuch) (untaken J n) (when (may_ask day J n) (whys.Fund (fund_account day n))) (is_overdue (phase day J n)) (whys.Phase (phase day J n) (clock J)) h
