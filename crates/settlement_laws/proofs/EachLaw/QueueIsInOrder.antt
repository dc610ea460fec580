-- A Book or All line stands where its item is pending, and nothing stands before it on any account that it stands on.
use Rattle.std.proofs.Common.{◌≡◌, ℕ, Bool, true, false, ◌&&◌, ◌||◌, not, List, [], ◌∷◌, Option, Some, None, refl, sym, ap, ◌∙◌, subst, inl, inr}
use Rattle.std.specs.Prelude.{nat_eq}
use Rattle.std.specs.List.{list_all, list_any}
use Rattle.std.proofs.lemmas.Bool.{and_parts, or_cases, not-true, eqb-true}
use Rattle.batch_records.specs.DayRecord.{Day}
use Rattle.batch_records.specs.declared.day.Entry.{Entry}
use Rattle.commit_journal.specs.declared.line.Move.{Move}
use Rattle.commit_journal.specs.declared.line.Code.{Code}
use Rattle.commit_journal.specs.declared.line.Kind.{Kind}
use Rattle.commit_journal.specs.declared.line.Kind.TheVariants as kinds
use Rattle.commit_journal.specs.Line.{History}
use Rattle.machine.specs.Words.{some_passes}
use Rattle.machine.specs.Records.Messages.{Sort, BatchB, sort_of, is_b, part, debit_account}
use Rattle.machine.specs.Telling.History.{is_book, is_all}
use Rattle.machine.specs.Stages.Pending.{item, is_pending, is_blocked, debtors, debit_account_of_part, debit_accounts_as}
use Rattle.machine.specs.Making.Lines.{is_free_part, is_covered_part, is_short_debtor, may_book, may_settle_whole}
use Rattle.machine.specs.Legal.{IsLegal}
use Rattle.machine.specs.Laws.{IsUnblocked, QueueIsInOrder}
use Rattle.settlement_laws.proofs.Base.Made.{Made, made_facts}

abbrev is_in_list : ℕ → List ℕ → Bool
is_in_list a xs = list_any (λ b. nat_eq b a) xs

among : (p : ℕ → Bool) (a : ℕ) (xs : List ℕ) → list_all p xs ≡ true → is_in_list a xs ≡ true → p a ≡ true
among p a [] h s = cc
among p a (x ∷ xs) h s =
    let b = and_parts (p x) (list_all p xs) h in
    elim (or_cases (nat_eq x a) (is_in_list a xs) s) [
      | inl here ↦ subst (λ y. p y ≡ true) (eqb-true x a here) b.0
      | inr later ↦ among p a xs b.1 later
    ]

-- ---- the accounts that an item stands on

of_part : (s : Sort) (day : Day) (n k : ℕ) → is_b s ≡ false → debit_accounts_as s day n k ≡ debit_account_of_part day (part day n k)
of_part BatchB day n k h = cc
of_part _ day n k h = refl

of_debtors : (s : Sort) (day : Day) (n k : ℕ) → is_b s ≡ true → debit_accounts_as s day n k ≡ debtors day n
of_debtors BatchB day n k h = refl
of_debtors _ day n k h = cc

-- ---- each line

part_unblocked : (day : Day) (J : History) (n k a : ℕ) (o : Option Entry) → some_passes (λ e. is_free_part day J (item n k) e && is_covered_part day J n e) o ≡ true → is_in_list a (debit_account_of_part day o) ≡ true → is_blocked day J (item n k) a ≡ false
part_unblocked day J n k a None h s = cc
part_unblocked day J n k a (Some e) h s =
    let f = (and_parts (is_free_part day J (item n k) e) (is_covered_part day J n e) h).0 in
    not-true (is_blocked day J (item n k) a) (among (λ b. not (is_blocked day J (item n k) b)) a (debit_account day e ∷ []) (one (not (is_blocked day J (item n k) (debit_account day e))) f) s)
  where
    one : (b : Bool) → b ≡ true → (b && true) ≡ true
    one true h = refl
    one false h = cc

book_unblocked : (day : Day) (J : History) (n k : ℕ) → may_book day J n k ≡ true → IsUnblocked day J n k
book_unblocked day J n k h a s =
    let b = and_parts (is_pending day J (item n k) && not (is_b (sort_of day n))) (some_passes (λ e. is_free_part day J (item n k) e && is_covered_part day J n e) (part day n k)) h in
    let sort = not-true (is_b (sort_of day n)) (and_parts (is_pending day J (item n k)) (not (is_b (sort_of day n))) b.0).1 in
    part_unblocked day J n k a (part day n k) b.1 (sym (ap (is_in_list a) (of_part (sort_of day n) day n k sort)) ∙ s)

whole_unblocked : (day : Day) (J : History) (n : ℕ) → may_settle_whole day J n ≡ true → IsUnblocked day J n 0
whole_unblocked day J n h a s =
    let b = and_parts _ (list_all (λ a. not (is_blocked day J (item n 0) a)) (debtors day n)) (and_parts _ (list_all (λ a. not (is_short_debtor day J n a)) (debtors day n)) h).0 in
    let sort = (and_parts (is_b (sort_of day n)) (is_pending day J (item n 0)) b.0).0 in
    not-true (is_blocked day J (item n 0) a) (among (λ a. not (is_blocked day J (item n 0) a)) a (debtors day n) b.1 (sym (ap (is_in_list a) (of_debtors (sort_of day n) day n 0 sort)) ∙ s))

abbrev IsInTurn : Day → History → ℕ → ℕ → Type 0
IsInTurn day J n k = (is_pending day J (item n k) ≡ true) × IsUnblocked day J n k

whole_in_turn : (day : Day) (J : History) (n : ℕ) → may_settle_whole day J n ≡ true → IsInTurn day J n 0
whole_in_turn day J n h = ((and_parts (is_b (sort_of day n)) (is_pending day J (item n 0)) (and_parts _ _ (and_parts _ _ h).0).0).1, whole_unblocked day J n h)

line_in_turn : (kind : Kind) (day : Day) (J : History) (n k : ℕ) (code : Code) (moves : List Move) → (is_book kind || is_all kind) ≡ true → Made kind day J n k code moves → IsInTurn day J n k
line_in_turn kinds.Book day J n k code moves h m = ((and_parts (is_pending day J (item n k)) (not (is_b (sort_of day n))) (and_parts _ _ m.0).0).0, book_unblocked day J n k m.0)
line_in_turn kinds.All day J n k code moves h m = subst (IsInTurn day J n) (sym m.4) (whole_in_turn day J n m.0)
line_in_turn _ day J n k code moves h m = cc

pub queue_is_in_order : (day : Day) (J : History) → IsLegal day J → QueueIsInOrder day J
queue_is_in_order day [] legal = tt
queue_is_in_order day (l ∷ J) legal = (queue_is_in_order day J legal.0, λ h. line_in_turn l.head.kind day J _ _ _ _ h (made_facts day J l legal.1).1)
