-- Readiness by its views.
use Rattle.std.proofs.Common.{◌≡◌, ◌∙◌, ℕ, zero, suc, ◌+◌, Bool, true, false, not, ◌&&◌, List, [], ◌∷◌, Option, Some, None, refl, sym, ap, inl, inr}
use Rattle.std.specs.Prelude.{is_some, nat_eq, nat_lt, nat_le, if◌then◌else◌, unwrap_or}
use Rattle.std.specs.List.{list_all}
use Rattle.std.proofs.lemmas.Bool.{and_parts}
use Rattle.std.proofs.Math.Bool.{and_assoc}
use Rattle.batch_records.specs.DayRecord.{Day}
use Rattle.batch_records.specs.declared.day.Entry.{Entry}
use Rattle.commit_journal.specs.declared.line.Code.TheVariants as line_codes
use Rattle.commit_journal.specs.declared.line.Want.TheVariants as wants
use Rattle.commit_journal.specs.Line.{History}
use Rattle.machine.specs.declared.answers.Phase.{Phase}
use Rattle.machine.specs.declared.answers.Phase.TheVariants as phases
use Rattle.machine.specs.Words.{some_passes, first_some, when}
use Rattle.machine.specs.Records.Messages.{Sort, BatchA, BatchB, sort_of, is_a_or_b, is_b, part, debit_account, fund_of}
use Rattle.machine.specs.Records.Reserves.{must_leave}
use Rattle.machine.specs.Telling.History.{clock}
use Rattle.machine.specs.Telling.Balances.{balance}
use Rattle.machine.specs.Telling.Facts.{answer}
use Rattle.machine.specs.Stages.Phases.{phase, is_overdue, is_answered, is_asking}
use Rattle.machine.specs.Stages.Pending.{item, is_pending, is_blocked, debtors, debit_accounts_as, debit_account_of_part}
use Rattle.machine.specs.Making.Lines.{may_item, may_ask, may_lapse, may_cover, fund_suffices, gross, message_want, is_ready_item}
use Rattle.settlement_laws.proofs.Base.Lists.{IsIn}
use Rattle.scan_laws.specs.Views.{part_by, whole_by, item_by, alone, ready_by}

-- ---- a message that is overdue, answered or asking

lapses : (s : Sort) → is_a_or_b s ≡ true → may_lapse s ≡ true
lapses BatchA h = refl
lapses BatchB h = refl
lapses _ h = cc

expires : (s p a : Bool) → p ≡ true → a ≡ false → (s && p && not a) ≡ s
expires false p a h k = refl
expires true true false h k = refl
expires true false a h k = cc
expires true true true h k = cc

overdue_ready : (day : Day) (J : History) (n : ℕ) → is_overdue (phase day J n) ≡ true → may_item day J (message_want day J n phases.Overdue) ≡ may_lapse (sort_of day n)
overdue_ready day J n h = go (may_ask day J n) refl
  where
    go : (b : Bool) → may_ask day J n ≡ b → may_item day J (if b then wants.Ask n else wants.Expire n) ≡ may_lapse (sort_of day n)
    go true e =
        let p = and_parts (is_a_or_b (sort_of day n) && is_overdue (phase day J n) && is_some (fund_of day n)) (nat_lt (clock J) 86400) e in
        let q = and_parts (is_a_or_b (sort_of day n) && is_overdue (phase day J n)) (is_some (fund_of day n)) p.0 in
        e ∙ sym (lapses (sort_of day n) (and_parts (is_a_or_b (sort_of day n)) (is_overdue (phase day J n)) q.0).0)
    go false e = expires (may_lapse (sort_of day n)) (is_overdue (phase day J n)) (may_ask day J n) h e

refused : (a q y f k z : Bool) → q ≡ true → (a && q && y && f) ≡ false → k ≡ false → is_some (first_some (when (a && q && not y) line_codes.Gn ∷ when (a && q && y && not f) line_codes.Gs ∷ when (a && k && z) line_codes.Ge ∷ [])) ≡ a
refused false q y f k z h e g = refl
refused true true false f k z h e g = refl
refused true true true false k z h e g = refl
refused true true true true k z h e g = cc
refused true false y f k z h e g = cc

answered_parts : (a q y f : Bool) → (a && q && y && f) ≡ true → a ≡ true
answered_parts true q y f h = refl
answered_parts false q y f h = cc

answered_ready : (day : Day) (J : History) (n : ℕ) → is_answered (phase day J n) ≡ true → is_asking (phase day J n) ≡ false → may_item day J (message_want day J n phases.Answered) ≡ is_a_or_b (sort_of day n)
answered_ready day J n h k = go (may_cover day J n) refl
  where
    go : (b : Bool) → may_cover day J n ≡ b → may_item day J (if b then wants.Cover n else wants.Refuse n) ≡ is_a_or_b (sort_of day n)
    go true e = e ∙ sym (answered_parts (is_a_or_b (sort_of day n)) (is_answered (phase day J n)) (unwrap_or (answer day J n) false) (fund_suffices day J n) e)
    go false e = refused (is_a_or_b (sort_of day n)) (is_answered (phase day J n)) (unwrap_or (answer day J n) false) (fund_suffices day J n) (is_asking (phase day J n)) (nat_eq (clock J) 86400) h e k

unanswered : (a q y f k z : Bool) → q ≡ false → k ≡ true → is_some (first_some (when (a && q && not y) line_codes.Gn ∷ when (a && q && y && not f) line_codes.Gs ∷ when (a && k && z) line_codes.Ge ∷ [])) ≡ (a && z)
unanswered false q y f k z h g = refl
unanswered true true y f k z h g = cc
unanswered true false y f false z h g = cc
unanswered true false y f true true h g = refl
unanswered true false y f true false h g = refl

asking_ready : (day : Day) (J : History) (n : ℕ) → is_answered (phase day J n) ≡ false → is_asking (phase day J n) ≡ true → may_item day J (message_want day J n phases.Asking) ≡ (is_a_or_b (sort_of day n) && nat_eq (clock J) 86400)
asking_ready day J n h k = unanswered (is_a_or_b (sort_of day n)) (is_answered (phase day J n)) (unwrap_or (answer day J n) false) (fund_suffices day J n) (is_asking (phase day J n)) (nat_eq (clock J) 86400) h k

-- ---- one that is not

all_row : (b p x y : Bool) → b ≡ true → (b && p && x && y) ≡ (p && (x && y))
all_row true true x y h = refl
all_row true false x y h = refl
all_row false p x y h = cc

book_row : (p b x : Bool) → b ≡ false → (p && not b && x) ≡ (p && x)
book_row true false x h = refl
book_row false false x h = refl
book_row p true x h = cc

other_ready : (day : Day) (J : History) (n : ℕ) →
    may_item day J (if is_b (sort_of day n) then wants.All n else wants.Book n 0) ≡ (is_pending day J (item n 0) && item_by (sort_of day n) day n 0 (is_blocked day J (item n 0)) (balance day J))
other_ready day J n = go (is_b (sort_of day n)) refl
  where
    blocked : ℕ → Bool
    blocked = is_blocked day J (item n 0)

    go : (b : Bool) → is_b (sort_of day n) ≡ b →
        may_item day J (if b then wants.All n else wants.Book n 0) ≡ (is_pending day J (item n 0) && (if b then whole_by day n (is_blocked day J (item n 0)) (balance day J) else some_passes (part_by day n (is_blocked day J (item n 0)) (balance day J)) (part day n 0)))
    go true e = all_row (is_b (sort_of day n)) (is_pending day J (item n 0)) (list_all (λ a. not (blocked a)) (debtors day n)) (list_all (λ a. not (nat_lt (balance day J a) (gross day n a))) (debtors day n)) e
    go false e = book_row (is_pending day J (item n 0)) (is_b (sort_of day n)) (some_passes (part_by day n blocked (balance day J)) (part day n 0)) e

-- ---- readiness is a function of few views

abbrev views : Day → History → ℕ → ℕ → Option Bool → Bool
views day J n k by_phase = ready_by day n k by_phase (is_pending day J (item n k)) (is_blocked day J (item n k)) (balance day J)

message_ready : (day : Day) (J : History) (n : ℕ) (p : Phase) → phase day J n ≡ p → may_item day J (message_want day J n p) ≡ views day J n 0 (alone day n 0 p (clock J))
message_ready day J n phases.Overdue e = overdue_ready day J n (ap is_overdue e)
message_ready day J n phases.Answered e = answered_ready day J n (ap is_answered e) (ap is_asking e)
message_ready day J n phases.Asking e = asking_ready day J n (ap is_answered e) (ap is_asking e)
message_ready day J n _ e = other_ready day J n

pub seen_by : (day : Day) (J : History) (n k : ℕ) → is_ready_item day J n k ≡ ready_by day n k (alone day n k (phase day J n) (clock J)) (is_pending day J (item n k)) (is_blocked day J (item n k)) (balance day J)
unfolding is_ready_item
seen_by day J n zero = message_ready day J n (phase day J n) refl
seen_by day J n (suc k) = and_assoc (is_pending day J (item n (suc k))) (not (is_b (sort_of day n))) (some_passes (part_by day n (is_blocked day J (item n (suc k))) (balance day J)) (part day n (suc k)))

-- ---- the same views, the same readiness

module _ (day : Day) (blocked later : ℕ → Bool) (money after : ℕ → ℕ) where
  abbrev SameAt : ℕ → Type 0
  SameAt a = (blocked a ≡ later a) × (money a ≡ after a)

  part_same : (n : ℕ) (o : Option Entry) → ((a : ℕ) → IsIn a (debit_account_of_part day o) → SameAt a) → some_passes (part_by day n blocked money) o ≡ some_passes (part_by day n later after) o
  part_same n None h = refl
  part_same n (Some e) h = let s : SameAt (debit_account day e) = h (debit_account day e) (inl refl) in λ i. not (s.0 i) && nat_le (e.amount + must_leave day n (debit_account day e)) (s.1 i)

  free_same : (xs : List ℕ) → ((a : ℕ) → IsIn a xs → SameAt a) → list_all (λ a. not (blocked a)) xs ≡ list_all (λ a. not (later a)) xs
  free_same [] h = refl
  free_same (x ∷ xs) h = let r = free_same xs (λ a i. h a (inr i)) in let s : SameAt x = h x (inl refl) in λ i. not (s.0 i) && r i

  long_same : (n : ℕ) (xs : List ℕ) → ((a : ℕ) → IsIn a xs → SameAt a) → list_all (λ a. not (nat_lt (money a) (gross day n a))) xs ≡ list_all (λ a. not (nat_lt (after a) (gross day n a))) xs
  long_same n [] h = refl
  long_same n (x ∷ xs) h = let r = long_same n xs (λ a i. h a (inr i)) in let s : SameAt x = h x (inl refl) in λ i. not (nat_lt (s.1 i) (gross day n x)) && r i

  whole_same : (n : ℕ) → ((a : ℕ) → IsIn a (debtors day n) → SameAt a) → whole_by day n blocked money ≡ whole_by day n later after
  whole_same n h = λ i. free_same (debtors day n) h i && long_same n (debtors day n) h i

  message_same : (s : Sort) (n : ℕ) → ((a : ℕ) → IsIn a (debit_accounts_as s day n 0) → SameAt a) → item_by s day n 0 blocked money ≡ item_by s day n 0 later after
  message_same BatchB n h = whole_same n h
  message_same _ n h = part_same n (part day n 0) h

  entry_same : (s : Sort) (n k : ℕ) → ((a : ℕ) → IsIn a (debit_accounts_as s day n (suc k)) → SameAt a) → item_by s day n (suc k) blocked money ≡ item_by s day n (suc k) later after
  entry_same BatchB n k h = refl
  entry_same _ n k h = part_same n (part day n (suc k)) h

  item_same : (s : Sort) (n k : ℕ) → ((a : ℕ) → IsIn a (debit_accounts_as s day n k) → SameAt a) → item_by s day n k blocked money ≡ item_by s day n k later after
  item_same s n zero h = message_same s n h
  item_same s n (suc k) h = entry_same s n k h

  and_then : (d e x y : Bool) → d ≡ e → (e ≡ true → x ≡ y) → (d && x) ≡ (e && y)
  and_then d true x y q h = λ i. q i && h refl i
  and_then true false x y q h = cc
  and_then false false x y q h = refl

  -- where it isn't pending, the accounts don't matter
  pub ready_same : (n k : ℕ) (o p : Option Bool) (d e : Bool) → o ≡ p → d ≡ e → (e ≡ true → (a : ℕ) → IsIn a (debit_accounts_as (sort_of day n) day n k) → SameAt a) →
      ready_by day n k o d blocked money ≡ ready_by day n k p e later after
  ready_same n k o p d e g q h = λ i. unwrap_or (g i) (and_then d e (item_by (sort_of day n) day n k blocked money) (item_by (sort_of day n) day n k later after) q (λ t. item_same (sort_of day n) n k (h t)) i)
