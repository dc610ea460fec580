-- From one item that is due to the next, until one is ready: its message is the first that is.
use Rattle.std.proofs.Common.{◌≡◌, ◌∙◌, ℕ, zero, suc, ◌+◌, ◌<◌, ◌≤◌, Bool, true, false, ◌&&◌, not, List, Option, Some, None, is_some, length, refl, sym, ap, subst, arith, cond, inl, inr}
use Rattle.std.specs.Prelude.{IfSome, is_none, nat_eq, nat_lt, option_map}
use Rattle.std.specs.List.{find, list_all, list_any, range_with_len}
use Rattle.std.specs.Option.{option_or}
use Rattle.std.proofs.lemmas.Bool.{and_right, cases_eq, cases_lt, eq-eqb, false_from_ne_true, false≢true, lt-ltb, ltb-true, ne_eqb, or_left}
use Rattle.std.proofs.lemmas.Option.{same_Some}
use Rattle.batch_records.specs.DayRecord.{Day}
use Rattle.batch_records.specs.declared.day.Entry.{Entry}
use Rattle.commit_journal.specs.declared.line.Move.{Move}
use Rattle.commit_journal.specs.declared.line.Want.{Want}
use Rattle.commit_journal.specs.declared.line.Want.TheVariants as wants
use Rattle.commit_journal.specs.Line.{History}
use Rattle.machine.specs.declared.answers.Item.{Item}
use Rattle.machine.specs.declared.answers.Phase.{Phase}
use Rattle.machine.specs.Words.{some_passes, when}
use Rattle.machine.specs.Records.Setup.{account_numbers, is_sub_account}
use Rattle.machine.specs.Records.Messages.{Sort, BatchA, BatchB, BatchC, BatchE, debit_account, entries, entry_at, is_b, is_batch, message_numbers, move_of, sort_of}
use Rattle.machine.specs.Telling.History.{clock, is_accepted}
use Rattle.machine.specs.Telling.Balances.{balance}
use Rattle.machine.specs.Stages.Intake.{entry_fits}
use Rattle.machine.specs.Making.Accounts.{accounts_of, accounts_of_part}
use Rattle.machine.specs.Stages.Phases.{phase}
use Rattle.machine.specs.Stages.Pending.{debit_account_of_part, debit_accounts_as, is_pending, item, pending_as, stands_on}
use Rattle.machine.specs.Orders.Hints.{pending_want}
use Rattle.machine.specs.Legal.{IsLegal}
use Rattle.machine.specs.Making.Lines.{is_covered_part, is_free_part, is_ready_item, is_ready_message, may_book, may_sweep}
use Rattle.machine.specs.Making.Reasons.{why_waits}
use Rattle.machine.proofs.Lists.{all_get}
use Rattle.settlement_laws.proofs.Wants.Answering.{debit_among, free_rows, pending-open}
use Rattle.settlement_laws.proofs.Base.Lists.{all_in}
use Rattle.settlement_laws.proofs.Base.PhaseLaws.{going_accepted}
use Rattle.settlement_laws.proofs.Balances.MovesOfTheDay.{accepted_fits, fits_named, pending_going}
use Rattle.settlement_laws.proofs.Base.Sums.{any-at, any-from}
use Rattle.number_set.specs.Members.{has}
use Rattle.number_set.specs.Next.{IsLeast, IsNext}
use Rattle.scan_laws.specs.Numbers.{IsItem, item_count, item_number, item_of}
use Rattle.scan_laws.proofs.NumberFacts.{item-is, item-there, number-back, number-order, number-within}
use Rattle.due_items.specs.Due.{due_at, is_due}
use Rattle.due_items.specs.Kept.{Due, KeepsDue}
use Rattle.due_items.proofs.HintFacts.{ready_due}
use Rattle.due_items.proofs.Noted.{flag_at, flags_length}
use Rattle.settle_floor.specs.Ready.{IsNextDue, ready_at}
use Rattle.settle_floor.proofs.HeldFacts.{all_held}

-- ---- the set of the items that are due

pub due_count : (day : Day) (J : History) (due : Due) → KeepsDue day J due → length due.set ≡ item_count day
due_count day J due keeps = ap length keeps.exact ∙ flags_length (due_at day J) (item_count day)

in_set : (day : Day) (J : History) (due : Due) → KeepsDue day J due → (i : ℕ) → i < item_count day → has due.set i ≡ due_at day J i
in_set day J due keeps i low = ap (λ (xs : List Bool). has xs i) keeps.exact ∙ flag_at (due_at day J) (item_count day) i low

pub next_due_is : (day : Day) (J : History) (due : Due) (from : ℕ) (o : Option ℕ) → KeepsDue day J due → IsNext (has due.set) from o → IfSome o (λ i. i < length due.set) → IsNextDue day J from o
next_due_is day J due from None keeps none within = λ i low high. sym (in_set day J due keeps i high) ∙ none i low
next_due_is day J due from (Some i) keeps least within =
    let count : length due.set ≡ item_count day = due_count day J due keeps in
    record {
      at_least = least.at_least;
      passes = sym (in_set day J due keeps i (omega (arith, within, count))) ∙ least.passes;
      none_before = λ k low high. sym (in_set day J due keeps k (omega (arith, within, count, high))) ∙ least.none_before k low high;
    }

pub due_inside : (day : Day) (J : History) (due : Due) (o : Option ℕ) → KeepsDue day J due → IfSome o (λ i. i < length due.set) → IfSome o (λ i. i < item_count day)
due_inside day J due None keeps within = within
due_inside day J due (Some i) keeps within = let count : length due.set ≡ item_count day = due_count day J due keeps in omega (arith, within, count)

-- ---- an entry that is due

pub pending_due : (day : Day) (J : History) (n k : ℕ) → 0 < k → is_due day J (item n k) ≡ true → is_pending day J (item n k) ≡ true
pending_due day J n zero low h = absurd (omega (arith, low))
pending_due day J n (suc k) low h = here (is_pending day J (item n (suc k))) (pending_want day (item n (suc k))) h
  where
    here : (b : Bool) (w : Want) → is_some (option_or (when b w) None) ≡ true → b ≡ true
    here true w h = refl
    here false w h = absurd (false≢true h)

-- it is of a batch, which isn't one of B
pending_sort : (s : Sort) (day : Day) (J : History) (n k : ℕ) (p : Phase) → pending_as s day J n (suc k) p ≡ true → (is_batch s ≡ true) × (is_b s ≡ false)
pending_sort BatchA day J n k p h = (refl, refl)
pending_sort BatchC day J n k p h = (refl, refl)
pending_sort BatchE day J n k p h = (refl, refl)
pending_sort _ day J n k p h = absurd (false≢true h)

moved : (day : Day) (o : Option Entry) (m : Move) → option_map (move_of day) o ≡ Some m → (e : Entry) × (o ≡ Some e) × (move_of day e ≡ m)
moved day None m h = cc
moved day (Some e) m h = (e, refl, same_Some (move_of day e) m h)

stands_as : (s : Sort) (day : Day) (n k : ℕ) (e : Entry) → is_b s ≡ false → entry_at day n (suc k) ≡ Some e → list_any (λ b. nat_eq b (debit_account day e)) (debit_accounts_as s day n (suc k)) ≡ true
stands_as BatchB day n k e b at = absurd (false≢true (sym b))
stands_as _ day n k e b at =
    subst (λ (o : Option Entry). list_any (λ b. nat_eq b (debit_account day e)) (debit_account_of_part day o) ≡ true) (sym at)
    (or_left (nat_eq (debit_account day e) (debit_account day e)) false (eq-eqb (debit_account day e) (debit_account day e) refl))

pub stands_entry : (day : Day) (J : History) (n k : ℕ) (m : Move) → 0 < k → is_pending day J (item n k) ≡ true → option_map (move_of day) (entry_at day n k) ≡ Some m → stands_on day m.debit (item n k) ≡ true
stands_entry day J n zero m low p at = absurd (omega (arith, low))
stands_entry day J n (suc k) m low p at =
    let r = moved day (entry_at day n (suc k)) m at in
    let s = pending_sort (sort_of day n) day J n k (phase day J n) (sym (pending-open day J n (suc k)) ∙ p) in
    subst (λ (z : Move). stands_on day z.debit (item n (suc k)) ≡ true) r.2 (stands_as (sort_of day n) day n k r.0 s.1 r.1)

pub held_entry : (held : ℕ → Bool) (day : Day) (J : History) (n k : ℕ) (m : Move) → IsLegal day J → list_all held (account_numbers day) ≡ true → 0 < k → is_pending day J (item n k) ≡ true → option_map (move_of day) (entry_at day n k) ≡ Some m → held m.debit ≡ true
held_entry held day J n zero m legal all low p at = absurd (omega (arith, low))
held_entry held day J n (suc k) m legal all low p at =
    let r = moved day (entry_at day n (suc k)) m at in
    let pends = sym (pending-open day J n (suc k)) ∙ p in
    let s = pending_sort (sort_of day n) day J n k (phase day J n) pends in
    let accepted : is_accepted J n ≡ true = going_accepted day J n (pending_going (sort_of day n) day J n (suc k) (phase day J n) pends) in
    let named = fits_named (sort_of day n) day n r.0 s.0 (all_get (entry_fits (sort_of day n) day n) (entries day n) k r.0 (accepted_fits day J n legal accepted) r.1) in
    let accounts = subst (λ (o : Option Entry). list_all held (accounts_of_part day o) ≡ true) r.1 (all_held held day all (wants.Book n (suc k))) in
    subst (λ (z : Move). held z.debit ≡ true) r.2 (all_in held (accounts_of day r.0) (debit_account day r.0) accounts (debit_among day r.0 named.0))

pub book_entry : (day : Day) (J : History) (n k : ℕ) (m : Move) → 0 < k → is_pending day J (item n k) ≡ true → option_map (move_of day) (entry_at day n k) ≡ Some m → may_book day J n k ≡ is_none (why_waits day J (item n k) m.debit m.amount)
book_entry day J n zero m low p at = absurd (omega (arith, low))
book_entry day J n (suc k) m low p at =
    let r = moved day (entry_at day n (suc k)) m at in
    let s = pending_sort (sort_of day n) day J n k (phase day J n) (sym (pending-open day J n (suc k)) ∙ p) in
    let test : Entry → Bool = λ e. is_free_part day J (item n (suc k)) e && is_covered_part day J n e in
    ap (λ b. b && not (is_b (sort_of day n)) && some_passes test (entry_at day n (suc k))) p
    ∙ ap (λ b. true && not b && some_passes test (entry_at day n (suc k))) s.1
    ∙ ap (some_passes test) r.1
    ∙ free_rows day J (item n (suc k)) r.0
    ∙ ap (λ (z : Move). is_none (why_waits day J (item n (suc k)) z.debit z.amount)) r.2

pub no_entry : (day : Day) (J : History) (n k : ℕ) → 0 < k → option_map (move_of day) (entry_at day n k) ≡ None → may_book day J n k ≡ false
no_entry day J n zero low at = absurd (omega (arith, low))
no_entry day J n (suc k) low at =
    let test : Entry → Bool = λ e. is_free_part day J (item n (suc k)) e && is_covered_part day J n e in
    ap (λ (o : Option Entry). is_pending day J (item n (suc k)) && not (is_b (sort_of day n)) && some_passes test o) (none (entry_at day n (suc k)) at)
    ∙ and_right (is_pending day J (item n (suc k)) && not (is_b (sort_of day n))) false refl
  where
    none : (o : Option Entry) → option_map (move_of day) o ≡ None → o ≡ None
    none None h = refl
    none (Some e) h = cc

-- ---- an item and its message

pub an_entry : (k : ℕ) → (k ≡ 0 → ⊥) → 0 < k
an_entry zero h = absurd (h refl)
an_entry (suc k) h = omega arith

pub entry_ready : (day : Day) (J : History) (n k : ℕ) → 0 < k → is_ready_item day J n k ≡ may_book day J n k
unfolding is_ready_item
entry_ready day J n zero low = absurd (omega (arith, low))
entry_ready day J n (suc k) low = refl

pub message_ready : (day : Day) (J : History) (n k : ℕ) → IsItem day n k → is_ready_item day J n k ≡ true → is_ready_message day J n ≡ true
unfolding is_ready_message
message_ready day J n k at h = let last = at.entry in any-from (is_ready_item day J n) 0 (suc (length (entries day n))) k (omega arith) (omega (arith, last)) h

pub item_rests : (day : Day) (J : History) (n k : ℕ) → IsItem day n k → is_ready_message day J n ≡ false → is_ready_item day J n k ≡ false
item_rests day J n k at h = false_from_ne_true (is_ready_item day J n k) (λ t. false≢true (sym h ∙ message_ready day J n k at t))

-- ---- searches

none_in_range : (p : ℕ → Bool) (s len : ℕ) → ((m : ℕ) → s ≤ m → m < s + len → p m ≡ false) → find p (range_with_len s len) ≡ None
none_in_range p s zero none = refl
none_in_range p s (suc len) none =
    ap (λ b. cond b (Some s) (find p (range_with_len (s + 1) len))) (none s (omega arith) (omega arith))
    ∙ none_in_range p (s + 1) len (λ m low high. none m (omega (arith, low)) (omega (arith, high)))

pub first_in_range : (p : ℕ → Bool) (s len n : ℕ) → s ≤ n → n < s + len → p n ≡ true → ((m : ℕ) → s ≤ m → m < n → p m ≡ false) → find p (range_with_len s len) ≡ Some n
first_in_range p s zero n low high passes none = absurd (omega (arith, low, high))
first_in_range p s (suc len) n low high passes none = elim (cases_eq n s) [
  | inl same ↦ ap (λ b. cond b (Some s) (find p (range_with_len (s + 1) len))) (ap p (sym same) ∙ passes) ∙ ap Some (sym same)
  | inr other ↦
      ap (λ b. cond b (Some s) (find p (range_with_len (s + 1) len))) (none s (omega arith) (omega (arith, low, other)))
      ∙ first_in_range p (s + 1) len n (omega (arith, low, other)) (omega (arith, high)) passes (λ m a b. none m (omega (arith, a)) b)
]

-- ---- along the row

-- what isn't due isn't ready
not_due : (day : Day) (J : History) (i : ℕ) → due_at day J i ≡ false → ready_at day J i ≡ false
not_due day J i h = false_from_ne_true (ready_at day J i) (λ t. false≢true (sym h ∙ ready_due day J (item_of day i).msg (item_of day i).entry t))

-- nothing before i is ready
abbrev pub RestBelow : Day → History → ℕ → Type 0
RestBelow day J i = (j : ℕ) → j < i → ready_at day J j ≡ false

pub rest_more : (day : Day) (J : History) (from i : ℕ) → IsLeast (due_at day J) from i → RestBelow day J from → ready_at day J i ≡ false → RestBelow day J (i + 1)
rest_more day J from i least before here j low = elim (cases_lt j from) [
  | inl l ↦ before j l
  | inr ge ↦ elim (cases_eq j i) [
    | inl same ↦ ap (ready_at day J) same ∙ here
    | inr other ↦ not_due day J j (least.none_before j ge (omega (arith, low, other)))
  ]
]

rest_to : (day : Day) (J : History) (from i : ℕ) → IsLeast (due_at day J) from i → RestBelow day J from → RestBelow day J i
rest_to day J from i least before j low = elim (cases_lt j from) [
  | inl l ↦ before j l
  | inr ge ↦ not_due day J j (least.none_before j ge low)
]

rest_of_all : (day : Day) (J : History) (from : ℕ) → IsNextDue day J from None → RestBelow day J from → RestBelow day J (item_count day)
rest_of_all day J from none before j low = elim (cases_lt j from) [
  | inl l ↦ before j l
  | inr ge ↦ not_due day J j (none j ge low)
]

-- a message whose items all stand before i
pub message_rests : (day : Day) (J : History) (m i : ℕ) → RestBelow day J i → 1 ≤ m → m ≤ length day.messages → ((k : ℕ) → IsItem day m k → item_number day m k < i) → is_ready_message day J m ≡ false
unfolding is_ready_message
message_rests day J m i before first last below =
    false_from_ne_true (list_any (is_ready_item day J m) (range_with_len 0 (suc (length (entries day m))))) (λ t. one (any-at (is_ready_item day J m) 0 (suc (length (entries day m))) t))
  where
    one : (k : ℕ) × (0 ≤ k) × (k < 0 + suc (length (entries day m))) × (is_ready_item day J m k ≡ true) → ⊥
    one (k, low, high, ready) =
        let at : IsItem day m k = record { first = first; last = last; entry = omega (arith, high) } in
        false≢true (sym (before (item_number day m k) (below k at)) ∙ ap (λ (x : Item). is_ready_item day J x.msg x.entry) (item-there day m k at) ∙ ready)

-- an earlier message's items have lesser numbers
pub earlier_message : (day : Day) (n k m j : ℕ) → IsItem day n k → IsItem day m j → n < m → item_number day n k < item_number day m j
earlier_message day n k m j a b low = ltb-true (item_number day n k) (item_number day m j) (number-order day n k m j a b ∙ or_left (nat_lt n m) (nat_eq n m && nat_lt k j) (lt-ltb n m low))

pub first_found : (day : Day) (J : History) (from i : ℕ) → IsLeast (due_at day J) from i → RestBelow day J from → i < item_count day → is_ready_message day J (item_of day i).msg ≡ true →
    Some (item_of day i).msg ≡ find (is_ready_message day J) (message_numbers day)
first_found day J from i least before low ready =
    let n = (item_of day i).msg in
    let at : IsItem day n (item_of day i).entry = item-is day i low in
    let first = at.first in
    let last = at.last in
    sym (first_in_range (is_ready_message day J) 1 (length day.messages) n (omega (arith, first)) (omega (arith, last)) ready
    (λ m a b. message_rests day J m i (rest_to day J from i least before) a (omega (arith, b, last))
    (λ k h. subst (λ x. item_number day m k < x) (number-back day i low) (earlier_message day m k n (item_of day i).entry h at b))))

pub nothing_found : (day : Day) (J : History) (from : ℕ) → IsNextDue day J from None → RestBelow day J from → None ≡ find (is_ready_message day J) (message_numbers day)
nothing_found day J from none before =
    sym (none_in_range (is_ready_message day J) 1 (length day.messages)
    (λ m a b. message_rests day J m (item_count day) (rest_of_all day J from none before) a (omega (arith, b)) (λ k h. number-within day m k h)))

-- ---- sub-accounts

pub none_swept : (day : Day) (J : History) → (clock J ≡ 86400 → ⊥) → None ≡ find (may_sweep day J) (account_numbers day)
none_swept day J early = sym (none_in_range (may_sweep day J) 1 (length day.accounts) (λ a _ _. here (is_sub_account day a) (nat_eq (clock J) 86400) (nat_lt 0 (balance day J a)) (ne_eqb (clock J) 86400 early)))
  where
    here : (a b c : Bool) → b ≡ false → (a && b && c) ≡ false
    here true false c h = refl
    here false b c h = refl
    here true true c h = absurd (false≢true (sym h))

-- where no item is ready
pub rest_found : (day : Day) (J : History) → RestBelow day J (item_count day) → None ≡ find (is_ready_message day J) (message_numbers day)
rest_found day J rests =
    sym (none_in_range (is_ready_message day J) 1 (length day.messages)
    (λ m a b. message_rests day J m (item_count day) rests a (omega (arith, b)) (λ k h. number-within day m k h)))
