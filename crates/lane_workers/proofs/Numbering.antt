-- Senders and their numbers, one message further.
use Rattle.std.proofs.Common.{◌≡◌, ℕ, zero, suc, ◌+◌, ◌%◌, ◌<◌, ◌≤◌, Bool, true, false, cond, List, [], ◌∷◌, ◌++◌, length, take, get_or, Option, None, Some, is_some, refl, ap, ◌∙◌, sym, subst, arith, add-one}
use Rattle.std.specs.Prelude.{bytes_eq, fold, if◌then◌else◌, slice_get, unwrap_or}
use Rattle.std.specs.Ordering.{is_eq, nat_cmp}
use Rattle.std.specs.Cmp.Lexicographic.{bytes_decides, slice_cmp}
use Rattle.std.specs.Option.{option_map_or, option_or}
use Rattle.std.proofs.lemmas.List.{length_push, take_more}
use Rattle.std.proofs.lemmas.List.Sums.{fold-append}
use Rattle.std.proofs.lemmas.Map.Text.{is_eq-slice_cmp}
use Rattle.std.proofs.lemmas.Bool.{false≢true}
use Rattle.batch_records.specs.DayRecord.{Day}
use Rattle.batch_records.specs.declared.day.Message.{Message}
use Rattle.account_book.proofs.Searches.{position_from-append}
use Rattle.machine.specs.Records.Messages.{sender}
use Rattle.machine.specs.Words.{same_name}
use Rattle.lane_workers.specs.Senders.{lane_of, number_among, senders_of, with_name, with_sender}

-- where a name has a number, another is not entered
pub known : (old : List ℕ → Option ℕ) (sender : List ℕ) (n : ℕ) (name : List ℕ) → is_some (old sender) ≡ true → old name ≡ option_or (old name) (cond (bytes_eq sender name) (Some n) None)
known old sender n name some = by (bytes_eq sender name) refl
  where
    first : (o : Option ℕ) (p : Option ℕ) → is_some o ≡ true → o ≡ option_or o p
    first (Some x) p h = refl
    first None p h = absurd (false≢true h)

    whole : (o : Option ℕ) → o ≡ option_or o None
    whole (Some x) = refl
    whole None = refl

    by : (b : Bool) → bytes_eq sender name ≡ b → old name ≡ option_or (old name) (cond b (Some n) None)
    by true e = first (old name) (Some n) (subst (λ (other : List ℕ). is_some (old other) ≡ true) ((bytes_decides sender name).0 e) some)
    by false e = whole (old name)

-- where it has none, it gets this one
pub entered : (old new : List ℕ → Option ℕ) (sender : List ℕ) (n : ℕ) (name : List ℕ) → is_some (old sender) ≡ false
    → new name ≡ cond (is_eq (slice_cmp nat_cmp sender name)) (Some n) (old name)
    → new name ≡ option_or (old name) (cond (bytes_eq sender name) (Some n) None)
entered old new sender n name free now = by (bytes_eq sender name) refl (now ∙ ap (λ b. cond b (Some n) (old name)) (is_eq-slice_cmp sender name))
  where
    none : (o : Option ℕ) → is_some o ≡ false → Some n ≡ option_or o (Some n)
    none None h = refl
    none (Some x) h = absurd (false≢true (sym h))

    whole : (o : Option ℕ) → o ≡ option_or o None
    whole (Some x) = refl
    whole None = refl

    by : (b : Bool) → bytes_eq sender name ≡ b → new name ≡ cond b (Some n) (old name) → new name ≡ option_or (old name) (cond b (Some n) None)
    by true e is = is ∙ none (old name) (subst (λ (other : List ℕ). is_some (old other) ≡ false) ((bytes_decides sender name).0 e) free)
    by false e is = is ∙ whole (old name)

-- ---- one name more

numbers_more : (names : List (List ℕ)) (sender name : List ℕ) → number_among (with_name names sender) name ≡ option_or (number_among names name) (cond (same_name sender name) (Some (length names)) None)
numbers_more names sender name = by (is_some (number_among names sender)) refl
  where
    by : (b : Bool) → is_some (number_among names sender) ≡ b → number_among (if b then names else names ++ sender ∷ []) name ≡ option_or (number_among names name) (cond (same_name sender name) (Some (length names)) None)
    by true e = known (number_among names) sender (length names) name e
    by false e = position_from-append (λ other. same_name other name) 0 (length names) names (sender ∷ []) (omega arith)

count_more : (names : List (List ℕ)) (sender : List ℕ) → length (with_name names sender) ≡ (if is_some (number_among names sender) then length names else length names + 1)
count_more names sender = by (is_some (number_among names sender))
  where
    by : (b : Bool) → length (if b then names else names ++ sender ∷ []) ≡ (if b then length names else length names + 1)
    by true = refl
    by false = length_push names sender

senders_more : (ms : List Message) (i : ℕ) (m : Message) → i < length ms → m ≡ get_or ms i m → senders_of (take (i + 1) ms) ≡ with_name (senders_of (take i ms)) m.sender
unfolding senders_of
senders_more ms i m within is =
    ap (fold with_sender []) (take_more ms i m within ∙ ap (λ (x : Message). take i ms ++ x ∷ []) (sym is))
    ∙ fold-append with_sender [] (take i ms) (m ∷ [])

pub no_sender : (name : List ℕ) → None ≡ number_among (senders_of []) name
unfolding senders_of
no_sender name = refl

pub no_count : 0 ≡ length (senders_of [])
unfolding senders_of
no_count = refl

pub numbers_next : (ms : List Message) (i : ℕ) (m : Message) (old new : List ℕ → Option ℕ) (next : ℕ) → i < length ms → m ≡ get_or ms i m
    → ((name : List ℕ) → old name ≡ number_among (senders_of (take i ms)) name) → next ≡ length (senders_of (take i ms))
    → ((name : List ℕ) → new name ≡ option_or (old name) (cond (same_name m.sender name) (Some next) None))
    → (name : List ℕ) → new name ≡ number_among (senders_of (take (i + 1) ms)) name
numbers_next ms i m old new next within is named count now name =
    now name
    ∙ (λ j. option_or (named name j) (cond (same_name m.sender name) (Some (count j)) None))
    ∙ sym (numbers_more (senders_of (take i ms)) m.sender name)
    ∙ ap (λ (names : List (List ℕ)). number_among names name) (sym (senders_more ms i m within is))

pub count_next : (ms : List Message) (i : ℕ) (m : Message) (old : List ℕ → Option ℕ) (next after : ℕ) → i < length ms → m ≡ get_or ms i m
    → ((name : List ℕ) → old name ≡ number_among (senders_of (take i ms)) name) → next ≡ length (senders_of (take i ms))
    → after ≡ (if is_some (old m.sender) then next else next + 1)
    → after ≡ length (senders_of (take (i + 1) ms))
count_next ms i m old next after within is named count now =
    now
    ∙ (λ j. if is_some (named m.sender j) then count j else count j + 1)
    ∙ sym (count_more (senders_of (take i ms)) m.sender)
    ∙ ap length (sym (senders_more ms i m within is))

pub few_next : (old : List ℕ → Option ℕ) (sender : List ℕ) (next after i : ℕ) → next ≤ i → after ≡ (if is_some (old sender) then next else next + 1) → after ≤ i + 1
few_next old sender next after i few now = by (is_some (old sender)) now
  where
    by : (b : Bool) → after ≡ (if b then next else next + 1) → after ≤ i + 1
    by true e = omega (arith, e, few)
    by false e = omega (arith, e, few)

-- ---- the lane of a message

sender_at : (day : Day) (i : ℕ) (m : Message) → i < length day.messages → m ≡ get_or day.messages i m → sender day (i + 1) ≡ m.sender
sender_at day i m within is = ap (sender day) (add-one i) ∙ here day.messages i within is
  where
    here : (ms : List Message) (k : ℕ) → k < length ms → m ≡ get_or ms k m → option_map_or (λ (x : Message). x.sender) (slice_get ms k) [] ≡ m.sender
    here [] k l e = absurd (omega (arith, l))
    here (x ∷ ms) zero l e = ap (λ (y : Message). y.sender) (sym e)
    here (x ∷ ms) (suc k) l e = here ms k (omega (arith, l)) e

pub lane_at : (day : Day) (workers i number : ℕ) (m : Message) (numbers : List ℕ → Option ℕ) → i < length day.messages → m ≡ get_or day.messages i m
    → ((name : List ℕ) → numbers name ≡ number_among (senders_of day.messages) name) → number ≡ unwrap_or (numbers m.sender) 0 → number % workers ≡ lane_of day workers (i + 1)
lane_at day workers i number m numbers within is named own =
    ap (λ (n : ℕ). n % workers) (own ∙ ap (λ (o : Option ℕ). unwrap_or o 0) (named m.sender))
    ∙ ap (λ (name : List ℕ). unwrap_or (number_among (senders_of day.messages) name) 0 % workers) (sym (sender_at day i m within is))
