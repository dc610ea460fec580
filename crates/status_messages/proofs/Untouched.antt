-- What a line leaves as it is of a message that it isn't about, and that it doesn't revoke.
use Rattle.std.proofs.Common.{◌≡◌, ◌∙◌, ℕ, Bool, true, false, not, ◌&&◌, ◌||◌, ◌∷◌, Option, Some, None, refl, sym, ap}
use Rattle.std.specs.Prelude.{is_some, is_none, nat_eq, nat_lt}
use Rattle.std.specs.List.{list_all}
use Rattle.std.specs.Option.{option_or}
use Rattle.std.proofs.lemmas.Bool.{and_right, ne_eqb}
use Rattle.cash_amounts.specs.Tests.{some_passes}
use Rattle.batch_records.specs.DayRecord.{Day}
use Rattle.commit_journal.specs.Line.{Line, History}
use Rattle.machine.specs.Words.{when}
use Rattle.machine.specs.Records.Messages.{Sort, Pay, BatchA, BatchB, BatchC, BatchD, BatchE, sort_of, credit_numbers, entry_numbers, earliest, info_end, is_a}
use Rattle.machine.specs.Telling.History.{is_accepted, is_all, is_all_of, is_book, is_book_of, is_closing_of, is_cover, is_cover_of, is_expire_or_refuse, is_in, is_in_of, is_ok, taken, taken_code, covered, closed, asked, clock, read_first}
use Rattle.machine.specs.Telling.Facts.{answered, revokes}
use Rattle.machine.specs.Stages.Phases.{phase, is_no_order, is_booked, is_revoked_entry, open_as, revoked_as, settled_as}
use Rattle.machine.specs.Laws.{is_order}
use Rattle.settlement_laws.proofs.Base.Counting.{not_none}
use Rattle.settlement_laws.proofs.Base.LinesOf.{unchanged}
use Rattle.settlement_laws.proofs.Base.Lists.{never}
use Rattle.settlement_laws.proofs.Base.PhaseLaws.{table}
use Rattle.settlement_laws.proofs.Base.OngoingPhases.{accepted_there}
use Rattle.status_messages.specs.Statuses.{is_settled}
use Rattle.status_messages.specs.LineTexts.{is_settled_in}

-- ---- its facts

option_or_none : {X : Type 0} (o : Option X) (b : Bool) (x : X) → b ≡ false → option_or o (when b x) ≡ o
option_or_none (Some y) b x h = refl
option_or_none None b x h = ap (λ c. when c x) h

pub code_same : (l : Line) (J : History) (n : ℕ) → is_in_of n l ≡ false → taken_code (l ∷ J) n ≡ taken_code J n
unfolding read_first
code_same l J n h = option_or_none (taken_code J n) (is_in_of n l) l.head.code h

pub revoked_same : (day : Day) (l : Line) (J : History) (n k : ℕ) → revokes day n k l ≡ false → is_revoked_entry day (l ∷ J) n k ≡ is_revoked_entry day J n k
revoked_same day l J n k h = unchanged (revokes day n k) l J h

apart : (b : Bool) (m n : ℕ) → (m ≡ n → ⊥) → (b && nat_eq m n) ≡ false
apart b m n ne = and_right b (nat_eq m n) (ne_eqb m n ne)

booked_same : (l : Line) (J : History) (n k : ℕ) → (l.head.msg ≡ n → ⊥) → is_booked (l ∷ J) n k ≡ is_booked J n k
booked_same l J n k ne = unchanged (is_book_of n k) l J (ap (λ b. b && nat_eq l.head.entry k) (apart (is_book l.head.kind) l.head.msg n ne))

-- ---- whether it is settled

revoked_as_same : (s : Sort) (day : Day) (l : Line) (J : History) (n : ℕ) → ((k : ℕ) → revokes day n k l ≡ false) → revoked_as s day (l ∷ J) n ≡ revoked_as s day J n
revoked_as_same BatchA day l J n h = revoked_same day l J n 0 (h 0)
revoked_as_same BatchB day l J n h = revoked_same day l J n 0 (h 0)
revoked_as_same BatchE day l J n h = λ i. list_all (λ k. revoked_same day l J n k (h k) i) (entry_numbers day n)
revoked_as_same _ day l J n h = refl

settled_as_same : (s : Sort) (day : Day) (l : Line) (J : History) (n : ℕ) → (l.head.msg ≡ n → ⊥) → ((k : ℕ) → revokes day n k l ≡ false) → settled_as s day (l ∷ J) n ≡ settled_as s day J n
settled_as_same Pay day l J n ne h = booked_same l J n 0 ne
settled_as_same BatchA day l J n ne h = λ i. list_all (λ k. booked_same l J n k ne i) (credit_numbers day n)
settled_as_same BatchB day l J n ne h =
    λ i. unchanged (is_all_of n) l J (apart (is_all l.head.kind) l.head.msg n ne) i || unchanged (is_cover_of n) l J (apart (is_cover l.head.kind) l.head.msg n ne) i
settled_as_same BatchC day l J n ne h = λ i. list_all (λ k. booked_same l J n k ne i) (entry_numbers day n)
settled_as_same BatchE day l J n ne h = λ i. list_all (λ k. booked_same l J n k ne i || revoked_same day l J n k (h k) i) (entry_numbers day n)
settled_as_same _ day l J n ne h = refl

-- of a table of phases
settled_rows : (a b d e f g h i j w k : Bool) → (b ≡ false → a ≡ false) → is_settled (table a b false d e f g h i j w k) ≡ (((not b && not d) && not e) && f)
settled_rows true true d e f g h i j w k q = refl
settled_rows true false d e f g h i j w k q = never true refl (q refl)
settled_rows false true d e f g h i j w k q = refl
settled_rows false false true e f g h i j w k q = refl
settled_rows false false false true f g h i j w k q = refl
settled_rows false false false false true g h i j w k q = refl
settled_rows false false false false false true h i j w k q = refl
settled_rows false false false false false false true i j w k q = refl
settled_rows false false false false false false false true j w k q = refl
settled_rows false false false false false false false false true w k q = refl
settled_rows false false false false false false false false false true k q = refl
settled_rows false false false false false false false false false false true q = refl
settled_rows false false false false false false false false false false false q = refl

not_not : (b : Bool) → not (not b) ≡ b
not_not true = refl
not_not false = refl

accepted_taken : (J : History) (n : ℕ) → not (is_accepted J n) ≡ false → is_none (taken J n) ≡ false
accepted_taken J n h = not_none (taken J n) (accepted_there J n (sym (not_not (is_accepted J n)) ∙ ap not h))

phase_settled : (day : Day) (J : History) (n : ℕ) → is_no_order (sort_of day n) ≡ false →
    is_settled (phase day J n) ≡ (((is_accepted J n && not (is_some (closed J n))) && not (revoked_as (sort_of day n) day J n)) && settled_as (sort_of day n) day J n)
unfolding phase
phase_settled day J n o =
    ap (λ c. is_settled (table (is_none (taken J n)) (not (is_accepted J n)) c (is_some (closed J n)) (revoked_as (sort_of day n) day J n) (settled_as (sort_of day n) day J n) (is_a (sort_of day n) && is_some (covered J n)) (is_some (asked J n) && is_some (answered day J n)) (is_some (asked J n)) (some_passes (nat_lt (clock J)) (info_end day n)) (some_passes (nat_lt (clock J)) (earliest day n)) (open_as (sort_of day n) day J n))) o
    ∙ settled_rows (is_none (taken J n)) (not (is_accepted J n)) (is_some (closed J n)) (revoked_as (sort_of day n) day J n) (settled_as (sort_of day n) day J n) (is_a (sort_of day n) && is_some (covered J n)) (is_some (asked J n) && is_some (answered day J n)) (is_some (asked J n)) (some_passes (nat_lt (clock J)) (info_end day n)) (some_passes (nat_lt (clock J)) (earliest day n)) (open_as (sort_of day n) day J n) (accepted_taken J n)
    ∙ ap (λ b. ((b && not (is_some (closed J n))) && not (revoked_as (sort_of day n) day J n)) && settled_as (sort_of day n) day J n) (not_not (is_accepted J n))

order_there : (s : Sort) → is_order s ≡ true → is_no_order s ≡ false
order_there Pay h = refl
order_there BatchA h = refl
order_there BatchB h = refl
order_there BatchC h = refl
order_there BatchD h = refl
order_there BatchE h = refl
order_there _ h = cc

pub settled_same : (day : Day) (l : Line) (J : History) (n : ℕ) → (l.head.msg ≡ n → ⊥) → ((k : ℕ) → revokes day n k l ≡ false) → is_settled_in day (l ∷ J) n ≡ is_settled_in day J n
settled_same day l J n ne h = here (is_order (sort_of day n)) refl
  where
    here : (c : Bool) → is_order (sort_of day n) ≡ c → (c && is_settled (phase day (l ∷ J) n)) ≡ (c && is_settled (phase day J n))
    here false o = refl
    here true o =
        let u = order_there (sort_of day n) o in
        let coded = code_same l J n (apart (is_in l.head.kind) l.head.msg n ne) in
        let closing = unchanged (is_closing_of n) l J (apart (is_expire_or_refuse l.head.kind) l.head.msg n ne) in
        phase_settled day (l ∷ J) n u
        ∙ (λ i. ((some_passes is_ok (coded i) && not (closing i)) && not (revoked_as_same (sort_of day n) day l J n h i)) && settled_as_same (sort_of day n) day l J n ne h i)
        ∙ sym (phase_settled day J n u)
