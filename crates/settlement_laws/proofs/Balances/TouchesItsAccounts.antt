-- The moves of a line are between accounts of its want.
use Rattle.std.proofs.Common.{◌≡◌, ℕ, ◌+◌, ◌-◌, Bool, true, false, not, ◌&&◌, List, [], ◌∷◌, ◌++◌, Option, Some, None, refl, sym, ap, subst, arith, ◌⊎◌, inl, inr}
use Rattle.std.specs.Prelude.{nat_eq, nat_lt, if◌then◌else◌, map, filter, flat_map, unwrap_or, option_to_list}
use Rattle.std.specs.List.{enumerate_from}
use Rattle.std.proofs.lemmas.Bool.{or_left, or_right, eq-eqb, and_parts, and_from, cond-true}
use Rattle.batch_records.specs.DayRecord.{Day}
use Rattle.batch_records.specs.declared.day.Entry.{Entry}
use Rattle.batch_records.specs.Sound.{is_sound}
use Rattle.commit_journal.specs.declared.line.Move.{Move}
use Rattle.commit_journal.specs.declared.line.Code.{Code}
use Rattle.commit_journal.specs.declared.line.Code.TheVariants as line_codes
use Rattle.commit_journal.specs.declared.line.Kind.{Kind}
use Rattle.commit_journal.specs.declared.line.Kind.TheVariants as kinds
use Rattle.commit_journal.specs.Line.{History}
use Rattle.machine.specs.Records.Setup.{account_named, first_dca, owner, is_sub_account}
use Rattle.machine.specs.Records.Messages.{Sort, BatchA, BatchB, BatchD, Liquidity, sort_of, is_batch, entries, part, transfer, move_of, debit_account, credit_account, technical_of, technical_account, fund_of, fund_account, is_debit_entry, is_credit_entry, debit_entries, credit_entries}
use Rattle.machine.specs.Stages.Intake.{intake_code, intake_moves, moves_as, transfer_moves, afforded_in_order}
use Rattle.machine.specs.Telling.Balances.{balance}
use Rattle.machine.specs.Stages.Phases.{is_booked}
use Rattle.machine.specs.Making.Lines.{may_sweep, moves_of_part, return_of, reversal, debit_entries_by, counted_entries, cover_of, covered_debit, cover_moves, is_short_debtor, sweep_move}
use Rattle.machine.specs.Making.Accounts.{accounts_of, accounts_of_part, accounts_of_message, accounts_taken, accounts_of_want, payment_of}
use Rattle.machine.specs.Legal.{IsLegal, want_as}
use Rattle.machine.specs.Laws.{EachLine}
use Rattle.machine.specs.OtherLaws.{moves_among, is_among, TouchesItsAccounts}
use Rattle.settlement_laws.proofs.Base.Made.{Made, made_facts}
use Rattle.settlement_laws.proofs.Balances.MovesOfTheDay.{IsAccount, InRange, MovesInRange, SubsHaveDca, line_in_range}
use Rattle.settlement_laws.proofs.Base.Sound.{subs_have_dca}
use Rattle.settlement_laws.proofs.ProcedureB.WholeMoves.{same_numbers}
use Rattle.settlement_laws.proofs.Base.Lists.{IsIn, all_of, from_filter, from_map, into_flat, into_left, into_right}

-- ---- a move between accounts of the list

abbrev IsAmong : List ℕ → Move → Type 0
IsAmong these m = IsIn m.debit these × IsIn m.credit these

pub among : (these : List ℕ) (a : ℕ) → IsIn a these → is_among these a ≡ true
among [] a i = absurd i
among (b ∷ these) a (inl e) = or_left (nat_eq b a) _ (eq-eqb b a e)
among (b ∷ these) a (inr i) = or_right (nat_eq b a) _ (among these a i)

each_among : (these : List ℕ) (moves : List Move) → ((m : Move) → IsIn m moves → IsAmong these m) → moves_among these moves ≡ true
each_among these moves h = all_of (λ (m : Move). is_among these m.debit && is_among these m.credit) moves (λ m i. and_from _ _ (among these m.debit (h m i).0) (among these m.credit (h m i).1))

in_range : (day : Day) (moves : List Move) (m : Move) → MovesInRange day moves → IsIn m moves → InRange day m
in_range day [] m r i = absurd i
in_range day (x ∷ moves) m r (inl e) = subst (InRange day) e r.0
in_range day (x ∷ moves) m r (inr i) = in_range day moves m r.1 i

-- an account of the day that a name may give is the name's
named : (day : Day) (o : Option ℕ) → IsAccount day (unwrap_or o 0) → IsIn (unwrap_or o 0) (option_to_list o)
named day None h = absurd (omega (arith, h.1))
named day (Some a) h = inl refl

debit_named : (day : Day) (e : Entry) → IsAccount day (debit_account day e) → IsIn (debit_account day e) (accounts_of day e)
debit_named day e h = into_left (debit_account day e) (option_to_list (account_named day e.debit)) (option_to_list (account_named day e.credit)) (named day (account_named day e.debit) h)

credit_named : (day : Day) (e : Entry) → IsAccount day (credit_account day e) → IsIn (credit_account day e) (accounts_of day e)
credit_named day e h = into_right (credit_account day e) (option_to_list (account_named day e.debit)) (option_to_list (account_named day e.credit)) (named day (account_named day e.credit) h)

part_among : (day : Day) (o : Option Entry) (m : Move) → IsIn m (moves_of_part day o) → InRange day m → IsAmong (accounts_of_part day o) m
part_among day None m i r = absurd i
part_among day (Some e) m (inr i) r = absurd i
part_among day (Some e) m (inl q) r =
    let s : InRange day (move_of day e) = subst (InRange day) (sym q) r in
    subst (IsAmong (accounts_of day e)) q (debit_named day e s.0, credit_named day e s.1)

transfer_among : (day : Day) (o : Option Entry) (m : Move) → IsIn m (transfer_moves day o) → InRange day m → IsAmong (accounts_of_part day o) m
transfer_among day None m i r = absurd i
transfer_among day (Some e) m (inr i) r = absurd i
transfer_among day (Some e) m (inl q) r =
    let s : InRange day (move_of day e) = subst (InRange day) (sym q) r in
    subst (IsAmong (accounts_of day e)) q (debit_named day e s.0, credit_named day e s.1)

-- ---- entries of the message

pub from_turn : (available : ℕ) (es : List Entry) (e : Entry) → IsIn e (afforded_in_order available es) → IsIn e es
from_turn available [] e i = absurd i
from_turn available (x ∷ es) e i = here (nat_lt available x.amount) i (from_turn available es e) (from_turn (available - x.amount) es e)
  where
    here : (b : Bool) → IsIn e (elim b [ true ↦ afforded_in_order available es | false ↦ x ∷ afforded_in_order (available - x.amount) es ]) → (IsIn e (afforded_in_order available es) → IsIn e es) → (IsIn e (afforded_in_order (available - x.amount) es) → IsIn e es) → IsIn e (x ∷ es)
    here true i f g = inr (f i)
    here false (inl q) f g = inl q
    here false (inr i) f g = inr (g i)

from_count : (s : ℕ) (es : List Entry) (x : ℕ × Entry) → IsIn x (enumerate_from s es) → IsIn x.1 es
from_count s [] x i = absurd i
from_count s (e ∷ es) x (inl q) = inl (ap (λ (y : ℕ × Entry). y.1) q)
from_count s (e ∷ es) x (inr i) = inr (from_count (s + 1) es x i)

pub from_both : {X : Type 0} (xs ys : List X) (x : X) → IsIn x (xs ++ ys) → IsIn x xs ⊎ IsIn x ys
from_both [] ys x i = inr i
from_both (z ∷ xs) ys x (inl e) = inl (inl e)
from_both (z ∷ xs) ys x (inr i) = elim (from_both xs ys x i) [ inl j ↦ inl (inr j) | inr j ↦ inr j ]

module _ (day : Day) (n : ℕ) where
  of_entry : (a : ℕ) (e : Entry) → IsIn e (entries day n) → IsIn a (accounts_of day e) → IsIn a (accounts_of_message day n)
  of_entry a e i k = into_left a (flat_map (accounts_of day) (entries day n) ++ accounts_of_part day (payment_of (sort_of day n) day n)) (if is_batch (sort_of day n) then option_to_list (fund_of day n) else []) (into_left a (flat_map (accounts_of day) (entries day n)) (accounts_of_part day (payment_of (sort_of day n) day n)) (into_flat (accounts_of day) (entries day n) e a i k))

  of_fund : is_batch (sort_of day n) ≡ true → IsAccount day (fund_account day n) → IsIn (fund_account day n) (accounts_of_message day n)
  of_fund b h = into_right (fund_account day n) (flat_map (accounts_of day) (entries day n) ++ accounts_of_part day (payment_of (sort_of day n) day n)) (if is_batch (sort_of day n) then option_to_list (fund_of day n) else [])
      (subst (IsIn (fund_account day n)) (sym (cond-true (is_batch (sort_of day n)) (option_to_list (fund_of day n)) [] b)) (named day (fund_of day n) h))

  entry_move : (e : Entry) → IsIn e (entries day n) → InRange day (move_of day e) → IsAmong (accounts_of_message day n) (move_of day e)
  entry_move e i r = (of_entry _ e i (debit_named day e r.0), of_entry _ e i (credit_named day e r.1))

  -- the technical account is that of the debit entries
  technical_is : (e : Entry) → is_debit_entry day n e ≡ true → credit_account day e ≡ technical_account day n
  technical_is e d = same_numbers (account_named day e.credit) (technical_of day n) d

  of_technical : (e : Entry) → IsIn e (entries day n) → is_debit_entry day n e ≡ true → IsAccount day (technical_account day n) → IsIn (technical_account day n) (accounts_of_message day n)
  of_technical e i d h = of_entry (technical_account day n) e i (subst (λ a. IsIn a (accounts_of day e)) (technical_is e d) (credit_named day e (subst (IsAccount day) (sym (technical_is e d)) h)))

  pub chosen : (test : ℕ → Bool) (e : Entry) → IsIn e (debit_entries_by day n test) → IsIn e (entries day n) × (is_debit_entry day n e ≡ true)
  chosen test e i =
      let x = from_map (λ (x : ℕ × Entry). x.1) (filter (λ (x : ℕ × Entry). is_debit_entry day n x.1 && test x.0) (counted_entries day n)) e i in
      let f = from_filter (λ (x : ℕ × Entry). is_debit_entry day n x.1 && test x.0) (counted_entries day n) x.0 x.1 in
      (subst (λ e. IsIn e (entries day n)) x.2 (from_count 1 (entries day n) x.0 f.0), subst (λ e. is_debit_entry day n e ≡ true) x.2 (and_parts (is_debit_entry day n x.0.1) (test x.0.0) f.1).0)

  whole_among : (pick : Entry → Bool) (m : Move) → IsIn m (map (move_of day) (filter pick (entries day n))) → InRange day m → IsAmong (accounts_of_message day n) m
  whole_among pick m i r =
      let x = from_map (move_of day) (filter pick (entries day n)) m i in
      subst (IsAmong (accounts_of_message day n)) x.2 (entry_move x.0 (from_filter pick (entries day n) x.0 x.1).0 (subst (InRange day) (sym x.2) r))

  all_among : (m : Move) → IsIn m (map (move_of day) (debit_entries day n) ++ map (move_of day) (credit_entries day n)) → InRange day m → IsAmong (accounts_of_message day n) m
  all_among m i r = elim (from_both (map (move_of day) (debit_entries day n)) (map (move_of day) (credit_entries day n)) m i) [
    | inl j ↦ whole_among (is_debit_entry day n) m j r
    | inr j ↦ whole_among (is_credit_entry day n) m j r
  ]

  reversal_among : (s : Sort) (J : History) (m : Move) → IsIn m (reversal s day J n) → InRange day m → IsAmong (accounts_of_message day n) m
  reversal_among BatchA J m i r =
      let x = from_map (return_of day n) (debit_entries_by day n (is_booked J n)) m i in
      let c = chosen (is_booked J n) x.0 x.1 in
      let s : InRange day (return_of day n x.0) = subst (InRange day) (sym x.2) r in
      subst (IsAmong (accounts_of_message day n)) x.2 (of_technical x.0 c.0 c.1 s.0, of_entry _ x.0 c.0 (debit_named day x.0 s.1))
  reversal_among _ J m i r = absurd i

  cover_move : (e : Entry) → is_batch (sort_of day n) ≡ true → IsIn e (entries day n) → is_debit_entry day n e ≡ true → InRange day (cover_of day n e) → IsAmong (accounts_of_message day n) (cover_of day n e)
  cover_move e b i d r = (of_fund b r.0, of_technical e i d r.1)

  cover_among : (s : Sort) (J : History) (m : Move) → sort_of day n ≡ s → IsIn m (cover_moves s day J n) → InRange day m → IsAmong (accounts_of_message day n) m
  cover_among BatchA J m q i r =
      let x = from_map (cover_of day n) (debit_entries_by day n (λ k. not (is_booked J n k))) m i in
      let c = chosen (λ k. not (is_booked J n k)) x.0 x.1 in
      subst (IsAmong (accounts_of_message day n)) x.2 (cover_move x.0 (ap is_batch q) c.0 c.1 (subst (InRange day) (sym x.2) r))
  cover_among BatchB J m q i r = elim (from_both (map (covered_debit day J n) (debit_entries day n)) (map (move_of day) (credit_entries day n)) m i) [
    | inl j ↦ by_debit (from_map (covered_debit day J n) (debit_entries day n) m j)
    | inr j ↦ whole_among (is_credit_entry day n) m j r
  ]
    where
      either : (b : Bool) (e : Entry) → IsIn e (entries day n) → is_debit_entry day n e ≡ true → InRange day (if b then cover_of day n e else move_of day e) → IsAmong (accounts_of_message day n) (if b then cover_of day n e else move_of day e)
      either true e i d r = cover_move e (ap is_batch q) i d r
      either false e i d r = entry_move e i r

      by_debit : (e : Entry) × IsIn e (debit_entries day n) × (covered_debit day J n e ≡ m) → IsAmong (accounts_of_message day n) m
      by_debit x =
          let f = from_filter (is_debit_entry day n) (entries day n) x.0 x.1 in
          subst (IsAmong (accounts_of_message day n)) x.2 (either (is_short_debtor day J n (debit_account day x.0)) x.0 f.0 f.1 (subst (InRange day) (sym x.2) r))
  cover_among _ J m q i r = absurd i

  taken_among : (s : Sort) (J : History) (m : Move) → IsIn m (moves_as s day J n) → InRange day m → IsAmong (accounts_taken s day n) m
  taken_among Liquidity J m i r = transfer_among day (transfer day n) m i r
  taken_among BatchD J m i r =
      let x = from_map (move_of day) (afforded_in_order (balance day J (technical_account day n)) (entries day n)) m i in
      let s : InRange day (move_of day x.0) = subst (InRange day) (sym x.2) r in
      let e : IsIn x.0 (entries day n) = from_turn (balance day J (technical_account day n)) (entries day n) x.0 x.1 in
      subst (IsAmong (flat_map (accounts_of day) (entries day n))) x.2 (into_flat (accounts_of day) (entries day n) x.0 _ e (debit_named day x.0 s.0), into_flat (accounts_of day) (entries day n) x.0 _ e (credit_named day x.0 s.1))
  taken_among _ J m i r = absurd i

  intake_among : (code : Code) (J : History) (m : Move) → IsIn m (intake_moves day J n code) → InRange day m → IsAmong (accounts_taken (sort_of day n) day n) m
  intake_among line_codes.Ok J m i r = taken_among (sort_of day n) J m i r
  intake_among _ J m i r = absurd i

sweep_among : (day : Day) (J : History) (a : ℕ) (m : Move) → may_sweep day J a ≡ true → IsIn m (sweep_move day J a ∷ []) → InRange day m → IsAmong (if is_sub_account day a then a ∷ option_to_list (first_dca day (owner day a)) else []) m
sweep_among day J a m h (inr i) r = absurd i
sweep_among day J a m h (inl q) r =
    let sub : is_sub_account day a ≡ true = (and_parts (is_sub_account day a) _ (and_parts _ (nat_lt 0 (balance day J a)) h).0).0 in
    let s : InRange day (sweep_move day J a) = subst (InRange day) (sym q) r in
    let c : IsAmong (a ∷ option_to_list (first_dca day (owner day a))) (sweep_move day J a) = (inl refl, inr (named day (first_dca day (owner day a)) s.1)) in
    subst (λ these. IsAmong these m) (sym (cond-true (is_sub_account day a) (a ∷ option_to_list (first_dca day (owner day a))) [] sub)) (subst (IsAmong (a ∷ option_to_list (first_dca day (owner day a)))) q c)

-- ---- every line

line_among : (kind : Kind) (day : Day) (J : History) (n k : ℕ) (code : Code) (moves : List Move) → MovesInRange day moves → Made kind day J n k code moves → (m : Move) → IsIn m moves → IsAmong (accounts_of_want day (want_as kind n k)) m
line_among kinds.In day J n k code moves r h m i = intake_among day n (intake_code day J n) J m (subst (IsIn m) h.2 i) (in_range day moves m r i)
line_among kinds.Book day J n k code moves r h m i = part_among day (part day n k) m (subst (IsIn m) h.2 i) (in_range day moves m r i)
line_among kinds.All day J n k code moves r h m i = all_among day n m (subst (IsIn m) h.2 i) (in_range day moves m r i)
line_among kinds.Expire day J n k code moves r h m i = reversal_among day n (sort_of day n) J m (subst (IsIn m) h.2 i) (in_range day moves m r i)
line_among kinds.Refuse day J n k code moves r h m i = reversal_among day n (sort_of day n) J m (subst (IsIn m) h.2 i) (in_range day moves m r i)
line_among kinds.Cover day J n k code moves r h m i = cover_among day n (sort_of day n) J m refl (subst (IsIn m) h.2 i) (in_range day moves m r i)
line_among kinds.Sweep day J n k code moves r h m i = sweep_among day J k m h.0 (subst (IsIn m) h.2 i) (in_range day moves m r i)
line_among kinds.Ask day J n k code moves r h m i = absurd (subst (IsIn m) h.2 i)
line_among kinds.Time day J n k code moves r h m i = absurd (subst (IsIn m) h.2 i)
line_among kinds.End day J n k code moves r h m i = absurd (subst (IsIn m) h.2 i)

touches : (day : Day) → SubsHaveDca day → (J : History) → IsLegal day J → EachLine (TouchesItsAccounts day) J
touches day subs [] legal = tt
touches day subs (l ∷ J) legal =
    let m : Made l.head.kind day J l.head.msg l.head.entry l.head.code l.moves = (made_facts day J l legal.1).1 in
    (touches day subs J legal.0, each_among _ l.moves (line_among l.head.kind day J l.head.msg l.head.entry l.head.code l.moves (line_in_range l.head.kind day J l.head.msg l.head.entry l.head.code l.moves subs legal.0 m) m))

pub touches_its_accounts : (day : Day) (J : History) → is_sound day ≡ true → IsLegal day J → EachLine (TouchesItsAccounts day) J
touches_its_accounts day J sound legal = touches day (subs_have_dca day sound) J legal
