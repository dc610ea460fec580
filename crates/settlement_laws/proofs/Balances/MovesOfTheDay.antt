-- Each move of a legal line is between two accounts of the day.
use Rattle.std.proofs.Common.{◌≡◌, ℕ, zero, suc, ◌+◌, ◌-◌, ◌<◌, Bool, true, false, not, ◌&&◌, ◌||◌, List, [], ◌∷◌, ◌++◌, Option, Some, None, refl, sym, subst, arith, cond, ◌⊎◌, inl, inr}
use Rattle.std.specs.Prelude.{is_some, is_none, nat_lt, nat_eq, if◌then◌else◌, map, filter, unwrap_or, length, slice_get}
use Rattle.std.specs.List.{list_all, enumerate_from}
use Rattle.std.specs.Option.{option_or}
use Rattle.batch_records.specs.DayRecord.{Day}
use Rattle.batch_records.specs.declared.day.Entry.{Entry}
use Rattle.commit_journal.specs.declared.line.Move.{Move}
use Rattle.commit_journal.specs.declared.line.Code.{Code}
use Rattle.commit_journal.specs.declared.line.Code.TheVariants as line_codes
use Rattle.commit_journal.specs.declared.line.Kind.{Kind}
use Rattle.commit_journal.specs.declared.line.Kind.TheVariants as kinds
use Rattle.commit_journal.specs.Line.{History}
use Rattle.machine.specs.declared.answers.Phase.{Phase}
use Rattle.machine.specs.declared.answers.Phase.TheVariants as phases
use Rattle.machine.specs.Words.{some_passes, same_account, same_name, when, first_some, is_fund, is_dca}
use Rattle.machine.specs.Records.Setup.{account_named, account_at, fund, first_dca, owner, is_sub_account, is_dca_of, is_sub_of, is_dca_account}
use Rattle.machine.specs.Records.Messages.{Sort, Pay, BatchA, BatchB, BatchC, BatchD, BatchE, Liquidity, sort_of, sender, entries, entry_at, part, transfer, move_of, debit_account, technical_of, technical_account, fund_of, fund_account, is_debit_entry, is_credit_entry, is_credit, debit_entries, credit_entries, is_b, is_a_or_b, is_batch}
use Rattle.machine.specs.Telling.History.{is_ok, is_accepted, asked, is_ask_of, is_ask, place_of, clock}
use Rattle.machine.specs.Stages.Intake.{intake_code, intake_moves, moves_as, transfer_moves, entry_fits, afforded_in_order, payment_fits, liquidity_fits, accounts_are_wrong, is_technical_d}
use Rattle.machine.specs.Stages.Phases.{phase, is_booked, is_open, is_covered, is_overdue, is_answered, is_asking}
use Rattle.machine.specs.Stages.Pending.{is_pending, pending_as, is_next_of_a, first_unbooked_debit}
use Rattle.machine.specs.Making.Lines.{may_ask, may_book, may_cover, may_settle_whole, may_sweep, may_expire, refusal, moves_of_part, return_of, reversal, cover_moves, cover_of, covered_debit, is_short_debtor, sweep_move, may_lapse, fund_suffices}
use Rattle.machine.specs.Legal.{IsLegal}
use Rattle.machine.proofs.Lists.{all_get}
use Rattle.settlement_laws.proofs.Base.Made.{Made, made_facts, made_ask}
use Rattle.settlement_laws.proofs.Base.IntakeFacts.{IsPassed, passed_intake, accepted_taken}
use Rattle.settlement_laws.proofs.Base.Numbers.{FoundAt, position_found}
use Rattle.settlement_laws.proofs.Base.PhaseLaws.{is_going, going_accepted, answered_asked, open_going, overdue_going, answered_going}
use Rattle.std.proofs.lemmas.Bool.{eqb-true, not-false, or_cases, and_parts}
use Rattle.std.proofs.lemmas.Grind.{common_steps}
use Rattle.std.proofs.lemmas.Option.{same_Some}
use Rattle.settlement_laws.proofs.Base.Counting.{when_some, passes_some}

-- a is the number of an account
abbrev pub IsAccount : Day → ℕ → Type 0
IsAccount day a = (j : ℕ) × (a ≡ 1 + j) × (j < length day.accounts)

abbrev pub InRange : Day → Move → Type 0
InRange day m = IsAccount day m.debit × IsAccount day m.credit

abbrev pub MovesInRange : Day → List Move → Type 0
MovesInRange day [] = Unit {0}
MovesInRange day (m ∷ moves) = InRange day m × MovesInRange day moves

-- ---- names of accounts

named_account : (day : Day) (o : Option ℕ) → ((a : ℕ) → o ≡ Some a → IsAccount day a) → is_some o ≡ true → IsAccount day (unwrap_or o 0)
named_account day None h k = cc
named_account day (Some a) h k = h a refl

name_is_account : (day : Day) (name : List ℕ) → is_some (account_named day name) ≡ true → IsAccount day (unwrap_or (account_named day name) 0)
name_is_account day name = named_account day (account_named day name) (λ a e.
    let f : FoundAt (λ r. same_name r.name name) 1 day.accounts a = position_found (λ r. same_name r.name name) 1 day.accounts a e in
    (f.place, f.number, f.within))

abbrev pub IsNamed : Day → Entry → Type 0
IsNamed day e = (is_some (account_named day e.debit) ≡ true) × (is_some (account_named day e.credit) ≡ true)

move_in_range : (day : Day) (e : Entry) → IsNamed day e → InRange day (move_of day e)
move_in_range day e h = (name_is_account day e.debit h.0, name_is_account day e.credit h.1)

same_some : (x y : Option ℕ) → same_account x y ≡ true → is_some x ≡ true
same_some None y h = cc
same_some (Some a) y h = refl

pub same_value : (x y : Option ℕ) → same_account x y ≡ true → is_some y ≡ true
same_value None y h = cc
same_value (Some a) None h = cc
same_value (Some a) (Some b) h = refl

pub forms : (a c d b : Bool) → (a && c || d && b) ≡ true → ((a ≡ true) × (c ≡ true)) ⊎ ((d ≡ true) × (b ≡ true))
forms true true d b h = inl (refl, refl)
forms true false true true h = inr (refl, refl)
forms true false true false h = cc
forms true false false b h = cc
forms false c true true h = inr (refl, refl)
forms false c true false h = cc
forms false c false b h = cc

-- ---- entries of the right form name two accounts

two_forms : (day : Day) (e : Entry) (x y : Option ℕ) (a b : Bool) → (a ≡ true → is_some (account_named day e.debit) ≡ true) → (b ≡ true → is_some (account_named day e.credit) ≡ true) →
    (a && same_account (account_named day e.credit) x || same_account (account_named day e.debit) y && b) ≡ true → IsNamed day e
two_forms day e x y a b f g h = elim (forms a (same_account (account_named day e.credit) x) (same_account (account_named day e.debit) y) b h) [
  | inl l ↦ (f l.0, same_some (account_named day e.credit) x l.1)
  | inr r ↦ (same_some (account_named day e.debit) y r.0, g r.1)
]

pub fits_named : (s : Sort) (day : Day) (n : ℕ) (e : Entry) → is_batch s ≡ true → entry_fits s day n e ≡ true → IsNamed day e
fits_named BatchA day n e k h = two_forms day e _ _ _ _ (passes_some _ (account_named day e.debit)) (passes_some _ (account_named day e.credit)) h
fits_named BatchB day n e k h = two_forms day e _ _ _ _ (passes_some _ (account_named day e.debit)) (passes_some _ (account_named day e.credit)) h
fits_named BatchC day n e k h = two_forms day e _ _ _ _ (passes_some _ (account_named day e.debit)) (passes_some _ (account_named day e.credit)) h
fits_named BatchD day n e k h = (same_some _ _ (and_parts _ _ h).0, passes_some _ (account_named day e.credit) (and_parts _ _ h).1)
fits_named BatchE day n e k h = let b = and_parts _ _ (and_parts _ _ h).0 in (passes_some _ (account_named day e.debit) b.0, passes_some _ (account_named day e.credit) b.1)
fits_named _ day n e k h = cc

-- ---- what an accepted message names

pub accepted_fits : (day : Day) (J : History) (n : ℕ) → IsLegal day J → is_accepted J n ≡ true → list_all (entry_fits (sort_of day n) day n) (entries day n) ≡ true
accepted_fits day J n legal h = not-false _ (accepted_taken day J n legal h).passed_then.entries_right

pub accepted_accounts : (day : Day) (J : History) (n : ℕ) → IsLegal day J → is_accepted J n ≡ true → accounts_are_wrong (sort_of day n) day n ≡ false
accepted_accounts day J n legal h = (accepted_taken day J n legal h).passed_then.accounts_right

-- ---- moves of lists of entries

map_in_range : (day : Day) (f : Entry → Move) (test : Entry → Bool) → ((e : Entry) → test e ≡ true → InRange day (f e)) → (es : List Entry) → list_all test es ≡ true → MovesInRange day (map f es)
map_in_range day f test h [] k = tt
map_in_range day f test h (e ∷ es) k = let b = and_parts (test e) (list_all test es) k in (h e b.0, map_in_range day f test h es b.1)

pub append_in_range : (day : Day) (xs ys : List Move) → MovesInRange day xs → MovesInRange day ys → MovesInRange day (xs ++ ys)
append_in_range day [] ys h k = k
append_in_range day (x ∷ xs) ys h k = (h.0, append_in_range day xs ys h.1 k)

filter_in_range : (day : Day) (f : Entry → Move) (test pick : Entry → Bool) → ((e : Entry) → test e ≡ true → pick e ≡ true → InRange day (f e)) → (es : List Entry) → list_all test es ≡ true → MovesInRange day (map f (filter pick es))
filter_in_range day f test pick h [] k = tt
filter_in_range day f test pick h (e ∷ es) k = let b = and_parts (test e) (list_all test es) k in here (pick e) refl b.0 (filter_in_range day f test pick h es b.1)
  where
    here : (p : Bool) → pick e ≡ p → test e ≡ true → MovesInRange day (map f (filter pick es)) → MovesInRange day (map f (cond p (e ∷ filter pick es) (filter pick es)))
    here true q t rest = (h e t q, rest)
    here false q t rest = rest

counted_in_range : (day : Day) (f : Entry → Move) (test pick : Entry → Bool) (more : ℕ → Bool) → ((e : Entry) → test e ≡ true → pick e ≡ true → InRange day (f e)) → (s : ℕ) (es : List Entry) → list_all test es ≡ true →
    MovesInRange day (map f (map (λ (x : ℕ × Entry). x.1) (filter (λ (x : ℕ × Entry). pick x.1 && more x.0) (enumerate_from s es))))
counted_in_range day f test pick more h s [] k = tt
counted_in_range day f test pick more h s (e ∷ es) k = let b = and_parts (test e) (list_all test es) k in here (pick e) (more s) refl b.0 (counted_in_range day f test pick more h (s + 1) es b.1)
  where
    rest : List (ℕ × Entry)
    rest = filter (λ (x : ℕ × Entry). pick x.1 && more x.0) (enumerate_from (s + 1) es)

    here : (p q : Bool) → pick e ≡ p → test e ≡ true → MovesInRange day (map f (map (λ (x : ℕ × Entry). x.1) rest)) →
        MovesInRange day (map f (map (λ (x : ℕ × Entry). x.1) (cond (p && q) ((s, e) ∷ rest) rest)))
    here true true e t r = (h _ t e, r)
    here true false e t r = r
    here false q e t r = r

turn_in_range : (day : Day) (f : Entry → Move) (test : Entry → Bool) → ((e : Entry) → test e ≡ true → InRange day (f e)) → (available : ℕ) (es : List Entry) → list_all test es ≡ true → MovesInRange day (map f (afforded_in_order available es))
turn_in_range day f test h available [] k = tt
turn_in_range day f test h available (e ∷ es) k = let b = and_parts (test e) (list_all test es) k in here (nat_lt available e.amount) b.0 (turn_in_range day f test h available es b.1) (turn_in_range day f test h (available - e.amount) es b.1)
  where
    here : (p : Bool) → test e ≡ true → MovesInRange day (map f (afforded_in_order available es)) → MovesInRange day (map f (afforded_in_order (available - e.amount) es)) →
        MovesInRange day (map f (elim p [ true ↦ afforded_in_order available es | false ↦ e ∷ afforded_in_order (available - e.amount) es ]))
    here true t r s = r
    here false t r s = (h e t, s)

-- ---- the technical account and the fund

-- a debit entry pays to the technical account
technical_in_range : (day : Day) (n : ℕ) (e : Entry) → is_debit_entry day n e ≡ true → IsAccount day (technical_account day n)
technical_in_range day n e h = subst (IsAccount day) (same_numbers (account_named day e.credit) (technical_of day n) h) (name_is_account day e.credit (same_some (account_named day e.credit) (technical_of day n) h))
  where
    same_numbers : (x y : Option ℕ) → same_account x y ≡ true → unwrap_or x 0 ≡ unwrap_or y 0
    same_numbers None y h = cc
    same_numbers (Some a) None h = cc
    same_numbers (Some a) (Some b) h = eqb-true a b h

fund_in_range : (day : Day) (n : ℕ) → is_some (fund_of day n) ≡ true → IsAccount day (fund_account day n)
fund_in_range day n = named_account day (fund_of day n) (λ a e.
    let f : FoundAt (λ r. is_fund r.kind && same_name r.owner (sender day n)) 1 day.accounts a = position_found (λ r. is_fund r.kind && same_name r.owner (sender day n)) 1 day.accounts a e in
    (f.place, f.number, f.within))

pub asked_fund : (day : Day) (J : History) (n : ℕ) → IsLegal day J → is_some (asked J n) ≡ true → is_some (fund_of day n) ≡ true
unfolding place_of
asked_fund day [] n legal h = cc
asked_fund day (l ∷ J) n legal h = here (asked J n) (asked_fund day J n legal.0) h
  where
    here : (o : Option ℕ) → (is_some o ≡ true → is_some (fund_of day n) ≡ true) → is_some (option_or o (when (is_ask_of n l) (suc (length J)))) ≡ true → is_some (fund_of day n) ≡ true
    here (Some i) before h = before h
    here None before h =
        let b = and_parts (is_ask l.head.kind) (nat_eq l.head.msg n) (when_some (is_ask_of n l) (suc (length J)) h) in
        let m : may_ask day J l.head.msg ≡ true = made_ask l.head.kind day J _ _ _ _ b.0 (made_facts day J l legal.1).1 in
        subst (λ x. is_some (fund_of day x) ≡ true) (eqb-true l.head.msg n b.1) (and_parts (is_a_or_b (sort_of day l.head.msg) && is_overdue (phase day J l.head.msg)) _ (and_parts _ (nat_lt (clock J) 86400) m).0).1

-- ---- each sort of line

transfer_in_range : (day : Day) (e : Option Entry) (test : Entry → Bool) → ((e : Entry) → test e ≡ true → IsNamed day e) → some_passes test e ≡ true → MovesInRange day (transfer_moves day e)
transfer_in_range day None test h k = tt
transfer_in_range day (Some e) test h k = (move_in_range day e (h e k), tt)

liquidity_named : (day : Day) (bank : List ℕ) (e : Entry) → liquidity_fits day bank e ≡ true → IsNamed day e
liquidity_named day bank e h = elim (or_cases (is_dca_of day bank e.debit && is_sub_of day bank e.credit || is_sub_of day bank e.debit && is_dca_of day bank e.credit) (is_dca_of day bank e.debit && is_technical_d day e.credit) h) [
  | inl l ↦ elim (forms (is_dca_of day bank e.debit) (is_sub_of day bank e.credit) (is_sub_of day bank e.debit) (is_dca_of day bank e.credit) l) [
    | inl p ↦ (passes_some _ (account_named day e.debit) p.0, passes_some _ (account_named day e.credit) p.1)
    | inr p ↦ (passes_some _ (account_named day e.debit) p.0, passes_some _ (account_named day e.credit) p.1)
  ]
  | inr r ↦ let b = and_parts (is_dca_of day bank e.debit) (is_technical_d day e.credit) r in (passes_some _ (account_named day e.debit) b.0, passes_some _ (account_named day e.credit) b.1)
]

payment_named : (day : Day) (bank : List ℕ) (e : Entry) → payment_fits day bank e ≡ true → IsNamed day e
payment_named day bank e h =
    let b = and_parts (is_dca_of day bank e.debit) (is_dca_account day e.credit) (and_parts _ _ h).0 in
    (passes_some _ (account_named day e.debit) b.0, passes_some _ (account_named day e.credit) b.1)

intake_as_in_range : (s : Sort) (day : Day) (J : History) (n : ℕ) → accounts_are_wrong s day n ≡ false → list_all (entry_fits s day n) (entries day n) ≡ true → MovesInRange day (moves_as s day J n)
intake_as_in_range Liquidity day J n h k = transfer_in_range day (transfer day n) _ (liquidity_named day (sender day n)) (not-false _ h)
intake_as_in_range BatchD day J n h k = turn_in_range day (move_of day) (entry_fits BatchD day n) (λ e f. move_in_range day e (fits_named BatchD day n e refl f)) _ (entries day n) k
intake_as_in_range _ day J n h k = tt

intake_in_range : (code : Code) (day : Day) (J : History) (n : ℕ) → (is_ok code ≡ true → IsPassed day J n) → MovesInRange day (intake_moves day J n code)
intake_in_range line_codes.Ok day J n h = intake_as_in_range (sort_of day n) day J n (h refl).accounts_right (not-false _ (h refl).entries_right)
intake_in_range _ day J n h = tt

part_in_range : (day : Day) (e : Option Entry) → ((x : Entry) → e ≡ Some x → IsNamed day x) → MovesInRange day (moves_of_part day e)
part_in_range day None h = tt
part_in_range day (Some e) h = (move_in_range day e (h e refl), tt)

-- ---- Book

a_going : (o v d r u b c : Bool) → (o && d || v && r && b) ≡ true → (o || v) ≡ true
a_going o v d r u b c h = grind (arith, common_steps)

pub pending_going : (s : Sort) (day : Day) (J : History) (n k : ℕ) (p : Phase) → pending_as s day J n k p ≡ true → is_going p ≡ true
pending_going Pay day J n k p h = open_going p (and_parts _ _ h).1
pending_going BatchA day J n k p h = here p (a_going (is_open p) (is_covered p) (is_next_of_a day J n k) (is_credit day n k) true (not (is_booked J n k)) true h)
  where
    here : (p : Phase) → (is_open p || is_covered p) ≡ true → is_going p ≡ true
    here phases.Open h = refl
    here phases.Covered h = refl
    here _ h = cc
pending_going BatchB day J n k p h = open_going p (and_parts _ _ h).1
pending_going BatchC day J n k p h = open_going p (and_parts (is_some (entry_at day n k)) _ (and_parts _ _ h).0).1
pending_going BatchE day J n k p h = open_going p (and_parts (is_some (entry_at day n k)) _ (and_parts _ _ (and_parts _ _ h).0).0).1
pending_going _ day J n k p h = cc

pub some_holds : {X : Type 0} (test : X → Bool) (o : Option X) (x : X) → some_passes test o ≡ true → o ≡ Some x → test x ≡ true
some_holds test None x h e = cc
some_holds test (Some y) x h e = subst (λ z. test z ≡ true) (same_Some y x e) h

pub no_entry_zero : (o v b u : Bool) → (o && (b && (false || false && u)) || v && false && b) ≡ true → ⊥
no_entry_zero o v b u h = grind (arith, common_steps)

entry_named : (s : Sort) (day : Day) (n k : ℕ) (x : Entry) → is_batch s ≡ true → list_all (entry_fits s day n) (entries day n) ≡ true → entry_at day n (suc k) ≡ Some x → IsNamed day x
entry_named s day n k x b f e = fits_named s day n x b (all_get (entry_fits s day n) (entries day n) k x f e)

booked_named : (s : Sort) (day : Day) (J : History) (n k : ℕ) (p : Phase) → pending_as s day J n k p ≡ true → not (is_b s) ≡ true → accounts_are_wrong s day n ≡ false → list_all (entry_fits s day n) (entries day n) ≡ true →
    (x : Entry) → part day n k ≡ Some x → IsNamed day x
booked_named Pay day J n zero p h b a f x e = payment_named day (sender day n) x (some_holds (payment_fits day (sender day n)) (transfer day n) x (not-false _ a) e)
booked_named Pay day J n (suc k) p h b a f x e = cc
booked_named BatchA day J n zero p h b a f x e = absurd (no_entry_zero (is_open p) (is_covered p) (not (is_booked J n 0)) (is_none (first_unbooked_debit day J n)) h)
booked_named BatchA day J n (suc k) p h b a f x e = entry_named BatchA day n k x refl f e
booked_named BatchC day J n zero p h b a f x e = cc
booked_named BatchC day J n (suc k) p h b a f x e = entry_named BatchC day n k x refl f e
booked_named BatchE day J n zero p h b a f x e = cc
booked_named BatchE day J n (suc k) p h b a f x e = entry_named BatchE day n k x refl f e
booked_named _ day J n k p h b a f x e = cc

book_in_range : (day : Day) (J : History) (n k : ℕ) → IsLegal day J → may_book day J n k ≡ true → MovesInRange day (moves_of_part day (part day n k))
unfolding is_pending
book_in_range day J n k legal h =
    let b = and_parts (pending_as (sort_of day n) day J n k (phase day J n)) (not (is_b (sort_of day n))) (and_parts _ _ h).0 in
    let ok : is_accepted J n ≡ true = going_accepted day J n (pending_going (sort_of day n) day J n k (phase day J n) b.0) in
    part_in_range day (part day n k) (booked_named (sort_of day n) day J n k (phase day J n) b.0 b.1 (accepted_accounts day J n legal ok) (accepted_fits day J n legal ok))

-- ---- All

pub b_is_batch : (s : Sort) → is_b s ≡ true → is_batch s ≡ true
b_is_batch BatchB h = refl
b_is_batch _ h = cc

entries_in_range : (day : Day) (n : ℕ) (pick : Entry → Bool) → is_batch (sort_of day n) ≡ true → list_all (entry_fits (sort_of day n) day n) (entries day n) ≡ true → MovesInRange day (map (move_of day) (filter pick (entries day n)))
entries_in_range day n pick b f = filter_in_range day (move_of day) (entry_fits (sort_of day n) day n) pick (λ e t q. move_in_range day e (fits_named (sort_of day n) day n e b t)) (entries day n) f

all_in_range : (day : Day) (J : History) (n : ℕ) → IsLegal day J → may_settle_whole day J n ≡ true → MovesInRange day (map (move_of day) (debit_entries day n) ++ map (move_of day) (credit_entries day n))
unfolding is_pending
all_in_range day J n legal h =
    let b = and_parts (is_b (sort_of day n)) (pending_as (sort_of day n) day J n 0 (phase day J n)) (and_parts _ _ (and_parts _ _ h).0).0 in
    let ok : is_accepted J n ≡ true = going_accepted day J n (pending_going (sort_of day n) day J n 0 (phase day J n) b.1) in
    let f : list_all (entry_fits (sort_of day n) day n) (entries day n) ≡ true = accepted_fits day J n legal ok in
    append_in_range day _ _ (entries_in_range day n (is_debit_entry day n) (b_is_batch (sort_of day n) b.0) f) (entries_in_range day n (is_credit_entry day n) (b_is_batch (sort_of day n) b.0) f)

-- ---- Expire, Refuse, Cover

reversal_in_range : (s : Sort) (day : Day) (J : History) (n : ℕ) → list_all (entry_fits s day n) (entries day n) ≡ true → MovesInRange day (reversal s day J n)
reversal_in_range BatchA day J n f = counted_in_range day (return_of day n) (entry_fits BatchA day n) (is_debit_entry day n) (is_booked J n) (λ e t q. (technical_in_range day n e q, name_is_account day e.debit (fits_named BatchA day n e refl t).0)) 1 (entries day n) f
reversal_in_range _ day J n f = tt

cover_as_in_range : (s : Sort) (day : Day) (J : History) (n : ℕ) → IsAccount day (fund_account day n) → list_all (entry_fits s day n) (entries day n) ≡ true → MovesInRange day (cover_moves s day J n)
cover_as_in_range BatchA day J n fund f = counted_in_range day (cover_of day n) (entry_fits BatchA day n) (is_debit_entry day n) (λ k. not (is_booked J n k)) (λ e t q. (fund, technical_in_range day n e q)) 1 (entries day n) f
cover_as_in_range BatchB day J n fund f =
    append_in_range day _ _
    (filter_in_range day (covered_debit day J n) (entry_fits BatchB day n) (is_debit_entry day n) each (entries day n) f)
    (filter_in_range day (move_of day) (entry_fits BatchB day n) (is_credit_entry day n) (λ e t q. move_in_range day e (fits_named BatchB day n e refl t)) (entries day n) f)
  where
    either_way : (b : Bool) (x y : Move) → InRange day x → InRange day y → InRange day (if b then x else y)
    either_way true x y h k = h
    either_way false x y h k = k

    each : (e : Entry) → entry_fits BatchB day n e ≡ true → is_debit_entry day n e ≡ true → InRange day (covered_debit day J n e)
    each e t q = either_way (is_short_debtor day J n (debit_account day e)) (cover_of day n e) (move_of day e) (fund, technical_in_range day n e q) (move_in_range day e (fits_named BatchB day n e refl t))
cover_as_in_range _ day J n fund f = tt

expire_in_range : (day : Day) (J : History) (n : ℕ) → IsLegal day J → may_expire day J n ≡ true → MovesInRange day (reversal (sort_of day n) day J n)
expire_in_range day J n legal h =
    let o : is_overdue (phase day J n) ≡ true = (and_parts (may_lapse (sort_of day n)) (is_overdue (phase day J n)) (and_parts _ _ h).0).1 in
    reversal_in_range (sort_of day n) day J n (accepted_fits day J n legal (going_accepted day J n (overdue_going (phase day J n) o)))

pub refusal_going : (s : Bool) (p : Phase) (a f m : Bool) (gn gs ge code : Code) →
    first_some (when (s && is_answered p && not a) gn ∷ when ((s && is_answered p && a) && not f) gs ∷ when (s && is_asking p && m) ge ∷ []) ≡ Some code → is_going p ≡ true
refusal_going true phases.Answered a f m gn gs ge code h = refl
refusal_going true phases.Asking a f m gn gs ge code h = refl
refusal_going true _ a f m gn gs ge code h = cc
refusal_going false p a f m gn gs ge code h = cc

refuse_in_range : (day : Day) (J : History) (n : ℕ) (code : Code) → IsLegal day J → refusal day J n ≡ Some code → MovesInRange day (reversal (sort_of day n) day J n)
refuse_in_range day J n code legal h =
    reversal_in_range (sort_of day n) day J n (accepted_fits day J n legal (going_accepted day J n (refusal_going (is_a_or_b (sort_of day n)) (phase day J n) _ (fund_suffices day J n) _ _ _ _ code h)))

cover_in_range : (day : Day) (J : History) (n : ℕ) → IsLegal day J → may_cover day J n ≡ true → MovesInRange day (cover_moves (sort_of day n) day J n)
cover_in_range day J n legal h =
    let o : is_answered (phase day J n) ≡ true = (and_parts (is_a_or_b (sort_of day n)) (is_answered (phase day J n)) (and_parts _ _ (and_parts _ _ h).0).0).1 in
    cover_as_in_range (sort_of day n) day J n (fund_in_range day n (asked_fund day J n legal (answered_asked day J n o))) (accepted_fits day J n legal (going_accepted day J n (answered_going (phase day J n) o)))

-- ---- Sweep

pub numbered_account : (day : Day) (a : ℕ) → is_some (account_at day a) ≡ true → IsAccount day a
numbered_account day zero h = cc
numbered_account day (suc a) h = (a, omega arith, within day.accounts a h)
  where
    within : {X : Type 0} (xs : List X) (i : ℕ) → is_some (slice_get xs i) ≡ true → i < length xs
    within [] i h = cc
    within (x ∷ xs) zero h = omega arith
    within (x ∷ xs) (suc i) h = omega (arith, within xs i h)

-- the owner of a sub-account has a DCA: the setup is sound
abbrev pub SubsHaveDca : Day → Type 0
SubsHaveDca day = (a : ℕ) → is_sub_account day a ≡ true → is_some (first_dca day (owner day a)) ≡ true

dca_in_range : (day : Day) (bank : List ℕ) → is_some (first_dca day bank) ≡ true → IsAccount day (unwrap_or (first_dca day bank) 0)
dca_in_range day bank = named_account day (first_dca day bank) (λ a e.
    let f : FoundAt (λ r. is_dca r.kind && same_name r.owner bank) 1 day.accounts a = position_found (λ r. is_dca r.kind && same_name r.owner bank) 1 day.accounts a e in
    (f.place, f.number, f.within))

sweep_in_range : (day : Day) (J : History) (a : ℕ) → SubsHaveDca day → may_sweep day J a ≡ true → InRange day (sweep_move day J a)
sweep_in_range day J a subs h =
    let s : is_sub_account day a ≡ true = (and_parts (is_sub_account day a) _ (and_parts _ _ h).0).0 in
    (numbered_account day a (passes_some _ (account_at day a) s), dca_in_range day (owner day a) (subs a s))

-- ---- every line

pub line_in_range : (kind : Kind) (day : Day) (J : History) (n k : ℕ) (code : Code) (moves : List Move) → SubsHaveDca day → IsLegal day J → Made kind day J n k code moves → MovesInRange day moves
line_in_range kinds.In day J n k code moves subs legal m = subst (MovesInRange day) (sym m.2) (intake_in_range (intake_code day J n) day J n (passed_intake day J n))
line_in_range kinds.Book day J n k code moves subs legal m = subst (MovesInRange day) (sym m.2) (book_in_range day J n k legal m.0)
line_in_range kinds.All day J n k code moves subs legal m = subst (MovesInRange day) (sym m.2) (all_in_range day J n legal m.0)
line_in_range kinds.Expire day J n k code moves subs legal m = subst (MovesInRange day) (sym m.2) (expire_in_range day J n legal m.0)
line_in_range kinds.Refuse day J n k code moves subs legal m = subst (MovesInRange day) (sym m.2) (refuse_in_range day J n code legal m.0)
line_in_range kinds.Cover day J n k code moves subs legal m = subst (MovesInRange day) (sym m.2) (cover_in_range day J n legal m.0)
line_in_range kinds.Sweep day J n k code moves subs legal m = subst (MovesInRange day) (sym m.2) (sweep_in_range day J k subs m.0, tt)
line_in_range kinds.Ask day J n k code moves subs legal m = subst (MovesInRange day) (sym m.2) tt
line_in_range kinds.Time day J n k code moves subs legal m = subst (MovesInRange day) (sym m.2) tt
line_in_range kinds.End day J n k code moves subs legal m = subst (MovesInRange day) (sym m.2) tt
