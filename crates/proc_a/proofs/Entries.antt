-- What the reasons of an entry say, row by row.
use Rattle.std.proofs.Common.{◌≡◌, ℕ, zero, suc, Bool, true, false, not, ◌&&◌, ◌||◌, List, [], ◌∷◌, ◌++◌, Option, Some, None, refl, sym, ap, ◌∙◌, subst}
use Rattle.std.specs.Prelude.{is_some, is_none, nat_eq, flat_map, option_map, option_to_list, if◌then◌else◌}
use Rattle.std.specs.List.{list_all, list_any}
use Rattle.std.specs.Option.{option_or}
use Rattle.std.proofs.lemmas.Bool.{eq-eqb}
use Rattle.batch_records.specs.DayRecord.{Day}
use Rattle.batch_records.specs.declared.day.Entry.{Entry}
use Rattle.commit_journal.specs.declared.line.Want.TheVariants as wants
use Rattle.commit_journal.specs.Line.{History}
use Rattle.machine.specs.declared.answers.Phase.{Phase}
use Rattle.machine.specs.declared.answers.Phase.TheVariants as phases
use Rattle.machine.specs.declared.answers.Why.{Why}
use Rattle.machine.specs.declared.answers.Why.TheVariants as whys
use Rattle.machine.specs.Words.{first_some, only_if, unless, some_passes}
use Rattle.machine.specs.Records.Setup.{account_named}
use Rattle.machine.specs.Records.Messages.{Sort, BatchA, sort_of, is_a, is_b, is_e, is_batch, entries, entry_at, part, is_debit, is_credit, is_debit_entry, debit_account, fund_of}
use Rattle.machine.specs.Telling.History.{booked, covered, is_accepted}
use Rattle.machine.specs.Telling.Facts.{revoked}
use Rattle.machine.specs.Stages.Intake.{entry_fits}
use Rattle.machine.specs.Stages.Phases.{phase, is_booked, is_open, is_covered}
use Rattle.machine.specs.Stages.Pending.{item, is_pending, pending_as, is_next_of_a, first_unbooked_debit, stands_on, debit_accounts_as, debit_account_of_part}
use Rattle.machine.specs.Making.Lines.{is_covered_part, is_free_part, may_book}
use Rattle.machine.specs.Making.Reasons.{over, untaken, other_phase, is_open_or_covered, books, blocked_part, short_part, why_not_book, why_waits}
use Rattle.machine.specs.Making.Accounts.{accounts_of, accounts_of_part, accounts_of_message, payment_of}
use Rattle.rule_book.specs.Answering.{has_accounts}
use Rattle.machine.specs.Legal.{IsLegal}
use Rattle.machine.proofs.Lists.{all_get}
use Rattle.settlement_laws.proofs.Base.Lists.{all_in, into_left, into_flat}
use Rattle.settlement_laws.proofs.Base.PhaseLaws.{is_going, going_accepted, covered_there}
use Rattle.settlement_laws.proofs.Balances.MovesOfTheDay.{accepted_fits, fits_named}
use Rattle.proc_a.specs.Reasons.{why_not_pending}
use Rattle.machine.proofs.SortFacts.{a_is}
use Rattle.settlement_laws.proofs.Wants.Answering.{free_rows, pending-open, entry_in, debit_among}
use Rattle.proc_a.proofs.Reduced.{part-is}

-- ---- which entries are pending

pub pending-is : (day : Day) (J : History) (n k : ℕ) → is_a (sort_of day n) ≡ true → is_pending day J (item n k) ≡ (is_open (phase day J n) && is_next_of_a day J n k || is_covered (phase day J n) && is_credit day n k && not (is_booked J n k))
pending-is day J n k h = pending-open day J n k ∙ ap (λ s. pending_as s day J n k (phase day J n)) (a_is (sort_of day n) h)

-- ---- the reasons

none_first : (a : Option Why) (rows : List (Option Why)) → first_some (a ∷ rows) ≡ None → (a ≡ None) × (first_some rows ≡ None)
none_first None rows h = (refl, h)
none_first (Some x) rows h = cc

-- no reason among these rows
record NoReason (found : Bool) (passes : Bool) (place paid outstanding : Option ℕ) : Type 0 where
  there : found ≡ true
  going : passes ≡ true
  unbooked : is_some place ≡ false
  unpaid : is_some paid ≡ false
  debits_done : is_some outstanding ≡ false

unless_none : (b : Bool) (x : Why) → unless b x ≡ None → b ≡ true
unless_none true x h = refl
unless_none false x h = cc

map_none : (f : ℕ → Why) (o : Option ℕ) → option_map f o ≡ None → is_some o ≡ false
map_none f None h = refl
map_none f (Some x) h = cc

no_reason : (day : Day) (J : History) (n k : ℕ) → why_not_pending day J n k ≡ None →
    NoReason (is_some (entry_at day n k)) (is_open_or_covered (phase day J n)) (booked J n k) (only_if (is_debit day n k) (covered J n)) (only_if (is_open (phase day J n) && is_credit day n k) (first_unbooked_debit day J n))
unfolding why_not_pending
no_reason day J n k h =
    let a = none_first (over J) _ h in
    let b = none_first (unless (is_some (entry_at day n k)) whys.NoSuch) _ a.1 in
    let c = none_first (untaken J n) _ b.1 in
    let d = none_first (other_phase day J n (is_open_or_covered (phase day J n))) _ c.1 in
    let e = none_first (option_map whys.Booked (booked J n k)) _ d.1 in
    let f = none_first (option_map whys.Covered (only_if (is_debit day n k) (covered J n))) _ e.1 in
    let g = none_first (option_map whys.Debits (only_if (is_open (phase day J n) && is_credit day n k) (first_unbooked_debit day J n))) _ f.1 in
    record {
      there = unless_none _ _ b.0;
      going = unless_none _ _ d.0;
      unbooked = map_none _ _ e.0;
      unpaid = map_none _ _ f.0;
      debits_done = map_none _ _ g.0;
    }

-- o: open, v: covered, b: booked, d: a debit entry, p: where the fund paid, u: the first unbooked debit
pending_tests : (o v b d : Bool) (p u : Option ℕ) → (o || v) ≡ true → b ≡ false → is_some (only_if d p) ≡ false → is_some (only_if (o && not d) u) ≡ false → (v ≡ true → is_some p ≡ true) →
    (o && (not b && (d || not d && is_none u)) || v && not d && not b) ≡ true
pending_tests true v false true p u g b paid done c = refl
pending_tests true v false false p None g b paid done c = refl
pending_tests true v false false p (Some x) g b paid done c = cc
pending_tests false true false false p u g b paid done c = refl
pending_tests false true false true (Some x) u g b paid done c = cc
pending_tests false true false true None u g b paid done c = cc (c refl)
pending_tests false false b d p u g e paid done c = cc
pending_tests o v true d p u g b paid done c = cc

sides_of : (day : Day) (n k : ℕ) (e : Entry) → entry_at day n k ≡ Some e → (is_debit day n k ≡ is_debit_entry day n e) × (is_credit day n k ≡ not (is_debit_entry day n e))
sides_of day n k e h = (ap (some_passes (is_debit_entry day n)) h, ap (some_passes (λ (x : Entry). not (is_debit_entry day n x))) h)

pub pending-there : (day : Day) (J : History) (n k : ℕ) (e : Entry) → is_a (sort_of day n) ≡ true → entry_at day n k ≡ Some e → why_not_pending day J n k ≡ None → is_pending day J (item n k) ≡ true
pending-there day J n k e a h none =
    let r = no_reason day J n k none in
    let s = sides_of day n k e h in
    let paid : is_some (only_if (is_debit_entry day n e) (covered J n)) ≡ false = subst (λ b. is_some (only_if b (covered J n)) ≡ false) s.0 r.unpaid in
    let done : is_some (only_if (is_open (phase day J n) && not (is_debit_entry day n e)) (first_unbooked_debit day J n)) ≡ false = subst (λ b. is_some (only_if (is_open (phase day J n) && b) (first_unbooked_debit day J n)) ≡ false) s.1 r.debits_done in
    pending-is day J n k a
    ∙ ap (λ b. is_open (phase day J n) && (not (is_booked J n k) && (b || is_credit day n k && is_none (first_unbooked_debit day J n))) || is_covered (phase day J n) && is_credit day n k && not (is_booked J n k)) s.0
    ∙ ap (λ b. is_open (phase day J n) && (not (is_booked J n k) && (is_debit_entry day n e || b && is_none (first_unbooked_debit day J n))) || is_covered (phase day J n) && b && not (is_booked J n k)) s.1
    ∙ pending_tests (is_open (phase day J n)) (is_covered (phase day J n)) (is_booked J n k) (is_debit_entry day n e) (covered J n) (first_unbooked_debit day J n) r.going r.unbooked paid done (covered_there day J n)

-- ---- where a pending entry stands, and that the balance there is at hand

same_number : (a : ℕ) → list_any (λ b. nat_eq b a) (a ∷ []) ≡ true
same_number a = ap (λ b. b || false) (eq-eqb a a refl)

pub stands-there : (day : Day) (n k : ℕ) (e : Entry) → is_a (sort_of day n) ≡ true → entry_at day n k ≡ Some e → stands_on day (debit_account day e) (item n k) ≡ true
stands-there day n k e a h =
    ap (λ s. list_any (λ b. nat_eq b (debit_account day e)) (debit_accounts_as s day n k)) (a_is (sort_of day n) a)
    ∙ ap (λ p. list_any (λ b. nat_eq b (debit_account day e)) (debit_account_of_part day p)) (part-is day n k a ∙ h)
    ∙ same_number (debit_account day e)

-- an entry of an accepted batch names two accounts
named_at : (day : Day) (J : History) (n k : ℕ) (e : Entry) → IsLegal day J → is_a (sort_of day n) ≡ true → is_accepted J n ≡ true → entry_at day n k ≡ Some e → is_some (account_named day e.debit) ≡ true
named_at day J n zero e legal a ok h = cc
named_at day J n (suc k) e legal a ok h =
    let s : is_batch (sort_of day n) ≡ true = ap is_batch (a_is (sort_of day n) a) in
    (fits_named (sort_of day n) day n e s (all_get (entry_fits (sort_of day n) day n) (entries day n) k e (accepted_fits day J n legal ok) h)).0

open_or_covered_going : (p : Phase) → is_open_or_covered p ≡ true → is_going p ≡ true
open_or_covered_going phases.Open h = refl
open_or_covered_going phases.Covered h = refl
open_or_covered_going _ h = cc

held_by_entry : (held : ℕ → Bool) (day : Day) (n k : ℕ) (e : Entry) → is_a (sort_of day n) ≡ true → entry_at day n k ≡ Some e → is_some (account_named day e.debit) ≡ true → has_accounts held day (wants.Book n k) ≡ true → held (debit_account day e) ≡ true
held_by_entry held day n k e a h named g =
    let l : list_all held (accounts_of day e) ≡ true = subst (λ (p : Option Entry). list_all held (accounts_of_part day p) ≡ true) (part-is day n k a ∙ h) g in
    all_in held (accounts_of day e) (debit_account day e) l (debit_among day e named)

pub held-there : (held : ℕ → Bool) (day : Day) (J : History) (n k : ℕ) (e : Entry) → IsLegal day J → is_a (sort_of day n) ≡ true → entry_at day n k ≡ Some e → why_not_pending day J n k ≡ None → has_accounts held day (wants.Book n k) ≡ true → held (debit_account day e) ≡ true
held-there held day J n k e legal a h none g =
    let ok = going_accepted day J n (open_or_covered_going (phase day J n) (no_reason day J n k none).going) in
    held_by_entry held day n k e a h (named_at day J n k e legal a ok h) g

going_tests : (p : Phase) (x y : Bool) → (is_open p && x || is_covered p && y) ≡ true → is_going p ≡ true
going_tests phases.Open x y h = refl
going_tests phases.Covered x y h = refl
going_tests _ x y h = cc

and_assoc : (a b c : Bool) → (a && b && c) ≡ (a && (b && c))
and_assoc true b c = refl
and_assoc false b c = refl

pending_going : (day : Day) (J : History) (n k : ℕ) → is_a (sort_of day n) ≡ true → is_pending day J (item n k) ≡ true → is_going (phase day J n) ≡ true
pending_going day J n k a p =
    going_tests (phase day J n) (is_next_of_a day J n k) (is_credit day n k && not (is_booked J n k))
    (ap (λ b. is_open (phase day J n) && is_next_of_a day J n k || b) (sym (and_assoc (is_covered (phase day J n)) (is_credit day n k) (not (is_booked J n k)))) ∙ sym (pending-is day J n k a) ∙ p)

-- the accounts of the whole batch are those of each of its entries
pub held-in_batch : (held : ℕ → Bool) (day : Day) (J : History) (n k : ℕ) (e : Entry) → IsLegal day J → is_a (sort_of day n) ≡ true → entry_at day n k ≡ Some e → is_pending day J (item n k) ≡ true → has_accounts held day (wants.Expire n) ≡ true → held (debit_account day e) ≡ true
held-in_batch held day J n k e legal a h p g =
    let ok = going_accepted day J n (pending_going day J n k a p) in
    let i = into_flat (accounts_of day) (entries day n) e (debit_account day e) (entry_in day n k e h) (debit_among day e (named_at day J n k e legal a ok h)) in
    all_in held (accounts_of_message day n) (debit_account day e) g
    (into_left (debit_account day e) (flat_map (accounts_of day) (entries day n) ++ accounts_of_part day (payment_of (sort_of day n) day n)) (if is_batch (sort_of day n) then option_to_list (fund_of day n) else [])
    (into_left (debit_account day e) (flat_map (accounts_of day) (entries day n)) (accounts_of_part day (payment_of (sort_of day n) day n)) i))

-- ---- the two halves of the reasons

reasons_by : Day → History → ℕ → ℕ → Sort → Bool → Option Entry → Option Why
reasons_by day J n k s entered p = first_some (
    over J
    ∷ unless (is_some p && entered) whys.NoSuch
    ∷ untaken J n
    ∷ other_phase day J n (is_open_or_covered (phase day J n))
    ∷ option_map whys.Booked (booked J n k)
    ∷ option_map whys.Revoked (only_if (is_e s) (revoked day J n k))
    ∷ option_map whys.Covered (only_if (is_a s && is_debit day n k) (covered J n))
    ∷ option_map whys.Debits (only_if (is_a s && is_open (phase day J n) && is_credit day n k) (first_unbooked_debit day J n))
    ∷ blocked_part day J (item n k) p
    ∷ short_part day J n p
    ∷ [])

reasons-open : (day : Day) (J : History) (n k : ℕ) → why_not_book day J n k ≡ reasons_by day J n k (sort_of day n) (books (sort_of day n) k) (part day n k)
unfolding why_not_book reasons_by
reasons-open day J n k = refl

-- what keeps an entry back, where there is one
abbrev held_back_part : Day → History → ℕ → ℕ → Option Entry → Option Why
held_back_part day J n k None = None
held_back_part day J n k (Some e) = why_waits day J (item n k) (debit_account day e) e.amount

halves : (o t p b c d x y : Option Why) → first_some (o ∷ None ∷ t ∷ p ∷ b ∷ None ∷ c ∷ d ∷ x ∷ y ∷ []) ≡ option_or (first_some (o ∷ None ∷ t ∷ p ∷ b ∷ c ∷ d ∷ [])) (first_some (x ∷ y ∷ []))
halves (Some w) t p b c d x y = refl
halves None (Some w) p b c d x y = refl
halves None None (Some w) b c d x y = refl
halves None None None (Some w) c d x y = refl
halves None None None None (Some w) d x y = refl
halves None None None None None (Some w) x y = refl
halves None None None None None None x y = refl

no_such : (o : Option Why) (x : Why) (rows more : List (Option Why)) → first_some (o ∷ Some x ∷ rows) ≡ option_or (first_some (o ∷ Some x ∷ more)) None
no_such (Some w) x rows more = refl
no_such None x rows more = refl

-- the rows of why_not_pending after that of the entry
abbrev later_rows : Day → History → ℕ → ℕ → List (Option Why)
later_rows day J n k =
    untaken J n
    ∷ other_phase day J n (is_open_or_covered (phase day J n))
    ∷ option_map whys.Booked (booked J n k)
    ∷ option_map whys.Covered (only_if (is_debit day n k) (covered J n))
    ∷ option_map whys.Debits (only_if (is_open (phase day J n) && is_credit day n k) (first_unbooked_debit day J n))
    ∷ []

pending-rows : (day : Day) (J : History) (n k : ℕ) → why_not_pending day J n k ≡ first_some (over J ∷ unless (is_some (entry_at day n k)) whys.NoSuch ∷ later_rows day J n k)
unfolding why_not_pending
pending-rows day J n k = refl

by_entry : (day : Day) (J : History) (n k : ℕ) (p : Option Entry) → entry_at day n k ≡ p → reasons_by day J n k BatchA true p ≡ option_or (why_not_pending day J n k) (held_back_part day J n k p)
unfolding reasons_by why_waits
by_entry day J n k None h =
    no_such (over J) whys.NoSuch _ (later_rows day J n k)
    ∙ ap (λ (q : Option Entry). option_or (first_some (over J ∷ unless (is_some q) whys.NoSuch ∷ later_rows day J n k)) None) (sym h)
    ∙ ap (λ (o : Option Why). option_or o None) (sym (pending-rows day J n k))
by_entry day J n k (Some e) h =
    halves (over J) (untaken J n) (other_phase day J n (is_open_or_covered (phase day J n))) (option_map whys.Booked (booked J n k)) (option_map whys.Covered (only_if (is_debit day n k) (covered J n))) (option_map whys.Debits (only_if (is_open (phase day J n) && is_credit day n k) (first_unbooked_debit day J n))) (blocked_part day J (item n k) (Some e)) (short_part day J n (Some e))
    ∙ ap (λ (q : Option Entry). option_or (first_some (over J ∷ unless (is_some q) whys.NoSuch ∷ later_rows day J n k)) (why_waits day J (item n k) (debit_account day e) e.amount)) (sym h)
    ∙ ap (λ (o : Option Why). option_or o (why_waits day J (item n k) (debit_account day e) e.amount)) (sym (pending-rows day J n k))

by_number : (day : Day) (J : History) (n k : ℕ) → reasons_by day J n k BatchA (books BatchA k) (entry_at day n k) ≡ reasons_by day J n k BatchA true (entry_at day n k)
unfolding reasons_by
by_number day J n zero = refl
by_number day J n (suc k) = refl

pub reasons-is : (day : Day) (J : History) (n k : ℕ) (p : Option Entry) → is_a (sort_of day n) ≡ true → entry_at day n k ≡ p → why_not_book day J n k ≡ option_or (why_not_pending day J n k) (held_back_part day J n k p)
reasons-is day J n k p a h =
    reasons-open day J n k
    ∙ ap (λ s. reasons_by day J n k s (books s k) (part day n k)) (a_is (sort_of day n) a)
    ∙ ap (λ (q : Option Entry). reasons_by day J n k BatchA (books BatchA k) q) (part-is day n k a)
    ∙ by_number day J n k
    ∙ ap (λ (q : Option Entry). reasons_by day J n k BatchA true q) h
    ∙ by_entry day J n k p h

pub reasons-first : (day : Day) (J : History) (n k : ℕ) (w : Why) → is_a (sort_of day n) ≡ true → why_not_pending day J n k ≡ Some w → why_not_book day J n k ≡ Some w
reasons-first day J n k w a h = reasons-is day J n k (entry_at day n k) a refl ∙ ap (λ (o : Option Why). option_or o (held_back_part day J n k (entry_at day n k))) h

pub reasons-then : (day : Day) (J : History) (n k : ℕ) (p : Option Entry) → is_a (sort_of day n) ≡ true → why_not_pending day J n k ≡ None → entry_at day n k ≡ p → why_not_book day J n k ≡ held_back_part day J n k p
reasons-then day J n k p a none h = reasons-is day J n k p a h ∙ ap (λ (o : Option Why). option_or o (held_back_part day J n k p)) none

-- ---- a pending entry can be booked where nothing keeps it back

pub never-booked : (day : Day) (J : History) (n k : ℕ) → is_pending day J (item n k) ≡ false → may_book day J n k ≡ false
never-booked day J n k h = ap (λ b. b && not (is_b (sort_of day n)) && some_passes (λ e. is_free_part day J (item n k) e && is_covered_part day J n e) (part day n k)) h

may-book : (day : Day) (J : History) (n k : ℕ) (p : Option Entry) → is_a (sort_of day n) ≡ true → is_pending day J (item n k) ≡ true → entry_at day n k ≡ p → may_book day J n k ≡ some_passes (λ e. is_free_part day J (item n k) e && is_covered_part day J n e) p
may-book day J n k p a h q =
    ap (λ b. b && not (is_b (sort_of day n)) && some_passes (λ e. is_free_part day J (item n k) e && is_covered_part day J n e) (part day n k)) h
    ∙ ap (λ s. true && not (is_b s) && some_passes (λ e. is_free_part day J (item n k) e && is_covered_part day J n e) (part day n k)) (a_is (sort_of day n) a)
    ∙ ap (some_passes (λ e. is_free_part day J (item n k) e && is_covered_part day J n e)) (part-is day n k a ∙ q)

pub may-book-entry : (day : Day) (J : History) (n k : ℕ) (e : Entry) → is_a (sort_of day n) ≡ true → is_pending day J (item n k) ≡ true → entry_at day n k ≡ Some e → may_book day J n k ≡ is_none (why_waits day J (item n k) (debit_account day e) e.amount)
may-book-entry day J n k e a h q = may-book day J n k (Some e) a h q ∙ free_rows day J (item n k) e

pub may-book-none : (day : Day) (J : History) (n k : ℕ) → is_a (sort_of day n) ≡ true → is_pending day J (item n k) ≡ true → entry_at day n k ≡ None → may_book day J n k ≡ false
may-book-none day J n k a h q = may-book day J n k None a h q
