-- The ends of messages, as the clock goes on.
use Rattle.std.proofs.Common.{◌≡◌, ℕ, ◌+◌, ◌<◌, ◌≤◌, Bool, true, false, ◌||◌, List, ◌∷◌, [], ◌++◌, ◌⊎◌, Option, Some, None, length, set, refl, sym, ap, ◌∙◌, subst, inl, inr, arith, min}
use Rattle.std.specs.Prelude.{if◌then◌else◌, map, nat_eq}
use Rattle.std.specs.List.{range_with_len}
use Rattle.std.proofs.Math.Seq.{get_or-append_seam}
use Rattle.std.proofs.lemmas.List.FromFn.{get_or-map-range_with_len, length-map-range_with_len, map-range_with_len_more}
use Rattle.std.proofs.lemmas.Bool.{cases_eq, cases_lt, eqb-true, le-leb, leb-true, lt-ltb, or_cases, or_left, or_right}
use Rattle.std.proofs.lemmas.List.{get_or_append_left, get_or-set_same, get_or-set_other, length-append, length-set}
use Rattle.batch_records.specs.DayRecord.{Day}
use Rattle.commit_journal.specs.Line.{Line, History}
use Rattle.machine.specs.Words.{some_passes}
use Rattle.machine.specs.Records.Messages.{Sort, Pay, BatchA, BatchB, BatchC, BatchE, earliest, info_end, settlement_end, sort_of}
use Rattle.machine.specs.Telling.History.{clock, is_time}
use Rattle.settlement_laws.proofs.Base.Lists.{never}
use Rattle.batch_records.specs.declared.day.Message.{Message}
use Rattle.live_order.specs.Longer.{longer}
use Rattle.live_order.proofs.Longer.Known.{earliest_same, end_same, info_end_same}
use Rattle.least_tree.specs.Amounts.{amount_at, fits, fits_at, least}
use Rattle.number_set.specs.Next.{IsLeast}
use Rattle.scan_laws.specs.Concerns.{ends_as, is_due}
use Rattle.pending_items.specs.Ends.{AreEnds, AreEndsUpto, AreFirst, AreMoved, AreMovedOn, IsMovedOn, is_end_of, later, moved_end, next_end}

-- ---- the first end after a time

later_fits : (time end : ℕ) → time < end → fits end (later time (Some end)) ≡ true
later_fits time end less = ap (λ b. fits end (if b then Some end else None)) (lt-ltb time end less) ∙ le-leb end end (omega arith)

least_left : (end : ℕ) (a b : Option ℕ) → fits end a ≡ true → fits end (least a b) ≡ true
least_left end None b h = never false h refl
least_left end (Some a) None h = h
least_left end (Some a) (Some b) h = (let low : a ≤ end = leb-true a end h in le-leb (min a b) end (omega arith))

least_right : (end : ℕ) (a b : Option ℕ) → fits end b ≡ true → fits end (least a b) ≡ true
least_right end None b h = h
least_right end (Some a) None h = never false h refl
least_right end (Some a) (Some b) h = (let low : b ≤ end = leb-true b end h in le-leb (min a b) end (omega arith))

stated_fits : (time end : ℕ) (o : Option ℕ) → time < end → some_passes (nat_eq end) o ≡ true → fits end (later time o) ≡ true
stated_fits time end None less h = never false h refl
stated_fits time end (Some e) less h = (let same : end ≡ e = eqb-true end e h in subst (λ x. fits end (later time (Some x)) ≡ true) same (later_fits time end less))

one_fits : (time end e : ℕ) → time < end → nat_eq end e ≡ true → fits end (later time (Some e)) ≡ true
one_fits time end e less h = stated_fits time end (Some e) less h

-- the time is one at which the settlement of message n may begin
abbrev may_begin : Day → ℕ → ℕ → Bool
may_begin day n time = some_passes (nat_eq time) (info_end day n) || some_passes (nat_eq time) (earliest day n)

pub end_fits : (day : Day) (n time end : ℕ) → time < end → is_end_of day n end ≡ true → fits end (next_end day n time) ≡ true
end_fits day n time end less h =
    let info = later time (info_end day n) in
    let early = later time (earliest day n) in
    let till = later time (Some (settlement_end day n)) in
    let night = later time (Some 86400) in
    let begins = least info early in
    elim (or_cases (may_begin day n end || nat_eq end (settlement_end day n)) (nat_eq end 86400) h) [
      | inl g ↦ elim (or_cases (may_begin day n end) (nat_eq end (settlement_end day n)) g) [
        | inl b ↦ least_left end (least begins till) night (least_left end begins till (elim (or_cases (some_passes (nat_eq end) (info_end day n)) (some_passes (nat_eq end) (earliest day n)) b) [
          | inl i ↦ least_left end info early (stated_fits time end (info_end day n) less i)
          | inr f ↦ least_right end info early (stated_fits time end (earliest day n) less f)
        ]))
        | inr t ↦ least_left end (least begins till) night (least_right end begins till (one_fits time end (settlement_end day n) less t))
      ]
      | inr m ↦ least_right end (least begins till) night (one_fits time end 86400 less m)
    ]

-- ---- which ends there are

due_as : (s : Sort) (day : Day) (n time : ℕ) → ends_as s day n (nat_eq time) ≡ true → is_end_of day n time ≡ true
due_as BatchA day n time h = elim (or_cases (nat_eq time (settlement_end day n)) (nat_eq time 86400) h) [
  | inl t ↦ or_left _ (nat_eq time 86400) (or_right (may_begin day n time) (nat_eq time (settlement_end day n)) t)
  | inr m ↦ or_right (may_begin day n time || nat_eq time (settlement_end day n)) (nat_eq time 86400) m
]
due_as BatchB day n time h = elim (or_cases (nat_eq time (settlement_end day n)) (nat_eq time 86400) h) [
  | inl t ↦ or_left _ (nat_eq time 86400) (or_right (may_begin day n time) (nat_eq time (settlement_end day n)) t)
  | inr m ↦ or_right (may_begin day n time || nat_eq time (settlement_end day n)) (nat_eq time 86400) m
]
due_as BatchE day n time h = or_left _ (nat_eq time 86400) (or_right (may_begin day n time) (nat_eq time (settlement_end day n)) h)
due_as BatchC day n time h = or_right (may_begin day n time || nat_eq time (settlement_end day n)) (nat_eq time 86400) h
due_as Pay day n time h = or_right (may_begin day n time || nat_eq time (settlement_end day n)) (nat_eq time 86400) h
due_as _ day n time h = never false h refl

pub due_ends : (day : Day) (n time : ℕ) → is_due day time n ≡ true → is_end_of day n time ≡ true
due_ends day n time h = elim (or_cases (may_begin day n time) (ends_as (sort_of day n) day n (nat_eq time)) h) [
  | inl i ↦ or_left _ (nat_eq time 86400) (or_left (may_begin day n time) (nat_eq time (settlement_end day n)) i)
  | inr e ↦ due_as (sort_of day n) day n time e
]

-- ---- over no lines, and after one more

clock_none : clock [] ≡ 0
unfolding clock
clock_none = refl

pub clock_at : (l : Line) (J : History) → is_time l.head.kind ≡ true → clock (l ∷ J) ≡ l.head.entry
unfolding clock
clock_at l J t = ap (λ b. if b then l.head.entry else clock J) t

pub clock_else : (l : Line) (J : History) → is_time l.head.kind ≡ false → clock (l ∷ J) ≡ clock J
unfolding clock
clock_else l J t = ap (λ b. if b then l.head.entry else clock J) t

pub first_ends : (day : Day) (ends : List (Option ℕ)) → AreFirst day ends → AreEnds day [] ends
first_ends day ends f = record {
  size = f.size;
  each = λ n end low h less.
      let z : clock [] ≡ 0 = clock_none in
      let size : length ends ≡ length day.messages + 1 = f.size in
      ap (fits end) (f.each n (omega (arith, size, low))) ∙ end_fits day n 0 end (omega (arith, z, less)) h;
}

pub ends_stay : (day : Day) (J : History) (l : Line) (ends : List (Option ℕ)) → is_time l.head.kind ≡ false → AreEnds day J ends → AreEnds day (l ∷ J) ends
ends_stay day J l ends t a = record {
  size = a.size;
  each = λ n end low h less. let e : clock (l ∷ J) ≡ clock J = clock_else l J t in a.each n end low h (omega (arith, e, less));
}

pub ends_moved : (day : Day) (J : History) (l : Line) (old new : List (Option ℕ)) → is_time l.head.kind ≡ true → clock J < l.head.entry → AreEnds day J old → AreMoved day l.head.entry old new → AreEnds day (l ∷ J) new
ends_moved day J l old new t later_clock a m = record { size = m.size ∙ a.size; each = λ n end low h less. ap (fits end) (m.each n) ∙ here n end low h (omega (arith, clock_at l J t, less)) (fits_at old l.head.entry n) }
  where
    here : (n end : ℕ) → n ≤ length day.messages → is_end_of day n end ≡ true → l.head.entry < end → (b : Bool) → fits end (if b then next_end day n l.head.entry else amount_at old n) ≡ true
    here n end low h less true = end_fits day n l.head.entry end less h
    here n end low h less false = a.each n end low h (omega (arith, later_clock, less))

-- one more first end
pub first_set : (day : Day) (ends : List (Option ℕ)) (n : ℕ) → n < length ends → ((i : ℕ) → i < n → amount_at ends i ≡ next_end day i 0) → (i : ℕ) → i < n + 1 → amount_at (set ends n (next_end day n 0)) i ≡ next_end day i 0
first_set day ends n within before i less = elim (cases_eq i n) [
  | inl same ↦ ap (amount_at (set ends n (next_end day n 0))) same ∙ (get_or-set_same ends n (next_end day n 0) None within ∙ ap (λ k. next_end day k 0) (sym same))
  | inr ne ↦ get_or-set_other ends n i (next_end day n 0) None ne ∙ before i (omega (arith, less, ne))
]

-- ---- the ends that a time comes to, one after another

-- the messages below `from` have their next ends, the others are as they were
pub record AreMovedTo (day : Day) (time from : ℕ) (old new : List (Option ℕ)) : Type 0 where
  pub size : length new ≡ length old
  pub before : (i : ℕ) → i < from → amount_at new i ≡ moved_end day time old i
  pub behind : (i : ℕ) → from ≤ i → amount_at new i ≡ amount_at old i

pub none_moved : (day : Day) (time : ℕ) (ends : List (Option ℕ)) → AreMovedTo day time 0 ends ends
none_moved day time ends = record { size = refl; before = λ i less. absurd (omega (arith, less)); behind = λ i le. refl }

unmoved : (day : Day) (time : ℕ) (old : List (Option ℕ)) (i : ℕ) → fits_at old time i ≡ false → amount_at old i ≡ moved_end day time old i
unmoved day time old i e = sym (ap (λ b. if b then next_end day i time else amount_at old i) e)

pub one_moved : (day : Day) (time from n : ℕ) (old mid : List (Option ℕ)) → AreMovedTo day time from old mid → n < length mid → IsLeast (fits_at mid time) from n → AreMovedTo day time (n + 1) old (set mid n (next_end day n time))
one_moved day time from n old mid m within l = record { size = length-set mid n (next_end day n time) ∙ m.size; before = before; behind = behind }
  where
    at_least : from ≤ n
    at_least = l.at_least

    before : (i : ℕ) → i < n + 1 → amount_at (set mid n (next_end day n time)) i ≡ moved_end day time old i
    before i less = elim (cases_eq i n) [
      | inl same ↦ (
          let here : amount_at (set mid n (next_end day n time)) i ≡ next_end day n time = ap (amount_at (set mid n (next_end day n time))) same ∙ get_or-set_same mid n (next_end day n time) None within in
          let was : fits_at old time n ≡ true = ap (fits time) (sym (m.behind n at_least)) ∙ l.passes in
          here ∙ (sym (ap (λ b. if b then next_end day n time else amount_at old n) was) ∙ ap (moved_end day time old) (sym same)))
      | inr ne ↦ get_or-set_other mid n i (next_end day n time) None ne ∙ elim (cases_lt i from) [
        | inl low ↦ m.before i low
        | inr high ↦ (
            let was : fits_at old time i ≡ false = ap (fits time) (sym (m.behind i high)) ∙ l.none_before i high (omega (arith, less, ne)) in
            m.behind i high ∙ unmoved day time old i was)
      ]
    ]

    behind : (i : ℕ) → n + 1 ≤ i → amount_at (set mid n (next_end day n time)) i ≡ amount_at old i
    behind i le = get_or-set_other mid n i (next_end day n time) None (λ same. omega (arith, le, same)) ∙ m.behind i (omega (arith, le, at_least))

pub all_moved : (day : Day) (time from : ℕ) (old new : List (Option ℕ)) → AreMovedTo day time from old new → ((i : ℕ) → from ≤ i → fits_at new time i ≡ false) → AreMoved day time old new
all_moved day time from old new m none = record { size = m.size; each = each }
  where
    each : (i : ℕ) → amount_at new i ≡ moved_end day time old i
    each i = elim (cases_lt i from) [
      | inl low ↦ m.before i low
      | inr high ↦ m.behind i high ∙ unmoved day time old i (ap (fits time) (sym (m.behind i high)) ∙ none i high)
    ]

-- a message that isn't looked at any more was looked at
pub looked_at : (day : Day) (time from : ℕ) (old mid : List (Option ℕ)) → AreMovedTo day time from old mid → (n : ℕ) → fits_at old time n ≡ true → (from ≤ n → fits_at mid time n ≡ false) → n < from
looked_at day time from old mid m n h none = elim (cases_lt n from) [
  | inl less ↦ less
  | inr ge ↦ never (fits_at old time n) h (sym (ap (fits time) (m.behind n ge)) ∙ none ge)
]

-- ---- some ends that a time comes to, in any order

pub none_moved_on : (day : Day) (time : ℕ) (ends : List (Option ℕ)) → AreMovedOn day time ends ends
none_moved_on day time ends = record { size = refl; each = λ n. refl }

pub one_moved_on : (day : Day) (time n : ℕ) (old : List (Option ℕ)) → n < length old → fits_at old time n ≡ true → AreMovedOn day time old (set old n (next_end day n time))
one_moved_on day time n old within h = record { size = length-set old n (next_end day n time); each = each }
  where
    either : (b : Bool) → (if b then next_end day n time else next_end day n time) ≡ next_end day n time
    either true = refl
    either false = refl

    own : moved_end day time (set old n (next_end day n time)) n ≡ moved_end day time old n
    own =
        ap (λ o. if fits time o then next_end day n time else o) (get_or-set_same old n (next_end day n time) None within)
        ∙ (either (fits time (next_end day n time)) ∙ sym (ap (λ b. if b then next_end day n time else amount_at old n) h))

    each : (i : ℕ) → moved_end day time (set old n (next_end day n time)) i ≡ moved_end day time old i
    each i = elim (cases_eq i n) [
      | inl same ↦ subst (λ k. moved_end day time (set old n (next_end day n time)) k ≡ moved_end day time old k) (sym same) own
      | inr ne ↦ ap (λ o. if fits time o then next_end day i time else o) (get_or-set_other old n i (next_end day n time) None ne)
    ]

pub moved_on_then : (day : Day) (time : ℕ) (a b c : List (Option ℕ)) → AreMovedOn day time a b → AreMovedOn day time b c → AreMovedOn day time a c
moved_on_then day time a b c p q = record { size = q.size ∙ p.size; each = λ n. q.each n ∙ p.each n }

pub moved_after : (day : Day) (time : ℕ) (a b c : List (Option ℕ)) → AreMovedOn day time a b → AreMoved day time b c → AreMoved day time a c
moved_after day time a b c p q = record { size = q.size ∙ p.size; each = λ n. q.each n ∙ p.each n }

-- what had an end there has it still, or is moved on
pub has_or_moved : (time : ℕ) (old new : List (Option ℕ)) (n : ℕ) → fits_at old time n ≡ true → IsMovedOn time old new n ⊎ (fits_at new time n ≡ true)
has_or_moved time old new n h = here (fits_at new time n) refl
  where
    here : (b : Bool) → fits_at new time n ≡ b → IsMovedOn time old new n ⊎ (fits_at new time n ≡ true)
    here true e = inr e
    here false e = inl (h, e)

-- what is moved on by two is so by one of them
pub by_either : (time : ℕ) (a b c : List (Option ℕ)) (n : ℕ) → IsMovedOn time a c n → IsMovedOn time a b n ⊎ IsMovedOn time b c n
by_either time a b c n h = elim (has_or_moved time a b n h.0) [ inl g ↦ inl g | inr g ↦ inr (g, h.1) ]

-- what is moved on where one end was set is the message itself
pub only_that : (time n : ℕ) (old : List (Option ℕ)) (end : Option ℕ) (i : ℕ) → IsMovedOn time old (set old n end) i → i ≡ n
only_that time n old end i h = elim (cases_eq i n) [
  | inl same ↦ same
  | inr ne ↦ never (fits_at old time i) h.0 (sym (ap (fits time) (get_or-set_other old n i end None ne)) ∙ h.1)
]

-- ---- a list that grows

pub first_more : (day : Day) (old new : List (Option ℕ)) (n : ℕ) (end : Option ℕ) → old ≡ map (λ i. next_end day i 0) (range_with_len 0 n) → end ≡ next_end day n 0 → new ≡ old ++ end ∷ [] → new ≡ map (λ i. next_end day i 0) (range_with_len 0 (n + 1))
first_more day old new n end was is more =
    more ∙ (ap (λ xs. xs ++ end ∷ []) was ∙ (ap (λ x. map (λ i. next_end day i 0) (range_with_len 0 n) ++ x ∷ []) is ∙ sym (map-range_with_len_more (λ i. next_end day i 0) 0 n n (omega arith))))

pub first_all : (day : Day) (ends : List (Option ℕ)) (n : ℕ) → n ≡ length day.messages + 1 → ends ≡ map (λ i. next_end day i 0) (range_with_len 0 n) → AreFirst day ends
first_all day ends n e is = record {
  size = ap length is ∙ (length-map-range_with_len (λ i. next_end day i 0) 0 n ∙ e);
  each = λ i less.
      (let len : length ends ≡ n = ap length is ∙ length-map-range_with_len (λ i. next_end day i 0) 0 n in
      ap (λ (xs : List (Option ℕ)). amount_at xs i) is ∙ get_or-map-range_with_len (λ i. next_end day i 0) 0 n i i None (omega (arith, len, less)) (omega arith));
}

-- one message more: its first end after the clock is at most each of its ends that the clock hasn't come to
pub ends_arrive : (day : Day) (k n time : ℕ) (J : History) (old new : List (Option ℕ)) (end : Option ℕ) → n ≡ k + 1 → time ≡ clock J → end ≡ next_end day n time → new ≡ old ++ end ∷ [] → AreEndsUpto day k J old → AreEndsUpto day n J new
ends_arrive day k n time J old new end e t is more ends = record {
  size = (let len : length new ≡ length old + 1 = ap length more ∙ length-append old (end ∷ []) in let was = ends.size in omega (arith, len, was, e));
  each = λ i stop low stops later. here i stop low stops later (cases_eq i n);
}
  where
    here : (i stop : ℕ) → i ≤ n → is_end_of day i stop ≡ true → clock J < stop → (i ≡ n) ⊎ ((i ≡ n) → ⊥) → fits_at new stop i ≡ true
    here i stop low stops later (inl q) =
        let at : i ≡ length old = (let was = ends.size in omega (arith, was, e, q)) in
        let there : amount_at new i ≡ end = ap (λ (xs : List (Option ℕ)). amount_at xs i) more ∙ (ap (amount_at (old ++ end ∷ [])) at ∙ get_or-append_seam old end [] None) in
        ap (fits stop) (there ∙ is) ∙ end_fits day n time stop (omega (arith, later, t)) (subst (λ m. is_end_of day m stop ≡ true) q stops)
    here i stop low stops later (inr ne) =
        let was = ends.size in
        let same : amount_at new i ≡ amount_at old i = ap (λ (xs : List (Option ℕ)). amount_at xs i) more ∙ get_or_append_left old (end ∷ []) None i (omega (arith, was, e, low, ne)) in
        ap (fits stop) same ∙ ends.each i stop (omega (arith, e, low, ne)) stops later

-- no message: of its number 0 no end is passed over
pub ends_none : (day : Day) (ends : List (Option ℕ)) → ends ≡ Some 0 ∷ [] → AreEndsUpto day 0 [] ends
ends_none day ends e = record {
  size = ap length e;
  each = λ i stop low h after. (let zero : i ≡ 0 = omega (arith, low) in ap (λ (xs : List (Option ℕ)). fits_at xs stop i) e ∙ (ap (fits_at (Some 0 ∷ []) stop) zero ∙ le-leb 0 stop (omega arith)));
}

-- ---- where more messages and stops follow

is_end_same : (day : Day) (ms : List Message) (ss : List ℕ) (n time : ℕ) → n ≤ length day.messages → is_end_of (longer day ms ss) n time ≡ is_end_of day n time
is_end_same day ms ss n time h = λ i. some_passes (nat_eq time) (info_end_same day ms ss n h i) || some_passes (nat_eq time) (earliest_same day ms ss n h i) || nat_eq time (end_same day ms ss n h i) || nat_eq time 86400

pub ends_longer : (day : Day) (ms : List Message) (ss : List ℕ) (n : ℕ) (J : History) (ends : List (Option ℕ)) → n ≤ length day.messages → AreEndsUpto day n J ends → AreEndsUpto (longer day ms ss) n J ends
ends_longer day ms ss n J ends h a = record {
  size = a.size;
  each = λ i stop low stops after. a.each i stop low (sym (is_end_same day ms ss i stop (omega (arith, low, h))) ∙ stops) after;
}

pub ends_shorter : (day : Day) (ms : List Message) (ss : List ℕ) (n : ℕ) (J : History) (ends : List (Option ℕ)) → n ≤ length day.messages → AreEndsUpto (longer day ms ss) n J ends → AreEndsUpto day n J ends
ends_shorter day ms ss n J ends h a = record {
  size = a.size;
  each = λ i stop low stops after. a.each i stop low (is_end_same day ms ss i stop (omega (arith, low, h)) ∙ stops) after;
}
