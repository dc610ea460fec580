-- What a line does to what is left of the message that it is about, and of the batch that its message names.
use Rattle.std.proofs.Common.{◌≡◌, ◌∙◌, ℕ, zero, suc, ◌+◌, ◌≤◌, Bool, true, false, not, ◌&&◌, ◌||◌, List, [], ◌∷◌, Option, Some, None, length, refl, sym, ap, subst, arith, map, cond, inl, inr}
use Rattle.std.specs.Prelude.{fold, filter, is_some, max, nat_eq, option_map, slice_index_or, slice_set, unwrap_or, if◌then◌else◌}
use Rattle.std.specs.Option.{IfSome, option_map_or, option_or}
use Rattle.std.proofs.lemmas.Bool.{and_parts, and_right, eq-eqb, eqb-true, ne_eqb, or_right}
use Rattle.batch_records.specs.DayRecord.{Day}
use Rattle.commit_journal.specs.Line.{Line, History}
use Rattle.machine.specs.Words.{numbered, some_passes, when}
use Rattle.machine.specs.Records.Messages.{Sort, BatchE, debit_numbers, entries, entries_in, entry_at, entry_numbers, is_debit, is_debit_entry, item_numbers, message_at, message_numbers, sort_of}
use Rattle.machine.specs.Telling.History.{booked, is_book, is_book_of, place_of}
use Rattle.machine.specs.Telling.Facts.{objects, revoked, revokes}
use Rattle.machine.specs.Legal.{IsLegal}
use Rattle.machine.specs.Stages.Phases.{is_booked, is_revoked_entry}
use Rattle.machine.specs.Stages.Pending.{last_debit_booked}
use Rattle.settlement_laws.proofs.Base.Counting.{passes_some}
use Rattle.settlement_laws.proofs.Base.LinesOf.{placed_more, or_none}
use Rattle.settlement_laws.proofs.Base.Lists.{IsIn, into_filter, is_numbered}
use Rattle.settlement_laws.proofs.Base.Places.{same-number}
use Rattle.std.proofs.lemmas.Option.{slice_get_past}
use Rattle.batch_records.specs.declared.day.Message.{Message}
use Rattle.day_facts.specs.declared.watched.Watched.TheVariants as watches
use Rattle.day_facts.specs.Lists.{changed}
use Rattle.day_facts.specs.Left.{counts, debits_after, debits_row, debits_rows, fallen_at, is_given_up, is_kept, is_single, kept_after, kept_row, kept_rows, last_after, last_debits, owes, row_booked, row_revoked, row_rule, waiting_after, waiting_row, waiting_rows, waits, watched_row}
use Rattle.day_facts.specs.Objectors.{fresh, repeats_objection}
use Rattle.day_facts.specs.Own.{owns_of}
use Rattle.day_facts.specs.Rows.{flag_at}
use Rattle.day_facts.specs.Told.{is_party_at, line_aim, ruled_on}
use Rattle.day_facts.proofs.AgainLines.{again_same}
use Rattle.day_facts.proofs.AimLines.{Silent, aim_lines}
use Rattle.day_facts.proofs.LeftParts.{and_not, fallen_map, row_flag, set_map}
use Rattle.machine.proofs.Lists.{numbered_map}
use Rattle.day_facts.proofs.Lists.{changed_map, map_from}
use Rattle.day_facts.proofs.OwnLines.{place_more, place_same}

-- ---- the place of the last debit

abbrev latest : (ℕ → Option ℕ) → ℕ → List ℕ → ℕ
latest f first xs = fold (λ last k. max last (unwrap_or (f k) 0)) first xs

latest_same : (f g : ℕ → Option ℕ) (first : ℕ) (xs : List ℕ) → ((k : ℕ) → f k ≡ g k) → latest f first xs ≡ latest g first xs
latest_same f g first xs h = λ i. fold (λ last k. max last (unwrap_or (h k i) 0)) first xs

latest_high : (g : ℕ → Option ℕ) (p first : ℕ) (xs : List ℕ) → first ≤ p → ((k : ℕ) → unwrap_or (g k) 0 ≤ p) → latest g first xs ≤ p
latest_high g p first [] l h = l
latest_high g p first (x ∷ xs) l h = latest_high g p (max first (unwrap_or (g x) 0)) xs (let here : unwrap_or (g x) 0 ≤ p = h x in omega (arith, l, here)) h

latest_first : (g : ℕ → Option ℕ) (first : ℕ) (xs : List ℕ) → first ≤ latest g first xs
latest_first g first [] = omega arith
latest_first g first (x ∷ xs) = let more : max first (unwrap_or (g x) 0) ≤ latest g (max first (unwrap_or (g x) 0)) xs = latest_first g (max first (unwrap_or (g x) 0)) xs in omega (arith, more)

latest_low : (g : ℕ → Option ℕ) (first k : ℕ) (xs : List ℕ) → IsIn k xs → unwrap_or (g k) 0 ≤ latest g first xs
latest_low g first k [] i = absurd i
latest_low g first k (x ∷ xs) (inl e) =
    let more : max first (unwrap_or (g x) 0) ≤ latest g (max first (unwrap_or (g x) 0)) xs = latest_first g (max first (unwrap_or (g x) 0)) xs in
    let same : unwrap_or (g x) 0 ≡ unwrap_or (g k) 0 = ap (λ y. unwrap_or (g y) 0) e in
    omega (arith, more, same)
latest_low g first k (x ∷ xs) (inr i) = latest_low g (max first (unwrap_or (g x) 0)) k xs i

place_bound : (t : Line → Bool) (J : History) → unwrap_or (place_of t J) 0 ≤ length J
unfolding place_of
place_bound t [] = omega arith
place_bound t (l ∷ J) = here (place_of t J) (t l) (place_bound t J)
  where
    here : (o : Option ℕ) (b : Bool) → unwrap_or o 0 ≤ length J → unwrap_or (option_or o (when b (suc (length J)))) 0 ≤ suc (length J)
    here (Some x) b h = omega (arith, h)
    here None true h = omega arith
    here None false h = omega arith

in_debits : (day : Day) (n k : ℕ) → is_debit day n k ≡ true → IsIn k (debit_numbers day n)
in_debits day n k d = into_filter (is_debit day n) (entry_numbers day n) k (is_numbered k (entries day n) (passes_some (is_debit_entry day n) (entry_at day n k) d)) d

not_there : (o : Option ℕ) → is_some o ≡ false → o ≡ None
not_there None h = refl
not_there (Some x) h = cc

booked_now : (day : Day) (l : Line) (J : History) (n k : ℕ) → is_book_of n k l ≡ true → is_booked J n k ≡ false → booked (l ∷ J) n k ≡ Some (suc (length J))
booked_now day l J n k b u = sym (place_more (is_book_of n k) l J true b) ∙ ap (λ o. option_or o (Some (suc (length J)))) (not_there (booked J n k) u)

last_new : (day : Day) (l : Line) (J : History) (n k : ℕ) → is_book_of n k l ≡ true → is_debit day n k ≡ true → is_booked J n k ≡ false → suc (length J) ≡ last_debit_booked day (l ∷ J) n
last_new day l J n k b d u =
    let at : unwrap_or (booked (l ∷ J) n k) 0 ≡ suc (length J) = ap (λ o. unwrap_or o 0) (booked_now day l J n k b u) in
    let low : unwrap_or (booked (l ∷ J) n k) 0 ≤ last_debit_booked day (l ∷ J) n = latest_low (booked (l ∷ J) n) 0 k (debit_numbers day n) (in_debits day n k d) in
    let high : last_debit_booked day (l ∷ J) n ≤ suc (length J) = latest_high (booked (l ∷ J) n) (suc (length J)) 0 (debit_numbers day n) (omega arith) (λ j. place_bound (is_book_of n j) (l ∷ J)) in
    omega (arith, at, low, high)

latest_chosen : (c : ℕ → Bool) (f g : ℕ → Option ℕ) (first : ℕ) (xs : List ℕ) → ((k : ℕ) → c k ≡ true → f k ≡ g k) → latest f first (filter c xs) ≡ latest g first (filter c xs)
latest_chosen c f g first [] h = refl
latest_chosen c f g first (x ∷ xs) h = here (c x) refl (λ start. latest_chosen c f g start xs h)
  where
    here : (b : Bool) → c x ≡ b → ((start : ℕ) → latest f start (filter c xs) ≡ latest g start (filter c xs)) → latest f first (cond b (x ∷ filter c xs) (filter c xs)) ≡ latest g first (cond b (x ∷ filter c xs) (filter c xs))
    here true e more = ap (λ o. latest f (max first (unwrap_or o 0)) (filter c xs)) (h x e) ∙ more (max first (unwrap_or (g x) 0))
    here false e more = more first

kept_place : (o : Option ℕ) (b : Bool) (place : ℕ) → is_some o ≡ true → o ≡ option_or o (when b place)
kept_place (Some x) b place h = refl
kept_place None b place h = cc

-- an item that isn't a debit, or is booked before
last_old : (day : Day) (l : Line) (J : History) (n k : ℕ) → is_book_of n k l ≡ true → owes day J n k ≡ false → last_debit_booked day J n ≡ last_debit_booked day (l ∷ J) n
last_old day l J n k b o = latest_chosen (is_debit day n) (booked J n) (booked (l ∷ J) n) 0 (entry_numbers day n) (λ j d. here j d (is_book_of n j l) refl)
  where
    to_booked : (d c : Bool) → (d && not c) ≡ false → d ≡ true → c ≡ true
    to_booked true true p q = refl
    to_booked true false p q = cc
    to_booked false c p q = cc

    here : (j : ℕ) → is_debit day n j ≡ true → (c : Bool) → is_book_of n j l ≡ c → booked J n j ≡ booked (l ∷ J) n j
    here j d false e = place_same (is_book_of n j) l J e
    here j d true e =
        let first : l.head.entry ≡ j = eqb-true l.head.entry j (and_parts (is_book l.head.kind && nat_eq l.head.msg n) (nat_eq l.head.entry j) e).1 in
        let second : l.head.entry ≡ k = eqb-true l.head.entry k (and_parts (is_book l.head.kind && nat_eq l.head.msg n) (nat_eq l.head.entry k) b).1 in
        let same : k ≡ j = sym second ∙ first in
        kept_place (booked J n j) true (suc (length J)) (to_booked (is_debit day n j) (is_booked J n j) (subst (λ x. owes day J n x ≡ false) same o) d)
        ∙ place_more (is_book_of n j) l J true e

last_line : (day : Day) (l : Line) (J : History) (n : ℕ) → is_book_of n l.head.entry l ≡ true → (if owes day J n l.head.entry then suc (length J) else last_debit_booked day J n) ≡ last_debit_booked day (l ∷ J) n
last_line day l J n b = here (owes day J n l.head.entry) refl
  where
    here : (o : Bool) → owes day J n l.head.entry ≡ o → (if o then suc (length J) else last_debit_booked day J n) ≡ last_debit_booked day (l ∷ J) n
    here false e = last_old day l J n l.head.entry b e
    here true e =
        let parts = and_parts (is_debit day n l.head.entry) (not (is_booked J n l.head.entry)) e in
        last_new day l J n l.head.entry b parts.0 (un_not (is_booked J n l.head.entry) parts.1)
      where
        un_not : (c : Bool) → not c ≡ true → c ≡ false
        un_not false h = refl
        un_not true h = cc

-- ---- the message that the line books

pub no_debit : (day : Day) (J : History) (n k : ℕ) → suc (length (entries day n)) ≤ k → owes day J n k ≡ false
no_debit day J n zero l = absurd (omega arith)
no_debit day J n (suc i) l = ap (λ b. b && not (is_booked J n (suc i))) (ap (some_passes (is_debit_entry day n)) (slice_get_past (entries day n) i (omega (arith, l))))

absent_debit : (day : Day) (n k : ℕ) → message_at day n ≡ None → is_debit day n k ≡ false
absent_debit day n k e = ap (λ (o : Option Message). some_passes (is_debit_entry day n) (numbered (option_map_or (λ m. entries_in m.body) o []) k)) e ∙ none_numbered k
  where
    none_numbered : (k : ℕ) → some_passes (is_debit_entry day n) (numbered [] k) ≡ false
    none_numbered zero = refl
    none_numbered (suc i) = refl

booked_same : (l : Line) (J : History) (n k : ℕ) → is_book_of n k l ≡ false → is_booked (l ∷ J) n k ≡ is_booked J n k
booked_same l J n k h = placed_more (is_book_of n k) l J ∙ or_none _ _ h

booked_here : (l : Line) (J : History) (n k : ℕ) → is_book_of n k l ≡ true → is_booked (l ∷ J) n k ≡ true
booked_here l J n k h = placed_more (is_book_of n k) l J ∙ or_right _ _ h

-- the item that the line books
abbrev Books : Line → ℕ → Type 0
Books l n = (is_book l.head.kind ≡ true) × (nat_eq l.head.msg n ≡ true)

book_here : (l : Line) (n k : ℕ) → Books l n → l.head.entry ≡ k → is_book_of n k l ≡ true
book_here l n k b e = λ i. all_true (is_book l.head.kind) (nat_eq l.head.msg n) (nat_eq l.head.entry k) b.0 b.1 (eq-eqb l.head.entry k e) i
  where
    all_true : (a b c : Bool) → a ≡ true → b ≡ true → c ≡ true → (a && b && c) ≡ true
    all_true a b c p q r = λ i. p i && q i && r i

book_there : (l : Line) (n k : ℕ) → (k ≡ 0 + l.head.entry → ⊥) → is_book_of n k l ≡ false
book_there l n k ne =
    let at : l.head.entry ≡ 0 + l.head.entry = omega arith in
    and_right (is_book l.head.kind && nat_eq l.head.msg n) (nat_eq l.head.entry k) (ne_eqb l.head.entry k (λ e. ne (sym e ∙ at)))

debits_booked : (day : Day) (l : Line) (J : History) (n : ℕ) → Books l n → slice_set (debits_row day J n) l.head.entry false ≡ debits_row day (l ∷ J) n
debits_booked day l J n b = set_map (owes day J n) (owes day (l ∷ J) n) 0 l.head.entry (suc (length (entries day n)))
    (falls (is_debit day n (0 + l.head.entry))) (λ k ne. λ i. is_debit day n k && not (booked_same l J n k (book_there l n k ne) i))
  where
    falls : (d : Bool) → (d && not (is_booked (l ∷ J) n (0 + l.head.entry))) ≡ false
    falls d = and_right d _ (ap not (booked_here l J n (0 + l.head.entry) (book_here l n (0 + l.head.entry) b (omega arith))))

waiting_booked : (s : Sort) (day : Day) (l : Line) (J : History) (n : ℕ) → Books l n →
    slice_set (map (waits s day J J n) (item_numbers day n)) l.head.entry false ≡ map (waits s day (l ∷ J) J n) (item_numbers day n)
waiting_booked s day l J n b = set_map (waits s day J J n) (waits s day (l ∷ J) J n) 0 l.head.entry (suc (length (entries day n)))
    (falls_or (counts s day n (0 + l.head.entry)) (is_given_up s day J n (0 + l.head.entry)))
    (λ k ne. λ i. counts s day n k && not (booked_same l J n k (book_there l n k ne) i || is_given_up s day J n k))
  where
    falls_or : (d g : Bool) → (d && not (is_booked (l ∷ J) n (0 + l.head.entry) || g)) ≡ false
    falls_or d g = and_right d _ (ap (λ b. not (b || g)) (booked_here l J n (0 + l.head.entry) (book_here l n (0 + l.head.entry) b (omega arith))))

debits_kept : (day : Day) (l : Line) (J : History) (n : ℕ) → ((k : ℕ) → is_book_of n k l ≡ false) → debits_row day J n ≡ debits_row day (l ∷ J) n
debits_kept day l J n h = λ i. map (λ k. is_debit day n k && not (sym (booked_same l J n k (h k)) i)) (item_numbers day n)

waiting_kept : (day : Day) (l : Line) (J : History) (n : ℕ) → ((k : ℕ) → is_book_of n k l ≡ false) → waiting_row day J J n ≡ waiting_row day (l ∷ J) J n
waiting_kept day l J n h = λ i. map (λ k. counts (sort_of day n) day n k && not (sym (booked_same l J n k (h k)) i || is_given_up (sort_of day n) day J n k)) (item_numbers day n)

-- a line of another kind books nothing
other_kind : (l : Line) (n : ℕ) → is_book l.head.kind ≡ false → (k : ℕ) → is_book_of n k l ≡ false
other_kind l n e k = ap (λ b. b && nat_eq l.head.msg n && nat_eq l.head.entry k) e

debits_own : (day : Day) (l : Line) (J : History) (n : ℕ) → nat_eq l.head.msg n ≡ true → row_booked l.head (debits_row day J n) ≡ debits_row day (l ∷ J) n
debits_own day l J n msg = here (is_book l.head.kind) refl
  where
    here : (b : Bool) → is_book l.head.kind ≡ b → fallen_at b l.head.entry (debits_row day J n) ≡ debits_row day (l ∷ J) n
    here true e = debits_booked day l J n (e, msg)
    here false e = debits_kept day l J n (other_kind l n e)

waiting_own : (day : Day) (l : Line) (J : History) (n : ℕ) → nat_eq l.head.msg n ≡ true → row_booked l.head (waiting_row day J J n) ≡ waiting_row day (l ∷ J) J n
waiting_own day l J n msg = here (is_book l.head.kind) refl
  where
    here : (b : Bool) → is_book l.head.kind ≡ b → fallen_at b l.head.entry (waiting_row day J J n) ≡ waiting_row day (l ∷ J) J n
    here true e = waiting_booked (sort_of day n) day l J n (e, msg)
    here false e = waiting_kept day l J n (other_kind l n e)

apart : (l : Line) (n : ℕ) → nat_eq l.head.msg n ≡ false → (k : ℕ) → is_book_of n k l ≡ false
apart l n h k = here (is_book l.head.kind) (nat_eq l.head.msg n) (nat_eq l.head.entry k) h
  where
    here : (a b c : Bool) → b ≡ false → (a && b && c) ≡ false
    here true b c e = ap (λ x. x && c) e
    here false b c e = refl

elsewhere : (l : Line) (j : ℕ) → (j ≡ l.head.msg → ⊥) → (k : ℕ) → is_book_of j k l ≡ false
elsewhere l j ne = apart l j (ne_eqb l.head.msg j (λ e. ne (sym e)))

pub debit_lines : (day : Day) (l : Line) (J : History) → debits_after l.head (debits_rows day J) ≡ debits_rows day (l ∷ J)
debit_lines day l J = changed_map (row_booked l.head) (debits_row day J) (debits_row day (l ∷ J)) l.head.msg (length day.messages)
    (debits_own day l J l.head.msg (same-number l.head.msg)) (λ j ne. debits_kept day l J j (elsewhere l j ne))

waiting_books : (day : Day) (l : Line) (J : History) → changed l.head.msg (row_booked l.head) (waiting_rows day J) ≡ map (waiting_row day (l ∷ J) J) (message_numbers day)
waiting_books day l J = changed_map (row_booked l.head) (waiting_row day J J) (waiting_row day (l ∷ J) J) l.head.msg (length day.messages)
    (waiting_own day l J l.head.msg (same-number l.head.msg)) (λ j ne. waiting_kept day l J j (elsewhere l j ne))

last_kept : (day : Day) (l : Line) (J : History) (n : ℕ) → ((k : ℕ) → is_book_of n k l ≡ false) → last_debit_booked day J n ≡ last_debit_booked day (l ∷ J) n
last_kept day l J n h = latest_same (booked J n) (booked (l ∷ J) n) 0 (debit_numbers day n) (λ k. place_same (is_book_of n k) l J (h k))

-- the flag of an item
pub debit_flag : (day : Day) (J : History) (n k : ℕ) → flag_at (debits_rows day J) n k ≡ owes day J n k
debit_flag day J n k =
    ap (λ o. option_map_or (λ row. slice_index_or row k false) o false) (numbered_map (debits_row day J) day.messages n)
    ∙ here (message_at day n) refl
  where
    here : (o : Option Message) → message_at day n ≡ o → option_map_or (λ row. slice_index_or row k false) (option_map (λ y. debits_row day J n) o) false ≡ owes day J n k
    here (Some m) q = row_flag (owes day J n) 0 (suc (length (entries day n))) k k (omega arith) (no_debit day J n k)
    here None q = sym (ap (λ b. b && not (is_booked J n k)) (absent_debit day n k q))

pub last_lines : (day : Day) (l : Line) (J : History) → last_after (suc (length J)) l.head (debits_rows day J) (last_debits day J) ≡ last_debits day (l ∷ J)
last_lines day l J = here (is_book l.head.kind) refl
  where
    n : ℕ
    n = l.head.msg

    lasts : List ℕ
    lasts = last_debits day J

    booking : is_book l.head.kind ≡ true → is_book_of n l.head.entry l ≡ true
    booking e = book_here l n l.head.entry (e, same-number n) refl

    owing : is_book l.head.kind ≡ true → (o : Bool) → owes day J n l.head.entry ≡ o → (if o then changed n (λ last. suc (length J)) lasts else lasts) ≡ last_debits day (l ∷ J)
    owing e true q = changed_map (λ last. suc (length J)) (last_debit_booked day J) (last_debit_booked day (l ∷ J)) n (length day.messages)
        (sym (ap (λ b. if b then suc (length J) else last_debit_booked day J n) q) ∙ last_line day l J n (booking e))
        (λ j ne. last_kept day l J j (elsewhere l j ne))
    owing e false q = map_from (last_debit_booked day J) (last_debit_booked day (l ∷ J)) 1 (length day.messages) (λ j low. each j (nat_eq l.head.msg j) refl)
      where
        each : (j : ℕ) (b : Bool) → nat_eq l.head.msg j ≡ b → last_debit_booked day J j ≡ last_debit_booked day (l ∷ J) j
        each j true m = subst (λ x. last_debit_booked day J x ≡ last_debit_booked day (l ∷ J) x) (eqb-true l.head.msg j m) (last_old day l J n l.head.entry (booking e) q)
        each j false m = last_kept day l J j (apart l j m)

    here : (b : Bool) → is_book l.head.kind ≡ b → (if b && flag_at (debits_rows day J) n l.head.entry then changed n (λ last. suc (length J)) lasts else lasts) ≡ last_debits day (l ∷ J)
    here true e = ap (λ o. if o then changed n (λ last. suc (length J)) lasts else lasts) (debit_flag day J n l.head.entry) ∙ owing e (owes day J n l.head.entry) refl
    here false e = map_from (last_debit_booked day J) (last_debit_booked day (l ∷ J)) 1 (length day.messages) (λ j low. last_kept day l J j (other_kind l j e))

-- ---- the batch that its message names

given_up_same : (s : Sort) (day : Day) (l : Line) (J : History) (n k : ℕ) → revokes day n k l ≡ false → is_given_up s day J n k ≡ is_given_up s day (l ∷ J) n k
given_up_same BatchE day l J n k h = sym (placed_more (revokes day n k) l J ∙ or_none _ _ h)
given_up_same _ day l J n k h = refl

waiting_silent : (day : Day) (l : Line) (H J : History) (n : ℕ) → Silent day l n → waiting_row day H J n ≡ waiting_row day H (l ∷ J) n
waiting_silent day l H J n h = λ i. map (λ k. counts (sort_of day n) day n k && not (is_booked H n k || given_up_same (sort_of day n) day l J n k (h k) i)) (item_numbers day n)

kept_silent : (day : Day) (l : Line) (J : History) (n : ℕ) → Silent day l n → kept_row day J n ≡ kept_row day (l ∷ J) n
kept_silent day l J n h = λ i. map (λ k. is_single (sort_of day n) k && not (sym (placed_more (revokes day n k) l J ∙ or_none _ _ (h k)) i)) (item_numbers day n)

fall_waiting : (c b r p : Bool) → ((c && not (b || r)) && not p) ≡ (c && not (b || (r || p)))
fall_waiting false b r p = refl
fall_waiting true true r p = refl
fall_waiting true false true p = refl
fall_waiting true false false p = refl

fall_kept : (c r p : Bool) → ((c && not r) && not p) ≡ (c && not (r || p))
fall_kept false r p = refl
fall_kept true true p = refl
fall_kept true false p = refl

revoked_more : (day : Day) (l : Line) (J : History) (n k : ℕ) (b : Bool) → revokes day n k l ≡ b → (is_revoked_entry day J n k || b) ≡ is_revoked_entry day (l ∷ J) n k
revoked_more day l J n k b h = sym (placed_more (revokes day n k) l J ∙ ap (λ c. is_revoked_entry day J n k || c) h)

waiting_revoked : (s : Sort) (day : Day) (l : Line) (H J : History) (n : ℕ) (bank : List ℕ) → ((k : ℕ) → revokes day n k l ≡ objects day s n k bank) →
    row_revoked s day n bank (map (waits s day H J n) (item_numbers day n)) ≡ map (waits s day H (l ∷ J) n) (item_numbers day n)
waiting_revoked BatchE day l H J n bank h =
    fallen_map (is_party_at day n bank) (waits BatchE day H J n) 0 (suc (length (entries day n)))
    ∙ (λ i. map (λ k. fall_waiting (counts BatchE day n k) (is_booked H n k) (is_revoked_entry day J n k) (is_party_at day n bank k) i) (item_numbers day n))
    ∙ (λ i. map (λ k. counts BatchE day n k && not (is_booked H n k || revoked_more day l J n k (is_party_at day n bank k) (h k) i)) (item_numbers day n))
waiting_revoked _ day l H J n bank h = refl

kept_revoked : (s : Sort) (day : Day) (l : Line) (J : History) (n : ℕ) (bank : List ℕ) → ((k : ℕ) → revokes day n k l ≡ objects day s n k bank) →
    row_revoked s day n bank (map (is_kept s day J n) (item_numbers day n)) ≡ map (is_kept s day (l ∷ J) n) (item_numbers day n)
kept_revoked BatchE day l J n bank h =
    fallen_map (is_party_at day n bank) (is_kept BatchE day J n) 0 (suc (length (entries day n)))
    ∙ (λ i. map (λ k. fall_kept (is_single BatchE k) (is_revoked_entry day J n k) (is_party_at day n bank k) i) (item_numbers day n))
    ∙ (λ i. map (λ k. is_single BatchE k && not (revoked_more day l J n k (is_party_at day n bank k) (h k) i)) (item_numbers day n))
kept_revoked _ day l J n bank h = refl

first_waiting : (day : Day) (l : Line) (J : History) → waiting_after day (line_aim day l.head) l.head (waiting_rows day J) ≡ waiting_rows day (l ∷ J)
first_waiting day l J =
    ap (ruled_on (row_rule day) (line_aim day l.head) (message_at day l.head.msg)) (waiting_books day l J)
    ∙ aim_lines day l (waiting_row day (l ∷ J) J) (waiting_row day (l ∷ J) (l ∷ J)) (row_rule day)
    (λ n h a. waiting_silent day l (l ∷ J) J n h)
    (λ n bank system id h a. waiting_revoked (sort_of day n) day l (l ∷ J) J n bank h)
    (λ n bank id reply h a. waiting_silent day l (l ∷ J) J n h)

first_kept : (day : Day) (l : Line) (J : History) → kept_after day (line_aim day l.head) l.head (kept_rows day J) ≡ kept_rows day (l ∷ J)
first_kept day l J = aim_lines day l (kept_row day J) (kept_row day (l ∷ J)) (row_rule day)
    (λ n h a. kept_silent day l J n h)
    (λ n bank system id h a. kept_revoked (sort_of day n) day l J n bank h)
    (λ n bank id reply h a. kept_silent day l J n h)

-- a further objection lets no flag fall
module _ (day : Day) (l : Line) (J : History) (same : (n k : ℕ) → revoked day J n k ≡ revoked day (l ∷ J) n k) where
  given_up_again : (s : Sort) (n k : ℕ) → is_given_up s day J n k ≡ is_given_up s day (l ∷ J) n k
  given_up_again BatchE n k = ap is_some (same n k)
  given_up_again _ n k = refl

  waiting_again : changed l.head.msg (row_booked l.head) (waiting_rows day J) ≡ waiting_rows day (l ∷ J)
  waiting_again =
      waiting_books day l J
      ∙ (λ i. map (λ n. map (λ k. counts (sort_of day n) day n k && not (is_booked (l ∷ J) n k || given_up_again (sort_of day n) n k i)) (item_numbers day n)) (message_numbers day))

  kept_again : kept_rows day J ≡ kept_rows day (l ∷ J)
  kept_again = λ i. map (λ n. map (λ k. is_single (sort_of day n) k && not (is_some (same n k i))) (item_numbers day n)) (message_numbers day)

pub waiting_lines : (day : Day) (l : Line) (J : History) (earlier : Option ℕ) → IsLegal day J → IfSome earlier (λ m. repeats_objection day (owns_of day J) m l.head.msg ≡ true)
    → waiting_after day (fresh (line_aim day l.head) earlier) l.head (waiting_rows day J) ≡ waiting_rows day (l ∷ J)
waiting_lines day l J None legal h = first_waiting day l J
waiting_lines day l J (Some m) legal h = waiting_again day l J (again_same day l J m legal h)

pub kept_lines : (day : Day) (l : Line) (J : History) (earlier : Option ℕ) → IsLegal day J → IfSome earlier (λ m. repeats_objection day (owns_of day J) m l.head.msg ≡ true)
    → kept_after day (fresh (line_aim day l.head) earlier) l.head (kept_rows day J) ≡ kept_rows day (l ∷ J)
kept_lines day l J None legal h = first_kept day l J
kept_lines day l J (Some m) legal h = kept_again day l J (again_same day l J m legal h)

-- ---- no lines

given_up_first : (s : Sort) (day : Day) (n k : ℕ) → is_given_up s day [] n k ≡ false
unfolding place_of
given_up_first BatchE day n k = refl
given_up_first _ day n k = refl

none_booked : (n k : ℕ) → is_booked [] n k ≡ false
unfolding place_of
none_booked n k = refl

none_revoked : (day : Day) (n k : ℕ) → is_revoked_entry day [] n k ≡ false
unfolding place_of
none_revoked day n k = refl

none_first : (xs : List ℕ) → 0 ≡ latest (λ k. None) 0 xs
none_first [] = refl
none_first (x ∷ xs) = none_first xs

pub no_last : (day : Day) (n : ℕ) → 0 ≡ last_debit_booked day [] n
unfolding place_of
no_last day n = none_first (debit_numbers day n)

-- the flags that are watched
pub debits_first : (day : Day) (n : ℕ) → watched_row watches.Debits day n ≡ debits_row day [] n
debits_first day n = λ i. map (λ k. sym (and_not (is_debit day n k) (is_booked [] n k) (none_booked n k)) i) (item_numbers day n)

pub waiting_first : (day : Day) (n : ℕ) → watched_row watches.Waiting day n ≡ waiting_row day [] [] n
waiting_first day n = λ i. map (λ k. sym (and_not (counts (sort_of day n) day n k) (is_booked [] n k || is_given_up (sort_of day n) day [] n k) (or_both (none_booked n k) (given_up_first (sort_of day n) day n k))) i) (item_numbers day n)
  where
    or_both : {b c : Bool} → b ≡ false → c ≡ false → (b || c) ≡ false
    or_both h k = λ i. h i || k i

pub kept_first : (day : Day) (n : ℕ) → watched_row watches.Kept day n ≡ kept_row day [] n
kept_first day n = λ i. map (λ k. sym (and_not (is_single (sort_of day n) k) (is_revoked_entry day [] n k) (none_revoked day n k)) i) (item_numbers day n)
