-- What is kept of a number is what the lines tell of it, also where no message has it.
use Rattle.std.proofs.Common.{◌≡◌, ◌∙◌, ℕ, zero, suc, ◌+◌, ◌≤◌, ◌<◌, Bool, true, false, not, ◌&&◌, List, [], ◌∷◌, Option, Some, None, length, refl, sym, ap, arith, map, if◌then◌else◌}
use Rattle.std.specs.Prelude.{is_some, nat_eq, nat_lt, option_map}
use Rattle.std.specs.List.{range_with_len}
use Rattle.std.specs.Option.{option_map_or, option_or}
use Rattle.std.proofs.lemmas.Bool.{and_parts, eqb-true, ltb-true, ltb-false}
use Rattle.batch_records.specs.DayRecord.{Day}
use Rattle.batch_records.specs.declared.day.Message.{Message}
use Rattle.batch_records.specs.declared.day.Body.{Body}
use Rattle.batch_records.specs.declared.day.Body.TheVariants as bodies
use Rattle.commit_journal.specs.declared.line.Kind.{Kind}
use Rattle.commit_journal.specs.declared.line.Kind.TheVariants as kinds
use Rattle.commit_journal.specs.declared.line.Want.{Want}
use Rattle.commit_journal.specs.declared.line.Want.TheVariants as wants
use Rattle.commit_journal.specs.Line.{Line, History}
use Rattle.machine.specs.Words.{numbered, some_passes, when}
use Rattle.machine.specs.Records.Messages.{Sort, Missing, Pay, BatchA, BatchB, BatchC, BatchD, BatchE, Liquidity, Object, Confirm, Cycle, entries, is_batch, is_message, is_named, is_repeat, item_numbers, message_at, message_numbers, names_batch, sort_of, sort_of_body}
use Rattle.machine.specs.Telling.History.{asked, booked, closed, covered, is_all, is_all_of, is_ask, is_ask_of, is_book, is_book_of, is_closing_of, is_cover, is_cover_of, is_expire_or_refuse, is_in, is_in_of, place_of, read_first, settled_whole, taken, taken_code}
use Rattle.machine.specs.Telling.Facts.{answer, answer_in, answer_of_message, answer_taken, answered, objection_in, objects, revoked, revokes, takes_well}
use Rattle.machine.specs.Stages.Pending.{item}
use Rattle.machine.specs.Making.Lines.{is_covered_part, is_free_part, made, may}
use Rattle.machine.specs.Legal.{IsLegal}
use Rattle.settlement_laws.proofs.DayEnd.LineBound.{part_within}
use Rattle.settlement_laws.proofs.Base.Induction.{legal_induction}
use Rattle.settlement_laws.proofs.Base.Places.{place-other}
use Rattle.day_facts.specs.Lists.{at}
use Rattle.day_facts.specs.Own.{booked_row, booked_rows, code_in, own_of, owns_of, place_in}
use Rattle.day_facts.specs.Rows.{place_at}
use Rattle.day_facts.specs.Told.{kept_answer, answered_in, item_for, parts_of, revoked_in, revoked_row, revoked_rows, told_of, tolds_of}
use Rattle.day_facts.proofs.Absent.{Within, about_kind, no_code, no_place, speaks}
use Rattle.machine.proofs.Lists.{numbered_map}
use Rattle.day_facts.proofs.ToldParts.{no_entry}

-- ---- a table over the messages

looked_up : {X Y : Type 0} (f : ℕ → X) (day : Day) (n : ℕ) (read : X → Option Y) (value : Option Y) → read (f n) ≡ value → (is_message (sort_of day n) ≡ false → value ≡ None) → option_map_or read (numbered (map f (message_numbers day)) n) None ≡ value
looked_up f day n read value h absent = ap (λ o. option_map_or read o None) (numbered_map f day.messages n) ∙ here (message_at day n) refl
  where
    here : (o : Option Message) → message_at day n ≡ o → option_map_or read (option_map (λ y. f n) o) None ≡ value
    here None e = sym (absent (ap (λ (x : Option Message). is_message (option_map_or (λ m. sort_of_body m.body) x Missing)) e))
    here (Some m) e = h

-- ---- lines about a message

in_kind : (k : Kind) → speaks k ≡ false → is_in k ≡ false
in_kind kinds.In h = cc
in_kind _ h = refl

all_kind : (k : Kind) → speaks k ≡ false → is_all k ≡ false
all_kind kinds.All h = cc
all_kind _ h = refl

ask_kind : (k : Kind) → speaks k ≡ false → is_ask k ≡ false
ask_kind kinds.Ask h = cc
ask_kind _ h = refl

cover_kind : (k : Kind) → speaks k ≡ false → is_cover k ≡ false
cover_kind kinds.Cover h = cc
cover_kind _ h = refl

closing_kind : (k : Kind) → speaks k ≡ false → is_expire_or_refuse k ≡ false
closing_kind kinds.Expire h = cc
closing_kind kinds.Refuse h = cc
closing_kind _ h = refl

book_kind : (k : Kind) → speaks k ≡ false → is_book k ≡ false
book_kind kinds.Book h = cc
book_kind _ h = refl

pub taken_is : (day : Day) (J : History) (n : ℕ) → IsLegal day J → place_in (λ own. own.taken) (owns_of day J) n ≡ taken J n
unfolding own_of
taken_is day J n legal = looked_up (own_of J) day n (λ own. own.taken) (taken J n) refl (λ absent. no_place day n absent (is_in_of n) (about_kind n is_in in_kind) J legal)

pub code_is : (day : Day) (J : History) (n : ℕ) → IsLegal day J → code_in (owns_of day J) n ≡ taken_code J n
unfolding own_of
code_is day J n legal = looked_up (own_of J) day n (λ own. own.code) (taken_code J n) refl (λ absent. no_code day n absent J legal)

pub whole_is : (day : Day) (J : History) (n : ℕ) → IsLegal day J → place_in (λ own. own.whole) (owns_of day J) n ≡ settled_whole J n
unfolding own_of
whole_is day J n legal = looked_up (own_of J) day n (λ own. own.whole) (settled_whole J n) refl (λ absent. no_place day n absent (is_all_of n) (about_kind n is_all all_kind) J legal)

pub asked_is : (day : Day) (J : History) (n : ℕ) → IsLegal day J → place_in (λ own. own.asked) (owns_of day J) n ≡ asked J n
unfolding own_of
asked_is day J n legal = looked_up (own_of J) day n (λ own. own.asked) (asked J n) refl (λ absent. no_place day n absent (is_ask_of n) (about_kind n is_ask ask_kind) J legal)

pub covered_is : (day : Day) (J : History) (n : ℕ) → IsLegal day J → place_in (λ own. own.covered) (owns_of day J) n ≡ covered J n
unfolding own_of
covered_is day J n legal = looked_up (own_of J) day n (λ own. own.covered) (covered J n) refl (λ absent. no_place day n absent (is_cover_of n) (about_kind n is_cover cover_kind) J legal)

pub closed_is : (day : Day) (J : History) (n : ℕ) → IsLegal day J → place_in (λ own. own.closed) (owns_of day J) n ≡ closed J n
unfolding own_of
closed_is day J n legal = looked_up (own_of J) day n (λ own. own.closed) (closed J n) refl (λ absent. no_place day n absent (is_closing_of n) (about_kind n is_expire_or_refuse closing_kind) J legal)

-- ---- the items of a message

pub at_in : (f : ℕ → Option ℕ) (s len k j : ℕ) → j ≡ s + k → k < len → at (map f (range_with_len s len)) k ≡ f j
at_in f s zero k j e l = absurd (omega arith)
at_in f s (suc len) zero j e l = let here : s ≡ j = omega (arith, e) in ap f here
at_in f s (suc len) (suc k) j e l = at_in f (s + 1) len k j (omega (arith, e)) (omega arith)

pub at_past : (f : ℕ → Option ℕ) (s len k : ℕ) → len ≤ k → at (map f (range_with_len s len)) k ≡ None
at_past f s zero k l = refl
at_past f s (suc len) zero l = absurd (omega arith)
at_past f s (suc len) (suc k) l = at_past f (s + 1) len k (omega arith)

none_yet : (t : Line → Bool) → place_of t [] ≡ None
unfolding place_of
none_yet t = refl

book_within : (day : Day) (J : History) (w : Want) (n k : ℕ) → length (entries day n) < k → may day J w ≡ true → is_book_of n k (made day J w) ≡ false
book_within day J (wants.Book m i) n k low h = here (nat_eq m n) (nat_eq i k) refl refl
  where
    here : (b c : Bool) → nat_eq m n ≡ b → nat_eq i k ≡ c → (b && c) ≡ false
    here false c p q = refl
    here true false p q = refl
    here true true p q =
        let same : m ≡ n = eqb-true m n p in
        let at_k : i ≡ k = eqb-true i k q in
        let inside : i < 1 + length (entries day m) = part_within day m i (λ e. is_free_part day J (item m i) e && is_covered_part day J m e) (omega (arith, at_k)) (and_parts _ _ h).1 in
        let long : length (entries day m) ≡ length (entries day n) = ap (λ x. length (entries day x)) same in
        absurd (omega (arith, inside, long, at_k))
book_within day J (wants.In m) n k low h = refl
book_within day J (wants.All m) n k low h = refl
book_within day J wants.Time n k low h = refl
book_within day J (wants.Expire m) n k low h = refl
book_within day J (wants.Ask m) n k low h = refl
book_within day J (wants.Cover m) n k low h = refl
book_within day J (wants.Refuse m) n k low h = refl
book_within day J (wants.Sweep a) n k low h = refl
book_within day J wants.End n k low h = refl

none_booked : (day : Day) (n k : ℕ) → length (entries day n) < k → (J : History) → IsLegal day J → booked J n k ≡ None
none_booked day n k low = legal_induction day (λ J. booked J n k ≡ None) (none_yet (is_book_of n k))
    (λ J w legal before e ok. place-other (is_book_of n k) (made day J w) J (book_within day J w n k low ok) ∙ before)

booked_at : (day : Day) (J : History) (n k : ℕ) → IsLegal day J → at (map (booked J n) (item_numbers day n)) k ≡ booked J n k
booked_at day J n k legal = here (nat_lt k (suc (length (entries day n)))) refl
  where
    here : (b : Bool) → nat_lt k (suc (length (entries day n))) ≡ b → at (map (booked J n) (item_numbers day n)) k ≡ booked J n k
    here true e = at_in (booked J n) 0 (suc (length (entries day n))) k k (omega arith) (ltb-true k _ e)
    here false e =
        let past : suc (length (entries day n)) ≤ k = ltb-false k _ e in
        at_past (booked J n) 0 (suc (length (entries day n))) k past ∙ sym (none_booked day n k (omega (arith, past)) J legal)

not_booked : (n k : ℕ) → Within n (is_book_of n k)
not_booked n k l e = ap (λ b. b && nat_eq l.head.entry k) (about_kind n is_book book_kind l e)

pub booked_is : (day : Day) (J : History) (n k : ℕ) → IsLegal day J → place_at (booked_rows day J) n k ≡ booked J n k
booked_is day J n k legal = looked_up (booked_row day J) day n (λ row. at row k) (booked J n k) (booked_at day J n k legal) (λ absent. no_place day n absent (is_book_of n k) (not_booked n k) J legal)

-- ---- what messages on a batch say

-- no line passes
never_placed : (t : Line → Bool) → ((l : Line) → t l ≡ false) → (J : History) → place_of t J ≡ None
never_placed t h [] = none_yet t
never_placed t h (l ∷ J) = place-other t l J (h l) ∙ never_placed t h J

-- two tests that tell the same
same_placed : (t u : Line → Bool) → ((l : Line) → t l ≡ u l) → (J : History) → place_of t J ≡ place_of u J
unfolding place_of
same_placed t u h [] = refl
same_placed t u h (l ∷ J) = (λ i. option_or (same_placed t u h J i) (when (h l i) (suc (length J))))

by_message : (takes : Bool) (test : Message → Bool) (o : Option Message) → ((m : Message) → test m ≡ false) → (takes && some_passes test o) ≡ false
by_message false test o h = refl
by_message true test None h = refl
by_message true test (Some m) h = h m

unnamed : (day : Day) (system id : List ℕ) (n : ℕ) → is_batch (sort_of day n) ≡ false → names_batch day system id n ≡ false
unnamed day system id n h = ap (λ b. b && some_passes (is_named system id) (message_at day n) && not (is_repeat day n)) h

no_answer : (day : Day) (n : ℕ) → is_batch (sort_of day n) ≡ false → (l : Line) → answer_taken day n l ≡ None
no_answer day n h l = here (takes_well l) (message_at day l.head.msg)
  where
    by_body : (from : List ℕ) (body : Body) → answer_in day n from body ≡ None
    by_body from (bodies.Confirm id reply) = ap (λ b. when b reply) (unnamed day from id n h)
    by_body from _ = refl

    here : (takes : Bool) (o : Option Message) → (if takes then answer_of_message day n o else None) ≡ None
    here false o = refl
    here true None = refl
    here true (Some m) = by_body m.sender m.body

not_batch : (s : Sort) → is_message s ≡ false → is_batch s ≡ false
not_batch Missing h = refl
not_batch _ h = cc

pub answered_is : (day : Day) (J : History) (n : ℕ) → answered_in (tolds_of day J) n ≡ answered day J n
unfolding told_of
answered_is day J n = looked_up (told_of day J) day n (λ told. told.answered) (answered day J n) refl
    (λ absent. never_placed (λ l. is_some (answer_taken day n l)) (λ l. ap is_some (no_answer day n (not_batch (sort_of day n) absent) l)) J)

or_nothing : {X : Type 0} (o : Option X) → option_or o None ≡ o
or_nothing (Some x) = refl
or_nothing None = refl

never_read : {X : Type 0} (read : Line → Option X) → ((l : Line) → read l ≡ None) → (J : History) → read_first read J ≡ None
unfolding read_first
never_read read h [] = refl
never_read read h (l ∷ J) = ap (option_or (read_first read J)) (h l) ∙ or_nothing (read_first read J) ∙ never_read read h J

pub answer_is : (day : Day) (J : History) (n : ℕ) → kept_answer (tolds_of day J) n ≡ answer day J n
unfolding told_of
answer_is day J n = looked_up (told_of day J) day n (λ told. told.answer) (answer day J n) refl
    (λ absent. never_read (answer_taken day n) (no_answer day n (not_batch (sort_of day n) absent)) J)

-- ---- what revokes an item

objects_as : (day : Day) (n k : ℕ) (s : Sort) → sort_of day n ≡ s → (l : Line) → ((bank : List ℕ) → objects day s n k bank ≡ false) → revokes day n k l ≡ false
objects_as day n k s e l h = by_message (takes_well l) (λ (m : Message). objection_in day n k m.sender m.body) (message_at day l.head.msg) (λ m. by_body m.sender m.body)
  where
    no_and : (a b : Bool) → b ≡ false → (a && b) ≡ false
    no_and true b q = q
    no_and false b q = refl

    by_body : (from : List ℕ) (body : Body) → objection_in day n k from body ≡ false
    by_body from (bodies.Object system id) = no_and (names_batch day system id n) _ (ap (λ x. objects day x n k from) e ∙ h from)
    by_body from _ = refl

-- of A and B any item will do
whole_objected : (day : Day) (n k : ℕ) (s : Sort) → sort_of day n ≡ s → ((bank : List ℕ) → objects day s n 0 bank ≡ objects day s n k bank) → (l : Line) → revokes day n 0 l ≡ revokes day n k l
whole_objected day n k s e h l = here (takes_well l) (message_at day l.head.msg)
  where
    by_body : (from : List ℕ) (body : Body) → objection_in day n 0 from body ≡ objection_in day n k from body
    by_body from (bodies.Object system id) = ap (λ b. names_batch day system id n && b) (ap (λ x. objects day x n 0 from) e ∙ h from ∙ sym (ap (λ x. objects day x n k from) e))
    by_body from _ = refl

    here : (takes : Bool) (o : Option Message) → (takes && some_passes (λ (m : Message). objection_in day n 0 m.sender m.body) o) ≡ (takes && some_passes (λ (m : Message). objection_in day n k m.sender m.body) o)
    here false o = refl
    here true None = refl
    here true (Some m) = by_body m.sender m.body

revoked_at : (s : Sort) (day : Day) (J : History) (n k : ℕ) → sort_of day n ≡ s → at (map (revoked day J n) (range_with_len 0 (parts_of s day n))) (item_for s k) ≡ revoked day J n k
revoked_at BatchA day J n k e = same_placed _ _ (whole_objected day n k BatchA e (λ bank. refl)) J
revoked_at BatchB day J n k e = same_placed _ _ (whole_objected day n k BatchB e (λ bank. refl)) J
revoked_at BatchE day J n k e = here (nat_lt k (suc (length (entries day n)))) refl
  where
    here : (b : Bool) → nat_lt k (suc (length (entries day n))) ≡ b → at (map (revoked day J n) (range_with_len 0 (suc (length (entries day n))))) k ≡ revoked day J n k
    here true q = at_in (revoked day J n) 0 (suc (length (entries day n))) k k (omega arith) (ltb-true k _ q)
    here false q =
        let past : suc (length (entries day n)) ≤ k = ltb-false k _ q in
        at_past (revoked day J n) 0 (suc (length (entries day n))) k past
        ∙ sym (never_placed (revokes day n k) (λ l. objects_as day n k BatchE e l (λ bank. no_entry day n bank k (omega (arith, past)))) J)
revoked_at Missing day J n zero e = refl
revoked_at Pay day J n zero e = refl
revoked_at BatchC day J n zero e = refl
revoked_at BatchD day J n zero e = refl
revoked_at Liquidity day J n zero e = refl
revoked_at Object day J n zero e = refl
revoked_at Confirm day J n zero e = refl
revoked_at Cycle day J n zero e = refl
revoked_at Missing day J n (suc i) e = sym (never_placed (revokes day n (suc i)) (λ l. objects_as day n (suc i) Missing e l (λ bank. refl)) J)
revoked_at Pay day J n (suc i) e = sym (never_placed (revokes day n (suc i)) (λ l. objects_as day n (suc i) Pay e l (λ bank. refl)) J)
revoked_at BatchC day J n (suc i) e = sym (never_placed (revokes day n (suc i)) (λ l. objects_as day n (suc i) BatchC e l (λ bank. refl)) J)
revoked_at BatchD day J n (suc i) e = sym (never_placed (revokes day n (suc i)) (λ l. objects_as day n (suc i) BatchD e l (λ bank. refl)) J)
revoked_at Liquidity day J n (suc i) e = sym (never_placed (revokes day n (suc i)) (λ l. objects_as day n (suc i) Liquidity e l (λ bank. refl)) J)
revoked_at Object day J n (suc i) e = sym (never_placed (revokes day n (suc i)) (λ l. objects_as day n (suc i) Object e l (λ bank. refl)) J)
revoked_at Confirm day J n (suc i) e = sym (never_placed (revokes day n (suc i)) (λ l. objects_as day n (suc i) Confirm e l (λ bank. refl)) J)
revoked_at Cycle day J n (suc i) e = sym (never_placed (revokes day n (suc i)) (λ l. objects_as day n (suc i) Cycle e l (λ bank. refl)) J)

pub revoked_is : (day : Day) (J : History) (n k : ℕ) → revoked_in day (revoked_rows day J) n k ≡ revoked day J n k
revoked_is day J n k = looked_up (revoked_row day J) day n (λ row. at row (item_for (sort_of day n) k)) (revoked day J n k) (revoked_at (sort_of day n) day J n k refl)
    (λ absent. never_placed (revokes day n k) (λ l. objects_as day n k (sort_of day n) refl l (no_objects (sort_of day n) absent)) J)
  where
    no_objects : (s : Sort) → is_message s ≡ false → (bank : List ℕ) → objects day s n k bank ≡ false
    no_objects Missing h bank = refl
    no_objects _ h bank = cc
