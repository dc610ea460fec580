-- What a line tells of a message that it isn't about was told before.
use Rattle.std.proofs.Common.{◌≡◌, ◌∙◌, ℕ, suc, Bool, true, false, not, ◌&&◌, ◌||◌, List, ◌∷◌, Option, Some, None, refl, ap, length}
use Rattle.std.specs.Prelude.{is_some, nat_eq, if◌then◌else◌}
use Rattle.std.specs.Option.{option_or}
use Rattle.std.proofs.lemmas.Bool.{or_parts}
use Rattle.batch_records.specs.DayRecord.{Day}
use Rattle.batch_records.specs.declared.day.Body.{Body}
use Rattle.batch_records.specs.declared.day.Body.TheVariants as bodies
use Rattle.batch_records.specs.declared.day.Message.{Message}
use Rattle.commit_journal.specs.Line.{Line, History}
use Rattle.machine.specs.Words.{when, some_passes}
use Rattle.machine.specs.Records.Messages.{sort_of, sender, message_at, is_c}
use Rattle.machine.specs.Telling.History.{is_in, is_book, is_all, is_ask, is_cover, is_expire_or_refuse, is_in_of, is_book_of, is_all_of, is_ask_of, is_cover_of, is_closing_of, place_of, read_first, is_accepted}
use Rattle.machine.specs.Telling.Facts.{takes_well, answer_taken, revokes, objection_in, objects, cycle_taken, cycle_ended}
use Rattle.scan_laws.specs.Concerns.{object_names, accepts_objection, accepts_answer, ends_cycle, is_about, SameFacts}

or_nothing : {X : Type 0} (o : Option X) → option_or o None ≡ o
or_nothing None = refl
or_nothing (Some x) = refl

pub place_same : (test : Line → Bool) (l : Line) (J : History) → test l ≡ false → place_of test (l ∷ J) ≡ place_of test J
unfolding place_of
place_same test l J h = ap (λ b. option_or (place_of test J) (when b (suc (length J)))) h ∙ or_nothing (place_of test J)

no_answer : {X : Type 0} (o : Option X) → is_some o ≡ false → o ≡ None
no_answer None h = refl
no_answer (Some x) h = cc

pub read_same : {X : Type 0} (read : Line → Option X) (l : Line) (J : History) → is_some (read l) ≡ false → read_first read (l ∷ J) ≡ read_first read J
unfolding read_first
read_same read l J h = ap (option_or (read_first read J)) (no_answer (read l) h) ∙ or_nothing (read_first read J)

pub unread : {X : Type 0} (b : Bool) (x : X) → b ≡ false → is_some (when b x) ≡ false
unread b x h = ap (λ c. is_some (when c x)) h

-- ---- objections

unobjected_body : (day : Day) (n k : ℕ) (from : List ℕ) (b : Body) → object_names day n b ≡ false → objection_in day n k from b ≡ false
unobjected_body day n k from (bodies.Object system id) h = ap (λ c. c && objects day (sort_of day n) n k from) h
unobjected_body day n k from (bodies.Batch p info early till count sum entries) h = refl
unobjected_body day n k from (bodies.Pay high debit credit amount) h = refl
unobjected_body day n k from (bodies.Liquidity debit credit amount) h = refl
unobjected_body day n k from (bodies.Confirm id answer) h = refl
unobjected_body day n k from (bodies.Cycle start) h = refl

unobjected : (day : Day) (n k : ℕ) (t : Bool) (o : Option Message) → (t && some_passes (λ (m : Message). object_names day n m.body) o) ≡ false → (t && some_passes (λ (m : Message). objection_in day n k m.sender m.body) o) ≡ false
unobjected day n k false o h = refl
unobjected day n k true None h = refl
unobjected day n k true (Some m) h = unobjected_body day n k m.sender m.body h

unrevoked : (day : Day) (l : Line) (n k : ℕ) → accepts_objection day l n ≡ false → revokes day n k l ≡ false
unrevoked day l n k h = unobjected day n k (takes_well l) (message_at day l.head.msg) h

-- ---- cycles

cycle_kept : (c a i e x : Bool) → i ≡ false → (c && e && a && not x) ≡ false → (c && a && (if i then false else (e || x))) ≡ (c && a && x)
cycle_kept false a i e x h k = refl
cycle_kept true false i e x h k = refl
cycle_kept true true true e x h k = cc
cycle_kept true true false false x h k = refl
cycle_kept true true false true true h k = refl
cycle_kept true true false true false h k = cc

pub cycle_same : (day : Day) (l : Line) (J : History) (n : ℕ) → is_in_of n l ≡ false → ends_cycle day J l n ≡ false → (is_c (sort_of day n) && is_accepted J n && cycle_ended day n (l ∷ J)) ≡ (is_c (sort_of day n) && is_accepted J n && cycle_ended day n J)
unfolding cycle_ended
cycle_same day l J n h k = cycle_kept (is_c (sort_of day n)) (is_accepted J n) (is_in_of n l) (some_passes not (cycle_taken day (sender day n) l)) (cycle_ended day n J) h k

-- ---- all facts

pub apart : (b c : Bool) → c ≡ false → (b && c) ≡ false
apart true c h = h
apart false c h = refl

pub untold : (b c : Bool) → b ≡ false → (b && c) ≡ false
untold b c h = ap (λ x. x && c) h

-- a line that is about n in none of four ways
abbrev NotAbout : Day → History → Line → ℕ → Type 0
NotAbout day J l n = (nat_eq l.head.msg n ≡ false) × (accepts_objection day l n ≡ false) × (accepts_answer day l n ≡ false) × (ends_cycle day J l n ≡ false)

not_about : (day : Day) (J : History) (l : Line) (n : ℕ) → is_about day J l n ≡ false → NotAbout day J l n
not_about day J l n h =
    let a = or_parts (nat_eq l.head.msg n || accepts_objection day l n || accepts_answer day l n) (ends_cycle day J l n) h in
    let b = or_parts (nat_eq l.head.msg n || accepts_objection day l n) (accepts_answer day l n) a.0 in
    let c = or_parts (nat_eq l.head.msg n) (accepts_objection day l n) b.0 in
    (c.0, c.1, b.1, a.1)

pub facts_stay : (day : Day) (J : History) (l : Line) (n : ℕ) → is_about day J l n ≡ false → SameFacts day (l ∷ J) J n
facts_stay day J l n h =
    let a = not_about day J l n h in
    let i : is_in_of n l ≡ false = apart (is_in l.head.kind) (nat_eq l.head.msg n) a.0 in
    record {
      same_taken = place_same (is_in_of n) l J i;
      same_code = read_same (λ x. when (is_in_of n x) x.head.code) l J (unread (is_in_of n l) l.head.code i);
      same_booked = λ k. place_same (is_book_of n k) l J (ap (λ b. b && nat_eq l.head.entry k) (apart (is_book l.head.kind) (nat_eq l.head.msg n) a.0));
      same_whole = place_same (is_all_of n) l J (apart (is_all l.head.kind) (nat_eq l.head.msg n) a.0);
      same_asked = place_same (is_ask_of n) l J (apart (is_ask l.head.kind) (nat_eq l.head.msg n) a.0);
      same_covered = place_same (is_cover_of n) l J (apart (is_cover l.head.kind) (nat_eq l.head.msg n) a.0);
      same_closed = place_same (is_closing_of n) l J (apart (is_expire_or_refuse l.head.kind) (nat_eq l.head.msg n) a.0);
      same_answered = place_same (λ x. is_some (answer_taken day n x)) l J a.2;
      same_answer = read_same (answer_taken day n) l J a.2;
      same_revoked = λ k. place_same (revokes day n k) l J (unrevoked day l n k a.1);
      same_cycle = cycle_same day l J n i a.3;
    }
