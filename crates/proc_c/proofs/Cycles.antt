-- The cycle in which a batch of procedure C was accepted has ended exactly where none is open now, or one that was started
-- later: none starts while one is open.
use Rattle.std.proofs.Common.{◌≡◌, ℕ, suc, ◌≤◌, ◌<◌, Bool, true, false, not, ◌&&◌, ◌||◌, List, [], ◌∷◌, length, Option, Some, None, refl, sym, ap, ◌∙◌, subst, arith}
use Rattle.std.specs.Prelude.{is_some, is_none, nat_eq, if◌then◌else◌}
use Rattle.std.specs.Option.{option_or, option_map_or}
use Rattle.std.proofs.lemmas.Bool.{and_parts, eqb-true, lt-ltb, le-ltb}
use Rattle.std.proofs.lemmas.Option.{same_Some}
use Rattle.account_book.proofs.SoundLemmas.{same_names}
use Rattle.batch_records.specs.DayRecord.{Day}
use Rattle.batch_records.specs.declared.day.Message.{Message}
use Rattle.batch_records.specs.declared.day.Body.{Body}
use Rattle.batch_records.specs.declared.day.Body.TheVariants as bodies
use Rattle.commit_journal.specs.declared.line.Want.{Want}
use Rattle.commit_journal.specs.declared.line.Want.TheVariants as wants
use Rattle.commit_journal.specs.declared.line.Code.{Code}
use Rattle.commit_journal.specs.Line.{Line, History}
use Rattle.machine.specs.Words.{some_passes, same_name, when}
use Rattle.machine.specs.Records.Messages.{Missing, sort_of, sort_of_body, is_c, is_message, sender, message_at}
use Rattle.machine.specs.Telling.History.{is_in, is_ok, is_in_of, place_of, read_first, taken, taken_code, is_accepted}
use Rattle.machine.specs.Telling.Facts.{is_reached, untaken_earlier, cycle_in, cycle_of_message, cycle_taken, open_cycle, cycle_ended}
use Rattle.machine.specs.Records.Setup.{is_system, system_named}
use Rattle.machine.specs.Stages.Intake.{intake_code, cycle_is_wrong_in, sender_is_wrong}
use Rattle.machine.specs.Making.Lines.{may, made, may_take}
use Rattle.machine.specs.Legal.{IsLegal}
use Rattle.rule_book.proofs.Numbering.{is_found}
use Rattle.settlement_laws.proofs.Base.Induction.{legal_induction}
use Rattle.settlement_laws.proofs.Base.IntakeFacts.{passed_intake}
use Rattle.settlement_laws.proofs.Base.Places.{place-other}
use Rattle.settlement_laws.proofs.Base.Counting.{place_within, not_some}
use Rattle.settlement_laws.proofs.Base.OngoingPhases.{accepted_there}
use Rattle.proc_c.specs.Reasons.{has_ended_since}
use Rattle.proc_c.proofs.SortOfC.{asks_for_a_cycle}

-- ---- what one more line does to a cycle

open-still : (day : Day) (s : List ℕ) (l : Line) (J : History) → cycle_taken day s l ≡ None → open_cycle day s (l ∷ J) ≡ open_cycle day s J
unfolding open_cycle
open-still day s l J h = rw h refl

open-started : (day : Day) (s : List ℕ) (l : Line) (J : History) → cycle_taken day s l ≡ Some true → open_cycle day s (l ∷ J) ≡ Some (suc (length J))
unfolding open_cycle
open-started day s l J h = rw h refl

open-ended : (day : Day) (s : List ℕ) (l : Line) (J : History) → cycle_taken day s l ≡ Some false → open_cycle day s (l ∷ J) ≡ None
unfolding open_cycle
open-ended day s l J h = rw h refl

ended-more : (day : Day) (n : ℕ) (l : Line) (J : History) (o : Option Bool) → is_in_of n l ≡ false → cycle_taken day (sender day n) l ≡ o → cycle_ended day n (l ∷ J) ≡ (some_passes not o || cycle_ended day n J)
unfolding cycle_ended
ended-more day n l J o h k = rw (h, k) refl

ended-fresh : (day : Day) (n : ℕ) (l : Line) (J : History) → is_in_of n l ≡ true → cycle_ended day n (l ∷ J) ≡ false
unfolding cycle_ended
ended-fresh day n l J h = rw h refl

open_within : (day : Day) (s : List ℕ) (J : History) (p : ℕ) → open_cycle day s J ≡ Some p → p ≤ length J
unfolding open_cycle
open_within day s [] p e = cc
open_within day s (l ∷ J) p e = here (cycle_taken day s l) refl (open_within day s J p)
  where
    here : (o : Option Bool) → cycle_taken day s l ≡ o → (open_cycle day s J ≡ Some p → p ≤ length J) → p ≤ suc (length J)
    here None k before = omega (arith, before (sym (open-still day s l J k) ∙ e))
    here (Some true) k before = omega (arith, same_Some (suc (length J)) p (sym (open-started day s l J k) ∙ e))
    here (Some false) k before = absurd (let no : None ≡ Some p = sym (open-ended day s l J k) ∙ e in cc)

-- ---- what it does to the message's intake

or_none : {X : Type 0} (o : Option X) → option_or o None ≡ o
or_none None = refl
or_none (Some x) = refl

accepted-other : (n : ℕ) (l : Line) (J : History) → is_in_of n l ≡ false → is_accepted (l ∷ J) n ≡ is_accepted J n
unfolding read_first
accepted-other n l J h = ap (λ b. some_passes is_ok (option_or (taken_code J n) (when b l.head.code))) h ∙ ap (some_passes is_ok) (or_none (taken_code J n))

taken-now : (n : ℕ) (l : Line) (J : History) → is_none (taken J n) ≡ true → is_in_of n l ≡ true → taken (l ∷ J) n ≡ Some (suc (length J))
unfolding place_of
taken-now n l J h k = here (taken J n) (is_in_of n l) h k
  where
    here : (o : Option ℕ) (b : Bool) → is_none o ≡ true → b ≡ true → option_or o (when b (suc (length J))) ≡ Some (suc (length J))
    here None true h k = refl
    here None false h k = cc
    here (Some p) b h k = cc

passes_when : (b : Bool) (c : Code) → some_passes is_ok (when b c) ≡ true → is_ok c ≡ true
passes_when true c h = h
passes_when false c h = cc

accepted-now : (n : ℕ) (l : Line) (J : History) → is_none (taken J n) ≡ true → is_accepted (l ∷ J) n ≡ true → is_ok l.head.code ≡ true
unfolding read_first
accepted-now n l J h a = here (taken_code J n) refl a
  where
    here : (o : Option Code) → taken_code J n ≡ o → some_passes is_ok (option_or o (when (is_in_of n l) l.head.code)) ≡ true → is_ok l.head.code ≡ true
    here None q a = passes_when (is_in_of n l) l.head.code a
    here (Some c) q a =
        let there : is_some (taken J n) ≡ true = accepted_there J n (subst (λ o. some_passes is_ok o ≡ true) (sym q) a) in
        let none : is_some (taken J n) ≡ false = not_some (taken J n) h in
        absurd (cc)

-- ---- what an accepted cycle message found

if_some : {X : Type 0} (b : Bool) (o : Option X) (x : X) → (if b then o else None) ≡ Some x → (b ≡ true) × (o ≡ Some x)
if_some true o x h = (refl, h)
if_some false o x h = cc

by_body : (day : Day) (J : History) (s from : List ℕ) (b : Body) → cycle_in s from b ≡ Some true → cycle_is_wrong_in day J from b ≡ false → is_some (open_cycle day s J) ≡ false
by_body day J s from (bodies.Cycle start) h k = here start (same_name from s) refl h k
  where
    here : (start b : Bool) → same_name from s ≡ b → when b start ≡ Some true → cycle_is_wrong_in day J from (bodies.Cycle start) ≡ false → is_some (open_cycle day s J) ≡ false
    here true true e h k = subst (λ x. is_some (open_cycle day x J) ≡ false) (same_names from s e) k
    here false true e h k = cc
    here start false e h k = cc
by_body day J s from _ h k = cc

none_open : (day : Day) (J : History) (s : List ℕ) (o : Option Message) → cycle_of_message s o ≡ Some true → some_passes (λ m. cycle_is_wrong_in day J m.sender m.body) o ≡ false → is_some (open_cycle day s J) ≡ false
none_open day J s None h k = cc
none_open day J s (Some m) h k = by_body day J s m.sender m.body h k

-- a cycle is started only where none is open
started_fresh : (day : Day) (J : History) (s : List ℕ) (m : ℕ) → cycle_taken day s (made day J (wants.In m)) ≡ Some true → is_some (open_cycle day s J) ≡ false
started_fresh day J s m h =
    let t = if_some (is_ok (intake_code day J m)) (cycle_of_message s (message_at day m)) true h in
    none_open day J s (message_at day m) t.1 (passed_intake day J m t.0).cycle_right

-- a batch starts and ends none
no_cycle : (s : List ℕ) (o : Option Message) → is_c (option_map_or (λ m. sort_of_body m.body) o Missing) ≡ true → cycle_of_message s o ≡ None
no_cycle s None h = refl
no_cycle s (Some m) h = here m.body h
  where
    here : (b : Body) → is_c (sort_of_body b) ≡ true → cycle_in s m.sender b ≡ None
    here (bodies.Cycle start) h = cc
    here _ h = refl

-- ---- legal histories

abbrev Known : Day → ℕ → History → Type 0
Known day n J = (t : ℕ) → taken J n ≡ Some t → is_accepted J n ≡ true → cycle_ended day n J ≡ has_ended_since (open_cycle day (sender day n) J) (Some t)

still : (day : Day) (n : ℕ) (J : History) (l : Line) → is_in_of n l ≡ false → cycle_taken day (sender day n) l ≡ None → Known day n J → Known day n (l ∷ J)
still day n J l h k before t e a =
    ended-more day n l J None h k
    ∙ before t (sym (place-other (is_in_of n) l J h) ∙ e) (sym (accepted-other n l J h) ∙ a)
    ∙ ap (λ o. has_ended_since o (Some t)) (sym (open-still day (sender day n) l J k))

other : (day : Day) (n : ℕ) (J : History) (l : Line) → is_in l.head.kind ≡ false → Known day n J → Known day n (l ∷ J)
other day n J l h before =
    still day n J l (ap (λ b. b && nat_eq l.head.msg n) h) (ap (λ b. if b && is_ok l.head.code then cycle_of_message (sender day n) (message_at day l.head.msg) else None) h) before

ended_none : (o : Option ℕ) (t : ℕ) → is_some o ≡ false → has_ended_since o (Some t) ≡ true
ended_none None t h = refl
ended_none (Some p) t h = cc

-- another message is taken
another : (day : Day) (n : ℕ) (J : History) (m : ℕ) → is_in_of n (made day J (wants.In m)) ≡ false → Known day n J → Known day n (made day J (wants.In m) ∷ J)
another day n J m h before = here (cycle_taken day (sender day n) (made day J (wants.In m))) refl
  where
    here : (o : Option Bool) → cycle_taken day (sender day n) (made day J (wants.In m)) ≡ o → Known day n (made day J (wants.In m) ∷ J)
    here None k t e a = still day n J (made day J (wants.In m)) h k before t e a
    here (Some true) k t e a =
        let was : taken J n ≡ Some t = sym (place-other (is_in_of n) (made day J (wants.In m)) J h) ∙ e in
        let late : t ≤ length J = place_within (is_in_of n) J t was in
        let after : t < suc (length J) = omega (arith, late) in
        ended-more day n (made day J (wants.In m)) J (Some true) h k
        ∙ before t was (sym (accepted-other n (made day J (wants.In m)) J h) ∙ a)
        ∙ ended_none (open_cycle day (sender day n) J) t (started_fresh day J (sender day n) m k)
        ∙ sym (ap (λ o. has_ended_since o (Some t)) (open-started day (sender day n) (made day J (wants.In m)) J k) ∙ lt-ltb t (suc (length J)) after)
    here (Some false) k t e a =
        ended-more day n (made day J (wants.In m)) J (Some false) h k
        ∙ sym (ap (λ o. has_ended_since o (Some t)) (open-ended day (sender day n) (made day J (wants.In m)) J k))

abbrev nothing_taken : Option Bool
nothing_taken = None

-- the batch is taken
own : (day : Day) (n : ℕ) (J : History) → is_c (sort_of day n) ≡ true → is_none (taken J n) ≡ true → is_in_of n (made day J (wants.In n)) ≡ true → Known day n (made day J (wants.In n) ∷ J)
own day n J c h i t e a =
    let here_now : suc (length J) ≡ t = same_Some (suc (length J)) t (sym (taken-now n (made day J (wants.In n)) J h i) ∙ e) in
    let ok : is_ok (intake_code day J n) ≡ true = accepted-now n (made day J (wants.In n)) J h a in
    let k : cycle_taken day (sender day n) (made day J (wants.In n)) ≡ None = ap (λ o. if is_ok (intake_code day J n) then o else None) (no_cycle (sender day n) (message_at day n) c) ∙ either (is_ok (intake_code day J n)) in
    ended-fresh day n (made day J (wants.In n)) J i
    ∙ sym (ap (λ o. has_ended_since o (Some t)) (open-still day (sender day n) (made day J (wants.In n)) J k)
    ∙ not_ended (open_cycle day (sender day n) J) refl (sym (asks_for_a_cycle day J n c) ∙ (passed_intake day J n ok).cycle_right) here_now)
  where
    either : (b : Bool) → (if b then nothing_taken else None) ≡ None
    either true = refl
    either false = refl

    not_ended : (o : Option ℕ) → open_cycle day (sender day n) J ≡ o → is_none o ≡ false → suc (length J) ≡ t → has_ended_since o (Some t) ≡ false
    not_ended None q w s = cc
    not_ended (Some p) q w s =
        let within : p ≤ length J = open_within day (sender day n) J p q in
        let before : p ≤ t = omega (arith, within, s) in
        le-ltb t p before

taking : (day : Day) (n : ℕ) (J : History) (m : ℕ) → is_c (sort_of day n) ≡ true → may_take day J m ≡ true → Known day n J → Known day n (made day J (wants.In m) ∷ J)
taking day n J m c h before = here (is_in_of n (made day J (wants.In m))) refl
  where
    here : (b : Bool) → is_in_of n (made day J (wants.In m)) ≡ b → Known day n (made day J (wants.In m) ∷ J)
    here false i = another day n J m i before
    here true i =
        let same : m ≡ n = eqb-true m n i in
        let a = and_parts _ (is_none (untaken_earlier day J m)) h in
        let b = and_parts _ (is_reached day J m) a.0 in
        let fresh : is_none (taken J m) ≡ true = (and_parts (is_message (sort_of day m)) (is_none (taken J m)) b.0).1 in
        subst (λ x. Known day n (made day J (wants.In x) ∷ J)) (sym same)
        (own day n J c (subst (λ x. is_none (taken J x) ≡ true) same fresh) (subst (λ x. is_in_of n (made day J (wants.In x)) ≡ true) same i))

nothing : (day : Day) (n : ℕ) → Known day n []
unfolding place_of
nothing day n t e a = cc

more : (day : Day) (n : ℕ) → is_c (sort_of day n) ≡ true → (J : History) (w : Want) → may day J w ≡ true → Known day n J → Known day n (made day J w ∷ J)
more day n c J (wants.In m) h before = taking day n J m c h before
more day n c J (wants.Book m k) h before = other day n J (made day J (wants.Book m k)) refl before
more day n c J (wants.All m) h before = other day n J (made day J (wants.All m)) refl before
more day n c J wants.Time h before = other day n J (made day J wants.Time) refl before
more day n c J (wants.Expire m) h before = other day n J (made day J (wants.Expire m)) refl before
more day n c J (wants.Ask m) h before = other day n J (made day J (wants.Ask m)) refl before
more day n c J (wants.Cover m) h before = other day n J (made day J (wants.Cover m)) refl before
more day n c J (wants.Refuse m) h before = other day n J (made day J (wants.Refuse m)) refl before
more day n c J (wants.Sweep a) h before = other day n J (made day J (wants.Sweep a)) refl before
more day n c J wants.End h before = other day n J (made day J wants.End) refl before

known : (day : Day) (n : ℕ) → is_c (sort_of day n) ≡ true → (J : History) → IsLegal day J → Known day n J
known day n c = legal_induction day (Known day n) (nothing day n) (λ J w legal before e m. more day n c J w m before)

-- whether the cycle of an accepted batch has ended, by the open cycle and the place where the batch was taken
pub ended_is : (day : Day) (J : History) (n : ℕ) → IsLegal day J → is_c (sort_of day n) ≡ true → is_accepted J n ≡ true → cycle_ended day n J ≡ has_ended_since (open_cycle day (sender day n) J) (taken J n)
ended_is day J n legal c a = here (taken J n) refl (accepted_there J n a)
  where
    here : (o : Option ℕ) → taken J n ≡ o → is_some o ≡ true → cycle_ended day n J ≡ has_ended_since (open_cycle day (sender day n) J) o
    here None q h = cc
    here (Some t) q h = known day n c J legal t q a

-- ---- a name that is no system's has no cycle

is_one : (b : Bool) → not b ≡ false → b ≡ true
is_one true h = refl
is_one false h = cc

by_system : (day : Day) (s from : List ℕ) (body : Body) (b : Bool) → cycle_in s from body ≡ Some b → sender_is_wrong (sort_of_body body) day from ≡ false → is_system day s ≡ true
by_system day s from (bodies.Cycle start) b h k = here (same_name from s) refl h
  where
    here : (c : Bool) → same_name from s ≡ c → when c start ≡ Some b → is_system day s ≡ true
    here true e h = subst (λ x. is_system day x ≡ true) (same_names from s e) (is_one (is_system day from) k)
    here false e h = cc
by_system day s from _ b h k = cc

by_message : (day : Day) (s : List ℕ) (o : Option Message) (b : Bool) → cycle_of_message s o ≡ Some b → sender_is_wrong (option_map_or (λ m. sort_of_body m.body) o Missing) day (option_map_or (λ m. m.sender) o []) ≡ false → is_system day s ≡ true
by_message day s None b h k = cc
by_message day s (Some m) b h k = by_system day s m.sender m.body b h k

abbrev NoCycle : Day → List ℕ → History → Type 0
NoCycle day s J = open_cycle day s J ≡ None

still_none : (day : Day) (s : List ℕ) (J : History) (l : Line) → is_in l.head.kind ≡ false → NoCycle day s J → NoCycle day s (l ∷ J)
still_none day s J l h before =
    open-still day s l J (ap (λ b. if b && is_ok l.head.code then cycle_of_message s (message_at day l.head.msg) else None) h) ∙ before

taking_none : (day : Day) (s : List ℕ) (J : History) (m : ℕ) → is_system day s ≡ false → NoCycle day s J → NoCycle day s (made day J (wants.In m) ∷ J)
taking_none day s J m h before = here (cycle_taken day s (made day J (wants.In m))) refl
  where
    here : (o : Option Bool) → cycle_taken day s (made day J (wants.In m)) ≡ o → NoCycle day s (made day J (wants.In m) ∷ J)
    here None k = open-still day s (made day J (wants.In m)) J k ∙ before
    here (Some b) k =
        let t = if_some (is_ok (intake_code day J m)) (cycle_of_message s (message_at day m)) b k in
        let one : is_system day s ≡ true = by_message day s (message_at day m) b t.1 (passed_intake day J m t.0).sender_right in
        absurd (cc)

none_more : (day : Day) (s : List ℕ) → is_system day s ≡ false → (J : History) (w : Want) → NoCycle day s J → NoCycle day s (made day J w ∷ J)
none_more day s h J (wants.In m) before = taking_none day s J m h before
none_more day s h J (wants.Book m k) before = still_none day s J (made day J (wants.Book m k)) refl before
none_more day s h J (wants.All m) before = still_none day s J (made day J (wants.All m)) refl before
none_more day s h J wants.Time before = still_none day s J (made day J wants.Time) refl before
none_more day s h J (wants.Expire m) before = still_none day s J (made day J (wants.Expire m)) refl before
none_more day s h J (wants.Ask m) before = still_none day s J (made day J (wants.Ask m)) refl before
none_more day s h J (wants.Cover m) before = still_none day s J (made day J (wants.Cover m)) refl before
none_more day s h J (wants.Refuse m) before = still_none day s J (made day J (wants.Refuse m)) refl before
none_more day s h J (wants.Sweep a) before = still_none day s J (made day J (wants.Sweep a)) refl before
none_more day s h J wants.End before = still_none day s J (made day J wants.End) refl before

nothing_open : (day : Day) (s : List ℕ) → NoCycle day s []
unfolding open_cycle
nothing_open day s = refl

pub no_cycle_of_others : (day : Day) (J : History) (s : List ℕ) → IsLegal day J → system_named day s ≡ None → open_cycle day s J ≡ None
no_cycle_of_others day J s legal unnamed =
    legal_induction day (NoCycle day s) (nothing_open day s)
    (λ J w legal before e m. none_more day s (is_found (λ r. same_name r.name s) day.systems ∙ ap is_some unnamed) J w before) J legal
