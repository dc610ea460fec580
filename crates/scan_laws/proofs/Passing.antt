-- What a Time line leaves as it was of a message that comes to no end.
use Rattle.std.proofs.Common.{◌≡◌, ◌∙◌, ℕ, suc, ◌<◌, ◌≤◌, Bool, true, false, not, ◌&&◌, ◌||◌, List, [], ◌∷◌, Option, Some, None, refl, sym, ap, subst, arith, length, ◌⊎◌, inl, inr}
use Rattle.std.specs.Prelude.{is_some, nat_eq, nat_lt, nat_le, if◌then◌else◌, unwrap_or}
use Rattle.std.specs.Option.{option_or, option_map_or}
use Rattle.std.proofs.lemmas.Bool.{or_parts, or_right, and_parts, and_from, ltb-true, ltb-false, lt-ltb, le-ltb, leb-false, le-leb, leb-true, ne_eqb, eqb-false}
use Rattle.batch_records.specs.DayRecord.{Day}
use Rattle.batch_records.specs.declared.day.Body.{Body}
use Rattle.batch_records.specs.declared.day.Body.TheVariants as bodies
use Rattle.batch_records.specs.declared.day.Message.{Message}
use Rattle.cash_amounts.specs.declared.records.Procedure.{Procedure}
use Rattle.cash_amounts.specs.declared.records.Procedure.TheVariants.{A, B, C, D, E}
use Rattle.commit_journal.specs.declared.line.Kind.{Kind}
use Rattle.commit_journal.specs.declared.line.Kind.TheVariants as kinds
use Rattle.commit_journal.specs.declared.line.Code.{Code}
use Rattle.commit_journal.specs.declared.line.Move.{Move}
use Rattle.commit_journal.specs.Line.{Line, History}
use Rattle.machine.specs.Words.{when, some_passes}
use Rattle.machine.specs.Records.Messages.{Sort, Missing, Pay, BatchA, BatchB, BatchC, BatchD, BatchE, sort_of, sort_of_body, sort_of_batch, sender, message_at, is_c, is_a_or_b, is_batch, info_in, earliest_in, info_end, earliest, settlement_start, stated_end, settlement_end}
use Rattle.machine.specs.Stages.Intake.{info_is_wrong, earliest_is_wrong, are_crossed, periods_are_wrong, states_a_time, times_are_wrong}
use Rattle.machine.specs.Telling.History.{is_in, is_book, is_all, is_ask, is_cover, is_expire_or_refuse, is_time, is_ok, is_in_of, is_book_of, is_all_of, is_ask_of, is_cover_of, is_closing_of, place_of, taken, is_accepted, clock}
use Rattle.machine.specs.Telling.Facts.{takes_well, answer_taken, answer_of_message, revokes, cycle_taken, cycle_of_message, cycle_ended}
use Rattle.machine.specs.Stages.Phases.{open_as}
use Rattle.machine.specs.Stages.Pending.{opened_at}
use Rattle.machine.specs.Making.Lines.{next_stop, is_ready}
use Rattle.machine.specs.Legal.{IsLegal}
use Rattle.settlement_laws.proofs.Base.LinesOf.{placed_more, stays}
use Rattle.settlement_laws.proofs.Base.Made.{Made, made_facts}
use Rattle.settlement_laws.proofs.DayEnd.Stops.{next_stop-bounds}
use Rattle.settlement_laws.specs.NextStop.{IsEndOf}
use Rattle.settlement_laws.proofs.Base.IntakeFacts.{accepted_taken}
use Rattle.settlement_laws.proofs.DayEnd.NextStopIsTheLeast.{next_stop_is_the_least}
use Rattle.settlement_laws.proofs.Base.Lists.{never}
use Rattle.scan_laws.specs.Concerns.{SameFacts, ends_as}
use Rattle.scan_laws.proofs.Kept.{place_same, read_same, unread, cycle_same, untold}

-- ---- no fact is told by a Time line

abbrev NoOther : Kind → Type 0
NoOther k = (is_in k ≡ false) × (is_book k ≡ false) × (is_all k ≡ false) × (is_ask k ≡ false) × (is_cover k ≡ false) × (is_expire_or_refuse k ≡ false)

no_other : (k : Kind) → is_time k ≡ true → NoOther k
no_other kinds.Time h = (refl, refl, refl, refl, refl, refl)
no_other _ h = cc

pub facts_of_time : (day : Day) (J : History) (l : Line) (n : ℕ) → is_time l.head.kind ≡ true → SameFacts day (l ∷ J) J n
facts_of_time day J l n h =
    let a = no_other l.head.kind h in
    let i : is_in_of n l ≡ false = untold (is_in l.head.kind) (nat_eq l.head.msg n) a.0 in
    let t : takes_well l ≡ false = untold (is_in l.head.kind) (is_ok l.head.code) a.0 in
    let r : is_some (answer_taken day n l) ≡ false = ap (λ b. is_some (if b then answer_of_message day n (message_at day l.head.msg) else None)) t in
    let c : some_passes not (cycle_taken day (sender day n) l) ≡ false = ap (λ b. some_passes not (if b then cycle_of_message (sender day n) (message_at day l.head.msg) else None)) t in
    record {
      same_taken = place_same (is_in_of n) l J i;
      same_code = read_same (λ x. when (is_in_of n x) x.head.code) l J (unread (is_in_of n l) l.head.code i);
      same_booked = λ k. place_same (is_book_of n k) l J (ap (λ b. b && nat_eq l.head.msg n && nat_eq l.head.entry k) a.1);
      same_whole = place_same (is_all_of n) l J (untold (is_all l.head.kind) (nat_eq l.head.msg n) a.2);
      same_asked = place_same (is_ask_of n) l J (untold (is_ask l.head.kind) (nat_eq l.head.msg n) a.3);
      same_covered = place_same (is_cover_of n) l J (untold (is_cover l.head.kind) (nat_eq l.head.msg n) a.4);
      same_closed = place_same (is_closing_of n) l J (untold (is_expire_or_refuse l.head.kind) (nat_eq l.head.msg n) a.5);
      same_answered = place_same (λ x. is_some (answer_taken day n x)) l J r;
      same_answer = read_same (answer_taken day n) l J r;
      same_revoked = λ k. place_same (revokes day n k) l J (untold (takes_well l) _ t);
      same_cycle = cycle_same day l J n i (none_passes (is_c (sort_of day n)) (some_passes not (cycle_taken day (sender day n) l)) (is_accepted J n) (not (cycle_ended day n J)) c);
    }
  where
    none_passes : (b c d e : Bool) → c ≡ false → (b && c && d && e) ≡ false
    none_passes true false d e h = refl
    none_passes false c d e h = refl
    none_passes true true d e h = cc

or_both : (b d : Bool) → b ≡ false → d ≡ false → (b || d) ≡ false
or_both false d h k = k
or_both true d h k = cc

-- ---- the clock goes on

time_made : (kind : Kind) (day : Day) (J : History) (n k : ℕ) (code : Code) (moves : List Move) → is_time kind ≡ true → Made kind day J n k code moves → (nat_lt (clock J) 86400 ≡ true) × (k ≡ next_stop day J)
time_made kinds.Time day J n k code moves h m = ((and_parts (nat_lt (clock J) 86400) _ (and_parts _ (not (is_ready day J)) m.0).0).0, m.4)
time_made _ day J n k code moves h m = cc

pub time_stop : (day : Day) (J : History) (l : Line) → IsLegal day (l ∷ J) → is_time l.head.kind ≡ true → l.head.entry ≡ next_stop day J
time_stop day J l legal h = (time_made l.head.kind day J l.head.msg l.head.entry l.head.code l.moves h (made_facts day J l legal.1).1).1

pub time_later : (day : Day) (J : History) (l : Line) → IsLegal day (l ∷ J) → is_time l.head.kind ≡ true → (clock J < l.head.entry) × (l.head.entry ≤ 86400)
time_later day J l legal h =
    let m = time_made l.head.kind day J l.head.msg l.head.entry l.head.code l.moves h (made_facts day J l legal.1).1 in
    let b = next_stop-bounds day J (ltb-true (clock J) 86400 m.0) in
    let e : l.head.entry ≡ next_stop day J = m.1 in
    (omega (arith, e, b.0), omega (arith, e, b.1))

pub new_clock : (l : Line) (J : History) → is_time l.head.kind ≡ true → clock (l ∷ J) ≡ l.head.entry
unfolding clock
new_clock l J h = ap (λ b. if b then l.head.entry else clock J) h

-- ---- ends that the clock doesn't come to

-- the clock comes from before the end to it or past it
abbrev pub is_within : ℕ → ℕ → ℕ → Bool
is_within c t e = nat_lt c e && nat_le e t

-- an end that the new time doesn't go past, and that it isn't
pub not_within : (c t e : ℕ) → (c < e → t ≤ e) → nat_eq t e ≡ false → is_within c t e ≡ false
not_within c t e stop ne = here (nat_lt c e) refl (nat_le e t) refl
  where
    here : (b : Bool) → nat_lt c e ≡ b → (d : Bool) → nat_le e t ≡ d → (b && d) ≡ false
    here false f d g = refl
    here true f false g = refl
    here true f true g =
        let low : t ≤ e = stop (ltb-true c e f) in
        let high : e ≤ t = leb-true e t g in
        absurd (eqb-false t e ne (omega (arith, low, high)))

-- of these ends
pub passed_by : (c t : ℕ) → t ≤ 86400 → (s : Sort) (day : Day) (n : ℕ) → (is_batch s ≡ true → c < settlement_end day n → t ≤ settlement_end day n) → ends_as s day n (nat_eq t) ≡ false → ends_as s day n (is_within c t) ≡ false
passed_by c t late BatchA day n stop h =
    let p = or_parts (nat_eq t (settlement_end day n)) (nat_eq t 86400) h in
    or_both (is_within c t (settlement_end day n)) (is_within c t 86400) (not_within c t (settlement_end day n) (stop refl) p.0) (not_within c t 86400 (λ _. late) p.1)
passed_by c t late BatchB day n stop h =
    let p = or_parts (nat_eq t (settlement_end day n)) (nat_eq t 86400) h in
    or_both (is_within c t (settlement_end day n)) (is_within c t 86400) (not_within c t (settlement_end day n) (stop refl) p.0) (not_within c t 86400 (λ _. late) p.1)
passed_by c t late BatchE day n stop h = not_within c t (settlement_end day n) (stop refl) h
passed_by c t late BatchC day n stop h = not_within c t 86400 (λ _. late) h
passed_by c t late Pay day n stop h = not_within c t 86400 (λ _. late) h
passed_by c t late _ day n stop h = refl

pub info_by : (c t : ℕ) (o : Option ℕ) → ((e : ℕ) → o ≡ Some e → c < e → t ≤ e) → some_passes (nat_eq t) o ≡ false → some_passes (is_within c t) o ≡ false
info_by c t None stop h = refl
info_by c t (Some e) stop h = not_within c t e (stop e refl) h

pub same_side : (c t e : ℕ) → c ≤ t → is_within c t e ≡ false → nat_lt t e ≡ nat_lt c e
same_side c t e h w = here (nat_lt c e) refl (nat_le e t) refl w
  where
    here : (b : Bool) → nat_lt c e ≡ b → (d : Bool) → nat_le e t ≡ d → (b && d) ≡ false → nat_lt t e ≡ b
    here true f true g k = cc
    here true f false g k = lt-ltb t e (leb-false e t g)
    here false f d g k = let low : e ≤ c = ltb-false c e f in le-ltb t e (omega (arith, low, h))

-- midnight that doesn't come
not_midnight : (c t : ℕ) → c < t → t ≤ 86400 → is_within c t 86400 ≡ false → nat_eq t 86400 ≡ nat_eq c 86400
not_midnight c t h k w = here (nat_lt t 86400) refl
  where
    before : c ≤ t
    before = omega (arith, h)

    here : (b : Bool) → nat_lt t 86400 ≡ b → nat_eq t 86400 ≡ nat_eq c 86400
    here true e = let low : t < 86400 = ltb-true t 86400 e in ne_eqb t 86400 (λ q. omega (arith, low, q)) ∙ sym (ne_eqb c 86400 (λ q. omega (arith, low, h, q)))
    here false e =
        let high : 86400 ≤ c = ltb-false c 86400 (sym (same_side c t 86400 before w) ∙ e) in
        absurd (omega (arith, high, h, k))

pub open_at_time : (s : Sort) (day : Day) (K J : History) (n : ℕ) → clock J ≤ clock K → (is_c s && cycle_ended day n K) ≡ (is_c s && cycle_ended day n J) → ends_as s day n (is_within (clock J) (clock K)) ≡ false → open_as s day K n ≡ open_as s day J n
open_at_time BatchA day K J n c e w = same_side (clock J) (clock K) (settlement_end day n) c (or_parts (is_within (clock J) (clock K) (settlement_end day n)) _ w).0
open_at_time BatchB day K J n c e w = same_side (clock J) (clock K) (settlement_end day n) c (or_parts (is_within (clock J) (clock K) (settlement_end day n)) _ w).0
open_at_time BatchE day K J n c e w = same_side (clock J) (clock K) (settlement_end day n) c w
open_at_time BatchC day K J n c e w = λ i. same_side (clock J) (clock K) 86400 c w i && not (e i)
open_at_time Pay day K J n c e w = same_side (clock J) (clock K) 86400 c w
open_at_time _ day K J n c e w = refl

pub midnight_at_time : (s : Sort) (day : Day) (c t n : ℕ) → c < t → t ≤ 86400 → ends_as s day n (is_within c t) ≡ false → (is_a_or_b s && nat_eq t 86400) ≡ (is_a_or_b s && nat_eq c 86400)
midnight_at_time BatchA day c t n h k w = not_midnight c t h k (or_parts (is_within c t (settlement_end day n)) _ w).1
midnight_at_time BatchB day c t n h k w = not_midnight c t h k (or_parts (is_within c t (settlement_end day n)) _ w).1
midnight_at_time _ day c t n h k w = refl

pub info_at_time : (o : Option ℕ) (c t : ℕ) → c ≤ t → some_passes (is_within c t) o ≡ false → some_passes (nat_lt t) o ≡ some_passes (nat_lt c) o
info_at_time None c t h w = refl
info_at_time (Some info) c t h w = same_side c t info h w

-- ---- the line that opened it

abbrev pub at_or_above : ℕ → Line → Bool
at_or_above info l = is_time l.head.kind && nat_le info l.head.entry

-- a time that the clock has reached was reached by a line
pub reached_by : (info : ℕ) (J : History) → 1 ≤ info → info ≤ clock J → is_some (place_of (at_or_above info) J) ≡ true
unfolding clock
reached_by info [] low h = absurd (omega (arith, low, h))
reached_by info (l ∷ J) low h = here (is_time l.head.kind) refl h (reached_by info J low)
  where
    here : (b : Bool) → is_time l.head.kind ≡ b → info ≤ (if b then l.head.entry else clock J) → (info ≤ clock J → is_some (place_of (at_or_above info) J) ≡ true) → is_some (place_of (at_or_above info) (l ∷ J)) ≡ true
    here true e h more = placed_more (at_or_above info) l J ∙ or_right (is_some (place_of (at_or_above info) J)) _ (and_from (is_time l.head.kind) (nat_le info l.head.entry) e (le-leb info l.head.entry h))
    here false e h more = stays (at_or_above info) l J (more h)

pub place_kept : (test : Line → Bool) (l : Line) (J : History) → is_some (place_of test J) ≡ true → place_of test (l ∷ J) ≡ place_of test J
unfolding place_of
place_kept test l J h = here (place_of test J) h
  where
    here : (o : Option ℕ) → is_some o ≡ true → option_or o (when (test l) (suc (length J))) ≡ o
    here (Some x) h = refl
    here None h = cc

opened_place : (info : ℕ) (l : Line) (J : History) → 1 ≤ info → is_within (clock J) l.head.entry info ≡ false → place_of (at_or_above info) (l ∷ J) ≡ place_of (at_or_above info) J
opened_place info l J low w = here (nat_le info l.head.entry) refl (nat_lt (clock J) info) refl
  where
    never_both : (b d : Bool) → b ≡ true → d ≡ true → (b && d) ≡ false → ⊥
    never_both true true e f h = cc
    never_both true false e f h = cc
    never_both false d e f h = cc

    never_above : (t : Bool) (d : Bool) → d ≡ false → (t && d) ≡ false
    never_above true d h = h
    never_above false d h = refl

    here : (d : Bool) → nat_le info l.head.entry ≡ d → (b : Bool) → nat_lt (clock J) info ≡ b → place_of (at_or_above info) (l ∷ J) ≡ place_of (at_or_above info) J
    here false e b f = place_same (at_or_above info) l J (never_above (is_time l.head.kind) (nat_le info l.head.entry) e)
    here true e true f = absurd (never_both (nat_lt (clock J) info) (nat_le info l.head.entry) f e w)
    here true e false f = place_kept (at_or_above info) l J (reached_by info J low (ltb-false (clock J) info f))

pub opened_at_time : (day : Day) (l : Line) (J : History) (n : ℕ) → SameFacts day (l ∷ J) J n → (o : Option ℕ) → ((e : ℕ) → o ≡ Some e → 1 ≤ e) → some_passes (is_within (clock J) l.head.entry) o ≡ false → opened_at day (l ∷ J) n o ≡ opened_at day J n o
opened_at_time day l J n f None low w = ap (λ o. unwrap_or o 0) f.same_taken
opened_at_time day l J n f (Some info) low w = ap (λ o. unwrap_or o 0) (opened_place info l J (low info refl) w)

-- any other line opens none
pub opened_else : (day : Day) (l : Line) (J : History) (n : ℕ) → is_time l.head.kind ≡ false → taken (l ∷ J) n ≡ taken J n → (o : Option ℕ) → opened_at day (l ∷ J) n o ≡ opened_at day J n o
opened_else day l J n h f None = ap (λ o. unwrap_or o 0) f
opened_else day l J n h f (Some info) = ap (λ o. unwrap_or o 0) (place_same (at_or_above info) l J (untold (is_time l.head.kind) (nat_le info l.head.entry) h))

-- ---- the ends of an accepted message

-- the sort of a message of which something is some that only batches state
batch_that_states : (read : Body → Option ℕ) → ((b : Body) (e : ℕ) → read b ≡ Some e → is_batch (sort_of_body b) ≡ true) → (o : Option Message) (e : ℕ) →
    option_map_or (λ (m : Message). read m.body) o None ≡ Some e → is_batch (option_map_or (λ (m : Message). sort_of_body m.body) o Missing) ≡ true
batch_that_states read by None e h = cc
batch_that_states read by (Some m) e h = by m.body e h

by_procedure : (p : Procedure) → is_batch (sort_of_batch p) ≡ true
by_procedure A = refl
by_procedure B = refl
by_procedure C = refl
by_procedure D = refl
by_procedure E = refl

info_batch : (o : Option Message) (e : ℕ) → option_map_or (λ (m : Message). info_in m.body) o None ≡ Some e → is_batch (option_map_or (λ (m : Message). sort_of_body m.body) o Missing) ≡ true
info_batch = batch_that_states info_in by_body
  where
    by_body : (b : Body) (e : ℕ) → info_in b ≡ Some e → is_batch (sort_of_body b) ≡ true
    by_body (bodies.Batch p info early till count sum entries) e h = by_procedure p
    by_body _ e h = cc

early_batch : (o : Option Message) (e : ℕ) → option_map_or (λ (m : Message). earliest_in m.body) o None ≡ Some e → is_batch (option_map_or (λ (m : Message). sort_of_body m.body) o Missing) ≡ true
early_batch = batch_that_states earliest_in by_body
  where
    by_body : (b : Body) (e : ℕ) → earliest_in b ≡ Some e → is_batch (sort_of_body b) ≡ true
    by_body (bodies.Batch p info early till count sum entries) e h = by_procedure p
    by_body _ e h = cc

above : (c e : ℕ) (d : Bool) → not (nat_lt c e && d) ≡ false → 1 ≤ e
above c e d h = here (nat_lt c e) refl h
  where
    here : (b : Bool) → nat_lt c e ≡ b → not (b && d) ≡ false → 1 ≤ e
    here true f h = let l = ltb-true c e f in omega (arith, l)
    here false f h = cc

-- what the row of A, B and E says of each stated time
record TimesRight (day : Day) (P : History) (n : ℕ) : Type 0 where
  info_right : info_is_wrong day P n (info_end day n) ≡ false
  early_right : earliest_is_wrong day P n (earliest day n) ≡ false

periods_right : (day : Day) (P : History) (n : ℕ) → periods_are_wrong day P n ≡ false → TimesRight day P n
periods_right day P n h =
    let late : Bool = not (nat_lt (clock P) (settlement_end day n)) in
    let a = or_parts (late || info_is_wrong day P n (info_end day n) || earliest_is_wrong day P n (earliest day n)) (are_crossed (info_end day n) (earliest day n)) h in
    let b = or_parts (late || info_is_wrong day P n (info_end day n)) (earliest_is_wrong day P n (earliest day n)) a.0 in
    let c = or_parts late (info_is_wrong day P n (info_end day n)) b.0 in
    record { info_right = c.1; early_right = b.1 }

-- what that of C and D says
none_stated : (day : Day) (n : ℕ) → states_a_time day n ≡ false → (is_some (info_end day n) ≡ false) × (is_some (earliest day n) ≡ false)
none_stated day n h = or_parts (is_some (info_end day n)) (is_some (earliest day n)) (or_parts (is_some (info_end day n) || is_some (earliest day n)) (is_some (stated_end day n)) h).0

info_above : (s : Sort) (day : Day) (P : History) (n e : ℕ) → is_batch s ≡ true → times_are_wrong s day P n ≡ false → info_end day n ≡ Some e → 1 ≤ e
info_above BatchA day P n e b h q = above (clock P) e _ (subst (λ o. info_is_wrong day P n o ≡ false) q (periods_right day P n h).info_right)
info_above BatchB day P n e b h q = above (clock P) e _ (subst (λ o. info_is_wrong day P n o ≡ false) q (periods_right day P n h).info_right)
info_above BatchE day P n e b h q = above (clock P) e _ (subst (λ o. info_is_wrong day P n o ≡ false) q (periods_right day P n h).info_right)
info_above BatchC day P n e b h q = never true refl (ap is_some (sym q) ∙ (none_stated day n h).0)
info_above BatchD day P n e b h q = never true refl (ap is_some (sym q) ∙ (none_stated day n h).0)
info_above _ day P n e b h q = never false b refl

early_above : (s : Sort) (day : Day) (P : History) (n e : ℕ) → is_batch s ≡ true → times_are_wrong s day P n ≡ false → earliest day n ≡ Some e → 1 ≤ e
early_above BatchA day P n e b h q = above (clock P) e _ (subst (λ o. earliest_is_wrong day P n o ≡ false) q (periods_right day P n h).early_right)
early_above BatchB day P n e b h q = above (clock P) e _ (subst (λ o. earliest_is_wrong day P n o ≡ false) q (periods_right day P n h).early_right)
early_above BatchE day P n e b h q = above (clock P) e _ (subst (λ o. earliest_is_wrong day P n o ≡ false) q (periods_right day P n h).early_right)
early_above BatchC day P n e b h q = never true refl (ap is_some (sym q) ∙ (none_stated day n h).1)
early_above BatchD day P n e b h q = never true refl (ap is_some (sym q) ∙ (none_stated day n h).1)
early_above _ day P n e b h q = never false b refl

-- the time at which the settlement begins is one of the two
start_is : (early info : Option ℕ) (e : ℕ) → option_or early info ≡ Some e → (early ≡ Some e) ⊎ (info ≡ Some e)
start_is (Some x) info e h = inl h
start_is None info e h = inr h

pub start_by : (early info : Option ℕ) (test : ℕ → Bool) → some_passes test info ≡ false → some_passes test early ≡ false → some_passes test (option_or early info) ≡ false
start_by (Some x) info test h k = k
start_by None info test h k = h

module _ (day : Day) (J : History) (l : Line) (n : ℕ) (legal : IsLegal day (l ∷ J)) (time : is_time l.head.kind ≡ true) (accepted : is_accepted J n ≡ true) where
  info_low : (e : ℕ) → info_end day n ≡ Some e → 1 ≤ e
  info_low e q = info_above (sort_of day n) day (accepted_taken day J n legal.0 accepted).past n e (info_batch (message_at day n) e q) (accepted_taken day J n legal.0 accepted).passed_then.times_right q

  early_low : (e : ℕ) → earliest day n ≡ Some e → 1 ≤ e
  early_low e q = early_above (sort_of day n) day (accepted_taken day J n legal.0 accepted).past n e (early_batch (message_at day n) e q) (accepted_taken day J n legal.0 accepted).passed_then.times_right q

  pub start_low : (e : ℕ) → settlement_start day n ≡ Some e → 1 ≤ e
  start_low e q = elim (start_is (earliest day n) (info_end day n) e q) [
    | inl h ↦ early_low e h
    | inr h ↦ info_low e h
  ]

  least : (e : ℕ) → is_batch (sort_of day n) ≡ true → IsEndOf day n e → clock J < e → l.head.entry ≤ e
  least e b q h =
      let t : l.head.entry ≡ next_stop day J = time_stop day J l legal time in
      let r : next_stop day J ≤ e = (next_stop_is_the_least day J).2 e (inr (inr (n, b, accepted, q))) h in
      omega (arith, t, r)

  pub info_stop : (e : ℕ) → info_end day n ≡ Some e → clock J < e → l.head.entry ≤ e
  info_stop e q h = least e (info_batch (message_at day n) e q) (inl q) h

  pub early_stop : (e : ℕ) → earliest day n ≡ Some e → clock J < e → l.head.entry ≤ e
  early_stop e q h = least e (early_batch (message_at day n) e q) (inr (inl q)) h

  pub end_stop : is_batch (sort_of day n) ≡ true → clock J < settlement_end day n → l.head.entry ≤ settlement_end day n
  end_stop b h = here (stated_end day n) refl h
    where
      here : (o : Option ℕ) → stated_end day n ≡ o → clock J < unwrap_or o 86400 → l.head.entry ≤ unwrap_or o 86400
      here None q h = (time_later day J l legal time).1
      here (Some e) q h = least e b (inr (inr q)) h
