-- What stands in a set of times after others are entered.
use Rattle.std.proofs.Common.{◌≡◌, ◌∙◌, ℕ, ◌<◌, Bool, true, false, ◌||◌, ◌&&◌, List, [], ◌∷◌, Option, Some, None, length, replicate, refl, sym, ap, arith, inl, inr, get_or-set_same, get_or-set_other}
use Rattle.std.specs.Prelude.{fold, if◌then◌else◌, nat_eq, nat_le, nat_lt, slice_set}
use Rattle.std.specs.List.{list_all}
use Rattle.std.specs.Option.{option_map_or}
use Rattle.std.proofs.Math.Bool.{or_assoc}
use Rattle.std.proofs.lemmas.Bool.{and_parts, cases_eq, cases_lt, eq-eqb, leb-true, ltb-true, ne_eqb, or_right}
use Rattle.std.proofs.lemmas.List.{get_or_past, get_or-replicate, length-replicate, length-set}
use Rattle.std.proofs.lemmas.Option.{same_Some}
use Rattle.cash_amounts.specs.declared.limits.TheConstants.{MAX_ENTRIES}
use Rattle.batch_records.specs.DayRecord.{Day}
use Rattle.batch_records.specs.declared.day.Body.{Body}
use Rattle.batch_records.specs.declared.day.Body.TheVariants as bodies
use Rattle.batch_records.specs.declared.day.Message.{Message}
use Rattle.batch_records.specs.Sound.{is_amount, is_sound, is_sound_body, is_time_or_none, stops_rise}
use Rattle.commit_journal.specs.declared.line.Head.{Head}
use Rattle.machine.specs.Words.{some_passes}
use Rattle.machine.specs.Records.Messages.{earliest, earliest_in, info_end, info_in, message_at, stated_end, till_in}
use Rattle.machine.specs.OtherLaws.{is_among}
use Rattle.settlement_laws.proofs.Base.LinesOf.{or_none}
use Rattle.settlement_laws.proofs.ProcedureA.SettlesInTime.{sound_message}
use Rattle.number_set.specs.Members.{has}
use Rattle.clock_stops.specs.Entered.{noted, with_end, with_ends, with_stop}
use Rattle.clock_stops.specs.Stops.{accepts_batch, states_end}

-- ---- one time

pub has_more : (times : List Bool) (t k : ℕ) (b : Bool) → t < length times → (k ≡ t → b ≡ true) → ((k ≡ t → ⊥) → b ≡ false) → has (with_stop times t) k ≡ (has times k || b)
has_more times t k b within same other = elim (cases_eq k t) [
  | inl e ↦ ap (has (slice_set times t true)) e ∙ get_or-set_same times t true false within ∙ sym (or_right (has times k) b (same e))
  | inr ne ↦ get_or-set_other times t k true false ne ∙ sym (or_none (has times k) b (other ne))
]

pub none_has : (count t : ℕ) → has (replicate count false) t ≡ false
none_has count t =
    let len : length (replicate count false) ≡ count = length-replicate count false in
    elim (cases_lt t count) [
      | inl low ↦ get_or-replicate count t false false low
      | inr past ↦ get_or_past (replicate count false) t false (omega (arith, len, past))
    ]

-- ---- the stops of a day

pub stops_size : (stops : List ℕ) (times : List Bool) → length (fold with_stop times stops) ≡ length times
stops_size [] times = refl
stops_size (s ∷ ss) times = stops_size ss (with_stop times s) ∙ length-set times s true

pub stops_has : (stops : List ℕ) (times : List Bool) (before k : ℕ) → stops_rise before stops ≡ true → length times ≡ 86401 → has (fold with_stop times stops) k ≡ (has times k || is_among stops k)
stops_has [] times before k rise size = sym (or_none (has times k) false refl)
stops_has (s ∷ ss) times before k rise size =
    let parts = and_parts _ (stops_rise s ss) rise in
    let early : s < 86400 = ltb-true s 86400 (and_parts (nat_lt before s) (nat_lt s 86400) parts.0).1 in
    stops_has ss (with_stop times s) s k parts.1 (length-set times s true ∙ size)
    ∙ ap (λ b. b || is_among ss k) (has_more times s k (nat_eq s k) (omega (arith, early, size)) (λ e. eq-eqb s k (sym e)) (λ ne. ne_eqb s k (λ e. ne (sym e))))
    ∙ or_assoc (has times k) (nat_eq s k) (is_among ss k)

-- ---- the ends of a batch

has_end : (o : Option ℕ) (times : List Bool) (k : ℕ) → ((t : ℕ) → o ≡ Some t → t < length times) → has (with_end o times) k ≡ (has times k || some_passes (nat_eq k) o)
has_end None times k low = sym (or_none (has times k) false refl)
has_end (Some t) times k low = has_more times t k (nat_eq k t) (low t refl) (eq-eqb k t) (ne_eqb k t)

end_size : (o : Option ℕ) (times : List Bool) → length (with_end o times) ≡ length times
end_size None times = refl
end_size (Some t) times = length-set times t true

-- a sound day states no time above midnight
times_in : (b : Body) → is_sound_body b ≡ true → (is_time_or_none (info_in b) ≡ true) × (is_time_or_none (earliest_in b) ≡ true) × (is_time_or_none (till_in b) ≡ true)
times_in (bodies.Batch p info early till count sum entries) h =
    let a = and_parts _ (list_all (λ e. is_amount e.amount) entries) h in
    let b = and_parts _ (nat_le (length entries) MAX_ENTRIES) a.0 in
    let c = and_parts (is_time_or_none info && is_time_or_none early && is_time_or_none till) _ b.0 in
    let d = and_parts (is_time_or_none info && is_time_or_none early) (is_time_or_none till) c.0 in
    let e = and_parts (is_time_or_none info) (is_time_or_none early) d.0 in
    (e.0, e.1, d.1)
times_in _ h = (refl, refl, refl)

low_time : (o : Option ℕ) (t : ℕ) → is_time_or_none o ≡ true → o ≡ Some t → t < 86401
low_time None t h e = cc
low_time (Some u) t h e = let low = leb-true u 86400 h in let same : u ≡ t = same_Some u t e in omega (arith, low, same)

info_low : (day : Day) (n t : ℕ) → is_sound day ≡ true → info_end day n ≡ Some t → t < 86401
info_low day n t sound e = here (message_at day n) refl e
  where
    here : (o : Option Message) → message_at day n ≡ o → option_map_or (λ (m : Message). info_in m.body) o None ≡ Some t → t < 86401
    here None m e = cc
    here (Some message) m e = low_time (info_in message.body) t (times_in message.body (sound_message day n message sound m)).0 e

stated_low : (day : Day) (n t : ℕ) → is_sound day ≡ true → stated_end day n ≡ Some t → t < 86401
stated_low day n t sound e = here (message_at day n) refl e
  where
    here : (o : Option Message) → message_at day n ≡ o → option_map_or (λ (m : Message). till_in m.body) o None ≡ Some t → t < 86401
    here None m e = cc
    here (Some message) m e = low_time (till_in message.body) t (times_in message.body (sound_message day n message sound m)).2 e

early_low : (day : Day) (n t : ℕ) → is_sound day ≡ true → earliest day n ≡ Some t → t < 86401
early_low day n t sound e = here (message_at day n) refl e
  where
    here : (o : Option Message) → message_at day n ≡ o → option_map_or (λ (m : Message). earliest_in m.body) o None ≡ Some t → t < 86401
    here None m e = cc
    here (Some message) m e = low_time (earliest_in message.body) t (times_in message.body (sound_message day n message sound m)).1 e

ends_has : (day : Day) (n : ℕ) (times : List Bool) (t : ℕ) → is_sound day ≡ true → length times ≡ 86401 → has (with_ends day n times) t ≡ (has times t || states_end day t n)
ends_has day n times t sound size =
    let informed : List Bool = with_end (info_end day n) times in
    let started : List Bool = with_end (earliest day n) informed in
    let len : length informed ≡ length times = end_size (info_end day n) times in
    let long : length started ≡ length informed = end_size (earliest day n) informed in
    has_end (stated_end day n) started t (λ u e. let low = stated_low day n u sound e in omega (arith, low, long, len, size))
    ∙ ap (λ b. b || some_passes (nat_eq t) (stated_end day n)) (has_end (earliest day n) informed t (λ u e. let low = early_low day n u sound e in omega (arith, low, len, size))
    ∙ ap (λ b. b || some_passes (nat_eq t) (earliest day n)) (has_end (info_end day n) times t (λ u e. let low = info_low day n u sound e in omega (arith, low, size)))
    ∙ or_assoc (has times t) (some_passes (nat_eq t) (info_end day n)) (some_passes (nat_eq t) (earliest day n)))
    ∙ or_assoc (has times t) (some_passes (nat_eq t) (info_end day n) || some_passes (nat_eq t) (earliest day n)) (some_passes (nat_eq t) (stated_end day n))

-- ---- a line

pub noted_size : (day : Day) (head : Head) (times : List Bool) → length (noted day head times) ≡ length times
noted_size day head times = here (accepts_batch day head)
  where
    here : (b : Bool) → length (if b then with_ends day head.msg times else times) ≡ length times
    here true = end_size (stated_end day head.msg) (with_end (earliest day head.msg) (with_end (info_end day head.msg) times)) ∙ end_size (earliest day head.msg) (with_end (info_end day head.msg) times) ∙ end_size (info_end day head.msg) times
    here false = refl

pub noted_has : (day : Day) (head : Head) (times : List Bool) (t : ℕ) → is_sound day ≡ true → length times ≡ 86401 → has (noted day head times) t ≡ (has times t || (accepts_batch day head && states_end day t head.msg))
noted_has day head times t sound size = here (accepts_batch day head)
  where
    here : (b : Bool) → has (if b then with_ends day head.msg times else times) t ≡ (has times t || (b && states_end day t head.msg))
    here true = ends_has day head.msg times t sound size
    here false = sym (or_none (has times t) false refl)
