-- At midnight, where nothing is ready, an accepted payment or batch of C or E is closed, revoked or settled.
use Rattle.std.proofs.Common.{◌≡◌, ℕ, zero, suc, Bool, true, false, not, ◌&&◌, Option, Some, None, refl, sym, subst}
use Rattle.std.proofs.lemmas.Bool.{and_left, both_ways, false_from_ne_true, and_parts}
use Rattle.std.specs.Prelude.{is_some, nat_lt, unwrap_or, slice_get}
use Rattle.std.specs.Option.{option_map_or}
use Rattle.std.proofs.lemmas.Bool.{leb-true, le-ltb}
use Rattle.batch_records.specs.DayRecord.{Day}
use Rattle.batch_records.specs.declared.day.Body.{Body}
use Rattle.batch_records.specs.declared.day.Body.TheVariants as bodies
use Rattle.batch_records.specs.declared.day.Message.{Message}
use Rattle.batch_records.specs.Sound.{is_sound, is_sound_body, is_time_or_none}
use Rattle.commit_journal.specs.declared.line.Want.TheVariants as wants
use Rattle.commit_journal.specs.Line.{History}
use Rattle.machine.specs.Words.{some_passes}
use Rattle.machine.specs.Records.Messages.{Sort, Pay, BatchA, BatchB, BatchC, BatchE, sort_of, is_a, is_a_or_b, info_in, earliest_in, till_in, info_end, earliest, settlement_end, entries}
use Rattle.machine.specs.Telling.History.{covered, asked, closed, clock, is_accepted}
use Rattle.machine.specs.Telling.Facts.{cycle_ended}
use Rattle.machine.specs.Stages.Phases.{phase, is_no_order, revoked_as, settled_as, open_as, is_overdue}
use Rattle.machine.specs.Making.Lines.{may_lapse, may_ask, is_ready}
use Rattle.machine.specs.Legal.{IsLegal}
use Rattle.machine.proofs.Lists.{all_get}
use Rattle.settlement_laws.proofs.Base.SoundParts.{sound_parts}
use Rattle.settlement_laws.proofs.Base.OngoingPhases.{OneOfFour, one_of_four, asked_sort}
use Rattle.settlement_laws.proofs.Wants.ReadyWants.{idle}

-- ---- no stated time is later than midnight

not_late : (o : Option ℕ) → is_time_or_none o ≡ true → some_passes (nat_lt 86400) o ≡ false
not_late None h = refl
not_late (Some t) h = le-ltb 86400 t (leb-true t 86400 h)

not_late_end : (o : Option ℕ) → is_time_or_none o ≡ true → nat_lt 86400 (unwrap_or o 86400) ≡ false
not_late_end None h = refl
not_late_end (Some t) h = le-ltb 86400 t (leb-true t 86400 h)

abbrev NotLate : Option ℕ → Option ℕ → Option ℕ → Type 0
NotLate info early till = (some_passes (nat_lt 86400) info ≡ false) × (some_passes (nat_lt 86400) early ≡ false) × (nat_lt 86400 (unwrap_or till 86400) ≡ false)

times_of_body : (b : Body) → is_sound_body b ≡ true → NotLate (info_in b) (earliest_in b) (till_in b)
times_of_body (bodies.Batch p info early till count sum entries) h =
    let b = and_parts (is_time_or_none info && is_time_or_none early) (is_time_or_none till) (and_parts _ _ (and_parts _ _ (and_parts _ _ h).0).0).0 in
    let c = and_parts (is_time_or_none info) (is_time_or_none early) b.0 in
    (not_late info c.0, not_late early c.1, not_late_end till b.1)
times_of_body _ h = (refl, refl, refl)

pub times_within : (day : Day) (n : ℕ) → is_sound day ≡ true → (some_passes (nat_lt 86400) (info_end day n) ≡ false) × (some_passes (nat_lt 86400) (earliest day n) ≡ false) × (nat_lt 86400 (settlement_end day n) ≡ false)
times_within day zero s = (refl, refl, refl)
times_within day (suc i) s = here (slice_get day.messages i) refl
  where
    here : (o : Option Message) → slice_get day.messages i ≡ o →
        (some_passes (nat_lt 86400) (option_map_or (λ m. info_in m.body) o None) ≡ false)
        × (some_passes (nat_lt 86400) (option_map_or (λ m. earliest_in m.body) o None) ≡ false)
        × (nat_lt 86400 (unwrap_or (option_map_or (λ m. till_in m.body) o None) 86400) ≡ false)
    here None e = (refl, refl, refl)
    here (Some m) e = times_of_body m.body (all_get (λ m. is_sound_body m.body) day.messages i m (sound_parts day s).bodies e)

-- ---- a payment, or a batch of C or E, at midnight

abbrev pub is_plain_order : Sort → Bool
is_plain_order Pay = true
is_plain_order BatchC = true
is_plain_order BatchE = true
is_plain_order _ = false

not_open : (s : Sort) (day : Day) (J : History) (n : ℕ) → clock J ≡ 86400 → nat_lt 86400 (settlement_end day n) ≡ false → open_as s day J n ≡ false
not_open Pay day J n c t = subst (λ x. nat_lt x 86400 ≡ false) (sym c) refl
not_open BatchA day J n c t = subst (λ x. nat_lt x (settlement_end day n) ≡ false) (sym c) t
not_open BatchB day J n c t = subst (λ x. nat_lt x (settlement_end day n) ≡ false) (sym c) t
not_open BatchE day J n c t = subst (λ x. nat_lt x (settlement_end day n) ≡ false) (sym c) t
not_open BatchC day J n c t = and_left (nat_lt (clock J) 86400) (not (cycle_ended day n J)) (subst (λ x. nat_lt x 86400 ≡ false) (sym c) refl)
not_open _ day J n c t = refl

order_of : (s : Sort) → is_plain_order s ≡ true → is_no_order s ≡ false
order_of Pay h = refl
order_of BatchC h = refl
order_of BatchE h = refl
order_of _ h = cc

never_asks : (s : Sort) → is_plain_order s ≡ true → is_a_or_b s ≡ false
never_asks Pay h = refl
never_asks BatchC h = refl
never_asks BatchE h = refl
never_asks _ h = cc

never_covers : (s : Sort) (b : Bool) → is_plain_order s ≡ true → (is_a s && b) ≡ false
never_covers Pay b h = refl
never_covers BatchC b h = refl
never_covers BatchE b h = refl
never_covers _ b h = cc

lapses : (s : Sort) → is_plain_order s ≡ true → may_lapse s ≡ true
lapses Pay h = refl
lapses BatchC h = refl
lapses BatchE h = refl
lapses _ h = cc

-- what is overdue may expire, or the fund may be asked
not_overdue : (l o a : Bool) → l ≡ true → a ≡ false → (l && o && not a) ≡ false → o ≡ false
not_overdue true false a p q h = refl
not_overdue true true false p q h = cc
not_overdue true true true p q h = cc
not_overdue false o a p q h = cc

-- closed, revoked or settled
pub record IsOver (closed revoked settled : Bool) : Type 0 where
  pub or_settled : closed ≡ false → revoked ≡ false → settled ≡ true

over : (c r s o : Bool) → OneOfFour c r s o → o ≡ false → IsOver c r s
over c r true o f h = record { or_settled = λ i j. refl }
over c r false o f h = record { or_settled = λ i j. absurd (both_ways o h (f.or_overdue i j refl)) }

pub over_at_midnight : (day : Day) (J : History) (n : ℕ) → is_sound day ≡ true → IsLegal day J → clock J ≡ 86400 → is_ready day J ≡ false → is_plain_order (sort_of day n) ≡ true → is_accepted J n ≡ true →
    IsOver (is_some (closed J n)) (revoked_as (sort_of day n) day J n) (settled_as (sort_of day n) day J n)
over_at_midnight day J n sound legal c r s a =
    let times = times_within day n sound in
    let unasked : is_some (asked J n) ≡ false = false_from_ne_true (is_some (asked J n)) (λ e. both_ways (is_a_or_b (sort_of day n)) (never_asks (sort_of day n) s) (asked_sort day J n legal e)) in
    over _ _ _ (is_overdue (phase day J n))
    (one_of_four day J n a (order_of (sort_of day n) s) (never_covers (sort_of day n) (is_some (covered J n)) s) unasked
    (subst (λ x. some_passes (nat_lt x) (info_end day n) ≡ false) (sym c) times.0)
    (subst (λ x. some_passes (nat_lt x) (earliest day n) ≡ false) (sym c) times.1)
    (not_open (sort_of day n) day J n c times.2))
    (not_overdue (may_lapse (sort_of day n)) (is_overdue (phase day J n)) (may_ask day J n) (lapses (sort_of day n) s) (idle day J (wants.Ask n) r) (idle day J (wants.Expire n) r))
