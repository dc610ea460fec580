-- An accepted objection comes in the information phase of the batch that it names, so no item of it was pending, nor is afterwards.
use Rattle.std.proofs.Common.{◌≡◌, ◌∙◌, ℕ, zero, suc, Bool, true, false, not, ◌&&◌, ◌||◌, ◌∷◌, Option, Some, None, refl, sym, ap}
use Rattle.std.specs.Prelude.{is_some, is_none, nat_eq, nat_lt}
use Rattle.std.specs.Option.{option_map_or}
use Rattle.std.proofs.lemmas.Bool.{and_parts, false_from_ne_true}
use Rattle.batch_records.specs.DayRecord.{Day}
use Rattle.batch_records.specs.declared.day.Body.{Body}
use Rattle.batch_records.specs.declared.day.Body.TheVariants as bodies
use Rattle.batch_records.specs.declared.day.Message.{Message}
use Rattle.commit_journal.specs.Line.{Line, History}
use Rattle.machine.specs.declared.answers.Phase.{Phase}
use Rattle.machine.specs.declared.answers.Phase.TheVariants as phases
use Rattle.machine.specs.Words.{when, some_passes}
use Rattle.machine.specs.Records.Messages.{Missing, Object, sort_of, sort_of_body, message_at, is_a, earliest, info_end}
use Rattle.machine.specs.Telling.History.{is_in, is_ok, is_ask, is_cover, is_expire_or_refuse, is_in_of, is_ask_of, is_cover_of, is_closing_of, is_accepted, taken, taken_code, asked, covered, closed, clock, is_time}
use Rattle.machine.specs.Telling.Facts.{takes_well, answer_taken, answered}
use Rattle.machine.specs.Stages.Phases.{phase, is_no_order, revoked_as, settled_as, open_as, is_open, is_covered, is_information}
use Rattle.machine.specs.Stages.Intake.{target_in, target_of_message}
use Rattle.machine.specs.Stages.Pending.{item, pending_as, is_pending}
use Rattle.machine.specs.Legal.{IsLegal}
use Rattle.settlement_laws.proofs.Base.LinesOf.{clock_stays}
use Rattle.settlement_laws.proofs.Base.Lists.{never}
use Rattle.settlement_laws.proofs.Base.Made.{made_facts}
use Rattle.settlement_laws.proofs.Base.PhaseLaws.{table}
use Rattle.settlement_laws.proofs.Base.OneBatchOfAName.{in_passed, informs, Objection}
use Rattle.scan_laws.specs.Concerns.{object_names, accepts_objection, accepts_answer}
use Rattle.scan_laws.specs.Items.{IsSameItem}
use Rattle.scan_laws.specs.Views.{alone}
use Rattle.scan_laws.proofs.Kept.{place_same, read_same, unread}
use Rattle.scan_laws.proofs.Booked.{quiet_pending}

objection : (day : Day) (J : History) (n i : ℕ) → some_passes (λ (m : Message). object_names day n m.body) (message_at day i) ≡ true → Objection day J n i
objection day J n i h = here (message_at day i) refl h
  where
    by_body : (m : Message) (b : Body) → message_at day i ≡ Some m → m.body ≡ b → object_names day n b ≡ true → Objection day J n i
    by_body m (bodies.Object system id) e f h = record {
      system = system;
      id = id;
      names = h;
      is_object = ap (λ o. option_map_or (λ (m : Message). sort_of_body m.body) o Missing) e ∙ ap sort_of_body f;
      aims = ap (target_of_message day J) e ∙ ap (target_in day J m.sender) f;
    }
    by_body m _ e f h = never false h refl

    here : (o : Option Message) → message_at day i ≡ o → some_passes (λ (m : Message). object_names day n m.body) o ≡ true → Objection day J n i
    here None e h = never false h refl
    here (Some m) e h = by_body m m.body e refl h

pub objected_in_time : (day : Day) (J : History) (l : Line) (n : ℕ) → IsLegal day (l ∷ J) → accepts_objection day l n ≡ true → is_information (phase day J n) ≡ true
objected_in_time day J l n legal h =
    let b = and_parts (takes_well l) (some_passes (λ (m : Message). object_names day n m.body) (message_at day l.head.msg)) h in
    let t = and_parts (is_in l.head.kind) (is_ok l.head.code) b.0 in
    informs day J n l.head.msg (objection day J n l.head.msg b.1) (in_passed l.head.kind day J l.head.msg l.head.entry l.head.code l.moves t.0 t.1 (made_facts day J l legal.1).1)

-- ---- before and after it nothing is pending

abbrev rests : Phase → Bool
rests phases.Revoked = true
rests phases.Settled = true
rests phases.Information = true
rests _ = false

resting_alone : (day : Day) (n k : ℕ) (p : Phase) (t : ℕ) → rests p ≡ true → alone day n k p t ≡ None
resting_alone day n zero phases.Revoked t h = refl
resting_alone day n zero phases.Settled t h = refl
resting_alone day n zero phases.Information t h = refl
resting_alone day n zero _ t h = never false h refl
resting_alone day n (suc k) p t h = refl

not_quiet : (p : Phase) → rests p ≡ true → (is_open p || is_covered p) ≡ true → ⊥
not_quiet phases.Revoked h k = cc
not_quiet phases.Settled h k = cc
not_quiet phases.Information h k = cc
not_quiet _ h k = cc

none_pending : (day : Day) (J : History) (n k : ℕ) → rests (phase day J n) ≡ true → is_pending day J (item n k) ≡ false
unfolding is_pending
none_pending day J n k h = false_from_ne_true (pending_as (sort_of day n) day J n k (phase day J n)) (λ e. not_quiet (phase day J n) h (quiet_pending (sort_of day n) day J n k (phase day J n) e))

informing : (p : Phase) → is_information p ≡ true → rests p ≡ true
informing phases.Information h = refl
informing _ h = never false h refl

informed_rows : (a b c d e f g h i j w k x y z : Bool) → is_information (table a b c d e f g h i j w k) ≡ true → rests (table a b c d x y g h i j w z) ≡ true
informed_rows false false false false false false false false false true w k true y z p = refl
informed_rows false false false false false false false false false true w k false true z p = refl
informed_rows false false false false false false false false false true w k false false z p = refl
informed_rows true b c d e f g h i j w k x y z p = cc
informed_rows false true c d e f g h i j w k x y z p = cc
informed_rows false false true d e f g h i j w k x y z p = cc
informed_rows false false false true e f g h i j w k x y z p = cc
informed_rows false false false false true f g h i j w k x y z p = cc
informed_rows false false false false false true g h i j w k x y z p = cc
informed_rows false false false false false false true h i j w k x y z p = cc
informed_rows false false false false false false false true i j w k x y z p = cc
informed_rows false false false false false false false false true j w k x y z p = cc
informed_rows false false false false false false false false false false true k x y z p = cc
informed_rows false false false false false false false false false false false true x y z p = cc
informed_rows false false false false false false false false false false false false x y z p = cc

module _ (day : Day) (J : History) (l : Line) (n : ℕ) (other : nat_eq l.head.msg n ≡ false) (unanswered : accepts_answer day l n ≡ false) (time : is_time l.head.kind ≡ false) where
  abbrev K : History
  K = l ∷ J

  apart : (b : Bool) → (b && nat_eq l.head.msg n) ≡ false
  apart true = other
  apart false = refl

  waits_after : is_information (phase day J n) ≡ true → rests (phase day K n) ≡ true
  unfolding phase
  waits_after h =
      let t : taken K n ≡ taken J n = place_same (is_in_of n) l J (apart (is_in l.head.kind)) in
      let c : taken_code K n ≡ taken_code J n = read_same (λ x. when (is_in_of n x) x.head.code) l J (unread (is_in_of n l) l.head.code (apart (is_in l.head.kind))) in
      let d : closed K n ≡ closed J n = place_same (is_closing_of n) l J (apart (is_expire_or_refuse l.head.kind)) in
      let v : covered K n ≡ covered J n = place_same (is_cover_of n) l J (apart (is_cover l.head.kind)) in
      let a : asked K n ≡ asked J n = place_same (is_ask_of n) l J (apart (is_ask l.head.kind)) in
      let r : answered day K n ≡ answered day J n = place_same (λ x. is_some (answer_taken day n x)) l J unanswered in
      let w : clock K ≡ clock J = clock_stays l J time in
      (λ i. rests (table (is_none (t i)) (not (some_passes is_ok (c i))) (is_no_order (sort_of day n)) (is_some (d i)) (revoked_as (sort_of day n) day K n) (settled_as (sort_of day n) day K n)
      (is_a (sort_of day n) && is_some (v i)) (is_some (a i) && is_some (r i)) (is_some (a i)) (some_passes (nat_lt (w i)) (info_end day n)) (some_passes (nat_lt (w i)) (earliest day n)) (open_as (sort_of day n) day K n)))
      ∙ informed_rows (is_none (taken J n)) (not (is_accepted J n)) (is_no_order (sort_of day n)) (is_some (closed J n)) (revoked_as (sort_of day n) day J n) (settled_as (sort_of day n) day J n) (is_a (sort_of day n) && is_some (covered J n)) (is_some (asked J n) && is_some (answered day J n)) (is_some (asked J n)) (some_passes (nat_lt (clock J)) (info_end day n)) (some_passes (nat_lt (clock J)) (earliest day n)) (open_as (sort_of day n) day J n)
      (revoked_as (sort_of day n) day K n) (settled_as (sort_of day n) day K n) (open_as (sort_of day n) day K n) h

  pub objected_same : (k : ℕ) → IsLegal day K → accepts_objection day l n ≡ true → IsSameItem day K J n k
  objected_same k legal h =
      let info = objected_in_time day J l n legal h in
      let before = informing (phase day J n) info in
      let after = waits_after info in
      record {
        same_pending = none_pending day K n k after ∙ sym (none_pending day J n k before);
        same_standing = λ p. never (is_pending day J (item n k)) p (none_pending day J n k before);
        same_alone = resting_alone day n k (phase day K n) (clock K) after ∙ sym (resting_alone day n k (phase day J n) (clock J) before);
      }
