-- A legal history speaks of the day's messages alone, and its End line stands at midnight.
use Rattle.std.proofs.Common.{◌≡◌, ℕ, suc, ◌<◌, ◌≤◌, arith, Bool, true, false, ◌&&◌, [], ◌∷◌, length, not, is_some, is_none, refl}
use Rattle.std.specs.Prelude.{nat_eq, unwrap_or}
use Rattle.std.proofs.lemmas.Bool.{and_parts}
use Rattle.batch_records.specs.DayRecord.{Day}
use Rattle.commit_journal.specs.declared.line.Code.TheVariants as line_codes
use Rattle.commit_journal.specs.declared.line.Want.{Want}
use Rattle.commit_journal.specs.declared.line.Want.TheVariants as wants
use Rattle.commit_journal.specs.Line.{History}
use Rattle.machine.specs.declared.answers.Phase.{Phase}
use Rattle.machine.specs.Words.{first_some, when}
use Rattle.machine.specs.Records.Messages.{Sort, Missing, BatchB, sort_of, is_message, is_b, is_a_or_b}
use Rattle.machine.specs.Telling.History.{taken, clock, is_ended}
use Rattle.machine.specs.Telling.Facts.{is_reached, untaken_earlier, answer}
use Rattle.machine.specs.Stages.Phases.{phase, is_answered, is_asking}
use Rattle.machine.specs.Stages.Pending.{is_pending, pending_as}
use Rattle.machine.specs.Making.Lines.{may, made, may_lapse, is_answered_yes, fund_suffices}
use Rattle.machine.specs.Legal.{IsLegal}
use Rattle.settlement_laws.proofs.Base.Induction.{legal_induction}
use Rattle.settlement_laws.proofs.DayEnd.Stops.{MessageAt, message_is}
use Rattle.settlement_laws.proofs.DayEnd.PlainRuns.{ended-complete}
use Rattle.settlement_laws.proofs.EachLaw.OnceAndInOrder.{complete_late}
use Rattle.live_order.specs.Longer.{SpeaksOf}

pub message_within : (day : Day) (n : ℕ) → is_message (sort_of day n) ≡ true → n ≤ length day.messages
message_within day n h =
    let at : MessageAt day n = message_is day n h in
    let number : n ≡ suc at.place = at.number in
    let within : at.place < length day.messages = at.within in
    omega (arith, number, within)

pending_message : (s : Sort) (day : Day) (J : History) (n k : ℕ) (p : Phase) → pending_as s day J n k p ≡ true → is_message s ≡ true
pending_message Missing day J n k p h = cc
pending_message _ day J n k p h = refl

b_message : (s : Sort) → is_b s ≡ true → is_message s ≡ true
b_message BatchB h = refl
b_message Missing h = cc
b_message _ h = refl

ab_message : (s : Sort) → is_a_or_b s ≡ true → is_message s ≡ true
ab_message Missing h = cc
ab_message _ h = refl

lapse_message : (s : Sort) → may_lapse s ≡ true → is_message s ≡ true
lapse_message Missing h = cc
lapse_message _ h = refl

refused_sort : (a p y f q m : Bool) → is_some (first_some (
    when (a && p && not y) line_codes.Gn
    ∷ when (a && p && y && not f) line_codes.Gs
    ∷ when (a && q && m) line_codes.Ge
    ∷ [])) ≡ true → a ≡ true
refused_sort true p y f q m h = refl
refused_sort false p y f q m h = cc

-- ---- each line that is made is of one of the day's messages, or of none

of_message : (day : Day) (J : History) (w : Want) → may day J w ≡ true → (made day J w).head.msg ≤ length day.messages
unfolding is_pending
of_message day J (wants.In n) h =
    let a = and_parts _ (is_none (untaken_earlier day J n)) h in
    let b = and_parts _ (is_reached day J n) a.0 in
    message_within day n (and_parts (is_message (sort_of day n)) (is_none (taken J n)) b.0).0
of_message day J (wants.Book n k) h =
    let b = and_parts (pending_as (sort_of day n) day J n k (phase day J n)) (not (is_b (sort_of day n))) (and_parts _ _ h).0 in
    message_within day n (pending_message (sort_of day n) day J n k (phase day J n) b.0)
of_message day J (wants.All n) h =
    message_within day n (b_message (sort_of day n) (and_parts (is_b (sort_of day n)) _ (and_parts _ _ (and_parts _ _ h).0).0).0)
of_message day J wants.Time h = omega arith
of_message day J (wants.Expire n) h =
    message_within day n (lapse_message (sort_of day n) (and_parts (may_lapse (sort_of day n)) _ (and_parts _ _ h).0).0)
of_message day J (wants.Ask n) h =
    message_within day n (ab_message (sort_of day n) (and_parts (is_a_or_b (sort_of day n)) _ (and_parts _ _ (and_parts _ _ h).0).0).0)
of_message day J (wants.Cover n) h =
    message_within day n (ab_message (sort_of day n) (and_parts (is_a_or_b (sort_of day n)) _ (and_parts _ _ (and_parts (is_answered_yes day J n) _ h).0).0).0)
of_message day J (wants.Refuse n) h =
    message_within day n (ab_message (sort_of day n) (refused_sort (is_a_or_b (sort_of day n)) (is_answered (phase day J n)) (unwrap_or (answer day J n) false) (fund_suffices day J n) (is_asking (phase day J n)) (nat_eq (clock J) 86400) h))
of_message day J (wants.Sweep a) h = omega arith
of_message day J wants.End h = omega arith

pub speaks : (day : Day) (J : History) → IsLegal day J → SpeaksOf (length day.messages) J
speaks day = legal_induction day (SpeaksOf (length day.messages)) tt (λ J w legal before e m. (before, of_message day J w m))

-- before midnight the day isn't over
pub early : (day : Day) (J : History) → IsLegal day J → clock J < 86400 → is_ended J ≡ false
early day J legal l = here (is_ended J) refl
  where
    here : (b : Bool) → is_ended J ≡ b → b ≡ false
    here true e = let m = complete_late day J legal (ended-complete day J legal e) in absurd (omega (arith, m, l))
    here false e = refl
