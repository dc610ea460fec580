-- In every legal history the technical accounts of A hold what their batches brought, so each reversal is backed, and no account is below zero.
use Rattle.std.proofs.Common.{◌≡◌, ℕ, ◌≤◌, Bool, true, false, not, ◌&&◌, List, [], ◌∷◌, refl, ◌∙◌, subst, arith, inl, inr}
use Rattle.std.specs.Prelude.{is_some, nat_lt}
use Rattle.batch_records.specs.DayRecord.{Day}
use Rattle.commit_journal.specs.declared.line.Move.{Move}
use Rattle.commit_journal.specs.declared.line.Code.{Code}
use Rattle.commit_journal.specs.declared.line.Kind.{Kind}
use Rattle.commit_journal.specs.declared.line.Kind.TheVariants as kinds
use Rattle.commit_journal.specs.Line.{Line, History}
use Rattle.machine.specs.Records.Messages.{BatchA, sort_of, is_credit, technical_account}
use Rattle.machine.specs.Telling.History.{is_time, covered, closed, clock}
use Rattle.machine.specs.Telling.Balances.{balance}
use Rattle.std.proofs.lemmas.Bool.{not-true, and_parts}
use Rattle.machine.specs.Stages.Phases.{phase, is_open, is_booked}
use Rattle.machine.specs.Making.Lines.{is_ready, all_taken, refusal, reversal, return_of, debit_entries_by}
use Rattle.machine.specs.Legal.{IsLegal}
use Rattle.machine.specs.Laws.{EachLine, IsNeverBelowZero}
use Rattle.settlement_laws.proofs.Base.Made.{Made, made_facts}
use Rattle.settlement_laws.proofs.Balances.CoveredMoves.{amounts, amounts_of_map}
use Rattle.settlement_laws.proofs.Balances.StepsNeverBelowZero as earlier
use Rattle.settlement_laws.proofs.Balances.BackedReversals.{ReversalsAreBacked}
use Rattle.settlement_laws.proofs.Base.Lists.{never}
use Rattle.settlement_laws.proofs.Base.LinesOf.{credited_by, debited_by, is_of}
use Rattle.settlement_laws.proofs.Base.Weights.{every}
use Rattle.settlement_laws.proofs.ProcedureA.FactsOfA.{credit_weight, debit_weight, FactsOfA, facts_of_a}
use Rattle.settlement_laws.proofs.ProcedureA.BoundsOfA.{Bounds, bounds, by_weight}
use Rattle.settlement_laws.proofs.ProcedureA.PhasesOfA.{is_late, late_going, late_facts, LateFacts, late_not_open, expire_late, refuse_late}
use Rattle.settlement_laws.proofs.ProcedureA.WantsOfA.{MadeLine}
use Rattle.settlement_laws.proofs.Base.PhaseLaws.{going_accepted}
use Rattle.settlement_laws.proofs.ProcedureA.DebitedByOwnBatches.{is_a_account}
use Rattle.settlement_laws.proofs.ProcedureA.BookedCredits.{Flags, flags_more, flags_first, firm_not_late}
use Rattle.settlement_laws.proofs.ProcedureA.OwnMoney.{EachWithin, each_within_more, own_within, holds_own, no_credits, not_back, part_came}
use Rattle.settlement_laws.proofs.ProcedureA.ForemostCredit.{no_credit_pending}
use Rattle.settlement_laws.proofs.DayEnd.SubAccountsAtMidnight.{code_is}

pub record SoundA (day : Day) (J : History) : Type 0 where
  pub flags : (n : ℕ) → sort_of day n ≡ BatchA → Flags day J n
  pub within : (t : ℕ) → is_a_account day t ≡ true → EachWithin J t

pub time_wants : (kind : Kind) (day : Day) (J : History) (n k : ℕ) (code : Code) (moves : List Move) → is_time kind ≡ true → Made kind day J n k code moves → is_ready day J ≡ false
time_wants kinds.Time day J n k code moves h m = not-true _ (and_parts (nat_lt (clock J) 86400 && all_taken day J) (not (is_ready day J)) m.0).1
time_wants _ day J n k code moves h m = cc

sound_more : (day : Day) (l : Line) (J : History) → IsLegal day (l ∷ J) → SoundA day J → SoundA day (l ∷ J)
sound_more day l J legal s = record { flags = flags_now; within = within_now }
  where
    m : MadeLine day J l
    m = (made_facts day J l legal.1).1

    flags_now : (n : ℕ) → sort_of day n ≡ BatchA → Flags day (l ∷ J) n
    flags_now n q = flags_more day n q l J m (λ t. no_credit_pending day J legal.0 s.within (time_wants l.head.kind day J _ _ _ _ t m) n q) (s.flags n q)

    within_now : (t : ℕ) → is_a_account day t ≡ true → EachWithin (l ∷ J) t
    within_now t is_t = each_within_more day t l J is_t legal.0 m (s.within t is_t)
        (λ q e. subst (λ a. debited_by (is_of l.head.msg) (l ∷ J) a ≤ credited_by (is_of l.head.msg) (l ∷ J) a) e (own_within day (l ∷ J) l.head.msg legal q (flags_now l.head.msg q)))

pub sound_a : (day : Day) (J : History) → IsLegal day J → SoundA day J
sound_a day [] legal = record { flags = λ n q. flags_first day n q; within = λ t h p. omega arith }
sound_a day (l ∷ J) legal = sound_more day l J legal (sound_a day J legal.0)

-- ---- each reversal is backed

-- a late batch has paid nothing
pub late_unpaid : (day : Day) (J : History) (n k : ℕ) → sort_of day n ≡ BatchA → Flags day J n → is_late (phase day J n) ≡ true → is_credit day n k ≡ true → is_booked J n k ≡ false
late_unpaid day J n k q f h c = here (is_booked J n k) refl
  where
    here : (b : Bool) → is_booked J n k ≡ b → b ≡ false
    here false e = refl
    here true e = elim (f.in_time k c e) [
      | inl firm ↦ absurd (firm_not_late day n q J firm h)
      | inr o ↦ never (is_open (phase day J n)) o (late_not_open (phase day J n) h)
    ]

late_backed : (day : Day) (J : History) (n : ℕ) → IsLegal day J → sort_of day n ≡ BatchA → is_late (phase day J n) ≡ true → amounts (reversal BatchA day J n) ≤ balance day J (technical_account day n)
late_backed day J n legal q h =
    let s : SoundA day J = sound_a day J legal in
    let facts : FactsOfA day n = facts_of_a day J n legal q (going_accepted day J n (late_going (phase day J n) h)) in
    let t : LateFacts day J n = late_facts day J n q h in
    let b : Bounds day J n = bounds day n J legal q in
    let paid : credit_weight day n (is_booked J n) ≡ 0 = no_credits day J n (λ k c. late_unpaid day J n k q (s.flags n q) h c) in
    let went : debited_by (is_of n) J (technical_account day n) ≤ credit_weight day n (is_booked J n) = not_back (is_some (closed J n)) (debit_weight day n (is_booked J n)) (credit_weight day n (is_booked J n)) _ t.closed_no b.little_went in
    let came : debit_weight day n (is_booked J n) ≤ credited_by (is_of n) J (technical_account day n) = part_came (is_some (covered J n)) (debit_weight day n every) (debit_weight day n (is_booked J n)) _ t.covered_no b.enough_came in
    let all : amounts (reversal BatchA day J n) ≡ debit_weight day n (is_booked J n) = amounts_of_map (return_of day n) (λ e. refl) (debit_entries_by day n (is_booked J n)) ∙ by_weight day n (is_booked J n) in
    holds_own day J n (technical_account day n) (amounts (reversal BatchA day J n)) (s.within (technical_account day n) facts.has_technical) (omega arith)

reversals_are_backed : (day : Day) (J : History) → IsLegal day J → ReversalsAreBacked day J
reversals_are_backed day J legal = record {
  expired = λ n q h. late_backed day J n legal q (expire_late day J n h);
  refused = λ n q h. let c = code_is (refusal day J n) h in late_backed day J n legal q (refuse_late day J n c.0 c.1);
}

each_is_backed : (day : Day) (J : History) → IsLegal day J → EachLine (λ l before. ReversalsAreBacked day before) J
each_is_backed day [] legal = tt
each_is_backed day (l ∷ J) legal = (each_is_backed day J legal.0, reversals_are_backed day J legal.0)

-- no account is below zero, after any move of any line of any legal history
pub never_below_zero : (day : Day) (J : History) → IsLegal day J → IsNeverBelowZero day J
never_below_zero day J legal = earlier.never_below_zero day J legal (each_is_backed day J legal)
