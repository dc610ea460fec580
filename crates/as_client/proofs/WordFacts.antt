-- What the journal tells of a message, one line further.
use Rattle.std.proofs.Common.{◌≡◌, ℕ, Bool, true, false, not, ◌&&◌, ◌||◌, List, [], ◌∷◌, refl, sym, subst, inl, inr, length}
use Rattle.std.specs.Prelude.{is_none, is_some, nat_eq, nat_lt}
use Rattle.std.specs.List.{list_all, range_with_len}
use Rattle.std.proofs.lemmas.Bool.{and_left, and_parts, eqb-false, eqb-true, false_from_ne_true, or_parts}
use Rattle.batch_records.specs.DayRecord.{Day}
use Rattle.batch_records.specs.declared.day.Entry.{Entry}
use Rattle.commit_journal.specs.declared.line.Code.{Code}
use Rattle.commit_journal.specs.declared.line.Kind.{Kind}
use Rattle.commit_journal.specs.declared.line.Kind.TheVariants as kinds
use Rattle.commit_journal.specs.declared.line.Move.{Move}
use Rattle.commit_journal.specs.Line.{Line, History}
use Rattle.machine.specs.declared.answers.Phase.{Phase}
use Rattle.machine.specs.declared.answers.Phase.TheVariants as phases
use Rattle.machine.specs.Words.{is_empty, numbers}
use Rattle.machine.specs.Records.Messages.{Sort, Pay, BatchA, BatchB, BatchC, BatchD, BatchE, credit_numbers, entries, entry_numbers, is_a_or_b, is_batch, is_message, sort_of, stated_count}
use Rattle.machine.specs.Telling.History.{asked, closed, covered, is_all_of, is_ask, is_ask_of, is_book_of, is_closing_of, is_cover_of, is_expire_or_refuse, is_in, is_in_of, place_of, settled_whole, taken, clock}
use Rattle.machine.specs.Telling.Facts.{revokes, is_reached, untaken_earlier}
use Rattle.machine.specs.Legal.{IsLegal}
use Rattle.machine.specs.Stages.Phases.{is_booked, is_information, is_overdue, is_revoked_entry, phase, revoked_as, settled_as}
use Rattle.settlement_laws.proofs.ProcedureB.ClosedMovesNothing.{closes}
use Rattle.settlement_laws.proofs.Base.Counting.{newest, not_some}
use Rattle.settlement_laws.proofs.Base.LinesOf.{stays}
use Rattle.settlement_laws.proofs.Base.Lists.{all_in, all_of, never}
use Rattle.settlement_laws.proofs.Base.Made.{Made, made_facts, made_ask}
use Rattle.settlement_laws.proofs.Base.PhaseLaws.{is_going, overdue_going}
use Rattle.settlement_laws.proofs.Base.OngoingPhases.{going_taken}
use Rattle.settlement_laws.proofs.ProcedureA.BookedCredits.{or_map}
use Rattle.status_messages.proofs.Objections.{Objection, objection_or_none}
use Rattle.status_messages.proofs.Untouched.{revoked_same}

-- ---- lines of a message are made after its intake

pub none_placed : (test : Line → Bool) → is_some (place_of test []) ≡ true → ⊥
unfolding place_of
none_placed test e = cc

after_intake : (day : Day) (n : ℕ) (test : Line → Bool) → ((J : History) (l : Line) → IsLegal day (l ∷ J) → test l ≡ true → is_some (taken J n) ≡ true) → (J : History) → IsLegal day J → is_some (place_of test J) ≡ true → is_some (taken J n) ≡ true
after_intake day n test h [] legal k = absurd (none_placed test k)
after_intake day n test h (l ∷ J) legal k = stays (is_in_of n) l J (here (is_some (place_of test J)) refl (after_intake day n test h J legal.0))
  where
    here : (b : Bool) → is_some (place_of test J) ≡ b → (is_some (place_of test J) ≡ true → is_some (taken J n) ≡ true) → is_some (taken J n) ≡ true
    here true e before = before e
    here false e before = h J l legal (newest test l J k e)

pub closing_going : (day : Day) (J : History) (l : Line) (n : ℕ) → IsLegal day (l ∷ J) → is_closing_of n l ≡ true → is_going (phase day J n) ≡ true
closing_going day J l n legal h = closes day J l n (made_facts day J l legal.1).1 h

pub asking_overdue : (day : Day) (J : History) (l : Line) (n : ℕ) → IsLegal day (l ∷ J) → is_ask_of n l ≡ true → is_overdue (phase day J n) ≡ true
asking_overdue day J l n legal h =
    let b = and_parts (is_ask l.head.kind) (nat_eq l.head.msg n) h in
    let m = made_ask l.head.kind day J l.head.msg l.head.entry l.head.code l.moves b.0 (made_facts day J l legal.1).1 in
    subst (λ x. is_overdue (phase day J x) ≡ true) (eqb-true l.head.msg n b.1) (and_parts (is_a_or_b (sort_of day l.head.msg)) (is_overdue (phase day J l.head.msg)) (and_parts _ _ (and_parts _ (nat_lt (clock J) 86400) m).0).0).1

pub informed_going : (p : Phase) → is_information p ≡ true → is_going p ≡ true
informed_going phases.Information h = refl
informed_going _ h = cc

pub informed_taken : (day : Day) (J : History) (n : ℕ) → is_information (phase day J n) ≡ true → is_some (taken J n) ≡ true
informed_taken day J n h = going_taken day J n (informed_going (phase day J n) h)

pub revoking_taken : (day : Day) (J : History) (l : Line) (n k : ℕ) → IsLegal day (l ∷ J) → revokes day n k l ≡ true → is_some (taken J n) ≡ true
revoking_taken day J l n k legal h = elim (objection_or_none day J l legal) [
  | inl none ↦ never (revokes day n k l) h (none.unrevoked n k)
  | inr some ↦ here some.0 some.1 (nat_eq n some.0) refl
]
  where
    here : (b : ℕ) → Objection day J l b → (c : Bool) → nat_eq n b ≡ c → is_some (taken J n) ≡ true
    here b o true e = subst (λ x. is_some (taken J x) ≡ true) (sym (eqb-true n b e)) (informed_taken day J b o.in_time)
    here b o false e = never (revokes day n k l) h (o.others n k (eqb-false n b e))

-- so of a message that isn't taken there are none

unless_so : (b : Bool) (P : Type 0) → (b ≡ true → P) → (P → ⊥) → b ≡ false
unless_so b P h k = false_from_ne_true b (λ e. k (h e))

pub untaken_closed : (day : Day) (J : History) (n : ℕ) → IsLegal day J → is_none (taken J n) ≡ true → is_some (closed J n) ≡ false
untaken_closed day J n legal u =
    false_from_ne_true (is_some (closed J n)) (λ e. never (is_some (taken J n)) (after_intake day n (is_closing_of n) (λ K l k h. going_taken day K n (closing_going day K l n k h)) J legal e) (not_some (taken J n) u))

pub untaken_asked : (day : Day) (J : History) (n : ℕ) → IsLegal day J → is_none (taken J n) ≡ true → is_some (asked J n) ≡ false
untaken_asked day J n legal u =
    false_from_ne_true (is_some (asked J n)) (λ e. never (is_some (taken J n)) (after_intake day n (is_ask_of n) (λ K l k h. going_taken day K n (overdue_going (phase day K n) (asking_overdue day K l n k h))) J legal e) (not_some (taken J n) u))

pub untaken_revokes : (day : Day) (J : History) (l : Line) (n k : ℕ) → IsLegal day (l ∷ J) → is_none (taken J n) ≡ true → revokes day n k l ≡ false
untaken_revokes day J l n k legal u = false_from_ne_true (revokes day n k l) (λ e. never (is_some (taken J n)) (revoking_taken day J l n k legal e) (not_some (taken J n) u))

pub untaken_revoked : (day : Day) (J : History) (n k : ℕ) → IsLegal day J → is_none (taken J n) ≡ true → is_revoked_entry day J n k ≡ false
untaken_revoked day J n k legal u =
    false_from_ne_true (is_revoked_entry day J n k) (λ e. never (is_some (taken J n)) (after_intake day n (revokes day n k) (λ K l m h. revoking_taken day K l n k m h) J legal e) (not_some (taken J n) u))

-- ---- the code of an intake

taking_new : (kind : Kind) (day : Day) (J : History) (n k : ℕ) (code : Code) (moves : List Move) → is_in kind ≡ true → Made kind day J n k code moves → is_none (taken J n) ≡ true
taking_new kinds.In day J n k code moves h m = (and_parts (is_message (sort_of day n)) (is_none (taken J n)) (and_parts _ (is_reached day J n) (and_parts _ (is_none (untaken_earlier day J n)) m.0).0).0).1
taking_new _ day J n k code moves h m = cc

-- an intake is that of a message which wasn't taken
pub own_untaken : (day : Day) (J : History) (l : Line) (n : ℕ) → IsLegal day (l ∷ J) → is_in_of n l ≡ true → is_none (taken J n) ≡ true
own_untaken day J l n legal h =
    let b = and_parts (is_in l.head.kind) (nat_eq l.head.msg n) h in
    subst (λ x. is_none (taken J x) ≡ true) (eqb-true l.head.msg n b.1) (taking_new l.head.kind day J l.head.msg l.head.entry l.head.code l.moves b.0 (made_facts day J l legal.1).1)

pub intake_only : (kind : Kind) → is_in kind ≡ true → (is_ask kind ≡ false) × (is_expire_or_refuse kind ≡ false)
intake_only kinds.In h = (refl, refl)
intake_only _ h = cc

pub asking_only : (kind : Kind) → is_ask kind ≡ true → is_expire_or_refuse kind ≡ false
asking_only kinds.Ask h = refl
asking_only _ h = cc

pub closing_only : (kind : Kind) → is_expire_or_refuse kind ≡ true → is_ask kind ≡ false
closing_only kinds.Expire h = refl
closing_only kinds.Refuse h = refl
closing_only _ h = cc

-- ---- what stays settled, and revoked

booked_stays : (l : Line) (J : History) (n k : ℕ) → is_booked J n k ≡ true → is_booked (l ∷ J) n k ≡ true
booked_stays l J n k = stays (is_book_of n k) l J

all_stay : (f g : ℕ → Bool) (xs : List ℕ) → ((x : ℕ) → f x ≡ true → g x ≡ true) → list_all f xs ≡ true → list_all g xs ≡ true
all_stay f g xs h e = all_of g xs (λ x i. h x (all_in f xs x e i))

pub settled_stays : (s : Sort) (day : Day) (l : Line) (J : History) (n : ℕ) → settled_as s day J n ≡ true → settled_as s day (l ∷ J) n ≡ true
settled_stays Pay day l J n h = booked_stays l J n 0 h
settled_stays BatchA day l J n h = all_stay (is_booked J n) (is_booked (l ∷ J) n) (credit_numbers day n) (booked_stays l J n) h
settled_stays BatchB day l J n h = or_map (is_some (settled_whole J n)) (is_some (covered J n)) (is_some (settled_whole (l ∷ J) n)) (is_some (covered (l ∷ J) n)) (stays (is_all_of n) l J) (stays (is_cover_of n) l J) h
settled_stays BatchC day l J n h = all_stay (is_booked J n) (is_booked (l ∷ J) n) (entry_numbers day n) (booked_stays l J n) h
settled_stays BatchD day l J n h = refl
settled_stays BatchE day l J n h =
    all_stay (λ k. is_booked J n k || is_revoked_entry day J n k) (λ k. is_booked (l ∷ J) n k || is_revoked_entry day (l ∷ J) n k) (entry_numbers day n)
    (λ k. or_map (is_booked J n k) (is_revoked_entry day J n k) (is_booked (l ∷ J) n k) (is_revoked_entry day (l ∷ J) n k) (booked_stays l J n k) (stays (revokes day n k) l J)) h
settled_stays _ day l J n h = cc

pub revoked_kept : (s : Sort) (day : Day) (l : Line) (J : History) (n : ℕ) → ((k : ℕ) → revokes day n k l ≡ false) → revoked_as s day (l ∷ J) n ≡ revoked_as s day J n
revoked_kept BatchA day l J n h = revoked_same day l J n 0 (h 0)
revoked_kept BatchB day l J n h = revoked_same day l J n 0 (h 0)
revoked_kept BatchE day l J n h = λ i. list_all (λ k. revoked_same day l J n k (h k) i) (entry_numbers day n)
revoked_kept _ day l J n h = refl

-- of a batch with entries, none of which is revoked
some_unrevoked : (test : ℕ → Bool) (es : List Entry) → is_empty es ≡ false → ((k : ℕ) → test k ≡ false) → list_all test (numbers es) ≡ false
some_unrevoked test [] h k = cc
some_unrevoked test (e ∷ es) h k = and_left (test 1) (list_all test (range_with_len 2 (length es))) (k 1)

pub unrevoked_as : (s : Sort) (day : Day) (J : History) (n : ℕ) → (is_batch s && (is_empty (entries day n) || not (nat_eq (length (entries day n)) (stated_count day n)))) ≡ false → ((k : ℕ) → is_revoked_entry day J n k ≡ false) → revoked_as s day J n ≡ false
unrevoked_as BatchA day J n c h = h 0
unrevoked_as BatchB day J n c h = h 0
unrevoked_as BatchE day J n c h = some_unrevoked (is_revoked_entry day J n) (entries day n) (or_parts (is_empty (entries day n)) _ c).0 h
unrevoked_as _ day J n c h = refl
