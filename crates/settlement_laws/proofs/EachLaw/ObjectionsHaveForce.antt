-- No line but an In line is of what an objection before it has revoked.
use Rattle.std.proofs.Common.{◌≡◌, ℕ, suc, Bool, true, false, ◌&&◌, not, List, [], ◌∷◌, Option, Some, None, refl, sym, ap, ◌∙◌, subst}
use Rattle.std.specs.Prelude.{is_some, length}
use Rattle.std.specs.Option.{option_or}
use Rattle.std.proofs.lemmas.Bool.{and_parts, and_right, not-true}
use Rattle.batch_records.specs.DayRecord.{Day}
use Rattle.batch_records.specs.declared.day.Message.{Message}
use Rattle.batch_records.specs.declared.day.Body.{Body}
use Rattle.batch_records.specs.declared.day.Body.TheVariants as bodies
use Rattle.commit_journal.specs.declared.line.Move.{Move}
use Rattle.commit_journal.specs.declared.line.Code.{Code}
use Rattle.commit_journal.specs.declared.line.Kind.{Kind}
use Rattle.commit_journal.specs.declared.line.Kind.TheVariants as kinds
use Rattle.commit_journal.specs.Line.{Line, History}
use Rattle.machine.specs.declared.answers.Phase.{Phase}
use Rattle.machine.specs.Words.{some_passes, when}
use Rattle.machine.specs.Records.Messages.{Sort, BatchA, BatchB, BatchE, sort_of, message_at, names_batch, is_a_or_b, is_b, is_e}
use Rattle.machine.specs.Telling.History.{is_in, place_of}
use Rattle.machine.specs.Telling.Facts.{takes_well, objects, objection_in, revokes, revoked}
use Rattle.machine.specs.Stages.Phases.{phase, revoked_as, is_revoked_entry}
use Rattle.machine.specs.Stages.Pending.{is_pending, pending_as}
use Rattle.machine.specs.Legal.{IsLegal}
use Rattle.machine.specs.Laws.{IsUnrevoked, ObjectionsHaveForce}
use Rattle.machine.proofs.SortFacts.{e_is}
use Rattle.settlement_laws.proofs.Base.Made.{Made, made_facts}
use Rattle.settlement_laws.proofs.Base.PhaseLaws.{is_going}
use Rattle.settlement_laws.proofs.Base.PhaseFacts.{going_facts}
use Rattle.settlement_laws.proofs.EachLaw.OnlyAcceptedGoOn.{line_going}

-- ---- objections that revoke nothing

never_placed : (t : Line → Bool) → ((l : Line) → t l ≡ false) → (J : History) → place_of t J ≡ None
unfolding place_of
never_placed t never [] = refl
never_placed t never (l ∷ J) = λ i. option_or (never_placed t never J i) (when (never l i) (suc (length J)))

passes_never : (p : Message → Bool) → ((m : Message) → p m ≡ false) → (o : Option Message) → some_passes p o ≡ false
passes_never p never None = refl
passes_never p never (Some m) = never m

objection_never : (day : Day) (n k : ℕ) → ((bank : List ℕ) → objects day (sort_of day n) n k bank ≡ false) → (from : List ℕ) (b : Body) → objection_in day n k from b ≡ false
objection_never day n k never from (bodies.Object system id) = and_right (names_batch day system id n) _ (never from)
objection_never day n k never from _ = refl

never_revoked : (day : Day) (J : History) (n k : ℕ) → ((bank : List ℕ) → objects day (sort_of day n) n k bank ≡ false) → revoked day J n k ≡ None
never_revoked day J n k never = never_placed (revokes day n k) here J
  where
    here : (l : Line) → revokes day n k l ≡ false
    here l = and_right (takes_well l) _ (passes_never (λ m. objection_in day n k m.sender m.body) (λ m. objection_never day n k never m.sender m.body) (message_at day l.head.msg))

-- ---- of A and B an objection revokes every item alike

objects_all : (s : Sort) (day : Day) (n k : ℕ) (bank : List ℕ) → is_a_or_b s ≡ true → objects day s n k bank ≡ objects day s n 0 bank
objects_all BatchA day n k bank h = refl
objects_all BatchB day n k bank h = refl
objects_all _ day n k bank h = cc

objection_all : (day : Day) (n k : ℕ) → is_a_or_b (sort_of day n) ≡ true → (from : List ℕ) (b : Body) → objection_in day n k from b ≡ objection_in day n 0 from b
objection_all day n k h from (bodies.Object system id) = λ i. names_batch day system id n && objects_all (sort_of day n) day n k from h i
objection_all day n k h from _ = refl

revoked_all : (day : Day) (J : History) (n k : ℕ) → is_a_or_b (sort_of day n) ≡ true → revoked day J n k ≡ revoked day J n 0
revoked_all day J n k h = λ i. place_of (λ l. takes_well l && some_passes (λ m. objection_all day n k h m.sender m.body i) (message_at day l.head.msg)) J

-- ---- an item of a message that isn't revoked as a whole

none_there : (o : Option ℕ) → is_some o ≡ false → o ≡ None
none_there None h = refl
none_there (Some x) h = cc

unrevoked_item : (s : Sort) (day : Day) (J : History) (n k : ℕ) → sort_of day n ≡ s → revoked_as s day J n ≡ false → (is_e s ≡ true → revoked day J n k ≡ None) → revoked day J n k ≡ None
unrevoked_item BatchA day J n k e r of_e = revoked_all day J n k (ap is_a_or_b e) ∙ none_there (revoked day J n 0) r
unrevoked_item BatchB day J n k e r of_e = revoked_all day J n k (ap is_a_or_b e) ∙ none_there (revoked day J n 0) r
unrevoked_item BatchE day J n k e r of_e = of_e refl
unrevoked_item _ day J n k e r of_e = never_revoked day J n k (λ bank. ap (λ s. objects day s n k bank) e)

-- a batch of E has no entry 0
none_of_whole : (day : Day) (J : History) (n : ℕ) → is_e (sort_of day n) ≡ true → revoked day J n 0 ≡ None
none_of_whole day J n h = never_revoked day J n 0 (λ bank. ap (λ s. objects day s n 0 bank) (e_is (sort_of day n) h))

pending_unrevoked : (s : Sort) (day : Day) (J : History) (n k : ℕ) (p : Phase) → pending_as s day J n k p ≡ true → is_e s ≡ true → is_revoked_entry day J n k ≡ false
pending_unrevoked BatchE day J n k p h e = not-true (is_revoked_entry day J n k) (and_parts _ (not (is_revoked_entry day J n k)) h).1
pending_unrevoked _ day J n k p h e = cc

-- ---- each line but In

unrevoked : (day : Day) (J : History) (n k : ℕ) → is_going (phase day J n) ≡ true → (is_e (sort_of day n) ≡ true → revoked day J n k ≡ None) → IsUnrevoked day J n k
unrevoked day J n k going of_e =
    let g = going_facts day J n going in
    (g.revoked_no, unrevoked_item (sort_of day n) day J n k refl g.revoked_no of_e)

whole_unrevoked : (day : Day) (J : History) (n k : ℕ) → k ≡ 0 → is_going (phase day J n) ≡ true → IsUnrevoked day J n k
whole_unrevoked day J n k z going = subst (IsUnrevoked day J n) (sym z) (unrevoked day J n 0 going (none_of_whole day J n))

-- message 0 is none
none_unrevoked : (day : Day) (J : History) (n k : ℕ) → n ≡ 0 → IsUnrevoked day J n k
none_unrevoked day J n k z = subst (λ x. IsUnrevoked day J x k) (sym z) (refl, never_revoked day J 0 k (λ bank. refl))

line_unrevoked : (kind : Kind) (day : Day) (J : History) (n k : ℕ) (code : Code) (moves : List Move) → is_in kind ≡ false → Made kind day J n k code moves → IsUnrevoked day J n k
unfolding is_pending
line_unrevoked kinds.In day J n k code moves i m = cc
line_unrevoked kinds.Book day J n k code moves i m =
    let p : pending_as (sort_of day n) day J n k (phase day J n) ≡ true = (and_parts (pending_as (sort_of day n) day J n k (phase day J n)) (not (is_b (sort_of day n))) (and_parts _ _ m.0).0).0 in
    unrevoked day J n k (line_going kinds.Book day J n k code moves refl m) (λ e. none_there (revoked day J n k) (pending_unrevoked (sort_of day n) day J n k (phase day J n) p e))
line_unrevoked kinds.All day J n k code moves i m = whole_unrevoked day J n k m.4 (line_going kinds.All day J n k code moves refl m)
line_unrevoked kinds.Expire day J n k code moves i m = whole_unrevoked day J n k m.4 (line_going kinds.Expire day J n k code moves refl m)
line_unrevoked kinds.Ask day J n k code moves i m = whole_unrevoked day J n k m.4 (line_going kinds.Ask day J n k code moves refl m)
line_unrevoked kinds.Cover day J n k code moves i m = whole_unrevoked day J n k m.4 (line_going kinds.Cover day J n k code moves refl m)
line_unrevoked kinds.Refuse day J n k code moves i m = whole_unrevoked day J n k m.4 (line_going kinds.Refuse day J n k code moves refl m)
line_unrevoked kinds.Sweep day J n k code moves i m = none_unrevoked day J n k m.3
line_unrevoked kinds.Time day J n k code moves i m = none_unrevoked day J n k m.3
line_unrevoked kinds.End day J n k code moves i m = none_unrevoked day J n k m.3

pub objections_have_force : (day : Day) (J : History) → IsLegal day J → ObjectionsHaveForce day J
objections_have_force day [] legal = tt
objections_have_force day (l ∷ J) legal = (objections_have_force day J legal.0, λ i. line_unrevoked l.head.kind day J _ _ _ _ i (made_facts day J l legal.1).1)
