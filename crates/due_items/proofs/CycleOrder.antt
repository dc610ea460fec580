-- Which batches of C an end of a cycle meets: those after the last accepted end before it.
use Rattle.std.proofs.Common.{◌≡◌, ◌∙◌, ℕ, ◌<◌, ◌≤◌, Bool, true, false, not, ◌||◌, List, [], ◌∷◌, Option, Some, None, refl, sym, ap, subst, arith, ◌⊎◌, inl, inr, if◌then◌else◌}
use Rattle.std.specs.Prelude.{is_none, is_some, nat_eq}
use Rattle.std.specs.Option.{option_map_or, option_or}
use Rattle.std.proofs.lemmas.Bool.{and_from, and_parts, eqb-true, or_left, or_right}
use Rattle.account_book.proofs.SoundLemmas.{own_name}
use Rattle.batch_records.specs.DayRecord.{Day}
use Rattle.batch_records.specs.declared.day.Body.{Body}
use Rattle.batch_records.specs.declared.day.Body.TheVariants as bodies
use Rattle.batch_records.specs.declared.day.Message.{Message}
use Rattle.commit_journal.specs.declared.line.Code.{Code}
use Rattle.commit_journal.specs.declared.line.Kind.{Kind}
use Rattle.commit_journal.specs.declared.line.Kind.TheVariants as kinds
use Rattle.commit_journal.specs.Line.{Line, History}
use Rattle.machine.specs.Laws.{EachLine, FollowsSender}
use Rattle.machine.specs.Legal.{IsLegal}
use Rattle.machine.specs.Words.{same_name, some_passes, when}
use Rattle.machine.specs.Records.Messages.{message_at, sender}
use Rattle.machine.specs.Telling.Facts.{cycle_ended, cycle_in, cycle_of_message, cycle_taken}
use Rattle.machine.specs.Telling.History.{is_accepted, is_in, is_in_of, is_ok, place_of, read_first, taken}
use Rattle.settlement_laws.proofs.Base.LinesOf.{stays, unchanged}
use Rattle.settlement_laws.proofs.Base.Made.{Made, made_facts}
use Rattle.settlement_laws.proofs.Base.OngoingPhases.{accepted_there}
use Rattle.due_items.specs.Chains.{ends_cycles, is_cycle_end}

-- an In line is a message's first
pub in_fresh : (day : Day) (J : History) (l : Line) (n : ℕ) → IsLegal day (l ∷ J) → is_in_of n l ≡ true → is_some (taken J n) ≡ true → ⊥
in_fresh day J l n legal h t =
    let parts = and_parts (is_in l.head.kind) (nat_eq l.head.msg n) h in
    fresh (taken J n) (subst (λ m. is_none (taken J m) ≡ true) (eqb-true l.head.msg n parts.1) (of_in l.head.kind parts.0 (made_facts day J l legal.1).1)) t
  where
    of_in : (kind : Kind) → is_in kind ≡ true → Made kind day J l.head.msg l.head.entry l.head.code l.moves → is_none (taken J l.head.msg) ≡ true
    of_in kinds.In q m = (and_parts _ (is_none (taken J l.head.msg)) (and_parts _ _ (and_parts _ _ m.0).0).0).1
    of_in _ q m = cc

    fresh : (o : Option ℕ) → is_none o ≡ true → is_some o ≡ true → ⊥
    fresh None q s = cc
    fresh (Some x) q s = cc

-- a sender's messages are taken in their order
pub earlier_taken : (day : Day) (J : History) (m e : ℕ) → EachLine (FollowsSender day) J → 1 ≤ m → m < e → sender day m ≡ sender day e → is_some (taken J e) ≡ true → is_some (taken J m) ≡ true
unfolding place_of
earlier_taken day [] m e f first less same t = cc
earlier_taken day (l ∷ J) m e f first less same t = here (is_in_of e l) refl (earlier_taken day J m e f.0 first less same)
  where
    here : (b : Bool) → is_in_of e l ≡ b → (is_some (taken J e) ≡ true → is_some (taken J m) ≡ true) → is_some (taken (l ∷ J) m) ≡ true
    here true q more = stays (is_in_of m) l J (f.1 e m q first less same)
    here false q more = stays (is_in_of m) l J (more (sym (unchanged (is_in_of e) l J q) ∙ t))

-- ---- what an accepted end tells

ok_now : (o : Option Code) (b : Bool) (c : Code) → some_passes is_ok (option_or o (when b c)) ≡ true → (some_passes is_ok o ≡ true) ⊎ ((b ≡ true) × (is_ok c ≡ true))
ok_now (Some x) b c h = inl h
ok_now None true c h = inr (refl, h)
ok_now None false c h = cc

pub accepted_parts : (l : Line) (J : History) (e : ℕ) → is_accepted (l ∷ J) e ≡ true → (is_accepted J e ≡ true) ⊎ ((is_in_of e l ≡ true) × (is_ok l.head.code ≡ true))
unfolding read_first
accepted_parts l J e h = ok_now (read_first (λ x. when (is_in_of e x) x.head.code) J) (is_in_of e l) l.head.code h

ends_in : (system from : List ℕ) (body : Body) → ends_cycles body ≡ true → same_name from system ≡ true → some_passes not (cycle_in system from body) ≡ true
ends_in system from (bodies.Cycle start) h s = ap (λ b. some_passes not (when b start)) s ∙ h
ends_in system from _ h s = cc

ends_of : (day : Day) (system : List ℕ) (e : ℕ) (o : Option Message) → message_at day e ≡ o → system ≡ sender day e → some_passes (λ (y : Message). ends_cycles y.body) o ≡ true → some_passes not (cycle_of_message system o) ≡ true
ends_of day system e None at same h = cc
ends_of day system e (Some x) at same h =
    let from : sender day e ≡ x.sender = ap (λ (o : Option Message). option_map_or (λ (y : Message). y.sender) o []) at in
    ends_in system x.sender x.body h (ap (λ name. same_name name system) (sym (same ∙ from)) ∙ own_name system)

says_end : (day : Day) (l : Line) (m e : ℕ) → is_in_of e l ≡ true → is_ok l.head.code ≡ true → is_cycle_end day e ≡ true → sender day m ≡ sender day e → some_passes not (cycle_taken day (sender day m) l) ≡ true
says_end day l m e q ok end same =
    let p = and_parts (is_in l.head.kind) (nat_eq l.head.msg e) q in
    ap (λ b. some_passes not (if b then cycle_of_message (sender day m) (message_at day l.head.msg) else None)) (and_from (is_in l.head.kind) (is_ok l.head.code) p.0 ok)
    ∙ ap (λ x. some_passes not (cycle_of_message (sender day m) (message_at day x))) (eqb-true l.head.msg e p.1)
    ∙ ends_of day (sender day m) e (message_at day e) refl same end

-- an accepted end has ended the cycle of each batch of its system that comes before it
pub ended_by : (day : Day) (J : History) (m e : ℕ) → IsLegal day J → EachLine (FollowsSender day) J → 1 ≤ m → m < e → sender day m ≡ sender day e → is_cycle_end day e ≡ true → is_accepted J e ≡ true → cycle_ended day m J ≡ true
unfolding cycle_ended read_first
ended_by day [] m e legal f first less same end a = cc
ended_by day (l ∷ J) m e legal f first less same end a = here (is_in_of m l) refl (accepted_parts l J e a) (ended_by day J m e legal.0 f.0 first less same end)
  where
    number : (x : ℕ) → is_in_of x l ≡ true → l.head.msg ≡ x
    number x q = eqb-true l.head.msg x (and_parts (is_in l.head.kind) (nat_eq l.head.msg x) q).1

    here : (b : Bool) → is_in_of m l ≡ b → (is_accepted J e ≡ true) ⊎ ((is_in_of e l ≡ true) × (is_ok l.head.code ≡ true)) → (is_accepted J e ≡ true → cycle_ended day m J ≡ true) → (if is_in_of m l then false else (some_passes not (cycle_taken day (sender day m) l) || cycle_ended day m J)) ≡ true
    here true p (inl old) more = absurd (in_fresh day J l m legal p (earlier_taken day J m e f.0 first less same (accepted_there J e old)))
    here true p (inr q) more = let a = number m p in let b = number e q.0 in absurd (omega (arith, a, b, less))
    here false p (inl old) more = ap (λ b. if b then false else (some_passes not (cycle_taken day (sender day m) l) || cycle_ended day m J)) p ∙ or_right (some_passes not (cycle_taken day (sender day m) l)) (cycle_ended day m J) (more old)
    here false p (inr q) more = ap (λ b. if b then false else (some_passes not (cycle_taken day (sender day m) l) || cycle_ended day m J)) p ∙ or_left (some_passes not (cycle_taken day (sender day m) l)) (cycle_ended day m J) (says_end day l m e q.0 q.1 end same)
