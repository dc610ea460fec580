-- A B batch has one move for each of its entries in one line, or none anywhere.
use Rattle.std.proofs.Common.{◌≡◌, ℕ, zero, suc, Bool, true, false, not, ◌&&◌, ◌||◌, List, [], ◌∷◌, ◌++◌, refl, sym, ◌∙◌, ap, subst, arith, cond, length, take, drop, ◌⊎◌, inl, inr}
use Rattle.settlement_laws.proofs.Base.Counting.{none_from, not_some}
use Rattle.std.proofs.lemmas.Bool.{both_ways, not-true, or_parts, or_from, and_parts}
use Rattle.std.specs.Prelude.{is_some, nat_eq, map}
use Rattle.std.proofs.lemmas.Bool.{eqb-true}
use Rattle.std.proofs.lemmas.List.{map-append}
use Rattle.batch_records.specs.DayRecord.{Day}
use Rattle.commit_journal.specs.declared.line.Move.{Move}
use Rattle.commit_journal.specs.declared.line.Code.{Code}
use Rattle.commit_journal.specs.declared.line.Code.TheVariants as line_codes
use Rattle.commit_journal.specs.declared.line.Kind.{Kind}
use Rattle.commit_journal.specs.declared.line.Kind.TheVariants as kinds
use Rattle.commit_journal.specs.Line.{Line, History}
use Rattle.machine.specs.Words.{is_empty}
use Rattle.machine.specs.Records.Messages.{Sort, BatchB, sort_of, is_b, is_a_or_b, entries, debit_entries, credit_entries, move_of}
use Rattle.machine.specs.Telling.History.{is_all, is_cover, is_all_of, is_cover_of, settled_whole, covered, closed}
use Rattle.machine.specs.Stages.Intake.{intake_code, intake_moves, moves_as}
use Rattle.machine.specs.Stages.Phases.{phase, settled_as, is_answered}
use Rattle.machine.specs.Stages.Pending.{is_pending, pending_as}
use Rattle.machine.specs.Making.Lines.{may_settle_whole, may_cover, reversal, cover_moves, covered_debit}
use Rattle.machine.specs.Legal.{IsLegal}
use Rattle.machine.specs.Laws.{moving_lines, each_pays, SettlesWhole, IsWholeOrNothing}
use Rattle.settlement_laws.proofs.Base.Made.{Made, made_facts}
use Rattle.settlement_laws.proofs.Base.PhaseLaws.{is_going, answered_going}
use Rattle.settlement_laws.proofs.Balances.MovesOfTheDay.{pending_going}
use Rattle.settlement_laws.proofs.Base.Counting.{none_here}
use Rattle.settlement_laws.proofs.Base.OngoingPhases.{going_on}
use Rattle.settlement_laws.proofs.ProcedureB.WholeMoves.{debits_pay, front, back}

-- ---- a line of a B batch that moves something

-- it settles the batch whole, and the batch was neither settled nor closed
pub record Whole (day : Day) (J : History) (n : ℕ) (l : Line) : Type 0 where
  pub kind : (is_all l.head.kind || is_cover l.head.kind) ≡ true
  pub settles : SettlesWhole day n l
  pub unsettled : (is_some (settled_whole J n) || is_some (covered J n)) ≡ false
  pub unclosed : is_some (closed J n) ≡ false

b_unsettled : (s : Sort) (day : Day) (J : History) (n : ℕ) → is_b s ≡ true → settled_as s day J n ≡ false → (is_some (settled_whole J n) || is_some (covered J n)) ≡ false
b_unsettled BatchB day J n b h = h
b_unsettled _ day J n b h = cc

b_intake : (s : Sort) (day : Day) (J : History) (n : ℕ) (code : Code) → sort_of day n ≡ s → is_b s ≡ true → is_empty (intake_moves day J n code) ≡ true
b_intake BatchB day J n line_codes.Ok e b = subst (λ s. is_empty (moves_as s day J n) ≡ true) (sym e) refl
b_intake BatchB day J n _ e b = refl
b_intake _ day J n code e b = cc

b_reversal : (s : Sort) (day : Day) (J : History) (n : ℕ) → is_b s ≡ true → is_empty (reversal s day J n) ≡ true
b_reversal BatchB day J n b = refl
b_reversal _ day J n b = cc

b_cover : (s : Sort) (day : Day) (J : History) (n : ℕ) → is_b s ≡ true → cover_moves s day J n ≡ cover_moves BatchB day J n
b_cover BatchB day J n b = refl
b_cover _ day J n b = cc

no_b : (day : Day) (n : ℕ) → n ≡ 0 → is_b (sort_of day n) ≡ false
no_b day zero e = refl
no_b day (suc n) e = absurd (omega arith)

pub going_unsettled : (day : Day) (J : History) (n : ℕ) → is_b (sort_of day n) ≡ true → is_going (phase day J n) ≡ true → (is_some (settled_whole J n) || is_some (covered J n)) ≡ false
going_unsettled day J n b g = b_unsettled (sort_of day n) day J n b (going_on day J n g).settled_no

settle_going : (day : Day) (J : History) (n : ℕ) → may_settle_whole day J n ≡ true → is_going (phase day J n) ≡ true
unfolding is_pending
settle_going day J n h = pending_going (sort_of day n) day J n 0 (phase day J n) (and_parts (is_b (sort_of day n)) (pending_as (sort_of day n) day J n 0 (phase day J n)) (and_parts _ _ (and_parts _ _ h).0).0).1

cover_going : (day : Day) (J : History) (n : ℕ) → may_cover day J n ≡ true → is_going (phase day J n) ≡ true
cover_going day J n h = answered_going (phase day J n) (and_parts (is_a_or_b (sort_of day n)) (is_answered (phase day J n)) (and_parts _ _ (and_parts _ _ h).0).0).1

empty_not : {X : Type 0} (xs ys : List Move) → xs ≡ ys → is_empty ys ≡ true → is_empty xs ≡ false → X
empty_not xs ys e h k = absurd (both_ways (is_empty xs) k (ap is_empty e ∙ h))

whole_line : (kind : Kind) (day : Day) (J : History) (n k : ℕ) (code : Code) (moves : List Move) → is_b (sort_of day n) ≡ true → is_empty moves ≡ false → Made kind day J n k code moves →
    Whole day J n (record { head = record { kind = kind; msg = n; entry = k; code = code }; moves = moves })
whole_line kinds.All day J n k code moves b e m =
    let g : is_going (phase day J n) ≡ true = settle_going day J n m.0 in
    record {
      kind = refl;
      settles = inl (refl, m.2 ∙ sym (map-append (move_of day) (debit_entries day n) (credit_entries day n)));
      unsettled = going_unsettled day J n b g;
      unclosed = (going_on day J n g).closed_no;
    }
whole_line kinds.Cover day J n k code moves b e m =
    let g : is_going (phase day J n) ≡ true = cover_going day J n m.0 in
    let c : moves ≡ map (covered_debit day J n) (debit_entries day n) ++ map (move_of day) (credit_entries day n) = m.2 ∙ b_cover (sort_of day n) day J n b in
    record {
      kind = refl;
      settles = inr (
        refl,
        subst (λ ms. each_pays day n ms (debit_entries day n) ≡ true) (sym (ap (take (length (debit_entries day n))) c ∙ front (covered_debit day J n) (debit_entries day n) (map (move_of day) (credit_entries day n)))) (debits_pay day J n (entries day n)),
        ap (drop (length (debit_entries day n))) c ∙ back (covered_debit day J n) (debit_entries day n) (map (move_of day) (credit_entries day n)),
      );
      unsettled = going_unsettled day J n b g;
      unclosed = (going_on day J n g).closed_no;
    }
whole_line kinds.In day J n k code moves b e m = empty_not moves (intake_moves day J n (intake_code day J n)) m.2 (b_intake (sort_of day n) day J n (intake_code day J n) refl b) e
whole_line kinds.Book day J n k code moves b e m = absurd (both_ways (is_b (sort_of day n)) (not-true _ (and_parts (is_pending day J (record { msg = n; entry = k })) (not (is_b (sort_of day n))) (and_parts _ _ m.0).0).1) b)
whole_line kinds.Expire day J n k code moves b e m = empty_not moves _ m.2 (b_reversal (sort_of day n) day J n b) e
whole_line kinds.Refuse day J n k code moves b e m = empty_not moves _ m.2 (b_reversal (sort_of day n) day J n b) e
whole_line kinds.Sweep day J n k code moves b e m = absurd (both_ways (is_b (sort_of day n)) (no_b day n m.3) b)
whole_line kinds.Ask day J n k code moves b e m = empty_not moves [] m.2 refl e
whole_line kinds.Time day J n k code moves b e m = empty_not moves [] m.2 refl e
whole_line kinds.End day J n k code moves b e m = empty_not moves [] m.2 refl e

-- the line moves something for message n
abbrev pub moves_for : ℕ → Line → Bool
moves_for n l = nat_eq l.head.msg n && not (is_empty l.moves)

pub moving_is_whole : (day : Day) (J : History) (l : Line) (n : ℕ) → Made l.head.kind day J l.head.msg l.head.entry l.head.code l.moves → is_b (sort_of day n) ≡ true → moves_for n l ≡ true → Whole day J n l
moving_is_whole day J l n m b h =
    let p = and_parts (nat_eq l.head.msg n) (not (is_empty l.moves)) h in
    let e : l.head.msg ≡ n = eqb-true l.head.msg n p.0 in
    subst (λ x. Whole day J x l) e (whole_line l.head.kind day J l.head.msg l.head.entry l.head.code l.moves (subst (λ x. is_b (sort_of day x) ≡ true) (sym e) b) (not-true _ p.1) m)

-- ---- over the history

-- a line is All or Cover of n, or moves nothing for a B batch n
moves_not : (day : Day) (J : History) (l : Line) (n : ℕ) → Made l.head.kind day J l.head.msg l.head.entry l.head.code l.moves → is_b (sort_of day n) ≡ true → is_all_of n l ≡ false → is_cover_of n l ≡ false → moves_for n l ≡ false
moves_not day J l n m b a c = here (moves_for n l) refl
  where
    apart : (x y z w : Bool) → (x || y) ≡ true → (z && w) ≡ true → (x && z) ≡ false → (y && z) ≡ false → ⊥
    apart true y true w h k p q = both_ways true p refl
    apart false true true w h k p q = both_ways true q refl
    apart false false z w h k p q = both_ways false refl h
    apart x y false w h k p q = both_ways false refl k

    here : (t : Bool) → moves_for n l ≡ t → t ≡ false
    here false e = refl
    here true e = absurd (apart (is_all l.head.kind) (is_cover l.head.kind) (nat_eq l.head.msg n) (not (is_empty l.moves)) (moving_is_whole day J l n m b e).kind e a c)

skipped : (n : ℕ) (l : Line) (J : History) → moves_for n l ≡ false → moving_lines n (l ∷ J) ≡ moving_lines n J
skipped n l J h = here (moves_for n l) h
  where
    here : (b : Bool) → b ≡ false → cond b (l ∷ moving_lines n J) (moving_lines n J) ≡ moving_lines n J
    here false h = refl
    here true h = cc

-- before its All or Cover line, nothing moves for a B batch
pub nothing_moved : (day : Day) (J : History) (n : ℕ) → IsLegal day J → is_b (sort_of day n) ≡ true → (is_some (settled_whole J n) || is_some (covered J n)) ≡ false → moving_lines n J ≡ []
nothing_moved day [] n legal b h = refl
nothing_moved day (l ∷ J) n legal b h =
    let both = or_parts (is_some (settled_whole (l ∷ J) n)) (is_some (covered (l ∷ J) n)) h in
    let a = none_here (is_all_of n) l J (none_from (settled_whole (l ∷ J) n) both.0) in
    let c = none_here (is_cover_of n) l J (none_from (covered (l ∷ J) n) both.1) in
    skipped n l J (moves_not day J l n (made_facts day J l legal.1).1 b a.1 c.1)
    ∙ nothing_moved day J n legal.0 b (or_from _ _ (not_some (settled_whole J n) a.0) (not_some (covered J n) c.0))

pub whole_or_nothing : (day : Day) (J : History) → IsLegal day J → IsWholeOrNothing day J
whole_or_nothing day [] legal n b = inl refl
whole_or_nothing day (l ∷ J) legal n b = here (moves_for n l) refl (whole_or_nothing day J legal.0 n b)
  where
    here : (t : Bool) → moves_for n l ≡ t → (moving_lines n J ≡ []) ⊎ ((l : Line) × (moving_lines n J ≡ l ∷ []) × SettlesWhole day n l) →
        (cond t (l ∷ moving_lines n J) (moving_lines n J) ≡ []) ⊎ ((k : Line) × (cond t (l ∷ moving_lines n J) (moving_lines n J) ≡ k ∷ []) × SettlesWhole day n k)
    here false e rest = rest
    here true e rest =
        let w : Whole day J n l = moving_is_whole day J l n (made_facts day J l legal.1).1 b e in
        inr (l, ap (λ ls. l ∷ ls) (nothing_moved day J n legal.0 b w.unsettled), w.settles)
