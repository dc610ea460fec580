-- In a complete history each entry of an accepted C or E batch is booked or revoked, or its batch is closed.
use Rattle.std.proofs.Common.{◌≡◌, ℕ, ◌≤◌, Bool, true, false, ◌||◌, not, List, [], ◌∷◌, refl, sym, ap, ◌∙◌, arith, length}
use Rattle.std.proofs.lemmas.Bool.{or_left, or_right, not-true, and_parts}
use Rattle.std.specs.Prelude.{is_some, nat_eq}
use Rattle.std.specs.List.{list_all}
use Rattle.std.proofs.lemmas.Bool.{eqb-true}
use Rattle.batch_records.specs.DayRecord.{Day}
use Rattle.batch_records.specs.Sound.{is_sound}
use Rattle.commit_journal.specs.declared.line.Move.{Move}
use Rattle.commit_journal.specs.declared.line.Code.{Code}
use Rattle.commit_journal.specs.declared.line.Kind.{Kind}
use Rattle.commit_journal.specs.declared.line.Kind.TheVariants as kinds
use Rattle.commit_journal.specs.Line.{Line, History}
use Rattle.machine.specs.Records.Messages.{Sort, BatchC, BatchE, sort_of, is_c, is_e, entries, entry_numbers}
use Rattle.machine.specs.Telling.History.{is_end, is_accepted, booked, closed, clock}
use Rattle.machine.specs.Telling.Facts.{revoked}
use Rattle.machine.specs.Stages.Phases.{is_booked, is_revoked_entry, revoked_as, settled_as}
use Rattle.machine.specs.Making.Lines.{is_ready, may_end, end_line}
use Rattle.machine.specs.Legal.{IsLegal}
use Rattle.machine.specs.Laws.{is_entry_done, EntriesAreDone, EntriesSettleOnce}
use Rattle.settlement_laws.proofs.DayEnd.EndChangesNothing.{end_is, accepted_end, booked_end, revoked_end, closed_end}
use Rattle.settlement_laws.proofs.Base.Made.{Made, made_facts}
use Rattle.settlement_laws.proofs.Base.Sums.{all-at}
use Rattle.settlement_laws.proofs.EachLaw.OnceAndInOrder.{booked_once}
use Rattle.settlement_laws.proofs.DayEnd.OrdersAtMidnight.{is_plain_order, over_at_midnight}

plain_of : (s : Sort) → (is_c s || is_e s) ≡ true → is_plain_order s ≡ true
plain_of BatchC h = refl
plain_of BatchE h = refl
plain_of _ h = cc

either : (b r c : Bool) → (c ≡ false → (b || r) ≡ true) → (b || r || c) ≡ true
either true r c f = refl
either false true c f = refl
either false false true f = refl
either false false false f = f refl

-- where the batch is revoked or settled, each of its entries is booked or revoked
entry_over : (s : Sort) (day : Day) (J : History) (n k : ℕ) → (is_c s || is_e s) ≡ true → 1 ≤ k → k ≤ length (entries day n) → (revoked_as s day J n ≡ false → settled_as s day J n ≡ true) → (is_booked J n k || is_revoked_entry day J n k) ≡ true
entry_over BatchC day J n k s a b f = or_left (is_booked J n k) (is_revoked_entry day J n k) (all-at (is_booked J n) 1 (length (entries day n)) k (f refl) a (omega arith))
entry_over BatchE day J n k s a b f = here (list_all (is_revoked_entry day J n) (entry_numbers day n)) refl f
  where
    here : (r : Bool) → list_all (is_revoked_entry day J n) (entry_numbers day n) ≡ r → (r ≡ false → list_all (λ k. is_booked J n k || is_revoked_entry day J n k) (entry_numbers day n) ≡ true) → (is_booked J n k || is_revoked_entry day J n k) ≡ true
    here true e f = or_right (is_booked J n k) (is_revoked_entry day J n k) (all-at (is_revoked_entry day J n) 1 (length (entries day n)) k e a (omega arith))
    here false e f = all-at (λ k. is_booked J n k || is_revoked_entry day J n k) 1 (length (entries day n)) k (f refl) a (omega arith)
entry_over _ day J n k s a b f = cc

made_end : (kind : Kind) (day : Day) (J : History) (n k : ℕ) (code : Code) (moves : List Move) → is_end kind ≡ true → Made kind day J n k code moves → may_end day J ≡ true
made_end kinds.End day J n k code moves h m = m.0
made_end _ day J n k code moves h m = cc

end_done : (day : Day) (l : Line) (J : History) → is_sound day ≡ true → IsLegal day J → Made l.head.kind day J l.head.msg l.head.entry l.head.code l.moves → is_end l.head.kind ≡ true →
    (n k : ℕ) → (is_c (sort_of day n) || is_e (sort_of day n)) ≡ true → is_accepted J n ≡ true → 1 ≤ k → k ≤ length (entries day n) → is_entry_done day J n k ≡ true
end_done day l J sound legal m e n k s a x y =
    let b = and_parts (nat_eq (clock J) 86400) (not (is_ready day J)) (made_end l.head.kind day J _ _ _ _ e m) in
    let o = over_at_midnight day J n sound legal (eqb-true (clock J) 86400 b.0) (not-true _ b.1) (plain_of (sort_of day n) s) a in
    either (is_some (booked J n k)) (is_some (revoked day J n k)) (is_some (closed J n)) (λ c. entry_over (sort_of day n) day J n k s x y (o.or_settled c))

entry_end : (day : Day) (J : History) (n k : ℕ) → is_entry_done day (end_line ∷ J) n k ≡ is_entry_done day J n k
entry_end day J n k = λ i. is_some (booked_end J n k i) || is_some (revoked_end day J n k i) || is_some (closed_end J n i)

pub entries_are_done : (day : Day) (J : History) → is_sound day ≡ true → IsLegal day J → EntriesAreDone day J
entries_are_done day [] sound legal e n k s a x y = cc
entries_are_done day (l ∷ J) sound legal e n k s a x y =
    let accepted : is_accepted J n ≡ true = sym (accepted_end J n) ∙ ap (λ z. is_accepted (z ∷ J) n) (end_is day l J legal e) ∙ a in
    let before : is_entry_done day J n k ≡ true = end_done day l J sound legal.0 (made_facts day J l legal.1).1 e n k s accepted x y in
    ap (λ z. is_entry_done day (z ∷ J) n k) (sym (end_is day l J legal e)) ∙ entry_end day J n k ∙ before

pub entries_settle_once : (day : Day) (J : History) → is_sound day ≡ true → IsLegal day J → EntriesSettleOnce day J
entries_settle_once day J sound legal = (booked_once day J legal, entries_are_done day J sound legal)
