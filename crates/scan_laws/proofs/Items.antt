-- An item that a line doesn't concern.
use Rattle.std.proofs.Common.{◌≡◌, ◌∙◌, ℕ, zero, suc, Bool, true, false, not, ◌&&◌, ◌||◌, ◌∷◌, Some, None, refl, sym, ap, subst, cond}
use Rattle.std.specs.Prelude.{is_some, is_none, nat_eq, if◌then◌else◌}
use Rattle.std.proofs.lemmas.Bool.{or_parts, or_left, and_from, eqb-true, eqb-false}
use Rattle.batch_records.specs.DayRecord.{Day}
use Rattle.commit_journal.specs.declared.line.Want.TheVariants as wants
use Rattle.commit_journal.specs.Line.{Line, History}
use Rattle.machine.specs.declared.answers.Phase.{Phase}
use Rattle.machine.specs.declared.answers.Phase.TheVariants as phases
use Rattle.machine.specs.Words.{some_passes}
use Rattle.machine.specs.Records.Messages.{sort_of, sender, message_at, is_a_or_b, is_b, is_c}
use Rattle.machine.specs.Telling.History.{is_in, is_ok, is_book, is_time, taken, is_accepted, clock}
use Rattle.machine.specs.Telling.Facts.{takes_well, answer_of_message, cycle_taken, cycle_of_message, cycle_ended}
use Rattle.machine.specs.Stages.Phases.{phase}
use Rattle.machine.specs.Stages.Pending.{item, is_pending}
use Rattle.machine.specs.Making.Lines.{line_of, made, may_ask, may_cover, message_want, item_want}
use Rattle.machine.specs.Legal.{IsLegal}
use Rattle.settlement_laws.proofs.Base.Induction.{line_of-some}
use Rattle.settlement_laws.proofs.Base.Lists.{never}
use Rattle.settlement_laws.proofs.Base.PhaseLaws.{going_accepted}
use Rattle.settlement_laws.proofs.Base.Places.{same-number}
use Rattle.settlement_laws.proofs.Balances.MovesOfTheDay.{pending_going}
use Rattle.scan_laws.specs.Concerns.{is_due, is_about, accepts_objection, accepts_answer, ends_cycle}
use Rattle.scan_laws.specs.Items.{frees_credits, concerns_item, IsSameItem}
use Rattle.scan_laws.specs.Unchanged.{IsUnchanged}
use Rattle.scan_laws.specs.Views.{alone}
use Rattle.scan_laws.proofs.Kept.{untold}
use Rattle.scan_laws.proofs.Alike.{unchanged_else, unchanged_at_time}
use Rattle.scan_laws.proofs.Booked.{no_other, book_others}
use Rattle.scan_laws.proofs.Objected.{objected_same}

alone_at : (day : Day) (n k : ℕ) (p : Phase) (t u : ℕ) → (is_a_or_b (sort_of day n) && nat_eq t 86400) ≡ (is_a_or_b (sort_of day n) && nat_eq u 86400) → alone day n k p t ≡ alone day n k p u
alone_at day n zero phases.Asking t u h = ap (λ b. Some b) h
alone_at day n zero phases.Overdue t u h = refl
alone_at day n zero phases.Answered t u h = refl
alone_at day n zero _ t u h = refl
alone_at day n (suc k) p t u h = refl

-- a message that isn't accepted is ready by no phase
abbrev idle : Phase → Bool
idle phases.Untaken = true
idle phases.Rejected = true
idle _ = false

idle_alone : (day : Day) (n k : ℕ) (p : Phase) (t : ℕ) → idle p ≡ true → alone day n k p t ≡ None
idle_alone day n zero phases.Untaken t h = refl
idle_alone day n zero phases.Rejected t h = refl
idle_alone day n zero _ t h = never false h refl
idle_alone day n (suc k) p t h = refl

idle_row : (a b : Bool) (p : Phase) → b ≡ true → idle (cond a phases.Untaken (cond b phases.Rejected p)) ≡ true
idle_row true b p h = refl
idle_row false true p h = refl
idle_row false false p h = cc

unaccepted_idle : (day : Day) (J : History) (n : ℕ) → is_accepted J n ≡ false → idle (phase day J n) ≡ true
unfolding phase
unaccepted_idle day J n h = idle_row (is_none (taken J n)) (not (is_accepted J n)) _ (ap not h)

pub pending_accepted : (day : Day) (J : History) (n k : ℕ) → is_pending day J (item n k) ≡ true → is_accepted J n ≡ true
unfolding is_pending
pending_accepted day J n k h = going_accepted day J n (pending_going (sort_of day n) day J n k (phase day J n) h)

-- an item of a message that is unchanged
pub from_message : (day : Day) (K J : History) (n k : ℕ) → IsUnchanged day K J n → IsSameItem day K J n k
from_message day K J n k u = record {
  same_pending = u.same_pending k;
  same_standing = λ p. u.same_standing (pending_accepted day J n k p) k;
  same_alone = ap (λ p. alone day n k p (clock K)) u.same_phase ∙ here (is_accepted J n) refl;
}
  where
    here : (b : Bool) → is_accepted J n ≡ b → alone day n k (phase day J n) (clock K) ≡ alone day n k (phase day J n) (clock J)
    here true e = alone_at day n k (phase day J n) (clock K) (clock J) (u.same_midnight e)
    here false e = idle_alone day n k (phase day J n) (clock K) (unaccepted_idle day J n e) ∙ sym (idle_alone day n k (phase day J n) (clock J) (unaccepted_idle day J n e))

none_of : (a b c d : Bool) → a ≡ false → b ≡ false → c ≡ false → d ≡ false → (a || b || c || d) ≡ false
none_of false false false false p q r s = refl
none_of true b c d p q r s = cc
none_of false true c d p q r s = cc
none_of false false true d p q r s = cc
none_of false false false true p q r s = cc

unended : (b c d e : Bool) → c ≡ false → (b && c && d && e) ≡ false
unended true false d e h = refl
unended false false d e h = refl
unended b true d e h = cc

-- a Book line is about no message but its own
pub book_apart : (day : Day) (J : History) (l : Line) (n : ℕ) → is_book l.head.kind ≡ true → nat_eq l.head.msg n ≡ false → is_about day J l n ≡ false
book_apart day J l n book h =
    let t : takes_well l ≡ false = untold (is_in l.head.kind) (is_ok l.head.code) (no_other l.head.kind book).0 in
    none_of (nat_eq l.head.msg n) (accepts_objection day l n) (accepts_answer day l n) (ends_cycle day J l n) h
    (untold (takes_well l) _ t)
    (ap (λ b. is_some (if b then answer_of_message day n (message_at day l.head.msg) else None)) t)
    (unended (is_c (sort_of day n)) (some_passes not (cycle_taken day (sender day n) l)) (is_accepted J n) (not (cycle_ended day n J)) (ap (λ b. some_passes not (if b then cycle_of_message (sender day n) (message_at day l.head.msg) else None)) t))

module _ (day : Day) (J : History) (l : Line) (n k : ℕ) (legal : IsLegal day (l ∷ J)) where
  booked_item : is_book l.head.kind ≡ true → (nat_eq l.head.msg n && (nat_eq l.head.entry k || frees_credits day J l)) ≡ false → IsSameItem day (l ∷ J) J n k
  booked_item book h = here (nat_eq l.head.msg n) refl h
    where
      here : (b : Bool) → nat_eq l.head.msg n ≡ b → (b && (nat_eq l.head.entry k || frees_credits day J l)) ≡ false → IsSameItem day (l ∷ J) J n k
      here false e h = from_message day (l ∷ J) J n k (unchanged_else day J l n (no_other l.head.kind book).5 (book_apart day J l n book e))
      here true e h =
          let p = or_parts (nat_eq l.head.entry k) (frees_credits day J l) h in
          let ne : l.head.entry ≡ k → ⊥ = eqb-false l.head.entry k p.0 in
          subst (λ m. IsSameItem day (l ∷ J) J m k) (eqb-true l.head.msg n e) (book_others day J l book k legal (λ q. ne (sym q)) p.1)

  other_item : is_time l.head.kind ≡ false → (nat_eq l.head.msg n || accepts_answer day l n || ends_cycle day J l n) ≡ false → IsSameItem day (l ∷ J) J n k
  other_item time h = here (accepts_objection day l n) refl
    where
      p : ((nat_eq l.head.msg n || accepts_answer day l n) ≡ false) × (ends_cycle day J l n ≡ false)
      p = or_parts (nat_eq l.head.msg n || accepts_answer day l n) (ends_cycle day J l n) h

      q : (nat_eq l.head.msg n ≡ false) × (accepts_answer day l n ≡ false)
      q = or_parts (nat_eq l.head.msg n) (accepts_answer day l n) p.0

      here : (b : Bool) → accepts_objection day l n ≡ b → IsSameItem day (l ∷ J) J n k
      here true e = objected_same day J l n q.0 q.1 time k legal e
      here false e = from_message day (l ∷ J) J n k (unchanged_else day J l n time (none_of (nat_eq l.head.msg n) (accepts_objection day l n) (accepts_answer day l n) (ends_cycle day J l n) q.0 e q.1 p.1))

  pub same_item : concerns_item day J l n k ≡ false → IsSameItem day (l ∷ J) J n k
  same_item h = here (is_book l.head.kind) refl (is_time l.head.kind) refl h
    where
      here : (b : Bool) → is_book l.head.kind ≡ b → (t : Bool) → is_time l.head.kind ≡ t →
          (if b then nat_eq l.head.msg n && (nat_eq l.head.entry k || frees_credits day J l) else (if t then is_accepted J n && is_due day l.head.entry n else (nat_eq l.head.msg n || accepts_answer day l n || ends_cycle day J l n))) ≡ false → IsSameItem day (l ∷ J) J n k
      here true e t f h = booked_item e h
      here false e true f h = from_message day (l ∷ J) J n k (unchanged_at_time day J l n legal f h)
      here false e false f h = other_item f h

-- ---- the item of a line is concerned

own_else : (day : Day) (J : History) (l : Line) (n k : ℕ) → is_book l.head.kind ≡ false → is_time l.head.kind ≡ false → nat_eq l.head.msg n ≡ true → concerns_item day J l n k ≡ true
own_else day J l n k b t h =
    (λ i. if b i then nat_eq l.head.msg n && (nat_eq l.head.entry k || frees_credits day J l) else (if t i then is_accepted J n && is_due day l.head.entry n else (nat_eq l.head.msg n || accepts_answer day l n || ends_cycle day J l n)))
    ∙ or_left (nat_eq l.head.msg n || accepts_answer day l n) (ends_cycle day J l n) (or_left (nat_eq l.head.msg n) (accepts_answer day l n) h)

own_book : (day : Day) (J : History) (n k : ℕ) → concerns_item day J (made day J (wants.Book n k)) n k ≡ true
own_book day J n k = and_from (nat_eq n n) (nat_eq k k || frees_credits day J (made day J (wants.Book n k))) (same-number n) (or_left (nat_eq k k) _ (same-number k))

own_message : (day : Day) (J : History) (n : ℕ) (p : Phase) → concerns_item day J (made day J (message_want day J n p)) n 0 ≡ true
own_message day J n phases.Overdue = go (may_ask day J n)
  where
    go : (b : Bool) → concerns_item day J (made day J (if b then wants.Ask n else wants.Expire n)) n 0 ≡ true
    go true = own_else day J (made day J (wants.Ask n)) n 0 refl refl (same-number n)
    go false = own_else day J (made day J (wants.Expire n)) n 0 refl refl (same-number n)
own_message day J n phases.Answered = go (may_cover day J n)
  where
    go : (b : Bool) → concerns_item day J (made day J (if b then wants.Cover n else wants.Refuse n)) n 0 ≡ true
    go true = own_else day J (made day J (wants.Cover n)) n 0 refl refl (same-number n)
    go false = own_else day J (made day J (wants.Refuse n)) n 0 refl refl (same-number n)
own_message day J n phases.Asking = own_else day J (made day J (wants.Refuse n)) n 0 refl refl (same-number n)
own_message day J n _ = go (is_b (sort_of day n))
  where
    go : (b : Bool) → concerns_item day J (made day J (if b then wants.All n else wants.Book n 0)) n 0 ≡ true
    go true = own_else day J (made day J (wants.All n)) n 0 refl refl (same-number n)
    go false = own_book day J n 0

own_item : (day : Day) (J : History) (n k : ℕ) → concerns_item day J (made day J (item_want day J n k)) n k ≡ true
own_item day J n zero = own_message day J n (phase day J n)
own_item day J n (suc k) = own_book day J n (suc k)

pub own_concerned : (day : Day) (J : History) (n k : ℕ) (l : Line) → line_of day J (item_want day J n k) ≡ Some l → concerns_item day J l n k ≡ true
own_concerned day J n k l e = subst (λ x. concerns_item day J x n k ≡ true) (line_of-some day J (item_want day J n k) l e).2 (own_item day J n k)
