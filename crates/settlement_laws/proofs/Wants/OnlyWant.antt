-- The want of an item is the only one of its wants that can have a line.
use Rattle.std.proofs.Common.{◌≡◌, ℕ, zero, suc, Bool, true, false, not, ◌&&◌, Some, refl, arith, [], ◌∷◌, ◌⊎◌, inl, inr}
use Rattle.std.proofs.lemmas.Bool.{and_parts, cond-true, cond-false, not-true}
use Rattle.batch_records.specs.DayRecord.{Day}
use Rattle.commit_journal.specs.declared.line.Want.{Want}
use Rattle.commit_journal.specs.declared.line.Want.TheVariants as wants
use Rattle.commit_journal.specs.Line.{History}
use Rattle.commit_journal.specs.declared.line.Code.{Code}
use Rattle.machine.specs.Words.{first_some, when}
use Rattle.machine.specs.declared.answers.Phase.{Phase}
use Rattle.machine.specs.declared.answers.Phase.TheVariants as phases
use Rattle.machine.specs.Records.Messages.{Sort, Pay, BatchB, sort_of, is_b, is_a_or_b}
use Rattle.machine.specs.Stages.Phases.{phase, is_open, is_overdue, is_answered, is_asking}
use Rattle.machine.specs.Stages.Pending.{is_pending, pending_as}
use Rattle.machine.specs.Making.Lines.{may_book, may_settle_whole, may_expire, may_ask, may_lapse, may_cover, may_refuse, refusal, fund_suffices, message_want, item_want, may_item}
use Rattle.machine.specs.Making.Wants.{message_of, entry_of}
use Rattle.settlement_laws.proofs.DayEnd.SubAccountsAtMidnight.{code_is}
use Rattle.settlement_laws.proofs.DayEnd.LineBound.{bookable, refused_row}
use Rattle.settlement_laws.proofs.Base.PhaseLaws.{open_unsettled}

ask_want : (day : Day) (J : History) (n : ℕ) (p : Phase) → is_overdue p ≡ true → may_ask day J n ≡ true → message_want day J n p ≡ wants.Ask n
ask_want day J n phases.Overdue o h = cond-true (may_ask day J n) (wants.Ask n) (wants.Expire n) h
ask_want day J n _ o h = cc

expire_want : (day : Day) (J : History) (n : ℕ) (p : Phase) → is_overdue p ≡ true → may_ask day J n ≡ false → message_want day J n p ≡ wants.Expire n
expire_want day J n phases.Overdue o h = cond-false (may_ask day J n) (wants.Ask n) (wants.Expire n) h
expire_want day J n _ o h = cc

cover_want : (day : Day) (J : History) (n : ℕ) (p : Phase) → is_answered p ≡ true → may_cover day J n ≡ true → message_want day J n p ≡ wants.Cover n
cover_want day J n phases.Answered o h = cond-true (may_cover day J n) (wants.Cover n) (wants.Refuse n) h
cover_want day J n _ o h = cc

whole_want : (day : Day) (J : History) (n : ℕ) (p : Phase) → is_open p ≡ true → is_b (sort_of day n) ≡ true → message_want day J n p ≡ wants.All n
whole_want day J n phases.Open o h = cond-true (is_b (sort_of day n)) (wants.All n) (wants.Book n 0) h
whole_want day J n _ o h = cc

pub ask_is : (day : Day) (J : History) (n : ℕ) → may_ask day J n ≡ true → item_want day J n 0 ≡ wants.Ask n
ask_is day J n h =
    ask_want day J n (phase day J n) (and_parts (is_a_or_b (sort_of day n)) (is_overdue (phase day J n)) (and_parts _ _ (and_parts _ _ h).0).0).1 h

pub expire_is : (day : Day) (J : History) (n : ℕ) → may_expire day J n ≡ true → item_want day J n 0 ≡ wants.Expire n
expire_is day J n h =
    let a = and_parts _ (not (may_ask day J n)) h in
    expire_want day J n (phase day J n) (and_parts (may_lapse (sort_of day n)) (is_overdue (phase day J n)) a.0).1 (not-true _ a.1)

pub cover_is : (day : Day) (J : History) (n : ℕ) → may_cover day J n ≡ true → item_want day J n 0 ≡ wants.Cover n
cover_is day J n h =
    cover_want day J n (phase day J n) (and_parts (is_a_or_b (sort_of day n)) (is_answered (phase day J n)) (and_parts _ _ (and_parts _ _ h).0).0).1 h

pub all_is : (day : Day) (J : History) (n : ℕ) → may_settle_whole day J n ≡ true → item_want day J n 0 ≡ wants.All n
unfolding is_pending
all_is day J n h =
    let b = and_parts (is_b (sort_of day n)) (pending_as (sort_of day n) day J n 0 (phase day J n)) (and_parts _ _ (and_parts _ _ h).0).0 in
    whole_want day J n (phase day J n) (b_open (sort_of day n) (phase day J n) b.0 b.1) b.0
  where
    b_open : (s : Sort) (p : Phase) → is_b s ≡ true → pending_as s day J n 0 p ≡ true → is_open p ≡ true
    b_open BatchB p b h = h
    b_open _ p b h = cc

refuse_no_cover : (s : Bool) (p : Phase) (a f m : Bool) (gn gs ge code : Code) →
    first_some (when (s && is_answered p && not a) gn ∷ when ((s && is_answered p && a) && not f) gs ∷ when (s && is_asking p && m) ge ∷ []) ≡ Some code → ((s && is_answered p && a) && f) ≡ false
refuse_no_cover true phases.Answered true true m gn gs ge code h = cc
refuse_no_cover true phases.Answered true false m gn gs ge code h = refl
refuse_no_cover true phases.Answered false f m gn gs ge code h = refl
refuse_no_cover true phases.Asking a f m gn gs ge code h = refl
refuse_no_cover true _ a f m gn gs ge code h = cc
refuse_no_cover false p a f m gn gs ge code h = refl

refuse_want : (day : Day) (J : History) (n : ℕ) (p : Phase) → (is_answered p ≡ true) ⊎ (is_asking p ≡ true) → may_cover day J n ≡ false → message_want day J n p ≡ wants.Refuse n
refuse_want day J n phases.Answered e h = cond-false (may_cover day J n) (wants.Cover n) (wants.Refuse n) h
refuse_want day J n phases.Asking e h = refl
refuse_want day J n _ (inl e) h = cc
refuse_want day J n _ (inr e) h = cc

pub refuse_is : (day : Day) (J : History) (n : ℕ) → may_refuse day J n ≡ true → item_want day J n 0 ≡ wants.Refuse n
refuse_is day J n h =
    let c = code_is (refusal day J n) h in
    let r = refused_row (is_a_or_b (sort_of day n)) (phase day J n) _ (fund_suffices day J n) _ _ _ _ c.0 c.1 in
    refuse_want day J n (phase day J n) r.1 (refuse_no_cover (is_a_or_b (sort_of day n)) (phase day J n) _ (fund_suffices day J n) _ _ _ _ c.0 c.1)

pay_want : (day : Day) (J : History) (n : ℕ) (p : Phase) → is_open p ≡ true → is_b (sort_of day n) ≡ false → message_want day J n p ≡ wants.Book n 0
pay_want day J n phases.Open o h = cond-false (is_b (sort_of day n)) (wants.All n) (wants.Book n 0) h
pay_want day J n _ o h = cc

pay_open : (s : Sort) (day : Day) (J : History) (n : ℕ) (p : Phase) → s ≡ Pay → pending_as s day J n 0 p ≡ true → is_open p ≡ true
pay_open Pay day J n p e h = h
pay_open _ day J n p e h = cc

pub book_is : (day : Day) (J : History) (n k : ℕ) → may_book day J n k ≡ true → item_want day J n k ≡ wants.Book n k
unfolding is_pending
book_is day J n (suc k) h = refl
book_is day J n zero h =
    let b = and_parts (pending_as (sort_of day n) day J n 0 (phase day J n)) (not (is_b (sort_of day n))) (and_parts _ _ h).0 in
    elim (bookable (sort_of day n) day J n 0 (phase day J n) (open_unsettled day J n) b.1 b.0).whole_or_entry [
      | inl z ↦ pay_want day J n (phase day J n) (pay_open (sort_of day n) day J n (phase day J n) z.1 b.0) (not-true _ b.1)
      | inr low ↦ absurd (omega (arith, low.0))
    ]

-- a want of an item that has a line is the item's want
pub only_want : (day : Day) (J : History) (w : Want) → may_item day J w ≡ true → item_want day J (message_of w) (entry_of w) ≡ w
only_want day J (wants.Book n k) h = book_is day J n k h
only_want day J (wants.All n) h = all_is day J n h
only_want day J (wants.Expire n) h = expire_is day J n h
only_want day J (wants.Ask n) h = ask_is day J n h
only_want day J (wants.Cover n) h = cover_is day J n h
only_want day J (wants.Refuse n) h = refuse_is day J n h
only_want day J _ h = cc
