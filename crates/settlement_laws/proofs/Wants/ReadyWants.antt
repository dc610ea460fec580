-- Where nothing is ready, no want but In, Time and End has a line; else the first ready one has one.
use Rattle.std.proofs.Common.{◌≡◌, ℕ, suc, ◌<◌, length, Bool, true, false, ◌&&◌, ◌||◌, not, Option, Some, None, refl, sym, ap, ◌∙◌, subst, arith, inl, inr}
use Rattle.std.specs.Prelude.{is_some, nat_lt, option_map}
use Rattle.std.specs.List.{list_any, find}
use Rattle.std.proofs.lemmas.Bool.{and_parts, or_left, or_right, both_ways, false_from_ne_true}
use Rattle.batch_records.specs.DayRecord.{Day}
use Rattle.commit_journal.specs.declared.line.Want.{Want}
use Rattle.commit_journal.specs.declared.line.Want.TheVariants as wants
use Rattle.commit_journal.specs.Line.{History}
use Rattle.cash_amounts.specs.declared.records.AccountRecord.{AccountRecord}
use Rattle.machine.specs.Words.{some_passes, is_sub}
use Rattle.machine.specs.Records.Setup.{account_at, account_numbers, is_sub_account}
use Rattle.machine.specs.Records.Messages.{sort_of, is_message, is_b, is_a_or_b, message_numbers, item_numbers, entries}
use Rattle.machine.specs.Telling.History.{is_ended}
use Rattle.machine.specs.Telling.Balances.{balance}
use Rattle.machine.specs.Stages.Phases.{phase, is_overdue, is_answered}
use Rattle.machine.specs.Stages.Pending.{is_pending, pending_as}
use Rattle.machine.specs.Making.Lines.{line_of, line_if, made, may, may_item, may_ask, may_lapse, may_sweep, is_ready, is_ready_item, is_ready_message, item_want, refusal, fund_suffices}
use Rattle.machine.specs.Making.FirstReady.{first_ready_item, first_ready_of, first_ready}
use Rattle.machine.specs.OtherLaws.{is_work, NoneIsReady, FirstReadyHasALine}
use Rattle.machine.specs.Making.Wants.{message_of, entry_of}
use Rattle.settlement_laws.proofs.Base.Induction.{line_of-made}
use Rattle.settlement_laws.proofs.Base.Sums.{any-from}
use Rattle.settlement_laws.proofs.Base.Searches.{find_any, find_passes}
use Rattle.settlement_laws.proofs.DayEnd.Progress.{may_item-may}
use Rattle.settlement_laws.proofs.DayEnd.Stops.{MessageAt, message_is}
use Rattle.settlement_laws.proofs.DayEnd.SubAccountsAtMidnight.{code_is}
use Rattle.settlement_laws.proofs.DayEnd.LineBound.{Bookable, bookable, refused_row, b_message, lapses_message, a_or_b_message, part_within}
use Rattle.settlement_laws.proofs.Balances.MovesOfTheDay.{numbered_account}
use Rattle.settlement_laws.proofs.Wants.OnlyWant.{only_want}
use Rattle.settlement_laws.proofs.Base.PhaseLaws.{open_unsettled}

-- the item of a want that may be made is one of the day's
pub record IsThere (day : Day) (n k : ℕ) : Type 0 where
  pub message : is_message (sort_of day n) ≡ true
  pub entry : k < suc (length (entries day n))

whole_there : (day : Day) (n : ℕ) → is_message (sort_of day n) ≡ true → IsThere day n 0
whole_there day n h = record { message = h; entry = omega arith }

pub item_there : (day : Day) (J : History) (w : Want) → may_item day J w ≡ true → IsThere day (message_of w) (entry_of w)
unfolding is_pending
item_there day J (wants.Book n k) h =
    let a = and_parts _ _ h in
    let b = and_parts (pending_as (sort_of day n) day J n k (phase day J n)) (not (is_b (sort_of day n))) a.0 in
    let can : Bookable (sort_of day n) day J n k = bookable (sort_of day n) day J n k (phase day J n) (open_unsettled day J n) b.1 b.0 in
    record {
      message = can.message;
      entry = elim can.whole_or_entry [
        | inl z ↦ omega (arith, z.0)
        | inr low ↦ let w = part_within day n k _ low.0 a.1 in omega (arith, w)
      ];
    }
item_there day J (wants.All n) h = whole_there day n (b_message (sort_of day n) (and_parts (is_b (sort_of day n)) _ (and_parts _ _ (and_parts _ _ h).0).0).0)
item_there day J (wants.Expire n) h = whole_there day n (lapses_message (sort_of day n) (and_parts (may_lapse (sort_of day n)) (is_overdue (phase day J n)) (and_parts _ (not (may_ask day J n)) h).0).0)
item_there day J (wants.Ask n) h = whole_there day n (a_or_b_message (sort_of day n) (and_parts (is_a_or_b (sort_of day n)) (is_overdue (phase day J n)) (and_parts _ _ (and_parts _ _ h).0).0).0)
item_there day J (wants.Cover n) h = whole_there day n (a_or_b_message (sort_of day n) (and_parts (is_a_or_b (sort_of day n)) (is_answered (phase day J n)) (and_parts _ _ (and_parts _ _ h).0).0).0)
item_there day J (wants.Refuse n) h =
    let c = code_is (refusal day J n) h in
    whole_there day n (a_or_b_message (sort_of day n) (refused_row (is_a_or_b (sort_of day n)) (phase day J n) _ (fund_suffices day J n) _ _ _ _ c.0 c.1).0)
item_there day J _ h = cc

-- a want of an item that may be made is ready
pub item_ready : (day : Day) (J : History) (w : Want) → may_item day J w ≡ true → is_ready day J ≡ true
unfolding is_ready is_ready_message is_ready_item
item_ready day J w h =
    let there : IsThere day (message_of w) (entry_of w) = item_there day J w h in
    let at : MessageAt day (message_of w) = message_is day (message_of w) there.message in
    let number : message_of w ≡ suc at.place = at.number in
    let within : at.place < length day.messages = at.within in
    let low : entry_of w < suc (length (entries day (message_of w))) = there.entry in
    let one : is_ready_item day J (message_of w) (entry_of w) ≡ true = subst (λ v. may_item day J v ≡ true) (sym (only_want day J w h)) h in
    let all : is_ready_message day J (message_of w) ≡ true = any-from (is_ready_item day J (message_of w)) 0 (suc (length (entries day (message_of w)))) (entry_of w) (omega arith) (omega (arith, low)) one in
    or_left (list_any (is_ready_message day J) (message_numbers day)) _ (any-from (is_ready_message day J) 1 (length day.messages) (message_of w) (omega (arith, number)) (omega (arith, number, within)) all)

passes_there : (o : Option AccountRecord) → some_passes (λ r. is_sub r.kind) o ≡ true → is_some o ≡ true
passes_there None h = cc
passes_there (Some r) h = refl

pub sweep_ready : (day : Day) (J : History) (a : ℕ) → may_sweep day J a ≡ true → is_ready day J ≡ true
unfolding is_ready
sweep_ready day J a h =
    let sub : is_sub_account day a ≡ true = (and_parts (is_sub_account day a) _ (and_parts _ (nat_lt 0 (balance day J a)) h).0).0 in
    let i = numbered_account day a (passes_there (account_at day a) sub) in
    or_right (list_any (is_ready_message day J) (message_numbers day)) _ (any-from (may_sweep day J) 1 (length day.accounts) a (omega (arith, i.1)) (omega (arith, i.1, i.2)) h)

work_ready : (day : Day) (J : History) (w : Want) → is_work w ≡ true → may day J w ≡ true → is_ready day J ≡ true
work_ready day J (wants.In n) s h = cc
work_ready day J (wants.Book n k) s h = item_ready day J (wants.Book n k) h
work_ready day J (wants.All n) s h = item_ready day J (wants.All n) h
work_ready day J wants.Time s h = cc
work_ready day J (wants.Expire n) s h = item_ready day J (wants.Expire n) h
work_ready day J (wants.Ask n) s h = item_ready day J (wants.Ask n) h
work_ready day J (wants.Cover n) s h = item_ready day J (wants.Cover n) h
work_ready day J (wants.Refuse n) s h = item_ready day J (wants.Refuse n) h
work_ready day J (wants.Sweep a) s h = sweep_ready day J a h
work_ready day J wants.End s h = cc

-- what isn't ready may not be made
pub idle : (day : Day) (J : History) (w : Want) → is_ready day J ≡ false → may_item day J w ≡ false
idle day J w r = false_from_ne_true _ (λ h. both_ways (is_ready day J) r (item_ready day J w h))

pub none_is_ready : (day : Day) (J : History) → NoneIsReady day J
unfolding line_of
none_is_ready day J r w s = go (is_ended J) (may day J w) (false_from_ne_true (may day J w) (λ h. both_ways (is_ready day J) r (work_ready day J w s h)))
  where
    go : (b c : Bool) → c ≡ false → line_if (not b && c) (made day J w) ≡ None
    go true c h = refl
    go false true h = cc
    go false false h = refl

-- ---- the first ready want

item_works : (day : Day) (J : History) (w : Want) → may_item day J w ≡ true → is_work w ≡ true
item_works day J (wants.Book n k) h = refl
item_works day J (wants.All n) h = refl
item_works day J (wants.Expire n) h = refl
item_works day J (wants.Ask n) h = refl
item_works day J (wants.Cover n) h = refl
item_works day J (wants.Refuse n) h = refl
item_works day J _ h = cc

abbrev ReadyWant : Day → History → Option Want → Type 0
ReadyWant day J o = (w : Want) × (o ≡ Some w) × (is_work w ≡ true) × (may day J w ≡ true)

ready_item : (day : Day) (J : History) (n : ℕ) → is_ready_message day J n ≡ true → ReadyWant day J (first_ready_item day J n)
unfolding is_ready_message is_ready_item
ready_item day J n h = here (find (is_ready_item day J n) (item_numbers day n)) refl (find_any (is_ready_item day J n) (item_numbers day n) ∙ h)
  where
    here : (o : Option ℕ) → find (is_ready_item day J n) (item_numbers day n) ≡ o → is_some o ≡ true → ReadyWant day J (option_map (item_want day J n) o)
    here None e s = cc
    here (Some k) e s =
        let m : may_item day J (item_want day J n k) ≡ true = find_passes (is_ready_item day J n) (item_numbers day n) k e in
        (item_want day J n k, refl, item_works day J (item_want day J n k) m, may_item-may day J (item_want day J n k) m)

ready_sweep : (day : Day) (J : History) → list_any (may_sweep day J) (account_numbers day) ≡ true → ReadyWant day J (option_map wants.Sweep (find (may_sweep day J) (account_numbers day)))
ready_sweep day J h = here (find (may_sweep day J) (account_numbers day)) refl (find_any (may_sweep day J) (account_numbers day) ∙ h)
  where
    here : (o : Option ℕ) → find (may_sweep day J) (account_numbers day) ≡ o → is_some o ≡ true → ReadyWant day J (option_map wants.Sweep o)
    here None e s = cc
    here (Some a) e s = (wants.Sweep a, refl, refl, find_passes (may_sweep day J) (account_numbers day) a e)

ready_want : (day : Day) (J : History) → is_ready day J ≡ true → ReadyWant day J (first_ready day J)
unfolding is_ready first_ready
ready_want day J h = here (find (is_ready_message day J) (message_numbers day)) refl (find_any (is_ready_message day J) (message_numbers day))
  where
    here : (o : Option ℕ) → find (is_ready_message day J) (message_numbers day) ≡ o → is_some o ≡ list_any (is_ready_message day J) (message_numbers day) → ReadyWant day J (first_ready_of day J o)
    here None e s = ready_sweep day J (ap (λ b. b || list_any (may_sweep day J) (account_numbers day)) s ∙ h)
    here (Some n) e s = ready_item day J n (find_passes (is_ready_message day J) (message_numbers day) n e)

pub first_ready_has_a_line : (day : Day) (J : History) → FirstReadyHasALine day J
first_ready_has_a_line day J r e =
    let w = ready_want day J r in
    (w.0, w.1, w.2, ap is_some (line_of-made day J w.0 e w.3))
