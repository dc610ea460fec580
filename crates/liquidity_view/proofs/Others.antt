-- Of a name that owns no dedicated cash account all figures are 0.
use Rattle.std.proofs.Common.{◌≡◌, ◌∙◌, ℕ, ◌+◌, Bool, true, false, List, [], ◌∷◌, Option, None, Some, pos, ◌+ℤ◌, ◌-ℤ◌, refl, ap, if◌then◌else◌}
use Rattle.std.specs.Prelude.{filter, sum_by}
use Rattle.std.specs.Option.{option_map_or}
use Rattle.batch_records.specs.DayRecord.{Day}
use Rattle.batch_records.specs.declared.day.Entry.{Entry}
use Rattle.commit_journal.specs.declared.line.Move.{Move}
use Rattle.commit_journal.specs.Line.{History}
use Rattle.machine.specs.Records.Setup.{account_numbers}
use Rattle.machine.specs.Telling.Balances.{balance}
use Rattle.machine.specs.Records.Messages.{Sort, BatchB, entries, item_numbers, message_numbers, move_of, part, sort_of}
use Rattle.machine.specs.Stages.Pending.{is_pending, item}
use Rattle.settlement_laws.proofs.Base.Numbers.{sum_nothing, sum_same}
use Rattle.liquidity_view.specs.declared.sides.Side.{Side}
use Rattle.liquidity_view.specs.declared.sides.Side.TheVariants as sides
use Rattle.liquidity_view.specs.Figures.{account_on, entry_share, figures, is_entry_on, is_own, item_share, item_share_as, position, queued, queued_item, queued_of, settled, share}
use Rattle.liquidity_view.specs.Laws.{no_figures, OwnsNone}

all_nothing : {X : Type 0} (f : X → ℕ) → ((x : X) → f x ≡ 0) → (xs : List X) → sum_by f xs ≡ 0
all_nothing f h xs = sum_same f (λ x. 0) h xs ∙ sum_nothing xs

if_nothing : (b : Bool) (x : ℕ) → x ≡ 0 → (if b then x else 0) ≡ 0
if_nothing true x e = e
if_nothing false x e = refl

module _ (day : Day) (name : List ℕ) (none : OwnsNone day name) where
  no_share : (side : Side) (m : Move) → share side day name m ≡ 0
  no_share side m = ap (λ b. if b then m.amount else 0) (none (account_on side m))

  none_settled : (side : Side) (J : History) → settled side day name J ≡ 0
  unfolding settled
  none_settled side [] = refl
  none_settled side (l ∷ J) = λ i. none_settled side J i + all_nothing (share side day name) (no_share side) l.moves i

  no_item : (s : Sort) (side : Side) (n k : ℕ) → item_share_as s side day name n k ≡ 0
  no_item BatchB side n k = all_nothing (entry_share side day name) (λ e. no_share side (move_of day e)) (filter (is_entry_on side day n) (entries day n))
  no_item _ side n k = here (part day n k)
    where
      here : (o : Option Entry) → option_map_or (entry_share side day name) o 0 ≡ 0
      here None = refl
      here (Some e) = no_share side (move_of day e)

  none_of : (side : Side) (J : History) (n : ℕ) → queued_of side day name J n ≡ 0
  unfolding queued_of
  none_of side J n = all_nothing (queued_item side day name J n) (λ k. if_nothing (is_pending day J (item n k)) (item_share side day name n k) (no_item (sort_of day n) side n k)) (item_numbers day n)

  none_queued : (side : Side) (J : History) → queued side day name J ≡ 0
  none_queued side J = all_nothing (queued_of side day name J) (none_of side J) (message_numbers day)

  no_position : (J : History) → position day name J ≡ 0
  no_position J = all_nothing (λ a. if is_own day name a then balance day J a else 0) (λ a. ap (λ b. if b then balance day J a else 0) (none a)) (account_numbers day)

pub others_have_none : (day : Day) (name : List ℕ) (J : History) → OwnsNone day name → figures day name J ≡ no_figures
others_have_none day name J none = λ i. record {
  out = pos (none_settled day name none sides.Out J i);
  into = pos (none_settled day name none sides.In J i);
  queued_out = pos (none_queued day name none sides.Out J i);
  queued_in = pos (none_queued day name none sides.In J i);
  position = pos (no_position day name none J i);
  projected = (pos (no_position day name none J i) -ℤ pos (none_queued day name none sides.Out J i)) +ℤ pos (none_queued day name none sides.In J i);
}
