-- That what is kept is that of a history has one proof at most.
use Rattle.std.proofs.Common.{◌≡◌, ◌≤◌, ℕ, Bool, List, Option, true}
use Rattle.std.proofs.Props.{props}
use base.Stored.{Coded-set}
use mathlib.Core.HLevel.{×_prop}
use Rattle.batch_records.specs.DayRecord.{Day}
use Rattle.commit_journal.specs.Line.{History}
use Rattle.payment_queue.specs.contracts.row.Row as row_row
use Rattle.payment_queue.specs.declared.row.Row.{Row}
use Rattle.pending_items.specs.Numbers.{is_item}
use Rattle.pending_items.specs.Parts.{row_of}
use Rattle.pending_items.specs.Items.{Fits, IsSound, KeepsRows, Lists}
use Rattle.pending_items.specs.Kept.{KeepsPending, KeptItems}
use Rattle.pending_items.specs.Ends.{AreEnds}
use Rattle.pending_items.specs.Cycles.{AreBatches, Batches}

rows : IsSet Row
rows = Coded-set row_row.the_row.coded

numbers : IsSet ℕ
numbers = Prim.hlevel props

flags : IsSet Bool
flags = Prim.hlevel props

less : (a b : ℕ) → IsProp (a ≤ b)
less a b = Prim.hlevel props

lists : IsSet (List ℕ)
lists = Prim.hlevel props

options : IsSet (Option ℕ)
options = Prim.hlevel props

IsSound-prop : (v : Lists) → IsProp (IsSound v)
IsSound-prop v a b = λ i. record {
  forth = λ k s e. options _ _ (a.forth k s e) (b.forth k s e) i;
  back = λ s r e. options _ _ (a.back s r e) (b.back s r e) i;
  count = numbers _ _ a.count b.count i;
  room = numbers _ _ a.room b.room i;
  accounts = numbers _ _ a.accounts b.accounts i;
  there = λ s r e. flags _ _ (a.there s r e) (b.there s r e) i;
}

row-prop : (day : Day) (J : History) (r : Row) → IsProp ((is_item day r.item ≡ true) × (r ≡ row_of day J r.item))
row-prop day J r = ×_prop (flags _ _) (rows _ _)

Fits-prop : (day : Day) (J : History) (v : Lists) → IsProp (Fits day J v)
Fits-prop day J v a b = λ i. record {
  sound = IsSound-prop v a.sound b.sound i;
  starts = lists _ _ a.starts b.starts i;
  items = numbers _ _ a.items b.items i;
  accounts = less _ _ a.accounts b.accounts i;
  rows = λ s r e. row-prop day J r (a.rows s r e) (b.rows s r e) i;
}

KeepsRows-prop : (day : Day) (J : History) (v : Lists) → IsProp (KeepsRows day J v)
KeepsRows-prop day J v a b = λ i. record {
  fits = Fits-prop day J v a.fits b.fits i;
  right = λ x e. flags _ _ (a.right x e) (b.right x e) i;
}

AreEnds-prop : (day : Day) (J : History) (ends : List (Option ℕ)) → IsProp (AreEnds day J ends)
AreEnds-prop day J ends a b = λ i. record {
  size = numbers _ _ a.size b.size i;
  each = λ n end low e less. flags _ _ (a.each n end low e less) (b.each n end low e less) i;
}

AreBatches-prop : (day : Day) (J : History) (batches : Batches) → IsProp (AreBatches day J batches)
AreBatches-prop day J batches a b = λ i. record {
  all = less _ _ a.all b.all i;
  room = less _ _ a.room b.room i;
  few = less _ _ a.few b.few i;
  each = λ n low c accepted lasts. flags _ _ (a.each n low c accepted lasts) (b.each n low c accepted lasts) i;
}

pub KeepsPending-prop : (day : Day) (J : History) (v : KeptItems) → IsProp (KeepsPending day J v)
KeepsPending-prop day J v a b = λ i. record {
  rows = KeepsRows-prop day J v.rows a.rows b.rows i;
  ends = AreEnds-prop day J v.ends a.ends b.ends i;
  batches = AreBatches-prop day J v.batches a.batches b.batches i;
}
