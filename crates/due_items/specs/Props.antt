-- That a set is kept has one proof at most, as a ghost field needs it.
use Rattle.std.proofs.Common.{◌≡◌, ℕ}
use Rattle.std.proofs.Props.{props}
use base.Stored.{Coded-set}
use Rattle.batch_records.specs.DayRecord.{Day}
use Rattle.commit_journal.specs.Line.{History}
use Rattle.number_set.specs.Members.{flags}
use Rattle.scan_laws.specs.Numbers.{item_count}
use Rattle.due_items.specs.contracts.items.DueItems as due_row
use Rattle.due_items.specs.Due.{due_at}
use Rattle.due_items.specs.Index.{index_of}
use Rattle.due_items.specs.Kept.{Due, KeepsDue}

Due-set : IsSet Due
Due-set = Coded-set due_row.the_row.coded

numbers : IsSet ℕ
numbers = Prim.hlevel props

-- what is kept of a day and its lines is one value, but for the items that are still to be asked for
abbrev kept_of : Day → History → Due → Due
kept_of day J due = record { index = index_of day due.index.row.room; set = flags (due_at day J) (item_count day); renewed = due.renewed; room = due.room }

pub KeepsDue-prop : (day : Day) (J : History) (due : Due) → IsProp (KeepsDue day J due)
KeepsDue-prop day J due a b = λ i. record {
  index = λ j. (one i j).index;
  exact = λ j. (one i j).set;
  room = numbers _ _ a.room b.room i;
  rest = numbers _ _ a.rest b.rest i;
}
  where
    whole : KeepsDue day J due → due ≡ kept_of day J due
    whole k = λ j. record { index = k.index j; set = k.exact j; renewed = due.renewed; room = due.room }

    one : whole a ≡ whole b
    one = Due-set due (kept_of day J due) (whole a) (whole b)
