-- How lists are stored.
use Rattle.std.specs.Prelude.{ℕ, ◌+◌, ◌^◌, ◌<◌, ◌≤◌, length, slice_index, vec_len, vec_capacity}
use Rattle.amount_forest.specs.declared.forest.AmountForest.TheInside.{Inside}
use Rattle.amount_forest.specs.declared.node.TheConstants.{NONE}
use Rattle.amount_forest.specs.Lists.{Amounts, lists_of, all_of}
use Rattle.amount_forest.specs.Nodes.{IsPool, IsLast}

abbrev pub seen : Inside → Amounts
seen s = record { lists = lists_of s.entries.items (length s.lasts.items); numbers = all_of (λ e. e.number) s.entries.items (length s.lasts.items); spare = s.spare }

pub record IsForest (s : Inside) : Type 0 where
  pub pool : IsPool s.entries.items s.links.items s.leasts.items
  pub lasts : (list : ℕ) → list < length s.lasts.items → IsLast s.entries.items s.links.items list (slice_index s.lasts.items list)
  pub entries : vec_len s.entries + s.spare ≤ vec_capacity s.entries
  pub links : vec_len s.links + s.spare ≤ vec_capacity s.links
  pub leasts : vec_len s.leasts + s.spare ≤ vec_capacity s.leasts
  pub small : vec_len s.entries + s.spare ≤ NONE
  pub few : length s.lasts.items < 2 ^ 32
