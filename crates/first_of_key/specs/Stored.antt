-- How keys are stored.
use Rattle.std.specs.Prelude.{◌≤◌, ◌<◌, ◌^◌, map, vec_len, vec_capacity}
use Rattle.first_of_key.specs.declared.keys.FirstKeys.TheInside.{Inside}
use Rattle.first_of_key.specs.First.{Entered}
use Rattle.first_of_key.specs.Paths.{tree, IsSearchable}

abbrev pub entered_of : Inside → Entered
entered_of s = record { keys = map (λ n. n.key) s.nodes.items; most = s.most }

pub record IsStored (s : Inside) : Type 0 where
  pub fits : vec_len s.nodes ≤ s.most
  pub room : s.most ≤ vec_capacity s.nodes
  pub small : s.most < 2 ^ 32
  pub searchable : IsSearchable (tree s.heads.items s.nodes.items)
