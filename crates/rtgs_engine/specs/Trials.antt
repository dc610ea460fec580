-- The limits of the words of a trial.
use Rattle.std.specs.Prelude.{ℕ, ◌<◌, ◌≤◌, ◌^◌}
use Rattle.rtgs_engine.specs.declared.words.Trial.{Trial}

pub record IsInRange (trial : Trial) : Type 0 where
  pub seed : trial.seed < 2 ^ 31
  pub least : 1 ≤ trial.batches
  pub most : trial.batches ≤ 10000
  pub few : trial.workers ≤ 8
