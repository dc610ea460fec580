-- How many bytes an input may have.
use Rattle.std.specs.Prelude.{ℕ}

-- a day with what follows it: 128 MiB
abbrev pub longest_input : ℕ
longest_input = 134217728

-- days, or a day and what was made of it, one after another: 512 MiB
abbrev pub longest_long_input : ℕ
longest_long_input = 536870912
