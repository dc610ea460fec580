-- What is held on accounts, and what a transfer changes.
use Rattle.std.specs.Prelude.{ℕ, ◌+◌, ◌-◌, ◌==◌, Option, if◌then◌else◌}
use Rattle.std.specs.Option.{option_map}

-- what is held on an account, once an amount has gone from the debit account to the credit account
abbrev pub transferred : (ℕ → Option ℕ) → ℕ → ℕ → ℕ → ℕ → Option ℕ
transferred holdings debit credit amount a =
    if a == debit then option_map (λ held. held - amount) (holdings a)
    else (if a == credit then option_map (λ held. held + amount) (holdings a) else holdings a)
