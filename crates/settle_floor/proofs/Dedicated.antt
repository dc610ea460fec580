-- Sub-accounts and the systems to which they are dedicated.
use Rattle.std.proofs.Common.{◌≡◌, ℕ, zero, suc, ◌<◌, ◌≤◌, true, List, [], ◌∷◌, length, Option, Some, None, refl, arith}
use Rattle.std.specs.Prelude.{slice_get}
use Rattle.cash_amounts.specs.declared.records.AccountRecord.{AccountRecord}
use Rattle.cash_amounts.specs.Kinds.{is_sub}
use Rattle.cash_amounts.specs.Numbers.{numbered}
use Rattle.cash_amounts.specs.Tests.{some_passes}
use Rattle.account_book.specs.Directory.{linked_system}
use Rattle.batch_records.specs.DayRecord.{Day}
use Rattle.machine.specs.Records.Setup.{is_sub_account, linked}

within : (rs : List AccountRecord) (i : ℕ) → some_passes (λ (r : AccountRecord). is_sub r.kind) (slice_get rs i) ≡ true → suc i ≤ length rs
within [] i h = absurd (cc)
within (r ∷ rs) zero h = omega arith
within (r ∷ rs) (suc i) h = let e = within rs i h in omega (arith, e)

-- a sub-account is one of the day's accounts
pub sub_within : (day : Day) (a : ℕ) → is_sub_account day a ≡ true → (0 < a) × (a ≤ length day.accounts)
sub_within day zero h = absurd (cc)
sub_within day (suc i) h = (omega arith, within day.accounts i h)

-- the book's link is the day's
pub same_link : (day : Day) (a : ℕ) → linked_system day.accounts a ≡ linked day a
same_link day a = here (numbered day.accounts a) refl
  where
    here : (o : Option AccountRecord) → numbered day.accounts a ≡ o → linked_system day.accounts a ≡ linked day a
    here None e = rw e refl
    here (Some r) e = rw e refl
