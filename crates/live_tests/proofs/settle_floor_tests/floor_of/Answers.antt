use Rattle.std.proofs.Common.{◌≡◌, ◌∙◌, ◌+◌, ◌≤◌, ℕ, length, ap, arith, refl}
use Rattle.std.specs.Prelude.{min}
use Rattle.account_book.specs.Setup.{Setup}
use Rattle.cash_amounts.specs.declared.limits.TheConstants.{MAX_ENTRIES_OF_DAY, MAX_MESSAGES}
use Rattle.commit_journal.specs.Kept.{Kept}
use Rattle.live_tests.proofs.ComingFacts.{made_none}
use Rattle.live_tests.proofs.settle_floor_tests.floor_of.Goals as goal

pub returns : goal.returns
returns g c =
    let day = c.args.setting.now.day in
    let count = c.account_count-accounts.ensures.count in
    let few : length day.accounts ≤ c.account_count-accounts.result + 3 = omega (arith, count) in
    let same : c.system_count-systems.result ≡ length day.systems = c.system_count-systems.ensures.count ∙ ap (λ (s : Setup). length s.systems) c.args.setting.now.filed in
    let few_systems : length day.systems ≤ c.system_count-systems.result + 2 = omega (arith, same) in
    made_none day c.min-messages.result c.min-entries.result c.in-Ok.floor c.args.setting.now.book.accounts _ c.requires.messages c.requires.stops
    (c.min-messages.ensures ∙ ap (λ (n : ℕ). min n MAX_MESSAGES) c.most_messages.ensures) (c.min-entries.ensures ∙ ap (λ (n : ℕ). min n MAX_ENTRIES_OF_DAY) c.most_entries.ensures)
    (ap (λ (j : Kept). j.history) c.in-Ok.ensures.journal) (c.in-Ok.ensures.opened day few few_systems) (ap (λ (s : Setup). s.accounts) c.args.setting.now.filed) refl
