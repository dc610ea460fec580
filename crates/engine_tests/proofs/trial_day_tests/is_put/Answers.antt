use Rattle.std.proofs.Common.{◌≡◌, ◌+◌, ◌-◌, ℕ, ◌≤◌, ◌<◌, [], Some, ap, arith, sym, ◌∙◌}
use Rattle.batch_records.specs.DayRecord.{Day}
use Rattle.commit_journal.specs.Line.{History}
use Rattle.machine.specs.Telling.Balances.{balance, credited, debited}
use Rattle.machine.specs.Records.Setup.{opening}
use Rattle.trial_day.specs.Trial.{generated}
use Rattle.trial_day.proofs.TrialMessages.{accounts_are, systems_are}
use Rattle.trial_day.proofs.TrialAmple.{dca_opens}
use Rattle.engine_tests.proofs.trial_day_tests.is_put.Goals as goal

first : (day : Day) (J : History) → day ≡ generated 1 3 → J ≡ [] → (a : ℕ) → 1 ≤ a → a ≤ 16 → balance day J a ≡ 100000000000
unfolding credited debited
first day J is none a low high =
    (λ i. balance (is i) (none i) a)
    ∙ (let o : opening (generated 1 3) a ≡ 100000000000 = dca_opens (generated 1 3) (accounts_are 1 3) (systems_are 1 3) a low (omega (arith, high)) in let z : opening (generated 1 3) a + 0 - 0 ≡ 100000000000 = omega (arith, o) in z)

pub put_summary-requires : goal.put_summary-requires
put_summary-requires c = record { held = λ a low high. ap Some (sym (first c.args.setting.now.day c.args.journal.now.history c.requires.day c.requires.no_lines a low high)) }
