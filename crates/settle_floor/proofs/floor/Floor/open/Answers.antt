use Rattle.std.proofs.Common.{◌∙◌, ◌≡◌, ◌≤◌, ap, arith, length, refl}
use Rattle.account_book.specs.Setup.{Setup}
use Rattle.commit_journal.specs.Kept.{Kept}
use Rattle.settle_floor.proofs.OpeningFacts.{opens}
use Rattle.settle_floor.proofs.RoomFacts.{lines_of_all, none_come}
use Rattle.settle_floor.proofs.floor.Floor.open.Goals as goal

pub arrive_all-requires : goal.arrive_all-requires
arrive_all-requires c =
    let count = c.account_count-accounts.ensures.count in
    let few : length c.args.setting.now.day.accounts ≤ c.account_count-accounts.result = omega (arith, count) in
    let same : c.system_count-systems.result ≡ length c.args.setting.now.day.systems = c.system_count-systems.ensures.count ∙ ap (λ (setup : Setup). length setup.systems) c.args.setting.now.filed in
    let few_systems : length c.args.setting.now.day.systems ≤ c.system_count-systems.result = omega (arith, same) in
    none_come c.args.setting.now.day c.messages_in_all-messages.result c.entries_in_all-entries.result c.in_ok-floor.floor c.messages_in_all-messages.ensures.count c.entries_in_all-entries.ensures.count
    (ap (λ (j : Kept). j.history) c.in_ok-floor.ensures.journal) (c.in_ok-floor.ensures.opened c.args.setting.now.day few few_systems)

pub stop_all-requires-clause-empty : goal.stop_all-requires-clause-empty
stop_all-requires-clause-empty c = ap (λ (j : Kept). j.history) (c.arrive_all.ensures.journal ∙ c.in_ok-floor.ensures.journal)

pub returns-clause-empty : goal.returns-clause-empty
returns-clause-empty c = ap (λ (j : Kept). j.history) (c.stop_all.ensures.journal ∙ c.arrive_all.ensures.journal ∙ c.in_ok-floor.ensures.journal)

pub returns-clause-room : goal.returns-clause-room
returns-clause-room c =
    lines_of_all c.args.setting.now.day c.messages_in_all-messages.result c.entries_in_all-entries.result c.account_count-accounts.result c.stop_all.new.self c.in_ok-floor.floor c.messages_in_all-messages.ensures.count c.entries_in_all-entries.ensures.count c.account_count-accounts.ensures.count
    (c.stop_all.ensures.journal ∙ c.arrive_all.ensures.journal) c.in_ok-floor.ensures.journal

pub returns-clause-at_work : goal.returns-clause-at_work
returns-clause-at_work c =
    opens c.args.setting.now.day c.args.setting.now.book.accounts _ c.stop_all.new.self (ap (λ (b : Setup). b.accounts) c.args.setting.now.filed) refl
    (ap (λ (j : Kept). j.history) (c.stop_all.ensures.journal ∙ c.arrive_all.ensures.journal ∙ c.in_ok-floor.ensures.journal)) c.stop_all.ensures.opened
