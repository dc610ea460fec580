use Rattle.std.proofs.Common.{◌≡◌, ◌∙◌, ◌≤◌, List, length, sym, ap, subst, arith}
use Rattle.cash_amounts.specs.declared.records.AccountRecord.{AccountRecord}
use Rattle.account_book.specs.Setup.{Setup}
use Rattle.batch_records.specs.DayRecord.{Day}
use Rattle.live_records.specs.Ears.{Fits, IsHeard}
use Rattle.live_records.specs.Heard.{heard}
use Rattle.live_day.proofs.StageFacts.{IsNew, left_room, new_day, new_told}
use Rattle.live_day.proofs.stage.open_day.Goals as goal

pub setting_in-setting-requires-clause-accounts : goal.setting_in-setting-requires-clause-accounts
setting_in-setting-requires-clause-accounts c =
    let few = (new_day c.args.setup.so_far c.open-ear.result.1 c.args.rooms.day c.requires.setup c.requires.started c.requires.rooms.day c.open-ear.ensures.day).within.accounts in
    omega (arith, few, c.requires.rooms.book_accounts)

pub setting_in-setting-requires-clause-systems : goal.setting_in-setting-requires-clause-systems
setting_in-setting-requires-clause-systems c =
    let few = (new_day c.args.setup.so_far c.open-ear.result.1 c.args.rooms.day c.requires.setup c.requires.started c.requires.rooms.day c.open-ear.ensures.day).within.systems in
    omega (arith, few, c.requires.rooms.book_systems)

pub setting_in-setting-requires-clause-kept : goal.setting_in-setting-requires-clause-kept
setting_in-setting-requires-clause-kept c =
    let few = (new_day c.args.setup.so_far c.open-ear.result.1 c.args.rooms.day c.requires.setup c.requires.started c.requires.rooms.day c.open-ear.ensures.day).within.accounts in
    omega (arith, few, c.requires.rooms.kept)

pub setting_in-setting-requires-clause-held : goal.setting_in-setting-requires-clause-held
setting_in-setting-requires-clause-held c =
    let few = (new_day c.args.setup.so_far c.open-ear.result.1 c.args.rooms.day c.requires.setup c.requires.started c.requires.rooms.day c.open-ear.ensures.day).within.accounts in
    omega (arith, few, c.requires.rooms.accounts)

pub in_room-till-requires : goal.in_room-till-requires
in_room-till-requires c =
    let few = (new_day c.args.setup.so_far c.open-ear.result.1 c.args.rooms.day c.requires.setup c.requires.started c.requires.rooms.day c.open-ear.ensures.day).within.accounts in
    let same : c.setting_in-setting.result.book.accounts ≡ c.open-ear.result.1.accounts =
    ap (λ (b : Setup). b.accounts) c.setting_in-setting.result.filed ∙ ap (λ (d : Day). d.accounts) c.setting_in-setting.ensures.day in
    let long = ap (length {A = AccountRecord}) same in
    omega (arith, few, long, c.requires.rooms.till)

pub returns : goal.returns
returns c = λ records early.
    let ear = c.open-ear.result.0 in
    let setting = c.setting_in-setting.result in
    let is = c.setting_in-setting.ensures.day in
    let new : IsNew setting.day = new_day c.args.setup.so_far setting.day c.args.rooms.day c.requires.setup c.requires.started c.requires.rooms.day (is ∙ c.open-ear.ensures.day) in
    record {
      heard = subst (λ (d : Day). IsHeard (heard records) ear d) (sym is) (c.open-ear.ensures.heard (heard records) early);
      fits = subst (λ (d : Day). Fits ear d) (sym is) c.open-ear.ensures.fits;
      room = left_room setting.day setting.found setting.tables new c.setting_in-setting.ensures.room;
      told = new_told setting.day c.args.rooms setting.book.accounts c.in_room-till.result new c.requires.rooms (ap (λ (b : Setup). b.accounts) setting.filed) c.in_room-till.ensures;
    }
