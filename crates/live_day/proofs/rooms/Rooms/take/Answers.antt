use Rattle.std.proofs.Common.{ap}
use Rattle.account_book.specs.Rooms.{Room}
use Rattle.live_records.specs.OpenRecord.{OpenBatch}
use Rattle.rule_book.specs.Room.{SettingRoom}
use Rattle.live_day.proofs.RoomsTaken.{holds_all}
use Rattle.live_day.proofs.rooms.Rooms.take.Goals as goal

pub returns-in-Ok-small_rooms : goal.returns-in-Ok-small_rooms
returns-in-Ok-small_rooms c =
    let small = c.in-Ok-small_rooms.ensures in
    let first = c.in-Ok.ensures in
    record {
      shut = ap (λ (b : OpenBatch). b.batch) small.coming;
      most = holds_all _ _ (ap (λ (b : OpenBatch). b.most) small.coming);
      day = small.day;
      book_accounts = holds_all _ _ (ap (λ (r : Room). r.accounts) small.book);
      book_systems = holds_all _ _ (ap (λ (r : Room). r.systems) small.book);
      kept = holds_all _ _ small.kept;
      till = holds_all _ _ small.till;
      accounts = holds_all _ _ (ap (λ (r : SettingRoom). r.accounts) small.setting);
      messages = ap (λ (r : SettingRoom). r.messages) small.setting;
      entries = ap (λ (r : SettingRoom). r.entries) small.setting;
      empty = first.empty;
      opened = first.opened;
      stands = first.stands;
      told = first.told;
    }
