use Rattle.std.proofs.Common.{◌∙◌, [], ap, arith, subst, sym}
use Rattle.rule_book.specs.Owed.{Debts}
use Rattle.rule_book.specs.Parties.{PartyRoom}
use Rattle.rule_book.specs.Room.{FoundHasRoom, SettingRoom, TablesHaveRoom}
use Rattle.rule_book.proofs.ComingFacts.{found_nothing}
use Rattle.rule_book.proofs.setting.Setting.in_room.Goals as goal

pub in_room-tables-requires-clause-nothing : goal.in_room-tables-requires-clause-nothing
in_room-tables-requires-clause-nothing c =
    let is = c.room.invariant.debts_room in
    is ∙ (λ i. record { keys = []; sums = []; most = sym (ap (λ (d : Debts). d.most) is) i })

pub in_room-tables-requires-clause-fits : goal.in_room-tables-requires-clause-fits
in_room-tables-requires-clause-fits c =
    let own = ap (λ (r : PartyRoom). r.accounts) c.room.invariant.parties_room in
    let most = ap (λ (r : SettingRoom). r.accounts) c.room.view_is in
    omega (arith, own, most, c.requires.accounts)

pub invariant_of-result : goal.invariant_of-result
invariant_of-result c = record {
  sound = c.requires.sound;
  filed = c.requires.filed;
  entered = c.requires.entered;
  found_out = found_nothing c.args.day c.room.inside.found c.requires.none c.room.invariant.nothing;
  tabled = c.in_room-tables.ensures.tabled;
}

pub returns-clause-room : goal.returns-clause-room
returns-clause-room c =
    let messages = ap (λ (r : SettingRoom). r.messages) c.room.view_is in
    let entries = ap (λ (r : SettingRoom). r.entries) c.room.view_is in
    record {
      day_room = c.requires.room;
      found_room = subst (λ n. FoundHasRoom n c.args.room.entries c.room.inside.found) messages (subst (λ n. FoundHasRoom c.room.inside.messages n c.room.inside.found) entries c.room.invariant.found_room);
      tables_room = subst (λ n. TablesHaveRoom n c.in_room-tables.result) entries (c.in_room-tables.ensures.room c.room.inside.entries (ap (λ (d : Debts). d.most) c.room.invariant.debts_room) (ap (λ (r : PartyRoom). r.most) c.room.invariant.parties_room));
    }
