use Rattle.rule_book.proofs.arriving.SettingRoom.take.Goals as goal

pub invariant_of-result : goal.invariant_of-result
invariant_of-result c = record {
  nothing = c.in_ok-found.ensures.none;
  found_room = c.in_ok-found.ensures.room;
  debts_room = c.in_ok-debts.ensures;
  parties_room = c.in_ok-parties.ensures;
}
