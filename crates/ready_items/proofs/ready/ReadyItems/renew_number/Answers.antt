use Rattle.ready_items.proofs.NoteFacts.{no_item, some_item}
use Rattle.ready_items.proofs.Room.{same_room}
use Rattle.ready_items.proofs.ready.ReadyItems.renew_number.Goals as goal

pub returns-in-Some-clause-renews : goal.returns-in-Some-clause-renews
returns-in-Some-clause-renews c = λ K stands due low fits. c.renew_item.ensures.renews K stands low (some_item _ _ (c.in-Some.ensures c.args.setting.now.day K due low)) fits

pub returns-in-Some-clause-room : goal.returns-in-Some-clause-room
returns-in-Some-clause-room c = c.renew_item.ensures.room

pub returns-in-None-clause-renews : goal.returns-in-None-clause-renews
returns-in-None-clause-renews c = λ K stands due low fits. no_item _ (c.in-None.ensures c.args.setting.now.day K due low)

pub returns-in-None-clause-room : goal.returns-in-None-clause-room
returns-in-None-clause-room c = same_room _
