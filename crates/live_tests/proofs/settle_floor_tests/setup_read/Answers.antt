use Rattle.std.proofs.Common.{◌≡◌, ◌∙◌, ap}
use Rattle.batch_records.specs.DayRecord.{Day}
use Rattle.batch_records.specs.Days.{day_of_bytes}
use Rattle.live_tests.proofs.ComingFacts.{setup_day, setup_front, setup_sound, same_day}
use Rattle.live_tests.proofs.settle_floor_tests.setup_read.Goals as goal

pub setting_of-requires : goal.setting_of-requires
setting_of-requires g c =
    let whole = c.args.whole.now.day in
    let same : c.in-Ok.day ≡ whole = same_day (day_of_bytes c.args.input.now) whole c.in-Ok.day c.requires.0 _ c.requires.1 c.in-Ok.ensures.answer in
    setup_sound whole c.in_room.result c.room_for-room.result c.args.whole.now.sound (c.in_room.ensures ∙ setup_day whole c.in-Ok.day c.version-version.result c.date-date.result c.into_setup-accounts.result.0 c.into_setup-accounts.result.1 c.reserves_of-reserves.result c.room_for-room.result
    same c.version-version.ensures c.date-date.ensures c.into_setup-accounts.ensures.accounts c.into_setup-accounts.ensures.systems (c.reserves_of-reserves.ensures ∙ c.reserves.ensures))

pub returns-clause-front : goal.returns-clause-front
returns-clause-front g c =
    let whole = c.args.whole.now.day in
    let same : c.in-Ok.day ≡ whole = same_day (day_of_bytes c.args.input.now) whole c.in-Ok.day c.requires.0 _ c.requires.1 c.in-Ok.ensures.answer in
    setup_front whole c.setting_of.result.day c.room_for-room.result (c.setting_of.ensures ∙ c.in_room.ensures ∙ setup_day whole c.in-Ok.day c.version-version.result c.date-date.result c.into_setup-accounts.result.0 c.into_setup-accounts.result.1
    c.reserves_of-reserves.result c.room_for-room.result same c.version-version.ensures c.date-date.ensures c.into_setup-accounts.ensures.accounts c.into_setup-accounts.ensures.systems (c.reserves_of-reserves.ensures ∙ c.reserves.ensures))
    c.room_for-room.ensures

pub returns-clause-messages : goal.returns-clause-messages
returns-clause-messages g c = ap (λ (d : Day). d.messages) (c.setting_of.ensures ∙ c.in_room.ensures)

pub returns-clause-stops : goal.returns-clause-stops
returns-clause-stops g c = ap (λ (d : Day). d.stops) (c.setting_of.ensures ∙ c.in_room.ensures)
