use Rattle.std.proofs.Common.{◌∙◌, ap, refl, sym}
use Rattle.rule_book.specs.Settings.{kept_of, setup_of}
use Rattle.live_records.specs.Heard.{taken}
use Rattle.live_day.proofs.HeardFacts.{sound_heard}
use Rattle.live_day.proofs.SettingGrows.{found_takes, room_taken, tables_take}
use Rattle.live_day.proofs.hearing.end_into.Goals as goal

pub take_last-requires-clause-sound : goal.take_last-requires-clause-sound
take_last-requires-clause-sound c =
    let k = c.requires.comes in
    sound_heard (taken k.before) c.end_batch.new.self c.end_batch.new.day (c.if-not-end_batch.ensures.ended k.before k.fields k.is k.heard refl).0

pub take_last-requires-clause-found_room : goal.take_last-requires-clause-found_room
take_last-requires-clause-found_room c =
    let m = c.if-not-end_batch.ensures.day refl in
    found_takes c.end_batch.new.self c.args.setting.now.day c.end_batch.new.day m.0 m.1 c.end_batch.ensures.fits c.args.setting.now.found c.args.setting.now.tables c.requires.room

pub take_last-requires-clause-tables_room : goal.take_last-requires-clause-tables_room
take_last-requires-clause-tables_room c =
    let m = c.if-not-end_batch.ensures.day refl in
    tables_take c.end_batch.new.self c.args.setting.now.day c.end_batch.new.day m.0 m.1 c.end_batch.ensures.fits c.args.setting.now.found c.args.setting.now.tables c.requires.room

pub invariant_of-setting-2-clause-sound : goal.invariant_of-setting-2-clause-sound
invariant_of-setting-2-clause-sound c = let k = c.requires.comes in sound_heard (taken k.before) c.end_batch.new.self c.end_batch.new.day (c.if-not-end_batch.ensures.ended k.before k.fields k.is k.heard refl).0

pub invariant_of-setting-2-clause-filed : goal.invariant_of-setting-2-clause-filed
invariant_of-setting-2-clause-filed c = c.args.setting.now.filed ∙ sym (ap setup_of (c.if-not-end_batch.ensures.day refl).1)

pub invariant_of-setting-2-clause-entered : goal.invariant_of-setting-2-clause-entered
invariant_of-setting-2-clause-entered c = c.args.setting.now.entered ∙ sym (ap kept_of (c.if-not-end_batch.ensures.day refl).1)

pub returns-clause-room : goal.returns-clause-room
returns-clause-room c =
    let m = c.if-not-end_batch.ensures.day refl in
    room_taken c.end_batch.new.self c.args.setting.now.day c.end_batch.new.day m.0 m.1 c.end_batch.ensures.fits c.args.setting.now.found c.take_last.new.found c.args.setting.now.tables c.take_last.new.tables c.requires.room
    c.take_last.ensures.found_room c.take_last.ensures.tables_room
