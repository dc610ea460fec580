use Rattle.std.proofs.Common.{◌≡◌, ◌∙◌, ap, sym}
use Rattle.batch_records.specs.DayRecord.{Day}
use Rattle.rule_book.specs.Settings.{IsFound, kept_of, setup_of}
use Rattle.rule_book.specs.Tables.{AreTables}
use Rattle.rule_book.proofs.ComingFacts.{found_with_stop, tables_with_stop}
use Rattle.live_day.proofs.SettingGrows.{found_takes, room_taken, room_unless_taken, sound_then, tables_take, taken_one, unless_taken}
use Rattle.live_day.proofs.hearing.hear_into.Goals as goal

-- ---- no message is taken

pub invariant_of-setting-clause-sound : goal.invariant_of-setting-clause-sound
invariant_of-setting-clause-sound c =
    let k = c.requires.comes in
    sound_then k.before k.fields c.hear-said.result c.hear-said.new.self c.args.setting.now.day c.hear-said.new.day c.args.setting.now.sound (c.hear-said.ensures.told k.before k.fields k.is k.heard) c.hear-said.ensures.day

pub invariant_of-setting-clause-filed : goal.invariant_of-setting-clause-filed
invariant_of-setting-clause-filed c =
    unless_taken (λ (d : Day). c.args.setting.now.book ≡ setup_of d) c.hear-said.result c.args.setting.now.day c.hear-said.new.day (λ t. c.args.setting.now.filed) c.args.setting.now.filed (sym c.takes.ensures ∙ c.if-not-takes.true) c.hear-said.ensures.day

pub invariant_of-setting-clause-entered : goal.invariant_of-setting-clause-entered
invariant_of-setting-clause-entered c =
    unless_taken (λ (d : Day). c.args.setting.now.kept ≡ kept_of d) c.hear-said.result c.args.setting.now.day c.hear-said.new.day (λ t. c.args.setting.now.entered) c.args.setting.now.entered (sym c.takes.ensures ∙ c.if-not-takes.true) c.hear-said.ensures.day

pub invariant_of-setting-clause-found_out : goal.invariant_of-setting-clause-found_out
invariant_of-setting-clause-found_out c =
    unless_taken (λ (d : Day). IsFound d c.args.setting.now.found) c.hear-said.result c.args.setting.now.day c.hear-said.new.day (λ t. found_with_stop c.args.setting.now.day t c.args.setting.now.found c.args.setting.now.found_out) c.args.setting.now.found_out
    (sym c.takes.ensures ∙ c.if-not-takes.true) c.hear-said.ensures.day

pub invariant_of-setting-clause-tabled : goal.invariant_of-setting-clause-tabled
invariant_of-setting-clause-tabled c =
    unless_taken (λ (d : Day). AreTables d c.args.setting.now.tables) c.hear-said.result c.args.setting.now.day c.hear-said.new.day (λ t. tables_with_stop c.args.setting.now.day t c.args.setting.now.tables c.args.setting.now.tabled) c.args.setting.now.tabled
    (sym c.takes.ensures ∙ c.if-not-takes.true) c.hear-said.ensures.day

pub returns-then-not-takes-clause-room : goal.returns-then-not-takes-clause-room
returns-then-not-takes-clause-room c =
    room_unless_taken c.hear-said.result c.args.setting.now.day c.hear-said.new.day c.args.setting.now.found c.args.setting.now.tables (sym c.takes.ensures ∙ c.if-not-takes.true) c.hear-said.ensures.day c.requires.room

-- ---- one is taken

pub take_last-requires-clause-sound : goal.take_last-requires-clause-sound
take_last-requires-clause-sound c =
    let k = c.requires.comes in
    sound_then k.before k.fields c.hear-said.result c.hear-said.new.self c.args.setting.now.day c.hear-said.new.day c.args.setting.now.sound (c.hear-said.ensures.told k.before k.fields k.is k.heard) c.hear-said.ensures.day

pub take_last-requires-clause-filed : goal.take_last-requires-clause-filed
take_last-requires-clause-filed c =
    let m = taken_one c.hear-said.result c.args.setting.now.day c.hear-said.new.day (sym c.takes.ensures ∙ c.if-not-takes.false) c.hear-said.ensures.day in
    c.args.setting.now.filed ∙ sym (ap setup_of m.1)

pub take_last-requires-clause-next : goal.take_last-requires-clause-next
take_last-requires-clause-next c =
    let m = taken_one c.hear-said.result c.args.setting.now.day c.hear-said.new.day (sym c.takes.ensures ∙ c.if-not-takes.false) c.hear-said.ensures.day in
    record { before = c.args.setting.now.day; last = m.0; longer = m.1; found_out = c.args.setting.now.found_out; tabled = c.args.setting.now.tabled }

pub take_last-requires-clause-found_room : goal.take_last-requires-clause-found_room
take_last-requires-clause-found_room c =
    let m = taken_one c.hear-said.result c.args.setting.now.day c.hear-said.new.day (sym c.takes.ensures ∙ c.if-not-takes.false) c.hear-said.ensures.day in
    found_takes c.hear-said.new.self c.args.setting.now.day c.hear-said.new.day m.0 m.1 c.hear-said.ensures.fits c.args.setting.now.found c.args.setting.now.tables c.requires.room

pub take_last-requires-clause-tables_room : goal.take_last-requires-clause-tables_room
take_last-requires-clause-tables_room c =
    let m = taken_one c.hear-said.result c.args.setting.now.day c.hear-said.new.day (sym c.takes.ensures ∙ c.if-not-takes.false) c.hear-said.ensures.day in
    tables_take c.hear-said.new.self c.args.setting.now.day c.hear-said.new.day m.0 m.1 c.hear-said.ensures.fits c.args.setting.now.found c.args.setting.now.tables c.requires.room

pub invariant_of-setting-2-clause-sound : goal.invariant_of-setting-2-clause-sound
invariant_of-setting-2-clause-sound c =
    let k = c.requires.comes in
    sound_then k.before k.fields c.hear-said.result c.hear-said.new.self c.args.setting.now.day c.hear-said.new.day c.args.setting.now.sound (c.hear-said.ensures.told k.before k.fields k.is k.heard) c.hear-said.ensures.day

pub invariant_of-setting-2-clause-filed : goal.invariant_of-setting-2-clause-filed
invariant_of-setting-2-clause-filed c =
    let m = taken_one c.hear-said.result c.args.setting.now.day c.hear-said.new.day (sym c.takes.ensures ∙ c.if-not-takes.false) c.hear-said.ensures.day in
    c.args.setting.now.filed ∙ sym (ap setup_of m.1)

pub invariant_of-setting-2-clause-entered : goal.invariant_of-setting-2-clause-entered
invariant_of-setting-2-clause-entered c =
    let m = taken_one c.hear-said.result c.args.setting.now.day c.hear-said.new.day (sym c.takes.ensures ∙ c.if-not-takes.false) c.hear-said.ensures.day in
    c.args.setting.now.entered ∙ sym (ap kept_of m.1)

pub returns-clause-room : goal.returns-clause-room
returns-clause-room c =
    let m = taken_one c.hear-said.result c.args.setting.now.day c.hear-said.new.day (sym c.takes.ensures ∙ c.if-not-takes.false) c.hear-said.ensures.day in
    room_taken c.hear-said.new.self c.args.setting.now.day c.hear-said.new.day m.0 m.1 c.hear-said.ensures.fits c.args.setting.now.found c.take_last.new.found c.args.setting.now.tables c.take_last.new.tables c.requires.room
    c.take_last.ensures.found_room c.take_last.ensures.tables_room
