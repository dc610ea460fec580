use Rattle.std.proofs.Common.{◌∙◌, ap, sym}
use Rattle.journal_reading.specs.Reading.{lines_in}
use Rattle.day_reasons.specs.Ends.{is_whole}
use Rattle.day_reasons.proofs.Along.{counted, whole_ends}
use Rattle.day_reasons.proofs.top.answer_rest.Goals as goal

pub tell_in_room-requires-clause-count : goal.tell_in_room-requires-clause-count
tell_in_room-requires-clause-count g c = c.front_of-count.ensures.lines ∙ ap lines_in c.in-Ok.ensures.verdict ∙ counted c.args.setting.now.day c.args.text.now

pub tell_in_room-requires-clause-whole : goal.tell_in_room-requires-clause-whole
tell_in_room-requires-clause-whole g c = λ h. whole_ends c.args.setting.now.day c.args.text.now (sym (ap is_whole c.in-Ok.ensures.verdict) ∙ sym c.front_of-count.ensures.whole ∙ h)
