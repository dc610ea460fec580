use Rattle.std.proofs.Common.{refl}
use Rattle.live_day.proofs.HeaderFacts.{begin_none, begin_short, records_word}
use Rattle.live_day.proofs.beginning.beginning_of.Goals as goal

pub returns-in-Short : goal.returns-in-Short
returns-in-Short c = begin_short c.args.input.now (c.in-Short.ensures records_word refl)

pub returns-in-NoHeader : goal.returns-in-NoHeader
returns-in-NoHeader c = begin_none c.args.input.now (c.in-NoHeader.ensures records_word refl)
