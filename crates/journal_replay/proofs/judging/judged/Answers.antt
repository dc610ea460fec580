use Rattle.std.proofs.Common.{◌∙◌}
use Rattle.journal_replay.proofs.VerdictLaws.{found_is}
use Rattle.journal_replay.proofs.judging.judged.Goals as goal

pub returns : goal.returns
returns c =
    c.verdict_on.ensures ∙ found_is c.args.setting.now.day c.args.text.now c.follow-lines.result.0 c.follow-lines.result.1 c.follow-lines.result.2.now c.follow-lines.ensures.lines c.follow-lines.ensures.ended c.follow-lines.ensures.rest

pub follow-lines-requires-clause-at_work : goal.follow-lines-requires-clause-at_work
follow-lines-requires-clause-at_work c = c.requires.at_work

pub follow-lines-requires-clause-empty : goal.follow-lines-requires-clause-empty
follow-lines-requires-clause-empty c = c.requires.empty

pub follow-lines-requires-clause-moves : goal.follow-lines-requires-clause-moves
follow-lines-requires-clause-moves c = c.requires.moves

pub verdict_on-requires : goal.verdict_on-requires
verdict_on-requires c = c.follow-lines.ensures.few
