use Rattle.live_records.proofs.CutFacts.{cut_there, cut_whole}
use Rattle.live_records.proofs.EndSeen.{part_open, part_over}
use Rattle.live_records.proofs.laws.day_parts_end_as_seen.Goals as goal

pub returns-clause-over : goal.returns-clause-over
returns-clause-over c = part_over

pub returns-clause-open : goal.returns-clause-open
returns-clause-open c = part_open

pub returns-clause-cut : goal.returns-clause-cut
returns-clause-cut c = cut_there

pub returns-clause-whole : goal.returns-clause-whole
returns-clause-whole c = cut_whole
