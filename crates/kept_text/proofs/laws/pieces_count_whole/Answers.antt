use Rattle.kept_text.proofs.FileFacts as facts
use Rattle.kept_text.proofs.laws.pieces_count_whole.Goals as goal

pub returns-clause-whole : goal.returns-clause-whole
returns-clause-whole c = facts.pieces_count_whole

pub returns-clause-added : goal.returns-clause-added
returns-clause-added c = facts.pieces_are_added
