use Rattle.kept_text.proofs.FileFacts as facts
use Rattle.kept_text.proofs.laws.closed_gates_end_texts.Goals as goal

pub returns : goal.returns
returns c = facts.nothing_behind_counts
