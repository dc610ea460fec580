use Rattle.kept_text.proofs.FileFacts as facts
use Rattle.kept_text.proofs.laws.foreign_files_have_no_text.Goals as goal

pub returns : goal.returns
returns c = facts.foreign_frames_are_first
