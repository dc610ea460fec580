use Rattle.kept_text.proofs.FileFacts as facts
use Rattle.kept_text.proofs.laws.one_text_each.Goals as goal

pub returns-clause-texts : goal.returns-clause-texts
returns-clause-texts c = facts.files_have_their_texts

pub returns-clause-files : goal.returns-clause-files
returns-clause-files c = facts.texts_have_their_files

pub returns-clause-digests : goal.returns-clause-digests
returns-clause-digests c = facts.their_digests
