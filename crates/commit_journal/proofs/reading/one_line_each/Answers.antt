use Rattle.commit_journal.proofs.LineLemmas.{lines_are_read, only_lines_are_read}
use Rattle.commit_journal.proofs.SameTexts.{texts_tell_lines}
use Rattle.commit_journal.proofs.reading.one_line_each.Goals as goal

pub returns-clause-read : goal.returns-clause-read
returns-clause-read c = lines_are_read

pub returns-clause-nothing_else : goal.returns-clause-nothing_else
returns-clause-nothing_else c = only_lines_are_read

pub returns-clause-tell : goal.returns-clause-tell
returns-clause-tell c = texts_tell_lines
