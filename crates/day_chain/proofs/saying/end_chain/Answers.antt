use Rattle.program_answers.proofs.Saying.{says}
use Rattle.day_chain.specs.ChainTexts.{end_text}
use Rattle.day_chain.proofs.saying.end_chain.Goals as goal

pub returns : goal.returns
returns g c = λ told stands. says _ _ (end_text told) 0 _ _ (c.put_end.ensures told stands) c.status_after.ensures
