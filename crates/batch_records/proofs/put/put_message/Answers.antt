use Rattle.outside_io.proofs.PutLemmas.{puts_first, puts_then}
use Rattle.batch_records.proofs.PutFacts.{message_parts}
use Rattle.batch_records.proofs.put.put_message.Goals as goal

pub returns-in_err-put_body : goal.returns-in_err-put_body
returns-in_err-put_body g c = rw (← message_parts c.args.version c.args.message.now c.args.entries.now c.requires.entries) (puts_first _ _ _ _ _ _ c.from_residual.ensures.0 c.in_err-put_body.ensures)

pub returns : goal.returns
returns g c = rw (← message_parts c.args.version c.args.message.now c.args.entries.now c.requires.entries) (puts_then _ _ _ _ _ _ _ c.in_ok-put_body.ensures c.put_entries.ensures)
