use Rattle.durable_day.proofs.running.show_store.Goals as goal

pub returns : goal.returns
returns g c = rw c.close-journal.ensures.journal at c.say_journal.ensures
