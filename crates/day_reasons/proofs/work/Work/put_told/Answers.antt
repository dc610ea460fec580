use Rattle.day_reasons.specs.Told.{messages_text}
use Rattle.day_reasons.proofs.PutFacts.{same_put}
use Rattle.day_reasons.proofs.work.Work.put_told.Goals as goal

pub desk_of-desk-requires-clause-at_work : goal.desk_of-desk-requires-clause-at_work
desk_of-desk-requires-clause-at_work g c = c.requires.at_work

pub desk_of-desk-requires-clause-facts : goal.desk_of-desk-requires-clause-facts
desk_of-desk-requires-clause-facts g c = c.requires.facts

pub desk_of-desk-requires-clause-pending : goal.desk_of-desk-requires-clause-pending
desk_of-desk-requires-clause-pending g c = c.requires.pending

pub put_messages-requires-clause-all : goal.put_messages-requires-clause-all
put_messages-requires-clause-all g c = c.desk_of-desk.result.all

pub put_messages-requires-clause-moves : goal.put_messages-requires-clause-moves
put_messages-requires-clause-moves g c = c.requires.moves

pub returns-clause-put : goal.returns-clause-put
returns-clause-put g c = same_put _ _ _ _ _ (λ i. messages_text (c.desk_of-desk.ensures.setting i).day (c.desk_of-desk.ensures.journal i).history) c.put_messages.ensures.put

pub returns-clause-work : goal.returns-clause-work
returns-clause-work g c = record { at_work = c.requires.at_work; moves = c.put_messages.ensures.moves; facts = c.requires.facts; pending = c.requires.pending }
