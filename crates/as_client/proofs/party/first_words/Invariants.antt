use Rattle.std.proofs.Common.{◌≡◌, map, take}
use Rattle.as_client.specs.Openings.{word_of_sender}
use Rattle.as_client.proofs.party.first_words.Given as goal

abbrev pub invariant-loop-i : goal.invariant-loop-i
invariant-loop-i l = l.words.items ≡ map (word_of_sender l.name) (take l.i l.day.messages)
