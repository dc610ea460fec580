use Rattle.std.proofs.Common.{◌∙◌, ◌++◌, ◌∷◌, [], ◌+◌, ◌≤◌, length, ap, map, sym, arith}
use Rattle.batch_records.specs.Parts.{entries_at}
use Rattle.batch_records.proofs.FlatFacts.{map_next, take_past}
use Rattle.as_client.specs.Openings.{word_of_sender}
use Rattle.as_client.proofs.party.first_words.Goals as goal

pub loop-i-preserved : goal.loop-i-preserved
loop-i-preserved c =
    let ms = c.args.day.now.messages in
    let i = c.loop-i.i in
    c.in_ok-push.ensures.items ∙ (λ k. c.loop-i.invariant k ++ c.word_of_sender.ensures (entries_at ms i) k ∷ []) ∙ sym (map_next (word_of_sender c.args.name.now) ms i (i + 1) _ (omega arith) c.message.ensures)

pub returns : goal.returns
returns c =
    let all : length c.args.day.now.messages ≤ c.loop-i.i = omega (arith, c.message_count-i-end.ensures) in
    c.loop-i.invariant ∙ ap (map (word_of_sender c.args.name.now)) (take_past c.args.day.now.messages c.loop-i.i all)
