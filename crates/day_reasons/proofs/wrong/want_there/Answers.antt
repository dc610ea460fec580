use Rattle.std.proofs.Common.{◌∙◌, ℕ, List, [], Option, Some, ap, sym, arith}
use Rattle.std.specs.Prelude.{option_map}
use Rattle.commit_journal.specs.Kept.{MovesInRoom}
use Rattle.commit_journal.specs.Line.{Line}
use Rattle.commit_journal.specs.FieldGrammar.{Read}
use Rattle.commit_journal.specs.LineGrammar.{read_line}
use Rattle.commit_journal.specs.declared.line.Want.{Want}
use Rattle.machine.specs.Legal.{want_of}
use Rattle.day_reasons.proofs.wrong.want_there.Goals as goal

pub read_line-requires-clause-empty : goal.read_line-requires-clause-empty
read_line-requires-clause-empty c = ap (λ (m : MovesInRoom). m.moves) c.requires

pub read_line-requires-clause-room : goal.read_line-requires-clause-room
read_line-requires-clause-room c = let room = ap (λ (m : MovesInRoom). m.room) c.requires in omega (arith, room)

pub returns-in-Ok-clause-want : goal.returns-in-Ok-clause-want
returns-in-Ok-clause-want c =
    let wanted : Read Line → Option Want = option_map (λ (read : Line × List ℕ). want_of read.0) in
    ap (λ (w : Want). Some w) c.want_of.ensures ∙ ap wanted (sym c.in-Ok.ensures.ok) ∙ (λ i. wanted (read_line (c.highest_message.ensures i) c.args.place c.args.bytes.now))

pub returns-in-Ok-clause-moves : goal.returns-in-Ok-clause-moves
returns-in-Ok-clause-moves c =
    let room = c.read_line.ensures.room ∙ ap (λ (m : MovesInRoom). m.room) c.requires in
    c.clear.ensures ∙ ap (λ (r : ℕ). record { moves = []; room = r }) room

pub returns-in-Err-clause-want : goal.returns-in-Err-clause-want
returns-in-Err-clause-want c =
    let wanted : Read Line → Option Want = option_map (λ (read : Line × List ℕ). want_of read.0) in
    ap wanted (sym c.in-Err.ensures.err.0) ∙ (λ i. wanted (read_line (c.highest_message.ensures i) c.args.place c.args.bytes.now))

pub returns-in-Err-clause-moves : goal.returns-in-Err-clause-moves
returns-in-Err-clause-moves c = c.in-Err.ensures.err.2 ∙ c.requires
