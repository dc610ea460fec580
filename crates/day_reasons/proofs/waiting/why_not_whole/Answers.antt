use Rattle.std.proofs.Common.{ap, subst, arith}
use Rattle.commit_journal.specs.declared.line.Want.TheVariants as wants
use Rattle.commit_journal.specs.Kept.{MovesInRoom}
use Rattle.rule_book.specs.Answering.{IsAnswer}
use Rattle.rule_book.proofs.FewEntries.{few_entries}
use Rattle.settle_floor.proofs.HeldFacts.{all_held}
use Rattle.day_reasons.proofs.waiting.why_not_whole.Goals as goal

pub answer-judged-requires-clause-held : goal.answer-judged-requires-clause-held
answer-judged-requires-clause-held g c = all_held (g.D.Desk.held c.args.desk.now) (g.D.Desk.day c.args.desk.now) c.requires.all (wants.All c.args.n)

pub answer-judged-requires-clause-empty : goal.answer-judged-requires-clause-empty
answer-judged-requires-clause-empty g c = ap (λ (m : MovesInRoom). m.moves) c.requires.moves

pub answer-judged-requires-clause-room : goal.answer-judged-requires-clause-room
answer-judged-requires-clause-room g c =
    let few = few_entries (g.D.Desk.day c.args.desk.now) c.args.n (g.D.Desk.sound c.args.desk.now) in
    let room = ap (λ (m : MovesInRoom). m.room) c.requires.moves in
    omega (arith, few, room)

pub returns-clause-reason : goal.returns-clause-reason
returns-clause-reason g c =
    let day = g.D.Desk.day c.args.desk.now in
    let J = g.D.Desk.past c.args.desk.now in
    let want = wants.All c.args.n in
    c.reason_in.ensures.reason day J want (subst (λ (m : MovesInRoom). IsAnswer day J want m c.answer-judged.new.moves c.answer-judged.result) c.requires.moves c.answer-judged.ensures)

pub returns-clause-moves : goal.returns-clause-moves
returns-clause-moves g c =
    let day = g.D.Desk.day c.args.desk.now in
    let J = g.D.Desk.past c.args.desk.now in
    let want = wants.All c.args.n in
    c.reason_in.ensures.moves day J want (subst (λ (m : MovesInRoom). IsAnswer day J want m c.answer-judged.new.moves c.answer-judged.result) c.requires.moves c.answer-judged.ensures)
