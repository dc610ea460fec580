use Rattle.std.proofs.Common.{◌≡◌, ◌&&◌, ◌++◌, [], ◌∷◌, ◌+◌, ap, ◌∙◌, if◌then◌else◌, length, sym, arith, List, map}
use Rattle.commit_journal.specs.declared.line.Move.{Move}
use Rattle.machine.specs.Records.Messages.{technical_of}
use Rattle.machine.specs.Stages.Phases.{is_booked}
use Rattle.rule_book.specs.Moves.{entry_moves, given_back, goes_to}
use Rattle.rule_book.proofs.FewEntries.{few_entries}
use Rattle.rule_book.proofs.Debits.{count, moved-all, moved-next, picked}
use Rattle.rule_book.proofs.lines.return_booked.Goals as goal

pub overflow_cast-i : goal.overflow_cast-i
overflow_cast-i g c =
    let set = c.setting-2.result.now in
    omega (arith, c.loop-i-test.true, count set.day c.args.n c.entry_moves-listed.result.now c.entry_moves-listed.ensures, few_entries set.day c.args.n set.sound)

pub overflow_add-i : goal.overflow_add-i
overflow_add-i g c =
    let set = c.setting-2.result.now in
    omega (arith, c.loop-i-test.true, count set.day c.args.n c.entry_moves-listed.result.now c.entry_moves-listed.ensures, few_entries set.day c.args.n set.sound)

pub give_back-requires : goal.give_back-requires
give_back-requires g c =
    let listed = c.entry_moves-listed.ensures ∙ ap (λ d. entry_moves d c.args.n) c.setting-2.ensures in
    let all = count (g.D.Desk.day c.args.desk.now) c.args.n c.entry_moves-listed.result.now listed in
    let none = ap length c.requires.empty in
    omega (arith, all, none, c.requires.room, c.loop-i-test.true, c.loop-i.invariant.room, c.loop-i.invariant.few)

pub loop-i-preserved : goal.loop-i-preserved
loop-i-preserved g c =
    let technical = c.technical_of-technical.result in
    let pass = is_booked (g.D.Desk.past c.args.desk.now) c.args.n in
    let m = c.index-listed-i.result in
    let last : List Move = (if goes_to technical m && pass (c.loop-i.i + 1) then given_back technical m ∷ [] else []) in
    record {
      moves = c.give_back.ensures.moves ∙ ap (λ (ms : List Move). ms ++ last) c.loop-i.invariant.moves
          ∙ sym (moved-next (given_back technical) technical pass c.entry_moves-listed.result.now c.loop-i.i m c.loop-i-test.true c.index-listed-i.is);
      room = c.give_back.ensures.room ∙ c.loop-i.invariant.room;
      few = omega (arith, c.give_back.ensures.one, c.loop-i.invariant.few);
    }

pub returns-clause-moves : goal.returns-clause-moves
returns-clause-moves g c =
    let day = g.D.Desk.day c.args.desk.now in
    let n = c.args.n in
    let listed = c.entry_moves-listed.ensures ∙ ap (λ d. entry_moves d n) c.setting-2.ensures in
    let own = c.technical_of-technical.ensures ∙ ap (λ d. technical_of d n) c.setting.ensures in
    let all : c.loop-i.i ≡ length c.entry_moves-listed.result.now = omega (arith, c.loop-i-test.false, c.loop-i.auto.i-end) in
    c.loop-i.invariant.moves
    ∙ ap (λ t. map (given_back t) (picked c.technical_of-technical.result (is_booked (g.D.Desk.past c.args.desk.now) n) c.entry_moves-listed.result.now c.loop-i.i)) own
    ∙ moved-all (given_back (technical_of day n)) day n c.loop-i.i c.technical_of-technical.result (is_booked (g.D.Desk.past c.args.desk.now) n) c.entry_moves-listed.result.now listed own all
