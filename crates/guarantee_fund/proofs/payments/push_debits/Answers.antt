use Rattle.std.proofs.Common.{◌≡◌, ◌++◌, List, [], ◌∷◌, length, if◌then◌else◌, sym, ap, ◌∙◌, arith}
use Rattle.commit_journal.specs.declared.line.Move.{Move}
use Rattle.machine.specs.Records.Messages.{technical_of}
use Rattle.rule_book.specs.Moves.{entry_moves, goes_to}
use Rattle.rule_book.proofs.Debits.{count}
use Rattle.guarantee_fund.specs.Covering.{covered_by}
use Rattle.guarantee_fund.proofs.Debits.{side-next, side-all}
use Rattle.guarantee_fund.proofs.Held.{move_held}
use Rattle.guarantee_fund.proofs.payments.push_debits.Goals as goal

pub push_debit-requires-clause-held : goal.push_debit-requires-clause-held
push_debit-requires-clause-held g c =
    let day = g.D.Desk.day c.args.desk.now in
    let n = c.args.n in
    let listed = c.entry_moves-listed.ensures ∙ ap (λ d. entry_moves d n) c.setting-2.ensures in
    move_held (g.D.Desk.held c.args.desk.now) day n c.loop-found.found-index c.entry_moves-listed.result.now c.found-item.result c.requires.held listed c.loop-found-test.true c.found-item.is

pub push_debit-requires-clause-room : goal.push_debit-requires-clause-room
push_debit-requires-clause-room g c =
    let listed = c.entry_moves-listed.ensures ∙ ap (λ d. entry_moves d c.args.n) c.setting-2.ensures in
    let all = count (g.D.Desk.day c.args.desk.now) c.args.n c.entry_moves-listed.result.now listed in
    omega (arith, all, c.loop-found-test.true, c.loop-found.invariant.few, c.loop-found.invariant.room, c.requires.room, ap length c.requires.empty)

pub loop-found-preserved : goal.loop-found-preserved
loop-found-preserved g c =
    let day = g.D.Desk.day c.args.desk.now in
    let J = g.D.Desk.past c.args.desk.now in
    let n = c.args.n in
    let m = c.found-item.result in
    let t = c.technical_of-technical.result in
    let last : List Move = (if goes_to t m then covered_by day J n m ∷ [] else []) in
    record {
      moves = c.push_debit.ensures.moves ∙ ap (λ (ms : List Move). ms ++ last) c.loop-found.invariant.moves ∙ sym (side-next (covered_by day J n) (goes_to t) c.entry_moves-listed.result.now c.loop-found.found-index m c.loop-found-test.true c.found-item.is);
      room = c.push_debit.ensures.room ∙ c.loop-found.invariant.room;
      few = omega (arith, c.push_debit.ensures.one, c.loop-found.invariant.few);
    }

pub returns-clause-moves : goal.returns-clause-moves
returns-clause-moves g c =
    let day = g.D.Desk.day c.args.desk.now in
    let J = g.D.Desk.past c.args.desk.now in
    let n = c.args.n in
    let listed = c.entry_moves-listed.ensures ∙ ap (λ d. entry_moves d n) c.setting-2.ensures in
    let own = c.technical_of-technical.ensures ∙ ap (λ d. technical_of d n) c.setting.ensures in
    let all : c.loop-found.found-index ≡ length c.entry_moves-listed.result.now = omega (arith, c.loop-found-test.false, c.loop-found.auto.found-index-end) in
    c.loop-found.invariant.moves ∙ side-all day J n c.technical_of-technical.result c.entry_moves-listed.result.now c.loop-found.found-index listed own all
