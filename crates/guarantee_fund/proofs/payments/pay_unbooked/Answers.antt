use Rattle.std.proofs.Common.{◌≡◌, ℕ, Bool, not, ◌&&◌, ◌++◌, List, [], ◌∷◌, length, ◌+◌, if◌then◌else◌, sym, ap, ◌∙◌, arith}
use Rattle.commit_journal.specs.declared.line.Move.{Move}
use Rattle.machine.specs.Records.Messages.{technical_of}
use Rattle.machine.specs.Stages.Phases.{is_booked}
use Rattle.rule_book.specs.Moves.{entry_moves, goes_to}
use Rattle.rule_book.proofs.FewEntries.{few_entries}
use Rattle.rule_book.proofs.Debits.{count, moved-all, moved-next}
use Rattle.guarantee_fund.specs.Covering.{cover_by}
use Rattle.guarantee_fund.proofs.payments.pay_unbooked.Goals as goal

pub overflow_cast-i : goal.overflow_cast-i
overflow_cast-i g c =
    let set = c.setting-2.result.now in
    omega (arith, c.loop-i-test.true, count set.day c.args.n c.entry_moves-listed.result.now c.entry_moves-listed.ensures, few_entries set.day c.args.n set.sound)

pub overflow_add-i : goal.overflow_add-i
overflow_add-i g c =
    let set = c.setting-2.result.now in
    omega (arith, c.loop-i-test.true, count set.day c.args.n c.entry_moves-listed.result.now c.entry_moves-listed.ensures, few_entries set.day c.args.n set.sound)

pub pay_for-requires : goal.pay_for-requires
pay_for-requires g c =
    let listed = c.entry_moves-listed.ensures ∙ ap (λ d. entry_moves d c.args.n) c.setting-2.ensures in
    let all = count (g.D.Desk.day c.args.desk.now) c.args.n c.entry_moves-listed.result.now listed in
    let none = ap length c.requires.empty in
    omega (arith, all, none, c.requires.room, c.loop-i-test.true, c.loop-i.invariant.room, c.loop-i.invariant.few)

pub loop-i-preserved : goal.loop-i-preserved
loop-i-preserved g c =
    let day = g.D.Desk.day c.args.desk.now in
    let n = c.args.n in
    let i = c.loop-i.i in
    let m = c.index-listed-i.result in
    let t = c.technical_of-technical.result in
    let pass : ℕ → Bool = λ k. not (is_booked (g.D.Desk.past c.args.desk.now) n k) in
    let last : List Move = (if goes_to t m && pass (i + 1) then cover_by day n m ∷ [] else []) in
    record {
      moves = c.pay_for.ensures.moves ∙ ap (λ (ms : List Move). ms ++ last) c.loop-i.invariant.moves ∙ sym (moved-next (cover_by day n) t pass c.entry_moves-listed.result.now i m c.loop-i-test.true c.index-listed-i.is);
      room = c.pay_for.ensures.room ∙ c.loop-i.invariant.room;
      few = omega (arith, c.pay_for.ensures.one, c.loop-i.invariant.few);
    }

pub returns-clause-moves : goal.returns-clause-moves
returns-clause-moves g c =
    let day = g.D.Desk.day c.args.desk.now in
    let n = c.args.n in
    let listed = c.entry_moves-listed.ensures ∙ ap (λ d. entry_moves d n) c.setting-2.ensures in
    let own = c.technical_of-technical.ensures ∙ ap (λ d. technical_of d n) c.setting.ensures in
    let all : c.loop-i.i ≡ length c.entry_moves-listed.result.now = omega (arith, c.loop-i-test.false, c.loop-i.auto.i-end) in
    c.loop-i.invariant.moves ∙ moved-all (cover_by day n) day n c.loop-i.i c.technical_of-technical.result (λ k. not (is_booked (g.D.Desk.past c.args.desk.now) n k)) c.entry_moves-listed.result.now listed own all
