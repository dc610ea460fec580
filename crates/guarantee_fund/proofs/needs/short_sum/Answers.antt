use Rattle.std.proofs.Common.{◌≡◌, ◌+◌, length, sym, ap, ◌∙◌, ◌&&◌, arith}
use Rattle.machine.specs.Records.Messages.{technical_of}
use Rattle.machine.specs.Making.Lines.{is_short_debtor}
use Rattle.rule_book.specs.Moves.{entry_moves, goes_to}
use Rattle.rule_book.proofs.FewEntries.{few_entries}
use Rattle.rule_book.proofs.Debits.{count}
use Rattle.guarantee_fund.proofs.Amounts.{move_small, small-next}
use Rattle.guarantee_fund.proofs.Debits.{short_sum, short_sum-next, short_sum-all}
use Rattle.guarantee_fund.proofs.Held.{move_held}
use Rattle.guarantee_fund.proofs.needs.short_sum.Goals as goal

pub short_amount-sum-requires : goal.short_amount-sum-requires
short_amount-sum-requires g c =
    let day = g.D.Desk.day c.args.desk.now in
    let n = c.args.n in
    let listed = c.entry_moves-listed.ensures ∙ ap (λ d. entry_moves d n) c.setting-2.ensures in
    move_held (g.D.Desk.held c.args.desk.now) day n c.loop-found.found-index c.entry_moves-listed.result.now c.found-item.result c.requires.held listed c.loop-found-test.true c.found-item.is

pub overflow_add-sum : goal.overflow_add-sum
overflow_add-sum g c =
    let day = g.D.Desk.day c.args.desk.now in
    let n = c.args.n in
    let i = c.loop-found.found-index in
    let m = c.found-item.result in
    let ms = c.entry_moves-listed.result.now in
    let listed = c.entry_moves-listed.ensures ∙ ap (λ d. entry_moves d n) c.setting-2.ensures in
    let all = count day n ms listed in
    let next = small-next (goes_to c.technical_of-technical.result m && is_short_debtor day (g.D.Desk.past c.args.desk.now) n m.debit) c.loop-found.sum i m.amount c.short_amount-sum.result c.loop-found.invariant.small
    (move_small day n i ms m (g.D.Desk.sound c.args.desk.now) listed c.loop-found-test.true c.found-item.is) c.short_amount-sum.ensures in
    omega (arith, next, all, c.loop-found-test.true, few_entries day n (g.D.Desk.sound c.args.desk.now))

pub loop-found-preserved : goal.loop-found-preserved
loop-found-preserved g c =
    let day = g.D.Desk.day c.args.desk.now in
    let J = g.D.Desk.past c.args.desk.now in
    let n = c.args.n in
    let i = c.loop-found.found-index in
    let m = c.found-item.result in
    let t = c.technical_of-technical.result in
    let ms = c.entry_moves-listed.result.now in
    let listed = c.entry_moves-listed.ensures ∙ ap (λ d. entry_moves d n) c.setting-2.ensures in
    let sum : c.loop-found.sum ≡ short_sum day J n t ms i = c.loop-found.invariant.sum in
    record {
      sum = ap (λ s. s + c.short_amount-sum.result) sum ∙ ap (λ a. short_sum day J n t ms i + a) c.short_amount-sum.ensures ∙ sym (short_sum-next day J n t ms i m c.loop-found-test.true c.found-item.is);
      small = small-next (goes_to t m && is_short_debtor day J n m.debit) c.loop-found.sum i m.amount c.short_amount-sum.result c.loop-found.invariant.small (move_small day n i ms m (g.D.Desk.sound c.args.desk.now) listed c.loop-found-test.true c.found-item.is) c.short_amount-sum.ensures;
    }

pub returns-clause-sum : goal.returns-clause-sum
returns-clause-sum g c =
    let day = g.D.Desk.day c.args.desk.now in
    let J = g.D.Desk.past c.args.desk.now in
    let n = c.args.n in
    let listed = c.entry_moves-listed.ensures ∙ ap (λ d. entry_moves d n) c.setting-2.ensures in
    let own = c.technical_of-technical.ensures ∙ ap (λ d. technical_of d n) c.setting.ensures in
    let all : c.loop-found.found-index ≡ length c.entry_moves-listed.result.now = omega (arith, c.loop-found-test.false, c.loop-found.auto.found-index-end) in
    c.loop-found.invariant.sum ∙ short_sum-all day J n c.technical_of-technical.result c.entry_moves-listed.result.now c.loop-found.found-index listed own all

pub returns-clause-small : goal.returns-clause-small
returns-clause-small g c =
    let day = g.D.Desk.day c.args.desk.now in
    let listed = c.entry_moves-listed.ensures ∙ ap (λ d. entry_moves d c.args.n) c.setting-2.ensures in
    let all = count day c.args.n c.entry_moves-listed.result.now listed in
    omega (arith, all, c.loop-found.invariant.small, c.loop-found.auto.found-index-end, few_entries day c.args.n (g.D.Desk.sound c.args.desk.now))
