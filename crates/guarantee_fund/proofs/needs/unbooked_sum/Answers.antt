use Rattle.std.proofs.Common.{◌≡◌, ℕ, Bool, ◌+◌, not, ◌&&◌, length, sym, ap, ◌∙◌, arith}
use Rattle.std.specs.Prelude.{sum_by}
use Rattle.machine.specs.Records.Messages.{technical_of}
use Rattle.machine.specs.Stages.Phases.{is_booked}
use Rattle.rule_book.specs.Moves.{entry_moves, goes_to, moved_amount}
use Rattle.rule_book.proofs.FewEntries.{few_entries}
use Rattle.rule_book.proofs.Debits.{count, picked, picked_sum-all, picked_sum-next}
use Rattle.guarantee_fund.proofs.Amounts.{move_small, small-next}
use Rattle.guarantee_fund.proofs.needs.unbooked_sum.Goals as goal

pub overflow_cast-i : goal.overflow_cast-i
overflow_cast-i g c =
    let set = c.setting-2.result.now in
    omega (arith, c.loop-i-test.true, count set.day c.args.n c.entry_moves-listed.result.now c.entry_moves-listed.ensures, few_entries set.day c.args.n set.sound)

pub overflow_add-i : goal.overflow_add-i
overflow_add-i g c =
    let set = c.setting-2.result.now in
    omega (arith, c.loop-i-test.true, count set.day c.args.n c.entry_moves-listed.result.now c.entry_moves-listed.ensures, few_entries set.day c.args.n set.sound)

pub overflow_add-sum : goal.overflow_add-sum
overflow_add-sum g c =
    let day = g.D.Desk.day c.args.desk.now in
    let n = c.args.n in
    let i = c.loop-i.i in
    let m = c.index-listed-i.result in
    let listed = c.entry_moves-listed.ensures ∙ ap (λ d. entry_moves d n) c.setting-2.ensures in
    let all = count day n c.entry_moves-listed.result.now listed in
    let next = small-next (goes_to c.technical_of-technical.result m && not (is_booked (g.D.Desk.past c.args.desk.now) n (i + 1))) c.loop-i.sum i m.amount c.unbooked_amount-sum.result c.loop-i.invariant.small
    (move_small day n i c.entry_moves-listed.result.now m (g.D.Desk.sound c.args.desk.now) listed c.loop-i-test.true c.index-listed-i.is) c.unbooked_amount-sum.ensures in
    omega (arith, next, all, c.loop-i-test.true, few_entries day n (g.D.Desk.sound c.args.desk.now))

pub loop-i-preserved : goal.loop-i-preserved
loop-i-preserved g c =
    let day = g.D.Desk.day c.args.desk.now in
    let n = c.args.n in
    let i = c.loop-i.i in
    let m = c.index-listed-i.result in
    let technical = c.technical_of-technical.result in
    let ms = c.entry_moves-listed.result.now in
    let pass : ℕ → Bool = λ k. not (is_booked (g.D.Desk.past c.args.desk.now) n k) in
    let listed = c.entry_moves-listed.ensures ∙ ap (λ d. entry_moves d n) c.setting-2.ensures in
    let sum : c.loop-i.sum ≡ sum_by moved_amount (picked technical pass ms i) = c.loop-i.invariant.sum in
    record {
      sum = ap (λ s. s + c.unbooked_amount-sum.result) sum ∙ ap (λ a. sum_by moved_amount (picked technical pass ms i) + a) c.unbooked_amount-sum.ensures ∙ sym (picked_sum-next technical pass ms i m c.loop-i-test.true c.index-listed-i.is);
      small = small-next (goes_to technical m && pass (i + 1)) c.loop-i.sum i m.amount c.unbooked_amount-sum.result c.loop-i.invariant.small (move_small day n i ms m (g.D.Desk.sound c.args.desk.now) listed c.loop-i-test.true c.index-listed-i.is) c.unbooked_amount-sum.ensures;
    }

pub returns-clause-sum : goal.returns-clause-sum
returns-clause-sum g c =
    let day = g.D.Desk.day c.args.desk.now in
    let n = c.args.n in
    let listed = c.entry_moves-listed.ensures ∙ ap (λ d. entry_moves d n) c.setting-2.ensures in
    let own = c.technical_of-technical.ensures ∙ ap (λ d. technical_of d n) c.setting.ensures in
    let all : c.loop-i.i ≡ length c.entry_moves-listed.result.now = omega (arith, c.loop-i-test.false, c.loop-i.auto.i-end) in
    c.loop-i.invariant.sum ∙ picked_sum-all day n c.loop-i.i c.technical_of-technical.result (λ k. not (is_booked (g.D.Desk.past c.args.desk.now) n k)) c.entry_moves-listed.result.now listed own all

pub returns-clause-small : goal.returns-clause-small
returns-clause-small g c =
    let day = g.D.Desk.day c.args.desk.now in
    let listed = c.entry_moves-listed.ensures ∙ ap (λ d. entry_moves d c.args.n) c.setting-2.ensures in
    let all = count day c.args.n c.entry_moves-listed.result.now listed in
    omega (arith, all, c.loop-i.invariant.small, c.loop-i.auto.i-end, few_entries day c.args.n (g.D.Desk.sound c.args.desk.now))
