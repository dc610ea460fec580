use Rattle.std.proofs.Common.{◌≡◌, ◌+◌, ◌<◌, ◌≤◌, None, length, subst, arith}
use Rattle.number_set.specs.Members.{has}
use Rattle.number_set.specs.Next.{IsLeast, IsNext}
use Rattle.settle_floor.specs.Floors.{OnFloor}
use Rattle.settle_floor.proofs.MemberRuns.{at_work_with, renewed_all, renewed_more, renewed_none}
use Rattle.settle_floor.proofs.floor.Floor.renew_accounts.Goals as goal

pub accounts-init : goal.accounts-init
accounts-init g c = renewed_none c.args.setting.now.day c.args.self.now _ c.requires.at_work

pub renew_account-requires-clause-at_work : goal.renew_account-requires-clause-at_work
renew_account-requires-clause-at_work g c = at_work_with c.args.setting.now.day c.args.self.now c.accounts.self _ c.requires.at_work c.accounts.invariant.same c.accounts.invariant.keeps

pub renew_account-requires-clause-within : goal.renew_account-requires-clause-within
renew_account-requires-clause-within g c = subst (λ (f : OnFloor). c.in-Some.a < length f.index.ready.touched) c.self.view_is c.in-Some.ensures.within

pub accounts-smaller : goal.accounts-smaller
accounts-smaller g c =
    let low : c.in-Some.a < length c.accounts.self.index.ready.touched = subst (λ (f : OnFloor). c.in-Some.a < length f.index.ready.touched) c.self.view_is c.in-Some.ensures.within in
    let begin = c.in-Some.ensures.next.at_least in
    omega (arith, low, begin, c.accounts.invariant.size)

pub accounts-preserved : goal.accounts-preserved
accounts-preserved g c = renewed_more c.args.setting.now.day c.args.self.now c.accounts.self c.renew_account.new.self c.accounts.from c.in-Some.a c.accounts.invariant
    (subst (λ (f : OnFloor). IsLeast (has f.index.ready.touched) c.accounts.from c.in-Some.a) c.self.view_is c.in-Some.ensures.next)
    (subst (λ (f : OnFloor). c.in-Some.a < length f.index.ready.touched) c.self.view_is c.in-Some.ensures.within)
    c.renew_account.ensures.same c.renew_account.ensures.ready c.renew_account.ensures.renewed c.renew_account.ensures.still

pub returns-in-None-clause-same : goal.returns-in-None-clause-same
returns-in-None-clause-same g c = c.accounts.invariant.same

pub returns-in-None-clause-ready : goal.returns-in-None-clause-ready
returns-in-None-clause-ready g c = c.accounts.invariant.keeps

pub returns-in-None-clause-renewed : goal.returns-in-None-clause-renewed
returns-in-None-clause-renewed g c = renewed_all c.args.setting.now.day c.args.self.now c.accounts.self c.accounts.from c.accounts.invariant (subst (λ (f : OnFloor). IsNext (has f.index.ready.touched) c.accounts.from None) c.self.view_is c.in-None.ensures.next)

pub returns-in-None-clause-still : goal.returns-in-None-clause-still
returns-in-None-clause-still g c = c.accounts.invariant.still
