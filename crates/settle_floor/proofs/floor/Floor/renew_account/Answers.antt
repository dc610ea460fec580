use Rattle.std.proofs.Common.{◌≡◌, ◌<◌, ◌∙◌, ap, length, subst, sym}
use Rattle.machine.specs.Telling.Balances.{balance}
use Rattle.settle_floor.specs.Floors.{IsIndex, IsReadyStill, OnFloor, with_ready}
use Rattle.settle_floor.proofs.MemberRuns.{held_there, money_there}
use Rattle.settle_floor.proofs.floor.Floor.renew_account.Goals as goal

pub money_of-money-requires : goal.money_of-money-requires
money_of-money-requires g c = λ first last. held_there c.args.setting.now.day (g.T.Holdings.holdings c.args.till.now) c.args.a c.requires.at_work.all first last

pub renew_account-requires-clause-index : goal.renew_account-requires-clause-index
renew_account-requires-clause-index g c = subst (λ (f : OnFloor). IsIndex c.args.setting.now.day f.journal.history f.index) (sym c.self.view_is) c.requires.at_work.opened.index

pub renew_account-requires-clause-within : goal.renew_account-requires-clause-within
renew_account-requires-clause-within g c = subst (λ (f : OnFloor). c.args.a < length f.index.ready.touched) (sym c.self.view_is) c.requires.within

pub renew_account-requires-clause-money : goal.renew_account-requires-clause-money
renew_account-requires-clause-money g c = λ first.
    money_there c.args.setting.now.day (g.T.Holdings.holdings c.args.till.now) c.args.self.now.journal.history c.args.a c.money_of-money.result c.args.setting.now.sound c.requires.at_work.opened.fits.legal c.requires.at_work.kept first
    c.money_of-money.ensures.held c.money_of-money.ensures.none
    ∙ ap (λ (f : OnFloor). balance c.args.setting.now.day f.journal.history c.args.a) (sym c.self.view_is)

pub returns-clause-same : goal.returns-clause-same
returns-clause-same g c = c.renew_account.ensures.same ∙ ap (λ (f : OnFloor). with_ready f c.renew_account.new.self.index.ready) c.self.view_is

pub returns-clause-ready : goal.returns-clause-ready
returns-clause-ready g c = subst (λ (f : OnFloor). IsReadyStill c.args.setting.now.day f.journal.history f.index.ready c.renew_account.new.self.index.ready) c.self.view_is c.renew_account.ensures.ready
