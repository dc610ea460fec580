use Rattle.std.proofs.Common.{◌∙◌}
use Rattle.settle_floor.proofs.MemberRuns.{at_work_with, still_with, with_again}
use Rattle.settle_floor.proofs.floor.Floor.go_on_from.Goals as goal

pub renew_accounts-requires : goal.renew_accounts-requires
renew_accounts-requires g c = record { at_work = at_work_with c.args.setting.now.day c.args.self.now c.move_to.new.self _ c.requires.at_work c.move_to.ensures.same c.move_to.ensures.ready }

pub returns-clause-same : goal.returns-clause-same
returns-clause-same g c = with_again c.args.self.now c.move_to.new.self c.renew_accounts.new.self c.move_to.ensures.same c.renew_accounts.ensures.same

pub returns-clause-ready : goal.returns-clause-ready
returns-clause-ready g c = still_with c.args.setting.now.day c.args.self.now c.move_to.new.self c.renew_accounts.new.self.index.ready c.move_to.ensures.same c.move_to.ensures.ready c.renew_accounts.ensures.ready

pub returns-clause-renewed : goal.returns-clause-renewed
returns-clause-renewed g c = c.renew_accounts.ensures.renewed

pub returns-clause-at : goal.returns-clause-at
returns-clause-at g c = c.renew_accounts.ensures.still ∙ c.move_to.ensures.at
