use Rattle.commit_journal.specs.Histories.{oldest}
use Rattle.day_page.proofs.StakeFacts.{waiting_is}
use Rattle.day_page.proofs.peaks.waiting_at.Goals as goal

pub returns : goal.returns
returns c = waiting_is c.args.past.now.setting.now.day c.args.request.now (oldest c.args.past.now.journal.now.history c.args.past.now.place) c.args.ledger.now _ c.requires c.clock.ensures
