use Rattle.live_records.proofs.EarGrows.{hears_begun, hears_goes, hears_grow}
use Rattle.live_records.proofs.HearingFacts.{told}
use Rattle.live_records.proofs.ear.Ear.hear.Goals as goal

pub returns-clause-told : goal.returns-clause-told
returns-clause-told c h r is k =
    told h r c.args.row.now c.args.self.now c.step.new.self c.args.day.now c.step.new.day c.step.result is c.requires.late k c.requires.shut c.step.ensures.heard

pub returns-clause-day : goal.returns-clause-day
returns-clause-day c = hears_grow c.args.row.now c.args.self.now c.step.new.self c.args.day.now c.step.new.day c.step.result c.step.ensures.heard

pub returns-clause-begun : goal.returns-clause-begun
returns-clause-begun c = hears_begun c.args.row.now c.args.self.now c.step.new.self c.args.day.now c.step.new.day c.step.result c.requires.late c.step.ensures.heard

pub returns-clause-goes : goal.returns-clause-goes
returns-clause-goes c = hears_goes c.args.row.now c.args.self.now c.step.new.self c.args.day.now c.step.new.day c.step.result c.step.ensures.heard
