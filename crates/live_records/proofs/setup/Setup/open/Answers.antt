use Rattle.live_records.proofs.SetupFacts.{opened_fits, opened_heard}
use Rattle.live_records.proofs.setup.Setup.open.Goals as goal

pub returns-clause-heard : goal.returns-clause-heard
returns-clause-heard c =
    opened_heard c.args.self.so_far c.open-day.result.1 c.args.coming c.open-day.result.0 c.args.room c.requires.setup c.requires.started c.requires.shut c.open-day.ensures.tally c.open-day.ensures.day

pub returns-clause-fits : goal.returns-clause-fits
returns-clause-fits c =
    opened_fits c.args.self.so_far c.open-day.result.1 c.args.coming c.open-day.result.0 c.args.room c.requires.setup c.open-day.ensures.small c.requires.shut c.requires.most c.requires.room c.open-day.ensures.tally c.open-day.ensures.day
