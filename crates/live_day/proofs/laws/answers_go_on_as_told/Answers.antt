use Rattle.live_day.specs.Ends.{long_settles, none_told, own_status}
use Rattle.live_day.proofs.RunFacts.{answer_goes_on, told_goes_on}
use Rattle.live_day.proofs.laws.answers_go_on_as_told.Goals as goal

pub returns-clause-adds : goal.returns-clause-adds
returns-clause-adds c = told_goes_on

pub returns-clause-begins : goal.returns-clause-begins
returns-clause-begins c = answer_goes_on

pub returns-clause-none : goal.returns-clause-none
returns-clause-none c = none_told

pub returns-clause-long : goal.returns-clause-long
returns-clause-long c = long_settles

pub returns-clause-own_status : goal.returns-clause-own_status
returns-clause-own_status c = own_status
