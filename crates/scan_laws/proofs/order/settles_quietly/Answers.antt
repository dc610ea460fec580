use Rattle.scan_laws.proofs.Settling.{settle-run, settle-anywhere, quiet_from-start, quiet_from-line, quiet_from-turn, quiet_from-end, line-legal, steps-fall, turn-falls}
use Rattle.scan_laws.proofs.order.settles_quietly.Goals as goal

pub returns-clause-run : goal.returns-clause-run
returns-clause-run c = settle-run

pub returns-clause-anywhere : goal.returns-clause-anywhere
returns-clause-anywhere c = settle-anywhere

pub returns-clause-start : goal.returns-clause-start
returns-clause-start c = quiet_from-start

pub returns-clause-line : goal.returns-clause-line
returns-clause-line c = quiet_from-line

pub returns-clause-turn : goal.returns-clause-turn
returns-clause-turn c = quiet_from-turn

pub returns-clause-end : goal.returns-clause-end
returns-clause-end c = quiet_from-end

pub returns-clause-legal : goal.returns-clause-legal
returns-clause-legal c = line-legal

pub returns-clause-falls : goal.returns-clause-falls
returns-clause-falls c = steps-fall

pub returns-clause-turn_falls : goal.returns-clause-turn_falls
returns-clause-turn_falls c = turn-falls
