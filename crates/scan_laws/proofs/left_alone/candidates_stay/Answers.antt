use Rattle.scan_laws.proofs.Staying.{stays_by_queue, stays_by_touch}
use Rattle.scan_laws.proofs.left_alone.candidates_stay.Goals as goal

pub returns-clause-queue : goal.returns-clause-queue
returns-clause-queue c = stays_by_queue

pub returns-clause-touch : goal.returns-clause-touch
returns-clause-touch c = stays_by_touch
