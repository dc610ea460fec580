use Rattle.live_records.proofs.Continuing.{bytes_continue, records_continue}
use Rattle.live_records.proofs.laws.fronts_stay.Goals as goal

pub returns-clause-records : goal.returns-clause-records
returns-clause-records c = records_continue

pub returns-clause-bytes : goal.returns-clause-bytes
returns-clause-bytes c = bytes_continue
