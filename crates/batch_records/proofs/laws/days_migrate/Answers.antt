use Rattle.batch_records.specs.Meets.{migrated}
use Rattle.batch_records.proofs.RoundTrip.{read_back}
use Rattle.batch_records.proofs.SoundMeets.{second_meets}
use Rattle.batch_records.proofs.laws.days_migrate.Goals as goal

pub returns : goal.returns
returns c = record { meets = second_meets; read = λ day m. read_back (migrated day) (second_meets day m) }
