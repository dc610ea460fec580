use Rattle.as_client.proofs.SumFacts.{small_owed, small_owing}
use Rattle.as_client.proofs.batch.sum_of.Goals as goal

pub all_owed-requires : goal.all_owed-requires
all_owed-requires c = small_owed c.args.positions.now c.requires.few c.requires.sizes

pub all_owing-requires : goal.all_owing-requires
all_owing-requires c = small_owing c.args.positions.now c.requires.few c.requires.sizes
