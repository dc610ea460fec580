use Rattle.scan_laws.proofs.Alike.{unconcerned}
use Rattle.scan_laws.proofs.Items.{same_item}
use Rattle.scan_laws.proofs.left_alone.unconcerned_is_unchanged.Goals as goal

pub returns-clause-message : goal.returns-clause-message
returns-clause-message c = unconcerned

pub returns-clause-item : goal.returns-clause-item
returns-clause-item c = same_item
