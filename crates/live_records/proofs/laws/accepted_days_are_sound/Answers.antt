use Rattle.live_records.proofs.AcceptedFacts.{accepted_fine, accepted_sound, begun_started, ended_started}
use Rattle.live_records.proofs.laws.accepted_days_are_sound.Goals as goal

pub returns-clause-fine : goal.returns-clause-fine
returns-clause-fine c = accepted_fine

pub returns-clause-sound : goal.returns-clause-sound
returns-clause-sound c = accepted_sound

pub returns-clause-begun : goal.returns-clause-begun
returns-clause-begun c = begun_started

pub returns-clause-ended : goal.returns-clause-ended
returns-clause-ended c = ended_started
