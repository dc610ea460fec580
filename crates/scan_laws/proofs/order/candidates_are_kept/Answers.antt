use Rattle.scan_laws.proofs.CandidateFacts.{candidates-represent, first-next, first-turned, candidate-kept, candidates-first, candidates-turned}
use Rattle.scan_laws.proofs.order.candidates_are_kept.Goals as goal

pub returns-clause-represent : goal.returns-clause-represent
returns-clause-represent c = candidates-represent

pub returns-clause-next : goal.returns-clause-next
returns-clause-next c = first-next

pub returns-clause-round : goal.returns-clause-round
returns-clause-round c = first-turned

pub returns-clause-kept : goal.returns-clause-kept
returns-clause-kept c = candidate-kept

pub returns-clause-turned : goal.returns-clause-turned
returns-clause-turned c = candidates-turned

pub returns-clause-first : goal.returns-clause-first
returns-clause-first c = candidates-first
