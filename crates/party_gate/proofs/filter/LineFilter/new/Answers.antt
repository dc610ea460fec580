use Rattle.std.proofs.Common.{◌∙◌, refl}
use Rattle.party_gate.specs.Lines.{lines_from, open_from}
use Rattle.party_gate.specs.Passing.{end_of}
use Rattle.party_gate.proofs.filter.LineFilter.new.Goals as goal

pub returns : goal.returns
unfolding lines_from open_from end_of
returns g c = record { named = c.new.ensures.name ∙ c.requires; ended = refl; counted = refl; kept = λ none. c.new.ensures.none }
