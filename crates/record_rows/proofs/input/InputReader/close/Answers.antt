use Rattle.std.proofs.Common.{◌∙◌, ap}
use Rattle.record_rows.specs.Input.{Seen, place_of}
use Rattle.record_rows.proofs.input.InputReader.close.Goals as goal

pub returns-clause-closes : goal.returns-clause-closes
returns-clause-closes c = λ input is. c.close.ensures.closes (place_of input) (ap (λ (s : Seen). s.place) (c.self.view_is ∙ is))
