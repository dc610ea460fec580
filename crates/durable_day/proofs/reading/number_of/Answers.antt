use Rattle.std.proofs.Common.{arith}
use Rattle.std.proofs.lemmas.Nat.{be_bytes_4}
use Rattle.durable_day.proofs.reading.number_of.Goals as goal

pub returns : goal.returns
returns c = be_bytes_4 c.args.four.now c.from_be_bytes.result c.requires (λ i. omega (arith, c.type_inv.four i)) c.from_be_bytes.ensures
