use Rattle.std.proofs.Common.{◌<◌, ◌+◌, length, sym, subst, arith}
use Rattle.std.specs.Prelude.{bytes_eq}
use Rattle.batch_records.proofs.NumberFacts.{number_within}
use Rattle.batch_records.proofs.stated.reserve_from.Goals as goal

pub overflow_cast-result : goal.overflow_cast-result
overflow_cast-result c =
    let few = c.requires.few in
    let within = number_within (λ a. bytes_eq a.name c.field.result.now) 1 c.args.accounts.now (omega arith) in
    let is = rw c.number.ensures at c.unwrap_or.ensures in
    let small = subst (λ k. k < 1 + length c.args.accounts.now) (sym is) within in
    omega (arith, few, small)
