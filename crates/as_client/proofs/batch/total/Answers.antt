use Rattle.std.proofs.Common.{ℕ, ◌+◌, ◌≤◌, Option, None, Some, refl, arith}
use Rattle.std.specs.Option.{IsSome, SomeIff}
use Rattle.cash_amounts.specs.declared.cents.TheConstants.{MAX_CENTS}
use Rattle.as_client.proofs.SumFacts.{small_owed, small_owing}
use Rattle.as_client.proofs.batch.total.Goals as goal

pub all_owing-requires : goal.all_owing-requires
all_owing-requires c = small_owing c.args.positions.now c.requires.few c.requires.sizes

pub all_owed-requires : goal.all_owed-requires
all_owed-requires c = small_owed c.args.positions.now c.requires.few c.requires.sizes

pub overflow_add-all_owing : goal.overflow_add-all_owing
overflow_add-all_owing c = omega (arith, small_owing c.args.positions.now c.requires.few c.requires.sizes, small_owed c.args.positions.now c.requires.few c.requires.sizes)

is_there : (o : Option ℕ) (n : ℕ) → SomeIff o (n ≤ MAX_CENTS) n → n ≤ MAX_CENTS → IsSome o
is_there None n iff within = absurd (iff within)
is_there (Some x) n iff within = refl

pub unwrap-requires : goal.unwrap-requires
unwrap-requires c =
    is_there c.of.result (c.all_owing.result + c.all_owed.result) c.of.ensures
    (omega (arith, small_owing c.args.positions.now c.requires.few c.requires.sizes, small_owed c.args.positions.now c.requires.few c.requires.sizes))
