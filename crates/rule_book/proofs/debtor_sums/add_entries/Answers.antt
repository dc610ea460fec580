use Rattle.std.proofs.Common.{◌≡◌, ◌∙◌, ◌+◌, length, ap, refl, arith}
use Rattle.std.specs.Prelude.{nat_eq}
use Rattle.machine.specs.Records.Messages.{entries}
use Rattle.rule_book.specs.Owed.{debited, owed}
use Rattle.rule_book.specs.Moves.{move_in}
use Rattle.rule_book.proofs.FewEntries.{few_entries}
use Rattle.rule_book.proofs.MoveFacts.{moved_at}
use Rattle.rule_book.proofs.Summing.{other_same, own_more, so_far_all, so_far_next, so_far_small}
use Rattle.rule_book.proofs.debtor_sums.add_entries.Goals as goal

pub overflow_cast-before-end : goal.overflow_cast-before-end
overflow_cast-before-end c = omega (arith, ap length c.entries.ensures, few_entries c.args.day.now c.args.n c.requires.sound)

pub loop-before-init : goal.loop-before-init
loop-before-init c = record {
  own = λ a. c.requires.none a;
  others = λ m a e. refl;
  count = omega arith;
  most = refl;
}

pub add_entry-requires-clause-small : goal.add_entry-requires-clause-small
add_entry-requires-clause-small c = λ a.
    let day = c.args.day.now in
    let own = c.loop-before.invariant.own a in
    let small = so_far_small day c.args.n a c.loop-before.before c.requires.sound in
    omega (arith, own, small, c.loop-before-test.true, ap length c.entries.ensures, few_entries day c.args.n c.requires.sound)

pub add_entry-requires-clause-room : goal.add_entry-requires-clause-room
add_entry-requires-clause-room c = omega (arith, c.requires.room, c.loop-before.invariant.count, c.loop-before.invariant.most, c.loop-before-test.true, ap length c.entries.ensures, few_entries c.args.day.now c.args.n c.requires.sound)

pub loop-before-preserved : goal.loop-before-preserved
loop-before-preserved c =
    let day = c.args.day.now in
    let n = c.args.n in
    let i = c.loop-before.before in
    let found = c.at-found.ensures ∙ ap (λ rows. move_in rows n (i + 1)) c.requires.moved ∙ moved_at day n (i + 1) in
    let technical = ap (λ x. x.technical) c.accounts_of-accounts.ensures in
    record {
      own = λ a.
          own_more n (owed c.loop-before.sums n a) _ _ (c.add_entry.ensures.sums n a)
          ∙ (λ k. c.loop-before.invariant.own a k + debited (technical k) c.at-found.result a)
          ∙ so_far_next day n a i (i + 1) c.at-found.result refl found;
      others = λ m a e. other_same (nat_eq n m) (owed c.loop-before.sums m a) _ _ (c.add_entry.ensures.sums m a) e ∙ c.loop-before.invariant.others m a e;
      count = omega (arith, c.add_entry.ensures.count, c.loop-before.invariant.count);
      most = c.add_entry.ensures.most ∙ c.loop-before.invariant.most;
    }

pub returns-clause-count : goal.returns-clause-count
returns-clause-count c =
    let all : c.loop-before.before ≡ length (entries c.args.day.now c.args.n) = omega (arith, ap length c.entries.ensures) in
    omega (arith, c.loop-before.invariant.count, all)

pub returns-clause-own : goal.returns-clause-own
returns-clause-own c = λ a.
    let all : c.loop-before.before ≡ length (entries c.args.day.now c.args.n) = omega (arith, ap length c.entries.ensures) in
    c.loop-before.invariant.own a ∙ so_far_all c.args.day.now c.args.n a c.loop-before.before all
