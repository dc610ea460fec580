use Rattle.std.proofs.Common.{◌≡◌, ◌∙◌, ◌+◌, length, ap, refl, arith}
use Rattle.batch_records.proofs.SoundFacts.{message_parts}
use Rattle.rule_book.specs.Owed.{Debts, owed}
use Rattle.rule_book.proofs.Summing.{b_few, b_fit, b_next, is_there, none_of_none, nothing_owed, one_more, still_free}
use Rattle.rule_book.proofs.debtor_sums.DebtorSums.build.Goals as goal

pub overflow_cast-b_entries : goal.overflow_cast-b_entries
overflow_cast-b_entries c =
    let few = b_few c.args.day.now.messages in
    let most = (message_parts c.args.day.now c.requires.sound).few_entries in
    omega (arith, few, most, c.b_entries.ensures)

pub loop-before-init : goal.loop-before-init
loop-before-init c = record {
  entered = λ m a l h. absurd (none_of_none c.args.day.now m l h);
  free = λ m a l. nothing_owed _ _ m a c.in_ok-debts.ensures;
  count = let e = ap (λ (d : Debts). length d.keys) c.in_ok-debts.ensures in omega (arith, e);
  most = ap (λ (d : Debts). d.most) c.in_ok-debts.ensures ∙ c.b_entries.ensures;
}

pub add_message-requires-clause-none : goal.add_message-requires-clause-none
add_message-requires-clause-none c = λ a. c.loop-before.invariant.free (c.loop-before.before + 1) a (omega arith)

pub add_message-requires-clause-room : goal.add_message-requires-clause-room
add_message-requires-clause-room c =
    let fit = b_fit c.args.day.now c.loop-before.before (omega (arith, c.message_count-count.ensures)) in
    omega (arith, fit, c.loop-before.invariant.count, c.loop-before.invariant.most)

pub loop-before-preserved : goal.loop-before-preserved
loop-before-preserved c =
    let i = c.loop-before.before in
    let old = owed c.loop-before.debts in
    let new = owed c.add_message.new.sums in
    record {
      entered = one_more c.args.day.now i (i + 1) old new refl c.loop-before.invariant.entered c.add_message.ensures.own c.add_message.ensures.others;
      free = still_free i (i + 1) old new refl c.loop-before.invariant.free c.add_message.ensures.others;
      count = (let more = b_next c.args.day.now i (omega (arith, c.message_count-count.ensures)) in omega (arith, more, c.add_message.ensures.count, c.loop-before.invariant.count));
      most = c.add_message.ensures.most ∙ c.loop-before.invariant.most;
    }

pub returns : goal.returns
returns c =
    let all : c.loop-before.before ≡ length c.args.day.now.messages = omega (arith, c.message_count-count.ensures) in
    record {
      owes = λ n a h.
          let there = is_there c.args.day.now n h in
          c.loop-before.invariant.entered n a (omega (arith, there, all)) h;
      free = λ n a l. c.loop-before.invariant.free n a (omega (arith, l, all));
    }
