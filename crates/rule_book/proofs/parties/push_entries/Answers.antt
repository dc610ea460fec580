use Rattle.std.proofs.Common.{◌∙◌, ◌+◌, length, ap, refl, arith}
use Rattle.rule_book.specs.Settings.{move_in}
use Rattle.rule_book.proofs.ArrivingKeys.{adds_nothing, adds_then}
use Rattle.rule_book.proofs.FewEntries.{few_entries}
use Rattle.rule_book.proofs.MoveFacts.{moved_at}
use Rattle.rule_book.proofs.PartyFacts.{all_listed, entry_is, first_none, one_more}
use Rattle.rule_book.proofs.parties.push_entries.Goals as goal

pub overflow_cast-before-end : goal.overflow_cast-before-end
overflow_cast-before-end c = omega (arith, ap length c.entries.ensures, few_entries c.args.day.now c.args.n c.requires.sound)

pub loop-before-init : goal.loop-before-init
loop-before-init c = record {
  own = λ k b some l h. first_none c.args.day.now c.args.numbers.now c.args.keys.now.items c.args.n k b l h;
  more = adds_nothing c.args.n c.args.keys.now.items;
  len = omega arith;
  capacity = refl;
}

pub push_entry-requires : goal.push_entry-requires
push_entry-requires c = omega (arith, c.requires.room, c.loop-before.invariant.len, c.loop-before.invariant.capacity, c.loop-before-test.true, ap length c.entries.ensures, few_entries c.args.day.now c.args.n c.requires.sound)

pub loop-before-preserved : goal.loop-before-preserved
loop-before-preserved c =
    let day = c.args.day.now in
    let n = c.args.n in
    let i = c.loop-before.before in
    let found = entry_is day n i (i + 1) c.at-found.result refl (c.at-found.ensures ∙ (λ j. move_in (c.requires.moved j) n (c.from.ensures j + 1)) ∙ moved_at day n (i + 1)) in
    record {
      own = one_more day c.args.numbers.now c.loop-before.keys.items c.push_entry.new.keys.items n i (i + 1) c.at-found.result refl found
          c.loop-before.invariant.own c.push_entry.ensures.more.keeps c.push_entry.ensures.listed;
      more = adds_then n c.args.keys.now.items c.loop-before.keys.items c.push_entry.new.keys.items c.loop-before.invariant.more c.push_entry.ensures.more;
      len = omega (arith, c.loop-before.invariant.len, c.push_entry.ensures.len);
      capacity = c.push_entry.ensures.capacity ∙ c.loop-before.invariant.capacity;
    }

pub returns-clause-listed : goal.returns-clause-listed
returns-clause-listed c =
    all_listed c.args.day.now c.args.numbers.now c.loop-before.keys.items c.args.n c.loop-before.before c.requires.numbered
    (omega (arith, c.loop-before-test.false, c.loop-before.auto.before-end, ap length c.entries.ensures))
    c.loop-before.invariant.own
