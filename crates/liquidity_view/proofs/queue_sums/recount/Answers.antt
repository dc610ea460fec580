use Rattle.std.proofs.Common.{◌≡◌, ◌∙◌, ◌+◌, ◌<◌, true, ap, arith, get_or-set_other, length, refl}
use Rattle.std.proofs.lemmas.List.{length-set}
use Rattle.commit_journal.specs.Histories.{oldest}
use Rattle.number_set.specs.Members.{has}
use Rattle.due_items.specs.Kept.{Due}
use Rattle.liquidity_view.proofs.CountFacts.{below_end, due_forgets, gone_then, looked_at, none_left, none_recounted, one_recounted, recounted_more}
use Rattle.liquidity_view.proofs.queue_sums.recount.Goals as goal

pub loop-number-init : goal.loop-number-init
loop-number-init c = record {
  due = c.requires.due;
  sums = c.requires.sums;
  size = refl;
  same = λ j l. refl;
  gone = λ j l. absurd (omega (arith, l));
  counted = none_recounted c.args.past.now.setting.now.day (oldest c.args.past.now.journal.now.history c.args.past.now.place) _ c.args.counted.now.set (λ i h. let l = h.0 in omega (arith, l));
}

pub recount_one-requires-clause-within : goal.recount_one-requires-clause-within
recount_one-requires-clause-within c = let within = c.in-Some.ensures.within in let room = c.loop-number.invariant.due.room in omega (arith, within, room)

pub loop-number-preserved : goal.loop-number-preserved
loop-number-preserved c =
    let day = c.args.past.now.setting.now.day in
    let K = oldest c.args.past.now.journal.now.history c.args.past.now.place in
    let number = c.in-Some.number in
    let old = c.args.due.now.renewed in
    let least = c.in-Some.ensures.next in
    let before = c.loop-number.invariant in
    record {
      due = due_forgets day K c.loop-number.due number _ before.due c.forget.ensures;
      sums = c.recount_one.ensures.sums;
      size = ap (λ (x : Due). length x.renewed) c.forget.ensures ∙ (length-set c.loop-number.due.renewed number _ ∙ before.size);
      same = λ j l. ap (λ (x : Due). has x.renewed j) c.forget.ensures ∙ (get_or-set_other c.loop-number.due.renewed number j _ _ (λ e. omega (arith, l, e)) ∙ (let a = least.at_least in before.same j (omega (arith, l, a))));
      gone = λ j l. ap (λ (x : Due). has x.renewed j) c.forget.ensures ∙ gone_then c.loop-number.due.renewed c.loop-number.from number j before.gone least c.in-Some.ensures.within l;
      counted = one_recounted day K (λ i. (i < c.loop-number.from) × (has old i ≡ true)) (λ i. (i < number + 1) × (has old i ≡ true)) c.args.counted.now.set c.loop-number.counted.set _ number before.counted
          (let within = c.in-Some.ensures.within in let room = before.due.room in let size = before.sums.room in omega (arith, within, room, size))
          c.recount_one.ensures.set
          (λ i h ne. (looked_at c.loop-number.from number i old c.loop-number.due.renewed least before.same h.0 h.1 ne, h.1));
    }

pub returns-clause-renewed : goal.returns-clause-renewed
returns-clause-renewed c =
    recounted_more c.args.past.now.setting.now.day (oldest c.args.past.now.journal.now.history c.args.past.now.place) _ (λ i. has c.args.due.now.renewed i ≡ true) c.args.counted.now.set c.loop-number.counted.set c.loop-number.invariant.counted
    (λ i h. (below_end c.loop-number.from i c.args.due.now.renewed c.loop-number.due.renewed c.in_default.ensures.next c.loop-number.invariant.same h, h))

pub returns-clause-forgotten : goal.returns-clause-forgotten
returns-clause-forgotten c = none_left c.loop-number.due.renewed c.loop-number.from c.loop-number.invariant.gone c.in_default.ensures.next
