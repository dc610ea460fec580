use Rattle.std.proofs.Common.{◌≡◌, ◌∙◌, ◌+◌, ◌*◌, ap, arith, length, refl, subst, sym}
use Rattle.rule_book.specs.Parties.{AreBefore, Listed, PartyRoom}
use Rattle.rule_book.proofs.PartyFacts.{batch_more, informed_there, none_informed}
use Rattle.rule_book.proofs.Summing.{entries_fit, entries_next}
use Rattle.rule_book.proofs.parties.Parties.build.Goals as goal

pub in_room-parties-requires-clause-fits : goal.in_room-parties-requires-clause-fits
in_room-parties-requires-clause-fits c = let most = ap (λ (r : PartyRoom). r.accounts) c.in_ok-room.ensures in omega (arith, most, ap length c.accounts.ensures)

pub loop-before-init : goal.loop-before-init
loop-before-init c = record {
  listed = λ m l h. absurd (none_informed c.args.day.now m l h);
  earlier = subst (AreBefore 1) (sym (ap (λ (l : Listed). l.keys) c.in_room-parties.ensures)) (λ x h. cc);
  numbers = ap (λ (l : Listed). l.numbers) c.in_room-parties.ensures;
  count = (let e = ap (λ (l : Listed). length l.keys) c.in_room-parties.ensures in omega (arith, e));
  most = ap (λ (l : Listed). l.most) c.in_room-parties.ensures ∙ (ap (λ (r : PartyRoom). r.most) c.in_ok-room.ensures ∙ ap (λ n. 2 * n) c.entry_count.ensures);
}

pub arrive-requires-clause-before : goal.arrive-requires-clause-before
arrive-requires-clause-before c = c.loop-before.invariant.earlier

pub arrive-requires-clause-room : goal.arrive-requires-clause-room
arrive-requires-clause-room c =
    let fit = entries_fit c.args.day.now c.loop-before.before (omega (arith, c.message_count-count.ensures)) in
    omega (arith, fit, c.loop-before.invariant.count, c.loop-before.invariant.most)

pub loop-before-preserved : goal.loop-before-preserved
loop-before-preserved c =
    let day = c.args.day.now in
    let i = c.loop-before.before in
    record {
      listed = batch_more day i (i + 1) c.loop-before.parties.keys c.arrive.new.self.keys refl c.loop-before.invariant.listed c.arrive.ensures.arrived.keeps c.arrive.ensures.arrived.lists;
      earlier = c.arrive.ensures.arrived.before;
      numbers = c.arrive.ensures.numbers ∙ c.loop-before.invariant.numbers;
      count = (let more = entries_next day i (omega (arith, c.message_count-count.ensures)) in omega (arith, more, c.arrive.ensures.len, c.loop-before.invariant.count));
      most = c.arrive.ensures.most ∙ c.loop-before.invariant.most;
    }

pub returns : goal.returns
returns c =
    let all : c.loop-before.before ≡ length c.args.day.now.messages = omega (arith, c.message_count-count.ensures) in
    record {
      lists = λ n h.
          let there = informed_there c.args.day.now n h in
          c.loop-before.invariant.listed n (omega (arith, there, all)) h;
      before = subst (λ k. AreBefore (k + 1) c.loop-before.parties.keys) all c.loop-before.invariant.earlier;
      numbers = c.loop-before.invariant.numbers;
    }
