use Rattle.std.proofs.Common.{◌≡◌, ◌∙◌, ◌+◌, ◌<◌, ◌≤◌, ◌++◌, suc, ap, arith, length, map, refl, take}
use Rattle.std.specs.Prelude.{count_by}
use Rattle.std.specs.List.{range_with_len}
use Rattle.std.proofs.lemmas.List.{length-set}
use Rattle.cash_amounts.specs.declared.limits.TheConstants.{MAX_ENTRIES}
use Rattle.machine.specs.Records.Messages.{entries}
use Rattle.machine.proofs.Lists.{none_pushed}
use Rattle.day_facts.specs.Left.{is_watched}
use Rattle.day_facts.proofs.RowLemmas.{at_most_one, few_stand, flag_put, one_more}
use Rattle.day_facts.proofs.flags.fill.Goals as goal

pub loop-k-init : goal.loop-k-init
loop-k-init c =
    let none : c.args.start + 0 ≡ c.args.start = omega arith in
    record { front = ap (λ n. take n c.args.items.now) none ∙ none_pushed (take c.args.start c.args.items.now); size = refl; count = refl }

pub overflow_add-standing : goal.overflow_add-standing
overflow_add-standing c =
    let low : count_by (λ flag. flag) (map (is_watched c.args.watched c.args.setting.now.day c.args.n) (range_with_len 0 c.loop-k.k)) ≤ c.loop-k.k = few_stand (is_watched c.args.watched c.args.setting.now.day c.args.n) c.loop-k.k in
    let one : c.one_if-standing.result ≤ 1 = at_most_one c.is_watched-stands.result c.one_if-standing.result c.one_if-standing.ensures in
    let there : c.loop-k.standing ≡ count_by (λ flag. flag) (map (is_watched c.args.watched c.args.setting.now.day c.args.n) (range_with_len 0 c.loop-k.k)) = c.loop-k.invariant.count in
    let few : c.entry_count-k-end.result ≤ MAX_ENTRIES = c.entry_count-k-end.ensures.few in
    omega (arith, low, one, there, few)

pub loop-k-preserved : goal.loop-k-preserved
loop-k-preserved c =
    let flag = is_watched c.args.watched c.args.setting.now.day c.args.n in
    let at = c.args.start + c.loop-k.k in
    let within : at < length c.loop-k.items = omega (arith, c.requires, c.loop-k.invariant.size, c.entry_count-k-end.ensures.count) in
    record {
      front = flag_put flag c.args.items.now c.loop-k.items _ c.args.start c.loop-k.k at _ c.loop-k.invariant.front refl within c.is_watched-stands.ensures c.put.ensures;
      size = ap length c.put.ensures ∙ (length-set c.loop-k.items at c.is_watched-stands.result ∙ c.loop-k.invariant.size);
      count = one_more flag c.loop-k.k c.loop-k.standing _ _ c.loop-k.invariant.count c.is_watched-stands.ensures (ap (λ x. c.loop-k.standing + x) c.one_if-standing.ensures);
    }

pub returns-clause-front : goal.returns-clause-front
returns-clause-front c =
    let all : c.loop-k.k ≡ suc (length (entries c.args.setting.now.day c.args.n)) = omega (arith, c.entry_count-k-end.ensures.count) in
    let last : c.args.start + (length (entries c.args.setting.now.day c.args.n) + 1) ≡ c.args.start + c.loop-k.k = omega (arith, all) in
    ap (λ n. take n c.loop-k.items) last
    ∙ (c.loop-k.invariant.front ∙ ap (λ len. take c.args.start c.args.items.now ++ map (is_watched c.args.watched c.args.setting.now.day c.args.n) (range_with_len 0 len)) all)

pub returns-clause-count : goal.returns-clause-count
returns-clause-count c =
    let all : c.loop-k.k ≡ suc (length (entries c.args.setting.now.day c.args.n)) = omega (arith, c.entry_count-k-end.ensures.count) in
    c.loop-k.invariant.count ∙ ap (λ len. count_by (λ flag. flag) (map (is_watched c.args.watched c.args.setting.now.day c.args.n) (range_with_len 0 len))) all
