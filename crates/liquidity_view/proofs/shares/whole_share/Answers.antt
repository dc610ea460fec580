use Rattle.std.proofs.Common.{◌≡◌, ◌∙◌, ◌≤◌, ap, arith, length, take}
use Rattle.std.specs.Prelude.{sum_by}
use Rattle.std.proofs.lemmas.List.{take_all}
use Rattle.cash_amounts.specs.declared.limits.TheConstants.{MAX_ENTRIES}
use Rattle.machine.specs.Records.Messages.{entries}
use Rattle.rule_book.proofs.FewEntries.{few_entries}
use Rattle.liquidity_view.specs.Figures.{entry_share, is_entry_on}
use Rattle.liquidity_view.specs.Shares.{share_on}
use Rattle.liquidity_view.proofs.Sums.{sum_chosen}
use Rattle.liquidity_view.proofs.shares.whole_share.Goals as goal

pub returns-clause-value : goal.returns-clause-value
returns-clause-value c =
    let day = c.args.setting.now.day in
    let all : take c.loop-entry.entry-index (entries day c.args.n) ≡ entries day c.args.n = take_all c.loop-entry.entry-index (entries day c.args.n) (omega (arith, c.loop-entry-test.false, ap length c.entries-listed.ensures)) in
    c.loop-entry.invariant.sum ∙ ap (sum_by (share_on c.args.side day c.args.name.now c.args.n)) all
    ∙ sum_chosen (is_entry_on c.args.side day c.args.n) (entry_share c.args.side day c.args.name.now) (entries day c.args.n)

pub returns-clause-small : goal.returns-clause-small
returns-clause-small c =
    let small = c.loop-entry.invariant.small in
    let end : c.loop-entry.entry-index ≤ length c.entries-listed.result.now = c.loop-entry.auto.entry-index-end in
    let long : length c.entries-listed.result.now ≡ length (entries c.args.setting.now.day c.args.n) = ap length c.entries-listed.ensures in
    let few : length (entries c.args.setting.now.day c.args.n) ≤ MAX_ENTRIES = few_entries c.args.setting.now.day c.args.n c.args.setting.now.sound in
    omega (arith, small, end, long, few)
