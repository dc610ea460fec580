use Rattle.std.proofs.Common.{◌∙◌, ap, false, length, sym}
use Rattle.rule_book.specs.Rows.{cut}
use Rattle.day_facts.proofs.Lists.{change_length}
use Rattle.day_facts.proofs.RowLemmas.{counted_less, flagged_in, flags_changed, flags_low, flags_none}
use Rattle.day_facts.proofs.flags.lower_in.Goals as goal

pub returns-in_default-clause-rows : goal.returns-in_default-clause-rows
returns-in_default-clause-rows c = flags_none c.args.ends.now c.args.n c.args.k c.args.items.now c.requires.rises c.in_default.ensures

pub returns-then-not-flag_of-clause-rows : goal.returns-then-not-flag_of-clause-rows
returns-then-not-flag_of-clause-rows c = flags_low (cut 0 c.args.ends.now c.args.items.now) c.args.n c.args.k
    (sym (flagged_in c.args.ends.now c.args.items.now c.args.n c.args.k _ c.requires.rises c.in-Some.ensures) ∙ sym c.if-not-flag_of.ensures)

pub returns-clause-rows : goal.returns-clause-rows
returns-clause-rows c = ap (cut 0 c.args.ends.now) c.lower.ensures ∙ flags_changed c.args.ends.now c.args.n c.args.k _ c.args.items.now c.requires.rises c.in-Some.ensures

pub returns-clause-counted : goal.returns-clause-counted
returns-clause-counted c = counted_less c.args.ends.now c.args.items.now _ c.args.standing.now _ c.args.n c.args.k _ c.requires c.in-Some.ensures (sym c.if-not-flag_of.ensures) c.lower.ensures c.count_down.ensures

pub returns-clause-length : goal.returns-clause-length
returns-clause-length c = ap length c.lower.ensures ∙ change_length _ (λ flag. false) c.args.items.now
