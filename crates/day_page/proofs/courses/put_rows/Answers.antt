use Rattle.std.proofs.Common.{◌∙◌, ◌+◌, arith, length}
use Rattle.day_page.proofs.MemberFacts.{are_counts}
use Rattle.day_page.proofs.courses.put_rows.Goals as goal

pub put_rows_by-requires-clause-counts : goal.put_rows_by-requires-clause-counts
put_rows_by-requires-clause-counts c =
    are_counts c.args.shown.now _ (length c.args.setting.now.day.accounts + 1) (c.as_slice.ensures.value ∙ c.in_ok-counts.ensures) (λ i l. let low = (c.requires.accounts i l).1 in omega (arith, low))
