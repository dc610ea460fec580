use Rattle.std.proofs.Common.{◌∙◌}
use Rattle.std.specs.List.{list_all}
use Rattle.proc_d.specs.Booked.{is_paid_out}
use Rattle.proc_d.proofs.OfMoves.{all_fit_is}
use Rattle.proc_d.proofs.acceptance.all_fit.Goals as goal

pub returns : goal.returns
returns c =
    let day = c.args.setting.now.day in
    c.are_paid_out.ensures ∙ (λ i. list_all (is_paid_out day (c.technical_of.ensures i)) (c.entry_moves.ensures i)) ∙ all_fit_is day c.args.n
