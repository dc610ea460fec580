use Rattle.std.proofs.Common.{◌∙◌, sym}
use Rattle.outside_io.proofs.PutLemmas.{puts_cut}
use Rattle.live_day.proofs.SetOutFacts.{cut_short, first_gone, goes_told, ok_given}
use Rattle.live_day.proofs.resuming.set_out.Goals as goal

pub returns-in_err-line-clause-told : goal.returns-in_err-line-clause-told
returns-in_err-line-clause-told g c = cut_short c.args.read.now c.args.written.now c.args.rest.now _ _ _ _ c.requires.within c.from_residual.ensures.0 c.in_err-line.ensures.told

pub go_on-requires : goal.go_on-requires
go_on-requires g c = (c.args.read.now, first_gone _ c.args.read.now c.in_ok-line.ensures.heard)

pub returns-in_err-go_on-in-None-clause-told : goal.returns-in_err-go_on-in-None-clause-told
returns-in_err-go_on-in-None-clause-told g c =
    goes_told c.args.read.now c.args.written.now c.args.rest.now _ _ _ _ _ _ c.requires.within (sym c.in-None.is ∙ c.in_ok-line.ensures.line) c.in_ok-line.ensures.told
    (c.in_err-go_on-in-None.ensures.told c.args.read.now (first_gone _ c.args.read.now c.in_ok-line.ensures.heard))
    (λ text put. puts_cut _ _ text _ c.from_residual-in_err-go_on-in-None.ensures.0 put.err)

pub returns-in_ok-go_on-in-None-clause-told : goal.returns-in_ok-go_on-in-None-clause-told
returns-in_ok-go_on-in-None-clause-told g c =
    goes_told c.args.read.now c.args.written.now c.args.rest.now _ _ _ _ _ _ c.requires.within (sym c.in-None.is ∙ c.in_ok-line.ensures.line) c.in_ok-line.ensures.told
    (c.in_ok-go_on-in-None.ensures.told c.args.read.now (first_gone _ c.args.read.now c.in_ok-line.ensures.heard))
    (ok_given _ _ _ _)
