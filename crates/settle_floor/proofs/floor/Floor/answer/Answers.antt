use Rattle.settle_floor.proofs.Making.{kept_still, newest_answered, newest_can, newest_kept, same_accounts}
use Rattle.std.proofs.Common.{ap, refl}
use Rattle.settle_floor.specs.Floors.{OnFloor}
use Rattle.settle_floor.proofs.floor.Floor.answer.Goals as goal

pub carry_out-requires : goal.carry_out-requires
carry_out-requires g c =
    let e = c.in-Ok.ensures.entered in
    newest_can c.args.setting.now.day c.args.setting.now.sound c.args.self.now.journal c.enter.new.self.journal c.journal.result.now c.args.want c.in-Ok.place _ _ (g.T.Holdings.holdings c.args.till.now) c.requires.opened.fits
    (record { line = e.0; made = e.1; lines = e.2; at = e.3 }) c.journal.ensures c.line.ensures c.requires.kept c.requires.held

pub returns-in-Ok-clause-kept : goal.returns-in-Ok-clause-kept
returns-in-Ok-clause-kept g c =
    let e = c.in-Ok.ensures.entered in
    newest_kept c.args.setting.now.day c.args.setting.now.sound c.args.self.now.journal c.enter.new.self.journal c.journal.result.now c.args.want c.in-Ok.place _ _ (g.T.Holdings.holdings c.args.till.now) (g.T.Holdings.holdings c.carry_out.new.till) c.requires.opened.fits
    (record { line = e.0; made = e.1; lines = e.2; at = e.3 }) c.journal.ensures c.line.ensures c.requires.kept c.requires.held c.carry_out.ensures

pub returns-in-Err-clause-kept : goal.returns-in-Err-clause-kept
returns-in-Err-clause-kept g c = kept_still c.args.setting.now.day c.args.self.now.journal c.enter.new.self.journal _ _ (ap (λ (f : OnFloor). f.journal) c.in-Err.ensures.entered.1) refl c.requires.kept

pub returns-in-Ok-clause-same : goal.returns-in-Ok-clause-same
returns-in-Ok-clause-same g c = same_accounts _ _ c.line.result.1.now c.carry_out.ensures

pub returns-in-Ok-clause-answered : goal.returns-in-Ok-clause-answered
returns-in-Ok-clause-answered g c =
    let e = c.in-Ok.ensures.entered in
    newest_answered c.args.setting.now.day c.args.self.now.journal c.enter.new.self.journal c.journal.result.now c.args.want c.in-Ok.place _ _ (g.T.Holdings.holdings c.args.till.now) (g.T.Holdings.holdings c.carry_out.new.till)
    (record { line = e.0; made = e.1; lines = e.2; at = e.3 }) c.journal.ensures c.line.ensures c.carry_out.ensures
