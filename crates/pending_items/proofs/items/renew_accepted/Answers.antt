use Rattle.std.proofs.Common.{◌≡◌, true, sym, ◌∙◌}
use Rattle.settlement_laws.proofs.Base.Lists.{never}
use Rattle.pending_items.specs.Concerned.{IsTold, is_taken_well}
use Rattle.pending_items.proofs.CycleFacts.{none_left}
use Rattle.pending_items.proofs.RenewFacts.{renewed_more, renewed_none}
use Rattle.pending_items.proofs.items.renew_accepted.Goals as goal

pub returns-then-not-takes_well-clause-rows : goal.returns-then-not-takes_well-clause-rows
returns-then-not-takes_well-clause-rows c =
    let day = c.args.setting.now.day in
    let head = c.args.head in
    renewed_none day c.args.facts.now (λ J x. (is_taken_well head ≡ true) × IsTold day c.args.batches.now head.msg x.msg) c.args.rows.now (λ J x i s h. never (is_taken_well head) h.0 (sym c.takes_well.ensures ∙ c.if-not-takes_well.true))

pub returns-then-not-takes_well-clause-batches : goal.returns-then-not-takes_well-clause-batches
returns-then-not-takes_well-clause-batches c = λ J s. none_left c.args.setting.now.day J c.args.head.msg c.args.batches.now

pub returns-clause-rows : goal.returns-clause-rows
returns-clause-rows c =
    let day = c.args.setting.now.day in
    let head = c.args.head in
    renewed_more day c.args.facts.now (λ J x. IsTold day c.args.batches.now head.msg x.msg) (λ J x. (is_taken_well head ≡ true) × IsTold day c.args.batches.now head.msg x.msg) _ _ (λ J x i s h. h.1) c.renew_told.ensures.rows
