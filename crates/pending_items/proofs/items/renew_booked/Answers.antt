use Rattle.std.proofs.Common.{◌≡◌, true}
use Rattle.pending_items.specs.Concerned.{IsMet}
use Rattle.pending_items.proofs.ConcernFacts.{split_booked}
use Rattle.pending_items.proofs.RenewFacts.{renewed_then}
use Rattle.pending_items.proofs.items.renew_booked.Goals as goal

pub returns : goal.returns
returns c =
    let day = c.args.setting.now.day in
    let head = c.args.head in
    renewed_then day c.args.facts.now (λ J x. x ≡ record { msg = head.msg; entry = head.entry }) (λ J x. (x.msg ≡ head.msg) × (c.frees.result ≡ true)) (IsMet day head) _ _ _
    (λ J x i s h. split_booked day head c.frees.result J x c.requires s.legal (c.frees.ensures J s) h) c.renew.ensures c.renew_if.ensures
