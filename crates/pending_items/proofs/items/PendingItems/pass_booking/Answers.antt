use Rattle.std.proofs.Common.{refl, ap, ◌∙◌, subst}
use Rattle.commit_journal.specs.declared.line.Head.{Head}
use Rattle.machine.specs.Telling.History.{is_time}
use Rattle.pending_items.specs.Concerned.{IsMet, IsMetBy}
use Rattle.pending_items.specs.Kept.{IsRenewed, KeptItems}
use Rattle.pending_items.proofs.ConcernFacts.{met_by, no_time}
use Rattle.pending_items.proofs.EndFacts.{ends_stay}
use Rattle.pending_items.proofs.RenewFacts.{renewed_more}
use Rattle.pending_items.proofs.items.PendingItems.pass_booking.Goals as goal

pub returns : goal.returns
returns c =
    let day = c.args.setting.now.day in
    let head = c.args.head in
    let ends = c.self.inside.ends.times in
    let batches = c.self.inside.batches in
    subst (λ (v : KeptItems). IsRenewed day c.args.facts.now head v (record { rows = c.renew_booked.new.rows; ends = ends; batches = batches; room = c.self.inside.ends.room })) c.self.view_is (record {
      rows = renewed_more day c.args.facts.now (IsMet day head) (IsMetBy day head ends batches) _ _ (λ J x i s h. met_by day head ends batches J x h) c.renew_booked.ensures;
      ends = λ J l e legal a. ends_stay day J l ends (ap (λ (h : Head). is_time h.kind) e ∙ no_time head.kind c.requires) a;
      batches = λ J s a. a;
      room = refl;
      blocks = λ J s. refl;
    })
