use Rattle.std.proofs.Common.{◌≡◌, true, refl, ap, ◌∙◌, subst}
use Rattle.commit_journal.specs.declared.line.Head.{Head}
use Rattle.machine.specs.Telling.History.{is_time}
use Rattle.pending_items.specs.Concerned.{IsMetBy, IsTold, is_taken_well}
use Rattle.pending_items.specs.Kept.{IsRenewed, KeptItems}
use Rattle.pending_items.proofs.ConcernFacts.{split_about}
use Rattle.pending_items.proofs.CycleFacts.{batches_left}
use Rattle.pending_items.proofs.EndFacts.{ends_stay}
use Rattle.pending_items.proofs.RenewFacts.{renewed_then}
use Rattle.pending_items.proofs.items.PendingItems.pass_message.Goals as goal

pub returns : goal.returns
returns c =
    let day = c.args.setting.now.day in
    let head = c.args.head in
    let ends = c.self.inside.ends.times in
    let batches = c.self.inside.batches in
    subst (λ (v : KeptItems). IsRenewed day c.args.facts.now head v (record { rows = c.renew_accepted.new.rows; ends = ends; batches = c.renew_accepted.new.batches; room = c.self.inside.ends.room })) c.self.view_is (record {
      rows = renewed_then day c.args.facts.now (λ J x. x.msg ≡ head.msg) (λ J x. (is_taken_well head ≡ true) × IsTold day batches head.msg x.msg) (IsMetBy day head ends batches) _ _ _
          (λ J x i s h. split_about day head ends batches J x i c.requires.book c.requires.time h) c.renew_message.ensures c.renew_accepted.ensures.rows;
      ends = λ J l e legal a. ends_stay day J l ends (ap (λ (h : Head). is_time h.kind) e ∙ c.requires.time) a;
      batches = λ J s a. batches_left day J head.msg batches c.renew_accepted.new.batches a (c.renew_accepted.ensures.batches J s);
      room = refl;
      blocks = λ J s. (c.renew_accepted.ensures.batches J s).same;
    })
