use Rattle.std.proofs.Common.{◌≡◌, true, refl, sym, ap, ◌∙◌, subst}
use Rattle.commit_journal.specs.declared.line.Head.{Head}
use Rattle.machine.specs.Telling.History.{is_time}
use Rattle.least_tree.specs.Amounts.{fits_at}
use Rattle.scan_laws.proofs.Passing.{time_later}
use Rattle.pending_items.specs.Concerned.{IsMetBy}
use Rattle.pending_items.specs.Ends.{AreMoved}
use Rattle.pending_items.specs.Kept.{IsRenewed, KeptItems}
use Rattle.pending_items.proofs.ConcernFacts.{split_time}
use Rattle.pending_items.proofs.EndFacts.{ends_moved}
use Rattle.pending_items.proofs.RenewFacts.{renewed_more}
use Rattle.pending_items.proofs.items.PendingItems.pass_time.Goals as goal

pub returns : goal.returns
returns c =
    let day = c.args.setting.now.day in
    let head = c.args.head in
    let ends = c.self.inside.ends.times in
    let batches = c.self.inside.batches in
    subst (λ (v : KeptItems). IsRenewed day c.args.facts.now head v (record { rows = c.renew_ending.new.rows; ends = c.renew_ending.new.ends.times; batches = batches; room = c.renew_ending.new.ends.room })) c.self.view_is (record {
      rows = renewed_more day c.args.facts.now (λ J x. fits_at ends head.entry x.msg ≡ true) (IsMetBy day head ends batches) _ _ (λ J x i s h. split_time day head ends batches J x i c.requires s.legal h) c.renew_ending.ensures.rows;
      ends = λ J l e legal a.
          let t : is_time l.head.kind ≡ true = ap (λ (h : Head). is_time h.kind) e ∙ c.requires in
          ends_moved day J l ends c.renew_ending.new.ends.times t (time_later day J l legal t).0 a (subst (λ (h : Head). AreMoved day h.entry ends c.renew_ending.new.ends.times) (sym e) c.renew_ending.ensures.ends);
      batches = λ J s a. a;
      room = c.renew_ending.ensures.room;
      blocks = λ J s. refl;
    })
