use Rattle.std.proofs.Common.{◌≡◌, ◌∙◌, refl}
use Rattle.least_tree.specs.Amounts.{fits_at}
use Rattle.settlement_laws.proofs.Base.Lists.{never}
use Rattle.pending_items.specs.Ends.{IsMovedOn}
use Rattle.pending_items.proofs.EndFacts.{by_either, moved_on_then, none_moved_on}
use Rattle.pending_items.proofs.RenewFacts.{renewed_none, renewed_then}
use Rattle.pending_items.proofs.ends.renew_listed.Goals as goal

pub loop-i-init : goal.loop-i-init
loop-i-init c =
    let day = c.args.setting.now.day in
    let old = c.args.ends.now.times in
    let time = c.args.time in
    record {
      rows = renewed_none day c.args.facts.now (λ J x. IsMovedOn time old old x.msg) _ (λ J x i s h. never (fits_at old time x.msg) h.0 h.1);
      ends = none_moved_on day time old;
      room = refl;
    }

pub loop-i-preserved : goal.loop-i-preserved
loop-i-preserved c =
    let day = c.args.setting.now.day in
    let old = c.args.ends.now.times in
    let mid = c.loop-i.ends.times in
    let new = c.renew_first.new.ends.times in
    let time = c.args.time in
    record {
      rows = renewed_then day c.args.facts.now (λ J x. IsMovedOn time old mid x.msg) (λ J x. IsMovedOn time mid new x.msg) (λ J x. IsMovedOn time old new x.msg) _ _ _
          (λ J x i s h. by_either time old mid new x.msg h) c.loop-i.invariant.rows c.renew_first.ensures.rows;
      ends = moved_on_then day time old mid new c.loop-i.invariant.ends c.renew_first.ensures.ends;
      room = c.renew_first.ensures.room ∙ c.loop-i.invariant.room;
    }
