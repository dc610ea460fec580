use Rattle.std.proofs.Common.{◌≡◌, ◌∙◌, true}
use Rattle.least_tree.specs.Amounts.{fits_at}
use Rattle.pending_items.specs.Ends.{IsMovedOn}
use Rattle.pending_items.proofs.EndFacts.{has_or_moved, moved_after}
use Rattle.pending_items.proofs.RenewFacts.{renewed_then}
use Rattle.pending_items.proofs.ends.renew_ending.Goals as goal

pub returns-clause-rows : goal.returns-clause-rows
returns-clause-rows c =
    let old = c.args.ends.now.times in
    let mid = c.renew_listed.new.ends.times in
    let time = c.args.time in
    renewed_then c.args.setting.now.day c.args.facts.now (λ J x. IsMovedOn time old mid x.msg) (λ J x. fits_at mid time x.msg ≡ true) (λ J x. fits_at old time x.msg ≡ true) _ _ _
    (λ J x i s h. has_or_moved time old mid x.msg h) c.renew_listed.ensures.rows c.renew_each.ensures.rows

pub returns-clause-ends : goal.returns-clause-ends
returns-clause-ends c = moved_after c.args.setting.now.day c.args.time c.args.ends.now.times c.renew_listed.new.ends.times c.renew_each.new.ends.times c.renew_listed.ensures.ends c.renew_each.ensures.ends
