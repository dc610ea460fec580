use Rattle.std.proofs.Common.{◌≡◌, ◌+◌, ◌<◌, ℕ, true, refl, subst}
use Rattle.number_set.specs.Members.{has}
use Rattle.pending_items.specs.Cycles.{AreLeft, AreLeftIn, Batches, block}
use Rattle.pending_items.specs.Items.{RenewsBy}
use Rattle.pending_items.proofs.cycles.Batches.renew.Goals as goal

pub returns-clause-rows : goal.returns-clause-rows
returns-clause-rows c =
    let day = c.args.setting.now.day in
    subst (λ (v : Batches). RenewsBy day c.args.facts.now (λ J x. (x.msg < v.size) × (has v.set (block v.size day c.args.m + x.msg) ≡ true)) c.args.rows.now c.renew_block.new.rows) c.self.view_is
    (subst (λ (f : ℕ). RenewsBy day c.args.facts.now (λ J x. (x.msg < c.self.inside.size) × (has c.self.inside.set (f + x.msg) ≡ true)) c.args.rows.now c.renew_block.new.rows) c.block-first.ensures c.renew_block.ensures.rows)

pub returns-clause-batches : goal.returns-clause-batches
returns-clause-batches c = λ J s.
    let day = c.args.setting.now.day in
    subst (λ (v : Batches). AreLeft day J c.args.m v (record { set = c.renew_block.new.batches; size = c.self.inside.size })) c.self.view_is (record {
      same = refl;
      left = subst (λ (f : ℕ). AreLeftIn day J c.self.inside.size f c.self.inside.set c.renew_block.new.batches) c.block-first.ensures (c.renew_block.ensures.batches J s);
    })
