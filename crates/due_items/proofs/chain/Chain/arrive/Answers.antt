use Rattle.std.proofs.Common.{◌∙◌, ◌≡◌, ◌-◌, ap, arith, subst, sym}
use Rattle.due_items.specs.Chains.{Chain, chain_upto}
use Rattle.due_items.proofs.ChainFacts.{chain_arrives, older-count}
use Rattle.due_items.proofs.chain.Chain.arrive.Goals as goal

pub returns-then-len-n : goal.returns-then-len-n
returns-then-len-n c = λ k e enough is.
    let v : Chain = record { newest = c.self.inside.newest; older = c.self.inside.older.items; room = c.self.inside.room } in
    let count = older-count c.args.key c.args.setting.now.day k v (subst (λ (x : Chain). x ≡ chain_upto c.args.key c.args.setting.now.day k x.room) (sym c.self.view_is) is) in
    let len = c.len.ensures in
    absurd (c.if-len-n.true (omega (arith, count, len, e)))

pub returns : goal.returns
returns c = λ k e enough is.
    let day = c.args.setting.now.day in
    let v : Chain = record { newest = c.self.inside.newest; older = c.self.inside.older.items; room = c.self.inside.room } in
    chain_arrives c.args.key day k c.args.n c.enter-before.result c.key_of.result v c.enter-before.new.self c.push_reserved.new.self.items (c.self.inside.room - 1) e c.key_of.ensures
    (subst (λ (x : Chain). x ≡ chain_upto c.args.key day k x.room) (sym c.self.view_is) is) c.enter-before.ensures.before c.enter-before.ensures.after c.push_reserved.ensures.items
    ∙ ap (λ (x : Chain). chain_upto c.args.key day c.args.n (x.room - 1)) c.self.view_is
