use Rattle.std.proofs.Common.{◌∙◌, ◌&&◌, ◌+◌, ℕ, List, Option, sym, arith, refl, nat_lt}
use Rattle.day_facts.specs.Lists.{placed}
use Rattle.day_facts.specs.Told.{is_party_at, revoked_with}
use Rattle.day_facts.proofs.ToldParts.{revoke_all, revoke_first, revoke_no, revoke_yes}
use Rattle.day_facts.proofs.RowedLemmas.{rowed_first, rowed_same, rowed_step}
use Rattle.day_facts.proofs.revoked.revoke_parts.Goals as goal
use Rattle.day_facts.proofs.revoked.revoke_parts.Goals.{then-is_party_at, else-is_party_at}

pub loop-k-init : goal.loop-k-init
loop-k-init c = rowed_first c.args.n c.args.rows.now _ (λ row. sym (revoke_first c.args.setting.now.day c.args.n c.args.bank.now c.args.place row))

pub loop-k-preserved : goal.loop-k-preserved
loop-k-preserved c =
    let party = is_party_at c.args.setting.now.day c.args.n c.args.bank.now in
    let k = c.loop-k.k in
    let before = λ (row : List (Option ℕ)). revoked_with (λ j. nat_lt j k && party j) c.args.place 0 row in
    let after = λ (row : List (Option ℕ)). revoked_with (λ j. nat_lt j (k + 1) && party j) c.args.place 0 row in
    elim c.if-is_party_at.branch [
      | then-is_party_at w ↦ rowed_step c.args.n c.args.rows.now before (placed k c.args.place) after c.loop-k.rows _ c.loop-k.invariant (w.rows-is ∙ w.put.ensures)
          (λ row. revoke_yes party c.args.place row (before row) _ k refl (sym c.is_party_at.ensures ∙ w.if-is_party_at.true) refl)
      | else-is_party_at w ↦ rowed_same c.args.n c.args.rows.now before after c.loop-k.rows _ c.loop-k.invariant w.rows-is
          (λ row. revoke_no party c.args.place row (before row) _ k refl (sym c.is_party_at.ensures ∙ w.if-is_party_at.false) refl)
    ]

pub returns : goal.returns
returns c =
    let count = c.entry_count-k-end.ensures.count in
    let party = is_party_at c.args.setting.now.day c.args.n c.args.bank.now in
    rowed_same c.args.n c.args.rows.now (λ (row : List (Option ℕ)). revoked_with (λ j. nat_lt j c.loop-k.k && party j) c.args.place 0 row) (λ (row : List (Option ℕ)). revoked_with party c.args.place 0 row) c.loop-k.rows _ c.loop-k.invariant refl
    (λ row. revoke_all c.args.setting.now.day c.args.n c.args.bank.now c.args.place row _ c.loop-k.k (omega (arith, count)) refl)
