use Rattle.std.proofs.Common.{◌∙◌, ◌&&◌, ◌+◌, Bool, List, false, sym, arith, refl, nat_lt}
use Rattle.std.specs.Prelude.{slice_set}
use Rattle.day_facts.specs.Left.{fallen}
use Rattle.day_facts.specs.Told.{is_party_at}
use Rattle.day_facts.proofs.LeftParts.{revoke_all, revoke_first, revoke_no, revoke_yes}
use Rattle.day_facts.proofs.RowedLemmas.{rowed_first, rowed_same, rowed_step}
use Rattle.day_facts.proofs.left.revoke_parts.Goals as goal
use Rattle.day_facts.proofs.left.revoke_parts.Goals.{then-is_party_at, else-is_party_at}

pub loop-k-init : goal.loop-k-init
loop-k-init c = rowed_first c.args.n c.args.rows.now _ (λ row. sym (revoke_first c.args.setting.now.day c.args.n c.args.bank.now row))

pub loop-k-preserved : goal.loop-k-preserved
loop-k-preserved c =
    let party = is_party_at c.args.setting.now.day c.args.n c.args.bank.now in
    let k = c.loop-k.k in
    let before = λ (row : List Bool). fallen (λ j. nat_lt j k && party j) 0 row in
    let after = λ (row : List Bool). fallen (λ j. nat_lt j (k + 1) && party j) 0 row in
    elim c.if-is_party_at.branch [
      | then-is_party_at w ↦ rowed_step c.args.n c.args.rows.now before (λ row. slice_set row k false) after c.loop-k.rows _ c.loop-k.invariant (w.rows-is ∙ w.fell.ensures)
          (λ row. revoke_yes party row (before row) _ k refl (sym c.is_party_at.ensures ∙ w.if-is_party_at.true) refl)
      | else-is_party_at w ↦ rowed_same c.args.n c.args.rows.now before after c.loop-k.rows _ c.loop-k.invariant w.rows-is
          (λ row. revoke_no party row (before row) _ k refl (sym c.is_party_at.ensures ∙ w.if-is_party_at.false) refl)
    ]

pub returns : goal.returns
returns c =
    let count = c.entry_count-k-end.ensures.count in
    let party = is_party_at c.args.setting.now.day c.args.n c.args.bank.now in
    rowed_same c.args.n c.args.rows.now (λ (row : List Bool). fallen (λ j. nat_lt j c.loop-k.k && party j) 0 row) (λ (row : List Bool). fallen party 0 row) c.loop-k.rows _ c.loop-k.invariant refl
    (λ row. revoke_all c.args.setting.now.day c.args.n c.args.bank.now row _ c.loop-k.k (omega (arith, count)) refl)
