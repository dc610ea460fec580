use Rattle.std.proofs.Common.{◌∙◌, ◌+◌, ◌<◌, ℕ, List, Option, length, sym, arith, refl}
use Rattle.day_facts.specs.Lists.{placed}
use Rattle.day_facts.specs.Told.{is_party_at, revoked_with}
use Rattle.day_facts.proofs.ListedParts.{done_all, done_here, done_other, done_skip, is_done}
use Rattle.day_facts.proofs.ToldParts.{with_from, with_none, with_set}
use Rattle.day_facts.proofs.RowedLemmas.{rowed_first, rowed_same, rowed_step}
use Rattle.day_facts.proofs.revoked.revoke_listed.Goals as goal
use Rattle.day_facts.proofs.revoked.revoke_listed.Goals.{then-is_party_at, else-is_party_at}

pub loop-key-init : goal.loop-key-init
loop-key-init c = rowed_first c.args.n c.args.rows.now (revoked_with (is_done c.args.keys.now (is_party_at c.args.setting.now.day c.args.n c.args.bank.now) 0) c.args.place 0) (λ row. with_none (is_done c.args.keys.now (is_party_at c.args.setting.now.day c.args.n c.args.bank.now) 0) c.args.place 0 row (λ j. refl))

pub loop-key-preserved : goal.loop-key-preserved
loop-key-preserved c =
    let keys = c.args.keys.now in
    let party = is_party_at c.args.setting.now.day c.args.n c.args.bank.now in
    let i = c.loop-key.key-index in
    let within : i < length keys = omega (arith, c.loop-key-test.true, c.loop-key.auto.key-index-end) in
    let before = λ (row : List (Option ℕ)). revoked_with (is_done keys party i) c.args.place 0 row in
    let after = λ (row : List (Option ℕ)). revoked_with (is_done keys party (i + 1)) c.args.place 0 row in
    elim c.if-is_party_at.branch [
      | then-is_party_at w ↦ rowed_step c.args.n c.args.rows.now before (placed c.entry_of-k.result c.args.place) after c.loop-key.rows _ c.loop-key.invariant (w.rows-is ∙ w.put.ensures)
          (λ row. with_set (is_done keys party i) (is_done keys party (i + 1)) c.args.place 0 c.entry_of-k.result row
          (done_here keys party i _ c.entry_of-k.result within c.entry_of-k.ensures (sym c.is_party_at.ensures ∙ w.if-is_party_at.true))
          (done_other keys party i _ c.entry_of-k.result within c.entry_of-k.ensures))
      | else-is_party_at w ↦ rowed_same c.args.n c.args.rows.now before after c.loop-key.rows _ c.loop-key.invariant w.rows-is
          (λ row. with_from (is_done keys party i) (is_done keys party (i + 1)) c.args.place 0 row
          (λ j low. done_skip keys party i _ c.entry_of-k.result within c.entry_of-k.ensures (sym c.is_party_at.ensures ∙ w.if-is_party_at.false) j))
    ]

pub returns : goal.returns
returns c =
    let keys = c.args.keys.now in
    let party = is_party_at c.args.setting.now.day c.args.n c.args.bank.now in
    let i = c.loop-key.key-index in
    rowed_same c.args.n c.args.rows.now (λ (row : List (Option ℕ)). revoked_with (is_done keys party i) c.args.place 0 row) (λ (row : List (Option ℕ)). revoked_with party c.args.place 0 row) c.loop-key.rows _ c.loop-key.invariant refl
    (λ row. with_from (is_done keys party i) party c.args.place 0 row (λ j low. done_all keys party i (omega (arith, c.loop-key-test.false, c.loop-key.auto.key-index-end)) c.requires.parts j))
