use Rattle.std.proofs.Common.{Some, refl}
use Rattle.payment_queue.specs.Indexed.{band}
use Rattle.payment_queue.proofs.IndexLemmas.{inside, linkable, unlinked}
use Rattle.payment_queue.proofs.index.unlink.Goals as goal

pub hook-requires-clause-inside : goal.hook-requires-clause-inside
hook-requires-clause-inside c = rw (c.step-before.ensures, c.band_of-band.ensures, c.row_at-row.ensures)
    (inside c.args.rows.now c.args.index.now.forward (band c.args.rows.now) _ _ c.requires.sized.forward c.requires.band
    (c.requires.index.backward.each (Some c.args.slot) (band c.args.rows.now c.args.slot) (c.requires.slot, refl)).toward.on)

pub hook-requires-2-clause-inside : goal.hook-requires-2-clause-inside
hook-requires-2-clause-inside c = rw (c.step-after.ensures, c.band_of-band.ensures, c.row_at-row.ensures)
    (inside c.args.rows.now c.args.index.now.backward (band c.args.rows.now) _ _ c.requires.sized.backward (rw c.requires.sized.bands c.requires.band)
    (c.requires.index.forward.each (Some c.args.slot) (band c.args.rows.now c.args.slot) (c.requires.slot, refl)).toward.on)

pub hook-requires-clause-linkable : goal.hook-requires-clause-linkable
hook-requires-clause-linkable c = rw c.step-after.ensures
    (linkable c.args.rows.now (band c.args.rows.now) (band c.args.rows.now c.args.slot) _ c.requires.few
    (c.requires.index.forward.each (Some c.args.slot) (band c.args.rows.now c.args.slot) (c.requires.slot, refl)).toward.on)

pub hook-requires-2-clause-linkable : goal.hook-requires-2-clause-linkable
hook-requires-2-clause-linkable c = rw c.step-before.ensures
    (linkable c.args.rows.now (band c.args.rows.now) (band c.args.rows.now c.args.slot) _ c.requires.few
    (c.requires.index.backward.each (Some c.args.slot) (band c.args.rows.now c.args.slot) (c.requires.slot, refl)).toward.on)

pub returns-clause-index : goal.returns-clause-index
returns-clause-index c =
    let forward = rw (c.band_of-band.ensures, c.row_at-row.ensures) at c.hook.ensures.hooked in
    let backward = rw (c.band_of-band.ensures, c.row_at-row.ensures) at c.hook-2.ensures.hooked in
    unlinked c.args.rows.now c.args.index.now _ c.args.slot c.step-before.result c.step-after.result c.requires.sound c.requires.index c.requires.apart c.requires.slot
    c.step-before.ensures c.step-after.ensures forward backward
