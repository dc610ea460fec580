use Rattle.payment_queue.specs.Indexed.{band}
use Rattle.payment_queue.proofs.IndexLemmas.{inside, linkable, linked}
use Rattle.payment_queue.proofs.index.link.Goals as goal

pub step-after-requires : goal.step-after-requires
step-after-requires c =
    inside c.args.rows.now c.args.index.now.forward (band c.args.rows.now) _ _ c.requires.sized.forward (rw c.band_of-band.ensures c.requires.band) c.last_before-before.ensures.toward.on

pub put-requires-clause-place : goal.put-requires-clause-place
put-requires-clause-place c =
    inside c.args.rows.now c.args.index.now.forward (band c.args.rows.now) _ _ c.requires.sized.forward (rw c.band_of-band.ensures c.requires.band) c.last_before-before.ensures.toward.on

pub put-requires-2-clause-place : goal.put-requires-2-clause-place
put-requires-2-clause-place c = rw c.step-after.ensures
    (inside c.args.rows.now c.args.index.now.backward (band c.args.rows.now) _ _ c.requires.sized.backward (rw (c.band_of-band.ensures, c.requires.sized.bands) c.requires.band)
    (c.requires.index.forward.each c.last_before-before.result c.band_of-band.result c.last_before-before.ensures.toward.on).toward.on)

pub put-requires-clause-linkable : goal.put-requires-clause-linkable
put-requires-clause-linkable c = rw c.step-after.ensures
    (linkable c.args.rows.now (band c.args.rows.now) c.band_of-band.result _ c.requires.few
    (c.requires.index.forward.each c.last_before-before.result c.band_of-band.result c.last_before-before.ensures.toward.on).toward.on)

pub put-requires-2-clause-linkable : goal.put-requires-2-clause-linkable
put-requires-2-clause-linkable c = linkable c.args.rows.now (band c.args.rows.now) c.band_of-band.result _ c.requires.few c.last_before-before.ensures.toward.on

pub returns-clause-index : goal.returns-clause-index
returns-clause-index c =
    let first = rw c.band_of-band.ensures at c.last_before-before.ensures in
    let forward = rw c.band_of-band.ensures at c.put.ensures.put in
    let backward = rw c.band_of-band.ensures at c.put-2.ensures.put in
    let after = rw c.band_of-band.ensures at c.step-after.ensures in
    linked c.args.rows.now c.args.index.now _ c.args.slot c.args.row c.last_before-before.result c.step-after.result
    c.requires.sound c.requires.small c.requires.index c.requires.apart c.requires.slot c.requires.none c.requires.free first after forward backward
