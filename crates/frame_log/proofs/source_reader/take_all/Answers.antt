use Rattle.std.proofs.Common.{◌∙◌, take, sym, subst}
use Rattle.std.specs.Io.KnownBytes.{Consumes}
use Rattle.frame_log.proofs.TakingFacts.{part_size, took_on, took_part}
use Rattle.frame_log.proofs.source_reader.take_all.Goals as goal

pub loop-at-preserved : goal.loop-at-preserved
loop-at-preserved g c =
    let at = c.loop-at.at in
    let buf = c.loop-at.buf in
    let count = c.in-Ok.count in
    record {
      within = part_size at count buf c.read.new.buf _ c.loop-at.invariant.within c.in-Ok.ensures.bound.0;
      taken = subst (Consumes (g.S.Source.left c.args.source.now) (g.S.Source.left c.read.new.self)) (sym (took_part at count buf c.read.new.buf _ c.loop-at.invariant.within c.in-Ok.ensures.bound.0))
          (took_on _ _ _ (take at buf) (take count c.read.new.buf) c.loop-at.invariant.taken c.in-Ok.ensures.bytes.0);
      kept = c.in-Ok.ensures.count.kept ∙ c.loop-at.invariant.kept;
    }
