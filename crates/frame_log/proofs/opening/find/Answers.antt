use Rattle.std.proofs.Common.{◌≡◌, drop, subst}
use Rattle.std.specs.Prelude.{Some}
use Rattle.frame_log.specs.Reads.{IsKept}
use Rattle.frame_log.proofs.StandingFacts.{found_looked, found_standing}
use Rattle.frame_log.proofs.opening.find.Goals as goal

pub over-requires : goal.over-requires
over-requires g c =
    let kept = subst (IsKept (g.D.Disk.seen c.args.disk)) c.in-Ok-Text.field-0-is (c.in-Ok-Text.ensures.kept (g.D.Disk.seen c.args.disk) (λ i. Some (drop (c.over-reader.ensures.at i) (g.D.Disk.seen (c.over-reader.ensures.disk i))))) in
    found_standing g.D.Disk.seen g.D.Disk.image g.D.Disk.clock g.D.Disk.since c.args.disk c.over-reader.result.disk c.read_text-found.new.reader.disk c.into_disk-disk.result c.over-reader.ensures.disk c.in-Ok-Text.ensures.looks c.into_disk-disk.ensures c.in-Ok-Text.kept.text.items c.in-Ok-Text.kept.digest c.in-Ok-Text.kept.end c.requires.only kept.0 kept.1 kept.2

pub returns-in-Ok-Foreign : goal.returns-in-Ok-Foreign
returns-in-Ok-Foreign g c =
    let kept = subst (IsKept (g.D.Disk.seen c.args.disk)) c.in-Ok-Foreign.field-0-is (c.in-Ok-Foreign.ensures.kept (g.D.Disk.seen c.args.disk) (λ i. Some (drop (c.over-reader.ensures.at i) (g.D.Disk.seen (c.over-reader.ensures.disk i))))) in (
      kept,
      c.requires.some,
      λ _. found_looked g.D.Disk.seen g.D.Disk.image g.D.Disk.clock g.D.Disk.since c.args.disk c.over-reader.result.disk c.read_text-found.new.reader.disk c.into_disk-disk.result c.over-reader.ensures.disk c.in-Ok-Foreign.ensures.looks c.into_disk-disk.ensures,
    )
