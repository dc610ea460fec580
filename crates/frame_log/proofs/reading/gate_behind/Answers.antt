use Rattle.std.proofs.Common.{◌∙◌, ◌+◌, ap, take, drop, sym, arith}
use Rattle.std.proofs.lemmas.List.{length-take-le}
use Rattle.kept_text.specs.Frames.{chained}
use Rattle.frame_log.proofs.TakingFacts.{as_whole, body_found, its_digest, other_digest, same_text, was_not, was_so}
use Rattle.frame_log.proofs.reading.gate_behind.Goals as goal

pub returns-then-ne-clause-body : goal.returns-then-ne-clause-body
returns-then-ne-clause-body g c = λ bytes e long told.
    let count = c.args.head.now.count in
    let size = c.take.auto.buf ∙ length-take-le (count + 1) c.args.room.now (omega (arith, c.requires)) in
    let took = as_whole _ _ c.take.new.buf bytes _ c.if-not-branch.false c.in_ok-take.ensures.taken e in
    other_digest c.args.before.now _ c.args.head.now.digest c.digest_of.result c.digest_of.ensures (was_not _ (sym c.ne.ensures ∙ c.if-ne.true))
    (ap (chained c.args.before.now) (sym (same_text c.take.new.buf (drop (count + 1) c.args.room.now) bytes took.0 count size took.2)) ∙ told)

pub returns-clause-body : goal.returns-clause-body
returns-clause-body g c =
    let count = c.args.head.now.count in
    let size = c.take.auto.buf ∙ length-take-le (count + 1) c.args.room.now (omega (arith, c.requires)) in (
      its_digest c.args.before.now _ c.args.head.now.digest c.digest_of.result c.digest_of.ensures (was_so _ (sym c.ne.ensures ∙ c.if-ne.false)),
      λ bytes e.
          let took = as_whole _ _ c.take.new.buf bytes _ c.if-not-branch.false c.in_ok-take.ensures.taken e in
          (took.0, took.1, body_found c.take.new.buf (drop (count + 1) c.args.room.now) bytes took.0 count size took.2),
    )
