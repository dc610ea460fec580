use Rattle.std.proofs.Common.{◌∙◌, ap, length, refl, sym, arith}
use Rattle.frame_log.specs.Standing.{text_up_to}
use Rattle.frame_log.proofs.StandingFacts.{new_bytes, new_stands, new_text}
use Rattle.frame_log.proofs.opening.make.Goals as goal

pub over-requires : goal.over-requires
over-requires g c =
    let new = new_bytes _ _ _ c.copy_from_slice.new.self c.in-Ok.ensures.bytes c.requires.empty refl c.copy_from_slice.ensures.after in
    (new_stands (g.D.Disk.seen c.put_down.new.disk) c.first_digest.result new c.first_digest.ensures, c.in-Ok.ensures.only)

pub returns-in-Ok : goal.returns-in-Ok
returns-in-Ok g c =
    let new = new_bytes _ _ _ c.copy_from_slice.new.self c.in-Ok.ensures.bytes c.requires.empty refl c.copy_from_slice.ensures.after in
    let text = (λ i. text_up_to (c.over.ensures.end i) (g.D.Disk.seen (c.over.ensures.disk i))) ∙ new_text (g.D.Disk.seen c.put_down.new.disk) new in
    let none = ap length c.requires.empty in (
      c.new.ensures.items ∙ sym text,
      c.over.ensures.faults,
      λ some. absurd (omega (arith, some, none)),
      λ some. absurd (omega (arith, some, none)),
      λ _. c.new.ensures.items,
    )
