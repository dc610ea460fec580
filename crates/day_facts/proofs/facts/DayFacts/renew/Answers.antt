use Rattle.std.proofs.Common.{◌≡◌, ◌∙◌, ap, arith}
use Rattle.day_facts.specs.declared.stages.Stage.{Stage}
use Rattle.day_facts.specs.Facts.{Facts, with_stage}
use Rattle.day_facts.specs.Listed.{Listed}
use Rattle.day_facts.specs.Lists.{changed}
use Rattle.day_facts.specs.Phasing.{stage_by}
use Rattle.day_facts.proofs.facts.DayFacts.renew.Goals as goal

-- the room for stages stays
pub invariant_of-self : goal.invariant_of-self
invariant_of-self c =
    let old = c.self.invariant in
    let stages : c.put.new.self.room ≡ c.self.inside.stages.room = ap (λ (t : Listed Stage). t.room) c.put.ensures in
    record {
      is_told = old.is_told;
      is_last = old.is_last;
      is_stages = omega (arith, stages, old.is_stages);
      is_booked = old.is_booked;
      is_revoked = old.is_revoked;
      is_flags = old.is_flags;
      has_revoked = old.has_revoked;
      has_flags = old.has_flags;
    }

pub returns : goal.returns
returns c =
    let day = c.args.setting.now.day in
    let n = c.args.n in
    let inside = c.self.inside in
    (λ i. record {
      own = inside.own.items;
      told = inside.told.items;
      booked = inside.booked.rows;
      revoked = inside.revoked.rows;
      debits = inside.flags.debits;
      waiting = inside.flags.waiting;
      kept = inside.flags.kept;
      last = inside.last.items;
      stages = (ap (λ (t : Listed Stage). t.items) c.put.ensures ∙ ap (λ (s : Stage). changed n (λ old. s) inside.stages.items) c.stage_now-stage.ensures) i;
      cycles = inside.cycles;
      openings = inside.openings;
      next = inside.next;
      clock = inside.clock;
      round = inside.round;
      ended = inside.ended;
      lines = inside.lines;
      room = record { messages = inside.own.room; items = inside.booked.room_for_items };
    })
    ∙ ap (λ (f : Facts). record f { stages = changed n (λ old. stage_by day c.args.self.now n) f.stages }) c.self.view_is
