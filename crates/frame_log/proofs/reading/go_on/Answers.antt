use Rattle.std.proofs.Common.{◌∙◌, take, subst, arith}
use Rattle.frame_log.specs.Finding.{IsNextFrame}
use Rattle.frame_log.proofs.FindingFacts.{ended_so_far, next_found, stuck_so_far}
use Rattle.frame_log.proofs.reading.go_on.Goals as goal

pub loop-so_far-preserved : goal.loop-so_far-preserved
loop-so_far-preserved g c =
    let so_far = c.loop-so_far.so_far in
    let read = c.in-Ok-Some.frame in
    let frame = subst (IsNextFrame so_far.kept.digest c.next_frame.new.room (g.R.Reader.left c.loop-so_far.reader) (g.R.Reader.left c.next_frame.new.reader)) c.in-Ok-Some.field-0-is c.in-Ok-Some.ensures.frame in
    record {
      small = c.in_ok-add-in-Ok-Some.ensures.small;
      room = c.next_frame.auto.room ∙ c.loop-so_far.invariant.room;
      kept = c.in-Ok-Some.ensures.count.kept ∙ c.loop-so_far.invariant.kept;
      looks = λ before l. g.met.R.Reader.looks_on before c.loop-so_far.reader c.next_frame.new.reader (c.loop-so_far.invariant.looks before l) c.in-Ok-Some.ensures.looks;
      found = λ bytes left e found.
          let now = c.loop-so_far.invariant.found bytes left e found in
          let next = frame.bytes_are now.0 now.1 in (
            next.0,
            next.1,
            next_found bytes now.0 next.0 (take read.head.count c.next_frame.new.room) so_far c.add.new.so_far read now.2 c.loop-so_far-test.true frame.piece frame.count_is frame.digest_is next.2 c.in_ok-add-in-Ok-Some.ensures.added,
          );
    }

pub returns-in-Ok-None-clause-kept : goal.returns-in-Ok-None-clause-kept
returns-in-Ok-None-clause-kept g c = λ bytes left e found.
    let so_far = c.loop-so_far.so_far in
    let now = c.loop-so_far.invariant.found bytes left e found in
    let none = subst (IsNextFrame so_far.kept.digest c.next_frame.new.room (g.R.Reader.left c.loop-so_far.reader) (g.R.Reader.left c.next_frame.new.reader)) c.in-Ok-None.field-0-is c.in-Ok-None.ensures.frame in
    stuck_so_far bytes so_far.kept.text.items so_far.kept.digest so_far.kept.end so_far.frames so_far.gate now.0 now.2 c.loop-so_far-test.true (none now.0 now.1)

pub returns-clause-kept : goal.returns-clause-kept
returns-clause-kept g c = λ bytes left e found.
    let so_far = c.loop-so_far.so_far in
    let now = c.loop-so_far.invariant.found bytes left e found in
    ended_so_far bytes so_far.kept.text.items so_far.kept.digest so_far.kept.end so_far.frames so_far.gate now.0 now.2 c.loop-so_far-test.false

pub returns-in-Ok-None-clause-looks : goal.returns-in-Ok-None-clause-looks
returns-in-Ok-None-clause-looks g c = λ before l. g.met.R.Reader.looks_on before c.loop-so_far.reader c.next_frame.new.reader (c.loop-so_far.invariant.looks before l) c.in-Ok-None.ensures.looks

pub returns-in_err-add-in-Ok-Some-clause-looks : goal.returns-in_err-add-in-Ok-Some-clause-looks
returns-in_err-add-in-Ok-Some-clause-looks g c = λ before l. g.met.R.Reader.looks_on before c.loop-so_far.reader c.next_frame.new.reader (c.loop-so_far.invariant.looks before l) c.in-Ok-Some.ensures.looks

pub returns-in-Err-clause-looks : goal.returns-in-Err-clause-looks
returns-in-Err-clause-looks g c = λ before l. g.met.R.Reader.looks_on before c.loop-so_far.reader c.next_frame.new.reader (c.loop-so_far.invariant.looks before l) c.in-Err.ensures.looks

pub overflow_add-result : goal.overflow_add-result
overflow_add-result g c = let small = c.loop-so_far.invariant.small in omega (arith, small.frames_small, small.within, c.requires.limit)
