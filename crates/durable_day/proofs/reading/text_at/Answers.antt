use Rattle.std.proofs.Common.{◌+◌, length, drop, sym, arith, length-drop}
use Rattle.durable_day.specs.Reads.{reads_of_text}
use Rattle.durable_day.proofs.EntryFacts.{none_fits, is_text, read_there, still_room}
use Rattle.durable_day.proofs.ReadFacts.{length_alone, length_too_far, reads_as, reads_off, reads_on, some_reads, text_too, told_number}
use Rattle.durable_day.proofs.ShownFacts.{failed_is}
use Rattle.durable_day.proofs.reading.text_at.Goals as goal

pub returns-then-left-from-clause-found : goal.returns-then-left-from-clause-found
returns-then-left-from-clause-found g c = none_fits (g.D.Disk.seen c.args.disk.now) c.args.text.now c.args.at c.in_ok-count.count (omega arith) (omega (arith, c.requires.room)) (omega (arith, c.requires.left)) c.in_ok-count.ensures.number
    (λ inside room. omega (arith, inside, c.if-left-from.true, c.from.ensures, c.requires.left))

pub returns-clause-found : goal.returns-clause-found
returns-clause-found g c =
    is_text (g.D.Disk.seen c.args.disk.now) _ c.args.at c.in_ok-count.count c.requires.gate c.in_ok-count.ensures.number
    (read_there c.read_at.new.buf c.args.text.now (g.D.Disk.seen c.args.disk.now) (g.D.Disk.seen c.number_at.new.disk) (c.args.at + 5) c.in_ok-count.count (omega (arith, c.if-text-count.false)) c.read_at.auto.buf c.in_ok-read_at.ensures.bytes c.in_ok-count.ensures.reads.looks.same)
    (still_room c.read_at.new.buf c.args.text.now c.in_ok-count.count (omega (arith, c.if-text-count.false)) c.read_at.auto.buf)
    (omega (arith, c.if-left-from.false, c.from.ensures, c.requires.left))

pub returns-in_err-count-clause-reads : goal.returns-in_err-count-clause-reads
returns-in_err-count-clause-reads g c =
    let seen = g.D.Disk.seen c.args.disk.now in
    let bytes = drop (c.args.at + 1) seen in
    let room = length c.args.text.now in
    let size = length-drop (c.args.at + 1) seen in
    rw (failed_is _ c.from_residual.ensures.0) (reads_off g.D.Disk.seen g.D.Disk.image g.D.Disk.clock g.D.Disk.since g.D.Disk.lasts g.D.Disk.faults g.D.Disk.cut_after g.met.D.Disk.lasts_for_less g.met.D.Disk.cut_for_less _ _ 1 (reads_of_text room bytes) (some_reads room bytes (omega (arith, size, c.requires.left))) c.in_err-count.ensures.reads)

pub returns-then-left-from-clause-reads : goal.returns-then-left-from-clause-reads
returns-then-left-from-clause-reads g c =
    let seen = g.D.Disk.seen c.args.disk.now in
    let bytes = drop (c.args.at + 1) seen in
    let room = length c.args.text.now in
    let size = length-drop (c.args.at + 1) seen in
    let number = told_number seen c.args.at c.in_ok-count.count (omega arith) c.in_ok-count.ensures.number in
    reads_as g.D.Disk.seen g.D.Disk.image g.D.Disk.clock g.D.Disk.since g.D.Disk.lasts g.D.Disk.faults g.D.Disk.cut_after g.met.D.Disk.lasts_for_less g.met.D.Disk.cut_for_less _ _ _ 1 (reads_of_text room bytes) (sym (length_alone room c.in_ok-count.count bytes (omega (arith, size, c.requires.left)) number (omega (arith, size, c.requires.left, c.if-left-from.true, c.from.ensures)))) c.in_ok-count.ensures.reads

pub returns-then-text-count-clause-reads : goal.returns-then-text-count-clause-reads
returns-then-text-count-clause-reads g c =
    let seen = g.D.Disk.seen c.args.disk.now in
    let bytes = drop (c.args.at + 1) seen in
    let room = length c.args.text.now in
    let size = length-drop (c.args.at + 1) seen in
    let number = told_number seen c.args.at c.in_ok-count.count (omega arith) c.in_ok-count.ensures.number in
    reads_as g.D.Disk.seen g.D.Disk.image g.D.Disk.clock g.D.Disk.since g.D.Disk.lasts g.D.Disk.faults g.D.Disk.cut_after g.met.D.Disk.lasts_for_less g.met.D.Disk.cut_for_less _ _ _ 1 (reads_of_text room bytes) (sym (length_too_far room c.in_ok-count.count bytes (omega (arith, size, c.requires.left)) number (omega (arith, c.if-text-count.true)))) c.in_ok-count.ensures.reads

pub returns-in_err-read_at-clause-reads : goal.returns-in_err-read_at-clause-reads
returns-in_err-read_at-clause-reads g c =
    let seen = g.D.Disk.seen c.args.disk.now in
    let bytes = drop (c.args.at + 1) seen in
    let room = length c.args.text.now in
    let size = length-drop (c.args.at + 1) seen in
    let number = told_number seen c.args.at c.in_ok-count.count (omega arith) c.in_ok-count.ensures.number in
    let two = text_too room c.in_ok-count.count bytes (omega (arith, size, c.requires.left)) number (omega (arith, size, c.requires.left, c.if-left-from.false, c.from.ensures)) (omega (arith, c.if-text-count.false)) in
    rw (failed_is _ c.from_residual-in_err-read_at.ensures.0) (reads_on g.D.Disk.seen g.D.Disk.image g.D.Disk.clock g.D.Disk.since g.D.Disk.lasts g.D.Disk.faults g.D.Disk.cut_after g.met.D.Disk.lasts_for_less g.met.D.Disk.cut_for_less _ _ _ _ 1 1 (reads_of_text room bytes) (sym two) c.in_ok-count.ensures.reads c.in_err-read_at.ensures.reads)

pub returns-clause-reads : goal.returns-clause-reads
returns-clause-reads g c =
    let seen = g.D.Disk.seen c.args.disk.now in
    let bytes = drop (c.args.at + 1) seen in
    let room = length c.args.text.now in
    let size = length-drop (c.args.at + 1) seen in
    let number = told_number seen c.args.at c.in_ok-count.count (omega arith) c.in_ok-count.ensures.number in
    let two = text_too room c.in_ok-count.count bytes (omega (arith, size, c.requires.left)) number (omega (arith, size, c.requires.left, c.if-left-from.false, c.from.ensures)) (omega (arith, c.if-text-count.false)) in
    reads_on g.D.Disk.seen g.D.Disk.image g.D.Disk.clock g.D.Disk.since g.D.Disk.lasts g.D.Disk.faults g.D.Disk.cut_after g.met.D.Disk.lasts_for_less g.met.D.Disk.cut_for_less _ _ _ _ 1 1 (reads_of_text room bytes) (sym two) c.in_ok-count.ensures.reads c.in_ok-read_at.ensures.reads
