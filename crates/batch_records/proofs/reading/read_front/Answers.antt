use Rattle.std.proofs.Common.{Bor, List, ℕ, ◌∙◌, sym, Option, Some, inr, arith}
use Rattle.csv.specs.Records.{fields_of}
use Rattle.batch_records.proofs.CsvFacts.{stands-start}
use Rattle.batch_records.proofs.CutWhole.{row_bad, row_fine}
use Rattle.batch_records.proofs.ReadingFacts.{answers_end, day_at_end, has_read_more, has_read_nothing, numbers_suffice, tells_bad}
use Rattle.batch_records.proofs.reading.read_front.Goals as goal

-- what a slice still has to give to its reader
abbrev bytes_left : Bor (List ℕ) → Option (List ℕ)
bytes_left s = Some s.now

pub loop-number-init : goal.loop-number-init
loop-number-init c =
    let made = c.from_reader-reader.ensures in
    let plain = (rw (c.flexible.ensures, c.has_headers.ensures, c.delimiter.ensures) at made.trim) ∙ c.new.ensures.trim in
    let headers = rw (c.flexible.ensures, c.has_headers.ensures) at made.has_headers in
    let flexible = rw c.flexible.ensures at made.flexible in
    let config = rw (c.flexible.ensures, c.has_headers.ensures, c.delimiter.ensures, c.new.ensures.config) at made.config in
    has_read_nothing bytes_left _ _ _ (stands-start bytes_left _ _ plain (inr (inr (headers, made.headers))) config flexible made.source made.state) c.in-Ok.ensures.none

pub loop-number-preserved : goal.loop-number-preserved
loop-number-preserved c =
    let stands = c.loop-number.invariant.stands in
    let read = rw c.in-Ok-true.field-0-test at c.in-Ok-true.ensures.reads in
    has_read_more bytes_left _ _ _ _ _ _ (fields_of c.read_record.new.row) c.loop-number.invariant read c.in-Ok-true.ensures.ready (c.in-Ok-true.ensures.flexible ∙ sym stands.flexible)
    (row_fine _ _ _ (fields_of c.read_record.new.row) c.fill.ensures c.in-Ok-take.ensures.ok)

pub returns-in-Err-take-clause-answer : goal.returns-in-Err-take-clause-answer
returns-in-Err-take-clause-answer c =
    let stands = c.loop-number.invariant.stands in
    let read = rw c.in-Ok-true.field-0-test at c.in-Ok-true.ensures.reads in
    tells_bad bytes_left _ _ c.read_record.new.reader _ _ (fields_of c.read_record.new.row) _ c.loop-number.invariant read c.in-Ok-true.ensures.ready (c.in-Ok-true.ensures.flexible ∙ sym stands.flexible)
    (row_bad _ _ (fields_of c.read_record.new.row) _ _ c.fill.ensures c.in-Err-take.ensures.err)

pub returns-in-Ok-false-clause-answer : goal.returns-in-Ok-false-clause-answer
returns-in-Ok-false-clause-answer c =
    let stands = c.loop-number.invariant.stands in
    let read = rw c.in-Ok-false.field-0-test at c.in-Ok-false.ensures.reads in
    rw c.finish.ensures (answers_end bytes_left _ _ c.read_record.new.reader _ _ (fields_of c.read_record.new.row) c.loop-number.invariant read)

pub returns-in-Ok-false-clause-day : goal.returns-in-Ok-false-clause-day
returns-in-Ok-false-clause-day c =
    let stands = c.loop-number.invariant.stands in
    let read = rw c.in-Ok-false.field-0-test at c.in-Ok-false.ensures.reads in
    rw c.finish.ensures (day_at_end bytes_left _ _ c.read_record.new.reader _ _ (fields_of c.read_record.new.row) c.loop-number.invariant read)

pub unreachable-requires : goal.unreachable-requires
unreachable-requires c = omega (arith, numbers_suffice _ _ _ _ _ c.loop-number.invariant, c.loop-number-test.false)

pub read_record-requires-clause-flexible : goal.read_record-requires-clause-flexible
read_record-requires-clause-flexible c = c.loop-number.invariant.stands.flexible

pub read_record-requires-clause-plain : goal.read_record-requires-clause-plain
read_record-requires-clause-plain c = c.loop-number.invariant.stands.plain

pub read_record-requires-clause-ready : goal.read_record-requires-clause-ready
read_record-requires-clause-ready c = c.loop-number.invariant.stands.ready
