use Rattle.std.proofs.Common.{◌≡◌, ℕ, List, subst}
use Rattle.std.specs.Prelude.{Some}
use Rattle.kept_text.proofs.FileFacts.{no_header}
use Rattle.frame_log.specs.declared.reading.Kept.{Kept}
use Rattle.frame_log.specs.Finding.{IsFirstGate, IsFound}
use Rattle.frame_log.specs.Reads.{IsKept}
use Rattle.frame_log.proofs.FindingFacts.{first_found, if_ok}
use Rattle.frame_log.proofs.reading.read_text.Goals as goal

pub returns-in-Some-clause-kept : goal.returns-in-Some-clause-kept
returns-in-Some-clause-kept g c =
    let start = c.nothing_yet.result in
    let begun = c.nothing_yet.ensures in
    let found = subst (IsFirstGate (g.R.Reader.left c.args.reader.now) (g.R.Reader.left c.first_gate.new.reader)) c.in-Some.is c.in_ok-gate.ensures.found in
    if_ok c.go_on.result (λ (kept : Kept). (bytes left : List ℕ) → g.R.Reader.left c.first_gate.new.reader ≡ Some left → IsFound bytes start left → IsKept bytes kept) (λ (kept : Kept). (bytes : List ℕ) → g.R.Reader.left c.args.reader.now ≡ Some bytes → IsKept bytes kept)
    (λ kept is bytes e.
    let first = found bytes e in
    is bytes first.0 first.1 (first_found bytes c.in-Some.gate first.0 start begun.text begun.digest begun.end begun.frames begun.gate first.2))
    c.go_on.ensures.kept

pub returns-in-None-clause-kept : goal.returns-in-None-clause-kept
returns-in-None-clause-kept g c = λ bytes e.
    let found = subst (IsFirstGate (g.R.Reader.left c.args.reader.now) (g.R.Reader.left c.first_gate.new.reader)) c.in-None.is c.in_ok-gate.ensures.found in
    no_header bytes (found bytes e)
