use Rattle.std.proofs.Common.{ℕ, List, ◌+◌, ◌∙◌, not, length, drop, sym, ap, arith, length-drop}
use Rattle.std.specs.Prelude.{nat_eq}
use Rattle.std.proofs.lemmas.Bool.{ne_eqb}
use Rattle.durable_day.specs.Bytes.{is_closed}
use Rattle.durable_day.proofs.EntryFacts.{none_so_short}
use Rattle.durable_day.specs.Reads.{reads_at, reads_of_text}
use Rattle.durable_day.proofs.ReadFacts.{no_reads, reads_as, reads_gate, reads_none, reads_off, reads_on, reads_open, reads_past, reads_some}
use Rattle.durable_day.proofs.ShownFacts.{failed_is}
use Rattle.durable_day.proofs.reading.entry_at.Goals as goal

pub returns-then-left-lt5-clause-entry : goal.returns-then-left-lt5-clause-entry
returns-then-left-lt5-clause-entry g c = (
  ap is_closed c.in_ok-gate.ensures.byte ∙ ap (λ (gate : ℕ). not (nat_eq gate 1)) c.if-gate-ne1.false,
  none_so_short _ _ (omega (arith, c.if-left-lt5.true, c.size.ensures, length-drop c.args.at (g.D.Disk.seen c.args.disk.now))),
)

pub returns-then-left-eq0-clause-reads : goal.returns-then-left-eq0-clause-reads
returns-then-left-eq0-clause-reads g c =
    let seen = g.D.Disk.seen c.args.disk.now in
    let bytes = drop c.args.at seen in
    let room = length c.args.text.now in
    let size = length-drop c.args.at seen in
    reads_as g.D.Disk.seen g.D.Disk.image g.D.Disk.clock g.D.Disk.since g.D.Disk.lasts g.D.Disk.faults g.D.Disk.cut_after g.met.D.Disk.lasts_for_less g.met.D.Disk.cut_for_less _ _ _ 0 (reads_at room bytes) (sym (reads_past room bytes (omega (arith, size, c.size.ensures, c.if-left-eq0.true)))) (reads_none g.D.Disk.seen g.D.Disk.image g.D.Disk.clock g.D.Disk.since g.D.Disk.lasts g.D.Disk.faults g.D.Disk.cut_after g.met.D.Disk.lasts_for_less g.met.D.Disk.cut_for_less _ (g.met.D.Disk.only_now c.args.disk.now))

pub returns-in_err-gate-clause-reads : goal.returns-in_err-gate-clause-reads
returns-in_err-gate-clause-reads g c =
    let seen = g.D.Disk.seen c.args.disk.now in
    let bytes = drop c.args.at seen in
    let room = length c.args.text.now in
    let size = length-drop c.args.at seen in
    rw (failed_is _ c.from_residual.ensures.0) (reads_off g.D.Disk.seen g.D.Disk.image g.D.Disk.clock g.D.Disk.since g.D.Disk.lasts g.D.Disk.faults g.D.Disk.cut_after g.met.D.Disk.lasts_for_less g.met.D.Disk.cut_for_less _ _ 1 (reads_at room bytes) (reads_some room bytes (omega (arith, size, c.size.ensures, c.if-left-eq0.false))) c.in_err-gate.ensures.reads)

pub returns-then-gate-ne1-clause-reads : goal.returns-then-gate-ne1-clause-reads
returns-then-gate-ne1-clause-reads g c =
    let seen = g.D.Disk.seen c.args.disk.now in
    let bytes = drop c.args.at seen in
    let room = length c.args.text.now in
    let size = length-drop c.args.at seen in
    reads_as g.D.Disk.seen g.D.Disk.image g.D.Disk.clock g.D.Disk.since g.D.Disk.lasts g.D.Disk.faults g.D.Disk.cut_after g.met.D.Disk.lasts_for_less g.met.D.Disk.cut_for_less _ _ _ 1 (reads_at room bytes) (sym (reads_gate room c.in_ok-gate.gate bytes (drop (c.args.at + 1) seen) c.in_ok-gate.ensures.byte (ne_eqb c.in_ok-gate.gate 1 c.if-gate-ne1.true))) c.in_ok-gate.ensures.reads

pub returns-then-left-lt5-clause-reads : goal.returns-then-left-lt5-clause-reads
returns-then-left-lt5-clause-reads g c =
    let seen = g.D.Disk.seen c.args.disk.now in
    let bytes = drop c.args.at seen in
    let room = length c.args.text.now in
    let size = length-drop c.args.at seen in
    let rest = drop (c.args.at + 1) seen in
    let few = no_reads room rest (omega (arith, length-drop (c.args.at + 1) seen, c.size.ensures, c.if-left-lt5.true)) in
    let all = reads_open room c.in_ok-gate.gate bytes rest c.in_ok-gate.ensures.byte (ap (λ (gate : ℕ). nat_eq gate 1) c.if-gate-ne1.false) ∙ ap (λ (n : ℕ). 1 + n) few in
    reads_as g.D.Disk.seen g.D.Disk.image g.D.Disk.clock g.D.Disk.since g.D.Disk.lasts g.D.Disk.faults g.D.Disk.cut_after g.met.D.Disk.lasts_for_less g.met.D.Disk.cut_for_less _ _ _ 1 (reads_at room bytes) (sym all) c.in_ok-gate.ensures.reads

pub returns-in_err-count-clause-reads : goal.returns-in_err-count-clause-reads
returns-in_err-count-clause-reads g c =
    let seen = g.D.Disk.seen c.args.disk.now in
    let bytes = drop c.args.at seen in
    let room = length c.args.text.now in
    let rest = drop (c.args.at + 1) seen in
    let same = ap (λ (xs : List ℕ). reads_of_text room (drop (c.args.at + 1) xs)) c.in_ok-gate.ensures.reads.looks.same in
    let all = reads_open room c.in_ok-gate.gate bytes rest c.in_ok-gate.ensures.byte (ap (λ (gate : ℕ). nat_eq gate 1) c.if-gate-ne1.false) in
    let second = c.in_err-count.ensures.reads in
    rw (failed_is _ c.from_residual-in_err-count.ensures.0) (reads_on g.D.Disk.seen g.D.Disk.image g.D.Disk.clock g.D.Disk.since g.D.Disk.lasts g.D.Disk.faults g.D.Disk.cut_after g.met.D.Disk.lasts_for_less g.met.D.Disk.cut_for_less _ _ _ _ 1 _ (reads_at room bytes) (omega (arith, all, same)) c.in_ok-gate.ensures.reads second)

pub returns-in-Some-clause-reads : goal.returns-in-Some-clause-reads
returns-in-Some-clause-reads g c =
    let seen = g.D.Disk.seen c.args.disk.now in
    let bytes = drop c.args.at seen in
    let room = length c.args.text.now in
    let rest = drop (c.args.at + 1) seen in
    let same = ap (λ (xs : List ℕ). reads_of_text room (drop (c.args.at + 1) xs)) c.in_ok-gate.ensures.reads.looks.same in
    let all = reads_open room c.in_ok-gate.gate bytes rest c.in_ok-gate.ensures.byte (ap (λ (gate : ℕ). nat_eq gate 1) c.if-gate-ne1.false) in
    let second = c.in_ok-count.ensures.reads in
    (reads_on g.D.Disk.seen g.D.Disk.image g.D.Disk.clock g.D.Disk.since g.D.Disk.lasts g.D.Disk.faults g.D.Disk.cut_after g.met.D.Disk.lasts_for_less g.met.D.Disk.cut_for_less _ _ _ _ 1 _ (reads_at room bytes) (omega (arith, all, same)) c.in_ok-gate.ensures.reads second)

pub returns-in-None-clause-reads : goal.returns-in-None-clause-reads
returns-in-None-clause-reads g c =
    let seen = g.D.Disk.seen c.args.disk.now in
    let bytes = drop c.args.at seen in
    let room = length c.args.text.now in
    let rest = drop (c.args.at + 1) seen in
    let same = ap (λ (xs : List ℕ). reads_of_text room (drop (c.args.at + 1) xs)) c.in_ok-gate.ensures.reads.looks.same in
    let all = reads_open room c.in_ok-gate.gate bytes rest c.in_ok-gate.ensures.byte (ap (λ (gate : ℕ). nat_eq gate 1) c.if-gate-ne1.false) in
    let second = c.in_ok-count.ensures.reads in
    (reads_on g.D.Disk.seen g.D.Disk.image g.D.Disk.clock g.D.Disk.since g.D.Disk.lasts g.D.Disk.faults g.D.Disk.cut_after g.met.D.Disk.lasts_for_less g.met.D.Disk.cut_for_less _ _ _ _ 1 _ (reads_at room bytes) (omega (arith, all, same)) c.in_ok-gate.ensures.reads second)
