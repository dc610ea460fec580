use Rattle.std.proofs.Common.{◌∙◌, ◌+◌, length, sym, arith}
use Rattle.frame_log.proofs.FindingFacts.{piece_of_size}
use Rattle.frame_log.proofs.StandingFacts.{either_since, finds_all, finds_still, gate_shut, same_text, standing_later, text_later, went_well}
use Rattle.frame_log.proofs.gate_log.GateLogLog.append.Goals as goal

pub put_down-requires-clause-closed : goal.put_down-requires-clause-closed
put_down-requires-clause-closed g c =
    let log = c.args.self.now in
    gate_shut log.end log.digest (g.D.Disk.seen log.disk) (log.stands (omega (arith, c.if-self-gt0.false))).0

pub invariant_of-self-then-is_err-clause-finds : goal.invariant_of-self-then-is_err-clause-finds
invariant_of-self-then-is_err-clause-finds g c =
    let log = c.args.self.now in
    let stands = log.stands (omega (arith, c.if-self-gt0.false)) in
    finds_still g.D.Disk.seen g.D.Disk.image g.D.Disk.clock g.D.Disk.since log.end log.digest c.digest_of-digest.result c.args.piece.now log.disk c.put_down.new.disk stands.0 (piece_of_size c.args.piece.now c.requires.some c.requires.small) c.digest_of-digest.ensures c.put_down.ensures.moments (g.met.D.Disk.counts_now c.put_down.new.disk) (g.met.D.Disk.reads_an_image c.put_down.new.disk)

pub returns-then-is_err-clause-same : goal.returns-then-is_err-clause-same
returns-then-is_err-clause-same g c =
    let log = c.args.self.now in
    let stands = log.stands (omega (arith, c.if-self-gt0.false)) in
    same_text g.D.Disk.seen g.D.Disk.image g.D.Disk.clock g.D.Disk.since log.end log.digest c.digest_of-digest.result c.args.piece.now log.disk c.put_down.new.disk stands.0 (piece_of_size c.args.piece.now c.requires.some c.requires.small) c.digest_of-digest.ensures c.put_down.ensures.moments (g.met.D.Disk.counts_now c.put_down.new.disk) (g.met.D.Disk.reads_an_image c.put_down.new.disk)

pub returns-then-is_err-clause-whole : goal.returns-then-is_err-clause-whole
returns-then-is_err-clause-whole g c = λ none.
    let log = c.args.self.now in
    let stands = log.stands (omega (arith, c.if-self-gt0.false)) in
    either_since g.D.Disk.seen g.D.Disk.image g.D.Disk.clock g.D.Disk.since log.end log.digest c.digest_of-digest.result c.args.piece.now log.disk c.put_down.new.disk stands.0 (piece_of_size c.args.piece.now c.requires.some c.requires.small) c.digest_of-digest.ensures c.put_down.ensures.moments

pub invariant_of-self-2-clause-finds : goal.invariant_of-self-2-clause-finds
invariant_of-self-2-clause-finds g c =
    let log = c.args.self.now in
    let stands = log.stands (omega (arith, c.if-self-gt0.false)) in
    let well = sym c.is_err.ensures.value ∙ c.if-is_err.false in
    finds_all g.D.Disk.seen g.D.Disk.image (log.end + (37 + length c.args.piece.now)) c.digest_of-digest.result c.put_down.new.disk
    (standing_later g.D.Disk.seen g.D.Disk.image g.D.Disk.clock g.D.Disk.since log.end log.digest c.digest_of-digest.result c.args.piece.now log.disk c.put_down.new.disk stands.0 (piece_of_size c.args.piece.now c.requires.some c.requires.small) c.digest_of-digest.ensures (went_well c.put_down.result _ well c.put_down.ensures.bytes) (went_well c.put_down.result _ well c.put_down.ensures.only))

pub invariant_of-self-2-clause-stands : goal.invariant_of-self-2-clause-stands
invariant_of-self-2-clause-stands g c = λ none.
    let log = c.args.self.now in
    let stands = log.stands (omega (arith, c.if-self-gt0.false)) in
    let well = sym c.is_err.ensures.value ∙ c.if-is_err.false in
    standing_later g.D.Disk.seen g.D.Disk.image g.D.Disk.clock g.D.Disk.since log.end log.digest c.digest_of-digest.result c.args.piece.now log.disk c.put_down.new.disk stands.0 (piece_of_size c.args.piece.now c.requires.some c.requires.small) c.digest_of-digest.ensures (went_well c.put_down.result _ well c.put_down.ensures.bytes) (went_well c.put_down.result _ well c.put_down.ensures.only)

pub returns-clause-kept : goal.returns-clause-kept
returns-clause-kept g c =
    let log = c.args.self.now in
    let stands = log.stands (omega (arith, c.if-self-gt0.false)) in
    let well = sym c.is_err.ensures.value ∙ c.if-is_err.false in
    text_later g.D.Disk.seen g.D.Disk.image g.D.Disk.clock g.D.Disk.since log.end log.digest c.digest_of-digest.result c.args.piece.now log.disk c.put_down.new.disk stands.0 (piece_of_size c.args.piece.now c.requires.some c.requires.small) c.digest_of-digest.ensures (went_well c.put_down.result _ well c.put_down.ensures.bytes)

pub returns-clause-whole : goal.returns-clause-whole
returns-clause-whole g c = λ none.
    let log = c.args.self.now in
    let stands = log.stands (omega (arith, c.if-self-gt0.false)) in
    either_since g.D.Disk.seen g.D.Disk.image g.D.Disk.clock g.D.Disk.since log.end log.digest c.digest_of-digest.result c.args.piece.now log.disk c.put_down.new.disk stands.0 (piece_of_size c.args.piece.now c.requires.some c.requires.small) c.digest_of-digest.ensures c.put_down.ensures.moments
