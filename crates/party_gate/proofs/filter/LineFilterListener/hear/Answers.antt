use Rattle.std.proofs.Common.{arith, refl}
use Rattle.party_gate.proofs.PieceFacts.{all_told, none_taken, one_taken, told_in_part}
use Rattle.party_gate.proofs.filter.LineFilterListener.hear.Goals as goal

pub loop-b-init : goal.loop-b-init
loop-b-init g c =
    let counted = c.requires.heard.counted in
    let within = c.requires.within in
    record {
      taken = none_taken g.N.PartyName.name c.args.self.now (g.S.Sink.state c.args.sink.now) c.args.piece.now;
      small = omega (arith, counted, within);
    }

pub take-requires : goal.take-requires
take-requires g c = omega (arith, c.loop-b.invariant.small, c.loop-b-test.true)

pub returns-in_err-take-clause-told : goal.returns-in_err-take-clause-told
returns-in_err-take-clause-told g c =
    told_in_part g.N.PartyName.name c.args.self.now c.loop-b.self _ _ _ c.args.piece.now c.loop-b.b-index _ _ _ c.from_residual.ensures.0 c.loop-b-test.true refl c.loop-b.invariant.taken c.in_err-take.ensures.told

pub loop-b-preserved : goal.loop-b-preserved
loop-b-preserved g c = record {
  taken = one_taken g.N.PartyName.name c.args.self.now c.loop-b.self c.take.new.self _ _ _ c.args.piece.now c.loop-b.b-index _ _ c.loop-b-test.true refl c.loop-b.invariant.taken c.in_ok-take.ensures.told c.in_ok-take.ensures.seen;
  small = omega (arith, c.loop-b.invariant.small, c.in_ok-take.ensures.size);
}

pub returns-clause-told : goal.returns-clause-told
returns-clause-told g c = all_told g.N.PartyName.name c.args.self.now c.loop-b.self _ _ c.args.piece.now c.loop-b.b-index _ c.loop-b-test.false c.loop-b.invariant.taken
