use Rattle.std.proofs.Common.{[], arith, refl}
use Rattle.program_answers.proofs.Listening.{sets_out}
use Rattle.program_answers.proofs.live_serving.hear_all.Goals as goal

pub loop-before-init : goal.loop-before-init
loop-before-init g c = record {
  heard = [];
  has = c.requires.first;
  count = omega arith;
  way = sets_out g.L.Listener.program g.P.Sink.state c.args.gathering.now g.met.L.Listener.none;
  same = refl;
}
