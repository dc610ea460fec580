use Rattle.std.proofs.Common.{ℕ, ◌-◌, take, arith, length-drop, length-take}
use Rattle.outside_io.proofs.GatheringLemmas.{handed_front, rest_from, put_first, put_next}
use Rattle.outside_io.proofs.WriteLemmas.{stopped_at, took, took_more}
use Rattle.outside_io.proofs.gathering.put_from.Goals as goal

pub loop-from-init : goal.loop-from-init
loop-from-init g c = record { onward = omega arith; inside = omega (arith, c.requires.place, c.requires.used, length-take {A = ℕ} c.args.used c.args.room.now); put = put_first _ (take c.args.used c.args.room.now) c.args.from.now }

pub loop-from-preserved : goal.loop-from-preserved
loop-from-preserved g c = record {
  onward = omega (arith, c.loop-from.invariant.onward);
  inside = omega (arith, c.in_ok-from.ensures.bound, length-drop {A = ℕ}, length-take {A = ℕ});
  put = put_next _ _ _ _ _ _ c.loop-from.invariant.onward (took_more _ _ _ _ _ _ _ (rest_from _ _ _ c.loop-from.invariant.onward) c.loop-from.invariant.put (took _ _ _ _ c.in_ok-from.ensures.bound.1 c.in_ok-from.ensures.bytes c.in_ok-from.ensures.passed c.in_ok-from.ensures.count.kept c.in_ok-from.ensures.unread c.in_ok-from.ensures.sure.ok));
}

pub returns-in_err-from-clause-handed : goal.returns-in_err-from-clause-handed
returns-in_err-from-clause-handed g c =
    handed_front _ _ (take c.args.used c.args.room.now) c.args.from.now c.loop-from.from _ c.loop-from.invariant.onward c.from_residual.ensures.0
    (stopped_at _ _ _ _ (c.loop-from.from - c.args.from.now) (omega (arith, c.loop-from-test.true, c.loop-from.invariant.onward, length-drop {A = ℕ} c.args.from.now (take c.args.used c.args.room.now))) c.loop-from.invariant.put c.in_err-from.ensures.bytes c.in_err-from.ensures.passed c.in_err-from.ensures.later c.in_err-from.ensures.count.counted c.in_err-from.ensures.failed c.in_err-from.ensures.unread c.in_err-from.ensures.sure.err)
