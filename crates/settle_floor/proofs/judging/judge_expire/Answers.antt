-- There is no such item, as the message is none that can end.
use Rattle.std.proofs.Common.{◌≡◌, Bool, false, refl}
use Rattle.machine.specs.Records.Messages.{Sort, sort_of, is_a, is_b, is_c, is_e, is_pay}
use Rattle.settle_floor.proofs.JudgingFacts.{fails, lasting_sort, no_expire}
use Rattle.settle_floor.proofs.judging.judge_expire.Goals as goal

pub returns : goal.returns
returns g c =
    let other : (test : Sort → Bool) (b : Bool) → b ≡ test (sort_of c.setting-setting.result.now.day c.args.n) → b ≡ false → test (sort_of (g.D.Desk.day c.args.desk.now) c.args.n) ≡ false =
    λ test b is h. fails test c.setting-setting.result.now.day (g.D.Desk.day c.args.desk.now) c.args.n b is h c.setting-setting.ensures in (
      no_expire (g.D.Desk.day c.args.desk.now) (g.D.Desk.past c.args.desk.now) c.args.n c.no_such.result
          (lasting_sort (sort_of (g.D.Desk.day c.args.desk.now) c.args.n)
          (other is_pay c.is_pay.result c.is_pay.ensures c.if-is_pay.false)
          (other is_a c.is_a.result c.is_a.ensures c.if-is_a.false)
          (other is_b c.is_b.result c.is_b.ensures c.if-is_b.false)
          (other is_c c.is_c.result c.is_c.ensures c.if-is_c.false)
          (other is_e c.is_e.result c.is_e.ensures c.if-is_e.false)) c.no_such.ensures,
      refl,
    )
