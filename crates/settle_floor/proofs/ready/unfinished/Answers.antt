-- The accounts of a want are at hand, where all are; and nothing is left of other messages.
use Rattle.std.proofs.Common.{◌≡◌, Bool, false}
use Rattle.commit_journal.specs.declared.line.Want.TheVariants as wants
use Rattle.machine.specs.Records.Messages.{Sort, sort_of, is_a, is_b, is_c, is_e, is_pay}
use Rattle.settle_floor.proofs.JudgingFacts.{fails}
use Rattle.settle_floor.proofs.ReadyFacts.{nothing_left}
use Rattle.settle_floor.proofs.HeldFacts.{all_held}
use Rattle.settle_floor.proofs.ready.unfinished.Goals as goal

pub unfinished-requires-clause-held : goal.unfinished-requires-clause-held
unfinished-requires-clause-held g c = all_held (g.D.Desk.held c.args.desk.now) (g.D.Desk.day c.args.desk.now) c.requires.all (wants.Book c.args.n 0)

pub unfinished-requires-then-is_a-clause-held : goal.unfinished-requires-then-is_a-clause-held
unfinished-requires-then-is_a-clause-held g c = all_held (g.D.Desk.held c.args.desk.now) (g.D.Desk.day c.args.desk.now) c.requires.all (wants.Expire c.args.n)

pub unfinished-requires-then-is_b-clause-held : goal.unfinished-requires-then-is_b-clause-held
unfinished-requires-then-is_b-clause-held g c = all_held (g.D.Desk.held c.args.desk.now) (g.D.Desk.day c.args.desk.now) c.requires.all (wants.Expire c.args.n)

pub unfinished-requires-then-is_c-clause-held : goal.unfinished-requires-then-is_c-clause-held
unfinished-requires-then-is_c-clause-held g c = all_held (g.D.Desk.held c.args.desk.now) (g.D.Desk.day c.args.desk.now) c.requires.all (wants.Expire c.args.n)

pub unfinished-requires-then-is_e-clause-held : goal.unfinished-requires-then-is_e-clause-held
unfinished-requires-then-is_e-clause-held g c = all_held (g.D.Desk.held c.args.desk.now) (g.D.Desk.day c.args.desk.now) c.requires.all (wants.Expire c.args.n)

pub returns : goal.returns
returns g c =
    let other : (test : Sort → Bool) (b : Bool) → b ≡ test (sort_of c.setting-setting.result.now.day c.args.n) → b ≡ false → test (sort_of (g.D.Desk.day c.args.desk.now) c.args.n) ≡ false =
    λ test b is h. fails test c.setting-setting.result.now.day (g.D.Desk.day c.args.desk.now) c.args.n b is h c.setting-setting.ensures in
    nothing_left (g.D.Desk.day c.args.desk.now) (g.D.Desk.past c.args.desk.now) c.args.n
    (other is_pay c.is_pay.result c.is_pay.ensures c.if-is_pay.false)
    (other is_a c.is_a.result c.is_a.ensures c.if-is_a.false)
    (other is_b c.is_b.result c.is_b.ensures c.if-is_b.false)
    (other is_c c.is_c.result c.is_c.ensures c.if-is_c.false)
    (other is_e c.is_e.result c.is_e.ensures c.if-is_e.false)
