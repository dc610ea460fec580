use Rattle.std.proofs.Common.{◌≤◌, ◌-◌, false, arith, subst}
use Rattle.machine.specs.Records.Reserves.{kept}
use Rattle.scan_laws.specs.Candidates.{IsFirstRound}
use Rattle.ready_items.specs.Normals.{fits_normal}
use Rattle.ready_items.proofs.GoesFacts.{going_round}
use Rattle.ready_items.proofs.NormalFacts.{none_goes}
use Rattle.ready_items.proofs.ready.ReadyItems.normal_candidate.Goals as goal

pub returns-then-money-left : goal.returns-then-money-left
returns-then-money-left c = λ J keeps. none_goes c.args.setting.now.day J c.args.a c.args.money (omega (arith, c.if-money-left.true, c.kept-left.ensures.value))

pub returns : goal.returns
returns c = λ J keeps.
    let day = c.args.setting.now.day in
    let there : kept day c.args.a false ≤ c.args.money = omega (arith, c.if-money-left.false, c.kept-left.ensures.value) in
    going_round day J c.args.a c.args.money c.args.self.now.at _ there
    (subst (λ left. IsFirstRound (fits_normal day J c.args.a (c.args.money - left)) c.args.self.now.at c.normal_within.result) c.kept-left.ensures.value (c.normal_within.ensures day J c.args.setting.now.sound keeps))
