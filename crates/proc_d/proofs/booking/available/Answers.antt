use Rattle.std.proofs.Common.{◌≡◌, true, Some, None, ap, ◌∙◌, subst}
use Rattle.machine.specs.Records.Messages.{technical_of}
use Rattle.proc_d.proofs.Held.{IsHeld, technical_held}
use Rattle.proc_d.proofs.booking.available.Goals as goal

pub balance-requires : goal.balance-requires
balance-requires g c =
    let h : IsHeld (g.D.Desk.held c.args.desk.now) (technical_of (g.D.Desk.day c.args.desk.now) c.args.n) = technical_held (g.D.Desk.held c.args.desk.now) (g.D.Desk.day c.args.desk.now) (g.D.Desk.past c.args.desk.now) c.args.n c.requires.batch c.requires.held c.requires.well in
    let e : Some c.in-Some.account ≡ Some h.0 = c.in-Some.ensures ∙ ap (λ d. technical_of d c.args.n) c.setting.ensures ∙ h.1 in
    let same : h.0 ≡ c.in-Some.account = cc in
    subst (λ a. g.D.Desk.held c.args.desk.now a ≡ true) same h.2

pub unreachable-requires : goal.unreachable-requires
unreachable-requires g c =
    let h : IsHeld (g.D.Desk.held c.args.desk.now) (technical_of (g.D.Desk.day c.args.desk.now) c.args.n) = technical_held (g.D.Desk.held c.args.desk.now) (g.D.Desk.day c.args.desk.now) (g.D.Desk.past c.args.desk.now) c.args.n c.requires.batch c.requires.held c.requires.well in
    let e : None ≡ Some h.0 = c.in-None.ensures ∙ ap (λ d. technical_of d c.args.n) c.setting.ensures ∙ h.1 in
    cc
