use Rattle.std.proofs.Common.{◌≡◌, ◌∙◌, ℕ, ◌≤◌, ap, length, subst, sym}
use Rattle.machine.specs.Orders.Order.{one_scan, take_step}
use Rattle.day_facts.specs.Facts.{StandsFor}
use Rattle.settle_floor.specs.Floors.{OnFloor}
use Rattle.settle_floor.specs.Runs.{before_in}
use Rattle.settle_floor.proofs.Skipping.{few_before, still_before}
use Rattle.settle_floor.proofs.floor.Floor.first_left.Goals as goal

pub untaken_reached-requires : goal.untaken_reached-requires
untaken_reached-requires c =
    record { stands = subst (λ (f : OnFloor). StandsFor c.args.setting.now.day f.journal.history f.index.facts) (sym c.self.view_is) c.requires.opened.index.stands }

pub returns-clause-few : goal.returns-clause-few
returns-clause-few c =
    let day = c.args.setting.now.day in
    let e = few_before day c.self.inside.lines.journal.history c.untaken_reached.result (sym c.untaken_reached.ensures) in
    let is : c.count_before.result ≡ before_in (length day.messages) c.untaken_reached.result = c.count_before.ensures ∙ ap (λ (m : ℕ). before_in m c.untaken_reached.result) c.message_count.ensures.count in
    subst (λ (m : ℕ). m ≤ length day.messages) (sym is) e

pub returns-clause-still : goal.returns-clause-still
returns-clause-still c =
    let day = c.args.setting.now.day in
    let e = still_before day c.self.inside.lines.journal.history c.untaken_reached.result (sym c.untaken_reached.ensures) in
    let is : c.count_before.result ≡ before_in (length day.messages) c.untaken_reached.result = c.count_before.ensures ∙ ap (λ (m : ℕ). before_in m c.untaken_reached.result) c.message_count.ensures.count in
    subst (λ (f : OnFloor). f.journal.history ≡ one_scan (take_step day) f.journal.history c.count_before.result) c.self.view_is
    (e ∙ ap (one_scan (take_step day) c.self.inside.lines.journal.history) (sym is))
