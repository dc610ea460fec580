use Rattle.std.proofs.Common.{◌≡◌, ◌∙◌, ap, arith}
use Rattle.scan_laws.specs.Runs.{flat_step}
use Rattle.scan_laws.proofs.Sizes.{count-few}
use Rattle.ready_items.proofs.MemberFacts.{member_within}
use Rattle.settle_floor.proofs.MemberRuns.{at_work_with, history_with, none_next, visited_next}
use Rattle.settle_floor.proofs.floor.Floor.visit_next.Goals as goal

pub visit_member-requires-clause-at_work : goal.visit_member-requires-clause-at_work
visit_member-requires-clause-at_work g c = at_work_with c.args.setting.now.day c.args.self.now c.go_on_from.new.self _ c.requires.at_work c.go_on_from.ensures.same c.go_on_from.ensures.ready

pub visit_member-requires-clause-next : goal.visit_member-requires-clause-next
visit_member-requires-clause-next g c = c.in-Some.ensures

pub turn_back-requires-clause-opened : goal.turn_back-requires-clause-opened
turn_back-requires-clause-opened g c = (at_work_with c.args.setting.now.day c.args.self.now c.go_on_from.new.self _ c.requires.at_work c.go_on_from.ensures.same c.go_on_from.ensures.ready).opened

pub turn_back-requires-clause-none : goal.turn_back-requires-clause-none
turn_back-requires-clause-none g c = c.in-None.ensures

pub returns-in-Some-clause-lines : goal.returns-in-Some-clause-lines
returns-in-Some-clause-lines g c = visited_next c.args.setting.now.day c.args.self.now.journal.history _ c.go_on_from.new.self.index.ready c.args.from c.in-Some.number c.go_on_from.ensures.ready.keeps c.go_on_from.ensures.renewed c.go_on_from.ensures.at c.in-Some.ensures
    (c.visit_member.ensures.lines ∙ ap (λ J. flat_step c.args.setting.now.day J c.in-Some.number) (history_with c.args.self.now c.go_on_from.new.self c.go_on_from.ensures.same))

pub returns-in-Some-clause-small : goal.returns-in-Some-clause-small
returns-in-Some-clause-small g c =
    let within = member_within c.args.setting.now.day c.args.self.now.journal.history c.go_on_from.new.self.index.ready c.in-Some.number c.go_on_from.ensures.ready.keeps c.in-Some.ensures.passes in
    let few = count-few c.args.setting.now.day c.args.setting.now.sound in
    omega (arith, within, few)

pub returns-in-Some-clause-at_work : goal.returns-in-Some-clause-at_work
returns-in-Some-clause-at_work g c = c.visit_member.ensures.at_work

pub returns-in-None-clause-lines : goal.returns-in-None-clause-lines
returns-in-None-clause-lines g c = none_next c.args.setting.now.day c.args.self.now.journal.history _ c.go_on_from.new.self.index.ready c.args.from c.go_on_from.ensures.ready.keeps c.go_on_from.ensures.renewed c.go_on_from.ensures.at c.in-None.ensures
    (history_with c.go_on_from.new.self c.turn_back.new.self c.turn_back.ensures.same ∙ history_with c.args.self.now c.go_on_from.new.self c.go_on_from.ensures.same)

pub returns-in-None-clause-at_work : goal.returns-in-None-clause-at_work
returns-in-None-clause-at_work g c =
    at_work_with c.args.setting.now.day c.go_on_from.new.self c.turn_back.new.self _ (at_work_with c.args.setting.now.day c.args.self.now c.go_on_from.new.self _ c.requires.at_work c.go_on_from.ensures.same c.go_on_from.ensures.ready) c.turn_back.ensures.same c.turn_back.ensures.ready
