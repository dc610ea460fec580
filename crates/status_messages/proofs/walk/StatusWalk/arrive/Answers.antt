use Rattle.std.proofs.Common.{◌∙◌, ◌+◌, ◌<◌, ap, length, subst, sym}
use Rattle.number_set.specs.Members.{has}
use Rattle.machine.specs.Records.Messages.{entries}
use Rattle.day_facts.specs.Facts.{StandsFor}
use Rattle.day_facts.specs.Room.{HasRoom}
use Rattle.status_messages.specs.Walks.{Walk}
use Rattle.status_messages.proofs.walk.StatusWalk.arrive.Goals as goal

pub arrive-requires : goal.arrive-requires
arrive-requires c = subst (λ (w : Walk). HasRoom 1 (length (entries c.args.setting.now.day c.args.n)) w.facts) (sym c.self.view_is) c.requires

pub returns-clause-room : goal.returns-clause-room
returns-clause-room c = λ messages more room.
    c.arrive.ensures.room messages more (subst (λ (w : Walk). HasRoom (messages + 1) (more + length (entries c.args.setting.now.day c.args.n)) w.facts) (sym c.self.view_is) room)

pub returns-clause-day : goal.returns-clause-day
returns-clause-day c = λ day m ms ss J next stays stands. record {
  facts = c.arrive.ensures.day day m ms ss J next stays (subst (λ (w : Walk). StandsFor day J w.facts) (sym c.self.view_is) stands.facts);
  banks = λ a. ap (λ (w : Walk). has w.banks a) c.self.view_is ∙ stands.banks a;
  accounts = subst (λ (w : Walk). length day.accounts < length w.banks) (sym c.self.view_is) stands.accounts;
}
