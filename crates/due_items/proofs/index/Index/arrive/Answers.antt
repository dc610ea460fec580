use Rattle.std.proofs.Common.{◌∙◌, ◌≡◌, ap, subst, sym}
use Rattle.due_items.specs.Index.{Index, index_upto}
use Rattle.due_items.specs.Row.{HasRoomFor, spent}
use Rattle.due_items.proofs.ArrivalFacts.{index_arrives}
use Rattle.due_items.proofs.index.Index.arrive.Goals as goal

pub returns-clause-index : goal.returns-clause-index
returns-clause-index c = λ k e last enough is.
    let day = c.args.setting.now.day in
    let v : Index = record { row = c.self.inside.row; infos = c.self.inside.infos; froms = c.self.inside.froms; tills = c.self.inside.tills; cycles = c.self.inside.cycles } in
    let room : HasRoomFor day c.args.n v.row.room = subst (λ (x : Index). HasRoomFor day c.args.n x.row.room) (sym c.self.view_is) enough in
    index_arrives day k c.args.n v c.arrive.new.self c.arrive-2.new.self c.arrive-3.new.self c.arrive-4.new.self c.arrive-5.new.self room
    (subst (λ (x : Index). x ≡ index_upto day k x.row.room) (sym c.self.view_is) is)
    (c.arrive.ensures.row k e last room) (c.arrive-2.ensures k e) (c.arrive-3.ensures k e) (c.arrive-4.ensures k e) (c.arrive-5.ensures k e)
    ∙ ap (λ (x : Index). index_upto day c.args.n (spent day c.args.n x.row.room)) c.self.view_is

pub returns-clause-room : goal.returns-clause-room
returns-clause-room c = λ enough.
    let day = c.args.setting.now.day in
    let room : HasRoomFor day c.args.n c.self.inside.row.room = subst (λ (x : Index). HasRoomFor day c.args.n x.row.room) (sym c.self.view_is) enough in
    c.arrive.ensures.room room ∙ ap (λ (x : Index). spent day c.args.n x.row.room) c.self.view_is
