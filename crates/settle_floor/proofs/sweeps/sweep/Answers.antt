-- Without a reason the want has its line, with the one move.
use Rattle.std.proofs.Common.{◌≡◌, ◌∙◌, ◌-◌, List, [], ◌∷◌, ◌++◌, length, ap, arith, sym}
use Rattle.commit_journal.specs.declared.line.Move.{Move}
use Rattle.commit_journal.specs.Kept.{MovesInRoom}
use Rattle.commit_journal.specs.declared.line.Want.TheVariants as wants
use Rattle.machine.specs.Making.Lines.{sweep_move}
use Rattle.settlement_laws.proofs.Wants.Answering.{line-is}
use Rattle.settle_floor.proofs.SweepFacts.{sub_held, swept_is_sub}
use Rattle.settle_floor.proofs.sweeps.sweep.Goals as goal

pub sweep_move-requires-clause-sub : goal.sweep_move-requires-clause-sub
sweep_move-requires-clause-sub g c = swept_is_sub (g.D.Desk.day c.args.desk.now) (g.D.Desk.past c.args.desk.now) c.args.a (sym c.why_not_swept.ensures ∙ c.in-None.is)

pub sweep_move-requires-clause-held : goal.sweep_move-requires-clause-held
sweep_move-requires-clause-held g c =
    sub_held (g.D.Desk.held c.args.desk.now) (g.D.Desk.day c.args.desk.now) c.args.a (swept_is_sub (g.D.Desk.day c.args.desk.now) (g.D.Desk.past c.args.desk.now) c.args.a (sym c.why_not_swept.ensures ∙ c.in-None.is)) c.requires.held

pub returns-in-None : goal.returns-in-None
returns-in-None g c =
    let moved : c.push.new.self.moves ≡ sweep_move (g.D.Desk.day c.args.desk.now) (g.D.Desk.past c.args.desk.now) c.args.a ∷ [] =
    ap (λ (l : MovesInRoom). l.moves) c.push.ensures ∙ ap (λ (ms : List Move). ms ++ c.sweep_move.result ∷ []) c.requires.empty ∙ ap (λ (m : Move). m ∷ []) c.sweep_move.ensures in
    let left : c.push.new.self.room ≡ c.args.moves.now.room - 1 = ap (λ (l : MovesInRoom). l.room) c.push.ensures in
    let none = ap length c.requires.empty in
    let one = ap length moved in
    let room = c.requires.room in
    (line-is (g.D.Desk.day c.args.desk.now) (g.D.Desk.past c.args.desk.now) (wants.Sweep c.args.a) _ _ (sym c.why_not_swept.ensures ∙ c.in-None.is) c.head.ensures moved, omega (arith, left, none, one, room))
