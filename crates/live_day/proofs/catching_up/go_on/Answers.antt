use Rattle.live_day.proofs.GoingFacts.{all_counts, enough, front_settled, nothing_heard, nothing_told, part_heard, part_told}
use Rattle.live_day.proofs.catching_up.go_on.Goals as goal

pub returns-then-is_settled-clause-told : goal.returns-then-is_settled-clause-told
returns-then-is_settled-clause-told g c bytes gone =
    nothing_told _ bytes c.args.piece.now _ gone (front_settled g.D.Listener.program gone.front _ _ g.met.D.RunsDay.runs (c.is_settled.ensures gone.front gone.heard) c.if-is_settled.true)

pub returns-then-is_settled-clause-heard : goal.returns-then-is_settled-clause-heard
returns-then-is_settled-clause-heard g c bytes gone =
    nothing_heard _ bytes c.args.piece.now gone (front_settled g.D.Listener.program gone.front _ _ g.met.D.RunsDay.runs (c.is_settled.ensures gone.front gone.heard) c.if-is_settled.true)

pub returns-clause-told : goal.returns-clause-told
returns-clause-told g c bytes gone =
    let going = front_settled g.D.Listener.program gone.front _ _ g.met.D.RunsDay.runs (c.is_settled.ensures gone.front gone.heard) c.if-is_settled.false in
    part_told g.D.Listener.program gone.front bytes c.args.piece.now _ _ _ _ g.met.D.RunsDay.runs (all_counts _ bytes gone going)
    (enough g.D.Listener.program gone.front c.args.piece.now _ _ g.met.D.RunsDay.runs (c.most.ensures gone.front gone.heard) c.min-count.ensures)
    (c.hear.ensures.told gone.front gone.heard)

pub returns-clause-heard : goal.returns-clause-heard
returns-clause-heard g c bytes gone =
    let going = front_settled g.D.Listener.program gone.front _ _ g.met.D.RunsDay.runs (c.is_settled.ensures gone.front gone.heard) c.if-is_settled.false in
    part_heard _ gone.front bytes c.args.piece.now _ _ (all_counts _ bytes gone going)
    (enough g.D.Listener.program gone.front c.args.piece.now _ _ g.met.D.RunsDay.runs (c.most.ensures gone.front gone.heard) c.min-count.ensures)
    (c.hear.ensures.heard gone.front gone.heard)
