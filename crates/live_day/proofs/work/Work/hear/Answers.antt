use Rattle.std.proofs.Common.{◌≡◌, ◌∙◌, ◌+◌, ◌∷◌, ◌++◌, [], true, ℕ, ap, subst, sym}
use Rattle.live_records.specs.Heard.{Heard}
use Rattle.live_day.specs.Events.{AreOfDay}
use Rattle.live_day.specs.Working.{IsWorking}
use Rattle.live_day.proofs.EventFacts.{of_records}
use Rattle.live_day.proofs.RowFacts.{next_comes, told_behind_batch, told_in_batch}
use Rattle.live_day.proofs.work.Work.hear.Goals as goal

pub hear_next-requires : goal.hear_next-requires
hear_next-requires g c =
    let k = c.requires in
    next_comes c.args.row.now c.args.self.now c.end_batch.new.self (g.S.Sink.state c.args.sink.now) (g.S.Sink.state c.end_batch.new.sink) c.in_ok-end_batch.field-0 k (c.in_ok-end_batch.ensures.ended k.records k.fields k.is k.at_work) c.end_batch.ensures.begun c.end_batch.ensures.shut

pub returns-in_err-end_batch-clause-told : goal.returns-in_err-end_batch-clause-told
returns-in_err-end_batch-clause-told g c records r is work number =
    told_in_batch records r (g.S.Sink.state c.args.sink.now) (g.S.Sink.state c.end_batch.new.sink) _ c.from_residual.result c.end_batch.new.self c.from_residual.ensures.0 (c.in_err-end_batch.ensures.ended records r is work)

pub returns-clause-told : goal.returns-clause-told
returns-clause-told g c records r is work number =
    let b = c.in_ok-end_batch.ensures.ended records r is work in
    told_behind_batch records r c.args.number (g.S.Sink.state c.args.sink.now) (g.S.Sink.state c.end_batch.new.sink) (g.S.Sink.state c.hear_next.new.sink) c.in_ok-end_batch.field-0 c.hear_next.result c.end_batch.new.self c.hear_next.new.self b
    (c.hear_next.ensures.heard b.before r is b.working b.of_day (subst AreOfDay (sym b.next) (of_records (records ++ r ∷ []))) (number ∙ ap (λ (n : ℕ). n + 1) (sym b.count)))

pub returns-clause-goes : goal.returns-clause-goes
returns-clause-goes g c records r is work number ok =
    let b = c.in_ok-end_batch.ensures.ended records r is work in
    let n = c.hear_next.ensures.heard b.before r is b.working b.of_day (subst AreOfDay (sym b.next) (of_records (records ++ r ∷ []))) (number ∙ ap (λ (n : ℕ). n + 1) (sym b.count)) in
    subst (λ (h : Heard). IsWorking h c.hear_next.new.self) b.next (n.goes ok)

pub returns-clause-breaks : goal.returns-clause-breaks
returns-clause-breaks g c records r is work number ok =
    let b = c.in_ok-end_batch.ensures.ended records r is work in
    let n = c.hear_next.ensures.heard b.before r is b.working b.of_day (subst AreOfDay (sym b.next) (of_records (records ++ r ∷ []))) (number ∙ ap (λ (n : ℕ). n + 1) (sym b.count)) in
    subst (λ (h : Heard). h.broken ≡ true) b.next (n.breaks ok)
