use Rattle.std.proofs.Common.{◌∙◌, Option, subst, sym, ap}
use Rattle.day_chain.specs.declared.ledger.Last.{Last}
use Rattle.period_calendar.specs.Calendar.{CivilDay}
use Rattle.day_chain.specs.Ledgers.{IsOpened, StandsAt}
use Rattle.day_chain.proofs.LedgerFacts.{opened_first, opened_new, opened_same}
use Rattle.day_chain.proofs.ledger.open_year.Goals as goal
use Rattle.day_chain.proofs.ledger.open_year.Goals.{in-Some+else-last-year+in_ok-push-in-Some, in-None}

pub returns-then-last-year : goal.returns-then-last-year
returns-then-last-year c = λ told stands fine.
    opened_same c.args.day.now c.in-Some.last told c.args.years.now.items (subst (λ (o : Option Last). StandsAt o told c.args.years.now.items) c.in-Some.is stands) fine (c.if-last-year.true ∙ (c.year-year.ensures.value ∙ ap (λ (d : CivilDay). d.year) c.date.ensures))

pub returns : goal.returns
returns c = λ told stands fine. elim c.match-last.branch [
  | in-Some+else-last-year+in_ok-push-in-Some w ↦
      opened_new c.args.day.now w.in-Some.last told c.args.years.now.items c.match-last.years.items (record { year = c.year-year.result; sums = c.in_ok-sums.sums }) (subst (λ (o : Option Last). StandsAt o told c.args.years.now.items) w.in-Some.is stands) fine
      (λ e. w.if-last-year.false (e ∙ sym (c.year-year.ensures.value ∙ ap (λ (d : CivilDay). d.year) c.date.ensures))) (ap (λ (v : _). v.items) w.years-is ∙ w.in_ok-push-in-Some.ensures.items) (c.year-year.ensures.value ∙ ap (λ (d : CivilDay). d.year) c.date.ensures) c.in_ok-sums.ensures
  | in-None w ↦
      subst (λ (v : _). IsOpened c.args.day.now told (record { year = c.year-year.result; sums = c.in_ok-sums.sums }) v.items) (sym w.years-is)
      (opened_first c.args.day.now told c.args.years.now.items (record { year = c.year-year.result; sums = c.in_ok-sums.sums }) (subst (λ (o : Option Last). StandsAt o told c.args.years.now.items) w.in-None.is stands) (c.year-year.ensures.value ∙ ap (λ (d : CivilDay). d.year) c.date.ensures) c.in_ok-sums.ensures)
]
