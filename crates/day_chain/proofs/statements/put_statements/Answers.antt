use Rattle.std.proofs.Common.{Option, subst}
use Rattle.day_chain.specs.declared.ledger.Last.{Last}
use Rattle.day_chain.specs.Ledgers.{StandsAt}
use Rattle.day_chain.proofs.YearFacts.{all_years, no_years, puts_nothing, puts_same, ready}
use Rattle.day_chain.proofs.statements.put_statements.Goals as goal

pub put_all_years-requires-clause-few : goal.put_all_years-requires-clause-few
put_all_years-requires-clause-few g c =
    let s = c.requires.stands in
    (ready c.in-Some.last s.0 c.args.years.now (subst (λ (o : Option Last). StandsAt o s.0 c.args.years.now) c.in-Some.is s.1)).few

pub put_all_years-requires-clause-latest : goal.put_all_years-requires-clause-latest
put_all_years-requires-clause-latest g c =
    let s = c.requires.stands in
    (ready c.in-Some.last s.0 c.args.years.now (subst (λ (o : Option Last). StandsAt o s.0 c.args.years.now) c.in-Some.is s.1)).latest

pub put_all_years-requires-clause-earlier : goal.put_all_years-requires-clause-earlier
put_all_years-requires-clause-earlier g c =
    let s = c.requires.stands in
    (ready c.in-Some.last s.0 c.args.years.now (subst (λ (o : Option Last). StandsAt o s.0 c.args.years.now) c.in-Some.is s.1)).earlier

pub returns-in-Some : goal.returns-in-Some
returns-in-Some g c = λ told stands.
    puts_same _ _ _ _ _ (all_years c.in-Some.last told c.args.years.now (subst (λ (o : Option Last). StandsAt o told c.args.years.now) c.in-Some.is stands)) c.put_all_years.ensures

pub returns-in-None : goal.returns-in-None
returns-in-None g c = λ told stands.
    puts_nothing _ _ tt (no_years told c.args.years.now (subst (λ (o : Option Last). StandsAt o told c.args.years.now) c.in-None.is stands))
