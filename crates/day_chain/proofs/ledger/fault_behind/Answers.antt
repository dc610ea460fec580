use Rattle.std.proofs.Common.{Option, subst}
use Rattle.day_chain.specs.declared.ledger.Last.{Last}
use Rattle.day_chain.specs.Ledgers.{StandsAt}
use Rattle.day_chain.proofs.LedgerFacts.{fault_none, fault_some, few_accounts}
use Rattle.day_chain.proofs.ledger.fault_behind.Goals as goal

pub fault_between-requires-clause-few : goal.fault_between-requires-clause-few
fault_between-requires-clause-few c =
    let s = c.requires.stands in
    few_accounts c.in-Some.last s.0 s.1 (subst (λ (o : Option Last). StandsAt o s.0 s.1) c.in-Some.is s.2)

pub returns-in-Some : goal.returns-in-Some
returns-in-Some c = λ told books stands. fault_some c.in-Some.last told books c.args.day.now c.fault_between.result (subst (λ (o : Option Last). StandsAt o told books) c.in-Some.is stands) c.fault_between.ensures

pub returns-in-None : goal.returns-in-None
returns-in-None c = λ told books stands. fault_none told books c.args.day.now (subst (λ (o : Option Last). StandsAt o told books) c.in-None.is stands)
