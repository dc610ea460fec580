-- That facts stand for lines has one proof at most.
use Rattle.std.proofs.Common.{◌≤◌, ℕ, List, [], ◌∷◌, Option, ap, length, map}
use Rattle.std.specs.Coded.{coded_list}
use Rattle.std.proofs.Props.{props}
use base.Stored.{Coded-set}
use mathlib.Core.HLevel.{×_prop, Unit-prop}
use Rattle.commit_journal.specs.contracts.line.Head as head_row
use Rattle.commit_journal.specs.contracts.line.Move as move_row
use Rattle.commit_journal.specs.declared.line.Head.{Head}
use Rattle.commit_journal.specs.declared.line.Move.{Move}
use Rattle.commit_journal.specs.Line.{Line, History}
use Rattle.batch_records.specs.DayRecord.{Day}
use Rattle.machine.specs.Legal.{IsLegal}
use Rattle.machine.specs.Records.Messages.{message_numbers}
use Rattle.day_facts.specs.contracts.facts.DayFacts as facts_row
use Rattle.day_facts.specs.contracts.stages.Stage as stage_row
use Rattle.day_facts.specs.declared.stages.Stage.{Stage}
use Rattle.day_facts.specs.Facts.{Facts, StandsFor, facts_of}
use Rattle.day_facts.specs.Phasing.{stage_by}

heads : IsSet Head
heads = Coded-set head_row.the_row.coded

moves : IsSet (List Move)
moves = Coded-set (coded_list move_row.the_row.coded)

Line-set : IsSet Line
Line-set a b p q = λ i j. record {
  head = heads a.head b.head (ap (λ (l : Line). l.head) p) (ap (λ (l : Line). l.head) q) i j;
  moves = moves a.moves b.moves (ap (λ (l : Line). l.moves) p) (ap (λ (l : Line). l.moves) q) i j;
}

options : IsSet (Option Line)
options = Prim.hlevel (Line-set, props)

IsLegal-prop : (day : Day) (J : History) → IsProp (IsLegal day J)
IsLegal-prop day [] = Unit-prop
IsLegal-prop day (l ∷ J) = ×_prop (IsLegal-prop day J) (options _ _)

less : (a b : ℕ) → IsProp (a ≤ b)
less a b = Prim.hlevel props

Facts-set : IsSet Facts
Facts-set = Coded-set facts_row.the_row.coded

stage_lists : IsSet (List Stage)
stage_lists = Coded-set (coded_list stage_row.the_row.coded)

pub StandsFor-prop : (day : Day) (J : History) (facts : Facts) → IsProp (StandsFor day J facts)
StandsFor-prop day J facts a b = λ i. record {
  legal = IsLegal-prop day J a.legal b.legal i;
  exact = Facts-set facts (facts_of day J facts.stages (length facts.cycles) facts.room) a.exact b.exact i;
  systems = less _ _ a.systems b.systems i;
  staged = stage_lists facts.stages (map (stage_by day facts) (message_numbers day)) a.staged b.staged i;
}
