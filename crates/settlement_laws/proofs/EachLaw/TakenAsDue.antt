-- An In line is of a message of the day whose stop is reached, with the code of the table; and no line stands after the End line.
use Rattle.std.proofs.Common.{◌≡◌, ℕ, true, false, ◌&&◌, List, [], ◌∷◌}
use Rattle.std.specs.Prelude.{is_none}
use Rattle.std.proofs.lemmas.Bool.{and_parts}
use Rattle.batch_records.specs.DayRecord.{Day}
use Rattle.commit_journal.specs.declared.line.Move.{Move}
use Rattle.commit_journal.specs.declared.line.Code.{Code}
use Rattle.commit_journal.specs.declared.line.Kind.{Kind}
use Rattle.commit_journal.specs.declared.line.Kind.TheVariants as kinds
use Rattle.commit_journal.specs.Line.{History}
use Rattle.machine.specs.Records.Messages.{sort_of, is_message}
use Rattle.machine.specs.Telling.History.{is_in, taken}
use Rattle.machine.specs.Telling.Facts.{is_reached, untaken_earlier}
use Rattle.machine.specs.Stages.Intake.{intake_code}
use Rattle.machine.specs.Legal.{IsLegal}
use Rattle.machine.specs.Laws.{TakenAsDue, NothingFollowsTheEnd}
use Rattle.settlement_laws.proofs.Base.Made.{Made, made_facts}

line_due : (kind : Kind) (day : Day) (J : History) (n k : ℕ) (code : Code) (moves : List Move) → is_in kind ≡ true → Made kind day J n k code moves →
    (is_message (sort_of day n) ≡ true) × (is_reached day J n ≡ true) × (code ≡ intake_code day J n)
line_due kinds.In day J n k code moves h m =
    let reached = and_parts _ (is_reached day J n) (and_parts _ (is_none (untaken_earlier day J n)) m.0).0 in
    ((and_parts (is_message (sort_of day n)) (is_none (taken J n)) reached.0).0, reached.1, m.1)
line_due _ day J n k code moves h m = cc

pub taken_as_due : (day : Day) (J : History) → IsLegal day J → TakenAsDue day J
taken_as_due day [] legal = tt
taken_as_due day (l ∷ J) legal = (taken_as_due day J legal.0, λ h. line_due l.head.kind day J _ _ _ _ h (made_facts day J l legal.1).1)

pub nothing_follows_the_end : (day : Day) (J : History) → IsLegal day J → NothingFollowsTheEnd J
nothing_follows_the_end day [] legal = tt
nothing_follows_the_end day (l ∷ J) legal = (nothing_follows_the_end day J legal.0, (made_facts day J l legal.1).0)
