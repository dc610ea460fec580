-- A want that has a reason has no line.
use Rattle.std.proofs.Common.{◌≡◌, ℕ, true, Option, Some, None, Ok, Err, is_some, refl, sym, ap, ◌∙◌}
use Rattle.std.specs.Prelude.{is_none, OnErr, Result}
use Rattle.batch_records.specs.DayRecord.{Day}
use Rattle.commit_journal.specs.declared.line.Head.{Head}
use Rattle.commit_journal.specs.declared.line.Want.{Want}
use Rattle.commit_journal.specs.Kept.{MovesInRoom}
use Rattle.commit_journal.specs.Line.{History, Line}
use Rattle.machine.specs.declared.answers.Why.{Why}
use Rattle.rule_book.specs.Answering.{IsAnswer}
use Rattle.machine.specs.Making.Lines.{line_of}
use Rattle.machine.specs.Making.Reasons.{why_of}
use Rattle.settlement_laws.proofs.Wants.ReasonsMatchLines.{complement}

none_where : (day : Day) (J : History) (w : Want) (why : Why) → why_of day J w ≡ Some why → line_of day J w ≡ None
none_where day J w why e = none (line_of day J w) (sym (complement day J w) ∙ ap is_some e)
  where
    none : (o : Option Line) → is_none o ≡ true → o ≡ None
    none None h = refl
    none (Some l) h = cc

pub refused_none : (day : Day) (J : History) (w : Want) (old new : MovesInRoom) (r : Result Head Why) → IsAnswer day J w old new r → OnErr r (line_of day J w ≡ None)
refused_none day J w old new (Ok head) h = tt
refused_none day J w old new (Err why) h = none_where day J w why h.0
