-- The first want that is ready has a line, where the day has not ended; where none is, no want of work has one.
use Rattle.std.proofs.Common.{◌≡◌, ◌∙◌, true, false, not, ◌&&◌, Option, Some, None, is_some, sym, ap, subst}
use Rattle.std.specs.Prelude.{IfSome, IsSome}
use Rattle.batch_records.specs.DayRecord.{Day}
use Rattle.commit_journal.specs.declared.line.Want.{Want}
use Rattle.commit_journal.specs.Kept.{Kept}
use Rattle.commit_journal.specs.Line.{History}
use Rattle.rule_book.specs.declared.setting.Setting.{Setting}
use Rattle.machine.specs.Telling.History.{is_ended}
use Rattle.machine.specs.OtherLaws.{is_work}
use Rattle.machine.specs.Making.Lines.{line_if, line_of, made, may}
use Rattle.machine.specs.Making.FirstReady.{first_ready}
use Rattle.settlement_laws.proofs.Wants.ReadyWants.{first_ready_has_a_line, none_is_ready}
use Rattle.settlement_laws.proofs.Base.Searches.{ready_is}

-- the want is work that has a line
abbrev pub HasWork : Day → History → Want → Type 0
HasWork day J want = (is_work want ≡ true) × IsSome (line_of day J want)

here : (day : Day) (J : History) (o : Option Want) → o ≡ first_ready day J → is_ended J ≡ false → IfSome o (HasWork day J)
here day J None e h = tt
here day J (Some want) e h =
    let first = first_ready_has_a_line day J (sym (ready_is day J) ∙ ap is_some (sym e)) h in
    subst (HasWork day J) (sym (same want first.0 (e ∙ first.1))) (first.2, first.3)
  where
    same : (v w : Want) → Some v ≡ Some w → v ≡ w
    same v w e = cc

pub works : (s : Setting) (day : Day) (j k : Kept) (o : Option Want) → s.day ≡ day → j ≡ k → o ≡ first_ready s.day j.history → is_ended j.history ≡ false → IfSome o (HasWork day k.history)
works s day j k o e f first going =
    subst (λ d. IfSome o (HasWork d k.history)) e (subst (λ (x : Kept). IfSome o (HasWork s.day x.history)) f (here s.day j.history o first going))

-- no want that is work has a line
abbrev pub NoneWorks : Day → History → Type 0
NoneWorks day J = (want : Want) → is_work want ≡ true → line_of day J want ≡ None

ended_rests : (day : Day) (J : History) → is_ended J ≡ true → NoneWorks day J
unfolding line_of
ended_rests day J h want w = ap (λ b. line_if (not b && may day J want) (made day J want)) h

pub rests_after_end : (day : Day) (j k : Kept) → j ≡ k → is_ended j.history ≡ true → NoneWorks day k.history
rests_after_end day j k f h = ended_rests day k.history (ap (λ (x : Kept). is_ended x.history) (sym f) ∙ h)

pub rests : (s : Setting) (day : Day) (j k : Kept) (o : Option Want) → s.day ≡ day → j ≡ k → o ≡ first_ready s.day j.history → o ≡ None → NoneWorks day k.history
rests s day j k o e f first none =
    subst (λ d. NoneWorks d k.history) e (subst (λ (x : Kept). NoneWorks s.day x.history) f
    (none_is_ready s.day j.history (sym (ready_is s.day j.history) ∙ ap is_some (sym first ∙ none))))
