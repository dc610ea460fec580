-- A history that speaks of the day's messages alone, and in which no time passes from the last of the day's stops on, is legal with a
-- longer day exactly where it is legal with the day.
use Rattle.std.proofs.Common.{◌≡◌, ◌∙◌, ℕ, ◌<◌, ◌≤◌, true, List, [], ◌∷◌, length, refl, sym}
use Rattle.std.specs.Prelude.{◌↔◌}
use Rattle.batch_records.specs.DayRecord.{Day}
use Rattle.batch_records.specs.declared.day.Message.{Message}
use Rattle.commit_journal.specs.declared.line.Kind.{Kind}
use Rattle.commit_journal.specs.declared.line.Kind.TheVariants as kinds
use Rattle.commit_journal.specs.Line.{History}
use Rattle.machine.specs.Telling.History.{is_time}
use Rattle.machine.specs.Telling.Facts.{round}
use Rattle.machine.specs.Legal.{IsLegal, want_as, want_of}
use Rattle.live_order.specs.Longer.{longer, GoesOn, SpeaksOf, IsWithin, PassesWithin}
use Rattle.live_order.proofs.Longer.LinesSame.{line_same}

pub line_within : (day : Day) (J : History) (kind : Kind) (n k : ℕ) → n ≤ length day.messages → (is_time kind ≡ true → round day J < length day.stops) → IsWithin day J (want_as kind n k)
line_within day J kinds.In n k h t = h
line_within day J kinds.Book n k h t = h
line_within day J kinds.All n k h t = h
line_within day J kinds.Time n k h t = t refl
line_within day J kinds.Expire n k h t = h
line_within day J kinds.Ask n k h t = h
line_within day J kinds.Cover n k h t = h
line_within day J kinds.Refuse n k h t = h
line_within day J kinds.Sweep n k h t = tt
line_within day J kinds.End n k h t = tt

module _ (day : Day) (ms : List Message) (ss : List ℕ) (g : GoesOn day ms ss) where
  pub legal_first : (J : History) → SpeaksOf (length day.messages) J → PassesWithin day J → IsLegal (longer day ms ss) J → IsLegal day J
  legal_first [] f p h = h
  legal_first (l ∷ J) f p h =
      (legal_first J f.0 p.0 h.0, sym (line_same day ms ss g J f.0 (want_of l) (line_within day J l.head.kind l.head.msg l.head.entry f.1 p.1)) ∙ h.1)

  pub legal_second : (J : History) → SpeaksOf (length day.messages) J → PassesWithin day J → IsLegal day J → IsLegal (longer day ms ss) J
  legal_second [] f p h = h
  legal_second (l ∷ J) f p h =
      (legal_second J f.0 p.0 h.0, line_same day ms ss g J f.0 (want_of l) (line_within day J l.head.kind l.head.msg l.head.entry f.1 p.1) ∙ h.1)

  pub same_legal : (J : History) → SpeaksOf (length day.messages) J → PassesWithin day J → IsLegal (longer day ms ss) J ↔ IsLegal day J
  same_legal J f p = (legal_first J f p, legal_second J f p)
