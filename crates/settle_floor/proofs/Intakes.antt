-- When a message is taken, and the line that takes it.
use Rattle.std.proofs.Common.{◌≡◌, ℕ, Bool, true, false, List, [], ◌∷◌, Option, Some, None, is_none, refl, sym, ap, ◌∙◌}
use Rattle.std.specs.Prelude.{option_map}
use Rattle.batch_records.specs.DayRecord.{Day}
use Rattle.commit_journal.specs.declared.line.Code.{Code}
use Rattle.commit_journal.specs.declared.line.Kind.TheVariants as kinds
use Rattle.commit_journal.specs.declared.line.Move.{Move}
use Rattle.commit_journal.specs.declared.line.Want.TheVariants as wants
use Rattle.commit_journal.specs.Line.{History}
use Rattle.commit_journal.specs.declared.line.Head.{Head}
use Rattle.machine.specs.declared.answers.Why.{Why}
use Rattle.machine.specs.declared.answers.Why.TheVariants as whys
use Rattle.machine.specs.Words.{first_some, unless}
use Rattle.machine.specs.Records.Messages.{is_message, round_of, sort_of}
use Rattle.machine.specs.Telling.History.{ended, taken}
use Rattle.machine.specs.Telling.Facts.{is_reached, untaken_earlier}
use Rattle.machine.specs.Stages.Intake.{intake_code, intake_moves}
use Rattle.machine.specs.Making.Lines.{in_line, line, line_of}
use Rattle.machine.specs.Making.Reasons.{why_not_in}
use Rattle.settlement_laws.proofs.Wants.Answering.{line_there}
use Rattle.settle_floor.specs.Taking.{obstacle_in}

-- ---- reasons

abbrev reasons_by : Day → History → ℕ → Option ℕ → Option Why
reasons_by day J n over = first_some (
    option_map whys.Over over
    ∷ unless (is_message (sort_of day n)) whys.NoSuch
    ∷ option_map whys.Taken (taken J n)
    ∷ unless (is_reached day J n) (whys.Round (round_of day n))
    ∷ option_map whys.Earlier (untaken_earlier day J n)
    ∷ [])

reasons-open : (day : Day) (J : History) (n : ℕ) → why_not_in day J n ≡ reasons_by day J n (ended J)
unfolding why_not_in
reasons-open day J n = refl

pub why_over : (day : Day) (J : History) (n place : ℕ) → ended J ≡ Some place → why_not_in day J n ≡ Some (whys.Over place)
why_over day J n place h = reasons-open day J n ∙ ap (reasons_by day J n) h

going : (day : Day) (J : History) (n : ℕ) → reasons_by day J n None ≡ obstacle_in day J n
unfolding obstacle_in
going day J n = refl

pub why_going : (day : Day) (J : History) (n : ℕ) → ended J ≡ None → why_not_in day J n ≡ obstacle_in day J n
why_going day J n h = reasons-open day J n ∙ ap (reasons_by day J n) h ∙ going day J n

-- a message that nothing stands against is there, and untaken
free_rows : (o : Option ℕ) (m : Bool) (t : Option ℕ) (rest : List (Option Why)) (x : Why) →
    first_some (option_map whys.Over o ∷ unless m x ∷ option_map whys.Taken t ∷ rest) ≡ None → (m ≡ true) × (is_none t ≡ true)
free_rows (Some p) m t rest x h = cc
free_rows None false t rest x h = cc
free_rows None true (Some p) rest x h = cc
free_rows None true None rest x h = (refl, refl)

pub is_free : (day : Day) (J : History) (n : ℕ) → why_not_in day J n ≡ None → (is_message (sort_of day n) ≡ true) × (is_none (taken J n) ≡ true)
unfolding why_not_in
is_free day J n h = free_rows (ended J) (is_message (sort_of day n)) (taken J n) _ _ h

-- ---- the line

with_code : (day : Day) (J : History) (n : ℕ) (c : Code) (ms : List Move) → c ≡ intake_code day J n → ms ≡ intake_moves day J n c → in_line day J n ≡ line kinds.In n 0 c ms
with_code day J n c ms e f = ap (λ x. line kinds.In n 0 x (intake_moves day J n x)) (sym e) ∙ ap (line kinds.In n 0 c) (sym f)

pub in_line-is : (day : Day) (J : History) (n : ℕ) (c : Code) (h : Head) (ms : List Move) → why_not_in day J n ≡ None → h ≡ record { kind = kinds.In; msg = n; entry = 0; code = c } → c ≡ intake_code day J n → ms ≡ intake_moves day J n c →
    line_of day J (wants.In n) ≡ Some (record { head = h; moves = ms })
in_line-is day J n c h ms none is e f = line_there day J (wants.In n) none ∙ ap Some (with_code day J n c ms e f) ∙ (λ i. Some (record { head = sym is i; moves = ms }))
