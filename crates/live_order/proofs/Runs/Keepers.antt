-- What lines that don't move the clock keep, a round of takings, the scans and the emptying keep.
use Rattle.std.proofs.Common.{◌≡◌, ◌∙◌, ℕ, zero, suc, Bool, true, false, length, Option, Some, None, refl, sym, ap}
use Rattle.std.specs.Prelude.{if◌then◌else◌}
use Rattle.batch_records.specs.DayRecord.{Day}
use Rattle.commit_journal.specs.declared.line.Want.{Want}
use Rattle.commit_journal.specs.declared.line.Want.TheVariants as wants
use Rattle.commit_journal.specs.Line.{Line, History}
use Rattle.machine.specs.declared.answers.Phase.{Phase}
use Rattle.machine.specs.declared.answers.Phase.TheVariants as phases
use Rattle.machine.specs.Records.Messages.{entries, is_b, sort_of}
use Rattle.machine.specs.Telling.History.{clock, is_time}
use Rattle.machine.specs.Stages.Phases.{phase}
use Rattle.machine.specs.Making.Lines.{may_ask, may_cover, made, line_of, item_want, message_want}
use Rattle.machine.specs.Orders.Bounds.{left}
use Rattle.machine.specs.Orders.Order.{append, with_line, take_step, take_all, item_step, items_step, scan, empty_step, empty_all, is_quiet, quiet}
use Rattle.settlement_laws.proofs.Base.Induction.{line_of-some}
use Rattle.settlement_laws.proofs.Base.LinesOf.{clock_stays}
use Rattle.live_order.proofs.Runs.RunsAlike.{scan_keeps, until_keeps}

-- ---- wants that don't move the clock

abbrev pub IsNoTime : Want → Type 0
IsNoTime wants.Time = ⊥
IsNoTime _ = Unit {0}

no_time_line : (day : Day) (J : History) (w : Want) → IsNoTime w → is_time (made day J w).head.kind ≡ false
no_time_line day J (wants.In n) h = refl
no_time_line day J (wants.Book n k) h = refl
no_time_line day J (wants.All n) h = refl
no_time_line day J wants.Time h = absurd h
no_time_line day J (wants.Expire n) h = refl
no_time_line day J (wants.Ask n) h = refl
no_time_line day J (wants.Cover n) h = refl
no_time_line day J (wants.Refuse n) h = refl
no_time_line day J (wants.Sweep a) h = refl
no_time_line day J wants.End h = refl

message_no_time : (day : Day) (J : History) (n : ℕ) (p : Phase) → IsNoTime (message_want day J n p)
message_no_time day J n phases.Overdue = here (may_ask day J n)
  where
    here : (b : Bool) → IsNoTime (if b then wants.Ask n else wants.Expire n)
    here true = tt
    here false = tt
message_no_time day J n phases.Answered = here (may_cover day J n)
  where
    here : (b : Bool) → IsNoTime (if b then wants.Cover n else wants.Refuse n)
    here true = tt
    here false = tt
message_no_time day J n phases.Asking = tt
message_no_time day J n _ = here (is_b (sort_of day n))
  where
    here : (b : Bool) → IsNoTime (if b then wants.All n else wants.Book n 0)
    here true = tt
    here false = tt

pub item_no_time : (day : Day) (J : History) (n k : ℕ) → IsNoTime (item_want day J n k)
item_no_time day J n zero = message_no_time day J n (phase day J n)
item_no_time day J n (suc k) = tt

pub clock_kept : (day : Day) (J : History) (w : Want) → IsNoTime w → clock (append day J w) ≡ clock J
unfolding append
clock_kept day J w h = here (line_of day J w) refl
  where
    here : (o : Option Line) → line_of day J w ≡ o → clock (with_line o J) ≡ clock J
    here None e = refl
    here (Some l) e = clock_stays l J (ap (λ (x : Line). is_time x.head.kind) (sym (line_of-some day J w l e).2) ∙ no_time_line day J w h)

module _ (day : Day) (Q : History → Type 0) (more : (J : History) (w : Want) → IsNoTime w → Q J → Q (append day J w)) where
  pub take_keeps : (J : History) (n : ℕ) → Q J → Q (take_step day J n)
  take_keeps J n q = more J (wants.In (suc n)) tt q

  pub take_all_keeps : (J : History) → Q J → Q (take_all day J)
  unfolding take_all
  take_all_keeps J q = scan_keeps Q (take_step day) J q take_keeps (length day.messages)

  items_keep : (J : History) (n : ℕ) → Q J → Q (items_step day J n)
  items_keep J n q =
      scan_keeps Q (item_step day (suc n)) J q (λ K k r. more K (item_want day K (suc n) k) (item_no_time day K (suc n) k) r) (suc (length (entries day (suc n))))

  scan_keeps_it : (J : History) → Q J → Q (scan day J)
  unfolding scan
  scan_keeps_it J q = scan_keeps Q (items_step day) J q items_keep (length day.messages)

  pub quiet_keeps : (J : History) → Q J → Q (quiet day J)
  unfolding quiet
  quiet_keeps J q = until_keeps Q (is_quiet day) (scan day) (λ K r e. scan_keeps_it K r) (left day J) J q

  pub empty_keeps : (J : History) → Q J → Q (empty_all day J)
  unfolding empty_all
  empty_keeps J q = scan_keeps Q (empty_step day) J q (λ K a r. more K (wants.Sweep (suc a)) tt r) (length day.accounts)
