-- The version of a day changes nothing of what its lines tell: a migrated day has the same outputs.
use Rattle.std.proofs.Common.{◌≡◌, ◌∙◌, ◌++◌, List, [], ◌∷◌, Option, Some, None, refl, sym, not}
use Rattle.std.specs.Prelude.{ℕ, ◌&&◌, filter, if◌then◌else◌, is_some, map}
use Rattle.std.specs.List.{flat_map}
use Rattle.batch_records.specs.DayRecord.{Day}
use Rattle.batch_records.specs.Meets.{migrated}
use Rattle.commit_journal.specs.declared.line.Code.TheVariants as line_codes
use Rattle.commit_journal.specs.Line.{History, Line}
use Rattle.commit_journal.specs.Text.{journal_text}
use Rattle.machine.specs.Laws.{is_order}
use Rattle.machine.specs.Records.Messages.{Sort, BatchA, BatchB, BatchD, BatchE, entry_numbers, message_numbers, sort_of}
use Rattle.machine.specs.Records.Setup.{account_numbers}
use Rattle.machine.specs.Telling.Balances.{balance}
use Rattle.machine.specs.Telling.Facts.{takes_well}
use Rattle.settlement_laws.proofs.EachLaw.SameVersion.{phase_same, revoked_same, stated_alone, target_same}
use Rattle.status_messages.specs.declared.status.TurnCode.TheVariants as turn_codes
use Rattle.status_messages.specs.Statuses.{all_statuses, ask_statuses, failure_statuses, information_statuses, intake_statuses, is_revoked, is_settled, move_statuses, objection_statuses, objection_target, place_after, rejection_statuses, rejections_as, revocation, revocations_as, revocations_of, settlement_statuses, statuses, turn_told}
use Rattle.status_messages.specs.Telling.{texts}
use Rattle.as_client.specs.Reports.{count_text, holding_text}
use Rattle.rtgs_engine.specs.Outputs.{output}
use Rattle.std.specs.Prelude.{length}

module _ (day : Day) where
  revocations_by : (J : History) (l : Line) (b : ℕ) (s : Sort) → revocations_as s (stated_alone day) J l b ≡ revocations_as s day J l b
  revocations_by J l b BatchA = refl
  revocations_by J l b BatchB = refl
  revocations_by J l b BatchE = λ i.
      map (revocation day J b) (filter (λ k. is_some (revoked_same day (l ∷ J) b k i) && not (is_some (revoked_same day J b k i))) (entry_numbers day b))
      ++ (if is_revoked (phase_same day (l ∷ J) b i) then (revocation day J b 0 ∷ []) else [])
  revocations_by J l b _ = refl

  revocations_alike : (J : History) (l : Line) (o : Option ℕ) → revocations_of (stated_alone day) J l o ≡ revocations_of day J l o
  revocations_alike J l None = refl
  revocations_alike J l (Some b) = revocations_by J l b (sort_of day b)

  aim_by : (J : History) (n : ℕ) (s : Sort) → objection_target s (stated_alone day) J n ≡ objection_target s day J n
  aim_by J n Sort.Object = target_same day J n
  aim_by J n _ = refl

  objection_alike : (J : History) (l : Line) → objection_statuses (stated_alone day) J l ≡ objection_statuses day J l
  objection_alike J l = λ i. if takes_well l then revocations_alike J l (aim_by J l.head.msg (sort_of day l.head.msg) i) i else []

  rejections_by : (J : History) (n : ℕ) (s : Sort) → rejections_as s (stated_alone day) J n ≡ rejections_as s day J n
  rejections_by J n BatchD = refl
  rejections_by J n _ = refl

  rejection_alike : (J : History) (l : Line) → rejection_statuses (stated_alone day) J l ≡ rejection_statuses day J l
  rejection_alike J l = λ i. if takes_well l then rejections_by J l.head.msg (sort_of day l.head.msg) i else []

  settlement_alike : (J : History) (l : Line) → settlement_statuses (stated_alone day) J l ≡ settlement_statuses day J l
  settlement_alike J l = λ i.
      map (λ n. turn_told day (place_after J) turn_codes.Setl n 0 line_codes.Ok)
      (filter (λ n. is_order (sort_of day n) && is_settled (phase_same day (l ∷ J) n i) && not (is_settled (phase_same day J n i))) (message_numbers day))

  statuses_alike : (J : History) (l : Line) → statuses (stated_alone day) J l ≡ statuses day J l
  unfolding statuses
  statuses_alike J l = λ i.
      flat_map (move_statuses day (place_after J)) l.moves
      ++ intake_statuses day J l
      ++ information_statuses day J l
      ++ objection_alike J l i
      ++ rejection_alike J l i
      ++ ask_statuses day J l
      ++ failure_statuses day J l
      ++ settlement_alike J l i

  all_alike : (J : History) → all_statuses (stated_alone day) J ≡ all_statuses day J
  unfolding all_statuses
  all_alike [] = refl
  all_alike (l ∷ J) = λ i. all_alike J i ++ statuses_alike J l i

  output_alike : (J : History) → output (stated_alone day) J ≡ output day J
  unfolding output
  output_alike J = λ i. journal_text J ++ (texts (all_alike J i) ++ (flat_map (λ a. holding_text day a (balance day J a)) (account_numbers day) ++ count_text (length J)))

pub output_migrated : (day : Day) (J : History) → output (migrated day) J ≡ output day J
output_migrated day J = sym (output_alike (migrated day) J) ∙ output_alike day J
