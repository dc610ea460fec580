-- The statuses of a line are those of its moves, and turns of messages, which but for information are told to the messages' senders.
use Rattle.std.proofs.Common.{◌≡◌, ◌∙◌, ℕ, Bool, true, false, ◌&&◌, List, [], ◌∷◌, ◌++◌, Option, Some, None, refl, sym, ap, append_assoc, append-nil}
use Rattle.std.specs.Prelude.{filter, if◌then◌else◌, is_some, map}
use Rattle.std.specs.List.{flat_map}
use Rattle.account_book.proofs.SoundLemmas.{own_name}
use Rattle.batch_records.specs.DayRecord.{Day}
use Rattle.commit_journal.specs.declared.line.Code.{Code}
use Rattle.commit_journal.specs.declared.line.Code.TheVariants as line_codes
use Rattle.commit_journal.specs.Line.{Line, History}
use Rattle.machine.specs.Words.{same_name}
use Rattle.machine.specs.Records.Messages.{Sort, BatchA, BatchB, BatchD, BatchE, entries, entry_numbers, info_end, message_numbers, sender, sort_of, technical_account}
use Rattle.machine.specs.Telling.History.{is_ask, is_expire_or_refuse, is_in}
use Rattle.machine.specs.Telling.Balances.{balance}
use Rattle.machine.specs.Telling.Facts.{takes_well}
use Rattle.machine.specs.Stages.Phases.{phase}
use Rattle.settlement_laws.proofs.Base.Lists.{never}
use Rattle.status_messages.specs.declared.status.Status.{Status}
use Rattle.status_messages.specs.declared.status.Status.TheVariants as status
use Rattle.status_messages.specs.declared.status.TurnCode.{TurnCode}
use Rattle.status_messages.specs.declared.status.TurnCode.TheVariants as turn_codes
use Rattle.status_messages.specs.Statuses.{ask_statuses, banks, failure_statuses, information_statuses, intake_statuses, is_party_of, is_revoked, is_revoked_now, is_settled_now, move_statuses, objection_statuses, objection_target, place_after, rejection_statuses, rejections_as, reply, revocation, revocations_as, revocations_of, settlement_statuses, statuses, turn_of, turn_told, unafforded_in_order, whole_revocation}
use Rattle.as_client.specs.declared.view.Word.{Word}
use Rattle.as_client.specs.PartyWords.{word_after}

-- a turn, which decides no word where it isn't told to the message's sender
abbrev pub IsTurn : Day → Status → Type 0
IsTurn day (status.Turn place to turn msg from id entry reason) = same_name to (sender day msg) ≡ false → (word : Word) → word_after turn word ≡ word
IsTurn day (status.Moved place to debit account amount) = ⊥

abbrev pub AllTurns : Day → List Status → Type 0
AllTurns day [] = Unit {0}
AllTurns day (s ∷ ss) = IsTurn day s × AllTurns day ss

turn_to_sender : (day : Day) (place : ℕ) (turn : TurnCode) (n k : ℕ) (reason : Code) → IsTurn day (turn_told day place turn n k reason)
turn_to_sender day place turn n k reason h word = never (same_name (sender day n) (sender day n)) (own_name (sender day n)) h

one_turn : (day : Day) (place : ℕ) (turn : TurnCode) (n k : ℕ) (reason : Code) → AllTurns day (turn_told day place turn n k reason ∷ [])
one_turn day place turn n k reason = (turn_to_sender day place turn n k reason, tt)

turns_of_map : {X : Type 0} (day : Day) (f : X → Status) → ((x : X) → IsTurn day (f x)) → (xs : List X) → AllTurns day (map f xs)
turns_of_map day f h [] = tt
turns_of_map day f h (x ∷ xs) = (h x, turns_of_map day f h xs)

turns_append : (day : Day) (xs ys : List Status) → AllTurns day xs → AllTurns day ys → AllTurns day (xs ++ ys)
turns_append day [] ys h k = k
turns_append day (x ∷ xs) ys h k = (h.0, turns_append day xs ys h.1 k)

turns_if : (day : Day) (b : Bool) (xs : List Status) → AllTurns day xs → AllTurns day (if b then xs else [])
turns_if day true xs h = h
turns_if day false xs h = tt

-- ---- each cause but the moves

revocation_turns : (s : Sort) (day : Day) (J : History) (l : Line) (b : ℕ) → AllTurns day (revocations_as s day J l b)
revocation_turns BatchA day J l b = one_turn day (place_after J) turn_codes.Rvkd b 0 line_codes.Ok
revocation_turns BatchB day J l b = one_turn day (place_after J) turn_codes.Rvkd b 0 line_codes.Ok
revocation_turns BatchE day J l b =
    turns_append day (map (revocation day J b) (filter (is_revoked_now day J l b) (entry_numbers day b))) (whole_revocation day J l b)
    (turns_of_map day (revocation day J b) (λ k. turn_to_sender day (place_after J) turn_codes.Rvkd b k line_codes.Ok) (filter (is_revoked_now day J l b) (entry_numbers day b)))
    (turns_if day (is_revoked (phase day (l ∷ J) b)) (revocation day J b 0 ∷ []) (one_turn day (place_after J) turn_codes.Rvkd b 0 line_codes.Ok))
revocation_turns _ day J l b = tt

revoking_turns : (o : Option ℕ) (day : Day) (J : History) (l : Line) → AllTurns day (revocations_of day J l o)
revoking_turns None day J l = tt
revoking_turns (Some b) day J l = revocation_turns (sort_of day b) day J l b

rejection_turns : (s : Sort) (day : Day) (J : History) (n : ℕ) → AllTurns day (rejections_as s day J n)
rejection_turns BatchD day J n =
    turns_of_map day (λ k. turn_told day (place_after J) turn_codes.Rjct n k line_codes.Nc) (λ k. turn_to_sender day (place_after J) turn_codes.Rjct n k line_codes.Nc) (unafforded_in_order (balance day J (technical_account day n)) 1 (entries day n))
rejection_turns _ day J n = tt

-- ---- a line

-- moves first, and then turns
pub record Parts (day : Day) (moved xs : List Status) : Type 0 where
  pub rest : List Status
  pub is : xs ≡ moved ++ rest
  pub turns : AllTurns day rest

and_turns : (day : Day) (moved xs ys : List Status) → AllTurns day ys → Parts day moved xs → Parts day moved (xs ++ ys)
and_turns day moved xs ys h p = record {
  rest = p.rest ++ ys;
  is = ap (λ zs. zs ++ ys) p.is ∙ append_assoc moved p.rest ys;
  turns = turns_append day p.rest ys p.turns h;
}

pub line_parts : (day : Day) (J : History) (l : Line) → Parts day (flat_map (move_statuses day (place_after J)) l.moves) (statuses day J l)
unfolding statuses
line_parts day J l =
    and_turns day moved _ (settlement_statuses day J l) (turns_of_map day (λ n. turn_told day (place_after J) turn_codes.Setl n 0 line_codes.Ok) (λ n. turn_to_sender day (place_after J) turn_codes.Setl n 0 line_codes.Ok) (filter (is_settled_now day J l) (message_numbers day)))
    (and_turns day moved _ (failure_statuses day J l) (turns_if day (is_expire_or_refuse l.head.kind) _ (one_turn day (place_after J) turn_codes.Fail l.head.msg 0 l.head.code))
    (and_turns day moved _ (ask_statuses day J l) (turns_if day (is_ask l.head.kind) _ (one_turn day (place_after J) turn_codes.Askg l.head.msg 0 line_codes.Ok))
    (and_turns day moved _ (rejection_statuses day J l) (turns_if day (takes_well l) _ (rejection_turns (sort_of day l.head.msg) day J l.head.msg))
    (and_turns day moved _ (objection_statuses day J l) (turns_if day (takes_well l) _ (revoking_turns (objection_target (sort_of day l.head.msg) day J l.head.msg) day J l))
    (and_turns day moved _ (information_statuses day J l)
    (turns_if day (takes_well l && is_some (info_end day l.head.msg)) _ (turns_of_map day (λ bank. turn_of day (place_after J) bank turn_codes.Info l.head.msg 0 line_codes.Ok) (λ bank h word. refl) (filter (is_party_of day l.head.msg) (banks day))))
    (and_turns day moved moved (intake_statuses day J l) (turns_if day (is_in l.head.kind) _ (one_turn day (place_after J) (reply l.head.code) l.head.msg 0 l.head.code))
    (record { rest = []; is = sym (append-nil moved); turns = tt })))))))
  where
    moved : List Status
    moved = flat_map (move_statuses day (place_after J)) l.moves
