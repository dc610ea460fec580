-- What a view answers, and a view after many statuses, for contracts.
use Rattle.std.specs.Prelude.{ℕ, Bool, true, false, ◌&&◌, List, [], ◌∷◌, Option, Some, None, Result, Ok, Err, is_none}
use Rattle.std.specs.Option.{option_map}
use Rattle.batch_records.specs.DayRecord.{Day}
use Rattle.machine.specs.Words.{same_name, some_passes, when}
use Rattle.machine.specs.Records.Messages.{is_message, sort_of, sender}
use Rattle.as_client.specs.declared.view.Word.{Word}
use Rattle.as_client.specs.declared.view.Word.TheVariants as words
use Rattle.status_messages.specs.declared.status.Status.{Status}
use Rattle.as_client.specs.declared.view.ViewFault.{ViewFault}
use Rattle.as_client.specs.PartyWords.{word_of}
use Rattle.as_client.specs.Views.{is_addressed, holding, own_account, view_fault}

-- the statuses, the newest first, are addressed to the party, and it refused none of them after those before it
unfoldable pub are_taken : Day → List ℕ → List Status → Bool
are_taken day name [] = true
are_taken day name (s ∷ ss) = is_addressed name s && is_none (view_fault day name ss s) && are_taken day name ss

-- the balance of an account that the party owns
abbrev pub balance_told : Day → List ℕ → List Status → List ℕ → Option ℕ
balance_told day name ss account = option_map (holding day ss) (own_account day name account)

-- the word of a message that the party sent
abbrev pub word_told : Day → List ℕ → List Status → ℕ → Option Word
word_told day name ss n = when (is_message (sort_of day n) && same_name (sender day n) name) (word_of ss n)

abbrev pub is_asked_word : Word → Bool
is_asked_word words.Asked = true
is_asked_word _ = false

abbrev pub is_asked : Day → List ℕ → List Status → ℕ → Bool
is_asked day name ss n = some_passes is_asked_word (word_told day name ss n)

-- What the party, which took ss, has taken after these statuses, the oldest of them first: it passes over those that are
-- addressed to others. Or why it refuses one.
unfoldable pub take_all : Day → List ℕ → List Status → List Status → Result (List Status) ViewFault
take_all day name ss [] = Ok ss
take_all day name ss (s ∷ later) = elim (is_addressed name s) [
  | false ↦ take_all day name ss later
  | true ↦ elim (view_fault day name ss s) [
    | None ↦ take_all day name (s ∷ ss) later
    | Some fault ↦ Err fault
  ]
]
