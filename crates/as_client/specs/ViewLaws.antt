-- What a party's own statuses tell it, as a statement.
use Rattle.std.specs.Prelude.{ℕ, ◌≡◌, true, List, [], Ok, filter, reverse}
use Rattle.batch_records.specs.DayRecord.{Day}
use Rattle.batch_records.specs.Sound.{is_sound}
use Rattle.commit_journal.specs.Line.{History}
use Rattle.machine.specs.Telling.Balances.{balance}
use Rattle.machine.specs.Legal.{IsLegal}
use Rattle.machine.specs.Records.Setup.{owner}
use Rattle.machine.specs.Records.Messages.{sender}
use Rattle.status_messages.specs.declared.status.Status.{Status}
use Rattle.status_messages.specs.Statuses.{all_statuses}
use Rattle.as_client.specs.PartyWords.{word_of, word_in}
use Rattle.as_client.specs.Views.{holding, is_addressed, report_of}
use Rattle.as_client.specs.ViewAnswers.{take_all}
use Rattle.as_client.specs.JournalViews.{view_of}

-- the statuses of the journal that are addressed to the party, the newest first
abbrev pub told : Day → History → List ℕ → List Status
told day J name = reverse (filter (is_addressed name) (all_statuses day J))

-- the party refuses none of them, and then knows what the journal tells of its accounts and of its messages
pub record ViewAgrees (day : Day) (J : History) (name : List ℕ) : Type 0 where
  pub taken : take_all day name [] (all_statuses day J) ≡ Ok (told day J name)
  pub balances : (a : ℕ) → owner day a ≡ name → holding day (told day J name) a ≡ balance day J a
  pub words : (n : ℕ) → sender day n ≡ name → word_of (told day J name) n ≡ word_in day J n
  pub report : report_of day name (told day J name) ≡ view_of day J name

abbrev pub ViewsAgree : Type 0
ViewsAgree = (day : Day) (J : History) (name : List ℕ) → is_sound day ≡ true → IsLegal day J → ViewAgrees day J name
