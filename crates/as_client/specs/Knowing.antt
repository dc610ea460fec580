-- What the views keep, and which statuses it comes from.
use Rattle.std.specs.Prelude.{◌≡◌, ℕ, ◌+◌, ◌-◌, Bool, true, if◌then◌else◌, List, ◌∷◌, Option, Some, None, Result, MatchResult}
use Rattle.std.specs.Option.{option_map, option_and_then}
use Rattle.cash_amounts.specs.Numbers.{numbered}
use Rattle.cash_amounts.specs.Tests.{same_name}
use Rattle.account_book.specs.Setup.{Setup}
use Rattle.account_book.specs.Directory.{find_account}
use Rattle.batch_records.specs.DayRecord.{Day}
use Rattle.rule_book.specs.Settings.{setup_of}
use Rattle.status_messages.specs.declared.status.TurnCode.{TurnCode}
use Rattle.status_messages.specs.declared.status.Status.{Status}
use Rattle.as_client.specs.declared.view.Word.{Word}
use Rattle.as_client.specs.declared.view.ViewFault.{ViewFault}
use Rattle.as_client.specs.declared.view.ViewFault.TheVariants as view_faults
use Rattle.as_client.specs.PartyWords.{word_after, is_about}
use Rattle.as_client.specs.Views.{move_fault, view_fault}
use Rattle.as_client.specs.ViewAnswers.{are_taken, balance_told, word_told}

-- a party, the accounts and systems of its day, and by number what each account holds and how far each message has come,
-- where they are the party's
pub record Known : Type 0 where
  pub name : List ℕ
  pub setup : Setup
  pub balances : List (Option ℕ)
  pub words : List (Option Word)

abbrev pub kept : {X : Type 0} → Option (Option X) → Option X
kept None = None
kept (Some item) = item

-- the balance that is kept for the account of this name
abbrev pub balance_kept : Known → List ℕ → Option ℕ
balance_kept view account = option_and_then (λ a. kept (numbered view.balances a)) (find_account view.setup.accounts account)

-- the word that is kept for message n
abbrev pub word_kept : Known → ℕ → Option Word
word_kept view n = kept (numbered view.words n)

-- The view is that of this party, and what it keeps is what these statuses tell, the newest first: all are addressed to the
-- party, and it refused none of them.
pub record Knows (day : Day) (party : List ℕ) (ss : List Status) (view : Known) : Type 0 where
  pub taken : are_taken day party ss ≡ true
  pub name : view.name ≡ party
  pub setup : view.setup ≡ setup_of day
  pub balances : (account : List ℕ) → balance_kept view account ≡ balance_told day party ss account
  pub words : (n : ℕ) → word_kept view n ≡ word_told day party ss n

-- a view that knows what ss tell then knows what one status more tells, or says why it refuses that one
abbrev pub Takes : {U : Type 0} → Day → List ℕ → List Status → Status → Known → Result U ViewFault → Type 0
Takes day party ss s view result = MatchResult result (λ _. Knows day party (s ∷ ss) view) (λ fault. view_fault day party ss s ≡ Some fault)

-- ---- on the way to it

-- nothing but the balance kept for the account of this name has changed, to this one
pub record HoldsNow (old new : Known) (account : List ℕ) (balance : ℕ) : Type 0 where
  pub name : new.name ≡ old.name
  pub setup : new.setup ≡ old.setup
  pub words : new.words ≡ old.words
  pub balances : (other : List ℕ) → balance_kept new other ≡ (if same_name account other then Some balance else balance_kept old other)

-- nothing but the word kept for the message has changed, by a turn that message or an entry of it took
pub record Turned (old new : Known) (turn : TurnCode) (msg entry : ℕ) : Type 0 where
  pub name : new.name ≡ old.name
  pub setup : new.setup ≡ old.setup
  pub balances : new.balances ≡ old.balances
  pub words : (n : ℕ) → word_kept new n ≡ (if is_about n msg entry then option_map (word_after turn) (word_kept old n) else word_kept old n)

-- what an account that held this balance holds after a move
abbrev pub moved_to : Bool → ℕ → ℕ → ℕ
moved_to debit before amount = if debit then before - amount else before + amount

-- the move fits what the account holds, and was made there
pub record Moves (old new : Known) (debit : Bool) (account : List ℕ) (amount : ℕ) : Type 0 where
  pub before : ℕ
  pub held : balance_kept old account ≡ Some before
  pub fits : move_fault debit before amount ≡ None
  pub now : HoldsNow old new account (moved_to debit before amount)

-- why a move is refused on an account of which this balance is kept
abbrev pub kept_fault : Bool → ℕ → Option ℕ → Option ViewFault
kept_fault debit amount None = Some view_faults.Account
kept_fault debit amount (Some balance) = move_fault debit balance amount
