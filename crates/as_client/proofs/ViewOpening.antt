-- What a view knows before any status.
use Rattle.std.proofs.Common.{◌≡◌, ℕ, true, List, [], map, Bool, false, Option, None, Some, refl, ap, ◌∙◌, sym, subst, arith}
use Rattle.std.specs.Option.{option_map, option_and_then}
use Rattle.cash_amounts.specs.declared.records.AccountRecord.{AccountRecord}
use Rattle.cash_amounts.specs.declared.records.SystemRecord.{SystemRecord}
use Rattle.cash_amounts.specs.Numbers.{numbered}
use Rattle.cash_amounts.specs.Tests.{same_name}
use Rattle.account_book.specs.Setup.{Setup}
use Rattle.account_book.proofs.Numbers.{found_is, numbered-map}
use Rattle.batch_records.specs.DayRecord.{Day}
use Rattle.batch_records.specs.declared.day.Message.{Message}
use Rattle.machine.specs.Words.{when}
use Rattle.machine.specs.Records.Setup.{account_at, account_named, owner}
use Rattle.machine.specs.Records.Messages.{message_at}
use Rattle.rule_book.specs.Settings.{setup_of}
use Rattle.settlement_laws.proofs.DayEnd.Progress.{body_message}
use Rattle.as_client.specs.declared.view.Word.{Word}
use Rattle.as_client.specs.PartyWords.{word_of}
use Rattle.as_client.specs.Views.{brought_by, holding, taken_by}
use Rattle.as_client.specs.ViewAnswers.{are_taken, balance_told, word_told}
use Rattle.as_client.specs.Openings.{opening_told, word_of_sender}
use Rattle.as_client.specs.Knowing.{Known, Knows, balance_kept, kept, word_kept}

abbrev pub first_known : Day → List ℕ → Known
first_known day party = record { name = party; setup = setup_of day; balances = map (opening_told party) day.accounts; words = map (word_of_sender party) day.messages }

module _ (day : Day) (party : List ℕ) where
  -- ---- balances

  first_holding : (a : ℕ) (r : AccountRecord) → account_at day a ≡ Some r → r.opening ≡ holding day [] a
  unfolding brought_by taken_by
  first_holding a r there = rw there (omega arith)

  at_record : (a : ℕ) (r : AccountRecord) → account_at day a ≡ Some r → kept (numbered (map (opening_told party) day.accounts) a) ≡ option_map (holding day []) (when (same_name (owner day a) party) a)
  at_record a r there = ap kept (numbered-map (opening_told party) day.accounts a ∙ ap (option_map (opening_told party)) there) ∙ by (same_name r.owner party) (first_holding a r there) ∙ rw there refl
    where
      by : (b : Bool) → r.opening ≡ holding day [] a → when b r.opening ≡ option_map (holding day []) (when b a)
      by true e = ap Some e
      by false e = refl

  first_balances : (account : List ℕ) → balance_kept (first_known day party) account ≡ balance_told day party [] account
  first_balances account = by (account_named day account) refl
    where
      by : (o : Option ℕ) → account_named day account ≡ o → option_and_then (λ a. kept (numbered (map (opening_told party) day.accounts) a)) o
          ≡ option_map (holding day []) (option_and_then (λ a. when (same_name (owner day a) party) a) o)
      by None found = refl
      by (Some a) found = let at = found_is (λ r. same_name r.name account) day.accounts a found in at_record a at.item at.there

  -- ---- words

  first_words : (n : ℕ) → word_kept (first_known day party) n ≡ word_told day party [] n
  unfolding word_of
  first_words n = ap kept (numbered-map (word_of_sender party) day.messages n) ∙ by (message_at day n) refl
    where
      by : (o : Option Message) → message_at day n ≡ o → kept (option_map (word_of_sender party) o) ≡ word_told day party [] n
      by None there = rw there refl
      by (Some m) there = rw (there, body_message m.body) refl

  pub first_knows : Knows day party [] (first_known day party)
  unfolding are_taken
  first_knows = record { taken = refl; name = refl; setup = refl; balances = first_balances; words = first_words }

  pub opens : (name : List ℕ) (setup : Setup) (balances : List (Option ℕ)) (words : List (Option Word)) (accounts : List AccountRecord) (systems : List SystemRecord) (messages : List Message)
      → accounts ≡ day.accounts → systems ≡ day.systems → messages ≡ day.messages
      → name ≡ party → setup ≡ record { accounts = accounts; systems = systems } → balances ≡ map (opening_told party) accounts → words ≡ map (word_of_sender party) messages
      → Knows day party [] (record { name = name; setup = setup; balances = balances; words = words })
  opens name setup balances words accounts systems messages a s m named set held said =
      let setup_is : setup ≡ setup_of day = set ∙ (λ i. record { accounts = a i; systems = s i }) in
      let balances_are = held ∙ ap (map (opening_told party)) a in
      let words_are = said ∙ ap (map (word_of_sender party)) m in
      subst (Knows day party []) (λ i. record { name = sym named i; setup = sym setup_is i; balances = sym balances_are i; words = sym words_are i }) first_knows
