-- The report from what is kept is the report of the statuses.
use Rattle.std.proofs.Common.{◌≡◌, ℕ, zero, suc, ◌+◌, ◌<◌, Bool, true, false, ◌&&◌, cond, List, [], ◌∷◌, ◌++◌, length, filter, Some, refl, ap, ◌∙◌, sym, subst, if◌then◌else◌, arith}
use Rattle.std.specs.List.{flat_map, range_with_len}
use Rattle.std.specs.Option.{option_map, option_and_then, option_map_or}
use Rattle.cash_amounts.specs.declared.records.AccountRecord.{AccountRecord}
use Rattle.cash_amounts.specs.Tests.{same_name}
use Rattle.batch_records.specs.DayRecord.{Day}
use Rattle.batch_records.specs.declared.day.Message.{Message}
use Rattle.batch_records.specs.Sound.{is_sound}
use Rattle.batch_records.proofs.SoundFacts.{setup_parts}
use Rattle.machine.specs.Words.{when}
use Rattle.machine.specs.Records.Setup.{account_at, account_named, owner}
use Rattle.machine.specs.Records.Messages.{Missing, is_message, message_at, sender, sort_of, sort_of_body}
use Rattle.settlement_laws.proofs.DayEnd.Progress.{get_there, body_message}
use Rattle.status_messages.specs.declared.status.Status.{Status}
use Rattle.as_client.specs.PartyWords.{word_of}
use Rattle.as_client.specs.Reports.{balance_line, count_text, holding_text, holdings_text, message_text, messages_text, word_line}
use Rattle.as_client.specs.Views.{holding, own_account, report_of}
use Rattle.as_client.specs.Knowing.{Known, Knows, balance_kept, word_kept}
use Rattle.as_client.specs.KeptTexts.{holding_kept, holdings_kept, message_kept, messages_kept, report_kept}
use Rattle.as_client.proofs.OwnNames.{named_again}

-- texts of some numbers, and of all where the others have none
flat_same : (f g : ℕ → List ℕ) (p : ℕ → Bool) (s n : ℕ) → ((k : ℕ) → k < n → f (s + k) ≡ (if p (s + k) then g (s + k) else [])) → flat_map f (range_with_len s n) ≡ flat_map g (filter p (range_with_len s n))
flat_same f g p s zero same = refl
flat_same f g p s (suc n) same =
    let none : s + 0 ≡ s = omega arith in
    let here : f s ≡ (if p s then g s else []) = subst (λ i. f i ≡ (if p i then g i else [])) none (same 0 (omega arith)) in
    ap (λ t. t ++ flat_map f (range_with_len (s + 1) n)) here ∙ ap (λ t. (if p s then g s else []) ++ t) (flat_same f g p (s + 1) n later) ∙ by (p s)
  where
    later : (k : ℕ) → k < n → f (s + 1 + k) ≡ (if p (s + 1 + k) then g (s + 1 + k) else [])
    later k within = let next : s + suc k ≡ s + 1 + k = omega arith in subst (λ i. f i ≡ (if p i then g i else [])) next (same (suc k) (omega (arith, within)))

    by : (b : Bool) → (if b then g s else []) ++ flat_map g (filter p (range_with_len (s + 1) n)) ≡ flat_map g (cond b (s ∷ filter p (range_with_len (s + 1) n)) (filter p (range_with_len (s + 1) n)))
    by true = refl
    by false = refl

shown : {X : Type 0} (f : X → List ℕ) (b : Bool) (x : X) → option_map_or f (when b x) [] ≡ (if b then f x else [])
shown f true x = refl
shown f false x = refl

module _ (day : Day) (party : List ℕ) (ss : List Status) (view : Known) (sound : is_sound day ≡ true) (knows : Knows day party ss view) where
  -- ---- accounts

  at_account : (k : ℕ) (r : AccountRecord) → account_at day (suc k) ≡ Some r
      → holding_kept day view (suc k) ≡ (if same_name (owner day (suc k)) party then holding_text day (suc k) (holding day ss (suc k)) else [])
  at_account k r there =
      let named : account_named day r.name ≡ Some (suc k) = named_again day.systems day.accounts k r (setup_parts day sound).accounts_fit there in
      let own : own_account day party r.name ≡ when (same_name (owner day (suc k)) party) (suc k) = ap (option_and_then (λ a. when (same_name (owner day a) party) a)) named in
      let kept : balance_kept view r.name ≡ option_map (holding day ss) (when (same_name (owner day (suc k)) party) (suc k)) = knows.balances r.name ∙ ap (option_map (holding day ss)) own in
      ap (λ o. option_map_or (λ r. option_map_or (balance_line r.name) (balance_kept view r.name) []) o []) there
      ∙ ap (λ o. option_map_or (balance_line r.name) o []) kept
      ∙ by (same_name (owner day (suc k)) party) (holding day ss (suc k))
      ∙ ap (λ name. if same_name (owner day (suc k)) party then balance_line name (holding day ss (suc k)) else []) (ap (λ o. option_map_or (λ r. r.name) o []) (sym there))
    where
      by : (b : Bool) (h : ℕ) → option_map_or (balance_line r.name) (option_map (λ a. holding day ss a) (when b (suc k))) [] ≡ (if b then balance_line r.name (holding day ss (suc k)) else [])
      by true h = refl
      by false h = refl

  at_account_number : (k : ℕ) → k < length day.accounts → holding_kept day view (1 + k) ≡ (if same_name (owner day (1 + k)) party then holding_text day (1 + k) (holding day ss (1 + k)) else [])
  at_account_number k within =
      let item = get_there day.accounts k within in
      let next : suc k ≡ 1 + k = omega arith in
      subst (λ a. holding_kept day view a ≡ (if same_name (owner day a) party then holding_text day a (holding day ss a) else [])) next (at_account k item.0 item.1)

  holdings_are : holdings_kept day view ≡ holdings_text day party (holding day ss)
  holdings_are = flat_same (holding_kept day view) (λ a. holding_text day a (holding day ss a)) (λ a. same_name (owner day a) party) 1 (length day.accounts) at_account_number

  -- ---- messages

  at_message : (k : ℕ) (m : Message) → message_at day (suc k) ≡ Some m
      → message_kept day view (suc k) ≡ (if same_name (sender day (suc k)) party then message_text day (suc k) (word_of ss (suc k)) else [])
  at_message k m there =
      let sort : is_message (sort_of day (suc k)) ≡ true = ap (λ o. is_message (option_map_or (λ m. sort_of_body m.body) o Missing)) there ∙ body_message m.body in
      let kept : word_kept view (suc k) ≡ when (same_name (sender day (suc k)) party) (word_of ss (suc k)) =
      knows.words (suc k) ∙ ap (λ b. when (b && same_name (sender day (suc k)) party) (word_of ss (suc k))) sort in
      ap (λ o. option_map_or (λ m. option_map_or (word_line (suc k) m.id) (word_kept view (suc k)) []) o []) there
      ∙ ap (λ o. option_map_or (word_line (suc k) m.id) o []) kept
      ∙ shown (word_line (suc k) m.id) (same_name (sender day (suc k)) party) (word_of ss (suc k))
      ∙ ap (λ id. if same_name (sender day (suc k)) party then word_line (suc k) id (word_of ss (suc k)) else []) (ap (λ o. option_map_or (λ m. m.id) o []) (sym there))

  at_message_number : (k : ℕ) → k < length day.messages → message_kept day view (1 + k) ≡ (if same_name (sender day (1 + k)) party then message_text day (1 + k) (word_of ss (1 + k)) else [])
  at_message_number k within =
      let item = get_there day.messages k within in
      let next : suc k ≡ 1 + k = omega arith in
      subst (λ n. message_kept day view n ≡ (if same_name (sender day n) party then message_text day n (word_of ss n) else [])) next (at_message k item.0 item.1)

  messages_are : messages_kept day view ≡ messages_text day party (word_of ss)
  messages_are = flat_same (message_kept day view) (λ n. message_text day n (word_of ss n)) (λ n. same_name (sender day n) party) 1 (length day.messages) at_message_number

  pub report_is : (count : ℕ) → length ss ≡ count → report_kept day view count ≡ report_of day party ss
  report_is count many = λ i. holdings_are i ++ (messages_are i ++ count_text (sym many i))
