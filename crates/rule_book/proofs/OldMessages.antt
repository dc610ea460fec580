-- What a day tells of its messages, where one more comes after them.
use Rattle.std.proofs.Common.{◌≡◌, ◌∙◌, ◌+◌, ◌-◌, ◌<◌, ◌≤◌, ℕ, zero, suc, Bool, true, false, List, [], ◌∷◌, ◌++◌, Option, Some, None, length, map, refl, sym, ap, subst, arith}
use Rattle.std.specs.Prelude.{filter, is_some, nat_eq, option_map, slice_get, sum_by}
use Rattle.std.specs.List.{range_with_len}
use Rattle.std.specs.Option.{option_map_or}
use Rattle.std.proofs.lemmas.Bool.{eqb-false, eqb-true, ne_eqb}
use Rattle.std.proofs.lemmas.List.{length_push}
use Rattle.std.proofs.lemmas.List.FromFn.{map-range_with_len_more}
use Rattle.std.proofs.lemmas.Option.{same_Some}
use Rattle.batch_records.specs.DayRecord.{Day}
use Rattle.batch_records.specs.declared.day.Entry.{Entry}
use Rattle.batch_records.specs.declared.day.Message.{Message}
use Rattle.batch_records.specs.Repeats.{message_at, message_numbers}
use Rattle.machine.specs.Words.{numbered, same_account, some_passes}
use Rattle.machine.specs.Telling.Facts.{is_party}
use Rattle.machine.specs.Records.Setup.{account_named, fund, technical}
use Rattle.machine.specs.Records.Messages.{Missing, debit_account, entries_in, info_in, is_b, move_of, procedure_of_sort, sort_of, sort_of_body, transfer_in}
use Rattle.machine.specs.Stages.Intake.{amount_of}
use Rattle.machine.specs.Making.Lines.{gross}
use Rattle.rule_book.specs.Moves.{MovesInRoom, entry_moves, moves_of, transfer_move, with_moves}
use Rattle.rule_book.specs.Owed.{AreDebts, Debts, owed}
use Rattle.rule_book.specs.Parties.{AreBefore, AreListed, AreParties, Arrived, Listed, bank_number, is_informed, is_party_at, key}
use Rattle.rule_book.specs.Repeated.{with_one}
use Rattle.rule_book.specs.Senders.{Senders, with_sender}
use Rattle.rule_book.specs.Settings.{accounts_of, accounts_of_senders}
use Rattle.rule_book.specs.declared.system_accounts.SystemAccounts.{SystemAccounts}
use Rattle.rule_book.proofs.PartyFacts.{informed_there}
use Rattle.rule_book.proofs.RepeatLemmas.{same_over}
use Rattle.rule_book.proofs.Summing.{is_there}

got_left : (ms : List Message) (m : Message) (i : ℕ) → i < length ms → slice_get (ms ++ m ∷ []) i ≡ slice_get ms i
got_left [] m i l = absurd (omega (arith, l))
got_left (x ∷ ms) m zero l = refl
got_left (x ∷ ms) m (suc i) l = got_left ms m i (omega (arith, l))

got_last : (ms : List Message) (m : Message) → slice_get (ms ++ m ∷ []) (length ms) ≡ Some m
got_last [] m = refl
got_last (x ∷ ms) m = got_last ms m

module _ (day : Day) (m : Message) where
  pub stays : (n : ℕ) → n ≤ length day.messages → message_at (with_one day m) n ≡ message_at day n
  stays zero l = refl
  stays (suc i) l = got_left day.messages m i (omega (arith, l))

  pub one_longer : length (with_one day m).messages ≡ length day.messages + 1
  one_longer = length_push day.messages m

  -- the new one is the last
  pub last_is : (after : Day) (n : ℕ) (x : Message) → after ≡ with_one day m → n ≡ length after.messages → slice_get after.messages (n - 1) ≡ Some x → m ≡ x
  last_is after n x is last got =
      let at : n - 1 ≡ length day.messages = omega (arith, last, ap (λ (d : Day). length d.messages) is, one_longer) in
      same_Some m x
      (sym (got_last day.messages m)
      ∙ (ap (λ i. slice_get (day.messages ++ m ∷ []) i) (sym at)
      ∙ (sym (ap (λ (d : Day). slice_get d.messages (n - 1)) is) ∙ got)))

  -- ---- lists with an item for each message

  all_more : {X : Type 0} (f g : ℕ → X) → ((n : ℕ) → n ≤ length day.messages → f n ≡ g n) → map g (message_numbers (with_one day m)) ≡ map f (message_numbers day) ++ g (length day.messages + 1) ∷ []
  all_more f g same =
      ap (λ count. map g (range_with_len 1 count)) one_longer
      ∙ map-range_with_len_more g 1 (length day.messages) (length day.messages + 1) (omega arith)
      ∙ ap (λ xs. xs ++ g (length day.messages + 1) ∷ []) (sym (same_over f g 1 (length day.messages) (λ i low high. same i (omega (arith, high)))))

  pub moves_more : (old new : MovesInRoom) → old.list ≡ moves_of day → new ≡ with_moves (with_one day m) (length day.messages + 1) old → new.list ≡ moves_of (with_one day m)
  moves_more old new are is =
      let after = with_one day m in
      let n : ℕ = length day.messages + 1 in
      let transfers : map (transfer_move after) (message_numbers after) ≡ map (transfer_move day) (message_numbers day) ++ transfer_move after n ∷ [] =
      all_more (transfer_move day) (transfer_move after) (λ k l. sym (ap (λ (o : Option Message). option_map (move_of day) (option_map_or (λ (x : Message). transfer_in x.body) o None)) (stays k l))) in
      let rows : map (entry_moves after) (message_numbers after) ≡ map (entry_moves day) (message_numbers day) ++ entry_moves after n ∷ [] =
      all_more (entry_moves day) (entry_moves after) (λ k l. sym (ap (λ (o : Option Message). map (move_of day) (option_map_or (λ (x : Message). entries_in x.body) o [])) (stays k l))) in
      ap (λ (x : MovesInRoom). x.list) is
      ∙ ((λ i. record { transfers = (are i).transfers ++ transfer_move after n ∷ []; rows = (are i).rows ++ entry_moves after n ∷ [] })
      ∙ (λ i. record { transfers = sym transfers i; rows = sym rows i }))

  pub senders_more : (old new : Senders) → old.accounts ≡ accounts_of_senders day → new ≡ with_sender (accounts_of (with_one day m) (length day.messages + 1)) old → new.accounts ≡ accounts_of_senders (with_one day m)
  senders_more old new are is =
      let after = with_one day m in
      ap (λ (x : Senders). x.accounts) is
      ∙ (ap (λ xs. xs ++ accounts_of after (length day.messages + 1) ∷ []) are
      ∙ sym (all_more (accounts_of day) (accounts_of after) (λ k l. sym (ap of (stays k l)))))
    where
      of : Option Message → SystemAccounts
      of o = record {
        technical = technical day (option_map_or (λ (x : Message). x.sender) o []) (procedure_of_sort (option_map_or (λ (x : Message). sort_of_body x.body) o Missing));
        fund = fund day (option_map_or (λ (x : Message). x.sender) o []);
      }

  -- ---- batches

  abbrev gross_of : Option Message → ℕ → ℕ
  gross_of o a = sum_by amount_of (filter (λ e. nat_eq (debit_account day e) a)
      (filter (λ (e : Entry). same_account (account_named day e.credit) (technical day (option_map_or (λ (x : Message). x.sender) o []) (procedure_of_sort (option_map_or (λ (x : Message). sort_of_body x.body) o Missing))))
      (option_map_or (λ (x : Message). entries_in x.body) o [])))

  gross_stays : (n a : ℕ) → n ≤ length day.messages → gross day n a ≡ gross (with_one day m) n a
  gross_stays n a l = sym (ap (λ o. gross_of o a) (stays n l))

  is_b_stays : (n : ℕ) → n ≤ length day.messages → is_b (sort_of (with_one day m) n) ≡ true → is_b (sort_of day n) ≡ true
  is_b_stays n l h = sym (ap (λ (o : Option Message). is_b (option_map_or (λ (x : Message). sort_of_body x.body) o Missing)) (stays n l)) ∙ h

  pub debts_more : (old new : Debts) (j : ℕ) → j ≡ length day.messages + 1 → AreDebts day old
      → (is_b (sort_of (with_one day m) j) ≡ true → (a : ℕ) → owed new j a ≡ gross (with_one day m) j a) → ((n a : ℕ) → nat_eq j n ≡ false → owed new n a ≡ owed old n a) → AreDebts (with_one day m) new
  debts_more old new j at are own others = record {
    owes = λ n a h. owes n a h (nat_eq j n) refl;
    free = λ n a l. others n a (ne_eqb j n (λ e. omega (arith, l, e, at, one_longer))) ∙ are.free n a (omega (arith, l, one_longer));
  }
    where
      owes : (n a : ℕ) → is_b (sort_of (with_one day m) n) ≡ true → (b : Bool) → nat_eq j n ≡ b → owed new n a ≡ gross (with_one day m) n a
      owes n a h true e = subst (λ k. is_b (sort_of (with_one day m) k) ≡ true → owed new k a ≡ gross (with_one day m) k a) (eqb-true j n e) (λ q. own q a) h
      owes n a h false e =
          let ne = eqb-false j n e in
          let there = is_there (with_one day m) n h in
          let low : n ≤ length day.messages = omega (arith, there, one_longer, at, ne) in
          others n a e ∙ are.owes n a (is_b_stays n low h) ∙ gross_stays n a low

  informed_stays : (n : ℕ) → n ≤ length day.messages → is_informed (with_one day m) n ≡ true → is_informed day n ≡ true
  informed_stays n l h = sym (ap (λ o. of o) (stays n l)) ∙ h
    where
      of : Option Message → Bool
      of o = is_some (option_map_or (λ (x : Message). info_in x.body) o None)

  party_stays : (n k : ℕ) (bank : List ℕ) → n ≤ length day.messages → is_party_at (with_one day m) n bank k ≡ true → is_party_at day n bank k ≡ true
  party_stays n k bank l h = sym (ap (λ o. of o) (stays n l)) ∙ h
    where
      of : Option Message → Bool
      of o = some_passes (is_party day bank) (numbered (option_map_or (λ (x : Message). entries_in x.body) o []) k)

  pub parties_more : (old new : Listed) (j : ℕ) → j ≡ length day.messages + 1 → AreParties day old → Arrived (with_one day m) j old.keys new.keys → new.numbers ≡ old.numbers → AreParties (with_one day m) new
  parties_more old new j at are come numbers = record {
    lists = λ n h. lists n h (nat_eq j n) refl;
    before = (let end : j + 1 ≡ length (with_one day m).messages + 1 = omega (arith, at, one_longer) in subst (λ k. AreBefore k new.keys) end come.before);
    numbers = numbers ∙ are.numbers;
  }
    where
      lists : (n : ℕ) → is_informed (with_one day m) n ≡ true → (b : Bool) → nat_eq j n ≡ b → AreListed (with_one day m) new.keys n
      lists n h true e = subst (λ k. is_informed (with_one day m) k ≡ true → AreListed (with_one day m) new.keys k) (eqb-true j n e) come.lists h
      lists n h false e =
          let ne = eqb-false j n e in
          let there = informed_there (with_one day m) n h in
          let low : n ≤ length day.messages = omega (arith, there, one_longer, at, ne) in
          λ k bank some party. come.keeps (key n (bank_number day bank) k) (are.lists n (informed_stays n low h) k bank some (party_stays n k bank low party))
