-- What a view knows before any status, and after one more.
use Rattle.std.proofs.Common.{◌≡◌, ℕ, ◌+◌, ◌-◌, ◌≤◌, Bool, true, false, ◌&&◌, List, [], ◌∷◌, nat_lt, is_none, Option, None, Some, Result, Ok, Err, MatchResult, refl, ap, ◌∙◌, sym, if◌then◌else◌, arith}
use Rattle.std.specs.Option.{option_map, option_and_then}
use Rattle.std.proofs.lemmas.Bool.{and_parts, ltb-false}
use Rattle.cash_amounts.specs.Numbers.{numbered}
use Rattle.cash_amounts.specs.Tests.{same_name}
use Rattle.account_book.specs.Directory.{find_account}
use Rattle.account_book.proofs.SoundLemmas.{find_account-name, own_name, same_names}
use Rattle.batch_records.specs.DayRecord.{Day}
use Rattle.machine.specs.Words.{when}
use Rattle.machine.specs.Records.Setup.{account_named, opening, owner}
use Rattle.machine.specs.Records.Messages.{is_message, sender, sort_of}
use Rattle.status_messages.specs.declared.status.TurnCode.{TurnCode}
use Rattle.status_messages.specs.declared.status.Status.{Status}
use Rattle.status_messages.specs.declared.status.Status.TheVariants as status
use Rattle.status_messages.specs.Statuses.{account_name}
use Rattle.commit_journal.specs.declared.line.Code.{Code}
use Rattle.as_client.specs.declared.view.Word.{Word}
use Rattle.as_client.specs.declared.view.ViewFault.{ViewFault}
use Rattle.as_client.specs.declared.view.ViewFault.TheVariants.{Short}
use Rattle.as_client.specs.PartyWords.{is_about, word_after, word_of}
use Rattle.as_client.specs.Views.{brought_by, fault_on, holding, move_fault, own_account, taken_by, view_fault}
use Rattle.as_client.specs.ViewAnswers.{are_taken, balance_told, word_told}
use Rattle.as_client.specs.Knowing.{Known, Knows, Moves, Takes, Turned, balance_kept, kept, kept_fault, moved_to}

-- ---- the party's own accounts

-- it is the account that is found by the name
own_found : (day : Day) (party account : List ℕ) (a : ℕ) → own_account day party account ≡ Some a → account_named day account ≡ Some a
own_found day party account a = by (account_named day account) refl
  where
    owned : (b : Bool) (n : ℕ) → when b n ≡ Some a → n ≡ a
    owned true n e = cc
    owned false n e = cc

    by : (o : Option ℕ) → account_named day account ≡ o → option_and_then (λ a. when (same_name (owner day a) party) a) o ≡ Some a → account_named day account ≡ Some a
    by None there e = cc
    by (Some n) there e = there ∙ ap Some (owned (same_name (owner day n) party) n e)

own_is_named : (day : Day) (party account : List ℕ) (a : ℕ) → own_account day party account ≡ Some a → account_name day a ≡ account
own_is_named day party account a own = find_account-name day.accounts account a (own_found day party account a own)

-- the owner's own account is found by its name again
own_again : (day : Day) (party account other : List ℕ) (a : ℕ) → own_account day party account ≡ Some a → same_name other (account_name day a) ≡ true → own_account day party other ≡ Some a
own_again day party account other a own same =
    ap (own_account day party) (same_names other (account_name day a) same ∙ own_is_named day party account a own) ∙ own

-- ---- a party that refused nothing never spent more than it had

-- what is taken from a balance that covers it, and what is brought to one
taken_more : (more spent amount : ℕ) → spent ≤ more → is_none (when (nat_lt (more - spent) amount) (Short (more - spent))) ≡ true → spent + amount ≤ more
taken_more more spent amount before fits = by (nat_lt (more - spent) amount) refl fits
  where
    by : (b : Bool) → nat_lt (more - spent) amount ≡ b → is_none (when b (Short (more - spent))) ≡ true → spent + amount ≤ more
    by true short fits = cc
    by false enough fits = let covered = ltb-false (more - spent) amount enough in omega (arith, covered, before)

module _ (day : Day) (party account : List ℕ) (a : ℕ) (own : own_account day party account ≡ Some a) where
  never_short : (ss : List Status) → are_taken day party ss ≡ true → taken_by ss (account_name day a) ≤ opening day a + brought_by ss (account_name day a)
  unfolding are_taken brought_by taken_by view_fault
  never_short [] taken = omega arith
  never_short (status.Turn place to turn msg from id entry reason ∷ ss) taken =
      let before = never_short ss (and_parts _ (are_taken day party ss) taken).1 in omega (arith, before)
  never_short (status.Moved place to debit other amount ∷ ss) taken =
      let parts = and_parts _ (are_taken day party ss) taken in
      let fits = (and_parts (same_name to party) _ parts.0).1 in
      by debit (same_name other (account_name day a)) refl fits (never_short ss parts.1)
    where
      by : (debit b : Bool) → same_name other (account_name day a) ≡ b → is_none (fault_on day ss debit amount (own_account day party other)) ≡ true
          → taken_by ss (account_name day a) ≤ opening day a + brought_by ss (account_name day a)
          → taken_by (status.Moved place to debit other amount ∷ ss) (account_name day a) ≤ opening day a + brought_by (status.Moved place to debit other amount ∷ ss) (account_name day a)
      by true true same fits before =
          let on_it = ap (λ o. is_none (fault_on day ss true amount o)) (sym (own_again day party account other a own same)) ∙ fits in
          let covered = taken_more (opening day a + brought_by ss (account_name day a)) (taken_by ss (account_name day a)) amount before on_it in
          rw same (omega (arith, covered))
      by true false same fits before = rw same (omega (arith, before))
      by false true same fits before = rw same (omega (arith, before))
      by false false same fits before = rw same (omega (arith, before))

-- ---- one status more

-- a balance with nothing moved, with an amount taken, and with one brought
unmoved : (start more spent : ℕ) → (start + more) - spent ≡ (start + (more + 0)) - (spent + 0)
unmoved start more spent = omega arith

debited : (start more spent amount : ℕ) → ((start + more) - spent) - amount ≡ (start + (more + 0)) - (spent + amount)
debited start more spent amount = omega arith

credited : (start more spent amount : ℕ) → spent ≤ start + more → ((start + more) - spent) + amount ≡ (start + (more + amount)) - (spent + 0)
credited start more spent amount covered = omega (arith, covered)

-- the words that are told after a move, and the balances that are told after a turn
same_word : (day : Day) (party : List ℕ) (ss : List Status) (place : ℕ) (to : List ℕ) (debit : Bool) (account : List ℕ) (amount n : ℕ)
    → word_told day party ss n ≡ word_told day party (status.Moved place to debit account amount ∷ ss) n
unfolding word_of
same_word day party ss place to debit account amount n = refl

same_balance : (day : Day) (party : List ℕ) (ss : List Status) (place : ℕ) (to : List ℕ) (turn : TurnCode) (msg : ℕ) (from id : List ℕ) (entry : ℕ) (reason : Code) (account : List ℕ)
    → balance_told day party ss account ≡ balance_told day party (status.Turn place to turn msg from id entry reason ∷ ss) account
unfolding brought_by taken_by
same_balance day party ss place to turn msg from id entry reason account = by (own_account day party account)
  where
    by : (o : Option ℕ) → option_map (holding day ss) o ≡ option_map (holding day (status.Turn place to turn msg from id entry reason ∷ ss)) o
    by None = refl
    by (Some a) = ap Some (unmoved (opening day a) (brought_by ss (account_name day a)) (taken_by ss (account_name day a)))

turned_word : (day : Day) (party : List ℕ) (ss : List Status) (place : ℕ) (to : List ℕ) (turn : TurnCode) (msg : ℕ) (from id : List ℕ) (entry : ℕ) (reason : Code) (n : ℕ)
    → (if is_about n msg entry then option_map (word_after turn) (word_told day party ss n) else word_told day party ss n)
    ≡ word_told day party (status.Turn place to turn msg from id entry reason ∷ ss) n
unfolding word_of
turned_word day party ss place to turn msg from id entry reason n = by (is_about n msg entry) (is_message (sort_of day n) && same_name (sender day n) party) (word_of ss n)
  where
    by : (b c : Bool) (word : Word) → (if b then option_map (word_after turn) (when c word) else when c word) ≡ when c (if b then word_after turn word else word)
    by true true word = refl
    by true false word = refl
    by false c word = refl

some_is : {X : Type 0} {x y : X} → Some x ≡ Some y → x ≡ y
some_is e = cc

module _ (day : Day) (party : List ℕ) (ss : List Status) (old new : Known) (knows : Knows day party ss old) (place : ℕ) (to : List ℕ) where
  addressed : same_name to old.name ≡ true → same_name to party ≡ true
  addressed e = ap (same_name to) (sym knows.name) ∙ e

  module _ (turn : TurnCode) (msg : ℕ) (from id : List ℕ) (entry : ℕ) (reason : Code) where
    abbrev told : Status
    told = status.Turn place to turn msg from id entry reason

    turn_taken : same_name to party ≡ true → are_taken day party (told ∷ ss) ≡ true
    unfolding are_taken view_fault
    turn_taken e = rw (e, knows.taken) refl

    pub turn_known : same_name to old.name ≡ true → Turned old new turn msg entry → Knows day party (told ∷ ss) new
    turn_known e turned = record {
      taken = turn_taken (addressed e);
      name = turned.name ∙ knows.name;
      setup = turned.setup ∙ knows.setup;
      balances = λ account. (λ i. option_and_then (λ a. kept (numbered (turned.balances i) a)) (find_account (turned.setup i).accounts account)) ∙ knows.balances account ∙ same_balance day party ss place to turn msg from id entry reason account;
      words = λ n. turned.words n ∙ ap (λ o. if is_about n msg entry then option_map (word_after turn) o else o) (knows.words n) ∙ turned_word day party ss place to turn msg from id entry reason n;
    }

  module _ (debit : Bool) (account : List ℕ) (amount : ℕ) where
    abbrev moved : Status
    moved = status.Moved place to debit account amount

    pub move_refused : (fault : ViewFault) → kept_fault debit amount (balance_kept old account) ≡ Some fault → view_fault day party ss moved ≡ Some fault
    unfolding view_fault
    move_refused fault e = by (own_account day party account) ∙ ap (kept_fault debit amount) (sym (knows.balances account)) ∙ e
      where
        by : (o : Option ℕ) → fault_on day ss debit amount o ≡ kept_fault debit amount (option_map (holding day ss) o)
        by None = refl
        by (Some a) = refl

    move_taken : same_name to party ≡ true → Moves old new debit account amount → are_taken day party (moved ∷ ss) ≡ true
    unfolding are_taken view_fault
    move_taken e moves = rw (e, knows.taken) (by (own_account day party account) (sym (knows.balances account) ∙ moves.held))
      where
        by : (o : Option ℕ) → option_map (holding day ss) o ≡ Some moves.before → (true && is_none (fault_on day ss debit amount o) && true) ≡ true
        by None e = cc
        by (Some a) e =
            let held : holding day ss a ≡ moves.before = some_is e in
            let fits : fault_on day ss debit amount (Some a) ≡ None = ap (λ balance. move_fault debit balance amount) held ∙ moves.fits in
            rw fits refl

    -- what the party's account a holds by the name of another, and of the one that is moved
    elsewhere : (a : ℕ) → same_name account (account_name day a) ≡ false → holding day ss a ≡ holding day (moved ∷ ss) a
    unfolding brought_by taken_by
    elsewhere a differ = by debit
      where
        by : (d : Bool) → holding day ss a ≡ holding day (status.Moved place to d account amount ∷ ss) a
        by true = rw differ (unmoved (opening day a) (brought_by ss (account_name day a)) (taken_by ss (account_name day a)))
        by false = rw differ (unmoved (opening day a) (brought_by ss (account_name day a)) (taken_by ss (account_name day a)))

    here : (a : ℕ) → own_account day party account ≡ Some a → moved_to debit (holding day ss a) amount ≡ holding day (moved ∷ ss) a
    unfolding brought_by taken_by
    here a own = by debit
      where
        same : same_name account (account_name day a) ≡ true
        same = ap (same_name account) (own_is_named day party account a own) ∙ own_name account

        by : (d : Bool) → moved_to d (holding day ss a) amount ≡ holding day (status.Moved place to d account amount ∷ ss) a
        by true = rw same (debited (opening day a) (brought_by ss (account_name day a)) (taken_by ss (account_name day a)) amount)
        by false = rw same (credited (opening day a) (brought_by ss (account_name day a)) (taken_by ss (account_name day a)) amount (never_short day party account a own ss knows.taken))

    balance_after : (before : ℕ) → balance_told day party ss account ≡ Some before → (other : List ℕ)
        → (if same_name account other then Some (moved_to debit before amount) else balance_told day party ss other) ≡ balance_told day party (moved ∷ ss) other
    balance_after before held other = by (same_name account other) refl (own_account day party other) refl
      where
        on_it : same_name account other ≡ true → (o : Option ℕ) → own_account day party account ≡ o → option_map (holding day ss) o ≡ Some before → Some (moved_to debit before amount) ≡ option_map (holding day (moved ∷ ss)) o
        on_it same None own e = cc
        on_it same (Some a) own e = ap (λ balance. Some (moved_to debit balance amount)) (sym (some_is e)) ∙ ap Some (here a own)

        by : (b : Bool) → same_name account other ≡ b → (o : Option ℕ) → own_account day party other ≡ o
            → (if b then Some (moved_to debit before amount) else option_map (holding day ss) o) ≡ option_map (holding day (moved ∷ ss)) o
        by true same o own =
            let one = same_names account other same in
            let own_one : own_account day party account ≡ o = ap (own_account day party) one ∙ own in
            on_it same o own_one (ap (option_map (holding day ss)) (sym own_one) ∙ held)
        by false differ None own = refl
        by false differ (Some a) own = ap Some (elsewhere a (ap (same_name account) (own_is_named day party other a own) ∙ differ))

    pub move_known : same_name to old.name ≡ true → Moves old new debit account amount → Knows day party (moved ∷ ss) new
    move_known e moves = record {
      taken = move_taken (addressed e) moves;
      name = moves.now.name ∙ knows.name;
      setup = moves.now.setup ∙ knows.setup;
      balances = λ other. moves.now.balances other ∙ ap (λ o. if same_name account other then Some (moved_to debit moves.before amount) else o) (knows.balances other)
          ∙ balance_after moves.before (sym (knows.balances account) ∙ moves.held) other;
      words = λ n. ap (λ ws. kept (numbered ws n)) moves.now.words ∙ knows.words n ∙ same_word day party ss place to debit account amount n;
    }

    pub move_takes : {U : Type 0} → (result : Result U ViewFault) → same_name to old.name ≡ true
        → MatchResult result (λ _. Moves old new debit account amount) (λ fault. kept_fault debit amount (balance_kept old account) ≡ Some fault) → Takes day party ss moved new result
    move_takes (Ok u) e made = move_known e made
    move_takes (Err fault) e made = move_refused fault made
