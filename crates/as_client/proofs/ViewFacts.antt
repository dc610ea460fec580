-- What a party knows by its own statuses is what the journal tells of its accounts and messages.
use Rattle.std.proofs.Common.{◌≡◌, ◌∙◌, ℕ, Bool, true, false, ◌&&◌, cond, List, [], ◌∷◌, ◌++◌, refl, sym, ap, subst, length, inl, inr}
use Rattle.std.specs.Prelude.{filter, if◌then◌else◌, nat_eq}
use Rattle.std.specs.List.{flat_map}
use Rattle.std.proofs.lemmas.Bool.{eqb-true}
use Rattle.std.proofs.lemmas.List.{length-reverse}
use Rattle.std.proofs.lemmas.List.Sums.{length-filter}
use Rattle.account_book.proofs.SoundLemmas.{same_names}
use Rattle.batch_records.specs.DayRecord.{Day}
use Rattle.commit_journal.specs.declared.line.Move.{Move}
use Rattle.commit_journal.specs.Line.{History}
use Rattle.machine.specs.Words.{is_zero, same_name}
use Rattle.machine.specs.Records.Setup.{account_numbers, owner}
use Rattle.machine.specs.Records.Messages.{message_numbers, sender}
use Rattle.machine.specs.Telling.Balances.{balance}
use Rattle.machine.specs.Legal.{IsLegal}
use Rattle.settlement_laws.proofs.Base.Lists.{IsIn, from_filter}
use Rattle.status_messages.specs.declared.status.Status.{Status}
use Rattle.status_messages.specs.declared.status.Status.TheVariants as status
use Rattle.status_messages.specs.Statuses.{all_statuses, move_statuses, place_after, statuses}
use Rattle.as_client.specs.declared.view.Word.{Word}
use Rattle.as_client.specs.JournalViews.{count_addressed, view_of}
use Rattle.as_client.specs.PartyWords.{word_after, word_after_status, word_in, word_of}
use Rattle.as_client.specs.Reports.{count_text, holding_text, message_text, report}
use Rattle.as_client.specs.ViewLaws.{ViewsAgree, told}
use Rattle.as_client.specs.Views.{holding, is_addressed}
use Rattle.as_client.proofs.OwnLines.{balances_agree, none_refused}
use Rattle.as_client.proofs.Taking.{onto, taking, taking_first}
use Rattle.as_client.proofs.TurnStatuses.{AllTurns, line_parts}
use Rattle.as_client.proofs.WordLines.{words_along}
use Rattle.as_client.proofs.WordSteps.{along}

-- ---- statuses to others decide no word of a message of the party

-- where it isn't told to the message's sender, it decides no word
abbrev Minds : Day → Status → Type 0
Minds day (status.Turn place to turn msg from id entry reason) = same_name to (sender day msg) ≡ false → (word : Word) → word_after turn word ≡ word
Minds day (status.Moved place to debit account amount) = Unit {0}

abbrev AllMind : Day → List Status → Type 0
AllMind day [] = Unit {0}
AllMind day (s ∷ ss) = Minds day s × AllMind day ss

mind_append : (day : Day) (xs ys : List Status) → AllMind day xs → AllMind day ys → AllMind day (xs ++ ys)
mind_append day [] ys h k = k
mind_append day (x ∷ xs) ys h k = (h.0, mind_append day xs ys h.1 k)

turns_mind : (day : Day) (xs : List Status) → AllTurns day xs → AllMind day xs
turns_mind day [] h = tt
turns_mind day (status.Turn place to turn msg from id entry reason ∷ xs) h = (h.0, turns_mind day xs h.1)
turns_mind day (status.Moved place to debit account amount ∷ xs) h = absurd h.0

moves_mind : (day : Day) (place : ℕ) (moves : List Move) → AllMind day (flat_map (move_statuses day place) moves)
moves_mind day place [] = tt
moves_mind day place (m ∷ moves) = (tt, (tt, moves_mind day place moves))

journal_minds : (day : Day) (J : History) → AllMind day (all_statuses day J)
unfolding all_statuses
journal_minds day [] = tt
journal_minds day (l ∷ J) =
    let parts = line_parts day J l in
    mind_append day (all_statuses day J) (statuses day J l) (journal_minds day J)
    (subst (AllMind day) (sym parts.is) (mind_append day (flat_map (move_statuses day (place_after J)) l.moves) parts.rest (moves_mind day (place_after J) l.moves) (turns_mind day parts.rest parts.turns)))

passed_over : (day : Day) (n : ℕ) (name : List ℕ) (s : Status) (word : Word) → Minds day s → sender day n ≡ name → is_addressed name s ≡ false → word_after_status n s word ≡ word
passed_over day n name (status.Moved place to debit account amount) word h mine other = refl
passed_over day n name (status.Turn place to turn msg from id entry reason) word h mine other = here (nat_eq msg n) (is_zero entry) refl
  where
    here : (b z : Bool) → nat_eq msg n ≡ b → (if (b && z) then word_after turn word else word) ≡ word
    here true true e = h (ap (λ x. same_name to (sender day x)) (eqb-true msg n e) ∙ ap (same_name to) mine ∙ other) word
    here true false e = refl
    here false z e = refl

words_taken : (day : Day) (n : ℕ) (name : List ℕ) (ss xs : List Status) → AllMind day xs → sender day n ≡ name → word_of (taking name ss xs) n ≡ along n (word_of ss n) xs
unfolding taking along word_of
words_taken day n name ss [] h mine = refl
words_taken day n name ss (x ∷ xs) h mine = here (is_addressed name x) refl (words_taken day n name (onto name x ss) xs h.1 mine)
  where
    here : (b : Bool) → is_addressed name x ≡ b → word_of (taking name (cond b (x ∷ ss) ss) xs) n ≡ along n (word_of (cond b (x ∷ ss) ss) n) xs
        → word_of (taking name (cond b (x ∷ ss) ss) xs) n ≡ along n (word_after_status n x (word_of ss n)) xs
    here true e k = k
    here false e k = k ∙ ap (λ w. along n w xs) (sym (passed_over day n name x (word_of ss n) h.0 mine e))

words_agree : (day : Day) (J : History) (name : List ℕ) (n : ℕ) → IsLegal day J → sender day n ≡ name → word_of (told day J name) n ≡ word_in day J n
unfolding word_of
words_agree day J name n legal mine =
    ap (λ ss. word_of ss n) (sym (taking_first name (all_statuses day J))) ∙ words_taken day n name [] (all_statuses day J) (journal_minds day J) mine ∙ words_along day J n legal

-- ---- the report

counts_agree : (day : Day) (J : History) (name : List ℕ) → length (told day J name) ≡ count_addressed day J name
counts_agree day J name = length-reverse (filter (is_addressed name) (all_statuses day J)) ∙ length-filter (is_addressed name) (all_statuses day J)

texts_same : (f g : ℕ → List ℕ) (xs : List ℕ) → ((x : ℕ) → IsIn x xs → f x ≡ g x) → flat_map f xs ≡ flat_map g xs
texts_same f g [] h = refl
texts_same f g (x ∷ xs) h = ap (λ y. y ++ flat_map f xs) (h x (inl refl)) ∙ ap (λ ys. g x ++ ys) (texts_same f g xs (λ y i. h y (inr i)))

reports_agree : (day : Day) (name : List ℕ) (holds holds' : ℕ → ℕ) (word word' : ℕ → Word) (count count' : ℕ) → ((a : ℕ) → owner day a ≡ name → holds a ≡ holds' a) → ((n : ℕ) → sender day n ≡ name → word n ≡ word' n) → count ≡ count'
    → report day name holds word count ≡ report day name holds' word' count'
reports_agree day name holds holds' word word' count count' h k e = λ i. holdings i ++ (messages i ++ count_text (e i))
  where
    holdings : flat_map (λ a. holding_text day a (holds a)) (filter (λ a. same_name (owner day a) name) (account_numbers day)) ≡ flat_map (λ a. holding_text day a (holds' a)) (filter (λ a. same_name (owner day a) name) (account_numbers day))
    holdings = texts_same _ _ _ (λ a i. ap (holding_text day a) (h a (same_names (owner day a) name (from_filter (λ a. same_name (owner day a) name) (account_numbers day) a i).1)))

    messages : flat_map (λ n. message_text day n (word n)) (filter (λ n. same_name (sender day n) name) (message_numbers day)) ≡ flat_map (λ n. message_text day n (word' n)) (filter (λ n. same_name (sender day n) name) (message_numbers day))
    messages = texts_same _ _ _ (λ n i. ap (message_text day n) (k n (same_names (sender day n) name (from_filter (λ n. same_name (sender day n) name) (message_numbers day) n i).1)))

pub views_agree : ViewsAgree
unfolding view_of
views_agree day J name sound legal = record {
  taken = none_refused day J name sound legal;
  balances = λ a mine. balances_agree day J name a sound legal mine;
  words = λ n mine. words_agree day J name n legal mine;
  report = reports_agree day name (holding day (told day J name)) (balance day J) (word_of (told day J name)) (word_in day J) (length (told day J name)) (count_addressed day J name)
      (λ a mine. balances_agree day J name a sound legal mine) (λ n mine. words_agree day J name n legal mine) (counts_agree day J name);
}
