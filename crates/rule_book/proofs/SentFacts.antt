-- The last earlier message of a sender, by the names of the day's messages.
use Rattle.std.proofs.Common.{◌≡◌, ℕ, zero, suc, ◌-◌, ◌<◌, ◌≤◌, Bool, true, false, List, [], ◌∷◌, Option, None, Some, length, get_or, refl, ap, sym, ◌∙◌, subst, arith}
use Rattle.std.specs.Prelude.{option_map, slice_get}
use Rattle.std.proofs.lemmas.List.{get_or-map, length-map}
use Rattle.std.proofs.lemmas.Option.{slice_get-get_or}
use Rattle.cash_amounts.specs.Tests.{same_name}
use Rattle.batch_records.specs.DayRecord.{Day}
use Rattle.batch_records.specs.declared.day.Message.{Message}
use Rattle.batch_records.specs.Repeats.{message_at}
use Rattle.machine.specs.Records.Messages.{sender}
use Rattle.message_names.specs.Names.{IsLastBefore, MessageName, has_sender, is_name_from}
use Rattle.rule_book.specs.Repeated.{name_of, names_of}
use Rattle.rule_book.specs.Senders.{IsSentBefore}

module _ (day : Day) (names : List MessageName) (is : names ≡ names_of day) where
  long : length names ≡ length day.messages
  long = ap length is ∙ length-map day.messages name_of

  module _ (k : ℕ) (low : k < length day.messages) (d : Message) where
    message_is : message_at day (suc k) ≡ Some (get_or day.messages k d)
    message_is = slice_get-get_or day.messages k d low

    name_is : slice_get names k ≡ Some (name_of (get_or day.messages k d))
    name_is =
        slice_get-get_or names k (name_of d) (omega (arith, long))
        ∙ ap Some (ap (λ (ns : List MessageName). get_or ns k (name_of d)) is ∙ get_or-map name_of day.messages k d (name_of d) low)

    sender_is : sender day (suc k) ≡ (get_or day.messages k d).sender
    sender_is = rw message_is refl

    sends_is : (s : List ℕ) → has_sender names s k ≡ same_name (sender day (suc k)) s
    sends_is s = ap (is_name_from s) name_is ∙ ap (λ x. same_name x s) (sym sender_is)

  module _ (d : Message) (k : ℕ) (low : k < length day.messages) where
    as_sent : (i : ℕ) (b : Bool) → i < length day.messages → has_sender names (get_or day.messages k d).sender i ≡ b → same_name (sender day (suc i)) (sender day (suc k)) ≡ b
    as_sent i b within e = ap (same_name (sender day (suc i))) (sender_is k low d) ∙ (sym (sends_is i within d (get_or day.messages k d).sender) ∙ e)

    none_sent : IsLastBefore names (get_or day.messages k d).sender k None → IsSentBefore day (suc k) None
    none_sent h zero one less = absurd (omega arith)
    none_sent h (suc i) one less = as_sent i false (omega arith) (h i (omega arith))

    last_sent : (i : ℕ) → IsLastBefore names (get_or day.messages k d).sender k (Some i) → IsSentBefore day (suc k) (Some (suc i))
    last_sent i h = (omega arith, omega (arith, h.0), as_sent i true (omega (arith, h.0)) h.1, between)
      where
        between : (j : ℕ) → suc i < j → j < suc k → same_name (sender day j) (sender day (suc k)) ≡ false
        between zero above less = absurd (omega arith)
        between (suc j) above less = as_sent j false (omega arith) (h.2 j (omega arith) (omega arith))

    sent_next : (o : Option ℕ) → IsLastBefore names (get_or day.messages k d).sender k o → IsSentBefore day (suc k) (option_map suc o)
    sent_next None h = none_sent h
    sent_next (Some i) h = last_sent i h

  pub sent_is : (n : ℕ) (o : Option ℕ) → 1 ≤ n → n ≤ length day.messages → ((name : MessageName) → slice_get names (n - 1) ≡ Some name → IsLastBefore names name.sender (n - 1) o) → IsSentBefore day n (option_map suc o)
  sent_is zero o one within h = absurd (omega arith)
  sent_is (suc k) o one within h = by day.messages refl
    where
      by : (ms : List Message) → day.messages ≡ ms → IsSentBefore day (suc k) (option_map suc o)
      by [] e = absurd (omega (arith, ap length e))
      by (d ∷ ms) e =
          let low : k < length day.messages = omega arith in
          let back : suc k - 1 ≡ k = omega arith in
          sent_next d k low o (subst (λ j. IsLastBefore names (get_or day.messages k d).sender j o) back (h (name_of (get_or day.messages k d)) (ap (slice_get names) back ∙ name_is k low d)))
