-- What comes later in the file: a stop is one more time, a message changes none before it is taken.
use Rattle.std.proofs.Common.{◌≡◌, ◌∙◌, ℕ, ◌<◌, ◌≤◌, Bool, true, false, ◌||◌, ◌&&◌, List, [], ◌∷◌, ◌++◌, length, refl, sym, ap, arith}
use Rattle.std.specs.Prelude.{nat_eq}
use Rattle.std.specs.List.{list_any}
use Rattle.std.proofs.lemmas.Bool.{eq-eqb, ne_eqb}
use Rattle.std.proofs.lemmas.List.{append-nil, length-set}
use Rattle.std.proofs.lemmas.List.Folds.{list_any-append}
use Rattle.batch_records.specs.DayRecord.{Day}
use Rattle.batch_records.specs.declared.day.Message.{Message}
use Rattle.commit_journal.specs.Line.{History}
use Rattle.machine.specs.Words.{some_passes}
use Rattle.machine.specs.Records.Messages.{is_batch, message_numbers, sort_of, stated_end}
use Rattle.machine.specs.Telling.History.{is_accepted}
use Rattle.machine.specs.OtherLaws.{is_among}
use Rattle.live_order.specs.Longer.{SpeaksOf, longer}
use Rattle.live_order.proofs.Longer.Known.{earliest_same, info_end_same, message_same, sort_same}
use Rattle.live_order.proofs.Longer.Ranges.{any_front}
use Rattle.live_order.proofs.Longer.Spoken.{never_accepted}
use Rattle.number_set.specs.Members.{has}
use Rattle.clock_stops.specs.Entered.{with_stop}
use Rattle.clock_stops.specs.Kept.{KeepsStops}
use Rattle.clock_stops.specs.Stops.{is_batch_end, is_stop_time, states_end}
use Rattle.clock_stops.proofs.EnteredFacts.{has_more}

module _ (day : Day) (ms : List Message) (ss : List ℕ) (J : History) (t : ℕ) (speaks : SpeaksOf (length day.messages) J) where
  till_same : (n : ℕ) → n ≤ length day.messages → stated_end (longer day ms ss) n ≡ stated_end day n
  till_same n h = rw (message_same day ms ss n h) refl

  end_same : (n : ℕ) → n ≤ length day.messages → states_end (longer day ms ss) t n ≡ states_end day t n
  end_same n h = λ i. some_passes (nat_eq t) (info_end_same day ms ss n h i) || some_passes (nat_eq t) (earliest_same day ms ss n h i) || some_passes (nat_eq t) (till_same n h i)

  batch_same : (n : ℕ) → n ≤ length day.messages → is_batch_end (longer day ms ss) J t n ≡ is_batch_end day J t n
  batch_same n h = λ i. is_batch (sort_same day ms ss n h i) && is_accepted J n && end_same n h i

  -- no line has taken it
  batch_later : (n : ℕ) → length day.messages < n → is_batch_end (longer day ms ss) J t n ≡ false
  batch_later n h = none (is_batch (sort_of (longer day ms ss) n)) (is_accepted J n) (states_end (longer day ms ss) t n) (never_accepted (length day.messages) n J speaks h)
    where
      none : (b a s : Bool) → a ≡ false → (b && a && s) ≡ false
      none true true s e = cc
      none true false s e = refl
      none false a s e = refl

  pub longer_times : is_stop_time (longer day ms ss) J t ≡ (is_among (day.stops ++ ss) t || list_any (is_batch_end day J t) (message_numbers day))
  unfolding is_stop_time
  longer_times = ap (λ b. is_among (day.stops ++ ss) t || b) (any_front (is_batch_end (longer day ms ss) J t) (is_batch_end day J t) 1 day.messages ms (λ n l. batch_same n (omega (arith, l))) (λ n l. batch_later n (omega (arith, l))))

pub message_comes : (day : Day) (m : Message) (J : History) (times : List Bool) → SpeaksOf (length day.messages) J → KeepsStops day J times → KeepsStops (longer day (m ∷ []) []) J times
unfolding is_stop_time
message_comes day m J times speaks keeps = record {
  size = keeps.size;
  exact = λ t. keeps.exact t ∙ sym (longer_times day (m ∷ []) [] J t speaks ∙ ap (λ xs. is_among xs t || list_any (is_batch_end day J t) (message_numbers day)) (append-nil day.stops));
}

pub stop_comes : (day : Day) (J : History) (s : ℕ) (old new : List Bool) → new ≡ with_stop old s → s < 86401 → SpeaksOf (length day.messages) J → KeepsStops day J old → KeepsStops (longer day [] (s ∷ [])) J new
unfolding is_stop_time
stop_comes day J s old new e low speaks keeps = record {
  size = ap length e ∙ (length-set old s true ∙ keeps.size);
  exact = λ t. ap (λ ts. has ts t) e
      ∙ (has_more old s t (nat_eq s t) (let size = keeps.size in omega (arith, low, size)) (λ q. eq-eqb s t (sym q)) (λ ne. ne_eqb s t (λ q. ne (sym q)))
      ∙ (ap (λ b. b || nat_eq s t) (keeps.exact t)
      ∙ (turn (is_among day.stops t) (list_any (is_batch_end day J t) (message_numbers day)) (nat_eq s t)
      ∙ (ap (λ b. b || list_any (is_batch_end day J t) (message_numbers day)) (sym (list_any-append (λ b. nat_eq b t) day.stops (s ∷ [])))
      ∙ sym (longer_times day [] (s ∷ []) J t speaks)))));
}
  where
    turn : (a b c : Bool) → ((a || b) || c) ≡ ((a || (c || false)) || b)
    turn true b c = refl
    turn false true true = refl
    turn false true false = refl
    turn false false true = refl
    turn false false false = refl
