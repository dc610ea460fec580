-- What is kept of the repeats of a day, by the numbers of its messages.
use Rattle.std.proofs.Common.{◌≡◌, ◌<◌, ◌≤◌, ◌-◌, ℕ, zero, suc, List, Option, None, length, map, get_or, refl, ap, arith, ◌∙◌}
use Rattle.std.proofs.lemmas.List.FromFn.{get_or-map-range_with_len, length-map-range_with_len}
use Rattle.std.proofs.lemmas.Option.{slice_get_past}
use Rattle.batch_records.specs.DayRecord.{Day}
use Rattle.batch_records.specs.Repeats.{message_at, message_numbers}
use Rattle.batch_records.specs.RepeatsInWords.{earlier}
use Rattle.rule_book.specs.Repeated.{repeats_of}

module _ {X : Type 0} (day : Day) (f : ℕ → X) (kept : List X) (is : kept ≡ map f (message_numbers day)) where
  -- what is kept of a message
  pub made_at : (n : ℕ) (found : X) → 0 < n → n - 1 < length kept → found ≡ get_or kept (n - 1) found → found ≡ f n
  made_at n found some within at =
      let one_each : length kept ≡ length day.messages = ap length is ∙ length-map-range_with_len f 1 (length day.messages) in
      let within_day : n - 1 < length day.messages = omega (arith, one_each) in
      at ∙ ap (λ xs. get_or xs (n - 1) found) is ∙ get_or-map-range_with_len f 1 (length day.messages) (n - 1) n found within_day (omega arith)

module _ (day : Day) (kept : List (Option ℕ)) (is : kept ≡ repeats_of day) where
  one_each : length kept ≡ length day.messages
  one_each = ap length is ∙ length-map-range_with_len (earlier day) 1 (length day.messages)

  pub kept_at : (n : ℕ) (first : Option ℕ) → 0 < n → n - 1 < length kept → first ≡ get_or kept (n - 1) first → first ≡ earlier day n
  kept_at = made_at day (earlier day) kept is

  pub kept_past : (n : ℕ) → 0 < n → length kept ≤ n - 1 → None ≡ earlier day n
  kept_past zero some past = absurd (omega arith)
  kept_past (suc k) some past =
      let none : message_at day (suc k) ≡ None = slice_get_past day.messages k (omega (arith, one_each)) in
      rw none refl
