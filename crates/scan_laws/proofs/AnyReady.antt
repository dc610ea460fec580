-- Whether any item is ready, by the row.
use Rattle.std.proofs.Common.{◌≡◌, ℕ, suc, ◌+◌, ◌<◌, ◌≤◌, length, true, false, ◌||◌, not, Option, Some, None, is_some, sym, ap, ◌∙◌, arith}
use Rattle.std.specs.List.{list_any}
use Rattle.std.proofs.lemmas.Bool.{and_parts, and_from, not_from_false, false_from_ne_true, both_ways}
use Rattle.batch_records.specs.DayRecord.{Day}
use Rattle.commit_journal.specs.Line.{History}
use Rattle.machine.specs.Records.Setup.{account_numbers}
use Rattle.machine.specs.Records.Messages.{entries, message_numbers}
use Rattle.machine.specs.Telling.History.{is_ended}
use Rattle.machine.specs.Making.Lines.{is_ready_item, is_ready_message, is_ready, may_sweep}
use Rattle.settlement_laws.proofs.Base.Sums.{any-at, any-from}
use Rattle.scan_laws.specs.Next.{IsNext}
use Rattle.scan_laws.specs.Numbers.{item_number, item_of, IsItem}
use Rattle.scan_laws.specs.Runs.{has_line, next_ready}
use Rattle.scan_laws.proofs.NumberFacts.{item-is}
use Rattle.scan_laws.proofs.Lined.{item-ready, line-item, line-ready, line-within, next-least}

-- an item of the day that is ready has a line at its number
has-line : (day : Day) (J : History) (n k : ℕ) → is_ended J ≡ false → IsItem day n k → is_ready_item day J n k ≡ true → has_line day J (item_number day n k) ≡ true
has-line day J n k e h t = ap is_some (line-item day J n k h) ∙ item-ready day J n k ∙ and_from _ _ (not_from_false (is_ended J) e) t

any-message : (day : Day) (J : History) → is_ended J ≡ false → list_any (is_ready_message day J) (message_numbers day) ≡ is_some (next_ready day J 0)
unfolding is_ready_message
any-message day J e = go (next_ready day J 0) (next-least day J 0)
  where
    at_entry : (n : ℕ) → ((i : ℕ) → 0 ≤ i → has_line day J i ≡ false) → 1 ≤ n → n < 1 + length day.messages → (k : ℕ) × (0 ≤ k) × (k < 0 + suc (length (entries day n))) × (is_ready_item day J n k ≡ true) → ⊥
    at_entry n none low high (k, a, b, t) =
        both_ways (has_line day J (item_number day n k)) (none (item_number day n k) (omega arith)) (has-line day J n k e (record { first = low; last = omega (arith, high); entry = omega (arith, b) }) t)

    at_message : ((i : ℕ) → 0 ≤ i → has_line day J i ≡ false) → (n : ℕ) × (1 ≤ n) × (n < 1 + length day.messages) × (is_ready_message day J n ≡ true) → ⊥
    at_message none (n, low, high, t) = at_entry n none low high (any-at (is_ready_item day J n) 0 (suc (length (entries day n))) t)

    go : (o : Option ℕ) → IsNext (has_line day J) 0 o → list_any (is_ready_message day J) (message_numbers day) ≡ is_some o
    go None none = false_from_ne_true (list_any (is_ready_message day J) (message_numbers day)) (λ t. at_message none (any-at (is_ready_message day J) 1 (length day.messages) t))
    go (Some x) least =
        let h : IsItem day (item_of day x).msg (item_of day x).entry = item-is day x (line-within day J x least.passes) in
        let a = h.first in
        let b = h.last in
        let c = h.entry in
        let t = (and_parts (not (is_ended J)) _ (sym (line-ready day J x) ∙ least.passes)).1 in
        any-from (is_ready_message day J) 1 (length day.messages) (item_of day x).msg a (omega (arith, b))
        (any-from (is_ready_item day J (item_of day x).msg) 0 (suc (length (entries day (item_of day x).msg))) (item_of day x).entry (omega arith) (omega (arith, c)) t)

pub any-ready : (day : Day) (J : History) → is_ended J ≡ false → is_ready day J ≡ (is_some (next_ready day J 0) || list_any (may_sweep day J) (account_numbers day))
unfolding is_ready
any-ready day J e = ap (λ b. b || list_any (may_sweep day J) (account_numbers day)) (any-message day J e)
