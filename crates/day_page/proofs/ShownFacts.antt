-- What is shown are accounts.
use Rattle.std.proofs.Common.{ℕ, zero, suc, ◌+◌, ◌≤◌, ◌<◌, Bool, true, false, List, [], ◌∷◌, ◌++◌, length, map, take, arith, if◌then◌else◌}
use Rattle.std.specs.Prelude.{slice_index}
use Rattle.std.specs.List.{flat_map, range_with_len}
use Rattle.batch_records.specs.DayRecord.{Day}
use Rattle.commit_journal.specs.Line.{History}
use Rattle.day_page.specs.declared.movers.Mover.{Mover}
use Rattle.day_page.specs.declared.words.Request.{Request}
use Rattle.day_page.specs.Courses.{is_shown, most_shown, mover, movers, shown, shown_part}
use Rattle.day_page.specs.Extents.{AreAccounts}

one_more : (day : Day) (a : ℕ) (rest : List ℕ) → 1 ≤ a → a ≤ length day.accounts → AreAccounts day rest → (i : ℕ) → i < length (a ∷ rest) → (1 ≤ slice_index (a ∷ rest) i) × (slice_index (a ∷ rest) i ≤ length day.accounts)
one_more day a rest low high accounts zero l = (low, high)
one_more day a rest low high accounts (suc i) l = accounts i (omega (arith, l))

if_shown : (day : Day) (b : Bool) (a : ℕ) (rest : List ℕ) → 1 ≤ a → a ≤ length day.accounts → AreAccounts day rest → AreAccounts day ((if b then a ∷ [] else []) ++ rest)
if_shown day true a rest low high accounts = one_more day a rest low high accounts
if_shown day false a rest low high accounts = accounts

all_shown : (day : Day) (most : ℕ) (all : List Mover) (r : Request) (J : History) (s k : ℕ) → 1 ≤ s → s + k ≤ length day.accounts + 1 → AreAccounts day (flat_map (shown_part most all) (map (mover day r J) (range_with_len s k)))
all_shown day most all r J s zero low high = λ i l. absurd (omega (arith, l))
all_shown day most all r J s (suc k) low high =
    if_shown day (is_shown most all (mover day r J s)) s (flat_map (shown_part most all) (map (mover day r J) (range_with_len (s + 1) k))) low (omega (arith, high)) (all_shown day most all r J (s + 1) k (omega arith) (omega (arith, high)))

taken : (day : Day) (k : ℕ) (xs : List ℕ) → AreAccounts day xs → (i : ℕ) → i < length (take k xs) → (1 ≤ slice_index (take k xs) i) × (slice_index (take k xs) i ≤ length day.accounts)
taken day zero xs accounts i l = absurd (omega (arith, l))
taken day (suc k) [] accounts i l = absurd (omega (arith, l))
taken day (suc k) (x ∷ xs) accounts zero l = accounts 0 (omega arith)
taken day (suc k) (x ∷ xs) accounts (suc i) l = taken day k xs (λ j h. accounts (suc j) (omega (arith, h))) i (omega (arith, l))

pub shown_accounts : (day : Day) (r : Request) (J : History) → AreAccounts day (shown day r J)
shown_accounts day r J = taken day (most_shown r) _ (all_shown day (most_shown r) (movers day r J) r J 1 (length day.accounts) (omega arith) (omega arith))
