-- A day is opened: all accounts are at hand, at their openings.
use Rattle.std.proofs.Common.{◌≡◌, ◌∙◌, ℕ, zero, suc, ◌+◌, ◌<◌, ◌≤◌, true, List, [], ◌∷◌, length, map, Some, is_some, refl, sym, ap, subst, arith}
use Rattle.std.specs.Option.{option_map_or}
use Rattle.std.specs.Prelude.{slice_get}
use Rattle.std.proofs.lemmas.List.{length-map}
use Rattle.settlement_laws.proofs.Base.Sums.{all-at, all-from}
use Rattle.cash_amounts.specs.declared.records.AccountRecord.{AccountRecord}
use Rattle.cash_amounts.specs.Numbers.{numbered}
use Rattle.batch_records.specs.DayRecord.{Day}
use Rattle.machine.specs.Telling.Balances.{credited, debited}
use Rattle.settle_floor.specs.Floors.{AtWork, IsFor, OnFloor, has_all}
use Rattle.settle_floor.specs.Tills.{KeepsBalances}

opening_of : (rs : List AccountRecord) (i held : ℕ) → slice_get (map (λ (r : AccountRecord). r.opening) rs) i ≡ Some held → held ≡ option_map_or (λ (r : AccountRecord). r.opening) (slice_get rs i) 0
opening_of [] i held e = cc
opening_of (r ∷ rs) zero held e = cc
opening_of (r ∷ rs) (suc i) held e = opening_of rs i held e

opened : (day : Day) (till : List ℕ) → till ≡ map (λ (r : AccountRecord). r.opening) day.accounts → KeepsBalances (numbered till) day []
unfolding credited debited
opened day till e zero held h = cc
opened day till e (suc a) held h =
    let o = opening_of day.accounts a held (ap (λ (xs : List ℕ). slice_get xs a) (sym e) ∙ h) in
    omega (arith, o)

within : (till : List ℕ) (i : ℕ) → i < length till → is_some (slice_get till i) ≡ true
within [] i low = absurd (omega arith)
within (x ∷ till) zero low = refl
within (x ∷ till) (suc i) low = within till i (omega arith)

numbered_there : (till : List ℕ) (k : ℕ) → 1 ≤ k → k < 1 + length till → is_some (numbered till k) ≡ true
numbered_there till zero a b = absurd (omega arith)
numbered_there till (suc k) a b = within till k (omega arith)

all_there : (day : Day) (till : List ℕ) → length till ≡ length day.accounts → has_all (numbered till) day ≡ true
all_there day till e = all-from (λ a. is_some (numbered till a)) 1 (length day.accounts) (λ k a b. numbered_there till k a (omega (arith, e, b)))

pub opens : (day : Day) (accounts : List AccountRecord) (till : List ℕ) (floor : OnFloor) → accounts ≡ day.accounts → till ≡ map (λ (r : AccountRecord). r.opening) accounts → floor.journal.history ≡ [] → IsFor day floor → AtWork day floor (numbered till)
opens day accounts till floor same e empty is_for =
    let is : till ≡ map (λ (r : AccountRecord). r.opening) day.accounts = e ∙ ap (map (λ (r : AccountRecord). r.opening)) same in
    record {
      opened = is_for;
      kept = subst (KeepsBalances (numbered till) day) (sym empty) (opened day till is);
      all = all_there day till (ap length is ∙ length-map day.accounts (λ (r : AccountRecord). r.opening));
    }

-- an account of the day is at hand
pub at_hand : (day : Day) (till : List ℕ) (a : ℕ) → has_all (numbered till) day ≡ true → 0 < a → a ≤ length day.accounts → is_some (numbered till a) ≡ true
at_hand day till a h low high = all-at (λ b. is_some (numbered till b)) 1 (length day.accounts) a h (omega arith) (omega arith)
