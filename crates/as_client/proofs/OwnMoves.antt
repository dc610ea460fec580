-- A party refuses no status of the moves of a line, and has then what they moved on its accounts.
use Rattle.std.proofs.Common.{◌≡◌, ◌∙◌, ◌≤◌, ◌+◌, ℕ, suc, true, false, not, List, [], ◌∷◌, refl, sym, ap, arith}
use Rattle.std.specs.Prelude.{nat_eq, nat_lt, take, if◌then◌else◌}
use Rattle.std.specs.List.{flat_map, list_all}
use Rattle.std.proofs.lemmas.Bool.{and_parts, eq-eqb, eqb-false, ne_eqb, not-true}
use Rattle.cash_amounts.specs.declared.cents.TheConstants.{MAX_CENTS}
use Rattle.batch_records.specs.DayRecord.{Day}
use Rattle.batch_records.specs.Sound.{is_sound}
use Rattle.commit_journal.specs.declared.line.Move.{Move}
use Rattle.machine.specs.Records.Setup.{opening}
use Rattle.machine.specs.Telling.Balances.{credits, debits}
use Rattle.machine.specs.OtherLaws.{is_real}
use Rattle.settlement_laws.proofs.Balances.MovesOfTheDay.{MovesInRange}
use Rattle.status_messages.specs.declared.status.Status.{Status}
use Rattle.status_messages.specs.Statuses.{move_statuses, moved_on}
use Rattle.as_client.proofs.OwnBalances.{Shows, adds, credit_passes, credit_shows, debit_passes, debit_shows}
use Rattle.as_client.proofs.Taking.{Passes, onto, taking}

-- on the way through the moves no account is below zero, or above the most cents
abbrev pub KeepsRange : Day → (ℕ → ℕ) → (ℕ → ℕ) → List Move → Type 0
KeepsRange day came went moves = (a i : ℕ) →
    (went a + debits a (take i moves) ≤ (opening day a + came a) + credits a (take i moves))
    × ((opening day a + came a) + credits a (take i moves) ≤ MAX_CENTS + (went a + debits a (take i moves)))

-- the statuses are refused by nobody, and show what came and went besides
pub record Told (day : Day) (name : List ℕ) (ss xs : List Status) (came went : ℕ → ℕ) : Type 0 where
  pub passes : Passes day name ss xs
  pub shows : Shows day name (taking name ss xs) came went

pub shows_as : (day : Day) (name : List ℕ) (ss : List Status) (came went came' went' : ℕ → ℕ) → ((a : ℕ) → came a ≡ came' a) → ((a : ℕ) → went a ≡ went' a) → Shows day name ss came went → Shows day name ss came' went'
shows_as day name ss came went came' went' h k shows a mine = let s = shows a mine in (s.0 ∙ h a, s.1 ∙ k a)

adds_there : (d amount : ℕ) → adds d amount d ≡ amount
adds_there d amount = ap (λ b. if b then amount else 0) (eq-eqb d d refl)

adds_apart : (d a amount : ℕ) → (d ≡ a → ⊥) → adds d amount a ≡ 0
adds_apart d a amount h = ap (λ b. if b then amount else 0) (ne_eqb d a h)

real_apart : (m : Move) → is_real m ≡ true → m.debit ≡ m.credit → ⊥
real_apart m h = eqb-false m.debit m.credit (not-true (nat_eq m.debit m.credit) (and_parts (not (nat_eq m.debit m.credit)) (nat_lt 0 m.amount) h).0)

-- the first move takes no more than there is
pub debit_fits : (day : Day) (m : Move) (moves : List Move) (came went : ℕ → ℕ) → is_real m ≡ true → KeepsRange day came went (m ∷ moves) → went m.debit + m.amount ≤ opening day m.debit + came m.debit
debit_fits day m moves came went real keeps =
    let k : went m.debit + (adds m.debit m.amount m.debit + 0) ≤ (opening day m.debit + came m.debit) + (adds m.credit m.amount m.debit + 0) = (keeps m.debit 1).0 in
    let s : adds m.debit m.amount m.debit ≡ m.amount = adds_there m.debit m.amount in
    let n : adds m.credit m.amount m.debit ≡ 0 = adds_apart m.credit m.debit m.amount (λ e. real_apart m real (sym e)) in
    omega (arith, k, s, n)

-- and the others after it are in range
pub keeps_on : (day : Day) (m : Move) (moves : List Move) (came went : ℕ → ℕ) → KeepsRange day came went (m ∷ moves) → KeepsRange day (λ a. came a + adds m.credit m.amount a) (λ a. went a + adds m.debit m.amount a) moves
keeps_on day m moves came went keeps a i =
    let k : went a + (adds m.debit m.amount a + debits a (take i moves)) ≤ (opening day a + came a) + (adds m.credit m.amount a + credits a (take i moves)) = (keeps a (suc i)).0 in
    let h : (opening day a + came a) + (adds m.credit m.amount a + credits a (take i moves)) ≤ MAX_CENTS + (went a + (adds m.debit m.amount a + debits a (take i moves))) = (keeps a (suc i)).1 in
    (omega (arith, k), omega (arith, h))

pub moves_told : (day : Day) → is_sound day ≡ true → (name : List ℕ) (place : ℕ) (moves : List Move) (ss : List Status) (came went : ℕ → ℕ) → MovesInRange day moves → list_all is_real moves ≡ true
    → KeepsRange day came went moves → Shows day name ss came went → Told day name ss (flat_map (move_statuses day place) moves) (λ a. came a + credits a moves) (λ a. went a + debits a moves)
unfolding taking Passes
moves_told day sound name place [] ss came went range real keeps shows =
    record { passes = tt; shows = shows_as day name ss came went _ _ (λ a. omega arith) (λ a. omega arith) shows }
moves_told day sound name place (m ∷ moves) ss came went range real keeps shows =
    let rest : Told day name (onto name credit (onto name debit ss)) (flat_map (move_statuses day place) moves) (λ a. (came a + adds m.credit m.amount a) + credits a moves) (λ a. (went a + adds m.debit m.amount a) + debits a moves)
    = moves_told day sound name place moves (onto name credit (onto name debit ss)) (λ a. came a + adds m.credit m.amount a) (λ a. went a + adds m.debit m.amount a) range.1 reals.1 (keeps_on day m moves came went keeps) after_both in
    record {
      passes = (
        debit_passes day sound name place ss came went m.debit m.amount range.0.0 shows (debit_fits day m moves came went reals.0 keeps),
        (credit_passes day sound name place (onto name debit ss) came (λ a. went a + adds m.debit m.amount a) m.credit m.amount range.0.1 after_debit credit_base credit_fits, rest.passes),
      );
      shows = shows_as day name _ _ _ _ _ (λ a. omega arith) (λ a. omega arith) rest.shows;
    }
  where
    reals : (is_real m ≡ true) × (list_all is_real moves ≡ true)
    reals = and_parts (is_real m) (list_all is_real moves) real

    debit : Status
    debit = moved_on day place true m.debit m.amount

    credit : Status
    credit = moved_on day place false m.credit m.amount

    after_debit : Shows day name (onto name debit ss) came (λ a. went a + adds m.debit m.amount a)
    after_debit = debit_shows day sound name place ss came went m.debit m.amount range.0.0 shows

    none_left : adds m.debit m.amount m.credit ≡ 0
    none_left = adds_apart m.debit m.credit m.amount (real_apart m reals.0)

    credit_base : went m.credit + adds m.debit m.amount m.credit ≤ opening day m.credit + came m.credit
    credit_base = let k : went m.credit + 0 ≤ (opening day m.credit + came m.credit) + 0 = (keeps m.credit 0).0 in omega (arith, k, none_left)

    credit_fits : (opening day m.credit + came m.credit) + m.amount ≤ MAX_CENTS + (went m.credit + adds m.debit m.amount m.credit)
    credit_fits =
        let k : (opening day m.credit + came m.credit) + (adds m.credit m.amount m.credit + 0) ≤ MAX_CENTS + (went m.credit + (adds m.debit m.amount m.credit + 0)) = (keeps m.credit 1).1 in
        let s : adds m.credit m.amount m.credit ≡ m.amount = adds_there m.credit m.amount in
        omega (arith, k, s, none_left)

    after_both : Shows day name (onto name credit (onto name debit ss)) (λ a. came a + adds m.credit m.amount a) (λ a. went a + adds m.debit m.amount a)
    after_both = credit_shows day sound name place (onto name debit ss) came (λ a. went a + adds m.debit m.amount a) m.credit m.amount range.0.1 after_debit
