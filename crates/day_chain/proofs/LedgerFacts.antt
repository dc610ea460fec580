-- What is kept of a chain, from day to day.
use Rattle.std.proofs.Common.{◌≡◌, ◌∙◌, ℕ, zero, suc, ◌+◌, ◌-◌, ◌*◌, ◌^◌, ◌<◌, ◌≤◌, true, List, [], ◌∷◌, ◌++◌, length, map, Option, Some, None, refl, sym, ap, subst, arith}
use Rattle.std.specs.Prelude.{if◌then◌else◌, reverse}
use Rattle.std.specs.List.{range_with_len}
use Rattle.std.proofs.lemmas.Bool.{eq-eqb, ne_eqb}
use Rattle.std.proofs.lemmas.List.{reverse-append}
use Rattle.batch_records.specs.DayRecord.{Day}
use Rattle.batch_records.specs.Sound.{is_sound}
use Rattle.batch_records.proofs.SoundFacts.{setup_parts}
use Rattle.commit_journal.specs.Line.{History}
use Rattle.commit_journal.specs.Histories.{moves_of}
use Rattle.machine.specs.Records.Setup.{account_numbers}
use Rattle.machine.specs.Orders.Bounds.{move_limit}
use Rattle.machine.specs.Legal.{IsLegal}
use Rattle.settlement_laws.proofs.EachLaw.AllLaws.{all_laws}
use Rattle.settlement_laws.proofs.Base.SoundParts.{move_limits}
use Rattle.cash_amounts.specs.declared.cents.TheConstants.{MAX_CENTS}
use Rattle.cash_amounts.specs.declared.limits.TheConstants.{MAX_ACCOUNTS}
use Rattle.day_chain.specs.declared.joining.JoinFault.{JoinFault}
use Rattle.day_chain.specs.declared.ledger.Last.{Last}
use Rattle.day_chain.specs.declared.ledger.YearSums.{YearSums}
use Rattle.day_chain.specs.declared.sums.Sums.{Sums}
use Rattle.day_chain.specs.Answers.{fault_behind}
use Rattle.day_chain.specs.Joining.{join_fault}
use Rattle.day_chain.specs.Ledgers.{AreBooks, IsBook, IsLeftBy, IsOpened, most_amounts, most_days, StandsAt, sums_before}
use Rattle.day_chain.specs.Statements.{by_year, sums_of, with_day, year_of}
use Rattle.day_chain.specs.Summing.{blank, HaveRoom}
use Rattle.day_chain.proofs.ChainLaws.{all_there, AreThere, count_is}
use Rattle.day_chain.proofs.JoinFacts.{joins}
use Rattle.day_chain.proofs.Moving.{less_rooms}
use Rattle.day_chain.proofs.SumFacts.{count_of_moves}

-- ---- what is wrong with the next day

pub fault_some : (last : Last) (told : List Day) (books : List YearSums) (day : Day) (found : Option JoinFault) → StandsAt (Some last) told books → ((d : Day) → IsLeftBy d last.before → found ≡ join_fault d day) → found ≡ fault_behind told day
fault_some last [] books day found stands h = absurd stands
fault_some last (d ∷ told) books day found stands h = h d stands.left

pub fault_none : (told : List Day) (books : List YearSums) (day : Day) → StandsAt None told books → None ≡ fault_behind told day
fault_none [] books day stands = refl
fault_none (d ∷ told) books day stands = absurd stands

pub few_accounts : (last : Last) (told : List Day) (books : List YearSums) → StandsAt (Some last) told books → length last.before.accounts ≤ MAX_ACCOUNTS
few_accounts last [] books stands = absurd stands
few_accounts last (d ∷ told) books stands = stands.left.few

-- ---- the year of the next day

books_last : (n : ℕ) (years : List (List Day)) (books : List YearSums) (days : List Day) (book : YearSums) → AreBooks n years books → IsBook n days book → AreBooks n (years ++ days ∷ []) (books ++ book ∷ [])
books_last n [] [] days book all one = (one, tt)
books_last n [] (b ∷ books) days book all one = absurd all
books_last n (y ∷ years) [] days book all one = absurd all
books_last n (y ∷ years) (b ∷ books) days book all one = (all.0, books_last n years books days book all.1 one)

-- where the latest day is of the same year
same_year : (day : Day) (days : List Day) (years : List (List Day)) → year_of days ≡ day.date.year → with_day day (days ∷ years) ≡ (day ∷ days) ∷ years
same_year day days years e = ap (λ b. if b then (day ∷ days) ∷ years else (day ∷ []) ∷ days ∷ years) (eq-eqb (year_of days) day.date.year e)

other_year : (day : Day) (days : List Day) (years : List (List Day)) → (year_of days ≡ day.date.year → ⊥) → with_day day (days ∷ years) ≡ (day ∷ []) ∷ days ∷ years
other_year day days years ne = ap (λ b. if b then (day ∷ days) ∷ years else (day ∷ []) ∷ days ∷ years) (ne_eqb (year_of days) day.date.year ne)

year_more : (day : Day) (told : List Day) → by_year (day ∷ told) ≡ with_day day (by_year told)
unfolding by_year
year_more day told = refl

there : (days : List Day) (years : List (List Day)) → AreThere (days ∷ years) → (d : Day) × (ds : List Day) × (days ≡ d ∷ ds)
there [] years h = absurd h
there (d ∷ ds) years h = (d, ds, refl)

sums_there : (day : Day) (days : List Day) (n : ℕ) → (d : Day) × (ds : List Day) × (days ≡ d ∷ ds) → map (sums_of days) (range_with_len 1 n) ≡ map (sums_before day days) (range_with_len 1 n)
sums_there day days n h = subst (λ (x : List Day). map (sums_of x) (range_with_len 1 n) ≡ map (sums_before day x) (range_with_len 1 n)) (sym h.2) refl

pub opened_same : (day : Day) (last : Last) (told : List Day) (books : List YearSums) → StandsAt (Some last) told books → fault_behind told day ≡ None → last.year.year ≡ day.date.year → IsOpened day told last.year books
opened_same day last [] books stands fine year = absurd stands
opened_same day last (d ∷ told) books stands fine year =
    let count : length d.accounts ≡ length day.accounts = sym (count_is day d (joins d day fine)) in
    let all : AreThere (stands.days ∷ stands.years) = subst AreThere stands.are (all_there (d ∷ told)) in
    record {
      days = stands.days;
      years = stands.years;
      are = year_more day (d ∷ told) ∙ ap (with_day day) stands.are ∙ same_year day stands.days stands.years (sym stands.latest.year ∙ year);
      year = year;
      sums = stands.latest.sums ∙ sums_there day stands.days (length d.accounts) (there stands.days stands.years all) ∙ ap (λ n. map (sums_before day stands.days) (range_with_len 1 n)) count;
      earlier = subst (λ n. AreBooks n (reverse stands.years) books) count stands.earlier;
      room = stands.room;
    }

room_none : (n : ℕ) (day : Day) (s len : ℕ) → n * MAX_CENTS ≤ 2 ^ 127 → HaveRoom n (map (blank day) (range_with_len s len))
room_none n day s zero h = tt
room_none n day s (suc len) h = (record { debits = omega (arith, h); credits = omega (arith, h); aside = omega (arith, h) }, room_none n day (s + 1) len h)

pub room_first : (day : Day) (k : ℕ) (xs : List Sums) → xs ≡ map (blank day) (account_numbers day) → HaveRoom (most_amounts * (most_days - k)) xs
room_first day k xs e = subst (HaveRoom (most_amounts * (most_days - k))) (sym e) (room_none (most_amounts * (most_days - k)) day 1 (length day.accounts) (omega arith))

pub opened_new : (day : Day) (last : Last) (told : List Day) (books more : List YearSums) (book : YearSums) → StandsAt (Some last) told books → fault_behind told day ≡ None → (last.year.year ≡ day.date.year → ⊥) → more ≡ books ++ last.year ∷ [] → book.year ≡ day.date.year → book.sums.items ≡ map (blank day) (account_numbers day) → IsOpened day told book more
opened_new day last [] books more book stands fine ne e year sums = absurd stands
opened_new day last (d ∷ told) books more book stands fine ne e year sums =
    let count : length d.accounts ≡ length day.accounts = sym (count_is day d (joins d day fine)) in
    record {
      days = [];
      years = stands.days ∷ stands.years;
      are = year_more day (d ∷ told) ∙ ap (with_day day) stands.are ∙ other_year day stands.days stands.years (λ q. ne (stands.latest.year ∙ q));
      year = year;
      sums = sums;
      earlier = subst (λ n. AreBooks n (reverse (stands.days ∷ stands.years)) more) count (subst (AreBooks (length d.accounts) (reverse (stands.days ∷ stands.years))) (sym e) (subst (λ (ys : List (List Day)). AreBooks (length d.accounts) ys (books ++ last.year ∷ [])) (sym (reversed stands.days stands.years)) (books_last (length d.accounts) (reverse stands.years) books stands.days last.year stands.earlier stands.latest)));
      room = room_first day (length (d ∷ told)) book.sums.items sums;
    }
  where
    reversed : (days : List Day) (years : List (List Day)) → reverse (days ∷ years) ≡ reverse years ++ days ∷ []
    reversed days years = reverse-append (days ∷ []) years

pub opened_first : (day : Day) (told : List Day) (books : List YearSums) (book : YearSums) → StandsAt None told books → book.year ≡ day.date.year → book.sums.items ≡ map (blank day) (account_numbers day) → IsOpened day told book books
unfolding by_year
opened_first day [] books book none year sums = record {
  days = [];
  years = [];
  are = refl;
  year = year;
  sums = sums;
  earlier = subst (AreBooks (length day.accounts) []) (sym none) tt;
  room = room_first day 0 book.sums.items sums;
}
opened_first day (d ∷ told) books book none year sums = absurd none

-- ---- room for a day

few_moves : (day : Day) (J : History) → is_sound day ≡ true → IsLegal day J → length (moves_of J) < move_limit
few_moves day J sound legal = let n = count_of_moves J in let b = (all_laws day J sound legal).goes_on.0.3 in let limit = move_limits day.version in omega arith

pub room_for_moves : (day : Day) (J : History) (accounts : ℕ) (sums : List Sums) → is_sound day ≡ true → IsLegal day J → accounts ≤ MAX_ACCOUNTS → (n : ℕ) → HaveRoom (n + most_amounts) sums → HaveRoom ((n + accounts) + 2 * length (moves_of J)) sums
room_for_moves day J accounts sums sound legal few n h =
    let moves = few_moves day J sound legal in
    let k = most_amounts - (accounts + 2 * length (moves_of J)) in
    let same : n + most_amounts ≡ ((n + accounts) + 2 * length (moves_of J)) + k = omega arith in
    less_rooms k _ sums (subst (λ m. HaveRoom m sums) same h)

pub few_accounts_in : (day : Day) → is_sound day ≡ true → length day.accounts ≤ MAX_ACCOUNTS
few_accounts_in day sound = (setup_parts day sound).few_accounts
