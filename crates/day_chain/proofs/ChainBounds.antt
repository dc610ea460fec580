-- No sum of a statement wraps: a day has few moves, no move is above 10^18, and a chain has few days.
use Rattle.std.proofs.Common.{◌≡◌, ◌∙◌, ℕ, zero, suc, ◌+◌, ◌-◌, ◌*◌, ◌^◌, ◌<◌, ◌≤◌, ◌⊎◌, inl, inr, Bool, true, false, not, ◌&&◌, List, [], ◌∷◌, ◌++◌, length, take, refl, sym, ap, subst, arith, length-append}
use Rattle.std.specs.Prelude.{if◌then◌else◌, nat_eq, nat_lt}
use Rattle.std.specs.List.{list_all}
use Rattle.std.proofs.lemmas.Bool.{and_parts, eq-eqb, eqb-true, false≢true, not-true}
use Rattle.cash_amounts.specs.declared.cents.TheConstants.{MAX_CENTS}
use Rattle.batch_records.specs.DayRecord.{Day}
use Rattle.batch_records.specs.Sound.{is_sound}
use Rattle.commit_journal.specs.declared.line.Move.{Move}
use Rattle.commit_journal.specs.Line.{Line, History}
use Rattle.machine.specs.Records.Setup.{opening}
use Rattle.machine.specs.Telling.Balances.{credits, credited, debits, debited}
use Rattle.machine.specs.Orders.Bounds.{move_limit, moved}
use Rattle.machine.specs.Legal.{IsLegal, moves_in_order}
use Rattle.machine.specs.Orders.Order.{plain}
use Rattle.machine.specs.OtherLaws.{is_real, StaysInRange}
use Rattle.settlement_laws.proofs.Balances.MovesAreReal.{moves_are_real}
use Rattle.settlement_laws.proofs.Balances.StaysInRange.{balance_within, stays_in_range}
use Rattle.settlement_laws.proofs.Base.SoundParts.{move_limits}
use Rattle.settlement_laws.proofs.EachLaw.OneLineLaws.{moves_more}
use Rattle.day_chain.specs.Chains.{AllSettled, all_days, AreWithin, IsSettled, IsWithin}
use Rattle.day_chain.specs.DayEnds.{closing, is_technical_account, set_aside}
use Rattle.day_chain.specs.Ledgers.{most_days}
use Rattle.day_chain.specs.Statements.{by_year, closing_of, first_opening, over, sums_of}
use Rattle.day_chain.proofs.ChainLaws.{again, settled_parts}

-- ---- the moves of a line: an account stays between 0 and 10^18 on the way, so no move that it meets is above 10^18

-- what a move takes from an account, and brings to it
abbrev taken : ℕ → Move → ℕ
taken a m = if nat_eq m.debit a then m.amount else 0

abbrev brought : ℕ → Move → ℕ
brought a m = if nat_eq m.credit a then m.amount else 0

abbrev Stays : ℕ → ℕ → ℕ → List Move → Type 0
Stays a up down moves = (i : ℕ) → (down + debits a (take i moves) ≤ up + credits a (take i moves)) × (up + credits a (take i moves) ≤ 10 ^ 18 + (down + debits a (take i moves)))

-- a move between two accounts takes from an account, or brings to it, but not both
one_side : (a : ℕ) (m : Move) → is_real m ≡ true → (taken a m ≡ 0) ⊎ (brought a m ≡ 0)
one_side a m real = here (nat_eq m.debit a) refl (nat_eq m.credit a) refl
  where
    apart : nat_eq m.debit m.credit ≡ false
    apart = not-true (nat_eq m.debit m.credit) (and_parts (not (nat_eq m.debit m.credit)) (nat_lt 0 m.amount) real).0

    here : (b : Bool) → nat_eq m.debit a ≡ b → (c : Bool) → nat_eq m.credit a ≡ c → (taken a m ≡ 0) ⊎ (brought a m ≡ 0)
    here false e c f = inl (ap (λ x. if x then m.amount else 0) e)
    here true e false f = inr (ap (λ x. if x then m.amount else 0) f)
    here true e true f = absurd (false≢true (sym apart ∙ eq-eqb m.debit m.credit (eqb-true m.debit a e ∙ sym (eqb-true m.credit a f))))

record Small (a : ℕ) (moves : List Move) : Type 0 where
  debits : debits a moves ≤ 10 ^ 18 * length moves
  credits : credits a moves ≤ 10 ^ 18 * length moves

small_moves : (a up down : ℕ) (moves : List Move) → list_all is_real moves ≡ true → Stays a up down moves → Small a moves
small_moves a up down [] real stays = record { debits = omega arith; credits = omega arith }
small_moves a up down (m ∷ moves) real stays =
    let parts = and_parts (is_real m) (list_all is_real moves) real in
    let rest : Small a moves = small_moves a (up + brought a m) (down + taken a m) moves parts.1 (λ i. let s = stays (suc i) in (omega (arith, s.0), omega (arith, s.1))) in
    let first = stays 0 in
    let next = stays 1 in
    let d = rest.debits in
    let c = rest.credits in
    let one : (taken a m ≤ 10 ^ 18) × (brought a m ≤ 10 ^ 18) = elim (one_side a m parts.0) [
      | inl none ↦ (omega (arith, none), omega (arith, none, first.0, next.1))
      | inr none ↦ (omega (arith, none, next.0, first.1), omega (arith, none))
    ] in
    let t = one.0 in
    let b = one.1 in
    record { debits = omega (arith, d, t); credits = omega (arith, c, b) }

-- ---- a journal

record SmallSums (a : ℕ) (J : History) : Type 0 where
  debits : debited J a ≤ 10 ^ 18 * moved J
  credits : credited J a ≤ 10 ^ 18 * moved J

stays_on : (day : Day) (l : Line) (J : History) → is_sound day ≡ true → IsLegal day (l ∷ J) → (a : ℕ) → Stays a (opening day a + credited J a) (debited J a) l.moves
stays_on day l J sound legal a =
    let stays : StaysInRange day J (l ∷ []) = stays_in_range day J (l ∷ []) sound legal in
    subst (λ (moves : List Move). Stays a (opening day a + credited J a) (debited J a) moves) (moves_more l []) (λ i. stays a i)

small_sums : (day : Day) (J : History) → is_sound day ≡ true → IsLegal day J → (a : ℕ) → SmallSums a J
unfolding debited credited
small_sums day [] sound legal a = record { debits = omega arith; credits = omega arith }
small_sums day (l ∷ J) sound legal a =
    let before : SmallSums a J = small_sums day J sound legal.0 a in
    let real = (moves_are_real day (l ∷ J) sound legal).1 in
    let line : Small a l.moves = small_moves a (opening day a + credited J a) (debited J a) l.moves real (stays_on day l J sound legal a) in
    let d = before.debits in
    let c = before.credits in
    let e = line.debits in
    let f = line.credits in
    record { debits = omega (arith, d, e); credits = omega (arith, c, f) }

-- ---- a settled day

-- the most that a day can bring to an account, and take from it
abbrev most_of_day : ℕ
most_of_day = MAX_CENTS * move_limit

record SmallDay (day : Day) (a : ℕ) : Type 0 where
  opening : opening day a ≤ most_of_day
  debits : debited (plain day) a ≤ most_of_day
  credits : credited (plain day) a ≤ most_of_day
  aside : set_aside day a ≤ most_of_day

small_day : (day : Day) → IsSettled day → (a : ℕ) → SmallDay day a
unfolding debited credited
small_day day settled a =
    let sums : SmallSums a (plain day) = small_sums day (plain day) settled.sound settled.legal a in
    let few = settled.laws.goes_on.0.3 in
    let limit = move_limits day.version in
    let start = balance_within day [] settled.sound tt a in
    let end : closing day a ≤ 10 ^ 18 = balance_within day (plain day) settled.sound settled.legal a in
    let d = sums.debits in
    let c = sums.credits in
    record {
      opening = omega (arith, start);
      debits = omega (arith, d, few, limit);
      credits = omega (arith, c, few, limit);
      aside = at_most (is_technical_account day a) (closing day a) (omega (arith, end));
    }
  where
    at_most : (b : Bool) (x : ℕ) → x ≤ most_of_day → (if b then x else 0) ≤ most_of_day
    at_most true x h = h
    at_most false x h = omega arith

-- ---- days

over_within : (amount : Day → ℕ) (days : List Day) → AllSettled days → ((day : Day) → IsSettled day → amount day ≤ most_of_day) → over amount days ≤ most_of_day * length days
over_within amount [] settled small = omega arith
over_within amount (day ∷ days) settled small =
    let here = small day settled.0 in
    let rest = over_within amount days settled.1 small in
    omega (arith, here, rest)

opening_within : (days : List Day) (a : ℕ) → AllSettled days → first_opening days a ≤ most_of_day
opening_within [] a settled = omega arith
opening_within (day ∷ []) a settled = (small_day day settled.0 a).opening
opening_within (day ∷ last ∷ days) a settled = opening_within (last ∷ days) a settled.1

within : (days : List Day) → AllSettled days → length days ≤ most_days → (a : ℕ) → IsWithin (sums_of days a)
unfolding sums_of
within days settled few a =
    let opening = opening_within days a settled in
    let debits = over_within (λ day. debited (plain day) a) days settled (λ day s. (small_day day s a).debits) in
    let credits = over_within (λ day. credited (plain day) a) days settled (λ day s. (small_day day s a).credits) in
    let aside = over_within (λ day. set_aside day a) days settled (λ day s. (small_day day s a).aside) in
    record {
      opening = omega (arith, opening);
      debits = omega (arith, debits, few);
      credits = omega (arith, credits, few);
      aside = omega (arith, aside, few);
      incoming = omega (arith, opening, credits, few);
      outgoing = omega (arith, debits, aside, few);
      closing = omega (arith, opening, credits, few);
    }

years_within : (years : List (List Day)) → AllSettled (all_days years) → length (all_days years) ≤ most_days → AreWithin years
years_within [] settled few = tt
years_within (days ∷ years) settled few =
    let parts = settled_parts days (all_days years) settled in
    let long = length-append days (all_days years) in
    (within days parts.0 (omega (arith, long, few)), years_within years parts.1 (omega (arith, long, few)))

pub all_within : (told : List Day) → AllSettled told → length told ≤ most_days → AreWithin (by_year told)
all_within told settled few =
    let whole = again told in
    let long = ap length whole in
    years_within (by_year told) (subst AllSettled (sym whole) settled) (omega (arith, long, few))
