-- What a party's own statuses bring to its accounts, and take from them, is what the journal does, and no account of its own
-- stands in the way.
use Rattle.std.proofs.Common.{◌≡◌, ◌∙◌, ◌≤◌, ◌+◌, ℕ, Bool, true, false, cond, List, ◌∷◌, None, refl, ap, arith}
use Rattle.std.specs.Prelude.{nat_eq, if◌then◌else◌}
use Rattle.std.proofs.lemmas.Bool.{le-ltb, ne_eqb}
use Rattle.cash_amounts.specs.declared.cents.TheConstants.{MAX_CENTS}
use Rattle.account_book.proofs.SoundLemmas.{same_names, own_name}
use Rattle.batch_records.specs.DayRecord.{Day}
use Rattle.batch_records.specs.Sound.{is_sound}
use Rattle.machine.specs.Words.{same_name, when}
use Rattle.machine.specs.Records.Setup.{opening, owner}
use Rattle.settlement_laws.proofs.Base.Lists.{never}
use Rattle.settlement_laws.proofs.Balances.MovesOfTheDay.{IsAccount}
use Rattle.status_messages.specs.declared.status.Status.{Status}
use Rattle.status_messages.specs.Statuses.{account_name, moved_on}
use Rattle.as_client.specs.declared.view.ViewFault.TheVariants as view_faults
use Rattle.as_client.specs.Views.{brought_by, fault_on, holding, is_addressed, taken_by, view_fault}
use Rattle.as_client.proofs.AccountNames.{names_tell, own_found}
use Rattle.as_client.proofs.Taking.{onto}

-- the statuses taken brought to each account of the party what came, and took from it what went
abbrev pub Shows : Day → List ℕ → List Status → (ℕ → ℕ) → (ℕ → ℕ) → Type 0
Shows day name ss came went = (a : ℕ) → owner day a ≡ name → (brought_by ss (account_name day a) ≡ came a) × (taken_by ss (account_name day a) ≡ went a)

-- what an amount that moves on account d adds on account a
abbrev pub adds : ℕ → ℕ → ℕ → ℕ
adds d amount a = if nat_eq d a then amount else 0

amount_on : (day : Day) → is_sound day ≡ true → (d a amount : ℕ) → IsAccount day d → (if same_name (account_name day d) (account_name day a) then amount else 0) ≡ adds d amount a
amount_on day sound d a amount h = ap (λ b. if b then amount else 0) (names_tell day sound d a h)

elsewhere : (day : Day) (name : List ℕ) (d a amount : ℕ) → same_name (owner day d) name ≡ false → owner day a ≡ name → adds d amount a ≡ 0
elsewhere day name d a amount other mine = ap (λ b. if b then amount else 0) (ne_eqb d a (λ e. never (same_name (owner day d) name) (ap (λ x. same_name (owner day x) name) e ∙ ap (λ n. same_name n name) mine ∙ own_name name) other))

-- ---- a debit

pub debit_shows : (day : Day) → is_sound day ≡ true → (name : List ℕ) (place : ℕ) (ss : List Status) (came went : ℕ → ℕ) (d amount : ℕ) → IsAccount day d → Shows day name ss came went
    → Shows day name (onto name (moved_on day place true d amount) ss) came (λ a. went a + adds d amount a)
unfolding brought_by taken_by
debit_shows day sound name place ss came went d amount h shows = here (same_name (owner day d) name) refl
  where
    here : (b : Bool) → same_name (owner day d) name ≡ b → Shows day name (cond b (moved_on day place true d amount ∷ ss) ss) came (λ a. went a + adds d amount a)
    here true e a mine =
        let s = shows a mine in
        let b : brought_by ss (account_name day a) ≡ came a = s.0 in
        let t : taken_by ss (account_name day a) ≡ went a = s.1 in
        let u : (if same_name (account_name day d) (account_name day a) then amount else 0) ≡ adds d amount a = amount_on day sound d a amount h in
        (omega (arith, b), omega (arith, t, u))
    here false e a mine =
        let s = shows a mine in
        let t : taken_by ss (account_name day a) ≡ went a = s.1 in
        let u : adds d amount a ≡ 0 = elsewhere day name d a amount e mine in
        (s.0, omega (arith, t, u))

pub credit_shows : (day : Day) → is_sound day ≡ true → (name : List ℕ) (place : ℕ) (ss : List Status) (came went : ℕ → ℕ) (d amount : ℕ) → IsAccount day d → Shows day name ss came went
    → Shows day name (onto name (moved_on day place false d amount) ss) (λ a. came a + adds d amount a) went
unfolding brought_by taken_by
credit_shows day sound name place ss came went d amount h shows = here (same_name (owner day d) name) refl
  where
    here : (b : Bool) → same_name (owner day d) name ≡ b → Shows day name (cond b (moved_on day place false d amount ∷ ss) ss) (λ a. came a + adds d amount a) went
    here true e a mine =
        let s = shows a mine in
        let b : brought_by ss (account_name day a) ≡ came a = s.0 in
        let t : taken_by ss (account_name day a) ≡ went a = s.1 in
        let u : (if same_name (account_name day d) (account_name day a) then amount else 0) ≡ adds d amount a = amount_on day sound d a amount h in
        (omega (arith, b, u), omega (arith, t))
    here false e a mine =
        let s = shows a mine in
        let t : brought_by ss (account_name day a) ≡ came a = s.0 in
        let u : adds d amount a ≡ 0 = elsewhere day name d a amount e mine in
        (omega (arith, t, u), s.1)

-- ---- it refuses neither

pub debit_passes : (day : Day) → is_sound day ≡ true → (name : List ℕ) (place : ℕ) (ss : List Status) (came went : ℕ → ℕ) (d amount : ℕ) → IsAccount day d → Shows day name ss came went
    → went d + amount ≤ opening day d + came d → is_addressed name (moved_on day place true d amount) ≡ true → view_fault day name ss (moved_on day place true d amount) ≡ None
unfolding view_fault
debit_passes day sound name place ss came went d amount h shows fits mine =
    ap (fault_on day ss true amount) (own_found day sound name d h mine) ∙ ap (λ b. when b (view_faults.Short (holding day ss d))) (le-ltb (holding day ss d) amount (
    let s = shows d (same_names (owner day d) name mine) in
    let b : brought_by ss (account_name day d) ≡ came d = s.0 in
    let t : taken_by ss (account_name day d) ≡ went d = s.1 in
    omega (arith, b, t, fits)))

pub credit_passes : (day : Day) → is_sound day ≡ true → (name : List ℕ) (place : ℕ) (ss : List Status) (came went : ℕ → ℕ) (d amount : ℕ) → IsAccount day d → Shows day name ss came went
    → went d ≤ opening day d + came d → (opening day d + came d) + amount ≤ MAX_CENTS + went d → is_addressed name (moved_on day place false d amount) ≡ true → view_fault day name ss (moved_on day place false d amount) ≡ None
unfolding view_fault
credit_passes day sound name place ss came went d amount h shows base fits mine =
    ap (fault_on day ss false amount) (own_found day sound name d h mine) ∙ ap (λ b. when b (view_faults.Past (holding day ss d))) (le-ltb MAX_CENTS (holding day ss d + amount) (
    let s = shows d (same_names (owner day d) name mine) in
    let b : brought_by ss (account_name day d) ≡ came d = s.0 in
    let t : taken_by ss (account_name day d) ≡ went d = s.1 in
    omega (arith, b, t, base, fits)))
