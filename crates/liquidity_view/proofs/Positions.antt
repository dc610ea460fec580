-- What the accounts hold is what they began with, with all that came, less all that left.
use Rattle.std.proofs.Common.{◌≡◌, ◌∙◌, ℕ, ◌+◌, ◌≤◌, Bool, true, false, List, [], ◌∷◌, refl, sym, ap, subst, arith, if◌then◌else◌}
use Rattle.std.specs.Prelude.{nat_eq, sum_by}
use Rattle.std.proofs.lemmas.Bool.{eqb-true}
use Rattle.std.proofs.lemmas.List.Sums.{sum_by-cons}
use Rattle.batch_records.specs.DayRecord.{Day}
use Rattle.batch_records.specs.Sound.{is_sound}
use Rattle.commit_journal.specs.declared.line.Move.{Move}
use Rattle.commit_journal.specs.Line.{History}
use Rattle.machine.specs.Records.Setup.{account_numbers, opening}
use Rattle.machine.specs.Telling.Balances.{balance, credited, credits, debited, debits}
use Rattle.machine.specs.Legal.{IsLegal}
use Rattle.settlement_laws.proofs.Balances.CoveredMoves.{IsCovered, never_covered}
use Rattle.settlement_laws.proofs.Balances.Elsewhere.{line_moves}
use Rattle.settlement_laws.proofs.ProcedureA.NeverBelowZero.{never_below_zero}
use Rattle.settlement_laws.proofs.Base.Numbers.{at_number, sum_add, sum_at, sum_nothing, sum_same}
use Rattle.settlement_laws.proofs.Balances.MovesOfTheDay.{IsAccount, MovesInRange, SubsHaveDca}
use Rattle.settlement_laws.proofs.Base.Sound.{subs_have_dca}
use Rattle.liquidity_view.specs.declared.sides.Side.{Side}
use Rattle.liquidity_view.specs.declared.sides.Side.TheVariants as sides
use Rattle.liquidity_view.specs.Figures.{account_on, begun_with, is_own, position, settled, share}

-- ---- sums over the accounts of the name

abbrev chosen : Day → List ℕ → (ℕ → ℕ) → ℕ → ℕ
chosen day name f a = if is_own day name a then f a else 0

abbrev own_sum : Day → List ℕ → (ℕ → ℕ) → ℕ
own_sum day name f = sum_by (chosen day name f) (account_numbers day)

own_add : (day : Day) (name : List ℕ) (f g : ℕ → ℕ) → own_sum day name (λ a. f a + g a) ≡ own_sum day name f + own_sum day name g
own_add day name f g = sum_same _ _ (λ a. here (is_own day name a) (f a) (g a)) (account_numbers day) ∙ sum_add (chosen day name f) (chosen day name g) (account_numbers day)
  where
    here : (b : Bool) (x y : ℕ) → (if b then x + y else 0) ≡ (if b then x else 0) + (if b then y else 0)
    here true x y = refl
    here false x y = refl

own_same : (day : Day) (name : List ℕ) (f g : ℕ → ℕ) → ((a : ℕ) → f a ≡ g a) → own_sum day name f ≡ own_sum day name g
own_same day name f g h = sum_same _ _ (λ a. ap (λ x. if is_own day name a then x else 0) (h a)) (account_numbers day)

own_nothing : (day : Day) (name : List ℕ) → own_sum day name (λ a. 0) ≡ 0
own_nothing day name = sum_same _ (λ a. 0) (λ a. here (is_own day name a) 0) (account_numbers day) ∙ sum_nothing (account_numbers day)
  where
    here : (b : Bool) (z : ℕ) → (if b then z else z) ≡ z
    here true z = refl
    here false z = refl

-- ---- what moves bring to the accounts is what they bring to each of them

abbrev moved : Side → ℕ → List Move → ℕ
moved side a [] = 0
moved side a (m ∷ ms) = (if nat_eq (account_on side m) a then m.amount else 0) + moved side a ms

on_account : (side : Side) (day : Day) (m : Move) → IsAccount day m.debit × IsAccount day m.credit → IsAccount day (account_on side m)
on_account sides.Out day m r = r.0
on_account sides.In day m r = r.1

one_move : (side : Side) (day : Day) (name : List ℕ) (m : Move) → IsAccount day (account_on side m) → own_sum day name (at_number (account_on side m) m.amount) ≡ share side day name m
one_move side day name m h =
    sum_same (chosen day name (at_number b m.amount)) (at_number b (share side day name m)) (λ a. here a (nat_eq b a) refl (is_own day name a) refl) (account_numbers day)
    ∙ sum_at b (share side day name m) 1 h.0 day.accounts h.1 h.2
  where
    b : ℕ
    b = account_on side m

    here : (a : ℕ) (c : Bool) → nat_eq b a ≡ c → (d : Bool) → is_own day name a ≡ d → (if d then (if c then m.amount else 0) else 0) ≡ (if c then share side day name m else 0)
    here a true e true q = sym (ap (λ d. if d then m.amount else 0) (subst (λ x. is_own day name x ≡ true) (sym (eqb-true b a e)) q))
    here a true e false q = sym (ap (λ d. if d then m.amount else 0) (subst (λ x. is_own day name x ≡ false) (sym (eqb-true b a e)) q))
    here a false e true q = refl
    here a false e false q = refl

all_moves : (side : Side) (day : Day) (name : List ℕ) (ms : List Move) → MovesInRange day ms → own_sum day name (λ a. moved side a ms) ≡ sum_by (share side day name) ms
all_moves side day name [] r = own_nothing day name
all_moves side day name (m ∷ ms) r =
    own_add day name (at_number (account_on side m) m.amount) (λ a. moved side a ms)
    ∙ (λ i. one_move side day name m (on_account side day m r.0) i + all_moves side day name ms r.1 i)
    ∙ sym (sum_by-cons (share side day name) m ms)

is_credits : (a : ℕ) (ms : List Move) → moved sides.In a ms ≡ credits a ms
is_credits a [] = refl
is_credits a (m ∷ ms) = ap (λ x. (if nat_eq m.credit a then m.amount else 0) + x) (is_credits a ms)

is_debits : (a : ℕ) (ms : List Move) → moved sides.Out a ms ≡ debits a ms
is_debits a [] = refl
is_debits a (m ∷ ms) = ap (λ x. (if nat_eq m.debit a then m.amount else 0) + x) (is_debits a ms)

came : (day : Day) (name : List ℕ) (J : History) → SubsHaveDca day → IsLegal day J → own_sum day name (credited J) ≡ settled sides.In day name J
unfolding credited settled
came day name [] subs legal = own_nothing day name
came day name (l ∷ J) subs legal =
    own_add day name (credited J) (λ a. credits a l.moves)
    ∙ (λ i. came day name J subs legal.0 i + (own_same day name (λ a. credits a l.moves) (λ a. moved sides.In a l.moves) (λ a. sym (is_credits a l.moves)) ∙ all_moves sides.In day name l.moves (line_moves day l J subs legal)) i)

left : (day : Day) (name : List ℕ) (J : History) → SubsHaveDca day → IsLegal day J → own_sum day name (debited J) ≡ settled sides.Out day name J
unfolding debited settled
left day name [] subs legal = own_nothing day name
left day name (l ∷ J) subs legal =
    own_add day name (debited J) (λ a. debits a l.moves)
    ∙ (λ i. left day name J subs legal.0 i + (own_same day name (λ a. debits a l.moves) (λ a. moved sides.Out a l.moves) (λ a. sym (is_debits a l.moves)) ∙ all_moves sides.Out day name l.moves (line_moves day l J subs legal)) i)

pub position_is : (day : Day) (name : List ℕ) (J : History) → is_sound day ≡ true → IsLegal day J → position day name J + settled sides.Out day name J ≡ begun_with day name + settled sides.In day name J
position_is day name J sound legal =
    let subs : SubsHaveDca day = subs_have_dca day sound in
    let covered : IsCovered day J = never_covered day J (never_below_zero day J legal) in
    let a : own_sum day name (λ x. balance day J x + debited J x) ≡ own_sum day name (λ x. opening day x + credited J x) = own_same day name _ _ (λ x. exact x (covered x)) in
    let b : own_sum day name (λ x. balance day J x + debited J x) ≡ own_sum day name (balance day J) + own_sum day name (debited J) = own_add day name (balance day J) (debited J) in
    let c : own_sum day name (λ x. opening day x + credited J x) ≡ own_sum day name (opening day) + own_sum day name (credited J) = own_add day name (opening day) (credited J) in
    let d : own_sum day name (credited J) ≡ settled sides.In day name J = came day name J subs legal in
    let e : own_sum day name (debited J) ≡ settled sides.Out day name J = left day name J subs legal in
    omega (arith, a, b, c, d, e)
  where
    exact : (a : ℕ) → debited J a ≤ opening day a + credited J a → balance day J a + debited J a ≡ opening day a + credited J a
    exact a h = omega arith
