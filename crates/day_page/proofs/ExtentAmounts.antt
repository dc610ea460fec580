-- What the moves of a line leave of one account.
use Rattle.std.proofs.Common.{◌≡◌, ◌∙◌, ℕ, ◌+◌, ◌-◌, ◌^◌, ◌≤◌, Bool, true, false, ◌||◌, List, [], ◌∷◌, ap, sym, subst, refl, arith, if◌then◌else◌}
use Rattle.std.specs.Prelude.{min, nat_eq}
use Rattle.std.proofs.Math.Nat.{le-max_right, max-eq_left, min-eq_left, min-le_right}
use Rattle.commit_journal.specs.declared.line.Move.{Move}
use Rattle.machine.specs.Telling.Balances.{credits, debits}
use Rattle.day_page.specs.declared.extents.Extent.{Extent}
use Rattle.day_page.specs.Extents.{lowered, marked, raised}
use Rattle.day_page.proofs.MovedOne.{at_account, fall, rise, tick}

abbrev pub with_held : Extent → ℕ → Extent
with_held x held = record { held = held; lowest = x.lowest; highest = x.highest }

-- ---- what comes

pub risen : (ms : List Move) (a : ℕ) (x : Extent) → x.held + credits a ms ≤ 2 ^ 128 - 1 → rise ms a x ≡ with_held x (x.held + credits a ms)
unfolding rise
risen [] a x small = let e : x.held ≡ x.held + 0 = omega arith in ap (with_held x) e
risen (m ∷ ms) a x small = by (risen ms a) (nat_eq m.credit a) refl
  where
    by : ((y : Extent) → y.held + credits a ms ≤ 2 ^ 128 - 1 → rise ms a y ≡ with_held y (y.held + credits a ms)) → (b : Bool) → nat_eq m.credit a ≡ b → rise ms a (at_account m.credit (raised m.amount) a x) ≡ with_held x (x.held + ((if nat_eq m.credit a then m.amount else 0) + credits a ms))
    by more true e =
        let small' : x.held + (m.amount + credits a ms) ≤ 2 ^ 128 - 1 = subst (λ (b : Bool). x.held + ((if b then m.amount else 0) + credits a ms) ≤ 2 ^ 128 - 1) e small in
        let whole : min (x.held + m.amount) (2 ^ 128 - 1) ≡ x.held + m.amount = min-eq_left (omega (arith, small')) in
        let sum : x.held + m.amount + credits a ms ≡ x.held + (m.amount + credits a ms) = omega arith in
        ap (λ (b : Bool). rise ms a (if b then raised m.amount x else x)) e
        ∙ ap (λ h. rise ms a (with_held x h)) whole
        ∙ more (with_held x (x.held + m.amount)) (omega (arith, small'))
        ∙ ap (with_held x) sum
        ∙ ap (λ (b : Bool). with_held x (x.held + ((if b then m.amount else 0) + credits a ms))) (sym e)
    by more false e =
        let small' : x.held + (0 + credits a ms) ≤ 2 ^ 128 - 1 = subst (λ (b : Bool). x.held + ((if b then m.amount else 0) + credits a ms) ≤ 2 ^ 128 - 1) e small in
        let sum : x.held + credits a ms ≡ x.held + (0 + credits a ms) = omega arith in
        ap (λ (b : Bool). rise ms a (if b then raised m.amount x else x)) e
        ∙ more x (omega (arith, small'))
        ∙ ap (with_held x) sum
        ∙ ap (λ (b : Bool). with_held x (x.held + ((if b then m.amount else 0) + credits a ms))) (sym e)

-- ---- what leaves

pub fallen : (ms : List Move) (a : ℕ) (x : Extent) → fall ms a x ≡ with_held x (x.held - debits a ms)
unfolding fall
fallen [] a x = let e : x.held ≡ x.held - 0 = omega arith in ap (with_held x) e
fallen (m ∷ ms) a x = by (fallen ms a) (nat_eq m.debit a) refl
  where
    by : ((y : Extent) → fall ms a y ≡ with_held y (y.held - debits a ms)) → (b : Bool) → nat_eq m.debit a ≡ b → fall ms a (at_account m.debit (lowered m.amount) a x) ≡ with_held x (x.held - ((if nat_eq m.debit a then m.amount else 0) + debits a ms))
    by more true e =
        let sum : x.held - m.amount - debits a ms ≡ x.held - (m.amount + debits a ms) = omega arith in
        ap (λ (b : Bool). fall ms a (if b then lowered m.amount x else x)) e
        ∙ more (lowered m.amount x)
        ∙ ap (with_held x) sum
        ∙ ap (λ (b : Bool). with_held x (x.held - ((if b then m.amount else 0) + debits a ms))) (sym e)
    by more false e =
        let sum : x.held - debits a ms ≡ x.held - (0 + debits a ms) = omega arith in
        ap (λ (b : Bool). fall ms a (if b then lowered m.amount x else x)) e
        ∙ more x
        ∙ ap (with_held x) sum
        ∙ ap (λ (b : Bool). with_held x (x.held - ((if b then m.amount else 0) + debits a ms))) (sym e)

-- ---- the lowest and the highest

marked_again : (x : Extent) → marked (marked x) ≡ marked x
marked_again x = λ i. record { held = x.held; lowest = min-eq_left (min-le_right x.lowest x.held) i; highest = max-eq_left (le-max_right x.highest x.held) i }

at_marked : (n a : ℕ) (x : Extent) → at_account n marked a (marked x) ≡ marked x
at_marked n a x = by (nat_eq n a)
  where
    by : (b : Bool) → (if b then marked (marked x) else marked x) ≡ marked x
    by true = marked_again x
    by false = refl

tick_marked : (ms : List Move) (a : ℕ) (x : Extent) → tick ms a (marked x) ≡ marked x
unfolding tick
tick_marked [] a x = refl
tick_marked (m ∷ ms) a x =
    ap (λ y. tick ms a (at_account m.credit marked a y)) (at_marked m.debit a x)
    ∙ ap (tick ms a) (at_marked m.credit a x)
    ∙ tick_marked ms a x

abbrev touched : List Move → ℕ → Bool
touched [] a = false
touched (m ∷ ms) a = nat_eq m.debit a || (nat_eq m.credit a || touched ms a)

pub ticked : (ms : List Move) (a : ℕ) (x : Extent) → (touched ms a ≡ false → marked x ≡ x) → tick ms a x ≡ marked x
unfolding tick
ticked [] a x same = sym (same refl)
ticked (m ∷ ms) a x same = by (ticked ms a x) (nat_eq m.debit a) (nat_eq m.credit a) refl refl
  where
    by : ((touched ms a ≡ false → marked x ≡ x) → tick ms a x ≡ marked x) → (b c : Bool) → nat_eq m.debit a ≡ b → nat_eq m.credit a ≡ c → tick ms a (at_account m.credit marked a (at_account m.debit marked a x)) ≡ marked x
    by more true c e f =
        ap (λ (d : Bool). tick ms a (at_account m.credit marked a (if d then marked x else x))) e ∙ ap (tick ms a) (at_marked m.credit a x) ∙ tick_marked ms a x
    by more false true e f =
        ap (λ (d : Bool). tick ms a (at_account m.credit marked a (if d then marked x else x))) e
        ∙ ap (λ (d : Bool). tick ms a (if d then marked x else x)) f ∙ tick_marked ms a x
    by more false false e f =
        ap (λ (d : Bool). tick ms a (at_account m.credit marked a (if d then marked x else x))) e
        ∙ ap (λ (d : Bool). tick ms a (if d then marked x else x)) f
        ∙ more (λ none. same ((λ i. e i || (f i || touched ms a)) ∙ none))

untouched : (ms : List Move) (a : ℕ) → touched ms a ≡ false → (credits a ms ≡ 0) × (debits a ms ≡ 0)
untouched [] a none = (refl, refl)
untouched (m ∷ ms) a none = by (untouched ms a) (nat_eq m.debit a) (nat_eq m.credit a) refl refl none
  where
    by : (touched ms a ≡ false → (credits a ms ≡ 0) × (debits a ms ≡ 0)) → (b c : Bool) → nat_eq m.debit a ≡ b → nat_eq m.credit a ≡ c → (b || (c || touched ms a)) ≡ false → (credits a (m ∷ ms) ≡ 0) × (debits a (m ∷ ms) ≡ 0)
    by more true c e f h = cc
    by more false true e f h = cc
    by more false false e f h =
        let rest = more h in
        let p = rest.0 in
        let q = rest.1 in
        (ap (λ (d : Bool). (if d then m.amount else 0) + credits a ms) f ∙ omega (arith, p), ap (λ (d : Bool). (if d then m.amount else 0) + debits a ms) e ∙ omega (arith, q))

-- what a line leaves of an account that held so much before it, within these bounds
pub left : (ms : List Move) (a : ℕ) (x : Extent) → x.held + credits a ms ≤ 2 ^ 128 - 1 → x.lowest ≤ x.held → x.held ≤ x.highest
    → tick ms a (fall ms a (rise ms a x)) ≡ marked (with_held x (x.held + credits a ms - debits a ms))
left ms a x small low high =
    ap (λ y. tick ms a (fall ms a y)) (risen ms a x small)
    ∙ ap (tick ms a) (fallen ms a (with_held x (x.held + credits a ms)))
    ∙ ticked ms a (with_held x (x.held + credits a ms - debits a ms)) (λ none.
    let parts = untouched ms a none in
    let c = parts.0 in
    let d = parts.1 in
    let same : x.held + credits a ms - debits a ms ≡ x.held = omega (arith, c, d) in
    let below : x.lowest ≤ x.held + credits a ms - debits a ms = omega (arith, same, low) in
    let above : x.held + credits a ms - debits a ms ≤ x.highest = omega (arith, same, high) in
    λ i. record { held = x.held + credits a ms - debits a ms; lowest = min-eq_left below i; highest = max-eq_left above i })
