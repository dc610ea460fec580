-- What positions sum to, and the entries made of them.
use Rattle.std.proofs.Common.{◌≡◌, ℕ, zero, suc, ◌+◌, ◌*◌, ◌≤◌, Bool, true, false, not, cond, List, [], ◌∷◌, length, filter, Option, None, Some, ℤ, pos, negsuc, ◌+ℤ◌, ◌-ℤ◌, refl, ap, ◌∙◌, arith}
use Rattle.std.specs.Prelude.{sum_by, fold}
use Rattle.std.specs.List.{cons_option, list_all}
use Rattle.std.proofs.lemmas.Bool.{and_parts, leb-true}
use Rattle.std.proofs.lemmas.Int.{ints}
use Rattle.std.proofs.lemmas.List.{length-append}
use Rattle.std.proofs.lemmas.List.Sums.{sum_by-cons, sum_by-append}
use Rattle.batch_records.specs.declared.day.Entry.{Entry}
use Rattle.machine.specs.Stages.Intake.{amount_of}
use Rattle.as_client.specs.declared.trade.Position.{Position}
use Rattle.as_client.specs.Netting.{is_nought, is_open}
use Rattle.as_client.specs.BatchOf.{credit_of, credits_of, debit_of, debits_of, entries_of_positions, fits_an_entry, owed, owing, size, sum_of_positions}

pub nought_is : (z : ℤ) → is_nought z ≡ true → z ≡ pos 0
nought_is (pos zero) e = refl
nought_is (pos (suc n)) e = cc
nought_is (negsuc n) e = cc

abbrev pub total : List Position → ℤ
total [] = pos 0
total (p ∷ ps) = p.sum +ℤ total ps

sum_from : (z : ℤ) (ps : List Position) → fold (λ sum (p : Position). sum +ℤ p.sum) z ps ≡ z +ℤ total ps
sum_from z [] = omega (arith, ints)
sum_from z (p ∷ ps) = let rest = sum_from (z +ℤ p.sum) ps in rest ∙ omega (arith, ints)

pub sum_is_total : (ps : List Position) → sum_of_positions ps ≡ total ps
sum_is_total ps = sum_from (pos 0) ps ∙ omega (arith, ints)

-- positions of zero add nothing
pub total-open : (ps : List Position) → total (filter is_open ps) ≡ total ps
total-open [] = refl
total-open (p ∷ ps) = by (is_nought p.sum) refl (total-open ps)
  where
    by : (b : Bool) → is_nought p.sum ≡ b → total (filter is_open ps) ≡ total ps → total (cond (not b) (p ∷ filter is_open ps) (filter is_open ps)) ≡ p.sum +ℤ total ps
    by true e h = let nought = nought_is p.sum e in omega (arith, ints, nought, h)
    by false e h = ap (λ z. p.sum +ℤ z) h

abbrev pub all_owing : List Position → ℕ
all_owing ps = sum_by (λ (p : Position). owing p.sum) ps

abbrev pub all_owed : List Position → ℕ
all_owed ps = sum_by (λ (p : Position). owed p.sum) ps

parts : (z : ℤ) → z ≡ pos (owed z) -ℤ pos (owing z)
parts (pos n) = omega (arith, ints)
parts (negsuc n) = omega (arith, ints)

total-sides : (ps : List Position) → total ps ≡ pos (all_owed ps) -ℤ pos (all_owing ps)
total-sides [] = omega (arith, ints)
total-sides (p ∷ ps) =
    let own = parts p.sum in
    let rest = total-sides ps in
    let credits = sum_by-cons (λ (q : Position). owed q.sum) p ps in
    let debits = sum_by-cons (λ (q : Position). owing q.sum) p ps in
    omega (arith, ints, own, rest, credits, debits)

pub sum_is_sides : (ps : List Position) → sum_of_positions ps ≡ pos (all_owed ps) -ℤ pos (all_owing ps)
sum_is_sides ps = sum_is_total ps ∙ total-sides ps

-- ---- sums and numbers of entries

amount_in : Option Entry → ℕ
amount_in None = 0
amount_in (Some e) = e.amount

sum-more : (o : Option Entry) (es : List Entry) → sum_by amount_of (cons_option o es) ≡ amount_in o + sum_by amount_of es
unfolding amount_in
sum-more None es = omega arith
sum-more (Some e) es = sum_by-cons amount_of e es

debit_amount : (technical account : List ℕ) (z : ℤ) → amount_in (debit_of technical account z) ≡ owing z
unfolding amount_in
debit_amount technical account (pos n) = refl
debit_amount technical account (negsuc n) = refl

credit_amount : (technical account : List ℕ) (z : ℤ) → amount_in (credit_of technical account z) ≡ owed z
unfolding amount_in
credit_amount technical account (pos zero) = refl
credit_amount technical account (pos (suc n)) = refl
credit_amount technical account (negsuc n) = refl

pub debits_sum : (technical : List ℕ) (ps : List Position) → sum_by amount_of (debits_of technical ps) ≡ all_owing ps
debits_sum technical [] = refl
debits_sum technical (p ∷ ps) =
    let more = sum-more (debit_of technical p.account p.sum) (debits_of technical ps) in
    let own = debit_amount technical p.account p.sum in
    let rest = debits_sum technical ps in
    let whole = sum_by-cons (λ (q : Position). owing q.sum) p ps in
    omega (arith, more, own, rest, whole)

pub credits_sum : (technical : List ℕ) (ps : List Position) → sum_by amount_of (credits_of technical ps) ≡ all_owed ps
credits_sum technical [] = refl
credits_sum technical (p ∷ ps) =
    let more = sum-more (credit_of technical p.account p.sum) (credits_of technical ps) in
    let own = credit_amount technical p.account p.sum in
    let rest = credits_sum technical ps in
    let whole = sum_by-cons (λ (q : Position). owed q.sum) p ps in
    omega (arith, more, own, rest, whole)

pub entries_sum : (technical : List ℕ) (ps : List Position) → all_owing ps + all_owed ps ≡ sum_by amount_of (entries_of_positions technical ps)
entries_sum technical ps =
    let both = sum_by-append amount_of (debits_of technical ps) (credits_of technical ps) in
    let debits = debits_sum technical ps in
    let credits = credits_sum technical ps in
    omega (arith, both, debits, credits)

length-more : (o : Option Entry) (es : List Entry) → length (cons_option o es) ≤ suc (length es)
length-more None es = omega arith
length-more (Some e) es = omega arith

debits_count : (technical : List ℕ) (ps : List Position) → length (debits_of technical ps) ≤ length ps
debits_count technical [] = omega arith
debits_count technical (p ∷ ps) = omega (arith, length-more (debit_of technical p.account p.sum) (debits_of technical ps), debits_count technical ps)

credits_count : (technical : List ℕ) (ps : List Position) → length (credits_of technical ps) ≤ length ps
credits_count technical [] = omega arith
credits_count technical (p ∷ ps) = omega (arith, length-more (credit_of technical p.account p.sum) (credits_of technical ps), credits_count technical ps)

pub entries_count : (technical : List ℕ) (ps : List Position) → length (entries_of_positions technical ps) ≤ length ps + length ps
entries_count technical ps = simp length-append (omega (arith, debits_count technical ps, credits_count technical ps))

-- ---- the largest sums

pub small_debit : (z : ℤ) → owing z ≤ size z
small_debit (pos n) = omega arith
small_debit (negsuc n) = omega arith

pub small_credit : (z : ℤ) → owed z ≤ size z
small_credit (pos n) = omega arith
small_credit (negsuc n) = omega arith

small_sides : (ps : List Position) → list_all fits_an_entry ps ≡ true → (all_owing ps ≤ 9999999999999 * length ps) × (all_owed ps ≤ 9999999999999 * length ps)
small_sides [] e = (omega arith, omega arith)
small_sides (p ∷ ps) e =
    let both = and_parts (fits_an_entry p) (list_all fits_an_entry ps) e in
    let own = leb-true (size p.sum) 9999999999999 both.0 in
    let debit = small_debit p.sum in
    let credit = small_credit p.sum in
    let rest = small_sides ps both.1 in
    let credits = sum_by-cons (λ (q : Position). owed q.sum) p ps in
    let debits = sum_by-cons (λ (q : Position). owing q.sum) p ps in
    (omega (arith, own, debit, rest.0, debits), omega (arith, own, credit, rest.1, credits))

pub small_owing : (ps : List Position) → length ps ≤ 10000 → list_all fits_an_entry ps ≡ true → all_owing ps ≤ 100000000000000000
small_owing ps few sizes = let both = small_sides ps sizes in omega (arith, both.0)

pub small_owed : (ps : List Position) → length ps ≤ 10000 → list_all fits_an_entry ps ≡ true → all_owed ps ≤ 100000000000000000
small_owed ps few sizes = let both = small_sides ps sizes in omega (arith, both.1)
