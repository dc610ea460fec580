-- Steps that append lines: what they keep, and that a bounded run of them has its end.
use Rattle.std.proofs.Common.{[], ◌∷◌, ◌++◌, ◌≡◌, ℕ, zero, suc, ◌+◌, ◌<◌, ◌≤◌, length, Bool, true, false, Option, Some, None, refl, sym, ap, ◌∙◌, subst, arith, ⊎_elim, add-one}
use Rattle.std.proofs.lemmas.Bool.{cases_Bool, cases_eq}
use Rattle.batch_records.specs.DayRecord.{Day}
use Rattle.batch_records.specs.Sound.{is_sound}
use Rattle.commit_journal.specs.declared.line.Want.{Want}
use Rattle.commit_journal.specs.Line.{Line, History}
use Rattle.commit_journal.specs.Histories.{Begins}
use Rattle.machine.specs.Making.Lines.{line_of}
use Rattle.machine.specs.Legal.{IsLegal}
use Rattle.machine.specs.Orders.Bounds.{left}
use Rattle.machine.specs.Orders.Order.{append, with_line, one_scan, until}
use Rattle.settlement_laws.proofs.Base.Induction.{want_of-line}
use Rattle.settlement_laws.proofs.DayEnd.LineBound.{length-bound}

-- K is J with lines added by the rules
pub record Grows (day : Day) (J K : History) : Type 0 where
  pub legal : IsLegal day J → IsLegal day K
  pub longer : length J ≤ length K
  pub same : length K ≡ length J → K ≡ J
  pub beginning : Begins J K

pub grows-none : (day : Day) (J : History) → Grows day J J
grows-none day J = record { legal = λ h. h; longer = omega arith; same = λ _. refl; beginning = ([], refl) }

append-assoc : (xs ys zs : History) → (xs ++ ys) ++ zs ≡ xs ++ (ys ++ zs)
append-assoc [] ys zs = refl
append-assoc (x ∷ xs) ys zs = ap (λ r. x ∷ r) (append-assoc xs ys zs)

joined : (J K L : History) → Begins J K → Begins K L → Begins J L
joined J K L f g = (g.0 ++ f.0, g.1 ∙ ap (λ M. g.0 ++ M) f.1 ∙ sym (append-assoc g.0 f.0 J))

pub grows-then : (day : Day) (J K L : History) → Grows day J K → Grows day K L → Grows day J L
grows-then day J K L f g =
    record {
      legal = λ h. g.legal (f.legal h);
      longer = omega (arith, f.longer, g.longer);
      same = λ e. g.same (omega (arith, e, f.longer, g.longer)) ∙ f.same (omega (arith, e, f.longer, g.longer));
      beginning = joined J K L f.beginning g.beginning;
    }

pub grows-append : (day : Day) (J : History) (w : Want) → Grows day J (append day J w)
unfolding append
grows-append day J w = go (line_of day J w) refl
  where
    go : (o : Option Line) → line_of day J w ≡ o → Grows day J (with_line o J)
    go None e = grows-none day J
    go (Some l) e = record { legal = λ h. (h, ap (line_of day J) (want_of-line day J w l e) ∙ e); longer = omega arith; same = λ n. absurd (omega (arith, n)); beginning = (l ∷ [], refl) }

-- nothing is appended exactly where there is no line
pub append-still : (day : Day) (J : History) (w : Want) → append day J w ≡ J → line_of day J w ≡ None
unfolding append
append-still day J w = go (line_of day J w)
  where
    go : (o : Option Line) → with_line o J ≡ J → o ≡ None
    go None e = refl
    go (Some l) e = let n : suc (length J) ≡ length J = ap length e in absurd (omega (arith, n))

pub grows-one_scan : (day : Day) (step : History → ℕ → History) → ((K : History) (n : ℕ) → Grows day K (step K n)) → (J : History) (n : ℕ) → Grows day J (one_scan step J n)
unfolding one_scan
grows-one_scan day step each J zero = grows-none day J
grows-one_scan day step each J (suc n) = grows-then day J (one_scan step J n) _ (grows-one_scan day step each J n) (each (one_scan step J n) n)

-- a one_scan that appends nothing appends nothing at any number
pub one_scan-still : (day : Day) (step : History → ℕ → History) → ((K : History) (n : ℕ) → Grows day K (step K n)) → (J : History) (n : ℕ) → length (one_scan step J n) ≡ length J → (k : ℕ) → k < n → step J k ≡ J
unfolding one_scan
one_scan-still day step each J zero e k l = absurd (omega arith)
one_scan-still day step each J (suc n) e k l =
    let before = grows-one_scan day step each J n in
    let last = each (one_scan step J n) n in
    let here : one_scan step J n ≡ J = before.same (omega (arith, e, before.longer, last.longer)) in
    let there : step (one_scan step J n) n ≡ one_scan step J n = last.same (omega (arith, e, before.longer, last.longer)) in
    ⊎_elim
    (λ (k_is : k ≡ n). subst (λ i. step J i ≡ J) (sym k_is) (subst (λ K. step K n ≡ K) here there))
    (λ (ne : k ≡ n → ⊥). one_scan-still day step each J n (omega (arith, e, before.longer, last.longer)) k (omega (arith, ne)))
    (cases_eq k n)

-- a test and a step of a run: where the test fails, the step appends a line
pub record Runs (day : Day) (stop : History → Bool) (step : History → History) : Type 0 where
  pub grows : (K : History) → Grows day K (step K)
  pub moves : (K : History) → IsLegal day K → stop K ≡ false → length K < length (step K)

-- one turn of a run
until-yes : (stop : History → Bool) (step : History → History) (fuel : ℕ) (J : History) → stop J ≡ true → until stop step (suc fuel) J ≡ J
unfolding until
until-yes stop step fuel J t = go (stop J) t
  where
    go : (b : Bool) → b ≡ true → elim b [ true ↦ J | false ↦ until stop step fuel (step J) ] ≡ J
    go true e = refl
    go false e = cc

until-no : (stop : History → Bool) (step : History → History) (fuel : ℕ) (J : History) → stop J ≡ false → until stop step (suc fuel) J ≡ until stop step fuel (step J)
unfolding until
until-no stop step fuel J t = go (stop J) t
  where
    go : (b : Bool) → b ≡ false → elim b [ true ↦ J | false ↦ until stop step fuel (step J) ] ≡ until stop step fuel (step J)
    go true e = cc
    go false e = refl

pub grows-until : (day : Day) (stop : History → Bool) (step : History → History) → ((K : History) → Grows day K (step K)) → (fuel : ℕ) (J : History) → Grows day J (until stop step fuel J)
unfolding until
grows-until day stop step each zero J = grows-none day J
grows-until day stop step each (suc fuel) J = go (grows-then day J (step J) _ (each J) (grows-until day stop step each fuel (step J))) (stop J)
  where
    go : Grows day J (until stop step fuel (step J)) → (b : Bool) → Grows day J (elim b [ true ↦ J | false ↦ until stop step fuel (step J) ])
    go h true = grows-none day J
    go h false = h

-- with a fuel of as many lines as are left, the test holds in the end
pub until-stops : (day : Day) → is_sound day ≡ true → (stop : History → Bool) (step : History → History) → Runs day stop step → (fuel : ℕ) (J : History) → IsLegal day J → left day J ≤ fuel → stop (until stop step fuel J) ≡ true
unfolding until
until-stops day sound stop step r zero J legal enough =
    ⊎_elim
    (λ (t : stop J ≡ true). t)
    (λ (f : stop J ≡ false). absurd (omega (arith, enough, r.moves J legal f, length-bound day sound (step J) ((r.grows J).legal legal))))
    (cases_Bool (stop J))
until-stops day sound stop step r (suc fuel) J legal enough =
    ⊎_elim
    (λ (t : stop J ≡ true). subst (λ K. stop K ≡ true) (sym (until-yes stop step fuel J t)) t)
    (λ (f : stop J ≡ false).
    subst (λ K. stop K ≡ true) (sym (until-no stop step fuel J f))
    (until-stops day sound stop step r fuel (step J) ((r.grows J).legal legal) (omega (arith, enough, r.moves J legal f))))
    (cases_Bool (stop J))

-- every fuel that suffices gives the same
pub until-same : (day : Day) → is_sound day ≡ true → (stop : History → Bool) (step : History → History) → Runs day stop step → (f g : ℕ) (J : History) → IsLegal day J → left day J ≤ f → left day J ≤ g → until stop step f J ≡ until stop step g J
unfolding until
until-same day sound stop step r zero zero J legal ef eg = refl
until-same day sound stop step r zero (suc g) J legal ef eg =
    ⊎_elim
    (λ (t : stop J ≡ true). sym (until-yes stop step g J t))
    (λ (n : stop J ≡ false). absurd (omega (arith, ef, r.moves J legal n, length-bound day sound (step J) ((r.grows J).legal legal))))
    (cases_Bool (stop J))
until-same day sound stop step r (suc f) zero J legal ef eg =
    ⊎_elim
    (λ (t : stop J ≡ true). until-yes stop step f J t)
    (λ (n : stop J ≡ false). absurd (omega (arith, eg, r.moves J legal n, length-bound day sound (step J) ((r.grows J).legal legal))))
    (cases_Bool (stop J))
until-same day sound stop step r (suc f) (suc g) J legal ef eg =
    ⊎_elim
    (λ (t : stop J ≡ true). until-yes stop step f J t ∙ sym (until-yes stop step g J t))
    (λ (n : stop J ≡ false).
    until-no stop step f J n
    ∙ until-same day sound stop step r f g (step J) ((r.grows J).legal legal) (omega (arith, ef, r.moves J legal n)) (omega (arith, eg, r.moves J legal n))
    ∙ sym (until-no stop step g J n))
    (cases_Bool (stop J))

-- a run without its fuel: where the test holds it is over
pub until-over : (stop : History → Bool) (step : History → History) (fuel : ℕ) (J : History) → stop J ≡ true → until stop step fuel J ≡ J
unfolding until
until-over stop step zero J t = refl
until-over stop step (suc fuel) J t = until-yes stop step fuel J t

-- and where it fails, it is the run from the next step on
pub until-next : (day : Day) → is_sound day ≡ true → (stop : History → Bool) (step : History → History) → Runs day stop step → (J : History) → IsLegal day J → stop J ≡ false → until stop step (left day J) J ≡ until stop step (left day (step J)) (step J)
unfolding until
until-next day sound stop step r J legal n =
    let legal' = (r.grows J).legal legal in
    let l = length-bound day sound (step J) legal' in
    until-same day sound stop step r (left day J) (suc (left day J)) J legal (omega arith) (omega arith)
    ∙ until-no stop step (left day J) J n
    ∙ until-same day sound stop step r (left day J) (left day (step J)) (step J) legal' (omega (arith, r.moves J legal n)) (omega arith)

pub one_scan-none : (step : History → ℕ → History) (J : History) → one_scan step J 0 ≡ J
unfolding one_scan
one_scan-none step J = refl

pub one_scan-more : (step : History → ℕ → History) (J : History) (n : ℕ) → one_scan step J (n + 1) ≡ step (one_scan step J n) n
unfolding one_scan
one_scan-more step J n = ap (one_scan step J) (add-one n)

-- a longer legal history has fewer lines left
pub left-falls : (day : Day) → is_sound day ≡ true → (J K : History) → IsLegal day K → length J < length K → left day K < left day J
left-falls day sound J K legal l = let b = length-bound day sound K legal in omega (arith, b, l)
