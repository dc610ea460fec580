-- The sums of a view over no lines, over one line more, and as figures.
use Rattle.std.proofs.Common.{◌≡◌, ◌∙◌, ℕ, zero, suc, ◌+◌, ◌-◌, ◌≤◌, true, List, [], ◌∷◌, length, drop, pos, ◌+ℤ◌, ◌-ℤ◌, refl, sym, ap, arith}
use Rattle.std.specs.Prelude.{sum_by}
use Rattle.std.proofs.lemmas.Int.{ints}
use Rattle.batch_records.specs.DayRecord.{Day}
use Rattle.batch_records.specs.Sound.{is_sound}
use Rattle.commit_journal.specs.declared.line.Move.{Move}
use Rattle.commit_journal.specs.Line.{Line, History}
use Rattle.machine.specs.Legal.{IsLegal}
use Rattle.liquidity_view.specs.declared.sides.Side.{Side}
use Rattle.liquidity_view.specs.declared.sides.Side.TheVariants as sides
use Rattle.liquidity_view.specs.declared.view.Figures.{Figures}
use Rattle.liquidity_view.specs.Figures.{begun_with, figures, position, queued, settled, share}
use Rattle.liquidity_view.specs.Views.{most_settled}
use Rattle.liquidity_view.proofs.Positions.{position_is}
use Rattle.liquidity_view.proofs.Small.{settled_small}

-- ---- no lines

pub none_settled : (side : Side) (day : Day) (name : List ℕ) → 0 ≡ settled side day name []
unfolding settled
none_settled side day name = refl

-- ---- one line more

more : (side : Side) (day : Day) (name : List ℕ) (l : Line) (J : History) → settled side day name J + sum_by (share side day name) l.moves ≡ settled side day name (l ∷ J)
unfolding settled
more side day name l J = refl

pub settled_more : (side : Side) (day : Day) (name : List ℕ) (later : History) (l : Line) (J : History) (moves : List Move) (before part : ℕ) → later ≡ l ∷ J → l.moves ≡ moves → before ≡ settled side day name J → part ≡ sum_by (share side day name) moves → before + part ≡ settled side day name later
settled_more side day name later l J moves before part e m b p =
    (λ i. b i + (p ∙ ap (sum_by (share side day name)) (sym m)) i) ∙ more side day name l J ∙ ap (settled side day name) (sym e)

pub settled_low : (side : Side) (day : Day) (name : List ℕ) (J : History) (sum : ℕ) → is_sound day ≡ true → IsLegal day J → sum ≡ settled side day name J → sum ≤ most_settled
settled_low side day name J sum sound legal e = let low : settled side day name J ≤ most_settled = settled_small side day name J sound legal in omega (arith, e, low)

-- a beginning of a legal journal is legal
legal_drop : (day : Day) (k : ℕ) (J : History) → IsLegal day J → IsLegal day (drop k J)
legal_drop day zero J legal = legal
legal_drop day (suc k) [] legal = tt
legal_drop day (suc k) (l ∷ J) legal = legal_drop day k J legal.0

pub legal_oldest : (day : Day) (i : ℕ) (J : History) → IsLegal day J → IsLegal day (drop (length J - i) J)
legal_oldest day i J legal = legal_drop day (length J - i) J legal

-- ---- figures

pub figures_are : (day : Day) (name : List ℕ) (J : History) (begun out into leaving coming : ℕ) → is_sound day ≡ true → IsLegal day J →
    begun ≡ begun_with day name → out ≡ settled sides.Out day name J → into ≡ settled sides.In day name J → leaving ≡ queued sides.Out day name J → coming ≡ queued sides.In day name J →
    ◌≡◌ {A = Figures} (record { out = pos out; into = pos into; queued_out = pos leaving; queued_in = pos coming; position = (pos begun +ℤ pos into) -ℤ pos out; projected = (((pos begun +ℤ pos into) -ℤ pos out) -ℤ pos leaving) +ℤ pos coming }) (figures day name J)
figures_are day name J begun out into leaving coming sound legal b o i l c = λ j. record {
  out = pos (o j);
  into = pos (i j);
  queued_out = pos (l j);
  queued_in = pos (c j);
  position = held j;
  projected = (held j -ℤ pos (l j)) +ℤ pos (c j);
}
  where
    whole : position day name J + out ≡ begun + into
    whole =
        let p : position day name J + settled sides.Out day name J ≡ begun_with day name + settled sides.In day name J = position_is day name J sound legal in
        omega (arith, p, b, o, i)

    held : (pos begun +ℤ pos into) -ℤ pos out ≡ pos (position day name J)
    held = omega (arith, ints, whole)
