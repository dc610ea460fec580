-- What a place of a store tells, and where a walk over the lines comes to.
use Rattle.std.proofs.Common.{◌≡◌, ℕ, ◌+◌, ◌<◌, ◌≤◌, ◌^◌, true, false, List, [], ◌∷◌, length, take, drop, Some, None, sym, ap, subst, ◌∙◌, arith}
use Rattle.batch_records.specs.DayRecord.{Day}
use Rattle.batch_records.specs.Sound.{is_sound}
use Rattle.commit_journal.specs.Line.{Line, History}
use Rattle.machine.specs.Legal.{IsLegal}
use Rattle.settlement_laws.proofs.DayEnd.LineBound.{length-bound}
use Rattle.machine.specs.Orders.Bounds.{line_limit}
use Rattle.settlement_laws.proofs.Base.SoundParts.{few_lines}
use Rattle.journal_replay.specs.Verdicts.{next_line}
use Rattle.durable_day.specs.Bytes.{stored, next_stored, is_closed}
use Rattle.durable_day.specs.Entries.{IsText, NoTextFits}
use Rattle.durable_day.specs.Found.{IsFound, IsNext}
use Rattle.durable_day.specs.declared.reading.Entry.{Entry}
use Rattle.durable_day.specs.declared.reading.Entry.TheVariants as entries
use Rattle.durable_day.specs.declared.recovery.Found.TheVariants as founds
use Rattle.durable_day.proofs.AppendFacts.{stored_limit, stored_small}
use Rattle.durable_day.proofs.StoreFacts.{next_stored_is}
use Rattle.durable_day.proofs.WalkFacts.{IsWalked, as_long, inside_there, none_closed, none_fits, none_taken, one_longer, open_there, text_taken, walk_ends, walk_on}

module _ (day : Day) (sound : is_sound day ≡ true) (J : History) (legal : IsLegal day J) where
  -- ---- at one place

  pub text_is_next : (bytes text : List ℕ) (later : History) (count : ℕ) → IsText bytes text count → (l : Line) × (next_line day J (take count text) ≡ Some (l, [])) × (later ≡ l ∷ J) → IsNext day J bytes later (entries.Text count)
  text_is_next bytes text later count stands (l, h, is) = (l, text_taken day sound J legal bytes text count l stands h, is, inside_there bytes text count stands)

  pub text_is_none : (bytes text : List ℕ) (later : History) (count : ℕ) → IsText bytes text count → length text ≤ 2 ^ 22 → ((l : Line) → next_line day J (take count text) ≡ Some (l, []) → ⊥) → IsNext day J bytes later entries.Neither
  text_is_none bytes text later count stands room other = (open_there bytes text count stands, none_taken day sound J legal bytes text count stands room other)

  pub neither_is_none : (bytes text : List ℕ) (later : History) → 2 ^ 21 ≤ length text → (is_closed bytes ≡ false) × NoTextFits bytes text → IsNext day J bytes later entries.Neither
  neither_is_none bytes text later room (open_end, none) = (open_end, none_fits day sound J legal bytes text room none)

  -- ---- a walk

  -- it ends at a closed gate
  pub ends_closed : (seen : List ℕ) (later : History) (at lines : ℕ) → IsWalked day seen J at lines → (is_closed (drop at seen) ≡ true) × (later ≡ J) → IsFound day seen later (founds.Stands at)
  ends_closed seen later at lines so_far (shut, is) =
      let whole = walk_ends day seen J at lines so_far (none_closed day sound J legal (drop at seen) shut) in
      (ap (λ (f : History × List ℕ). is_closed f.1) whole ∙ shut, is ∙ sym (ap (λ (f : History × List ℕ). f.0) whole), so_far.at_is ∙ ap (λ (K : History). length (stored K)) (sym is))

  -- or where no line stands
  pub ends_foreign : (seen : List ℕ) (later : History) (at lines : ℕ) → IsWalked day seen J at lines → (is_closed (drop at seen) ≡ false) × (next_stored day J (drop at seen) ≡ None) → IsFound day seen later (founds.Foreign (lines + 1))
  ends_foreign seen later at lines so_far (open_end, none) =
      let whole = walk_ends day seen J at lines so_far none in
      (ap (λ (f : History × List ℕ). is_closed f.1) whole ∙ open_end, omega (arith, so_far.lines_are, ap (λ (f : History × List ℕ). length f.0) whole))

  -- ---- sizes

  few_so_far : length J < line_limit
  few_so_far = let few = length-bound day sound J legal in omega (arith, few, few_lines day sound)

  pub lines_small : (seen : List ℕ) (at lines : ℕ) → IsWalked day seen J at lines → lines < line_limit
  lines_small seen at lines so_far = let few = few_so_far in omega (arith, few, so_far.lines_are)

-- a line's end is within what a disk may have
pub place_small : (day : Day) → is_sound day ≡ true → (seen : List ℕ) (J later : History) (at lines count : ℕ) → IsLegal day J → IsWalked day seen J at lines → IsNext day J (drop at seen) later (entries.Text count) → at + (5 + count) ≤ stored_limit
place_small day sound seen J later at lines count legal so_far (l, h, is, inside) =
    let made = (next_stored_is day J (drop at seen) (l, drop (5 + count) (drop at seen)) h).made in
    let long = one_longer J l at count so_far.at_is (as_long day J (drop at seen) l count h inside) in
    let small = stored_small day sound (l ∷ J) (legal, made) in
    omega (arith, long, small)

-- what was read there is of the bytes that the walk began with
pub there : (day : Day) (J later : History) (at : ℕ) (xs ys : List ℕ) (entry same : Entry) → xs ≡ ys → entry ≡ same → IsNext day J (drop at xs) later entry → IsNext day J (drop at ys) later same
there day J later at xs ys entry same bytes is next = subst (λ (e : Entry). IsNext day J (drop at ys) later e) is (subst (λ (zs : List ℕ). IsNext day J (drop at zs) later entry) bytes next)

pub walks_on : (day : Day) (seen : List ℕ) (J later : History) (at lines count : ℕ) → IsWalked day seen J at lines → IsNext day J (drop at seen) later (entries.Text count) → IsWalked day seen later (at + (5 + count)) (lines + 1)
walks_on day seen J later at lines count so_far (l, h, is, inside) = walk_on day seen J later at lines count l so_far h is inside
