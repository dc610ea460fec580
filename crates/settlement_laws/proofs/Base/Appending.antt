-- What an appended line leaves: there is room for it, and for the rest of the day after it.
use Rattle.std.proofs.Common.{◌≡◌, ◌-◌, ◌<◌, ◌≤◌, ◌∷◌, length, true, false, ap, sym, subst, arith}
use Rattle.std.proofs.lemmas.Bool.{not_from_true, and_left, and_right}
use Rattle.batch_records.specs.DayRecord.{Day}
use Rattle.batch_records.specs.Sound.{is_sound}
use Rattle.commit_journal.specs.declared.line.Want.{Want}
use Rattle.commit_journal.specs.Line.{History}
use Rattle.commit_journal.specs.Kept.{Kept}
use Rattle.machine.specs.Telling.History.{is_ended}
use Rattle.machine.specs.Making.Lines.{line_of, line_if, made, may}
use Rattle.machine.specs.Legal.{IsLegal}
use Rattle.machine.specs.Orders.Bounds.{moved}
use Rattle.machine.specs.Orders.Order.{append, with_line}
use Rattle.settlement_laws.specs.Fits.{Fits}
use Rattle.settlement_laws.proofs.Base.Induction.{line_of-made, made-legal}
use Rattle.settlement_laws.proofs.DayEnd.LineBound.{length-bound}
use Rattle.settlement_laws.proofs.DayEnd.MoveBound.{moved-bound}

pub append-made : (day : Day) (J : History) (w : Want) → is_ended J ≡ false → may day J w ≡ true → append day J w ≡ made day J w ∷ J
unfolding append
append-made day J w e m = ap (λ o. with_line o J) (line_of-made day J w e m)

pub append-ended : (day : Day) (J : History) (w : Want) → is_ended J ≡ true → append day J w ≡ J
unfolding append line_of
append-ended day J w e = ap (λ b. with_line (line_if b (made day J w)) J) (and_left _ _ (not_from_true _ e))

pub append-refused : (day : Day) (J : History) (w : Want) → may day J w ≡ false → append day J w ≡ J
unfolding append line_of
append-refused day J w m = ap (λ b. with_line (line_if b (made day J w)) J) (and_right _ _ m)

pub made-room : (day : Day) → is_sound day ≡ true → (j : Kept) (w : Want) → Fits day j → is_ended j.history ≡ false → may day j.history w ≡ true → 0 < j.room_for_lines
made-room day sound j w f e m =
    let b = length-bound day sound (made day j.history w ∷ j.history) (made-legal day j.history w f.legal e m) in
    let r = f.room_for_lines in
    omega (arith, b, r)

pub made-moves_room : (day : Day) → is_sound day ≡ true → (j : Kept) (w : Want) → Fits day j → is_ended j.history ≡ false → may day j.history w ≡ true → length (made day j.history w).moves ≤ j.room_for_moves
made-moves_room day sound j w f e m =
    let b = moved-bound day sound (made day j.history w ∷ j.history) (made-legal day j.history w f.legal e m) in
    let r = f.room_for_moves in
    omega (arith, b, r)

-- what a journal keeps once the line was pushed fits again
pub made-fits : (day : Day) → is_sound day ≡ true → (j k : Kept) (w : Want) → Fits day j → is_ended j.history ≡ false → may day j.history w ≡ true →
    k.history ≡ made day j.history w ∷ j.history → k.room_for_lines ≡ j.room_for_lines - 1 → k.room_for_moves ≡ j.room_for_moves - length (made day j.history w).moves → Fits day k
made-fits day sound j k w f e m h l n =
    let b = made-moves_room day sound j w f e m in
    let c = made-room day sound j w f e m in
    let r = f.room_for_lines in
    let s = f.room_for_moves in
    let lines : length k.history ≡ length (made day j.history w ∷ j.history) = ap length h in
    let had : moved k.history ≡ moved (made day j.history w ∷ j.history) = ap moved h in
    record {
      legal = subst (IsLegal day) (sym h) (made-legal day j.history w f.legal e m);
      room_for_lines = omega (arith, r, c, l, lines);
      room_for_moves = omega (arith, s, b, n, had);
    }
