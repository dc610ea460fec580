-- The lines after some lines of a journal, told one after another.
use Rattle.std.proofs.Common.{◌≡◌, ◌∙◌, ◌+◌, ◌-◌, ◌<◌, ◌≤◌, ◌++◌, ℕ, zero, suc, Bool, true, false, List, [], ◌∷◌, Result, append_assoc, append-nil, subst, drop, length, refl, sym, ap, arith, length-drop}
use Rattle.std.specs.Prelude.{if◌then◌else◌, nat_le}
use Rattle.std.proofs.lemmas.Bool.{le-leb, lt-leb}
use Rattle.outside_io.specs.Calls.{Puts}
use Rattle.outside_io.specs.Pieces.{SinkState}
use Rattle.batch_records.specs.DayRecord.{Day}
use Rattle.commit_journal.specs.Histories.{oldest}
use Rattle.commit_journal.specs.Line.{History, Line}
use Rattle.commit_journal.specs.Text.{line_text}
use Rattle.status_messages.specs.StatusesAt.{newest_statuses, statuses_at}
use Rattle.status_messages.specs.Telling.{texts}
use Rattle.live_day.specs.Told.{told_at, told_behind, told_line, told_newest}

-- of the first i lines none stands after them
none_behind : (day : Day) (i : ℕ) (J : History) → length J ≤ i → told_behind day i J ≡ []
unfolding told_behind
none_behind day i [] few = refl
none_behind day i (l ∷ J) few = λ j. none_behind day i J (omega (arith, few)) j ++ no_line (nat_le i (length J)) (lt-leb i (length J) (omega (arith, few))) j
  where
    no_line : (b : Bool) → b ≡ false → (if b then told_line day J l else []) ≡ []
    no_line true e = cc e
    no_line false e = refl

-- what is told of a longer history, the newest line last
behind_newest : (day : Day) (i : ℕ) (l : Line) (J : History) → i ≤ length J → told_behind day i (l ∷ J) ≡ told_behind day i J ++ told_line day J l
unfolding told_behind
behind_newest day i l J few = ap (λ (b : Bool). told_behind day i J ++ (if b then told_line day J l else [])) (le-leb i (length J) few)

-- the history up to a place: a newest line on those before it
record Newest (J : History) (before : ℕ) : Type 0 where
  line : Line
  rest : History
  is : oldest J (before + 1) ≡ line ∷ rest
  older : oldest J before ≡ rest
  count : length rest ≡ before

newest_at : (J : History) (before : ℕ) → before < length J → Newest J before
newest_at [] before inside = absurd (omega (arith, inside))
newest_at (l ∷ J) before inside = by (length J - before) refl (newest_at J before)
  where
    by : (n : ℕ) → length J - before ≡ n → (before < length J → Newest J before) → Newest (l ∷ J) before
    by zero e more =
        let here : suc (length J) - (before + 1) ≡ 0 = omega (arith, e) in
        let next : suc (length J) - before ≡ suc zero = omega (arith, e, inside) in
        record {
          line = l;
          rest = J;
          is = ap (λ (n : ℕ). drop n (l ∷ J)) here;
          older = ap (λ (n : ℕ). drop n (l ∷ J)) next;
          count = omega (arith, e, inside);
        }
    by (suc n) e more =
        let deeper = more (omega (arith, e)) in
        let here : suc (length J) - (before + 1) ≡ suc (length J - (before + 1)) = omega (arith, e) in
        let next : suc (length J) - before ≡ suc (length J - before) = omega (arith, e) in
        record {
          line = deeper.line;
          rest = deeper.rest;
          is = ap (λ (n : ℕ). drop n (l ∷ J)) here ∙ deeper.is;
          older = ap (λ (n : ℕ). drop n (l ∷ J)) next ∙ deeper.older;
          count = deeper.count;
        }

-- so far none
pub behind_none : (day : Day) (i : ℕ) (J : History) → i ≤ length J → [] ≡ told_behind day i (oldest J i)
behind_none day i J few = let long = length-drop (length J - i) J in sym (none_behind day i (oldest J i) (omega (arith, long, few)))

pub behind_more : (day : Day) (i : ℕ) (J : History) (before : ℕ) → i ≤ before → before < length J → told_behind day i (oldest J before) ++ told_at day J (before + 1) ≡ told_behind day i (oldest J (before + 1))
behind_more day i J before few inside =
    let n = newest_at J before inside in
    let count = n.count in
    (λ j. told_behind day i (n.older j) ++ told_newest day (n.is j))
    ∙ sym (behind_newest day i n.line n.rest (omega (arith, count, few)))
    ∙ sym (ap (told_behind day i) n.is)

-- what is told of a history begins with what is told of its older lines
behind_split : (day : Day) (i k : ℕ) (J : History) → (rest : List ℕ) × (told_behind day i J ≡ told_behind day i (drop k J) ++ rest)
unfolding told_behind
behind_split day i zero J = ([], sym (append-nil (told_behind day i J)))
behind_split day i (suc k) [] = ([], refl)
behind_split day i (suc k) (l ∷ J) =
    let s = behind_split day i k J in
    let one : List ℕ = if nat_le i (length J) then told_line day J l else [] in
    (s.0 ++ one, ap (λ (t : List ℕ). t ++ one) s.1 ∙ append_assoc (told_behind day i (drop k J)) s.0 one)

pub behind_parts : (day : Day) (i : ℕ) (J : History) (before : ℕ) → i ≤ before → before < length J
    → (rest : List ℕ) × (told_behind day i (oldest J before) ++ (told_at day J (before + 1) ++ rest) ≡ told_behind day i J)
behind_parts day i J before few inside =
    let s = behind_split day i (length J - (before + 1)) J in (
      s.0,
      sym (append_assoc (told_behind day i (oldest J before)) (told_at day J (before + 1)) s.0)
          ∙ ap (λ (t : List ℕ). t ++ s.0) (behind_more day i J before few inside)
          ∙ sym s.1,
    )

pub behind_all : (day : Day) (i : ℕ) (J : History) (before : ℕ) → length J ≤ before → told_behind day i (oldest J before) ≡ told_behind day i J
behind_all day i J before all = let none : length J - before ≡ 0 = omega (arith, all) in ap (λ (n : ℕ). told_behind day i (drop n J)) none

-- ---- one line

-- the same text, as it is written elsewhere
pub puts_is : {T E : Type 0} (old new : SinkState) (text same : List ℕ) (result : Result T E) → text ≡ same → Puts old new text result → Puts old new same result
puts_is old new text same result is put = subst (λ (t : List ℕ). Puts old new t result) is put

-- the text of the line at a place, and its statuses
pub line_parts : (day : Day) (J : History) (place : ℕ) (l : Line) → 1 ≤ place → place ≤ length J → oldest J place ≡ l ∷ oldest J (place - 1) → line_text place l ++ texts (statuses_at day J place) ≡ told_at day J place
line_parts day J place l from to is =
    let number : place ≡ suc (length (oldest J (place - 1))) = let long = length-drop (length J - (place - 1)) J in omega (arith, long, from, to) in
    (λ i. line_text (number i) l ++ texts (newest_statuses day (is i))) ∙ ap (told_newest day) (sym is)
