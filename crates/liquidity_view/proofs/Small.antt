-- What a legal journal moves is far below what the sums can hold.
use Rattle.std.proofs.Common.{◌≡◌, ℕ, ◌+◌, ◌*◌, ◌^◌, ◌≤◌, ◌<◌, Bool, true, false, List, [], ◌∷◌, length, arith, if◌then◌else◌}
use Rattle.std.specs.Prelude.{sum_by}
use Rattle.std.proofs.lemmas.List.Sums.{sum_by-cons}
use Rattle.cash_amounts.specs.declared.cents.TheConstants.{MAX_CENTS}
use Rattle.batch_records.specs.DayRecord.{Day}
use Rattle.batch_records.specs.Sound.{is_sound}
use Rattle.commit_journal.specs.declared.line.Move.{Move}
use Rattle.commit_journal.specs.Line.{History}
use Rattle.commit_journal.specs.LineLaws.{FitMoves}
use Rattle.machine.specs.Orders.Bounds.{most_moves, move_limit, moved}
use Rattle.machine.specs.Legal.{IsLegal}
use Rattle.settlement_laws.proofs.DayEnd.MoveBound.{moved-bound}
use Rattle.settlement_laws.proofs.Base.SoundParts.{few_moves}
use Rattle.journal_replay.proofs.LinesFit.{line_fits}
use Rattle.liquidity_view.specs.declared.sides.Side.{Side}
use Rattle.liquidity_view.specs.Figures.{account_on, is_own, settled, share}
use Rattle.liquidity_view.specs.Views.{most_settled}

small_share : (side : Side) (day : Day) (name : List ℕ) (m : Move) → m.amount ≤ MAX_CENTS → share side day name m ≤ 10 ^ 18
small_share side day name m h = here (is_own day name (account_on side m))
  where
    here : (b : Bool) → (if b then m.amount else 0) ≤ 10 ^ 18
    here true = omega (arith, h)
    here false = omega arith

small_moves : (side : Side) (day : Day) (name : List ℕ) (ms : List Move) → FitMoves ms → sum_by (share side day name) ms ≤ 10 ^ 18 * length ms
small_moves side day name [] fit = omega arith
small_moves side day name (m ∷ ms) fit =
    let a : sum_by (share side day name) (m ∷ ms) ≡ share side day name m + sum_by (share side day name) ms = sum_by-cons (share side day name) m ms in
    let b : share side day name m ≤ 10 ^ 18 = small_share side day name m fit.0.amount_to in
    let c : sum_by (share side day name) ms ≤ 10 ^ 18 * length ms = small_moves side day name ms fit.1 in
    omega (arith, a, b, c)

settled_moved : (side : Side) (day : Day) (name : List ℕ) (J : History) → is_sound day ≡ true → IsLegal day J → settled side day name J ≤ 10 ^ 18 * moved J
unfolding settled
settled_moved side day name [] sound legal = omega arith
settled_moved side day name (l ∷ J) sound legal =
    let a : settled side day name J ≤ 10 ^ 18 * moved J = settled_moved side day name J sound legal.0 in
    let b : sum_by (share side day name) l.moves ≤ 10 ^ 18 * length l.moves = small_moves side day name l.moves (line_fits day sound J l legal).moves in
    omega (arith, a, b)

pub settled_small : (side : Side) (day : Day) (name : List ℕ) (J : History) → is_sound day ≡ true → IsLegal day J → settled side day name J ≤ most_settled
settled_small side day name J sound legal =
    let a : settled side day name J ≤ 10 ^ 18 * moved J = settled_moved side day name J sound legal in
    let b : moved J ≤ most_moves day = moved-bound day sound J legal in
    let c : most_moves day < move_limit = few_moves day sound in
    omega (arith, a, b, c)
