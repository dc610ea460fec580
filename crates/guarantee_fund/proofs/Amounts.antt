-- Sums of amounts of a sound day are small.
use Rattle.std.proofs.Common.{◌≡◌, ℕ, zero, suc, ◌+◌, ◌*◌, ◌^◌, ◌<◌, ◌≤◌, Bool, true, false, List, [], ◌∷◌, length, get_or, sym, ap, ◌∙◌, subst, if◌then◌else◌, arith}
use Rattle.std.specs.Prelude.{nat_lt}
use Rattle.std.specs.List.{list_all}
use Rattle.std.proofs.lemmas.Bool.{and_parts, ltb-true}
use Rattle.std.proofs.lemmas.List.Folds.{list_all-map}
use Rattle.batch_records.specs.DayRecord.{Day}
use Rattle.batch_records.specs.Sound.{is_amount, is_sound}
use Rattle.commit_journal.specs.declared.line.Move.{Move}
use Rattle.machine.specs.Records.Messages.{entries, move_of}
use Rattle.rule_book.specs.Moves.{entry_moves}
use Rattle.settlement_laws.proofs.ProcedureA.SettlesInTime.{sound_entries}

-- the element at a place passes what all pass
pub all_at : {X : Type 0} (test : X → Bool) (xs : List X) (i : ℕ) (x : X) → list_all test xs ≡ true → i < length xs → x ≡ get_or xs i x → test x ≡ true
all_at test [] i x h low is = absurd (omega arith)
all_at test (y ∷ ys) zero x h low is = ap test is ∙ (and_parts (test y) (list_all test ys) h).0
all_at test (y ∷ ys) (suc i) x h low is = all_at test ys i x (and_parts (test y) (list_all test ys) h).1 (omega arith) is

pub move_small : (day : Day) (n i : ℕ) (ms : List Move) (m : Move) → is_sound day ≡ true → ms ≡ entry_moves day n → i < length ms → m ≡ get_or ms i m → m.amount < 10 ^ 13
move_small day n i ms m sound listed low is =
    let small : list_all (λ (x : Move). is_amount x.amount) ms ≡ true =
    ap (list_all (λ (x : Move). is_amount x.amount)) listed ∙ list_all-map (λ (x : Move). is_amount x.amount) (move_of day) (entries day n) ∙ sound_entries day n sound in
    ltb-true m.amount (10 ^ 13) (and_parts (nat_lt 0 m.amount) (nat_lt m.amount (10 ^ 13)) (all_at (λ (x : Move). is_amount x.amount) ms i m small low is)).1

at_most : (b : Bool) (x m : ℕ) → x < m → (if b then x else 0) ≤ m
at_most true x m h = omega arith
at_most false x m h = omega arith

-- one term more, where each is below 10 ^ 13
pub small-next : (b : Bool) (sum i x y : ℕ) → sum ≤ 10 ^ 13 * i → x < 10 ^ 13 → y ≡ (if b then x else 0) → sum + y ≤ 10 ^ 13 * (i + 1)
small-next b sum i x y h small is =
    let m : (if b then x else 0) ≤ 10 ^ 13 = at_most b x (10 ^ 13) small in
    let k : y ≤ 10 ^ 13 = subst (λ z. z ≤ 10 ^ 13) (sym is) m in
    omega arith
