-- The debit entries of a batch that pass a test of their numbers, one by one, by their moves.
use Rattle.std.proofs.Common.{◌≡◌, ℕ, ◌+◌, ◌<◌, Bool, true, false, ◌&&◌, List, [], ◌∷◌, ◌++◌, Option, length, take, get_or, refl, sym, ap, ◌∙◌, cond, if◌then◌else◌, arith}
use Rattle.std.specs.Prelude.{filter, map, sum_by}
use Rattle.std.specs.List.{enumerate_from}
use Rattle.std.proofs.lemmas.List.{take_all, map-append, length-map}
use Rattle.std.proofs.lemmas.List.Elements.{filter_more}
use Rattle.std.proofs.lemmas.List.FromFn.{length-enumerate_from, get_or-enumerate_from}
use Rattle.std.proofs.lemmas.List.Sums.{sum_by-append}
use Rattle.batch_records.specs.DayRecord.{Day}
use Rattle.batch_records.specs.declared.day.Entry.{Entry}
use Rattle.commit_journal.specs.declared.line.Move.{Move}
use Rattle.machine.specs.Stages.Intake.{amount_of}
use Rattle.machine.specs.Records.Messages.{entries, is_debit_entry, move_of, technical_of}
use Rattle.machine.specs.Making.Lines.{debit_entries_by}
use Rattle.rule_book.specs.Moves.{entry_moves, goes_to, moved_amount}
use Rattle.rule_book.proofs.MoveFacts.{map_moves, pays_is, sum_moves}

-- ---- by number

-- those of the first i
abbrev pub picked : Option ℕ → (ℕ → Bool) → List Move → ℕ → List Move
picked technical test ms i = map (λ (x : ℕ × Move). x.1) (filter (λ (x : ℕ × Move). goes_to technical x.1 && test x.0) (take i (enumerate_from 1 ms)))

pub mapped_one : {X Y : Type 0} (f : X → Y) (b : Bool) (x : X) → map f (cond b (x ∷ []) []) ≡ (if b then f x ∷ [] else [])
mapped_one f true x = refl
mapped_one f false x = refl

picked-next : (technical : Option ℕ) (pass : ℕ → Bool) (ms : List Move) (i : ℕ) (m : Move) → i < length ms → m ≡ get_or ms i m →
    picked technical pass ms (i + 1) ≡ picked technical pass ms i ++ (if goes_to technical m && pass (i + 1) then m ∷ [] else [])
picked-next technical pass ms i m low is =
    let xs : List (ℕ × Move) = enumerate_from 1 ms in
    let test : ℕ × Move → Bool = λ x. goes_to technical x.1 && pass x.0 in
    let within : i < length xs = omega (arith, length-enumerate_from 1 ms) in
    let number : 1 + i ≡ i + 1 = omega arith in
    let at : get_or xs i (0, m) ≡ (i + 1, m) = get_or-enumerate_from 1 ms i (0, m) low ∙ ap (λ (k : ℕ). (k, get_or ms i m)) number ∙ ap (λ (x : Move). (i + 1, x)) (sym is) in
    let same : cond (test (get_or xs i (0, m))) (get_or xs i (0, m) ∷ []) [] ≡ cond (test (i + 1, m)) ((i + 1, m) ∷ []) [] = ap (λ (x : ℕ × Move). cond (test x) (x ∷ []) []) at in
    let more : filter test (take (i + 1) xs) ≡ filter test (take i xs) ++ cond (test (i + 1, m)) ((i + 1, m) ∷ []) [] = filter_more test xs i (0, m) within ∙ ap (λ (ys : List (ℕ × Move)). filter test (take i xs) ++ ys) same in
    ap (λ (ys : List (ℕ × Move)). map (λ (x : ℕ × Move). x.1) ys) more
    ∙ map-append (λ (x : ℕ × Move). x.1) (filter test (take i xs)) (cond (test (i + 1, m)) ((i + 1, m) ∷ []) [])
    ∙ ap (λ (zs : List Move). picked technical pass ms i ++ zs) (mapped_one (λ (x : ℕ × Move). x.1) (test (i + 1, m)) (i + 1, m))

picked-all : (technical : Option ℕ) (pass : ℕ → Bool) (ms : List Move) (i : ℕ) → i ≡ length ms → picked technical pass ms i ≡ map (λ (x : ℕ × Move). x.1) (filter (λ (x : ℕ × Move). goes_to technical x.1 && pass x.0) (enumerate_from 1 ms))
picked-all technical pass ms i e =
    ap (λ (ys : List (ℕ × Move)). map (λ (x : ℕ × Move). x.1) (filter (λ (x : ℕ × Move). goes_to technical x.1 && pass x.0) ys))
    (take_all i (enumerate_from 1 ms) (omega (arith, e, length-enumerate_from 1 ms)))

-- ---- the moves of entries are those that entries have

one_more : (day : Day) (n : ℕ) (x : ℕ × Entry) (rest : List (ℕ × Move)) (others : List (ℕ × Entry)) → map (λ (y : ℕ × Move). y.1) rest ≡ map (move_of day) (map (λ (y : ℕ × Entry). y.1) others) → (b : Bool)
    → map (λ (y : ℕ × Move). y.1) (cond b ((x.0, move_of day x.1) ∷ rest) rest) ≡ map (move_of day) (map (λ (y : ℕ × Entry). y.1) (cond b (x ∷ others) others))
one_more day n x rest others h true = ap (λ (ms : List Move). move_of day x.1 ∷ ms) h
one_more day n x rest others h false = h

moves_are : (day : Day) (n s : ℕ) (test : ℕ → Bool) (es : List Entry) →
    map (λ (x : ℕ × Move). x.1) (filter (λ (x : ℕ × Move). goes_to (technical_of day n) x.1 && test x.0) (enumerate_from s (map (move_of day) es)))
    ≡ map (move_of day) (map (λ (x : ℕ × Entry). x.1) (filter (λ (x : ℕ × Entry). is_debit_entry day n x.1 && test x.0) (enumerate_from s es)))
moves_are day n s test [] = refl
moves_are day n s test (e ∷ es) =
    ap (λ (b : Bool). map (λ (x : ℕ × Move). x.1) (cond (b && test s) ((s, move_of day e) ∷ rest) rest)) (pays_is day n e)
    ∙ one_more day n (s, e) rest others (moves_are day n (s + 1) test es) (is_debit_entry day n e && test s)
  where
    rest : List (ℕ × Move)
    rest = filter (λ (x : ℕ × Move). goes_to (technical_of day n) x.1 && test x.0) (enumerate_from (s + 1) (map (move_of day) es))

    others : List (ℕ × Entry)
    others = filter (λ (x : ℕ × Entry). is_debit_entry day n x.1 && test x.0) (enumerate_from (s + 1) es)

pub picked_is : (day : Day) (n i : ℕ) (technical : Option ℕ) (pass : ℕ → Bool) (ms : List Move) → ms ≡ entry_moves day n → technical ≡ technical_of day n → i ≡ length ms
    → picked technical pass ms i ≡ map (move_of day) (debit_entries_by day n pass)
picked_is day n i technical pass ms listed own e =
    picked-all technical pass ms i e
    ∙ (λ j. map (λ (x : ℕ × Move). x.1) (filter (λ (x : ℕ × Move). goes_to (own j) x.1 && pass x.0) (enumerate_from 1 (listed j))))
    ∙ moves_are day n 1 pass (entries day n)

-- so many as there are entries
pub count : (day : Day) (n : ℕ) (ms : List Move) → ms ≡ entry_moves day n → length ms ≡ length (entries day n)
count day n ms e = ap length e ∙ length-map (entries day n) (move_of day)

-- ---- other moves that are made of them

pub moved-next : (f : Move → Move) (technical : Option ℕ) (pass : ℕ → Bool) (ms : List Move) (i : ℕ) (m : Move) → i < length ms → m ≡ get_or ms i m →
    map f (picked technical pass ms (i + 1)) ≡ map f (picked technical pass ms i) ++ (if goes_to technical m && pass (i + 1) then f m ∷ [] else [])
moved-next f technical pass ms i m low is =
    ap (map f) (picked-next technical pass ms i m low is)
    ∙ map-append f (picked technical pass ms i) (if goes_to technical m && pass (i + 1) then m ∷ [] else [])
    ∙ ap (λ (xs : List Move). map f (picked technical pass ms i) ++ xs) (mapped_one f (goes_to technical m && pass (i + 1)) m)

pub moved-all : (f : Move → Move) (day : Day) (n i : ℕ) (technical : Option ℕ) (pass : ℕ → Bool) (ms : List Move) → ms ≡ entry_moves day n → technical ≡ technical_of day n → i ≡ length ms
    → map f (picked technical pass ms i) ≡ map (λ e. f (move_of day e)) (debit_entries_by day n pass)
moved-all f day n i technical pass ms listed own e =
    ap (map f) (picked_is day n i technical pass ms listed own e) ∙ map_moves (move_of day) f (debit_entries_by day n pass)

-- ---- their amounts

pub sum_of_one : (b : Bool) (m : Move) → sum_by moved_amount (if b then m ∷ [] else []) ≡ (if b then m.amount else 0)
sum_of_one true m = omega arith
sum_of_one false m = refl

pub picked_sum-next : (technical : Option ℕ) (pass : ℕ → Bool) (ms : List Move) (i : ℕ) (m : Move) → i < length ms → m ≡ get_or ms i m →
    sum_by moved_amount (picked technical pass ms (i + 1)) ≡ sum_by moved_amount (picked technical pass ms i) + (if goes_to technical m && pass (i + 1) then m.amount else 0)
picked_sum-next technical pass ms i m low is =
    ap (sum_by moved_amount) (picked-next technical pass ms i m low is)
    ∙ sum_by-append moved_amount (picked technical pass ms i) (if goes_to technical m && pass (i + 1) then m ∷ [] else [])
    ∙ ap (λ (s : ℕ). sum_by moved_amount (picked technical pass ms i) + s) (sum_of_one (goes_to technical m && pass (i + 1)) m)

pub picked_sum-all : (day : Day) (n i : ℕ) (technical : Option ℕ) (pass : ℕ → Bool) (ms : List Move) → ms ≡ entry_moves day n → technical ≡ technical_of day n → i ≡ length ms
    → sum_by moved_amount (picked technical pass ms i) ≡ sum_by amount_of (debit_entries_by day n pass)
picked_sum-all day n i technical pass ms listed own e =
    ap (sum_by moved_amount) (picked_is day n i technical pass ms listed own e) ∙ sum_moves (move_of day) moved_amount (debit_entries_by day n pass)
