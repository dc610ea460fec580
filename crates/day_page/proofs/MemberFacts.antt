-- How often each account is a member, and what moves do to the members by that.
use Rattle.std.proofs.Common.{◌≡◌, ◌∙◌, ℕ, zero, suc, ◌+◌, ◌*◌, ◌≤◌, ◌<◌, inl, inr, Bool, true, false, List, [], ◌∷◌, length, take, get_or, replicate, map, ap, sym, refl, arith, if◌then◌else◌}
use Rattle.std.specs.Prelude.{nat_eq, slice_index, sum_by}
use Rattle.std.specs.List.{range_with_len}
use Rattle.std.proofs.Math.Nat.{min-eq_left}
use Rattle.std.proofs.lemmas.Bool.{cases_lt, eq-eqb, ne_eqb}
use Rattle.std.proofs.lemmas.List.{length-replicate}
use Rattle.std.proofs.lemmas.List.FromFn.{get_or-map-range_with_len, length-map-range_with_len}
use Rattle.std.proofs.lemmas.List.Sums.{count_by-le-length, sum_by-cons, sum_by-take-le, sum_by_more}
use Rattle.batch_records.specs.DayRecord.{Day}
use Rattle.commit_journal.specs.declared.line.Move.{Move}
use Rattle.commit_journal.specs.Line.{Line, History}
use Rattle.machine.specs.Legal.{IsLegal}
use Rattle.day_facts.specs.Lists.{change_at}
use Rattle.day_facts.proofs.Lists.{change_map}
use Rattle.day_page.specs.Courses.{total}
use Rattle.day_page.specs.Members.{AreCounts, brought, counted, once_more, taken, times}
use Rattle.day_page.specs.Running.{came_to, credit_of, debit_of, left_from}
use Rattle.day_page.proofs.Totals.{moved}

-- ---- the table

zeros : (s count : ℕ) → replicate {A = ℕ} count 0 ≡ map (times []) (range_with_len s count)
zeros s zero = refl
zeros s (suc count) = ap (λ (xs : List ℕ). 0 ∷ xs) (zeros (s + 1) count)

pub none_counted : (count : ℕ) (xs : List ℕ) → xs ≡ replicate count 0 → xs ≡ counted [] (length xs)
none_counted count xs are =
    let many : length xs ≡ count = ap length are ∙ length-replicate count 0 in
    are ∙ zeros 0 count ∙ ap (counted []) (sym many)

times_small : (members : List ℕ) (i a : ℕ) → times (take i members) a ≤ length members
times_small members i a =
    let part = sum_by-take-le (λ b. if nat_eq a b then 1 else 0) members i in
    let all = count_by-le-length (nat_eq a) members in
    omega (arith, part, all)

-- one member more
times_more : (members : List ℕ) (i a : ℕ) (b : Bool) → i < length members → nat_eq a (get_or members i 0) ≡ b → times (take (i + 1) members) a ≡ times (take i members) a + (if b then 1 else 0)
times_more members i a b inside same =
    sum_by_more (λ x. if nat_eq a x then 1 else 0) members i 0 inside ∙ ap (λ (d : Bool). times (take i members) a + (if d then 1 else 0)) same

pub count_more : (members : List ℕ) (i count : ℕ) (old new : List ℕ) → i < length members → length members ≤ 4096 → old ≡ counted (take i members) count
    → new ≡ change_at (slice_index members i) once_more old → new ≡ counted (take (i + 1) members) count
count_more members i count old new inside few known made =
    let n = get_or members i 0 in
    let small = times_small members i (0 + n) in
    let here : 0 + n ≡ n = omega arith in
    made ∙ ap (change_at n once_more) known
    ∙ change_map once_more (times (take i members)) (times (take (i + 1) members)) 0 n count
    (min-eq_left (omega (arith, small, few)) ∙ sym (times_more members i (0 + n) true inside (eq-eqb (0 + n) n here)))
    (λ j other. (let e : times (take i members) j ≡ times (take i members) j + 0 = omega arith in e) ∙ sym (times_more members i j false inside (ne_eqb j n (λ same. other (same ∙ sym here)))))

never : (members : List ℕ) (a : ℕ) → ((i : ℕ) → i < length members → slice_index members i < a) → times members a ≡ 0
never [] a below = refl
never (b ∷ rest) a below =
    let one : b < a = below 0 (omega arith) in
    let c : times (b ∷ rest) a ≡ (if nat_eq a b then 1 else 0) + times rest a = sum_by-cons (λ x. if nat_eq a x then 1 else 0) b rest in
    let others : times rest a ≡ 0 = never rest a (λ i l. below (suc i) (omega (arith, l))) in
    let differs : nat_eq a b ≡ false = ne_eqb a b (λ e. omega (arith, one, e)) in
    c ∙ (λ i. (if differs i then 1 else 0) + others i)

past : (xs : List ℕ) (i : ℕ) → length xs ≤ i → get_or xs i 0 ≡ 0
past [] i l = refl
past (x ∷ xs) zero l = absurd (omega (arith, l))
past (x ∷ xs) (suc i) l = past xs i (omega (arith, l))

-- so many accounts have all members among them
pub are_counts : (members counts : List ℕ) (count : ℕ) → counts ≡ counted members count → ((i : ℕ) → i < length members → slice_index members i < count) → AreCounts members counts
are_counts members counts count are within a = elim (cases_lt a count) [
  | inl low ↦ ap (λ (xs : List ℕ). slice_index xs a) are ∙ get_or-map-range_with_len (times members) 0 count a a 0 low (omega arith)
  | inr high ↦
      let long : length counts ≡ count = ap length are ∙ length-map-range_with_len (times members) 0 count in
      past counts a (omega (arith, long, high)) ∙ sym (never members a (λ i l. let w = within i l in omega (arith, w, high)))
]

pub counts_small : (members counts : List ℕ) → AreCounts members counts → length members ≤ 4096 → (a : ℕ) → slice_index counts a ≤ 4096
counts_small members counts are few a =
    let is = are a in
    let all = count_by-le-length (nat_eq a) members in
    omega (arith, is, all, few)

-- ---- what moves do to the members

sum_both : (f g : ℕ → ℕ) (xs : List ℕ) → sum_by (λ x. f x + g x) xs ≡ sum_by f xs + sum_by g xs
sum_both f g [] = refl
sum_both f g (x ∷ xs) =
    let both = sum_by-cons (λ x. f x + g x) x xs in
    let one = sum_by-cons f x xs in
    let other = sum_by-cons g x xs in
    let rest = sum_both f g xs in
    omega (arith, both, one, other, rest)

nothing : (members : List ℕ) → sum_by (λ (a : ℕ). 0) members ≡ 0
nothing [] = refl
nothing (a ∷ rest) = let c = sum_by-cons (λ (x : ℕ). 0) a rest in let r = nothing rest in omega (arith, c, r)

-- an amount at one account
each_time : (amount n : ℕ) (members : List ℕ) → sum_by (λ a. if nat_eq n a then amount else 0) members ≡ amount * times members n
each_time amount n [] = omega arith
each_time amount n (a ∷ rest) =
    let all = sum_by-cons (λ x. if nat_eq n x then amount else 0) a rest in
    let many = sum_by-cons (λ x. if nat_eq n x then 1 else 0) a rest in
    let others : sum_by (λ x. if nat_eq n x then amount else 0) rest ≡ amount * times rest n = each_time amount n rest in
    all ∙ (λ i. (if nat_eq n a then amount else 0) + others i) ∙ by (nat_eq n a) (times rest n) ∙ ap (λ k. amount * k) (sym many)
  where
    by : (b : Bool) (k : ℕ) → (if b then amount else 0) + amount * k ≡ amount * ((if b then 1 else 0) + k)
    by true k = omega arith
    by false k = omega arith

pub all_came : (members counts : List ℕ) (ms : List Move) → AreCounts members counts → sum_by (brought counts) ms ≡ sum_by (came_to ms) members
unfolding came_to
all_came members counts [] are = sym (nothing members)
all_came members counts (m ∷ ms) are =
    let one : sum_by (λ a. credit_of a m) members ≡ m.amount * times members m.credit = each_time m.amount m.credit members in
    let is : brought counts m ≡ m.amount * times members m.credit = ap (λ k. m.amount * k) (are m.credit) in
    let rest : sum_by (brought counts) ms ≡ sum_by (came_to ms) members = all_came members counts ms are in
    let c : sum_by (brought counts) (m ∷ ms) ≡ brought counts m + sum_by (brought counts) ms = sum_by-cons (brought counts) m ms in
    let both : sum_by (λ a. credit_of a m + came_to ms a) members ≡ sum_by (λ a. credit_of a m) members + sum_by (came_to ms) members = sum_both (λ a. credit_of a m) (came_to ms) members in
    let all : sum_by (came_to (m ∷ ms)) members ≡ sum_by (λ a. credit_of a m + came_to ms a) members = λ i. sum_by (λ a. sum_by-cons (credit_of a) m ms i) members in
    omega (arith, one, is, rest, c, both, all)

pub all_left : (members counts : List ℕ) (ms : List Move) → AreCounts members counts → sum_by (taken counts) ms ≡ sum_by (left_from ms) members
unfolding left_from
all_left members counts [] are = sym (nothing members)
all_left members counts (m ∷ ms) are =
    let one : sum_by (λ a. debit_of a m) members ≡ m.amount * times members m.debit = each_time m.amount m.debit members in
    let is : taken counts m ≡ m.amount * times members m.debit = ap (λ k. m.amount * k) (are m.debit) in
    let rest : sum_by (taken counts) ms ≡ sum_by (left_from ms) members = all_left members counts ms are in
    let c : sum_by (taken counts) (m ∷ ms) ≡ taken counts m + sum_by (taken counts) ms = sum_by-cons (taken counts) m ms in
    let both : sum_by (λ a. debit_of a m + left_from ms a) members ≡ sum_by (λ a. debit_of a m) members + sum_by (left_from ms) members = sum_both (λ a. debit_of a m) (left_from ms) members in
    let all : sum_by (left_from (m ∷ ms)) members ≡ sum_by (λ a. debit_of a m + left_from ms a) members = λ i. sum_by (λ a. sum_by-cons (debit_of a) m ms i) members in
    omega (arith, one, is, rest, c, both, all)

-- ---- what they hold after a line, and what it took: what they held before it, and what it brought

pub total_moved : (day : Day) (l : Line) (later J : History) (members counts : List ℕ) (held came gone : ℕ) → IsLegal day later → later ≡ l ∷ J → AreCounts members counts → held ≡ total day members J
    → came ≡ sum_by (brought counts) l.moves → gone ≡ sum_by (taken counts) l.moves → total day members later + gone ≡ held + came
total_moved day l later J members counts held came gone legal e are known brings takes =
    let after : total day members later + sum_by (left_from l.moves) members ≡ total day members J + sum_by (came_to l.moves) members = moved day l later J members legal e in
    let p : sum_by (brought counts) l.moves ≡ sum_by (came_to l.moves) members = all_came members counts l.moves are in
    let q : sum_by (taken counts) l.moves ≡ sum_by (left_from l.moves) members = all_left members counts l.moves are in
    omega (arith, after, p, q, known, brings, takes)
