-- A set whose bound rises.
use Rattle.std.proofs.Common.{◌≡◌, ◌∙◌, ℕ, ◌+◌, ◌-◌, ◌<◌, ◌≤◌, Bool, false, List, ◌++◌, Option, Some, None, length, replicate, slice_set, sym, subst, ⊎_elim, arith, ◌≢◌, get_or, get_or-set_same, get_or-set_other}
use Rattle.std.proofs.lemmas.Bool.{cases_eq, cases_lt, false≢true}
use Rattle.std.proofs.lemmas.List.{ext_get_or, get_or_append_left, get_or_past, get_or-append_right, get_or-replicate, length-append, length-replicate, length-set}
use Rattle.std.proofs.lemmas.List.FromFn.{get_or-map-range_with_len, length-map-range_with_len}
use Rattle.std.specs.Prelude.{IfSome}
use Rattle.number_set.specs.Members.{flags, has}
use Rattle.number_set.specs.Next.{IsNext}

pub length-flags : (test : ℕ → Bool) (bound : ℕ) → length (flags test bound) ≡ bound
length-flags test bound = length-map-range_with_len test 0 bound

pub has-flags : (test : ℕ → Bool) (bound n : ℕ) → n < bound → has (flags test bound) n ≡ test n
has-flags test bound n below = get_or-map-range_with_len test 0 bound n n false below (omega arith)

pub has-flags_past : (test : ℕ → Bool) (bound n : ℕ) → bound ≤ n → has (flags test bound) n ≡ false
has-flags_past test bound n past =
    let len : length (flags test bound) ≡ bound = length-flags test bound in
    get_or_past (flags test bound) n false (omega (arith, len, past))

-- ---- a bound that rises

-- the same numbers are members, where none from the bound on is
pub has_all : (numbers : List Bool) (count : ℕ) → ((k : ℕ) → count ≤ k → has numbers k ≡ false) → (k : ℕ) → has (flags (has numbers) count) k ≡ has numbers k
has_all numbers count none k =
    ⊎_elim
    (λ (h : k < count). has-flags (has numbers) count k h)
    (λ (h : count ≤ k). has-flags_past (has numbers) count k h ∙ sym (none k h))
    (cases_lt k count)

pub flags-grown : (numbers : List Bool) (count by : ℕ) → ((k : ℕ) → count ≤ k → has numbers k ≡ false) → flags (has numbers) (count + by) ≡ flags (has numbers) count ++ replicate by false
flags-grown numbers count by none =
    let len : length (flags (has numbers) (count + by)) ≡ count + by = length-flags (has numbers) (count + by) in
    let len_old : length (flags (has numbers) count) ≡ count = length-flags (has numbers) count in
    let len_more : length (replicate by false) ≡ by = length-replicate by false in
    let len_both : length (flags (has numbers) count ++ replicate by false) ≡ length (flags (has numbers) count) + length (replicate by false) = length-append (flags (has numbers) count) (replicate by false) in
    ext_get_or false (flags (has numbers) (count + by)) (flags (has numbers) count ++ replicate by false) (omega (arith, len, len_old, len_more, len_both)) (λ k within.
    let inside : k < count + by = omega (arith, len, within) in
    has-flags (has numbers) (count + by) k inside
    ∙ ⊎_elim
    (λ (h : k < count). sym (get_or_append_left (flags (has numbers) count) (replicate by false) false k (omega (arith, len_old, h)) ∙ has-flags (has numbers) count k h))
    (λ (h : count ≤ k). none k h ∙ sym (get_or-append_right (flags (has numbers) count) (replicate by false) count k false len_old h ∙ get_or-replicate by (k - count) false false (omega (arith, h, inside))))
    (cases_lt k count))

-- one number is a member or none
pub flags-put : (numbers : List Bool) (count n : ℕ) (flag : Bool) → n < count → count ≤ length numbers → flags (has (slice_set numbers n flag)) count ≡ slice_set (flags (has numbers) count) n flag
flags-put numbers count n flag below within =
    let new : List Bool = slice_set numbers n flag in
    let len : length (flags (has new) count) ≡ count = length-flags (has new) count in
    let len_old : length (flags (has numbers) count) ≡ count = length-flags (has numbers) count in
    let len_set : length (slice_set (flags (has numbers) count) n flag) ≡ length (flags (has numbers) count) = length-set (flags (has numbers) count) n flag in
    ext_get_or false (flags (has new) count) (slice_set (flags (has numbers) count) n flag) (omega (arith, len, len_old, len_set)) (λ k inside.
    let low : k < count = omega (arith, len, inside) in
    has-flags (has new) count k low
    ∙ ⊎_elim
    (λ (e : k ≡ n).
    subst (λ (m : ℕ). has new m ≡ get_or (slice_set (flags (has numbers) count) n flag) m false) (sym e)
    (get_or-set_same numbers n flag false (omega (arith, below, within)) ∙ sym (get_or-set_same (flags (has numbers) count) n flag false (omega (arith, len_old, below)))))
    (λ (ne : k ≢ n).
    get_or-set_other numbers n k flag false ne ∙ (sym (has-flags (has numbers) count k low) ∙ sym (get_or-set_other (flags (has numbers) count) n k flag false ne)))
    (cases_eq k n))

-- none from the bound on is a member after that either
pub none_still : (numbers : List Bool) (count n : ℕ) (flag : Bool) → n < count → ((k : ℕ) → count ≤ k → has numbers k ≡ false) → (k : ℕ) → count ≤ k → has (slice_set numbers n flag) k ≡ false
none_still numbers count n flag below none k past = get_or-set_other numbers n k flag false (λ e. omega (arith, below, past, e)) ∙ none k past

pub none_at_first : (numbers : List Bool) (most k : ℕ) → numbers ≡ replicate most false → has numbers k ≡ false
none_at_first numbers most k e =
    let len : length (replicate most false) ≡ most = length-replicate most false in
    subst (λ (set : List Bool). has set k ≡ false) (sym e)
    (⊎_elim (λ (h : k < most). get_or-replicate most k false false h) (λ (h : most ≤ k). get_or_past (replicate most false) k false (omega (arith, len, h))) (cases_lt k most))

-- the next member is the next one below the bound
pub next_all : (numbers : List Bool) (count from : ℕ) (o : Option ℕ) → ((k : ℕ) → count ≤ k → has numbers k ≡ false) → IsNext (has numbers) from o → IsNext (has (flags (has numbers) count)) from o
next_all numbers count from None none next = λ k after. has_all numbers count none k ∙ next k after
next_all numbers count from (Some n) none next = record {
  at_least = next.at_least;
  passes = has_all numbers count none n ∙ next.passes;
  none_before = λ k after before. has_all numbers count none k ∙ next.none_before k after before;
}

pub below_bound : (numbers : List Bool) (count from : ℕ) (o : Option ℕ) → ((k : ℕ) → count ≤ k → has numbers k ≡ false) → IsNext (has numbers) from o → IfSome o (λ n. n < count)
below_bound numbers count from None none next = tt
below_bound numbers count from (Some n) none next =
    ⊎_elim (λ (h : n < count). h) (λ (h : count ≤ n). absurd (false≢true (sym (none n h) ∙ next.passes))) (cases_lt n count)
