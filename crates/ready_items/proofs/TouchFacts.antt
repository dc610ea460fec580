-- Which accounts are touched.
use Rattle.std.proofs.Common.{◌≡◌, ◌∙◌, ℕ, zero, suc, ◌+◌, ◌<◌, ◌≤◌, Bool, true, false, ◌||◌, List, [], ◌∷◌, ◌++◌, Option, Some, None, length, refl, sym, ap, subst, arith, ◌⊎◌, inl, inr, ⊎_elim, if◌then◌else◌, take, get_or, get_or-set_same, get_or-set_other}
use Rattle.std.specs.Prelude.{nat_eq, slice_set}
use Rattle.std.specs.List.{list_any}
use Rattle.std.proofs.lemmas.Bool.{cases_eq, eqb-true, false≢true, or_cases, or_left, or_right}
use Rattle.std.proofs.lemmas.List.{length-set, take_more, take_all}
use Rattle.batch_records.specs.DayRecord.{Day}
use Rattle.commit_journal.specs.declared.line.Move.{Move}
use Rattle.machine.specs.declared.answers.Item.{Item}
use Rattle.machine.specs.Records.Messages.{entries, is_b, sort_of}
use Rattle.machine.specs.Stages.Pending.{item}
use Rattle.number_set.specs.Members.{has}
use Rattle.scan_laws.specs.Touched.{moves_on}
use Rattle.pending_items.specs.Parts.{account_of, whole}
use Rattle.ready_items.specs.Noting.{Grows, Touches, TouchesMoves}
use Rattle.ready_items.specs.Touching.{TouchesBelow, TouchesParts, touched_by}
use Rattle.ready_items.proofs.NoteFacts.{grows_none, grows_then}

-- ---- one account

set_grows : (flags : List Bool) (b : ℕ) → Grows flags (slice_set flags b true)
set_grows flags b = record {
  size = length-set flags b true;
  stay = λ a h. ⊎_elim
      (λ (e : a ≡ b). subst (λ i. has (slice_set flags b true) i ≡ true) (sym e) (get_or-set_same flags b true _ (below flags b (subst (λ i. has flags i ≡ true) e h))))
      (λ (ne : a ≡ b → ⊥). get_or-set_other flags b a true _ ne ∙ h)
      (cases_eq a b);
}
  where
    below : (xs : List Bool) (i : ℕ) → has xs i ≡ true → i < length xs
    below [] i h = absurd (false≢true h)
    below (x ∷ xs) zero h = omega arith
    below (x ∷ xs) (suc i) h = let l = below xs i h in omega (arith, l)

set_told : (flags : List Bool) (a b : ℕ) → a ≡ b → a < length flags → has (slice_set flags b true) a ≡ true
set_told flags a b e l = subst (λ i. has (slice_set flags b true) i ≡ true) (sym e) (get_or-set_same flags b true _ (subst (λ i. i < length flags) e l))

by_grows : (o : Option ℕ) (flags : List Bool) → Grows flags (touched_by o flags)
by_grows None flags = grows_none flags
by_grows (Some a) flags = set_grows flags a

by_told : (o : Option ℕ) (flags : List Bool) (a : ℕ) → o ≡ Some a → a < length flags → has (touched_by o flags) a ≡ true
by_told o flags a e l = subst (λ p. has (touched_by p flags) a ≡ true) (sym e) (set_told flags a a refl l)

-- ---- the parts of an item

pub parts_none : (day : Day) (n : ℕ) (flags : List Bool) → TouchesParts day n 0 flags flags
parts_none day n flags = record { grows = grows_none flags; told = λ k a l e w. absurd (omega (arith, l)) }

pub parts_more : (day : Day) (n k : ℕ) (old mid new : List Bool) → TouchesParts day n k old mid → new ≡ touched_by (account_of day (item n k)) mid → TouchesParts day n (k + 1) old new
parts_more day n k old mid new t e = record {
  grows = subst (Grows old) (sym e) (grows_then old mid _ t.grows (by_grows (account_of day (item n k)) mid));
  told = λ j a l at w. let size = t.grows.size in subst (λ flags. has flags a ≡ true) (sym e) (⊎_elim
      (λ (q : j ≡ k). by_told (account_of day (item n k)) mid a (ap (λ i. account_of day (item n i)) (sym q) ∙ at) (omega (arith, size, w)))
      (λ (ne : j ≡ k → ⊥). (by_grows (account_of day (item n k)) mid).stay a (t.told j a (omega (arith, l, ne)) at w))
      (cases_eq j k));
}

whole_alone : (day : Day) (y : Item) → is_b (sort_of day y.msg) ≡ false → whole day y ≡ y
whole_alone day y b = ap (λ c. if c then item y.msg 0 else y) b

whole_msg : (day : Day) (y x : Item) → whole day y ≡ x → y.msg ≡ x.msg
whole_msg day y x e = sym (here (is_b (sort_of day y.msg))) ∙ ap (λ (z : Item). z.msg) e
  where
    here : (b : Bool) → (if b then item y.msg 0 else y).msg ≡ y.msg
    here true = refl
    here false = refl

pub item_alone : (day : Day) (x : Item) (old new : List Bool) → is_b (sort_of day x.msg) ≡ false → new ≡ touched_by (account_of day x) old → Touches day x old new
item_alone day x old new b e = record {
  grows = subst (Grows old) (sym e) (by_grows (account_of day x) old);
  told = λ y a is of at w.
      let same : y ≡ x = sym (whole_alone day y (ap (λ n. is_b (sort_of day n)) (whole_msg day y x of) ∙ b)) ∙ of in
      subst (λ flags. has flags a ≡ true) (sym e) (by_told (account_of day x) old a (ap (account_of day) (sym same) ∙ at) w);
}

pub item_parts : (day : Day) (x : Item) (old new : List Bool) → is_b (sort_of day x.msg) ≡ true → x.entry ≡ 0 → TouchesParts day x.msg (length (entries day x.msg) + 1) old new → Touches day x old new
item_parts day x old new b z t = record {
  grows = t.grows;
  told = λ y a is of at w.
      let m : y.msg ≡ x.msg = whole_msg day y x of in
      let l : y.entry ≤ length (entries day x.msg) = subst (λ n. y.entry ≤ length (entries day n)) m is.entry in
      t.told y.entry a (omega (arith, l)) ((λ i. account_of day (item (sym m i) y.entry)) ∙ at) w;
}

pub item_skipped : (day : Day) (x : Item) (flags : List Bool) → is_b (sort_of day x.msg) ≡ true → (x.entry ≡ 0 → ⊥) → Touches day x flags flags
item_skipped day x flags b ne = record {
  grows = grows_none flags;
  told = λ y a is of at w.
      let c : is_b (sort_of day y.msg) ≡ true = ap (λ n. is_b (sort_of day n)) (whole_msg day y x of) ∙ b in
      let zero_is : x.entry ≡ 0 = ap (λ (z : Item). z.entry) (sym of) ∙ ap (λ d. (if d then item y.msg 0 else y).entry) c in
      absurd (ne zero_is);
}

-- ---- moves

pub moves_none : (flags : List Bool) → TouchesMoves [] flags flags
moves_none flags = record { grows = grows_none flags; told = λ a w h. absurd (false≢true h) }

any_last : (test : Move → Bool) (ms : List Move) (m : Move) → list_any test (ms ++ m ∷ []) ≡ true → (list_any test ms ≡ true) ⊎ (test m ≡ true)
any_last test [] m h = ⊎_elim (λ (t : test m ≡ true). inr t) (λ (f : false ≡ true). absurd (false≢true f)) (or_cases (test m) false h)
any_last test (x ∷ ms) m h = ⊎_elim
    (λ (t : test x ≡ true). inl (or_left (test x) _ t))
    (λ (r : list_any test (ms ++ m ∷ []) ≡ true). ⊎_elim (λ (q : list_any test ms ≡ true). inl (or_right (test x) _ q)) (λ (q : test m ≡ true). inr q) (any_last test ms m r))
    (or_cases (test x) _ h)

pub moves_more : (moves : List Move) (i : ℕ) (m : Move) (old mid first new : List Bool) → i < length moves → m ≡ get_or moves i m → TouchesMoves (take i moves) old mid → first ≡ slice_set mid m.debit true → new ≡ slice_set first m.credit true → TouchesMoves (take (i + 1) moves) old new
moves_more moves i m old mid first new low at t e f = subst (λ ms. TouchesMoves ms old new) (sym (take_more moves i m low ∙ ap (λ x. take i moves ++ x ∷ []) (sym at))) (record {
  grows = grows_then old mid new t.grows all;
  told = λ a w h.
      let size = t.grows.size in
      ⊎_elim
      (λ (q : moves_on a (take i moves) ≡ true). all.stay a (t.told a w q))
      (λ (q : (nat_eq m.debit a || nat_eq m.credit a) ≡ true). ⊎_elim
      (λ (d : nat_eq m.debit a ≡ true). second.stay a (subst (λ flags. has flags a ≡ true) (sym e) (set_told mid a m.debit (sym (eqb-true m.debit a d)) (omega (arith, size, w)))))
      (λ (d : nat_eq m.credit a ≡ true). subst (λ flags. has flags a ≡ true) (sym f) (set_told first a m.credit (sym (eqb-true m.credit a d)) (let s = one.size in omega (arith, s, size, w))))
      (or_cases (nat_eq m.debit a) (nat_eq m.credit a) q))
      (any_last (λ x. nat_eq x.debit a || nat_eq x.credit a) (take i moves) m h);
})
  where
    one : Grows mid first
    one = subst (Grows mid) (sym e) (set_grows mid m.debit)

    second : Grows first new
    second = subst (Grows first) (sym f) (set_grows first m.credit)

    all : Grows mid new
    all = grows_then mid first new one second

pub moves_all : (moves : List Move) (i : ℕ) (old new : List Bool) → length moves ≤ i → TouchesMoves (take i moves) old new → TouchesMoves moves old new
moves_all moves i old new l t = subst (λ ms. TouchesMoves ms old new) (take_all i moves l) t

-- ---- all accounts

pub below_none : (flags : List Bool) → TouchesBelow 0 flags flags
below_none flags = record { grows = grows_none flags; told = λ a l w. absurd (omega (arith, l)) }

pub below_more : (n : ℕ) (old mid new : List Bool) → TouchesBelow n old mid → new ≡ slice_set mid n true → TouchesBelow (n + 1) old new
below_more n old mid new t e = record {
  grows = grows_then old mid new t.grows one;
  told = λ a l w. let size = t.grows.size in ⊎_elim
      (λ (q : a ≡ n). subst (λ flags. has flags a ≡ true) (sym e) (set_told mid a n q (omega (arith, size, w))))
      (λ (ne : a ≡ n → ⊥). one.stay a (t.told a (omega (arith, l, ne)) w))
      (cases_eq a n);
}
  where
    one : Grows mid new
    one = subst (Grows mid) (sym e) (set_grows mid n)
