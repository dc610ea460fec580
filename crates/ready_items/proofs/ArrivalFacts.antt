-- A message comes: where a normal payment stands from then on.
use Rattle.std.proofs.Common.{◌≡◌, ◌∙◌, ℕ, zero, suc, ◌+◌, ◌-◌, ◌<◌, ◌≤◌, true, false, List, [], ◌∷◌, ◌++◌, Option, None, length, refl, sym, ap, subst, arith, ⊎_elim, get_or-set_same, get_or-set_other}
use Rattle.std.specs.Prelude.{slice_index}
use Rattle.std.specs.List.Sorted.{IsStrictlyIncreasing}
use Rattle.std.proofs.lemmas.Bool.{cases_eq, cases_lt, lt-ltb, ltb-true, or_left}
use Rattle.std.proofs.lemmas.List.{get_or_append_left, get_or_push, length-append, length-set}
use Rattle.batch_records.specs.DayRecord.{Day}
use Rattle.machine.specs.Stages.Pending.{item}
use Rattle.settlement_laws.proofs.Base.Lists.{never}
use Rattle.least_tree.specs.Amounts.{amount_at}
use Rattle.scan_laws.specs.Numbers.{IsItem, item_count, item_number, item_of}
use Rattle.scan_laws.proofs.NumberFacts.{number-back, number-order}
use Rattle.amount_forest.specs.Lists.{list_at, numbers_at}
use Rattle.ready_items.specs.declared.normals.Spot.{Spot}
use Rattle.ready_items.specs.Normals.{HavePayments, IsArrived, IsEntered, IsNumberOf, IsPassed, IsPayment, IsPlaced, Normals, amount_of, is_normal_pay, payer, place_of, spot_at}
use Rattle.ready_items.proofs.NormalFacts.{item_zero, payer_small}
use Rattle.ready_items.proofs.RisingFacts.{rise_more}

-- ---- spots

spot_old : (spots : List Spot) (s : Spot) (m : ℕ) → 1 ≤ m → m ≤ length spots → spot_at (spots ++ s ∷ []) m ≡ spot_at spots m
spot_old spots s m first last = get_or_append_left spots (s ∷ []) _ (m - 1) (omega (arith, first, last))

spot_new : (spots : List Spot) (s : Spot) (m : ℕ) → m ≡ length spots + 1 → spot_at (spots ++ s ∷ []) m ≡ s
spot_new spots s m e = get_or_push spots s _ (m - 1) (omega (arith, e))

-- ---- lists

none_pushed : (xs : List (Option ℕ)) (q : ℕ) → amount_at (xs ++ None ∷ []) q ≡ amount_at xs q
none_pushed [] zero = refl
none_pushed [] (suc q) = refl
none_pushed (x ∷ xs) zero = refl
none_pushed (x ∷ xs) (suc q) = none_pushed xs q

number_rises : (day : Day) (m n : ℕ) → IsItem day m 0 → IsItem day n 0 → m < n → item_number day m 0 < item_number day n 0
number_rises day m n a b l = ltb-true _ _ (number-order day m 0 n 0 a b ∙ or_left _ _ (lt-ltb m n l))

more : (day : Day) (count n m : ℕ) → n ≡ count + 1 → IsPayment day count m → IsPayment day n m
more day count n m e is = record { first = is.first; last = (let l = is.last in omega (arith, e, l)); normal = is.normal }

-- ---- no payment

pub passes : (day : Day) (count n : ℕ) (old new : Normals) → n ≡ count + 1 → is_normal_pay day n ≡ false → IsPassed old new → HavePayments day count old → IsArrived day n old new
passes day count n old new e other p have = record {
  have = record {
    lists = subst (λ k. length day.accounts + 1 ≤ k) (sym (ap length p.lists)) have.lists;
    both = ap length p.numbers ∙ (have.both ∙ sym (ap length p.lists));
    sizes = λ a. ap (λ (ls : List (List (Option ℕ))). length (list_at ls a)) p.lists ∙ (have.sizes a ∙ sym (ap (λ (ns : List (List ℕ)). length (numbers_at ns a)) p.numbers));
    came = ap length p.spots ∙ (length-append old.spots (p.spot ∷ []) ∙ (ap (λ (k : ℕ). k + 1) have.came ∙ sym e));
    rise = λ a. subst (λ (ns : List (List ℕ)). IsStrictlyIncreasing (numbers_at ns a)) (sym p.numbers) (have.rise a);
    sound = λ a. subst (λ (ns : List (List ℕ)). (q : ℕ) → q < length (numbers_at ns a) → (m : ℕ) × IsNumberOf day n a (slice_index (numbers_at ns a) q) m) (sym p.numbers) (λ q w.
        let own = have.sound a q w in
        (own.0, record { payment = more day count n own.0 e own.1.payment; account = own.1.account; number = own.1.number }));
    placed = λ m is.
        let before : m ≤ count = ⊎_elim (λ (s : m ≡ n). never (is_normal_pay day m) is.normal (ap (is_normal_pay day) s ∙ other)) (λ (ne : m ≡ n → ⊥). let l = is.last in omega (arith, l, ne, e)) (cases_eq m n) in
        let at = have.placed m (record { first = is.first; last = before; normal = is.normal }) in
        record {
          within = subst (λ (q : ℕ). q < length (numbers_at new.numbers (payer day m))) (sym (same m is.first before)) (subst (λ (ns : List (List ℕ)). place_of old m < length (numbers_at ns (payer day m))) (sym p.numbers) at.within);
          number = ap (slice_index (numbers_at new.numbers (payer day m))) (same m is.first before) ∙ (ap (λ (ns : List (List ℕ)). slice_index (numbers_at ns (payer day m)) (place_of old m)) p.numbers ∙ at.number);
        };
  };
  own = λ normal. never (is_normal_pay day n) normal other;
  others = λ m first less. ap (λ (ls : List (List (Option ℕ))). amount_at (list_at ls (payer day m)) (place_of new m)) p.lists ∙ ap (amount_at (list_at old.lists (payer day m))) (same m first (omega (arith, less, e)));
}
  where
    same : (m : ℕ) → 1 ≤ m → m ≤ count → place_of new m ≡ place_of old m
    same m first last = ap (λ (ss : List Spot). (spot_at ss m).place) p.spots ∙ ap (λ (s : Spot). s.place) (spot_old old.spots p.spot m first (let size = have.came in omega (arith, last, size)))

-- ---- a payment

module _ (day : Day) (count n : ℕ) (old new : Normals) (e : n ≡ count + 1) (last : n ≤ length day.messages) (normal : is_normal_pay day n ≡ true) (entered : IsEntered (payer day n) (item_number day n 0) old new) (have : HavePayments day count old) where
  abbrev a : ℕ
  a = payer day n

  abbrev number : ℕ
  number = item_number day n 0

  inner : a < length old.lists
  inner = let low = payer_small day n in let size = have.lists in omega (arith, low, size)

  inside : a < length old.numbers
  inside = let low = inner in let both = have.both in omega (arith, low, both)

  same : (m : ℕ) → 1 ≤ m → m ≤ count → place_of new m ≡ place_of old m
  same m first low = ap (λ (ss : List Spot). (spot_at ss m).place) entered.spots ∙ ap (λ (s : Spot). s.place) (spot_old old.spots entered.spot m first (let size = have.came in omega (arith, low, size)))

  own_place : place_of new n ≡ length (list_at old.lists a)
  own_place = ap (λ (ss : List Spot). (spot_at ss n).place) entered.spots ∙ (ap (λ (s : Spot). s.place) (spot_new old.spots entered.spot n (let size = have.came in omega (arith, e, size))) ∙ entered.place)

  is_item : IsItem day n 0
  is_item = item_zero day n (omega (arith, e)) last

  above : (q : ℕ) → q < length (numbers_at old.numbers a) → slice_index (numbers_at old.numbers a) q < number
  above q w =
      let own = have.sound a q w in
      let p = own.1.payment in
      let l = p.last in
      let is = own.1.number in
      let rise = number_rises day own.0 n (item_zero day own.0 p.first (omega (arith, l, e, last))) is_item (omega (arith, l, e)) in
      omega (arith, is, rise)

  numbers_here : numbers_at new.numbers a ≡ numbers_at old.numbers a ++ number ∷ []
  numbers_here = ap (λ (ns : List (List ℕ)). numbers_at ns a) entered.numbers ∙ get_or-set_same old.numbers a (numbers_at old.numbers a ++ number ∷ []) [] inside

  numbers_other : (b : ℕ) → (b ≡ a → ⊥) → numbers_at new.numbers b ≡ numbers_at old.numbers b
  numbers_other b ne = ap (λ (ns : List (List ℕ)). numbers_at ns b) entered.numbers ∙ get_or-set_other old.numbers a b (numbers_at old.numbers a ++ number ∷ []) [] ne

  list_here : list_at new.lists a ≡ list_at old.lists a ++ None ∷ []
  list_here = ap (λ (ls : List (List (Option ℕ))). list_at ls a) entered.lists ∙ get_or-set_same old.lists a (list_at old.lists a ++ None ∷ []) [] inner

  list_other : (b : ℕ) → (b ≡ a → ⊥) → list_at new.lists b ≡ list_at old.lists b
  list_other b ne = ap (λ (ls : List (List (Option ℕ))). list_at ls b) entered.lists ∙ get_or-set_other old.lists a b (list_at old.lists a ++ None ∷ []) [] ne

  longer : length (numbers_at new.numbers a) ≡ length (numbers_at old.numbers a) + 1
  longer = ap length numbers_here ∙ length-append (numbers_at old.numbers a) (number ∷ [])

  new_rise : (b : ℕ) → IsStrictlyIncreasing (numbers_at new.numbers b)
  new_rise b = ⊎_elim
      (λ (s : b ≡ a). subst (λ (c : ℕ). IsStrictlyIncreasing (numbers_at new.numbers c)) (sym s) (subst IsStrictlyIncreasing (sym numbers_here) (rise_more (numbers_at old.numbers a) number (have.rise a) above)))
      (λ (ne : b ≡ a → ⊥). subst IsStrictlyIncreasing (sym (numbers_other b ne)) (have.rise b))
      (cases_eq b a)

  old_own : (b q : ℕ) → q < length (numbers_at old.numbers b) → (m : ℕ) × IsNumberOf day n b (slice_index (numbers_at old.numbers b) q) m
  old_own b q w =
      let own = have.sound b q w in
      (own.0, record { payment = more day count n own.0 e own.1.payment; account = own.1.account; number = own.1.number })

  here_own : (q : ℕ) → q < length (numbers_at old.numbers a ++ number ∷ []) → (m : ℕ) × IsNumberOf day n a (slice_index (numbers_at old.numbers a ++ number ∷ []) q) m
  here_own q w = ⊎_elim
      (λ (l : q < length (numbers_at old.numbers a)). subst (λ (i : ℕ). (m : ℕ) × IsNumberOf day n a i m) (sym (get_or_append_left (numbers_at old.numbers a) (number ∷ []) 0 q l)) (old_own a q l))
      (λ (l : length (numbers_at old.numbers a) ≤ q).
      let size = length-append (numbers_at old.numbers a) (number ∷ []) in (
        n,
        record {
          payment = record { first = omega (arith, e); last = omega arith; normal = normal };
          account = refl;
          number = get_or_push (numbers_at old.numbers a) number 0 q (omega (arith, l, size, w));
        },
      ))
      (cases_lt q (length (numbers_at old.numbers a)))

  new_sound : (b q : ℕ) → q < length (numbers_at new.numbers b) → (m : ℕ) × IsNumberOf day n b (slice_index (numbers_at new.numbers b) q) m
  new_sound b = ⊎_elim
      (λ (s : b ≡ a). subst (λ (c : ℕ). (q : ℕ) → q < length (numbers_at new.numbers c) → (m : ℕ) × IsNumberOf day n c (slice_index (numbers_at new.numbers c) q) m) (sym s)
      (subst (λ (ns : List ℕ). (q : ℕ) → q < length ns → (m : ℕ) × IsNumberOf day n a (slice_index ns q) m) (sym numbers_here) here_own))
      (λ (ne : b ≡ a → ⊥). subst (λ (ns : List ℕ). (q : ℕ) → q < length ns → (m : ℕ) × IsNumberOf day n b (slice_index ns q) m) (sym (numbers_other b ne)) (old_own b))
      (cases_eq b a)

  own_placed : IsPlaced day new n
  own_placed =
      let at : place_of new n ≡ length (numbers_at old.numbers a) = own_place ∙ have.sizes a in
      record {
        within = (let l = longer in omega (arith, at, l));
        number = ap (slice_index (numbers_at new.numbers a)) at ∙ (ap (λ (ns : List ℕ). slice_index ns (length (numbers_at old.numbers a))) numbers_here ∙ get_or_push (numbers_at old.numbers a) number 0 (length (numbers_at old.numbers a)) refl);
      }

  old_placed : (m : ℕ) → IsPayment day count m → IsPlaced day new m
  old_placed m is =
      let at = have.placed m is in
      let q : ℕ = place_of old m in
      let stays : place_of new m ≡ q = same m is.first is.last in
      ⊎_elim
      (λ (s : payer day m ≡ a).
      let w : q < length (numbers_at old.numbers a) = subst (λ (b : ℕ). q < length (numbers_at old.numbers b)) s at.within in
      let l = longer in
      let here : slice_index (numbers_at new.numbers a) q ≡ slice_index (numbers_at old.numbers a) q = ap (λ (ns : List ℕ). slice_index ns q) numbers_here ∙ get_or_append_left (numbers_at old.numbers a) (number ∷ []) 0 q w in
      record {
        within = subst (λ (p : ℕ). p < length (numbers_at new.numbers (payer day m))) (sym stays) (subst (λ (b : ℕ). q < length (numbers_at new.numbers b)) (sym s) (omega (arith, w, l)));
        number = ap (slice_index (numbers_at new.numbers (payer day m))) stays ∙ (ap (λ (b : ℕ). slice_index (numbers_at new.numbers b) q) s ∙ (here ∙ (ap (λ (b : ℕ). slice_index (numbers_at old.numbers b) q) (sym s) ∙ at.number)));
      })
      (λ (ne : payer day m ≡ a → ⊥). record {
        within = subst (λ (p : ℕ). p < length (numbers_at new.numbers (payer day m))) (sym stays) (subst (λ (ns : List ℕ). q < length ns) (sym (numbers_other (payer day m) ne)) at.within);
        number = ap (slice_index (numbers_at new.numbers (payer day m))) stays ∙ (ap (λ (ns : List ℕ). slice_index ns q) (numbers_other (payer day m) ne) ∙ at.number);
      })
      (cases_eq (payer day m) a)

  old_amount : (m : ℕ) → 1 ≤ m → m < n → amount_of day new m ≡ amount_of day old m
  old_amount m first less =
      ap (amount_at (list_at new.lists (payer day m))) (same m first (omega (arith, less, e)))
      ∙ ⊎_elim
      (λ (s : payer day m ≡ a).
      ap (λ (b : ℕ). amount_at (list_at new.lists b) (place_of old m)) s
      ∙ (ap (λ (xs : List (Option ℕ)). amount_at xs (place_of old m)) list_here
      ∙ (none_pushed (list_at old.lists a) (place_of old m) ∙ ap (λ (b : ℕ). amount_at (list_at old.lists b) (place_of old m)) (sym s))))
      (λ (ne : payer day m ≡ a → ⊥). ap (λ (xs : List (Option ℕ)). amount_at xs (place_of old m)) (list_other (payer day m) ne))
      (cases_eq (payer day m) a)

  pub enters : IsArrived day n old new
  enters = record {
    have = record {
      lists = subst (λ k. length day.accounts + 1 ≤ k) (sym (ap length entered.lists ∙ length-set old.lists a (list_at old.lists a ++ None ∷ []))) have.lists;
      both = ap length entered.numbers ∙ (length-set old.numbers a (numbers_at old.numbers a ++ number ∷ []) ∙ (have.both ∙ sym (ap length entered.lists ∙ length-set old.lists a (list_at old.lists a ++ None ∷ []))));
      sizes = λ b. ⊎_elim
          (λ (s : b ≡ a).
          ap (λ (c : ℕ). length (list_at new.lists c)) s
          ∙ (ap length list_here ∙ (length-append {A = Option ℕ} (list_at old.lists a) (None ∷ []) ∙ (ap (λ (k : ℕ). k + 1) (have.sizes a) ∙ (sym longer ∙ ap (λ (c : ℕ). length (numbers_at new.numbers c)) (sym s))))))
          (λ (ne : b ≡ a → ⊥). ap length (list_other b ne) ∙ (have.sizes b ∙ sym (ap length (numbers_other b ne))))
          (cases_eq b a);
      came = ap length entered.spots ∙ (length-append old.spots (entered.spot ∷ []) ∙ (ap (λ (k : ℕ). k + 1) have.came ∙ sym e));
      rise = new_rise;
      sound = new_sound;
      placed = λ m is. ⊎_elim
          (λ (s : m ≡ n). subst (IsPlaced day new) (sym s) own_placed)
          (λ (ne : m ≡ n → ⊥). old_placed m (record { first = is.first; last = (let l = is.last in omega (arith, l, ne, e)); normal = is.normal }))
          (cases_eq m n);
    };
    own = λ _. ap (λ (xs : List (Option ℕ)). amount_at xs (place_of new n)) list_here ∙ (ap (amount_at (list_at old.lists a ++ None ∷ [])) own_place ∙ get_or_push {X = Option ℕ} (list_at old.lists a) None None (length (list_at old.lists a)) refl);
    others = old_amount;
  }

-- by the number that the due items tell
pub enters_by : (day : Day) (count n : ℕ) (old new : Normals) (a i : ℕ) → n ≡ count + 1 → n ≤ length day.messages → is_normal_pay day n ≡ true → a ≡ payer day n → (i < item_count day) × (item_of day i ≡ item n 0) → (a < length old.lists → IsEntered a i old new) → HavePayments day count old → IsArrived day n old new
enters_by day count n old new a i e last normal account at entered have =
    let small = payer_small day n in
    let size = have.lists in
    let number : i ≡ item_number day n 0 = sym (number-back day i at.0) ∙ (λ t. item_number day (at.1 t).msg (at.1 t).entry) in
    enters day count n old new e last normal
    (subst (λ (b : ℕ). IsEntered b (item_number day n 0) old new) account (subst (λ (k : ℕ). IsEntered a k old new) number (entered (omega (arith, account, small, size)))))
    have

-- no amount has come with those that came
pub none_yet : (day : Day) (count : ℕ) (old new : Normals) → IsArrived day (count + 1) old new → ((m : ℕ) → IsPayment day count m → amount_of day old m ≡ None) → (m : ℕ) → IsPayment day (count + 1) m → amount_of day new m ≡ None
none_yet day count old new arrived none m is = ⊎_elim
    (λ (s : m ≡ count + 1). ap (amount_of day new) s ∙ arrived.own (subst (λ (k : ℕ). is_normal_pay day k ≡ true) s is.normal))
    (λ (ne : m ≡ count + 1 → ⊥).
    let l = is.last in
    arrived.others m is.first (omega (arith, l, ne)) ∙ none m (record { first = is.first; last = omega (arith, l, ne); normal = is.normal }))
    (cases_eq m (count + 1))
