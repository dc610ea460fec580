-- What the line moved that took a message, found by its place.
use Rattle.std.proofs.Common.{◌≡◌, ◌∙◌, ℕ, suc, ◌+◌, ◌-◌, ◌≤◌, Bool, true, false, List, [], ◌∷◌, Option, Some, None, length, drop, refl, sym, ap, subst, arith, length-drop}
use Rattle.std.specs.Option.{option_map_or, option_or}
use Rattle.std.proofs.lemmas.List.{drop-drop}
use Rattle.batch_records.specs.DayRecord.{Day}
use Rattle.commit_journal.specs.declared.line.Move.{Move}
use Rattle.commit_journal.specs.Line.{Line, History}
use Rattle.commit_journal.specs.Histories.{oldest}
use Rattle.machine.specs.Words.{when}
use Rattle.machine.specs.Legal.{IsLegal}
use Rattle.machine.specs.Telling.History.{is_in_of, place_of, read_first, taken}
use Rattle.day_page.specs.Classes.{intake_cents, moved_cents}
use Rattle.day_page.proofs.Beginnings.{legal_oldest}

-- the line at the place of the oldest that passes is the one that is read
none_read : {X : Type 0} (test : Line → Bool) (f : Line → X) (J : History) → place_of test J ≡ None → read_first (λ x. when (test x) (f x)) J ≡ None
unfolding place_of read_first
none_read {X} test f [] e = refl
none_read {X} test f (x ∷ J) e = here (none_read test f J) (place_of test J) refl (test x) refl e
  where
    here : (place_of test J ≡ None → read_first (λ y. when (test y) (f y)) J ≡ None) → (o : Option ℕ) → place_of test J ≡ o → (b : Bool) → test x ≡ b → option_or o (when b (suc (length J))) ≡ None →
        option_or (read_first (λ y. when (test y) (f y)) J) (when (test x) (f x)) ≡ None
    here none None q false t h = (λ i. option_or (none q i) (when (t i) (f x)))
    here none None q true t h = absurd (cc)
    here none (Some p) q b t h = absurd (cc)

record IsAt {X : Type 0} (test : Line → Bool) (f : Line → X) (J : History) (p : ℕ) : Type 0 where
  from : 1 ≤ p
  to : p ≤ length J
  line : (l : Line) (P : History) → oldest J p ≡ l ∷ P → read_first (λ x. when (test x) (f x)) J ≡ Some (f l)

head_of : (x l : Line) (J P : History) → x ∷ J ≡ l ∷ P → x ≡ l
head_of x l J P e = cc

placed : {X : Type 0} (test : Line → Bool) (f : Line → X) (J : History) (p : ℕ) → place_of test J ≡ Some p → IsAt test f J p
unfolding place_of read_first
placed {X} test f [] p e = absurd (cc)
placed {X} test f (x ∷ J) p e = here (placed test f J p) (place_of test J) refl (test x) refl e
  where
    here : (place_of test J ≡ Some p → IsAt test f J p) → (o : Option ℕ) → place_of test J ≡ o → (b : Bool) → test x ≡ b → option_or o (when b (suc (length J))) ≡ Some p → IsAt test f (x ∷ J) p
    here known None q false t h = absurd (cc)
    here known None q true t h =
        let is : suc (length J) ≡ p = cc in
        record {
          from = omega (arith, is);
          to = omega (arith, is);
          line = λ l P at.
              let none : suc (length J) - p ≡ 0 = omega (arith, is) in
              let same : x ≡ l = head_of x l J P (sym (ap (λ k. drop k (x ∷ J)) none) ∙ at) in
              (λ i. option_or (none_read test f J q i) (when (t i) (f x))) ∙ ap (λ (y : Line). Some (f y)) same;
        }
    here known (Some k) q b t h =
        let is : k ≡ p = cc in
        let before : IsAt test f J p = known (q ∙ ap Some is) in
        let low = before.from in
        let high = before.to in
        record {
          from = low;
          to = omega (arith, high);
          line = λ l P at.
              let less : suc (length J) - p ≡ suc (length J - p) = omega (arith, high) in
              let there : oldest J p ≡ l ∷ P = sym (ap (λ n. drop n (x ∷ J)) less) ∙ at in
              ap (λ (o : Option X). option_or o (when (test x) (f x))) (before.line l P there);
        }

-- ---- of the first lines of a journal

abbrev at : History → ℕ → ℕ → ℕ → Type 0
at H q n p = IsAt (is_in_of n) (λ (l : Line). l.moves) (oldest H q) p

oldest_of : (H : History) (q p : ℕ) → p ≤ length (oldest H q) → oldest (oldest H q) p ≡ oldest H p
oldest_of H q p within =
    let long : length (drop (length H - q) H) ≡ length H - (length H - q) = length-drop (length H - q) H in
    let sum : (length H - q) + (length (drop (length H - q) H) - p) ≡ length H - p = omega (arith, long, within) in
    drop-drop (length (drop (length H - q) H) - p) (length H - q) H ∙ ap (λ k. drop k H) sum

pub taken_within : (H : History) (q n p : ℕ) → taken (oldest H q) n ≡ Some p → (1 ≤ p) × (p ≤ length H)
taken_within H q n p e =
    let is : at H q n p = placed (is_in_of n) (λ (l : Line). l.moves) (oldest H q) p e in
    let long : length (drop (length H - q) H) ≡ length H - (length H - q) = length-drop (length H - q) H in
    let low = is.from in
    let high = is.to in
    (low, omega (arith, long, high))

pub taken_legal : (day : Day) (H : History) (q n p : ℕ) → IsLegal day (oldest H q) → taken (oldest H q) n ≡ Some p → IsLegal day (oldest H p)
taken_legal day H q n p legal e =
    let is : at H q n p = placed (is_in_of n) (λ (l : Line). l.moves) (oldest H q) p e in
    subst (IsLegal day) (oldest_of H q p is.to) (legal_oldest day p (oldest H q) legal)

pub taken_moves : (H : History) (q n p : ℕ) (l : Line) (P : History) → taken (oldest H q) n ≡ Some p → oldest H p ≡ l ∷ P → moved_cents l.moves ≡ intake_cents (oldest H q) n
taken_moves H q n p l P e line =
    let is : at H q n p = placed (is_in_of n) (λ (x : Line). x.moves) (oldest H q) p e in
    sym (ap (λ (o : Option (List Move)). option_map_or moved_cents o 0) (is.line l P (oldest_of H q p is.to ∙ line)))

pub not_taken : (J : History) (n : ℕ) → taken J n ≡ None → 0 ≡ intake_cents J n
not_taken J n e = sym (ap (λ (o : Option (List Move)). option_map_or moved_cents o 0) (none_read (is_in_of n) (λ (l : Line). l.moves) J e))
