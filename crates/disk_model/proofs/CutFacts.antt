-- How calls of a disk that is cut go on.
use Rattle.std.proofs.Common.{◌≡◌, ℕ, ◌+◌, ◌-◌, ◌<◌, ◌≤◌, Bool, true, false, List, refl, sym, ap, subst, ◌∙◌, arith}
use Rattle.std.specs.Prelude.{nat_lt}
use Rattle.std.proofs.lemmas.Bool.{false≢true, ltb-false, ltb-true}
use Rattle.disk_model.specs.Cut.{IsCut, IsCutForLess}

module _ {D : Type 0} (seen : D → List ℕ) (cut_after : D → ℕ → ℕ → ℕ → Type 0) (less : IsCutForLess cut_after) where
  as_many : (disk : D) (c d e b e' b' : ℕ) → c ≡ d → e' ≤ e → b' ≤ b → cut_after disk c e b → cut_after disk d e' b'
  as_many disk c d e b e' b' same fewer small is = less disk d e b e' b' fewer small (subst (λ (n : ℕ). cut_after disk n e b) same is)

  -- no call
  pub cut_none : (old : D) → IsCut seen cut_after old old true 0 0 0 (λ (k : ℕ). seen old)
  cut_none old = record { enough = λ c e b is. (refl, as_many old (0 + c) c (0 + e) (0 + b) e b (omega arith) (omega arith) (omega arith) is, refl); short = λ c e b low is. absurd (omega (arith, low)) }

  -- what it shows, told otherwise
  pub cut_as : (old new : D) (well : Bool) (c e b e' b' : ℕ) (f g : ℕ → List ℕ) → e ≤ e' → b ≤ b' → ((k : ℕ) → k ≤ c → f k ≡ g k) → IsCut seen cut_after old new well c e b f → IsCut seen cut_after old new well c e' b' g
  cut_as old new well c e b e' b' f g fewer small same is = record {
    enough = λ x y z h.
        let done = is.enough x y z (as_many old (c + x) (c + x) (e' + y) (b' + z) (e + y) (b + z) refl (omega (arith, fewer)) (omega (arith, small)) h) in
        (done.0, done.1, done.2 ∙ same c (omega arith));
    short = λ x y z low h.
        let done = is.short x y z low (as_many old x x (e' + y) (b' + z) (e + y) (b + z) refl (omega (arith, fewer)) (omega (arith, small)) h) in
        (done.0, done.1 ∙ same x (omega (arith, low)));
  }

  -- one of them failed, and the others weren't tried
  pub cut_off : (old new : D) (c e b c' e' b' : ℕ) (f g : ℕ → List ℕ) → c ≤ c' → e ≤ e' → b ≤ b' → ((k : ℕ) → k < c → f k ≡ g k) → IsCut seen cut_after old new false c e b f → IsCut seen cut_after old new false c' e' b' g
  cut_off old new c e b c' e' b' f g few fewer small same is = record { enough = all; short = λ x y z low h. part x y z h (nat_lt x c) refl }
    where
      never : (x y z : ℕ) → c ≤ x → cut_after old x (e' + y) (b' + z) → ⊥
      never x y z low h = false≢true (is.enough (x - c) y z (as_many old x (c + (x - c)) (e' + y) (b' + z) (e + y) (b + z) (omega (arith, low)) (omega (arith, fewer)) (omega (arith, small)) h)).0

      all : (x y z : ℕ) → cut_after old (c' + x) (e' + y) (b' + z) → (false ≡ true) × cut_after new x y z × (seen new ≡ g c')
      all x y z h = absurd (never (c' + x) y z (omega (arith, few)) h)

      part : (x y z : ℕ) → cut_after old x (e' + y) (b' + z) → (t : Bool) → nat_lt x c ≡ t → (false ≡ false) × (seen new ≡ g x)
      part x y z h true e1 =
          let low = ltb-true x c e1 in
          (refl, (is.short x y z low (as_many old x x (e' + y) (b' + z) (e + y) (b + z) refl (omega (arith, fewer)) (omega (arith, small)) h)).1 ∙ same x low)
      part x y z h false e1 = absurd (never x y z (ltb-false x c e1) h)

  -- some calls, and then others, which go on from the bytes that are seen then
  pub cut_on : (old mid new : D) (well : Bool) (c e b calls changes bytes c' e' b' : ℕ) (f : ℕ → List ℕ) (g : List ℕ → ℕ → List ℕ) (h : ℕ → List ℕ) → c + calls ≡ c' → e + changes ≤ e' → b + bytes ≤ b' → ((k : ℕ) → k < c → f k ≡ h k) → ((k : ℕ) → k ≤ calls → g (f c) k ≡ h (c + k)) →
      IsCut seen cut_after old mid true c e b f → IsCut seen cut_after mid new well calls changes bytes (g (seen mid)) → IsCut seen cut_after old new well c' e' b' h
  cut_on old mid new well c e b calls changes bytes c' e' b' f g h all fewer small before same first second = record { enough = whole; short = λ x y z low k. part x y z low k (nat_lt x c) refl }
    where
      then : (x y z : ℕ) → cut_after old (c + x) (e' + y) (b' + z) → (true ≡ true) × cut_after mid x (changes + y) (bytes + z) × (seen mid ≡ f c)
      then x y z k = first.enough x (changes + y) (bytes + z) (as_many old (c + x) (c + x) (e' + y) (b' + z) (e + (changes + y)) (b + (bytes + z)) refl (omega (arith, fewer)) (omega (arith, small)) k)

      whole : (x y z : ℕ) → cut_after old (c' + x) (e' + y) (b' + z) → (well ≡ true) × cut_after new x y z × (seen new ≡ h c')
      whole x y z k =
          let mid_is = then (calls + x) y z (subst (λ (n : ℕ). cut_after old n (e' + y) (b' + z)) (omega (arith, all)) k) in
          let done = second.enough x y z mid_is.1 in
          (done.0, done.1, done.2 ∙ ap (λ (s : List ℕ). g s calls) mid_is.2 ∙ same calls (omega arith) ∙ ap h all)

      part : (x y z : ℕ) → x < c' → cut_after old x (e' + y) (b' + z) → (t : Bool) → nat_lt x c ≡ t → (well ≡ false) × (seen new ≡ h x)
      part x y z low k true e1 =
          absurd (false≢true (sym (first.short x y z (ltb-true x c e1) (as_many old x x (e' + y) (b' + z) (e + y) (b + z) refl (omega (arith, fewer)) (omega (arith, small)) k)).0))
      part x y z low k false e1 =
          let from : c ≤ x = ltb-false x c e1 in
          let is : x ≡ c + (x - c) = omega (arith, from) in
          let mid_is = then (x - c) y z (subst (λ (n : ℕ). cut_after old n (e' + y) (b' + z)) is k) in
          let done = second.short (x - c) y z (omega (arith, low, all, from)) mid_is.1 in
          (done.0, done.1 ∙ ap (λ (s : List ℕ). g s (x - c)) mid_is.2 ∙ same (x - c) (omega (arith, low, all, from)) ∙ ap h (sym is))
