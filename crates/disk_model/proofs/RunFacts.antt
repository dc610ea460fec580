-- How a run of calls of a disk goes on.
use Rattle.std.proofs.Common.{◌≡◌, inl, inr, ⊎_elim, ℕ, ◌+◌, ◌≤◌, List, refl, ◌∙◌, arith}
use Rattle.disk_model.specs.Crashes.{AddsNone, Elapses}
use Rattle.disk_model.specs.Lasting.{LastsForLess, StillLasts}
use Rattle.disk_model.specs.Runs.{LeavesOnly, OnlyLooks}

module _ {D : Type 0} (seen : D → List ℕ) (image : D → List ℕ → Type 0) (clock : D → ℕ) (since : D → ℕ → List ℕ → Type 0) where
  -- before the first call
  pub started : (old : D) (P : List ℕ → Type 0) → ((c : List ℕ) → since old (clock old) c → P c) → LeavesOnly clock since old old P
  started old P here = record { later = omega arith; each = here; before = λ t c low left. inl left }

  -- one call more, after which each image has P
  pub goes_on : (old mid new : D) (P : List ℕ → Type 0) → LeavesOnly clock since old mid P → Elapses seen image clock since mid new → ((c : List ℕ) → image new c → P c) → LeavesOnly clock since old new P
  goes_on old mid new P so_far call here = record {
    later = omega (arith, so_far.later, call.later);
    each = λ c left. ⊎_elim (so_far.each c) (here c) (call.nothing_else (clock old) c so_far.later left);
    before = λ t c low left. ⊎_elim (so_far.before t c low) (λ now. inr (here c now)) (call.nothing_else t c (omega (arith, low, so_far.later)) left);
  }

  -- one run after the other
  pub then_run : (old mid new : D) (P Q : List ℕ → Type 0) → LeavesOnly clock since old mid P → LeavesOnly clock since mid new Q → ((c : List ℕ) → Q c → P c) → LeavesOnly clock since old new P
  then_run old mid new P Q first second weaker = record {
    later = omega (arith, first.later, second.later);
    each = λ c left. ⊎_elim (first.each c) (weaker c) (second.before (clock old) c first.later left);
    before = λ t c low left. ⊎_elim (first.before t c low) (λ q. inr (weaker c q)) (second.before t c (omega (arith, low, first.later)) left);
  }

  pub looks_nowhere : (old : D) → ((c : List ℕ) → since old (clock old) c → image old c) → OnlyLooks seen image clock since old old 0
  looks_nowhere old now = record { same = refl; images = λ c is. is; moments = started old (image old) now; time = omega arith }

  -- a call that writes nothing
  pub looks_once : (old new : D) → ((c : List ℕ) → since old (clock old) c → image old c) → seen new ≡ seen old → AddsNone (image old) (image new) → Elapses seen image clock since old new → OnlyLooks seen image clock since old new 1
  looks_once old new now same none call = record {
    same = same;
    images = none;
    moments = goes_on old old new (image old) (started old (image old) now) call none;
    time = omega (arith, call.at_most_one);
  }

  pub looks_on : (old mid new : D) (m n : ℕ) → OnlyLooks seen image clock since old mid m → OnlyLooks seen image clock since mid new n → OnlyLooks seen image clock since old new (m + n)
  looks_on old mid new m n first second = record {
    same = second.same ∙ first.same;
    images = λ c is. first.images c (second.images c is);
    moments = then_run old mid new (image old) (image mid) first.moments second.moments first.images;
    time = omega (arith, first.time, second.time);
  }

  pub looks_less : (old new : D) (m n : ℕ) → m ≤ n → OnlyLooks seen image clock since old new m → OnlyLooks seen image clock since old new n
  looks_less old new m n le looks = record { same = looks.same; images = looks.images; moments = looks.moments; time = omega (arith, le, looks.time) }

-- ---- for how long it is sure to last

module _ {D : Type 0} (lasts : D → ℕ → ℕ → ℕ → Type 0) (faults : D → ℕ) (less : LastsForLess lasts) where
  -- no call
  pub lasts_still : (old : D) (calls changes bytes : ℕ) → StillLasts lasts faults old old calls changes bytes
  lasts_still old calls changes bytes = record { each = λ c e b h. (less old (calls + c) (changes + e) (bytes + b) c e b (omega arith) (omega arith) (omega arith) h, refl) }

  -- some calls, and then others
  pub lasts_on : (old mid new : D) (c e b calls changes bytes c' e' b' : ℕ) → c + calls ≤ c' → e + changes ≤ e' → b + bytes ≤ b' → StillLasts lasts faults old mid c e b → StillLasts lasts faults mid new calls changes bytes → StillLasts lasts faults old new c' e' b'
  lasts_on old mid new c e b calls changes bytes c' e' b' few fewer small first second = record {
    each = λ x y z h.
        let one = first.each (calls + x) (changes + y) (bytes + z) (less old (c' + x) (e' + y) (b' + z) (c + (calls + x)) (e + (changes + y)) (b + (bytes + z)) (omega (arith, few)) (omega (arith, fewer)) (omega (arith, small)) h) in
        let two = second.each x y z one.0 in
        (two.0, two.1 ∙ one.1);
  }

  pub lasts_less : (old new : D) (c e b calls changes bytes : ℕ) → c ≤ calls → e ≤ changes → b ≤ bytes → StillLasts lasts faults old new c e b → StillLasts lasts faults old new calls changes bytes
  lasts_less old new c e b calls changes bytes few fewer small is = record {
    each = λ x y z h.
        is.each x y z (less old (calls + x) (changes + y) (bytes + z) (c + x) (e + y) (b + z) (omega (arith, few)) (omega (arith, fewer)) (omega (arith, small)) h);
  }
