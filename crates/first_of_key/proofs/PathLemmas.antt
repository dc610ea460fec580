-- What a search comes to, and what a key that is entered changes of it.
use Rattle.std.proofs.Common.{◌≡◌, ◌≢◌, ℕ, ◌+◌, ◌-◌, ◌<◌, ◌≤◌, Bool, true, false, length, zero, suc, refl, add-one, ap, sym, ◌∙◌, subst, ⊎_elim, arith}
use Rattle.std.proofs.lemmas.Bool.{cases_lt, cases_eq}
use Rattle.std.proofs.lemmas.List.{get_or_past}
use Rattle.first_of_key.specs.declared.key.Key.{Key}
use Rattle.first_of_key.specs.declared.node.TheConstants.{NONE}
use Rattle.first_of_key.specs.First.{no_key}
use Rattle.first_of_key.specs.Sides.{head, side}
use Rattle.first_of_key.specs.Paths.{Tree, leaf, node_at, head_at, link, reached, IsFound, IsDownward, IsSearchable, IsUnmet, IsAt}

pub none_of : (b : Bool) → link b (leaf no_key) ≡ NONE
none_of true = refl
none_of false = refl

-- the next node is no earlier, and at most NONE
pub next_rises : (t : Tree) (b : Bool) (i : ℕ) → length t.nodes ≤ NONE → IsDownward t → i ≤ NONE → i ≤ link b (node_at t i)
next_rises t b i small s low =
    ⊎_elim
    (λ (h : i < length t.nodes). let later : i < link b (node_at t i) = s.behind i b h in omega arith)
    (λ (h : length t.nodes ≤ i).
    let none : link b (node_at t i) ≡ NONE = ap (link b) (get_or_past t.nodes i (leaf no_key) h) ∙ none_of b in
    omega arith)
    (cases_lt i (length t.nodes))

pub next_low : (t : Tree) (b : Bool) (i : ℕ) → length t.nodes ≤ NONE → IsDownward t → link b (node_at t i) ≤ NONE
next_low t b i small s =
    ⊎_elim
    (λ (h : i < length t.nodes).
    ⊎_elim
    (λ (e : link b (node_at t i) ≡ NONE). omega arith)
    (λ (ne : link b (node_at t i) ≢ NONE). let inner : link b (node_at t i) < length t.nodes = s.inside i b h ne in omega arith)
    (cases_eq (link b (node_at t i)) NONE))
    (λ (h : length t.nodes ≤ i).
    let none : link b (node_at t i) ≡ NONE = ap (link b) (get_or_past t.nodes i (leaf no_key) h) ∙ none_of b in
    omega arith)
    (cases_lt i (length t.nodes))

pub reached-zero : (t : Tree) (key : Key) → reached t key 0 ≡ head_at t (head (length t.heads) key)
unfolding reached
reached-zero t key = refl

pub first_low : (t : Tree) (h : ℕ) → length t.nodes ≤ NONE → IsDownward t → head_at t h ≤ NONE
first_low t h small s =
    ⊎_elim
    (λ (e : head_at t h ≡ NONE). omega arith)
    (λ (ne : head_at t h ≢ NONE). let inner : head_at t h < length t.nodes = s.first h ne in omega arith)
    (cases_eq (head_at t h) NONE)

pub reached-suc : (t : Tree) (key : Key) (d : ℕ) → reached t key (d + 1) ≡ link (side key d) (node_at t (reached t key d))
unfolding reached
reached-suc t key d = rw add-one refl

pub reached_low : (t : Tree) (key : Key) (d : ℕ) → length t.nodes ≤ NONE → IsDownward t → reached t key d ≤ NONE
reached_low t key zero small s = subst (λ (r : ℕ). r ≤ NONE) (sym (reached-zero t key)) (first_low t (head (length t.heads) key) small s)
reached_low t key (suc d) small s =
    let n : suc d ≡ d + 1 = omega arith in
    subst (λ (m : ℕ). reached t key m ≤ NONE) (sym n) (subst (λ (r : ℕ). r ≤ NONE) (sym (reached-suc t key d)) (next_low t (side key d) (reached t key d) small s))

reached_rises : (t : Tree) (key : Key) (d m : ℕ) → length t.nodes ≤ NONE → IsDownward t → reached t key d ≤ reached t key (d + m)
reached_rises t key d zero small s = let e : d + zero ≡ d = omega arith in subst (λ (m : ℕ). reached t key d ≤ reached t key m) (sym e) (omega arith)
reached_rises t key d (suc m) small s =
    let e : d + suc m ≡ d + m + 1 = omega arith in
    let so_far : reached t key d ≤ reached t key (d + m) = reached_rises t key d m small s in
    let next : reached t key (d + m) ≤ link (side key (d + m)) (node_at t (reached t key (d + m))) = next_rises t (side key (d + m)) (reached t key (d + m)) small s (reached_low t key (d + m) small s) in
    let is : reached t key (d + m + 1) ≡ link (side key (d + m)) (node_at t (reached t key (d + m))) = reached-suc t key (d + m) in
    subst (λ (m : ℕ). reached t key d ≤ reached t key m) (sym e) (omega arith)

pub rises : (t : Tree) (key : Key) (d e : ℕ) → length t.nodes ≤ NONE → IsDownward t → d ≤ e → reached t key d ≤ reached t key e
rises t key d e small s order =
    let is : d + (e - d) ≡ e = omega arith in
    subst (λ (m : ℕ). reached t key d ≤ reached t key m) is (reached_rises t key d (e - d) small s)

-- a key that is in the list is met before or at its own number, and so is no key that was met up to a depth, where a search goes no further
pub met : (t : Tree) (key : Key) (k : ℕ) → IsSearchable t → k < length t.nodes → (node_at t k).key ≡ key → IsFound t key k
met t key k s within is = subst (λ (x : Key). IsFound t x k) is (s.found k within)

-- where no node before a depth has the key, it isn't that of a number before what is reached there
pub none_before : (t : Tree) (key : Key) (depth k : ℕ) → length t.nodes ≤ NONE → IsSearchable t → IsUnmet t key depth → k < reached t key depth → k < length t.nodes → (node_at t k).key ≢ key
none_before t key depth k small s unmet before within is =
    let f : IsFound t key k = met t key k s within is in
    ⊎_elim
    (λ (h : f.depth < depth). unmet f.depth h f.same)
    (λ (h : depth ≤ f.depth).
    let later : reached t key depth ≤ reached t key f.depth = rises t key depth f.depth small s.downward h in
    let low : reached t key f.depth ≤ k = f.at_most in
    absurd (omega arith))
    (cases_lt f.depth depth)

-- one step further
pub unmet_more : (t : Tree) (key : Key) (at depth : ℕ) → IsUnmet t key depth → at ≡ reached t key depth → (node_at t at).key ≢ key → IsUnmet t key (depth + 1)
unmet_more t key at depth unmet is other d before e =
    ⊎_elim
    (λ (h : d < depth). unmet d h e)
    (λ (h : depth ≤ d).
    let same : d ≡ depth = omega arith in
    other (ap (λ (i : ℕ). (node_at t i).key) (is ∙ ap (reached t key) (sym same)) ∙ e))
    (cases_lt d depth)

pub step : (t : Tree) (key : Key) (at depth next : ℕ) → IsSearchable t → IsAt t key at depth → (node_at t at).key ≢ key → next ≡ link (side key depth) (node_at t at) → next ≢ NONE → IsAt t key next (depth + 1)
step t key at depth next s here other is some =
    let later : at < link (side key depth) (node_at t at) = s.downward.behind at (side key depth) here.within in
    let inner : link (side key depth) (node_at t at) < length t.nodes = s.downward.inside at (side key depth) here.within (λ e. some (is ∙ e)) in
    record {
      within = omega arith;
      is = is ∙ (ap (λ (i : ℕ). link (side key depth) (node_at t i)) here.is ∙ sym (reached-suc t key depth));
      unmet = unmet_more t key at depth here.unmet here.is other;
    }

pub start : (t : Tree) (key : Key) (at : ℕ) → IsSearchable t → at ≡ head_at t (head (length t.heads) key) → at ≢ NONE → IsAt t key at 0
start t key at s is some =
    let inner : head_at t (head (length t.heads) key) < length t.nodes = s.downward.first (head (length t.heads) key) (λ e. some (is ∙ e)) in
    record {
      within = omega arith;
      is = is ∙ sym (reached-zero t key);
      unmet = λ d before _. absurd (omega arith);
    }
