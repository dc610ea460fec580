-- What a fold over numbers keeps, and what one of its steps brings about for good.
use Rattle.std.proofs.Common.{ℕ, List, [], ◌∷◌, refl, sym, subst, inl, inr}
use Rattle.std.specs.Prelude.{fold}
use Rattle.settlement_laws.proofs.Base.Lists.{IsIn}

pub fold_keeps : {X : Type 0} (Q : X → Type 0) (f : X → ℕ → X) (b : X) (ns : List ℕ) → ((c : X) (n : ℕ) → IsIn n ns → Q c → Q (f c n)) → Q b → Q (fold f b ns)
fold_keeps Q f b [] k h = h
fold_keeps Q f b (n ∷ ns) k h = fold_keeps Q f (f b n) ns (λ c m i. k c m (inr i)) (k b n (inl refl) h)

pub fold_meets : {X : Type 0} (Q : X → Type 0) (f : X → ℕ → X) → ((c : X) (n : ℕ) → Q c → Q (f c n)) → (n : ℕ) → ((c : X) → Q (f c n)) → (b : X) (ns : List ℕ) → IsIn n ns → Q (fold f b ns)
fold_meets Q f k n h b [] i = absurd i
fold_meets Q f k n h b (m ∷ ms) (inl e) = fold_keeps Q f (f b m) ms (λ c j _. k c j) (subst (λ j. Q (f b j)) (sym e) (h b))
fold_meets Q f k n h b (m ∷ ms) (inr i) = fold_meets Q f k n h (f b m) ms i
