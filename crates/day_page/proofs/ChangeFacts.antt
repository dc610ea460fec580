-- The changes of a batch, one mark more.
use Rattle.std.proofs.Common.{◌≡◌, ◌∙◌, ◌<◌, ◌+◌, ℕ, Bool, true, false, List, [], ◌∷◌, ◌++◌, length, drop, get_or, sym, ap, append-nil}
use Rattle.std.specs.Prelude.{if◌then◌else◌}
use Rattle.std.proofs.lemmas.List.{append_assoc, drop_more}
use Rattle.machine.specs.declared.answers.Phase.{Phase}
use Rattle.day_page.specs.declared.bars.Mark.{Mark}
use Rattle.day_page.specs.Bars.{changes_from, is_change}

by_choice : (n : ℕ) (before : Phase) (m : Mark) (ms items : List Mark) (b : Bool) →
    (items ++ (if b then m ∷ [] else [])) ++ changes_from n (if b then m.phase else before) ms ≡ items ++ (if b then m ∷ changes_from n m.phase ms else changes_from n before ms)
by_choice n before m ms items true = append_assoc items (m ∷ []) (changes_from n m.phase ms)
by_choice n before m ms items false = ap (λ (xs : List Mark). xs ++ changes_from n before ms) (append-nil items)

pub change_step : (n : ℕ) (before phase : Phase) (m : Mark) (ms items new : List Mark) → phase ≡ (if is_change n before m then m.phase else before) → new ≡ items ++ (if is_change n before m then m ∷ [] else []) →
    new ++ changes_from n phase ms ≡ items ++ changes_from n before (m ∷ ms)
unfolding changes_from
change_step n before phase m ms items new p e = (λ i. e i ++ changes_from n (p i) ms) ∙ by_choice n before m ms items (is_change n before m)

-- with the marks that are left
pub change_at : (n : ℕ) (before phase : Phase) (marks : List Mark) (i : ℕ) (d : Mark) (items new whole : List Mark) → i < length marks → items ++ changes_from n before (drop i marks) ≡ whole →
    phase ≡ (if is_change n before (get_or marks i d) then (get_or marks i d).phase else before) → new ≡ items ++ (if is_change n before (get_or marks i d) then get_or marks i d ∷ [] else []) → new ++ changes_from n phase (drop (i + 1) marks) ≡ whole
change_at n before phase marks i d items new whole inside known p e =
    change_step n before phase (get_or marks i d) (drop (i + 1) marks) items new p e ∙ ap (λ (ms : List Mark). items ++ changes_from n before ms) (sym (drop_more marks i d inside)) ∙ known
