-- The entries of a batch of procedure D that its line doesn't book.
use Rattle.std.proofs.Common.{◌≡◌, ◌∙◌, ℕ, zero, suc, ◌+◌, ◌-◌, ◌<◌, ◌≤◌, Bool, true, false, List, [], ◌∷◌, ◌++◌, length, drop, get_or, refl, ap, sym, subst, arith, add-one, append-nil, append_assoc, map, Result, Ok, Err, IsErr, if◌then◌else◌}
use Rattle.std.specs.Prelude.{nat_eq, nat_lt}
use Rattle.std.specs.List.{flat_map}
use Rattle.std.proofs.lemmas.Bool.{ltb-true, ltb-false, eq-eqb, ne_eqb}
use Rattle.std.proofs.lemmas.Grind.{flat_map-append}
use Rattle.std.proofs.lemmas.List.{drop_all, drop_more}
use Rattle.outside_io.specs.Pieces.{HasPut, SinkState}
use Rattle.outside_io.specs.Calls.{Puts}
use Rattle.outside_io.proofs.PutLemmas.{has_put_is, has_put_more, has_put_none, puts_all, puts_front}
use Rattle.batch_records.specs.DayRecord.{Day}
use Rattle.batch_records.specs.declared.day.Entry.{Entry}
use Rattle.commit_journal.specs.declared.line.Move.{Move}
use Rattle.machine.specs.Records.Messages.{move_of}
use Rattle.machine.specs.Stages.Intake.{afforded_in_order}
use Rattle.status_messages.specs.Statuses.{unafforded_in_order}
use Rattle.status_messages.specs.LineTexts.{is_moved_by, text_unless, unmoved}

-- ---- the next entry

moved : (b : Bool) (x y : List ℕ) → b ≡ true → elim b [ true ↦ x | false ↦ y ] ≡ x
moved true x y e = refl
moved false x y e = cc

unmoved_one : (b : Bool) (x y : List ℕ) → b ≡ false → elim b [ true ↦ x | false ↦ y ] ≡ y
unmoved_one false x y e = refl
unmoved_one true x y e = cc

pub step-moved : (k : ℕ) (e : Entry) (es : List Entry) (ms : List Move) (next : ℕ) → is_moved_by ms next e ≡ true → unmoved k (e ∷ es) (drop next ms) ≡ unmoved (suc k) es (drop (suc next) ms)
unfolding unmoved
step-moved k e es [] next h = cc
step-moved k e es (m ∷ ms) zero h = moved (nat_eq m.amount e.amount) _ _ h
step-moved k e es (m ∷ ms) (suc next) h = step-moved k e es ms next h

pub step-left : (k : ℕ) (e : Entry) (es : List Entry) (ms : List Move) (next : ℕ) → is_moved_by ms next e ≡ false → unmoved k (e ∷ es) (drop next ms) ≡ k ∷ unmoved (suc k) es (drop next ms)
unfolding unmoved
step-left k e es [] zero h = refl
step-left k e es [] (suc next) h = refl
step-left k e es (m ∷ ms) zero h = unmoved_one (nat_eq m.amount e.amount) _ _ h
step-left k e es (m ∷ ms) (suc next) h = step-left k e es ms next h

pub none-left : (k : ℕ) (es : List Entry) (ms : List Move) → es ≡ [] → unmoved k es ms ≡ []
unfolding unmoved
none-left k es ms e = ap (λ xs. unmoved k xs ms) e

-- ---- the numbers so far, and those of the entries from i on

abbrev pub IsSplit : List Entry → List Move → ℕ → ℕ → List ℕ → Type 0
IsSplit es ms i next so_far = so_far ++ unmoved (suc i) (drop i es) (drop next ms) ≡ unmoved 1 es ms

pub split-first : (es : List Entry) (ms : List Move) → IsSplit es ms 0 0 []
split-first es ms = refl

pub split-moved : (es : List Entry) (ms : List Move) (i next : ℕ) (e : Entry) (so_far : List ℕ) → i < length es → e ≡ get_or es i e → is_moved_by ms next e ≡ true → IsSplit es ms i next so_far → IsSplit es ms (i + 1) (next + 1) so_far
split-moved es ms i next e so_far inside at h s =
    let here : drop i es ≡ e ∷ drop (i + 1) es = drop_more es i e inside ∙ ap (λ x. x ∷ drop (i + 1) es) (sym at) in
    let step : unmoved (suc i) (drop i es) (drop next ms) ≡ unmoved (suc (i + 1)) (drop (i + 1) es) (drop (next + 1) ms) =
    ap (λ xs. unmoved (suc i) xs (drop next ms)) here ∙ step-moved (suc i) e (drop (i + 1) es) ms next h
    ∙ ap (λ k. unmoved (suc k) (drop (i + 1) es) (drop (suc next) ms)) (sym (add-one i)) ∙ ap (λ k. unmoved (suc (i + 1)) (drop (i + 1) es) (drop k ms)) (sym (add-one next)) in
    ap (λ xs. so_far ++ xs) (sym step) ∙ s

pub split-left : (es : List Entry) (ms : List Move) (i next : ℕ) (e : Entry) (so_far : List ℕ) → i < length es → e ≡ get_or es i e → is_moved_by ms next e ≡ false → IsSplit es ms i next so_far → IsSplit es ms (i + 1) next (so_far ++ (i + 1) ∷ [])
split-left es ms i next e so_far inside at h s =
    let here : drop i es ≡ e ∷ drop (i + 1) es = drop_more es i e inside ∙ ap (λ x. x ∷ drop (i + 1) es) (sym at) in
    let step : unmoved (suc i) (drop i es) (drop next ms) ≡ (i + 1) ∷ unmoved (suc (i + 1)) (drop (i + 1) es) (drop next ms) =
    ap (λ xs. unmoved (suc i) xs (drop next ms)) here ∙ step-left (suc i) e (drop (i + 1) es) ms next h
    ∙ ap (λ k. k ∷ unmoved (suc k) (drop (i + 1) es) (drop next ms)) (sym (add-one i)) in
    append_assoc so_far ((i + 1) ∷ []) _ ∙ ap (λ xs. so_far ++ xs) (sym step) ∙ s

pub split-all : (es : List Entry) (ms : List Move) (i next : ℕ) (so_far : List ℕ) → length es ≤ i → IsSplit es ms i next so_far → so_far ≡ unmoved 1 es ms
split-all es ms i next so_far past s =
    sym (append-nil so_far) ∙ ap (λ xs. so_far ++ xs) (sym (none-left (suc i) (drop i es) (drop next ms) (drop_all i es past))) ∙ s

-- the texts: of those so far, of the one that is written, and of the rest
pub split-texts : (f : ℕ → List ℕ) (es : List Entry) (ms : List Move) (i next : ℕ) (e : Entry) (so_far : List ℕ) → i < length es → e ≡ get_or es i e → is_moved_by ms next e ≡ false → IsSplit es ms i next so_far →
    flat_map f so_far ++ (f (i + 1) ++ flat_map f (unmoved (suc (i + 1)) (drop (i + 1) es) (drop next ms))) ≡ flat_map f (unmoved 1 es ms)
split-texts f es ms i next e so_far inside at h s =
    let rest : List ℕ = unmoved (suc (i + 1)) (drop (i + 1) es) (drop next ms) in
    sym (flat_map-append f so_far ((i + 1) ∷ rest))
    ∙ ap (flat_map f) (sym (append_assoc so_far ((i + 1) ∷ []) rest) ∙ split-left es ms i next e so_far inside at h s)

-- the texts where no text is due
pub split-same : (f : ℕ → List ℕ) (es : List Entry) (ms : List Move) (i next : ℕ) (so_far : List ℕ) → IsSplit es ms i next so_far → flat_map f so_far ++ ([] ++ flat_map f (unmoved (suc i) (drop i es) (drop next ms))) ≡ flat_map f (unmoved 1 es ms)
split-same f es ms i next so_far s = sym (flat_map-append f so_far (unmoved (suc i) (drop i es) (drop next ms))) ∙ ap (flat_map f) s

-- one more text
texts-more : (f : ℕ → List ℕ) (xs : List ℕ) (x : ℕ) → flat_map f xs ++ f x ≡ flat_map f (xs ++ x ∷ [])
texts-more f xs x = ap (λ t. flat_map f xs ++ t) (sym (append-nil (f x))) ∙ sym (flat_map-append f xs (x ∷ []))

-- what was put in the loop over the entries
pub record Left (old new : SinkState) (f : ℕ → List ℕ) (es : List Entry) (ms : List Move) (i next : ℕ) : Type 0 where
  pub so_far : List ℕ
  pub put : HasPut old new (flat_map f so_far)
  pub split : IsSplit es ms i next so_far
  pub few : next ≤ i

-- the entry at an index of a list that is the batch's entries
pub entry-at : (list es : List Entry) (i : ℕ) (e : Entry) → list ≡ es → e ≡ get_or list i e → e ≡ get_or es i e
entry-at list es i e same at = at ∙ ap (λ xs. get_or xs i e) same

pub left-first : (old : SinkState) (f : ℕ → List ℕ) (es : List Entry) (ms : List Move) → Left old old f es ms 0 0
left-first old f es ms = record { so_far = []; put = has_put_none old; split = split-first es ms; few = omega arith }

pub left-more : {T E : Type 0} (old mid new : SinkState) (f : ℕ → List ℕ) (es : List Entry) (ms : List Move) (i next : ℕ) (e : Entry) (b : Bool) (step : ℕ) (value : T) → i < length es → e ≡ get_or es i e → b ≡ is_moved_by ms next e → step ≡ (if b then 1 else 0) →
    Left old mid f es ms i next → Puts {E = E} mid new (text_unless b (f (i + 1))) (Ok value) → Left old new f es ms (i + 1) (next + step)
left-more {T} {E} old mid new f es ms i next e true step value inside at h one left put =
    let same : next + step ≡ next + 1 = omega (arith, one) in
    let few : next ≤ i = left.few in
    record {
      so_far = left.so_far;
      put = has_put_is _ _ _ _ (append-nil (flat_map f left.so_far)) (has_put_more {T = T} {E = E} old mid new (flat_map f left.so_far) [] value left.put put);
      split = subst (λ k. IsSplit es ms (i + 1) k left.so_far) (sym same) (split-moved es ms i next e left.so_far inside at (sym h) left.split);
      few = omega (arith, one, few);
    }
left-more {T} {E} old mid new f es ms i next e false step value inside at h one left put =
    let same : next + step ≡ next = omega (arith, one) in
    let few : next ≤ i = left.few in
    record {
      so_far = left.so_far ++ (i + 1) ∷ [];
      put = has_put_is _ _ _ _ (texts-more f left.so_far (i + 1)) (has_put_more {T = T} {E = E} old mid new (flat_map f left.so_far) (f (i + 1)) value left.put put);
      split = subst (λ k. IsSplit es ms (i + 1) k (left.so_far ++ (i + 1) ∷ [])) (sym same) (split-left es ms i next e left.so_far inside at (sym h) left.split);
      few = omega (arith, one, few);
    }

pub left-front : {T U E F : Type 0} (old mid new : SinkState) (f : ℕ → List ℕ) (es : List Entry) (ms : List Move) (i next : ℕ) (e : Entry) (b : Bool) (fault : E) (result : Result U F) → i < length es → e ≡ get_or es i e → b ≡ is_moved_by ms next e → IsErr result →
    Left old mid f es ms i next → Puts {T = T} mid new (text_unless b (f (i + 1))) (Err fault) → Puts old new (flat_map f (unmoved 1 es ms)) result
left-front {T} old mid new f es ms i next e true fault result inside at h failed left put =
    puts_front {T = T} old mid new (flat_map f left.so_far) [] (flat_map f (unmoved (suc i) (drop i es) (drop next ms))) _ fault result failed (split-same f es ms i next left.so_far left.split) left.put put
left-front {T} old mid new f es ms i next e false fault result inside at h failed left put =
    puts_front {T = T} old mid new (flat_map f left.so_far) (f (i + 1)) (flat_map f (unmoved (suc (i + 1)) (drop (i + 1) es) (drop next ms))) _ fault result failed (split-texts f es ms i next e left.so_far inside at (sym h) left.split) left.put put

pub left-all : {T E : Type 0} (old new : SinkState) (f : ℕ → List ℕ) (es : List Entry) (ms : List Move) (i next : ℕ) (value : T) → length es ≤ i → Left old new f es ms i next → Puts {E = E} old new (flat_map f (unmoved 1 es ms)) (Ok value)
left-all old new f es ms i next value past left =
    puts_all _ _ _ value (has_put_is _ _ _ _ (ap (flat_map f) (split-all es ms i next left.so_far past left.split)) left.put)

-- ---- a line of D moves what its account covers in turn

-- the next entry that is covered has no more than is available
head-small : (available : ℕ) (es : List Entry) (c : Entry) (cs : List Entry) → afforded_in_order available es ≡ c ∷ cs → c.amount ≤ available
head-small available [] c cs e = cc
head-small available (x ∷ es) c cs e = here (nat_lt available x.amount) refl e (head-small available es c cs)
  where
    first : (a b : Entry) (xs ys : List Entry) → a ∷ xs ≡ b ∷ ys → a ≡ b
    first a b xs ys e = cc

    here : (b : Bool) → nat_lt available x.amount ≡ b → elim b [ true ↦ afforded_in_order available es | false ↦ x ∷ afforded_in_order (available - x.amount) es ] ≡ c ∷ cs → (afforded_in_order available es ≡ c ∷ cs → c.amount ≤ available) → c.amount ≤ available
    here true t e k = k e
    here false t e k = subst (λ (z : Entry). z.amount ≤ available) (first x c _ cs e) (ltb-false available x.amount t)

pub unmoved-uncovered : (day : Day) (available k : ℕ) (es : List Entry) → unmoved k es (map (move_of day) (afforded_in_order available es)) ≡ unafforded_in_order available k es
unfolding unmoved unafforded_in_order
unmoved-uncovered day available k [] = refl
unmoved-uncovered day available k (e ∷ es) = here (nat_lt available e.amount) refl (unmoved-uncovered day available (suc k) es) (unmoved-uncovered day (available - e.amount) (suc k) es)
  where
    left-over : (cs : List Entry) → afforded_in_order available es ≡ cs → available < e.amount → unmoved k (e ∷ es) (map (move_of day) cs) ≡ k ∷ unmoved (suc k) es (map (move_of day) cs)
    left-over [] q l = refl
    left-over (c ∷ cs) q l = unmoved_one (nat_eq c.amount e.amount) _ _ (let small : c.amount ≤ available = head-small available es c cs q in ne_eqb c.amount e.amount (λ same. omega (arith, same)))

    here : (b : Bool) → nat_lt available e.amount ≡ b → unmoved (suc k) es (map (move_of day) (afforded_in_order available es)) ≡ unafforded_in_order available (suc k) es →
        unmoved (suc k) es (map (move_of day) (afforded_in_order (available - e.amount) es)) ≡ unafforded_in_order (available - e.amount) (suc k) es →
        unmoved k (e ∷ es) (map (move_of day) (elim b [ true ↦ afforded_in_order available es | false ↦ e ∷ afforded_in_order (available - e.amount) es ])) ≡ elim b [ true ↦ k ∷ unafforded_in_order available (suc k) es | false ↦ unafforded_in_order (available - e.amount) (suc k) es ]
    here true t passed taken = left-over (afforded_in_order available es) refl (ltb-true available e.amount t) ∙ ap (λ xs. k ∷ xs) passed
    here false t passed taken = moved (nat_eq e.amount e.amount) _ _ (eq-eqb e.amount e.amount refl) ∙ taken
