-- A line of fields, field by field.
use Rattle.std.proofs.Common.{◌≡◌, ◌∙◌, ℕ, zero, suc, ◌+◌, ◌-◌, ◌<◌, ◌≤◌, List, [], ◌∷◌, ◌++◌, length, map, take, drop, get_or, slice_set, refl, ap, sym, arith, append_assoc, append-nil, length-append, take-append-drop}
use Rattle.std.proofs.Math.Seq.{take-append_seam}
use Rattle.std.proofs.lemmas.Grind.{take-set_at}
use Rattle.std.proofs.lemmas.List.{map-append, take_more, take_all, length-map, length-take-le}
use Rattle.std.specs.List.{flat_map, join_with_byte}
use Rattle.outside_io.specs.TextLine.{semicolon, line_feed, text_line}

-- what stands before the field at this place, from 0
abbrev pub mark_before : ℕ → List ℕ
mark_before zero = []
mark_before (suc i) = semicolon ∷ []

abbrev pub joined : List (List ℕ) → List ℕ
joined fields = join_with_byte semicolon fields

joined_push : (fields : List (List ℕ)) (field : List ℕ) → joined (fields ++ field ∷ []) ≡ joined fields ++ (mark_before (length fields) ++ field)
joined_push [] field = refl
joined_push (x ∷ []) field = refl
joined_push (x ∷ y ∷ fields) field =
    ap (λ (rest : List ℕ). x ++ semicolon ∷ rest) (joined_push (y ∷ fields) field)
    ∙ sym (append_assoc x (semicolon ∷ joined (y ∷ fields)) (semicolon ∷ field))

joined_front : (fields others : List (List ℕ)) → (rest : List ℕ) × (joined fields ++ rest ≡ joined (fields ++ others))
joined_front fields [] = ([], append-nil (joined fields) ∙ ap joined (sym (append-nil fields)))
joined_front fields (field ∷ others) =
    let more = joined_front (fields ++ field ∷ []) others in
    let mine : List ℕ = mark_before (length fields) ++ field in (
      mine ++ more.0,
      sym (append_assoc (joined fields) mine more.0) ∙ ap (λ (front : List ℕ). front ++ more.0) (sym (joined_push fields field)) ∙ more.1 ∙ ap joined (append_assoc fields (field ∷ []) others),
    )

-- the fields before a place, and the one there
pub joined_more : {X : Type 0} (bytes : X → List ℕ) (fields : List X) (i : ℕ) (mark : List ℕ) (d : X) → mark ≡ mark_before i → i < length fields → joined (map bytes (take i fields)) ++ (mark ++ bytes (get_or fields i d)) ≡ joined (map bytes (take (i + 1) fields))
joined_more bytes fields i mark d is inside =
    let front = map bytes (take i fields) in
    let field = get_or fields i d in
    let more : map bytes (take (i + 1) fields) ≡ front ++ bytes field ∷ [] = ap (map bytes) (take_more fields i d inside) ∙ map-append bytes (take i fields) (field ∷ []) in
    let count : i ≡ length front = sym (length-map (take i fields) bytes ∙ length-take-le i fields (omega arith)) in
    ap (λ (m : List ℕ). joined front ++ (m ++ bytes field)) (is ∙ ap mark_before count) ∙ sym (joined_push front (bytes field)) ∙ sym (ap joined more)

-- those before a place, the one there, and the rest of the line
pub line_parts : {X : Type 0} (bytes : X → List ℕ) (fields : List X) (i : ℕ) (mark : List ℕ) (d : X) → mark ≡ mark_before i → i < length fields → (rest : List ℕ) × (joined (map bytes (take i fields)) ++ ((mark ++ bytes (get_or fields i d)) ++ rest) ≡ text_line (map bytes fields))
line_parts bytes fields i mark d is inside =
    let before = map bytes (take i fields) in
    let front = map bytes (take (i + 1) fields) in
    let more = joined_front front (map bytes (drop (i + 1) fields)) in
    let mine : List ℕ = mark ++ bytes (get_or fields i d) in
    let line : List ℕ = line_feed ∷ [] in
    let all : front ++ map bytes (drop (i + 1) fields) ≡ map bytes fields = sym (map-append bytes (take (i + 1) fields) (drop (i + 1) fields)) ∙ ap (map bytes) (take-append-drop (i + 1) fields) in (
      more.0 ++ line,
      sym (append_assoc (joined before) mine (more.0 ++ line)) ∙ ap (λ (text : List ℕ). text ++ (more.0 ++ line)) (joined_more bytes fields i mark d is inside)
          ∙ sym (append_assoc (joined front) more.0 line) ∙ ap (λ (text : List ℕ). text ++ line) (more.1 ∙ ap joined all),
    )

-- all of them, and the end of the line
pub line_end : {X : Type 0} (bytes : X → List ℕ) (fields : List X) (i : ℕ) → length fields ≤ i → joined (map bytes (take i fields)) ++ line_feed ∷ [] ≡ text_line (map bytes fields)
line_end bytes fields i past = ap (λ (all : List _). text_line (map bytes all)) (take_all i fields past)

-- ---- fields of which each has a semicolon after it

abbrev pub marked : List ℕ → List ℕ
marked field = field ++ semicolon ∷ []

-- all of them are the line but for its end
marked_joined : {X : Type 0} (bytes : X → List ℕ) (x : X) (xs : List X) → flat_map (λ field. marked (bytes field)) (x ∷ xs) ≡ joined (map bytes (x ∷ xs)) ++ semicolon ∷ []
marked_joined bytes x [] = append-nil (marked (bytes x))
marked_joined bytes x (y ∷ xs) =
    append_assoc (bytes x) (semicolon ∷ []) (flat_map (λ field. marked (bytes field)) (y ∷ xs))
    ∙ ap (λ (rest : List ℕ). bytes x ++ semicolon ∷ rest) (marked_joined bytes y xs)
    ∙ sym (append_assoc (bytes x) (semicolon ∷ joined (map bytes (y ∷ xs))) (semicolon ∷ []))

-- two texts that are the same with a byte after each
fronts_same : (xs ys : List ℕ) (x y : ℕ) → length xs ≡ length ys → xs ++ x ∷ [] ≡ ys ++ y ∷ [] → xs ≡ ys
fronts_same xs ys x y count is =
    sym (take-append_seam xs (x ∷ [])) ∙ ap (take (length xs)) is ∙ ap (λ (n : ℕ). take n (ys ++ y ∷ [])) count ∙ take-append_seam ys (y ∷ [])

ended_of : {X : Type 0} (bytes : X → List ℕ) (fields : List X) (used : ℕ) (room : List ℕ) → (used ≡ 0 → ⊥) → used ≤ length room → take used room ≡ flat_map (λ field. marked (bytes field)) fields
    → take used (slice_set room (used - 1) line_feed) ≡ text_line (map bytes fields)
ended_of bytes [] used room some within is = absurd (some (sym (length-take-le used room within) ∙ ap length is))
ended_of bytes (x ∷ xs) used room some within is =
    let text : List ℕ = joined (map bytes (x ∷ xs)) in
    let same : take used room ≡ text ++ semicolon ∷ [] = is ∙ marked_joined bytes x xs in
    let count : used ≡ length text + 1 = sym (length-take-le used room within) ∙ ap length same ∙ length-append text (semicolon ∷ []) in
    let n : ℕ = length text in
    let inside : n < length room = omega (arith, count, within) in
    let before : used - 1 ≡ n = omega (arith, count) in
    let all : take n room ++ get_or room n 0 ∷ [] ≡ text ++ semicolon ∷ [] = sym (take_more room n 0 inside) ∙ ap (λ (k : ℕ). take k room) (sym count) ∙ same in
    let front : take n room ≡ text = fronts_same (take n room) text (get_or room n 0) semicolon (length-take-le n room (omega (arith, inside))) all in
    ap (λ (k : ℕ). take used (slice_set room k line_feed)) before ∙ take-set_at room n used line_feed count inside ∙ ap (λ (t : List ℕ). t ++ line_feed ∷ []) front

-- where the last semicolon becomes the end of the line
pub ended : {X : Type 0} (bytes : X → List ℕ) (fields : List X) (i used : ℕ) (room : List ℕ) → length fields ≤ i → (used ≡ 0 → ⊥) → used ≤ length room
    → take used room ≡ flat_map (λ field. marked (bytes field)) (take i fields) → take used (slice_set room (used - 1) line_feed) ≡ text_line (map bytes fields)
ended bytes fields i used room past some within is =
    ended_of bytes fields used room some within (is ∙ ap (flat_map (λ field. marked (bytes field))) (take_all i fields past))
