-- What is looked at when one more line may leave a stop.
use Rattle.std.proofs.Common.{◌≡◌, ◌∙◌, Bool, true, false, List, [], ◌∷◌, ◌++◌, refl, sym, ap, append-nil, if◌then◌else◌}
use Rattle.std.specs.Prelude.{map}
use Rattle.std.specs.List.{flat_map}
use Rattle.std.proofs.lemmas.Grind.{flat_map-append}
use Rattle.std.proofs.lemmas.List.{append_assoc, map-append}
use Rattle.commit_journal.specs.Line.{History, Line}
use Rattle.machine.specs.Telling.History.{clock}
use Rattle.day_page.specs.Stops.{earlier_stops, leaves_slot, stops}

map_choice : {A : Type 0} (f : History → A) (J : History) (b : Bool) → map f (if b then J ∷ [] else []) ≡ (if b then f J ∷ [] else [])
map_choice f J true = refl
map_choice f J false = refl

flat_choice : {A : Type 0} (f : History → List A) (J : History) (b : Bool) → flat_map f (if b then J ∷ [] else []) ≡ (if b then f J else [])
flat_choice f J true = append-nil (f J)
flat_choice f J false = refl

pub map_stops : {A : Type 0} (f : History → A) (l : Line) (J : History) → map f (earlier_stops (l ∷ J)) ≡ map f (earlier_stops J) ++ (if leaves_slot (clock J) l.head then f J ∷ [] else [])
unfolding earlier_stops
map_stops {A} f l J = map-append f (earlier_stops J) _ ∙ ap (λ (more : List A). map f (earlier_stops J) ++ more) (map_choice f J (leaves_slot (clock J) l.head))

pub flat_stops : {A : Type 0} (f : History → List A) (l : Line) (J : History) → flat_map f (earlier_stops (l ∷ J)) ≡ flat_map f (earlier_stops J) ++ (if leaves_slot (clock J) l.head then f J else [])
unfolding earlier_stops
flat_stops {A} f l J = flat_map-append f (earlier_stops J) _ ∙ ap (λ (more : List A). flat_map f (earlier_stops J) ++ more) (flat_choice f J (leaves_slot (clock J) l.head))

-- of lines that are this line and those before it
pub map_at : {A : Type 0} (f : History → A) (later : History) (l : Line) (J : History) (so_far put : List A) → later ≡ l ∷ J → so_far ≡ map f (earlier_stops J) → put ≡ so_far ++ (if leaves_slot (clock J) l.head then f J ∷ [] else []) → put ≡ map f (earlier_stops later)
map_at {A} f later l J so_far put e known is =
    is ∙ ap (λ (xs : List A). xs ++ (if leaves_slot (clock J) l.head then f J ∷ [] else [])) known ∙ sym (map_stops f l J) ∙ ap (λ (H : History). map f (earlier_stops H)) (sym e)

pub flat_at : {A : Type 0} (f : History → List A) (later : History) (l : Line) (J : History) (so_far put : List A) → later ≡ l ∷ J → so_far ≡ flat_map f (earlier_stops J) → put ≡ so_far ++ (if leaves_slot (clock J) l.head then f J else []) → put ≡ flat_map f (earlier_stops later)
flat_at {A} f later l J so_far put e known is =
    is ∙ ap (λ (xs : List A). xs ++ (if leaves_slot (clock J) l.head then f J else [])) known ∙ sym (flat_stops f l J) ∙ ap (λ (H : History). flat_map f (earlier_stops H)) (sym e)

-- with the whole journal as the last of them
pub map_last : {A : Type 0} (f : History → A) (J : History) (so_far put : List A) → so_far ≡ map f (earlier_stops J) → put ≡ so_far ++ f J ∷ [] → put ≡ map f (stops J)
map_last {A} f J so_far put known is = is ∙ ap (λ (xs : List A). xs ++ f J ∷ []) known ∙ sym (map-append f (earlier_stops J) (J ∷ []))

pub flat_last : {A : Type 0} (f : History → List A) (J : History) (so_far put : List A) → so_far ≡ flat_map f (earlier_stops J) → put ≡ so_far ++ f J → put ≡ flat_map f (stops J)
flat_last {A} f J so_far put known is =
    is ∙ ap (λ (xs : List A). xs ++ f J) known ∙ ap (λ (more : List A). flat_map f (earlier_stops J) ++ more) (sym (append-nil (f J))) ∙ sym (flat_map-append f (earlier_stops J) (J ∷ []))

-- after what was there before
pub map_behind : {A : Type 0} (f : History → A) (later : History) (l : Line) (J : History) (base so_far put : List A) → later ≡ l ∷ J → so_far ≡ base ++ map f (earlier_stops J) → put ≡ so_far ++ (if leaves_slot (clock J) l.head then f J ∷ [] else []) → put ≡ base ++ map f (earlier_stops later)
map_behind {A} f later l J base so_far put e known is =
    let part : List A = if leaves_slot (clock J) l.head then f J ∷ [] else [] in
    is ∙ ap (λ (xs : List A). xs ++ part) known ∙ append_assoc base (map f (earlier_stops J)) part ∙ ap (λ (xs : List A). base ++ xs) (sym (map_stops f l J)) ∙ ap (λ (H : History). base ++ map f (earlier_stops H)) (sym e)

pub map_all : {A : Type 0} (f : History → A) (J : History) (base so_far put : List A) → so_far ≡ base ++ map f (earlier_stops J) → put ≡ so_far ++ f J ∷ [] → put ≡ base ++ map f (stops J)
map_all {A} f J base so_far put known is =
    is ∙ ap (λ (xs : List A). xs ++ f J ∷ []) known ∙ append_assoc base (map f (earlier_stops J)) (f J ∷ []) ∙ ap (λ (xs : List A). base ++ xs) (sym (map-append f (earlier_stops J) (J ∷ [])))
