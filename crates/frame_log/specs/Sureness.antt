-- What is sure is found.
use Rattle.std.specs.Prelude.{◌≡◌, ℕ, Bool, true, false, bytes_eq, List, ◌++◌, length, take, drop, Option, Some, None}
use Rattle.std.specs.Option.{option_map_or}
use Rattle.std.proofs.Common.{refl, sym, ap, ◌∙◌}
use Rattle.std.proofs.lemmas.Bool.{false≢true}
use Rattle.std.proofs.lemmas.List.{take-append-drop}
use Rattle.std.proofs.lemmas.Slice.Eq.{bytes_eq-Decides}
use Rattle.kept_port.specs.Logs.{Begins, Finds}
use Rattle.kept_text.specs.Frames.{text_in}
use Rattle.frame_log.specs.Standing.{finds_from}

begun : (sure text : List ℕ) → bytes_eq (take (length sure) text) sure ≡ true → Begins sure text
begun sure text is = record {
  rest = drop (length sure) text;
  is = sym (take-append-drop (length sure) text) ∙ ap (λ (xs : List ℕ). xs ++ drop (length sure) text) ((bytes_eq-Decides (take (length sure) text) sure).0 is);
}

pub finds_it : (sure c : List ℕ) → finds_from sure c ≡ true → Finds text_in sure c
finds_it sure c is = here (text_in c) refl
  where
    here : (found : Option (List ℕ)) → text_in c ≡ found → Finds text_in sure c
    here None e = absurd (false≢true (sym (ap (λ (o : Option (List ℕ)). option_map_or (λ (text : List ℕ). bytes_eq (take (length sure) text) sure) o false) e) ∙ is))
    here (Some text) e =
        record { text = text; found = e; begins = begun sure text (sym (ap (λ (o : Option (List ℕ)). option_map_or (λ (text : List ℕ). bytes_eq (take (length sure) text) sure) o false) e) ∙ is) }
