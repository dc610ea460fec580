-- The statuses that a party takes, one after another: it refuses none of them, and which it has then.
use Rattle.std.proofs.Common.{◌≡◌, ◌∙◌, ℕ, Bool, true, false, cond, List, [], ◌∷◌, ◌++◌, Some, None, Result, Ok, Err, refl, sym, ap, append-nil, append_assoc}
use Rattle.std.specs.Prelude.{filter, reverse}
use Rattle.std.proofs.lemmas.List.{reverse-append}
use Rattle.batch_records.specs.DayRecord.{Day}
use Rattle.status_messages.specs.declared.status.Status.{Status}
use Rattle.as_client.specs.declared.view.ViewFault.{ViewFault}
use Rattle.as_client.specs.Views.{is_addressed, view_fault}
use Rattle.as_client.specs.ViewAnswers.{take_all}

-- one status more, if it is addressed to the party
abbrev pub onto : List ℕ → Status → List Status → List Status
onto name s ss = cond (is_addressed name s) (s ∷ ss) ss

-- what a party has that took ss, after these statuses, if it refuses none
unfoldable pub taking : List ℕ → List Status → List Status → List Status
taking name ss [] = ss
taking name ss (s ∷ later) = taking name (onto name s ss) later

-- it refuses none
unfoldable pub Passes : Day → List ℕ → List Status → List Status → Type 0
Passes day name ss [] = Unit {0}
Passes day name ss (s ∷ later) = (is_addressed name s ≡ true → view_fault day name ss s ≡ None) × Passes day name (onto name s ss) later

pub all_taken : (day : Day) (name : List ℕ) (ss xs : List Status) → Passes day name ss xs → take_all day name ss xs ≡ Ok (taking name ss xs)
unfolding taking Passes take_all
all_taken day name ss [] h = refl
all_taken day name ss (s ∷ xs) h = here (is_addressed name s) refl h.0 (all_taken day name (onto name s ss) xs h.1)
  where
    here : (b : Bool) → is_addressed name s ≡ b → (is_addressed name s ≡ true → view_fault day name ss s ≡ None) → take_all day name (cond b (s ∷ ss) ss) xs ≡ Ok (taking name (cond b (s ∷ ss) ss) xs)
        → ◌≡◌ {A = Result (List Status) ViewFault} (elim b [ false ↦ take_all day name ss xs | true ↦ elim (view_fault day name ss s) [ None ↦ take_all day name (s ∷ ss) xs | Some fault ↦ Err fault ] ]) (Ok (taking name (cond b (s ∷ ss) ss) xs))
    here true e fine k = rw (fine e) k
    here false e fine k = k

pub taking-append : (name : List ℕ) (ss xs ys : List Status) → taking name ss (xs ++ ys) ≡ taking name (taking name ss xs) ys
unfolding taking
taking-append name ss [] ys = refl
taking-append name ss (x ∷ xs) ys = taking-append name (onto name x ss) xs ys

pub passes-append : (day : Day) (name : List ℕ) (ss xs ys : List Status) → Passes day name ss xs → Passes day name (taking name ss xs) ys → Passes day name ss (xs ++ ys)
unfolding taking Passes
passes-append day name ss [] ys h k = k
passes-append day name ss (x ∷ xs) ys h k = (h.0, passes-append day name (onto name x ss) xs ys h.1 k)

-- those that are addressed to the party, the newest first
pub taking_is : (name : List ℕ) (ss xs : List Status) → taking name ss xs ≡ reverse (filter (is_addressed name) xs) ++ ss
unfolding taking
taking_is name ss [] = refl
taking_is name ss (x ∷ xs) = here (is_addressed name x) (taking_is name (onto name x ss) xs)
  where
    here : (b : Bool) → taking name (cond b (x ∷ ss) ss) xs ≡ reverse (filter (is_addressed name) xs) ++ cond b (x ∷ ss) ss
        → taking name (cond b (x ∷ ss) ss) xs ≡ reverse (cond b (x ∷ filter (is_addressed name) xs) (filter (is_addressed name) xs)) ++ ss
    here true k = k ∙ sym (append_assoc (reverse (filter (is_addressed name) xs)) (x ∷ []) ss) ∙ ap (λ ys. ys ++ ss) (sym (reverse-append (x ∷ []) (filter (is_addressed name) xs)))
    here false k = k

pub taking_first : (name : List ℕ) (xs : List Status) → taking name [] xs ≡ reverse (filter (is_addressed name) xs)
taking_first name xs = taking_is name [] xs ∙ append-nil (reverse (filter (is_addressed name) xs))
