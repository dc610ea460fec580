-- Searches and the tests that say whether they find something.
use Rattle.std.proofs.Common.{◌≡◌, ℕ, Bool, true, false, not, ◌&&◌, ◌||◌, List, [], ◌∷◌, Option, Some, None, refl, sym, ap, ◌∙◌, cond}
use Rattle.std.specs.Prelude.{is_some, is_none, fold, option_map, if◌then◌else◌}
use Rattle.std.specs.List.{list_all, list_any, find}
use Rattle.batch_records.specs.DayRecord.{Day}
use Rattle.commit_journal.specs.declared.line.Want.TheVariants as wants
use Rattle.commit_journal.specs.Line.{History}
use Rattle.machine.specs.declared.answers.Item.{Item}
use Rattle.machine.specs.Records.Setup.{account_numbers}
use Rattle.machine.specs.Records.Messages.{message_numbers, item_numbers}
use Rattle.machine.specs.Telling.History.{taken}
use Rattle.machine.specs.Telling.Facts.{is_reached, untaken_reached}
use Rattle.machine.specs.Stages.Pending.{item, is_blocker, is_blocked_by, is_blocked}
use Rattle.machine.specs.Stages.Blockers.{ahead_of, pick, pick_of, first_blocker}
use Rattle.machine.specs.Making.Lines.{item_want, is_ready_item, is_ready_message, is_ready, may_sweep, all_taken}
use Rattle.machine.specs.Making.FirstReady.{first_ready, first_ready_of}

pub none_is : {X : Type 0} (o : Option X) → is_none o ≡ not (is_some o)
none_is None = refl
none_is (Some x) = refl

pub mapped_is : {X Y : Type 0} (f : X → Y) (o : Option X) → is_some (option_map f o) ≡ is_some o
mapped_is f None = refl
mapped_is f (Some x) = refl

-- something is found exactly where some item passes
pub find_any : {X : Type 0} (p : X → Bool) (xs : List X) → is_some (find p xs) ≡ list_any p xs
find_any p [] = refl
find_any p (x ∷ xs) = here (p x) (find_any p xs)
  where
    here : (b : Bool) → is_some (find p xs) ≡ list_any p xs → is_some (cond b (Some x) (find p xs)) ≡ (b || list_any p xs)
    here true e = refl
    here false e = e

-- what is found passes
pub find_passes : {X : Type 0} (p : X → Bool) (xs : List X) (x : X) → find p xs ≡ Some x → p x ≡ true
find_passes p [] x e = cc
find_passes p (y ∷ ys) x e = here (p y) refl e (find_passes p ys x)
  where
    here : (b : Bool) → p y ≡ b → cond b (Some y) (find p ys) ≡ Some x → (find p ys ≡ Some x → p x ≡ true) → p x ≡ true
    here true h e later = let same : y ≡ x = cc in ap p (sym same) ∙ h
    here false h e later = later e

pub all_none : {X : Type 0} (p : X → Bool) (xs : List X) → list_all (λ x. not (p x)) xs ≡ is_none (find p xs)
all_none p [] = refl
all_none p (x ∷ xs) = here (p x) (all_none p xs)
  where
    here : (b : Bool) → list_all (λ x. not (p x)) xs ≡ is_none (find p xs) → (not b && list_all (λ x. not (p x)) xs) ≡ is_none (cond b (Some x) (find p xs))
    here true e = refl
    here false e = e

-- nothing is found exactly where each item that has the one has the other
pub find_none : {X Y : Type 0} (p : X → Bool) (q : X → Option Y) (xs : List X) → is_none (find (λ x. p x && is_none (q x)) xs) ≡ list_all (λ x. not (p x) || is_some (q x)) xs
find_none {Y = Y} p q [] = refl
find_none {Y = Y} p q (x ∷ xs) = here (p x) (q x) (find_none p q xs)
  where
    here : (b : Bool) (o : Option Y) → is_none (find (λ x. p x && is_none (q x)) xs) ≡ list_all (λ x. not (p x) || is_some (q x)) xs →
        is_none (cond (b && is_none o) (Some x) (find (λ x. p x && is_none (q x)) xs)) ≡ ((not b || is_some o) && list_all (λ x. not (p x) || is_some (q x)) xs)
    here true None e = refl
    here true (Some y) e = e
    here false o e = e

pub all_taken_is : (day : Day) (J : History) → is_none (untaken_reached day J) ≡ all_taken day J
unfolding all_taken
all_taken_is day J = find_none (is_reached day J) (taken J) (message_numbers day)

-- ---- the first blocker

or_false : (b : Bool) → b ≡ (b || false)
or_false true = refl
or_false false = refl

or_assoc : (a b c : Bool) → ((a || b) || c) ≡ (a || (b || c))
or_assoc true b c = refl
or_assoc false b c = refl

-- a fold that keeps what it has and takes what passes
pub fold_any : {X : Type 0} (f : Option X → ℕ → Option X) (test : ℕ → Bool) → ((best : Option X) (n : ℕ) → is_some (f best n) ≡ (is_some best || test n)) →
    (best : Option X) (ns : List ℕ) → is_some (fold f best ns) ≡ (is_some best || list_any test ns)
fold_any f test h best [] = or_false (is_some best)
fold_any f test h best (n ∷ ns) = fold_any f test h (f best n) ns ∙ ap (λ b. b || list_any test ns) (h best n) ∙ or_assoc (is_some best) (test n) (list_any test ns)

pick_is : (day : Day) (J : History) (x : Item) (a : ℕ) (best : Option Item) (y : Item) → is_some (pick day J x a best y) ≡ (is_some best || is_blocker day J x a y)
pick_is day J x a best y = here (is_blocker day J x a y) best
  where
    here : (b : Bool) (best : Option Item) → is_some (if b then Some (ahead_of day J best y) else best) ≡ (is_some best || b)
    here true None = refl
    here true (Some z) = refl
    here false None = refl
    here false (Some z) = refl

pick_of_is : (day : Day) (J : History) (x : Item) (a : ℕ) (best : Option Item) (n : ℕ) → is_some (pick_of day J x a best n) ≡ (is_some best || is_blocked_by day J x a n)
unfolding pick_of is_blocked_by
pick_of_is day J x a best n = fold_any (λ found k. pick day J x a found (item n k)) (λ k. is_blocker day J x a (item n k)) (λ b k. pick_is day J x a b (item n k)) best (item_numbers day n)

pub blocked_is : (day : Day) (J : History) (x : Item) (a : ℕ) → is_some (first_blocker day J x a) ≡ is_blocked day J x a
unfolding first_blocker is_blocked
blocked_is day J x a = fold_any (pick_of day J x a) (is_blocked_by day J x a) (pick_of_is day J x a) None (message_numbers day)

pub free_is : (day : Day) (J : History) (x : Item) (a : ℕ) → not (is_blocked day J x a) ≡ is_none (first_blocker day J x a)
free_is day J x a = ap not (sym (blocked_is day J x a)) ∙ sym (none_is (first_blocker day J x a))

-- ---- the first ready want

pub ready_is : (day : Day) (J : History) → is_some (first_ready day J) ≡ is_ready day J
unfolding first_ready is_ready is_ready_message
ready_is day J = here (find (is_ready_message day J) (message_numbers day)) refl (find_any (is_ready_message day J) (message_numbers day))
  where
    here : (o : Option ℕ) → find (is_ready_message day J) (message_numbers day) ≡ o → is_some o ≡ list_any (is_ready_message day J) (message_numbers day) →
        is_some (first_ready_of day J o) ≡ (list_any (is_ready_message day J) (message_numbers day) || list_any (may_sweep day J) (account_numbers day))
    here None e h =
        mapped_is wants.Sweep (find (may_sweep day J) (account_numbers day)) ∙ find_any (may_sweep day J) (account_numbers day) ∙ ap (λ b. b || list_any (may_sweep day J) (account_numbers day)) h
    here (Some n) e h =
        mapped_is (item_want day J n) (find (is_ready_item day J n) (item_numbers day n)) ∙ find_any (is_ready_item day J n) (item_numbers day n)
        ∙ find_passes (is_ready_message day J) (message_numbers day) n e ∙ ap (λ b. b || list_any (may_sweep day J) (account_numbers day)) h

pub not_ready_is : (day : Day) (J : History) → not (is_ready day J) ≡ is_none (first_ready day J)
not_ready_is day J = ap not (sym (ready_is day J)) ∙ sym (none_is (first_ready day J))
