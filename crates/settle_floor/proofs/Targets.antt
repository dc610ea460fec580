-- The accepted batch that a message names is the one of the day that it names, where that is accepted.
use Rattle.std.proofs.Common.{◌≡◌, ◌∙◌, ℕ, Bool, true, false, ◌&&◌, List, [], ◌∷◌, Option, Some, None, refl, sym, ap, cond, if◌then◌else◌}
use Rattle.std.specs.Prelude.{nat_eq}
use Rattle.std.specs.List.{find}
use Rattle.std.proofs.lemmas.Bool.{eqb-true}
use Rattle.batch_records.specs.DayRecord.{Day}
use Rattle.batch_records.specs.declared.day.Message.{Message}
use Rattle.batch_records.specs.declared.day.Body.{Body}
use Rattle.batch_records.specs.declared.day.Body.TheVariants as bodies
use Rattle.commit_journal.specs.Line.{History}
use Rattle.machine.specs.Records.Messages.{message_at, message_numbers, names_batch}
use Rattle.machine.specs.Telling.History.{is_accepted}
use Rattle.machine.specs.Telling.Facts.{accepted_batch}
use Rattle.machine.specs.Stages.Intake.{target, target_in, target_of_message}
use Rattle.day_facts.specs.Told.{aim_in, aim_of, aim_of_message, named}
use Rattle.day_facts.proofs.AimLines.{names_only}

find_same : (p q : ℕ → Bool) → ((x : ℕ) → p x ≡ q x) → (xs : List ℕ) → find p xs ≡ find q xs
find_same p q h [] = refl
find_same p q h (x ∷ xs) = ap (λ b. cond b (Some x) (find p xs)) (h x) ∙ ap (λ o. cond (q x) (Some x) o) (find_same p q h xs)

find_nothing : (p : ℕ → Bool) → ((x : ℕ) → p x ≡ false) → (xs : List ℕ) → find p xs ≡ None
find_nothing p h [] = refl
find_nothing p h (x ∷ xs) = ap (λ b. cond b (Some x) (find p xs)) (h x) ∙ find_nothing p h xs

abbrev pub if_accepted : History → Option ℕ → Option ℕ
if_accepted J None = None
if_accepted J (Some b) = if is_accepted J b then Some b else None

-- of the names that a test passes only one has the number b
only_one : (day : Day) (J : History) (system id : List ℕ) (b : ℕ) (c : Bool) → named day system id ≡ Some b → is_accepted J b ≡ c → accepted_batch day J system id ≡ (if c then Some b else None)
only_one day J system id b true e a =
    find_same (λ n. names_batch day system id n && is_accepted J n) (names_batch day system id) (λ n. here n (nat_eq b n) refl) (message_numbers day) ∙ e
  where
    here : (n : ℕ) (d : Bool) → nat_eq b n ≡ d → (names_batch day system id n && is_accepted J n) ≡ names_batch day system id n
    here n true q =
        let names : names_batch day system id n ≡ true = names_only day system id n (Some b) e ∙ q in
        ap (λ c. c && is_accepted J n) names ∙ sym (ap (is_accepted J) (eqb-true b n q)) ∙ a ∙ sym names
    here n false q =
        let names : names_batch day system id n ≡ false = names_only day system id n (Some b) e ∙ q in
        ap (λ c. c && is_accepted J n) names ∙ sym names
only_one day J system id b false e a = find_nothing (λ n. names_batch day system id n && is_accepted J n) (λ n. here n (nat_eq b n) refl) (message_numbers day)
  where
    off : (c : Bool) → (c && false) ≡ false
    off true = refl
    off false = refl

    here : (n : ℕ) (d : Bool) → nat_eq b n ≡ d → (names_batch day system id n && is_accepted J n) ≡ false
    here n true q = ap (λ c. names_batch day system id n && c) (sym (ap (is_accepted J) (eqb-true b n q)) ∙ a) ∙ off (names_batch day system id n)
    here n false q = ap (λ c. c && is_accepted J n) (names_only day system id n (Some b) e ∙ q)

accepted_is : (day : Day) (J : History) (system id : List ℕ) (o : Option ℕ) → named day system id ≡ o → if_accepted J o ≡ accepted_batch day J system id
accepted_is day J system id None e = sym (find_nothing (λ n. names_batch day system id n && is_accepted J n) (λ n. ap (λ c. c && is_accepted J n) (names_only day system id n None e)) (message_numbers day))
accepted_is day J system id (Some b) e = sym (only_one day J system id b (is_accepted J b) e refl)

by_body : (day : Day) (J : History) (from : List ℕ) (body : Body) → if_accepted J (aim_in day from body) ≡ target_in day J from body
by_body day J from (bodies.Object system id) = accepted_is day J system id (named day system id) refl
by_body day J from (bodies.Confirm id reply) = accepted_is day J from id (named day from id) refl
by_body day J from _ = refl

by_message : (day : Day) (J : History) (o : Option Message) → if_accepted J (aim_of_message day o) ≡ target_of_message day J o
by_message day J None = refl
by_message day J (Some m) = by_body day J m.sender m.body

pub target_is : (day : Day) (J : History) (n : ℕ) → if_accepted J (aim_of day n) ≡ target day J n
target_is day J n = by_message day J (message_at day n)
