-- One batch has a name; so an objection revokes only a batch in its information phase.
use Rattle.std.proofs.Common.{◌≡◌, ℕ, zero, suc, ◌+◌, ◌≤◌, Bool, true, false, not, ◌&&◌, List, [], ◌∷◌, Option, Some, None, refl, sym, ◌∙◌, ap, subst, arith, cond}
use Rattle.std.specs.Prelude.{is_some, is_none, nat_lt, slice_get, length}
use Rattle.std.specs.List.{find, range_with_len}
use Rattle.std.specs.Option.{option_map_or}
use Rattle.std.proofs.lemmas.Bool.{ltb-false, not-false, not-true, and_parts}
use Rattle.std.proofs.lemmas.Option.{same_Some}
use Rattle.account_book.proofs.SoundLemmas.{same_names}
use Rattle.batch_records.specs.DayRecord.{Day}
use Rattle.batch_records.specs.declared.day.Message.{Message}
use Rattle.batch_records.specs.declared.day.Body.{Body}
use Rattle.batch_records.specs.declared.day.Body.TheVariants as bodies
use Rattle.commit_journal.specs.declared.line.Move.{Move}
use Rattle.commit_journal.specs.declared.line.Code.{Code}
use Rattle.commit_journal.specs.declared.line.Kind.{Kind}
use Rattle.commit_journal.specs.declared.line.Kind.TheVariants as kinds
use Rattle.commit_journal.specs.Line.{Line, History}
use Rattle.machine.specs.Words.{some_passes, numbered, same_name}
use Rattle.machine.specs.Records.Messages.{Missing, Object, sort_of, sort_of_body, message_at, message_numbers, is_batch, is_named, first_of_name, is_repeat, names_batch}
use Rattle.machine.specs.Telling.History.{is_in, is_ok, is_accepted}
use Rattle.machine.specs.Telling.Facts.{takes_well, accepted_batch, objects, objection_in, revokes}
use Rattle.machine.specs.Stages.Phases.{phase, is_information}
use Rattle.machine.specs.Stages.Intake.{target, target_of_message, target_in, target_is_missing, phase_is_wrong}
use Rattle.settlement_laws.proofs.Base.Made.{Made}
use Rattle.settlement_laws.proofs.Base.IntakeFacts.{IsPassed, passed_intake}
use Rattle.settlement_laws.proofs.Base.Lists.{never}
use Rattle.settlement_laws.proofs.ProcedureA.WantsOfA.{MadeLine}

-- ---- the first of a name

-- a search finds no number past one that passes
found_before : {X : Type 0} (test : ℕ → Bool) (start j n : ℕ) (xs : List X) → n ≡ start + j → is_some (slice_get xs j) ≡ true → test n ≡ true → (f : ℕ) × (find test (range_with_len start (length xs)) ≡ Some f) × (f ≤ n)
found_before test start j n [] e h t = cc
found_before test start j n (x ∷ xs) e h t = here (test start) refl j e h (λ i. found_before test (start + 1) i n xs)
  where
    here : (b : Bool) → test start ≡ b → (j : ℕ) → n ≡ start + j → is_some (slice_get (x ∷ xs) j) ≡ true →
        ((i : ℕ) → n ≡ (start + 1) + i → is_some (slice_get xs i) ≡ true → test n ≡ true → (f : ℕ) × (find test (range_with_len (start + 1) (length xs)) ≡ Some f) × (f ≤ n)) →
        (f : ℕ) × (cond b (Some start) (find test (range_with_len (start + 1) (length xs))) ≡ Some f) × (f ≤ n)
    here true b j e h k = (start, refl, omega arith)
    here false b zero e h k = never (test n) t (subst (λ i. test i ≡ false) (let z : start ≡ n = omega arith in z) b)
    here false b (suc j) e h k = k j (omega arith) h t

abbrev first_named : Day → List ℕ → List ℕ → Option ℕ
first_named day system id = find (λ i. some_passes (is_named system id) (message_at day i)) (message_numbers day)

first_is : (day : Day) (n : ℕ) (m : Message) → message_at day n ≡ Some m → first_of_name day n ≡ first_named day m.sender m.id
first_is day n m e = rw e refl

there : (o : Option Message) (system id : List ℕ) → some_passes (is_named system id) o ≡ true → (m : Message) × (o ≡ Some m) × (m.sender ≡ system) × (m.id ≡ id)
there None system id h = never false h refl
there (Some m) system id h = let b = and_parts (same_name m.sender system) (same_name m.id id) h in (m, refl, same_names m.sender system b.0, same_names m.id id b.1)

in_file : {X : Type 0} (n : ℕ) (xs : List X) (x : X) → numbered xs n ≡ Some x → (j : ℕ) × (n ≡ 1 + j) × (is_some (slice_get xs j) ≡ true)
in_file zero xs x e = cc
in_file (suc j) xs x e = (j, omega arith, ap is_some e)

named_first : (day : Day) (system id : List ℕ) (n : ℕ) → names_batch day system id n ≡ true → first_named day system id ≡ Some n
named_first day system id n h =
    let b = and_parts (is_batch (sort_of day n) && some_passes (is_named system id) (message_at day n)) (not (is_repeat day n)) h in
    let c = (and_parts (is_batch (sort_of day n)) (some_passes (is_named system id) (message_at day n)) b.0).1 in
    let m = there (message_at day n) system id c in
    let j = in_file n day.messages m.0 m.1 in
    let f = found_before (λ i. some_passes (is_named system id) (message_at day i)) 1 j.0 n day.messages j.1 j.2 c in
    let e : first_of_name day n ≡ first_named day system id = first_is day n m.0 m.1 ∙ ap (λ s. first_named day s m.0.id) m.2 ∙ ap (first_named day system) m.3 in
    let r : nat_lt f.0 n ≡ false = subst (λ o. some_passes (λ first. nat_lt first n) o ≡ false) (e ∙ f.1) (not-true (is_repeat day n) b.1) in
    let s : f.0 ≡ n = (let g : n ≤ f.0 = ltb-false f.0 n r in let k : f.0 ≤ n = f.2 in omega arith) in
    f.1 ∙ ap Some s

pub one_name : (day : Day) (system id : List ℕ) (n m : ℕ) → names_batch day system id n ≡ true → names_batch day system id m ≡ true → n ≡ m
one_name day system id n m h k = same_Some n m (sym (named_first day system id n h) ∙ named_first day system id m k)

-- ---- what an objection revokes

pub found_one : (test : ℕ → Bool) (xs : List ℕ) (x : ℕ) → find test xs ≡ Some x → test x ≡ true
found_one test [] x e = cc
found_one test (y ∷ ys) x e = here (test y) refl e (found_one test ys x)
  where
    here : (b : Bool) → test y ≡ b → cond b (Some y) (find test ys) ≡ Some x → (find test ys ≡ Some x → test x ≡ true) → test x ≡ true
    here true t e k = subst (λ z. test z ≡ true) (same_Some y x e) t
    here false t e k = k e

-- message i is an objection that names batch n
pub record Objection (day : Day) (J : History) (n i : ℕ) : Type 0 where
  pub system : List ℕ
  pub id : List ℕ
  pub names : names_batch day system id n ≡ true
  pub is_object : sort_of day i ≡ Object
  pub aims : target day J i ≡ accepted_batch day J system id

objection : (day : Day) (J : History) (n i : ℕ) → some_passes (λ (m : Message). objection_in day n 0 m.sender m.body) (message_at day i) ≡ true → Objection day J n i
objection day J n i h = here (message_at day i) refl h
  where
    by_body : (m : Message) (b : Body) → message_at day i ≡ Some m → m.body ≡ b → objection_in day n 0 m.sender b ≡ true → Objection day J n i
    by_body m (bodies.Object system id) e f h = record {
      system = system;
      id = id;
      names = (and_parts (names_batch day system id n) (objects day (sort_of day n) n 0 m.sender) h).0;
      is_object = ap (λ o. option_map_or (λ (m : Message). sort_of_body m.body) o Missing) e ∙ ap sort_of_body f;
      aims = ap (target_of_message day J) e ∙ ap (target_in day J m.sender) f;
    }
    by_body m _ e f h = never false h refl

    here : (o : Option Message) → message_at day i ≡ o → some_passes (λ (m : Message). objection_in day n 0 m.sender m.body) o ≡ true → Objection day J n i
    here None e h = never false h refl
    here (Some m) e h = by_body m m.body e refl h

-- one that is passed comes in the information phase of the batch
pub informs : (day : Day) (J : History) (n i : ℕ) → Objection day J n i → IsPassed day J i → is_information (phase day J n) ≡ true
informs day J n i o p = here (accepted_batch day J o.system o.id) refl
    (subst (λ t. is_none t ≡ false) o.aims (subst (λ s. target_is_missing s day J i ≡ false) o.is_object p.target_right))
    (subst (λ t. some_passes (λ b. not (is_information (phase day J b))) t ≡ false) o.aims (subst (λ s. phase_is_wrong s day J i ≡ false) o.is_object p.phase_right))
  where
    here : (t : Option ℕ) → accepted_batch day J o.system o.id ≡ t → is_none t ≡ false → some_passes (λ b. not (is_information (phase day J b))) t ≡ false → is_information (phase day J n) ≡ true
    here None e h k = cc
    here (Some b) e h k =
        let f = (and_parts (names_batch day o.system o.id b) (is_accepted J b) (found_one (λ n. names_batch day o.system o.id n && is_accepted J n) (message_numbers day) b e)).0 in
        subst (λ x. is_information (phase day J x) ≡ true) (one_name day o.system o.id b n f o.names) (not-false _ k)

pub in_passed : (kind : Kind) (day : Day) (J : History) (n k : ℕ) (code : Code) (moves : List Move) → is_in kind ≡ true → is_ok code ≡ true → Made kind day J n k code moves → IsPassed day J n
in_passed kinds.In day J n k code moves h o m = passed_intake day J n (subst (λ c. is_ok c ≡ true) m.1 o)
in_passed _ day J n k code moves h o m = cc

-- a line that revokes a batch is made in its information phase
pub revoked_in_time : (day : Day) (J : History) (l : Line) (n : ℕ) → MadeLine day J l → revokes day n 0 l ≡ true → is_information (phase day J n) ≡ true
revoked_in_time day J l n m h =
    let b = and_parts (takes_well l) (some_passes (λ (m : Message). objection_in day n 0 m.sender m.body) (message_at day l.head.msg)) h in
    let t = and_parts (is_in l.head.kind) (is_ok l.head.code) b.0 in
    informs day J n l.head.msg (objection day J n l.head.msg b.1) (in_passed l.head.kind day J l.head.msg l.head.entry l.head.code l.moves t.0 t.1 m)
