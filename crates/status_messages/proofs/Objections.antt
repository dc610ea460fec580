-- To which batch a line accepts an objection, and what that revokes.
use Rattle.std.proofs.Common.{◌≡◌, ◌∙◌, ℕ, Bool, true, false, not, ◌&&◌, List, [], ◌∷◌, Option, Some, None, refl, sym, ap, subst, ◌⊎◌, inl, inr, if◌then◌else◌}
use Rattle.std.specs.Prelude.{is_some, is_none, unwrap_or}
use Rattle.std.specs.List.{find}
use Rattle.std.specs.Option.{option_map_or}
use Rattle.std.proofs.lemmas.Bool.{and_parts, not-false}
use Rattle.cash_amounts.specs.declared.records.Procedure.{Procedure}
use Rattle.cash_amounts.specs.declared.records.Procedure.TheVariants.{A, B, C, D, E}
use Rattle.cash_amounts.specs.Tests.{some_passes}
use Rattle.batch_records.specs.DayRecord.{Day}
use Rattle.batch_records.specs.declared.day.Message.{Message}
use Rattle.batch_records.specs.declared.day.Body.{Body}
use Rattle.batch_records.specs.declared.day.Body.TheVariants as bodies
use Rattle.commit_journal.specs.Line.{Line, History}
use Rattle.machine.specs.Records.Messages.{Sort, Missing, Object, is_batch, is_named, is_repeat, message_at, message_numbers, names_batch, sender, sort_of, sort_of_batch, sort_of_body}
use Rattle.machine.specs.Telling.History.{is_accepted, is_in, is_ok}
use Rattle.machine.specs.Telling.Facts.{accepted_batch, objection_in, objects, revokes, takes_well}
use Rattle.machine.specs.Stages.Phases.{is_information, phase}
use Rattle.machine.specs.Stages.Intake.{phase_is_wrong, target, target_in, target_is_missing, target_of_message}
use Rattle.machine.specs.Legal.{IsLegal}
use Rattle.settlement_laws.proofs.Base.IntakeFacts.{IsPassed}
use Rattle.settlement_laws.proofs.Base.Lists.{find_all, is_numbered, never}
use Rattle.settlement_laws.proofs.Base.Made.{made_facts}
use Rattle.settlement_laws.proofs.Base.OneBatchOfAName.{found_one, in_passed, one_name}
use Rattle.settlement_laws.proofs.Base.Counting.{passes_some}
use Rattle.status_messages.specs.Statuses.{objection_target}
use Rattle.day_facts.specs.Told.{aim_in, aim_of_message, named}
use Rattle.status_messages.specs.LineTexts.{objected_as, objected_batch}

-- ---- the batch of a name

named_there : (day : Day) (system id : List ℕ) (n : ℕ) → names_batch day system id n ≡ true → is_some (message_at day n) ≡ true
named_there day system id n h =
    passes_some (is_named system id) (message_at day n) (and_parts (is_batch (sort_of day n)) _ (and_parts _ (not (is_repeat day n)) h).0).1

named_is : (day : Day) (system id : List ℕ) (n : ℕ) → names_batch day system id n ≡ true → unwrap_or (named day system id) 0 ≡ n
named_is day system id n h = here (find (names_batch day system id) (message_numbers day)) refl
  where
    here : (o : Option ℕ) → find (names_batch day system id) (message_numbers day) ≡ o → unwrap_or o 0 ≡ n
    here (Some f) e = one_name day system id f n (found_one (names_batch day system id) (message_numbers day) f e) h
    here None e = never (names_batch day system id n) h (find_all (names_batch day system id) (message_numbers day) (ap is_none e) n (is_numbered n day.messages (named_there day system id n h)))

-- ---- a line accepts an objection to a batch, or none

pub record Objection (day : Day) (J : History) (l : Line) (b : ℕ) : Type 0 where
  pub takes : takes_well l ≡ true
  pub is_object : sort_of day l.head.msg ≡ Object
  pub is_batch_there : is_some (message_at day b) ≡ true
  pub is_a_batch : is_batch (sort_of day b) ≡ true
  pub named : objected_batch day l.head ≡ b
  pub revoking : (k : ℕ) → revokes day b k l ≡ objects day (sort_of day b) b k (sender day l.head.msg)
  pub others : (n k : ℕ) → (n ≡ b → ⊥) → revokes day n k l ≡ false
  pub aim : target day J l.head.msg ≡ Some b
  pub in_time : is_information (phase day J b) ≡ true

pub record NoObjection (day : Day) (J : History) (l : Line) : Type 0 where
  pub unnamed : objected_batch day l.head ≡ 0
  pub unrevoked : (n k : ℕ) → revokes day n k l ≡ false
  pub no_aim : takes_well l ≡ true → objection_target (sort_of day l.head.msg) day J l.head.msg ≡ None

abbrev sort_in : Option Message → Sort
sort_in o = option_map_or (λ (m : Message). sort_of_body m.body) o Missing

abbrev sender_in : Option Message → List ℕ
sender_in o = option_map_or (λ (m : Message). m.sender) o []

abbrev revoked_in : Day → ℕ → ℕ → Option Message → Bool
revoked_in day n k o = some_passes (λ (m : Message). objection_in day n k m.sender m.body) o

no_takes : (day : Day) (J : History) (l : Line) → takes_well l ≡ false → NoObjection day J l
no_takes day J l e = record {
  unnamed = ap (λ t. if t then objected_as (sort_of day l.head.msg) day l.head.msg else 0) e;
  unrevoked = λ n k. ap (λ t. t && revoked_in day n k (message_at day l.head.msg)) e;
  no_aim = λ h. never (takes_well l) h e;
}

no_message : (day : Day) (J : History) (l : Line) → takes_well l ≡ true → message_at day l.head.msg ≡ None → NoObjection day J l
no_message day J l t e = record {
  unnamed = ap (λ b. if b then objected_as (sort_of day l.head.msg) day l.head.msg else 0) t ∙ ap (λ o. objected_as (sort_in o) day l.head.msg) e;
  unrevoked = λ n k. ap (λ b. b && revoked_in day n k (message_at day l.head.msg)) t ∙ ap (revoked_in day n k) e;
  no_aim = λ h. ap (λ o. objection_target (sort_in o) day J l.head.msg) e;
}

no_object : (day : Day) (J : History) (l : Line) (m : Message) (body : Body) → takes_well l ≡ true → message_at day l.head.msg ≡ Some m → m.body ≡ body →
    objected_as (sort_of_body body) day l.head.msg ≡ 0 → ((n k : ℕ) → objection_in day n k m.sender body ≡ false) → objection_target (sort_of_body body) day J l.head.msg ≡ None → NoObjection day J l
no_object day J l m body t e f unnamed unrevoked aimless = record {
  unnamed = ap (λ b. if b then objected_as (sort_of day l.head.msg) day l.head.msg else 0) t ∙ ap (λ o. objected_as (sort_in o) day l.head.msg) e ∙ ap (λ x. objected_as (sort_of_body x) day l.head.msg) f ∙ unnamed;
  unrevoked = λ n k. ap (λ b. b && revoked_in day n k (message_at day l.head.msg)) t ∙ ap (revoked_in day n k) e ∙ ap (objection_in day n k m.sender) f ∙ unrevoked n k;
  no_aim = λ h. ap (λ o. objection_target (sort_in o) day J l.head.msg) e ∙ ap (λ x. objection_target (sort_of_body x) day J l.head.msg) f ∙ aimless;
}

batch_no_aim : (p : Procedure) (day : Day) (J : History) (n : ℕ) → objection_target (sort_of_batch p) day J n ≡ None
batch_no_aim A day J n = refl
batch_no_aim B day J n = refl
batch_no_aim C day J n = refl
batch_no_aim D day J n = refl
batch_no_aim E day J n = refl

batch_unnamed : (p : Procedure) (day : Day) (n : ℕ) → objected_as (sort_of_batch p) day n ≡ 0
batch_unnamed A day n = refl
batch_unnamed B day n = refl
batch_unnamed C day n = refl
batch_unnamed D day n = refl
batch_unnamed E day n = refl

revokes_as : (day : Day) (l : Line) (m : Message) (system id : List ℕ) (n k : ℕ) → takes_well l ≡ true → message_at day l.head.msg ≡ Some m → m.body ≡ bodies.Object system id →
    revokes day n k l ≡ (names_batch day system id n && objects day (sort_of day n) n k m.sender)
revokes_as day l m system id n k t e f =
    ap (λ b. b && revoked_in day n k (message_at day l.head.msg)) t ∙ ap (revoked_in day n k) e ∙ ap (objection_in day n k m.sender) f

objection_of : (day : Day) (J : History) (l : Line) (m : Message) (system id : List ℕ) (b : ℕ) → IsPassed day J l.head.msg → takes_well l ≡ true → message_at day l.head.msg ≡ Some m → m.body ≡ bodies.Object system id →
    target day J l.head.msg ≡ Some b → names_batch day system id b ≡ true → Objection day J l b
objection_of day J l m system id b passed t e f aim names = record {
  takes = t;
  is_object = an_object;
  is_batch_there = named_there day system id b names;
  is_a_batch = (and_parts (is_batch (sort_of day b)) _ (and_parts _ (not (is_repeat day b)) names).0).0;
  named =
      ap (λ c. if c then objected_as (sort_of day l.head.msg) day l.head.msg else 0) t
      ∙ ap (λ s. objected_as s day l.head.msg) an_object
      ∙ ap (λ o. unwrap_or (aim_of_message day o) 0) e
      ∙ ap (λ body. unwrap_or (aim_in day m.sender body) 0) f
      ∙ named_is day system id b names;
  revoking = λ k. revokes_as day l m system id b k t e f ∙ ap (λ c. c && objects day (sort_of day b) b k m.sender) names ∙ ap (objects day (sort_of day b) b k) (sym (ap sender_in e));
  others = λ n k ne. revokes_as day l m system id n k t e f ∙ not_named n k ne (names_batch day system id n) refl;
  aim = aim;
  in_time = not-false (is_information (phase day J b)) (
      subst (λ o. some_passes (λ x. not (is_information (phase day J x))) o ≡ false) aim
      (subst (λ s. phase_is_wrong s day J l.head.msg ≡ false) an_object passed.phase_right));
}
  where
    an_object : sort_of day l.head.msg ≡ Object
    an_object = ap sort_in e ∙ ap sort_of_body f

    not_named : (n k : ℕ) → (n ≡ b → ⊥) → (c : Bool) → names_batch day system id n ≡ c → (c && objects day (sort_of day n) n k m.sender) ≡ false
    not_named n k ne true h = absurd (ne (one_name day system id n b h names))
    not_named n k ne false h = refl

passed_line : (day : Day) (J : History) (l : Line) → IsLegal day (l ∷ J) → takes_well l ≡ true → IsPassed day J l.head.msg
passed_line day J l legal t =
    let parts = and_parts (is_in l.head.kind) (is_ok l.head.code) t in
    in_passed l.head.kind day J l.head.msg l.head.entry l.head.code l.moves parts.0 parts.1 (made_facts day J l legal.1).1

-- an objection that is accepted has a target, and that is the one batch that it names
aims : (day : Day) (J : History) (l : Line) (m : Message) (system id : List ℕ) → IsPassed day J l.head.msg → takes_well l ≡ true → message_at day l.head.msg ≡ Some m → m.body ≡ bodies.Object system id → (b : ℕ) × Objection day J l b
aims day J l m system id passed t e f =
    here (accepted_batch day J system id) refl
    (subst (λ s. target_is_missing s day J l.head.msg ≡ false) (ap sort_in e ∙ ap sort_of_body f) passed.target_right)
  where
    aim : target day J l.head.msg ≡ accepted_batch day J system id
    aim = ap (target_of_message day J) e ∙ ap (target_in day J m.sender) f

    here : (o : Option ℕ) → accepted_batch day J system id ≡ o → is_none (target day J l.head.msg) ≡ false → (b : ℕ) × Objection day J l b
    here None q h = never false (sym h ∙ ap is_none (aim ∙ q)) refl
    here (Some b) q h =
        let names = (and_parts (names_batch day system id b) (is_accepted J b) (found_one (λ n. names_batch day system id n && is_accepted J n) (message_numbers day) b q)).0 in
        (b, objection_of day J l m system id b passed t e f (aim ∙ q) names)

pub objection_or_none : (day : Day) (J : History) (l : Line) → IsLegal day (l ∷ J) → NoObjection day J l ⊎ ((b : ℕ) × Objection day J l b)
objection_or_none day J l legal = by_takes (takes_well l) refl
  where
    by_body : (m : Message) (body : Body) → takes_well l ≡ true → message_at day l.head.msg ≡ Some m → m.body ≡ body → NoObjection day J l ⊎ ((b : ℕ) × Objection day J l b)
    by_body m (bodies.Object system id) t e f = inr (aims day J l m system id (passed_line day J l legal t) t e f)
    by_body m (bodies.Batch p info early till count sum es) t e f = inl (no_object day J l m _ t e f (batch_unnamed p day l.head.msg) (λ n k. refl) (batch_no_aim p day J l.head.msg))
    by_body m _ t e f = inl (no_object day J l m _ t e f refl (λ n k. refl) refl)

    by_message : (o : Option Message) → takes_well l ≡ true → message_at day l.head.msg ≡ o → NoObjection day J l ⊎ ((b : ℕ) × Objection day J l b)
    by_message None t e = inl (no_message day J l t e)
    by_message (Some m) t e = by_body m m.body t e refl

    by_takes : (c : Bool) → takes_well l ≡ c → NoObjection day J l ⊎ ((b : ℕ) × Objection day J l b)
    by_takes false e = inl (no_takes day J l e)
    by_takes true e = by_message (message_at day l.head.msg) e refl
