-- An accepted objection revokes no entry of a batch of E of which its sender is no party.
use Rattle.std.proofs.Common.{◌≡◌, ◌∙◌, ℕ, Bool, true, false, not, ◌&&◌, List, [], ◌∷◌, Option, Some, None, refl, sym, ap, subst}
use Rattle.std.specs.Prelude.{◌-◌, IfSome, is_some, nat_eq}
use Rattle.std.proofs.lemmas.Bool.{and_parts, and_right, ne_eqb}
use Rattle.batch_records.specs.DayRecord.{Day}
use Rattle.batch_records.specs.declared.day.Body.{Body}
use Rattle.batch_records.specs.declared.day.Body.TheVariants as bodies
use Rattle.batch_records.specs.declared.day.Message.{Message}
use Rattle.commit_journal.specs.declared.line.Code.TheVariants as line_codes
use Rattle.commit_journal.specs.declared.line.Head.{Head}
use Rattle.commit_journal.specs.Line.{Line, History}
use Rattle.commit_journal.specs.Histories.{oldest}
use Rattle.machine.specs.Words.{some_passes}
use Rattle.machine.specs.Records.Messages.{Sort, BatchE, is_e, message_at, names_batch, sort_of}
use Rattle.machine.specs.Legal.{IsLegal}
use Rattle.machine.specs.Telling.History.{is_accepted, is_in, is_ok, taken_code}
use Rattle.machine.specs.Telling.Facts.{objection_in, objects, revokes, takes_well}
use Rattle.machine.specs.Stages.Phases.{is_revoked_entry}
use Rattle.rule_book.specs.Parties.{HasParts, is_party_at, names_entry}
use Rattle.settlement_laws.proofs.Base.Lists.{never}
use Rattle.day_facts.specs.Objectors.{is_alike, repeats_objection}
use Rattle.day_facts.specs.Own.{code_in, owns_of}
use Rattle.day_facts.proofs.AgainLines.{again_same}
use Rattle.day_facts.proofs.Lookups.{code_is}
use Rattle.status_messages.specs.declared.status.TurnCode.TheVariants as turn_codes
use Rattle.status_messages.specs.LineTexts.{entry_revocation, is_revoked_by, text_if}
use Rattle.status_messages.specs.Revoking.{IsAgain, IsLine, TellsNoOther}
use Rattle.status_messages.specs.Statuses.{is_revoked_now, turn_told}
use Rattle.status_messages.proofs.Saying.{place_is}
use Rattle.status_messages.proofs.ToldTexts.{revoked_now}
use Rattle.status_messages.proofs.Untouched.{code_same, revoked_same}

pub some_then : {X : Type 0} {P Q : X → Type 0} (o : Option X) → ((x : X) → P x → Q x) → IfSome o P → IfSome o Q
some_then None then h = h
some_then (Some x) then h = then x h

objects_party : (s : Sort) (day : Day) (n k : ℕ) (bank : List ℕ) → is_e s ≡ true → objects day s n k bank ≡ true → is_party_at day n bank k ≡ true
objects_party BatchE day n k bank e h = h
objects_party _ day n k bank e h = cc

objecting_party : (day : Day) (n k : ℕ) (from : List ℕ) (body : Body) → is_e (sort_of day n) ≡ true → objection_in day n k from body ≡ true → is_party_at day n from k ≡ true
objecting_party day n k from (bodies.Object system id) e h =
    objects_party (sort_of day n) day n k from e (and_parts (names_batch day system id n) (objects day (sort_of day n) n k from) h).1
objecting_party day n k from _ e h = cc

self_not : (b : Bool) → (b && not b) ≡ false
self_not true = refl
self_not false = refl

-- of the lines up to one
here_now : (day : Day) (H : History) (place : ℕ) (head : Head) (b k : ℕ) (line : IsLine H place head) → is_revoked_by day (oldest H place) place b k ≡ is_revoked_now day (oldest H (place - 1)) line.line b k
here_now day H place head b k line = (λ i. is_revoked_by day (line.is i) (sym (place_is H place line.from line.to) i) b k) ∙ revoked_now day (oldest H (place - 1)) line.line b k

-- an objection that repeats an accepted one revokes nothing
pub again_untold : (day : Day) (H : History) (place : ℕ) (head : Head) (b : ℕ) → IsLine H place head → IsLegal day (oldest H place) → IsAgain day (oldest H place) head.msg → TellsNoOther day (oldest H place) place b []
again_untold day H place head b line legal again k none =
    here_now day H place head b k line
    ∙ ap (λ c. c && not (is_revoked_entry day J b k)) (sym (ap (λ (o : Option ℕ). is_some o) (again_same day l J m legal'.0 repeats b k)))
    ∙ self_not (is_revoked_entry day J b k)
  where
    l : Line
    l = line.line

    J : History
    J = oldest H (place - 1)

    m : ℕ
    m = again.earlier

    legal' : IsLegal day (l ∷ J)
    legal' = subst (IsLegal day) line.is legal

    other : l.head.msg ≡ m → ⊥
    other e = again.other (sym e ∙ ap (λ (h : Head). h.msg) line.head_is)

    before : taken_code (oldest H place) m ≡ taken_code J m
    before = ap (λ (K : History). taken_code K m) line.is ∙ code_same l J m (and_right (is_in l.head.kind) (nat_eq l.head.msg m) (ne_eqb l.head.msg m other))

    parts : (is_accepted (oldest H place) m ≡ true) × (is_alike (message_at day m) (message_at day head.msg) ≡ true)
    parts = and_parts (is_accepted (oldest H place) m) (is_alike (message_at day m) (message_at day head.msg)) again.repeats

    accepted : some_passes is_ok (code_in (owns_of day J) m) ≡ true
    accepted = ap (some_passes is_ok) (code_is day J m legal'.0 ∙ sym before) ∙ parts.0

    alike : is_alike (message_at day m) (message_at day l.head.msg) ≡ true
    alike = ap (λ (h : Head). is_alike (message_at day m) (message_at day h.msg)) line.head_is ∙ parts.1

    repeats : repeats_objection day (owns_of day J) m l.head.msg ≡ true
    repeats = λ i. accepted i && alike i

-- keys of which each entry that the sender is a party of is one's
pub named_only : (day : Day) (H : History) (place : ℕ) (head : Head) (b : ℕ) (m : Message) (keys : List ℕ) → IsLine H place head → is_e (sort_of day b) ≡ true →
    message_at day head.msg ≡ Some m → HasParts day b m.sender keys → TellsNoOther day (oldest H place) place b keys
named_only day H place head b m keys line e at parts k none =
    here_now day H place head b k line ∙ here (revokes day b k l) refl
  where
    l : Line
    l = line.line

    J : History
    J = oldest H (place - 1)

    here : (c : Bool) → revokes day b k l ≡ c → is_revoked_now day J l b k ≡ false
    here false r = ap (λ c. c && not (is_revoked_entry day J b k)) (revoked_same day l J b k r) ∙ self_not (is_revoked_entry day J b k)
    here true r =
        let objecting = (and_parts (takes_well l) (some_passes (λ (x : Message). objection_in day b k x.sender x.body) (message_at day l.head.msg)) r).1 in
        let found : message_at day l.head.msg ≡ Some m = ap (λ (h : Head). message_at day h.msg) line.head_is ∙ at in
        never (names_entry keys k) (parts k (objecting_party day b k m.sender m.body e (sym (ap (some_passes (λ (x : Message). objection_in day b k x.sender x.body)) found) ∙ objecting))) none

pub untold : (day : Day) (J : History) (place b k : ℕ) → is_revoked_by day J place b k ≡ false → entry_revocation day J place b k ≡ []
untold day J place b k none = ap (λ c. text_if c (turn_told day place turn_codes.Rvkd b k line_codes.Ok)) none
