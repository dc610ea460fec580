-- An objection that repeats an accepted one revokes nothing more.
use Rattle.std.proofs.Common.{◌≡◌, ◌∙◌, ℕ, suc, Bool, true, false, ◌&&◌, List, [], ◌∷◌, Option, None, Some, length, refl, sym, ap}
use Rattle.std.specs.Prelude.{is_some, nat_eq}
use Rattle.std.specs.Option.{option_or}
use Rattle.std.specs.Cmp.Lexicographic.{bytes_decides}
use Rattle.std.proofs.lemmas.Bool.{and_parts, eqb-true}
use Rattle.batch_records.specs.DayRecord.{Day}
use Rattle.batch_records.specs.declared.day.Body.{Body}
use Rattle.batch_records.specs.declared.day.Body.TheVariants as bodies
use Rattle.batch_records.specs.declared.day.Message.{Message}
use Rattle.commit_journal.specs.declared.line.Code.{Code}
use Rattle.commit_journal.specs.Line.{Line, History}
use Rattle.machine.specs.Words.{same_name, some_passes, when}
use Rattle.machine.specs.Records.Messages.{message_at}
use Rattle.machine.specs.Telling.History.{is_in, is_in_of, is_ok, place_of, read_first, taken_code}
use Rattle.machine.specs.Telling.Facts.{objection_in, revoked, revokes, takes_well}
use Rattle.machine.specs.Legal.{IsLegal}
use Rattle.day_facts.specs.Objectors.{are_alike, is_alike, repeats_objection}
use Rattle.day_facts.specs.Own.{owns_of}
use Rattle.day_facts.proofs.Lookups.{code_is}
use Rattle.day_facts.proofs.OwnLines.{place_more, place_same}

-- ---- two objections alike

module _ (day : Day) (n k : ℕ) where
  alike_bodies : (s t : List ℕ) (a b : Body) → s ≡ t → are_alike a b ≡ true → objection_in day n k s a ≡ objection_in day n k t b
  alike_bodies s t (bodies.Object system id) (bodies.Object system' id') same alike =
      let parts = and_parts (same_name system system') (same_name id id') alike in
      λ i. objection_in day n k (same i) (bodies.Object ((bytes_decides system system').0 parts.0 i) ((bytes_decides id id').0 parts.1 i))
  alike_bodies s t (bodies.Object system id) (bodies.Pay high debit credit amount) same alike = cc
  alike_bodies s t (bodies.Object system id) (bodies.Liquidity debit credit amount) same alike = cc
  alike_bodies s t (bodies.Object system id) (bodies.Batch p info early till count sum es) same alike = cc
  alike_bodies s t (bodies.Object system id) (bodies.Confirm batch answer) same alike = cc
  alike_bodies s t (bodies.Object system id) (bodies.Cycle start) same alike = cc
  alike_bodies s t (bodies.Pay high debit credit amount) b same alike = cc
  alike_bodies s t (bodies.Liquidity debit credit amount) b same alike = cc
  alike_bodies s t (bodies.Batch p info early till count sum es) b same alike = cc
  alike_bodies s t (bodies.Confirm batch answer) b same alike = cc
  alike_bodies s t (bodies.Cycle start) b same alike = cc

  abbrev objects_in : Option Message → Bool
  objects_in o = some_passes (λ (m : Message). objection_in day n k m.sender m.body) o

  alike_messages : (a b : Option Message) → is_alike a b ≡ true → objects_in a ≡ objects_in b
  alike_messages None b h = cc
  alike_messages (Some x) None h = cc
  alike_messages (Some x) (Some y) h =
      let parts = and_parts (same_name x.sender y.sender) (are_alike x.body y.body) h in
      alike_bodies x.sender y.sender x.body y.body ((bytes_decides x.sender y.sender).0 parts.0) parts.1

-- ---- the line that took the first one

-- the oldest In line of m has code OK, so a test that any such line passes finds a line
taken_passes : (m : ℕ) (test : Line → Bool) → ((x : Line) → takes_well x ≡ true → x.head.msg ≡ m → test x ≡ true) → (J : History) → some_passes is_ok (taken_code J m) ≡ true → is_some (place_of test J) ≡ true
unfolding place_of read_first
taken_passes m test passes [] h = cc
taken_passes m test passes (l ∷ J) h = by (taken_code J m) (is_in_of m l) refl refl h (taken_passes m test passes J)
  where
    or_some : (o p : Option ℕ) → is_some o ≡ true → is_some (option_or o p) ≡ true
    or_some (Some x) p e = refl
    or_some None p e = cc

    or_last : (o : Option ℕ) (x : ℕ) → is_some (option_or o (Some x)) ≡ true
    or_last (Some y) x = refl
    or_last None x = refl

    well : is_in_of m l ≡ true → is_ok l.head.code ≡ true → test l ≡ true
    well e ok =
        let parts = and_parts (is_in l.head.kind) (nat_eq l.head.msg m) e in
        passes l (λ i. parts.0 i && ok i) (eqb-true l.head.msg m parts.1)

    by : (c : Option Code) (b : Bool) → taken_code J m ≡ c → is_in_of m l ≡ b → some_passes is_ok (option_or c (when b l.head.code)) ≡ true
        → (some_passes is_ok (taken_code J m) ≡ true → is_some (place_of test J) ≡ true) → is_some (option_or (place_of test J) (when (test l) (suc (length J)))) ≡ true
    by (Some c) b e f h before = or_some (place_of test J) _ (before (ap (some_passes is_ok) e ∙ h))
    by None true e f h before = ap (λ t. is_some (option_or (place_of test J) (when t (suc (length J))))) (well f h) ∙ or_last (place_of test J) (suc (length J))
    by None false e f h before = cc

-- ---- nothing more is revoked

kept_place : (o : Option ℕ) (p : Option ℕ) → is_some o ≡ true → o ≡ option_or o p
kept_place (Some x) p h = refl
kept_place None p h = cc

pub again_same : (day : Day) (l : Line) (J : History) (m : ℕ) → IsLegal day J → repeats_objection day (owns_of day J) m l.head.msg ≡ true → (n k : ℕ) → revoked day J n k ≡ revoked day (l ∷ J) n k
again_same day l J m legal h n k = by (revokes day n k l) refl
  where
    parts : (some_passes is_ok (taken_code J m) ≡ true) × (is_alike (message_at day m) (message_at day l.head.msg) ≡ true)
    parts =
        let both = and_parts _ (is_alike (message_at day m) (message_at day l.head.msg)) h in
        (ap (some_passes is_ok) (sym (code_is day J m legal)) ∙ both.0, both.1)

    -- what the line revokes, the line of m revoked
    before : revokes day n k l ≡ true → (x : Line) → takes_well x ≡ true → x.head.msg ≡ m → revokes day n k x ≡ true
    before r x t e =
        let objecting = (and_parts (takes_well l) (objects_in day n k (message_at day l.head.msg)) r).1 in
        let same = ap (λ j. objects_in day n k (message_at day j)) e ∙ alike_messages day n k (message_at day m) (message_at day l.head.msg) parts.1 ∙ objecting in
        λ i. t i && same i

    by : (b : Bool) → revokes day n k l ≡ b → revoked day J n k ≡ revoked day (l ∷ J) n k
    by false e = place_same (revokes day n k) l J e
    by true e = kept_place (revoked day J n k) (when true (suc (length J))) (taken_passes m (revokes day n k) (before e) J parts.0) ∙ place_more (revokes day n k) l J true e
