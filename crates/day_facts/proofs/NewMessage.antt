-- Of a message that has just come in no line tells anything.
use Rattle.std.proofs.Common.{◌≡◌, ◌∙◌, ℕ, suc, ◌+◌, ◌<◌, ◌≤◌, Bool, true, false, ◌&&◌, List, [], ◌∷◌, Option, Some, None, length, refl, ap, subst, arith, if◌then◌else◌}
use Rattle.std.specs.Prelude.{is_none, is_some, nat_eq}
use Rattle.std.specs.Option.{option_map_or, option_or}
use Rattle.std.proofs.lemmas.Bool.{and_left, and_parts, and_right, false_from_ne_true, ne_eqb}
use Rattle.batch_records.specs.declared.day.Body.{Body}
use Rattle.batch_records.specs.declared.day.Body.TheVariants as bodies
use Rattle.batch_records.specs.DayRecord.{Day}
use Rattle.batch_records.specs.declared.day.Message.{Message}
use Rattle.commit_journal.specs.Line.{Line, History}
use Rattle.machine.specs.Words.{some_passes, when}
use Rattle.machine.specs.Records.Messages.{Confirm, Missing, Object, message_at, message_numbers, names_batch, sort_of, sort_of_body}
use Rattle.machine.specs.Telling.History.{booked, is_accepted, is_all, is_ask, is_book, is_cover, is_expire_or_refuse, is_in, is_ok, place_of, read_first}
use Rattle.machine.specs.Telling.Facts.{accepted_batch, answer_in, answer_of_message, answer_taken, objection_in, revoked, revokes, takes_well}
use Rattle.machine.specs.Stages.Intake.{target, target_in, target_is_missing, target_of_message}
use Rattle.machine.specs.Legal.{IsLegal}
use Rattle.settlement_laws.proofs.Base.IntakeFacts.{IsPassed}
use Rattle.settlement_laws.proofs.Base.Made.{made_facts}
use Rattle.settlement_laws.proofs.Base.OneBatchOfAName.{found_one, in_passed, one_name}
use Rattle.live_order.specs.Longer.{SpeaksOf}
use Rattle.live_order.proofs.Longer.Known.{message_same, named_same}
use Rattle.live_order.proofs.Longer.Ranges.{find_within}
use Rattle.live_order.proofs.Runs.Speaking.{speaks}
use Rattle.day_facts.specs.Arrivals.{next_number, with_one}
use Rattle.day_facts.specs.Own.{own_of}
use Rattle.day_facts.specs.Told.{told_of}

-- ---- no line passes

pub none_placed : (k : ℕ) (t : Line → Bool) → ((l : Line) → l.head.msg ≤ k → t l ≡ false) → (J : History) → SpeaksOf k J → place_of t J ≡ place_of t []
unfolding place_of
none_placed k t none [] s = refl
none_placed k t none (l ∷ J) s = λ i. option_or (none_placed k t none J s.0 i) (when (none l s.1 i) (suc (length J)))

none_read : {X : Type 0} (k : ℕ) (read : Line → Option X) → ((l : Line) → l.head.msg ≤ k → read l ≡ None) → (J : History) → SpeaksOf k J → read_first read J ≡ read_first read []
unfolding read_first
none_read k read none [] s = refl
none_read k read none (l ∷ J) s = λ i. option_or (none_read k read none J s.0 i) (none l s.1 i)

-- the line is of another message
other : (k n : ℕ) (kind : Bool) (l : Line) → k < n → l.head.msg ≤ k → (kind && nat_eq l.head.msg n) ≡ false
other k n kind l high low = and_right kind (nat_eq l.head.msg n) (ne_eqb l.head.msg n (λ e. omega (arith, e, low, high)))

pub own_none : (k n : ℕ) (J : History) → SpeaksOf k J → k < n → own_of J n ≡ own_of [] n
unfolding own_of
own_none k n J s high = λ i. record {
  taken = none_placed k (λ l. is_in l.head.kind && nat_eq l.head.msg n) (λ l low. other k n (is_in l.head.kind) l high low) J s i;
  code = none_read k (λ l. when (is_in l.head.kind && nat_eq l.head.msg n) l.head.code) (λ l low. ap (λ b. when b l.head.code) (other k n (is_in l.head.kind) l high low)) J s i;
  whole = none_placed k (λ l. is_all l.head.kind && nat_eq l.head.msg n) (λ l low. other k n (is_all l.head.kind) l high low) J s i;
  asked = none_placed k (λ l. is_ask l.head.kind && nat_eq l.head.msg n) (λ l low. other k n (is_ask l.head.kind) l high low) J s i;
  covered = none_placed k (λ l. is_cover l.head.kind && nat_eq l.head.msg n) (λ l low. other k n (is_cover l.head.kind) l high low) J s i;
  closed = none_placed k (λ l. is_expire_or_refuse l.head.kind && nat_eq l.head.msg n) (λ l low. other k n (is_expire_or_refuse l.head.kind) l high low) J s i;
}

pub book_none : (k n e : ℕ) (J : History) → SpeaksOf k J → k < n → booked J n e ≡ booked [] n e
book_none k n e J s high =
    none_placed k (λ l. is_book l.head.kind && nat_eq l.head.msg n && nat_eq l.head.entry e)
    (λ l low. and_left (is_book l.head.kind && nat_eq l.head.msg n) (nat_eq l.head.entry e) (other k n (is_book l.head.kind) l high low)) J s

-- ---- no accepted message names it

module _ (day : Day) (m : Message) where
  -- the batch that an accepted message names was there before it
  not_named : (J : History) (system id : List ℕ) → is_none (accepted_batch day J system id) ≡ false → names_batch (with_one day m) system id (next_number day) ≡ false
  not_named J system id found = by (accepted_batch day J system id) refl found
    where
      by : (o : Option ℕ) → accepted_batch day J system id ≡ o → is_none o ≡ false → names_batch (with_one day m) system id (next_number day) ≡ false
      by None e h = cc
      by (Some b) e h =
          let within : b < 1 + length day.messages = find_within (λ n. names_batch day system id n && is_accepted J n) 1 day.messages b e in
          let own = (and_parts (names_batch day system id b) (is_accepted J b) (found_one (λ n. names_batch day system id n && is_accepted J n) (message_numbers day) b e)).0 in
          let here : names_batch (with_one day m) system id b ≡ true = named_same day (m ∷ []) [] system id b (omega (arith, within)) ∙ own in
          false_from_ne_true (names_batch (with_one day m) system id (next_number day)) (λ named. let same = one_name (with_one day m) system id b (next_number day) here named in absurd (omega (arith, same, within)))

  module _ (J : History) (l : Line) (legal : IsLegal day (l ∷ J)) (low : l.head.msg ≤ length day.messages) where
    passed : takes_well l ≡ true → IsPassed day J l.head.msg
    passed well =
        let t = and_parts (is_in l.head.kind) (is_ok l.head.code) well in
        in_passed l.head.kind day J l.head.msg l.head.entry l.head.code l.moves t.0 t.1 (made_facts day J l legal.1).1

    answers_none : (x : Message) (b : Body) → message_at day l.head.msg ≡ Some x → x.body ≡ b → takes_well l ≡ true → answer_in (with_one day m) (next_number day) x.sender b ≡ None
    answers_none x (bodies.Confirm id reply) e f well =
        let sort : sort_of day l.head.msg ≡ Confirm = ap (λ o. option_map_or (λ (y : Message). sort_of_body y.body) o Missing) e ∙ ap sort_of_body f in
        let aims : target day J l.head.msg ≡ accepted_batch day J x.sender id = ap (target_of_message day J) e ∙ ap (target_in day J x.sender) f in
        ap (λ b. when b reply)
        (not_named J x.sender id (subst (λ t. is_none t ≡ false) aims (subst (λ s. target_is_missing s day J l.head.msg ≡ false) sort (passed well).target_right)))
    answers_none x _ e f well = refl

    objects_none : (k : ℕ) (x : Message) (b : Body) → message_at day l.head.msg ≡ Some x → x.body ≡ b → takes_well l ≡ true → objection_in (with_one day m) (next_number day) k x.sender b ≡ false
    objects_none k x (bodies.Object system id) e f well =
        let sort : sort_of day l.head.msg ≡ Object = ap (λ o. option_map_or (λ (y : Message). sort_of_body y.body) o Missing) e ∙ ap sort_of_body f in
        let aims : target day J l.head.msg ≡ accepted_batch day J system id = ap (target_of_message day J) e ∙ ap (target_in day J x.sender) f in
        and_left _ _
        (not_named J system id (subst (λ t. is_none t ≡ false) aims (subst (λ s. target_is_missing s day J l.head.msg ≡ false) sort (passed well).target_right)))
    objects_none k x _ e f well = refl

    same_message : message_at (with_one day m) l.head.msg ≡ message_at day l.head.msg
    same_message = message_same day (m ∷ []) [] l.head.msg low

    answer_none : answer_taken (with_one day m) (next_number day) l ≡ None
    answer_none =
        ap (λ o. if takes_well l then answer_of_message (with_one day m) (next_number day) o else None) same_message
        ∙ by (takes_well l) (message_at day l.head.msg) refl refl
      where
        by : (t : Bool) (o : Option Message) → takes_well l ≡ t → message_at day l.head.msg ≡ o → (if t then answer_of_message (with_one day m) (next_number day) o else None) ≡ None
        by false o w e = refl
        by true None w e = refl
        by true (Some x) w e = answers_none x x.body e refl w

    revokes_none : (k : ℕ) → revokes (with_one day m) (next_number day) k l ≡ false
    revokes_none k =
        ap (λ o. takes_well l && some_passes (λ (x : Message). objection_in (with_one day m) (next_number day) k x.sender x.body) o) same_message
        ∙ by (takes_well l) (message_at day l.head.msg) refl refl
      where
        by : (t : Bool) (o : Option Message) → takes_well l ≡ t → message_at day l.head.msg ≡ o → (t && some_passes (λ (x : Message). objection_in (with_one day m) (next_number day) k x.sender x.body) o) ≡ false
        by false o w e = refl
        by true None w e = refl
        by true (Some x) w e = objects_none k x x.body e refl w

  -- of lines that are legal one after another
  placed_none : (t : Line → Bool) → ((J : History) (l : Line) → IsLegal day (l ∷ J) → l.head.msg ≤ length day.messages → t l ≡ false) → (J : History) → IsLegal day J → SpeaksOf (length day.messages) J → place_of t J ≡ place_of t []
  unfolding place_of
  placed_none t none [] legal s = refl
  placed_none t none (l ∷ J) legal s = λ i. option_or (placed_none t none J legal.0 s.0 i) (when (none J l legal s.1 i) (suc (length J)))

  read_none : {X : Type 0} (read : Line → Option X) → ((J : History) (l : Line) → IsLegal day (l ∷ J) → l.head.msg ≤ length day.messages → read l ≡ None) → (J : History) → IsLegal day J → SpeaksOf (length day.messages) J → read_first read J ≡ read_first read []
  unfolding read_first
  read_none read none [] legal s = refl
  read_none read none (l ∷ J) legal s = λ i. option_or (read_none read none J legal.0 s.0 i) (none J l legal s.1 i)

  pub told_none : (J : History) → IsLegal day J → told_of (with_one day m) J (next_number day) ≡ told_of (with_one day m) [] (next_number day)
  unfolding told_of
  told_none J legal = λ i. record {
    answered = placed_none (λ l. is_some (answer_taken (with_one day m) (next_number day) l)) (λ K l h low. ap is_some (answer_none K l h low)) J legal (speaks day J legal) i;
    answer = read_none (answer_taken (with_one day m) (next_number day)) answer_none J legal (speaks day J legal) i;
  }

  pub revoked_none : (J : History) (k : ℕ) → IsLegal day J → revoked (with_one day m) J (next_number day) k ≡ revoked (with_one day m) [] (next_number day) k
  revoked_none J k legal = placed_none (revokes (with_one day m) (next_number day) k) (λ K l h low. revokes_none K l h low k) J legal (speaks day J legal)
