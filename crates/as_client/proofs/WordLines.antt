-- The word by a message's own statuses is the word by the journal.
use Rattle.std.proofs.Common.{◌≡◌, ◌∙◌, ℕ, Bool, true, false, not, ◌&&◌, ◌||◌, List, [], ◌∷◌, ◌++◌, Option, Some, None, refl, sym, ap, subst, inl, inr, length}
use Rattle.std.specs.Prelude.{if◌then◌else◌, is_none, is_some, nat_eq}
use Rattle.std.specs.List.{flat_map}
use Rattle.std.specs.Option.{option_map_or}
use Rattle.std.proofs.lemmas.Bool.{and_left, and_parts, eqb-false, eqb-true}
use Rattle.batch_records.specs.DayRecord.{Day}
use Rattle.batch_records.specs.declared.day.Message.{Message}
use Rattle.commit_journal.specs.declared.line.Code.{Code}
use Rattle.commit_journal.specs.declared.line.Code.TheVariants as line_codes
use Rattle.commit_journal.specs.Line.{Line, History}
use Rattle.machine.specs.Words.{is_empty, some_passes}
use Rattle.machine.specs.Records.Messages.{Sort, BatchA, BatchB, BatchE, entries, info_end, is_batch, is_message, message_at, message_numbers, sender, sort_of, sort_of_body, stated_count}
use Rattle.machine.specs.Telling.History.{asked, closed, is_accepted, is_ask, is_ask_of, is_closing_of, is_expire_or_refuse, is_in, is_in_of, is_ok, place_of, taken, taken_code}
use Rattle.machine.specs.Telling.Facts.{objects, revokes, takes_well}
use Rattle.machine.specs.Laws.{is_order}
use Rattle.machine.specs.Legal.{IsLegal}
use Rattle.machine.specs.Stages.Phases.{is_no_order, phase, revoked_as, settled_as}
use Rattle.settlement_laws.proofs.Base.Counting.{not_none, not_some, stands_now}
use Rattle.settlement_laws.proofs.Base.Lists.{IsIn, into_filter, is_numbered, never}
use Rattle.settlement_laws.proofs.Base.Made.{made_facts}
use Rattle.settlement_laws.proofs.Base.PhaseFacts.{IsGoing, going_facts}
use Rattle.settlement_laws.proofs.Base.PhaseLaws.{overdue_going}
use Rattle.settlement_laws.proofs.Base.Places.{place-other}
use Rattle.settlement_laws.proofs.Base.OneBatchOfAName.{in_passed}
use Rattle.settlement_laws.proofs.EachLaw.RejectedDoNothing.{untaken_code, code_now}
use Rattle.status_messages.specs.Statuses.{all_statuses, ask_statuses, failure_statuses, information_statuses, intake_statuses, is_revoked, is_settled, is_settled_now, move_statuses, objection_statuses, objection_target, place_after, rejection_statuses, reply, revocations_as, revocations_of, settlement_statuses, statuses}
use Rattle.status_messages.specs.declared.status.Status.{Status}
use Rattle.status_messages.proofs.Objections.{NoObjection, Objection, objection_or_none}
use Rattle.status_messages.proofs.Untouched.{code_same}
use Rattle.as_client.specs.declared.view.Word.{Word}
use Rattle.as_client.specs.declared.view.Word.TheVariants as words
use Rattle.as_client.specs.PartyWords.{is_repeat_code, word_after, word_in}
use Rattle.as_client.proofs.WordFacts.{asking_only, asking_overdue, closing_going, closing_only, informed_going, informed_taken, intake_only, own_untaken, revoked_kept, settled_stays, unrevoked_as, untaken_asked, untaken_closed, untaken_revoked, untaken_revokes}
use Rattle.as_client.proofs.WordSteps.{along, along-append, along_ask, along_failure, along_information, along_intake, along_moves, along_objection, along_objection_other, along_rejections, along_settlement, word_objected}
use Rattle.as_client.proofs.WordTables.{informed_unasked, phase_revoked, phase_settled, settled_shown, shows_revoked, shows_settled, word_is, word_over}

-- ---- the word after a line, by what the line tells of the message

-- settled now, or else failed now, or else asked now, or else this word
abbrev after_line : Bool → Bool → Bool → Word → Word
after_line settles closes asks word = if settles then words.Settled else (if closes then words.Failed else (if asks then words.Asked else word))

after_more : (n : ℕ) (word next last : Word) (xs ys : List Status) → along n word xs ≡ next → along n next ys ≡ last → along n word (xs ++ ys) ≡ last
after_more n word next last xs ys h k = along-append n word xs ys ∙ ap (λ w. along n w ys) h ∙ k

pub order_message : (s : Sort) → is_order s ≡ true → is_message s ≡ true
order_message Sort.Missing h = cc
order_message _ h = refl

message_there : (day : Day) (n : ℕ) → is_message (sort_of day n) ≡ true → IsIn n (message_numbers day)
message_there day n h = is_numbered n day.messages (here (message_at day n) refl)
  where
    here : (o : Option Message) → message_at day n ≡ o → is_some o ≡ true
    here None e = never (is_message (sort_of day n)) h (ap (λ o. is_message (option_map_or (λ (m : Message). sort_of_body m.body) o Sort.Missing)) e)
    here (Some m) e = refl

pub settling_order : (day : Day) (J : History) (l : Line) (n : ℕ) → is_settled_now day J l n ≡ true → is_order (sort_of day n) ≡ true
settling_order day J l n h = (and_parts (is_order (sort_of day n)) (is_settled (phase day (l ∷ J) n)) (and_parts (is_order (sort_of day n) && is_settled (phase day (l ∷ J) n)) (not (is_settled (phase day J n))) h).0).0

line_word : (day : Day) (J : History) (l : Line) (n : ℕ) (word taken_word word_then : Word) → (if is_in_of n l then word_after (reply l.head.code) word else word) ≡ taken_word → along n taken_word (objection_statuses day J l) ≡ word_then
    → along n word (statuses day J l) ≡ after_line (is_settled_now day J l n) (is_closing_of n l) (is_ask_of n l) word_then
unfolding statuses
line_word day J l n word taken_word word_then h k =
    after_more n word _ _ _ (settlement_statuses day J l)
    (after_more n word _ _ _ (failure_statuses day J l)
    (after_more n word _ _ _ (ask_statuses day J l)
    (after_more n word word_then word_then _ (rejection_statuses day J l)
    (after_more n word taken_word word_then _ (objection_statuses day J l)
    (after_more n word taken_word taken_word _ (information_statuses day J l)
    (after_more n word word taken_word (flat_map (move_statuses day (place_after J)) l.moves) (intake_statuses day J l) (along_moves n day (place_after J) l.moves word) (along_intake n day J l word ∙ h))
    (along_information n day (place_after J) l.head.msg (takes_well l && is_some (info_end day l.head.msg)) _ taken_word))
    k)
    (along_rejections (takes_well l) (sort_of day l.head.msg) n day J l.head.msg word_then))
    (along_ask n day J l word_then))
    (along_failure n day J l _))
    (along_settlement n day J l _ (λ e. into_filter (is_settled_now day J l) (message_numbers day) n (message_there day n (order_message (sort_of day n) (settling_order day J l n e))) e))

-- ---- the four cases, as tables

-- a message's own intake
taken_table : (k : Code) (o t v' s' r c v s : Bool) → (is_ok k ≡ true → v' ≡ false)
    → after_line ((t && shows_settled false (not (is_ok k)) o false v' s') && not (shows_settled true r o c v s)) false false (word_after (reply k) words.Nothing)
    ≡ word_over false (is_repeat_code k) (not (is_ok k)) o t false v' s' false
taken_table line_codes.Ok o t true s' r c v s h = never false (sym (h refl)) refl
taken_table line_codes.Ok true false false s' r c v s h = refl
taken_table line_codes.Ok false false false s' r c v s h = refl
taken_table line_codes.Ok true true false s' r c v s h = refl
taken_table line_codes.Ok false true false true r c v s h = refl
taken_table line_codes.Ok false true false false r c v s h = refl
taken_table line_codes.Du o true v' s' r c v s h = refl
taken_table line_codes.Du o false v' s' r c v s h = refl
taken_table _ o true v' s' r c v s h = refl
taken_table _ o false v' s' r c v s h = refl

-- an objection to it
objected_table : (t v' s' : Bool) → after_line ((t && shows_settled false false false false v' s') && not (shows_settled false false false false false false)) false false (if v' then words.Revoked else words.Accepted)
    ≡ word_over false false false false t false v' s' false
objected_table true true s' = refl
objected_table false true s' = refl
objected_table true false true = refl
objected_table true false false = refl
objected_table false false s' = refl

-- its system is asked
asked_table : (t s' : Bool) (word : Word) → after_line ((t && shows_settled false false false false false s') && not (shows_settled false false false false false false)) false true word ≡ word_over false false false false t false false s' true
asked_table true true word = refl
asked_table true false word = refl
asked_table false s' word = refl

-- it is closed
closed_table : (t v s' k : Bool) (word : Word) → after_line ((t && shows_settled false false false true v s') && not (shows_settled false false false false false false)) true false word ≡ word_over false false false false t true v s' k
closed_table true v s' k word = refl
closed_table false v s' k word = refl

-- none of these
other_table : (u d r o t c v s s' k : Bool) → (d ≡ true → r ≡ true) → (s ≡ true → s' ≡ true)
    → after_line ((t && shows_settled u r o c v s') && not (shows_settled u r o c v s)) false false (word_over u d r o t c v s k) ≡ word_over u d r o t c v s' k
other_table u d r o false c v s s' k h m = refl
other_table true d r o true c v s s' k h m = refl
other_table false true true o true c v s s' k h m = refl
other_table false true false o true c v s s' k h m = never false (h refl) refl
other_table false false true o true c v s s' k h m = refl
other_table false false false true true c v s s' k h m = refl
other_table false false false false true true v s s' k h m = refl
other_table false false false false true false true s s' k h m = refl
other_table false false false false true false false true true k h m = refl
other_table false false false false true false false true false k h m = never false (m refl) refl
other_table false false false false true false false false true k h m = refl
other_table false false false false true false false false false k h m = refl

-- ---- by the facts of a message before and after the line

module _ (day : Day) (J : History) (l : Line) (n : ℕ) (legal : IsLegal day (l ∷ J)) where
  settles_is : is_settled_now day J l n ≡ ((is_order (sort_of day n) && settled_shown day (l ∷ J) n) && not (settled_shown day J n))
  settles_is = λ i. (is_order (sort_of day n) && phase_settled day (l ∷ J) n i) && not (phase_settled day J n i)

  -- the code is kept, and whether it is taken
  taken_kept : is_in_of n l ≡ false → is_none (taken (l ∷ J) n) ≡ is_none (taken J n)
  taken_kept h = ap is_none (place-other (is_in_of n) l J h)

  repeated_kept : is_in_of n l ≡ false → some_passes is_repeat_code (taken_code (l ∷ J) n) ≡ some_passes is_repeat_code (taken_code J n)
  repeated_kept h = ap (some_passes is_repeat_code) (code_same l J n h)

  rejected_kept : is_in_of n l ≡ false → not (is_accepted (l ∷ J) n) ≡ not (is_accepted J n)
  rejected_kept h = ap (λ c. not (some_passes is_ok c)) (code_same l J n h)

  closed_kept : is_closing_of n l ≡ false → is_some (closed (l ∷ J) n) ≡ is_some (closed J n)
  closed_kept h = ap is_some (place-other (is_closing_of n) l J h)

  asked_kept : is_ask_of n l ≡ false → is_some (asked (l ∷ J) n) ≡ is_some (asked J n)
  asked_kept h = ap is_some (place-other (is_ask_of n) l J h)

  repeat_rejected : (o : Option Code) → some_passes is_repeat_code o ≡ true → not (some_passes is_ok o) ≡ true
  repeat_rejected None h = refl
  repeat_rejected (Some c) h = here c h
    where
      here : (c : Code) → is_repeat_code c ≡ true → not (is_ok c) ≡ true
      here line_codes.Ok h = cc
      here _ h = refl

  -- an accepted message is no repeat
  no_repeat : (o : Option Code) → not (some_passes is_ok o) ≡ false → some_passes is_repeat_code o ≡ false
  no_repeat o h = here (some_passes is_repeat_code o) refl
    where
      here : (b : Bool) → some_passes is_repeat_code o ≡ b → b ≡ false
      here true e = never (not (some_passes is_ok o)) (repeat_rejected o e) h
      here false e = refl

  not_asked : is_in_of n l ≡ true → is_ask_of n l ≡ false
  not_asked h = and_left (is_ask l.head.kind) (nat_eq l.head.msg n) (intake_only l.head.kind (and_parts (is_in l.head.kind) (nat_eq l.head.msg n) h).0).0

  not_closed : is_in_of n l ≡ true → is_closing_of n l ≡ false
  not_closed h = and_left (is_expire_or_refuse l.head.kind) (nat_eq l.head.msg n) (intake_only l.head.kind (and_parts (is_in l.head.kind) (nat_eq l.head.msg n) h).0).1

  -- ---- objections

  no_objection : NoObjection day J l → (word : Word) → along n word (objection_statuses day J l) ≡ word
  unfolding along
  no_objection none word = here (takes_well l) refl
    where
      here : (b : Bool) → takes_well l ≡ b → along n word (if b then revocations_of day J l (objection_target (sort_of day l.head.msg) day J l.head.msg) else []) ≡ word
      here true e = ap (λ o. along n word (revocations_of day J l o)) (none.no_aim e)
      here false e = refl

  the_objection : (b : ℕ) → Objection day J l b → objection_statuses day J l ≡ revocations_as (sort_of day b) day J l b
  the_objection b o =
      ap (λ t. if t then revocations_of day J l (objection_target (sort_of day l.head.msg) day J l.head.msg) else []) o.takes
      ∙ ap (revocations_of day J l) (ap (λ s. objection_target s day J l.head.msg) o.is_object ∙ o.aim)

  objection_elsewhere : (b : ℕ) → Objection day J l b → nat_eq b n ≡ false → (word : Word) → along n word (objection_statuses day J l) ≡ word
  objection_elsewhere b o e word = ap (along n word) (the_objection b o) ∙ along_objection_other (sort_of day b) n b day J l word e

  -- ---- the message's own intake

  untaken_objection : is_none (taken J n) ≡ true → (word : Word) → along n word (objection_statuses day J l) ≡ word
  untaken_objection u word = elim (objection_or_none day J l legal) [
    | inl none ↦ no_objection none word
    | inr some ↦ here some.0 some.1 (nat_eq some.0 n) refl
  ]
    where
      here : (b : ℕ) → Objection day J l b → (c : Bool) → nat_eq b n ≡ c → along n word (objection_statuses day J l) ≡ word
      here b o false e = objection_elsewhere b o e word
      here b o true e = never (is_some (taken J n)) (subst (λ x. is_some (taken J x) ≡ true) (eqb-true b n e) (informed_taken day J b o.in_time)) (not_some (taken J n) u)

  intake_counted : is_in_of n l ≡ true → is_ok l.head.code ≡ true → (is_batch (sort_of day n) && (is_empty (entries day n) || not (nat_eq (length (entries day n)) (stated_count day n)))) ≡ false
  intake_counted h c =
      let b = and_parts (is_in l.head.kind) (nat_eq l.head.msg n) h in
      subst (λ x. (is_batch (sort_of day x) && (is_empty (entries day x) || not (nat_eq (length (entries day x)) (stated_count day x)))) ≡ false) (eqb-true l.head.msg n b.1)
      (in_passed l.head.kind day J l.head.msg l.head.entry l.head.code l.moves b.0 c (made_facts day J l legal.1).1).count_right

  unrevoked_yet : is_in_of n l ≡ true → is_ok l.head.code ≡ true → revoked_as (sort_of day n) day (l ∷ J) n ≡ false
  unrevoked_yet h c =
      let u = own_untaken day J l n legal h in
      unrevoked_as (sort_of day n) day (l ∷ J) n (intake_counted h c) (λ k. ap is_some (place-other (revokes day n k) l J (untaken_revokes day J l n k legal u)) ∙ untaken_revoked day J n k legal.0 u)

  untaken_word : is_none (taken J n) ≡ true → word_in day J n ≡ words.Nothing
  untaken_word u = word_is day J n ∙ ap (λ b. word_over b (some_passes is_repeat_code (taken_code J n)) (not (is_accepted J n)) (is_no_order (sort_of day n)) (is_order (sort_of day n)) (is_some (closed J n)) (revoked_as (sort_of day n) day J n) (settled_as (sort_of day n) day J n) (is_some (asked J n))) u

  own_case : is_in_of n l ≡ true → along n (word_in day J n) (statuses day J l) ≡ word_in day (l ∷ J) n
  own_case h =
      line_word day J l n (word_in day J n) first first taken_word (untaken_objection u first)
      ∙ (λ i. after_line (settles_is i) (not_closed h i) (not_asked h i) first)
      ∙ (λ i. after_line ((is_order (sort_of day n) && shows_settled (taken_now i) (rejected_now i) (is_no_order (sort_of day n)) (unclosed i) (revoked_as (sort_of day n) day (l ∷ J) n) (settled_as (sort_of day n) day (l ∷ J) n))
      && not (shows_settled (u i) (not (is_accepted J n)) (is_no_order (sort_of day n)) (is_some (closed J n)) (revoked_as (sort_of day n) day J n) (settled_as (sort_of day n) day J n))) false false first)
      ∙ taken_table l.head.code (is_no_order (sort_of day n)) (is_order (sort_of day n)) (revoked_as (sort_of day n) day (l ∷ J) n) (settled_as (sort_of day n) day (l ∷ J) n) (not (is_accepted J n)) (is_some (closed J n)) (revoked_as (sort_of day n) day J n) (settled_as (sort_of day n) day J n) (unrevoked_yet h)
      ∙ sym (λ i. word_over (taken_now i) (repeated_now i) (rejected_now i) (is_no_order (sort_of day n)) (is_order (sort_of day n)) (unclosed i) (revoked_as (sort_of day n) day (l ∷ J) n) (settled_as (sort_of day n) day (l ∷ J) n) (unasked i))
      ∙ sym (word_is day (l ∷ J) n)
    where
      u : is_none (taken J n) ≡ true
      u = own_untaken day J l n legal h

      first : Word
      first = word_after (reply l.head.code) words.Nothing

      taken_word : (if is_in_of n l then word_after (reply l.head.code) (word_in day J n) else word_in day J n) ≡ first
      taken_word = ap (λ b. if b then word_after (reply l.head.code) (word_in day J n) else word_in day J n) h ∙ ap (word_after (reply l.head.code)) (untaken_word u)

      code_is : taken_code (l ∷ J) n ≡ Some l.head.code
      code_is = code_now l J n h (untaken_code J n u)

      taken_now : is_none (taken (l ∷ J) n) ≡ false
      taken_now = not_none (taken (l ∷ J) n) (stands_now (is_in_of n) l J h)

      repeated_now : some_passes is_repeat_code (taken_code (l ∷ J) n) ≡ is_repeat_code l.head.code
      repeated_now = ap (some_passes is_repeat_code) code_is

      rejected_now : not (is_accepted (l ∷ J) n) ≡ not (is_ok l.head.code)
      rejected_now = ap (λ o. not (some_passes is_ok o)) code_is

      unclosed : is_some (closed (l ∷ J) n) ≡ false
      unclosed = closed_kept (not_closed h) ∙ untaken_closed day J n legal.0 u

      unasked : is_some (asked (l ∷ J) n) ≡ false
      unasked = asked_kept (not_asked h) ∙ untaken_asked day J n legal.0 u

  -- ---- a line of another sort, or of another message

  module _ (taken_no : is_in_of n l ≡ false) where
    same_word : (word : Word) → (if is_in_of n l then word_after (reply l.head.code) word else word) ≡ word
    same_word word = ap (λ b. if b then word_after (reply l.head.code) word else word) taken_no

    going_repeat : IsGoing day J n → some_passes is_repeat_code (taken_code (l ∷ J) n) ≡ false
    going_repeat g = repeated_kept taken_no ∙ no_repeat (taken_code J n) g.rejected_no

    going_before : (g : IsGoing day J n) → settled_shown day J n ≡ shows_settled false false false false false false
    going_before g = λ i. shows_settled (g.untaken_no i) (g.rejected_no i) (g.no_order_no i) (g.closed_no i) (g.revoked_no i) (g.settled_no i)

    asked_case : ((k : ℕ) → revokes day n k l ≡ false) → ((word : Word) → along n word (objection_statuses day J l) ≡ word) → is_ask_of n l ≡ true → along n (word_in day J n) (statuses day J l) ≡ word_in day (l ∷ J) n
    asked_case unrevoked unobjected h =
        line_word day J l n (word_in day J n) (word_in day J n) (word_in day J n) (same_word (word_in day J n)) (unobjected (word_in day J n))
        ∙ (λ i. after_line (settles_is i) (unclosing i) (h i) (word_in day J n))
        ∙ (λ i. after_line ((is_order (sort_of day n) && shows_settled (untaken_then i) (rejected_then i) (g.no_order_no i) (closed_then i) (revoked_then i) (settled_as (sort_of day n) day (l ∷ J) n)) && not (going_before g i)) false true (word_in day J n))
        ∙ asked_table (is_order (sort_of day n)) (settled_as (sort_of day n) day (l ∷ J) n) (word_in day J n)
        ∙ sym (λ i. word_over (untaken_then i) (going_repeat g i) (rejected_then i) (g.no_order_no i) (is_order (sort_of day n)) (closed_then i) (revoked_then i) (settled_as (sort_of day n) day (l ∷ J) n) (stands_now (is_ask_of n) l J h i))
        ∙ sym (word_is day (l ∷ J) n)
      where
        g : IsGoing day J n
        g = going_facts day J n (overdue_going (phase day J n) (asking_overdue day J l n legal h))

        unclosing : is_closing_of n l ≡ false
        unclosing = and_left (is_expire_or_refuse l.head.kind) (nat_eq l.head.msg n) (asking_only l.head.kind (and_parts (is_ask l.head.kind) (nat_eq l.head.msg n) h).0)

        untaken_then : is_none (taken (l ∷ J) n) ≡ false
        untaken_then = taken_kept taken_no ∙ g.untaken_no

        rejected_then : not (is_accepted (l ∷ J) n) ≡ false
        rejected_then = rejected_kept taken_no ∙ g.rejected_no

        closed_then : is_some (closed (l ∷ J) n) ≡ false
        closed_then = closed_kept unclosing ∙ g.closed_no

        revoked_then : revoked_as (sort_of day n) day (l ∷ J) n ≡ false
        revoked_then = revoked_kept (sort_of day n) day l J n unrevoked ∙ g.revoked_no

    closed_case : ((word : Word) → along n word (objection_statuses day J l) ≡ word) → is_closing_of n l ≡ true → along n (word_in day J n) (statuses day J l) ≡ word_in day (l ∷ J) n
    closed_case unobjected h =
        line_word day J l n (word_in day J n) (word_in day J n) (word_in day J n) (same_word (word_in day J n)) (unobjected (word_in day J n))
        ∙ (λ i. after_line (settles_is i) (h i) (unasking i) (word_in day J n))
        ∙ (λ i. after_line ((is_order (sort_of day n) && shows_settled (untaken_then i) (rejected_then i) (g.no_order_no i) (stands_now (is_closing_of n) l J h i) (revoked_as (sort_of day n) day (l ∷ J) n) (settled_as (sort_of day n) day (l ∷ J) n)) && not (going_before g i)) true false (word_in day J n))
        ∙ closed_table (is_order (sort_of day n)) (revoked_as (sort_of day n) day (l ∷ J) n) (settled_as (sort_of day n) day (l ∷ J) n) (is_some (asked (l ∷ J) n)) (word_in day J n)
        ∙ sym (λ i. word_over (untaken_then i) (going_repeat g i) (rejected_then i) (g.no_order_no i) (is_order (sort_of day n)) (stands_now (is_closing_of n) l J h i) (revoked_as (sort_of day n) day (l ∷ J) n) (settled_as (sort_of day n) day (l ∷ J) n) (is_some (asked (l ∷ J) n)))
        ∙ sym (word_is day (l ∷ J) n)
      where
        g : IsGoing day J n
        g = going_facts day J n (closing_going day J l n legal h)

        unasking : is_ask_of n l ≡ false
        unasking = and_left (is_ask l.head.kind) (nat_eq l.head.msg n) (closing_only l.head.kind (and_parts (is_expire_or_refuse l.head.kind) (nat_eq l.head.msg n) h).0)

        untaken_then : is_none (taken (l ∷ J) n) ≡ false
        untaken_then = taken_kept taken_no ∙ g.untaken_no

        rejected_then : not (is_accepted (l ∷ J) n) ≡ false
        rejected_then = rejected_kept taken_no ∙ g.rejected_no

    quiet_case : ((k : ℕ) → revokes day n k l ≡ false) → ((word : Word) → along n word (objection_statuses day J l) ≡ word) → is_ask_of n l ≡ false → is_closing_of n l ≡ false → along n (word_in day J n) (statuses day J l) ≡ word_in day (l ∷ J) n
    quiet_case unrevoked unobjected a c =
        line_word day J l n (word_in day J n) (word_in day J n) (word_in day J n) (same_word (word_in day J n)) (unobjected (word_in day J n))
        ∙ (λ i. after_line (settles_is i) (c i) (a i) (word_is day J n i))
        ∙ (λ i. after_line ((is_order (sort_of day n) && shows_settled (taken_kept taken_no i) (rejected_kept taken_no i) (is_no_order (sort_of day n)) (closed_kept c i) (revoked_kept (sort_of day n) day l J n unrevoked i) (settled_as (sort_of day n) day (l ∷ J) n)) && not (settled_shown day J n)) false false
        (word_over (is_none (taken J n)) (some_passes is_repeat_code (taken_code J n)) (not (is_accepted J n)) (is_no_order (sort_of day n)) (is_order (sort_of day n)) (is_some (closed J n)) (revoked_as (sort_of day n) day J n) (settled_as (sort_of day n) day J n) (is_some (asked J n))))
        ∙ other_table (is_none (taken J n)) (some_passes is_repeat_code (taken_code J n)) (not (is_accepted J n)) (is_no_order (sort_of day n)) (is_order (sort_of day n)) (is_some (closed J n)) (revoked_as (sort_of day n) day J n) (settled_as (sort_of day n) day J n) (settled_as (sort_of day n) day (l ∷ J) n) (is_some (asked J n))
        (repeat_rejected (taken_code J n)) (settled_stays (sort_of day n) day l J n)
        ∙ sym (λ i. word_over (taken_kept taken_no i) (repeated_kept taken_no i) (rejected_kept taken_no i) (is_no_order (sort_of day n)) (is_order (sort_of day n)) (closed_kept c i) (revoked_kept (sort_of day n) day l J n unrevoked i) (settled_as (sort_of day n) day (l ∷ J) n) (asked_kept a i))
        ∙ sym (word_is day (l ∷ J) n)

    other_case : ((k : ℕ) → revokes day n k l ≡ false) → ((word : Word) → along n word (objection_statuses day J l) ≡ word) → along n (word_in day J n) (statuses day J l) ≡ word_in day (l ∷ J) n
    other_case unrevoked unobjected = here (is_ask_of n l) (is_closing_of n l) refl refl
      where
        here : (a c : Bool) → is_ask_of n l ≡ a → is_closing_of n l ≡ c → along n (word_in day J n) (statuses day J l) ≡ word_in day (l ∷ J) n
        here true c e f = asked_case unrevoked unobjected e
        here false true e f = closed_case unobjected f
        here false false e f = quiet_case unrevoked unobjected e f

    -- ---- an objection to the message

    objected_word : (s : Sort) (shown : Bool) (bank : List ℕ) → shown ≡ revoked_as s day (l ∷ J) n → revokes day n 0 l ≡ objects day s n 0 bank → word_objected s shown words.Accepted ≡ (if revoked_as s day (l ∷ J) n then words.Revoked else words.Accepted)
    objected_word BatchA shown bank e h = sym (ap (λ b. if b then words.Revoked else words.Accepted) (stands_now (revokes day n 0) l J h))
    objected_word BatchB shown bank e h = sym (ap (λ b. if b then words.Revoked else words.Accepted) (stands_now (revokes day n 0) l J h))
    objected_word BatchE shown bank e h = ap (λ b. if b then words.Revoked else words.Accepted) e
    objected_word _ shown bank e h = refl

    accepted_before : (t : Bool) → word_over false false false false t false false false false ≡ words.Accepted
    accepted_before true = refl
    accepted_before false = refl

    objected_case : Objection day J l n → along n (word_in day J n) (statuses day J l) ≡ word_in day (l ∷ J) n
    objected_case o =
        line_word day J l n (word_in day J n) words.Accepted revoked_word (same_word (word_in day J n) ∙ before) objected
        ∙ (λ i. after_line (settles_is i) (unclosing i) (unasking i) revoked_word)
        ∙ (λ i. after_line ((is_order (sort_of day n) && shows_settled (untaken_then i) (rejected_then i) (g.no_order_no i) (closed_then i) (revoked_as (sort_of day n) day (l ∷ J) n) (settled_as (sort_of day n) day (l ∷ J) n)) && not (going_before g i)) false false revoked_word)
        ∙ objected_table (is_order (sort_of day n)) (revoked_as (sort_of day n) day (l ∷ J) n) (settled_as (sort_of day n) day (l ∷ J) n)
        ∙ sym (λ i. word_over (untaken_then i) (going_repeat g i) (rejected_then i) (g.no_order_no i) (is_order (sort_of day n)) (closed_then i) (revoked_as (sort_of day n) day (l ∷ J) n) (settled_as (sort_of day n) day (l ∷ J) n) (unasked i))
        ∙ sym (word_is day (l ∷ J) n)
      where
        g : IsGoing day J n
        g = going_facts day J n (informed_going (phase day J n) o.in_time)

        an_intake : is_in l.head.kind ≡ true
        an_intake = (and_parts (is_in l.head.kind) (is_ok l.head.code) o.takes).0

        unasking : is_ask_of n l ≡ false
        unasking = and_left (is_ask l.head.kind) (nat_eq l.head.msg n) (intake_only l.head.kind an_intake).0

        unclosing : is_closing_of n l ≡ false
        unclosing = and_left (is_expire_or_refuse l.head.kind) (nat_eq l.head.msg n) (intake_only l.head.kind an_intake).1

        untaken_then : is_none (taken (l ∷ J) n) ≡ false
        untaken_then = taken_kept taken_no ∙ g.untaken_no

        rejected_then : not (is_accepted (l ∷ J) n) ≡ false
        rejected_then = rejected_kept taken_no ∙ g.rejected_no

        closed_then : is_some (closed (l ∷ J) n) ≡ false
        closed_then = closed_kept unclosing ∙ g.closed_no

        unasked : is_some (asked (l ∷ J) n) ≡ false
        unasked = asked_kept unasking ∙ informed_unasked day J n o.in_time

        revoked_word : Word
        revoked_word = if revoked_as (sort_of day n) day (l ∷ J) n then words.Revoked else words.Accepted

        before : word_in day J n ≡ words.Accepted
        before =
            word_is day J n
            ∙ (λ i. word_over (g.untaken_no i) (no_repeat (taken_code J n) g.rejected_no i) (g.rejected_no i) (g.no_order_no i) (is_order (sort_of day n)) (g.closed_no i) (g.revoked_no i) (g.settled_no i) (informed_unasked day J n o.in_time i))
            ∙ accepted_before (is_order (sort_of day n))

        shown : is_revoked (phase day (l ∷ J) n) ≡ revoked_as (sort_of day n) day (l ∷ J) n
        shown = phase_revoked day (l ∷ J) n ∙ (λ i. shows_revoked (untaken_then i) (rejected_then i) (g.no_order_no i) (closed_then i) (revoked_as (sort_of day n) day (l ∷ J) n))

        objected : along n words.Accepted (objection_statuses day J l) ≡ revoked_word
        objected =
            ap (along n words.Accepted) (the_objection n o)
            ∙ along_objection (sort_of day n) n day J l words.Accepted
            ∙ objected_word (sort_of day n) (is_revoked (phase day (l ∷ J) n)) (sender day l.head.msg) shown (o.revoking 0)

    later_case : along n (word_in day J n) (statuses day J l) ≡ word_in day (l ∷ J) n
    later_case = elim (objection_or_none day J l legal) [
      | inl none ↦ other_case (none.unrevoked n) (no_objection none)
      | inr some ↦ here some.0 some.1 (nat_eq some.0 n) refl
    ]
      where
        here : (b : ℕ) → Objection day J l b → (c : Bool) → nat_eq b n ≡ c → along n (word_in day J n) (statuses day J l) ≡ word_in day (l ∷ J) n
        here b o true e = objected_case (subst (Objection day J l) (eqb-true b n e) o)
        here b o false e = other_case (λ k. o.others n k (λ f. eqb-false b n e (sym f))) (objection_elsewhere b o e)

  line_step : along n (word_in day J n) (statuses day J l) ≡ word_in day (l ∷ J) n
  line_step = here (is_in_of n l) refl
    where
      here : (b : Bool) → is_in_of n l ≡ b → along n (word_in day J n) (statuses day J l) ≡ word_in day (l ∷ J) n
      here true e = own_case e
      here false e = later_case e

-- ---- a journal

word_first : (day : Day) (n : ℕ) → words.Nothing ≡ word_in day [] n
unfolding word_in place_of
word_first day n = refl

pub words_along : (day : Day) (J : History) (n : ℕ) → IsLegal day J → along n words.Nothing (all_statuses day J) ≡ word_in day J n
unfolding all_statuses along
words_along day [] n legal = word_first day n
words_along day (l ∷ J) n legal =
    along-append n words.Nothing (all_statuses day J) (statuses day J l) ∙ ap (λ w. along n w (statuses day J l)) (words_along day J n legal.0) ∙ line_step day J l n legal
