-- Each item that a line concerns is met, so that after it the set has just the items that are due.
use Rattle.std.proofs.Common.{◌≡◌, ◌∙◌, ℕ, zero, suc, ◌-◌, ◌+◌, ◌<◌, ◌≤◌, Bool, true, false, not, ◌&&◌, ◌||◌, cond, List, [], ◌∷◌, Option, Some, None, length, refl, sym, ap, subst, arith, ⊎_elim, if◌then◌else◌}
use Rattle.std.specs.Prelude.{count_by, filter, is_none, is_some, nat_eq, nat_lt, unwrap_or}
use Rattle.std.specs.Option.{option_map_or}
use Rattle.std.proofs.lemmas.Bool.{and_from, and_parts, cases_eq, cases_lt, eqb-true, false_from_ne_true, lt-ltb, or_cases, or_left, or_right}
use Rattle.std.proofs.lemmas.List.{ext_get_or}
use Rattle.std.proofs.lemmas.List.FromFn.{get_or-map-range_with_len, length-map-range_with_len}
use Rattle.std.proofs.lemmas.List.Recursion.{is_count_by}
use Rattle.batch_records.specs.DayRecord.{Day}
use Rattle.batch_records.specs.declared.day.Body.{Body}
use Rattle.batch_records.specs.declared.day.Body.TheVariants as bodies
use Rattle.batch_records.specs.declared.day.Entry.{Entry}
use Rattle.batch_records.specs.declared.day.Message.{Message}
use Rattle.commit_journal.specs.declared.line.Head.{Head}
use Rattle.commit_journal.specs.Line.{Line, History}
use Rattle.account_book.proofs.SoundLemmas.{same_names}
use Rattle.machine.specs.Words.{same_name, some_passes, when}
use Rattle.machine.specs.Records.Setup.{system_named}
use Rattle.machine.specs.Records.Messages.{entries, entry_at, entry_numbers, is_a, Missing, is_c, is_debit, is_debit_entry, item_numbers, message_at, names_batch, sender, sort_of, sort_of_body}
use Rattle.machine.specs.Telling.History.{is_accepted, is_book, is_in, is_in_of, is_ok, is_time, taken}
use Rattle.machine.specs.Telling.Facts.{answer_in, answer_of_message, cycle_ended, cycle_in, cycle_of_message, cycle_taken}
use Rattle.machine.specs.Stages.Phases.{is_booked}
use Rattle.machine.specs.Stages.Pending.{first_unbooked_debit, item}
use Rattle.machine.specs.Legal.{IsLegal}
use Rattle.settlement_laws.proofs.Base.Lists.{find_all, into_filter, is_numbered, never}
use Rattle.settlement_laws.proofs.Base.Places.{same-number}
use Rattle.number_set.specs.Members.{flags, has}
use Rattle.scan_laws.specs.Concerns.{accepts_answer, ends_cycle, is_due}
use Rattle.scan_laws.specs.Items.{concerns_item, frees_credits}
use Rattle.scan_laws.specs.Numbers.{item_count, item_number, item_of}
use Rattle.scan_laws.proofs.NumberFacts.{item-there, number-within}
use Rattle.machine.specs.declared.answers.Item.{Item}
use Rattle.scan_laws.proofs.Items.{same_item}
use Rattle.day_facts.specs.Facts.{Facts, StandsFor}
use Rattle.day_facts.specs.Left.{owes}
use Rattle.due_items.specs.Chains.{ends_cycles, has_key, is_cycle_end, last_of, system_of}
use Rattle.due_items.specs.declared.chain.Key.TheVariants as keys
use Rattle.due_items.proofs.ChainFacts.{last-le, last-passes}
use Rattle.due_items.proofs.CycleOrder.{accepted_parts, earlier_taken, ended_by, in_fresh}
use Rattle.settlement_laws.proofs.Base.OngoingPhases.{accepted_there}
use Rattle.settlement_laws.proofs.EachLaw.OnceAndInOrder.{messages_in_order}
use Rattle.machine.specs.Laws.{EachLine, FollowsSender}
use Rattle.batch_records.specs.Sound.{is_sound}
use Rattle.due_items.specs.Due.{due_at}
use Rattle.due_items.specs.Kept.{Due, KeepsDue, Tells}
use Rattle.due_items.specs.Noting.{IsMet, answers, frees, is_about_by, is_answer_on, is_booked_by, ends_cycle_of, is_end_before, is_taken_well}
use Rattle.due_items.specs.Renewing.{Flags, HaveRoom, Renews, RenewsBy}
use Rattle.due_items.proofs.HintFacts.{same_due}

-- ---- the last debit

counted : {X : Type 0} → (X → Bool) → List X → ℕ
counted p [] = 0
counted p (x ∷ xs) = cond (p x) (1 + counted p xs) (counted p xs)

none_counted : {X : Type 0} (p : X → Bool) (xs : List X) → ((x : X) → p x ≡ false) → counted p xs ≡ 0
unfolding counted
none_counted p [] none = refl
none_counted p (x ∷ xs) none = ap (λ b. cond b (1 + counted p xs) (counted p xs)) (none x) ∙ none_counted p xs none

entry_there : (day : Day) (n k : ℕ) → is_debit day n k ≡ true → is_some (entry_at day n k) ≡ true
entry_there day n k h = here (entry_at day n k) h
  where
    here : (o : Option Entry) → some_passes (is_debit_entry day n) o ≡ true → is_some o ≡ true
    here None h = never false h refl
    here (Some e) h = refl

none_owed : (day : Day) (K : History) (n : ℕ) → is_none (first_unbooked_debit day K n) ≡ true → count_by (owes day K n) (item_numbers day n) ≡ 0
unfolding counted
none_owed day K n none = sym (is_count_by (counted (owes day K n)) (owes day K n) refl (λ x xs. refl) (item_numbers day n)) ∙ none_counted (owes day K n) (item_numbers day n) not_owed
  where
    not_owed : (k : ℕ) → owes day K n k ≡ false
    not_owed k = false_from_ne_true (owes day K n k) (λ h.
        let p = and_parts (is_debit day n k) (not (is_booked K n k)) h in
        never (not (is_booked K n k)) p.1 (find_all (λ j. not (is_booked K n j)) (filter (is_debit day n) (entry_numbers day n)) none k
        (into_filter (is_debit day n) (entry_numbers day n) k (is_numbered k (entries day n) (entry_there day n k p.0)) p.0)))

frees_them : (day : Day) (J : History) (l : Line) → frees_credits day J l ≡ true → frees day (l ∷ J) l.head.msg l.head.entry ≡ true
frees_them day J l h =
    let p = and_parts (is_a (sort_of day l.head.msg) && is_debit day l.head.msg l.head.entry) (is_none (first_unbooked_debit day (l ∷ J) l.head.msg)) h in
    and_from (is_a (sort_of day l.head.msg) && is_debit day l.head.msg l.head.entry) _ p.0 (ap (λ n. nat_eq n 0) (none_owed day (l ∷ J) l.head.msg p.1))

-- ---- a message that is accepted

when_passes : (b r : Bool) → is_some (when b r) ≡ true → b ≡ true
when_passes true r h = refl
when_passes false r h = cc

when_fails : (b r : Bool) → some_passes not (when b r) ≡ true → not r ≡ true
when_fails true r h = h
when_fails false r h = cc

when_named : (b r : Bool) → some_passes not (when b r) ≡ true → b ≡ true
when_named true r h = refl
when_named false r h = cc

answered : (day : Day) (l : Line) (m : ℕ) → accepts_answer day l m ≡ true → (is_taken_well l.head && is_answer_on day l.head.msg m) ≡ true
answered day l m h = here (is_taken_well l.head) (message_at day l.head.msg) h
  where
    by_body : (from : List ℕ) (body : Body) → is_some (answer_in day m from body) ≡ true → answers day m from body ≡ true
    by_body from (bodies.Confirm id reply) q = when_passes (names_batch day from id m) reply q
    by_body from _ q = cc

    here : (t : Bool) (o : Option Message) → is_some (if t then answer_of_message day m o else None) ≡ true → (t && some_passes (λ x. answers day m x.sender x.body) o) ≡ true
    here false o q = cc
    here true None q = cc
    here true (Some x) q = by_body x.sender x.body q

-- the system of a batch of C by its sender
system_sent : (day : Day) (m : ℕ) → is_c (sort_of day m) ≡ true → system_of day m ≡ unwrap_or (system_named day (sender day m)) 0
system_sent day m h = here (message_at day m) h
  where
    here : (o : Option Message) → is_c (option_map_or (λ (x : Message). sort_of_body x.body) o Missing) ≡ true →
        option_map_or (λ (x : Message). unwrap_or (system_named day x.sender) 0) o 0 ≡ unwrap_or (system_named day (option_map_or (λ (x : Message). x.sender) o [])) 0
    here None q = never false q refl
    here (Some x) q = refl

keyed_by : (b c : Bool) (s t : ℕ) → b ≡ true → s ≡ t → some_passes (nat_eq s) (if b || c then Some t else None) ≡ true
keyed_by true c s t b e = ap (λ i. nat_eq i t) e ∙ same-number t
keyed_by false c s t b e = never false b refl

-- a batch of C ends no cycle
no_end : (day : Day) (m : ℕ) → is_c (sort_of day m) ≡ true → is_cycle_end day m ≡ true → ⊥
no_end day m c e = here (message_at day m) c e
  where
    by_body : (body : Body) → is_c (sort_of_body body) ≡ true → ends_cycles body ≡ true → ⊥
    by_body (bodies.Cycle start) q r = cc
    by_body _ q r = cc

    here : (o : Option Message) → is_c (option_map_or (λ (x : Message). sort_of_body x.body) o Missing) ≡ true → some_passes (λ (x : Message). ends_cycles x.body) o ≡ true → ⊥
    here None q r = cc
    here (Some x) q r = by_body x.body q r

false_from_not : (b : Bool) → not b ≡ true → b ≡ false
false_from_not true h = cc
false_from_not false h = refl

-- a batch of C, and a message of the day, has a number above 0
c_first : (day : Day) (m : ℕ) → is_c (sort_of day m) ≡ true → 1 ≤ m
c_first day zero c = cc
c_first day (suc i) c = omega arith

there_first : (day : Day) (n : ℕ) (x : Message) → message_at day n ≡ Some x → 1 ≤ n
there_first day zero x at = cc
there_first day (suc i) x at = omega arith

-- a batch whose cycle a message ends comes before it, and after each accepted end before it
module _ (day : Day) (J : History) (l : Line) (legal : IsLegal day (l ∷ J)) (f : EachLine (FollowsSender day) (l ∷ J)) (m : ℕ) (c : is_c (sort_of day m) ≡ true) (a : is_accepted J m ≡ true) (lasts : cycle_ended day m J ≡ false) (first : 1 ≤ m) (low : 1 ≤ l.head.msg) (q : is_in_of l.head.msg l ≡ true) (same : sender day m ≡ sender day l.head.msg) where
  comes_before : m < l.head.msg
  comes_before = ⊎_elim
      (λ (h : m < l.head.msg). h)
      (λ (h : l.head.msg ≤ m). absurd (in_fresh day J l l.head.msg legal q (⊎_elim
      (λ (e : l.head.msg ≡ m). subst (λ x. is_some (taken J x) ≡ true) (sym e) there)
      (λ (ne : l.head.msg ≡ m → ⊥). earlier_taken day J l.head.msg m f.0 low (omega (arith, h, ne)) (sym same) there)
      (cases_eq l.head.msg m))))
      (cases_lt m l.head.msg)
    where
      there : is_some (taken J m) ≡ true
      there = accepted_there J m a

  behind_ends : last_of (is_end_before day (l ∷ J) l.head.msg) (l.head.msg - 1) < m
  behind_ends = ⊎_elim
      (λ (h : e < m). h)
      (λ (h : m ≤ e). ⊎_elim
      (λ (z : e ≡ 0). absurd (omega (arith, z, h, first)))
      (λ (t : is_end_before day (l ∷ J) l.head.msg e ≡ true). absurd (met h t))
      (last-passes (is_end_before day (l ∷ J) l.head.msg) (l.head.msg - 1)))
      (cases_lt e m)
    where
      e : ℕ
      e = last_of (is_end_before day (l ∷ J) l.head.msg) (l.head.msg - 1)

      met : m ≤ e → is_end_before day (l ∷ J) l.head.msg e ≡ true → ⊥
      met h t =
          let p = and_parts (same_name (sender day e) (sender day l.head.msg)) (is_cycle_end day e && is_accepted (l ∷ J) e) t in
          let r = and_parts (is_cycle_end day e) (is_accepted (l ∷ J) e) p.1 in
          let low : e ≤ l.head.msg - 1 = last-le (is_end_before day (l ∷ J) l.head.msg) (l.head.msg - 1) in
          let before : m < l.head.msg = comes_before in
          let other : m ≡ e → ⊥ = λ z. no_end day e (subst (λ x. is_c (sort_of day x) ≡ true) z c) r.0 in
          let old : is_accepted J e ≡ true = ⊎_elim
          (λ (x : is_accepted J e ≡ true). x)
          (λ (x : (is_in_of e l ≡ true) × (is_ok l.head.code ≡ true)). let n : l.head.msg ≡ e = eqb-true l.head.msg e (and_parts (is_in l.head.kind) (nat_eq l.head.msg e) x.0).1 in absurd (omega (arith, n, low, before)))
          (accepted_parts l J e r.1)
          in
          never (cycle_ended day m J) (ended_by day J m e legal.0 f.0 first (omega (arith, h, other)) (same ∙ sym (same_names (sender day e) (sender day l.head.msg) p.0)) r.0 old) lasts

cycled : (day : Day) (J : History) (l : Line) (m : ℕ) → is_sound day ≡ true → IsLegal day (l ∷ J) → ends_cycle day J l m ≡ true → (is_taken_well l.head && ends_cycle_of day (l ∷ J) l.head.msg m) ≡ true
cycled day J l m sound legal h = here (is_taken_well l.head) refl (message_at day l.head.msg) refl first.1
  where
    parts : ((is_c (sort_of day m) && some_passes not (cycle_taken day (sender day m) l) && is_accepted J m) ≡ true) × (not (cycle_ended day m J) ≡ true)
    parts = and_parts _ (not (cycle_ended day m J)) h

    first : (is_c (sort_of day m) ≡ true) × (some_passes not (cycle_taken day (sender day m) l) ≡ true)
    first = and_parts (is_c (sort_of day m)) (some_passes not (cycle_taken day (sender day m) l)) (and_parts _ (is_accepted J m) parts.0).0

    by_body : (x : Message) (body : Body) → message_at day l.head.msg ≡ Some x → some_passes not (cycle_in (sender day m) x.sender body) ≡ true → (ends_cycles body ≡ true) × (sender day m ≡ sender day l.head.msg)
    by_body x (bodies.Cycle start) at q = (
      when_fails (same_name x.sender (sender day m)) start q,
      sym (ap (λ (o : Option Message). option_map_or (λ (y : Message). y.sender) o []) at ∙ same_names x.sender (sender day m) (when_named (same_name x.sender (sender day m)) start q)),
    )
    by_body x _ at q = cc

    system_same : sender day m ≡ sender day l.head.msg → is_some (message_at day l.head.msg) ≡ true → system_of day l.head.msg ≡ system_of day m
    system_same s there = sent (message_at day l.head.msg) refl there ∙ ap (λ name. unwrap_or (system_named day name) 0) (sym s) ∙ sym (system_sent day m first.0)
      where
        sent : (o : Option Message) → message_at day l.head.msg ≡ o → is_some o ≡ true → system_of day l.head.msg ≡ unwrap_or (system_named day (sender day l.head.msg)) 0
        sent None at q = cc
        sent (Some x) at q = ap (λ (o : Option Message). option_map_or (λ (y : Message). unwrap_or (system_named day y.sender) 0) o 0) at ∙ sym (ap (λ (o : Option Message). unwrap_or (system_named day (option_map_or (λ (y : Message). y.sender) o [])) 0) at)

    here : (t : Bool) → is_taken_well l.head ≡ t → (o : Option Message) → message_at day l.head.msg ≡ o → some_passes not (if t then cycle_of_message (sender day m) o else None) ≡ true → (is_taken_well l.head && ends_cycle_of day (l ∷ J) l.head.msg m) ≡ true
    here false w o at q = cc
    here true w None at q = cc
    here true w (Some x) at q =
        let both = by_body x x.body at q in
        let in_line : is_in_of l.head.msg l ≡ true = and_from (is_in l.head.kind) _ (and_parts (is_in l.head.kind) (is_ok l.head.code) w).0 (same-number l.head.msg) in
        let f : EachLine (FollowsSender day) (l ∷ J) = (messages_in_order day sound (l ∷ J) legal).2 in
        let a : is_accepted J m ≡ true = (and_parts _ (is_accepted J m) parts.0).1 in
        let lasts : cycle_ended day m J ≡ false = false_from_not (cycle_ended day m J) parts.1 in
        let first_c : 1 ≤ m = c_first day m first.0 in
        let low : 1 ≤ l.head.msg = there_first day l.head.msg x at in
        and_from (is_taken_well l.head) _ w (and_from (is_cycle_end day l.head.msg) _ (ap (some_passes (λ (y : Message). ends_cycles y.body)) at ∙ both.0)
        (and_from (has_key keys.Cycle day (system_of day l.head.msg) m) _ (keyed_by (is_c (sort_of day m)) (is_cycle_end day m) _ _ first.0 (system_same both.1 (ap is_some at)))
        (and_from (nat_lt m l.head.msg) _ (lt-ltb _ _ (comes_before day J l legal f m first.0 a lasts first_c low in_line both.1)) (lt-ltb _ _ (behind_ends day J l legal f m first.0 a lasts first_c low in_line both.1)))))

told_left : (t a c : Bool) → (t && a) ≡ true → (t && (a || c)) ≡ true
told_left true a c h = or_left a c h
told_left false a c h = h

told_right : (t a c : Bool) → (t && c) ≡ true → (t && (a || c)) ≡ true
told_right true a c h = or_right a c h
told_right false a c h = h

-- ---- what a line concerns is met

pub meets : (day : Day) (J : History) (l : Line) (m j : ℕ) → is_sound day ≡ true → IsLegal day (l ∷ J) → concerns_item day J l m j ≡ true → IsMet day (l ∷ J) l.head m j
meets day J l m j sound legal h = here (is_book l.head.kind) (is_time l.head.kind) h
  where
    about : (nat_eq l.head.msg m || accepts_answer day l m || ends_cycle day J l m) ≡ true → is_about_by day (l ∷ J) l.head m ≡ true
    about q = ⊎_elim
        (λ (r : (nat_eq l.head.msg m || accepts_answer day l m) ≡ true). ⊎_elim
        (λ (own : nat_eq l.head.msg m ≡ true). or_left (nat_eq l.head.msg m) _ own)
        (λ (a : accepts_answer day l m ≡ true). or_right (nat_eq l.head.msg m) _ (told_left (is_taken_well l.head) (is_answer_on day l.head.msg m) (ends_cycle_of day (l ∷ J) l.head.msg m) (answered day l m a)))
        (or_cases (nat_eq l.head.msg m) (accepts_answer day l m) r))
        (λ (c : ends_cycle day J l m ≡ true). or_right (nat_eq l.head.msg m) _ (told_right (is_taken_well l.head) (is_answer_on day l.head.msg m) (ends_cycle_of day (l ∷ J) l.head.msg m) (cycled day J l m sound legal c)))
        (or_cases (nat_eq l.head.msg m || accepts_answer day l m) (ends_cycle day J l m) q)

    here : (b t : Bool) → (if b then nat_eq l.head.msg m && (nat_eq l.head.entry j || frees_credits day J l)
        else if t then is_accepted J m && is_due day l.head.entry m
        else nat_eq l.head.msg m || accepts_answer day l m || ends_cycle day J l m) ≡ true →
        (if b then is_booked_by day (l ∷ J) l.head.msg l.head.entry m j else if t then is_due day l.head.entry m else is_about_by day (l ∷ J) l.head m) ≡ true
    here true t q =
        let p = and_parts (nat_eq l.head.msg m) (nat_eq l.head.entry j || frees_credits day J l) q in
        and_from (nat_eq l.head.msg m) _ p.0 (⊎_elim
        (λ (e : nat_eq l.head.entry j ≡ true). or_left (nat_eq l.head.entry j) _ e)
        (λ (f : frees_credits day J l ≡ true). or_right (nat_eq l.head.entry j) _ (frees_them day J l f))
        (or_cases (nat_eq l.head.entry j) (frees_credits day J l) p.1))
    here false true q = (and_parts (is_accepted J m) (is_due day l.head.entry m) q).1
    here false false q = about q

-- ---- the set

pub flag_at : (test : ℕ → Bool) (bound i : ℕ) → i < bound → has (flags test bound) i ≡ test i
flag_at test bound i below = get_or-map-range_with_len test 0 bound i i false below (omega arith)

pub flags_length : (test : ℕ → Bool) (bound : ℕ) → length (flags test bound) ≡ bound
flags_length test bound = length-map-range_with_len test 0 bound

-- after one more line
pub noted : (day : Day) (J : History) (l : Line) (old new : Flags) → is_sound day ≡ true → IsLegal day (l ∷ J) → old.due ≡ flags (due_at day J) (item_count day) → Renews day (l ∷ J) (IsMet day (l ∷ J) l.head) old new → new.due ≡ flags (due_at day (l ∷ J)) (item_count day)
noted day J l old new sound legal e r =
    let len_new : length new.due ≡ item_count day = r.room.due in
    let len_now : length (flags (due_at day (l ∷ J)) (item_count day)) ≡ item_count day = flags_length (due_at day (l ∷ J)) (item_count day) in
    ext_get_or false new.due (flags (due_at day (l ∷ J)) (item_count day)) (omega (arith, len_new, len_now)) (λ i within.
    let inside : i < item_count day = omega (arith, len_new, within) in
    here i inside (concerns_item day J l (item_of day i).msg (item_of day i).entry) refl ∙ sym (flag_at (due_at day (l ∷ J)) (item_count day) i inside))
  where
    here : (i : ℕ) → i < item_count day → (b : Bool) → concerns_item day J l (item_of day i).msg (item_of day i).entry ≡ b → has new.due i ≡ due_at day (l ∷ J) i
    here i h true c = r.renewed i h (meets day J l (item_of day i).msg (item_of day i).entry sound legal c)
    here i h false c = r.keeps i (
        ap (λ (xs : List Bool). has xs i) e ∙ flag_at (due_at day J) (item_count day) i h
        ∙ sym (same_due day (l ∷ J) J (item_of day i).msg (item_of day i).entry (same_item day J l (item_of day i).msg (item_of day i).entry legal c)))

abbrev pub with_flags : Due → Flags → Due
with_flags due flags = record { index = due.index; set = flags.due; renewed = flags.renewed; room = flags.room }

abbrev pub flags_of : Due → Flags
flags_of due = record { due = due.set; renewed = due.renewed; room = due.room }

room_of : (day : Day) (J : History) (due : Due) → KeepsDue day J due → HaveRoom day (flags_of due)
room_of day J due keeps = record { due = ap length keeps.exact ∙ flags_length (due_at day J) (item_count day); renewed = keeps.room }

-- the flags after the line are right, and tell of each item that it concerns
module _ (day : Day) (sound : is_sound day ≡ true) (facts : Facts) (head : Head) (due : Due) (new : Flags) (r : RenewsBy day facts due.index (λ K. IsMet day K head) (flags_of due) new) where
  renews_now : (J : History) (l : Line) → l.head ≡ head → StandsFor day (l ∷ J) facts → KeepsDue day J due → Renews day (l ∷ J) (IsMet day (l ∷ J) l.head) (flags_of due) new
  renews_now J l e stands keeps = subst (λ h. Renews day (l ∷ J) (IsMet day (l ∷ J) h) (flags_of due) new) (sym e) (r (l ∷ J) stands keeps.index (room_of day J due keeps))

  pub note_keeps : (J : History) (l : Line) → l.head ≡ head → StandsFor day (l ∷ J) facts → KeepsDue day J due → KeepsDue day (l ∷ J) (with_flags due new)
  note_keeps J l e stands keeps =
      let now = renews_now J l e stands keeps in
      record {
        index = keeps.index;
        exact = noted day J l (flags_of due) new sound stands.legal keeps.exact now;
        room = now.room.renewed;
        rest = now.spare ∙ keeps.rest;
      }

  pub note_tells : (J : History) (l : Line) → l.head ≡ head → StandsFor day (l ∷ J) facts → KeepsDue day J due → Tells day J l new.renewed
  note_tells J l e stands keeps n k is c =
      let now = renews_now J l e stands keeps in
      let at : item_of day (item_number day n k) ≡ item n k = item-there day n k is in
      now.told (item_number day n k) (number-within day n k is) (subst (λ (x : Item). IsMet day (l ∷ J) l.head x.msg x.entry) (sym at) (meets day J l n k sound stands.legal c))
