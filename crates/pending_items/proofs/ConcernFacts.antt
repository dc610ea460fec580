-- Every item that a line concerns is among those that are looked at.
use Rattle.std.proofs.Common.{◌≡◌, ◌⊎◌, ℕ, ◌+◌, ◌*◌, ◌<◌, Bool, true, false, not, ◌&&◌, ◌||◌, cond, List, [], ◌∷◌, Option, Some, None, refl, sym, ap, ◌∙◌, subst, inl, inr, arith}
use Rattle.std.specs.Prelude.{count_by, filter, if◌then◌else◌, is_none, is_some, nat_eq, unwrap_or}
use Rattle.std.specs.Option.{option_map_or}
use Rattle.std.proofs.lemmas.Bool.{and_from, and_parts, eq-eqb, eqb-true, false_from_ne_true, or_cases}
use Rattle.std.proofs.lemmas.List.Recursion.{is_count_by}
use Rattle.batch_records.specs.DayRecord.{Day}
use Rattle.batch_records.specs.declared.day.Entry.{Entry}
use Rattle.batch_records.specs.declared.day.Body.{Body}
use Rattle.batch_records.specs.declared.day.Body.TheVariants as bodies
use Rattle.batch_records.specs.declared.day.Message.{Message}
use Rattle.commit_journal.specs.declared.line.Head.{Head}
use Rattle.commit_journal.specs.declared.line.Kind.{Kind}
use Rattle.commit_journal.specs.declared.line.Kind.TheVariants as kinds
use Rattle.commit_journal.specs.Line.{Line, History}
use Rattle.machine.specs.declared.answers.Item.{Item}
use Rattle.machine.specs.Words.{same_name, some_passes, when}
use Rattle.machine.specs.Records.Setup.{system_named}
use Rattle.machine.specs.Records.Messages.{Missing, entries, entry_at, entry_numbers, is_a, is_b, is_c, is_debit, is_debit_entry, item_numbers, message_at, names_batch, sender, sort_of, sort_of_body}
use Rattle.machine.specs.Telling.History.{is_accepted, is_book, is_time}
use Rattle.machine.specs.Telling.Facts.{answer_in, answer_of_message, cycle_ended, cycle_in, cycle_of_message, cycle_taken}
use Rattle.machine.specs.Stages.Phases.{is_booked}
use Rattle.machine.specs.Stages.Pending.{first_unbooked_debit, is_pending, item}
use Rattle.machine.specs.Legal.{IsLegal}
use Rattle.settlement_laws.proofs.Base.Lists.{find_all, into_filter, is_numbered, never}
use Rattle.settlement_laws.proofs.Base.Made.{made_facts, made_book}
use Rattle.day_facts.specs.Left.{owes}
use Rattle.day_facts.specs.Told.{aim_in, aim_of, aim_of_message, named}
use Rattle.day_facts.proofs.AimLines.{names_only}
use Rattle.scan_laws.specs.Concerns.{accepts_answer, ends_cycle, is_due}
use Rattle.scan_laws.specs.Items.{concerns_item, frees_credits}
use Rattle.pending_items.specs.Numbers.{is_item}
use Rattle.pending_items.specs.Parts.{whole}
use Rattle.account_book.proofs.SoundLemmas.{same_names}
use Rattle.least_tree.specs.Amounts.{fits_at}
use Rattle.number_set.specs.Members.{has}
use Rattle.scan_laws.proofs.Passing.{time_later}
use Rattle.pending_items.specs.Cycles.{AreBatches, Batches, block, system_of}
use Rattle.pending_items.specs.Ends.{AreEnds}
use Rattle.pending_items.proofs.EndFacts.{due_ends}
use Rattle.pending_items.proofs.NumberFacts.{item_parts}
use Rattle.pending_items.specs.Concerned.{IsMet, IsMetBy, IsTold, frees, is_taken_well, tells, tells_by}

-- ---- the last debit

counted : {X : Type 0} → (X → Bool) → List X → ℕ
counted p [] = 0
counted p (x ∷ xs) = cond (p x) (1 + counted p xs) (counted p xs)

none_counted : {X : Type 0} (p : X → Bool) (xs : List X) → ((x : X) → p x ≡ false) → counted p xs ≡ 0
unfolding counted
none_counted p [] none = refl
none_counted p (x ∷ xs) none = ap (λ b. cond b (1 + counted p xs) (counted p xs)) (none x) ∙ none_counted p xs none

entry_there : (day : Day) (n k : ℕ) → is_debit day n k ≡ true → is_some (entry_at day n k) ≡ true
entry_there day n k h = here (entry_at day n k) h
  where
    here : (o : Option Entry) → some_passes (is_debit_entry day n) o ≡ true → is_some o ≡ true
    here None h = never false h refl
    here (Some e) h = refl

none_owed : (day : Day) (K : History) (n : ℕ) → is_none (first_unbooked_debit day K n) ≡ true → count_by (owes day K n) (item_numbers day n) ≡ 0
unfolding counted
none_owed day K n none = sym (is_count_by (counted (owes day K n)) (owes day K n) refl (λ x xs. refl) (item_numbers day n)) ∙ none_counted (owes day K n) (item_numbers day n) not_owed
  where
    not_owed : (k : ℕ) → owes day K n k ≡ false
    not_owed k = false_from_ne_true (owes day K n k) (λ h.
        let p = and_parts (is_debit day n k) (not (is_booked K n k)) h in
        never (not (is_booked K n k)) p.1 (find_all (λ j. not (is_booked K n j)) (filter (is_debit day n) (entry_numbers day n)) none k
        (into_filter (is_debit day n) (entry_numbers day n) k (is_numbered k (entries day n) (entry_there day n k p.0)) p.0)))

-- ---- what the lines are about

pub no_booking : (kind : Kind) → is_time kind ≡ true → is_book kind ≡ false
no_booking kinds.Book t = never false t refl
no_booking _ t = refl

pub no_time : (kind : Kind) → is_book kind ≡ true → is_time kind ≡ false
no_time kinds.Time t = never false t refl
no_time _ t = refl

system_by_sender : (day : Day) (n : ℕ) → is_c (sort_of day n) ≡ true → system_of day n ≡ unwrap_or (system_named day (sender day n)) 0
system_by_sender day n h = here (message_at day n) h
  where
    here : (o : Option Message) → is_c (option_map_or (λ (m : Message). sort_of_body m.body) o Missing) ≡ true →
        option_map_or (λ (m : Message). unwrap_or (system_named day m.sender) 0) o 0 ≡ unwrap_or (system_named day (option_map_or (λ (m : Message). m.sender) o [])) 0
    here None h = never false h refl
    here (Some m) h = refl

-- ---- a Book line

module _ (day : Day) (J : History) (l : Line) (head : Head) (e : l.head ≡ head) (x : Item) (c : concerns_item day J l x.msg (whole day x).entry ≡ true) where
  abbrev about : ℕ → ℕ → Bool
  about n k = nat_eq l.head.msg n || accepts_answer day l n || ends_cycle day J l n

  booked : is_book head.kind ≡ true → (nat_eq l.head.msg x.msg ≡ true) × ((nat_eq l.head.entry (whole day x).entry || frees_credits day J l) ≡ true)
  booked b = and_parts (nat_eq l.head.msg x.msg) (nat_eq l.head.entry (whole day x).entry || frees_credits day J l) (sym (ap (λ t. if t then nat_eq l.head.msg x.msg && (nat_eq l.head.entry (whole day x).entry || frees_credits day J l)
      else (if is_time l.head.kind then is_accepted J x.msg && is_due day l.head.entry x.msg else about x.msg 0)) (ap (λ (h : Head). is_book h.kind) e ∙ b)) ∙ c)

  -- a Book line is of no batch of B
  not_b : is_book head.kind ≡ true → IsLegal day (l ∷ J) → is_b (sort_of day l.head.msg) ≡ false
  not_b b legal =
      let m = made_book l.head.kind day J l.head.msg l.head.entry l.head.code l.moves (ap (λ (h : Head). is_book h.kind) e ∙ b) (made_facts day J l legal.1).1 in
      turned (is_b (sort_of day l.head.msg)) (and_parts (is_pending day J (item l.head.msg l.head.entry)) (not (is_b (sort_of day l.head.msg))) (and_parts _ _ m).0).1
    where
      turned : (b : Bool) → not b ≡ true → b ≡ false
      turned true h = never false h refl
      turned false h = refl

  pub met_booked : is_book head.kind ≡ true → IsLegal day (l ∷ J) → (x ≡ record { msg = head.msg; entry = head.entry }) ⊎ ((x.msg ≡ head.msg) × (frees day head (l ∷ J) ≡ true))
  met_booked b legal =
      let p = booked b in
      let msg : x.msg ≡ head.msg = sym (eqb-true l.head.msg x.msg p.0) ∙ ap (λ (h : Head). h.msg) e in
      elim (or_cases (nat_eq l.head.entry (whole day x).entry) (frees_credits day J l) p.1) [
        | inl same ↦ (
            let sort : is_b (sort_of day x.msg) ≡ false = ap (λ n. is_b (sort_of day n)) (sym (eqb-true l.head.msg x.msg p.0)) ∙ not_b b legal in
            let own : (whole day x).entry ≡ x.entry = ap (λ t. (if t then item x.msg 0 else x).entry) sort in
            let entry : x.entry ≡ head.entry = sym own ∙ (sym (eqb-true l.head.entry (whole day x).entry same) ∙ ap (λ (h : Head). h.entry) e) in
            inl (λ i. record { msg = msg i; entry = entry i }))
        | inr free ↦ (
            let q = and_parts (is_a (sort_of day l.head.msg) && is_debit day l.head.msg l.head.entry) (is_none (first_unbooked_debit day (l ∷ J) l.head.msg)) free in
            let left : count_by (owes day (l ∷ J) l.head.msg) (item_numbers day l.head.msg) ≡ 0 = none_owed day (l ∷ J) l.head.msg q.1 in
            inr (msg, subst (λ (h : Head). frees day h (l ∷ J) ≡ true) e (and_from _ _ q.0 (eq-eqb _ 0 left))))
      ]

  -- ---- any other line

  module _ (batches : Batches) where
    told_answer : accepts_answer day l x.msg ≡ true → (is_taken_well head ≡ true) × IsTold day batches head.msg x.msg
    told_answer h = here (is_taken_well l.head) refl h
      where
        by_message : (o : Option Message) → message_at day l.head.msg ≡ o → is_some (answer_of_message day x.msg o) ≡ true → IsTold day batches l.head.msg x.msg
        by_message None q h = never false h refl
        by_message (Some m) q h = by_body m.body refl h
          where
            by_body : (body : Body) → m.body ≡ body → is_some (answer_in day x.msg m.sender body) ≡ true → IsTold day batches l.head.msg x.msg
            by_body (bodies.Confirm id reply) r h =
                let aim : aim_of day l.head.msg ≡ named day m.sender id = ap (aim_of_message day) q ∙ ap (aim_in day m.sender) r in
                subst (λ (o : Option Message). tells_by day batches l.head.msg x.msg o) (sym q) (subst (tells day batches l.head.msg x.msg) (sym r) (aim ∙ of_name (named day m.sender id) refl))
              where
                passes : (b : Bool) → is_some (when b reply) ≡ true → b ≡ true
                passes true h = refl
                passes false h = never false h refl

                of_name : (o : Option ℕ) → named day m.sender id ≡ o → named day m.sender id ≡ Some x.msg
                of_name o s = that o s (sym (names_only day m.sender id x.msg o s) ∙ passes (names_batch day m.sender id x.msg) h)
                  where
                    that : (o : Option ℕ) → named day m.sender id ≡ o → some_passes (λ b. nat_eq b x.msg) o ≡ true → named day m.sender id ≡ Some x.msg
                    that None s t = never false t refl
                    that (Some b) s t = s ∙ ap Some (eqb-true b x.msg t)
            by_body _ r h = never false h refl

        here : (b : Bool) → is_taken_well l.head ≡ b → is_some (if b then answer_of_message day x.msg (message_at day l.head.msg) else None) ≡ true → (is_taken_well head ≡ true) × IsTold day batches head.msg x.msg
        here true t h = (ap is_taken_well (sym e) ∙ t, subst (λ (g : Head). IsTold day batches g.msg x.msg) e (by_message (message_at day l.head.msg) refl h))
        here false t h = never false h refl

    told_cycle : AreBatches day J batches → is_item day x ≡ true → ends_cycle day J l x.msg ≡ true → (is_taken_well head ≡ true) × IsTold day batches head.msg x.msg
    told_cycle a ix h = here (is_taken_well l.head) refl second.1
      where
        third : ((is_c (sort_of day x.msg) && some_passes not (cycle_taken day (sender day x.msg) l) && is_accepted J x.msg) ≡ true) × (not (cycle_ended day x.msg J) ≡ true)
        third = and_parts (is_c (sort_of day x.msg) && some_passes not (cycle_taken day (sender day x.msg) l) && is_accepted J x.msg) (not (cycle_ended day x.msg J)) h

        first : ((is_c (sort_of day x.msg) && some_passes not (cycle_taken day (sender day x.msg) l)) ≡ true) × (is_accepted J x.msg ≡ true)
        first = and_parts (is_c (sort_of day x.msg) && some_passes not (cycle_taken day (sender day x.msg) l)) (is_accepted J x.msg) third.0

        second : (is_c (sort_of day x.msg) ≡ true) × (some_passes not (cycle_taken day (sender day x.msg) l) ≡ true)
        second = and_parts (is_c (sort_of day x.msg)) (some_passes not (cycle_taken day (sender day x.msg) l)) first.0

        turned : (b : Bool) → not b ≡ true → b ≡ false
        turned true h = never false h refl
        turned false h = refl

        member : has batches.set (block batches.size day x.msg + x.msg) ≡ true
        member = a.each x.msg (item_parts day x ix).last second.0 first.1 (turned (cycle_ended day x.msg J) third.1)

        below : x.msg < batches.size
        below = let last = (item_parts day x ix).last in let room = a.room in omega (arith, last, room)

        by_message : (o : Option Message) → message_at day l.head.msg ≡ o → some_passes not (cycle_of_message (sender day x.msg) o) ≡ true → IsTold day batches l.head.msg x.msg
        by_message None q h = never false h refl
        by_message (Some m) q h = by_body m.body refl h
          where
            by_body : (body : Body) → m.body ≡ body → some_passes not (cycle_in (sender day x.msg) m.sender body) ≡ true → IsTold day batches l.head.msg x.msg
            by_body (bodies.Cycle start) r h =
                let from : m.sender ≡ sender day x.msg = same_names m.sender (sender day x.msg) (passes (same_name m.sender (sender day x.msg)) h) in
                let own : system_of day l.head.msg ≡ unwrap_or (system_named day m.sender) 0 = ap (λ (o : Option Message). option_map_or (λ (m : Message). unwrap_or (system_named day m.sender) 0) o 0) q in
                let same : system_of day l.head.msg ≡ system_of day x.msg = own ∙ (ap (λ name. unwrap_or (system_named day name) 0) from ∙ sym (system_by_sender day x.msg second.0)) in
                subst (λ (o : Option Message). tells_by day batches l.head.msg x.msg o) (sym q) (subst (tells day batches l.head.msg x.msg) (sym r) (below, ap (λ s. has batches.set (batches.size * s + x.msg)) same ∙ member))
              where
                passes : (b : Bool) → some_passes not (when b start) ≡ true → b ≡ true
                passes true h = refl
                passes false h = never false h refl
            by_body _ r h = never false h refl

        here : (b : Bool) → is_taken_well l.head ≡ b → some_passes not (if b then cycle_of_message (sender day x.msg) (message_at day l.head.msg) else None) ≡ true → (is_taken_well head ≡ true) × IsTold day batches head.msg x.msg
        here true t h = (ap is_taken_well (sym e) ∙ t, subst (λ (g : Head). IsTold day batches g.msg x.msg) e (by_message (message_at day l.head.msg) refl h))
        here false t h = never false h refl

    pub met_about : is_book head.kind ≡ false → is_time head.kind ≡ false → AreBatches day J batches → is_item day x ≡ true → (x.msg ≡ head.msg) ⊎ ((is_taken_well head ≡ true) × IsTold day batches head.msg x.msg)
    met_about b t a ix = elim (or_cases (nat_eq l.head.msg x.msg || accepts_answer day l x.msg) (ends_cycle day J l x.msg) rest) [
      | inl first ↦ elim (or_cases (nat_eq l.head.msg x.msg) (accepts_answer day l x.msg) first) [
        | inl same ↦ inl (sym (eqb-true l.head.msg x.msg same) ∙ ap (λ (h : Head). h.msg) e)
        | inr answer ↦ inr (told_answer answer)
      ]
      | inr cycle ↦ inr (told_cycle a ix cycle)
    ]
      where
        rest : about x.msg 0 ≡ true
        rest = sym (λ i. if (ap (λ (h : Head). is_book h.kind) e ∙ b) i then nat_eq l.head.msg x.msg && (nat_eq l.head.entry (whole day x).entry || frees_credits day J l)
            else (if (ap (λ (h : Head). is_time h.kind) e ∙ t) i then is_accepted J x.msg && is_due day l.head.entry x.msg else about x.msg 0)) ∙ c

  -- ---- a Time line

  pub met_time : (ends : List (Option ℕ)) → is_time head.kind ≡ true → IsLegal day (l ∷ J) → AreEnds day J ends → is_item day x ≡ true → fits_at ends head.entry x.msg ≡ true
  met_time ends t legal a ix = subst (λ (g : Head). fits_at ends g.entry x.msg ≡ true) e (a.each x.msg l.head.entry (item_parts day x ix).last (due_ends day x.msg l.head.entry due.1) (time_later day J l legal timed).0)
    where
      timed : is_time l.head.kind ≡ true
      timed = ap (λ (h : Head). is_time h.kind) e ∙ t

      due : (is_accepted J x.msg ≡ true) × (is_due day l.head.entry x.msg ≡ true)
      due = and_parts (is_accepted J x.msg) (is_due day l.head.entry x.msg) (sym (λ i. if no_booking l.head.kind timed i then nat_eq l.head.msg x.msg && (nat_eq l.head.entry (whole day x).entry || frees_credits day J l)
          else (if timed i then is_accepted J x.msg && is_due day l.head.entry x.msg else about x.msg 0)) ∙ c)

-- ---- of the newest line of a history

pub split_booked : (day : Day) (head : Head) (freed : Bool) (K : History) (x : Item) → is_book head.kind ≡ true → IsLegal day K → freed ≡ frees day head K → IsMet day head K x →
    (x ≡ record { msg = head.msg; entry = head.entry }) ⊎ ((x.msg ≡ head.msg) × (freed ≡ true))
split_booked day head freed [] x b legal f h = absurd h
split_booked day head freed (l ∷ J) x b legal f h = elim (met_booked day J l head h.0 x h.1 b legal) [ inl e ↦ inl e | inr g ↦ inr (g.0, f ∙ g.1) ]

pub met_by : (day : Day) (head : Head) (ends : List (Option ℕ)) (batches : Batches) (K : History) (x : Item) → IsMetBy day head ends batches K x → IsMet day head K x
met_by day head ends batches [] x h = absurd h
met_by day head ends batches (l ∷ J) x h = (h.0, h.1)

pub split_about : (day : Day) (head : Head) (ends : List (Option ℕ)) (batches : Batches) (K : History) (x : Item) → is_item day x ≡ true → is_book head.kind ≡ false → is_time head.kind ≡ false → IsMetBy day head ends batches K x →
    (x.msg ≡ head.msg) ⊎ ((is_taken_well head ≡ true) × IsTold day batches head.msg x.msg)
split_about day head ends batches [] x ix b t h = absurd h
split_about day head ends batches (l ∷ J) x ix b t h = met_about day J l head h.0 x h.1 batches b t h.3 ix

pub split_time : (day : Day) (head : Head) (ends : List (Option ℕ)) (batches : Batches) (K : History) (x : Item) → is_item day x ≡ true → is_time head.kind ≡ true → IsLegal day K → IsMetBy day head ends batches K x → fits_at ends head.entry x.msg ≡ true
split_time day head ends batches [] x ix t legal h = absurd h
split_time day head ends batches (l ∷ J) x ix t legal h = met_time day J l head h.0 x h.1 ends t legal h.2 ix
