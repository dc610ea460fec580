-- At each Time line every accepted A batch whose debits are booked, or that the fund covers, is settled.
use Rattle.std.proofs.Common.{◌≡◌, ℕ, zero, suc, ◌+◌, ◌<◌, Bool, true, false, not, ◌&&◌, ◌||◌, List, [], ◌∷◌, Option, Some, None, refl, sym, ◌∙◌, ap, subst, arith, ◌⊎◌, inl, inr}
use Rattle.std.specs.Prelude.{is_some, is_none, nat_lt, nat_eq, if◌then◌else◌, length}
use Rattle.std.specs.List.{list_all}
use Rattle.std.specs.Option.{option_map_or}
use Rattle.machine.proofs.Lists.{all_get}
use Rattle.machine.proofs.SortFacts.{a_is}
use Rattle.settlement_laws.proofs.Base.SoundParts.{sound_parts}
use Rattle.std.proofs.lemmas.Bool.{ltb-true, and_parts}
use Rattle.batch_records.specs.DayRecord.{Day}
use Rattle.batch_records.specs.declared.day.Message.{Message}
use Rattle.batch_records.specs.declared.day.Entry.{Entry}
use Rattle.batch_records.specs.declared.day.Body.{Body}
use Rattle.batch_records.specs.declared.day.Body.TheVariants as bodies
use Rattle.batch_records.specs.Sound.{is_sound, is_sound_body, is_amount}
use Rattle.commit_journal.specs.Line.{History}
use Rattle.machine.specs.declared.answers.Phase.TheVariants as phases
use Rattle.machine.specs.Words.{some_passes, is_empty}
use Rattle.machine.specs.Records.Messages.{Sort, BatchA, sort_of, is_batch, message_at, entries, entries_in, entry_numbers, is_debit, is_debit_entry, is_credit_entry, debit_numbers, stated_count}
use Rattle.machine.specs.Telling.History.{place_of, covered, is_accepted}
use Rattle.machine.specs.Stages.Phases.{phase, is_booked}
use Rattle.machine.specs.Making.Lines.{is_ready}
use Rattle.machine.specs.Legal.{IsLegal}
use Rattle.machine.specs.Laws.{EachLine}
use Rattle.machine.specs.OtherLaws.{SettlesInTime}
use Rattle.settlement_laws.proofs.Base.Made.{made_facts}
use Rattle.settlement_laws.proofs.Base.IntakeFacts.{accepted_taken}
use Rattle.settlement_laws.proofs.Base.Lists.{IsIn, never, is_numbered, into_filter, find_all}
use Rattle.settlement_laws.proofs.Base.Weights.{weight, every, weight_nothing}
use Rattle.settlement_laws.proofs.ProcedureA.FactsOfA.{FactsOfA, facts_of_a, debit_weight}
use Rattle.settlement_laws.proofs.ProcedureA.BookedCredits.{has_debits}
use Rattle.settlement_laws.proofs.ProcedureA.ForemostCredit.{no_credit_pending}
use Rattle.settlement_laws.proofs.ProcedureA.NeverBelowZero.{sound_a, time_wants}
use Rattle.settlement_laws.proofs.ProcedureA.SettledAtTimeLines.{Fed, fed_more, fed_settled}

-- ---- an accepted A batch of a sound day has a debit entry

abbrev HasDebit : Day → ℕ → Type 0
HasDebit day n = (d : ℕ) × IsIn d (debit_numbers day n)

amounts_in : (day : Day) (o : Option Message) → ((m : Message) → o ≡ Some m → is_sound_body m.body ≡ true) → list_all (λ e. is_amount e.amount) (option_map_or (λ (m : Message). entries_in m.body) o []) ≡ true
amounts_in day None h = refl
amounts_in day (Some m) h = of_body m.body (h m refl)
  where
    of_body : (b : Body) → is_sound_body b ≡ true → list_all (λ e. is_amount e.amount) (entries_in b) ≡ true
    of_body (bodies.Batch p info early till count sum entries) h = (and_parts _ (list_all (λ e. is_amount e.amount) entries) h).1
    of_body _ h = refl

pub sound_message : (day : Day) (n : ℕ) (m : Message) → is_sound day ≡ true → message_at day n ≡ Some m → is_sound_body m.body ≡ true
sound_message day zero m h e = cc
sound_message day (suc i) m h e = all_get (λ (m : Message). is_sound_body m.body) day.messages i m (sound_parts day h).bodies e

pub sound_entries : (day : Day) (n : ℕ) → is_sound day ≡ true → list_all (λ e. is_amount e.amount) (entries day n) ≡ true
sound_entries day n h = amounts_in day (message_at day n) (λ m e. sound_message day n m h e)

-- with no debit entry the first entry is a credit, and the sides differ
some_weight : (day : Day) (n : ℕ) (es : List Entry) → is_empty es ≡ false → list_all (λ e. is_amount e.amount) es ≡ true → weight (is_debit_entry day n) every 1 es ≡ 0 → weight (is_credit_entry day n) every 1 es ≡ 0 → ⊥
some_weight day n [] h a d c = never true refl h
some_weight day n (e ∷ es) h a d c =
    let p : 0 < e.amount = ltb-true 0 e.amount (and_parts (nat_lt 0 e.amount) _ (and_parts (is_amount e.amount) _ a).0).0 in
    here (is_debit_entry day n e) p d c
  where
    here : (b : Bool) → 0 < e.amount → (if b && true then e.amount else 0) + weight (is_debit_entry day n) every (1 + 1) es ≡ 0 → (if not b && true then e.amount else 0) + weight (is_credit_entry day n) every (1 + 1) es ≡ 0 → ⊥
    here true p d c = omega arith
    here false p d c = omega arith

debit_or_none : (day : Day) (n : ℕ) → HasDebit day n ⊎ (debit_weight day n every ≡ 0)
debit_or_none day n = here (debit_numbers day n) refl
  where
    here : (ds : List ℕ) → debit_numbers day n ≡ ds → HasDebit day n ⊎ (debit_weight day n every ≡ 0)
    here (d ∷ ds) e = inl (d, subst (IsIn d) (sym e) (inl refl))
    here [] e = inr (weight_nothing (is_debit_entry day n) every 1 (entries day n) (λ i x g p. absurd (subst (IsIn (suc i)) e (into_filter (is_debit day n) (entry_numbers day n) (suc i) (is_numbered (suc i) (entries day n) (ap is_some g)) (ap (some_passes (is_debit_entry day n)) g ∙ p)))))

has_debit : (day : Day) (J : History) (n : ℕ) → is_sound day ≡ true → IsLegal day J → sort_of day n ≡ BatchA → is_accepted J n ≡ true → HasDebit day n
has_debit day J n sound legal q a = elim (debit_or_none day n) [
  | inl d ↦ d
  | inr z ↦ absurd (some_weight day n (entries day n) filled (sound_entries day n sound) z (sym facts.is_even ∙ z))
]
  where
    facts : FactsOfA day n
    facts = facts_of_a day J n legal q a

    parts : (s : Sort) (x y : Bool) → s ≡ BatchA → (is_batch s && (x || y)) ≡ false → x ≡ false
    parts BatchA true y e h = h
    parts BatchA false y e h = refl
    parts _ x y e h = cc

    filled : is_empty (entries day n) ≡ false
    filled = parts (sort_of day n) (is_empty (entries day n)) (not (nat_eq (length (entries day n)) (stated_count day n))) q (accepted_taken day J n legal a).passed_then.count_right

-- ---- the law

fed : (day : Day) (J : History) (n : ℕ) → IsLegal day J → sort_of day n ≡ BatchA → HasDebit day n → (has_debits day J n ≡ true) ⊎ (is_some (covered J n) ≡ true) → Fed day J n
unfolding place_of
fed day [] n legal q d (inl u) = never true refl (find_all (λ k. not (is_booked [] n k)) (debit_numbers day n) u d.0 d.1)
fed day [] n legal q d (inr v) = never false v refl
fed day (l ∷ J) n legal q d u =
    let m = (made_facts day J l legal.1).1 in
    fed_more day n q l J m (λ t. no_credit_pending day J legal.0 (sound_a day J legal.0).within (time_wants l.head.kind day J _ _ _ _ t m) n q) (fed day J n legal.0 q d) u

-- where no want is ready
fed_is_settled : (day : Day) (J : History) (n : ℕ) → is_sound day ≡ true → IsLegal day J → is_ready day J ≡ false → sort_of day n ≡ BatchA → is_accepted J n ≡ true → (has_debits day J n ≡ true) ⊎ (is_some (covered J n) ≡ true) → phase day J n ≡ phases.Settled
fed_is_settled day J n sound legal none q a u =
    fed_settled day n q J u (no_credit_pending day J legal (sound_a day J legal).within none n q) (fed day J n legal q (has_debit day J n sound legal q a) u)

pub settles_in_time : (day : Day) (J : History) → is_sound day ≡ true → IsLegal day J → EachLine (SettlesInTime day) J
settles_in_time day [] sound legal = tt
settles_in_time day (l ∷ J) sound legal = (
  settles_in_time day J sound legal.0,
  λ t n a ok u.
      fed_is_settled day J n sound legal.0 (time_wants l.head.kind day J _ _ _ _ t (made_facts day J l legal.1).1) (a_is (sort_of day n) a) ok (elim u [ inl x ↦ inl (ap is_none x) | inr v ↦ inr v ]),
)
