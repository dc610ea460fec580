-- A line changes the stage of no message but its own and the batch that it names; a message that comes has none yet.
use Rattle.std.proofs.Common.{◌≡◌, ◌∙◌, ℕ, zero, suc, Bool, true, false, not, ◌&&◌, ◌||◌, List, [], ◌∷◌, ◌++◌, Option, Some, None, length, map, refl, sym, ap, arith, cond, if◌then◌else◌}
use Rattle.std.specs.Prelude.{is_some, nat_eq, option_map, slice_get}
use Rattle.std.specs.List.{list_all, range_with_len}
use Rattle.std.specs.Option.{option_map_or}
use Rattle.std.proofs.lemmas.Bool.{eq-eqb, ne_eqb}
use Rattle.std.proofs.lemmas.Option.{same_Some}
use Rattle.batch_records.specs.DayRecord.{Day}
use Rattle.batch_records.specs.declared.day.Body.{Body}
use Rattle.batch_records.specs.declared.day.Message.{Message}
use Rattle.commit_journal.specs.declared.line.Head.{Head}
use Rattle.commit_journal.specs.Line.{History}
use Rattle.machine.specs.Words.{first_case, numbered, some_passes}
use Rattle.machine.specs.Records.Messages.{Sort, Pay, BatchA, BatchB, BatchC, BatchE, is_a, message_at, message_numbers, sort_of}
use Rattle.machine.specs.Telling.History.{is_ok, place_of}
use Rattle.machine.specs.Stages.Phases.{is_no_order}
use Rattle.machine.proofs.Lists.{numbered_map}
use Rattle.day_facts.specs.declared.own.Own.{Own}
use Rattle.day_facts.specs.declared.stages.Stage.{Stage}
use Rattle.day_facts.specs.declared.stages.Stage.TheVariants as stages
use Rattle.day_facts.specs.declared.told.Told.{Told}
use Rattle.day_facts.specs.Facts.{Facts, FactsRoom, facts_of, with_stage, with_stage_of, with_tables_at}
use Rattle.day_facts.specs.Left.{row_booked, row_rule}
use Rattle.day_facts.specs.Lists.{at, change_at, changed}
use Rattle.day_facts.specs.Objectors.{fresh}
use Rattle.day_facts.specs.Own.{noted, own_of, place_in, row_noted}
use Rattle.day_facts.specs.Phasing.{revoked_by, settled_by, stage_by, standing_by, stage_in}
use Rattle.day_facts.specs.Told.{item_for, revoked_rule, ruled_on, told_rule}
use Rattle.day_facts.proofs.Lists.{changed_map, map_from}

-- ---- what a stage hangs on

-- of message n the two days have the same sort, and both facts have the same rows
pub record AreSame (d e : Day) (a b : Facts) (n : ℕ) : Type 0 where
  pub sort : sort_of d n ≡ sort_of e n
  pub owns : numbered a.own n ≡ numbered b.own n
  pub tolds : numbered a.told n ≡ numbered b.told n
  pub places : numbered a.booked n ≡ numbered b.booked n
  pub objected : numbered a.revoked n ≡ numbered b.revoked n
  pub waits : numbered a.waiting n ≡ numbered b.waiting n
  pub keeps : numbered a.kept n ≡ numbered b.kept n

module _ (d e : Day) (a b : Facts) (n : ℕ) (h : AreSame d e a b n) where
  revoked_same : revoked_by (sort_of d n) d a n ≡ revoked_by (sort_of e n) e b n
  revoked_same = ap (λ s. revoked_by s d a n) h.sort ∙ by (sort_of e n)
    where
      by : (s : Sort) → revoked_by s d a n ≡ revoked_by s e b n
      by BatchA = λ i. is_some (option_map_or (λ row. at row (item_for (h.sort i) 0)) (h.objected i) None)
      by BatchB = λ i. is_some (option_map_or (λ row. at row (item_for (h.sort i) 0)) (h.objected i) None)
      by BatchE = λ i. option_map_or (λ row. list_all not row) (h.keeps i) true
      by _ = refl

  settled_same : settled_by (sort_of d n) d a n ≡ settled_by (sort_of e n) e b n
  settled_same = ap (λ s. settled_by s d a n) h.sort ∙ by (sort_of e n)
    where
      by : (s : Sort) → settled_by s d a n ≡ settled_by s e b n
      by Pay = λ i. is_some (option_map_or (λ row. at row 0) (h.places i) None)
      by BatchA = λ i. option_map_or (λ row. list_all not row) (h.waits i) true
      by BatchB = λ i. is_some (option_map_or (λ (own : Own). own.whole) (h.owns i) None) || is_some (option_map_or (λ (own : Own). own.covered) (h.owns i) None)
      by BatchC = λ i. option_map_or (λ row. list_all not row) (h.waits i) true
      by BatchE = λ i. option_map_or (λ row. list_all not row) (h.waits i) true
      by _ = refl

  pub stage_same : stage_by d a n ≡ stage_by e b n
  stage_same = λ i. first_case (
      (not (is_some (option_map_or (λ (own : Own). own.taken) (h.owns i) None)), stages.Untaken)
      ∷ (not (some_passes is_ok (option_map_or (λ (own : Own). own.code) (h.owns i) None)), stages.Rejected)
      ∷ (is_no_order (h.sort i), stages.Settled)
      ∷ (is_some (option_map_or (λ (own : Own). own.closed) (h.owns i) None), stages.Closed)
      ∷ (revoked_same i, stages.Revoked)
      ∷ (settled_same i, stages.Settled)
      ∷ []) (first_case (
      (is_a (h.sort i) && is_some (option_map_or (λ (own : Own). own.covered) (h.owns i) None), stages.Covered)
      ∷ (is_some (option_map_or (λ (own : Own). own.asked) (h.owns i) None) && is_some (option_map_or (λ (told : Told). told.answered) (h.tolds i) None), stages.Answered)
      ∷ (is_some (option_map_or (λ (own : Own). own.asked) (h.owns i) None), stages.Asking)
      ∷ []) stages.Going)

-- ---- who isn't taken

-- the rows behind the first one
abbrev behind_taken : Day → Facts → ℕ → Stage
behind_taken day facts n = first_case (
    (not (some_passes is_ok (option_map_or (λ (own : Own). own.code) (numbered facts.own n) None)), stages.Rejected)
    ∷ (is_no_order (sort_of day n), stages.Settled)
    ∷ (is_some (place_in (λ own. own.closed) facts.own n), stages.Closed)
    ∷ (revoked_by (sort_of day n) day facts n, stages.Revoked)
    ∷ (settled_by (sort_of day n) day facts n, stages.Settled)
    ∷ []) (standing_by day facts n)

pub not_taken_stage : (day : Day) (facts : Facts) (n : ℕ) → place_in (λ own. own.taken) facts.own n ≡ None → stage_by day facts n ≡ stages.Untaken
not_taken_stage day facts n e = ap (λ o. cond (not (is_some o)) stages.Untaken (behind_taken day facts n)) e

first_taken : (n : ℕ) → (own_of [] n).taken ≡ None
unfolding own_of place_of
first_taken n = refl

-- where no lines say anything
pub first_stage : (day : Day) (facts : Facts) (n : ℕ) → facts.own ≡ map (own_of []) (message_numbers day) → stages.Untaken ≡ stage_by day facts n
first_stage day facts n e =
    sym (not_taken_stage day facts n (
    ap (λ owns. place_in (λ own. own.taken) owns n) e
    ∙ (ap (λ o. option_map_or (λ (own : Own). own.taken) o None) (numbered_map (own_of []) day.messages n)
    ∙ here (message_at day n))))
  where
    here : (o : Option Message) → option_map_or (λ (own : Own). own.taken) (option_map (λ y. own_of [] n) o) None ≡ None
    here None = refl
    here (Some m) = first_taken n

pub first_stages : (day : Day) (facts : Facts) → facts.own ≡ map (own_of []) (message_numbers day) → map (λ n. stages.Untaken) (message_numbers day) ≡ map (stage_by day facts) (message_numbers day)
first_stages day facts e = map_from (λ n. stages.Untaken) (stage_by day facts) 1 (length day.messages) (λ n low. first_stage day facts n e)

-- the last of a list
get_last : {X : Type 0} (xs : List X) (x : X) → slice_get (xs ++ x ∷ []) (length xs) ≡ Some x
get_last [] x = refl
get_last (y ∷ ys) x = get_last ys x

pub last_stage : (day : Day) (facts : Facts) (owns : List Own) (n k : ℕ) → facts.own ≡ owns ++ own_of [] k ∷ [] → n ≡ suc (length owns) → stage_by day facts n ≡ stages.Untaken
last_stage day facts owns n k e at =
    not_taken_stage day facts n (
    (λ i. place_in (λ own. own.taken) (e i) (at i))
    ∙ (ap (λ o. option_map_or (λ (own : Own). own.taken) o None) (get_last owns (own_of [] k))
    ∙ first_taken k))

-- ---- the one that is kept

pub kept_stage : (day : Day) (facts : Facts) (n : ℕ) → facts.stages ≡ map (stage_by day facts) (message_numbers day) → (message_at day n ≡ None → place_in (λ own. own.taken) facts.own n ≡ None) → stage_in facts.stages n ≡ stage_by day facts n
kept_stage day facts n staged absent =
    ap (λ kept. stage_in kept n) staged
    ∙ (ap (λ o. option_map_or (λ stage. stage) o stages.Untaken) (numbered_map (stage_by day facts) day.messages n)
    ∙ here (message_at day n) refl)
  where
    here : (o : Option Message) → message_at day n ≡ o → option_map_or (λ stage. stage) (option_map (λ y. stage_by day facts n) o) stages.Untaken ≡ stage_by day facts n
    here None e = sym (not_taken_stage day facts n (absent e))
    here (Some m) e = refl

-- ---- items that a line leaves

get_other : {X : Type 0} (i : ℕ) (change : X → X) (xs : List X) (j : ℕ) → (j ≡ i → ⊥) → slice_get (change_at i change xs) j ≡ slice_get xs j
get_other i change [] j ne = refl
get_other zero change (x ∷ xs) zero ne = absurd (ne refl)
get_other zero change (x ∷ xs) (suc j) ne = refl
get_other (suc i) change (x ∷ xs) zero ne = refl
get_other (suc i) change (x ∷ xs) (suc j) ne = get_other i change xs j (λ e. ne (ap suc e))

numbered_other : {X : Type 0} (n : ℕ) (change : X → X) (xs : List X) (j : ℕ) → (j ≡ n → ⊥) → numbered (changed n change xs) j ≡ numbered xs j
numbered_other zero change xs j ne = refl
numbered_other (suc i) change xs zero ne = refl
numbered_other (suc i) change xs (suc j) ne = get_other i change xs j (λ e. ne (ap suc e))

ruled_other : {X : Type 0} (rule : ℕ → List ℕ → Body → X → X) (aim : Option ℕ) (o : Option Message) (xs : List X) (j : ℕ) → (aim ≡ Some j → ⊥) → numbered (ruled_on rule aim o xs) j ≡ numbered xs j
ruled_other rule None o xs j ne = refl
ruled_other rule (Some b) None xs j ne = refl
ruled_other rule (Some b) (Some m) xs j ne = numbered_other b (rule b m.sender m.body) xs j (λ e. ne (ap Some (sym e)))

fresh_other : {X : Type 0} (rule : ℕ → List ℕ → Body → X → X) (aim earlier : Option ℕ) (o : Option Message) (xs : List X) (j : ℕ) → (aim ≡ Some j → ⊥) → numbered (ruled_on rule (fresh aim earlier) o xs) j ≡ numbered xs j
fresh_other rule aim None o xs j ne = ruled_other rule aim o xs j ne
fresh_other rule aim (Some m) o xs j ne = refl

pub others_same : (day : Day) (head : Head) (aim earlier : Option ℕ) (place : ℕ) (old : Facts) (j : ℕ) → (j ≡ head.msg → ⊥) → (aim ≡ Some j → ⊥) → stage_by day old j ≡ stage_by day (with_tables_at day head aim earlier place old) j
others_same day head aim earlier place old j own other = sym (stage_same day day (with_tables_at day head aim earlier place old) old j (record {
  sort = refl;
  owns = numbered_other head.msg (noted place head) old.own j own;
  tolds = ruled_other (told_rule place) aim (message_at day head.msg) old.told j other;
  places = numbered_other head.msg (row_noted place head) old.booked j own;
  objected = fresh_other (revoked_rule day place) aim earlier (message_at day head.msg) old.revoked j other;
  waits = fresh_other (row_rule day) aim earlier (message_at day head.msg) (changed head.msg (row_booked head) old.waiting) j other ∙ numbered_other head.msg (row_booked head) old.waiting j own;
  keeps = fresh_other (row_rule day) aim earlier (message_at day head.msg) old.kept j other;
}))

-- ---- two items are renewed

abbrev renewed : {X : Type 0} → (ℕ → X) → Option ℕ → List X → List X
renewed h None xs = xs
renewed h (Some b) xs = changed b (λ x. h b) xs

two_renewed : {X : Type 0} (g h : ℕ → X) (n len : ℕ) (aim : Option ℕ) → ((j : ℕ) → (j ≡ n → ⊥) → (aim ≡ Some j → ⊥) → g j ≡ h j) → renewed h aim (changed n (λ x. h n) (map g (range_with_len 1 len))) ≡ map h (range_with_len 1 len)
two_renewed {X = X} g h n len aim same = ap (renewed h aim) (changed_map (λ x. h n) g mid n len at (λ j ne. past j ne)) ∙ by aim refl
  where
    mid : ℕ → X
    mid j = cond (nat_eq j n) (h j) (g j)

    at : h n ≡ mid n
    at = sym (ap (λ b. cond b (h n) (g n)) (eq-eqb n n refl))

    past : (j : ℕ) → (j ≡ n → ⊥) → g j ≡ mid j
    past j ne = sym (ap (λ b. cond b (h j) (g j)) (ne_eqb j n ne))

    rest : (j : ℕ) → (aim ≡ Some j → ⊥) → mid j ≡ h j
    rest j ne = here (nat_eq j n) refl
      where
        here : (b : Bool) → nat_eq j n ≡ b → cond b (h j) (g j) ≡ h j
        here true e = refl
        here false e = same j (λ q. differ (nat_eq j n) (eq-eqb j n q) e) ne
          where
            differ : (b : Bool) → b ≡ true → b ≡ false → ⊥
            differ true p q = cc q
            differ false p q = cc p

    by : (o : Option ℕ) → aim ≡ o → renewed h o (map mid (range_with_len 1 len)) ≡ map h (range_with_len 1 len)
    by None e = map_from mid h 1 len (λ j low. rest j (λ q. none_some aim j e q))
      where
        none_some : (o : Option ℕ) (j : ℕ) → o ≡ None → o ≡ Some j → ⊥
        none_some None j p q = cc q
        none_some (Some x) j p q = cc p
    by (Some b) e = changed_map (λ x. h b) mid h b len refl (λ j ne. rest j (λ q. ne (same_number aim j b q e)))
      where
        same_number : (o : Option ℕ) (j b : ℕ) → o ≡ Some j → o ≡ Some b → j ≡ b
        same_number None j b p q = cc
        same_number (Some x) j b p q = sym (same_Some x j p) ∙ same_Some x b q

-- ---- after one more line

-- other stages beside it change nothing
stages_aside : (day : Day) (facts : Facts) (kept : List Stage) (n : ℕ) → stage_by day (record facts { stages = kept }) n ≡ stage_by day facts n
stages_aside day facts kept n = stage_same day day (record facts { stages = kept }) facts n (record {
  sort = refl;
  owns = refl;
  tolds = refl;
  places = refl;
  objected = refl;
  waits = refl;
  keeps = refl;
})

module _ (day : Day) (mid new : Facts) (m : ℕ) where
  abbrev made : Option ℕ → List Stage
  made aim = renewed (stage_by day mid) aim (changed m (λ stage. stage_by day mid m) mid.stages)

  all_else : (aim : Option ℕ) → new ≡ with_stage_of day aim (with_stage day m mid) → new ≡ record mid { stages = made aim }
  all_else None e = e
  all_else (Some b) e = e ∙ (λ i. record mid { stages = changed b (λ stage. stages_aside day mid (made None) b i) (made None) })

  pub exact_with : (aim : Option ℕ) (J : History) (systems : ℕ) (room : FactsRoom) → new ≡ with_stage_of day aim (with_stage day m mid) → mid ≡ facts_of day J mid.stages systems room → new ≡ facts_of day J new.stages systems room
  exact_with aim J systems room e told =
      let all = all_else aim e in
      all
      ∙ ((λ i. record mid { stages = sym (ap (λ (f : Facts). f.stages) all) i })
      ∙ ap (λ (f : Facts). record f { stages = new.stages }) told)

  pub staged_with : (aim : Option ℕ) (old : Facts) → new ≡ with_stage_of day aim (with_stage day m mid) → mid.stages ≡ old.stages → old.stages ≡ map (stage_by day old) (message_numbers day)
      → ((j : ℕ) → (j ≡ m → ⊥) → (aim ≡ Some j → ⊥) → stage_by day old j ≡ stage_by day mid j) → new.stages ≡ map (stage_by day new) (message_numbers day)
  staged_with aim old e kept staged same =
      let all = all_else aim e in
      ap (λ (f : Facts). f.stages) all
      ∙ (ap (λ xs. renewed (stage_by day mid) aim (changed m (λ stage. stage_by day mid m) xs)) (kept ∙ staged)
      ∙ (two_renewed (stage_by day old) (stage_by day mid) m (length day.messages) aim same
      ∙ ((λ i. map (λ n. sym (stages_aside day mid (made aim) n) i) (message_numbers day))
      ∙ sym (ap (λ (f : Facts). map (stage_by day f) (message_numbers day)) all))))

-- one stage after the other
pub with_both : (day : Day) (m : ℕ) (aim : Option ℕ) (marked mid one new : Facts) → mid ≡ marked → one ≡ with_stage day m mid → new ≡ with_stage_of day aim one → new ≡ with_stage_of day aim (with_stage day m marked)
with_both day m aim marked mid one new e f g = g ∙ (ap (with_stage_of day aim) f ∙ ap (λ (x : Facts). with_stage_of day aim (with_stage day m x)) e)

pub room_kept : (day : Day) (aim : Option ℕ) (facts : Facts) → (with_stage_of day aim facts).room ≡ facts.room
room_kept day None facts = refl
room_kept day (Some n) facts = refl
