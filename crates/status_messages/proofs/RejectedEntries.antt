-- Of an accepted batch of procedure D each entry is moved, or told as rejected.
use Rattle.std.proofs.Common.{◌≡◌, ◌∙◌, ℕ, suc, ◌+◌, ◌-◌, ◌<◌, Bool, true, false, not, ◌||◌, List, [], ◌∷◌, length, map, refl, ap, sym, subst, arith, eq-eqb, if◌then◌else◌}
use Rattle.std.specs.Prelude.{nat_eq, nat_lt}
use Rattle.std.specs.List.{list_any}
use Rattle.std.proofs.lemmas.Bool.{and_parts, ne_eqb}
use Rattle.std.proofs.lemmas.List.{length-map}
use Rattle.batch_records.specs.DayRecord.{Day}
use Rattle.batch_records.specs.declared.day.Entry.{Entry}
use Rattle.commit_journal.specs.declared.line.Code.TheVariants as line_codes
use Rattle.commit_journal.specs.declared.line.Move.{Move}
use Rattle.commit_journal.specs.Line.{History}
use Rattle.machine.specs.Records.Messages.{Sort, BatchD, is_d, sort_of, entries, move_of, technical_account}
use Rattle.machine.specs.Telling.Balances.{balance}
use Rattle.machine.specs.Telling.History.{is_in, is_ok}
use Rattle.machine.specs.Stages.Intake.{afforded_in_order, moves_as}
use Rattle.settlement_laws.proofs.Base.Made.{made_facts}
use Rattle.status_messages.specs.declared.status.Status.{Status}
use Rattle.status_messages.specs.declared.status.TurnCode.TheVariants as turn_codes
use Rattle.status_messages.specs.Statuses.{place_after, rejection_statuses, rejections_as, turn_told, unafforded_in_order}
use Rattle.status_messages.specs.RejectedEntries.{EntriesOfDAreTold, entries_but, entry_told}
use Rattle.machine.specs.Laws.{amount_before}
use Rattle.status_messages.proofs.ToldTexts.{in_made}
use Rattle.status_messages.proofs.ToldInTurn.{below, told_beyond}

-- ---- the numbers that are told, and the entries that are left

-- a number below those from which the entries count on leaves no entry out
skip : (j k : ℕ) (es : List Entry) (ns : List ℕ) → j < k → entries_but k es (j ∷ ns) ≡ entries_but k es ns
unfolding entries_but
skip j k [] ns low = refl
skip j k (e ∷ es) ns low =
    let apart : nat_eq k j ≡ false = ne_eqb k j (λ same. omega (arith, same)) in
    let later : entries_but (suc k) es (j ∷ ns) ≡ entries_but (suc k) es ns = skip j (suc k) es ns (omega arith) in
    λ i. if (apart i || list_any (nat_eq k) ns) then later i else (e ∷ later i)

-- those left over are those that are covered in turn
left : (available k : ℕ) (es : List Entry) → entries_but k es (unafforded_in_order available k es) ≡ afforded_in_order available es
unfolding entries_but unafforded_in_order
left available k [] = refl
left available k (e ∷ es) = here (nat_lt available e.amount) (left available (suc k) es) (left (available - e.amount) (suc k) es)
  where
    here : (b : Bool) → entries_but (suc k) es (unafforded_in_order available (suc k) es) ≡ afforded_in_order available es → entries_but (suc k) es (unafforded_in_order (available - e.amount) (suc k) es) ≡ afforded_in_order (available - e.amount) es →
        entries_but k (e ∷ es) (elim b [ true ↦ k ∷ unafforded_in_order available (suc k) es | false ↦ unafforded_in_order (available - e.amount) (suc k) es ])
        ≡ elim b [ true ↦ afforded_in_order available es | false ↦ e ∷ afforded_in_order (available - e.amount) es ]
    here true passed taken =
        let told : List ℕ = unafforded_in_order available (suc k) es in
        ap (λ c. if (c || list_any (nat_eq k) told) then entries_but (suc k) es (k ∷ told) else (e ∷ entries_but (suc k) es (k ∷ told))) (eq-eqb k k refl)
        ∙ skip k (suc k) es told (omega arith)
        ∙ passed
    here false passed taken =
        let told : List ℕ = unafforded_in_order (available - e.amount) (suc k) es in
        ap (λ c. if c then entries_but (suc k) es told else (e ∷ entries_but (suc k) es told)) (below (available - e.amount) k (suc k) es (omega arith))
        ∙ ap (λ xs. e ∷ xs) taken

counted : (available k : ℕ) (es : List Entry) → length (afforded_in_order available es) + length (unafforded_in_order available k es) ≡ length es
unfolding unafforded_in_order
counted available k [] = refl
counted available k (e ∷ es) = here (nat_lt available e.amount) (counted available (suc k) es) (counted (available - e.amount) (suc k) es)
  where
    here : (b : Bool) → length (afforded_in_order available es) + length (unafforded_in_order available (suc k) es) ≡ length es →
        length (afforded_in_order (available - e.amount) es) + length (unafforded_in_order (available - e.amount) (suc k) es) ≡ length es →
        length {A = Entry} (elim b [ true ↦ afforded_in_order available es | false ↦ e ∷ afforded_in_order (available - e.amount) es ])
        + length {A = ℕ} (elim b [ true ↦ k ∷ unafforded_in_order available (suc k) es | false ↦ unafforded_in_order (available - e.amount) (suc k) es ]) ≡ suc (length es)
    here true passed taken = omega (arith, passed)
    here false passed taken = omega (arith, taken)

-- ---- the line

numbers_told : (day : Day) (J : History) (n : ℕ) (ks : List ℕ) → map entry_told (map (λ k. turn_told day (place_after J) turn_codes.Rjct n k line_codes.Nc) ks) ≡ ks
numbers_told day J n [] = refl
numbers_told day J n (k ∷ ks) = ap (λ xs. k ∷ xs) (numbers_told day J n ks)

as_d : (s : Sort) (day : Day) (J : History) (n : ℕ) (moves : List Move) → is_d s ≡ true → moves ≡ moves_as s day J n →
    (moves ≡ map (move_of day) (entries_but 1 (entries day n) (map entry_told (rejections_as s day J n)))) × (length moves + length (rejections_as s day J n) ≡ length (entries day n))
as_d BatchD day J n moves d h =
    let available : ℕ = balance day J (technical_account day n) in
    let es : List Entry = entries day n in
    let told : List ℕ = unafforded_in_order available 1 es in
    let f : ℕ → Status = λ k. turn_told day (place_after J) turn_codes.Rjct n k line_codes.Nc in
    let many : length moves ≡ length (afforded_in_order available es) = ap length h ∙ length-map (afforded_in_order available es) (move_of day) in
    let few : length (map f told) ≡ length told = length-map told f in
    let all : length (afforded_in_order available es) + length told ≡ length es = counted available 1 es in (
      h ∙ ap (map (move_of day)) (sym (left available 1 es)) ∙ ap (λ ns. map (move_of day) (entries_but 1 es ns)) (sym (numbers_told day J n told)),
      (λ i. many i + few i) ∙ all,
    )
as_d _ day J n moves d h = cc

numbers_of : (s : Sort) (day : Day) (J : History) (n : ℕ) → is_d s ≡ true → map entry_told (rejections_as s day J n) ≡ unafforded_in_order (balance day J (technical_account day n)) 1 (entries day n)
numbers_of BatchD day J n d = numbers_told day J n (unafforded_in_order (balance day J (technical_account day n)) 1 (entries day n))
numbers_of _ day J n d = cc

pub entries_of_d_are_told : EntriesOfDAreTold
entries_of_d_are_told day J l legal well d =
    let n : ℕ = l.head.msg in
    let parts = and_parts (is_in l.head.kind) (is_ok l.head.code) well in
    let found : l.moves ≡ moves_as (sort_of day n) day J n = in_made l.head.kind day J n l.head.entry l.head.code l.moves parts.0 parts.1 (made_facts day J l legal.1).1 in
    let told = as_d (sort_of day n) day J n l.moves d found in
    let shown : rejection_statuses day J l ≡ rejections_as (sort_of day n) day J n = ap (λ b. if b then rejections_as (sort_of day n) day J n else []) well in
    record {
      moved = told.0 ∙ ap (λ ss. map (move_of day) (entries_but 1 (entries day n) (map entry_told ss))) (sym shown);
      each = ap (λ ss. length l.moves + length ss) shown ∙ told.1;
      told = λ k e g. subst (λ (ks : List ℕ). list_any (nat_eq k) ks ≡ nat_lt (balance day J (technical_account day n)) (e.amount + amount_before day n (λ i. not (list_any (nat_eq i) ks)) k))
          (sym (ap (map entry_told) shown ∙ numbers_of (sort_of day n) day J n d)) (told_beyond day n (balance day J (technical_account day n)) k e g);
    }
