-- Three tables in one list, of which each changes.
use Rattle.std.proofs.Common.{◌≡◌, ◌∙◌, ◌-◌, ℕ, suc, Bool, List, [], ◌∷◌, get_or, length, refl, sym, ap, subst, arith}
use Rattle.std.specs.Prelude.{slice_set}
use Rattle.std.proofs.lemmas.List.FromFn.{length-map-range_with_len}
use Rattle.batch_records.specs.DayRecord.{Day}
use Rattle.machine.specs.Records.Messages.{entries}
use Rattle.day_facts.specs.declared.watched.Watched.{Watched}
use Rattle.day_facts.specs.FlagTables.{AreTables, table_in, tables_of}
use Rattle.day_facts.specs.Left.{is_watched, watched_row}
use Rattle.day_facts.specs.Listed.{Rowed, row_pushed, with_rows}

-- the second one changes twice
pub noted : {X : Type 0} (f g h : X → X) (xs : List X) (d d1 d2 d3 e a b c k : X) → length xs ≡ 3 → a ≡ f (get_or xs 0 d) → b ≡ f (get_or (slice_set xs 0 a) 1 d1)
    → c ≡ g (get_or (slice_set (slice_set xs 0 a) 1 b) 1 d2) → k ≡ h (get_or (slice_set (slice_set (slice_set xs 0 a) 1 b) 1 c) 2 d3)
    → slice_set (slice_set (slice_set (slice_set xs 0 a) 1 b) 1 c) 2 k ≡ f (get_or xs 0 e) ∷ g (f (get_or xs 1 e)) ∷ h (get_or xs 2 e) ∷ []
noted f g h [] d d1 d2 d3 e a b c k l p q r s = absurd (omega (arith, l))
noted f g h (x ∷ []) d d1 d2 d3 e a b c k l p q r s = absurd (omega (arith, l))
noted f g h (x ∷ y ∷ []) d d1 d2 d3 e a b c k l p q r s = absurd (omega (arith, l))
noted f g h (x ∷ y ∷ z ∷ []) d d1 d2 d3 e a b c k l p q r s = λ i. p i ∷ (r ∙ ap g q) i ∷ s i ∷ []
noted f g h (x ∷ y ∷ z ∷ w ∷ rest) d d1 d2 d3 e a b c k l p q r s = absurd (omega (arith, l))

-- each changes once
pub each : {X : Type 0} (f g h : X → X) (xs : List X) (d d1 d2 e a b c : X) → length xs ≡ 3 → a ≡ f (get_or xs 0 d) → b ≡ g (get_or (slice_set xs 0 a) 1 d1) → c ≡ h (get_or (slice_set (slice_set xs 0 a) 1 b) 2 d2)
    → slice_set (slice_set (slice_set xs 0 a) 1 b) 2 c ≡ f (get_or xs 0 e) ∷ g (get_or xs 1 e) ∷ h (get_or xs 2 e) ∷ []
each f g h [] d d1 d2 e a b c l p q r = absurd (omega (arith, l))
each f g h (x ∷ []) d d1 d2 e a b c l p q r = absurd (omega (arith, l))
each f g h (x ∷ y ∷ []) d d1 d2 e a b c l p q r = absurd (omega (arith, l))
each f g h (x ∷ y ∷ z ∷ []) d d1 d2 e a b c l p q r = λ i. p i ∷ q i ∷ r i ∷ []
each f g h (x ∷ y ∷ z ∷ w ∷ rest) d d1 d2 e a b c l p q r = absurd (omega (arith, l))

-- ---- as much room in each

pub row_size : (w : Watched) (day : Day) (n : ℕ) → length (watched_row w day n) ≡ suc (length (entries day n))
row_size w day n = length-map-range_with_len (is_watched w day n) 0 (suc (length (entries day n)))

pub tables_noted : (old new : List (Rowed Bool)) (a b c : List (List Bool)) → AreTables old → new ≡ with_rows a (table_in old 0) ∷ with_rows b (table_in old 1) ∷ with_rows c (table_in old 2) ∷ [] → AreTables new
tables_noted old new a b c t e = subst AreTables (sym e)
    (record {
      three = refl;
      second = record { for_rows = t.second.for_rows; for_items = t.second.for_items };
      third = record { for_rows = t.third.for_rows; for_items = t.third.for_items };
    })

pub tables_arrived : (old new : List (Rowed Bool)) (a b c : List Bool) → AreTables old → length b ≡ length a → length c ≡ length a → new ≡ row_pushed a (table_in old 0) ∷ row_pushed b (table_in old 1) ∷ row_pushed c (table_in old 2) ∷ [] → AreTables new
tables_arrived old new a b c t p q e = subst AreTables (sym e)
    (record {
      three = refl;
      second = record { for_rows = ap (λ n. n - 1) t.second.for_rows; for_items = λ i. t.second.for_items i - p i };
      third = record { for_rows = ap (λ n. n - 1) t.third.for_rows; for_items = λ i. t.third.for_items i - q i };
    })

pub tables_made : (tables : List (Rowed Bool)) (a b c table : Rowed Bool) → tables ≡ a ∷ b ∷ c ∷ [] → a ≡ table → b ≡ table → c ≡ table → AreTables tables × (tables_of tables ≡ tables_of (table ∷ table ∷ table ∷ []))
tables_made tables a b c table e p q r =
    let all : tables ≡ table ∷ table ∷ table ∷ [] = e ∙ (λ i. p i ∷ q i ∷ r i ∷ []) in
    (subst AreTables (sym all) (record { three = refl; second = record { for_rows = refl; for_items = refl }; third = record { for_rows = refl; for_items = refl } }), ap tables_of all)
