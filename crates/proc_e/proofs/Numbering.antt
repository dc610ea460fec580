-- Which entries a batch has, and which accounts are at hand for each of them.
use Rattle.std.proofs.Common.{◌≡◌, ℕ, zero, suc, ◌<◌, Bool, true, ◌&&◌, List, [], ◌∷◌, ◌++◌, length, Option, Some, None, refl, sym, ap, ◌∙◌, subst, arith}
use Rattle.std.specs.Prelude.{flat_map, option_to_list, slice_get, if◌then◌else◌}
use Rattle.std.specs.List.{list_all}
use Rattle.std.proofs.lemmas.Bool.{and_parts}
use Rattle.batch_records.specs.DayRecord.{Day}
use Rattle.batch_records.specs.declared.day.Entry.{Entry}
use Rattle.commit_journal.specs.declared.line.Want.TheVariants as wants
use Rattle.machine.specs.Records.Messages.{entries, entry_at, fund_of, is_batch, is_e, sort_of}
use Rattle.machine.specs.Making.Accounts.{accounts_of, accounts_of_part, payment_of}
use Rattle.rule_book.specs.Answering.{has_accounts}
use Rattle.proc_e.proofs.Entries.{part-is}

-- an entry is one of at least one
some_at : {X : Type 0} (xs : List X) (i : ℕ) (x : X) → slice_get xs i ≡ Some x → 0 < length xs
some_at [] zero x e = cc
some_at [] (suc i) x e = cc
some_at (y ∷ ys) i x e = omega arith

pub some_entry : (day : Day) (n k : ℕ) (e : Entry) → entry_at day n k ≡ Some e → 0 < length (entries day n)
some_entry day n zero e there = cc
some_entry day n (suc i) e there = some_at (entries day n) i e there

-- ---- the accounts of a batch are those of its entries

all_left : (held : ℕ → Bool) (xs ys : List ℕ) → list_all held (xs ++ ys) ≡ true → list_all held xs ≡ true
all_left held [] ys h = refl
all_left held (x ∷ xs) ys h = let p = and_parts (held x) (list_all held (xs ++ ys)) h in ap (λ b. b && list_all held xs) p.0 ∙ all_left held xs ys p.1

all_right : (held : ℕ → Bool) (xs ys : List ℕ) → list_all held (xs ++ ys) ≡ true → list_all held ys ≡ true
all_right held [] ys h = h
all_right held (x ∷ xs) ys h = all_right held xs ys (and_parts (held x) (list_all held (xs ++ ys)) h).1

all_of_entry : (held : ℕ → Bool) (day : Day) (es : List Entry) (i : ℕ) (e : Entry) → list_all held (flat_map (accounts_of day) es) ≡ true → slice_get es i ≡ Some e → list_all held (accounts_of day e) ≡ true
all_of_entry held day [] zero e h there = cc
all_of_entry held day [] (suc i) e h there = cc
all_of_entry held day (x ∷ es) zero e h there =
    let same : x ≡ e = cc in
    subst (λ z. list_all held (accounts_of day z) ≡ true) same (all_left held (accounts_of day x) (flat_map (accounts_of day) es) h)
all_of_entry held day (x ∷ es) (suc i) e h there = all_of_entry held day es i e (all_right held (accounts_of day x) (flat_map (accounts_of day) es) h) there

part_held : (held : ℕ → Bool) (day : Day) (n k : ℕ) (o : Option Entry) → list_all held (flat_map (accounts_of day) (entries day n)) ≡ true → entry_at day n k ≡ o → list_all held (accounts_of_part day o) ≡ true
part_held held day n k None h there = refl
part_held held day n zero (Some e) h there = cc
part_held held day n (suc i) (Some e) h there = all_of_entry held day (entries day n) i e h there

pub held_entry : (held : ℕ → Bool) (day : Day) (n k : ℕ) → is_e (sort_of day n) ≡ true → has_accounts held day (wants.Expire n) ≡ true → has_accounts held day (wants.Book n k) ≡ true
held_entry held day n k h all =
    let parts : List ℕ = accounts_of_part day (payment_of (sort_of day n) day n) in
    let funds : List ℕ = if is_batch (sort_of day n) then option_to_list (fund_of day n) else [] in
    let both : list_all held (flat_map (accounts_of day) (entries day n) ++ parts) ≡ true = all_left held (flat_map (accounts_of day) (entries day n) ++ parts) funds all in
    let each : list_all held (flat_map (accounts_of day) (entries day n)) ≡ true = all_left held (flat_map (accounts_of day) (entries day n)) parts both in
    subst (λ o. list_all held (accounts_of_part day o) ≡ true) (sym (part-is day n k h)) (part_held held day n k (entry_at day n k) each refl)
