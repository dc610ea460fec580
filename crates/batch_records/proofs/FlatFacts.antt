-- Messages whose records and entries are kept apart.
use Rattle.std.proofs.Common.{◌≡◌, ◌∙◌, ℕ, zero, suc, ◌+◌, ◌-◌, ◌≤◌, ◌<◌, Bool, true, false, List, [], ◌∷◌, ◌++◌, Some, length, get_or, map, take, refl, sym, ap, subst, sum_by, arith}
use Rattle.std.specs.Prelude.{slice_get, option_map}
use Rattle.std.specs.Option.{option_map_or}
use Rattle.std.proofs.lemmas.List.Sums.{sum_by-cons}
use Rattle.std.proofs.lemmas.Option.{same_Some}
use Rattle.row_list.specs.Rows.{row_at, with_item}
use Rattle.batch_records.specs.Flat.{FitsRow, HaveRows, body_with_entries, has_entries, joined, own_body, with_entries, without_entries}
use Rattle.batch_records.specs.Parts.{entries_at}
use Rattle.batch_records.specs.Sound.{entries_in}
use Rattle.batch_records.specs.Step.{body_with, with_entry, with_last}
use Rattle.batch_records.specs.declared.day.Body.{Body}
use Rattle.batch_records.specs.declared.day.Entry.{Entry}
use Rattle.batch_records.specs.declared.day.MessageRecord.{MessageRecord}
use Rattle.batch_records.specs.declared.day.RecordBody.{RecordBody}
use Rattle.batch_records.specs.declared.day.RecordBody.TheVariants as records

-- ---- how many there are

pub joined_length : (rs : List MessageRecord) (rows : List (List Entry)) → length (joined rs rows) ≡ length rs
unfolding joined
joined_length [] rows = refl
joined_length (r ∷ rs) [] = ap suc (joined_length rs [])
joined_length (r ∷ rs) (row ∷ rows) = ap suc (joined_length rs rows)

pub rows_length : (rs : List MessageRecord) (rows : List (List Entry)) → HaveRows rs rows → length rows ≡ length rs
unfolding HaveRows
rows_length [] [] h = refl
rows_length [] (row ∷ rows) h = absurd h
rows_length (r ∷ rs) [] h = absurd h
rows_length (r ∷ rs) (row ∷ rows) h = ap suc (rows_length rs rows h.1)

-- ---- one of them

pub joined_at : (rs : List MessageRecord) (rows : List (List Entry)) (i : ℕ) → slice_get (joined rs rows) i ≡ option_map (λ r. with_entries r (row_at rows i)) (slice_get rs i)
unfolding joined
joined_at [] rows i = refl
joined_at (r ∷ rs) [] zero = refl
joined_at (r ∷ rs) [] (suc i) = joined_at rs [] i
joined_at (r ∷ rs) (row ∷ rows) zero = refl
joined_at (r ∷ rs) (row ∷ rows) (suc i) = joined_at rs rows i

row_fits : (r : RecordBody) (row : List Entry) → FitsRow r row → entries_in (body_with_entries r row) ≡ row
row_fits (records.Batch procedure info from till count sum) row h = refl
row_fits (records.Pay high debit credit amount) row h = sym h
row_fits (records.Liquidity debit credit amount) row h = sym h
row_fits (records.Object system batch) row h = sym h
row_fits (records.Confirm batch answer) row h = sym h
row_fits (records.Cycle start) row h = sym h

pub joined_entries : (rs : List MessageRecord) (rows : List (List Entry)) (i : ℕ) → HaveRows rs rows → entries_at (joined rs rows) i ≡ row_at rows i
unfolding joined HaveRows
joined_entries [] [] i h = refl
joined_entries [] (row ∷ rows) i h = absurd h
joined_entries (r ∷ rs) [] i h = absurd h
joined_entries (r ∷ rs) (row ∷ rows) zero h = row_fits r.body row h.0
joined_entries (r ∷ rs) (row ∷ rows) (suc i) h = joined_entries rs rows i h.1

there_at : (rs : List MessageRecord) (i : ℕ) (r : MessageRecord) → i < length rs → r ≡ get_or rs i r → slice_get rs i ≡ Some r
there_at [] i r l e = absurd (omega arith)
there_at (x ∷ rs) zero r l e = ap (λ y. Some y) (sym e)
there_at (x ∷ rs) (suc i) r l e = there_at rs i r (omega (arith, l)) e

pub joined_here : (rs : List MessageRecord) (rows : List (List Entry)) (i : ℕ) (r : MessageRecord) → HaveRows rs rows → i < length rs → r ≡ get_or rs i r → slice_get (joined rs rows) i ≡ Some (with_entries r (entries_at (joined rs rows) i))
joined_here rs rows i r h l e =
    joined_at rs rows i ∙ ap (option_map (λ m. with_entries m (row_at rows i))) (there_at rs i r l e) ∙ ap (λ es. Some (with_entries r es)) (sym (joined_entries rs rows i h))

pub joined_sum : (rs : List MessageRecord) (rows : List (List Entry)) → HaveRows rs rows → sum_by length rows ≡ sum_by (λ m. length (entries_in m.body)) (joined rs rows)
unfolding joined HaveRows
joined_sum [] [] h = refl
joined_sum [] (row ∷ rows) h = absurd h
joined_sum (r ∷ rs) [] h = absurd h
joined_sum (r ∷ rs) (row ∷ rows) h =
    sum_by-cons length row rows
    ∙ (λ i. length (sym (row_fits r.body row h.0) i) + joined_sum rs rows h.1 i)
    ∙ sym (sum_by-cons (λ m. length (entries_in m.body)) (with_entries r row) (joined rs rows))

-- ---- one more

fits_none : (r : RecordBody) → FitsRow r []
fits_none (records.Batch procedure info from till count sum) = tt
fits_none (records.Pay high debit credit amount) = refl
fits_none (records.Liquidity debit credit amount) = refl
fits_none (records.Object system batch) = refl
fits_none (records.Confirm batch answer) = refl
fits_none (records.Cycle start) = refl

joined_more : (rs : List MessageRecord) (rows : List (List Entry)) (r : MessageRecord) → HaveRows rs rows → joined (rs ++ r ∷ []) (rows ++ [] ∷ []) ≡ joined rs rows ++ with_entries r [] ∷ []
unfolding joined HaveRows
joined_more [] [] r h = refl
joined_more [] (row ∷ rows) r h = absurd h
joined_more (x ∷ rs) [] r h = absurd h
joined_more (x ∷ rs) (row ∷ rows) r h = ap (λ ms. with_entries x row ∷ ms) (joined_more rs rows r h.1)

have_more : (rs : List MessageRecord) (rows : List (List Entry)) (r : MessageRecord) → HaveRows rs rows → HaveRows (rs ++ r ∷ []) (rows ++ [] ∷ [])
unfolding HaveRows
have_more [] [] r h = (fits_none r.body, tt)
have_more [] (row ∷ rows) r h = absurd h
have_more (x ∷ rs) [] r h = absurd h
have_more (x ∷ rs) (row ∷ rows) r h = (h.0, have_more rs rows r h.1)

pub pushed_joined : (rs new : List MessageRecord) (rows more : List (List Entry)) (r : MessageRecord) → HaveRows rs rows → new ≡ rs ++ r ∷ [] → more ≡ rows ++ [] ∷ [] → joined new more ≡ joined rs rows ++ with_entries r [] ∷ []
pushed_joined rs new rows more r h e w = (λ i. joined (e i) (w i)) ∙ joined_more rs rows r h

pub pushed_rows : (rs new : List MessageRecord) (rows more : List (List Entry)) (r : MessageRecord) → HaveRows rs rows → new ≡ rs ++ r ∷ [] → more ≡ rows ++ [] ∷ [] → HaveRows new more
pushed_rows rs new rows more r h e w = subst (λ ys. HaveRows new ys) (sym w) (subst (λ xs. HaveRows xs (rows ++ [] ∷ [])) (sym e) (have_more rs rows r h))

-- ---- one more entry of the last

-- whether the last of some records is a batch's
abbrev pub is_last_batch : List MessageRecord → Bool
is_last_batch rs = option_map_or (λ r. has_entries r.body) (slice_get rs (length rs - 1)) false

last_next : (r x : MessageRecord) (rs : List MessageRecord) → slice_get (r ∷ x ∷ rs) (length (r ∷ x ∷ rs) - 1) ≡ slice_get (x ∷ rs) (length (x ∷ rs) - 1)
last_next r x rs =
    let here : suc (suc (length rs)) - 1 ≡ suc (length rs) = omega arith in
    let next : suc (length rs) - 1 ≡ length rs = omega arith in
    rw (here, next) refl

one_more : (e : Entry) (r : RecordBody) (row : List Entry) → has_entries r ≡ true → body_with_entries r (row ++ e ∷ []) ≡ body_with e (body_with_entries r row)
one_more e (records.Batch procedure info from till count sum) row b = refl
one_more e (records.Pay high debit credit amount) row b = cc
one_more e (records.Liquidity debit credit amount) row b = cc
one_more e (records.Object system batch) row b = cc
one_more e (records.Confirm batch answer) row b = cc
one_more e (records.Cycle start) row b = cc

none_more : (e : Entry) (r : RecordBody) (row : List Entry) → has_entries r ≡ false → body_with_entries r row ≡ body_with e (body_with_entries r row)
none_more e (records.Batch procedure info from till count sum) row b = cc
none_more e (records.Pay high debit credit amount) row b = refl
none_more e (records.Liquidity debit credit amount) row b = refl
none_more e (records.Object system batch) row b = refl
none_more e (records.Confirm batch answer) row b = refl
none_more e (records.Cycle start) row b = refl

fits_any : (r : RecordBody) (row : List Entry) → has_entries r ≡ true → FitsRow r row
fits_any (records.Batch procedure info from till count sum) row b = tt
fits_any (records.Pay high debit credit amount) row b = cc
fits_any (records.Liquidity debit credit amount) row b = cc
fits_any (records.Object system batch) row b = cc
fits_any (records.Confirm batch answer) row b = cc
fits_any (records.Cycle start) row b = cc

same_message : (r : MessageRecord) (row : List Entry) (b : Body) → body_with_entries r.body row ≡ b → with_entries r row ≡ record { round = r.round; sender = r.sender; id = r.id; body = b }
same_message r row b e = λ i. record { round = r.round; sender = r.sender; id = r.id; body = e i }

pub entry_joined : (e : Entry) (rs : List MessageRecord) (rows : List (List Entry)) → HaveRows rs rows → is_last_batch rs ≡ true → joined rs (with_item e rows) ≡ with_last (with_entry e) (joined rs rows)
unfolding joined HaveRows with_item with_last
entry_joined e [] [] h b = refl
entry_joined e [] (row ∷ rows) h b = absurd h
entry_joined e (r ∷ rs) [] h b = absurd h
entry_joined e (r ∷ []) (row ∷ []) h b = ap (λ m. m ∷ []) (same_message r (row ++ e ∷ []) _ (one_more e r.body row b))
entry_joined e (r ∷ []) (row ∷ next ∷ rows) h b = absurd h.1
entry_joined e (r ∷ x ∷ rs) (row ∷ []) h b = absurd h.1
entry_joined e (r ∷ x ∷ rs) (row ∷ next ∷ rows) h b =
    ap (λ ms. with_entries r row ∷ ms) (entry_joined e (x ∷ rs) (next ∷ rows) h.1 (sym (ap (λ o. option_map_or (λ m. has_entries m.body) o false) (last_next r x rs)) ∙ b))

pub entry_rows : (e : Entry) (rs : List MessageRecord) (rows : List (List Entry)) → HaveRows rs rows → is_last_batch rs ≡ true → HaveRows rs (with_item e rows)
unfolding HaveRows with_item
entry_rows e [] [] h b = tt
entry_rows e [] (row ∷ rows) h b = absurd h
entry_rows e (r ∷ rs) [] h b = absurd h
entry_rows e (r ∷ []) (row ∷ []) h b = (fits_any r.body (row ++ e ∷ []) b, tt)
entry_rows e (r ∷ []) (row ∷ next ∷ rows) h b = absurd h.1
entry_rows e (r ∷ x ∷ rs) (row ∷ []) h b = absurd h.1
entry_rows e (r ∷ x ∷ rs) (row ∷ next ∷ rows) h b =
    (h.0, entry_rows e (x ∷ rs) (next ∷ rows) h.1 (sym (ap (λ o. option_map_or (λ m. has_entries m.body) o false) (last_next r x rs)) ∙ b))

-- no entry of a message that is no batch
pub entry_lost : (e : Entry) (rs : List MessageRecord) (rows : List (List Entry)) → HaveRows rs rows → is_last_batch rs ≡ false → joined rs rows ≡ with_last (with_entry e) (joined rs rows)
unfolding joined HaveRows with_last
entry_lost e [] [] h b = refl
entry_lost e [] (row ∷ rows) h b = absurd h
entry_lost e (r ∷ rs) [] h b = absurd h
entry_lost e (r ∷ []) (row ∷ []) h b = ap (λ m. m ∷ []) (same_message r row _ (none_more e r.body row b))
entry_lost e (r ∷ []) (row ∷ next ∷ rows) h b = absurd h.1
entry_lost e (r ∷ x ∷ rs) (row ∷ []) h b = absurd h.1
entry_lost e (r ∷ x ∷ rs) (row ∷ next ∷ rows) h b =
    ap (λ ms. with_entries r row ∷ ms) (entry_lost e (x ∷ rs) (next ∷ rows) h.1 (sym (ap (λ o. option_map_or (λ m. has_entries m.body) o false) (last_next r x rs)) ∙ b))

-- a batch is last, so there is a row
pub some_row : (rs : List MessageRecord) (rows : List (List Entry)) → HaveRows rs rows → is_last_batch rs ≡ true → 0 < length rows
unfolding HaveRows
some_row [] [] h b = cc
some_row [] (row ∷ rows) h b = absurd h
some_row (r ∷ rs) [] h b = absurd h
some_row (r ∷ rs) (row ∷ rows) h b = omega arith

-- ---- fewer

joined_take : (n : ℕ) (rs : List MessageRecord) (rows : List (List Entry)) → joined (take n rs) (take n rows) ≡ take n (joined rs rows)
unfolding joined
joined_take zero rs rows = refl
joined_take (suc n) [] [] = refl
joined_take (suc n) [] (row ∷ rows) = refl
joined_take (suc n) (r ∷ rs) [] = ap (λ ms. with_entries r [] ∷ ms) (sym (ap (joined (take n rs)) (take_nil n)) ∙ joined_take n rs [])
  where
    take_nil : (k : ℕ) → take {A = List Entry} k [] ≡ []
    take_nil zero = refl
    take_nil (suc k) = refl
joined_take (suc n) (r ∷ rs) (row ∷ rows) = ap (λ ms. with_entries r row ∷ ms) (joined_take n rs rows)

have_take : (n : ℕ) (rs : List MessageRecord) (rows : List (List Entry)) → HaveRows rs rows → HaveRows (take n rs) (take n rows)
unfolding HaveRows
have_take zero rs rows h = tt
have_take (suc n) [] [] h = tt
have_take (suc n) [] (row ∷ rows) h = absurd h
have_take (suc n) (r ∷ rs) [] h = absurd h
have_take (suc n) (r ∷ rs) (row ∷ rows) h = (h.0, have_take n rs rows h.1)

pub dropped_joined : (rs new : List MessageRecord) (rows fewer : List (List Entry)) (n : ℕ) → HaveRows rs rows → n ≡ length rs → new ≡ take (n - 1) rs → fewer ≡ take (length rows - 1) rows → joined new fewer ≡ take (length (joined rs rows) - 1) (joined rs rows)
dropped_joined rs new rows fewer n h l e w =
    let same : length rows - 1 ≡ n - 1 = omega (arith, l, rows_length rs rows h) in
    let size : n - 1 ≡ length (joined rs rows) - 1 = omega (arith, l, joined_length rs rows) in
    (λ i. joined (e i) ((w ∙ ap (λ k. take k rows) same) i)) ∙ joined_take (n - 1) rs rows ∙ ap (λ k. take k (joined rs rows)) size

pub dropped_rows : (rs new : List MessageRecord) (rows fewer : List (List Entry)) (n : ℕ) → HaveRows rs rows → n ≡ length rs → new ≡ take (n - 1) rs → fewer ≡ take (length rows - 1) rows → HaveRows new fewer
dropped_rows rs new rows fewer n h l e w =
    let same : length rows - 1 ≡ n - 1 = omega (arith, l, rows_length rs rows h) in
    subst (λ xs. HaveRows xs fewer) (sym e) (subst (λ ys. HaveRows (take (n - 1) rs) ys) (sym (w ∙ ap (λ k. take k rows) same)) (have_take (n - 1) rs rows h))

-- ---- none

pub none_joined : (rs : List MessageRecord) (rows : List (List Entry)) → rs ≡ [] → joined rs rows ≡ []
unfolding joined
none_joined rs rows e = ap (λ xs. joined xs rows) e

pub none_rows : (rs : List MessageRecord) (rows : List (List Entry)) → rs ≡ [] → rows ≡ [] → HaveRows rs rows
unfolding HaveRows
none_rows rs rows e w = subst (λ xs. HaveRows xs rows) (sym e) (subst (λ ys. HaveRows [] ys) (sym w) tt)

-- ---- the records alone

own_again : (r : RecordBody) (row : List Entry) → own_body (body_with_entries r row) ≡ r
own_again (records.Batch procedure info from till count sum) row = refl
own_again (records.Pay high debit credit amount) row = refl
own_again (records.Liquidity debit credit amount) row = refl
own_again (records.Object system batch) row = refl
own_again (records.Confirm batch answer) row = refl
own_again (records.Cycle start) row = refl

record_again : (r : MessageRecord) (row : List Entry) → without_entries (with_entries r row) ≡ r
record_again r row = λ i. record { round = r.round; sender = r.sender; id = r.id; body = own_again r.body row i }

pub joined_records : (rs : List MessageRecord) (rows : List (List Entry)) → rs ≡ map without_entries (joined rs rows)
unfolding joined
joined_records [] rows = refl
joined_records (r ∷ rs) [] = λ i. sym (record_again r []) i ∷ joined_records rs [] i
joined_records (r ∷ rs) (row ∷ rows) = λ i. sym (record_again r row) i ∷ joined_records rs rows i

-- ---- items of a list

pub got : {X : Type 0} (xs : List X) (i : ℕ) (x : X) → slice_get xs i ≡ Some x → x ≡ get_or xs i x
got [] i x e = cc
got (y ∷ xs) zero x e = sym (same_Some y x e)
got (y ∷ xs) (suc i) x e = got xs i x e

pub map_next : {X Y : Type 0} (f : X → Y) (xs : List X) (i k : ℕ) (x : X) → k ≡ i + 1 → slice_get xs i ≡ Some x → map f (take k xs) ≡ map f (take i xs) ++ f x ∷ []
map_next f [] i k x l e = cc
map_next f (y ∷ xs) i zero x l e = absurd (omega (arith, l))
map_next f (y ∷ xs) zero (suc k) x l e =
    let none : k ≡ 0 = omega (arith, l) in
    ap (λ j. f y ∷ map f (take j xs)) none ∙ ap (λ z. f z ∷ []) (same_Some y x e)
map_next f (y ∷ xs) (suc i) (suc k) x l e = ap (λ ys. f y ∷ ys) (map_next f xs i k x (omega (arith, l)) e)

pub take_past : {X : Type 0} (xs : List X) (n : ℕ) → length xs ≤ n → take n xs ≡ xs
take_past [] zero l = refl
take_past [] (suc n) l = refl
take_past (x ∷ xs) zero l = absurd (omega arith)
take_past (x ∷ xs) (suc n) l = ap (λ ys. x ∷ ys) (take_past xs n (omega (arith, l)))
