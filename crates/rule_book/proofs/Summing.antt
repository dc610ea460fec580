-- What the first entries of a batch take from an account, entry by entry, and how it is entered.
use Rattle.std.proofs.Common.{◌≡◌, ◌∙◌, ◌+◌, ◌*◌, ◌^◌, ◌<◌, ◌≤◌, ℕ, zero, suc, Bool, true, false, ◌&&◌, List, [], ◌∷◌, Option, Some, None, cond, length, take, refl, sym, ap, subst, arith, if◌then◌else◌}
use Rattle.std.specs.Prelude.{filter, nat_eq, nat_lt, option_map, slice_get, sum_by}
use Rattle.std.specs.List.{list_all}
use Rattle.std.specs.Option.{option_map_or}
use Rattle.std.proofs.lemmas.Bool.{and_parts, eq-eqb, eqb-false, eqb-true, ltb-true, ne_eqb}
use Rattle.std.proofs.lemmas.List.{take_all}
use Rattle.std.proofs.lemmas.List.Sums.{sum_by-cons, sum_by-le-sum_by, sum_by-take-le}
use Rattle.std.proofs.lemmas.Option.{slice_get_past}
use Rattle.batch_records.specs.DayRecord.{Day}
use Rattle.batch_records.specs.declared.day.Entry.{Entry}
use Rattle.batch_records.specs.declared.day.Message.{Message}
use Rattle.batch_records.specs.declared.day.Body.{Body}
use Rattle.batch_records.specs.declared.day.Body.TheVariants as bodies
use Rattle.batch_records.specs.Repeats.{message_at}
use Rattle.batch_records.specs.Sound.{entries_in, is_amount, is_sound, is_sound_body}
use Rattle.batch_records.proofs.SoundFacts.{message_parts}
use Rattle.commit_journal.specs.declared.line.Move.{Move}
use Rattle.machine.specs.Words.{same_account}
use Rattle.machine.specs.Records.Setup.{account_named}
use Rattle.machine.specs.Records.Messages.{Missing, debit_account, entries, is_b, is_debit_entry, move_of, part, sort_of, sort_of_body, technical_of}
use Rattle.machine.specs.Stages.Intake.{amount_of}
use Rattle.machine.specs.Making.Lines.{gross}
use Rattle.machine.proofs.Lists.{all_get}
use Rattle.rule_book.specs.Owed.{Debts, b_size, debited, owed, size_of_b, sum_of}
use Rattle.rule_book.proofs.MoveFacts.{above_zero, number_is}

-- ---- the first entries of a list

abbrev taken : (Entry → Bool) → ℕ → List Entry → ℕ
taken p i es = sum_by amount_of (filter p (take i es))

-- the amount of an entry, if it passes
abbrev passing : (Entry → Bool) → Option Entry → ℕ
passing p o = option_map_or (λ (e : Entry). if p e then e.amount else 0) o 0

taken_cons : (p : Entry → Bool) (e : Entry) (ys : List Entry) → sum_by amount_of (filter p (e ∷ ys)) ≡ (if p e then e.amount else 0) + sum_by amount_of (filter p ys)
taken_cons p e ys = here (p e)
  where
    here : (b : Bool) → sum_by amount_of (cond b (e ∷ filter p ys) (filter p ys)) ≡ (if b then e.amount else 0) + sum_by amount_of (filter p ys)
    here true = sum_by-cons amount_of e (filter p ys)
    here false = omega arith

taken_next : (p : Entry → Bool) (es : List Entry) (i : ℕ) → taken p (suc i) es ≡ taken p i es + passing p (slice_get es i)
taken_next p [] zero = refl
taken_next p [] (suc i) = refl
taken_next p (e ∷ es) zero = let one = taken_cons p e [] in omega (arith, one)
taken_next p (e ∷ es) (suc i) = omega (arith, taken_cons p e (take (suc i) es), taken_cons p e (take i es), taken_next p es i)

at_most : (b : Bool) (x m : ℕ) → x < m → (if b then x else 0) ≤ m
at_most true x m h = omega arith
at_most false x m h = omega arith

taken_small : (p : Entry → Bool) (es : List Entry) (i : ℕ) → list_all (λ (e : Entry). is_amount e.amount) es ≡ true → taken p i es ≤ 10 ^ 13 * i
taken_small p [] zero h = omega arith
taken_small p [] (suc i) h = omega arith
taken_small p (e ∷ es) zero h = omega arith
taken_small p (e ∷ es) (suc i) h =
    let both = and_parts (is_amount e.amount) (list_all (λ (x : Entry). is_amount x.amount) es) h in
    let low = ltb-true e.amount (10 ^ 13) (and_parts (nat_lt 0 e.amount) (nat_lt e.amount (10 ^ 13)) both.0).1 in
    omega (arith, taken_cons p e (take i es), at_most (p e) e.amount (10 ^ 13) low, taken_small p es i both.1)

pub filtered_twice : {X : Type 0} (p q : X → Bool) (xs : List X) → filter (λ x. q x && p x) xs ≡ filter p (filter q xs)
filtered_twice p q [] = refl
filtered_twice p q (x ∷ xs) = here (q x) (filtered_twice p q xs)
  where
    here : (b : Bool) → filter (λ x. q x && p x) xs ≡ filter p (filter q xs) → cond (b && p x) (x ∷ filter (λ x. q x && p x) xs) (filter (λ x. q x && p x) xs) ≡ filter p (cond b (x ∷ filter q xs) (filter q xs))
    here true h = ap (λ ys. cond (p x) (x ∷ ys) ys) h
    here false h = h

-- ---- the first entries of a batch

abbrev takes_from : Day → ℕ → ℕ → Entry → Bool
takes_from day n a e = is_debit_entry day n e && nat_eq (debit_account day e) a

-- what the first i entries of batch n take from account a
abbrev pub so_far : Day → ℕ → ℕ → ℕ → ℕ
so_far day n a i = sum_by amount_of (filter (λ (e : Entry). is_debit_entry day n e && nat_eq (debit_account day e) a) (take i (entries day n)))

debit_is : (day : Day) (t : Option ℕ) (a : ℕ) (o : Option Entry) → (t ≡ Some 0 → ⊥)
    → debited t (option_map (move_of day) o) a ≡ passing (λ (e : Entry). same_account (account_named day e.credit) t && nat_eq (debit_account day e) a) o
debit_is day t a None ne = refl
debit_is day t a (Some e) ne = ap (λ b. if b && nat_eq (debit_account day e) a then e.amount else 0) (number_is (account_named day e.credit) t ne)

next : (day : Day) (n a i : ℕ) (found : Option Move) → found ≡ option_map (move_of day) (part day n (suc i))
    → so_far day n a i + debited (technical_of day n) found a ≡ so_far day n a (suc i)
next day n a i found is =
    ap (λ m. so_far day n a i + debited (technical_of day n) m a) is
    ∙ ap (λ x. so_far day n a i + x) (debit_is day (technical_of day n) a (slice_get (entries day n) i) (above_zero day n))
    ∙ sym (taken_next (takes_from day n a) (entries day n) i)

pub so_far_next : (day : Day) (n a i j : ℕ) (found : Option Move) → j ≡ i + 1 → found ≡ option_map (move_of day) (part day n j)
    → so_far day n a i + debited (technical_of day n) found a ≡ so_far day n a j
so_far_next day n a i j found e is =
    let at : suc i ≡ j = omega (arith, e) in
    subst (λ k. found ≡ option_map (move_of day) (part day n k) → so_far day n a i + debited (technical_of day n) found a ≡ so_far day n a k) at (next day n a i found) is

pub so_far_all : (day : Day) (n a i : ℕ) → i ≡ length (entries day n) → so_far day n a i ≡ gross day n a
so_far_all day n a i e =
    ap (λ (es : List Entry). sum_by amount_of (filter (takes_from day n a) es)) (take_all i (entries day n) (omega (arith, e)))
    ∙ ap (sum_by amount_of) (filtered_twice (λ (x : Entry). nat_eq (debit_account day x) a) (is_debit_entry day n) (entries day n))

amounts_in : (b : Body) → is_sound_body b ≡ true → list_all (λ (e : Entry). is_amount e.amount) (entries_in b) ≡ true
amounts_in (bodies.Batch p info early till count sum es) h = (and_parts _ (list_all (λ (e : Entry). is_amount e.amount) es) h).1
amounts_in (bodies.Pay high debit credit amount) h = refl
amounts_in (bodies.Liquidity debit credit amount) h = refl
amounts_in (bodies.Object system batch) h = refl
amounts_in (bodies.Confirm batch answer) h = refl
amounts_in (bodies.Cycle start) h = refl

amounts_at : (day : Day) (n : ℕ) (o : Option Message) → is_sound day ≡ true → message_at day n ≡ o
    → list_all (λ (e : Entry). is_amount e.amount) (option_map_or (λ (m : Message). entries_in m.body) o []) ≡ true
amounts_at day n None h e = refl
amounts_at day zero (Some m) h e = cc
amounts_at day (suc i) (Some m) h e = amounts_in m.body (all_get (λ (x : Message). is_sound_body x.body) day.messages i m (message_parts day h).bodies e)

pub so_far_small : (day : Day) (n a i : ℕ) → is_sound day ≡ true → so_far day n a i ≤ 10 ^ 13 * i
so_far_small day n a i h = taken_small (takes_from day n a) (entries day n) i (amounts_at day n (message_at day n) h refl)

-- ---- how many entries there are, message by message

abbrev pub entry_total : List Message → ℕ
entry_total ms = sum_by (λ (m : Message). length (entries_in m.body)) ms

total_next : (ms : List Message) (i : ℕ) → i < length ms → entry_total (take (suc i) ms) ≡ entry_total (take i ms) + length (option_map_or (λ (m : Message). entries_in m.body) (slice_get ms i) [])
total_next [] i l = absurd (omega (arith, l))
total_next (m ∷ ms) zero l = let one = sum_by-cons (λ (x : Message). length (entries_in x.body)) m [] in omega (arith, one)
total_next (m ∷ ms) (suc i) l =
    let more = total_next ms i (omega (arith, l)) in
    let new = sum_by-cons (λ (x : Message). length (entries_in x.body)) m (take (suc i) ms) in
    let old = sum_by-cons (λ (x : Message). length (entries_in x.body)) m (take i ms) in
    omega (arith, more, new, old)

pub entries_next : (day : Day) (i : ℕ) → i < length day.messages → entry_total (take (i + 1) day.messages) ≡ entry_total (take i day.messages) + length (entries day (i + 1))
entries_next day i l =
    let at : suc i ≡ i + 1 = omega arith in
    subst (λ j. entry_total (take j day.messages) ≡ entry_total (take i day.messages) + length (entries day j)) at (total_next day.messages i l)

pub entries_fit : (day : Day) (i : ℕ) → i < length day.messages → entry_total (take i day.messages) + length (entries day (i + 1)) ≤ entry_total day.messages
entries_fit day i l =
    let one = entries_next day i l in
    let part = sum_by-take-le (λ (m : Message). length (entries_in m.body)) day.messages (i + 1) in
    omega (arith, one, part)

-- ---- how many of them batches of B have

b_part : (o : Option Message) → is_b (option_map_or (λ (m : Message). sort_of_body m.body) o Missing) ≡ true → length (option_map_or (λ (m : Message). entries_in m.body) o []) ≡ option_map_or size_of_b o 0
b_part None h = cc
b_part (Some m) h = ap (λ b. if b then length (entries_in m.body) else 0) (sym h)

pub b_all : (day : Day) (n : ℕ) → is_b (sort_of day n) ≡ true → length (entries day n) ≡ b_size day n
b_all day n h = b_part (message_at day n) h

no_part : (o : Option Message) → is_b (option_map_or (λ (m : Message). sort_of_body m.body) o Missing) ≡ false → 0 ≡ option_map_or size_of_b o 0
no_part None h = refl
no_part (Some m) h = ap (λ b. if b then length (entries_in m.body) else 0) (sym h)

pub b_none : (day : Day) (n : ℕ) → is_b (sort_of day n) ≡ false → 0 ≡ b_size day n
b_none day n h = no_part (message_at day n) h

one_less : (m : Message) → size_of_b m ≤ length (entries_in m.body)
one_less m = by (is_b (sort_of_body m.body))
  where
    by : (b : Bool) → (if b then length (entries_in m.body) else 0) ≤ length (entries_in m.body)
    by true = omega arith
    by false = omega arith

pub b_less : (day : Day) (n : ℕ) → b_size day n ≤ length (entries day n)
b_less day n = of (message_at day n)
  where
    of : (o : Option Message) → option_map_or size_of_b o 0 ≤ length (option_map_or (λ (m : Message). entries_in m.body) o [])
    of None = omega arith
    of (Some m) = one_less m

pub b_few : (ms : List Message) → sum_by size_of_b ms ≤ entry_total ms
b_few ms = sum_by-le-sum_by size_of_b (λ (m : Message). length (entries_in m.body)) ms one_less

b_step : (ms : List Message) (i : ℕ) → i < length ms → sum_by size_of_b (take (suc i) ms) ≡ sum_by size_of_b (take i ms) + option_map_or size_of_b (slice_get ms i) 0
b_step [] i l = absurd (omega (arith, l))
b_step (m ∷ ms) zero l = let one = sum_by-cons size_of_b m [] in omega (arith, one)
b_step (m ∷ ms) (suc i) l =
    let more = b_step ms i (omega (arith, l)) in
    let new = sum_by-cons size_of_b m (take (suc i) ms) in
    let old = sum_by-cons size_of_b m (take i ms) in
    omega (arith, more, new, old)

pub b_next : (day : Day) (i : ℕ) → i < length day.messages → sum_by size_of_b (take (i + 1) day.messages) ≡ sum_by size_of_b (take i day.messages) + b_size day (i + 1)
b_next day i l =
    let at : suc i ≡ i + 1 = omega arith in
    subst (λ j. sum_by size_of_b (take j day.messages) ≡ sum_by size_of_b (take i day.messages) + b_size day j) at (b_step day.messages i l)

pub b_fit : (day : Day) (i : ℕ) → i < length day.messages → sum_by size_of_b (take i day.messages) + b_size day (i + 1) ≤ sum_by size_of_b day.messages
b_fit day i l =
    let one = b_next day i l in
    let part = sum_by-take-le size_of_b day.messages (i + 1) in
    omega (arith, one, part)

-- ---- what is entered

plus_nothing : (x : ℕ) → x ≡ x + 0
plus_nothing x = omega arith

pub if_passes : (own t e : Bool) (s new x y : ℕ) → new ≡ s + (if own then (if e then x else 0) else 0) → x ≡ y → t ≡ true → new ≡ s + (if own then (if t && e then y else 0) else 0)
if_passes own t e s new x y is same passes = is ∙ (λ i. s + (if own then (if sym passes i && e then same i else 0) else 0))

pub if_fails : (own t e : Bool) (s x : ℕ) → t ≡ false → s ≡ s + (if own then (if t && e then x else 0) else 0)
if_fails true t e s x fails = plus_nothing s ∙ ap (λ b. s + (if b && e then x else 0)) (sym fails)
if_fails false t e s x fails = plus_nothing s

pub nothing_more : (own : Bool) (s : ℕ) → s ≡ s + (if own then 0 else 0)
nothing_more true s = plus_nothing s
nothing_more false s = plus_nothing s

pub own_more : (n s new x : ℕ) → new ≡ s + (if nat_eq n n then x else 0) → new ≡ s + x
own_more n s new x is = is ∙ ap (λ b. s + (if b then x else 0)) (eq-eqb n n refl)

pub other_same : (own : Bool) (s new x : ℕ) → new ≡ s + (if own then x else 0) → own ≡ false → new ≡ s
other_same own s new x is not_own = is ∙ ap (λ b. s + (if b then x else 0)) not_own ∙ sym (plus_nothing s)

pub nothing_owed : (debts : Debts) (most n a : ℕ) → debts ≡ record { keys = []; sums = []; most = most } → owed debts n a ≡ 0
unfolding sum_of
nothing_owed debts most n a e = ap (λ d. owed d n a) e

-- ---- a batch of B is one of the messages

pub clash : (b : Bool) → b ≡ true → b ≡ false → ⊥
clash true p q = cc
clash false p q = cc

pub none_of_none : (day : Day) (n : ℕ) → n ≤ 0 → is_b (sort_of day n) ≡ true → ⊥
none_of_none day zero l h = cc
none_of_none day (suc i) l h = omega (arith, l)

pub is_there : (day : Day) (n : ℕ) → is_b (sort_of day n) ≡ true → n ≤ length day.messages
is_there day zero h = omega arith
is_there day (suc i) h = omega (arith, past)
  where
    past : length day.messages ≤ i → ⊥
    past l =
        let missing : is_b (sort_of day (suc i)) ≡ false = ap (λ (o : Option Message). is_b (option_map_or (λ m. sort_of_body m.body) o Missing)) (slice_get_past day.messages i l) in
        clash (is_b (sort_of day (suc i))) h missing

-- what is entered of the first i messages, with one message more
pub one_more : (day : Day) (i j : ℕ) (old new : ℕ → ℕ → ℕ) → j ≡ i + 1 → ((m a : ℕ) → m ≤ i → is_b (sort_of day m) ≡ true → old m a ≡ gross day m a)
    → (is_b (sort_of day j) ≡ true → (a : ℕ) → new j a ≡ gross day j a) → ((m a : ℕ) → nat_eq j m ≡ false → new m a ≡ old m a)
    → (m a : ℕ) → m ≤ j → is_b (sort_of day m) ≡ true → new m a ≡ gross day m a
one_more day i j old new at before own others m a l h = by (nat_eq j m) refl
  where
    by : (b : Bool) → nat_eq j m ≡ b → new m a ≡ gross day m a
    by true e = subst (λ k. is_b (sort_of day k) ≡ true → new k a ≡ gross day k a) (eqb-true j m e) (λ b. own b a) h
    by false e = let ne = eqb-false j m e in others m a e ∙ before m a (omega (arith, l, at, ne)) h

pub still_free : (i j : ℕ) (old new : ℕ → ℕ → ℕ) → j ≡ i + 1 → ((m a : ℕ) → i < m → old m a ≡ 0) → ((m a : ℕ) → nat_eq j m ≡ false → new m a ≡ old m a)
    → (m a : ℕ) → j < m → new m a ≡ 0
still_free i j old new at free others m a l = others m a (ne_eqb j m (λ e. omega (arith, l, e))) ∙ free m a (omega (arith, l, at))
