-- The statements of a chain, as they are kept and as they are defined.
use Rattle.std.proofs.Common.{◌≡◌, ◌∙◌, ℕ, zero, suc, ◌+◌, ◌-◌, ◌^◌, ◌<◌, ◌≤◌, List, [], ◌∷◌, ◌++◌, length, map, take, drop, get_or, Option, Some, None, Result, Ok, refl, sym, ap, subst, arith, append-nil}
use Rattle.std.specs.Prelude.{reverse, slice_get, unwrap_or}
use Rattle.std.specs.List.{flat_map, range_with_len}
use Rattle.std.specs.Option.{option_map_or}
use Rattle.std.proofs.lemmas.List.{take_more, take_all, length-map, reverse-append}
use Rattle.std.proofs.lemmas.Grind.{flat_map-append}
use Rattle.std.proofs.lemmas.List.FromFn.{length-range_with_len, get_or-range_with_len}
use Rattle.outside_io.specs.Pieces.{SinkState}
use Rattle.outside_io.specs.Calls.{Puts}
use Rattle.outside_io.proofs.PutLemmas.{has_put_none, puts_all, texts_parts}
use Rattle.cash_amounts.specs.declared.limits.TheConstants.{MAX_ACCOUNTS}
use Rattle.cash_amounts.specs.declared.records.AccountRecord.{AccountRecord}
use Rattle.account_book.specs.Directory.{account_name}
use Rattle.batch_records.specs.DayRecord.{Day}
use Rattle.machine.specs.Words.{numbered}
use Rattle.day_chain.specs.declared.ledger.Last.{Last}
use Rattle.day_chain.specs.declared.ledger.YearSums.{YearSums}
use Rattle.day_chain.specs.declared.sums.Sums.{Sums}
use Rattle.day_chain.specs.ChainTexts.{statements_text, sums_text, year_text}
use Rattle.day_chain.specs.Ledgers.{AreBooks, IsBook, StandsAt}
use Rattle.day_chain.specs.Statements.{by_year, sums_of, year_of}
use Rattle.day_chain.specs.Summing.{HasRoom, HaveRoom}
use Rattle.day_chain.proofs.Changes.{room_at}
use Rattle.day_chain.specs.YearTexts.{AllLong, book_text, books_text, IsLong, no_sums, year_line}

-- ---- the texts of numbers, one after another

at_number : (n i : ℕ) → i < n → i + 1 ≡ get_or (range_with_len 1 n) i (i + 1)
at_number n i within = let e = get_or-range_with_len 1 n i (i + 1) within in omega (arith, e)

pub numbers_parts : (f : ℕ → List ℕ) (n i : ℕ) → i < n → flat_map f (take i (range_with_len 1 n)) ++ (f (i + 1) ++ flat_map f (drop (i + 1) (range_with_len 1 n))) ≡ flat_map f (range_with_len 1 n)
numbers_parts f n i within =
    texts_parts f (range_with_len 1 n) i (i + 1) (let e = length-range_with_len 1 n in omega (arith, e)) (at_number n i within)

pub numbers_more : (f : ℕ → List ℕ) (n i : ℕ) → i < n → flat_map f (take i (range_with_len 1 n)) ++ f (i + 1) ≡ flat_map f (take (i + 1) (range_with_len 1 n))
numbers_more f n i within =
    let xs : List ℕ = range_with_len 1 n in
    let low : i < length xs = let e = length-range_with_len 1 n in omega (arith, e) in
    let more : take (i + 1) xs ≡ take i xs ++ (i + 1) ∷ [] = take_more xs i (i + 1) low ∙ ap (λ x. take i xs ++ x ∷ []) (sym (at_number n i within)) in
    ap (λ t. flat_map f (take i xs) ++ t) (sym (append-nil (f (i + 1)))) ∙ sym (flat_map-append f (take i xs) ((i + 1) ∷ [])) ∙ ap (flat_map f) (sym more)

pub numbers_all : (f : ℕ → List ℕ) (n i : ℕ) → n ≤ i → flat_map f (take i (range_with_len 1 n)) ≡ flat_map f (range_with_len 1 n)
numbers_all f n i past = ap (flat_map f) (take_all i (range_with_len 1 n) (let e = length-range_with_len 1 n in omega (arith, e)))

-- ---- a year

flat-in : (f g : ℕ → List ℕ) (s n : ℕ) → ((a : ℕ) → s ≤ a → a < s + n → f a ≡ g a) → flat_map f (range_with_len s n) ≡ flat_map g (range_with_len s n)
flat-in f g s zero h = refl
flat-in f g s (suc n) h = λ i. h s (omega arith) (omega arith) i ++ flat-in f g (s + 1) n (λ a low high. h a (omega arith) (omega arith)) i

got : (f : ℕ → Sums) (s n i : ℕ) → i < n → slice_get (map f (range_with_len s n)) i ≡ Some (f (s + i))
got f s zero i l = absurd (omega arith)
got f s (suc n) zero l = ap (λ k. Some (f k)) (omega arith)
got f s (suc n) (suc i) l = got f (s + 1) n i (omega arith) ∙ ap (λ k. Some (f k)) (omega arith)

numbered_sums : (f : ℕ → Sums) (n a : ℕ) → 1 ≤ a → a < 1 + n → numbered (map f (range_with_len 1 n)) a ≡ Some (f a)
numbered_sums f n zero low high = absurd (omega arith)
numbered_sums f n (suc i) low high = got f 1 n i (omega arith) ∙ ap (λ k. Some (f k)) (omega arith)

pub book_is : (accounts : List AccountRecord) (days : List Day) (book : YearSums) → IsBook (length accounts) days book → book_text accounts book ≡ year_text accounts days
unfolding year_text
book_is accounts days book is =
    flat-in (year_line accounts book) (λ a. sums_text (year_of days) (account_name accounts a) (sums_of days a)) 1 (length accounts)
    (λ a low high. λ i. sums_text (is.year i) (account_name accounts a) (at a low high i))
  where
    at : (a : ℕ) → 1 ≤ a → a < 1 + length accounts → unwrap_or (numbered book.sums.items a) no_sums ≡ sums_of days a
    at a low high =
        ap (λ (xs : List Sums). unwrap_or (numbered xs a) no_sums) is.sums
        ∙ ap (λ (o : Option Sums). unwrap_or o no_sums) (numbered_sums (sums_of days) (length accounts) a low high)

pub books_are : (accounts : List AccountRecord) (years : List (List Day)) (books : List YearSums) → AreBooks (length accounts) years books → books_text accounts books ≡ flat_map (year_text accounts) years
books_are accounts [] [] h = refl
books_are accounts [] (b ∷ books) h = absurd h
books_are accounts (y ∷ years) [] h = absurd h
books_are accounts (y ∷ years) (b ∷ books) h = λ i. book_is accounts y b h.0 i ++ books_are accounts years books h.1 i

is_long : (accounts : List AccountRecord) (days : List Day) (book : YearSums) → IsBook (length accounts) days book → IsLong accounts book
is_long accounts days book is = record {
  long = ap length is.sums ∙ length-map (range_with_len 1 (length accounts)) (sums_of days) ∙ length-range_with_len 1 (length accounts);
  room = is.room;
}

all_long : (accounts : List AccountRecord) (years : List (List Day)) (books : List YearSums) → AreBooks (length accounts) years books → AllLong accounts books
all_long accounts [] [] h = tt
all_long accounts [] (b ∷ books) h = absurd h
all_long accounts (y ∷ years) [] h = absurd h
all_long accounts (y ∷ years) (b ∷ books) h = (is_long accounts y b h.0, all_long accounts years books h.1)

-- ---- the statement of one account

pub there : {X : Type 0} (xs : List X) (i : ℕ) (x : X) → i < length xs → x ≡ get_or xs i x → slice_get xs i ≡ Some x
there [] i x l e = absurd (omega arith)
there (y ∷ xs) zero x l e = ap Some (sym e)
there (y ∷ xs) (suc i) x l e = there xs i x (omega arith) e

numbered_at : {X : Type 0} (xs : List X) (a : ℕ) (x : X) → 0 < a → a ≤ length xs → x ≡ get_or xs (a - 1) x → numbered xs a ≡ Some x
numbered_at xs zero x low high e = absurd (omega arith)
numbered_at xs (suc i) x low high e = let at : suc i - 1 ≡ i = omega arith in there xs i x (omega arith) (e ∙ ap (λ k. get_or xs k x) at)

pub line_is : (accounts : List AccountRecord) (book : YearSums) (a : ℕ) (r : AccountRecord) (s : Sums) → 0 < a → a ≤ length accounts → length book.sums.items ≡ length accounts →
    r ≡ get_or accounts (a - 1) r → s ≡ get_or book.sums.items (a - 1) s → sums_text book.year r.name s ≡ year_line accounts book a
line_is accounts book a r s low high long e h =
    λ i. sums_text book.year (option_map_or (λ (x : AccountRecord). x.name) (sym (numbered_at accounts a r low high e) i) []) (unwrap_or (sym (numbered_at book.sums.items a s low (omega (arith, long, high)) h) i) no_sums)

room_in : (n i : ℕ) (xs : List Sums) (s : Sums) → HaveRoom n xs → i < length xs → s ≡ get_or xs i s → s.credits ≤ 2 ^ 127
room_in n i xs s h l e = let r = subst (HasRoom n) (sym e) (room_at n i xs s h l) in omega (arith, r.credits)

pub room_of : (accounts : List AccountRecord) (book : YearSums) (a : ℕ) (s : Sums) → IsLong accounts book → 0 < a → a ≤ length accounts → s ≡ get_or book.sums.items (a - 1) s → s.credits ≤ 2 ^ 127
room_of accounts book a s is low high e = room_in 0 (a - 1) book.sums.items s is.room (let l = is.long in omega arith) e

-- ---- the end of a chain

-- what is kept of the latest day suffices for the statements
pub record Ready (last : Last) (books : List YearSums) : Type 0 where
  pub few : length last.before.accounts ≤ MAX_ACCOUNTS
  pub latest : IsLong last.before.accounts last.year
  pub earlier : AllLong last.before.accounts books

pub ready : (last : Last) (told : List Day) (books : List YearSums) → StandsAt (Some last) told books → Ready last books
ready last [] books stands = absurd stands
ready last (day ∷ told) books stands =
    let count : length day.accounts ≡ length last.before.accounts = ap length (sym stands.left.accounts) in
    record {
      few = stands.left.few;
      latest = is_long last.before.accounts stands.days last.year (subst (λ n. IsBook n stands.days last.year) count stands.latest);
      earlier = all_long last.before.accounts (reverse stands.years) books (subst (λ n. AreBooks n (reverse stands.years) books) count stands.earlier);
    }

turned : (days : List Day) (years : List (List Day)) (f : List Day → List ℕ) → flat_map f (reverse (days ∷ years)) ≡ flat_map f (reverse years) ++ f days
turned days years f = ap (flat_map f) (reverse-append (days ∷ []) years) ∙ flat_map-append f (reverse years) (days ∷ []) ∙ ap (λ (t : List ℕ). flat_map f (reverse years) ++ t) (append-nil (f days))

pub all_years : (last : Last) (told : List Day) (books : List YearSums) → StandsAt (Some last) told books → books_text last.before.accounts books ++ book_text last.before.accounts last.year ≡ statements_text told
all_years last [] books stands = absurd stands
all_years last (day ∷ told) books stands =
    let count : length day.accounts ≡ length last.before.accounts = ap length (sym stands.left.accounts) in
    let accounts = last.before.accounts in
    (λ i. books_are accounts (reverse stands.years) books (subst (λ n. AreBooks n (reverse stands.years) books) count stands.earlier) i ++ book_is accounts stands.days last.year (subst (λ n. IsBook n stands.days last.year) count stands.latest) i)
    ∙ sym (turned stands.days stands.years (year_text accounts))
    ∙ (λ i. flat_map (year_text (stands.left.accounts i)) (reverse (sym stands.are i)))

pub no_years : (told : List Day) (books : List YearSums) → StandsAt None told books → [] ≡ statements_text told
unfolding by_year
no_years [] books stands = refl
no_years (day ∷ told) books stands = absurd stands

-- ---- what is put

pub puts_same : {T E : Type 0} (old new : SinkState) (text same : List ℕ) (result : Result T E) → text ≡ same → Puts old new text result → Puts old new same result
puts_same old new text same result e put = subst (λ (bytes : List ℕ). Puts old new bytes result) e put

pub puts_nothing : {T E : Type 0} (old : SinkState) (text : List ℕ) (value : T) → [] ≡ text → Puts {E = E} old old text (Ok value)
puts_nothing {T} {E} old text value none = subst (λ (bytes : List ℕ). Puts {E = E} old old bytes (Ok value)) none (puts_all old old [] value (has_put_none old))

pub long_at : (accounts : List AccountRecord) (books : List YearSums) (i : ℕ) (book : YearSums) → AllLong accounts books → i < length books → book ≡ get_or books i book → IsLong accounts book
long_at accounts [] i book h l e = absurd (omega arith)
long_at accounts (b ∷ books) zero book h l e = subst (IsLong accounts) (sym e) h.0
long_at accounts (b ∷ books) (suc i) book h l e = long_at accounts books i book h.1 (omega arith) e
