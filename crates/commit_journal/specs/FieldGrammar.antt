-- What is read from the front of some bytes: fields that end with a mark.
use Rattle.std.specs.Prelude.{ℕ, ◌+◌, Bool, ◌&&◌, ◌==◌, nat_le, if◌then◌else◌, List, [], ◌∷◌, take, drop, Option, Some, None, option_map, option_and_then, decimal, bytes_eq}
use Rattle.std.specs.List.{find, position}
use Rattle.std.specs.Str.Parse.{digits_value}
use Rattle.cash_amounts.specs.AmountText.{amount_text}
use Rattle.cash_amounts.specs.Names.{is_digit}
use Rattle.cash_amounts.specs.declared.cents.TheConstants.{MAX_CENTS}
use Rattle.outside_io.specs.TextLine.{semicolon}
use Rattle.commit_journal.specs.declared.line.Code.{Code}
use Rattle.commit_journal.specs.declared.line.Code.TheVariants as line_codes
use Rattle.commit_journal.specs.Text.{code_text}

infixl 10 ◌>>=◌
abbrev pub ◌>>=◌ : {A B : Type 0} → Option A → (A → Option B) → Option B
o >>= f = option_and_then f o

abbrev pub when : {X : Type 0} → Bool → X → Option X
when test x = if test then Some x else None

-- what was read from the front of some bytes, and the bytes after it
abbrev pub Read : Type 0 → Type 0
Read X = Option (X × List ℕ)

-- the bytes before a place, and those after it
abbrev pub around : List ℕ → ℕ → List ℕ × List ℕ
around bytes i = (take i bytes, drop (i + 1) bytes)

-- the bytes before the first mark, and those after it
unfoldable pub cut : ℕ → List ℕ → Read (List ℕ)
cut mark bytes = option_map (around bytes) (position (λ b. b == mark) bytes)

-- a field that ends with this mark
abbrev pub read_field : {X : Type 0} → ℕ → (List ℕ → Option X) → List ℕ → Read X
read_field mark read bytes = do
  field ← cut mark bytes
  value ← read field.0
  Some (value, field.1)

-- the number from low to high whose text this is
unfoldable pub read_number : ℕ → ℕ → List ℕ → Option ℕ
read_number low high bytes =
    when (bytes_eq (decimal (digits_value 10 bytes)) bytes && nat_le low (digits_value 10 bytes) && nat_le (digits_value 10 bytes) high) (digits_value 10 bytes)

-- the digits among the bytes
abbrev pub digits_in : List ℕ → List ℕ
digits_in [] = []
digits_in (c ∷ bytes) = if is_digit c then c ∷ digits_in bytes else digits_in bytes

-- how many cents the digits make
abbrev pub cents_in : List ℕ → ℕ
cents_in bytes = digits_value 10 (digits_in bytes)

-- the amount, other than 0, whose text this is
unfoldable pub read_amount : List ℕ → Option ℕ
read_amount bytes =
    when (bytes_eq (amount_text (cents_in bytes)) bytes && nat_le 1 (cents_in bytes) && nat_le (cents_in bytes) MAX_CENTS) (cents_in bytes)

abbrev pub all_codes : List Code
all_codes =
    line_codes.Ok ∷ line_codes.Du ∷ line_codes.Us ∷ line_codes.Pr ∷ line_codes.Ct ∷ line_codes.Sm ∷ line_codes.Nz ∷ line_codes.En ∷ line_codes.Ti ∷ line_codes.Cy ∷ line_codes.Ac
    ∷ line_codes.Lk ∷ line_codes.Nc ∷ line_codes.Bt ∷ line_codes.Ph ∷ line_codes.Np ∷ line_codes.Pe ∷ line_codes.Ce ∷ line_codes.Ed ∷ line_codes.Gn ∷ line_codes.Gs ∷ line_codes.Ge ∷ []

-- the code whose word this is
unfoldable pub read_code : List ℕ → Option Code
read_code bytes = find (λ code. bytes_eq (code_text code) bytes) all_codes

-- the bytes after this word and a semicolon
unfoldable pub after_word : List ℕ → List ℕ → Option (List ℕ)
after_word word bytes = do
  field ← cut semicolon bytes
  when (bytes_eq field.0 word) field.1
