-- What a history tells: which lines stand in it and at which places. The newest line stands first, and the
-- place of a line is the length of the history that it begins.
use Rattle.std.specs.Prelude.{ℕ, suc, Bool, if◌then◌else◌, true, false, ◌&&◌, [], ◌∷◌, Option, None, nat_eq, length, is_some}
use Rattle.std.specs.Option.{option_or}
use Rattle.commit_journal.specs.declared.line.Kind.{Kind}
use Rattle.commit_journal.specs.declared.line.Kind.TheVariants as kinds
use Rattle.commit_journal.specs.declared.line.Code.{Code}
use Rattle.commit_journal.specs.declared.line.Code.TheVariants as line_codes
use Rattle.commit_journal.specs.Line.{Line, History}
use Rattle.machine.specs.Words.{when, some_passes}

-- ---- sorts of lines

abbrev pub is_in : Kind → Bool
is_in kinds.In = true
is_in _ = false

abbrev pub is_book : Kind → Bool
is_book kinds.Book = true
is_book _ = false

abbrev pub is_all : Kind → Bool
is_all kinds.All = true
is_all _ = false

abbrev pub is_time : Kind → Bool
is_time kinds.Time = true
is_time _ = false

abbrev pub is_expire_or_refuse : Kind → Bool
is_expire_or_refuse kinds.Expire = true
is_expire_or_refuse kinds.Refuse = true
is_expire_or_refuse _ = false

abbrev pub is_ask : Kind → Bool
is_ask kinds.Ask = true
is_ask _ = false

abbrev pub is_cover : Kind → Bool
is_cover kinds.Cover = true
is_cover _ = false

abbrev pub is_sweep : Kind → Bool
is_sweep kinds.Sweep = true
is_sweep _ = false

abbrev pub is_end : Kind → Bool
is_end kinds.End = true
is_end _ = false

abbrev pub is_ok : Code → Bool
is_ok line_codes.Ok = true
is_ok _ = false

-- ---- the oldest line of which something holds

-- its place
unfoldable pub place_of : (Line → Bool) → History → Option ℕ
place_of test [] = None
place_of test (l ∷ J) = option_or (place_of test J) (when (test l) (suc (length J)))

-- what is read from it
unfoldable pub read_first : {X : Type 0} → (Line → Option X) → History → Option X
read_first read [] = None
read_first read (l ∷ J) = option_or (read_first read J) (read l)

-- ---- the lines of a message

abbrev pub is_in_of : ℕ → Line → Bool
is_in_of n l = is_in l.head.kind && nat_eq l.head.msg n

abbrev pub is_book_of : ℕ → ℕ → Line → Bool
is_book_of n k l = is_book l.head.kind && nat_eq l.head.msg n && nat_eq l.head.entry k

abbrev pub is_all_of : ℕ → Line → Bool
is_all_of n l = is_all l.head.kind && nat_eq l.head.msg n

abbrev pub is_ask_of : ℕ → Line → Bool
is_ask_of n l = is_ask l.head.kind && nat_eq l.head.msg n

abbrev pub is_cover_of : ℕ → Line → Bool
is_cover_of n l = is_cover l.head.kind && nat_eq l.head.msg n

abbrev pub is_closing_of : ℕ → Line → Bool
is_closing_of n l = is_expire_or_refuse l.head.kind && nat_eq l.head.msg n

-- the In line of n
abbrev pub taken : History → ℕ → Option ℕ
taken J n = place_of (is_in_of n) J

-- the Book line of item (n, k)
abbrev pub booked : History → ℕ → ℕ → Option ℕ
booked J n k = place_of (is_book_of n k) J

-- the All line of n
abbrev pub settled_whole : History → ℕ → Option ℕ
settled_whole J n = place_of (is_all_of n) J

-- the Ask line of n
abbrev pub asked : History → ℕ → Option ℕ
asked J n = place_of (is_ask_of n) J

-- the Cover line of n
abbrev pub covered : History → ℕ → Option ℕ
covered J n = place_of (is_cover_of n) J

-- the Expire or Refuse line of n
abbrev pub closed : History → ℕ → Option ℕ
closed J n = place_of (is_closing_of n) J

-- the End line
abbrev pub ended : History → Option ℕ
ended J = place_of (λ l. is_end l.head.kind) J

abbrev pub is_ended : History → Bool
is_ended J = is_some (ended J)

-- the code of n's In line
abbrev pub taken_code : History → ℕ → Option Code
taken_code J n = read_first (λ l. when (is_in_of n l) l.head.code) J

-- n is taken, with code OK
abbrev pub is_accepted : History → ℕ → Bool
is_accepted J n = some_passes is_ok (taken_code J n)

-- ---- the clock

-- the time of the last Time line, or 0
unfoldable pub clock : History → ℕ
clock [] = 0
clock (l ∷ J) = if is_time l.head.kind then l.head.entry else clock J
