-- The text of lines in words.
use Rattle.std.specs.Prelude.{ℕ, suc, ◌-◌, Bool, true, false, ◌&&◌, if◌then◌else◌, List, [], ◌∷◌, ◌++◌, Option, Some, None, length, nat_eq, nat_lt, sum_by, decimal, codes}
use Rattle.std.specs.List.{flat_map}
use Rattle.cash_amounts.specs.AmountText.{amount_text}
use Rattle.batch_records.specs.DayRecord.{Day}
use Rattle.commit_journal.specs.declared.line.Code.{Code}
use Rattle.commit_journal.specs.declared.line.Head.{Head}
use Rattle.commit_journal.specs.declared.line.Kind.{Kind}
use Rattle.commit_journal.specs.declared.line.Kind.TheVariants as kinds
use Rattle.commit_journal.specs.declared.line.Move.{Move}
use Rattle.commit_journal.specs.Text.{code_text}
use Rattle.commit_journal.specs.Line.{Line, History}
use Rattle.day_page.specs.declared.words.Request.{Request}
use Rattle.day_page.specs.Classes.{word_of}
use Rattle.day_page.specs.Markup.{clock_text, id_of, markup, name_of, sender_of}
use Rattle.day_page.specs.Parties.{is_line_of}

-- ---- a line

-- one move with its accounts, more of them by their number and sum
unfoldable pub move_words : Day → Move → List ℕ
move_words day m = markup (amount_text m.amount ∷ codes " from " ∷ name_of day m.debit ∷ codes " to " ∷ name_of day m.credit ∷ codes ": " ∷ [])

unfoldable pub moved_cents : List Move → ℕ
moved_cents moves = sum_by (λ m. m.amount) moves

unfoldable pub sum_words : List Move → List ℕ
sum_words moves = if nat_lt 1 (length moves) then markup (decimal (length moves) ∷ codes " moves, " ∷ amount_text (moved_cents moves) ∷ codes " in all: " ∷ []) else []

abbrev pub each_move : Day → List Move → List ℕ
each_move day moves = flat_map (move_words day) moves

unfoldable pub moves_words : Day → List Move → List ℕ
moves_words day moves = if nat_eq (length moves) 1 then each_move day moves else sum_words moves

-- what stands before the message that the line is about, or the whole where it is about none
unfoldable pub booked_entry : ℕ → List ℕ
booked_entry k = if nat_lt 0 k then markup (codes "entry " ∷ decimal k ∷ codes " of " ∷ []) else []

unfoldable pub words_before : Kind → Day → ℕ → List ℕ
words_before kinds.In day k = []
words_before kinds.Book day k = booked_entry k
words_before kinds.All day k = []
words_before kinds.Time day k = markup (codes "the clock goes to " ∷ clock_text k ∷ [])
words_before kinds.Expire day k = []
words_before kinds.Ask day k = codes "the fund is asked for "
words_before kinds.Cover day k = codes "the fund pays for "
words_before kinds.Refuse day k = codes "the fund is refused to "
words_before kinds.Sweep day k = markup (codes "sub-account " ∷ name_of day k ∷ codes " gives back what it holds" ∷ [])
words_before kinds.End day k = codes "the day ends"

abbrev pub has_message : Kind → Bool
has_message kinds.Time = false
has_message kinds.Sweep = false
has_message kinds.End = false
has_message _ = true

-- the message: 'payment P1 of BANKA'
unfoldable pub about : Kind → Day → ℕ → List ℕ
about kind day n = if has_message kind then markup (word_of day n ∷ codes " " ∷ id_of day n ∷ codes " of " ∷ sender_of day n ∷ []) else []

abbrev pub with_code : List ℕ → Code → List ℕ
with_code words code = words ++ code_text code

unfoldable pub words_behind : Kind → Code → List ℕ
words_behind kinds.In code = with_code (codes " taken, code ") code
words_behind kinds.Book code = codes " booked"
words_behind kinds.All code = codes " booked whole"
words_behind kinds.Expire code = with_code (codes " expires, code ") code
words_behind kinds.Refuse code = with_code (codes ", code ") code
words_behind _ code = []

unfoldable pub head_words : Day → Head → List ℕ
head_words day h = words_before h.kind day h.entry ++ (about h.kind day h.msg ++ words_behind h.kind h.code)

unfoldable pub line_words : Day → Line → List ℕ
line_words day l = moves_words day l.moves ++ head_words day l.head

unfoldable pub item_head : ℕ → List ℕ
item_head place = markup (codes "<li value='" ∷ decimal place ∷ codes "'>" ∷ [])

abbrev pub item_end : List ℕ
item_end = codes "</li>\n"

unfoldable pub item_text : Day → ℕ → Line → List ℕ
item_text day place l = item_head place ++ (line_words day l ++ item_end)

-- ---- the newest lines of the party, of which so many are still to be shown

abbrev pub is_recent : Day → Request → ℕ → Line → Bool
is_recent day r budget l = nat_lt 0 budget && is_line_of day r l

abbrev pub budget_after : Day → Request → ℕ → Line → ℕ
budget_after day r budget l = if is_recent day r budget l then budget - 1 else budget

unfoldable pub recent_part : Day → Request → ℕ → ℕ → Line → List ℕ
recent_part day r budget place l = if is_recent day r budget l then item_text day place l else []

unfoldable pub recent_text : Day → Request → ℕ → History → List ℕ
recent_text day r budget [] = []
recent_text day r budget (l ∷ J) = recent_part day r budget (suc (length J)) l ++ recent_text day r (budget_after day r budget l) J

-- a hundred of the whole day, five thousand of a party
abbrev pub most_for : Option (List ℕ) → ℕ
most_for None = 100
most_for (Some party) = 5000

abbrev pub most_lines : Request → ℕ
most_lines r = most_for r.party

abbrev pub lines_head : List ℕ
lines_head = codes "<section id='lines'><h2>Lines in words</h2>\n<p>The newest first, each with its place in the journal: of the whole day up to a hundred, of a party up to five thousand that are about its messages or move something on its accounts.</p>\n<ol class='lines'>\n"

abbrev pub lines_end : List ℕ
lines_end = codes "</ol></section>\n"

unfoldable pub lines_text : Day → Request → History → List ℕ
lines_text day r J = lines_head ++ (recent_text day r (most_lines r) J ++ lines_end)
