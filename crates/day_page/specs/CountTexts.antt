-- The text of a day in figures.
use Rattle.std.specs.Prelude.{ℕ, if◌then◌else◌, List, [], ◌∷◌, ◌++◌, nat_lt, decimal, codes}
use Rattle.std.specs.List.{flat_map}
use Rattle.cash_amounts.specs.AmountText.{amount_text}
use Rattle.batch_records.specs.DayRecord.{Day}
use Rattle.commit_journal.specs.declared.line.Code.{Code}
use Rattle.commit_journal.specs.declared.line.Code.TheVariants as line_codes
use Rattle.commit_journal.specs.Text.{code_text}
use Rattle.commit_journal.specs.Line.{History}
use Rattle.day_page.specs.declared.classes.Class.{Class}
use Rattle.day_page.specs.declared.classes.Class.TheVariants as classes
use Rattle.day_page.specs.declared.classes.Outcome.{Outcome}
use Rattle.day_page.specs.declared.classes.Outcome.TheVariants as outcomes
use Rattle.day_page.specs.declared.words.Request.{Request}
use Rattle.day_page.specs.Classes.{class_word, code_count, left_count, outcome_cents, outcome_count, sent_count}
use Rattle.day_page.specs.Markup.{markup}

-- ---- messages by class and code

abbrev pub refusals : List Code
refusals =
    line_codes.Du ∷ line_codes.Us ∷ line_codes.Pr ∷ line_codes.Ct ∷ line_codes.Sm ∷ line_codes.Nz ∷ line_codes.En ∷ line_codes.Ti ∷ line_codes.Cy ∷ line_codes.Ac ∷ line_codes.Lk ∷ line_codes.Nc ∷ line_codes.Bt ∷ line_codes.Ph
    ∷ line_codes.Np ∷ []

unfoldable pub refusal_text : Code → ℕ → List ℕ
refusal_text code count = if nat_lt 0 count then markup (code_text code ∷ codes "&nbsp;" ∷ decimal count ∷ codes " " ∷ []) else []

unfoldable pub refusal_part : Day → Request → History → Class → Code → List ℕ
refusal_part day r J c code = refusal_text code (code_count day r J c code)

unfoldable pub count_cells : Day → Request → History → Class → List ℕ
count_cells day r J c = markup (
    codes "<tr><th scope='row'>" ∷ class_word c
    ∷ codes "</th><td>" ∷ decimal (sent_count day r c)
    ∷ codes "</td><td>" ∷ decimal (left_count day r J c)
    ∷ codes "</td><td>" ∷ decimal (code_count day r J c line_codes.Ok)
    ∷ codes "</td><td>" ∷ [])

unfoldable pub refusal_cell : Day → Request → History → Class → List ℕ
refusal_cell day r J c = flat_map (refusal_part day r J c) refusals ++ codes "</td></tr>\n"

unfoldable pub count_row : Day → Request → History → Class → List ℕ
count_row day r J c = count_cells day r J c ++ refusal_cell day r J c

abbrev pub all_classes : List Class
all_classes =
    classes.Payment ∷ classes.BatchA ∷ classes.BatchB ∷ classes.BatchC ∷ classes.BatchD ∷ classes.BatchE ∷ classes.Transfer ∷ classes.Objection ∷ classes.Answer
    ∷ classes.Cycle ∷ []

abbrev pub count_head : List ℕ
count_head = codes "<div class='wide' tabindex='0' role='region' aria-label='Messages by kind and code'><table class='codes'><caption>Messages by kind and code</caption><thead><tr><th scope='col'>Kind</th><th scope='col'>Sent</th><th scope='col'>Not yet taken</th><th scope='col'>Accepted</th><th scope='col'>Rejected, by code</th></tr></thead><tbody>\n"

abbrev pub section_end : List ℕ
section_end = codes "</section>\n"

abbrev pub table_end : List ℕ
table_end = codes "</tbody></table></div>\n"

abbrev pub count_rows : Day → Request → History → List ℕ
count_rows day r J = flat_map (count_row day r J) all_classes

unfoldable pub count_table : Day → Request → History → List ℕ
count_table day r J = count_head ++ (count_rows day r J ++ table_end)

-- ---- payments and batches by what became of them

unfoldable pub outcome_cell : Day → Request → History → Class → Outcome → List ℕ
outcome_cell day r J c outcome = markup (
    codes "<td>" ∷ decimal (outcome_count day r J c outcome) ∷ codes "</td><td>" ∷ amount_text (outcome_cents day r J c outcome) ∷ codes "</td>" ∷ [])

abbrev pub all_outcomes : List Outcome
all_outcomes = outcomes.Settled ∷ outcomes.Revoked ∷ outcomes.Closed ∷ outcomes.Going ∷ []

unfoldable pub outcome_head : Class → List ℕ
outcome_head c = markup (codes "<tr><th scope='row'>" ∷ class_word c ∷ codes "</th>" ∷ [])

unfoldable pub outcome_cells : Day → Request → History → Class → List ℕ
outcome_cells day r J c = flat_map (outcome_cell day r J c) all_outcomes ++ codes "</tr>\n"

unfoldable pub outcome_row : Day → Request → History → Class → List ℕ
outcome_row day r J c = outcome_head c ++ outcome_cells day r J c

abbrev pub order_classes : List Class
order_classes = classes.Payment ∷ classes.BatchA ∷ classes.BatchB ∷ classes.BatchC ∷ classes.BatchD ∷ classes.BatchE ∷ []

abbrev pub outcome_table_head : List ℕ
outcome_table_head = codes "<div class='wide' tabindex='0' role='region' aria-label='What became of payments and batches'><table><caption>Payments and batches by what became of them. The sum of what is settled is what was booked: of a batch of D without the entries that were rejected, of E without those that were revoked. The other sums are as stated; of a closed batch of C or E some entries may be booked</caption><thead><tr><th scope='col'>Kind</th><th scope='col'>Settled</th><th scope='col'>Sum settled</th><th scope='col'>Revoked</th><th scope='col'>Sum revoked</th><th scope='col'>Closed</th><th scope='col'>Sum closed</th><th scope='col'>Still open</th><th scope='col'>Sum open</th></tr></thead><tbody>\n"

abbrev pub outcome_rows : Day → Request → History → List ℕ
outcome_rows day r J = flat_map (outcome_row day r J) order_classes

unfoldable pub outcome_table : Day → Request → History → List ℕ
outcome_table day r J = outcome_table_head ++ (outcome_rows day r J ++ table_end)

unfoldable pub counts_text : Day → Request → History → List ℕ
counts_text day r J = codes "<section id='figures'><h2>The day in figures</h2>\n<p>Of the whole day all messages, of a party those that it sent.</p>\n" ++ (count_table day r J ++ (outcome_table day r J ++ section_end))
