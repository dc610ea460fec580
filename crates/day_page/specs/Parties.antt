-- Which accounts, messages and lines are on the page of a party. On the page of the whole day all are.
use Rattle.std.specs.Prelude.{ℕ, Bool, ◌&&◌, ◌||◌, is_none}
use Rattle.std.specs.List.{list_any}
use Rattle.batch_records.specs.DayRecord.{Day}
use Rattle.commit_journal.specs.declared.line.Move.{Move}
use Rattle.commit_journal.specs.Line.{Line}
use Rattle.machine.specs.Words.{is_dca, some_passes}
use Rattle.machine.specs.Records.Setup.{account_at}
use Rattle.machine.specs.Records.Messages.{message_at}
use Rattle.day_page.specs.declared.words.Request.{Request}
use Rattle.day_page.specs.Requests.{is_partys}

-- the party owns the account
abbrev pub owns_account : Day → Request → ℕ → Bool
owns_account day r a = some_passes (λ record_of. is_partys r record_of.owner) (account_at day a)

-- the party owns it, and it is a dedicated cash account
abbrev pub owns_dca : Day → Request → ℕ → Bool
owns_dca day r a = some_passes (λ record_of. is_dca record_of.kind && is_partys r record_of.owner) (account_at day a)

-- the party sent message n
abbrev pub sent : Day → Request → ℕ → Bool
sent day r n = some_passes (λ m. is_partys r m.sender) (message_at day n)

-- a move takes from an account of the party, or brings to one
abbrev pub touches : Day → Request → Move → Bool
touches day r m = owns_account day r m.debit || owns_account day r m.credit

-- a line is about a message of the party, or moves something on its accounts; of the whole day each line is
abbrev pub is_line_of : Day → Request → Line → Bool
is_line_of day r l = is_none r.party || (sent day r l.head.msg || list_any (touches day r) l.moves)
