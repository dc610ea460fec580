-- What a line can tell of the entries of a batch that are revoked, by keys that name entries.
use Rattle.std.specs.Prelude.{ℕ, ◌≡◌, ◌≤◌, ◌-◌, Bool, true, false, not, ◌&&◌, List, [], ◌∷◌, length, nat_lt}
use Rattle.batch_records.specs.DayRecord.{Day}
use Rattle.commit_journal.specs.declared.line.Head.{Head}
use Rattle.commit_journal.specs.Line.{Line, History}
use Rattle.commit_journal.specs.Histories.{oldest}
use Rattle.rule_book.specs.Parties.{entry_of, names_entry}
use Rattle.day_facts.specs.Objectors.{repeats_accepted}
use Rattle.status_messages.specs.LineTexts.{is_revoked_by}

-- the line at a place has this head
pub record IsLine (H : History) (place : ℕ) (head : Head) : Type 0 where
  pub line : Line
  pub head_is : line.head ≡ head
  pub from : 1 ≤ place
  pub to : place ≤ length H
  pub is : oldest H place ≡ line ∷ oldest H (place - 1)

-- the entries that the keys name rise from this one on
unfoldable pub rises_from : ℕ → List ℕ → Bool
rises_from low [] = true
rises_from low (x ∷ xs) = not (nat_lt (entry_of x) low) && rises_from (entry_of x) xs

-- of these lines, that at the place was the first to revoke no entry of batch b but those that the keys name
abbrev pub TellsNoOther : Day → History → ℕ → ℕ → List ℕ → Type 0
TellsNoOther day J place b keys = (k : ℕ) → names_entry keys k ≡ false → is_revoked_by day J place b k ≡ false

-- message n repeats another objection, which these lines accept
pub record IsAgain (day : Day) (J : History) (n : ℕ) : Type 0 where
  pub earlier : ℕ
  pub other : earlier ≡ n → ⊥
  pub repeats : repeats_accepted day J earlier n ≡ true
