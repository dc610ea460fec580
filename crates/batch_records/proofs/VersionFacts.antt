-- What the versions have alike: each limit is at most that of the third, and those of the first are at most those of any.
use Rattle.std.proofs.Common.{◌≡◌, ◌≤◌, ℕ, List, Bool, true, false, arith, refl}
use Rattle.std.specs.Prelude.{◌==◌, if◌then◌else◌}
use Rattle.cash_amounts.specs.declared.limits.TheConstants.{MAX_ENTRIES_OF_DAY, MAX_ENTRIES_OF_DAY_BEFORE_THIRD, MAX_MESSAGES, MAX_MESSAGES_BEFORE_THIRD}
use Rattle.batch_records.specs.Versions.{begins_with_ver, has_labels, is_third, migrated_version, most_entries_of_day, most_messages}
use Rattle.batch_records.specs.Words.{is_third_word, version_named}
use Rattle.batch_records.proofs.BoolFacts.{or_neither}

-- ---- the limits by whether the version is the third

messages_by : (third : Bool) → ((if third then MAX_MESSAGES else MAX_MESSAGES_BEFORE_THIRD) ≤ MAX_MESSAGES) × (MAX_MESSAGES_BEFORE_THIRD ≤ (if third then MAX_MESSAGES else MAX_MESSAGES_BEFORE_THIRD))
messages_by true = (omega arith, omega arith)
messages_by false = (omega arith, omega arith)

entries_by : (third : Bool) → ((if third then MAX_ENTRIES_OF_DAY else MAX_ENTRIES_OF_DAY_BEFORE_THIRD) ≤ MAX_ENTRIES_OF_DAY) × (MAX_ENTRIES_OF_DAY_BEFORE_THIRD ≤ (if third then MAX_ENTRIES_OF_DAY else MAX_ENTRIES_OF_DAY_BEFORE_THIRD))
entries_by true = (omega arith, omega arith)
entries_by false = (omega arith, omega arith)

pub messages_at_most : (version : ℕ) → most_messages version ≤ MAX_MESSAGES
messages_at_most version = (messages_by (is_third version)).0

pub entries_at_most : (version : ℕ) → most_entries_of_day version ≤ MAX_ENTRIES_OF_DAY
entries_at_most version = (entries_by (is_third version)).0

-- ---- where VER names a later version, there is no less room

pub messages_grow : (version later : ℕ) → begins_with_ver version ≡ false → most_messages version ≤ most_messages later
messages_grow version later first = let third : is_third version ≡ false = (or_neither (version == 2) (is_third version) first).1 in rw third (messages_by (is_third later)).1

pub entries_grow : (version later : ℕ) → begins_with_ver version ≡ false → most_entries_of_day version ≤ most_entries_of_day later
entries_grow version later first = let third : is_third version ≡ false = (or_neither (version == 2) (is_third version) first).1 in rw third (entries_by (is_third later)).1

-- ---- the versions that VER names

named_by : (third : Bool) → begins_with_ver (if third then 3 else 2) ≡ true
named_by true = refl
named_by false = refl

pub named_begins : (word : List ℕ) → begins_with_ver (version_named word) ≡ true
named_begins word = named_by (is_third_word word)

pub migrated_labels : (version : ℕ) → has_labels (migrated_version version) ≡ true
migrated_labels version = named_by (is_third version)

migrated_by : (third : Bool) → ((if third then MAX_MESSAGES else MAX_MESSAGES_BEFORE_THIRD) ≤ most_messages (if third then 3 else 2)) × ((if third then MAX_ENTRIES_OF_DAY else MAX_ENTRIES_OF_DAY_BEFORE_THIRD) ≤ most_entries_of_day (if third then 3 else 2))
migrated_by true = (omega arith, omega arith)
migrated_by false = (omega arith, omega arith)

pub migrated_limits : (version : ℕ) → (most_messages version ≤ most_messages (migrated_version version)) × (most_entries_of_day version ≤ most_entries_of_day (migrated_version version))
migrated_limits version = migrated_by (is_third version)
