-- The word of a message by the journal, as a table over what the journal tells of it.
use Rattle.std.proofs.Common.{◌≡◌, ℕ, Bool, true, false, not, ◌&&◌, ◌||◌, [], ◌∷◌, refl}
use Rattle.std.specs.Prelude.{is_none, is_some, nat_lt}
use Rattle.batch_records.specs.DayRecord.{Day}
use Rattle.commit_journal.specs.Line.{History}
use Rattle.machine.specs.Words.{first_case, some_passes}
use Rattle.machine.specs.Records.Messages.{earliest, info_end, is_a, sort_of}
use Rattle.machine.specs.Telling.History.{asked, clock, closed, covered, is_accepted, taken, taken_code}
use Rattle.machine.specs.Telling.Facts.{answered}
use Rattle.machine.specs.Laws.{is_order}
use Rattle.machine.specs.Stages.Phases.{is_information, is_no_order, open_as, phase, revoked_as, settled_as}
use Rattle.settlement_laws.proofs.Base.PhaseLaws.{table}
use Rattle.status_messages.specs.Statuses.{is_revoked, is_settled}
use Rattle.as_client.specs.declared.view.Word.{Word}
use Rattle.as_client.specs.declared.view.Word.TheVariants as words
use Rattle.as_client.specs.PartyWords.{is_closed, is_repeat_code, word_in}

-- ---- three phases as tests of the rows before them

abbrev pub shows_closed : Bool → Bool → Bool → Bool → Bool
shows_closed a b c d = not a && (not b && (not c && d))

abbrev pub shows_revoked : Bool → Bool → Bool → Bool → Bool → Bool
shows_revoked a b c d e = not a && (not b && (not c && (not d && e)))

abbrev pub shows_settled : Bool → Bool → Bool → Bool → Bool → Bool → Bool
shows_settled a b c d e f = not a && (not b && (c || (not d && (not e && f))))

closed_rows : (a b c d e f g h i j w k : Bool) → is_closed (table a b c d e f g h i j w k) ≡ shows_closed a b c d
closed_rows true b c d e f g h i j w k = refl
closed_rows false true c d e f g h i j w k = refl
closed_rows false false true d e f g h i j w k = refl
closed_rows false false false true e f g h i j w k = refl
closed_rows false false false false true f g h i j w k = refl
closed_rows false false false false false true g h i j w k = refl
closed_rows false false false false false false true h i j w k = refl
closed_rows false false false false false false false true i j w k = refl
closed_rows false false false false false false false false true j w k = refl
closed_rows false false false false false false false false false true w k = refl
closed_rows false false false false false false false false false false true k = refl
closed_rows false false false false false false false false false false false true = refl
closed_rows false false false false false false false false false false false false = refl

revoked_rows : (a b c d e f g h i j w k : Bool) → is_revoked (table a b c d e f g h i j w k) ≡ shows_revoked a b c d e
revoked_rows true b c d e f g h i j w k = refl
revoked_rows false true c d e f g h i j w k = refl
revoked_rows false false true d e f g h i j w k = refl
revoked_rows false false false true e f g h i j w k = refl
revoked_rows false false false false true f g h i j w k = refl
revoked_rows false false false false false true g h i j w k = refl
revoked_rows false false false false false false true h i j w k = refl
revoked_rows false false false false false false false true i j w k = refl
revoked_rows false false false false false false false false true j w k = refl
revoked_rows false false false false false false false false false true w k = refl
revoked_rows false false false false false false false false false false true k = refl
revoked_rows false false false false false false false false false false false true = refl
revoked_rows false false false false false false false false false false false false = refl

settled_rows : (a b c d e f g h i j w k : Bool) → is_settled (table a b c d e f g h i j w k) ≡ shows_settled a b c d e f
settled_rows true b c d e f g h i j w k = refl
settled_rows false true c d e f g h i j w k = refl
settled_rows false false true d e f g h i j w k = refl
settled_rows false false false true e f g h i j w k = refl
settled_rows false false false false true f g h i j w k = refl
settled_rows false false false false false true g h i j w k = refl
settled_rows false false false false false false true h i j w k = refl
settled_rows false false false false false false false true i j w k = refl
settled_rows false false false false false false false false true j w k = refl
settled_rows false false false false false false false false false true w k = refl
settled_rows false false false false false false false false false false true k = refl
settled_rows false false false false false false false false false false false true = refl
settled_rows false false false false false false false false false false false false = refl

information_rows : (a b c d e f g h i j w k : Bool) → is_information (table a b c d e f g h i j w k) ≡ true → i ≡ false
information_rows true b c d e f g h i j w k p = cc
information_rows false true c d e f g h i j w k p = cc
information_rows false false true d e f g h i j w k p = cc
information_rows false false false true e f g h i j w k p = cc
information_rows false false false false true f g h i j w k p = cc
information_rows false false false false false true g h i j w k p = cc
information_rows false false false false false false true h i j w k p = cc
information_rows false false false false false false false true i j w k p = cc
information_rows false false false false false false false false true j w k p = cc
information_rows false false false false false false false false false j w k p = refl

-- ---- of a message

abbrev pub settled_shown : Day → History → ℕ → Bool
settled_shown day J n = shows_settled (is_none (taken J n)) (not (is_accepted J n)) (is_no_order (sort_of day n)) (is_some (closed J n)) (revoked_as (sort_of day n) day J n) (settled_as (sort_of day n) day J n)

phase_closed : (day : Day) (J : History) (n : ℕ) → is_closed (phase day J n) ≡ shows_closed (is_none (taken J n)) (not (is_accepted J n)) (is_no_order (sort_of day n)) (is_some (closed J n))
unfolding phase
phase_closed day J n = closed_rows (is_none (taken J n)) (not (is_accepted J n)) (is_no_order (sort_of day n)) (is_some (closed J n)) (revoked_as (sort_of day n) day J n) (settled_as (sort_of day n) day J n) (is_a (sort_of day n) && is_some (covered J n)) (is_some (asked J n) && is_some (answered day J n)) (is_some (asked J n)) (some_passes (nat_lt (clock J)) (info_end day n)) (some_passes (nat_lt (clock J)) (earliest day n)) (open_as (sort_of day n) day J n)

pub phase_revoked : (day : Day) (J : History) (n : ℕ) → is_revoked (phase day J n) ≡ shows_revoked (is_none (taken J n)) (not (is_accepted J n)) (is_no_order (sort_of day n)) (is_some (closed J n)) (revoked_as (sort_of day n) day J n)
unfolding phase
phase_revoked day J n = revoked_rows (is_none (taken J n)) (not (is_accepted J n)) (is_no_order (sort_of day n)) (is_some (closed J n)) (revoked_as (sort_of day n) day J n) (settled_as (sort_of day n) day J n) (is_a (sort_of day n) && is_some (covered J n)) (is_some (asked J n) && is_some (answered day J n)) (is_some (asked J n)) (some_passes (nat_lt (clock J)) (info_end day n)) (some_passes (nat_lt (clock J)) (earliest day n)) (open_as (sort_of day n) day J n)

pub phase_settled : (day : Day) (J : History) (n : ℕ) → is_settled (phase day J n) ≡ settled_shown day J n
unfolding phase
phase_settled day J n = settled_rows (is_none (taken J n)) (not (is_accepted J n)) (is_no_order (sort_of day n)) (is_some (closed J n)) (revoked_as (sort_of day n) day J n) (settled_as (sort_of day n) day J n) (is_a (sort_of day n) && is_some (covered J n)) (is_some (asked J n) && is_some (answered day J n)) (is_some (asked J n)) (some_passes (nat_lt (clock J)) (info_end day n)) (some_passes (nat_lt (clock J)) (earliest day n)) (open_as (sort_of day n) day J n)

pub informed_unasked : (day : Day) (J : History) (n : ℕ) → is_information (phase day J n) ≡ true → is_some (asked J n) ≡ false
unfolding phase
informed_unasked day J n h = information_rows (is_none (taken J n)) (not (is_accepted J n)) (is_no_order (sort_of day n)) (is_some (closed J n)) (revoked_as (sort_of day n) day J n) (settled_as (sort_of day n) day J n) (is_a (sort_of day n) && is_some (covered J n)) (is_some (asked J n) && is_some (answered day J n)) (is_some (asked J n)) (some_passes (nat_lt (clock J)) (info_end day n)) (some_passes (nat_lt (clock J)) (earliest day n)) (open_as (sort_of day n) day J n) h

-- ---- the word over the tests

abbrev pub word_over : Bool → Bool → Bool → Bool → Bool → Bool → Bool → Bool → Bool → Word
word_over untaken repeated rejected no_order order closed revoked settled asked = first_case (
    (untaken, words.Nothing)
    ∷ (repeated, words.Repeated)
    ∷ (rejected, words.Rejected)
    ∷ (shows_closed untaken rejected no_order closed, words.Failed)
    ∷ (shows_revoked untaken rejected no_order closed revoked, words.Revoked)
    ∷ (order && shows_settled untaken rejected no_order closed revoked settled, words.Settled)
    ∷ (asked, words.Asked)
    ∷ []) words.Accepted

-- with these tests of the phase
abbrev word_at : Day → History → ℕ → Bool → Bool → Bool → Word
word_at day J n closed revoked settled = first_case (
    (is_none (taken J n), words.Nothing)
    ∷ (some_passes is_repeat_code (taken_code J n), words.Repeated)
    ∷ (not (is_accepted J n), words.Rejected)
    ∷ (closed, words.Failed)
    ∷ (revoked, words.Revoked)
    ∷ (is_order (sort_of day n) && settled, words.Settled)
    ∷ (is_some (asked J n), words.Asked)
    ∷ []) words.Accepted

pub word_is : (day : Day) (J : History) (n : ℕ) → word_in day J n
    ≡ word_over (is_none (taken J n)) (some_passes is_repeat_code (taken_code J n)) (not (is_accepted J n)) (is_no_order (sort_of day n)) (is_order (sort_of day n)) (is_some (closed J n)) (revoked_as (sort_of day n) day J n) (settled_as (sort_of day n) day J n) (is_some (asked J n))
unfolding word_in
word_is day J n = λ i. word_at day J n (phase_closed day J n i) (phase_revoked day J n i) (phase_settled day J n i)
