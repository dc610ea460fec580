-- The places of two different pending items differ: their In lines do, or their entries.
use Rattle.std.proofs.Common.{◌≡◌, ℕ, true, Option, Some, None, refl, sym, ◌∙◌}
use Rattle.std.specs.Prelude.{is_some, nat_eq, unwrap_or}
use Rattle.std.proofs.lemmas.Bool.{eqb-true, and_parts}
use Rattle.batch_records.specs.DayRecord.{Day}
use Rattle.commit_journal.specs.Line.{History}
use Rattle.machine.specs.declared.answers.Item.{Item}
use Rattle.machine.specs.Records.Messages.{sort_of}
use Rattle.machine.specs.Telling.History.{is_in, is_in_of, taken}
use Rattle.machine.specs.Stages.Phases.{phase}
use Rattle.machine.specs.Stages.Pending.{item, is_pending}
use Rattle.machine.specs.OtherLaws.{PlacesDiffer}
use Rattle.settlement_laws.proofs.Balances.MovesOfTheDay.{pending_going}
use Rattle.settlement_laws.proofs.Base.Counting.{PassesBoth, one_line}
use Rattle.settlement_laws.proofs.Base.OngoingPhases.{going_taken}

-- two messages with one In line are one message
pub one_message : (J : History) (n m p : ℕ) → taken J n ≡ Some p → taken J m ≡ Some p → n ≡ m
one_message J n m p h k =
    let both : PassesBoth (is_in_of n) (is_in_of m) = one_line (is_in_of n) (is_in_of m) J p h k in
    let a : both.of.head.msg ≡ n = eqb-true both.of.head.msg n (and_parts (is_in both.of.head.kind) (nat_eq both.of.head.msg n) both.first_passes).1 in
    let b : both.of.head.msg ≡ m = eqb-true both.of.head.msg m (and_parts (is_in both.of.head.kind) (nat_eq both.of.head.msg m) both.second_passes).1 in
    sym a ∙ b

pub same_intake : (J : History) (n m : ℕ) → is_some (taken J n) ≡ true → is_some (taken J m) ≡ true → unwrap_or (taken J n) 0 ≡ unwrap_or (taken J m) 0 → n ≡ m
same_intake J n m h k e = here (taken J n) (taken J m) refl refl h k e
  where
    there : (p q : ℕ) → taken J n ≡ Some p → taken J m ≡ Some q → p ≡ q → n ≡ m
    there p q h k e = one_message J n m p h (rw e k)

    here : (o r : Option ℕ) → taken J n ≡ o → taken J m ≡ r → is_some o ≡ true → is_some r ≡ true → unwrap_or o 0 ≡ unwrap_or r 0 → n ≡ m
    here (Some p) (Some q) f g h k e = there p q f g e
    here (Some p) None f g h k e = cc
    here None r f g h k e = cc

pub pending_taken : (day : Day) (J : History) (x : Item) → is_pending day J x ≡ true → is_some (taken J x.msg) ≡ true
unfolding is_pending
pending_taken day J x h = going_taken day J x.msg (pending_going (sort_of day x.msg) day J x.msg x.entry (phase day J x.msg) h)

same_parts : (n m k j : ℕ) → n ≡ m → k ≡ j → item n k ≡ item m j
same_parts n m k j e f = cc

same_item : (x y : Item) → x.msg ≡ y.msg → x.entry ≡ y.entry → x ≡ y
same_item x y e f = same_parts x.msg y.msg x.entry y.entry e f

pub places_differ : (day : Day) (J : History) → PlacesDiffer day J
places_differ day J x y h k active intake entry = same_item x y (same_intake J x.msg y.msg (pending_taken day J x h) (pending_taken day J y k) intake) entry
