-- The machine's reasons are those with the rows that are alike put into one.
use Rattle.std.proofs.Common.{◌≡◌, ℕ, Bool, true, false, List, [], ◌∷◌, Option, Some, None, refl}
use Rattle.std.specs.Prelude.{option_map}
use Rattle.std.specs.Option.{option_map_or}
use Rattle.batch_records.specs.DayRecord.{Day}
use Rattle.commit_journal.specs.Line.{History}
use Rattle.machine.specs.declared.answers.Why.{Why}
use Rattle.machine.specs.declared.answers.Why.TheVariants as whys
use Rattle.machine.specs.Words.{first_some, unless}
use Rattle.machine.specs.Records.Messages.{sort_of, is_a_or_b}
use Rattle.machine.specs.Telling.History.{ended}
use Rattle.machine.specs.Stages.Phases.{phase, is_overdue, is_answered}
use Rattle.machine.specs.Making.Reasons.{over, untaken, other_phase, why_not_ask, why_not_cover, why_not_refuse}
use Rattle.guarantee_fund.specs.Reasons.{why_not_asked, why_not_paid, why_not_refused, is_refusable}

four_first : (a b c d : Option Why) (rows : List (Option Why)) → first_some (a ∷ b ∷ c ∷ d ∷ rows) ≡ first_some (first_some (a ∷ b ∷ c ∷ d ∷ []) ∷ rows)
four_first (Some w) b c d rows = refl
four_first None (Some w) c d rows = refl
four_first None None (Some w) d rows = refl
four_first None None None (Some w) rows = refl
four_first None None None None rows = refl

pub ask-is : (day : Day) (J : History) (n : ℕ) → why_not_ask day J n ≡ why_not_asked day J n
unfolding why_not_ask why_not_asked
ask-is day J n = four_first (over J) (unless (is_a_or_b (sort_of day n)) whys.NoSuch) (untaken J n) (other_phase day J n (is_overdue (phase day J n))) _

pub cover-is : (day : Day) (J : History) (n : ℕ) → why_not_cover day J n ≡ why_not_paid day J n
unfolding why_not_cover why_not_paid
cover-is day J n = four_first (over J) (unless (is_a_or_b (sort_of day n)) whys.NoSuch) (untaken J n) (other_phase day J n (is_answered (phase day J n))) _

pub refuse-is : (day : Day) (J : History) (n : ℕ) → why_not_refuse day J n ≡ why_not_refused day J n
unfolding why_not_refuse why_not_refused
refuse-is day J n = four_first (over J) (unless (is_a_or_b (sort_of day n)) whys.NoSuch) (untaken J n) (other_phase day J n (is_refusable day J n)) _

-- ---- a message that is no batch of A or B

no_such : (o : Option ℕ) (b : Bool) (u p a f : Option Why) → b ≡ false → first_some (option_map whys.Over o ∷ unless b whys.NoSuch ∷ u ∷ p ∷ a ∷ f ∷ []) ≡ Some (option_map_or whys.Over o whys.NoSuch)
no_such (Some place) b u p a f h = refl
no_such None true u p a f h = cc
no_such None false u p a f h = refl

pub no-batch : (day : Day) (J : History) (n : ℕ) → is_a_or_b (sort_of day n) ≡ false → why_not_cover day J n ≡ Some (option_map_or whys.Over (ended J) whys.NoSuch)
unfolding why_not_cover
no-batch day J n h = no_such (ended J) (is_a_or_b (sort_of day n)) _ _ _ _ h
