-- The account that is swept is at hand.
use Rattle.std.proofs.Common.{◌≡◌, ℕ, Bool, true, false, List, [], ◌∷◌, Option, Some, None, refl}
use Rattle.std.specs.Prelude.{if◌then◌else◌, option_to_list}
use Rattle.std.specs.List.{list_all}
use Rattle.std.proofs.lemmas.Bool.{false≢true, and_parts}
use Rattle.batch_records.specs.DayRecord.{Day}
use Rattle.commit_journal.specs.declared.line.Want.TheVariants as wants
use Rattle.commit_journal.specs.Line.{History}
use Rattle.machine.specs.declared.answers.Why.{Why}
use Rattle.machine.specs.declared.answers.Why.TheVariants as whys
use Rattle.machine.specs.Words.{first_some, unless}
use Rattle.machine.specs.Records.Setup.{first_dca, is_sub_account, owner}
use Rattle.rule_book.specs.Answering.{has_accounts}
use Rattle.machine.specs.Making.Reasons.{over, why_not_sweep}

held_if : (held : ℕ → Bool) (a : ℕ) (others : List ℕ) (b : Bool) → b ≡ true → list_all held (if b then a ∷ others else []) ≡ true → held a ≡ true
held_if held a others true is h = (and_parts (held a) (list_all held others) h).0
held_if held a others false is h = absurd (false≢true is)

pub sub_held : (held : ℕ → Bool) (day : Day) (a : ℕ) → is_sub_account day a ≡ true → has_accounts held day (wants.Sweep a) ≡ true → held a ≡ true
sub_held held day a is h = held_if held a (option_to_list (first_dca day (owner day a))) (is_sub_account day a) is h

-- without a reason it is a sub-account
no_reason : (o : Option Why) (s : Bool) (x : Why) (rows : List (Option Why)) → first_some (o ∷ unless s x ∷ rows) ≡ None → s ≡ true
no_reason (Some w) s x rows h = cc
no_reason None true x rows h = refl
no_reason None false x rows h = cc

pub swept_is_sub : (day : Day) (J : History) (a : ℕ) → why_not_sweep day J a ≡ None → is_sub_account day a ≡ true
unfolding why_not_sweep
swept_is_sub day J a h = no_reason (over J) (is_sub_account day a) whys.NoSuch _ h
