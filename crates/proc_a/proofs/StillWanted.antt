-- What is unfinished of a batch of A.
use Rattle.std.proofs.Common.{◌≡◌, ℕ, true, List, ◌∷◌, [], Option, Some, None, refl, ap, ◌∙◌}
use Rattle.std.specs.Prelude.{option_map}
use Rattle.std.specs.List.{find}
use Rattle.batch_records.specs.DayRecord.{Day}
use Rattle.commit_journal.specs.declared.line.Want.{Want}
use Rattle.commit_journal.specs.declared.line.Want.TheVariants as wants
use Rattle.commit_journal.specs.Line.{History}
use Rattle.machine.specs.Words.{first_some, when}
use Rattle.machine.specs.Records.Messages.{sort_of, is_a, is_b, item_numbers}
use Rattle.machine.specs.Making.Lines.{may_book, may_expire}
use Rattle.machine.specs.Orders.Hints.{unfinished}
use Rattle.proc_a.specs.Reasons.{next_want}
use Rattle.machine.proofs.SortFacts.{a_is}
use Rattle.settlement_laws.proofs.Wants.Answering.{not_whole}

without_none : (o : Option Want) (rows : List (Option Want)) → first_some (o ∷ None ∷ rows) ≡ first_some (o ∷ rows)
without_none None rows = refl
without_none (Some w) rows = refl

pub unfinished-is : (day : Day) (J : History) (n : ℕ) → is_a (sort_of day n) ≡ true → unfinished day J n ≡ next_want day J n
unfolding next_want
unfinished-is day J n a =
    ap (λ b. first_some (option_map (wants.Book n) (find (may_book day J n) (item_numbers day n)) ∷ when b (wants.All n) ∷ when (may_expire day J n) (wants.Expire n) ∷ [])) (not_whole day J n (ap is_b (a_is (sort_of day n) a)))
    ∙ without_none (option_map (wants.Book n) (find (may_book day J n) (item_numbers day n))) (when (may_expire day J n) (wants.Expire n) ∷ [])
