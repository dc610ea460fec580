use Rattle.std.proofs.Common.{◌≡◌, ◌∙◌, ◌+◌, [], ◌∷◌, arith}
use Rattle.std.proofs.lemmas.List.Sums.{sum_by-cons}
use Rattle.machine.specs.Telling.Balances.{balance}
use Rattle.day_page.specs.Courses.{highest, lowest, total}
use Rattle.day_page.proofs.RunningFacts.{none_held}
use Rattle.day_page.proofs.extents.opened.Goals as goal

pub returns : goal.returns
unfolding lowest highest
returns c =
    let day = c.args.setting.now.day in
    let a = c.args.a in
    let one : total day (a ∷ []) [] ≡ balance day [] a + total day [] [] = sum_by-cons (balance day []) a [] in
    let held : c.from-held.result ≡ balance day [] a = c.from-held.ensures ∙ c.opening.ensures.value ∙ none_held day a in
    let all : c.from-held.result ≡ total day (a ∷ []) [] = omega (arith, one, held) in
    λ i. record { held = all i; lowest = all i; highest = all i }
