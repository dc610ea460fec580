use Rattle.std.proofs.Common.{◌≡◌, ◌∙◌, ◌+◌, [], ◌∷◌, arith}
use Rattle.std.proofs.lemmas.List.Sums.{sum_by-cons}
use Rattle.machine.specs.Telling.Balances.{balance}
use Rattle.day_page.specs.Courses.{total}
use Rattle.day_page.proofs.courses.course_of.Goals as goal

pub returns : goal.returns
returns c = λ J e.
    let day = c.args.setting.now.day in
    let a = c.args.account in
    let one : total day (a ∷ []) [] ≡ balance day [] a + total day [] [] = sum_by-cons (balance day []) a [] in
    let held : c.from.result ≡ balance day [] a = c.from.ensures ∙ c.held_first.ensures in
    let opening : c.from.result ≡ total day (a ∷ []) [] = omega (arith, one, held) in
    λ i. record { account = a; opening = opening i; lowest = (e i).lowest; highest = (e i).highest; closing = (e i).held }
