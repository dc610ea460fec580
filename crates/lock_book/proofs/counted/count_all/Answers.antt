use Rattle.std.proofs.Common.{◌+◌, ℕ, length, sym, ap, subst, ◌∙◌, arith}
use Rattle.commit_journal.specs.Line.{History}
use Rattle.commit_journal.specs.Histories.{Begins, oldest}
use Rattle.journal_pass.specs.Known.{Told, told_lines}
use Rattle.lock_book.proofs.Catching.{begins-oldest, length_oldest, oldest-begins, oldest-over}
use Rattle.lock_book.proofs.counted.count_all.Goals as goal

pub loop-place-init : goal.loop-place-init
loop-place-init c =
    let J = c.args.journal.now.history in
    ap (told_lines c.args.teller.now) (sym (oldest-begins c.args.teller.now.lines J c.requires.begins) ∙ ap (oldest J) (sym c.requires.counted))

pub count-requires-clause-table : goal.count-requires-clause-table
count-requires-clause-table c = ap (λ (t : Told). t.table) c.loop-place.invariant ∙ c.requires.table

pub count-requires-clause-begins : goal.count-requires-clause-begins
count-requires-clause-begins c =
    let J = c.args.journal.now.history in
    subst (λ (P : History). Begins P J) (sym (ap (λ (t : Told). t.lines) c.loop-place.invariant)) (begins-oldest J c.loop-place._place)

pub count-requires-clause-behind : goal.count-requires-clause-behind
count-requires-clause-behind c =
    let J = c.args.journal.now.history in
    let lines = ap length (ap (λ (t : Told). t.lines) c.loop-place.invariant) in
    let test = c.loop-place-test.true in
    let end = c.len-place-end.ensures in
    let count = length_oldest J c.loop-place._place (omega (arith, test, end)) in
    omega (arith, test, end, lines, count)

pub loop-place-preserved : goal.loop-place-preserved
loop-place-preserved c =
    let J = c.args.journal.now.history in
    let test = c.loop-place-test.true in
    let end = c.len-place-end.ensures in
    let count = length_oldest J c.loop-place._place (omega (arith, test, end)) in
    let was = c.loop-place.invariant in
    c.count.ensures ∙ (λ j. told_lines (was j) (oldest J (length ((was j).lines) + 1))) ∙ ap (λ (n : ℕ). told_lines c.args.teller.now (oldest J (n + 1))) count

pub returns : goal.returns
returns c =
    let J = c.args.journal.now.history in
    let test = c.loop-place-test.false in
    let end = c.len-place-end.ensures in
    c.loop-place.invariant ∙ ap (told_lines c.args.teller.now) (oldest-over J c.loop-place._place (omega (arith, test, end)))
