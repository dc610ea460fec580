use Rattle.std.proofs.Common.{◌≡◌, ◌∙◌, ◌+◌, ℕ, List, Some, length, drop, suc, sym, ap, arith}
use Rattle.batch_records.specs.Versions.{most_messages}
use Rattle.commit_journal.specs.declared.line.Move.{Move}
use Rattle.commit_journal.specs.Kept.{Kept}
use Rattle.commit_journal.specs.Line.{Line}
use Rattle.commit_journal.specs.FieldGrammar.{Read}
use Rattle.commit_journal.specs.LineGrammar.{read_line}
use Rattle.commit_journal.proofs.ReadingLemmas.{rest_stands, rest_is}
use Rattle.journal_replay.proofs.Following.{few_so_far, next_differs, next_read, next_unread}
use Rattle.journal_replay.proofs.judging.follow_line.Goals as goal

pub overflow_add-place : goal.overflow_add-place
overflow_add-place c =
    let few = few_so_far c.args.setting.now.day c.args.setting.now.sound c.args.floor.now.journal.history c.requires.at_work.opened.fits.legal in
    let long = c.len-place.ensures ∙ ap (λ (j : Kept). length j.history) c.journal.ensures in
    omega (arith, few, long)

pub returns-in_default-clause-next : goal.returns-in_default-clause-next
returns-in_default-clause-next c =
    let long = c.len-place.ensures ∙ ap (λ (j : Kept). length j.history) c.journal.ensures in
    let place : suc (length c.args.floor.now.journal.history) ≡ c.len-place.result + 1 = omega (arith, long) in
    next_unread c.args.setting.now.day c.args.floor.now.journal.history c.args.text.now ((λ i. read_line (sym c.highest_message.ensures i) (place i) c.args.text.now) ∙ c.in_default.ensures.err.0)

pub slice_bounds-result-count : goal.slice_bounds-result-count
slice_bounds-result-count c =
    let few = few_so_far c.args.setting.now.day c.args.setting.now.sound c.args.floor.now.journal.history c.requires.at_work.opened.fits.legal in
    let long = c.len-place.ensures ∙ ap (λ (j : Kept). length j.history) c.journal.ensures in
    let stands = rest_stands c.highest_message.result (c.len-place.result + 1) c.args.text.now _ _ (omega (arith, few, long)) c.in-Ok.ensures.ok in
    let whole = stands.1 in
    let cut = c.in-Ok.ensures.length in
    omega (arith, whole, cut)

pub slice_bounds-result-start : goal.slice_bounds-result-start
slice_bounds-result-start c = slice_bounds-result-count c

pub returns-then-is_next-clause-next : goal.returns-then-is_next-clause-next
returns-then-is_next-clause-next c =
    let J = c.args.floor.now.journal.history in
    let few = few_so_far c.args.setting.now.day c.args.setting.now.sound J c.requires.at_work.opened.fits.legal in
    let long = c.len-place.ensures ∙ ap (λ (j : Kept). length j.history) c.journal.ensures in
    let place : suc (length J) ≡ c.len-place.result + 1 = omega (arith, long) in
    let l : Line = record { head = c.in-Ok.head; moves = c.as_slice.result.now } in
    let with : List Move → Read Line = λ moves. Some (record { head = c.in-Ok.head; moves = moves }, drop c.in-Ok.length c.args.text.now) in
    let read : read_line (most_messages c.args.setting.now.day.version) (suc (length J)) c.args.text.now ≡ Some (l, drop c.in-Ok.length c.args.text.now) = (λ i. read_line (sym c.highest_message.ensures i) (place i) c.args.text.now) ∙ c.in-Ok.ensures.ok ∙ ap with (sym c.as_slice.ensures) in
    let made = c.makes-is_next.ensures.made c.if-is_next.true in
    let next = next_read c.args.setting.now.day c.args.setting.now.sound J c.args.text.now l (drop c.in-Ok.length c.args.text.now) (c.requires.at_work.opened.fits.legal, made.0) (omega (arith, few)) read in
    let rest : List ℕ → Read Line = λ bytes. Some (l, bytes) in
    (l, next ∙ ap rest (sym (rest_is c.args.text.now c.in-Ok.length)), made.1, c.is_end.ensures)

pub returns-else-is_next-clause-next : goal.returns-else-is_next-clause-next
returns-else-is_next-clause-next c =
    let J = c.args.floor.now.journal.history in
    let long = c.len-place.ensures ∙ ap (λ (j : Kept). length j.history) c.journal.ensures in
    let place : suc (length J) ≡ c.len-place.result + 1 = omega (arith, long) in
    let l : Line = record { head = c.in-Ok.head; moves = c.as_slice.result.now } in
    let with : List Move → Read Line = λ moves. Some (record { head = c.in-Ok.head; moves = moves }, drop c.in-Ok.length c.args.text.now) in
    let read : read_line (most_messages c.args.setting.now.day.version) (suc (length J)) c.args.text.now ≡ Some (l, drop c.in-Ok.length c.args.text.now) = (λ i. read_line (sym c.highest_message.ensures i) (place i) c.args.text.now) ∙ c.in-Ok.ensures.ok ∙ ap with (sym c.as_slice.ensures) in
    next_differs c.args.setting.now.day c.args.setting.now.sound J c.args.text.now l _ c.requires.at_work.opened.fits.legal read (c.makes-is_next.ensures.other c.if-is_next.false)
