use Rattle.std.proofs.Common.{◌≡◌, ◌∙◌, ◌+◌, ◌∷◌, ◌≤◌, ℕ, List, Some, length, drop, suc, sym, ap, arith, subst}
use Rattle.commit_journal.specs.declared.line.Move.{Move}
use Rattle.commit_journal.specs.Kept.{Kept, pushed}
use Rattle.commit_journal.specs.Line.{History, Line}
use Rattle.commit_journal.specs.FieldGrammar.{Read}
use Rattle.commit_journal.proofs.ReadingLemmas.{rest_is, rest_stands}
use Rattle.machine.specs.Legal.{want_of}
use Rattle.settle_floor.proofs.Making.{fits_after, room_for_line, room_for_moves}
use Rattle.journal_replay.proofs.Following.{few_so_far}
use Rattle.journal_reading.proofs.ReadingLaws.{never_unread, read_is}
use Rattle.journal_reading.proofs.reading.read_next.Goals as goal

pub overflow_add-place : goal.overflow_add-place
overflow_add-place c =
    let few = few_so_far c.args.setting.now.day c.args.setting.now.sound c.args.journal.now.history c.requires.fits.legal in
    omega (arith, few, c.len-place.ensures)

pub push-requires-clause-room : goal.push-requires-clause-room
push-requires-clause-room c =
    let day = c.args.setting.now.day in
    let J = c.args.journal.now.history in
    let l : Line = record { head = c.in-Ok.head; moves = c.read_line.new.moves.moves } in
    let place : c.len-place.result + 1 ≡ suc (length J) = omega (arith, c.len-place.ensures) in
    let is = read_is day J c.args.text.now c.highest_message.result (c.len-place.result + 1) l (drop c.in-Ok.length c.args.text.now) c.args.setting.now.sound c.requires.fits.legal c.requires.there c.highest_message.ensures place c.in-Ok.ensures.ok in
    room_for_line day c.args.setting.now.sound c.args.journal.now (want_of l) l c.requires.fits is.legal.1

pub push-requires-clause-room_for_moves : goal.push-requires-clause-room_for_moves
push-requires-clause-room_for_moves c =
    let day = c.args.setting.now.day in
    let J = c.args.journal.now.history in
    let l : Line = record { head = c.in-Ok.head; moves = c.read_line.new.moves.moves } in
    let place : c.len-place.result + 1 ≡ suc (length J) = omega (arith, c.len-place.ensures) in
    let is = read_is day J c.args.text.now c.highest_message.result (c.len-place.result + 1) l (drop c.in-Ok.length c.args.text.now) c.args.setting.now.sound c.requires.fits.legal c.requires.there c.highest_message.ensures place c.in-Ok.ensures.ok in
    subst (λ (ms : List Move). length ms ≤ c.args.journal.now.room_for_moves) (sym c.as_slice.ensures) (room_for_moves day c.args.setting.now.sound c.args.journal.now (want_of l) l c.requires.fits is.legal.1)

pub unreachable-requires : goal.unreachable-requires
unreachable-requires c =
    let J = c.args.journal.now.history in
    let place : c.len-place.result + 1 ≡ suc (length J) = omega (arith, c.len-place.ensures) in
    never_unread c.args.setting.now.day J c.args.text.now c.highest_message.result (c.len-place.result + 1) c.args.setting.now.sound c.requires.fits.legal c.requires.there c.highest_message.ensures place c.in-Err.ensures.err.0

pub slice_bounds-result-count : goal.slice_bounds-result-count
slice_bounds-result-count c =
    let few = few_so_far c.args.setting.now.day c.args.setting.now.sound c.args.journal.now.history c.requires.fits.legal in
    let stands = rest_stands c.highest_message.result (c.len-place.result + 1) c.args.text.now _ _ (omega (arith, few, c.len-place.ensures)) c.in-Ok.ensures.ok in
    let whole = stands.1 in
    let cut = c.in-Ok.ensures.length in
    omega (arith, whole, cut)

pub slice_bounds-result-start : goal.slice_bounds-result-start
slice_bounds-result-start c = slice_bounds-result-count c

pub returns-clause-next : goal.returns-clause-next
returns-clause-next c =
    let J = c.args.journal.now.history in
    let l : Line = record { head = c.in-Ok.head; moves = c.read_line.new.moves.moves } in
    let place : c.len-place.result + 1 ≡ suc (length J) = omega (arith, c.len-place.ensures) in
    let is = read_is c.args.setting.now.day J c.args.text.now c.highest_message.result (c.len-place.result + 1) l (drop c.in-Ok.length c.args.text.now) c.args.setting.now.sound c.requires.fits.legal c.requires.there c.highest_message.ensures place c.in-Ok.ensures.ok in
    let rest : List ℕ → Read Line = λ bytes. Some (l, bytes) in
    let with : List Move → History = λ moves. record { head = c.in-Ok.head; moves = moves } ∷ J in
    (l, is.next ∙ ap rest (sym (rest_is c.args.text.now c.in-Ok.length)), ap (λ (k : Kept). k.history) c.push.ensures ∙ ap with c.as_slice.ensures)

pub returns-clause-fits : goal.returns-clause-fits
returns-clause-fits c =
    let day = c.args.setting.now.day in
    let J = c.args.journal.now.history in
    let l : Line = record { head = c.in-Ok.head; moves = c.read_line.new.moves.moves } in
    let place : c.len-place.result + 1 ≡ suc (length J) = omega (arith, c.len-place.ensures) in
    let is = read_is day J c.args.text.now c.highest_message.result (c.len-place.result + 1) l (drop c.in-Ok.length c.args.text.now) c.args.setting.now.sound c.requires.fits.legal c.requires.there c.highest_message.ensures place c.in-Ok.ensures.ok in
    fits_after day c.args.setting.now.sound c.args.journal.now (want_of l) l c.requires.fits is.legal.1 c.push.new.self (c.push.ensures ∙ ap (pushed c.args.journal.now c.in-Ok.head) c.as_slice.ensures)
