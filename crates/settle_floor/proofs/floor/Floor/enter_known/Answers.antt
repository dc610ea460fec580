use Rattle.std.proofs.Common.{◌≡◌, ◌∙◌, sym, ap, subst, List, Some, is_some, length, ◌≤◌, arith}
use Rattle.commit_journal.specs.declared.line.Move.{Move}
use Rattle.commit_journal.specs.Line.{Line}
use Rattle.machine.specs.Legal.{IsLegal}
use Rattle.machine.specs.Making.Lines.{line_of}
use Rattle.commit_journal.specs.Kept.{MovesInRoom, pushed}
use Rattle.settlement_laws.specs.Fits.{Fits}
use Rattle.settle_floor.specs.Floors.{HasRoomFor, IsIndex, OnFloor, entries_left, messages_left}
use Rattle.rule_book.proofs.FewEntries.{few_entries}
use Rattle.rule_book.specs.Answering.{has_accounts}
use Rattle.machine.specs.Making.Wants.{message_of}
use Rattle.settle_floor.proofs.RoomFacts.{room_after}
use Rattle.settle_floor.proofs.Making.{asked_here, line_legal, room_for_line, room_for_moves, fits_after}
use Rattle.settle_floor.specs.Tills.{KeepsBalances}
use Rattle.settle_floor.proofs.floor.Floor.enter_known.Goals as goal

pub judge-requires-clause-room : goal.judge-requires-clause-room
judge-requires-clause-room g c =
    let few = few_entries c.at_work-desk.result.setting.now.day (message_of c.args.want) c.at_work-desk.result.setting.now.sound in
    let room = ap (λ (l : MovesInRoom). l.room) c.self.invariant in
    omega (arith, few, room)

pub judge-requires-clause-held : goal.judge-requires-clause-held
judge-requires-clause-held g c =
    ap (λ t. has_accounts (λ a. is_some (g.T.Holdings.holdings t a)) c.at_work-desk.result.setting.now.day c.args.want) c.at_work-desk.ensures.till
    ∙ ap (λ s. has_accounts (λ a. is_some (g.T.Holdings.holdings c.args.till.now a)) s.day c.args.want) c.at_work-desk.ensures.setting
    ∙ c.requires.held

pub push-requires-clause-legal : goal.push-requires-clause-legal
push-requires-clause-legal g c =
    let day = c.args.setting.now.day in
    let J = c.self.inside.lines.journal.history in
    let with_moves : List Move → Line = λ ms. record { head = c.in-Ok.head; moves = ms } in
    line_legal day J c.args.want (with_moves c.as_slice.result.now) (subst (λ (f : OnFloor). IsLegal day f.journal.history) (sym c.self.view_is) c.requires.opened.fits.legal)
    (subst (λ (ms : List Move). line_of day J c.args.want ≡ Some (with_moves ms)) (sym c.as_slice.ensures)
    (asked_here _ _ _ _ c.args.want _ c.at_work-desk.ensures.setting c.at_work-desk.ensures.journal c.in-Ok.ensures.answer.0))

pub push-requires-clause-room : goal.push-requires-clause-room
push-requires-clause-room g c =
    room_for_line c.args.setting.now.day c.args.setting.now.sound c.self.inside.lines.journal c.args.want _ (subst (λ (f : OnFloor). Fits c.args.setting.now.day f.journal) (sym c.self.view_is) c.requires.opened.fits)
    (asked_here _ _ _ _ c.args.want _ c.at_work-desk.ensures.setting c.at_work-desk.ensures.journal c.in-Ok.ensures.answer.0)

pub push-requires-clause-room_for_moves : goal.push-requires-clause-room_for_moves
push-requires-clause-room_for_moves g c =
    subst (λ ms. length ms ≤ c.self.inside.lines.journal.room_for_moves) (sym c.as_slice.ensures)
    (room_for_moves c.args.setting.now.day c.args.setting.now.sound c.self.inside.lines.journal c.args.want _ (subst (λ (f : OnFloor). Fits c.args.setting.now.day f.journal) (sym c.self.view_is) c.requires.opened.fits)
    (asked_here _ _ _ _ c.args.want _ c.at_work-desk.ensures.setting c.at_work-desk.ensures.journal c.in-Ok.ensures.answer.0))

pub returns-in-Ok-clause-opened : goal.returns-in-Ok-clause-opened
returns-in-Ok-clause-opened g c = record {
  fits = fits_after c.args.setting.now.day c.args.setting.now.sound c.self.inside.lines.journal c.args.want _ (subst (λ (f : OnFloor). Fits c.args.setting.now.day f.journal) (sym c.self.view_is) c.requires.opened.fits)
      (asked_here _ _ _ _ c.args.want _ c.at_work-desk.ensures.setting c.at_work-desk.ensures.journal c.in-Ok.ensures.answer.0) _ (c.push.ensures.journal ∙ ap (λ ms. pushed c.self.inside.lines.journal c.in-Ok.head ms) c.as_slice.ensures);
  index = c.push.ensures.index;
  room = room_after c.args.setting.now.day (messages_left c.args.setting.now.day) (entries_left c.args.setting.now.day) c.self.inside.lines c.push.new.self c.in-Ok.head _ (c.push.ensures.journal)
      (room_for_line c.args.setting.now.day c.args.setting.now.sound c.self.inside.lines.journal c.args.want _ (subst (λ (f : OnFloor). Fits c.args.setting.now.day f.journal) (sym c.self.view_is) c.requires.opened.fits)
      (asked_here _ _ _ _ c.args.want _ c.at_work-desk.ensures.setting c.at_work-desk.ensures.journal c.in-Ok.ensures.answer.0))
      (subst (λ ms. length ms ≤ c.self.inside.lines.journal.room_for_moves) (sym c.as_slice.ensures)
      (room_for_moves c.args.setting.now.day c.args.setting.now.sound c.self.inside.lines.journal c.args.want _ (subst (λ (f : OnFloor). Fits c.args.setting.now.day f.journal) (sym c.self.view_is) c.requires.opened.fits)
      (asked_here _ _ _ _ c.args.want _ c.at_work-desk.ensures.setting c.at_work-desk.ensures.journal c.in-Ok.ensures.answer.0)))
      c.push.ensures.places
      (subst (HasRoomFor c.args.setting.now.day (messages_left c.args.setting.now.day) (entries_left c.args.setting.now.day)) (sym c.self.view_is) c.requires.opened.room);
}

pub push-requires-clause-index : goal.push-requires-clause-index
push-requires-clause-index g c =
    subst (λ (f : OnFloor). IsIndex c.args.setting.now.day f.journal.history f.index) (sym c.self.view_is) c.requires.opened.index

pub at_work-desk-requires-clause-index : goal.at_work-desk-requires-clause-index
at_work-desk-requires-clause-index g c = subst (λ (f : OnFloor). IsIndex c.args.setting.now.day f.journal.history f.index) (sym c.self.view_is) c.requires.opened.index

pub at_work-desk-requires-clause-kept : goal.at_work-desk-requires-clause-kept
at_work-desk-requires-clause-kept g c =
    subst (λ (f : OnFloor). KeepsBalances (g.T.Holdings.holdings c.args.till.now) c.args.setting.now.day f.journal.history) (sym c.self.view_is) c.requires.kept
