use Rattle.std.proofs.Common.{◌∙◌, ◌||◌, ◌≡◌, ◌<◌, ap, arith, length, subst, sym}
use Rattle.number_set.specs.Members.{has}
use Rattle.commit_journal.specs.Line.{Line}
use Rattle.commit_journal.specs.Histories.{oldest}
use Rattle.day_facts.specs.Room.{HasRoom}
use Rattle.status_messages.specs.LineTexts.{is_informed, is_settled_in, line_text, objected_batch, subject_of}
use Rattle.status_messages.specs.Walks.{Walk}
use Rattle.status_messages.proofs.Entered.{made_empty, made_long}
use Rattle.status_messages.proofs.Saying.{legal_oldest, on_any, said, same_put}
use Rattle.status_messages.proofs.walk.StatusWalk.say.Goals as goal

pub note_at-requires-clause-legal : goal.note_at-requires-clause-legal
note_at-requires-clause-legal g c = legal_oldest c.args.setting.now.day c.args.journal.now.history c.args.place c.requires.legal

pub enter_informed-requires : goal.enter_informed-requires
enter_informed-requires g c = subst (λ (w : Walk). length c.args.setting.now.day.accounts < length w.banks) (sym c.self.view_is) c.requires.stands.accounts

pub returns-clause-texts : goal.returns-clause-texts
returns-clause-texts g c =
    let day = c.args.setting.now.day in
    let H = c.args.journal.now.history in
    let l : Line = record { head = c.line.result.0; moves = c.line.result.1.now } in
    let b = c.told_before-b.result.0 in
    let before = c.told_before-b.result.1 in
    let first = c.up_to.ensures in
    let last = c.up_to-lines.ensures in
    let long : length day.accounts < length c.self.inside.banks = subst (λ (w : Walk). length day.accounts < length w.banks) (sym c.self.view_is) c.requires.stands.accounts in
    let same : length c.enter_informed.new.banks ≡ length c.self.inside.banks = c.enter_informed.ensures.length in
    same_put _ _ _ _ _
    ((λ i. line_text (last.setting i).day (oldest (last.journal i).history (last.place i)) (last.place i) l.head l.moves c.enter_informed.new.banks b before)
    ∙ said day H c.args.place l c.enter_informed.new.banks b before c.requires.legal c.requires.from c.requires.to c.line.ensures
    (omega (arith, long, same))
    (λ a. c.enter_informed.ensures.each a ∙ ap (λ h. h || is_informed day l.head a) (ap (λ (w : Walk). has w.banks a) c.self.view_is ∙ c.requires.stands.banks a))
    (c.told_before-b.ensures.batch ∙ (λ i. objected_batch (first.setting i).day l.head))
    (c.told_before-b.ensures.settled ∙ (λ i. is_settled_in (first.setting i).day (oldest (first.journal i).history (first.place i)) (subject_of b l.head.msg))))
    c.put_line-said.ensures

pub returns-clause-stands : goal.returns-clause-stands
returns-clause-stands g c =
    let day = c.args.setting.now.day in
    let bound = length c.enter_informed.new.banks in
    let long : length day.accounts < length c.self.inside.banks = subst (λ (w : Walk). length day.accounts < length w.banks) (sym c.self.view_is) c.requires.stands.accounts in
    let same : bound ≡ length c.self.inside.banks = c.enter_informed.ensures.length in
    on_any c.put_line-said.result _ (record {
      facts = c.note_at.ensures.stands;
      banks = made_empty _ bound c.clear.ensures;
      accounts = made_long _ bound (length day.accounts) c.clear.ensures (omega (arith, long, same));
    })

pub returns-clause-room : goal.returns-clause-room
returns-clause-room g c = λ messages more room. c.note_at.ensures.room messages more (subst (λ (w : Walk). HasRoom messages more w.facts) (sym c.self.view_is) room)
