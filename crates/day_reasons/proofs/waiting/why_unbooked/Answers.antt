use Rattle.std.proofs.Common.{◌≡◌, ◌∙◌, ℕ, true, ap, sym, subst, arith}
use Rattle.commit_journal.specs.declared.line.Want.TheVariants as wants
use Rattle.commit_journal.specs.Kept.{MovesInRoom}
use Rattle.machine.specs.Making.Reasons.{why_not_book}
use Rattle.machine.specs.Records.Messages.{is_pay, sort_of}
use Rattle.rule_book.specs.Answering.{IsAnswer}
use Rattle.rule_book.proofs.FewEntries.{few_entries}
use Rattle.settle_floor.proofs.HeldFacts.{all_held}
use Rattle.settle_floor.proofs.PaymentFacts.{book-why}
use Rattle.day_reasons.proofs.Settling.{books_whole, tested}
use Rattle.day_reasons.proofs.waiting.why_unbooked.Goals as goal

pub why_unpaid-requires-clause-held : goal.why_unpaid-requires-clause-held
why_unpaid-requires-clause-held g c = all_held (g.D.Desk.held c.args.desk.now) (g.D.Desk.day c.args.desk.now) c.requires.all (wants.Book c.args.n 0)

pub returns-then-is_pay-clause-reason : goal.returns-then-is_pay-clause-reason
returns-then-is_pay-clause-reason g c =
    let day = g.D.Desk.day c.args.desk.now in
    let J = g.D.Desk.past c.args.desk.now in
    let pay : is_pay (sort_of day c.args.n) ≡ true = tested is_pay _ day c.args.n _ _ c.is_pay.ensures c.if-is_pay.true c.setting.ensures in
    let zero : c.args.k ≡ 0 = books_whole (sort_of day c.args.n) c.args.k c.requires.books pay in
    c.why_unpaid.ensures ∙ sym (book-why day J c.args.n pay) ∙ ap (λ (k : ℕ). why_not_book day J c.args.n k) (sym zero)

pub judge_entry-judged-requires-clause-held : goal.judge_entry-judged-requires-clause-held
judge_entry-judged-requires-clause-held g c = all_held (g.D.Desk.held c.args.desk.now) (g.D.Desk.day c.args.desk.now) c.requires.all (wants.Book c.args.n c.args.k)

pub judge_entry-judged-requires-clause-empty : goal.judge_entry-judged-requires-clause-empty
judge_entry-judged-requires-clause-empty g c = ap (λ (m : MovesInRoom). m.moves) c.requires.moves

pub judge_entry-judged-requires-clause-room : goal.judge_entry-judged-requires-clause-room
judge_entry-judged-requires-clause-room g c =
    let few = few_entries (g.D.Desk.day c.args.desk.now) c.args.n (g.D.Desk.sound c.args.desk.now) in
    let room = ap (λ (m : MovesInRoom). m.room) c.requires.moves in
    omega (arith, few, room)

pub returns-clause-reason : goal.returns-clause-reason
returns-clause-reason g c =
    let day = g.D.Desk.day c.args.desk.now in
    let J = g.D.Desk.past c.args.desk.now in
    let want = wants.Book c.args.n c.args.k in
    c.reason_in.ensures.reason day J want (subst (λ (m : MovesInRoom). IsAnswer day J want m c.judge_entry-judged.new.moves c.judge_entry-judged.result) c.requires.moves c.judge_entry-judged.ensures)

pub returns-clause-moves : goal.returns-clause-moves
returns-clause-moves g c =
    let day = g.D.Desk.day c.args.desk.now in
    let J = g.D.Desk.past c.args.desk.now in
    let want = wants.Book c.args.n c.args.k in
    c.reason_in.ensures.moves day J want (subst (λ (m : MovesInRoom). IsAnswer day J want m c.judge_entry-judged.new.moves c.judge_entry-judged.result) c.requires.moves c.judge_entry-judged.ensures)
