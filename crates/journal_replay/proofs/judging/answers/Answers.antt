use Rattle.std.proofs.Common.{◌≡◌, ◌∙◌, ◌∷◌, Some, is_some, sym, ap}
use Rattle.std.specs.Prelude.{is_none}
use Rattle.std.proofs.lemmas.Bool.{false≢true}
use Rattle.cash_amounts.specs.Numbers.{numbered}
use Rattle.commit_journal.specs.Kept.{Kept}
use Rattle.commit_journal.specs.Line.{Line}
use Rattle.commit_journal.specs.Histories.{oldest}
use Rattle.commit_journal.proofs.FieldLemmas.{some_is}
use Rattle.machine.specs.Making.Lines.{line_of}
use Rattle.settlement_laws.proofs.Wants.ReasonsMatchLines.{complement}
use Rattle.settle_floor.proofs.Appended.{at_work_still}
use Rattle.settle_floor.proofs.HeldFacts.{all_held}
use Rattle.settle_floor.proofs.Making.{newest}
use Rattle.journal_replay.proofs.judging.answers.Goals as goal

pub answer-requires-clause-held : goal.answer-requires-clause-held
answer-requires-clause-held c = all_held (λ a. is_some (numbered c.args.till.now a)) c.args.setting.now.day c.requires.at_work.all c.want_of.result

pub returns-in-Ok-clause-made : goal.returns-in-Ok-clause-made
returns-in-Ok-clause-made c = λ alike.
    let made = c.in-Ok.ensures.answered in
    let day = c.args.setting.now.day in
    let past = c.args.floor.now.journal.history in
    let own : Line = record { head = c.line.result.0; moves = c.line.result.1.now } in
    let mine : Line = record { head = c.args.head; moves = c.args.moves.now } in
    let newest : made.0 ≡ own = newest c.answer.new.self.journal.history past _ made.0 own c.in-Ok.place made.2 made.3 (ap (λ (j : Kept). oldest j.history c.in-Ok.place) (sym c.journal.ensures) ∙ c.line.ensures) in
    let same : made.0 ≡ mine = newest ∙ c.same_line.ensures.same alike in
    (ap (line_of day past) (sym c.want_of.ensures) ∙ made.1 ∙ ap (λ (l : Line). Some l) same, made.2 ∙ ap (λ (l : Line). l ∷ past) same)

pub returns-in-Ok-clause-other : goal.returns-in-Ok-clause-other
returns-in-Ok-clause-other c = λ apart e.
    let made = c.in-Ok.ensures.answered in
    let own : Line = record { head = c.line.result.0; moves = c.line.result.1.now } in
    let mine : Line = record { head = c.args.head; moves = c.args.moves.now } in
    let again : line_of c.args.setting.now.day c.args.floor.now.journal.history c.want_of.result ≡ Some mine = ap (line_of c.args.setting.now.day c.args.floor.now.journal.history) c.want_of.ensures ∙ e in
    let newest : made.0 ≡ own = newest c.answer.new.self.journal.history c.args.floor.now.journal.history _ made.0 own c.in-Ok.place made.2 made.3 (ap (λ (j : Kept). oldest j.history c.in-Ok.place) (sym c.journal.ensures) ∙ c.line.ensures) in
    let same : own ≡ mine = sym newest ∙ some_is _ _ (sym made.1 ∙ again) in
    c.same_line.ensures.apart apart same

pub returns-in-Err-clause-other : goal.returns-in-Err-clause-other
returns-in-Err-clause-other c = λ none e.
    let again = ap (line_of c.args.setting.now.day c.args.floor.now.journal.history) c.want_of.ensures ∙ e in
    let why = c.in-Err.ensures.answered.0 in
    false≢true (sym (ap is_none again) ∙ sym (complement c.args.setting.now.day c.args.floor.now.journal.history c.want_of.result) ∙ ap is_some why)

pub returns-in-Ok-clause-at_work : goal.returns-in-Ok-clause-at_work
returns-in-Ok-clause-at_work c =
    at_work_still c.args.setting.now.day c.args.floor.now c.answer.new.self (numbered c.args.till.now) (numbered c.answer.new.till) c.requires.at_work c.answer.ensures.opened c.answer.ensures.kept c.answer.ensures.same

pub returns-in-Err-clause-at_work : goal.returns-in-Err-clause-at_work
returns-in-Err-clause-at_work c =
    at_work_still c.args.setting.now.day c.args.floor.now c.answer.new.self (numbered c.args.till.now) (numbered c.answer.new.till) c.requires.at_work c.answer.ensures.opened c.answer.ensures.kept c.answer.ensures.same
