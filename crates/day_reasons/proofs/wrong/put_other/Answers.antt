use Rattle.std.proofs.Common.{◌≡◌, ◌∙◌, ap, arith, length, sym}
use Rattle.commit_journal.specs.Kept.{Kept}
use Rattle.commit_journal.specs.Line.{Line}
use Rattle.commit_journal.specs.Text.{line_text}
use Rattle.outside_io.proofs.PutLemmas.{puts_first, puts_then}
use Rattle.settle_floor.proofs.Making.{newest}
use Rattle.day_reasons.proofs.PutFacts.{same_put}
use Rattle.day_reasons.proofs.wrong.put_other.Goals as goal

pub line-requires-clause-to : goal.line-requires-clause-to
line-requires-clause-to g c =
    let same = c.requires.at ∙ sym (ap (λ (j : Kept). length j.history) c.journal.ensures) in
    omega (arith, same)

pub returns-in_err-put_word : goal.returns-in_err-put_word
returns-in_err-put_word g c = λ l J e. puts_first _ _ _ _ _ _ c.from_residual.ensures.0 c.in_err-put_word.ensures

pub returns : goal.returns
returns g c = λ l J e.
    let own : Line = record { head = c.line.result.0; moves = c.line.result.1.now } in
    let same : l ≡ own = newest c.journal.result.now.history J _ l own c.args.place (ap (λ (j : Kept). j.history) c.journal.ensures ∙ e) (c.requires.at ∙ sym (ap (λ (j : Kept). length j.history) c.journal.ensures)) c.line.ensures in
    puts_then _ _ _ _ _ _ _ c.in_ok-put_word.ensures (same_put _ _ _ _ _ (ap (line_text c.args.place) (sym same)) c.put_line.ensures)
