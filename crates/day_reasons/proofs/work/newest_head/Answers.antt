use Rattle.std.proofs.Common.{◌∙◌, ap, sym, subst}
use Rattle.std.proofs.Common.{◌≤◌, length}
use Rattle.commit_journal.specs.Kept.{Kept}
use Rattle.commit_journal.specs.Line.{Line}
use Rattle.settle_floor.proofs.Making.{newest}
use Rattle.day_reasons.proofs.work.newest_head.Goals as goal

pub line-requires-clause-from : goal.line-requires-clause-from
line-requires-clause-from c = subst (λ (n : _). 1 ≤ n) (sym (c.len.ensures ∙ ap (λ (j : Kept). length j.history) c.journal-journal.ensures)) c.requires

pub returns : goal.returns
returns c = λ l J e.
    let own : Line = record { head = c.line.result.0; moves = c.line.result.1.now } in
    ap (λ (x : Line). x.head) (sym (newest c.journal-journal.result.now.history J _ l own c.len.result (ap (λ (j : Kept). j.history) c.journal-journal.ensures ∙ e) c.len.ensures c.line.ensures))
