use Rattle.std.proofs.Common.{◌∙◌, ◌-◌, ap}
use Rattle.commit_journal.specs.Line.{Line}
use Rattle.commit_journal.specs.Histories.{oldest}
use Rattle.day_page.specs.declared.courses.Running.{Running}
use Rattle.day_page.proofs.RunningFacts.{run_more}
use Rattle.day_page.proofs.courses.step.Goals as goal

pub held_after-held-requires-clause-before : goal.held_after-held-requires-clause-before
held_after-held-requires-clause-before c = ap (λ (r : Running). r.held) c.requires.before

pub returns : goal.returns
returns c =
    let H = c.args.journal.now.history in
    let l : Line = record { head = c.line.result.0; moves = c.line.result.1.now } in
    (λ i. record { clock = c.clock_after.result; held = c.held_after-held.result; lowest = c.min.ensures i; highest = c.max.ensures i })
    ∙ run_more c.args.setting.now.day c.args.members.now l (oldest H c.args.place) (oldest H (c.args.place - 1)) c.args.before _ _ c.line.ensures c.requires.before c.clock_after.ensures c.held_after-held.ensures
