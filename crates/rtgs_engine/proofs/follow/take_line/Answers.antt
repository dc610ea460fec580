use Rattle.std.proofs.Common.{◌∙◌, List, ℕ, ap}
use Rattle.status_messages.specs.StatusGrammar.{most_told}
use Rattle.as_client.specs.Views.{addressed}
use Rattle.rtgs_engine.proofs.FollowFacts.{line_passed, line_refused, line_taken, told_to, took_well}
use Rattle.rtgs_engine.proofs.follow.take_line.Goals as goal

pub take-requires : goal.take-requires
take-requires c = told_to (most_told c.args.day.now.version) c.args.view.now.name c.args.line.now c.in-Some.status c.in-Some.ensures

pub returns-in-Ok-clause-takes : goal.returns-in-Ok-clause-takes
returns-in-Ok-clause-takes c = λ ss knows.
    let at = c.in-Some.ensures ∙ ap (λ (n : List ℕ). addressed (most_told c.args.day.now.version) n c.args.line.now) c.requires.knows.1.name in
    let now = c.in-Ok.ensures.told c.args.day.now c.args.name.now ss knows in
    line_taken c.args.day.now c.args.name.now ss c.args.line.now _ c.in-Some.status at (took_well c.args.day.now c.args.name.now ss c.in-Some.status _ now) now

pub returns-in-Err-clause-takes : goal.returns-in-Err-clause-takes
returns-in-Err-clause-takes c = λ ss knows.
    let at = c.in-Some.ensures ∙ ap (λ (n : List ℕ). addressed (most_told c.args.day.now.version) n c.args.line.now) c.requires.knows.1.name in
    line_refused c.args.day.now c.args.name.now ss c.args.line.now c.in-Some.status _ at (c.in-Err.ensures.told c.args.day.now c.args.name.now ss knows)

pub returns-in-None-clause-takes : goal.returns-in-None-clause-takes
returns-in-None-clause-takes c = λ ss knows.
    let at = c.in-None.ensures ∙ ap (λ (n : List ℕ). addressed (most_told c.args.day.now.version) n c.args.line.now) c.requires.knows.1.name in
    line_passed c.args.day.now c.args.name.now ss c.args.line.now _ at knows
