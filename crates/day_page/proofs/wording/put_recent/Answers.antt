use Rattle.std.proofs.Common.{◌∙◌, ◌+◌, ◌-◌, ◌≤◌, ◌++◌, ℕ, List, [], ap, arith, sym}
use Rattle.std.proofs.lemmas.List.{append_assoc}
use Rattle.outside_io.proofs.PutLemmas.{has_put_is, has_put_more, has_put_none, puts_all, puts_front}
use Rattle.commit_journal.specs.Line.{Line}
use Rattle.commit_journal.specs.Histories.{oldest}
use Rattle.day_page.specs.LineTexts.{recent_part, recent_text}
use Rattle.day_page.proofs.RecentFacts.{recent_all, recent_next, recent_none}
use Rattle.day_page.proofs.wording.put_recent.Goals as goal

pub loop-done-init : goal.loop-done-init
loop-done-init g c = ([], has_put_none _, recent_all c.args.setting.now.day c.args.request.now c.args.most c.len-count.result c.args.journal.now.history c.len-count.ensures)

pub returns-in_err-put_recent_line : goal.returns-in_err-put_recent_line
returns-in_err-put_recent_line g c =
    let day = c.args.setting.now.day in
    let H = c.args.journal.now.history in
    let l : Line = record { head = c.line.result.0; moves = c.line.result.1.now } in
    let known = c.loop-done.invariant in
    let next = recent_next day c.args.request.now c.loop-done.budget c.len-count.result c.loop-done.done l H c.len-count.ensures (omega arith) c.line.ensures in
    puts_front _ _ _ known.0 _ _ _ _ _ c.from_residual.ensures.0 (ap (λ (t : List ℕ). known.0 ++ t) (sym next) ∙ known.2) known.1 c.in_err-put_recent_line.ensures

pub loop-done-preserved : goal.loop-done-preserved
loop-done-preserved g c =
    let day = c.args.setting.now.day in
    let H = c.args.journal.now.history in
    let l : Line = record { head = c.line.result.0; moves = c.line.result.1.now } in
    let known = c.loop-done.invariant in
    let part : List ℕ = recent_part day c.args.request.now c.loop-done.budget (c.len-count.result - c.loop-done.done) l in
    let next = recent_next day c.args.request.now c.loop-done.budget c.len-count.result c.loop-done.done l H c.len-count.ensures (omega arith) c.line.ensures in
    let left : ℕ → List ℕ = λ b. recent_text day c.args.request.now b (oldest H (c.len-count.result - (c.loop-done.done + 1))) in (
      known.0 ++ part,
      has_put_more _ _ _ _ _ _ known.1 c.in_ok-put_recent_line.ensures,
      append_assoc known.0 part _ ∙ ap (λ (b : ℕ). known.0 ++ (part ++ left b)) c.budget_after-budget.ensures ∙ ap (λ (t : List ℕ). known.0 ++ t) (sym next) ∙ known.2,
    )

pub returns : goal.returns
returns g c =
    let known = c.loop-done.invariant in
    let past : c.len-count.result ≤ c.loop-done.done = omega arith in
    puts_all _ _ _ tt (has_put_is _ _ _ _ (sym (recent_none c.args.setting.now.day c.args.request.now c.loop-done.budget c.len-count.result c.loop-done.done c.args.journal.now.history known.0 past) ∙ known.2) known.1)
