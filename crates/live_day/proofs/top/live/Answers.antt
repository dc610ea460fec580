use Rattle.std.proofs.Common.{◌∙◌, sym}
use Rattle.live_day.specs.Promises.{Resumes, Runs}
use Rattle.live_day.proofs.RunningFacts.{asks_none, asks_resume, asks_run, keeps_asked, keeps_none}
use Rattle.live_day.proofs.top.live.Goals as goal

pub returns-then-is_only : goal.returns-then-is_only
returns-then-is_only g c = keeps_asked c.args.words.now Runs _ (asks_run c.args.words.now (sym c.is_only.ensures ∙ c.if-is_only.true)) c.run.ensures

pub returns-then-is_only-2 : goal.returns-then-is_only-2
returns-then-is_only-2 g c = keeps_asked c.args.words.now Resumes _ (asks_resume c.args.words.now (sym c.is_only.ensures ∙ c.if-is_only.false) (sym c.is_only-2.ensures ∙ c.if-is_only-2.true)) c.resume.ensures

pub returns : goal.returns
returns g c = keeps_none c.args.words.now _ (asks_none c.args.words.now (sym c.is_only.ensures ∙ c.if-is_only.false) (sym c.is_only-2.ensures ∙ c.if-is_only-2.false)) c.refuse_words.ensures
