use Rattle.std.proofs.Common.{subst, ap, ◌∙◌, List, ℕ}
use Rattle.outside_io.specs.Calls.{Puts}
use Rattle.as_client.specs.Knowing.{Known}
use Rattle.as_client.specs.KeptTexts.{report_kept}
use Rattle.as_client.proofs.ReportFacts.{report_is}
use Rattle.as_client.proofs.views.AsView.put_report.Goals as goal

pub returns-clause-kept : goal.returns-clause-kept
returns-clause-kept g c =
    let same = ap (λ (v : Known). report_kept c.args.day.now v c.args.count) c.self.view_is in
    subst (λ (text : List ℕ). Puts (g.S.Sink.state c.args.sink.now) (g.S.Sink.state c.put_kept.new.sink) text c.put_kept.result) same c.put_kept.ensures

pub returns-clause-report : goal.returns-clause-report
returns-clause-report g c name ss knows many =
    let day = c.args.day.now in
    let same = ap (λ (v : Known). report_kept day v c.args.count) c.self.view_is ∙ report_is day name ss c.args.self.now c.requires knows c.args.count many in
    subst (λ (text : List ℕ). Puts (g.S.Sink.state c.args.sink.now) (g.S.Sink.state c.put_kept.new.sink) text c.put_kept.result) same c.put_kept.ensures
