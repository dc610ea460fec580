use Rattle.std.proofs.Common.{◌∙◌, Bool, List, ℕ, [], ap, sym}
use Rattle.std.specs.Prelude.{if◌then◌else◌}
use Rattle.outside_io.proofs.PutLemmas.{has_put_none, puts_all}
use Rattle.commit_journal.specs.Histories.{oldest}
use Rattle.liquidity_view.proofs.Texts.{same_put}
use Rattle.liquidity_view.specs.Figures.{figures}
use Rattle.liquidity_view.specs.Viewed.{figures_text}
use Rattle.liquidity_view.proofs.report.put_at.Goals as goal

pub returns-then-is_asked : goal.returns-then-is_asked
returns-then-is_asked g c =
    let day = c.args.setting.now.day in
    let J = oldest c.args.journal.now.history c.args.place in
    let text : List ℕ = figures_text c.args.place (figures day c.args.request.now.name J) in
    same_put _ _ _ _ _
    (ap (figures_text c.args.place) (c.figures.ensures day J c.requires.stands ∙ ap (λ (name : List ℕ). figures day name J) c.requires.name)
    ∙ ap (λ (b : Bool). if b then text else []) (sym (sym c.is_asked.ensures ∙ c.if-is_asked.true)))
    c.put_figures.ensures

pub returns-else-is_asked : goal.returns-else-is_asked
returns-else-is_asked g c =
    let text : List ℕ = figures_text c.args.place (figures c.args.setting.now.day c.args.request.now.name (oldest c.args.journal.now.history c.args.place)) in
    same_put _ _ _ _ _ (ap (λ (b : Bool). if b then text else []) (sym (sym c.is_asked.ensures ∙ c.if-is_asked.false))) (puts_all _ _ [] tt (has_put_none _))
