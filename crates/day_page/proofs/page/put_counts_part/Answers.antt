use Rattle.std.proofs.Common.{◌≡◌, ◌∙◌, ap, subst, sym}
use Rattle.commit_journal.specs.Line.{History}
use Rattle.commit_journal.specs.Histories.{oldest}
use Rattle.day_facts.specs.Facts.{StandsFor}
use Rattle.day_page.specs.CountTexts.{counts_text}
use Rattle.day_page.proofs.TextFacts.{same_put, whole}
use Rattle.day_page.proofs.page.put_counts_part.Goals as goal

pub invariant_of-past : goal.invariant_of-past
invariant_of-past g c =
    let H = c.args.journal.now.history in
    let all : oldest H c.len.result ≡ H = ap (oldest H) c.len.ensures ∙ whole H in
    record { stands = subst (λ (J : History). StandsFor c.args.setting.now.day J c.args.facts.now) (sym all) c.requires.stands }

pub returns : goal.returns
returns g c =
    let H = c.args.journal.now.history in
    let all : oldest H c.len.result ≡ H = ap (oldest H) c.len.ensures ∙ whole H in
    same_put _ _ _ _ _ (ap (counts_text c.args.setting.now.day c.args.request.now) all) c.put_counts.ensures
