use Rattle.std.proofs.Common.{◌≡◌, ◌∙◌, ◌+◌, ◌∷◌, [], ℕ, length, suc, ap, subst, sym, arith}
use Rattle.std.specs.Prelude.{codes}
use Rattle.commit_journal.specs.Kept.{Kept}
use Rattle.outside_io.specs.TextLine.{text_line}
use Rattle.day_facts.specs.Facts.{StandsFor}
use Rattle.pending_items.specs.Kept.{KeepsPending}
use Rattle.journal_replay.proofs.Following.{few_so_far}
use Rattle.machine.specs.Making.Reasons.{why_of}
use Rattle.day_reasons.specs.Wrong.{head_at, want_at, wrong_text, wrong_there, wrong_want}
use Rattle.day_reasons.proofs.PutFacts.{same_put}
use Rattle.day_reasons.proofs.wrong.put_wrong.Goals as goal

pub renew-requires : goal.renew-requires
renew-requires g c = record { at_work = c.requires.work.at_work }

pub overflow_add-place : goal.overflow_add-place
overflow_add-place g c =
    let few = few_so_far c.args.setting.now.day c.args.setting.now.sound c.args.work.now.floor.journal.history c.requires.work.at_work.opened.fits.legal in
    let long = c.len-place.ensures ∙ ap (λ (j : Kept). length j.history) (c.journal.ensures ∙ c.renew.ensures.journal) in
    omega (arith, few, long)

pub want_there-requires : goal.want_there-requires
want_there-requires g c = c.requires.work.moves

pub put_want-requires-clause-work : goal.put_want-requires-clause-work
put_want-requires-clause-work g c =
    let day = c.args.setting.now.day in
    record {
      at_work = c.renew.ensures.at_work;
      moves = c.want_there.ensures.moves;
      facts = subst (λ (j : Kept). StandsFor day j.history c.args.work.now.facts) (sym c.renew.ensures.journal) c.requires.work.facts;
      pending = subst (λ (j : Kept). KeepsPending day j.history c.args.work.now.pending) (sym c.renew.ensures.journal) c.requires.work.pending;
    }

pub put_want-requires-clause-place : goal.put_want-requires-clause-place
put_want-requires-clause-place g c =
    let long = c.len-place.ensures ∙ ap (λ (j : Kept). length j.history) c.journal.ensures in
    omega (arith, long)

pub returns-in-Some : goal.returns-in-Some
unfolding wrong_text
returns-in-Some g c =
    let day = c.args.setting.now.day in
    let J = c.args.work.now.floor.journal.history in
    let long = c.len-place.ensures ∙ ap (λ (j : Kept). length j.history) (c.journal.ensures ∙ c.renew.ensures.journal) in
    let place : c.len-place.result + 1 ≡ suc (length J) = omega (arith, long) in
    let there = sym c.in-Some.is ∙ c.want_there.ensures.want ∙ ap (λ (p : ℕ). want_at day p c.args.behind.now) place in
    same_put _ _ _ _ _ ((λ i. wrong_want day (c.renew.ensures.journal i).history c.in-Some.want (why_of day (c.renew.ensures.journal i).history c.in-Some.want)) ∙ ap (wrong_there day J) there) c.put_want.ensures

pub returns-in-None : goal.returns-in-None
unfolding wrong_text
returns-in-None g c =
    let day = c.args.setting.now.day in
    let J = c.args.work.now.floor.journal.history in
    let long = c.len-place.ensures ∙ ap (λ (j : Kept). length j.history) (c.journal.ensures ∙ c.renew.ensures.journal) in
    let place : c.len-place.result + 1 ≡ suc (length J) = omega (arith, long) in
    let there = sym c.in-None.is ∙ c.want_there.ensures.want ∙ ap (λ (p : ℕ). want_at day p c.args.behind.now) place in
    same_put _ _ _ _ _ (ap (λ (p : ℕ). text_line (head_at p ∷ codes "TEXT" ∷ [])) place ∙ ap (wrong_there day J) there) c.put_word.ensures
