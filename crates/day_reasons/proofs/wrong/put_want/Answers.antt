use Rattle.std.proofs.Common.{◌≡◌, ◌∙◌, ◌∷◌, ◌++◌, [], None, is_some, length, sym, ap, subst, arith}
use Rattle.std.specs.Prelude.{codes, is_none}
use Rattle.cash_amounts.specs.Numbers.{numbered}
use Rattle.outside_io.specs.TextLine.{text_line}
use Rattle.commit_journal.specs.Text.{line_text}
use Rattle.day_facts.specs.Facts.{StandsFor}
use Rattle.machine.specs.Making.Reasons.{why_of}
use Rattle.pending_items.specs.Kept.{KeepsPending}
use Rattle.settle_floor.specs.Floors.{OnFloor}
use Rattle.settle_floor.proofs.Appended.{at_work_still}
use Rattle.settle_floor.proofs.HeldFacts.{all_held}
use Rattle.settlement_laws.proofs.Base.Induction.{line_of-some}
use Rattle.day_reasons.specs.Reasons.{reason_fields}
use Rattle.day_reasons.specs.Wrong.{head_at, wrong_want}
use Rattle.day_reasons.proofs.Judged.{no_reason}
use Rattle.day_reasons.proofs.PutFacts.{same_put}
use Rattle.day_reasons.proofs.wrong.put_want.Goals as goal

pub answer-requires-clause-opened : goal.answer-requires-clause-opened
answer-requires-clause-opened g c = c.requires.work.at_work.opened

pub answer-requires-clause-kept : goal.answer-requires-clause-kept
answer-requires-clause-kept g c = c.requires.work.at_work.kept

pub answer-requires-clause-held : goal.answer-requires-clause-held
answer-requires-clause-held g c = all_held (λ a. is_some (numbered c.args.work.now.till a)) c.args.setting.now.day c.requires.work.at_work.all c.args.want

pub put_other-requires-clause-from : goal.put_other-requires-clause-from
put_other-requires-clause-from g c = let at = c.requires.place in omega (arith, at)

pub put_other-requires-clause-at : goal.put_other-requires-clause-at
put_other-requires-clause-at g c = c.requires.place ∙ sym (ap length c.in-Ok.ensures.answered.2)

pub returns-in-Ok : goal.returns-in-Ok
returns-in-Ok g c =
    let day = c.args.setting.now.day in
    let J = c.args.work.now.floor.journal.history in
    let made = c.in-Ok.ensures.answered in
    let at = c.requires.place in
    let same = sym (line_of-some day J c.args.want made.0 made.1).2 in
    let none : None ≡ why_of day J c.args.want = no_reason day J c.args.want (ap is_none made.1) in
    same_put _ _ _ _ _ ((λ i. text_line (head_at (at i) ∷ codes "OTHER" ∷ []) ++ line_text (at i) (same i)) ∙ ap (wrong_want day J c.args.want) none) (c.put_other.ensures made.0 J made.2)

pub put_why-requires : goal.put_why-requires
put_why-requires g c =
    let day = c.args.setting.now.day in
    let refused = c.in-Err.ensures.answered in
    record {
      work = record {
        at_work = at_work_still day c.args.work.now.floor c.answer.new.self (numbered c.args.work.now.till) (numbered c.answer.new.till) c.requires.work.at_work c.answer.ensures.opened c.answer.ensures.kept c.answer.ensures.same;
        moves = c.requires.work.moves;
        facts = subst (λ (f : OnFloor). StandsFor day f.journal.history c.args.work.now.facts) (sym refused.1) c.requires.work.facts;
        pending = subst (λ (f : OnFloor). KeepsPending day f.journal.history c.args.work.now.pending) (sym refused.1) c.requires.work.pending;
      };
    }

pub returns-in-Err : goal.returns-in-Err
returns-in-Err g c =
    let day = c.args.setting.now.day in
    let J = c.args.work.now.floor.journal.history in
    let refused = c.in-Err.ensures.answered in
    let at = c.requires.place in
    same_put _ _ _ _ _ ((λ i. text_line (head_at (at i) ∷ reason_fields day (refused.1 i).journal.history c.args.want c.in-Err.why)) ∙ ap (wrong_want day J c.args.want) (sym refused.0)) c.put_why.ensures
