use Rattle.std.proofs.Common.{◌<◌, ◌-◌, ◌+◌, ◌≡◌, ℕ, length, drop, arith, subst, sym}
use Rattle.std.proofs.lemmas.List.{drop_all}
use Rattle.outside_io.proofs.PutLemmas.{has_put_is, has_put_more, has_put_none, puts_all, puts_front}
use Rattle.commit_journal.specs.Line.{History}
use Rattle.commit_journal.specs.Histories.{oldest}
use Rattle.status_messages.specs.Walks.{Stands}
use Rattle.status_messages.proofs.AllTexts.{statuses_none, statuses_more, statuses_parts, statuses_end}
use Rattle.status_messages.proofs.whole.put_statuses.Goals as goal

pub loop-before-init : goal.loop-before-init
loop-before-init g c =
    let day = c.args.setting.now.day in
    let H = c.args.journal.now.history in
    record {
      put = has_put_is _ _ _ _ (statuses_none day H) (has_put_none _);
      stands = subst (λ (J : History). Stands day J c.args.walk.now) (sym (drop_all (length H - 0) H (omega arith))) c.requires.first;
    }

pub say-requires-clause-stands : goal.say-requires-clause-stands
say-requires-clause-stands g c =
    let back : c.loop-before.before ≡ c.loop-before.before + 1 - 1 = omega arith in
    subst (λ (i : ℕ). Stands c.args.setting.now.day (oldest c.args.journal.now.history i) c.loop-before.walk) back c.loop-before.invariant.stands

pub returns-in_err-say-clause-texts : goal.returns-in_err-say-clause-texts
returns-in_err-say-clause-texts g c =
    let inside : c.loop-before.before < length c.args.journal.now.history = omega arith in
    let parts = statuses_parts c.args.setting.now.day c.args.journal.now.history c.loop-before.before inside in
    puts_front _ _ _ _ _ parts.0 _ _ _ c.from_residual.ensures.0 parts.1 c.loop-before.invariant.put c.in_err-say.ensures.texts

pub loop-before-preserved : goal.loop-before-preserved
loop-before-preserved g c =
    let inside : c.loop-before.before < length c.args.journal.now.history = omega arith in
    record {
      put = has_put_is _ _ _ _ (statuses_more c.args.setting.now.day c.args.journal.now.history c.loop-before.before inside) (has_put_more _ _ _ _ _ _ c.loop-before.invariant.put c.in_ok-say.ensures.texts);
      stands = c.in_ok-say.ensures.stands;
    }

pub returns-clause-texts : goal.returns-clause-texts
returns-clause-texts g c =
    puts_all _ _ _ tt (has_put_is _ _ _ _ (statuses_end c.args.setting.now.day c.args.journal.now.history c.loop-before.before (omega arith)) c.loop-before.invariant.put)

pub returns-clause-stands : goal.returns-clause-stands
returns-clause-stands g c =
    let H = c.args.journal.now.history in
    let past : length H - c.loop-before.before ≡ 0 = omega arith in
    subst (λ (newer : ℕ). Stands c.args.setting.now.day (drop newer H) c.loop-before.walk) past c.loop-before.invariant.stands
