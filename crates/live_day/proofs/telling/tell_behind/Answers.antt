use Rattle.std.proofs.Common.{◌<◌, ◌-◌, ◌+◌, ◌≡◌, ℕ, length, drop, arith, subst}
use Rattle.outside_io.proofs.PutLemmas.{has_put_is, has_put_more, has_put_none, puts_all, puts_front}
use Rattle.commit_journal.specs.Histories.{oldest}
use Rattle.status_messages.specs.Walks.{Stands}
use Rattle.live_day.proofs.BehindFacts.{behind_all, behind_more, behind_none, behind_parts}
use Rattle.live_day.proofs.telling.tell_behind.Goals as goal

pub loop-before-init : goal.loop-before-init
loop-before-init g c =
    let day = c.args.setting.now.day in
    let H = c.args.journal.now.history in
    record {
      behind = omega arith;
      put = has_put_is _ _ _ _ (behind_none day c.args.first H c.requires.few) (has_put_none _);
      stands = c.requires.stands;
      room = λ messages more r. r;
    }

pub tell_line-requires-clause-stands : goal.tell_line-requires-clause-stands
tell_line-requires-clause-stands g c =
    let back : c.loop-before.before ≡ c.loop-before.before + 1 - 1 = omega arith in
    subst (λ (i : ℕ). Stands c.args.setting.now.day (oldest c.args.journal.now.history i) c.loop-before.walk) back c.loop-before.invariant.stands

pub returns-in_err-tell_line-clause-texts : goal.returns-in_err-tell_line-clause-texts
returns-in_err-tell_line-clause-texts g c =
    let inside : c.loop-before.before < length c.args.journal.now.history = omega arith in
    let parts = behind_parts c.args.setting.now.day c.args.first c.args.journal.now.history c.loop-before.before c.loop-before.invariant.behind inside in
    puts_front _ _ _ _ _ parts.0 _ _ _ c.from_residual.ensures.0 parts.1 c.loop-before.invariant.put c.in_err-tell_line.ensures.texts

pub loop-before-preserved : goal.loop-before-preserved
loop-before-preserved g c =
    let inside : c.loop-before.before < length c.args.journal.now.history = omega arith in
    record {
      behind = omega (arith, c.loop-before.invariant.behind);
      put = has_put_is _ _ _ _ (behind_more c.args.setting.now.day c.args.first c.args.journal.now.history c.loop-before.before c.loop-before.invariant.behind inside) (has_put_more _ _ _ _ _ _ c.loop-before.invariant.put c.in_ok-tell_line.ensures.texts);
      stands = c.in_ok-tell_line.ensures.stands;
      room = λ messages more r. c.in_ok-tell_line.ensures.room messages more (c.loop-before.invariant.room messages more r);
    }

pub returns-clause-texts : goal.returns-clause-texts
returns-clause-texts g c =
    puts_all _ _ _ tt (has_put_is _ _ _ _ (behind_all c.args.setting.now.day c.args.first c.args.journal.now.history c.loop-before.before (omega arith)) c.loop-before.invariant.put)

pub returns-clause-stands : goal.returns-clause-stands
returns-clause-stands g c =
    let H = c.args.journal.now.history in
    let past : length H - c.loop-before.before ≡ 0 = omega arith in
    subst (λ (newer : ℕ). Stands c.args.setting.now.day (drop newer H) c.loop-before.walk) past c.loop-before.invariant.stands

pub returns-in_err-tell_line-clause-room : goal.returns-in_err-tell_line-clause-room
returns-in_err-tell_line-clause-room g c = λ messages more r. c.in_err-tell_line.ensures.room messages more (c.loop-before.invariant.room messages more r)
