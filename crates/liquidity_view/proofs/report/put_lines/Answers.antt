use Rattle.std.proofs.Common.{◌≡◌, ◌∙◌, ◌<◌, ◌≤◌, ◌+◌, ◌-◌, ℕ, length, arith, subst, sym}
use Rattle.std.proofs.lemmas.List.{drop_all}
use Rattle.outside_io.proofs.PutLemmas.{has_put_is, has_put_more, has_put_none, numbers_all, numbers_more, numbers_parts, puts_all, puts_front}
use Rattle.commit_journal.specs.Line.{History}
use Rattle.commit_journal.specs.Histories.{oldest}
use Rattle.liquidity_view.specs.Viewed.{text_at}
use Rattle.liquidity_view.specs.Views.{StandsFor}
use Rattle.liquidity_view.proofs.report.put_lines.Goals as goal

pub loop-before-init : goal.loop-before-init
loop-before-init g c =
    let H = c.args.journal.now.history in
    record {
      put = has_put_none _;
      stands = subst (λ (J : History). StandsFor c.args.setting.now.day J c.args.view.now) (sym (drop_all (length H - 0) H (omega arith))) c.requires.first;
      name = c.requires.name;
    }

pub take-requires-clause-stands : goal.take-requires-clause-stands
take-requires-clause-stands g c =
    let back : c.loop-before.before ≡ c.loop-before.before + 1 - 1 = omega arith in
    subst (λ (i : ℕ). StandsFor c.args.setting.now.day (oldest c.args.journal.now.history i) c.loop-before.view) back c.loop-before.invariant.stands

pub returns-in_err-put_at : goal.returns-in_err-put_at
returns-in_err-put_at g c =
    let H = c.args.journal.now.history in
    let inside : c.loop-before.before < length H = omega arith in
    puts_front _ _ _ _ _ _ _ _ _ c.from_residual.ensures.0 (numbers_parts (text_at c.args.setting.now.day c.args.request.now H) (length H) c.loop-before.before inside) c.loop-before.invariant.put c.in_err-put_at.ensures

pub loop-before-preserved : goal.loop-before-preserved
loop-before-preserved g c =
    let H = c.args.journal.now.history in
    let inside : c.loop-before.before < length H = omega arith in
    record {
      put = has_put_is _ _ _ _ (numbers_more (text_at c.args.setting.now.day c.args.request.now H) (length H) c.loop-before.before inside) (has_put_more _ _ _ _ _ _ c.loop-before.invariant.put c.in_ok-put_at.ensures);
      stands = c.take.ensures.stands;
      name = c.take.ensures.name ∙ c.loop-before.invariant.name;
    }

pub returns : goal.returns
returns g c =
    let H = c.args.journal.now.history in
    let past : length H ≤ c.loop-before.before = omega arith in
    puts_all _ _ _ tt (has_put_is _ _ _ _ (numbers_all (text_at c.args.setting.now.day c.args.request.now H) (length H) c.loop-before.before past) c.loop-before.invariant.put)
