use Rattle.std.proofs.Common.{◌≡◌, ◌∙◌, ◌||◌, false, refl, ap, length, arith}
use Rattle.std.specs.List.{list_any}
use Rattle.std.proofs.lemmas.List.{take_all}
use Rattle.number_set.specs.Members.{has}
use Rattle.status_messages.specs.LineTexts.{is_called_in}
use Rattle.status_messages.proofs.Called.{called_in}
use Rattle.status_messages.proofs.Entered.{all_more, not_entered}
use Rattle.status_messages.proofs.banks.enter_all.Goals as goal

pub loop-found-init : goal.loop-found-init
loop-found-init c = record { length = refl; each = λ a. not_entered c.args.banks.now a false refl }

pub enter_both-requires : goal.enter_both-requires
enter_both-requires c = let same = c.loop-found.invariant.length in omega (arith, same, c.requires)

pub loop-found-preserved : goal.loop-found-preserved
loop-found-preserved c = record {
  length = c.enter_both.ensures.length ∙ c.loop-found.invariant.length;
  each = λ a. all_more (is_called_in c.args.setting.now.day a) _ _ _ (has c.args.banks.now a) _ _ c.loop-found-test.true c.found-item.is (c.loop-found.invariant.each a) (c.enter_both.ensures.each a);
}

pub returns-clause-each : goal.returns-clause-each
returns-clause-each c =
    let day = c.args.setting.now.day in
    let list = c.entry_moves-list.result.now in
    let all : c.loop-found.found-index ≡ length list = omega (arith, c.loop-found-test.false, c.loop-found.auto.found-index-end) in
    λ a. c.loop-found.invariant.each a
    ∙ ap (λ b. has c.args.banks.now a || b) (ap (list_any (is_called_in day a)) (take_all c.loop-found.found-index list (omega (arith, all)) ∙ c.entry_moves-list.ensures) ∙ called_in day c.args.n a)
