use Rattle.std.proofs.Common.{◌∙◌, ap, is_some, sym, subst}
use Rattle.std.specs.List.{list_all}
use Rattle.machine.specs.Records.Setup.{account_numbers}
use Rattle.rule_book.specs.declared.setting.Setting.{Setting}
use Rattle.settle_floor.specs.Floors.{IsIndex, OnFloor}
use Rattle.settle_floor.proofs.Candidates.{rests, rests_after_end, works}
use Rattle.settle_floor.specs.Tills.{KeepsBalances}
use Rattle.settle_floor.proofs.floor.Floor.candidate.Goals as goal

pub returns-clause-work : goal.returns-clause-work
returns-clause-work g c =
    works c.at_work-desk.result.setting.now c.args.setting.now.day c.at_work-desk.result.journal.now c.args.self.now.journal c.first_ready.result
    (ap (λ (s : Setting). s.day) c.at_work-desk.ensures.setting) (c.at_work-desk.ensures.journal ∙ ap (λ (f : OnFloor). f.journal) c.self.view_is) c.first_ready.ensures
    (ap is_some (sym c.ended.ensures) ∙ sym c.is_some.ensures ∙ c.if-is_some.false)

pub returns-then-is_some-clause-none : goal.returns-then-is_some-clause-none
returns-then-is_some-clause-none g c = λ none. rests_after_end c.args.setting.now.day c.at_work-desk.result.journal.now c.args.self.now.journal (c.at_work-desk.ensures.journal ∙ ap (λ (f : OnFloor). f.journal) c.self.view_is)
    (ap is_some (sym c.ended.ensures) ∙ sym c.is_some.ensures ∙ c.if-is_some.true)

pub returns-clause-none : goal.returns-clause-none
returns-clause-none g c = λ none.
    rests c.at_work-desk.result.setting.now c.args.setting.now.day c.at_work-desk.result.journal.now c.args.self.now.journal c.first_ready.result
    (ap (λ (s : Setting). s.day) c.at_work-desk.ensures.setting) (c.at_work-desk.ensures.journal ∙ ap (λ (f : OnFloor). f.journal) c.self.view_is) c.first_ready.ensures none

pub at_work-desk-requires-clause-index : goal.at_work-desk-requires-clause-index
at_work-desk-requires-clause-index g c = subst (λ (f : OnFloor). IsIndex c.args.setting.now.day f.journal.history f.index) (sym c.self.view_is) c.requires.at_work.opened.index

pub at_work-desk-requires-clause-kept : goal.at_work-desk-requires-clause-kept
at_work-desk-requires-clause-kept g c =
    subst (λ (f : OnFloor). KeepsBalances (g.T.Holdings.holdings c.args.till.now) c.args.setting.now.day f.journal.history) (sym c.self.view_is) c.requires.at_work.kept

pub first_ready-requires : goal.first_ready-requires
first_ready-requires g c = record {
  all =
      ap (λ t. list_all (λ a. is_some (g.T.Holdings.holdings t a)) (account_numbers c.at_work-desk.result.setting.now.day)) c.at_work-desk.ensures.till
      ∙ ap (λ (s : Setting). list_all (λ a. is_some (g.T.Holdings.holdings c.args.till.now a)) (account_numbers s.day)) c.at_work-desk.ensures.setting
      ∙ c.requires.at_work.all;
}
