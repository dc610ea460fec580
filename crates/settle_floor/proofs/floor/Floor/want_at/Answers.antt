use Rattle.std.proofs.Common.{◌∙◌, ap, is_some, subst, sym}
use Rattle.commit_journal.specs.declared.line.Want.TheVariants as wants
use Rattle.rule_book.specs.Answering.{has_accounts}
use Rattle.settle_floor.proofs.HeldFacts.{all_held}
use Rattle.settle_floor.specs.Floors.{IsIndex, OnFloor}
use Rattle.settle_floor.specs.Tills.{KeepsBalances}
use Rattle.settle_floor.proofs.floor.Floor.want_at.Goals as goal

pub item_want-requires : goal.item_want-requires
item_want-requires g c =
    let w = wants.Cover c.args.n in
    ap (λ t. has_accounts (λ a. is_some (g.T.Holdings.holdings t a)) c.at_work-desk.result.setting.now.day w) c.at_work-desk.ensures.till
    ∙ ap (λ s. has_accounts (λ a. is_some (g.T.Holdings.holdings c.args.till.now a)) s.day w) c.at_work-desk.ensures.setting
    ∙ all_held _ c.args.setting.now.day c.requires.at_work.all w

pub at_work-desk-requires-clause-index : goal.at_work-desk-requires-clause-index
at_work-desk-requires-clause-index g c = subst (λ (f : OnFloor). IsIndex c.args.setting.now.day f.journal.history f.index) (sym c.self.view_is) c.requires.at_work.opened.index

pub at_work-desk-requires-clause-kept : goal.at_work-desk-requires-clause-kept
at_work-desk-requires-clause-kept g c =
    subst (λ (f : OnFloor). KeepsBalances (g.T.Holdings.holdings c.args.till.now) c.args.setting.now.day f.journal.history) (sym c.self.view_is) c.requires.at_work.kept
