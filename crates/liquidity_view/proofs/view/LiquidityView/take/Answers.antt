use Rattle.std.proofs.Common.{◌-◌, subst, sym, ap}
use Rattle.commit_journal.specs.Histories.{oldest}
use Rattle.liquidity_view.specs.Views.{OnView, StandsFor}
use Rattle.liquidity_view.proofs.view.LiquidityView.take.Goals as goal

pub settled_at-out-requires-clause-before : goal.settled_at-out-requires-clause-before
settled_at-out-requires-clause-before c = (subst (StandsFor c.args.setting.now.day (oldest c.args.journal.now.history (c.args.place - 1))) (sym c.self.view_is) c.requires.stands).out

pub settled_at-into-requires-clause-before : goal.settled_at-into-requires-clause-before
settled_at-into-requires-clause-before c = (subst (StandsFor c.args.setting.now.day (oldest c.args.journal.now.history (c.args.place - 1))) (sym c.self.view_is) c.requires.stands).into

pub take-requires-clause-stands : goal.take-requires-clause-stands
take-requires-clause-stands c = (subst (StandsFor c.args.setting.now.day (oldest c.args.journal.now.history (c.args.place - 1))) (sym c.self.view_is) c.requires.stands).queue

pub invariant_of-self : goal.invariant_of-self
invariant_of-self c = record {
  few_began = c.self.invariant.few_began;
  few_left = c.settled_at-out.ensures.small;
  few_came = c.settled_at-into.ensures.small;
}

pub returns-clause-stands : goal.returns-clause-stands
returns-clause-stands c =
    let s = subst (StandsFor c.args.setting.now.day (oldest c.args.journal.now.history (c.args.place - 1))) (sym c.self.view_is) c.requires.stands in
    record {
      sound = s.sound;
      queue = c.take.ensures;
      begun = s.begun;
      out = c.settled_at-out.ensures.value;
      into = c.settled_at-into.ensures.value;
    }

pub returns-clause-name : goal.returns-clause-name
returns-clause-name c = ap (λ (v : OnView). v.name) c.self.view_is
