use Rattle.std.proofs.Common.{ℕ, List, subst}
use Rattle.live_day.specs.Beginnings.{IsBeginning}
use Rattle.live_day.specs.declared.beginning.Beginning.TheVariants as beginnings
use Rattle.live_day.proofs.ResumedSteps.{placed_at, placed_told, quiet}
use Rattle.live_day.proofs.HeaderFacts.{read_within}
use Rattle.live_day.proofs.resuming.Resuming.begin.Goals as goal

pub set_out-requires-clause-within : goal.set_out-requires-clause-within
set_out-requires-clause-within g c =
    let whole = c.in-Whole.ensures in
    read_within c.bytes-input.result.now _ whole.4

pub returns-in-Short-clause-told : goal.returns-in-Short-clause-told
returns-in-Short-clause-told g c old e = quiet old c.args.self.now.input.bytes.items _ _ e (subst (λ (t : List ℕ). IsBeginning t beginnings.Short) c.bytes-input.ensures c.in-Short.ensures).0

pub returns-in-NoHeader-clause-told : goal.returns-in-NoHeader-clause-told
returns-in-NoHeader-clause-told g c old e = quiet old c.args.self.now.input.bytes.items _ _ e (subst (λ (t : List ℕ). IsBeginning t beginnings.NoHeader) c.bytes-input.ensures c.in-NoHeader.ensures).0

pub returns-in-Whole-clause-told : goal.returns-in-Whole-clause-told
returns-in-Whole-clause-told g c old e =
    placed_told old c.args.self.now.input.bytes.items c.bytes-input.result.now c.in-Whole.read c.in-Whole.read_end c.in-Whole.written c.in-Whole.written_end _ _ _ e c.bytes-input.ensures c.in-Whole.ensures.4 c.set_out.ensures.told

pub returns-in-Whole-clause-at : goal.returns-in-Whole-clause-at
returns-in-Whole-clause-at g c =
    placed_at (g.D.Listener.has_heard c.set_out.new.day) c.args.self.now.input.bytes.items c.bytes-input.result.now c.in-Whole.read c.in-Whole.read_end c.in-Whole.written c.in-Whole.written_end _ c.bytes-input.ensures c.in-Whole.ensures.4 c.set_out.ensures.at
