use Rattle.std.proofs.Common.{◌≡◌, ◌∷◌, true, false, subst}
use Rattle.commit_journal.specs.Kept.{Kept}
use Rattle.journal_replay.specs.Same.{line_with, IsMachines}
use Rattle.journal_replay.proofs.judging.makes.Goals as goal

pub returns-clause-made : goal.returns-clause-made
returns-clause-made c =
    subst (λ (k : Kept). c.answers.result ≡ true → IsMachines c.args.setting.now.day k.history (line_with c.args.head c.args.moves.now) × (c.answers.new.floor.journal.history ≡ line_with c.args.head c.args.moves.now ∷ k.history)) c.renew_before.ensures.journal c.answers.ensures.made

pub returns-clause-other : goal.returns-clause-other
returns-clause-other c =
    subst (λ (k : Kept). c.answers.result ≡ false → IsMachines c.args.setting.now.day k.history (line_with c.args.head c.args.moves.now) → ⊥) c.renew_before.ensures.journal c.answers.ensures.other
