use Rattle.std.proofs.Common.{◌∙◌, ap, subst, sym}
use Rattle.batch_records.specs.DayRecord.{Day, no_room}
use Rattle.batch_records.specs.Meets.{MeetsRules}
use Rattle.batch_records.specs.Sound.{is_sound}
use Rattle.trial_day.specs.Trial.{generated}
use Rattle.trial_day.proofs.TrialSound.{generated_is_sound, generated_meets}
use Rattle.trial_day.proofs.day.generate.Goals as goal

pub returns-clause-day : goal.returns-clause-day
unfolding generated
returns-clause-day c =
    c.of.ensures
    ∙ λ i. record { version = 1; date = c.trial_date.ensures i; accounts = c.in_ok-trial_accounts.ensures i; systems = c.in_ok-trial_systems.ensures i; reserves = c.new.ensures i; stops = c.new-2.ensures i; messages = c.in_ok-trial_messages.ensures i; room = no_room }

pub returns-clause-sound : goal.returns-clause-sound
unfolding generated
returns-clause-sound c =
    ap is_sound c.of.ensures
    ∙ (λ i. is_sound (record { version = 1; date = c.trial_date.ensures i; accounts = c.in_ok-trial_accounts.ensures i; systems = c.in_ok-trial_systems.ensures i; reserves = c.new.ensures i; stops = c.new-2.ensures i; messages = c.in_ok-trial_messages.ensures i; room = no_room }))
    ∙ generated_is_sound c.args.seed c.args.batches c.requires.most

pub returns-clause-meets : goal.returns-clause-meets
unfolding generated
returns-clause-meets c = subst (λ (day : Day). MeetsRules day)
    (sym (c.of.ensures ∙ λ i. record { version = 1; date = c.trial_date.ensures i; accounts = c.in_ok-trial_accounts.ensures i; systems = c.in_ok-trial_systems.ensures i; reserves = c.new.ensures i; stops = c.new-2.ensures i; messages = c.in_ok-trial_messages.ensures i; room = no_room }))
    (generated_meets c.args.seed c.args.batches c.requires.most)
