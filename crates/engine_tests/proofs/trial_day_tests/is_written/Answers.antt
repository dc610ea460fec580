use Rattle.std.proofs.Common.{◌≡◌, ℕ, arith, refl, sym, subst, true}
use Rattle.batch_records.specs.DayRecord.{no_room}
use Rattle.batch_records.specs.Sound.{is_sound}
use Rattle.batch_records.proofs.SoundMeets.{five_letters, sound_meets}
use Rattle.trial_day.specs.Trial.{generated, trial_systems}
use Rattle.trial_day.proofs.TrialMessages.{systems_are}
use Rattle.trial_day.proofs.TrialSound.{generated_is_sound}
use Rattle.engine_tests.proofs.trial_day_tests.is_written.Goals as goal

room_is : (seed batches : ℕ) → (generated seed batches).room ≡ no_room
unfolding generated
room_is seed batches = refl

five : five_letters trial_systems ≡ true
unfolding trial_systems
five = refl

pub put_day-requires : goal.put_day-requires
put_day-requires c =
    sound_meets c.args.day.now (subst (λ d. is_sound d ≡ true) (sym c.requires) (generated_is_sound 1 3 (omega arith)))
    (subst (λ d. five_letters d.systems ≡ true) (sym c.requires) (subst (λ systems. five_letters systems ≡ true) (sym (systems_are 1 3)) five))
    (subst (λ d. d.room ≡ no_room) (sym c.requires) (room_is 1 3))
