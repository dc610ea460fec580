-- What a run that goes on after a break stands on: what is told of bytes, and whether they settle the answer, where more follow.
use Rattle.std.proofs.Common.{◌≡◌, ◌∙◌, ◌-◌, ◌≤◌, ◌++◌, ℕ, true, false, List, [], length, refl, take, ap}
use Rattle.csv.specs.Reading.{strip_bom}
use Rattle.record_rows.specs.Lines.{line_from}
use Rattle.record_rows.specs.Machine.{rows_from}
use Rattle.live_records.specs.Heard.{heard}
use Rattle.live_records.specs.WholeRecords.{whole_records}
use Rattle.live_day.specs.Answers.{is_settled_by, longest_input, looked_at}
use Rattle.live_day.specs.Told.{told}
use Rattle.live_day.proofs.Bytes.{settled_told as settled_both}
use Rattle.live_day.proofs.ResumeFacts.{looked_front}
pub use Rattle.live_day.proofs.SettledFacts.{looked_whole, settled_stays}
use Rattle.live_day.proofs.ToldFronts.{fronts_told}

pub none_settles : is_settled_by [] ≡ false
unfolding heard whole_records rows_from strip_bom line_from
none_settles = refl

pub settled_still : (front rest : List ℕ) → is_settled_by front ≡ true → is_settled_by (front ++ rest) ≡ true
settled_still front rest e = (settled_both front rest e).0

pub settled_told : (front rest : List ℕ) → is_settled_by front ≡ true → told (looked_at (front ++ rest)) ≡ told (looked_at front)
settled_told front rest e = (settled_both front rest e).1

pub told_front : (read rest : List ℕ) → length read ≤ longest_input → (more : List ℕ) × (told (looked_at (read ++ rest)) ≡ told read ++ more)
told_front read rest l =
    let longer = fronts_told false read (take (longest_input - length read) rest) in
    (longer.0, ap told (looked_front read rest l) ∙ longer.1)
