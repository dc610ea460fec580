-- What is told of a record, where the batch that ends in front of it and the record itself are told one after the other.
use Rattle.std.proofs.Common.{◌≡◌, ◌∙◌, ◌+◌, ◌++◌, ℕ, Bool, List, [], ◌∷◌, Result, Ok, Err, IsErr, append_assoc, sym, ap, subst}
use Rattle.std.specs.Prelude.{◌||◌, None, false}
use Rattle.outside_io.specs.Calls.{Puts}
use Rattle.outside_io.specs.Pieces.{SinkState}
use Rattle.outside_io.proofs.PutLemmas.{puts_first, puts_then}
use Rattle.batch_records.specs.DayRecord.{Day}
use Rattle.batch_records.specs.Made.{is_entry, is_late}
use Rattle.batch_records.specs.Records.{Fields}
use Rattle.live_records.specs.Ears.{calls_said}
use Rattle.live_records.specs.Heard.{Call, Heard, day_of, hear, heard}
use Rattle.live_records.proofs.Continuing.{grows_hear}
use Rattle.live_day.specs.Events.{AreOfDay, events_in}
use Rattle.live_day.specs.Told.{told_calls}
use Rattle.live_day.specs.Working.{EndsBatch, HearsNext, NextComes, RowComes, TellsRow}
use Rattle.live_day.specs.declared.work.Work.{Work}
use Rattle.live_day.proofs.EventFacts.{of_records}
use Rattle.live_day.proofs.HeardFacts.{calls_then}
use Rattle.live_day.proofs.ToldFronts.{events_append}

-- what a record calls for, in two parts, and what is told of both
two_parts : (records : List Fields) (r : Fields) (more rest : List Call) → (heard (records ++ r ∷ [])).calls ≡ ((heard records).calls ++ more) ++ rest
    → TellsRow records r (told_calls (day_of (heard (records ++ r ∷ []))) (events_in (heard records).calls) more ++ told_calls (day_of (heard (records ++ r ∷ []))) (events_in (heard records).calls + events_in more) rest)
two_parts records r more rest calls = record {
  more = more ++ rest;
  calls = calls ∙ append_assoc (heard records).calls more rest;
  is = sym (calls_then (day_of (heard (records ++ r ∷ []))) (events_in (heard records).calls) more rest);
}

-- it stops where the batch is told
pub told_in_batch : {T U E F : Type 0} (records : List Fields) (r : Fields) (old new : SinkState) (fault : E) (result : Result U F) (work : Work) → IsErr result → EndsBatch {T = T} records r old new (Err fault) work
    → (text : List ℕ) × TellsRow records r text × Puts old new text result
told_in_batch records r old new fault result work failed b =
    let more = (grows_hear b.before r).calls in
    let calls : (heard (records ++ r ∷ [])).calls ≡ ((heard records).calls ++ b.more) ++ more.0 = ap (λ (h : Heard). h.calls) (sym b.next) ∙ more.1 ∙ ap (λ (cs : List Call). cs ++ more.0) b.calls in
    let day : Day = day_of (heard (records ++ r ∷ [])) in
    let k : ℕ = events_in (heard records).calls in (
      told_calls day k b.more ++ told_calls day (k + events_in b.more) more.0,
      two_parts records r b.more more.0 calls,
      puts_first old new (told_calls day k b.more) (told_calls day (k + events_in b.more) more.0) fault result failed b.told,
    )

-- both are told
pub told_behind_batch : {T E F : Type 0} (records : List Fields) (r : Fields) (number : ℕ) (old mid new : SinkState) (value : T) (result : Result Bool F) (half work : Work)
    → (b : EndsBatch {E = E} records r old mid (Ok value) half) → HearsNext b.before r number mid new result work → (text : List ℕ) × TellsRow records r text × Puts old new text result
told_behind_batch records r number old mid new value result half work b n =
    let ys : List Call = calls_said number n.said in
    let calls : (heard (records ++ r ∷ [])).calls ≡ ((heard records).calls ++ b.more) ++ ys = ap (λ (h : Heard). h.calls) (sym b.next) ∙ n.calls ∙ ap (λ (cs : List Call). cs ++ ys) b.calls in
    let day : Day = day_of (heard (records ++ r ∷ [])) in
    let k : ℕ = events_in (heard records).calls in
    let count : events_in b.before.calls ≡ k + events_in b.more = ap events_in b.calls ∙ events_append (heard records).calls b.more in
    let own : told_calls (day_of (hear b.before r)) (events_in b.before.calls) ys ≡ told_calls day (k + events_in b.more) ys = (λ i. told_calls (day_of (b.next i)) (count i) ys) in (
      told_calls day k b.more ++ told_calls day (k + events_in b.more) ys,
      two_parts records r b.more ys calls,
      puts_then old mid new (told_calls day k b.more) (told_calls day (k + events_in b.more) ys) value result b.told (subst (λ (text : List ℕ). Puts mid new text result) own n.told),
    )

-- the record comes after the batch
pub next_comes : {T E : Type 0} (row : Fields) (old half : Work) (before after : SinkState) (value : T) (k : RowComes row old) → EndsBatch {E = E} k.records k.fields before after (Ok value) half → half.ear.begun ≡ old.ear.begun
    → (is_entry row ≡ false → half.ear.coming.batch ≡ None) → NextComes row half
next_comes row old half before after value k b begun shut = record {
  before = b.before;
  fields = k.fields;
  is = k.is;
  working = b.working;
  of_day = b.of_day;
  next_of_day = subst AreOfDay (sym b.next) (of_records (k.records ++ k.fields ∷ []));
  late = ap (λ (x : Bool). x || is_late row) begun ∙ k.late;
  shut = shut;
}
