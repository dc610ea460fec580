use Rattle.std.proofs.Common.{◌≡◌, ◌∷◌, [], append-nil, refl, sym}
use Rattle.std.proofs.lemmas.Result.{on_ok_weaker}
use Rattle.outside_io.proofs.PutLemmas.{has_put_none, puts_all}
use Rattle.live_records.specs.Heard.{Takes, heard, taken}
use Rattle.live_records.proofs.Continuing.{heard_next}
use Rattle.live_day.specs.Events.{events_in}
use Rattle.live_day.proofs.BehindFacts.{puts_is}
use Rattle.live_day.proofs.EventFacts.{of_records}
use Rattle.live_day.proofs.WorkFacts.{batch_count, batch_lacks, batch_next, batch_of_day, batch_told, none_called, still_working}
use Rattle.live_day.proofs.work.Work.end_batch.Goals as goal

pub take-requires : goal.take-requires
take-requires g c =
    batch_lacks c.requires.records c.requires.fields c.args.self.now.ear c.end_into.new.ear c.args.self.now.setting.day c.end_into.new.setting.day c.requires.at_work.heard
    (c.end_into.ensures.ended (heard c.requires.records) c.requires.fields c.requires.is c.requires.at_work.heard c.if-end_into.true) (c.end_into.ensures.day c.if-end_into.true)
    c.args.self.now.floor c.end_into.ensures.fits c.requires.at_work.told

pub returns-then-end_into-clause-ended : goal.returns-then-end_into-clause-ended
returns-then-end_into-clause-ended g c = λ records r is at.
    let ended = c.end_into.ensures.ended (heard records) r is at.heard c.if-end_into.true in
    let grows = c.end_into.ensures.day c.if-end_into.true in
    record {
      before = taken (heard records);
      more = Takes ∷ [];
      next = batch_next records r c.args.self.now.ear c.end_into.new.ear c.args.self.now.setting.day c.end_into.new.setting.day at.heard ended grows;
      count = refl;
      calls = ended.1;
      of_day = batch_of_day records r c.args.self.now.ear c.end_into.new.ear c.args.self.now.setting.day c.end_into.new.setting.day at.heard ended grows;
      told = puts_is _ _ _ _ _ (batch_told records r c.args.self.now.ear c.end_into.new.ear c.args.self.now.setting.day c.end_into.new.setting.day at.heard ended grows)
          (c.take.ensures.texts (events_in (heard records).calls) (batch_count records r c.args.self.now.ear c.end_into.new.ear c.args.self.now.setting.day c.end_into.new.setting.day at.heard ended grows));
      working = on_ok_weaker c.take.result (λ told. record { heard = ended.0; fits = c.end_into.ensures.fits; room = c.end_into.ensures.room; told = told }) c.take.ensures.told;
    }

pub returns-else-end_into-clause-ended : goal.returns-else-end_into-clause-ended
returns-else-end_into-clause-ended g c = λ records r is at.
    let same = c.end_into.ensures.stays c.if-end_into.false in
    record {
      before = heard records;
      more = [];
      next = sym (heard_next records r);
      count = refl;
      calls = sym (append-nil (heard records).calls);
      of_day = of_records records;
      told = puts_is _ _ _ _ _ (none_called _ _) (puts_all _ _ [] tt (has_put_none _));
      working = still_working (heard records) c.args.self.now (record { ear = c.end_into.new.ear; setting = c.end_into.new.setting; floor = c.args.self.now.floor }) same.0 same.1 same.2 same.3 refl at;
    }
