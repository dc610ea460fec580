use Rattle.std.proofs.Common.{List, length, sym, ap, subst}
use Rattle.batch_records.specs.Records.{Fields}
use Rattle.live_day.proofs.ReadFacts.{no_rows}
use Rattle.live_day.proofs.reading.DayReader.new.Goals as goal

pub returns : goal.returns
returns g c = record {
  is_seen = c.new.ensures;
  records = record { heard = subst (λ (records : List Fields). g.D.Hearer.has_heard c.args.day records) (sym no_rows) c.requires; count = ap (length {A = Fields}) (sym no_rows) };
}
