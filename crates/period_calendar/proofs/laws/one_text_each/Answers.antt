use Rattle.period_calendar.proofs.DateLemmas.{date_text_reads, date_text_of}
use Rattle.period_calendar.proofs.TimeLemmas.{time_text_reads, time_text_of}
use Rattle.period_calendar.proofs.laws.one_text_each.Goals as goal

pub returns : goal.returns
returns c = record {
  dates = date_text_reads;
  date_texts = date_text_of;
  times = time_text_reads;
  time_texts = time_text_of;
}
