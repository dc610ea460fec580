use Rattle.std.proofs.Common.{◌∙◌, sym}
use Rattle.live_day.proofs.ReadFacts.{ending_cut, last_broken, last_none, puts_nothing}
use Rattle.live_day.proofs.reading.DayReader.end.Goals as goal

pub returns-then-is_broken-clause-told : goal.returns-then-is_broken-clause-told
returns-then-is_broken-clause-told g c = λ records h. puts_nothing _ _ _ (last_broken records (sym (c.is_broken.ensures records h.heard) ∙ c.if-is_broken.true))

pub returns-then-not-has_end-clause-told : goal.returns-then-not-has_end-clause-told
returns-then-not-has_end-clause-told g c = λ records h.
    let going = sym (c.is_broken.ensures records h.heard) ∙ c.if-is_broken.false in
    puts_nothing _ _ _ (last_none records (sym (c.has_end.ensures records h.heard going) ∙ c.if-not-has_end.true))

pub returns-then-not-has_end-clause-ending : goal.returns-then-not-has_end-clause-ending
returns-then-not-has_end-clause-ending g c = λ records h.
    let going = sym (c.is_broken.ensures records h.heard) ∙ c.if-is_broken.false in
    ending_cut records _ h.count going (sym (c.has_end.ensures records h.heard going) ∙ c.if-not-has_end.true)
