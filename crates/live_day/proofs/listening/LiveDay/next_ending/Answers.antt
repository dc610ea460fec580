use Rattle.std.proofs.Common.{◌∙◌, ◌<◌, length, sym, arith}
use Rattle.live_day.specs.Answers.{longest_input}
use Rattle.live_day.proofs.TakeFacts.{ended_long, none_open, stays_ended, tells_long, tells_settled}
use Rattle.live_day.proofs.listening.LiveDay.next_ending.Goals as goal

pub returns-then-is_some-clause-told : goal.returns-then-is_some-clause-told
returns-then-is_some-clause-told g c = λ input h. tells_settled g.D.Hearer.has_heard c.args.self.now.ending c.args.self.now.reader input c.args.b _ _ (sym c.is_some.ensures ∙ c.if-is_some.true) h.stands

pub returns-then-is_some-clause-stands : goal.returns-then-is_some-clause-stands
returns-then-is_some-clause-stands g c = λ input h. stays_ended g.D.Hearer.has_heard c.args.self.now.ending c.args.self.now.reader c.args.self.now.reader input c.args.b (sym c.is_some.ensures ∙ c.if-is_some.true) h.stands

pub returns-then-self-eq-MAX_INPUT-clause-told : goal.returns-then-self-eq-MAX_INPUT-clause-told
returns-then-self-eq-MAX_INPUT-clause-told g c = λ input h.
    tells_long g.D.Hearer.has_heard c.args.self.now.reader input c.args.b _ _ (sym h.size ∙ c.if-self-eq-MAX_INPUT.true) (none_open g.D.Hearer.has_heard c.args.self.now.ending c.args.self.now.reader input (sym c.is_some.ensures ∙ c.if-is_some.false) h.stands)

pub returns-then-self-eq-MAX_INPUT-clause-stands : goal.returns-then-self-eq-MAX_INPUT-clause-stands
returns-then-self-eq-MAX_INPUT-clause-stands g c = λ input h.
    ended_long g.D.Hearer.has_heard c.args.self.now.reader input c.args.b (sym h.size ∙ c.if-self-eq-MAX_INPUT.true) (none_open g.D.Hearer.has_heard c.args.self.now.ending c.args.self.now.reader input (sym c.is_some.ensures ∙ c.if-is_some.false) h.stands)

pub returns-clause-told : goal.returns-clause-told
returns-clause-told g c = λ input h.
    let open_in = none_open g.D.Hearer.has_heard c.args.self.now.ending c.args.self.now.reader input (sym c.is_some.ensures ∙ c.if-is_some.false) h.stands in
    let within : length input < longest_input = let most = open_in.within in let size = h.size in omega (arith, most, size, c.if-self-eq-MAX_INPUT.false) in
    c.take.ensures.told input open_in within

pub returns-clause-stands : goal.returns-clause-stands
returns-clause-stands g c = λ input h.
    let open_in = none_open g.D.Hearer.has_heard c.args.self.now.ending c.args.self.now.reader input (sym c.is_some.ensures ∙ c.if-is_some.false) h.stands in
    let within : length input < longest_input = let most = open_in.within in let size = h.size in omega (arith, most, size, c.if-self-eq-MAX_INPUT.false) in
    c.take.ensures.stands input open_in within
