use Rattle.day_chain.proofs.days.prepare.Goals as goal

pub returns : goal.returns
returns c = λ told stands fine. record {
  count = stands.count;
  opened = c.in_ok-year.ensures told stands.at fine;
  same = c.in_ok-settled.ensures.day;
  lines = c.in_ok-settled.ensures.lines;
  balanced = c.in_ok-settled.ensures.balanced;
}
