use Rattle.due_items.proofs.index.Index.empty.Goals as goal

pub returns : goal.returns
returns c = λ i. record {
  row = c.in_ok-row.ensures i;
  infos = c.in_ok-infos.ensures.one i;
  froms = c.in_ok-infos.ensures.other i;
  tills = c.in_ok-tills.ensures.one i;
  cycles = c.in_ok-tills.ensures.other i;
}
