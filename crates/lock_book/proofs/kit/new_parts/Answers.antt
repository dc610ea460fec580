use Rattle.std.proofs.Common.{◌∙◌, ap, subst, sym}
use Rattle.cash_amounts.specs.Numbers.{numbered}
use Rattle.journal_pass.specs.Known.{Known, TableOf}
use Rattle.settle_floor.specs.Tills.{KeepsBalances}
use Rattle.lock_book.proofs.kit.new_parts.Goals as goal

pub returns-in-Ok-till_and_floor : goal.returns-in-Ok-till_and_floor
returns-in-Ok-till_and_floor c =
    let day = c.args.setting.now.day in
    let lines = ap (λ (k : Known). k.lines) c.fork-till_pass.ensures.new ∙ ap (λ (k : Known). k.lines) c.in-Ok.ensures.same in
    record {
      table_day = ap (λ (t : TableOf). t.day) c.in_ok-table.ensures.table;
      floor_is = c.in-Ok-till_and_floor.ensures.opened.0;
      opened = c.in-Ok-till_and_floor.ensures.opened.1;
      teller_is = c.in_ok-table.ensures.teller;
      first_is = c.fork-till_pass.ensures.same ∙ c.in-Ok.ensures.same;
      low = c.in-Ok.ensures.low;
      high = c.in-Ok.ensures.high;
      till_unseen = lines;
      till_count = c.in-Ok-till_and_floor.ensures.count;
      till_is = record {
        table_is = ap (λ (k : Known). k.table) c.fork-till_pass.ensures.new ∙ ap (λ (k : Known). k.table) c.in-Ok.ensures.same;
        day_is = ap (λ (k : Known). k.day) c.fork-till_pass.ensures.new ∙ ap (λ (k : Known). k.day) c.in-Ok.ensures.same;
        all_there = c.in-Ok-till_and_floor.ensures.all;
        balanced = subst (KeepsBalances (numbered c.in-Ok-till_and_floor.till) day) (sym lines) c.in-Ok-till_and_floor.ensures.kept;
      };
    }
