use Rattle.std.proofs.Common.{Bool}
use Rattle.day_facts.specs.Left.{watched_row}
use Rattle.day_facts.specs.Listed.{Rowed, row_pushed}
use Rattle.day_facts.specs.declared.watched.Watched.TheVariants as watches
use Rattle.day_facts.proofs.TableFacts.{each}
use Rattle.day_facts.proofs.flag_tables.arrive_tables.Goals as goal

pub returns : goal.returns
returns c =
    let day = c.args.setting.now.day in
    let n = c.args.n in
    each (λ (r : Rowed Bool). row_pushed (watched_row watches.Debits day n) r) (λ (r : Rowed Bool). row_pushed (watched_row watches.Waiting day n) r) (λ (r : Rowed Bool). row_pushed (watched_row watches.Kept day n) r)
    c.args.tables.now _ _ _ _ _ _ _ c.requires.three c.arrive.ensures c.arrive-2.ensures c.arrive-3.ensures
