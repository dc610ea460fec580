use Rattle.std.proofs.Common.{length, ap, sym, subst, arith}
use Rattle.commit_journal.specs.Line.{History}
use Rattle.day_facts.specs.Facts.{StandsFor}
use Rattle.machine.specs.Legal.{IsLegal}
use Rattle.pending_items.specs.Kept.{KeepsPending}
use Rattle.day_reasons.proofs.work.Work.note.Goals as goal

pub newest_head-head-requires : goal.newest_head-head-requires
newest_head-head-requires c = let long = ap length c.requires.before.lines in omega (arith, long)

pub returns-clause-work : goal.returns-clause-work
returns-clause-work c =
    let day = c.args.setting.now.day in
    let before = c.requires.before in
    let same = sym (c.newest_head-head.ensures before.newest before.older before.lines) in
    let legal = subst (IsLegal day) before.lines c.requires.at_work.opened.fits.legal in
    let facts = c.note.ensures.lines before.older before.newest same legal before.facts in
    let pending = c.note-2.ensures.kept before.older before.newest same legal facts before.pending in
    record {
      at_work = c.requires.at_work;
      moves = c.requires.moves;
      facts = subst (λ (J : History). StandsFor day J c.note.new.self) (sym before.lines) facts;
      pending = subst (λ (J : History). KeepsPending day J c.note-2.new.self) (sym before.lines) pending;
    }
