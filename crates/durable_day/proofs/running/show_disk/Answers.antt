use Rattle.durable_day.proofs.DiskFacts.{made_of, makes_it}
use Rattle.durable_day.proofs.running.show_disk.Goals as goal

pub show_opened-requires : goal.show_opened-requires
show_opened-requires g c =
    let fresh = c.requires.fresh in
    record { made = (fresh.0, made_of 4294967295 1 0 fresh.0 c.args.disk c.in-Ok.disk fresh.1 c.in-Ok.ensures.store c.in-Ok.ensures.kept c.in-Ok.ensures.cut) }

pub returns : goal.returns
returns g c = λ rest fresh. c.show_opened.ensures rest (made_of 4294967295 1 0 rest c.args.disk c.in-Ok.disk fresh c.in-Ok.ensures.store c.in-Ok.ensures.kept c.in-Ok.ensures.cut)

pub unreachable-requires : goal.unreachable-requires
unreachable-requires g c =
    let fresh = c.requires.fresh in
    makes_it 1 0 fresh.0 c.args.disk _ fresh.1 c.in-Err.ensures.cut
