use Rattle.std.proofs.Common.{◌<◌, ◌≤◌, length, arith}
use Rattle.outside_io.proofs.PutLemmas.{has_put_is, has_put_more, has_put_none, numbers_all, numbers_more, numbers_parts, puts_all, puts_front}
use Rattle.commit_journal.specs.Histories.{oldest}
use Rattle.machine.specs.Records.Messages.{entries}
use Rattle.status_messages.specs.LineTexts.{entry_revocation}
use Rattle.status_messages.proofs.revocations.put_all_entries.Goals as goal

pub loop-before-init : goal.loop-before-init
loop-before-init g c = has_put_none _

pub returns-in_err-put_entry_revocation : goal.returns-in_err-put_entry_revocation
returns-in_err-put_entry_revocation g c =
    let lines = c.args.lines.now in
    let day = lines.setting.now.day in
    let count = c.entry_count-before-end.ensures.count in
    let inside : c.loop-before.before < length (entries day c.args.b) = omega (arith, count) in
    puts_front _ _ _ _ _ _ _ _ _ c.from_residual.ensures.0 (numbers_parts (entry_revocation day (oldest lines.journal.now.history lines.place) lines.place c.args.b) (length (entries day c.args.b)) c.loop-before.before inside) c.loop-before.invariant c.in_err-put_entry_revocation.ensures

pub loop-before-preserved : goal.loop-before-preserved
loop-before-preserved g c =
    let lines = c.args.lines.now in
    let day = lines.setting.now.day in
    let count = c.entry_count-before-end.ensures.count in
    let inside : c.loop-before.before < length (entries day c.args.b) = omega (arith, count) in
    has_put_is _ _ _ _ (numbers_more (entry_revocation day (oldest lines.journal.now.history lines.place) lines.place c.args.b) (length (entries day c.args.b)) c.loop-before.before inside) (has_put_more _ _ _ _ _ _ c.loop-before.invariant c.in_ok-put_entry_revocation.ensures)

pub returns : goal.returns
returns g c =
    let lines = c.args.lines.now in
    let day = lines.setting.now.day in
    let count = c.entry_count-before-end.ensures.count in
    let past : length (entries day c.args.b) ≤ c.loop-before.before = omega (arith, count) in
    puts_all _ _ _ tt (has_put_is _ _ _ _ (numbers_all (entry_revocation day (oldest lines.journal.now.history lines.place) lines.place c.args.b) (length (entries day c.args.b)) c.loop-before.before past) c.loop-before.invariant)
