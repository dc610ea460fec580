use Rattle.std.proofs.Common.{◌≡◌, ℕ, ◌≤◌, length, Some, ap, arith, subst, sym}
use Rattle.machine.specs.declared.answers.Item.{Item}
use Rattle.machine.specs.Making.Wants.{entry_of, message_of}
use Rattle.machine.specs.Records.Messages.{entries}
use Rattle.machine.specs.Stages.Pending.{item}
use Rattle.lane_workers.proofs.Hinted.{entry_fits, is_hint, not_before}
use Rattle.lane_workers.proofs.Scanning.{chance_past, chance_to, none_named}
use Rattle.lane_workers.proofs.Seeing.{goes_on, goes_then}
use Rattle.lane_workers.proofs.workers.scan_entry.Goals as goal

pub behind-next-requires : goal.behind-next-requires
behind-next-requires g c =
    let day = g.H.HallName.day in
    let from = item c.args.n c.args.entry in
    entry_fits day c.hint.new.pass.lines from c.in-Some.want c.requires.sound (is_hint day c.hint.new.pass.lines from c.in-Some.want (sym c.in-Some.ensures.hint))

pub returns-then-next-n-clause-seen : goal.returns-then-next-n-clause-seen
returns-then-next-n-clause-seen g c =
    let day = g.H.HallName.day in
    let P = c.args.pass.now.lines in
    let J = c.hint.new.pass.lines in
    let K = c.step.new.pass.lines in
    goes_then day P J K (goes_on day P J c.hint.ensures.legal c.hint.ensures.before) (goes_on day J K c.step.ensures.legal c.step.ensures.before)

pub returns-then-next-n-clause-further : goal.returns-then-next-n-clause-further
returns-then-next-n-clause-further g c =
    let day = g.H.HallName.day in
    let from = item c.args.n c.args.entry in
    let w = c.in-Some.want in
    let is = is_hint day c.hint.new.pass.lines from w (sym c.in-Some.ensures.hint) in
    let test = c.if-next-n.true in
    let msg = ap (λ (x : Item). x.msg) c.behind-next.ensures in
    let entry = ap (λ (x : Item). x.entry) c.behind-next.ensures in
    let of : message_of w ≡ c.args.n = omega (arith, test, msg) in
    let fits : entry_of w ≤ length (entries day c.args.n) = subst (λ (m : ℕ). entry_of w ≤ length (entries day m)) of is.entry in
    let low : c.args.entry ≤ entry_of w = not_before c.args.n c.args.entry (message_of w) (entry_of w) of is.behind in
    let end = c.requires.end.0 in
    (omega (arith, low, entry), omega (arith, fits, entry, end))

pub returns-then-next-n-clause-chance : goal.returns-then-next-n-clause-chance
returns-then-next-n-clause-chance g c = λ k low high.
    let day = g.H.HallName.day in
    let from = item c.args.n c.args.entry in
    let w = c.in-Some.want in
    let P = c.args.pass.now.lines in
    let J = c.hint.new.pass.lines in
    let K = c.step.new.pass.lines in
    let is = is_hint day J from w (sym c.in-Some.ensures.hint) in
    let test = c.if-next-n.true in
    let msg = ap (λ (x : Item). x.msg) c.behind-next.ensures in
    let entry = ap (λ (x : Item). x.entry) c.behind-next.ensures in
    let of : message_of w ≡ c.args.n = omega (arith, test, msg) in
    chance_to day P J K c.args.n c.args.entry w c.step.result c.requires.message.0 c.requires.message.1 is (sym c.in-Some.ensures.hint) of
    c.hint.ensures.before c.step.ensures.before c.step.ensures.tells k low (omega (arith, high, entry))

pub returns-else-next-n-clause-seen : goal.returns-else-next-n-clause-seen
returns-else-next-n-clause-seen g c = goes_on g.H.HallName.day c.args.pass.now.lines c.hint.new.pass.lines c.hint.ensures.legal c.hint.ensures.before

pub returns-else-next-n-clause-chance : goal.returns-else-next-n-clause-chance
returns-else-next-n-clause-chance g c = λ k low high.
    let day = g.H.HallName.day in
    let w = c.in-Some.want in
    let test = c.if-next-n.false in
    let msg = ap (λ (x : Item). x.msg) c.behind-next.ensures in
    let end = c.requires.end.0 in
    chance_past day c.args.pass.now.lines c.hint.new.pass.lines c.args.n c.args.entry (Some w) c.requires.message.0 c.requires.message.1 (sym c.in-Some.ensures.hint)
    (λ (of : message_of w ≡ c.args.n). absurd (omega (arith, test, msg, of))) c.hint.ensures.before k low (omega (arith, high, end))

pub returns-in_default-clause-seen : goal.returns-in_default-clause-seen
returns-in_default-clause-seen g c = goes_on g.H.HallName.day c.args.pass.now.lines c.hint.new.pass.lines c.hint.ensures.legal c.hint.ensures.before

pub returns-in_default-clause-chance : goal.returns-in_default-clause-chance
returns-in_default-clause-chance g c = λ k low high.
    let day = g.H.HallName.day in
    let end = c.requires.end.0 in
    chance_past day c.args.pass.now.lines c.hint.new.pass.lines c.args.n c.args.entry c.hint.result c.requires.message.0 c.requires.message.1 (sym c.hint.ensures.hint)
    (none_named c.hint.result c.args.n c.in_default.not-Some) c.hint.ensures.before k low (omega (arith, high, end))
