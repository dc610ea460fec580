use Rattle.std.proofs.Common.{◌≡◌, ◌+◌, suc, Some, subst, arith}
use Rattle.std.specs.Prelude.{option_map}
use Rattle.rule_book.specs.Senders.{IsSentBefore}
use Rattle.rule_book.proofs.SentFacts.{sent_is}
use Rattle.rule_book.proofs.parts.sent_before.Goals as goal

found : (c : goal.In-Some) → IsSentBefore c.args.setting.now.day c.args.n (Some (suc c.in-Some.i))
found c =
    let setting = c.args.setting.now in
    subst (λ o. IsSentBefore setting.day c.args.n (option_map suc o)) c.in-Some.is (sent_is setting.day setting.found.repeats.names setting.found_out.0.0 c.args.n c.before-2.result c.requires.one c.requires.within c.before-2.ensures)

pub overflow_add-result : goal.overflow_add-result
overflow_add-result c = let less = (found c).1 in omega (arith, less, c.ranges.n.fits)

pub returns-in-Some : goal.returns-in-Some
returns-in-Some c =
    let next : suc c.in-Some.i ≡ c.in-Some.i + 1 = omega arith in
    subst (λ m. IsSentBefore c.args.setting.now.day c.args.n (Some m)) next (found c)

pub returns-in-None : goal.returns-in-None
returns-in-None c =
    let setting = c.args.setting.now in
    subst (λ o. IsSentBefore setting.day c.args.n (option_map suc o)) c.in-None.is (sent_is setting.day setting.found.repeats.names setting.found_out.0.0 c.args.n c.before-2.result c.requires.one c.requires.within c.before-2.ensures)
