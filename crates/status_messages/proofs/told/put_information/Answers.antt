use Rattle.std.proofs.Common.{ap, sym, arith, length}
use Rattle.std.specs.List.{flat_map}
use Rattle.outside_io.proofs.PutLemmas.{has_put_is, has_put_more, has_put_none, puts_all, puts_front}
use Rattle.number_set.specs.Members.{has}
use Rattle.number_set.proofs.WalkLemmas.{none_between}
use Rattle.status_messages.specs.LineTexts.{information_to}
use Rattle.status_messages.proofs.Entered.{member_next, member_parts}
use Rattle.status_messages.proofs.told.put_information.Goals as goal

pub loop-a-init : goal.loop-a-init
loop-a-init g c = record { within = omega arith; put = has_put_none _ }

pub returns-in_err-put_information_to : goal.returns-in_err-put_information_to
returns-in_err-put_information_to g c =
    let f = information_to c.args.day.now c.args.place c.args.n in
    let parts = member_parts (has c.args.banks.now) f (length c.args.banks.now) c.loop-a.at c.in-Some.a c.in-Some.ensures.next c.in-Some.ensures.within in
    puts_front _ _ _ _ _ parts.0 _ _ _ c.from_residual.ensures.0 parts.1 c.loop-a.invariant.put c.in_err-put_information_to.ensures

pub loop-a-preserved : goal.loop-a-preserved
loop-a-preserved g c =
    let f = information_to c.args.day.now c.args.place c.args.n in
    record {
      within = omega (arith, c.in-Some.ensures.within);
      put = has_put_is _ _ _ _ (member_next (has c.args.banks.now) f c.loop-a.at c.in-Some.a c.in-Some.ensures.next) (has_put_more _ _ _ _ _ _ c.loop-a.invariant.put c.in_ok-put_information_to.ensures);
    }

pub returns : goal.returns
returns g c =
    let f = information_to c.args.day.now c.args.place c.args.n in
    puts_all _ _ _ tt (has_put_is _ _ _ _ (ap (flat_map f) (sym (none_between (has c.args.banks.now) c.loop-a.at (length c.args.banks.now) c.loop-a.invariant.within (λ k after before. c.in_default.ensures.next k after)))) c.loop-a.invariant.put)
