use Rattle.std.proofs.Common.{◌≡◌, ◌∙◌, ℕ, List, Option, None, Some, cond, refl, sym, ap, is_some}
use Rattle.std.specs.BTreeMap.{get}
use Rattle.std.specs.Cmp.Lexicographic.{slice_cmp}
use Rattle.std.specs.Option.{option_copied}
use Rattle.std.specs.Ordering.{is_eq, nat_cmp}
use denote.Ref.{Bor}
use Rattle.lane_workers.proofs.Numbering.{entered}
use Rattle.lane_workers.proofs.senders.enter.Goals as goal

copied : (o : Option (Bor ℕ)) → is_some (option_copied o) ≡ is_some o
copied None = refl
copied (Some x) = refl

pub returns-clause-entered : goal.returns-clause-entered
returns-clause-entered c = λ name.
    let free : is_some (get (slice_cmp nat_cmp) c.args.numbers.now c.args.sender.now) ≡ is_some c.get.result = ap is_some (sym c.get.ensures.value) ∙ copied c.get.result in
    entered (get (slice_cmp nat_cmp) c.args.numbers.now) (get (slice_cmp nat_cmp) c.insert.new.map) c.args.sender.now c.args.next name
    (free ∙ sym c.is_some.ensures ∙ c.if-is_some.false)
    (c.in_ok-insert.ensures.updates.0 name ∙ ap (λ (s : List ℕ). cond (is_eq (slice_cmp nat_cmp s name)) (Some c.args.next) (get (slice_cmp nat_cmp) c.args.numbers.now name)) c.copy.ensures)
