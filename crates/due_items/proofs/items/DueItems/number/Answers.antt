use Rattle.std.proofs.Common.{◌<◌, ◌≡◌, ap, ◌∙◌, length, subst, sym, arith}
use Rattle.scan_laws.specs.Numbers.{item_count}
use Rattle.due_items.specs.Due.{due_at}
use Rattle.due_items.specs.Index.{IsIndexOf}
use Rattle.due_items.specs.Kept.{Due}
use Rattle.due_items.specs.Row.{IsNumber}
use Rattle.due_items.proofs.Noted.{flags_length}
use Rattle.due_items.proofs.items.DueItems.number.Goals as goal

pub returns-in-Some : goal.returns-in-Some
returns-in-Some c = λ day J keeps.
    let found = c.in-Some.ensures day (subst (λ (x : Due). IsIndexOf day x.index) (sym c.self.view_is) keeps.index) in
    let low : c.in-Some.i < item_count day = found.0 in
    let all : length c.args.self.now.set ≡ item_count day = ap length keeps.exact ∙ flags_length (due_at day J) (item_count day) in
    let bound = c.count.ensures in
    subst (IsNumber day c.args.item.msg c.args.item.entry) (sym (c.below.ensures (omega (arith, low, all, bound)))) found

pub returns-in-None : goal.returns-in-None
returns-in-None c = λ day J keeps. c.in-None.ensures day (subst (λ (x : Due). IsIndexOf day x.index) (sym c.self.view_is) keeps.index)
