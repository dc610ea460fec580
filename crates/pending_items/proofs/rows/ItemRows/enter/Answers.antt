use Rattle.std.proofs.Common.{◌≡◌, ◌<◌, ◌≤◌, length, sym, ap, ◌∙◌, arith}
use Rattle.std.specs.Prelude.{is_some}
use Rattle.std.proofs.lemmas.Bool.{and_parts, leb-false, ltb-false, ltb-true}
use Rattle.machine.specs.Stages.Pending.{is_pending}
use Rattle.settlement_laws.proofs.Base.Lists.{never}
use Rattle.pending_items.specs.Items.{entered}
use Rattle.pending_items.specs.Parts.{account_of, is_part, whole}
use Rattle.pending_items.proofs.KeptFacts.{account_inside, number_inside, row_entered}
use Rattle.pending_items.proofs.NumberFacts.{item_parts, starts_count}
use Rattle.pending_items.proofs.PartFacts.{part_account}
use Rattle.pending_items.proofs.rows.ItemRows.enter.Goals as goal

pub returns-in-None : goal.returns-in-None
returns-in-None c = λ J s f w.
    let day = c.args.setting.now.day in
    never (is_some (account_of day c.args.item)) (part_account day c.args.item (and_parts (is_part day c.args.item) (is_pending day J (whole day c.args.item)) w).0) (ap is_some (sym c.in-None.ensures))

pub returns-then-not-has_band : goal.returns-then-not-has_band
returns-then-not-has_band c = λ J s f w.
    let day = c.args.setting.now.day in
    let past : c.args.self.now.accounts ≤ c.in-Some.account = ltb-false c.in-Some.account c.args.self.now.accounts (sym c.has_band.ensures.within ∙ c.if-not-has_band.true) in
    let inside : c.in-Some.account < c.args.self.now.accounts = account_inside day c.args.setting.now.sound J c.args.self.now f c.args.item c.requires.item c.args.number c.requires.own c.in-Some.account (sym c.in-Some.ensures) in
    absurd (omega (arith, past, inside))

pub returns-then-not-has_number : goal.returns-then-not-has_number
returns-then-not-has_number c = λ J s f w.
    let day = c.args.setting.now.day in
    let past : length c.args.self.now.slots ≤ c.args.number = ltb-false c.args.number (length c.args.self.now.slots) (sym c.has_number.ensures ∙ c.if-not-has_number.true) in
    let inside : c.args.number < length c.args.self.now.slots = number_inside day c.args.setting.now.sound J c.args.self.now f c.args.item c.requires.item c.args.number c.requires.own in
    absurd (omega (arith, past, inside))

pub returns-then-not-has_start : goal.returns-then-not-has_start
returns-then-not-has_start c = λ J s f w.
    let day = c.args.setting.now.day in
    let past = leb-false c.args.item.msg (length c.args.self.now.starts) (sym c.has_start.ensures ∙ c.if-not-has_start.true) in
    let last = (item_parts day c.args.item c.requires.item).last in
    let starts : length c.args.self.now.starts ≡ length day.messages = ap length f.starts ∙ starts_count day in
    absurd (omega (arith, past, last, starts))

pub put-requires-clause-there : goal.put-requires-clause-there
put-requires-clause-there c = sym c.has_start.ensures ∙ c.if-not-has_start.false

pub overflow_add-account : goal.overflow_add-account
overflow_add-account c =
    let inside : c.in-Some.account < c.args.self.now.accounts = ltb-true c.in-Some.account c.args.self.now.accounts (sym c.has_band.ensures.within ∙ c.if-not-has_band.false) in
    omega (arith, inside, c.has_band.ensures.small)

pub returns : goal.returns
returns c = λ J s f w. c.put.ensures
    ∙ ap (entered c.args.self.now c.args.number) (row_entered c.args.setting.now.day c.args.setting.now.sound J c.args.self.now f c.args.item c.requires.item c.args.number c.requires.own
    c.in-Some.account c.place-place.result c.priority.result (sym c.in-Some.ensures) (c.place-place.ensures.at J s) c.priority.ensures)
