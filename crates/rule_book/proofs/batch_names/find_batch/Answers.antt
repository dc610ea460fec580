use Rattle.std.proofs.Common.{◌∙◌, ap, sym}
use Rattle.rule_book.specs.Repeated.{first_number}
use Rattle.rule_book.proofs.BatchLemmas.{batch_by_first, no_first}
use Rattle.rule_book.proofs.batch_names.find_batch.Goals as goal

pub returns-then-is_batch_of : goal.returns-then-is_batch_of
returns-then-is_batch_of c =
    let s = c.args.setting.now in
    (batch_by_first s.day c.args.system.now c.args.id.now c.in-Some.n (sym c.in-Some.is ∙ (c.first.ensures ∙ ap (λ names. first_number names c.args.system.now c.args.id.now) s.found_out.0.0))).0
    (sym c.is_batch_of.ensures ∙ c.if-is_batch_of.true)

pub returns-else-is_batch_of : goal.returns-else-is_batch_of
returns-else-is_batch_of c =
    let s = c.args.setting.now in
    (batch_by_first s.day c.args.system.now c.args.id.now c.in-Some.n (sym c.in-Some.is ∙ (c.first.ensures ∙ ap (λ names. first_number names c.args.system.now c.args.id.now) s.found_out.0.0))).1
    (sym c.is_batch_of.ensures ∙ c.if-is_batch_of.false)

pub returns-in-None : goal.returns-in-None
returns-in-None c =
    let s = c.args.setting.now in
    no_first s.day c.args.system.now c.args.id.now (sym c.in-None.is ∙ (c.first.ensures ∙ ap (λ names. first_number names c.args.system.now c.args.id.now) s.found_out.0.0))
