use Rattle.std.proofs.Common.{◌∙◌, sym}
use Rattle.std.proofs.lemmas.Bool.{and_right}
use Rattle.commit_journal.specs.Histories.{oldest}
use Rattle.day_page.specs.Classes.{has_code, is_of}
use Rattle.day_page.proofs.classes.is_of_code.Goals as goal

pub returns-else-has_code : goal.returns-else-has_code
returns-else-has_code c =
    let past = c.args.past.now in
    let J = oldest past.journal.now.history past.place in
    c.if-has_code.false ∙ sym (and_right (is_of past.setting.now.day c.args.request.now c.args.class c.args.n) (has_code J c.args.code c.args.n) (sym c.has_code.ensures ∙ c.if-has_code.false))
