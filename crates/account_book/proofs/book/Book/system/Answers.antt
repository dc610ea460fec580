use Rattle.std.proofs.Common.{◌∙◌, ap}
use Rattle.cash_amounts.specs.Tests.{same_name}
use Rattle.account_book.specs.Directory.{find_system}
use Rattle.account_book.proofs.Numbers.{found_within}
use Rattle.account_book.proofs.SoundLemmas.{system_has_name}
use Rattle.account_book.proofs.book.Book.system.Goals as goal

pub returns : goal.returns
returns c =
    let name = c.args.name.now in
    let systems = c.self.inside.systems.items in
    let number = c.system.ensures ∙ ap (λ rs. find_system rs name) c.deref.ensures.value in
    rw (← c.self.view_is) (record {
      number = number;
      name = system_has_name systems name _ number;
      within = found_within (λ r. same_name r.name name) systems _ number;
    })
