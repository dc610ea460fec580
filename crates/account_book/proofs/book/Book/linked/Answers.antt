use Rattle.std.proofs.Common.{ap, arith, length, ◌∙◌}
use Rattle.std.specs.Option.{option_map}
use Rattle.account_book.specs.Directory.{find_system, linked_system, system_name}
use Rattle.account_book.specs.Filed.{link}
use Rattle.account_book.specs.Setup.{Setup}
use Rattle.account_book.proofs.Answered.{kept_at, link_is, link_within}
use Rattle.account_book.proofs.SoundLemmas.{link-name}
use Rattle.account_book.proofs.book.Book.linked.Goals as goal

pub returns : goal.returns
returns c =
    let accounts = c.self.inside.accounts.items in
    let systems = c.self.inside.systems.items in
    let many = ap (λ (setup : Setup). length setup.accounts) c.self.view_is in
    let kept = kept_at (link (find_system systems)) accounts _ _ _ c.self.invariant.links_are c.requires.least (omega arith) c.index.ensures in
    let number = link_is accounts systems c.args.a _ kept in
    rw (← c.self.view_is) (record {
      number = number;
      name = ap (option_map (system_name systems)) number ∙ link-name accounts systems c.self.invariant.sound c.args.a;
      within = link_within accounts systems (linked_system accounts c.args.a) _ number;
    })
