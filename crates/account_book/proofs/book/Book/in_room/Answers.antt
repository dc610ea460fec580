use Rattle.account_book.proofs.book.Book.in_room.Goals as goal

pub invariant_of-result : goal.invariant_of-result
invariant_of-result c =
    rw (c.copy_accounts.ensures, c.copy_systems.ensures) (record {
      sound = c.requires.sound;
      numbers = c.file-directories.ensures;
      links_are = c.links-links.ensures;
      roles_are = c.all_roles-roles.ensures;
    })
