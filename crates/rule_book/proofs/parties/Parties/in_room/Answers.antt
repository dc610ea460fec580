use Rattle.std.proofs.Common.{◌∙◌, ◌++◌, ap, arith, length, subst, sym}
use Rattle.std.specs.Ordering.{nat_cmp}
use Rattle.std.specs.List.Sorted.{IsSorted}
use Rattle.rule_book.specs.Parties.{PartyRoom, owner_numbers}
use Rattle.rule_book.proofs.parties.Parties.in_room.Goals as goal

pub push_owners-requires-clause-room : goal.push_owners-requires-clause-room
push_owners-requires-clause-room c =
    let most = ap (λ (r : PartyRoom). r.accounts) c.room.view_is in
    omega (arith, most, c.requires.fits, c.room.invariant.accounts_fit, ap length c.room.invariant.no_numbers, c.room.inside.numbers.ok.0)

pub invariant_of-result : goal.invariant_of-result
invariant_of-result c = record {
  rising = subst (IsSorted nat_cmp) (sym c.room.invariant.no_keys) (λ k d low high. absurd (omega (arith, high)));
  empty = c.room.invariant.none;
  fits = c.room.invariant.fits;
  own_fits = c.room.invariant.own_fits;
}

pub returns : goal.returns
returns c =
    let numbers = c.push_owners.ensures ∙ ap (λ xs. xs ++ owner_numbers c.args.day.now) c.room.invariant.no_numbers in
    λ i. record { keys = c.room.invariant.no_keys i; numbers = numbers i; most = (c.room.view_is i).most }
