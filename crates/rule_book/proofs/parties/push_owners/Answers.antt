use Rattle.std.proofs.Common.{◌∙◌, ◌++◌, ◌∷◌, [], ap, append-nil, append_assoc, arith, length, map, refl, sym, take}
use Rattle.std.proofs.lemmas.List.{take_all}
use Rattle.cash_amounts.specs.declared.records.AccountRecord.{AccountRecord}
use Rattle.rule_book.specs.Parties.{bank_number}
use Rattle.rule_book.proofs.LastRows.{with_next_item}
use Rattle.rule_book.proofs.parties.push_owners.Goals as goal

pub loop-account-init : goal.loop-account-init
loop-account-init c = record { items = sym (append-nil c.args.numbers.now.items); len = omega arith; capacity = refl }

pub push_reserved-requires : goal.push_reserved-requires
push_reserved-requires c =
    omega (arith, c.requires.room, c.loop-account.invariant.len, c.loop-account.invariant.capacity, c.loop-account-test.true, ap length c.accounts-accounts.ensures)

pub loop-account-preserved : goal.loop-account-preserved
loop-account-preserved c =
    let day = c.args.day.now in
    let old = c.args.numbers.now.items in
    let items = c.accounts-accounts.result.now in
    let i = c.loop-account.account-index in
    record {
      items =
          c.push_reserved.ensures.items ∙ ap (λ xs. xs ++ c.bank_number.result ∷ []) c.loop-account.invariant.items
          ∙ append_assoc old (map (λ (r : AccountRecord). bank_number day r.owner) (take i items)) (c.bank_number.result ∷ [])
          ∙ ap (λ n. old ++ (map (λ (r : AccountRecord). bank_number day r.owner) (take i items) ++ n ∷ [])) c.bank_number.ensures
          ∙ ap (λ xs. old ++ xs) (sym (with_next_item (λ (r : AccountRecord). bank_number day r.owner) items i c.account-item.result c.loop-account-test.true c.account-item.is));
      len = omega (arith, c.push_reserved.ensures.len, c.loop-account.invariant.len);
      capacity = c.push_reserved.ensures.capacity ∙ c.loop-account.invariant.capacity;
    }

pub returns : goal.returns
returns c =
    c.loop-account.invariant.items
    ∙ ap (λ xs. c.args.numbers.now.items ++ map (λ (r : AccountRecord). bank_number c.args.day.now r.owner) xs) (take_all c.loop-account.account-index c.accounts-accounts.result.now c.loop-account-test.false ∙ c.accounts-accounts.ensures)
