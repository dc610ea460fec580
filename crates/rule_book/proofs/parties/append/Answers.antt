use Rattle.std.proofs.Common.{◌∙◌, ◌++◌, ◌∷◌, [], ap, append-nil, append_assoc, arith, get_or, refl, sym, take}
use Rattle.std.proofs.lemmas.List.{take_all, take_more}
use Rattle.rule_book.proofs.parties.append.Goals as goal

pub loop-key-init : goal.loop-key-init
loop-key-init c = record { items = sym (append-nil c.args.keys.now.items); len = omega arith; capacity = refl }

pub loop-key-preserved : goal.loop-key-preserved
loop-key-preserved c =
    let old = c.args.keys.now.items in
    let more = c.args.more.now in
    let i = c.loop-key.key-index in
    let x = get_or more i 0 in
    record {
      items =
          c.push_reserved.ensures.items ∙ ap (λ xs. xs ++ x ∷ []) c.loop-key.invariant.items ∙ append_assoc old (take i more) (x ∷ [])
          ∙ ap (λ xs. old ++ xs) (sym (take_more more i 0 c.loop-key-test.true));
      len = omega (arith, c.push_reserved.ensures.len, c.loop-key.invariant.len);
      capacity = c.push_reserved.ensures.capacity ∙ c.loop-key.invariant.capacity;
    }

pub returns-clause-items : goal.returns-clause-items
returns-clause-items c = c.loop-key.invariant.items ∙ ap (λ xs. c.args.keys.now.items ++ xs) (take_all c.loop-key.key-index c.args.more.now c.loop-key-test.false)
