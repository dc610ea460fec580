use Rattle.std.proofs.Common.{◌≡◌, ℕ, List, [], Option, length, replicate, slice_index, ap, sym, ◌∙◌, subst, arith}
use Rattle.std.proofs.lemmas.List.{length-replicate}
use Rattle.amount_forest.specs.declared.node.Entry.{Entry}
use Rattle.amount_forest.specs.declared.node.Link.{Link}
use Rattle.amount_forest.specs.declared.node.TheConstants.{NONE}
use Rattle.amount_forest.specs.Lists.{Amounts, lists_of, all_of}
use Rattle.amount_forest.specs.Nodes.{IsPool, IsLast}
use Rattle.amount_forest.proofs.ForestLemmas.{all_empty, empty_pool, empty_last}
use Rattle.amount_forest.proofs.forest.AmountForest.with_room.Goals as goal

pub invariant_of-result : goal.invariant_of-result
invariant_of-result c =
    let entries : c.in_ok-entries.entries.items ≡ [] = c.in_ok-entries.ensures.items in
    let links : c.in_ok-links.links.items ≡ [] = c.in_ok-links.ensures.items in
    let leasts : c.in_ok-leasts.leasts.items ≡ [] = c.in_ok-leasts.ensures.items in
    let lasts : c.in_ok-lasts.lasts.items ≡ replicate c.args.lists NONE = c.in_ok-lasts.ensures in
    let count : length c.in_ok-lasts.lasts.items ≡ c.args.lists = ap length lasts ∙ length-replicate c.args.lists NONE in
    let none : length c.in_ok-entries.entries.items ≡ 0 = ap length entries in
    let no_links : length c.in_ok-links.links.items ≡ 0 = ap length links in
    let no_leasts : length c.in_ok-leasts.leasts.items ≡ 0 = ap length leasts in
    record {
      pool =
          subst (λ (es : List Entry). IsPool es c.in_ok-links.links.items c.in_ok-leasts.leasts.items) (sym entries)
          (subst (λ (ks : List Link). IsPool [] ks c.in_ok-leasts.leasts.items) (sym links) (subst (λ (ms : List (Option ℕ)). IsPool [] [] ms) (sym leasts) empty_pool));
      lasts = λ list within.
          subst (λ (es : List Entry). IsLast es c.in_ok-links.links.items list (slice_index c.in_ok-lasts.lasts.items list)) (sym entries)
          (subst (λ (ks : List Link). IsLast [] ks list (slice_index c.in_ok-lasts.lasts.items list)) (sym links)
          (subst (λ (xs : List ℕ). IsLast [] [] list (slice_index xs list)) (sym lasts) (empty_last c.args.lists list (omega arith))));
      entries = (let len = c.in_ok-entries.ensures.len in let room = c.in_ok-entries.ensures.capacity in omega arith);
      links = (let len = c.in_ok-links.ensures.len in let room = c.in_ok-links.ensures.capacity in omega arith);
      leasts = (let len = c.in_ok-leasts.ensures.len in let room = c.in_ok-leasts.ensures.capacity in omega arith);
      small = (let len = c.in_ok-entries.ensures.len in omega arith);
      few = omega arith;
    }

pub returns : goal.returns
returns c =
    let entries : c.in_ok-entries.entries.items ≡ [] = c.in_ok-entries.ensures.items in
    let lasts : c.in_ok-lasts.lasts.items ≡ replicate c.args.lists NONE = c.in_ok-lasts.ensures in
    let count : length c.in_ok-lasts.lasts.items ≡ c.args.lists = ap length lasts ∙ length-replicate c.args.lists NONE in
    let n : ℕ = length c.in_ok-lasts.lasts.items in
    let lists : lists_of c.in_ok-entries.entries.items n ≡ replicate c.args.lists [] =
    ap (λ (es : List Entry). lists_of es n) entries ∙ (ap (lists_of []) count ∙ all_empty (λ e. e.amount) c.args.lists) in
    let numbers : all_of (λ e. e.number) c.in_ok-entries.entries.items n ≡ replicate c.args.lists [] =
    ap (λ (es : List Entry). all_of (λ e. e.number) es n) entries ∙ (ap (all_of (λ e. e.number) []) count ∙ all_empty (λ e. e.number) c.args.lists) in
    let made : List (List (Option ℕ)) → List (List ℕ) → Amounts = λ lists numbers. record { lists = lists; numbers = numbers; spare = c.args.amounts } in
    ap (λ xs. made xs (all_of (λ e. e.number) c.in_ok-entries.entries.items n)) lists ∙ ap (made (replicate c.args.lists [])) numbers
