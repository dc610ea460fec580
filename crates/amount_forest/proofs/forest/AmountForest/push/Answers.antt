use Rattle.std.proofs.Common.{◌≡◌, ◌≢◌, ◌<◌, ◌++◌, [], ◌∷◌, ℕ, List, length, set, slice_index, vec_len, ap, sym, ◌∙◌, refl, subst, ⊎_elim, arith, get_or-set_same, get_or-set_other}
use Rattle.std.proofs.lemmas.Bool.{cases_eq}
use Rattle.std.proofs.lemmas.List.{length-set}
use Rattle.amount_forest.specs.declared.node.Entry.{Entry}
use Rattle.amount_forest.specs.declared.node.Link.{Link}
use Rattle.amount_forest.specs.declared.node.TheConstants.{NONE}
use Rattle.amount_forest.specs.Lists.{Amounts, amounts_of, numbers_of, lists_of, all_of}
use Rattle.amount_forest.specs.Nodes.{IsLast, place_of}
use Rattle.amount_forest.proofs.ListLemmas.{amounts_here, amounts_elsewhere, parts_here, parts_elsewhere}
use Rattle.amount_forest.proofs.ForestLemmas.{in_range, list_now, numbers_now, last_now, list_set, parts_set_at, last_pushed, last_kept}
use Rattle.amount_forest.proofs.forest.AmountForest.push.Goals as goal

pub index-requires : goal.index-requires
index-requires c =
    let within = in_range c.self.inside c.args.self.now c.args.list c.self.view_is c.requires.list in
    omega arith

pub grow-requires-clause-last : goal.grow-requires-clause-last
grow-requires-clause-last c =
    let within = in_range c.self.inside c.args.self.now c.args.list c.self.view_is c.requires.list in
    last_now c.self.inside c.args.list c.index.result.now c.self.invariant within c.index.ensures

pub index_mut-requires : goal.index_mut-requires
index_mut-requires c =
    let within = in_range c.self.inside c.args.self.now c.args.list c.self.view_is c.requires.list in
    omega arith

pub invariant_of-self : goal.invariant_of-self
invariant_of-self c =
    let s = c.self.inside in
    let es : List Entry = s.entries.items in
    let ks : List Link = s.links.items in
    let e : Entry = record { list = c.args.list; number = c.args.number; amount = c.args.amount } in
    let within = in_range s c.args.self.now c.args.list c.self.view_is c.requires.list in
    let entries : c.grow.new.entries.items ≡ es ++ e ∷ [] = c.grow.ensures.entries in
    let node : c.len-node.result ≡ length es = omega arith in
    let spare : 0 < s.spare = subst (λ (a : Amounts). 0 < a.spare) (sym c.self.view_is) c.requires.spare in
    let room = c.self.invariant in
    let size : vec_len s.entries ≡ length es = omega arith in
    let small : length es < NONE = (let few = room.small in omega arith) in
    record {
      pool = c.grow.ensures.pool;
      lasts = λ list inner.
          subst (λ (xs : List Entry). IsLast xs c.grow.new.links.items list (slice_index (set s.lasts.items c.args.list c.len-node.result) list)) (sym entries)
          (⊎_elim
          (λ (h : list ≡ c.args.list).
          subst (λ (l : ℕ). IsLast (es ++ e ∷ []) c.grow.new.links.items l (slice_index (set s.lasts.items c.args.list c.len-node.result) l)) (sym h)
          (subst (λ (n : ℕ). IsLast (es ++ e ∷ []) c.grow.new.links.items c.args.list n) (sym (get_or-set_same s.lasts.items c.args.list c.len-node.result 0 within ∙ node))
          (last_pushed es c.grow.new.links.items e small (subst (λ (n : ℕ). place_of c.grow.new.links.items n ≡ length (amounts_of c.args.list es)) size c.grow.ensures.place))))
          (λ (ne : list ≢ c.args.list).
          let len = length-set s.lasts.items c.args.list c.len-node.result in
          subst (λ (n : ℕ). IsLast (es ++ e ∷ []) c.grow.new.links.items list n) (sym (get_or-set_other s.lasts.items c.args.list list c.len-node.result 0 ne))
          (last_kept es ks c.grow.new.links.items e list (slice_index s.lasts.items list) ne (λ i below. c.grow.ensures.kept i (omega arith)) (room.lasts list (omega arith))))
          (cases_eq list c.args.list));
      entries = (let len = c.grow.ensures.entry_len in let kept = c.grow.ensures.entry_capacity in let before = room.entries in omega arith);
      links = (let len = c.grow.ensures.link_len in let kept = c.grow.ensures.link_capacity in let before = room.links in omega arith);
      leasts = (let len = c.grow.ensures.least_len in let kept = c.grow.ensures.least_capacity in let before = room.leasts in omega arith);
      small = (let len = c.grow.ensures.entry_len in let before = room.small in omega arith);
      few = (let len = length-set s.lasts.items c.args.list c.len-node.result in let few = room.few in omega arith);
    }

pub returns-clause-lists : goal.returns-clause-lists
returns-clause-lists c =
    let s = c.self.inside in
    let es : List Entry = s.entries.items in
    let ks : List Link = s.links.items in
    let e : Entry = record { list = c.args.list; number = c.args.number; amount = c.args.amount } in
    let within = in_range s c.args.self.now c.args.list c.self.view_is c.requires.list in
    let entries : c.grow.new.entries.items ≡ es ++ e ∷ [] = c.grow.ensures.entries in
    let node : c.len-node.result ≡ length es = omega arith in
    let n : ℕ = length s.lasts.items in
    let lists : lists_of es n ≡ c.args.self.now.lists = ap (λ (a : Amounts). a.lists) c.self.view_is in
    let list_is = list_now s c.args.self.now c.args.list c.self.view_is c.requires.list in
    ap (lists_of c.grow.new.entries.items) (length-set s.lasts.items c.args.list c.len-node.result)
    ∙ (ap (λ (xs : List Entry). lists_of xs n) entries
    ∙ (list_set es (es ++ e ∷ []) n c.args.list (amounts_of c.args.list es ++ c.args.amount ∷ []) within (amounts_here c.args.list es e refl) (λ l ne. amounts_elsewhere l es e (λ h. ne (sym h)))
    ∙ (ap (λ xs. set xs c.args.list (amounts_of c.args.list es ++ c.args.amount ∷ [])) lists
    ∙ ap (λ xs. set c.args.self.now.lists c.args.list (xs ++ c.args.amount ∷ [])) (sym list_is))))

pub returns-clause-numbers : goal.returns-clause-numbers
returns-clause-numbers c =
    let s = c.self.inside in
    let es : List Entry = s.entries.items in
    let ks : List Link = s.links.items in
    let e : Entry = record { list = c.args.list; number = c.args.number; amount = c.args.amount } in
    let within = in_range s c.args.self.now c.args.list c.self.view_is c.requires.list in
    let entries : c.grow.new.entries.items ≡ es ++ e ∷ [] = c.grow.ensures.entries in
    let node : c.len-node.result ≡ length es = omega arith in
    let n : ℕ = length s.lasts.items in
    let part : Entry → ℕ = λ x. x.number in
    let numbers : all_of part es n ≡ c.args.self.now.numbers = ap (λ (a : Amounts). a.numbers) c.self.view_is in
    let list_is = numbers_now s c.args.self.now c.args.list c.self.view_is c.requires.list in
    ap (all_of part c.grow.new.entries.items) (length-set s.lasts.items c.args.list c.len-node.result)
    ∙ (ap (λ (xs : List Entry). all_of part xs n) entries
    ∙ (parts_set_at part es (es ++ e ∷ []) n c.args.list (numbers_of c.args.list es ++ c.args.number ∷ []) within (parts_here part c.args.list es e refl) (λ l ne. parts_elsewhere part l es e (λ h. ne (sym h)))
    ∙ (ap (λ xs. set xs c.args.list (numbers_of c.args.list es ++ c.args.number ∷ [])) numbers
    ∙ ap (λ xs. set c.args.self.now.numbers c.args.list (xs ++ c.args.number ∷ [])) (sym list_is))))
