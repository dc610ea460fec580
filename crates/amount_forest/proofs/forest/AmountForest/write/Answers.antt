use Rattle.std.proofs.Common.{◌≡◌, ◌<◌, ◌≤◌, ℕ, List, length, set, slice_index, ap, sym, ◌∙◌, refl, subst, arith}
use Rattle.std.proofs.lemmas.List.{length-set, get_or_read}
use Rattle.amount_forest.specs.declared.node.Entry.{Entry}
use Rattle.amount_forest.specs.declared.node.Link.{Link}
use Rattle.amount_forest.specs.Lists.{Amounts, amounts_of, lists_of}
use Rattle.amount_forest.specs.Nodes.{IsLinked, IsMended, entry_at, list_of, place_of}
use Rattle.amount_forest.proofs.SetLemmas.{linked_set, mended_set, last_set, amounts_here, amounts_other, numbers_kept, no_entry}
use Rattle.amount_forest.proofs.ForestLemmas.{in_range, list_now, list_set, parts_same, some_last}
use Rattle.amount_forest.proofs.forest.AmountForest.write.Goals as goal

pub index-requires : goal.index-requires
index-requires c =
    let within = in_range c.self.inside c.args.self.now c.args.list c.self.view_is c.requires.list in
    omega arith

pub find_by-node-requires-clause-within : goal.find_by-node-requires-clause-within
find_by-node-requires-clause-within c =
    let s = c.self.inside in
    let found = some_last s c.args.self.now c.args.list c.index.result.now c.args.place c.self.invariant c.self.view_is c.requires.list c.index.ensures c.requires.place in
    subst (λ (es : List Entry). c.index.result.now < length es) (sym c.deref.ensures.value) found.0.within

pub find_by-node-requires-clause-behind : goal.find_by-node-requires-clause-behind
find_by-node-requires-clause-behind c =
    let s = c.self.inside in
    let found = some_last s c.args.self.now c.args.list c.index.result.now c.args.place c.self.invariant c.self.view_is c.requires.list c.index.ensures c.requires.place in
    subst (λ (ks : List Link). c.args.place ≤ place_of ks c.index.result.now) (sym c.deref-2.ensures.value) found.1

pub mend-requires-clause-linked : goal.mend-requires-clause-linked
mend-requires-clause-linked c =
    let s = c.self.inside in
    let found = some_last s c.args.self.now c.args.list c.index.result.now c.args.place c.self.invariant c.self.view_is c.requires.list c.index.ensures c.requires.place in
    let es : List Entry = s.entries.items in
    let ks : List Link = s.links.items in
    let node : ℕ = c.find_by-node.result in
    let e : Entry = record { list = c.args.list; number = c.index-2.result.now.number; amount = c.args.amount } in
    let linked : IsLinked es ks = c.self.invariant.pool.linked in
    let within : node < length es = subst (λ (xs : List Entry). node < length xs) c.deref.ensures.value c.find_by-node.ensures.within in
    let list : list_of es node ≡ c.args.list = subst (λ (xs : List Entry). list_of xs node ≡ list_of xs c.index.result.now) c.deref.ensures.value c.find_by-node.ensures.list ∙ found.0.of_list in
    subst (λ (xs : List Entry). IsLinked xs c.deref-4.result.now) (sym c.deref-3.ensures.value)
    (subst (λ (xs : List Link). IsLinked (set es node e) xs) (sym c.deref-4.ensures.value) (linked_set es ks node e linked within (sym list)))

pub mend-requires-clause-others : goal.mend-requires-clause-others
mend-requires-clause-others c = λ i inner ne.
    let s = c.self.inside in
    let found = some_last s c.args.self.now c.args.list c.index.result.now c.args.place c.self.invariant c.self.view_is c.requires.list c.index.ensures c.requires.place in
    let es : List Entry = s.entries.items in
    let ks : List Link = s.links.items in
    let node : ℕ = c.find_by-node.result in
    let e : Entry = record { list = c.args.list; number = c.index-2.result.now.number; amount = c.args.amount } in
    let linked : IsLinked es ks = c.self.invariant.pool.linked in
    let within : node < length es = subst (λ (xs : List Entry). node < length xs) c.deref.ensures.value c.find_by-node.ensures.within in
    let list : list_of es node ≡ c.args.list = subst (λ (xs : List Entry). list_of xs node ≡ list_of xs c.index.result.now) c.deref.ensures.value c.find_by-node.ensures.list ∙ found.0.of_list in
    let len : length c.deref-3.result.now ≡ length es = ap length c.deref-3.ensures.value ∙ length-set es node e in
    subst (λ (xs : List Entry). IsMended xs c.deref-4.result.now s.leasts.items i) (sym c.deref-3.ensures.value)
    (subst (λ (xs : List Link). IsMended (set es node e) xs s.leasts.items i) (sym c.deref-4.ensures.value) (mended_set es ks s.leasts.items node i e ne (c.self.invariant.pool.mended i (omega arith))))

pub invariant_of-self : goal.invariant_of-self
invariant_of-self c =
    let s = c.self.inside in
    let found = some_last s c.args.self.now c.args.list c.index.result.now c.args.place c.self.invariant c.self.view_is c.requires.list c.index.ensures c.requires.place in
    let es : List Entry = s.entries.items in
    let ks : List Link = s.links.items in
    let node : ℕ = c.find_by-node.result in
    let e : Entry = record { list = c.args.list; number = c.index-2.result.now.number; amount = c.args.amount } in
    let linked : IsLinked es ks = c.self.invariant.pool.linked in
    let within : node < length es = subst (λ (xs : List Entry). node < length xs) c.deref.ensures.value c.find_by-node.ensures.within in
    let list : list_of es node ≡ c.args.list = subst (λ (xs : List Entry). list_of xs node ≡ list_of xs c.index.result.now) c.deref.ensures.value c.find_by-node.ensures.list ∙ found.0.of_list in
    let room = c.self.invariant in
    let len : length (set es node e) ≡ length es = length-set es node e in
    record {
      pool = record {
        linked = linked_set es ks node e linked within (sym list);
        size = c.mend.ensures.size ∙ (room.pool.size ∙ sym len);
        mended = λ i inner.
            subst (λ (xs : List Entry). IsMended xs ks c.mend.new.leasts.items i) c.deref-3.ensures.value
            (subst (λ (xs : List Link). IsMended c.deref-3.result.now xs c.mend.new.leasts.items i) c.deref-4.ensures.value
            (c.mend.ensures.mended i (subst (λ (xs : List Entry). i < length xs) (sym c.deref-3.ensures.value) inner)));
      };
      lasts = λ l inner. last_set es ks node c.args.list l (slice_index s.lasts.items l) e linked within list refl (room.lasts l inner);
      entries = room.entries;
      links = room.links;
      leasts = (let same = c.mend.ensures.len in let kept = c.mend.ensures.capacity in let before = room.leasts in omega arith);
      small = room.small;
      few = room.few;
    }

pub returns-clause-lists : goal.returns-clause-lists
returns-clause-lists c =
    let s = c.self.inside in
    let found = some_last s c.args.self.now c.args.list c.index.result.now c.args.place c.self.invariant c.self.view_is c.requires.list c.index.ensures c.requires.place in
    let es : List Entry = s.entries.items in
    let ks : List Link = s.links.items in
    let node : ℕ = c.find_by-node.result in
    let e : Entry = record { list = c.args.list; number = c.index-2.result.now.number; amount = c.args.amount } in
    let linked : IsLinked es ks = c.self.invariant.pool.linked in
    let within : node < length es = subst (λ (xs : List Entry). node < length xs) c.deref.ensures.value c.find_by-node.ensures.within in
    let list : list_of es node ≡ c.args.list = subst (λ (xs : List Entry). list_of xs node ≡ list_of xs c.index.result.now) c.deref.ensures.value c.find_by-node.ensures.list ∙ found.0.of_list in
    let n : ℕ = length s.lasts.items in
    let place : place_of ks node ≡ c.args.place = subst (λ (xs : List Link). place_of xs node ≡ c.args.place) c.deref-2.ensures.value c.find_by-node.ensures.place in
    let lists : lists_of es n ≡ c.args.self.now.lists = ap (λ (a : Amounts). a.lists) c.self.view_is in
    let list_is = list_now s c.args.self.now c.args.list c.self.view_is c.requires.list in
    list_set es (set es node e) n c.args.list (set (amounts_of c.args.list es) c.args.place c.args.amount) (in_range s c.args.self.now c.args.list c.self.view_is c.requires.list)
    (amounts_here es ks node c.args.list c.args.place e linked within list place refl)
    (λ l ne. amounts_other es node c.args.list l e within list refl ne)
    ∙ (ap (λ xs. set xs c.args.list (set (amounts_of c.args.list es) c.args.place c.args.amount)) lists
    ∙ ap (λ xs. set c.args.self.now.lists c.args.list (set xs c.args.place c.args.amount)) (sym list_is))

pub returns-clause-numbers : goal.returns-clause-numbers
returns-clause-numbers c =
    let s = c.self.inside in
    let found = some_last s c.args.self.now c.args.list c.index.result.now c.args.place c.self.invariant c.self.view_is c.requires.list c.index.ensures c.requires.place in
    let es : List Entry = s.entries.items in
    let ks : List Link = s.links.items in
    let node : ℕ = c.find_by-node.result in
    let e : Entry = record { list = c.args.list; number = c.index-2.result.now.number; amount = c.args.amount } in
    let linked : IsLinked es ks = c.self.invariant.pool.linked in
    let within : node < length es = subst (λ (xs : List Entry). node < length xs) c.deref.ensures.value c.find_by-node.ensures.within in
    let list : list_of es node ≡ c.args.list = subst (λ (xs : List Entry). list_of xs node ≡ list_of xs c.index.result.now) c.deref.ensures.value c.find_by-node.ensures.list ∙ found.0.of_list in
    let n : ℕ = length s.lasts.items in
    let part : Entry → ℕ = λ x. x.number in
    let number : c.index-2.result.now.number ≡ (entry_at es node).number = ap part (get_or_read es node c.index-2.result.now within c.index-2.ensures no_entry) in
    parts_same part es (set es node e) n (λ l. numbers_kept es node c.args.list l e within list refl number)
    ∙ ap (λ (a : Amounts). a.numbers) c.self.view_is
