use Rattle.std.proofs.Common.{◌≡◌, ◌<◌, ◌+◌, ◌++◌, [], ◌∷◌, ℕ, List, Option, None, length, length-append, ap, sym, ◌∙◌, subst, arith}
use Rattle.amount_forest.specs.declared.node.Entry.{Entry}
use Rattle.amount_forest.specs.declared.node.Link.{Link}
use Rattle.amount_forest.specs.Nodes.{IsLinked, IsMended, IsNew}
use Rattle.amount_forest.proofs.GrowLemmas.{linked_more, mended_old}
use Rattle.amount_forest.proofs.growing.grow.Goals as goal

pub mend-requires-clause-linked : goal.mend-requires-clause-linked
mend-requires-clause-linked c =
    let es : List Entry = c.args.entries.now.items in
    let ks : List Link = c.args.links.now.items in
    let ms : List (Option ℕ) = c.args.leasts.now.items in
    let e : Entry = c.args.entry in
    let hs : List Link = c.next_link-link.new.links.items in
    let k : Link = c.next_link-link.result in
    let fresh : IsNew es ks hs e.list k = subst (λ (xs : List Entry). IsNew xs ks hs e.list k) c.deref.ensures.value c.next_link-link.ensures.new in
    let entries_now = rw c.unwrap.ensures at c.push.ensures.items in
    let links_now = rw c.unwrap-2.ensures at c.push-2.ensures.items in
    let entries : c.push.new.self.items ≡ es ++ e ∷ [] = entries_now in
    let links : c.push-2.new.self.items ≡ hs ++ k ∷ [] = links_now in
    subst (λ (xs : List Entry). IsLinked xs c.deref-3.result.now) (sym (c.deref-2.ensures.value ∙ entries))
    (subst (λ (xs : List Link). IsLinked (es ++ e ∷ []) xs) (sym (c.deref-3.ensures.value ∙ links)) (linked_more es ks hs e k c.requires.pool.linked fresh))

pub mend-requires-clause-others : goal.mend-requires-clause-others
mend-requires-clause-others c = λ i within other.
    let es : List Entry = c.args.entries.now.items in
    let ks : List Link = c.args.links.now.items in
    let ms : List (Option ℕ) = c.args.leasts.now.items in
    let e : Entry = c.args.entry in
    let hs : List Link = c.next_link-link.new.links.items in
    let k : Link = c.next_link-link.result in
    let fresh : IsNew es ks hs e.list k = subst (λ (xs : List Entry). IsNew xs ks hs e.list k) c.deref.ensures.value c.next_link-link.ensures.new in
    let entries_now = rw c.unwrap.ensures at c.push.ensures.items in
    let links_now = rw c.unwrap-2.ensures at c.push-2.ensures.items in
    let entries : c.push.new.self.items ≡ es ++ e ∷ [] = entries_now in
    let links : c.push-2.new.self.items ≡ hs ++ k ∷ [] = links_now in
    let leasts_now = rw c.unwrap-3.ensures at c.push-3.ensures.items in
    let leasts : c.push-3.new.self.items ≡ ms ++ None ∷ [] = leasts_now in
    let len : length c.deref-2.result.now ≡ length es + 1 = ap length (c.deref-2.ensures.value ∙ entries) ∙ length-append es (e ∷ []) in
    let count : c.len-node.result ≡ length es = omega arith in
    let less : i < length es = omega (arith, other) in
    subst (λ (xs : List Entry). IsMended xs c.deref-3.result.now c.push-3.new.self.items i) (sym (c.deref-2.ensures.value ∙ entries))
    (subst (λ (xs : List Link). IsMended (es ++ e ∷ []) xs c.push-3.new.self.items i) (sym (c.deref-3.ensures.value ∙ links))
    (subst (λ (xs : List (Option ℕ)). IsMended (es ++ e ∷ []) (hs ++ k ∷ []) xs i) (sym leasts) (mended_old es ks hs ms e k i c.requires.pool fresh less)))

pub returns-clause-pool : goal.returns-clause-pool
returns-clause-pool c =
    let es : List Entry = c.args.entries.now.items in
    let ks : List Link = c.args.links.now.items in
    let ms : List (Option ℕ) = c.args.leasts.now.items in
    let e : Entry = c.args.entry in
    let hs : List Link = c.next_link-link.new.links.items in
    let k : Link = c.next_link-link.result in
    let fresh : IsNew es ks hs e.list k = subst (λ (xs : List Entry). IsNew xs ks hs e.list k) c.deref.ensures.value c.next_link-link.ensures.new in
    let entries_now = rw c.unwrap.ensures at c.push.ensures.items in
    let links_now = rw c.unwrap-2.ensures at c.push-2.ensures.items in
    let entries : c.push.new.self.items ≡ es ++ e ∷ [] = entries_now in
    let links : c.push-2.new.self.items ≡ hs ++ k ∷ [] = links_now in
    record {
      linked =
          subst (λ (xs : List Entry). IsLinked xs c.push-2.new.self.items) (sym entries)
          (subst (λ (xs : List Link). IsLinked (es ++ e ∷ []) xs) (sym links) (linked_more es ks hs e k c.requires.pool.linked fresh));
      size =
          (let leasts_now = rw c.unwrap-3.ensures at c.push-3.ensures.items in
          let leasts : c.push-3.new.self.items ≡ ms ++ None ∷ [] = leasts_now in
          let len : length c.push-3.new.self.items ≡ length ms + 1 = ap length leasts ∙ length-append ms (None ∷ []) in
          let len_entries : length c.push.new.self.items ≡ length es + 1 = ap length entries ∙ length-append es (e ∷ []) in
          let same : length ms ≡ length es = c.requires.pool.size in
          let mended = c.mend.ensures.size in
          omega arith);
      mended = λ i within.
          subst (λ (xs : List Entry). IsMended xs c.push-2.new.self.items c.mend.new.leasts.items i) c.deref-2.ensures.value
          (subst (λ (xs : List Link). IsMended c.deref-2.result.now xs c.mend.new.leasts.items i) c.deref-3.ensures.value
          (c.mend.ensures.mended i (subst (λ (xs : List Entry). i < length xs) (sym c.deref-2.ensures.value) within)));
    }
