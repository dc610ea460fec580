use Rattle.std.proofs.Common.{◌≡◌, ◌≢◌, ◌<◌, ℕ, List, Option, None, length, ap, sym, ◌∙◌, subst, ⊎_elim, arith}
use Rattle.std.proofs.lemmas.Bool.{cases_eq}
use Rattle.std.proofs.lemmas.List.{get_or_read, length-set}
use Rattle.amount_forest.specs.Nodes.{IsMended, least_for}
use Rattle.amount_forest.proofs.NodeLemmas.{mended_more}
use Rattle.amount_forest.proofs.mending.mend.Goals as goal

pub loop-at-preserved : goal.loop-at-preserved
loop-at-preserved c =
    let ms : List (Option ℕ) = c.loop-at.leasts.items in
    let at : ℕ = c.loop-at.at in
    let amount : Option ℕ = c.least_for-amount.result in
    let here : at < length c.args.entries.now = c.loop-at.invariant.within c.loop-at-test.true in
    let is : amount ≡ least_for c.args.entries.now c.args.links.now ms at =
    c.least_for-amount.ensures ∙ ap (λ (ns : List (Option ℕ)). least_for c.args.entries.now c.args.links.now ns at) c.deref.ensures.value in
    record {
      within = c.requires.linked.up_within at here;
      others = λ i within free.
          mended_more c.args.entries.now c.args.links.now ms at i amount c.requires.linked c.loop-at.invariant.size here is within free (c.loop-at.invariant.others i within);
      size = length-set ms at amount ∙ c.loop-at.invariant.size;
      len = c.loop-at.invariant.len;
      capacity = c.loop-at.invariant.capacity;
    }

-- the node has its least amount already, so those above it have theirs
pub returns-then-is_same-clause-mended : goal.returns-then-is_same-clause-mended
returns-then-is_same-clause-mended c = λ i within.
    let ms : List (Option ℕ) = c.loop-at.leasts.items in
    let at : ℕ = c.loop-at.at in
    let here : at < length c.args.entries.now = c.loop-at.invariant.within c.loop-at-test.true in
    let size = c.loop-at.invariant.size in
    let inner : at < length ms = omega (arith, here, size) in
    let is : c.least_for-amount.result ≡ least_for c.args.entries.now c.args.links.now ms at =
    c.least_for-amount.ensures ∙ ap (λ (ns : List (Option ℕ)). least_for c.args.entries.now c.args.links.now ns at) c.deref.ensures.value in
    let own : IsMended c.args.entries.now c.args.links.now ms at = sym (get_or_read ms at c.index.result.now inner c.index.ensures None) ∙ (c.is_same.ensures c.if-is_same.true ∙ is) in
    ⊎_elim
    (λ (e : i ≡ at). subst (λ (n : ℕ). IsMended c.args.entries.now c.args.links.now ms n) (sym e) own)
    (λ (ne : i ≢ at). c.loop-at.invariant.others i within ne)
    (cases_eq i at)
