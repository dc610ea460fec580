use Rattle.std.proofs.Common.{◌≡◌, ◌∙◌, ℕ, List, Bool, true, set, length, ap, arith, refl, get_or-set_same, get_or-set_other, ⊎_elim}
use Rattle.std.proofs.lemmas.Bool.{cases_eq}
use Rattle.std.proofs.lemmas.List.{length-set}
use Rattle.number_set.specs.Members.{has}
use Rattle.payment_queue.proofs.KeptLemmas.{filled}
use Rattle.payment_queue.proofs.rows.free_more.Goals as goal

pub loop-n-init : goal.loop-n-init
loop-n-init c = record {
  size = refl;
  room = refl;
  before = λ k h. refl;
  members = λ k low high. absurd (omega (arith, low, high));
}

pub loop-n-preserved : goal.loop-n-preserved
loop-n-preserved c =
    let old : List Bool = c.loop-n.free.set in
    let n : ℕ = c.loop-n.n in
    let size = c.loop-n.invariant.size in
    let end = c.bound-end.ensures in
    let low = c.loop-n-test.true in
    let from = c.loop-n.auto.n in
    record {
      size = ap length c.insert.ensures.set ∙ (length-set old n true ∙ size);
      room = c.insert.ensures.room ∙ c.loop-n.invariant.room;
      before = λ k h. ap (λ (xs : List Bool). has xs k) c.insert.ensures.set ∙ (get_or-set_other old n k true _ (λ e. omega (arith, h, e, from)) ∙ c.loop-n.invariant.before k h);
      members = λ k more less.
          ap (λ (xs : List Bool). has xs k) c.insert.ensures.set
          ∙ ⊎_elim
          (λ (e : k ≡ n). ap (has (set old n true)) e ∙ get_or-set_same old n true _ (omega (arith, size, end, low)))
          (λ (ne : (k ≡ n) → ⊥). get_or-set_other old n k true _ ne ∙ c.loop-n.invariant.members k more (omega (arith, less, ne)))
          (cases_eq k n);
    }

pub returns-clause-set : goal.returns-clause-set
returns-clause-set c =
    let last = c.loop-n-test.false in
    filled c.args.free.now.set c.grow.new.self.set c.loop-n.free.set c.bound-first.result c.bound-end.result c.args.by c.bound-first.ensures c.grow.ensures.set c.bound-end.ensures c.loop-n.invariant.size c.loop-n.invariant.before (λ k more less. c.loop-n.invariant.members k more (omega (arith, less, last)))

pub returns-clause-room : goal.returns-clause-room
returns-clause-room c =
    let room = c.loop-n.invariant.room in
    let grown = c.grow.ensures.room in
    omega (arith, room, grown)
