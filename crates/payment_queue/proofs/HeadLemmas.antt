-- The foremost of the rows that stand, by the heads of bands.
use Rattle.std.proofs.Common.{◌≡◌, ◌≢◌, ◌⊎◌, ℕ, ◌+◌, ◌*◌, ◌^◌, ◌<◌, ◌≤◌, Bool, true, false, ◌&&◌, nat_eq, cond, List, [], ◌∷◌, Option, Some, None, refl, sym, ap, ◌∙◌, subst, inl, inr, arith}
use Rattle.std.specs.List.{All, filter}
use Rattle.std.specs.Option.{is_some, unwrap_or}
use Rattle.std.proofs.lemmas.Bool.{and_from, and_parts, cases_eq, eq-eqb, eqb-true, false_from_ne_true, true≢false}
use Rattle.std.proofs.lemmas.List.Elements.{All-cons, All-head, All-nil, All-tail}
use Rattle.payment_queue.specs.declared.row.Priority.{Priority}
use Rattle.payment_queue.specs.declared.row.Priority.TheVariants.{Urgent, High}
use Rattle.payment_queue.specs.declared.row.Row.{Row}
use Rattle.payment_queue.specs.declared.index.Index.{Index}
use Rattle.payment_queue.specs.Standing.{is_row_ahead, is_before, rank}
use Rattle.payment_queue.specs.Chains.{IsFirst}
use Rattle.payment_queue.specs.Queued.{first_before, foremost, head, item_of, standing}
use Rattle.payment_queue.specs.Indexed.{IsSmall, blank, item_at, key, band, live, position, row_at, slot_ahead}
use Rattle.payment_queue.specs.Kept.{IsKept}
use Rattle.payment_queue.proofs.IndexLemmas.{key_below}
use Rattle.payment_queue.proofs.LawLemmas.{first_is_foremost}
use Rattle.payment_queue.proofs.Members.{filtered_contains}
use Rattle.payment_queue.proofs.OrderLemmas.{account_from_band, ahead_order, not_normal, order, order_ahead, rank_not_normal}
use Rattle.payment_queue.proofs.Slots.{all_standing, contains_standing, row_is}

-- ---- the foremost by slots

filter_none : (p : Row → Bool) (rows : List Row) → All (λ r. p r ≡ false) rows → filter p rows ≡ []
filter_none p [] a = refl
filter_none p (r ∷ rows) a = ap (λ b. cond b (r ∷ filter p rows) (filter p rows)) (All-head (λ r. p r ≡ false) r rows a) ∙ filter_none p rows (All-tail (λ r. p r ≡ false) r rows a)

pub foremost_none : (slots : List (Option Row)) (p : Row → Bool) → ((u : ℕ) → live slots u ≡ true → p (row_at slots u) ≡ false) → foremost (filter p (standing slots)) ≡ None
unfolding foremost
foremost_none slots p none = ap foremost (filter_none p (standing slots) (all_standing (λ r. p r ≡ false) slots (λ s r e. subst (λ (o : Option Row). p (unwrap_or o blank) ≡ false) e (none s (ap is_some e)))))

all_passing : (P : Row → Type 0) (p : Row → Bool) (rows : List Row) → All (λ r. p r ≡ true → P r) rows → All P (filter p rows)
all_passing P p [] a = All-nil P
all_passing P p (r ∷ rows) a =
    let rest : All P (filter p rows) = all_passing P p rows (All-tail (λ r. p r ≡ true → P r) r rows a) in
    elim (p r) as (λ b. p r ≡ b → All P (cond b (r ∷ filter p rows) (filter p rows))) [
      | true ↦ (λ h. All-cons P r (filter p rows) (All-head (λ r. p r ≡ true → P r) r rows a h) rest)
      | false ↦ (λ h. rest)
    ] refl

-- a row that stands and passes, and is ahead of all others that do, is the foremost of them
pub foremost_is : (slots : List (Option Row)) (p : Row → Bool) (t : ℕ) → live slots t ≡ true → p (row_at slots t) ≡ true →
    ((u : ℕ) → live slots u ≡ true → p (row_at slots u) ≡ true → u ≢ t → is_row_ahead (row_at slots t) (row_at slots u) ≡ true) → foremost (filter p (standing slots)) ≡ Some (row_at slots t)
foremost_is slots p t lt pt least =
    let x : Row = row_at slots t in
    first_is_foremost (filter p (standing slots)) x (filtered_contains p (standing slots) x (contains_standing slots t x (row_is slots t lt)) pt)
    (all_passing (λ s. (s ≡ x) ⊎ (is_row_ahead x s ≡ true)) p (standing slots) (all_standing (λ s. p s ≡ true → (s ≡ x) ⊎ (is_row_ahead x s ≡ true)) slots (λ u r e ps.
    let same : row_at slots u ≡ r = ap (λ (o : Option Row). unwrap_or o blank) e in
    elim (cases_eq u t) [
      | inl is ↦ inl (sym same ∙ ap (row_at slots) is)
      | inr ne ↦ inr (subst (λ (q : Row). is_row_ahead x q ≡ true) same (least u (ap is_some e) (ap p same ∙ ps) ne))
    ])))

-- ---- heads of bands

-- a head is ahead of all others of its band
head_least : (slots : List (Option Row)) (index : Index) → IsKept slots index → (c t u : ℕ) → IsFirst (live slots) (band slots) (position slots) c 0 (Some t) →
    live slots u ≡ true → band slots u ≡ c → u ≢ t → order (row_at slots t) < order (row_at slots u)
head_least slots index k c t u f lu ln ne =
    let le : position slots t ≤ position slots u = f.toward.reaches u lu ln (omega arith) in
    let same : band slots t ≡ band slots u = f.toward.on.1 ∙ sym ln in
    let apart : position slots u ≢ position slots t =
    λ e. ne (k.apart.apart u t lu f.toward.on.0 (sym same) e) in
    let rank_same : rank (row_at slots t).priority ≡ rank (row_at slots u).priority = (account_from_band _ _ (row_at slots t).priority (row_at slots u).priority same).1 in
    omega arith

in_band : (a : ℕ) (p : Priority) (r : Row) → (nat_eq r.account a && nat_eq (rank r.priority) (rank p)) ≡ true → 3 * r.account + rank r.priority ≡ 3 * a + rank p
in_band a p r e =
    let parts = and_parts _ _ e in
    let account : r.account ≡ a = eqb-true r.account a parts.0 in
    let same : rank r.priority ≡ rank p = eqb-true (rank r.priority) (rank p) parts.1 in
    omega arith

from_band : (a : ℕ) (p : Priority) (r : Row) → 3 * r.account + rank r.priority ≡ 3 * a + rank p → (nat_eq r.account a && nat_eq (rank r.priority) (rank p)) ≡ true
from_band a p r e = let same = account_from_band r.account a r.priority p e in and_from _ _ (eq-eqb _ _ same.0) (eq-eqb _ _ same.1)

pub head_is : (slots : List (Option Row)) (index : Index) → IsKept slots index → (a : ℕ) (p : Priority) (at : Option ℕ) →
    IsFirst (live slots) (band slots) (position slots) (3 * a + rank p) 0 at → item_at slots at ≡ head (standing slots) a p
head_is slots index k a p None f = sym (ap item_of (foremost_none slots (λ r. nat_eq r.account a && nat_eq (rank r.priority) (rank p))
    (λ u lu. false_from_ne_true _ (λ e. f.toward.reaches u lu (in_band a p (row_at slots u) e) (omega arith)))))
head_is slots index k a p (Some t) f = sym (ap item_of (foremost_is slots (λ r. nat_eq r.account a && nat_eq (rank r.priority) (rank p)) t f.toward.on.0 (from_band a p (row_at slots t) f.toward.on.1)
    (λ u lu e ne. order_ahead (row_at slots t) (row_at slots u) (k.sound.places t) (k.sound.places u) (head_least slots index k (3 * a + rank p) t u f lu (in_band a p (row_at slots u) e) ne))))

-- ---- blockers

-- what stands before a row is urgent or high, on its account, and ahead of it
pub record Blocks (a : ℕ) (x r : Row) : Type 0 where
  pub account : r.account ≡ a
  pub rank : rank r.priority ≤ 1
  pub ahead : is_row_ahead r x ≡ true

blocks_of : (a : ℕ) (x r : Row) → (nat_eq r.account a && is_before r x) ≡ true → Blocks a x r
blocks_of a x r e =
    let parts = and_parts _ _ e in
    let others = and_parts _ _ parts.1 in
    record { account = eqb-true _ _ parts.0; rank = rank_not_normal r.priority others.0; ahead = others.1 }

of_blocks : (a : ℕ) (x r : Row) → Blocks a x r → (nat_eq r.account a && is_before r x) ≡ true
of_blocks a x r b = and_from _ _ (eq-eqb _ _ b.account) (and_from _ _ (not_normal r.priority b.rank) b.ahead)

-- the band of a row that blocks
band_of_blocker : (a : ℕ) (x r : Row) → Blocks a x r → (3 * r.account + rank r.priority ≡ 3 * a + 0) ⊎ (3 * r.account + rank r.priority ≡ 3 * a + 1)
band_of_blocker a x r b =
    let account : r.account ≡ a = b.account in
    let le : rank r.priority ≤ 1 = b.rank in
    elim (cases_eq (rank r.priority) 0) [ inl e ↦ inl (omega arith) | inr ne ↦ inr (omega arith) ]

module _ (slots : List (Option Row)) (index : Index) (k : IsKept slots index) (a : ℕ) (x : Row) (small : IsSmall x.place) where
  -- where the head of a band isn't ahead of the row, none of the band is
  none_ahead : (c : ℕ) (at : Option ℕ) → IsFirst (live slots) (band slots) (position slots) c 0 at → slot_ahead slots at x ≡ false →
      (u : ℕ) → live slots u ≡ true → band slots u ≡ c → is_row_ahead (row_at slots u) x ≡ true → ⊥
  none_ahead c None f h u lu ln ahead = f.toward.reaches u lu ln (omega arith)
  none_ahead c (Some t) f h u lu ln ahead = elim (cases_eq u t) [
    | inl e ↦ true≢false (sym ahead ∙ ap (λ (w : ℕ). is_row_ahead (row_at slots w) x) e ∙ h)
    | inr ne ↦ (
        let less : order (row_at slots t) < order (row_at slots u) = head_least slots index k c t u f lu ln ne in
        let before : order (row_at slots u) < order x = ahead_order (row_at slots u) x (k.sound.places u) small ahead in
        true≢false (sym (order_ahead (row_at slots t) x (k.sound.places t) small (omega arith)) ∙ h))
  ]

  -- the urgent head, where it is ahead of the row
  pub urgent_blocks : (at : Option ℕ) → IsFirst (live slots) (band slots) (position slots) (3 * a + rank Urgent) 0 at → slot_ahead slots at x ≡ true → item_at slots at ≡ first_before (standing slots) a x
  urgent_blocks None f h = absurd (true≢false (sym h))
  urgent_blocks (Some t) f h =
      let mine = account_from_band (row_at slots t).account a (row_at slots t).priority Urgent f.toward.on.1 in
      let rank_mine : rank (row_at slots t).priority ≡ 0 = mine.1 in
      let b : Blocks a x (row_at slots t) = record { account = mine.0; rank = omega arith; ahead = h } in
      sym (ap item_of (foremost_is slots (λ r. nat_eq r.account a && is_before r x) t f.toward.on.0
      (of_blocks a x (row_at slots t) b)
      (λ u lu e ne. order_ahead (row_at slots t) (row_at slots u) (k.sound.places t) (k.sound.places u) (elim (band_of_blocker a x (row_at slots u) (blocks_of a x (row_at slots u) e)) [
        | inl ln ↦ head_least slots index k (3 * a + rank Urgent) t u f lu ln ne
        | inr ln ↦ (
            let rank_other : rank (row_at slots u).priority ≡ 1 = (account_from_band (row_at slots u).account a (row_at slots u).priority High ln).1 in
            let below : key (row_at slots t).place < 2 ^ 96 = key_below (row_at slots t).place (k.sound.places t) in
            omega arith)
      ]))))

  -- else the high head, where it is
  pub high_blocks : (urgent at : Option ℕ) → IsFirst (live slots) (band slots) (position slots) (3 * a + rank Urgent) 0 urgent → slot_ahead slots urgent x ≡ false →
      IsFirst (live slots) (band slots) (position slots) (3 * a + rank High) 0 at → slot_ahead slots at x ≡ true → item_at slots at ≡ first_before (standing slots) a x
  high_blocks urgent None fu hu f h = absurd (true≢false (sym h))
  high_blocks urgent (Some t) fu hu f h =
      let mine = account_from_band (row_at slots t).account a (row_at slots t).priority High f.toward.on.1 in
      let rank_mine : rank (row_at slots t).priority ≡ 1 = mine.1 in
      let b : Blocks a x (row_at slots t) = record { account = mine.0; rank = omega arith; ahead = h } in
      sym (ap item_of (foremost_is slots (λ r. nat_eq r.account a && is_before r x) t f.toward.on.0
      (of_blocks a x (row_at slots t) b)
      (λ u lu e ne. order_ahead (row_at slots t) (row_at slots u) (k.sound.places t) (k.sound.places u) (elim (band_of_blocker a x (row_at slots u) (blocks_of a x (row_at slots u) e)) [
        | inl ln ↦ absurd (none_ahead (3 * a + rank Urgent) urgent fu hu u lu ln (blocks_of a x (row_at slots u) e).ahead)
        | inr ln ↦ head_least slots index k (3 * a + rank High) t u f lu ln ne
      ]))))

  -- else nothing stands before the row
  pub none_blocks : (urgent high : Option ℕ) → IsFirst (live slots) (band slots) (position slots) (3 * a + rank Urgent) 0 urgent → slot_ahead slots urgent x ≡ false →
      IsFirst (live slots) (band slots) (position slots) (3 * a + rank High) 0 high → slot_ahead slots high x ≡ false → None ≡ first_before (standing slots) a x
  none_blocks urgent high fu hu fh hh = sym (ap item_of (foremost_none slots (λ r. nat_eq r.account a && is_before r x)
      (λ u lu. false_from_ne_true _ (λ e. elim (band_of_blocker a x (row_at slots u) (blocks_of a x (row_at slots u) e)) [
        | inl ln ↦ none_ahead (3 * a + rank Urgent) urgent fu hu u lu ln (blocks_of a x (row_at slots u) e).ahead
        | inr ln ↦ none_ahead (3 * a + rank High) high fh hh u lu ln (blocks_of a x (row_at slots u) e).ahead
      ]))))
