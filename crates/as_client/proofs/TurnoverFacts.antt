-- What accounts have received and paid, one trade further.
use Rattle.std.proofs.Common.{◌≡◌, ℕ, ◌+◌, ◌<◌, ◌≤◌, Bool, true, false, List, [], ◌∷◌, ◌++◌, length, take, get_or, map, filter, refl, ap, ◌∙◌, sym, subst, arith, slice_get, unwrap_or, Option, None, Some, if◌then◌else◌}
use Rattle.std.specs.Prelude.{sum_by}
use Rattle.std.specs.Option.{option_map}
use Rattle.std.proofs.lemmas.List.{take_more}
use Rattle.std.proofs.lemmas.List.Elements.{filter-append}
use Rattle.std.proofs.lemmas.Option.{slice_get-map, slice_get-get_or}
use Rattle.std.proofs.lemmas.List.Sums.{sum_by_push, sum_by_more_le_part, sum_by-le-sum_by}
use Rattle.indexmap.specs.IndexMap.{IndexMap, get, keys}
use Rattle.cash_amounts.specs.declared.cents.TheConstants.{MAX_CENTS}
use Rattle.cash_amounts.specs.Tests.{same_name}
use Rattle.account_book.proofs.SoundLemmas.{same_names}
use Rattle.as_client.specs.declared.netting.Turnover.{Turnover}
use Rattle.as_client.specs.declared.trade.Position.{Position}
use Rattle.as_client.specs.declared.trade.Trade.{Trade}
use Rattle.as_client.specs.Netting.{accounts_of, amount_of_trade, is_open, net, paid, paid_of, received, received_of}
use Rattle.as_client.specs.Turnovers.{AreTurnovers, HasRoom, IsSmall, left, position_in, turnover_in, turnover_of, with_more, with_name, with_trade}
use Rattle.as_client.proofs.NameFacts.{accounts-more}

same_turnover : (t u : Turnover) → t.received ≡ u.received → t.paid ≡ u.paid → t ≡ u
same_turnover t u e f = λ j. record { received = e j; paid = f j }

-- ---- a trade is added to its payer and then to its payee

module _ (t : Trade) (old mid new : List ℕ → Turnover)
    (first : (a : List ℕ) → mid a ≡ (if same_name t.payer a then with_more (old t.payer) 0 t.amount else old a))
    (second : (a : List ℕ) → new a ≡ (if same_name t.payee a then with_more (mid t.payee) t.amount 0 else mid a)) where
  mid_is : (a : List ℕ) → mid a ≡ with_more (old a) 0 (paid_of a t)
  mid_is a = by (same_name t.payer a) refl (first a)
    where
      by : (b : Bool) → same_name t.payer a ≡ b → mid a ≡ (if b then with_more (old t.payer) 0 t.amount else old a) → mid a ≡ with_more (old a) 0 (if b then t.amount else 0)
      by true e h = h ∙ ap (λ n. with_more (old n) 0 t.amount) (same_names t.payer a e)
      by false e h = h ∙ same_turnover (old a) (with_more (old a) 0 0) (omega arith) (omega arith)

  pub added_twice : (a : List ℕ) → new a ≡ with_trade t a (old a)
  added_twice a = by (same_name t.payee a) refl (second a)
    where
      step : (x : ℕ) → mid a ≡ with_more (old a) 0 (paid_of a t) → with_more (mid a) x 0 ≡ with_more (old a) x (paid_of a t)
      step x h =
          ap (λ m. with_more m x 0) h
          ∙ same_turnover (with_more (with_more (old a) 0 (paid_of a t)) x 0) (with_more (old a) x (paid_of a t)) (omega arith) (omega arith)

      by : (b : Bool) → same_name t.payee a ≡ b → new a ≡ (if b then with_more (mid t.payee) t.amount 0 else mid a) → new a ≡ with_more (old a) (if b then t.amount else 0) (paid_of a t)
      by true e h = h ∙ ap (λ n. with_more (mid n) t.amount 0) (same_names t.payee a e) ∙ step t.amount (mid_is a)
      by false e h = h ∙ mid_is a

-- after the payer there is still room for the payee
pub room_left : (t : Trade) (old mid : List ℕ → Turnover) → ((a : List ℕ) → mid a ≡ (if same_name t.payer a then with_more (old t.payer) 0 t.amount else old a))
    → ((a : List ℕ) → HasRoom (old a) t.amount) → (a : List ℕ) → ((mid a).received + t.amount ≤ MAX_CENTS) × ((mid a).paid + 0 ≤ MAX_CENTS)
room_left t old mid first room a = by (same_name t.payer a) (first a)
  where
    by : (b : Bool) → mid a ≡ (if b then with_more (old t.payer) 0 t.amount else old a) → ((mid a).received + t.amount ≤ MAX_CENTS) × ((mid a).paid + 0 ≤ MAX_CENTS)
    by true h =
        let own = room t.payer in
        let r : (mid a).received ≡ (old t.payer).received + 0 = ap (λ (m : Turnover). m.received) h in
        let p : (mid a).paid ≡ (old t.payer).paid + t.amount = ap (λ (m : Turnover). m.paid) h in
        (omega (arith, own.0), omega (arith, own.1))
    by false h =
        let own = room a in
        let r : (mid a).received ≡ (old a).received = ap (λ (m : Turnover). m.received) h in
        let p : (mid a).paid ≡ (old a).paid = ap (λ (m : Turnover). m.paid) h in
        (omega (arith, own.0), omega (arith, own.1))

-- ---- one trade more

part_of : (b : Bool) (n : ℕ) → (if b then n else 0) ≤ n
part_of true n = omega arith
part_of false n = omega arith

turnover-more : (trades : List Trade) (t : Trade) (a : List ℕ) → with_trade t a (turnover_of trades a) ≡ turnover_of (trades ++ t ∷ []) a
turnover-more trades t a =
    same_turnover (with_trade t a (turnover_of trades a)) (turnover_of (trades ++ t ∷ []) a) (sym (sum_by_push (received_of a) trades t)) (sym (sum_by_push (paid_of a) trades t))

next_is : (trades : List Trade) (i : ℕ) (t : Trade) → i < length trades → t ≡ get_or trades i t → take (i + 1) trades ≡ take i trades ++ t ∷ []
next_is trades i t within is = take_more trades i t within ∙ ap (λ x. take i trades ++ x ∷ []) (sym is)

module _ {S : Type 0} (trades : List Trade) (i : ℕ) (t : Trade) (within : i < length trades) (is : t ≡ get_or trades i t) where
  pub turnovers-more : (old new : IndexMap (List ℕ) Turnover S) → AreTurnovers (take i trades) old → keys new ≡ with_name (with_name (keys old) t.payer) t.payee
      → ((a : List ℕ) → turnover_in new a ≡ with_trade t a (turnover_in old a)) → AreTurnovers (take (i + 1) trades) new
  turnovers-more old new before names added = record {
    accounts = names ∙ ap (λ ks. with_name (with_name ks t.payer) t.payee) before.accounts ∙ sym (accounts-more (take i trades) t) ∙ ap accounts_of (sym (next_is trades i t within is));
    each = λ a. added a ∙ ap (with_trade t a) (before.each a) ∙ turnover-more (take i trades) t a ∙ ap (λ ts. turnover_of ts a) (sym (next_is trades i t within is));
  }

  pub room_for : (old : IndexMap (List ℕ) Turnover S) → AreTurnovers (take i trades) old → sum_by amount_of_trade trades ≤ MAX_CENTS → (a : List ℕ) → HasRoom (turnover_in old a) t.amount
  room_for old before small a =
      let own : t.amount ≡ (get_or trades i t).amount = ap (λ (x : Trade). x.amount) is in
      let r = sum_by_more_le_part (received_of a) amount_of_trade trades i t within (λ x. part_of (same_name x.payee a) x.amount) in
      let p = sum_by_more_le_part (paid_of a) amount_of_trade trades i t within (λ x. part_of (same_name x.payer a) x.amount) in
      let rs : (turnover_in old a).received ≡ received a (take i trades) = ap (λ (m : Turnover). m.received) (before.each a) in
      let ps : (turnover_in old a).paid ≡ paid a (take i trades) = ap (λ (m : Turnover). m.paid) (before.each a) in
      (omega arith, omega arith)

-- ---- all trades

module _ {S : Type 0} (trades : List Trade) (turnovers : IndexMap (List ℕ) Turnover S) (are : AreTurnovers trades turnovers) where
  pub small_turnovers : sum_by amount_of_trade trades ≤ MAX_CENTS → (a : List ℕ) → IsSmall (turnover_in turnovers a)
  small_turnovers small a =
      let r = sum_by-le-sum_by (received_of a) amount_of_trade trades (λ x. part_of (same_name x.payee a) x.amount) in
      let p = sum_by-le-sum_by (paid_of a) amount_of_trade trades (λ x. part_of (same_name x.payer a) x.amount) in
      let rs : (turnover_in turnovers a).received ≡ received a trades = ap (λ (m : Turnover). m.received) (are.each a) in
      let ps : (turnover_in turnovers a).paid ≡ paid a trades = ap (λ (m : Turnover). m.paid) (are.each a) in
      (omega arith, omega arith)

  pub net_is : filter is_open (map (position_in turnovers) (keys turnovers)) ≡ net trades
  unfolding net
  net_is = λ j. filter is_open (map (λ a. record { account = a; sum = left (are.each a j) }) (are.accounts j))

-- ---- the positions of the accounts

module _ {S : Type 0} (m : IndexMap (List ℕ) Turnover S) where
  positions_by_entries : (i : ℕ) → slice_get (map (position_in m) (keys m)) i ≡ option_map (λ e. position_in m e.0) (slice_get m.entries i)
  positions_by_entries i = slice_get-map (position_in m) (keys m) i ∙ ap (option_map (position_in m)) (slice_get-map (λ e. e.0) m.entries i) ∙ by (slice_get m.entries i)
    where
      by : (o : Option (List ℕ × Turnover)) → option_map (position_in m) (option_map (λ e. e.0) o) ≡ option_map (λ e. position_in m e.0) o
      by None = refl
      by (Some e) = refl

  -- the turnover that is found is the account's
  pub found_turnover : (account : List ℕ) (t : Turnover) → get same_name m account ≡ Some t → turnover_in m account ≡ t
  found_turnover account t e = ap (λ o. unwrap_or o (record { received = 0; paid = 0 })) e

  pub small_found : (account : List ℕ) (t : Turnover) → get same_name m account ≡ Some t → ((other : List ℕ) → IsSmall (turnover_in m other)) → IsSmall t
  small_found account t found small = subst IsSmall (found_turnover account t found) (small account)

  pub position_found : (i : ℕ) (account : List ℕ) (t : Turnover) → slice_get m.entries i ≡ Some (account, t) → get same_name m account ≡ Some t
      → slice_get (map (position_in m) (keys m)) i ≡ Some (record { account = account; sum = left t })
  position_found i account t there found =
      let same = found_turnover account t found in
      positions_by_entries i ∙ ap (option_map (λ e. position_in m e.0)) there ∙ (λ j. Some (record { account = account; sum = left (same j) }))

-- the positions up to a place, and the next
pub positions-more : (test : Position → Bool) (ps : List Position) (i : ℕ) (p : Position) → i < length ps → slice_get ps i ≡ Some p
    → filter test (take (i + 1) ps) ≡ filter test (take i ps) ++ filter test (p ∷ [])
positions-more test ps i p within there =
    let at : Some (get_or ps i p) ≡ Some p = sym (slice_get-get_or ps i p within) ∙ there in
    let same : get_or ps i p ≡ p = cc in
    ap (filter test) (take_more ps i p within ∙ ap (λ q. take i ps ++ q ∷ []) same) ∙ filter-append test (take i ps) (p ∷ [])
