-- Down a chain.
use Rattle.std.proofs.Common.{◌≡◌, ◌∙◌, ℕ, ◌-◌, ◌<◌, ◌≤◌, Bool, true, false, ◌||◌, Some, None, length, refl, sym, ap, subst, arith, ◌⊎◌, inl, inr, ⊎_elim, if◌then◌else◌}
use Rattle.std.specs.Prelude.{nat_eq, slice_index_or}
use Rattle.std.proofs.lemmas.Bool.{cases_lt}
use Rattle.batch_records.specs.DayRecord.{Day}
use Rattle.commit_journal.specs.Line.{History}
use Rattle.settlement_laws.proofs.Base.Lists.{never}
use Rattle.day_facts.specs.Facts.{Facts, StandsFor}
use Rattle.due_items.specs.declared.chain.Key.{Key}
use Rattle.due_items.specs.declared.chain.Key.TheVariants as keys
use Rattle.due_items.specs.declared.row.Room.{Room}
use Rattle.due_items.specs.Chains.{Chain, chain_of, has_key, is_cycle_end, last_of, system_of}
use Rattle.due_items.specs.Noting.{is_end_before}
use Rattle.machine.specs.Words.{some_passes}
use Rattle.machine.specs.Records.Messages.{is_c, sort_of}
use Rattle.settlement_laws.proofs.Base.Places.{same-number}
use Rattle.due_items.specs.Index.{Index, IsIndexOf, chain_in, index_of}
use Rattle.due_items.specs.Renewing.{Flags, HaveRoom, IsDownTo, IsOf, Renews, RenewsBy}
use Rattle.due_items.proofs.ChainFacts.{last-above, last-le, last-passes, newest-at, older-is}
use Rattle.due_items.proofs.Renews.{renews_fewer, renews_none, renews_then}

chain_is : (day : Day) (key : Key) (room : Room) → chain_in key (index_of day room) ≡ chain_of key day room.messages
chain_is day keys.Info room = refl
chain_is day keys.From room = refl
chain_is day keys.Till room = refl
chain_is day keys.Cycle room = refl

-- what is kept on the way: all above this one is up to date, and this one has the key, or is none
pub record IsOnWay (day : Day) (K : History) (key : Key) (t b at : ℕ) (old new : Flags) : Type 0 where
  pub renews : Renews day K (IsDownTo key day t b at) old new
  pub here : (at ≡ 0) ⊎ (has_key key day t at ≡ true)
  pub low : at ≤ b

abbrev pub Walks : Day → Facts → Index → Key → ℕ → ℕ → Flags → Flags → Type 0
Walks day facts index key start at old new = (K : History) → StandsFor day K facts → IsIndexOf day index → HaveRoom day old → (t b : ℕ) → t < 86401 → b ≤ length day.messages → start ≡ last_of (has_key key day t) b → IsOnWay day K key t b at old new

pub walk_first : (day : Day) (facts : Facts) (index : Index) (key : Key) (start : ℕ) (set : Flags) → Walks day facts index key start start set set
walk_first day facts index key start set K stands e len t b below last is = record {
  renews = renews_none day K (IsDownTo key day t b start) set len (λ m j item down.
      let up = down.beyond in
      never (has_key key day t m) down.keyed (last-above (has_key key day t) b m (omega (arith, up, is)) down.within));
  here = subst (λ x. (x ≡ 0) ⊎ (has_key key day t x ≡ true)) (sym is) (last-passes (has_key key day t) b);
  low = let l = last-le (has_key key day t) b in omega (arith, l, is);
}

pub walk_next : (day : Day) (facts : Facts) (index : Index) (key : Key) (start at older : ℕ) (a b c : Flags) → (at ≡ 0 → ⊥) → older ≡ slice_index_or (chain_in key index).older (at - 1) 0 → Walks day facts index key start at a b → RenewsBy day facts index (λ K. IsOf at) b c → Walks day facts index key start older a c
walk_next day facts index key start at older a b c ne o walk step K stands e len t top below last is = record {
  renews = renews_then day K (IsDownTo key day t top at) (IsOf at) (IsDownTo key day t top older) a b c way.renews (step K stands e way.renews.room) (λ m j item down. parts m j down (cases_lt at m) (cases_lt m at));
  here = subst (λ x. (x ≡ 0) ⊎ (has_key key day t x ≡ true)) (sym next) (last-passes (has_key key day t) (at - 1));
  low = let l = last-le (has_key key day t) (at - 1) in let w = way.low in omega (arith, l, next, w);
}
  where
    way : IsOnWay day K key t top at a b
    way = walk K stands e len t top below last is

    keyed : has_key key day t at ≡ true
    keyed = ⊎_elim (λ (z : at ≡ 0). absurd (ne z)) (λ (k : has_key key day t at ≡ true). k) way.here

    next : older ≡ last_of (has_key key day t) (at - 1)
    next =
        let w = way.low in
        o ∙ ap (λ (x : Index). slice_index_or (chain_in key x).older (at - 1) 0) e
        ∙ ap (λ (x : Chain). slice_index_or x.older (at - 1) 0) (chain_is day key index.row.room)
        ∙ older-is key day t at below (omega (arith, ne)) (omega (arith, w, last)) keyed

    parts : (m j : ℕ) → IsDownTo key day t top older m j → (at < m) ⊎ (m ≤ at) → (m < at) ⊎ (at ≤ m) → IsDownTo key day t top at m j ⊎ IsOf at m j
    parts m j down (inl h) q = inl (record { keyed = down.keyed; beyond = h; within = down.within })
    parts m j down (inr h) (inr q) = inr (omega (arith, h, q))
    parts m j down (inr h) (inl q) =
        let up = down.beyond in
        never (has_key key day t m) down.keyed (last-above (has_key key day t) (at - 1) m (omega (arith, up, next)) (omega (arith, q)))

pub walk_last : (day : Day) (facts : Facts) (index : Index) (key : Key) (start at : ℕ) (old new : Flags) → at ≡ 0 → Walks day facts index key start at old new → (K : History) → StandsFor day K facts → IsIndexOf day index → HaveRoom day old → (t b : ℕ) → t < 86401 → b ≤ length day.messages → start ≡ last_of (has_key key day t) b → Renews day K (IsDownTo key day t b 0) old new
walk_last day facts index key start at old new z walk K stands e len t b below last is =
    renews_fewer day K (IsDownTo key day t b at) (IsDownTo key day t b 0) old new (walk K stands e len t b below last is).renews (λ m j item down. let up = down.beyond in record { keyed = down.keyed; beyond = omega (arith, up, z); within = down.within })

-- a number that passes isn't above the last one
last-low : (test : ℕ → Bool) (n at : ℕ) → test at ≡ true → at ≤ n → at ≤ last_of test n
last-low test n at p within = ⊎_elim
    (λ (above : last_of test n < at). never (test at) p (last-above test n at above within))
    (λ (low : at ≤ last_of test n). low)
    (cases_lt (last_of test n) at)

abbrev Cycled : Day → History → Index → ℕ → ℕ → Flags → Flags → Type 0
Cycled day K index n start old new = IsIndexOf day index → HaveRoom day old → (t b : ℕ) → t < 86401 → b ≤ length day.messages → start ≡ last_of (has_key keys.Cycle day t) b → Renews day K (IsDownTo keys.Cycle day t b (last_of (is_end_before day K n) b)) old new

-- the walk ends after all messages
pub cycle_last : (day : Day) (facts : Facts) (index : Index) (n start at : ℕ) (old new : Flags) → at ≡ 0 → Walks day facts index keys.Cycle start at old new → (K : History) → StandsFor day K facts → Cycled day K index n start old new
cycle_last day facts index n start at old new z walk K stands e len t b below last is =
    renews_fewer day K (IsDownTo keys.Cycle day t b at) (IsDownTo keys.Cycle day t b (last_of (is_end_before day K n) b)) old new (walk K stands e len t b below last is).renews (λ m j item down. let up = down.beyond in record { keyed = down.keyed; beyond = omega (arith, up, z); within = down.within })

-- or at an accepted end
pub cycle_ends : (day : Day) (facts : Facts) (index : Index) (n start at : ℕ) (old new : Flags) (b : Bool) → ((K : History) → StandsFor day K facts → b ≡ is_end_before day K n at) → b ≡ true → Walks day facts index keys.Cycle start at old new → (K : History) → StandsFor day K facts → Cycled day K index n start old new
cycle_ends day facts index n start at old new passed tells p walk K stands e len t b below last is =
    let way : IsOnWay day K keys.Cycle t b at old new = walk K stands e len t b below last is in
    let low : at ≤ last_of (is_end_before day K n) b = last-low (is_end_before day K n) b at (sym (tells K stands) ∙ p) way.low in
    renews_fewer day K (IsDownTo keys.Cycle day t b at) (IsDownTo keys.Cycle day t b (last_of (is_end_before day K n) b)) old new way.renews (λ m j item down. let up = down.beyond in record { keyed = down.keyed; beyond = omega (arith, up, low); within = down.within })

-- the walk from the message before the end of a cycle
pub cycle_start : (day : Day) (index : Index) (n start : ℕ) → system_of day n < 86401 → is_cycle_end day n ≡ true → 1 ≤ n → n ≤ length day.messages → IsIndexOf day index → start ≡ slice_index_or (chain_in keys.Cycle index).older (n - 1) 0 → start ≡ last_of (has_key keys.Cycle day (system_of day n)) (n - 1)
cycle_start day index n start few end first last e s =
    s ∙ ap (λ (x : Index). slice_index_or (chain_in keys.Cycle x).older (n - 1) 0) e
    ∙ older-is keys.Cycle day (system_of day n) n few first last (keyed (is_c (sort_of day n)) (is_cycle_end day n) end)
  where
    keyed : (c b : Bool) → b ≡ true → some_passes (nat_eq (system_of day n)) (if c || b then Some (system_of day n) else None) ≡ true
    keyed true b q = same-number (system_of day n)
    keyed false true q = same-number (system_of day n)
    keyed false false q = cc

-- the walk from the newest message of an end
pub newest_start : (day : Day) (index : Index) (key : Key) (t start : ℕ) → t < 86401 → IsIndexOf day index → start ≡ slice_index_or (chain_in key index).newest t 0 → start ≡ last_of (has_key key day t) (length day.messages)
newest_start day index key t start below e s =
    s ∙ ap (λ (x : Index). slice_index_or (chain_in key x).newest t 0) e
    ∙ ap (λ (x : Chain). slice_index_or x.newest t 0) (chain_is day key index.row.room)
    ∙ newest-at key day (length day.messages) t below

pub walk_whole : (day : Day) (facts : Facts) (index : Index) (key : Key) (t start : ℕ) (old new : Flags) → t < 86401 → start ≡ slice_index_or (chain_in key index).newest t 0 → ((K : History) → StandsFor day K facts → IsIndexOf day index → HaveRoom day old → (u b : ℕ) → u < 86401 → b ≤ length day.messages → start ≡ last_of (has_key key day u) b → Renews day K (IsDownTo key day u b 0) old new) → RenewsBy day facts index (λ K. IsDownTo key day t (length day.messages) 0) old new
walk_whole day facts index key t start old new below s walk K stands e len = walk K stands e len t (length day.messages) below (omega arith) (newest_start day index key t start below e s)
