-- A run from member to member is a scan.
use Rattle.std.proofs.Common.{◌≡◌, ◌∙◌, ℕ, suc, ◌+◌, ◌<◌, ◌≤◌, Bool, true, false, not, ◌&&◌, ◌∷◌, List, Option, Some, None, length, refl, sym, ap, subst, arith, ⊎_elim, get_or-set_same, get_or-set_other}
use Rattle.std.specs.Prelude.{is_some, slice_set}
use Rattle.std.proofs.lemmas.Bool.{and_from, and_parts, cases_eq, cases_lt, false_from_ne_true, lt-ltb}
use Rattle.std.proofs.lemmas.List.{length-set}
use Rattle.number_set.specs.Members.{has}
use Rattle.settle_floor.specs.Floors.{AtWork, HasPlaces, IsFor, IsReadyStill, OnFloor, entries_left, has_all, messages_left, with_ready}
use Rattle.settle_floor.specs.Ready.{IsAtRest, RestAll}
use Rattle.settle_floor.specs.Runs.{IsVisited}
use Rattle.settle_floor.specs.Tills.{KeepsBalances}
use Rattle.batch_records.specs.DayRecord.{Day}
use Rattle.batch_records.specs.Sound.{is_sound}
use Rattle.commit_journal.specs.Line.{History}
use Rattle.machine.specs.Telling.History.{is_ended}
use Rattle.machine.specs.Making.Lines.{is_ready_item}
use Rattle.machine.specs.Legal.{IsLegal}
use Rattle.machine.specs.Telling.Balances.{balance}
use Rattle.settlement_laws.proofs.Balances.Elsewhere.{never_credited, no_opening}
use Rattle.settlement_laws.proofs.Balances.MovesOfTheDay.{IsAccount}
use Rattle.settlement_laws.proofs.Base.Lists.{never}
use Rattle.settlement_laws.proofs.Base.Sound.{subs_have_dca}
use Rattle.number_set.specs.Next.{IsLeast, IsNext}
use Rattle.scan_laws.specs.Numbers.{item_count, item_of}
use Rattle.scan_laws.specs.Runs.{flat_step, has_line, scan_from}
use Rattle.scan_laws.proofs.FlatPasses.{sweep_from-done, sweep_from-next}
use Rattle.scan_laws.proofs.Lined.{line-ready, line-within}
use Rattle.scan_laws.proofs.Stretches.{idle-over}
use Rattle.settlement_laws.proofs.Base.Sums.{all-at}
use Rattle.ready_items.specs.Goes.{ready_at}
use Rattle.ready_items.specs.Kept.{IsRenewed, KeepsReady, Ready, is_member}
use Rattle.ready_items.specs.Shows.{IsIdle}
use Rattle.ready_items.proofs.MemberFacts.{member_within}
use Rattle.ready_items.proofs.ShowFacts.{shown_next, shows_ready}

-- what isn't ready has no line
idle : (day : Day) (J : History) (i : ℕ) → ready_at day J i ≡ false → has_line day J i ≡ false
idle day J i none = false_from_ne_true (has_line day J i) (λ h.
    let low = line-within day J i h in
    let ready = (and_parts (not (is_ended J)) (is_ready_item day J (item_of day i).msg (item_of day i).entry) (sym (line-ready day J i) ∙ h)).1 in
    never (ready_at day J i) (and_from _ _ (lt-ltb i (item_count day) low) ready) none)

module _ (day : Day) (J : History) (v : Ready) (keeps : KeepsReady day J v) (renewed : IsRenewed v) where
  -- the next member is visited
  pub visited : (x : ℕ) (K : History) → IsNext (is_member v) v.at (Some x) → K ≡ flat_step day J x → scan_from day K (x + 1) ≡ scan_from day J v.at
  visited x K next e =
      let low = member_within day J v x keeps next.passes in
      let shown : IsIdle (ready_at day J) v.at (Some x) = shown_next (is_member v) (ready_at day J) v.at (Some x) (shows_ready day J v keeps renewed) next in
      let same : x + 1 ≡ suc x = omega arith in
      (λ t. scan_from day (e t) (same t)) ∙ (sym (sweep_from-next day J x low) ∙ sym (idle-over day J v.at x next.at_least (λ i a b. idle day J i (shown i a b))))

  -- none is left
  pub none_left : IsNext (is_member v) v.at None → v.at ≤ item_count day → J ≡ scan_from day J v.at
  none_left none low =
      let shown : IsIdle (ready_at day J) v.at None = shown_next (is_member v) (ready_at day J) v.at None (shows_ready day J v keeps renewed) none in
      sym (sweep_from-done day J (item_count day) (omega arith)) ∙ sym (idle-over day J v.at (item_count day) low (λ i a b. idle day J i (shown i a)))

-- ---- a floor of which only what is kept of the ready items is changed

pub is_for_with : (day : Day) (f g : OnFloor) → IsFor day f → g ≡ with_ready f g.index.ready → IsReadyStill day f.journal.history f.index.ready g.index.ready → IsFor day g
is_for_with day f g was e still =
    let left = was.room.places in
    let places : HasPlaces (messages_left day) (entries_left day) (with_ready f g.index.ready).index = record { facts = left.facts; pending = left.pending; due = left.due; ready = still.room (messages_left day) (entries_left day) left.ready } in
    let kept : IsFor day (with_ready f g.index.ready) = record {
      fits = was.fits;
      index = record { stands = was.index.stands; queued = was.index.queued; due = was.index.due; ready = still.keeps; stops = was.index.stops };
      room = record { places = places; lines = was.room.lines; moves = was.room.moves };
    } in
    subst (IsFor day) (sym e) kept

pub at_work_with : (day : Day) (f g : OnFloor) (holdings : ℕ → Option ℕ) → AtWork day f holdings → g ≡ with_ready f g.index.ready → IsReadyStill day f.journal.history f.index.ready g.index.ready → AtWork day g holdings
at_work_with day f g holdings was e still = record { opened = is_for_with day f g was.opened e still; kept = subst (λ (x : OnFloor). KeepsBalances holdings day x.journal.history) (sym e) was.kept; all = was.all }

pub history_with : (f g : OnFloor) → g ≡ with_ready f g.index.ready → g.journal.history ≡ f.journal.history
history_with f g e = ap (λ (x : OnFloor). x.journal.history) e

-- over what it was
pub still_with : (day : Day) (f g : OnFloor) (r : Ready) → g ≡ with_ready f g.index.ready → IsReadyStill day f.journal.history f.index.ready g.index.ready → IsReadyStill day g.journal.history g.index.ready r → IsReadyStill day f.journal.history f.index.ready r
still_with day f g r e before after = record { keeps = subst (λ J. KeepsReady day J r) (history_with f g e) after.keeps; room = λ messages more there. after.room messages more (before.room messages more there) }

pub with_again : (f g h : OnFloor) → g ≡ with_ready f g.index.ready → h ≡ with_ready g h.index.ready → h ≡ with_ready f h.index.ready
with_again f g h e k = k ∙ ap (λ (x : OnFloor). with_ready x h.index.ready) e

-- each account of the day is at hand
pub held_there : (day : Day) (holdings : ℕ → Option ℕ) (a : ℕ) → has_all holdings day ≡ true → 1 ≤ a → a ≤ length day.accounts → is_some (holdings a) ≡ true
held_there day holdings a all first last = all-at (λ b. is_some (holdings b)) 1 (length day.accounts) a all first (omega (arith, last))

-- and nothing is on a number after them
pub none_there : (day : Day) (J : History) (a : ℕ) → is_sound day ≡ true → IsLegal day J → length day.accounts < a → balance day J a ≡ 0
none_there day J a sound legal past =
    let out : IsAccount day a → ⊥ = λ h. omega (arith, past, h.1, h.2) in
    let opens = no_opening day a out in
    let came = never_credited day J a (subs_have_dca day sound) legal out in
    omega (arith, opens, came)

-- what is known of each number is its balance
pub money_there : (day : Day) (holdings : ℕ → Option ℕ) (J : History) (a money : ℕ) → is_sound day ≡ true → IsLegal day J → KeepsBalances holdings day J → 1 ≤ a → (1 ≤ a → a ≤ length day.accounts → holdings a ≡ Some money)
    → (length day.accounts < a → money ≡ 0) → money ≡ balance day J a
money_there day holdings J a money sound legal keeps first held none = ⊎_elim
    (λ (past : length day.accounts < a). none past ∙ sym (none_there day J a sound legal past))
    (λ (within : a ≤ length day.accounts). keeps a money (held first within))
    (cases_lt (length day.accounts) a)

-- ---- account by account

pub record AreRenewed (day : Day) (f g : OnFloor) (from : ℕ) : Type 0 where
  pub same : g ≡ with_ready f g.index.ready
  pub keeps : IsReadyStill day f.journal.history f.index.ready g.index.ready
  pub still : g.index.ready.at ≡ f.index.ready.at
  pub below : (b : ℕ) → b < from → has g.index.ready.touched b ≡ false
  pub size : length g.index.ready.touched ≡ length f.index.ready.touched

pub renewed_none : (day : Day) (f : OnFloor) (holdings : ℕ → Option ℕ) → AtWork day f holdings → AreRenewed day f f 0
renewed_none day f holdings at_work = record { same = refl; keeps = record { keeps = at_work.opened.index.ready; room = λ messages more there. there }; still = refl; below = λ b l. absurd (omega (arith, l)); size = refl }

pub renewed_more : (day : Day) (f g h : OnFloor) (from a : ℕ) → AreRenewed day f g from → IsLeast (has g.index.ready.touched) from a → a < length g.index.ready.touched → h ≡ with_ready g h.index.ready → IsReadyStill day g.journal.history g.index.ready h.index.ready
    → h.index.ready.touched ≡ slice_set g.index.ready.touched a false → h.index.ready.at ≡ g.index.ready.at → AreRenewed day f h (a + 1)
renewed_more day f g h from a r least low e keeps set at = record {
  same = with_again f g h r.same e;
  keeps = still_with day f g h.index.ready r.same r.keeps keeps;
  still = at ∙ r.still;
  below = λ b l. ap (λ (xs : List Bool). has xs b) set ∙ ⊎_elim
      (λ (q : b ≡ a). subst (λ i. has (slice_set g.index.ready.touched a false) i ≡ false) (sym q) (get_or-set_same g.index.ready.touched a false _ low))
      (λ (ne : b ≡ a → ⊥). get_or-set_other g.index.ready.touched a b false _ ne ∙ ⊎_elim
      (λ (m : b < from). r.below b m)
      (λ (m : from ≤ b). least.none_before b m (omega (arith, l, ne)))
      (cases_lt b from))
      (cases_eq b a);
  size = ap length set ∙ (length-set g.index.ready.touched a false ∙ r.size);
}

pub renewed_all : (day : Day) (f g : OnFloor) (from : ℕ) → AreRenewed day f g from → IsNext (has g.index.ready.touched) from None → IsRenewed g.index.ready
renewed_all day f g from r none b = ⊎_elim (λ (l : b < from). r.below b l) (λ (l : from ≤ b). none b l) (cases_lt b from)

-- ---- the next member

pub visited_next : (day : Day) (J K : History) (v : Ready) (from x : ℕ) → KeepsReady day J v → IsRenewed v → v.at ≡ from → IsNext (is_member v) v.at (Some x) → K ≡ flat_step day J x → IsVisited day from J K (Some x)
visited_next day J K v from x keeps renewed at next e = (
  subst (λ p. p ≤ x) at next.at_least,
  member_within day J v x keeps next.passes,
  visited day J v keeps renewed x K next e ∙ ap (scan_from day J) at,
)

pub none_next : (day : Day) (J K : History) (v : Ready) (from : ℕ) → KeepsReady day J v → IsRenewed v → v.at ≡ from → IsNext (is_member v) v.at None → K ≡ J → IsVisited day from J K None
none_next day J K v from keeps renewed at none e = (e, λ low. none_left day J v keeps renewed none (subst (λ p. p ≤ item_count day) (sym at) low) ∙ ap (scan_from day J) at)

-- ---- nothing is ready

pub rests : (day : Day) (J : History) (v : Ready) → KeepsReady day J v → IsAtRest v → RestAll day J
rests day J v keeps rest i low = false_from_ne_true (is_ready_item day J (item_of day i).msg (item_of day i).entry) (λ r.
    let at = rest.1 in
    let none : IsIdle (ready_at day J) v.at None = shown_next (is_member v) (ready_at day J) v.at None (shows_ready day J v keeps rest.0) rest.2 in
    never (ready_at day J i) (and_from _ _ (lt-ltb i (item_count day) low) r) (none i (omega (arith, at))))
