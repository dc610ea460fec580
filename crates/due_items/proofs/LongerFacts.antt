-- What is kept of a day's messages, where more messages and stops follow.
use Rattle.std.proofs.Common.{◌≡◌, ◌∙◌, ℕ, zero, suc, ◌+◌, ◌-◌, ◌<◌, ◌≤◌, Bool, false, ◌&&◌, ◌||◌, List, ◌∷◌, None, Some, length, map, refl, sym, ap, subst, arith, if◌then◌else◌}
use Rattle.std.specs.Prelude.{nat_eq, slice_index_or, unwrap_or}
use Rattle.std.specs.List.{range_with_len}
use Rattle.std.specs.Option.{option_map_or}
use Rattle.std.proofs.lemmas.List.{length-append}
use Rattle.batch_records.specs.DayRecord.{Day}
use Rattle.batch_records.specs.declared.day.Message.{Message}
use Rattle.commit_journal.specs.Line.{History}
use Rattle.machine.specs.declared.answers.Item.{Item}
use Rattle.machine.specs.Words.{is_zero, some_passes}
use Rattle.machine.specs.Records.Setup.{system_named}
use Rattle.machine.specs.Records.Messages.{is_a_or_b, is_c, stated_end}
use Rattle.machine.specs.Telling.History.{clock}
use Rattle.live_order.specs.Longer.{SpeaksOf, longer}
use Rattle.live_order.proofs.Longer.Known.{earliest_same, entries_same, info_end_same, message_same, sort_same}
use Rattle.live_order.proofs.Longer.FactsSame.{phase_same}
use Rattle.live_order.proofs.Longer.PendingSame.{pending_same}
use Rattle.number_set.specs.Members.{flags}
use Rattle.machine.specs.declared.answers.Phase.{Phase}
use Rattle.machine.specs.declared.answers.Phase.TheVariants as phases
use Rattle.machine.specs.Making.Lines.{may_lapse}
use Rattle.machine.specs.Stages.Phases.{phase}
use Rattle.scan_laws.specs.Numbers.{IsItem, before, item_count, item_number, item_of, items_after}
use Rattle.scan_laws.specs.Views.{alone}
use Rattle.scan_laws.proofs.NumberFacts.{item-is, item-there, number-back}
use Rattle.scan_laws.proofs.Sizes.{number-last}
use Rattle.due_items.specs.declared.chain.Key.{Key}
use Rattle.due_items.specs.declared.chain.Key.TheVariants as keys
use Rattle.due_items.specs.declared.row.Room.{Room}
use Rattle.due_items.specs.Chains.{chain_upto, ends_cycles, has_key, is_cycle_end, key_of, last_of, newest_of, older_at, system_of}
use Rattle.due_items.specs.Due.{due_at, is_due}
use Rattle.due_items.specs.Index.{index_of, index_upto}
use Rattle.due_items.specs.Kept.{Due, HaveDue, KeepsDue}
use Rattle.due_items.specs.Row.{items_of}
use Rattle.due_items.proofs.HintFacts.{due_by}

-- a list over a range, where the function is the same there
map_same : {X : Type 0} (f g : ℕ → X) (s len : ℕ) → ((i : ℕ) → s ≤ i → i < s + len → f i ≡ g i) → map f (range_with_len s len) ≡ map g (range_with_len s len)
map_same f g s zero same = refl
map_same f g s (suc len) same = λ j. same s (omega arith) (omega arith) j ∷ map_same f g (s + 1) len (λ i low high. same i (omega arith) (omega arith)) j

last_same : (p q : ℕ → Bool) (n : ℕ) → ((i : ℕ) → i ≤ n → p i ≡ q i) → last_of p n ≡ last_of q n
unfolding last_of
last_same p q zero same = refl
last_same p q (suc n) same = λ j. if same (suc n) (omega arith) j then suc n else last_same p q n (λ i l. same i (omega arith)) j

module _ (day : Day) (ms : List Message) (ss : List ℕ) where
  -- ---- keys

  system_same : (n : ℕ) → n ≤ length day.messages → system_of (longer day ms ss) n ≡ system_of day n
  system_same n h = ap (λ o. option_map_or (λ (m : Message). unwrap_or (system_named day m.sender) 0) o 0) (message_same day ms ss n h)

  ends_same : (n : ℕ) → n ≤ length day.messages → is_cycle_end (longer day ms ss) n ≡ is_cycle_end day n
  ends_same n h = ap (some_passes (λ (m : Message). ends_cycles m.body)) (message_same day ms ss n h)

  till_same : (n : ℕ) → n ≤ length day.messages → stated_end (longer day ms ss) n ≡ stated_end day n
  till_same n h = rw (message_same day ms ss n h) refl

  key_same : (key : Key) (n : ℕ) → n ≤ length day.messages → key_of key (longer day ms ss) n ≡ key_of key day n
  key_same keys.Info n h = info_end_same day ms ss n h
  key_same keys.From n h = earliest_same day ms ss n h
  key_same keys.Till n h = till_same n h
  key_same keys.Cycle n h = λ j. if is_c (sort_same day ms ss n h j) || ends_same n h j then Some (system_same n h j) else None

  has_same : (key : Key) (t n : ℕ) → n ≤ length day.messages → has_key key (longer day ms ss) t n ≡ has_key key day t n
  has_same key t n h = ap (some_passes (nat_eq t)) (key_same key n h)

  newest_same : (key : Key) (n : ℕ) → n ≤ length day.messages → newest_of key (longer day ms ss) n ≡ newest_of key day n
  newest_same key n h = map_same (λ t. last_of (has_key key (longer day ms ss) t) n) (λ t. last_of (has_key key day t) n) 0 86401 (λ t low high. last_same (has_key key (longer day ms ss) t) (has_key key day t) n (λ i l. has_same key t i (omega (arith, l, h))))

  older_same : (key : Key) (n : ℕ) → n ≤ length day.messages → older_at key (longer day ms ss) n ≡ older_at key day n
  older_same key n h = λ j. option_map_or (λ t. slice_index_or (newest_same key (n - 1) (omega (arith, h)) j) t 0) (key_same key n h j) 0

  chain_same : (key : Key) (room : ℕ) → chain_upto key (longer day ms ss) (length day.messages) room ≡ chain_upto key day (length day.messages) room
  chain_same key room = λ j. record {
    newest = newest_same key (length day.messages) (omega arith) j;
    older = map_same (older_at key (longer day ms ss)) (older_at key day) 1 (length day.messages) (λ i low high. older_same key i (omega (arith, high))) j;
    room = room;
  }

  -- ---- numbers

  before_same : (n : ℕ) → n ≤ length day.messages → before (items_after (longer day ms ss)) n ≡ before (items_after day) n
  unfolding before
  before_same zero h = refl
  before_same (suc n) h = λ j. before_same n (omega (arith, h)) j + suc (length (entries_same day ms ss (suc n) h j))

  pub number_same : (n k : ℕ) → n ≤ length day.messages + 1 → item_number (longer day ms ss) n k ≡ item_number day n k
  unfolding item_number
  number_same n k h = ap (λ x. x + k) (before_same (n - 1) (omega (arith, h)))

  pub item_same : (i : ℕ) → i < item_count day → item_of (longer day ms ss) i ≡ item_of day i
  item_same i low =
      let x : Item = item_of day i in
      let is : IsItem day x.msg x.entry = item-is day i low in
      let last = is.last in
      let long = length-append day.messages ms in
      let there : IsItem (longer day ms ss) x.msg x.entry = record { first = is.first; last = omega (arith, last, long); entry = subst (λ k. x.entry ≤ k) (sym (ap length (entries_same day ms ss x.msg last))) is.entry } in
      ap (item_of (longer day ms ss)) (sym (number_same x.msg x.entry (omega (arith, last)) ∙ number-back day i low)) ∙ item-there (longer day ms ss) x.msg x.entry there

  -- ---- what is due

  alone_same : (n k t : ℕ) (p : Phase) → n ≤ length day.messages → alone (longer day ms ss) n k p t ≡ alone day n k p t
  alone_same n zero t phases.Overdue h = ap (λ s. Some (may_lapse s)) (sort_same day ms ss n h)
  alone_same n zero t phases.Answered h = ap (λ s. Some (is_a_or_b s)) (sort_same day ms ss n h)
  alone_same n zero t phases.Asking h = ap (λ s. Some (is_a_or_b s && nat_eq t 86400)) (sort_same day ms ss n h)
  alone_same n zero t _ h = refl
  alone_same n (suc k) t p h = refl

  pub alone_there : (J : History) → SpeaksOf (length day.messages) J → (n k : ℕ) → n ≤ length day.messages → alone (longer day ms ss) n k (phase (longer day ms ss) J n) (clock J) ≡ alone day n k (phase day J n) (clock J)
  alone_there J speaks n k h = ap (λ p. alone (longer day ms ss) n k p (clock J)) (phase_same day ms ss J speaks n h) ∙ alone_same n k (clock J) (phase day J n) h

  due_same : (J : History) → SpeaksOf (length day.messages) J → (i : ℕ) → i < item_count day → due_at (longer day ms ss) J i ≡ due_at day J i
  due_same J speaks i low =
      let last = (item-is day i low).last in
      ap (is_due (longer day ms ss) J) (item_same i low) ∙ due_by (longer day ms ss) J (item_of day i).msg (item_of day i).entry
      ∙ (λ j. pending_same day ms ss J speaks (item_of day i) last j || (is_zero (item_of day i).entry && unwrap_or (alone_there J speaks (item_of day i).msg (item_of day i).entry last j) false))
      ∙ sym (due_by day J (item_of day i).msg (item_of day i).entry)

  count_same : item_number (longer day ms ss) (length day.messages + 1) 0 ≡ item_count day
  count_same = number_same (length day.messages + 1) 0 (omega arith) ∙ number-last day

  index_same : (room : Room) → index_upto (longer day ms ss) (length day.messages) room ≡ index_of day room
  index_same room = λ j. record {
    row = record {
      starts = map_same (λ m. item_number (longer day ms ss) m 0) (λ m. item_number day m 0) 1 (length day.messages + 1) (λ m low high. number_same m 0 (omega (arith, high))) j;
      items = (ap (items_of (longer day ms ss)) count_same ∙ map_same (item_of (longer day ms ss)) (item_of day) 0 (item_count day) (λ i low high. item_same i (omega (arith, high)))) j;
      room = room;
    };
    infos = chain_same keys.Info room.messages j;
    froms = chain_same keys.From room.messages j;
    tills = chain_same keys.Till room.messages j;
    cycles = chain_same keys.Cycle room.messages j;
  }

  flags_same : (J : History) → SpeaksOf (length day.messages) J → flags (due_at (longer day ms ss) J) (item_number (longer day ms ss) (length day.messages + 1) 0) ≡ flags (due_at day J) (item_count day)
  flags_same J speaks = ap (flags (due_at (longer day ms ss) J)) count_same ∙ map_same (due_at (longer day ms ss) J) (due_at day J) 0 (item_count day) (λ i low high. due_same J speaks i (omega (arith, high)))

  pub still_have : (J : History) (due : Due) → SpeaksOf (length day.messages) J → KeepsDue day J due → HaveDue (longer day ms ss) (length day.messages) J due
  still_have J due speaks keeps = record {
    index = keeps.index ∙ sym (index_same due.index.row.room);
    exact = keeps.exact ∙ sym (flags_same J speaks);
    room = keeps.room ∙ sym count_same;
    rest = keeps.rest;
  }

  pub once_had : (J : History) (due : Due) → SpeaksOf (length day.messages) J → HaveDue (longer day ms ss) (length day.messages) J due → KeepsDue day J due
  once_had J due speaks have = record {
    index = have.index ∙ index_same due.index.row.room;
    exact = have.exact ∙ flags_same J speaks;
    room = have.room ∙ count_same;
    rest = have.rest;
  }

pub still_kept : (day : Day) (ms : List Message) (ss : List ℕ) (J : History) (due : Due) → SpeaksOf (length day.messages) J → KeepsDue day J due → HaveDue (longer day ms ss) (length day.messages) J due
still_kept day ms ss J due speaks keeps = still_have day ms ss J due speaks keeps

pub was_kept : (day : Day) (ms : List Message) (ss : List ℕ) (J : History) (due : Due) → SpeaksOf (length day.messages) J → HaveDue (longer day ms ss) (length day.messages) J due → KeepsDue day J due
was_kept day ms ss J due speaks have = once_had day ms ss J due speaks have
