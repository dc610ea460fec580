-- What is kept after a message came in.
use Rattle.std.proofs.Common.{◌≡◌, ◌∙◌, ℕ, ◌+◌, ◌-◌, ◌<◌, ◌≤◌, Bool, false, List, [], ◌∷◌, ◌++◌, length, replicate, refl, sym, ap, arith, ⊎_elim}
use Rattle.std.proofs.lemmas.Bool.{cases_lt}
use Rattle.std.proofs.lemmas.List.{ext_get_or, get_or_append_left, get_or-append_right, get_or-replicate, length-append, length-replicate}
use Rattle.batch_records.specs.DayRecord.{Day}
use Rattle.commit_journal.specs.Line.{History}
use Rattle.machine.specs.Records.Messages.{entries}
use Rattle.machine.specs.Stages.Pending.{item}
use Rattle.live_order.specs.Longer.{SpeaksOf}
use Rattle.number_set.specs.Members.{flags, has}
use Rattle.scan_laws.specs.Numbers.{item_count, item_number, item_of}
use Rattle.scan_laws.proofs.NumberFacts.{item-there}
use Rattle.scan_laws.proofs.Sizes.{number-entry, number-first, number-last, number-message}
use Rattle.due_items.specs.declared.chain.Key.{Key}
use Rattle.due_items.specs.declared.chain.Key.TheVariants as keys
use Rattle.due_items.specs.declared.row.Room.{Room}
use Rattle.due_items.specs.Chains.{Chain, chain_upto}
use Rattle.due_items.specs.Due.{due_at, is_due}
use Rattle.due_items.specs.Index.{Index, index_of, index_upto, no_index}
use Rattle.due_items.specs.Kept.{Due, HaveDue, KeepsDue}
use Rattle.due_items.specs.Renewing.{Flags}
use Rattle.due_items.specs.Row.{HasRoomFor, Row, items_of, row_upto, spent, starts_of}
use Rattle.due_items.proofs.ChainFacts.{chain_empty}
use Rattle.due_items.proofs.HintFacts.{untaken_due}
use Rattle.due_items.proofs.RowFacts.{row_empty}
use Rattle.due_items.proofs.Noted.{flag_at, flags_length}

-- nothing of the next message is due before it is taken
none_of : (day : Day) (J : History) (k n i : ℕ) → n ≡ k + 1 → n ≤ length day.messages → SpeaksOf k J → item_number day n 0 ≤ i → i < item_number day (n + 1) 0 → due_at day J i ≡ false
none_of day J k n i e last speaks low high =
    let m = number-message day n (omega (arith, e)) in
    let at : item_of day i ≡ item n (i - item_number day n 0) =
    let whole : item_number day n (i - item_number day n 0) ≡ i = number-entry day n (i - item_number day n 0) ∙ omega (arith, low) in
    ap (item_of day) (sym whole) ∙ item-there day n (i - item_number day n 0) (record { first = omega (arith, e); last = last; entry = omega (arith, low, high, m) }) in
    ap (is_due day J) at ∙ untaken_due day J k n (i - item_number day n 0) speaks (omega (arith, e))

-- the flags with those of one message more
pub flags_more : (day : Day) (J : History) (k n by : ℕ) (old : List Bool) → n ≡ k + 1 → n ≤ length day.messages → SpeaksOf k J → by ≡ length (entries day n) + 1 → old ≡ flags (due_at day J) (item_number day n 0) →
    old ++ replicate by false ≡ flags (due_at day J) (item_number day (n + 1) 0)
flags_more day J k n by old e last speaks size is =
    let m = number-message day n (omega (arith, e)) in
    let start : ℕ = item_number day n 0 in
    let len_old : length old ≡ start = ap length is ∙ flags_length (due_at day J) start in
    let len_by : length (replicate by false) ≡ by = length-replicate by false in
    let len : length (old ++ replicate by false) ≡ length old + length (replicate by false) = length-append old (replicate by false) in
    let len_new : length (flags (due_at day J) (item_number day (n + 1) 0)) ≡ item_number day (n + 1) 0 = flags_length (due_at day J) (item_number day (n + 1) 0) in
    ext_get_or false (old ++ replicate by false) (flags (due_at day J) (item_number day (n + 1) 0)) (omega (arith, len, len_old, len_by, len_new, m, size)) (λ i within.
    let inside : i < item_number day (n + 1) 0 = omega (arith, len, len_old, len_by, m, size, within) in
    ⊎_elim
    (λ (h : i < start). get_or_append_left old (replicate by false) false i (omega (arith, len_old, h)) ∙ (ap (λ (xs : List Bool). has xs i) is ∙ (flag_at (due_at day J) start i h ∙ sym (flag_at (due_at day J) (item_number day (n + 1) 0) i inside))))
    (λ (h : start ≤ i). get_or-append_right old (replicate by false) start i false len_old h ∙ (get_or-replicate by (i - start) false false (omega (arith, h, inside, m, size)) ∙ sym (flag_at (due_at day J) (item_number day (n + 1) 0) i inside ∙ none_of day J k n i e last speaks h inside)))
    (cases_lt i start))

pub have_arrived : (day : Day) (J : History) (k n by : ℕ) (old : Due) (index : Index) (after : Flags) → n ≡ k + 1 → n ≤ length day.messages → SpeaksOf k J → HasRoomFor day n old.index.row.room → by ≡ length (entries day n) + 1 →
    (old.index ≡ index_upto day k old.index.row.room → index ≡ index_upto day n (spent day n old.index.row.room)) →
    (by ≤ old.room → after ≡ record { due = old.set ++ replicate by false; renewed = old.renewed ++ replicate by false; room = old.room - by }) →
    HaveDue day k J old → HaveDue day n J (record { index = index; set = after.due; renewed = after.renewed; room = after.room })
have_arrived day J k n by old index after e last speaks enough size more grown have = record {
  index = ind ∙ ap (index_upto day n) (sym (ap (λ (x : Index). x.row.room) ind));
  exact = ap (λ (x : Flags). x.due) set ∙ flags_more day J k n by old.set e last speaks size (have.exact ∙ ap (λ m. flags (due_at day J) (item_number day m 0)) (sym e));
  room =
      (let len : length (old.renewed ++ replicate by false) ≡ length old.renewed + length (replicate by false) = length-append old.renewed (replicate by false) in
      let len_by : length (replicate by false) ≡ by = length-replicate by false in
      let was : length old.renewed ≡ item_number day n 0 = have.room ∙ ap (λ m. item_number day m 0) (sym e) in
      let m = number-message day n (omega (arith, e)) in
      ap (λ (x : Flags). length x.renewed) set ∙ omega (arith, len, len_by, was, m, size));
  rest = ap (λ (x : Flags). x.room) set ∙ ((λ i. have.rest i - size i) ∙ sym (ap (λ (x : Index). x.row.room.items) ind));
}
  where
    ind : index ≡ index_upto day n (spent day n old.index.row.room)
    ind = more have.index

    set : after ≡ record { due = old.set ++ replicate by false; renewed = old.renewed ++ replicate by false; room = old.room - by }
    set = grown (let r = have.rest in let s = enough.1 in omega (arith, r, s, size))

-- of all messages it is what is kept of the day
pub have_all : (day : Day) (J : History) (n : ℕ) (due : Due) → n ≡ length day.messages → HaveDue day n J due → KeepsDue day J due
have_all day J n due e have = record {
  index = have.index ∙ whole;
  exact = have.exact ∙ ap (flags (due_at day J)) count;
  room = have.room ∙ count;
  rest = have.rest;
}
  where
    count : item_number day (n + 1) 0 ≡ item_count day
    count = ap (λ m. item_number day (m + 1) 0) e ∙ number-last day

    whole : index_upto day n due.index.row.room ≡ index_of day due.index.row.room
    whole = λ i. record {
      row = record { starts = starts_of day (e i + 1); items = items_of day (count i); room = due.index.row.room };
      infos = chain_upto keys.Info day (e i) due.index.row.room.messages;
      froms = chain_upto keys.From day (e i) due.index.row.room.messages;
      tills = chain_upto keys.Till day (e i) due.index.row.room.messages;
      cycles = chain_upto keys.Cycle day (e i) due.index.row.room.messages;
    }

first_index : (day : Day) (room : Room) → no_index room ≡ index_upto day 0 room
first_index day room = λ i. record {
  row = row_empty day (0 ∷ []) [] room refl refl i;
  infos = chain_empty keys.Info day _ [] room.messages refl refl i;
  froms = chain_empty keys.From day _ [] room.messages refl refl i;
  tills = chain_empty keys.Till day _ [] room.messages refl refl i;
  cycles = chain_empty keys.Cycle day _ [] room.messages refl refl i;
}

pub have_none : (day : Day) (due : Due) (room : Room) → due.index ≡ no_index room → due.set ≡ [] → due.renewed ≡ [] → due.room ≡ room.items → HaveDue day 0 [] due
have_none day due room e s t r =
    let first : due.index ≡ index_upto day 0 room = e ∙ first_index day room in
    record {
      index = first ∙ ap (index_upto day 0) (sym (ap (λ (x : Index). x.row.room) e));
      exact = s ∙ ap (flags (due_at day [])) (sym (number-first day));
      room = ap length t ∙ sym (number-first day);
      rest = r ∙ sym (ap (λ (x : Index). x.row.room.items) e);
    }

-- ---- the index

with_own : (key : Key) (day : Day) (k room : ℕ) (chain : Chain) → chain ≡ chain_upto key day k room → chain ≡ chain_upto key day k chain.room
with_own key day k room chain e = e ∙ ap (chain_upto key day k) (sym (ap (λ (x : Chain). x.room) e))

chain_more : (key : Key) (day : Day) (k n room : ℕ) (old new : Chain) → old ≡ chain_upto key day k room → 1 ≤ room → (1 ≤ old.room → old ≡ chain_upto key day k old.room → new ≡ chain_upto key day n (old.room - 1)) → new ≡ chain_upto key day n (room - 1)
chain_more key day k n room old new is enough more =
    let same : old.room ≡ room = ap (λ (x : Chain). x.room) is in
    more (omega (arith, same, enough)) (with_own key day k room old is) ∙ ap (λ r. chain_upto key day n (r - 1)) same

pub index_arrives : (day : Day) (k n : ℕ) (old : Index) (row : Row) (infos froms tills cycles : Chain) → HasRoomFor day n old.row.room → old ≡ index_upto day k old.row.room →
    (old.row ≡ row_upto day k old.row.room → row ≡ row_upto day n (spent day n old.row.room)) →
    (1 ≤ old.infos.room → old.infos ≡ chain_upto keys.Info day k old.infos.room → infos ≡ chain_upto keys.Info day n (old.infos.room - 1)) →
    (1 ≤ old.froms.room → old.froms ≡ chain_upto keys.From day k old.froms.room → froms ≡ chain_upto keys.From day n (old.froms.room - 1)) →
    (1 ≤ old.tills.room → old.tills ≡ chain_upto keys.Till day k old.tills.room → tills ≡ chain_upto keys.Till day n (old.tills.room - 1)) →
    (1 ≤ old.cycles.room → old.cycles ≡ chain_upto keys.Cycle day k old.cycles.room → cycles ≡ chain_upto keys.Cycle day n (old.cycles.room - 1)) →
    record { row = row; infos = infos; froms = froms; tills = tills; cycles = cycles } ≡ index_upto day n (spent day n old.row.room)
index_arrives day k n old row infos froms tills cycles enough is a b c d e = λ i. record {
  row = a (ap (λ (x : Index). x.row) is) i;
  infos = chain_more keys.Info day k n old.row.room.messages old.infos infos (ap (λ (x : Index). x.infos) is) enough.0 b i;
  froms = chain_more keys.From day k n old.row.room.messages old.froms froms (ap (λ (x : Index). x.froms) is) enough.0 c i;
  tills = chain_more keys.Till day k n old.row.room.messages old.tills tills (ap (λ (x : Index). x.tills) is) enough.0 d i;
  cycles = chain_more keys.Cycle day k n old.row.room.messages old.cycles cycles (ap (λ (x : Index). x.cycles) is) enough.0 e i;
}
