-- The batches of C whose cycle lasts, after one more line.
use Rattle.std.proofs.Common.{◌≡◌, ◌≢◌, ℕ, suc, ◌+◌, ◌-◌, ◌*◌, ◌<◌, ◌≤◌, Bool, true, false, not, ◌&&◌, ◌||◌, List, [], ◌∷◌, ◌++◌, ◌⊎◌, Option, Some, None, length, set, refl, sym, ap, ◌∙◌, subst, inl, inr, arith}
use Rattle.std.specs.Prelude.{if◌then◌else◌, is_none, is_some, nat_eq, nat_lt, unwrap_or}
use Rattle.std.specs.Option.{option_map_or, option_or}
use Rattle.std.proofs.Math.Nat.{mul-le-mul_left}
use Rattle.std.proofs.lemmas.Bool.{and_from, and_parts, cases_eq, cases_lt, eqb-true, leb-true, lt-ltb, ltb-true, or_parts, true≢false}
use Rattle.std.proofs.lemmas.List.{get_or-set_same, get_or-set_other, length-append, length-replicate, length-set}
use Rattle.std.proofs.lemmas.Nat.{mul-le}
use Rattle.cash_amounts.specs.declared.limits.TheConstants.{MAX_MESSAGES, MAX_SYSTEMS}
use Rattle.cash_amounts.specs.SoundSetup.{is_within_limits}
use Rattle.batch_records.specs.DayRecord.{Day}
use Rattle.batch_records.specs.declared.day.Message.{Message}
use Rattle.batch_records.specs.Sound.{is_sound}
use Rattle.commit_journal.specs.declared.line.Code.{Code}
use Rattle.commit_journal.specs.declared.line.Head.{Head}
use Rattle.commit_journal.specs.declared.line.Kind.{Kind}
use Rattle.commit_journal.specs.declared.line.Kind.TheVariants as kinds
use Rattle.commit_journal.specs.declared.line.Move.{Move}
use Rattle.commit_journal.specs.Line.{Line, History}
use Rattle.machine.specs.Words.{some_passes, when}
use Rattle.machine.specs.Records.Setup.{system_named}
use Rattle.machine.specs.Records.Messages.{is_c, is_message, message_at, sender, sort_of}
use Rattle.machine.specs.Telling.History.{is_accepted, is_in, is_in_of, is_ok, read_first, taken, taken_code}
use Rattle.machine.specs.Telling.Facts.{cycle_ended, cycle_taken, is_reached, untaken_earlier}
use Rattle.machine.specs.Legal.{IsLegal}
use Rattle.machine.specs.Making.Lines.{may_take}
use Rattle.settlement_laws.proofs.Base.Lists.{never}
use Rattle.settlement_laws.proofs.Base.Made.{Made, made_facts}
use Rattle.settlement_laws.proofs.Base.Numbers.{position_found}
use Rattle.settlement_laws.proofs.Base.OngoingPhases.{accepted_there}
use Rattle.settlement_laws.proofs.Base.SoundParts.{sound_parts}
use Rattle.live_order.specs.Longer.{SpeaksOf, longer}
use Rattle.live_order.proofs.Longer.FactsSame.{ended_same}
use Rattle.live_order.proofs.Longer.Known.{message_same, sort_same}
use Rattle.live_order.proofs.Longer.Spoken.{never_accepted}
use Rattle.number_set.specs.Members.{has}
use Rattle.pending_items.specs.Cycles.{AreBatches, AreLeft, AreLeftIn, Batches, IsEnded, block, index_of, no_batches, system_of, taken_off, with_batch}

-- ---- numbers are small

pub few_systems : (day : Day) → is_sound day ≡ true → length day.systems ≤ MAX_SYSTEMS
few_systems day sound =
    let w = and_parts _ (is_within_limits day.accounts day.systems) (sound_parts day sound).setup in
    leb-true _ _ (and_parts _ _ (and_parts _ _ w.1).0).0

named_small : (day : Day) (name : List ℕ) (o : Option ℕ) → system_named day name ≡ o → unwrap_or o 0 ≤ length day.systems
named_small day name None e = omega arith
named_small day name (Some s) e =
    let f = position_found _ 1 day.systems s e in
    let number : s ≡ 1 + f.place = f.number in
    let within : f.place < length day.systems = f.within in
    omega (arith, number, within)

pub system_small : (day : Day) (n : ℕ) → system_of day n ≤ length day.systems
system_small day n = here (message_at day n)
  where
    here : (o : Option Message) → option_map_or (λ (m : Message). unwrap_or (system_named day m.sender) 0) o 0 ≤ length day.systems
    here None = omega arith
    here (Some m) = named_small day m.sender (system_named day m.sender) refl

-- ---- blocks

-- no number of a block is above this, which fits a word
pub product_small : (size s : ℕ) → size ≤ MAX_MESSAGES + 1 → s ≤ MAX_SYSTEMS + 1 → size * s ≤ (MAX_MESSAGES + 1) * (MAX_SYSTEMS + 1)
product_small size s a b = mul-le size s (MAX_MESSAGES + 1) (MAX_SYSTEMS + 1) a b

next_block : (size s : ℕ) → size * suc s ≡ size * s + size
next_block size s = omega arith

blocks_rise : (size s t : ℕ) → s < t → size * s + size ≤ size * t
blocks_rise size s t less =
    let a : size * suc s ≤ size * t = mul-le-mul_left size less in
    let b = next_block size s in
    omega (arith, a, b)

-- a number is in one block alone
same_block : (size s t n : ℕ) → n < size → size * t ≤ size * s + n → size * s + n < size * t + size → s ≡ t
same_block size s t n small above below = elim (cases_lt s t) [
  | inl less ↦ let a = blocks_rise size s t less in absurd (omega (arith, a, small, above))
  | inr ge ↦ elim (cases_eq s t) [
    | inl same ↦ same
    | inr other ↦ let a = blocks_rise size t s (omega (arith, ge, other)) in absurd (omega (arith, a, below))
  ]
]

index_is : (day : Day) → is_sound day ≡ true → (size n : ℕ) → n < size → size ≤ MAX_MESSAGES + 1 → index_of size day n ≡ block size day n + n
index_is day sound size n low small =
    let s : system_of day n ≤ length day.systems = system_small day n in
    let few : length day.systems ≤ MAX_SYSTEMS = few_systems day sound in
    let product = product_small size (system_of day n) small (omega (arith, s, few)) in
    omega (arith, low, small, product)

index_within : (day : Day) (size n : ℕ) → n < size → block size day n + n < size * (length day.systems + 1)
index_within day size n low =
    let rise = blocks_rise size (system_of day n) (length day.systems + 1) (let s = system_small day n in omega (arith, s)) in
    omega (arith, low, rise)

-- ---- members

has_set : (members : List Bool) (i : ℕ) (flag : Bool) → i < length members → has (set members i flag) i ≡ flag
has_set members i flag less = get_or-set_same members i flag false less

has_other : (members : List Bool) (i j : ℕ) (flag : Bool) → j ≢ i → has (taken_off i flag members) j ≡ has members j
has_other members i j flag ne = here (nat_lt i (length members))
  where
    here : (b : Bool) → has (if b then set members i flag else members) j ≡ has members j
    here true = get_or-set_other members i j flag false ne
    here false = refl

taken_size : (members : List Bool) (i : ℕ) (flag : Bool) → length (taken_off i flag members) ≡ length members
taken_size members i flag = here (nat_lt i (length members))
  where
    here : (b : Bool) → length (if b then set members i flag else members) ≡ length members
    here true = length-set members i flag
    here false = refl

-- a number that is put in makes no other one none
kept_in : (members : List Bool) (i j : ℕ) → has members j ≡ true → has (taken_off i true members) j ≡ true
kept_in members i j h = elim (cases_eq j i) [
  | inl same ↦ here (nat_lt i (length members)) refl same
  | inr ne ↦ has_other members i j true ne ∙ h
]
  where
    here : (b : Bool) → nat_lt i (length members) ≡ b → j ≡ i → has (if b then set members i true else members) j ≡ true
    here true e same = ap (has (set members i true)) same ∙ has_set members i true (ltb-true i (length members) e)
    here false e same = h

pub batch_kept : (day : Day) (head : Head) (b : Batches) (j : ℕ) → has b.set j ≡ true → has (with_batch day head b).set j ≡ true
batch_kept day head b j h = here (is_in head.kind && is_ok head.code && is_c (sort_of day head.msg))
  where
    here : (c : Bool) → has (if c then taken_off (index_of b.size day head.msg) true b.set else b.set) j ≡ true
    here true = kept_in b.set (index_of b.size day head.msg) j h
    here false = h

batch_size : (day : Day) (head : Head) (b : Batches) → length (with_batch day head b).set ≡ length b.set
batch_size day head b = here (is_in head.kind && is_ok head.code && is_c (sort_of day head.msg))
  where
    here : (c : Bool) → length (if c then taken_off (index_of b.size day head.msg) true b.set else b.set) ≡ length b.set
    here true = taken_size b.set (index_of b.size day head.msg) true
    here false = refl

-- ---- over no lines, and after one more

none_accepted : (n : ℕ) → is_accepted [] n ≡ true → ⊥
unfolding read_first
none_accepted n h = never false h refl

below_that : (a b c : ℕ) → a < b → b ≤ c → a < c
below_that a b c h k = omega (arith, h, k)

pub none_kept : (day : Day) (systems size : ℕ) (b : Batches) → length day.systems ≤ systems → length day.messages + 1 ≤ size → size ≤ MAX_MESSAGES + 1 → b ≡ no_batches systems size → AreBatches day [] b
none_kept day systems size b enough room few e = subst (AreBatches day []) (sym e) (record {
  all = subst (λ k. size * (length day.systems + 1) ≤ k) (sym (length-replicate (size * (systems + 1)) false)) (let more : length day.systems + 1 ≤ systems + 1 = omega (arith, enough) in mul-le-mul_left size more);
  room = room;
  few = few;
  each = λ n low c accepted lasts. absurd (none_accepted n accepted);
})

code_more : (l : Line) (J : History) (n : ℕ) → taken_code (l ∷ J) n ≡ option_or (taken_code J n) (when (is_in_of n l) l.head.code)
unfolding read_first
code_more l J n = refl

ended_more : (day : Day) (l : Line) (J : History) (n : ℕ) → is_in_of n l ≡ false → cycle_ended day n (l ∷ J) ≡ false → cycle_ended day n J ≡ false
unfolding cycle_ended
ended_more day l J n i h =
    (or_parts (some_passes not (cycle_taken day (sender day n) l)) (cycle_ended day n J)
    (sym (ap (λ b. if b then false else (some_passes not (cycle_taken day (sender day n) l) || cycle_ended day n J)) i) ∙ h)).1

made_take : (kind : Kind) (day : Day) (J : History) (n k : ℕ) (code : Code) (moves : List Move) → is_in kind ≡ true → Made kind day J n k code moves → may_take day J n ≡ true
made_take kinds.In day J n k code moves h m = m.0
made_take _ day J n k code moves h m = cc

-- no message is taken twice
taken_once : (day : Day) (J : History) (l : Line) (n : ℕ) → IsLegal day (l ∷ J) → is_accepted J n ≡ true → is_in_of n l ≡ false
taken_once day J l n legal accepted = here (is_in_of n l) refl
  where
    here : (b : Bool) → is_in_of n l ≡ b → is_in_of n l ≡ false
    here false e = e
    here true e =
        let p = and_parts (is_in l.head.kind) (nat_eq l.head.msg n) e in
        let m = subst (λ k. may_take day J k ≡ true) (eqb-true l.head.msg n p.1) (made_take l.head.kind day J l.head.msg l.head.entry l.head.code l.moves p.0 (made_facts day J l legal.1).1) in
        let untaken = (and_parts (is_message (sort_of day n)) (is_none (taken J n)) (and_parts _ (is_reached day J n) (and_parts _ (is_none (untaken_earlier day J n)) m).0).0).1 in
        absurd (both (taken J n) (accepted_there J n accepted) untaken)
      where
        both : (o : Option ℕ) → is_some o ≡ true → is_none o ≡ true → ⊥
        both None h k = never false h refl
        both (Some p) h k = never false k refl

pub batches_more : (day : Day) (J : History) (l : Line) (b : Batches) → is_sound day ≡ true → IsLegal day (l ∷ J) → AreBatches day J b → AreBatches day (l ∷ J) (with_batch day l.head b)
batches_more day J l batches sound legal a = record {
  all = subst (λ k. batches.size * (length day.systems + 1) ≤ k) (sym (batch_size day l.head batches)) a.all;
  room = a.room;
  few = a.few;
  each = λ n low c accepted lasts. here n low c accepted lasts (is_accepted J n) refl;
}
  where
    here : (n : ℕ) → n ≤ length day.messages → is_c (sort_of day n) ≡ true → is_accepted (l ∷ J) n ≡ true → cycle_ended day n (l ∷ J) ≡ false → (b : Bool) → is_accepted J n ≡ b → has (with_batch day l.head batches).set (block batches.size day n + n) ≡ true
    here n low c accepted lasts true e = batch_kept day l.head batches (block batches.size day n + n) (a.each n low c e (ended_more day l J n (taken_once day J l n legal e) lasts))
    here n low c accepted lasts false e = fresh (is_in_of n l) refl (taken_code J n) refl
      where
        newly : (b : Bool) → is_in_of n l ≡ b → (o : Option Code) → taken_code J n ≡ o → some_passes is_ok (option_or o (when b l.head.code)) ≡ true → is_in_of n l && is_ok l.head.code ≡ true
        newly true f None g h = and_from _ _ f h
        newly false f None g h = never false h refl
        newly b f (Some code) g h = never (is_accepted J n) (ap (some_passes is_ok) g ∙ passed b h) e
          where
            passed : (b : Bool) → some_passes is_ok (option_or (Some code) (when b l.head.code)) ≡ true → is_ok code ≡ true
            passed b h = h

        fresh : (b : Bool) → is_in_of n l ≡ b → (o : Option Code) → taken_code J n ≡ o → has (with_batch day l.head batches).set (block batches.size day n + n) ≡ true
        fresh b f o g =
            let p = and_parts (is_in_of n l) (is_ok l.head.code) (newly b f o g (sym (ap (some_passes is_ok) (code_more l J n ∙ (λ i. option_or (g i) (when (f i) l.head.code)))) ∙ accepted)) in
            let q = and_parts (is_in l.head.kind) (nat_eq l.head.msg n) p.0 in
            let msg : l.head.msg ≡ n = eqb-true l.head.msg n q.1 in
            let test : (is_in l.head.kind && is_ok l.head.code && is_c (sort_of day l.head.msg)) ≡ true = and_from _ _ (and_from _ _ q.0 p.1) (ap (λ k. is_c (sort_of day k)) msg ∙ c) in
            let room = a.room in
            let index : index_of batches.size day l.head.msg ≡ block batches.size day n + n = ap (index_of batches.size day) msg ∙ index_is day sound batches.size n (omega (arith, low, room)) a.few in
            let within : block batches.size day n + n < length batches.set = below_that _ _ _ (index_within day batches.size n (omega (arith, low, room))) a.all in
            ap (λ b. has (if b then taken_off (index_of batches.size day l.head.msg) true batches.set else batches.set) (block batches.size day n + n)) test
            ∙ (ap (λ k. has (taken_off k true batches.set) (block batches.size day n + n)) index
            ∙ (ap (λ b. has (if b then set batches.set (block batches.size day n + n) true else batches.set) (block batches.size day n + n)) (lt-ltb (block batches.size day n + n) (length batches.set) within) ∙ has_set batches.set (block batches.size day n + n) true within))

-- those of the lines before it, with the batch of the line
pub batches_with : (day : Day) (J : History) (head : Head) (b : Batches) → AreBatches day J b → AreBatches day J (with_batch day head b)
batches_with day J head b a = record {
  all = subst (λ k. b.size * (length day.systems + 1) ≤ k) (sym (batch_size day head b)) a.all;
  room = a.room;
  few = a.few;
  each = λ n low c accepted lasts. batch_kept day head b (block b.size day n + n) (a.each n low c accepted lasts);
}

-- ---- those of a block that leave

pub none_left : (day : Day) (J : History) (m : ℕ) (b : Batches) → AreLeft day J m b b
none_left day J m b = record { same = refl; left = record { all = refl; each = λ i h k. never (has b.set i) h k } }

pub batches_left : (day : Day) (J : History) (m : ℕ) (old new : Batches) → AreBatches day J old → AreLeft day J m old new → AreBatches day J new
batches_left day J m old new a gone = record {
  all = subst (λ s. s * (length day.systems + 1) ≤ length new.set) (sym gone.same) (subst (λ k. old.size * (length day.systems + 1) ≤ k) (sym gone.left.all) a.all);
  room = subst (λ s. length day.messages + 1 ≤ s) (sym gone.same) a.room;
  few = subst (λ s. s ≤ MAX_MESSAGES + 1) (sym gone.same) a.few;
  each = λ n low c accepted lasts.
      ap (λ s. has new.set (block s day n + n)) gone.same ∙ here n low (a.each n low c accepted lasts) lasts (has new.set (block old.size day n + n)) refl;
}
  where
    here : (n : ℕ) → n ≤ length day.messages → has old.set (block old.size day n + n) ≡ true → cycle_ended day n J ≡ false → (b : Bool) → has new.set (block old.size day n + n) ≡ b → has new.set (block old.size day n + n) ≡ true
    here n low h lasts true e = e
    here n low h lasts false e =
        let out : IsEnded day J old.size (block old.size day m) (block old.size day n + n) = gone.left.each (block old.size day n + n) h e in
        let above : block old.size day m ≤ block old.size day n + n = out.low in
        let below : block old.size day n + n < block old.size day m + old.size = out.high in
        let room = a.room in
        let same : system_of day n ≡ system_of day m = same_block old.size (system_of day n) (system_of day m) n (omega (arith, low, room)) above below in
        let start : block old.size day n ≡ block old.size day m = ap (λ s. old.size * s) same in
        let number : (block old.size day n + n) - block old.size day m ≡ n = omega (arith, start) in
        absurd (true≢false (sym out.ended ∙ (ap (λ k. cycle_ended day k J) number ∙ lasts)))

-- one of them after another
pub record AreLeftTo (day : Day) (J : History) (size first from : ℕ) (old new : List Bool) : Type 0 where
  pub left : AreLeftIn day J size first old new
  pub behind : (i : ℕ) → from ≤ i → has new i ≡ has old i

pub one_left : (day : Day) (J : History) (size first from i : ℕ) (ended : Bool) (old mid new : List Bool) → AreLeftTo day J size first from old mid → first ≤ from → from ≤ i → i < first + size → ended ≡ cycle_ended day (i - first) J →
    new ≡ (if ended then taken_off i false mid else mid) → AreLeftTo day J size first (i + 1) old new
one_left day J size first from i false old mid new a low above below e is = subst (AreLeftTo day J size first (i + 1) old) (sym is) (record { left = a.left; behind = λ j le. a.behind j (omega (arith, le, above)) })
one_left day J size first from i true old mid new a low above below e is = subst (AreLeftTo day J size first (i + 1) old) (sym is) (record {
  left = record {
    all = taken_size mid i false ∙ a.left.all;
    each = λ j h k. elim (cases_eq j i) [
      | inl same ↦ record { low = omega (arith, same, low, above); high = omega (arith, same, below); ended = ap (λ n. cycle_ended day (n - first) J) same ∙ sym e }
      | inr ne ↦ a.left.each j h (sym (has_other mid i j false ne) ∙ k)
    ];
  };
  behind = λ j le. has_other mid i j false (λ same. omega (arith, le, same)) ∙ a.behind j (omega (arith, le, above));
})

-- a member that isn't looked at any more was looked at
pub looked_at : (day : Day) (J : History) (size first from : ℕ) (old mid : List Bool) → AreLeftTo day J size first from old mid → (k : ℕ) → has old k ≡ true → (from ≤ k → has mid k ≡ false) → k < from
looked_at day J size first from old mid a k h none = elim (cases_lt k from) [
  | inl less ↦ less
  | inr ge ↦ never (has old k) h (sym (a.behind k ge) ∙ none ge)
]

-- ---- a message more, and a stop more

pub batches_same : (day : Day) (ms : List Message) (ss : List ℕ) (J : History) (b : Batches) → SpeaksOf (length day.messages) J → length day.messages + length ms + 1 ≤ b.size → AreBatches day J b → AreBatches (longer day ms ss) J b
batches_same day ms ss J b speaks room a = record {
  all = a.all;
  room = (let len : length (day.messages ++ ms) ≡ length day.messages + length ms = length-append day.messages ms in omega (arith, len, room));
  few = a.few;
  each = λ n low c accepted lasts. here n c accepted lasts (cases_lt (length day.messages) n);
}
  where
    here : (n : ℕ) → is_c (sort_of (longer day ms ss) n) ≡ true → is_accepted J n ≡ true → cycle_ended (longer day ms ss) n J ≡ false → (length day.messages < n) ⊎ (n ≤ length day.messages) → has b.set (block b.size (longer day ms ss) n + n) ≡ true
    here n c accepted lasts (inl new) = never (is_accepted J n) accepted (never_accepted (length day.messages) n J speaks new)
    here n c accepted lasts (inr old) =
        ap (λ (o : Option Message). has b.set (b.size * option_map_or (λ (m : Message). unwrap_or (system_named day m.sender) 0) o 0 + n)) (message_same day ms ss n old)
        ∙ a.each n old (sym (ap is_c (sort_same day ms ss n old)) ∙ c) accepted (sym (ended_same day ms ss n J speaks old) ∙ lasts)
