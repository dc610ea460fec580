-- What a scan gives each item: a chance, and with the messages of its lane taken before, a turn.
use Rattle.std.proofs.Common.{◌≡◌, ℕ, ◌+◌, ◌<◌, ◌≤◌, true, length, get_or, Option, None, Some, refl, sym, subst, arith, ⊎_elim}
use Rattle.std.specs.Prelude.{IfSome}
use Rattle.std.proofs.lemmas.Bool.{and_from, cases_eq, cases_lt, eq-eqb}
use Rattle.batch_records.specs.DayRecord.{Day}
use Rattle.commit_journal.specs.declared.line.Want.{Want}
use Rattle.commit_journal.specs.Line.{History}
use Rattle.commit_journal.specs.Histories.{Begins}
use Rattle.journal_pass.proofs.Beginnings.{begins-self, begins-trans}
use Rattle.machine.specs.declared.answers.Item.{Item}
use Rattle.machine.specs.Making.Wants.{entry_of, message_of}
use Rattle.machine.specs.Orders.Hints.{hint, hint_of}
use Rattle.machine.specs.Records.Messages.{entries, round_of}
use Rattle.machine.specs.Stages.Pending.{item}
use Rattle.lock_book.specs.declared.counted.Stepped.{Stepped}
use Rattle.lock_book.specs.Steps.{Tells}
use Rattle.lane_workers.specs.Stints.{is_idle, is_of, stint}
use Rattle.lane_workers.specs.Seen.{AreLanesTaken, HadChance, HadChances, HadLanesChance, HadTurns, IsStepped}
use Rattle.lane_workers.specs.Senders.{lane_of}
use Rattle.lane_workers.proofs.Hinted.{IsHint, unnamed}
use Rattle.lane_workers.proofs.Ranges.{stands_at, stands_in}
use Rattle.lane_workers.proofs.StintFacts.{none_of_idle}

-- ---- a chance

mapped : {X : Type 0} (o : Option X) (P Q : X → Type 0) → ((x : X) → P x → Q x) → IfSome o P → IfSome o Q
mapped None P Q f h = tt
mapped (Some x) P Q f h = f x h

-- it stays one in what is seen later
pub chance_kept : (day : Day) (P J K : History) (x : Item) → Begins J K → HadChance day P J x → HadChance day P K x
chance_kept day P J K x b h = record {
  moment = h.moment;
  after = h.after;
  before = begins-trans h.moment J K h.before b;
  stepped = mapped (hint_of day h.moment x) (λ want. IsStepped day want h.moment J) (λ want. IsStepped day want h.moment K)
      (λ want s. record { seen = s.seen; answer = s.answer; tells = s.tells; after = s.after; before = begins-trans s.seen J K s.before b }) h.stepped;
}

-- and is one from an earlier time on
pub chance_since : (day : Day) (P Q K : History) (x : Item) → Begins P Q → HadChance day Q K x → HadChance day P K x
chance_since day P Q K x b h = record { moment = h.moment; after = begins-trans P Q h.moment b h.after; before = h.before; stepped = h.stepped }

-- no want is named for it
unnamed_chance : (day : Day) (P J K : History) (x : Item) → Begins P J → Begins J K → hint_of day J x ≡ None → HadChance day P K x
unnamed_chance day P J K x a b e = record { moment = J; after = a; before = b; stepped = subst (λ (o : Option Want). IfSome o (λ want. IsStepped day want J K)) (sym e) tt }

-- one is named, and stepped
stepped_chance : (day : Day) (P J K : History) (x : Item) (w : Want) (s : Stepped) → Begins P J → Begins J K → hint_of day J x ≡ Some w → Tells day w J K s → HadChance day P K x
stepped_chance day P J K x w s a b e t =
    let is : IsStepped day w J K = record { seen = K; answer = s; tells = t; after = b; before = begins-self K } in
    record { moment = J; after = a; before = b; stepped = subst (λ (o : Option Want). IfSome o (λ want. IsStepped day want J K)) (sym e) is }

-- ---- the items of a message

-- the hint is at an item of the message, and its want is stepped
pub chance_to : (day : Day) (P J K : History) (n e : ℕ) (w : Want) (s : Stepped) → 0 < n → n ≤ length day.messages → IsHint day J (item n e) w → hint day J (item n e) ≡ Some w → message_of w ≡ n
    → Begins P J → Begins J K → Tells day w J K s → (k : ℕ) → e ≤ k → k < entry_of w + 1 → HadChance day P K (item n k)
chance_to day P J K n e w s first last is at of a b t k low high =
    let fits : entry_of w ≤ length (entries day n) = subst (λ (m : ℕ). entry_of w ≤ length (entries day m)) of is.entry in
    ⊎_elim
    (λ (same : k ≡ entry_of w).
    stepped_chance day P J K (item n k) w s a b
    (subst (λ (i : ℕ). hint_of day J (item n i) ≡ Some w) (sym same) (subst (λ (m : ℕ). hint_of day J (item m (entry_of w)) ≡ Some w) of is.named)) t)
    (λ (ne : k ≡ entry_of w → ⊥).
    let less : k < entry_of w = omega (arith, high, ne) in
    unnamed_chance day P J K (item n k) a b
    (unnamed day J n e k first last low (omega (arith, less, fits)) (subst (λ (o : Option Want). IfSome o (λ v. message_of v ≡ n → k < entry_of v)) (sym at) (λ same. less))))
    (cases_eq k (entry_of w))

pub none_named : (o : Option Want) (n : ℕ) → ((w : Want) → o ≡ Some w → ⊥) → IfSome o (λ w. message_of w ≡ n → ⊥)
none_named None n h = tt
none_named (Some w) n h = absurd (h w refl)

-- the hint is at none of the message
pub chance_past : (day : Day) (P J : History) (n e : ℕ) (o : Option Want) → 0 < n → n ≤ length day.messages → hint day J (item n e) ≡ o → IfSome o (λ w. message_of w ≡ n → ⊥)
    → Begins P J → (k : ℕ) → e ≤ k → k < length (entries day n) + 1 → HadChance day P J (item n k)
chance_past day P J n e o first last at other a k low high =
    unnamed_chance day P J J (item n k) a (begins-self J)
    (unnamed day J n e k first last low (omega (arith, high))
    (subst (λ (p : Option Want). IfSome p (λ v. message_of v ≡ n → k < entry_of v)) (sym at) (mapped o (λ w. message_of w ≡ n → ⊥) (λ v. message_of v ≡ n → k < entry_of v) (λ v f same. absurd (f same)) other)))

-- an entry of those before, or of those that were scanned then
pub chances_both : (day : Day) (P J K : History) (n e f : ℕ) → Begins P J → Begins J K → ((k : ℕ) → k < e → HadChance day P J (item n k)) → ((k : ℕ) → e ≤ k → k < f → HadChance day J K (item n k))
    → (k : ℕ) → k < f → HadChance day P K (item n k)
chances_both day P J K n e f a b before then k less = ⊎_elim
    (λ (low : k < e). chance_kept day P J K (item n k) b (before k low))
    (λ (ge : e ≤ k). chance_since day P J K (item n k) a (then k ge less))
    (cases_lt k e)

-- ---- the messages of a stint

pub record IsOfDay (day : Day) (n : ℕ) : Type 0 where
  pub first : 0 < n
  pub last : n ≤ length day.messages

pub of_day : (day : Day) (workers round lane i : ℕ) → i < length (stint day workers round lane) → IsOfDay day (get_or (stint day workers round lane) i 0)
of_day day workers round lane i within =
    let at = stands_at (is_of day workers round lane) 1 (length day.messages) i within in
    let low = at.low in
    let high = at.high in
    record { first = omega (arith, low); last = omega (arith, high) }

-- those before a place, and those of a run from there on
pub chances_joined : (day : Day) (workers round lane place end : ℕ) (P J K : History) → Begins P J → Begins J K → HadChances day workers round lane 0 place P J → HadChances day workers round lane place end J K
    → HadChances day workers round lane 0 end P K
chances_joined day workers round lane place end P J K a b before then m low less k le = ⊎_elim
    (λ (early : m < place). chance_kept day P J K (item (get_or (stint day workers round lane) m 0) k) b (before m low early k le))
    (λ (late : place ≤ m). chance_since day P J K (item (get_or (stint day workers round lane) m 0) k) a (then m late less k le))
    (cases_lt m place)

-- with its last message the lane had its chance
pub lane_scanned : (day : Day) (workers round lane : ℕ) (P K : History)
    → ((i : ℕ) → i < length (stint day workers round lane) → (k : ℕ) → k ≤ length (entries day (get_or (stint day workers round lane) i 0)) → HadChance day P K (item (get_or (stint day workers round lane) i 0) k))
    → HadLanesChance day workers round lane P K
lane_scanned day workers round lane P K all n k low high of lane_is entry =
    let is : is_of day workers round lane n ≡ true = and_from _ _ (eq-eqb (round_of day n) round of) (eq-eqb (lane_of day workers n) lane lane_is) in
    let j = stands_in (is_of day workers round lane) 1 (length day.messages) n (omega (arith, low)) (omega (arith, high)) is in
    subst (λ (m : ℕ). (k : ℕ) → k ≤ length (entries day m) → HadChance day P K (item m k)) j.2 (all j.0 j.1) k entry

-- ---- a turn

pub lane_turns : (day : Day) (workers round lane : ℕ) (P J K : History) → Begins P J → AreLanesTaken day workers round lane (lane + 1) J → HadLanesChance day workers round lane J K
    → HadTurns day workers round lane (lane + 1) P K
lane_turns day workers round lane P J K b taken chances n k low high of above below entry =
    let lane_is : lane_of day workers n ≡ lane = omega (arith, above, below) in
    record {
      moment = J;
      after = b;
      taken = subst (λ (l : ℕ). AreLanesTaken day workers round l (l + 1) J) (sym lane_is) taken;
      chance = chances n k low high of lane_is entry;
    }

pub turns_kept : (day : Day) (workers round from end : ℕ) (P J K : History) → Begins J K → HadTurns day workers round from end P J → HadTurns day workers round from end P K
turns_kept day workers round from end P J K b h n k low high of above below entry =
    let t = h n k low high of above below entry in
    record { moment = t.moment; after = t.after; taken = t.taken; chance = chance_kept day t.moment J K (item n k) b t.chance }

pub turns_since : (day : Day) (workers round from end : ℕ) (P Q K : History) → Begins P Q → HadTurns day workers round from end Q K → HadTurns day workers round from end P K
turns_since day workers round from end P Q K b h n k low high of above below entry =
    let t = h n k low high of above below entry in
    record { moment = t.moment; after = begins-trans P Q t.moment b t.after; taken = t.taken; chance = t.chance }

pub turns_both : (day : Day) (workers round from middle end : ℕ) (P K : History) → HadTurns day workers round from middle P K → HadTurns day workers round middle end P K → HadTurns day workers round from end P K
turns_both day workers round from middle end P K a b n k low high of above below entry =
    ⊎_elim
    (λ (less : lane_of day workers n < middle). a n k low high of above less entry)
    (λ (ge : middle ≤ lane_of day workers n). b n k low high of ge below entry)
    (cases_lt (lane_of day workers n) middle)

-- the rounds so far, and one more
pub rounds_both : (day : Day) (workers next round : ℕ) (P J K : History) → Begins P J → Begins J K → ((r : ℕ) → next ≤ r → r < round → HadTurns day workers r 0 workers P J)
    → HadTurns day workers round 0 workers J K → (r : ℕ) → next ≤ r → r < round + 1 → HadTurns day workers r 0 workers P K
rounds_both day workers next round P J K a b before then r low high = ⊎_elim
    (λ (e : r ≡ round). subst (λ (i : ℕ). HadTurns day workers i 0 workers P K) (sym e) (turns_since day workers round 0 workers P J K a then))
    (λ (ne : r ≡ round → ⊥). turns_kept day workers r 0 workers P J K b (before r low (omega (arith, high, ne))))
    (cases_eq r round)

-- ---- lanes without a message

pub idle_taken : (day : Day) (workers round from end : ℕ) (J : History) → end ≤ workers → is_idle day workers round from end ≡ true → AreLanesTaken day workers round from end J
idle_taken day workers round from end J within idle n low high of above below = absurd (none_of_idle day workers round from end n idle low high of above below within)

pub idle_turns : (day : Day) (workers round from end : ℕ) (P K : History) → end ≤ workers → is_idle day workers round from end ≡ true → HadTurns day workers round from end P K
idle_turns day workers round from end P K within idle n k low high of above below entry = absurd (none_of_idle day workers round from end n idle low high of above below within)
