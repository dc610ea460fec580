-- The set of times over no lines, and after one more line.
use Rattle.std.proofs.Common.{◌≡◌, ◌∙◌, ℕ, Bool, true, false, ◌||◌, ◌&&◌, List, [], ◌∷◌, Option, Some, None, length, replicate, refl, sym, ap, subst, inl, inr}
use Rattle.std.specs.Prelude.{fold, is_none, nat_eq}
use Rattle.std.specs.Option.{option_or}
use Rattle.std.specs.Cmp.{both_ways}
use Rattle.std.specs.List.{list_any}
use Rattle.std.proofs.lemmas.Bool.{and_from, and_parts, eq-eqb, eqb-true, false≢true, or_cases, or_left, or_right}
use Rattle.std.proofs.lemmas.List.{length-replicate}
use Rattle.batch_records.specs.DayRecord.{Day}
use Rattle.batch_records.specs.Sound.{is_sound}
use Rattle.commit_journal.specs.declared.line.Code.{Code}
use Rattle.commit_journal.specs.declared.line.Kind.{Kind}
use Rattle.commit_journal.specs.declared.line.Kind.TheVariants as kinds
use Rattle.commit_journal.specs.declared.line.Move.{Move}
use Rattle.commit_journal.specs.Line.{Line, History}
use Rattle.machine.specs.Words.{some_passes, when}
use Rattle.machine.specs.Records.Messages.{is_batch, is_message, message_numbers, sort_of}
use Rattle.machine.specs.Telling.History.{is_accepted, is_in, is_in_of, is_ok, read_first, taken, taken_code}
use Rattle.machine.specs.Telling.Facts.{is_reached, untaken_earlier}
use Rattle.machine.specs.OtherLaws.{is_among}
use Rattle.machine.specs.Legal.{IsLegal}
use Rattle.machine.specs.Making.Lines.{may_take}
use Rattle.live_order.specs.Coming.{setup}
use Rattle.settlement_laws.proofs.Base.LinesOf.{accepted_stays, or_none}
use Rattle.settlement_laws.proofs.Base.Lists.{none_passes}
use Rattle.settlement_laws.proofs.Base.Made.{Made, made_facts}
use Rattle.settlement_laws.proofs.EachLaw.RejectedDoNothing.{code_now, untaken_code}
use Rattle.settlement_laws.proofs.Base.SoundParts.{sound_parts}
use Rattle.number_set.specs.Members.{has}
use Rattle.clock_stops.specs.Entered.{noted, with_stop}
use Rattle.clock_stops.specs.Kept.{KeepsStops}
use Rattle.clock_stops.specs.Stops.{accepts_batch, is_batch_end, is_stop_time, states_end}
use Rattle.clock_stops.proofs.EnteredFacts.{none_has, noted_has, noted_size, stops_has, stops_size}
use Rattle.clock_stops.proofs.StopFacts.{IsBatchWith, batch_found, batch_there}

-- ---- no lines

-- no batch is accepted
none_ends : (day : Day) (t n : ℕ) → is_batch_end day [] t n ≡ false
unfolding read_first
none_ends day t n = here (is_batch (sort_of day n)) (states_end day t n)
  where
    here : (a s : Bool) → (a && false && s) ≡ false
    here true s = refl
    here false s = refl

first_stops : (day : Day) (t : ℕ) → is_stop_time day [] t ≡ is_among day.stops t
unfolding is_stop_time
first_stops day t = or_none (is_among day.stops t) _ (none_passes (is_batch_end day [] t) (message_numbers day) (λ n _. none_ends day t n))

pub first_kept : (day : Day) (count : ℕ) (times : List Bool) → is_sound day ≡ true → count ≡ 86401 → times ≡ fold with_stop (replicate count false) day.stops → KeepsStops day [] times
first_kept day count times sound c e = record {
  size = ap length e ∙ stops_size day.stops (replicate count false) ∙ size;
  exact = λ t. ap (λ ts. has ts t) e ∙ stops_has day.stops (replicate count false) 0 t (sound_parts day sound).stops size
      ∙ ap (λ b. b || is_among day.stops t) (none_has count t) ∙ sym (first_stops day t);
}
  where
    size : length (replicate count false) ≡ 86401
    size = length-replicate count false ∙ c

-- nothing has come but the setup
pub none_kept : (day : Day) (count : ℕ) (times : List Bool) → count ≡ 86401 → times ≡ replicate count false → KeepsStops (setup day) [] times
none_kept day count times c e = record {
  size = ap length e ∙ length-replicate count false ∙ c;
  exact = λ t. ap (λ ts. has ts t) e ∙ none_has count t ∙ sym (first_stops (setup day) t);
}

-- ---- one more line

-- what it accepts it takes with code OK
newly : (l : Line) (J : History) (n : ℕ) → is_accepted J n ≡ false → is_accepted (l ∷ J) n ≡ true → (is_in_of n l ≡ true) × (is_ok l.head.code ≡ true)
unfolding read_first
newly l J n = here (taken_code J n) (is_in_of n l) refl
  where
    here : (o : Option Code) (b : Bool) → is_in_of n l ≡ b → some_passes is_ok o ≡ false → some_passes is_ok (option_or o (when b l.head.code)) ≡ true → (is_in_of n l ≡ true) × (is_ok l.head.code ≡ true)
    here (Some c) b i before after = absurd (false≢true (sym before ∙ after))
    here None true i before after = (i, after)
    here None false i before after = absurd (false≢true after)

made_take : (kind : Kind) (day : Day) (J : History) (n k : ℕ) (code : Code) (moves : List Move) → is_in kind ≡ true → Made kind day J n k code moves → may_take day J n ≡ true
made_take kinds.In day J n k code moves h m = m.0
made_take _ day J n k code moves h m = cc

-- no message is taken twice
untaken : (day : Day) (J : History) (l : Line) → IsLegal day (l ∷ J) → is_in l.head.kind ≡ true → is_none (taken J l.head.msg) ≡ true
untaken day J l legal i =
    let n = l.head.msg in
    let m = made_take l.head.kind day J n l.head.entry l.head.code l.moves i (made_facts day J l legal.1).1 in
    (and_parts (is_message (sort_of day n)) (is_none (taken J n)) (and_parts _ (is_reached day J n) (and_parts _ (is_none (untaken_earlier day J n)) m).0).0).1

now_accepted : (day : Day) (J : History) (l : Line) → IsLegal day (l ∷ J) → is_in l.head.kind ≡ true → is_ok l.head.code ≡ true → is_accepted (l ∷ J) l.head.msg ≡ true
now_accepted day J l legal i ok =
    let n = l.head.msg in
    ap (some_passes is_ok) (code_now l J n (and_from (is_in l.head.kind) (nat_eq n n) i (eq-eqb n n refl)) (untaken_code J n (untaken day J l legal i))) ∙ ok

-- whether the line accepts a batch that states the time
abbrev brings : Day → Line → ℕ → Bool
brings day l t = accepts_batch day l.head && states_end day t l.head.msg

module _ (day : Day) (J : History) (l : Line) (t : ℕ) (legal : IsLegal day (l ∷ J)) where
  from_batch : (n : ℕ) × IsBatchWith day (l ∷ J) t n → (is_stop_time day J t || brings day l t) ≡ true
  from_batch (n, (b, a, s)) = here (is_accepted J n) refl
    where
      here : (c : Bool) → is_accepted J n ≡ c → (is_stop_time day J t || brings day l t) ≡ true
      here true e = or_left (is_stop_time day J t) (brings day l t) (batch_there day J t n b e s)
      here false e =
          let k = newly l J n e a in
          let p = and_parts (is_in l.head.kind) (nat_eq l.head.msg n) k.0 in
          let same : n ≡ l.head.msg = sym (eqb-true l.head.msg n p.1) in
          or_right (is_stop_time day J t) (brings day l t)
          (and_from (accepts_batch day l.head) (states_end day t l.head.msg)
          (and_from (is_in l.head.kind && is_ok l.head.code) (is_batch (sort_of day l.head.msg)) (and_from (is_in l.head.kind) (is_ok l.head.code) p.0 k.1) (subst (λ m. is_batch (sort_of day m) ≡ true) same b))
          (subst (λ m. states_end day t m ≡ true) same s))

  forth : is_stop_time day (l ∷ J) t ≡ true → (is_stop_time day J t || brings day l t) ≡ true
  unfolding is_stop_time
  forth h = elim (or_cases (is_among day.stops t) (list_any (is_batch_end day (l ∷ J) t) (message_numbers day)) h) [
    | inl s ↦ or_left (is_stop_time day J t) (brings day l t) (or_left (is_among day.stops t) _ s)
    | inr b ↦ from_batch (batch_found day (l ∷ J) t b)
  ]

  stays : is_stop_time day J t ≡ true → is_stop_time day (l ∷ J) t ≡ true
  unfolding is_stop_time
  stays h = elim (or_cases (is_among day.stops t) (list_any (is_batch_end day J t) (message_numbers day)) h) [
    | inl s ↦ or_left (is_among day.stops t) _ s
    | inr b ↦ later (batch_found day J t b)
  ]
    where
      later : (n : ℕ) × IsBatchWith day J t n → is_stop_time day (l ∷ J) t ≡ true
      later (n, (b, a, s)) = batch_there day (l ∷ J) t n b (accepted_stays l J n a) s

  comes : brings day l t ≡ true → is_stop_time day (l ∷ J) t ≡ true
  comes h =
      let p = and_parts (accepts_batch day l.head) (states_end day t l.head.msg) h in
      let q = and_parts (is_in l.head.kind && is_ok l.head.code) (is_batch (sort_of day l.head.msg)) p.0 in
      let r = and_parts (is_in l.head.kind) (is_ok l.head.code) q.0 in
      batch_there day (l ∷ J) t l.head.msg q.1 (now_accepted day J l legal r.0 r.1) p.1

  stops_more : is_stop_time day (l ∷ J) t ≡ (is_stop_time day J t || brings day l t)
  stops_more = both_ways (is_stop_time day (l ∷ J) t) (is_stop_time day J t || brings day l t) forth
      (λ h. elim (or_cases (is_stop_time day J t) (brings day l t) h) [
        | inl before ↦ stays before
        | inr new ↦ comes new
      ])

pub noted_kept : (day : Day) (J : History) (l : Line) (old new : List Bool) → is_sound day ≡ true → IsLegal day (l ∷ J) → KeepsStops day J old → new ≡ noted day l.head old → KeepsStops day (l ∷ J) new
noted_kept day J l old new sound legal keeps e = record {
  size = ap length e ∙ noted_size day l.head old ∙ keeps.size;
  exact = λ t. ap (λ ts. has ts t) e ∙ noted_has day l.head old t sound keeps.size
      ∙ ap (λ b. b || (accepts_batch day l.head && states_end day t l.head.msg)) (keeps.exact t) ∙ sym (stops_more day J l t legal);
}
