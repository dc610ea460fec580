-- What is seen goes on, and what is taken in it stays taken.
use Rattle.std.proofs.Common.{◌≡◌, ℕ, ◌+◌, ◌%◌, ◌<◌, ◌≤◌, Bool, true, false, not, ◌&&◌, ◌||◌, List, [], ◌∷◌, ◌++◌, length, get_or, Option, None, Some, is_some, refl, ap, ◌∙◌, sym, subst, arith, ⊎_elim}
use Rattle.std.specs.Prelude.{count_by, if◌then◌else◌, is_none, nat_eq, nat_le, nat_lt, option_map, unwrap_or}
use Rattle.std.specs.Cmp.Lexicographic.{bytes_decides}
use Rattle.std.proofs.lemmas.Bool.{and_from, and_parts, cases_eq, cases_lt, eq-eqb, eqb-true, false≢true, le-leb, leb-true, ltb-true, or_cases}
use Rattle.std.proofs.lemmas.List.Sums.{count_by-le-length, sum_by-cons}
use Rattle.std.proofs.Math.Nat.{mod-lt}
use Rattle.cash_amounts.specs.Tests.{same_name}
use Rattle.batch_records.specs.DayRecord.{Day}
use Rattle.batch_records.specs.Sound.{is_sound}
use Rattle.commit_journal.specs.declared.line.Want.{Want}
use Rattle.commit_journal.specs.declared.line.Want.TheVariants as wants
use Rattle.commit_journal.specs.Line.{History}
use Rattle.commit_journal.specs.Histories.{Begins}
use Rattle.journal_pass.specs.Beginning.{longer}
use Rattle.journal_pass.specs.Known.{Known, with_lines}
use Rattle.journal_pass.proofs.Beginnings.{begins-self, begins-trans}
use Rattle.machine.specs.declared.answers.Why.{Why}
use Rattle.machine.specs.declared.answers.Why.TheVariants as whys
use Rattle.machine.specs.Telling.Facts
use Rattle.machine.specs.Telling.Facts.{is_reached, untaken_earlier}
use Rattle.machine.specs.Telling.History.{clock, ended, is_end, is_ended, taken}
use Rattle.machine.specs.Laws.{EachLine}
use Rattle.machine.specs.Legal.{IsLegal, is_complete}
use Rattle.machine.specs.Making.Lines.{is_ready, may, made}
use Rattle.machine.specs.Records.Messages.{is_message, message_numbers, round_of, sender, sort_of}
use Rattle.machine.specs.Orders.Order.{is_past, to_round}
use Rattle.machine.specs.Making.Reasons.{why_not_in}
use Rattle.machine.specs.Words.{first_some, unless}
use Rattle.settlement_laws.proofs.Base.Induction.{each_line}
use Rattle.settlement_laws.proofs.Base.LinesOf.{stays}
use Rattle.settlement_laws.proofs.DayEnd.Progress.{message_at-in}
use Rattle.settlement_laws.proofs.Base.Searches.{find_none}
use Rattle.settlement_laws.proofs.DayEnd.Stops.{next_stop-bounds}
use Rattle.settlement_laws.proofs.Base.Sums.{all-from}
use Rattle.settlement_laws.proofs.DayEnd.PlainRuns.{ended-complete, round_ends}
use Rattle.lock_book.specs.declared.counted.Stepped.{Stepped}
use Rattle.lock_book.specs.declared.counted.Stepped.TheVariants.{Made, NotNow}
use Rattle.lock_book.specs.Rounds.{AreTaken, is_taken_already, tells_of_taken}
use Rattle.lock_book.specs.Steps.{Tells}
use Rattle.lock_book.proofs.Taking.{taken_kept, told_taken}
use Rattle.lane_workers.specs.Stints.{is_of, stint}
use Rattle.lane_workers.specs.Seen.{AreLanesTaken, AreTakenBelow, GoesOn, HasBegun, IsNextOfSender}
use Rattle.lane_workers.specs.Senders.{lane_of, number_among, sender_number, senders_of}
use Rattle.lane_workers.proofs.Ranges.{StandsAt, stands_at, stands_in}
use Rattle.lane_workers.proofs.RoundFacts.{later_round}

-- ---- rounds don't fall

rises : (day : Day) (J : History) (w : Want) → may day J w ≡ true → clock J ≤ clock (made day J w ∷ J)
unfolding clock
rises day J (wants.In n) h = omega arith
rises day J (wants.Book n k) h = omega arith
rises day J (wants.All n) h = omega arith
rises day J wants.Time h =
    let before = ltb-true (clock J) 86400 (and_parts (nat_lt (clock J) 86400) _ (and_parts _ (not (is_ready day J)) h).0).0 in
    let next = (next_stop-bounds day J before).0 in
    omega (arith, next)
rises day J (wants.Expire n) h = omega arith
rises day J (wants.Ask n) h = omega arith
rises day J (wants.Cover n) h = omega arith
rises day J (wants.Refuse n) h = omega arith
rises day J (wants.Sweep a) h = omega arith
rises day J wants.End h = omega arith

clock_from : (more P : History) → EachLine (λ l before. clock before ≤ clock (l ∷ before)) (more ++ P) → clock P ≤ clock (more ++ P)
clock_from [] P each = omega arith
clock_from (l ∷ more) P each = let a = clock_from more P each.0 in let b = each.1 in omega (arith, a, b)

count_more : (c d : ℕ) (ts : List ℕ) → c ≤ d → count_by (λ t. nat_le t c) ts ≤ count_by (λ t. nat_le t d) ts
count_more c d [] le = omega arith
count_more c d (t ∷ ts) le =
    let a = sum_by-cons (λ u. if nat_le u c then 1 else 0) t ts in
    let b = sum_by-cons (λ u. if nat_le u d then 1 else 0) t ts in
    let r = count_more c d ts le in
    let one = by (nat_le t c) (nat_le t d) (λ h. le-leb t d (let low = leb-true t c h in omega (arith, low, le))) in
    omega (arith, a, b, r, one)
  where
    by : (x y : Bool) → (x ≡ true → y ≡ true) → (if x then 1 else 0) ≤ (if y then 1 else 0)
    by true true h = omega arith
    by true false h = absurd (false≢true (h refl))
    by false true h = omega arith
    by false false h = omega arith

pub goes_on : (day : Day) (P K : History) → IsLegal day K → Begins P K → GoesOn day P K
goes_on day P K legal b = record {
  begins = b;
  rounds = subst (λ (J : History). Facts.round day P ≤ Facts.round day J) (sym b.1)
      (count_more (clock P) (clock (b.0 ++ P)) day.stops (clock_from b.0 P (subst (EachLine (λ l before. clock before ≤ clock (l ∷ before))) b.1 (each_line day (λ l before. clock before ≤ clock (l ∷ before)) (λ J w legal e h. rises day J w h) K legal))));
}

pub goes_then : (day : Day) (P Q R : History) → GoesOn day P Q → GoesOn day Q R → GoesOn day P R
goes_then day P Q R p q =
    let a = p.rounds in
    let b = q.rounds in
    record { begins = begins-trans P Q R p.begins q.begins; rounds = omega (arith, a, b) }

pub goes_still : (day : Day) (P : History) → GoesOn day P P
goes_still day P = record { begins = begins-self P; rounds = omega arith }

-- a pass that was lent twice is still the same but for its lines
pub same_pass : (k m n : Known) → m ≡ with_lines k m.lines → n ≡ with_lines m n.lines → n ≡ with_lines k n.lines
same_pass k m n e f = f ∙ ap (λ (x : Known). with_lines x n.lines) e

-- what two threads have seen together
pub goes_both : (day : Day) (P Q R L : History) → GoesOn day P Q → GoesOn day P R → L ≡ longer Q R → Begins Q L → GoesOn day P L
goes_both day P Q R L q r is b = record { begins = begins-trans P Q L q.begins b; rounds = subst (λ (J : History). Facts.round day P ≤ Facts.round day J) (sym is) (by (nat_lt (length Q) (length R))) }
  where
    by : (x : Bool) → Facts.round day P ≤ Facts.round day (if x then R else Q)
    by true = r.rounds
    by false = q.rounds

-- ---- what is taken stays taken

pub below_kept : (day : Day) (round : ℕ) (P K : History) → Begins P K → AreTakenBelow day round P → AreTakenBelow day round K
below_kept day round P K b h n low high less = taken_kept n P K b (h n low high less)

pub lanes_kept : (day : Day) (workers round from end : ℕ) (P K : History) → Begins P K → AreLanesTaken day workers round from end P → AreLanesTaken day workers round from end K
lanes_kept day workers round from end P K b h n low high of above below = taken_kept n P K b (h n low high of above below)

pub lanes_both : (day : Day) (workers round from middle end : ℕ) (J : History) → AreLanesTaken day workers round from middle J → AreLanesTaken day workers round middle end J → AreLanesTaken day workers round from end J
lanes_both day workers round from middle end J a b n low high of above below =
    ⊎_elim
    (λ (less : lane_of day workers n < middle). a n low high of above less)
    (λ (ge : middle ≤ lane_of day workers n). b n low high of ge below)
    (cases_lt (lane_of day workers n) middle)

pub begun_still : (day : Day) (round : ℕ) (P K : History) → GoesOn day P K → HasBegun day round P → HasBegun day round K
begun_still day round P K g h =
    let a = h.round_is.reached in
    let b = g.rounds in
    record { round_is = record { within = h.round_is.within; reached = omega (arith, a, b) }; before = below_kept day round P K g.begins h.before }

-- the rounds up to this one are those below the next
pub below_next : (day : Day) (hall next : ℕ) (J : History) → next ≡ hall → AreTaken day hall J → AreTakenBelow day (next + 1) J
below_next day hall next J is h n low high less = h n low high (omega (arith, less, is))

pub taken_below : (day : Day) (hall from : ℕ) (J : History) → hall < from → AreTakenBelow day from J → AreTaken day hall J
taken_below day hall from J low h n first last le = h n first last (omega (arith, low, le))

-- all lanes of a round, and those below it
pub round_done : (day : Day) (workers round : ℕ) (J : History) → 0 < workers → AreTakenBelow day round J → AreLanesTaken day workers round 0 workers J → AreTakenBelow day (round + 1) J
round_done day workers round J some below all n low high less =
    ⊎_elim
    (λ (e : round_of day n ≡ round). all n low high e (omega arith) (mod-lt (sender_number day n) some))
    (λ (ne : round_of day n ≡ round → ⊥). below n low high (omega (arith, less, ne)))
    (cases_eq (round_of day n) round)

-- ---- a message that is the next of its sender is taken

taken_reason : (a t d : Option ℕ) (b c : Bool) (r : ℕ) (w : Why) → b ≡ true → c ≡ true → is_none d ≡ true
    → first_some (option_map whys.Over a ∷ unless b whys.NoSuch ∷ option_map whys.Taken t ∷ unless c (whys.Round r) ∷ option_map whys.Earlier d ∷ []) ≡ Some w → is_taken_already w ≡ true
taken_reason (Some x) t d b c r w h g f e = let is : whys.Over x ≡ w = cc in ap is_taken_already (sym is)
taken_reason None (Some x) d true c r w h g f e = let is : whys.Taken x ≡ w = cc in ap is_taken_already (sym is)
taken_reason None None None true true r w h g f e = cc
taken_reason None None (Some x) true true r w h g f e = cc
taken_reason None t d false c r w h g f e = cc
taken_reason None None d true false r w h g f e = cc

none_earlier : (day : Day) (P K : History) (n : ℕ) → Begins P K → IsNextOfSender day P n → is_none (untaken_earlier day K n) ≡ true
none_earlier day P K n b next = find_none waits (taken K) (message_numbers day) ∙ all-from (λ i. not (waits i) || is_some (taken K i)) 1 (length day.messages) each
  where
    waits : ℕ → Bool
    waits i = nat_lt i n && same_name (sender day i) (sender day n)

    from : (x y : Bool) → (x ≡ true → y ≡ true) → (not x || y) ≡ true
    from true y h = h refl
    from false y h = refl

    each : (i : ℕ) → 1 ≤ i → i < 1 + length day.messages → (not (waits i) || is_some (taken K i)) ≡ true
    each i low high = from (waits i) (is_some (taken K i)) (λ h.
        let parts = and_parts (nat_lt i n) (same_name (sender day i) (sender day n)) h in
        taken_kept i P K b (next.earlier i (omega (arith, low)) (ltb-true i n parts.0) parts.1))

pub takes : (day : Day) (P K : History) (n : ℕ) (stepped : Stepped) → IsLegal day K → GoesOn day P K → IsNextOfSender day P n → Tells day (wants.In n) P K stepped → is_some (taken K n) ≡ true
unfolding why_not_in
takes day P K n stepped legal g next tells = told_taken day n P K stepped next.sound legal next.first next.last tells (by stepped tells)
  where
    message : is_message (sort_of day n) ≡ true
    message = let low = next.first in let high = next.last in (message_at-in day n (omega (arith, low)) (omega (arith, high))).1

    reached : is_reached day K n ≡ true
    reached = let a = next.reached in let b = g.rounds in le-leb (round_of day n) (Facts.round day K) (omega (arith, a, b))

    by : (s : Stepped) → Tells day (wants.In n) P K s → tells_of_taken s ≡ true
    by (Made place head) t = refl
    by (NotNow seen w) t =
        taken_reason (ended K) (taken K n) (untaken_earlier day K n) (is_message (sort_of day n)) (is_reached day K n) (round_of day n) w message reached (none_earlier day P K n g.begins next) t.2

-- ---- the messages of a stint, one after the other

pub next_in_stint : (day : Day) (workers round lane i : ℕ) (J : History) → is_sound day ≡ true → HasBegun day round J → i < length (stint day workers round lane)
    → ((k : ℕ) → k < i → is_some (taken J (get_or (stint day workers round lane) k 0)) ≡ true) → IsNextOfSender day J (get_or (stint day workers round lane) i 0)
next_in_stint day workers round lane i J sound begun within past = record {
  sound = sound;
  first = let low = at.low in omega (arith, low);
  last = let high = at.high in omega (arith, high);
  reached = let a = begun.round_is.reached in omega (arith, a, round_is);
  earlier = earlier;
}
  where
    at : StandsAt (is_of day workers round lane) 1 (length day.messages) (stint day workers round lane) i
    at = stands_at (is_of day workers round lane) 1 (length day.messages) i within

    n : ℕ
    n = get_or (stint day workers round lane) i 0

    parts : (nat_eq (round_of day n) round ≡ true) × (nat_eq (lane_of day workers n) lane ≡ true)
    parts = and_parts (nat_eq (round_of day n) round) (nat_eq (lane_of day workers n) lane) at.passes

    round_is : round_of day n ≡ round
    round_is = eqb-true (round_of day n) round parts.0

    earlier : (m : ℕ) → 0 < m → m < n → same_name (sender day m) (sender day n) ≡ true → is_some (taken J m) ≡ true
    earlier m low less same =
        let last : n < 1 + length day.messages = at.high in
        let sender_is : sender day m ≡ sender day n = (bytes_decides (sender day m) (sender day n)).0 same in
        let lane_is : lane_of day workers m ≡ lane_of day workers n = ap (λ (s : List ℕ). unwrap_or (number_among (senders_of day.messages) s) 0 % workers) sender_is in
        let no_later : round_of day m ≤ round_of day n = later_round day m n sound low (omega (arith, less)) (omega (arith, last)) in
        ⊎_elim
        (λ (e : round_of day m ≡ round).
        let is : is_of day workers round lane m ≡ true = and_from _ _ (eq-eqb (round_of day m) round e) (ap (λ (k : ℕ). nat_eq k lane) lane_is ∙ parts.1) in
        let j = at.before m (omega (arith, low)) less is in
        subst (λ (k : ℕ). is_some (taken J k) ≡ true) j.2 (past j.0 j.1))
        (λ (ne : round_of day m ≡ round → ⊥). begun.before m low (omega (arith, less, last)) (omega (arith, no_later, round_is, ne)))
        (cases_eq (round_of day m) round)

-- with its last message a stint is taken
pub stint_taken : (day : Day) (workers round lane : ℕ) (J : History) → ((k : ℕ) → k < length (stint day workers round lane) → is_some (taken J (get_or (stint day workers round lane) k 0)) ≡ true)
    → AreLanesTaken day workers round lane (lane + 1) J
stint_taken day workers round lane J all n low high of above below =
    let lane_is : lane_of day workers n ≡ lane = omega (arith, above, below) in
    let is : is_of day workers round lane n ≡ true = and_from _ _ (eq-eqb (round_of day n) round of) (eq-eqb (lane_of day workers n) lane lane_is) in
    let j = stands_in (is_of day workers round lane) 1 (length day.messages) n (omega (arith, low)) (omega (arith, high)) is in
    subst (λ (k : ℕ). is_some (taken J k) ≡ true) j.2 (all j.0 j.1)

-- ---- the end of a round, and of the day

pub round_falls : (day : Day) (hall : ℕ) (P J K : History) → is_sound day ≡ true → IsLegal day J → Begins P J → K ≡ to_round day J → is_ended K ≡ false → hall ≤ Facts.round day P → hall < Facts.round day K
round_falls day hall P J K sound legal b is going low =
    let past : is_past day (Facts.round day J) K ≡ true = subst (λ (L : History). is_past day (Facts.round day J) L ≡ true) (sym is) (round_ends day J sound legal).2 in
    let a = (goes_on day P J legal b).rounds in
    ⊎_elim
    (λ (over : is_ended K ≡ true). absurd (false≢true (sym going ∙ over)))
    (λ (more : nat_lt (Facts.round day J) (Facts.round day K) ≡ true). let l = ltb-true (Facts.round day J) (Facts.round day K) more in omega (arith, l, a, low))
    (or_cases (is_ended K) (nat_lt (Facts.round day J) (Facts.round day K)) past)

pub round_within_day : (day : Day) (J : History) → Facts.round day J ≤ length day.stops
round_within_day day J = count_by-le-length (λ stop. nat_le stop (clock J)) day.stops

still_ended : (more P : History) → is_ended P ≡ true → is_ended (more ++ P) ≡ true
still_ended [] P h = h
still_ended (l ∷ more) P h = stays (λ l. is_end l.head.kind) l (more ++ P) (still_ended more P h)

pub complete_after : (day : Day) (P K : History) → IsLegal day K → Begins P K → is_ended P ≡ true → is_complete K ≡ true
complete_after day P K legal b h = ended-complete day K legal (subst (λ (J : History). is_ended J ≡ true) (sym b.1) (still_ended b.0 P h))
