-- The facts stand for the lines that were noted, and answer as these tell.
use Rattle.std.proofs.Common.{◌≡◌, ◌∙◌, ℕ, suc, ◌+◌, ◌-◌, ◌^◌, ◌≤◌, ◌<◌, Bool, true, false, ◌&&◌, List, [], ◌∷◌, Option, None, Some, length, refl, sym, ap, subst, arith, if◌then◌else◌}
use Rattle.std.specs.Prelude.{min}
use Rattle.std.specs.Option.{IfSome, option_or}
use Rattle.std.proofs.lemmas.List.FromFn.{length-map-range_with_len}
use Rattle.batch_records.specs.DayRecord.{Day}
use Rattle.batch_records.specs.Sound.{is_sound}
use Rattle.commit_journal.specs.declared.line.Head.{Head}
use Rattle.commit_journal.specs.Line.{Line, History}
use Rattle.machine.specs.Words.{some_passes, when}
use Rattle.machine.specs.Orders.Bounds.{line_limit, most_lines}
use Rattle.machine.specs.Telling.History.{asked, booked, clock, closed, covered, ended, is_end, is_ok, is_time, place_of, settled_whole, taken, taken_code}
use Rattle.machine.specs.Telling.Facts.{answer, answered, open_cycle, revoked, round, untaken_reached}
use Rattle.machine.specs.Legal.{IsLegal}
use Rattle.settlement_laws.proofs.DayEnd.LineBound.{length-bound}
use Rattle.settlement_laws.proofs.Base.SoundParts.{few_lines}
use Rattle.day_facts.specs.declared.stages.Stage.{Stage}
use Rattle.day_facts.specs.Facts.{Facts, FactsRoom, StandsFor, facts_of, next_place, round_at, with_line, with_tables, with_tables_at}
use Rattle.day_facts.specs.Cycles.{cycles_by, open_in}
use Rattle.machine.specs.Records.Messages.{message_at}
use Rattle.machine.specs.Records.Setup.{system_named}
use Rattle.day_facts.proofs.CycleLines.{cycle_is, cycle_lines}
use Rattle.day_facts.proofs.LeftLines.{debit_lines, kept_lines, last_lines, waiting_lines}
use Rattle.day_facts.specs.Untaken.{first_untaken, next_after, reached_by}
use Rattle.day_facts.proofs.OpeningLines.{opening_lines}
use Rattle.day_facts.proofs.UntakenLines.{reached_is, untaken_lines}
use Rattle.day_facts.specs.Objectors.{is_alike, repeats_accepted, repeats_objection}
use Rattle.day_facts.specs.Own.{code_in, owns_of, place_in}
use Rattle.day_facts.specs.Rows.{place_at}
use Rattle.day_facts.specs.Told.{kept_answer, line_aim, answered_in, revoked_in}
use Rattle.day_facts.proofs.Lookups.{answer_is, answered_is, asked_is, booked_is, closed_is, code_is, covered_is, revoked_is, taken_is, whole_is}
use Rattle.day_facts.proofs.OwnLines.{booking_lines, own_lines}
use Rattle.day_facts.proofs.StageLines.{exact_with, others_same, staged_with}
use Rattle.day_facts.proofs.ToldLines.{revoking_lines, told_lines}

-- ---- no lines

pub no_clock : 0 ≡ clock []
unfolding clock
no_clock = refl

pub no_end : None ≡ ended []
unfolding place_of
no_end = refl

pub no_round : (day : Day) (reached : ℕ) → reached ≡ round_at day 0 → reached ≡ round day []
unfolding clock
no_round day reached e = e

-- ---- one more line

clock_more : (l : Line) (J : History) → (if is_time l.head.kind then l.head.entry else clock J) ≡ clock (l ∷ J)
unfolding clock
clock_more l J = refl

round_more : (day : Day) (l : Line) (J : History) → (if is_time l.head.kind then round_at day l.head.entry else round day J) ≡ round day (l ∷ J)
round_more day l J = here (is_time l.head.kind) ∙ ap (round_at day) (clock_more l J)
  where
    here : (b : Bool) → (if b then round_at day l.head.entry else round_at day (clock J)) ≡ round_at day (if b then l.head.entry else clock J)
    here true = refl
    here false = refl

ended_more : (l : Line) (J : History) → option_or (ended J) (when (is_end l.head.kind) (suc (length J))) ≡ ended (l ∷ J)
unfolding place_of
ended_more l J = refl

low : (a n : ℕ) → a ≡ n → suc n < line_limit → min (a + 1) (2 ^ 32 - 1) ≡ suc n
low a n e l = omega (arith, e, l)

few : (day : Day) (l : Line) (J : History) → is_sound day ≡ true → IsLegal day (l ∷ J) → suc (length J) < line_limit
few day l J sound legal =
    let a : length (l ∷ J) ≤ most_lines day = length-bound day sound (l ∷ J) legal in
    let b : most_lines day < line_limit = few_lines day sound in
    omega (arith, a, b)

-- the facts of one line more are those of the lines before it with that line, but for the stages
pub facts_more : (day : Day) (J : History) (l : Line) (earlier : Option ℕ) (stages : List Stage) (systems : ℕ) (room : FactsRoom) → IsLegal day (l ∷ J) → IfSome earlier (λ m. repeats_objection day (owns_of day J) m l.head.msg ≡ true)
    → with_tables_at day l.head (line_aim day l.head) earlier (suc (length J)) (facts_of day J stages systems room) ≡ facts_of day (l ∷ J) stages systems room
facts_more day J l earlier stages systems room legal again = λ i. record {
  own = own_lines day l J i;
  told = told_lines day l J i;
  booked = booking_lines day l J i;
  revoked = revoking_lines day l J earlier legal.0 again i;
  debits = debit_lines day l J i;
  waiting = waiting_lines day l J earlier legal.0 again i;
  kept = kept_lines day l J earlier legal.0 again i;
  last = last_lines day l J i;
  stages = stages;
  cycles = cycle_lines day systems l J i;
  openings = opening_lines l J i;
  next = (ap (λ owns. next_after day owns (first_untaken day J)) (own_lines day l J) ∙ untaken_lines day l J legal) i;
  clock = clock_more l J i;
  round = round_more day l J i;
  ended = ended_more l J i;
  lines = suc (length J);
  room = room;
}

pub note_stands : (day : Day) (J : History) (l : Line) (head : Head) (aim earlier : Option ℕ) (facts new : Facts) → is_sound day ≡ true → aim ≡ line_aim day head
    → IfSome earlier (λ m. repeats_objection day facts.own m head.msg ≡ true) → new ≡ with_line day head aim earlier facts
    → l.head ≡ head → IsLegal day (l ∷ J) → StandsFor day J facts → StandsFor day (l ∷ J) new
note_stands day J l head aim earlier facts new sound named again e h legal s = record {
  legal = legal;
  exact = now ∙ (λ i. facts_of day (l ∷ J) new.stages (sym size i) (sym (ap (λ (f : Facts). f.room) now) i));
  systems = subst (λ k. length day.systems ≤ k) (sym size) s.systems;
  staged = staged_with day mid new head.msg aim facts e refl s.staged (others_same day head aim earlier (next_place facts) facts);
}
  where
    mid : Facts
    mid = with_tables day head aim earlier facts

    place : next_place facts ≡ suc (length J)
    place = low facts.lines (length J) (ap (λ (f : Facts). f.lines) s.exact) (few day l J sound legal)

    the_aim : aim ≡ line_aim day l.head
    the_aim = named ∙ ap (line_aim day) (sym h)

    is_again : (o : Option ℕ) → IfSome o (λ m. repeats_objection day facts.own m head.msg ≡ true) → IfSome o (λ m. repeats_objection day (owns_of day J) m l.head.msg ≡ true)
    is_again None a = tt
    is_again (Some m) a = (λ i. repeats_objection day (sym s.exact i).own m (h i).msg) ∙ a

    systems : ℕ
    systems = length facts.cycles

    told : mid ≡ facts_of day (l ∷ J) facts.stages systems facts.room
    told = (λ i. with_tables_at day (sym h i) (the_aim i) earlier (place i) (s.exact i)) ∙ facts_more day J l earlier facts.stages systems facts.room legal (is_again earlier again)

    now : new ≡ facts_of day (l ∷ J) new.stages systems facts.room
    now = exact_with day mid new head.msg aim (l ∷ J) systems facts.room e told

    size : length new.cycles ≡ systems
    size = ap (λ (f : Facts). length f.cycles) now ∙ length-map-range_with_len (cycles_by day (l ∷ J)) 1 systems

-- ---- answers

pub taken_stands : (day : Day) (J : History) (facts : Facts) (n : ℕ) → StandsFor day J facts → place_in (λ own. own.taken) facts.own n ≡ taken J n
taken_stands day J facts n s = ap (λ (f : Facts). place_in (λ own. own.taken) f.own n) s.exact ∙ taken_is day J n s.legal

pub code_stands : (day : Day) (J : History) (facts : Facts) (n : ℕ) → StandsFor day J facts → code_in facts.own n ≡ taken_code J n
code_stands day J facts n s = ap (λ (f : Facts). code_in f.own n) s.exact ∙ code_is day J n s.legal

pub whole_stands : (day : Day) (J : History) (facts : Facts) (n : ℕ) → StandsFor day J facts → place_in (λ own. own.whole) facts.own n ≡ settled_whole J n
whole_stands day J facts n s = ap (λ (f : Facts). place_in (λ own. own.whole) f.own n) s.exact ∙ whole_is day J n s.legal

pub asked_stands : (day : Day) (J : History) (facts : Facts) (n : ℕ) → StandsFor day J facts → place_in (λ own. own.asked) facts.own n ≡ asked J n
asked_stands day J facts n s = ap (λ (f : Facts). place_in (λ own. own.asked) f.own n) s.exact ∙ asked_is day J n s.legal

pub covered_stands : (day : Day) (J : History) (facts : Facts) (n : ℕ) → StandsFor day J facts → place_in (λ own. own.covered) facts.own n ≡ covered J n
covered_stands day J facts n s = ap (λ (f : Facts). place_in (λ own. own.covered) f.own n) s.exact ∙ covered_is day J n s.legal

pub closed_stands : (day : Day) (J : History) (facts : Facts) (n : ℕ) → StandsFor day J facts → place_in (λ own. own.closed) facts.own n ≡ closed J n
closed_stands day J facts n s = ap (λ (f : Facts). place_in (λ own. own.closed) f.own n) s.exact ∙ closed_is day J n s.legal

pub booked_stands : (day : Day) (J : History) (facts : Facts) (n k : ℕ) → StandsFor day J facts → place_at facts.booked n k ≡ booked J n k
booked_stands day J facts n k s = ap (λ (f : Facts). place_at f.booked n k) s.exact ∙ booked_is day J n k s.legal

pub answered_stands : (day : Day) (J : History) (facts : Facts) (n : ℕ) → StandsFor day J facts → answered_in facts.told n ≡ answered day J n
answered_stands day J facts n s = ap (λ (f : Facts). answered_in f.told n) s.exact ∙ answered_is day J n

pub answer_stands : (day : Day) (J : History) (facts : Facts) (n : ℕ) → StandsFor day J facts → kept_answer facts.told n ≡ answer day J n
answer_stands day J facts n s = ap (λ (f : Facts). kept_answer f.told n) s.exact ∙ answer_is day J n

pub revoked_stands : (day : Day) (J : History) (facts : Facts) (n k : ℕ) → StandsFor day J facts → revoked_in day facts.revoked n k ≡ revoked day J n k
revoked_stands day J facts n k s = ap (λ (f : Facts). revoked_in day f.revoked n k) s.exact ∙ revoked_is day J n k

pub repeated_stands : (day : Day) (J : History) (facts : Facts) (n : ℕ) (found : Option ℕ) → StandsFor day J facts → IfSome found (λ m. repeats_objection day facts.own m n ≡ true) → IfSome found (λ m. repeats_accepted day J m n ≡ true)
repeated_stands day J facts n None s h = h
repeated_stands day J facts n (Some m) s h = ap (λ c. some_passes is_ok c && is_alike (message_at day m) (message_at day n)) (sym (code_stands day J facts m s)) ∙ h

pub cycle_stands : (day : Day) (J : History) (facts : Facts) (name : List ℕ) → StandsFor day J facts → open_in facts.cycles (system_named day name) ≡ open_cycle day name J
cycle_stands day J facts name s = ap (λ (f : Facts). open_in f.cycles (system_named day name)) s.exact ∙ cycle_is day (length facts.cycles) J name s.systems s.legal

pub untaken_stands : (day : Day) (J : History) (facts : Facts) → is_sound day ≡ true → StandsFor day J facts → reached_by day facts.next facts.round ≡ untaken_reached day J
untaken_stands day J facts sound s = ap (λ (f : Facts). reached_by day f.next f.round) s.exact ∙ reached_is day J sound

-- ---- what is kept by itself

pub clock_stands : (day : Day) (J : History) (facts : Facts) → StandsFor day J facts → facts.clock ≡ clock J
clock_stands day J facts s = ap (λ (f : Facts). f.clock) s.exact

pub round_stands : (day : Day) (J : History) (facts : Facts) → StandsFor day J facts → facts.round ≡ round day J
round_stands day J facts s = ap (λ (f : Facts). f.round) s.exact

pub end_stands : (day : Day) (J : History) (facts : Facts) → StandsFor day J facts → facts.ended ≡ ended J
end_stands day J facts s = ap (λ (f : Facts). f.ended) s.exact

pub lines_stand : (day : Day) (J : History) (facts : Facts) → StandsFor day J facts → facts.lines ≡ length J
lines_stand day J facts s = ap (λ (f : Facts). f.lines) s.exact
