-- Time passes, and the day ends, where nothing else can be done.
use Rattle.std.proofs.Common.{◌≡◌, ℕ, suc, ◌≤◌, ◌<◌, Bool, true, false, ◌&&◌, ◌||◌, not, List, [], ◌∷◌, Option, Some, None, refl, sym, ap, ◌∙◌, arith}
use Rattle.std.specs.Prelude.{is_some, is_none, length, nat_eq, nat_lt}
use Rattle.std.proofs.lemmas.Bool.{false≢true, and_parts, not-true, eqb-true, ltb-true}
use Rattle.batch_records.specs.DayRecord.{Day}
use Rattle.batch_records.specs.Sound.{is_sound}
use Rattle.commit_journal.specs.declared.line.Move.{Move}
use Rattle.commit_journal.specs.declared.line.Code.{Code}
use Rattle.commit_journal.specs.declared.line.Kind.{Kind}
use Rattle.commit_journal.specs.declared.line.Kind.TheVariants as kinds
use Rattle.commit_journal.specs.declared.line.Want.{Want}
use Rattle.commit_journal.specs.declared.line.Want.TheVariants as wants
use Rattle.commit_journal.specs.Line.{Line, History}
use Rattle.machine.specs.Records.Messages.{sort_of, is_message}
use Rattle.machine.specs.Telling.History.{is_time, is_end, is_ended, taken, clock}
use Rattle.machine.specs.Telling.Facts.{is_reached, untaken_earlier}
use Rattle.machine.specs.Making.Lines.{line_of, line_if, made, may, may_take, is_ready, next_stop, all_taken}
use Rattle.machine.specs.Legal.{IsLegal, want_as}
use Rattle.machine.specs.Laws.{EachLine, WaitsForAll, PassesToTheNextStop, TimeWaits}
use Rattle.machine.specs.OtherLaws.{is_work}
use Rattle.settlement_laws.proofs.Base.Made.{Made, made_facts}
use Rattle.settlement_laws.proofs.Base.Sums.{all-at}
use Rattle.settlement_laws.proofs.DayEnd.Stops.{message_is, all_in, implies}
use Rattle.settlement_laws.proofs.Wants.ReadyWants.{none_is_ready}

-- ---- what has a line may be made

some_may : (b m : Bool) (l : Line) → is_some (line_if (b && m) l) ≡ true → m ≡ true
some_may true true l h = refl
some_may true false l h = cc
some_may false m l h = cc

may_be : (day : Day) (J : History) (w : Want) → is_some (line_of day J w) ≡ true → may day J w ≡ true
unfolding line_of
may_be day J w h = some_may (not (is_ended J)) (may day J w) (made day J w) h

-- ---- work, where nothing is ready

no_work : (day : Day) (J : History) (w : Want) → is_ready day J ≡ false → is_work w ≡ true → is_some (line_of day J w) ≡ true → ⊥
no_work day J w r k s = false≢true (sym (ap is_some (none_is_ready day J r w k)) ∙ s)

-- ---- intakes

none_and_some : (o : Option ℕ) → is_none o ≡ true → is_some o ≡ true → ⊥
none_and_some None h k = false≢true k
none_and_some (Some i) h k = false≢true h

taken_in_time : (day : Day) (J : History) (n : ℕ) → all_taken day J ≡ true → may_take day J n ≡ true → ⊥
unfolding all_taken
taken_in_time day J n all h =
    let a = and_parts _ (is_none (untaken_earlier day J n)) h in
    let b = and_parts _ (is_reached day J n) a.0 in
    let c = and_parts (is_message (sort_of day n)) (is_none (taken J n)) b.0 in
    let at = message_is day n c.0 in
    let n_is : n ≡ suc at.place = at.number in
    let within : at.place < length day.messages = at.within in
    none_and_some (taken J n) c.1 (implies (is_reached day J n) (is_some (taken J n)) (all-at (λ i. not (is_reached day J i) || is_some (taken J i)) 1 (length day.messages) n all (omega (arith, n_is)) (omega (arith, n_is, within))) b.1)

taken_by_midnight : (day : Day) (J : History) (n : ℕ) → is_sound day ≡ true → IsLegal day J → 86400 ≤ clock J → may_take day J n ≡ true → ⊥
taken_by_midnight day J n sound legal late h =
    let a = and_parts _ (is_none (untaken_earlier day J n)) h in
    let b = and_parts _ (is_reached day J n) a.0 in
    let c = and_parts (is_message (sort_of day n)) (is_none (taken J n)) b.0 in
    none_and_some (taken J n) c.1 (all_in day sound J legal late n c.0)

-- ---- Time and End

at_time : (day : Day) (J : History) (w : Want) → nat_lt (clock J) 86400 ≡ true → all_taken day J ≡ true → is_ready day J ≡ false → is_some (line_of day J w) ≡ true → w ≡ wants.Time
at_time day J (wants.In n) early all r s = absurd (taken_in_time day J n all (may_be day J (wants.In n) s))
at_time day J (wants.Book n k) early all r s = absurd (no_work day J (wants.Book n k) r refl s)
at_time day J (wants.All n) early all r s = absurd (no_work day J (wants.All n) r refl s)
at_time day J wants.Time early all r s = refl
at_time day J (wants.Expire n) early all r s = absurd (no_work day J (wants.Expire n) r refl s)
at_time day J (wants.Ask n) early all r s = absurd (no_work day J (wants.Ask n) r refl s)
at_time day J (wants.Cover n) early all r s = absurd (no_work day J (wants.Cover n) r refl s)
at_time day J (wants.Refuse n) early all r s = absurd (no_work day J (wants.Refuse n) r refl s)
at_time day J (wants.Sweep a) early all r s = absurd (no_work day J (wants.Sweep a) r refl s)
at_time day J wants.End early all r s =
    let now : clock J < 86400 = ltb-true (clock J) 86400 early in
    let late : clock J ≡ 86400 = eqb-true (clock J) 86400 (and_parts (nat_eq (clock J) 86400) (not (is_ready day J)) (may_be day J wants.End s)).0 in
    absurd (omega (arith, now, late))

at_end : (day : Day) (J : History) (w : Want) → is_sound day ≡ true → IsLegal day J → clock J ≡ 86400 → is_ready day J ≡ false → is_some (line_of day J w) ≡ true → w ≡ wants.End
at_end day J (wants.In n) sound legal late r s = absurd (taken_by_midnight day J n sound legal (omega (arith, late)) (may_be day J (wants.In n) s))
at_end day J (wants.Book n k) sound legal late r s = absurd (no_work day J (wants.Book n k) r refl s)
at_end day J (wants.All n) sound legal late r s = absurd (no_work day J (wants.All n) r refl s)
at_end day J wants.Time sound legal late r s =
    let now : clock J < 86400 = ltb-true (clock J) 86400 (and_parts (nat_lt (clock J) 86400) (all_taken day J) (and_parts _ (not (is_ready day J)) (may_be day J wants.Time s)).0).0 in
    absurd (omega (arith, now, late))
at_end day J (wants.Expire n) sound legal late r s = absurd (no_work day J (wants.Expire n) r refl s)
at_end day J (wants.Ask n) sound legal late r s = absurd (no_work day J (wants.Ask n) r refl s)
at_end day J (wants.Cover n) sound legal late r s = absurd (no_work day J (wants.Cover n) r refl s)
at_end day J (wants.Refuse n) sound legal late r s = absurd (no_work day J (wants.Refuse n) r refl s)
at_end day J (wants.Sweep a) sound legal late r s = absurd (no_work day J (wants.Sweep a) r refl s)
at_end day J wants.End sound legal late r s = refl

line_waits : (kind : Kind) (day : Day) (J : History) (n k : ℕ) (code : Code) (moves : List Move) → is_sound day ≡ true → IsLegal day J → Made kind day J n k code moves → (is_time kind || is_end kind) ≡ true → (w : Want) → is_some (line_of day J w) ≡ true → w ≡ want_as kind n k
line_waits kinds.Time day J n k code moves sound legal m h w s =
    let b = and_parts (nat_lt (clock J) 86400 && all_taken day J) (not (is_ready day J)) m.0 in
    let c = and_parts (nat_lt (clock J) 86400) (all_taken day J) b.0 in
    at_time day J w c.0 c.1 (not-true (is_ready day J) b.1) s
line_waits kinds.End day J n k code moves sound legal m h w s =
    let b = and_parts (nat_eq (clock J) 86400) (not (is_ready day J)) m.0 in
    at_end day J w sound legal (eqb-true (clock J) 86400 b.0) (not-true (is_ready day J) b.1) s
line_waits _ day J n k code moves sound legal m h w s = cc

waits_for_all : (day : Day) (J : History) → is_sound day ≡ true → IsLegal day J → EachLine (WaitsForAll day) J
waits_for_all day [] sound legal = tt
waits_for_all day (l ∷ J) sound legal = (waits_for_all day J sound legal.0, λ h w s. line_waits l.head.kind day J l.head.msg l.head.entry l.head.code l.moves sound legal.0 (made_facts day J l legal.1).1 h w s)

-- ---- to the next stop

to_the_next : (kind : Kind) (day : Day) (J : History) (n k : ℕ) (code : Code) (moves : List Move) → is_time kind ≡ true → Made kind day J n k code moves → k ≡ next_stop day J
to_the_next kinds.Time day J n k code moves h m = m.4
to_the_next _ day J n k code moves h m = cc

passes_to_the_next : (day : Day) (J : History) → IsLegal day J → EachLine (PassesToTheNextStop day) J
passes_to_the_next day [] legal = tt
passes_to_the_next day (l ∷ J) legal = (passes_to_the_next day J legal.0, λ h. to_the_next l.head.kind day J _ _ _ _ h (made_facts day J l legal.1).1)

pub time_waits : (day : Day) (J : History) → is_sound day ≡ true → IsLegal day J → TimeWaits day J
time_waits day J sound legal = (waits_for_all day J sound legal, passes_to_the_next day J legal)
