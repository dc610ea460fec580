-- The runs of the plain order, without their fuel.
use Rattle.std.proofs.Common.{◌≡◌, ℕ, suc, ◌+◌, ◌<◌, ◌≤◌, [], ◌∷◌, length, true, false, None, is_some, refl, sym, ap, ◌∙◌, subst, arith, ⊎_elim, add-one}
use Rattle.std.proofs.lemmas.Bool.{cases_lt, eq-eqb, eqb-true, eqb-false, or_parts, false≢true, le-ltb, ne_eqb, or_from}
use Rattle.batch_records.specs.DayRecord.{Day}
use Rattle.batch_records.specs.Sound.{is_sound}
use Rattle.commit_journal.specs.declared.line.Want.{Want}
use Rattle.commit_journal.specs.declared.line.Want.TheVariants as wants
use Rattle.commit_journal.specs.Line.{History}
use Rattle.machine.specs.Records.Messages.{entries}
use Rattle.machine.specs.Telling.History.{place_of, is_ended, is_end}
use Rattle.machine.specs.Telling.Facts.{round}
use Rattle.machine.specs.Making.Lines.{line_of, made, item_want}
use Rattle.machine.specs.Legal.{IsLegal, is_complete}
use Rattle.machine.specs.Orders.Bounds.{left}
use Rattle.machine.specs.OtherLaws.{PlainEnds, ScansStop, RoundEnds, DayEnds}
use Rattle.machine.specs.Orders.Order.{append, one_scan, take_step, take_all, item_step, items_step, scan, empty_step, empty_all, until, is_quiet, quiet, time_want, lap, is_past, to_round, to_end, plain}
use Rattle.settlement_laws.proofs.Base.Growing.{Grows, Runs, grows-then, grows-append, append-still, grows-one_scan, one_scan-still, grows-until, until-stops, until-over, until-next, one_scan-more, left-falls}
use Rattle.settlement_laws.proofs.Base.Induction.{legal_induction}
use Rattle.settlement_laws.proofs.Base.Places.{place-other}
use Rattle.settlement_laws.proofs.DayEnd.Progress.{never_stuck, IsStuck}

pub grows-take_all : (day : Day) (J : History) → Grows day J (take_all day J)
unfolding take_all
grows-take_all day J = grows-one_scan day (take_step day) (λ K n. grows-append day K _) J (length day.messages)

pub grows-items : (day : Day) (K : History) (n : ℕ) → Grows day K (items_step day K n)
grows-items day K n = grows-one_scan day (item_step day (suc n)) (λ L k. grows-append day L _) K (suc (length (entries day (suc n))))

pub grows-scan : (day : Day) (J : History) → Grows day J (scan day J)
unfolding scan
grows-scan day J = grows-one_scan day (items_step day) (grows-items day) J (length day.messages)

pub grows-empty_all : (day : Day) (J : History) → Grows day J (empty_all day J)
unfolding empty_all
grows-empty_all day J = grows-one_scan day (empty_step day) (λ K a. grows-append day K _) J (length day.accounts)

pub runs-quiet : (day : Day) → Runs day (is_quiet day) (scan day)
runs-quiet day =
    record {
      grows = grows-scan day;
      moves = λ K legal f. let ne = eqb-false (length (scan day K)) (length K) f in let l = (grows-scan day K).longer in omega (arith, ne, l);
    }

pub grows-quiet : (day : Day) (J : History) → Grows day J (quiet day J)
unfolding quiet
grows-quiet day J = grows-until day (is_quiet day) (scan day) (grows-scan day) (left day J) J

pub quiet-over : (day : Day) (J : History) → length (scan day J) ≡ length J → quiet day J ≡ J
unfolding quiet
quiet-over day J e = until-over (is_quiet day) (scan day) (left day J) J (eq-eqb _ _ e)

pub grows-lap : (day : Day) (J : History) → Grows day J (lap day J)
unfolding lap
grows-lap day J =
    let A = take_all day J in
    let B = quiet day A in
    let C = empty_all day B in
    grows-then day J A _ (grows-take_all day J) (grows-then day A B _ (grows-quiet day A) (grows-then day B C _ (grows-empty_all day B) (grows-append day C _)))

-- ---- what a step that appends nothing tells

take_all-still : (day : Day) (J : History) → length (take_all day J) ≡ length J → (n : ℕ) → n < length day.messages → line_of day J (wants.In (suc n)) ≡ None
unfolding take_all
take_all-still day J e n l =
    append-still day J _ (one_scan-still day (take_step day) (λ K k. grows-append day K _) J (length day.messages) e n l)

empty_all-still : (day : Day) (J : History) → length (empty_all day J) ≡ length J → (a : ℕ) → a < length day.accounts → line_of day J (wants.Sweep (suc a)) ≡ None
unfolding empty_all
empty_all-still day J e a l =
    append-still day J _ (one_scan-still day (empty_step day) (λ K k. grows-append day K _) J (length day.accounts) e a l)

pub scan-still : (day : Day) (J : History) → length (scan day J) ≡ length J → (n k : ℕ) → n < length day.messages → k < suc (length (entries day (suc n))) → line_of day J (item_want day J (suc n) k) ≡ None
unfolding scan
scan-still day J e n k l m =
    let inner : items_step day J n ≡ J = one_scan-still day (items_step day) (grows-items day) J (length day.messages) e n l in
    append-still day J _ (one_scan-still day (item_step day (suc n)) (λ L i. grows-append day L _) J (suc (length (entries day (suc n)))) (ap length inner) k m)

-- after scans no scan appends a line
quiet-still : (day : Day) → is_sound day ≡ true → (J : History) → IsLegal day J → length (scan day (quiet day J)) ≡ length (quiet day J)
unfolding quiet
quiet-still day sound J legal = eqb-true _ _ (until-stops day sound (is_quiet day) (scan day) (runs-quiet day) (left day J) J legal (omega arith))

lap-stuck : (day : Day) → is_sound day ≡ true → (J : History) → IsLegal day J → length (lap day J) ≡ length J → IsStuck day J
unfolding lap
lap-stuck day sound J legal e =
    let A = take_all day J in
    let B = quiet day A in
    let C = empty_all day B in
    let a = grows-take_all day J in
    let b = grows-quiet day A in
    let c = grows-empty_all day B in
    let d = grows-append day C (time_want C) in
    let al = a.longer in
    let bl = b.longer in
    let cl = c.longer in
    let dl = d.longer in
    let a_is : A ≡ J = a.same (omega (arith, e)) in
    let b_is : B ≡ A = b.same (omega (arith, e)) in
    let c_is : C ≡ B = c.same (omega (arith, e)) in
    let d_is : append day C (time_want C) ≡ C = d.same (omega (arith, e)) in
    let quiet_is : quiet day J ≡ J = subst (λ K. quiet day K ≡ K) a_is b_is in
    let empty_is : empty_all day J ≡ J = subst (λ K. empty_all day K ≡ K) (b_is ∙ a_is) c_is in
    record {
      none_taken = take_all-still day J (ap length a_is);
      no_item = scan-still day J (subst (λ K. length (scan day K) ≡ length K) quiet_is (quiet-still day sound J legal));
      no_sweep = empty_all-still day J (ap length empty_is);
      no_time = subst (λ K. line_of day K (time_want K) ≡ None) (c_is ∙ b_is ∙ a_is) (append-still day C (time_want C) d_is);
    }

-- a turn of a legal history without the End line appends a line
pub lap-moves : (day : Day) → is_sound day ≡ true → (J : History) → IsLegal day J → is_ended J ≡ false → length J < length (lap day J)
lap-moves day sound J legal e =
    ⊎_elim
    (λ (l : length J < length (lap day J)). l)
    (λ (l : length (lap day J) ≤ length J). absurd (never_stuck day J sound legal e (lap-stuck day sound J legal (let g = (grows-lap day J).longer in omega (arith, g)))))
    (cases_lt _ _)

pub quiet-next : (day : Day) → is_sound day ≡ true → (J : History) → IsLegal day J → is_quiet day J ≡ false → quiet day J ≡ quiet day (scan day J)
unfolding quiet
quiet-next day sound J legal f = until-next day sound (is_quiet day) (scan day) (runs-quiet day) J legal f

pub runs-past : (day : Day) → is_sound day ≡ true → (r : ℕ) → Runs day (is_past day r) (lap day)
runs-past day sound r =
    record { grows = grows-lap day; moves = λ K legal f. lap-moves day sound K legal (or_parts _ _ f).0 }

pub grows-to_round : (day : Day) (J : History) → Grows day J (to_round day J)
unfolding to_round
grows-to_round day J = grows-until day (is_past day (round day J)) (lap day) (grows-lap day) (left day J) J

-- while the round is the first one's and the End line doesn't stand, one more turn
unfoldable pub laps : Day → ℕ → History → History
laps day r J = until (is_past day r) (lap day) (left day J) J

pub to_round-laps : (day : Day) (J : History) → to_round day J ≡ laps day (round day J) J
unfolding to_round laps
to_round-laps day J = refl

pub laps-over : (day : Day) (r : ℕ) (J : History) → is_past day r J ≡ true → laps day r J ≡ J
unfolding laps
laps-over day r J t = until-over (is_past day r) (lap day) (left day J) J t

pub laps-next : (day : Day) → is_sound day ≡ true → (r : ℕ) (J : History) → IsLegal day J → is_past day r J ≡ false → laps day r J ≡ laps day r (lap day J)
unfolding laps
laps-next day sound r J legal f = until-next day sound (is_past day r) (lap day) (runs-past day sound r) J legal f

to_round-moves : (day : Day) → is_sound day ≡ true → (J : History) → IsLegal day J → is_ended J ≡ false → length J < length (to_round day J)
unfolding to_round
to_round-moves day sound J legal e =
    let r = round day J in
    let f : is_past day r J ≡ false = or_from _ _ e (le-ltb r r (omega arith)) in
    let next = until-next day sound (is_past day r) (lap day) (runs-past day sound r) J legal f in
    let t = lap-moves day sound J legal e in
    let g = (grows-until day (is_past day r) (lap day) (grows-lap day) (left day (lap day J)) (lap day J)).longer in
    omega (arith, t, g, ap length next)

pub runs-rounds : (day : Day) → is_sound day ≡ true → Runs day is_ended (to_round day)
runs-rounds day sound = record { grows = grows-to_round day; moves = λ K legal e. to_round-moves day sound K legal e }

pub to_end-over : (day : Day) (J : History) → is_ended J ≡ true → to_end day J ≡ J
unfolding to_end
to_end-over day J t = until-over is_ended (to_round day) (left day J) J t

pub to_end-next : (day : Day) → is_sound day ≡ true → (J : History) → IsLegal day J → is_ended J ≡ false → to_end day J ≡ to_end day (to_round day J)
unfolding to_end
to_end-next day sound J legal e = until-next day sound is_ended (to_round day) (runs-rounds day sound) J legal e

pub to_end-ended : (day : Day) → is_sound day ≡ true → (J : History) → IsLegal day J → is_ended (to_end day J) ≡ true
unfolding to_end
to_end-ended day sound J legal = until-stops day sound is_ended (to_round day) (runs-rounds day sound) (left day J) J legal (omega arith)

pub grows-to_end : (day : Day) (J : History) → Grows day J (to_end day J)
unfolding to_end
grows-to_end day J = grows-until day is_ended (to_round day) (grows-to_round day) (left day J) J

-- ---- the plain journal is legal and complete

not_yet : is_ended [] ≡ false
unfolding place_of
not_yet = refl

-- a legal history in which the End line stands has it last
pub ended-complete : (day : Day) (J : History) → IsLegal day J → is_ended J ≡ true → is_complete J ≡ true
ended-complete day = legal_induction day (λ J. is_ended J ≡ true → is_complete J ≡ true) (λ e. absurd (false≢true (sym not_yet ∙ e))) (λ J w legal before e m. step J w e)
  where
    never : (J : History) (w : Want) → is_end (made day J w).head.kind ≡ false → is_ended J ≡ false → is_ended (made day J w ∷ J) ≡ true → is_complete (made day J w ∷ J) ≡ true
    never J w other e t = absurd (false≢true (sym e ∙ ap is_some (sym (place-other (λ l. is_end l.head.kind) (made day J w) J other)) ∙ t))

    step : (J : History) (w : Want) → is_ended J ≡ false → is_ended (made day J w ∷ J) ≡ true → is_complete (made day J w ∷ J) ≡ true
    step J (wants.In n) e t = never J (wants.In n) refl e t
    step J (wants.Book n k) e t = never J (wants.Book n k) refl e t
    step J (wants.All n) e t = never J (wants.All n) refl e t
    step J wants.Time e t = never J wants.Time refl e t
    step J (wants.Expire n) e t = never J (wants.Expire n) refl e t
    step J (wants.Ask n) e t = never J (wants.Ask n) refl e t
    step J (wants.Cover n) e t = never J (wants.Cover n) refl e t
    step J (wants.Refuse n) e t = never J (wants.Refuse n) refl e t
    step J (wants.Sweep a) e t = never J (wants.Sweep a) refl e t
    step J wants.End e t = refl

pub scans_stop : ScansStop
scans_stop day J sound legal = (grows-scan day (quiet day J)).same (quiet-still day sound J legal)

pub round_ends : RoundEnds
unfolding to_round
round_ends day J sound legal =
    let g = grows-to_round day J in
    let r = round day J in
    (g.legal legal, g.beginning, until-stops day sound (is_past day r) (lap day) (runs-past day sound r) (left day J) J legal (omega arith))

pub day_ends : DayEnds
day_ends day J sound legal =
    let g = grows-to_end day J in
    (g.legal legal, g.beginning, ended-complete day (to_end day J) (g.legal legal) (to_end-ended day sound J legal))

pub plain_ends : PlainEnds
unfolding plain
plain_ends day sound =
    let legal : IsLegal day (to_end day []) = (grows-to_end day []).legal tt in
    (legal, ended-complete day (to_end day []) legal (to_end-ended day sound [] tt))

-- ---- one turn of each loop

pub taken-more : (day : Day) (J K L : History) (n : ℕ) → K ≡ one_scan (take_step day) J n → L ≡ append day K (wants.In (n + 1)) → L ≡ one_scan (take_step day) J (n + 1)
taken-more day J K L n k l = l ∙ (λ i. append day (k i) (wants.In (add-one n i))) ∙ sym (one_scan-more (take_step day) J n)

pub item-more : (day : Day) (m : ℕ) (J K L : History) (k : ℕ) (w : Want) → K ≡ one_scan (item_step day m) J k → w ≡ item_want day K m k → L ≡ append day K w → L ≡ one_scan (item_step day m) J (k + 1)
item-more day m J K L k w e we l = l ∙ ap (append day K) we ∙ ap (λ M. append day M (item_want day M m k)) e ∙ sym (one_scan-more (item_step day m) J k)

pub items-more : (day : Day) (J K L : History) (n : ℕ) → K ≡ one_scan (items_step day) J n → L ≡ items_step day K n → L ≡ one_scan (items_step day) J (n + 1)
items-more day J K L n e l = l ∙ ap (λ M. items_step day M n) e ∙ sym (one_scan-more (items_step day) J n)

pub emptied-more : (day : Day) (J K L : History) (a : ℕ) → K ≡ one_scan (empty_step day) J a → L ≡ append day K (wants.Sweep (a + 1)) → L ≡ one_scan (empty_step day) J (a + 1)
emptied-more day J K L a k l = l ∙ (λ i. append day (k i) (wants.Sweep (add-one a i))) ∙ sym (one_scan-more (empty_step day) J a)

pub take_all-one_scan : (day : Day) (J : History) (n : ℕ) → n ≡ length day.messages → one_scan (take_step day) J n ≡ take_all day J
unfolding take_all
take_all-one_scan day J n e = ap (one_scan (take_step day) J) e

pub items-one_scan : (day : Day) (J : History) (n k : ℕ) → k ≡ length (entries day (n + 1)) + 1 → one_scan (item_step day (n + 1)) J k ≡ items_step day J n
items-one_scan day J n k e = ap (one_scan (item_step day (n + 1)) J) (e ∙ add-one (length (entries day (n + 1)))) ∙ ap (λ m. one_scan (item_step day m) J (suc (length (entries day m)))) (add-one n)

pub scan-one_scan : (day : Day) (J : History) (n : ℕ) → n ≡ length day.messages → one_scan (items_step day) J n ≡ scan day J
unfolding scan
scan-one_scan day J n e = ap (one_scan (items_step day) J) e

pub empty_all-one_scan : (day : Day) (J : History) (n : ℕ) → n ≡ length day.accounts → one_scan (empty_step day) J n ≡ empty_all day J
unfolding empty_all
empty_all-one_scan day J n e = ap (one_scan (empty_step day) J) e

pub quiet-done : (day : Day) (J K : History) → K ≡ scan day J → length K ≡ length J → K ≡ quiet day J
quiet-done day J K k e =
    let l : length (scan day J) ≡ length J = sym (ap length k) ∙ e in
    k ∙ (grows-scan day J).same l ∙ sym (quiet-over day J l)

pub quiet-more : (day : Day) → is_sound day ≡ true → (J K : History) → IsLegal day J → K ≡ scan day J → (length K ≡ length J → ⊥) → quiet day K ≡ quiet day J
quiet-more day sound J K legal k ne = ap (quiet day) k ∙ sym (quiet-next day sound J legal (ne_eqb _ _ (λ e. ne (ap length k ∙ e))))

pub quiet-falls : (day : Day) → is_sound day ≡ true → (J K : History) → IsLegal day J → K ≡ scan day J → (length K ≡ length J → ⊥) → left day K < left day J
quiet-falls day sound J K legal k ne =
    let g = grows-scan day J in
    let l = g.longer in
    left-falls day sound J K (subst (IsLegal day) (sym k) (g.legal legal)) (omega (arith, ne, l, ap length k))

pub laps-falls : (day : Day) → is_sound day ≡ true → (r : ℕ) (J K : History) → IsLegal day J → is_past day r J ≡ false → K ≡ lap day J → left day K < left day J
laps-falls day sound r J K legal f k =
    left-falls day sound J K (subst (IsLegal day) (sym k) ((grows-lap day J).legal legal)) (subst (λ L. length J < length L) (sym k) ((runs-past day sound r).moves J legal f))

pub rounds-falls : (day : Day) → is_sound day ≡ true → (J K : History) → IsLegal day J → is_ended J ≡ false → K ≡ to_round day J → left day K < left day J
rounds-falls day sound J K legal f k =
    left-falls day sound J K (subst (IsLegal day) (sym k) ((grows-to_round day J).legal legal)) (subst (λ L. length J < length L) (sym k) ((runs-rounds day sound).moves J legal f))
