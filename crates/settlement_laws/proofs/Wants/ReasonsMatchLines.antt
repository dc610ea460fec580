-- A want has a reason exactly where it has no line.
use Rattle.std.proofs.Common.{◌≡◌, ℕ, zero, suc, Bool, true, false, not, ◌&&◌, ◌||◌, List, [], ◌∷◌, Option, Some, None, refl, sym, ◌∙◌, ap, arith, cond}
use Rattle.std.specs.Prelude.{is_some, is_none, nat_lt, nat_eq, option_map}
use Rattle.std.specs.List.{list_all, find}
use Rattle.std.proofs.lemmas.Grind.{common_steps}
use Rattle.batch_records.specs.DayRecord.{Day}
use Rattle.batch_records.specs.declared.day.Entry.{Entry}
use Rattle.commit_journal.specs.declared.line.Want.{Want}
use Rattle.commit_journal.specs.declared.line.Want.TheVariants as wants
use Rattle.commit_journal.specs.declared.line.Code.{Code}
use Rattle.commit_journal.specs.declared.line.Code.TheVariants as line_codes
use Rattle.commit_journal.specs.declared.line.Kind.TheVariants as kinds
use Rattle.commit_journal.specs.Line.{Line, History}
use Rattle.machine.specs.declared.answers.Item.{Item}
use Rattle.machine.specs.declared.answers.Phase.{Phase}
use Rattle.machine.specs.declared.answers.Phase.TheVariants as phases
use Rattle.machine.specs.declared.answers.Why.{Why}
use Rattle.machine.specs.declared.answers.Why.TheVariants as whys
use Rattle.machine.specs.Words.{first_some, when, unless, only_if, some_passes, is_zero}
use Rattle.machine.specs.Records.Setup.{is_sub_account}
use Rattle.settlement_laws.proofs.Base.PhaseLaws.{untaken_phase, open_unsettled, open_uncovered, covered_is_covered}
use Rattle.machine.specs.Records.Messages.{Sort, Pay, BatchA, BatchB, BatchC, BatchE, sort_of, is_message, is_a, is_b, is_e, is_a_or_b, part, is_debit, is_credit, is_debit_entry, entry_at, fund_of, debit_account}
use Rattle.machine.specs.Telling.History.{taken, ended, clock, booked, covered}
use Rattle.machine.specs.Telling.Balances.{balance}
use Rattle.machine.specs.Telling.Facts.{is_reached, untaken_earlier, untaken_reached, revoked}
use Rattle.machine.specs.Stages.Phases.{phase, settled_as, is_open, is_covered, is_overdue, is_answered, is_asking}
use Rattle.machine.specs.Stages.Pending.{item, is_pending, debtors, is_blocked, first_unbooked_debit, pending_as}
use Rattle.machine.specs.Stages.Blockers.{first_blocker}
use Rattle.machine.specs.Making.Lines.{line_of, line_if, is_short_debtor, is_free_part, is_covered_part, may_ask, may_lapse, fund_suffices, line, moves_of_part}
use Rattle.machine.specs.Making.FirstReady.{first_ready}
use Rattle.settlement_laws.proofs.Base.Searches.{free_is, not_ready_is, all_taken_is, all_none, none_is, mapped_is, blocked_is, find_passes}
use Rattle.machine.specs.Making.Reasons.{why_not_in, why_not_book, why_not_all, why_not_expire, why_not_ask, why_not_cover, why_not_refuse, why_not_sweep, why_not_time, why_not_end, why_of, short, short_part, blocked_by, blocked_part, blocked_on, blocked_at, books, is_open_or_covered}

-- a reason in a table where there is no line, and a line where there is none: for a want with this end, these rows and this condition
abbrev Matches : Option ℕ → List (Option Why) → Bool → Type 0
Matches over rows condition = (l : Line) → is_some (first_some (option_map whys.Over over ∷ rows)) ≡ is_none (line_if (not (is_some over) && condition) l)

in_rows : (o : Option ℕ) (m : Bool) (t : Option ℕ) (r : Bool) (e : Option ℕ) (x y : Why) →
    Matches o (unless m x ∷ option_map whys.Taken t ∷ unless r y ∷ option_map whys.Earlier e ∷ []) (m && is_none t && r && is_none e)
in_rows (Some p) m t r e x y l = refl
in_rows None false t r e x y l = refl
in_rows None true (Some p) r e x y l = refl
in_rows None true None false e x y l = refl
in_rows None true None true (Some p) x y l = refl
in_rows None true None true None x y l = refl

pub in_complement : (day : Day) (J : History) (n : ℕ) → is_some (why_of day J (wants.In n)) ≡ is_none (line_of day J (wants.In n))
unfolding why_not_in line_of
in_complement day J n = in_rows (ended J) (is_message (sort_of day n)) (taken J n) (is_reached day J n) (untaken_earlier day J n) _ _ _

time_rows : (o : Option ℕ) (c : Bool) (u : Option ℕ) (r : Option Want) (x : Why) →
    Matches o (unless c x ∷ option_map whys.Left u ∷ option_map whys.Ready r ∷ []) (c && is_none u && is_none r)
time_rows (Some p) c u r x l = refl
time_rows None false u r x l = refl
time_rows None true (Some n) r x l = refl
time_rows None true None (Some w) x l = refl
time_rows None true None None x l = refl

pub time_complement : (day : Day) (J : History) → is_some (why_of day J wants.Time) ≡ is_none (line_of day J wants.Time)
unfolding why_not_time line_of
time_complement day J = rw (sym (all_taken_is day J), not_ready_is day J) (time_rows (ended J) (nat_lt (clock J) 86400) (untaken_reached day J) (first_ready day J) _ _)

end_rows : (o : Option ℕ) (c : Bool) (r : Option Want) (x : Why) →
    Matches o (unless c x ∷ option_map whys.Ready r ∷ []) (c && is_none r)
end_rows (Some p) c r x l = refl
end_rows None false r x l = refl
end_rows None true (Some w) x l = refl
end_rows None true None x l = refl

pub end_complement : (day : Day) (J : History) → is_some (why_of day J wants.End) ≡ is_none (line_of day J wants.End)
unfolding why_not_end line_of
end_complement day J = rw (not_ready_is day J) (end_rows (ended J) (nat_eq (clock J) 86400) (first_ready day J) _ _)

sweep_rows : (o : Option ℕ) (s c b : Bool) (x y z : Why) → Matches o (unless s x ∷ unless c y ∷ unless b z ∷ []) (s && c && b)
sweep_rows (Some p) s c b x y z l = refl
sweep_rows None false c b x y z l = refl
sweep_rows None true false b x y z l = refl
sweep_rows None true true false x y z l = refl
sweep_rows None true true true x y z l = refl

pub sweep_complement : (day : Day) (J : History) (a : ℕ) → is_some (why_of day J (wants.Sweep a)) ≡ is_none (line_of day J (wants.Sweep a))
unfolding why_not_sweep line_of
sweep_complement day J a = sweep_rows (ended J) (is_sub_account day a) (nat_eq (clock J) 86400) (nat_lt 0 (balance day J a)) _ _ _ _

-- ---- Ask, Expire, Cover, Refuse: an untaken message has another phase

ask_rows : (o : Option ℕ) (s : Bool) (t : Option ℕ) (p f c : Bool) (x y z v w : Why) → (is_none t ≡ true → p ≡ false) →
    Matches o (unless s x ∷ when (is_none t) y ∷ unless p z ∷ unless f v ∷ unless c w ∷ []) (s && p && f && c)
ask_rows (Some i) s t p f c x y z v w h l = refl
ask_rows None false t p f c x y z v w h l = refl
ask_rows None true None false f c x y z v w h l = refl
ask_rows None true None true f c x y z v w h l = cc (h refl)
ask_rows None true (Some i) false f c x y z v w h l = refl
ask_rows None true (Some i) true false c x y z v w h l = refl
ask_rows None true (Some i) true true false x y z v w h l = refl
ask_rows None true (Some i) true true true x y z v w h l = refl

overdue_if_taken : (day : Day) (J : History) (n : ℕ) → is_none (taken J n) ≡ true → is_overdue (phase day J n) ≡ false
overdue_if_taken day J n h = ap is_overdue (untaken_phase day J n h)

answered_if_taken : (day : Day) (J : History) (n : ℕ) → is_none (taken J n) ≡ true → is_answered (phase day J n) ≡ false
answered_if_taken day J n h = ap is_answered (untaken_phase day J n h)

asking_if_taken : (day : Day) (J : History) (n : ℕ) → is_none (taken J n) ≡ true → is_asking (phase day J n) ≡ false
asking_if_taken day J n h = ap is_asking (untaken_phase day J n h)

pub ask_complement : (day : Day) (J : History) (n : ℕ) → is_some (why_of day J (wants.Ask n)) ≡ is_none (line_of day J (wants.Ask n))
unfolding why_not_ask line_of
ask_complement day J n = ask_rows (ended J) (is_a_or_b (sort_of day n)) (taken J n) (is_overdue (phase day J n)) (is_some (fund_of day n)) (nat_lt (clock J) 86400) _ _ _ _ _ (overdue_if_taken day J n) _

expire_rows : (o : Option ℕ) (s : Bool) (t : Option ℕ) (p a : Bool) (x y z v : Why) → (is_none t ≡ true → p ≡ false) →
    Matches o (unless s x ∷ when (is_none t) y ∷ unless p z ∷ when a v ∷ []) (s && p && not a)
expire_rows (Some i) s t p a x y z v h l = refl
expire_rows None false t p a x y z v h l = refl
expire_rows None true None false a x y z v h l = refl
expire_rows None true None true a x y z v h l = cc (h refl)
expire_rows None true (Some i) false a x y z v h l = refl
expire_rows None true (Some i) true true x y z v h l = refl
expire_rows None true (Some i) true false x y z v h l = refl

pub expire_complement : (day : Day) (J : History) (n : ℕ) → is_some (why_of day J (wants.Expire n)) ≡ is_none (line_of day J (wants.Expire n))
unfolding why_not_expire line_of
expire_complement day J n = expire_rows (ended J) (may_lapse (sort_of day n)) (taken J n) (is_overdue (phase day J n)) (may_ask day J n) _ _ _ _ (overdue_if_taken day J n) _

cover_rows : (o : Option ℕ) (s : Bool) (t : Option ℕ) (p a f : Bool) (x y z v w : Why) → (is_none t ≡ true → p ≡ false) →
    Matches o (unless s x ∷ when (is_none t) y ∷ unless p z ∷ unless (s && p && a) v ∷ unless f w ∷ []) ((s && p && a) && f)
cover_rows (Some i) s t p a f x y z v w h l = refl
cover_rows None false t p a f x y z v w h l = refl
cover_rows None true None false a f x y z v w h l = refl
cover_rows None true None true a f x y z v w h l = cc (h refl)
cover_rows None true (Some i) false a f x y z v w h l = refl
cover_rows None true (Some i) true false f x y z v w h l = refl
cover_rows None true (Some i) true true false x y z v w h l = refl
cover_rows None true (Some i) true true true x y z v w h l = refl

pub cover_complement : (day : Day) (J : History) (n : ℕ) → is_some (why_of day J (wants.Cover n)) ≡ is_none (line_of day J (wants.Cover n))
unfolding why_not_cover line_of
cover_complement day J n = cover_rows (ended J) (is_a_or_b (sort_of day n)) (taken J n) (is_answered (phase day J n)) _ (fund_suffices day J n) _ _ _ _ _ (answered_if_taken day J n) _

-- s: A or B, p: answered, a: the answer is Y, f: the fund covers, q: asking, m: midnight
refuse_rows : (l : Line) (o : Option ℕ) (s : Bool) (t : Option ℕ) (p a f q m : Bool) (x y z v : Why) (gn gs ge : Code) →
    (is_none t ≡ true → p ≡ false) → (is_none t ≡ true → q ≡ false) → (p ≡ true → q ≡ false) →
    is_some (first_some (option_map whys.Over o ∷ unless s x ∷ when (is_none t) y ∷ unless (p || q && m) z ∷ when ((s && p && a) && f) v ∷ []))
    ≡ is_none (line_if (not (is_some o) && is_some (first_some (when (s && p && not a) gn ∷ when ((s && p && a) && not f) gs ∷ when (s && q && m) ge ∷ []))) l)
refuse_rows l (Some i) s t p a f q m x y z v gn gs ge h k e = refl
refuse_rows l None false t p a f q m x y z v gn gs ge h k e = refl
refuse_rows l None true None true a f q m x y z v gn gs ge h k e = cc (h refl)
refuse_rows l None true None false a f true m x y z v gn gs ge h k e = cc (k refl)
refuse_rows l None true None false a f false m x y z v gn gs ge h k e = refl
refuse_rows l None true (Some i) true a f true m x y z v gn gs ge h k e = cc (e refl)
refuse_rows l None true (Some i) true false f false m x y z v gn gs ge h k e = refl
refuse_rows l None true (Some i) true true false false m x y z v gn gs ge h k e = refl
refuse_rows l None true (Some i) true true true false m x y z v gn gs ge h k e = refl
refuse_rows l None true (Some i) false a f false m x y z v gn gs ge h k e = refl
refuse_rows l None true (Some i) false a f true false x y z v gn gs ge h k e = refl
refuse_rows l None true (Some i) false a f true true x y z v gn gs ge h k e = refl

answered_not_asking : (p : Phase) → is_answered p ≡ true → is_asking p ≡ false
answered_not_asking phases.Asking h = cc
answered_not_asking _ h = refl

pub refuse_complement : (day : Day) (J : History) (n : ℕ) → is_some (why_of day J (wants.Refuse n)) ≡ is_none (line_of day J (wants.Refuse n))
unfolding why_not_refuse line_of
refuse_complement day J n = refuse_rows _ (ended J) (is_a_or_b (sort_of day n)) (taken J n) (is_answered (phase day J n)) _ (fund_suffices day J n) (is_asking (phase day J n)) (nat_eq (clock J) 86400) _ _ _ _ _ _ _
    (answered_if_taken day J n) (asking_if_taken day J n) (answered_not_asking (phase day J n))

-- ---- All

all_rows : (o : Option ℕ) (s : Bool) (t : Option ℕ) (p : Bool) (b h : Option Why) (x y z : Why) → (is_none t ≡ true → p ≡ false) →
    Matches o (unless s x ∷ when (is_none t) y ∷ unless p z ∷ b ∷ h ∷ []) (s && p && is_none b && is_none h)
all_rows (Some i) s t p b h x y z u l = refl
all_rows None false t p b h x y z u l = refl
all_rows None true None false b h x y z u l = refl
all_rows None true None true b h x y z u l = cc (u refl)
all_rows None true (Some i) false b h x y z u l = refl
all_rows None true (Some i) true (Some w) h x y z u l = refl
all_rows None true (Some i) true None (Some w) x y z u l = refl
all_rows None true (Some i) true None None x y z u l = refl

open_if_taken : (day : Day) (J : History) (n : ℕ) → is_none (taken J n) ≡ true → is_open (phase day J n) ≡ false
open_if_taken day J n h = ap is_open (untaken_phase day J n h)

pub free_on_all : (day : Day) (J : History) (x : Item) (accounts : List ℕ) → list_all (λ a. not (is_blocked day J x a)) accounts ≡ is_none (blocked_on day J x accounts)
free_on_all day J x accounts = all_none (is_blocked day J x) accounts ∙ here (find (is_blocked day J x) accounts) refl
  where
    here : (o : Option ℕ) → find (is_blocked day J x) accounts ≡ o → is_none o ≡ is_none (blocked_at day J x o)
    here None e = refl
    here (Some a) e = sym (none_is (option_map (blocked_by a) (first_blocker day J x a)) ∙ ap not (mapped_is (blocked_by a) (first_blocker day J x a) ∙ blocked_is day J x a ∙ find_passes (is_blocked day J x) accounts a e))

pub none_short : (day : Day) (J : History) (n : ℕ) (accounts : List ℕ) → list_all (λ a. not (is_short_debtor day J n a)) accounts ≡ is_none (option_map (short day J) (find (is_short_debtor day J n) accounts))
none_short day J n [] = refl
none_short day J n (a ∷ accounts) = here (is_short_debtor day J n a) (none_short day J n accounts)
  where
    here : (b : Bool) → list_all (λ c. not (is_short_debtor day J n c)) accounts ≡ is_none (option_map (short day J) (find (is_short_debtor day J n) accounts)) →
        (not b && list_all (λ c. not (is_short_debtor day J n c)) accounts) ≡ is_none (option_map (short day J) (cond b (Some a) (find (is_short_debtor day J n) accounts)))
    here true e = refl
    here false e = e

b_pending : (s : Sort) (day : Day) (J : History) (n : ℕ) (p : Phase) → (is_b s && pending_as s day J n 0 p) ≡ (is_b s && is_open p)
b_pending BatchB day J n p = refl
b_pending _ day J n p = refl

pub all_complement : (day : Day) (J : History) (n : ℕ) → is_some (why_of day J (wants.All n)) ≡ is_none (line_of day J (wants.All n))
unfolding why_not_all line_of is_pending
all_complement day J n =
    rw (b_pending (sort_of day n) day J n (phase day J n), free_on_all day J (item n 0) (debtors day n), none_short day J n (debtors day n))
    (all_rows (ended J) (is_b (sort_of day n)) (taken J n) (is_open (phase day J n)) (blocked_on day J (item n 0) (debtors day n)) _ _ _ _ (open_if_taken day J n) _)

-- ---- Book

-- every row, read as a test
abbrev book_tests : Bool → Bool → Bool → Option ℕ → Option ℕ → Option ℕ → Option ℕ → Option Why → Option Why → Bool
book_tests bk untaken ph bo rv pc dd b h = bk && not untaken && ph && is_none bo && is_none rv && is_none pc && is_none dd && (is_none b && is_none h)

book_rows : (o : Option ℕ) (bk untaken ph : Bool) (bo rv pc dd : Option ℕ) (b h : Option Why) (x y z : Why) →
    Matches o (unless bk x ∷ when untaken y ∷ unless ph z ∷ option_map whys.Booked bo ∷ option_map whys.Revoked rv ∷ option_map whys.Covered pc ∷ option_map whys.Debits dd ∷ b ∷ h ∷ [])
    (book_tests bk untaken ph bo rv pc dd b h)
book_rows (Some i) bk t ph bo rv pc dd b h x y z l = refl
book_rows None false t ph bo rv pc dd b h x y z l = refl
book_rows None true true ph bo rv pc dd b h x y z l = refl
book_rows None true false false bo rv pc dd b h x y z l = refl
book_rows None true false true (Some i) rv pc dd b h x y z l = refl
book_rows None true false true None (Some i) pc dd b h x y z l = refl
book_rows None true false true None None (Some i) dd b h x y z l = refl
book_rows None true false true None None None (Some i) b h x y z l = refl
book_rows None true false true None None None None (Some w) h x y z l = refl
book_rows None true false true None None None None None (Some w) x y z l = refl
book_rows None true false true None None None None None None x y z l = refl

-- the last two rows: the part is there, free and covered
part_rows : (day : Day) (J : History) (x : Item) (e : Option Entry) →
    some_passes (λ e. is_free_part day J x e && is_covered_part day J x.msg e) e ≡ (is_some e && (is_none (blocked_part day J x e) && is_none (short_part day J x.msg e)))
part_rows day J x None = refl
part_rows day J x (Some e) = ap (λ b. b && is_covered_part day J x.msg e) (free_is day J x (debit_account day e)) ∙ here (first_blocker day J x (debit_account day e)) (is_covered_part day J x.msg e) (debit_account day e) _
  where
    here : (f : Option Item) (c : Bool) (a : ℕ) (w : Why) → (is_none f && c) ≡ (true && (is_none (option_map (blocked_by a) f) && is_none (unless c w)))
    here (Some y) c a w = refl
    here None true a w = refl
    here None false a w = refl

-- z: the entry is 0, e: the part is there, o: open, v: covered, b: booked, t: untaken, f: free and covered
pay_tests : (z e o v b t f : Bool) → (t ≡ true → (o || v) ≡ false) → (z ≡ true → o ≡ true → b ≡ false) → v ≡ false →
    (z && o && true && (e && f)) ≡ (e && z && not t && (o || v) && not b && true && true && true && f)
pay_tests z e o v b t f h k u = grind (arith, common_steps)

-- d: a debit entry, c: a Cover line stands, u: a debit entry is unbooked
a_tests : (o v b t d c u f : Bool) → (t ≡ true → (o || v) ≡ false) → (o ≡ true → c ≡ false) → (v ≡ true → c ≡ true) → (o ≡ true → v ≡ false) →
    ((o && (not b && (d || not d && not u)) || v && not d && not b) && true && (true && f))
    ≡ (true && true && not t && (o || v) && not b && true && not (d && c) && not (o && not d && u) && f)
a_tests o v b t d c u f h k m n = grind (arith, common_steps)

c_tests : (o v b t f : Bool) → (t ≡ true → (o || v) ≡ false) → v ≡ false →
    (true && o && not b && true && (true && f)) ≡ (true && true && not t && (o || v) && not b && true && true && true && f)
c_tests o v b t f h u = grind (arith, common_steps)

e_tests : (o v b r t f : Bool) → (t ≡ true → (o || v) ≡ false) → v ≡ false →
    (true && o && not b && not r && true && (true && f)) ≡ (true && true && not t && (o || v) && not b && not r && true && true && f)
e_tests o v b r t f h u = grind (arith, common_steps)

none_only_if : {X : Type 0} (b : Bool) (x : Option X) → is_none (only_if b x) ≡ not (b && is_some x)
none_only_if true x = refl
none_only_if false x = refl

not_covered : (v : Bool) → (v ≡ true → false ≡ true) → v ≡ false
not_covered true h = sym (h refl)
not_covered false h = refl

open_not_covered : (p : Phase) → is_open p ≡ true → is_covered p ≡ false
open_not_covered phases.Covered h = cc
open_not_covered _ h = refl

abbrev BookAgrees : Sort → Day → History → ℕ → ℕ → Phase → Type 0
BookAgrees s day J n k p =
    (pending_as s day J n k p && not (is_b s) && some_passes (λ e. is_free_part day J (item n k) e && is_covered_part day J n e) (part day n k))
    ≡ book_tests (is_some (part day n k) && books s k) (is_none (taken J n)) (is_open_or_covered p) (booked J n k)
    (only_if (is_e s) (revoked day J n k)) (only_if (is_a s && is_debit day n k) (covered J n)) (only_if (is_a s && is_open p && is_credit day n k) (first_unbooked_debit day J n))
    (blocked_part day J (item n k) (part day n k)) (short_part day J n (part day n k))

-- what the phase tells
record PhaseTells (s : Sort) (day : Day) (J : History) (n : ℕ) (p : Phase) : Type 0 where
  taken_first : is_none (taken J n) ≡ true → (is_open p || is_covered p) ≡ false
  unsettled : is_open p ≡ true → settled_as s day J n ≡ false
  uncovered : is_open p ≡ true → (is_a s && is_some (covered J n)) ≡ false
  is_paid : is_covered p ≡ true → (is_a s && is_some (covered J n)) ≡ true

rest_of : Day → History → Item → Option Entry → Bool
rest_of day J x e = is_none (blocked_part day J x e) && is_none (short_part day J x.msg e)

pay_agrees : (day : Day) (J : History) (n k : ℕ) (p : Phase) → PhaseTells Pay day J n p → BookAgrees Pay day J n k p
unfolding rest_of
pay_agrees day J n k p h =
    ap (λ x. is_zero k && is_open p && true && x) (part_rows day J (item n k) (part day n k))
    ∙ pay_tests (is_zero k) (is_some (part day n k)) (is_open p) (is_covered p) (is_some (booked J n k)) (is_none (taken J n)) (rest_of day J (item n k) (part day n k))
    h.taken_first (unbooked k) (not_covered (is_covered p) h.is_paid)
  where
    unbooked : (i : ℕ) → is_zero i ≡ true → is_open p ≡ true → is_some (booked J n i) ≡ false
    unbooked zero z o = h.unsettled o
    unbooked (suc i) z o = cc

-- entry 0 is no entry
zero_tests : (o v b e t u f x : Bool) (rv pc dd : Bool) →
    ((o && (not b && (false || false && u)) || v && false && not b) && true && x) ≡ (e && false && not t && (o || v) && not b && rv && pc && dd && f)
zero_tests o v b e t u f x rv pc dd = grind (arith, common_steps)

a_part : (day : Day) (J : History) (n k : ℕ) (p : Phase) (e : Option Entry) → PhaseTells BatchA day J n p →
    ((is_open p && (not (is_some (booked J n k)) && (some_passes (is_debit_entry day n) e || some_passes (λ e. not (is_debit_entry day n e)) e && is_none (first_unbooked_debit day J n)))
    || is_covered p && some_passes (λ e. not (is_debit_entry day n e)) e && not (is_some (booked J n k)))
    && true && some_passes (λ e. is_free_part day J (item n k) e && is_covered_part day J n e) e)
    ≡ book_tests (is_some e && true) (is_none (taken J n)) (is_open_or_covered p) (booked J n k)
    None (only_if (some_passes (is_debit_entry day n) e) (covered J n)) (only_if (is_open p && some_passes (λ e. not (is_debit_entry day n e)) e) (first_unbooked_debit day J n))
    (blocked_part day J (item n k) e) (short_part day J n e)
unfolding rest_of
a_part day J n k p None h = no_part (is_open p) (is_covered p) (not (is_some (booked J n k))) (is_none (first_unbooked_debit day J n))
  where
    no_part : (o v b u : Bool) → ((o && (b && (false || false && u)) || v && false && b) && true && false) ≡ false
    no_part o v b u = grind (arith, common_steps)
a_part day J n k p (Some e) h =
    ap (λ x. (is_open p && (not (is_some (booked J n k)) && (is_debit_entry day n e || not (is_debit_entry day n e) && is_none (first_unbooked_debit day J n)))
    || is_covered p && not (is_debit_entry day n e) && not (is_some (booked J n k))) && true && x) (part_rows day J (item n k) (Some e))
    ∙ a_tests (is_open p) (is_covered p) (is_some (booked J n k)) (is_none (taken J n)) (is_debit_entry day n e) (is_some (covered J n)) (is_some (first_unbooked_debit day J n)) (rest_of day J (item n k) (Some e))
    h.taken_first h.uncovered h.is_paid (open_not_covered p)
    ∙ ap (λ x. true && true && not (is_none (taken J n)) && (is_open p || is_covered p) && not (is_some (booked J n k)) && true && x && not (is_open p && not (is_debit_entry day n e) && is_some (first_unbooked_debit day J n)) && rest_of day J (item n k) (Some e))
    (sym (none_only_if (is_debit_entry day n e) (covered J n)))
    ∙ ap (λ x. true && true && not (is_none (taken J n)) && (is_open p || is_covered p) && not (is_some (booked J n k)) && true && is_none (only_if (is_debit_entry day n e) (covered J n)) && x && rest_of day J (item n k) (Some e))
    (sym (none_only_if (is_open p && not (is_debit_entry day n e)) (first_unbooked_debit day J n)))

a_agrees : (day : Day) (J : History) (n k : ℕ) (p : Phase) → PhaseTells BatchA day J n p → BookAgrees BatchA day J n k p
unfolding rest_of
a_agrees day J n zero p h =
    zero_tests (is_open p) (is_covered p) (is_some (booked J n 0)) (is_some (part day n 0)) (is_none (taken J n)) (is_none (first_unbooked_debit day J n)) (rest_of day J (item n 0) (part day n 0)) _ true true _
a_agrees day J n (suc k) p h = a_part day J n (suc k) p (entry_at day n (suc k)) h

c_part : (day : Day) (J : History) (n k : ℕ) (p : Phase) (e : Option Entry) → PhaseTells BatchC day J n p →
    ((is_some e && is_open p && not (is_some (booked J n k))) && true && some_passes (λ e. is_free_part day J (item n k) e && is_covered_part day J n e) e)
    ≡ book_tests (is_some e && true) (is_none (taken J n)) (is_open_or_covered p) (booked J n k) None None None (blocked_part day J (item n k) e) (short_part day J n e)
unfolding rest_of
c_part day J n k p None h = refl
c_part day J n k p (Some e) h =
    ap (λ x. true && is_open p && not (is_some (booked J n k)) && true && x) (part_rows day J (item n k) (Some e))
    ∙ c_tests (is_open p) (is_covered p) (is_some (booked J n k)) (is_none (taken J n)) (rest_of day J (item n k) (Some e)) h.taken_first (not_covered (is_covered p) h.is_paid)

e_part : (day : Day) (J : History) (n k : ℕ) (p : Phase) (e : Option Entry) → PhaseTells BatchE day J n p →
    ((is_some e && is_open p && not (is_some (booked J n k)) && not (is_some (revoked day J n k))) && true && some_passes (λ e. is_free_part day J (item n k) e && is_covered_part day J n e) e)
    ≡ book_tests (is_some e && true) (is_none (taken J n)) (is_open_or_covered p) (booked J n k) (revoked day J n k) None None (blocked_part day J (item n k) e) (short_part day J n e)
unfolding rest_of
e_part day J n k p None h = refl
e_part day J n k p (Some e) h =
    ap (λ x. true && is_open p && not (is_some (booked J n k)) && not (is_some (revoked day J n k)) && true && x) (part_rows day J (item n k) (Some e))
    ∙ e_tests (is_open p) (is_covered p) (is_some (booked J n k)) (is_some (revoked day J n k)) (is_none (taken J n)) (rest_of day J (item n k) (Some e)) h.taken_first (not_covered (is_covered p) h.is_paid)

-- the sorts of which nothing is booked by itself
never_tests : (b t v o p r c d : Bool) → false ≡ (b && false && not t && v && o && p && r && c && d)
never_tests b t v o p r c d = grind (arith, common_steps)

c_agrees : (day : Day) (J : History) (n k : ℕ) (p : Phase) → PhaseTells BatchC day J n p → BookAgrees BatchC day J n k p
c_agrees day J n zero p h = never_tests (is_some (part day n 0)) _ _ _ _ _ _ _
c_agrees day J n (suc k) p h = c_part day J n (suc k) p (entry_at day n (suc k)) h

e_agrees : (day : Day) (J : History) (n k : ℕ) (p : Phase) → PhaseTells BatchE day J n p → BookAgrees BatchE day J n k p
e_agrees day J n zero p h = never_tests (is_some (part day n 0)) _ _ _ _ _ _ _
e_agrees day J n (suc k) p h = e_part day J n (suc k) p (entry_at day n (suc k)) h

b_agrees : (day : Day) (J : History) (n k : ℕ) (p : Phase) → BookAgrees BatchB day J n k p
b_agrees day J n k p = no_b (is_zero k) (is_open p) _ ∙ never_tests (is_some (part day n k)) _ _ _ _ _ _ _
  where
    no_b : (z o f : Bool) → ((z && o) && false && f) ≡ false
    no_b z o f = grind (arith, common_steps)

book_agrees : (s : Sort) (day : Day) (J : History) (n k : ℕ) (p : Phase) → PhaseTells s day J n p → BookAgrees s day J n k p
book_agrees Pay day J n k p h = pay_agrees day J n k p h
book_agrees BatchA day J n k p h = a_agrees day J n k p h
book_agrees BatchB day J n k p h = b_agrees day J n k p
book_agrees BatchC day J n k p h = c_agrees day J n k p h
book_agrees BatchE day J n k p h = e_agrees day J n k p h
book_agrees _ day J n k p h = never_tests (is_some (part day n k)) _ _ _ _ _ _ _

phase_tells : (day : Day) (J : History) (n : ℕ) → PhaseTells (sort_of day n) day J n (phase day J n)
phase_tells day J n = record {
  taken_first = λ t. ap is_open_or_covered (untaken_phase day J n t);
  unsettled = open_unsettled day J n;
  uncovered = open_uncovered day J n;
  is_paid = covered_is_covered day J n;
}

pub book_complement : (day : Day) (J : History) (n k : ℕ) → is_some (why_of day J (wants.Book n k)) ≡ is_none (line_of day J (wants.Book n k))
unfolding why_not_book line_of is_pending
book_complement day J n k =
    let l : Line = line kinds.Book n k line_codes.Ok (moves_of_part day (part day n k)) in
    book_rows (ended J) _ (is_none (taken J n)) _ (booked J n k) _ _ _ _ _ _ _ _ l
    ∙ ap (λ (c : Bool). is_none {T = Line} (line_if (not (is_some (ended J)) && c) l)) (sym (book_agrees (sort_of day n) day J n k (phase day J n) (phase_tells day J n)))

-- ---- every want

pub complement : (day : Day) (J : History) (w : Want) → is_some (why_of day J w) ≡ is_none (line_of day J w)
complement day J (wants.In n) = in_complement day J n
complement day J (wants.Book n k) = book_complement day J n k
complement day J (wants.All n) = all_complement day J n
complement day J wants.Time = time_complement day J
complement day J (wants.Expire n) = expire_complement day J n
complement day J (wants.Ask n) = ask_complement day J n
complement day J (wants.Cover n) = cover_complement day J n
complement day J (wants.Refuse n) = refuse_complement day J n
complement day J (wants.Sweep a) = sweep_complement day J a
complement day J wants.End = end_complement day J
