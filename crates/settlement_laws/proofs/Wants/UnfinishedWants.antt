-- What is unfinished of a message has a line, and where nothing is, no want to book, to settle whole or to end has one.
use Rattle.std.proofs.Common.{◌≡◌, ℕ, zero, suc, ◌+◌, ◌≤◌, ◌<◌, length, Bool, true, false, ◌&&◌, not, [], ◌∷◌, Option, Some, None, refl, sym, ap, subst, arith, cond, ⊎_elim}
use Rattle.std.specs.Prelude.{is_some, is_none, option_map}
use Rattle.std.specs.List.{find, range_with_len}
use Rattle.std.proofs.lemmas.Bool.{and_parts, false_from_ne_true, cases_eq, ltb-true}
use Rattle.batch_records.specs.DayRecord.{Day}
use Rattle.batch_records.specs.Sound.{is_sound}
use Rattle.commit_journal.specs.declared.line.Want.{Want}
use Rattle.commit_journal.specs.declared.line.Want.TheVariants as wants
use Rattle.commit_journal.specs.Line.{History}
use Rattle.machine.specs.declared.answers.Phase.{Phase}
use Rattle.machine.specs.declared.answers.Phase.TheVariants as phases
use Rattle.machine.specs.Words.{first_some, when}
use Rattle.machine.specs.Records.Messages.{Sort, Pay, BatchA, BatchB, BatchC, BatchE, sort_of, is_b, item_numbers, entries}
use Rattle.machine.specs.Telling.History.{is_ended}
use Rattle.machine.specs.Stages.Phases.{phase, is_overdue}
use Rattle.machine.specs.Stages.Pending.{is_pending, pending_as}
use Rattle.machine.specs.Making.Lines.{line_of, line_if, made, may, may_book, may_settle_whole, may_expire, may_lapse}
use Rattle.machine.specs.Legal.{IsLegal, is_complete}
use Rattle.machine.specs.Laws.{is_order, is_done}
use Rattle.machine.specs.Orders.Hints.{unfinished}
use Rattle.machine.specs.Making.Wants.{message_of}
use Rattle.settlement_laws.specs.Unfinished.{is_progress, comes_before, UnfinishedHasALine, UnfinishedIsFirst, NothingUnfinished}
use Rattle.settlement_laws.proofs.DayEnd.AllIsDone.{all_is_done}
use Rattle.settlement_laws.proofs.Wants.ReadyWants.{IsThere, item_there}
use Rattle.settlement_laws.proofs.Base.Induction.{line_of-made}
use Rattle.settlement_laws.proofs.Base.Lists.{never, in_range, find_all, find_none}
use Rattle.settlement_laws.proofs.Base.PhaseLaws.{is_going, going_accepted, overdue_going}
use Rattle.settlement_laws.proofs.Balances.MovesOfTheDay.{pending_going}
use Rattle.settlement_laws.proofs.Base.Searches.{find_passes}

-- ---- what is found has a line

abbrev IsUnfinished : Day → History → ℕ → Want → Type 0
IsUnfinished day J n want = (message_of want ≡ n) × (is_progress want ≡ true) × (may day J want ≡ true)

may_be_made : (day : Day) (J : History) (n : ℕ) (want : Want) → unfinished day J n ≡ Some want → IsUnfinished day J n want
may_be_made day J n want h = here (find (may_book day J n) (item_numbers day n)) refl (may_settle_whole day J n) refl (may_expire day J n) refl h
  where
    is : (v w : Want) → Some v ≡ Some w → v ≡ w
    is v w e = cc

    here : (o : Option ℕ) → find (may_book day J n) (item_numbers day n) ≡ o → (a : Bool) → may_settle_whole day J n ≡ a → (e : Bool) → may_expire day J n ≡ e →
        first_some (option_map (wants.Book n) o ∷ when a (wants.All n) ∷ when e (wants.Expire n) ∷ []) ≡ Some want → IsUnfinished day J n want
    here (Some k) f a b e c h = subst (IsUnfinished day J n) (is (wants.Book n k) want h) (refl, refl, find_passes (may_book day J n) (item_numbers day n) k f)
    here None f true b e c h = subst (IsUnfinished day J n) (is (wants.All n) want h) (refl, refl, b)
    here None f false b true c h = subst (IsUnfinished day J n) (is (wants.Expire n) want h) (refl, refl, c)
    here None f false b false c h = cc

pub unfinished_has_a_line : (day : Day) (J : History) → UnfinishedHasALine day J
unfinished_has_a_line day J n want h =
    let u : IsUnfinished day J n want = may_be_made day J n want h in
    (u.0, u.1, λ e. ap is_some (line_of-made day J want e u.2))

-- ---- where nothing is found, none of these wants may be made

record NoneMay (day : Day) (J : History) (n : ℕ) : Type 0 where
  no_book : is_none (find (may_book day J n) (item_numbers day n)) ≡ true
  no_all : may_settle_whole day J n ≡ false
  no_expire : may_expire day J n ≡ false

none_may : (day : Day) (J : History) (n : ℕ) → unfinished day J n ≡ None → NoneMay day J n
none_may day J n h = here (find (may_book day J n) (item_numbers day n)) refl (may_settle_whole day J n) refl (may_expire day J n) refl h
  where
    here : (o : Option ℕ) → find (may_book day J n) (item_numbers day n) ≡ o → (a : Bool) → may_settle_whole day J n ≡ a → (e : Bool) → may_expire day J n ≡ e →
        first_some (option_map (wants.Book n) o ∷ when a (wants.All n) ∷ when e (wants.Expire n) ∷ []) ≡ None → NoneMay day J n
    here (Some k) f a b e c h = cc
    here None f true b e c h = cc
    here None f false b true c h = cc
    here None f false b false c h = record { no_book = ap is_none f; no_all = b; no_expire = c }

-- a want to book that may be made is of one of the items
never_booked : (day : Day) (J : History) (n k : ℕ) → is_none (find (may_book day J n) (item_numbers day n)) ≡ true → may_book day J n k ≡ true → ⊥
never_booked day J n k h b =
    let there : IsThere day n k = item_there day J (wants.Book n k) b in
    let low : k < suc (length (entries day n)) = there.entry in
    never (may_book day J n k) b (find_all (may_book day J n) (item_numbers day n) h k (in_range 0 (suc (length (entries day n))) k (omega arith) (omega (arith, low))))

may_not : (day : Day) (J : History) (want : Want) → NoneMay day J (message_of want) → is_progress want ≡ true → may day J want ≡ false
may_not day J (wants.Book n k) none p = false_from_ne_true (may_book day J n k) (never_booked day J n k none.no_book)
may_not day J (wants.All n) none p = none.no_all
may_not day J (wants.Expire n) none p = none.no_expire
may_not day J _ none p = cc

no_line : (day : Day) (J : History) (want : Want) → may day J want ≡ false → line_of day J want ≡ None
unfolding line_of
no_line day J want = go (is_ended J) (may day J want)
  where
    go : (b c : Bool) → c ≡ false → line_if (not b && c) (made day J want) ≡ None
    go true c h = refl
    go false true h = cc
    go false false h = refl

pub nothing_unfinished : (day : Day) (J : History) → NothingUnfinished day J
nothing_unfinished day J n want h m p = no_line day J want (may_not day J want (none_may day J (message_of want) (subst (λ x. unfinished day J x ≡ None) (sym m) h)) p)

-- ---- what is found is the first

find_before : (p : ℕ → Bool) (s n k i : ℕ) → find p (range_with_len s n) ≡ Some k → s ≤ i → i < k → p i ≡ false
find_before p s zero k i e low less = cc
find_before p s (suc n) k i e low less = here (p s) refl e (λ f more. find_before p (s + 1) n k i f more less)
  where
    is : (a b : ℕ) → Some a ≡ Some b → a ≡ b
    is a b e = cc

    here : (b : Bool) → p s ≡ b → cond b (Some s) (find p (range_with_len (s + 1) n)) ≡ Some k → (find p (range_with_len (s + 1) n) ≡ Some k → s + 1 ≤ i → p i ≡ false) → p i ≡ false
    here true h f later = absurd (omega (arith, low, less, is s k f))
    here false h f later =
        ⊎_elim
        (λ (q : i ≡ s). subst (λ x. p x ≡ false) (sym q) h)
        (λ (ne : i ≡ s → ⊥). later f (omega (arith, ne, low)))
        (cases_eq i s)

before_book : (day : Day) (J : History) (n k : ℕ) (other : Want) → find (may_book day J n) (item_numbers day n) ≡ Some k → message_of other ≡ n → comes_before other (wants.Book n k) ≡ true → may day J other ≡ false
before_book day J n k (wants.Book m i) f e c = subst (λ x. may_book day J x i ≡ false) (sym e) (find_before (may_book day J n) 0 (suc (length (entries day n))) k i f (omega arith) (ltb-true i k c))
before_book day J n k _ f e c = cc

before_all : (day : Day) (J : History) (n : ℕ) (other : Want) → is_none (find (may_book day J n) (item_numbers day n)) ≡ true → message_of other ≡ n → comes_before other (wants.All n) ≡ true → may day J other ≡ false
before_all day J n (wants.Book m i) f e c = subst (λ x. may_book day J x i ≡ false) (sym e) (false_from_ne_true (may_book day J n i) (never_booked day J n i f))
before_all day J n _ f e c = cc

before_expire : (day : Day) (J : History) (n : ℕ) (other : Want) → is_none (find (may_book day J n) (item_numbers day n)) ≡ true → may_settle_whole day J n ≡ false → message_of other ≡ n → comes_before other (wants.Expire n) ≡ true → may day J other ≡ false
before_expire day J n (wants.Book m i) f a e c = subst (λ x. may_book day J x i ≡ false) (sym e) (false_from_ne_true (may_book day J n i) (never_booked day J n i f))
before_expire day J n (wants.All m) f a e c = subst (λ x. may_settle_whole day J x ≡ false) (sym e) a
before_expire day J n _ f a e c = cc

earlier_not : (day : Day) (J : History) (n : ℕ) (want other : Want) → unfinished day J n ≡ Some want → message_of other ≡ n → comes_before other want ≡ true → may day J other ≡ false
earlier_not day J n want other h m c = here (find (may_book day J n) (item_numbers day n)) refl (may_settle_whole day J n) refl (may_expire day J n) h
  where
    now : (v : Want) → Some v ≡ Some want → comes_before other v ≡ true
    now v e = subst (λ w. comes_before other w ≡ true) (is want v (sym e)) c
      where
        is : (v w : Want) → Some v ≡ Some w → v ≡ w
        is v w e = cc

    here : (o : Option ℕ) → find (may_book day J n) (item_numbers day n) ≡ o → (a : Bool) → may_settle_whole day J n ≡ a → (e : Bool) →
        first_some (option_map (wants.Book n) o ∷ when a (wants.All n) ∷ when e (wants.Expire n) ∷ []) ≡ Some want → may day J other ≡ false
    here (Some k) f a b e h = before_book day J n k other f m (now (wants.Book n k) h)
    here None f true b e h = before_all day J n other (ap is_none f) m (now (wants.All n) h)
    here None f false b true h = before_expire day J n other (ap is_none f) b m (now (wants.Expire n) h)
    here None f false b false h = cc

pub unfinished_is_first : (day : Day) (J : History) → UnfinishedIsFirst day J
unfinished_is_first day J n want other h m c = no_line day J other (earlier_not day J n want other h m c)

-- ---- once the day has ended nothing is unfinished

never_both : (p : Phase) → is_going p ≡ true → is_done p ≡ true → ⊥
never_both phases.Covered g d = cc
never_both phases.Answered g d = cc
never_both phases.Asking g d = cc
never_both phases.Information g d = cc
never_both phases.Waiting g d = cc
never_both phases.Open g d = cc
never_both phases.Overdue g d = cc
never_both _ g d = cc

pending_order : (s : Sort) (day : Day) (J : History) (n k : ℕ) (p : Phase) → pending_as s day J n k p ≡ true → is_order s ≡ true
pending_order Pay day J n k p h = refl
pending_order BatchA day J n k p h = refl
pending_order BatchB day J n k p h = refl
pending_order BatchC day J n k p h = refl
pending_order BatchE day J n k p h = refl
pending_order _ day J n k p h = cc

lapsing_order : (s : Sort) → may_lapse s ≡ true → is_order s ≡ true
lapsing_order Pay h = refl
lapsing_order BatchA h = refl
lapsing_order BatchB h = refl
lapsing_order BatchC h = refl
lapsing_order BatchE h = refl
lapsing_order _ h = cc

module _ (day : Day) (J : History) (sound : is_sound day ≡ true) (legal : IsLegal day J) (complete : is_complete J ≡ true) (n : ℕ) where
  gone : is_order (sort_of day n) ≡ true → is_going (phase day J n) ≡ true → ⊥
  gone o g = never_both (phase day J n) g (all_is_done day J sound legal complete n o (going_accepted day J n g))

  not_pending : (k : ℕ) → pending_as (sort_of day n) day J n k (phase day J n) ≡ true → ⊥
  not_pending k h = gone (pending_order (sort_of day n) day J n k (phase day J n) h) (pending_going (sort_of day n) day J n k (phase day J n) h)

  no_book_left : (k : ℕ) → may_book day J n k ≡ false
  unfolding is_pending
  no_book_left k = false_from_ne_true (may_book day J n k) (λ h. not_pending k (and_parts (pending_as (sort_of day n) day J n k (phase day J n)) (not (is_b (sort_of day n))) (and_parts _ _ h).0).0)

  no_all_left : may_settle_whole day J n ≡ false
  unfolding is_pending
  no_all_left = false_from_ne_true (may_settle_whole day J n) (λ h. not_pending 0 (and_parts (is_b (sort_of day n)) (pending_as (sort_of day n) day J n 0 (phase day J n)) (and_parts _ _ (and_parts _ _ h).0).0).1)

  no_expire_left : may_expire day J n ≡ false
  no_expire_left = false_from_ne_true (may_expire day J n) (λ h. let b = and_parts (may_lapse (sort_of day n)) (is_overdue (phase day J n)) (and_parts _ _ h).0 in gone (lapsing_order (sort_of day n) b.0) (overdue_going (phase day J n) b.1))

  pub nothing_at_the_end : unfinished day J n ≡ None
  nothing_at_the_end = here (find (may_book day J n) (item_numbers day n)) (find_none (may_book day J n) (item_numbers day n) (λ k _. no_book_left k)) (may_settle_whole day J n) no_all_left (may_expire day J n) no_expire_left
    where
      here : (o : Option ℕ) → is_none o ≡ true → (a : Bool) → a ≡ false → (e : Bool) → e ≡ false →
          first_some (option_map (wants.Book n) o ∷ when a (wants.All n) ∷ when e (wants.Expire n) ∷ []) ≡ None
      here None f false b false c = refl
      here (Some k) f a b e c = cc
      here None f true b e c = cc
      here None f false b true c = cc
