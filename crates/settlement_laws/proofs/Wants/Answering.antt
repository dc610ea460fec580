-- A want without a reason has its line, and what keeps a pending item back is what why_waits says.
use Rattle.std.proofs.Common.{◌≡◌, ℕ, zero, suc, Bool, true, false, ◌&&◌, ◌||◌, not, List, [], ◌∷◌, ◌++◌, Option, Some, None, inl, inr, refl, sym, ap, ◌∙◌}
use Rattle.std.specs.Prelude.{is_some, is_none, option_map, option_to_list, slice_get, unwrap_or}
use Rattle.std.specs.List.{list_all}
use Rattle.std.proofs.Math.Bool.{or-false}
use Rattle.std.proofs.lemmas.Bool.{and_parts, false≢true}
use Rattle.batch_records.specs.DayRecord.{Day}
use Rattle.batch_records.specs.declared.day.Entry.{Entry}
use Rattle.commit_journal.specs.declared.line.Head.{Head}
use Rattle.commit_journal.specs.declared.line.Move.{Move}
use Rattle.commit_journal.specs.declared.line.Want.{Want}
use Rattle.commit_journal.specs.Line.{Line, History}
use Rattle.machine.specs.declared.answers.Item.{Item}
use Rattle.machine.specs.declared.answers.Why.{Why}
use Rattle.machine.specs.Words.{first_some, some_passes, unless}
use Rattle.machine.specs.Records.Setup.{account_named}
use Rattle.machine.specs.Records.Messages.{debit_account, entries, entry_at, is_a, is_b, sort_of}
use Rattle.machine.specs.Telling.History.{covered}
use Rattle.machine.specs.Stages.Phases.{is_covered, is_open, phase}
use Rattle.machine.specs.Stages.Pending.{debtors, is_blocked, is_pending, item, pending_as}
use Rattle.machine.specs.Stages.Blockers.{first_blocker}
use Rattle.machine.specs.Making.Accounts.{accounts_of}
use Rattle.machine.specs.Making.Lines.{is_covered_part, is_free_part, is_short_debtor, line_of, made, may_settle_whole}
use Rattle.machine.specs.Making.Reasons.{blocked_by, is_open_or_covered, why_of, why_waits}
use Rattle.settlement_laws.proofs.Wants.ReasonsMatchLines.{complement}
use Rattle.settlement_laws.proofs.Base.Induction.{line_of-some}
use Rattle.settlement_laws.proofs.Base.PhaseLaws.{covered_is_covered}
use Rattle.settlement_laws.proofs.Base.Searches.{free_is}
use Rattle.settlement_laws.proofs.Base.Lists.{IsIn}

pub line_there : (day : Day) (J : History) (w : Want) → why_of day J w ≡ None → line_of day J w ≡ Some (made day J w)
line_there day J w h = here (line_of day J w) refl (sym (complement day J w) ∙ ap is_some h)
  where
    here : (o : Option Line) → line_of day J w ≡ o → is_none o ≡ false → line_of day J w ≡ Some (made day J w)
    here None e n = absurd (false≢true (sym n))
    here (Some l) e n = e ∙ ap Some (sym (line_of-some day J w l e).2)

-- with this head and these moves
pub answered-with : (day : Day) (J : History) (w : Want) (h : Head) (ms : List Move) → why_of day J w ≡ None → (made day J w).head ≡ h → (made day J w).moves ≡ ms → line_of day J w ≡ Some (record { head = h; moves = ms })
answered-with day J w h ms none e f = line_there day J w none ∙ (λ i. Some (record { head = e i; moves = f i }))

pub line-is : (day : Day) (J : History) (w : Want) (h : Head) (ms : List Move) → why_of day J w ≡ None → h ≡ (made day J w).head → ms ≡ (made day J w).moves → line_of day J w ≡ Some (record { head = h; moves = ms })
line-is day J w h ms none e f = answered-with day J w h ms none (sym e) (sym f)

-- ---- what is asked of a reason

pub none_is : (o : Option Why) (b : Bool) → is_some o ≡ not b → b ≡ is_none o
none_is None true h = refl
none_is None false h = absurd (false≢true h)
none_is (Some w) true h = absurd (false≢true (sym h))
none_is (Some w) false h = refl

pub one_row : {X : Type 0} (o : Option X) → o ≡ first_some (o ∷ [])
one_row None = refl
one_row (Some x) = refl

-- ---- the phases in which an item is booked

pub pending-open : (day : Day) (J : History) (n k : ℕ) → is_pending day J (item n k) ≡ pending_as (sort_of day n) day J n k (phase day J n)
unfolding is_pending
pending-open day J n k = refl

uncovered : (day : Day) (J : History) (n : ℕ) → is_a (sort_of day n) ≡ false → is_covered (phase day J n) ≡ false
uncovered day J n h = here (is_covered (phase day J n)) refl
  where
    here : (b : Bool) → is_covered (phase day J n) ≡ b → b ≡ false
    here false e = refl
    here true e = absurd (false≢true (sym (ap (λ b. b && is_some (covered J n)) h) ∙ covered_is_covered day J n e))

-- the fund pays for entries of A alone
pub only_open : (day : Day) (J : History) (n : ℕ) → is_a (sort_of day n) ≡ false → is_open_or_covered (phase day J n) ≡ is_open (phase day J n)
only_open day J n h = ap (λ b. is_open (phase day J n) || b) (uncovered day J n h) ∙ or-false (is_open (phase day J n))

pub not_whole : (day : Day) (J : History) (n : ℕ) → is_b (sort_of day n) ≡ false → may_settle_whole day J n ≡ false
not_whole day J n h = ap (λ b. b && is_pending day J (item n 0) && list_all (λ a. not (is_blocked day J (item n 0) a)) (debtors day n) && list_all (λ a. not (is_short_debtor day J n a)) (debtors day n)) h

-- ---- what keeps an item back

pub free_rows : (day : Day) (J : History) (x : Item) (e : Entry) → (is_free_part day J x e && is_covered_part day J x.msg e) ≡ is_none (why_waits day J x (debit_account day e) e.amount)
unfolding why_waits
free_rows day J x e = ap (λ b. b && is_covered_part day J x.msg e) (free_is day J x (debit_account day e)) ∙ here (first_blocker day J x (debit_account day e)) (is_covered_part day J x.msg e) (debit_account day e) _
  where
    here : (f : Option Item) (c : Bool) (a : ℕ) (w : Why) → (is_none f && c) ≡ is_none (first_some (option_map (blocked_by a) f ∷ unless c w ∷ []))
    here (Some y) c a w = refl
    here None true a w = refl
    here None false a w = refl

-- ---- the accounts of an entry

got_in : {X : Type 0} (xs : List X) (i : ℕ) (x : X) → slice_get xs i ≡ Some x → IsIn x xs
got_in [] i x h = cc
got_in (y ∷ ys) zero x h = inl (let e : y ≡ x = cc in e)
got_in (y ∷ ys) (suc i) x h = inr (got_in ys i x h)

pub entry_in : (day : Day) (n k : ℕ) (e : Entry) → entry_at day n k ≡ Some e → IsIn e (entries day n)
entry_in day n zero e h = cc
entry_in day n (suc k) e h = got_in (entries day n) k e h

among_both : (o p : Option ℕ) → is_some o ≡ true → IsIn (unwrap_or o 0) (option_to_list o ++ option_to_list p)
among_both None p h = cc
among_both (Some a) p h = inl refl

-- the debit account is among those of the entry
pub debit_among : (day : Day) (e : Entry) → is_some (account_named day e.debit) ≡ true → IsIn (debit_account day e) (accounts_of day e)
debit_among day e h = among_both (account_named day e.debit) (account_named day e.credit) h

pub held_named : (held : ℕ → Bool) (test : ℕ → Bool) (o : Option ℕ) (others : List ℕ) → some_passes test o ≡ true → list_all held (option_to_list o ++ others) ≡ true → held (unwrap_or o 0) ≡ true
held_named held test None others p h = absurd (false≢true p)
held_named held test (Some a) others p h = (and_parts (held a) (list_all held others) h).0
