-- What a line leaves of a till that kept the balances of the lines before it.
use Rattle.std.proofs.Common.{◌≡◌, ℕ, ◌+◌, ◌-◌, ◌≤◌, ◌<◌, Bool, true, ◌&&◌, List, [], ◌∷◌, ◌++◌, length, drop, Option, Some, is_some, inl, inr, refl, sym, ap, subst, ◌∙◌, arith}
use Rattle.std.specs.Prelude.{nat_eq, ◌==◌, ◌||◌}
use Rattle.std.specs.List.{list_all, list_any}
use Rattle.std.proofs.lemmas.List.{append-nil}
use Rattle.std.proofs.lemmas.Bool.{and_parts, false≢true, and_from}
use Rattle.std.proofs.lemmas.Bool.Decides.{eqb_tells}
use Rattle.batch_records.specs.DayRecord.{Day}
use Rattle.batch_records.specs.Sound.{is_sound}
use Rattle.commit_journal.specs.declared.line.Move.{Move}
use Rattle.commit_journal.specs.declared.line.Want.{Want}
use Rattle.commit_journal.specs.Line.{Line, History}
use Rattle.commit_journal.specs.Histories.{oldest}
use Rattle.machine.specs.Records.Setup.{opening}
use Rattle.machine.specs.Telling.Balances.{balance, credits, credited, debits, debited}
use Rattle.machine.specs.Legal.{IsLegal}
use Rattle.machine.specs.Making.Lines.{line_of}
use Rattle.machine.specs.Making.Accounts.{accounts_of_want}
use Rattle.rule_book.specs.Answering.{has_accounts}
use Rattle.machine.specs.OtherLaws.{is_among, moves_among}
use Rattle.commit_journal.specs.Kept.{Kept, pushed}
use Rattle.settlement_laws.specs.Fits.{Fits}
use Rattle.rule_book.specs.declared.setting.Setting.{Setting}
use Rattle.settlement_laws.proofs.Base.Appending.{made-fits, made-moves_room, made-room}
use Rattle.settlement_laws.proofs.Base.Induction.{line_of-some, want_of-line}
use Rattle.settlement_laws.proofs.Balances.StaysInRange.{stays_in_range}
use Rattle.settlement_laws.proofs.Balances.MovesAreReal.{moves_are_real}
use Rattle.settlement_laws.proofs.Balances.TouchesItsAccounts.{touches_its_accounts}
use Rattle.machine.specs.Words.{when}
use Rattle.guarantee_fund.proofs.Held.{nothing_at_zero}
use Rattle.settle_floor.specs.Carrying.{CanMoveAll, after}
use Rattle.settle_floor.specs.Tills.{KeepsBalances}
use Rattle.settle_floor.specs.Floors.{HasSame}
use Rattle.settle_floor.proofs.Holding.{Holds, Safe, is_held, can_all, held_after, same_after}

pub line_legal : (day : Day) (J : History) (w : Want) (l : Line) → IsLegal day J → line_of day J w ≡ Some l → IsLegal day (l ∷ J)
line_legal day J w l legal e = (legal, ap (line_of day J) (want_of-line day J w l e) ∙ e)

-- what came to an account, with its opening
abbrev pub came : Day → History → ℕ → ℕ
came day J a = opening day a + credited J a

held_of : (held : ℕ → Bool) (these : List ℕ) (a : ℕ) → list_all held these ≡ true → is_among these a ≡ true → held a ≡ true
held_of held [] a h e = absurd (false≢true e)
held_of held (b ∷ bs) a h e =
    let p = and_parts (held b) _ h in
    elim (eqb_tells b a) [
      | inl t ↦ ap held (sym t.1) ∙ p.0
      | inr f ↦ held_of held bs a p.1 (sym (ap (λ x. x || list_any (λ c. nat_eq c a) bs) f.0) ∙ e)
    ]

all_held : (holdings : ℕ → Option ℕ) (these : List ℕ) (ms : List Move) → list_all (λ a. is_some (holdings a)) these ≡ true → moves_among these ms ≡ true → list_all (is_held holdings) ms ≡ true
all_held holdings these [] h m = refl
all_held holdings these (m ∷ ms) h e =
    let p = and_parts (is_among these m.debit && is_among these m.credit) _ e in
    let q = and_parts (is_among these m.debit) (is_among these m.credit) p.0 in
    and_from _ _ (and_from _ _ (held_of (λ a. is_some (holdings a)) these m.debit h q.0) (held_of (λ a. is_some (holdings a)) these m.credit h q.1)) (all_held holdings these ms h p.1)

module _ (day : Day) (sound : is_sound day ≡ true) (J : History) (w : Want) (l : Line) (legal : IsLegal day J) (made : line_of day J w ≡ Some l) where
  range : Safe (came day J) (debited J) l.moves
  range = subst (Safe (came day J) (debited J)) same (stays_in_range day J (l ∷ []) sound (line_legal day J w l legal made))
    where
      same : l.moves ++ [] ≡ l.moves
      same = append-nil l.moves

  holds_now : (holdings : ℕ → Option ℕ) → KeepsBalances holdings day J → Holds holdings (came day J) (debited J)
  holds_now holdings kept a held e =
      let k : held ≡ (opening day a + credited J a) - debited J a = kept a held e in
      let r = (range a 0).0 in
      omega (arith, k, r)

  pub moves_can : (holdings : ℕ → Option ℕ) → KeepsBalances holdings day J → has_accounts (λ a. is_some (holdings a)) day w ≡ true → CanMoveAll holdings l.moves
  moves_can holdings kept had =
      let whole = line_legal day J w l legal made in
      let among : moves_among (accounts_of_want day w) l.moves ≡ true = ap (λ x. moves_among (accounts_of_want day x) l.moves) (sym (want_of-line day J w l made)) ∙ (touches_its_accounts day (l ∷ J) sound whole).1 in
      can_all holdings (came day J) (debited J) l.moves (holds_now holdings kept) range (all_held holdings (accounts_of_want day w) l.moves had among) (moves_are_real day (l ∷ J) sound whole).1

  pub kept_after : (holdings : ℕ → Option ℕ) → KeepsBalances holdings day J → CanMoveAll holdings l.moves → KeepsBalances (after holdings l.moves) day (l ∷ J)
  unfolding credited debited
  kept_after holdings kept can a held e =
      let h : held + (debited J a + debits a l.moves) ≡ (opening day a + credited J a) + credits a l.moves = held_after holdings (came day J) (debited J) l.moves (holds_now holdings kept) can a held e in
      omega (arith, h)

-- ---- the journal with the line

module _ (day : Day) (sound : is_sound day ≡ true) (j : Kept) (w : Want) (l : Line) (fits : Fits day j) (made : line_of day j.history w ≡ Some l) where
  pub room_for_line : 0 < j.room_for_lines
  room_for_line = let h = line_of-some day j.history w l made in made-room day sound j w fits h.0 h.1

  pub room_for_moves : length l.moves ≤ j.room_for_moves
  room_for_moves = let h = line_of-some day j.history w l made in subst (λ (x : Line). length x.moves ≤ j.room_for_moves) h.2 (made-moves_room day sound j w fits h.0 h.1)

  pub fits_after : (k : Kept) → k ≡ pushed j l.head l.moves → Fits day k
  fits_after k e =
      let h = line_of-some day j.history w l made in
      made-fits day sound j k w fits h.0 h.1
      (ap (λ (x : Kept). x.history) e ∙ ap (λ (x : Line). x ∷ j.history) (sym h.2))
      (ap (λ (x : Kept). x.room_for_lines) e)
      (ap (λ (x : Kept). x.room_for_moves) e ∙ ap (λ (x : Line). j.room_for_moves - length x.moves) (sym h.2))

-- the desk's day and journal are those that it was given
pub asked_here : (s t : Setting) (j k : Kept) (w : Want) (l : Line) → s ≡ t → j ≡ k → line_of s.day j.history w ≡ Some l → line_of t.day k.history w ≡ Some l
asked_here s t j k w l e f h = sym (ap (λ (x : Setting). line_of x.day j.history w) e ∙ ap (λ (x : Kept). line_of t.day x.history w) f) ∙ h

-- ---- the moves of the newest line

oldest-all : (J : History) (n : ℕ) → n ≡ length J → oldest J n ≡ J
oldest-all J n e = let none : length J - n ≡ 0 = omega (arith, e) in ap (λ k. drop k J) none

pub newest : (J old rest : History) (l m : Line) (place : ℕ) → J ≡ l ∷ old → place ≡ length J → oldest J place ≡ m ∷ rest → l ≡ m
newest J old rest l m place e at h = first (sym e ∙ sym (oldest-all J place at) ∙ h)
  where
    first : l ∷ old ≡ m ∷ rest → l ≡ m
    first e = cc

-- the newest line of a journal is that of the want, and m is what was read of it
pub record IsNewest (day : Day) (before now : Kept) (w : Want) (place : ℕ) : Type 0 where
  pub line : Line
  pub made : line_of day before.history w ≡ Some line
  pub lines : now.history ≡ line ∷ before.history
  pub at : place ≡ length now.history

pub newest_can : (day : Day) → is_sound day ≡ true → (before now inside : Kept) (w : Want) (place : ℕ) (m : Line) (rest : History) (holdings : ℕ → Option ℕ) → Fits day before → IsNewest day before now w place → inside ≡ now → oldest inside.history place ≡ m ∷ rest →
    KeepsBalances holdings day before.history → has_accounts (λ a. is_some (holdings a)) day w ≡ true → CanMoveAll holdings m.moves
newest_can day sound before now inside w place m rest holdings fits is same read kept had =
    let e : is.line ≡ m = newest now.history before.history rest is.line m place is.lines is.at (ap (λ (x : Kept). oldest x.history place) (sym same) ∙ read) in
    subst (λ (x : Line). CanMoveAll holdings x.moves) e (moves_can day sound before.history w is.line fits.legal is.made holdings kept had)

pub newest_kept : (day : Day) → is_sound day ≡ true → (before now inside : Kept) (w : Want) (place : ℕ) (m : Line) (rest : History) (holdings later : ℕ → Option ℕ) → Fits day before → IsNewest day before now w place → inside ≡ now → oldest inside.history place ≡ m ∷ rest →
    KeepsBalances holdings day before.history → has_accounts (λ a. is_some (holdings a)) day w ≡ true → later ≡ after holdings m.moves → KeepsBalances later day now.history
newest_kept day sound before now inside w place m rest holdings later fits is same read kept had made =
    let e : is.line ≡ m = newest now.history before.history rest is.line m place is.lines is.at (ap (λ (x : Kept). oldest x.history place) (sym same) ∙ read) in
    let can = moves_can day sound before.history w is.line fits.legal is.made holdings kept had in
    subst (λ h. KeepsBalances h day now.history) (ap (λ (x : Line). after holdings x.moves) e ∙ sym made)
    (subst (KeepsBalances (after holdings is.line.moves) day) (sym is.lines) (kept_after day sound before.history w is.line fits.legal is.made holdings kept can))

-- so the floor answers with it
pub newest_answered : (day : Day) (before now inside : Kept) (w : Want) (place : ℕ) (m : Line) (rest : History) (holdings later : ℕ → Option ℕ) → IsNewest day before now w place → inside ≡ now → oldest inside.history place ≡ m ∷ rest → later ≡ after holdings m.moves →
    (l : Line) × (line_of day before.history w ≡ Some l) × (now.history ≡ l ∷ before.history) × (place ≡ length now.history) × (later ≡ after holdings l.moves)
newest_answered day before now inside w place m rest holdings later is same read moved =
    let e : is.line ≡ m = newest now.history before.history rest is.line m place is.lines is.at (ap (λ (x : Kept). oldest x.history place) (sym same) ∙ read) in
    (is.line, is.made, is.lines, is.at, moved ∙ ap (λ (x : Line). after holdings x.moves) (sym e))

pub same_accounts : (holdings later : ℕ → Option ℕ) (ms : List Move) → later ≡ after holdings ms → HasSame holdings later
same_accounts holdings later ms e a = ap (λ (h : ℕ → Option ℕ). is_some (h a)) e ∙ same_after holdings ms a

pub kept_still : (day : Day) (before now : Kept) (holdings later : ℕ → Option ℕ) → now ≡ before → later ≡ holdings → KeepsBalances holdings day before.history → KeepsBalances later day now.history
kept_still day before now holdings later e f kept = subst (λ h. KeepsBalances h day now.history) (sym f) (subst (λ (x : Kept). KeepsBalances holdings day x.history) (sym e) kept)

-- number 0, which no account has, holds nothing
pub nothing_held : (day : Day) (past : History) → is_sound day ≡ true → IsLegal day past → KeepsBalances (λ a. when (a == 0) 0) day past
nothing_held day past sound legal a held e = elim (eqb_tells a 0) [
  | inl t ↦ sym (same (sym (ap (λ b. when b 0) t.0) ∙ e)) ∙ nothing_at_zero day past sound legal ∙ ap (balance day past) (sym t.1)
  | inr f ↦ absurd (false≢true (ap is_some (sym (ap (λ b. when b 0) f.0) ∙ e)))
]
  where
    same : Some 0 ≡ Some held → 0 ≡ held
    same e = cc
