-- The candidate of an account stays over a line that leaves the account alone: what waits there is ready as before, and the item of the line
-- doesn't wait there.
use Rattle.std.proofs.Common.{◌≡◌, ◌∙◌, ℕ, zero, suc, ◌+◌, ◌<◌, ◌≤◌, Bool, true, false, not, ◌&&◌, ◌∷◌, Option, Some, is_some, refl, sym, ap, subst, arith, length, if◌then◌else◌}
use Rattle.std.specs.Prelude.{nat_lt}
use Rattle.std.proofs.lemmas.Bool.{and_parts, ltb-true, ltb-false, false_from_ne_true}
use Rattle.batch_records.specs.DayRecord.{Day}
use Rattle.commit_journal.specs.declared.line.Want.TheVariants as wants
use Rattle.commit_journal.specs.Line.{Line, History}
use Rattle.machine.specs.declared.answers.Phase.{Phase}
use Rattle.machine.specs.declared.answers.Phase.TheVariants as phases
use Rattle.machine.specs.Records.Messages.{sort_of, is_b, entries}
use Rattle.machine.specs.Telling.History.{is_end, is_ended}
use Rattle.machine.specs.Stages.Phases.{phase}
use Rattle.machine.specs.Stages.Pending.{item, is_pending, stands_on}
use Rattle.machine.specs.Making.Lines.{line_of, made, may_ask, may_cover, message_want, item_want, is_ready_item}
use Rattle.machine.specs.Legal.{IsLegal}
use Rattle.settlement_laws.proofs.Base.Induction.{line_of-some}
use Rattle.settlement_laws.proofs.Base.Lists.{never}
use Rattle.scan_laws.specs.Next.{IsNext}
use Rattle.scan_laws.specs.Candidates.{IsFirstRound, ready_on}
use Rattle.scan_laws.specs.Numbers.{item_of, item_count}
use Rattle.scan_laws.specs.Runs.{line_at, has_line}
use Rattle.scan_laws.specs.Queues.{HasSameQueue}
use Rattle.scan_laws.specs.Touched.{moves_on, touches, waits_on}
use Rattle.scan_laws.specs.Waits.{waits_at}
use Rattle.scan_laws.proofs.Booked.{not_false}
use Rattle.scan_laws.proofs.CandidateFacts.{candidate-kept}
use Rattle.scan_laws.proofs.Frame.{account_stays, own_touched, still_on}
use Rattle.scan_laws.proofs.Lined.{line-ready, line-within}
use Rattle.scan_laws.proofs.NumberFacts.{item-is}
use Rattle.scan_laws.proofs.Queues.{queue_ready, queue_waits, own_moves}
use Rattle.scan_laws.proofs.Settling.{line-legal}
use Rattle.scan_laws.proofs.Waiting.{waits_stay}

-- ---- the line of an item isn't the End line

not_end : (day : Day) (J : History) (n : ℕ) (p : Phase) → is_end (made day J (message_want day J n p)).head.kind ≡ false
not_end day J n phases.Overdue = go (may_ask day J n)
  where
    go : (b : Bool) → is_end (made day J (if b then wants.Ask n else wants.Expire n)).head.kind ≡ false
    go true = refl
    go false = refl
not_end day J n phases.Answered = go (may_cover day J n)
  where
    go : (b : Bool) → is_end (made day J (if b then wants.Cover n else wants.Refuse n)).head.kind ≡ false
    go true = refl
    go false = refl
not_end day J n phases.Asking = refl
not_end day J n _ = go (is_b (sort_of day n))
  where
    go : (b : Bool) → is_end (made day J (if b then wants.All n else wants.Book n 0)).head.kind ≡ false
    go true = refl
    go false = refl

item_not_end : (day : Day) (J : History) (n k : ℕ) → is_end (made day J (item_want day J n k)).head.kind ≡ false
item_not_end day J n zero = not_end day J n (phase day J n)
item_not_end day J n (suc k) = refl

-- an equation that is needed where the first holds
both : (r u v : Bool) → (r ≡ true → u ≡ v) → (r && u) ≡ (r && v)
both true u v h = h refl
both false u v h = refl

module _ (day : Day) (J : History) (l : Line) (x a : ℕ) (legal : IsLegal day J) (line : line_at day J x ≡ Some l) where
  after : IsLegal day (l ∷ J)
  after = line-legal day J x l legal line

  of_want : line_of day J (item_want day J (item_of day x).msg (item_of day x).entry) ≡ Some l
  unfolding line_at
  of_want = line

  open_still : is_ended (l ∷ J) ≡ is_ended J
  open_still = still_on J l (subst (λ m. is_end m.head.kind ≡ false) (line_of-some day J _ l of_want).2 (item_not_end day J (item_of day x).msg (item_of day x).entry))

  -- a number beyond the items has no line
  past_count : (H : History) (k : ℕ) → item_count day ≤ k → has_line day H k ≡ false
  past_count H k h = false_from_ne_true (has_line day H k) (λ e. let w = line-within day H k e in omega (arith, w, h))

  -- ---- an account on which the same waits, and is ready as before, and on which the item of the line doesn't wait

  module _ (same_waits : (n k : ℕ) → 1 ≤ n → n ≤ length day.messages → k ≤ length (entries day n) → waits_on day (l ∷ J) a n k ≡ waits_on day J a n k) (same_ready : (n k : ℕ) → 1 ≤ n → n ≤ length day.messages → k ≤ length (entries day n) → waits_on day J a n k ≡ true → is_ready_item day (l ∷ J) n k ≡ is_ready_item day J n k) (not_its_own : waits_at day J a x ≡ false) where
    same_line : (k : ℕ) → waits_at day J a k ≡ true → has_line day (l ∷ J) k ≡ has_line day J k
    same_line k s = here (nat_lt k (item_count day)) refl
      where
        here : (b : Bool) → nat_lt k (item_count day) ≡ b → has_line day (l ∷ J) k ≡ has_line day J k
        here true e =
            let i = item-is day k (ltb-true k (item_count day) e) in
            line-ready day (l ∷ J) k
            ∙ (λ t. not (open_still t) && same_ready (item_of day k).msg (item_of day k).entry i.first i.last i.entry s t)
            ∙ sym (line-ready day J k)
        here false e = let h = ltb-false k (item_count day) e in past_count (l ∷ J) k h ∙ sym (past_count J k h)

    same_on : (k : ℕ) → ready_on (has_line day (l ∷ J)) (waits_at day J) a k ≡ ready_on (has_line day (l ∷ J)) (waits_at day (l ∷ J)) a k
    same_on k = both (has_line day (l ∷ J) k) (waits_at day J a k) (waits_at day (l ∷ J) a k)
        (λ e. let i = item-is day k (line-within day (l ∷ J) k e) in sym (same_waits (item_of day k).msg (item_of day k).entry i.first i.last i.entry))

    stays : (p : ℕ) (o : Option ℕ) → IsNext (has_line day J) p (Some x) → IsFirstRound (ready_on (has_line day J) (waits_at day J) a) p o →
        IsFirstRound (ready_on (has_line day (l ∷ J)) (waits_at day (l ∷ J)) a) (x + 1) o
    stays p o next first = subst (λ f. IsFirstRound f (x + 1) o) (λ i k. same_on k i) (candidate-kept (has_line day J) (has_line day (l ∷ J)) (waits_at day J) p x a o next not_its_own same_line first)

  -- ---- no item enters or leaves the queue, and no move is on the account

  pub stays_by_queue : HasSameQueue day (l ∷ J) J a → moves_on a l.moves ≡ false → (p : ℕ) (o : Option ℕ) → IsNext (has_line day J) p (Some x) → IsFirstRound (ready_on (has_line day J) (waits_at day J) a) p o →
      IsFirstRound (ready_on (has_line day (l ∷ J)) (waits_at day (l ∷ J)) a) (x + 1) o
  stays_by_queue same unmoved = stays
      (λ n k first last entry. queue_waits day J l a n k same first last entry)
      (λ n k first last entry waits. queue_ready day J l a n k after same unmoved first last entry waits)
      (own_moves day J l a (item_of day x).msg (item_of day x).entry of_want unmoved)

  -- ---- the line doesn't touch the account

  -- what the words of a waiting item say
  parts : (n k : ℕ) → waits_on day J a n k ≡ true → (is_b (sort_of day n) ≡ false) × (stands_on day a (item n k) ≡ true)
  parts n k s =
      let p = and_parts (not (is_b (sort_of day n)) && stands_on day a (item n k)) (is_pending day J (item n k)) s in
      let q = and_parts (not (is_b (sort_of day n))) (stands_on day a (item n k)) p.0 in
      (not_false _ q.0, q.1)

  pub stays_by_touch : touches day J l a ≡ false → (p : ℕ) (o : Option ℕ) → IsNext (has_line day J) p (Some x) → IsFirstRound (ready_on (has_line day J) (waits_at day J) a) p o →
      IsFirstRound (ready_on (has_line day (l ∷ J)) (waits_at day (l ∷ J)) a) (x + 1) o
  stays_by_touch untouched = stays
      (λ n k first last entry. waits_stay day J l a n k after untouched first last entry)
      (λ n k first last entry waits. let p = parts n k waits in account_stays day J l a n k after untouched first last entry p.0 p.1)
      (false_from_ne_true (waits_at day J a x) (λ s.
      let w : x < item_count day = line-within day J x (ap is_some line) in
      let i = item-is day x w in
      never (stands_on day a (item_of day x)) (parts (item_of day x).msg (item_of day x).entry s).1
      (own_touched day J l a (item_of day x).msg (item_of day x).entry of_want untouched i.first i.last i.entry)))
