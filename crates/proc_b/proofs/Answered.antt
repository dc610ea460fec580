-- What a batch of B answers: its lines, the reasons for none, and what is left of it.
use Rattle.std.proofs.Common.{◌≡◌, ℕ, Bool, true, false, not, ◌&&◌, List, [], ◌∷◌, Option, Some, None, refl, ap, ◌∙◌, cond}
use Rattle.std.specs.Prelude.{is_none, option_map}
use Rattle.std.specs.List.{find, list_all}
use Rattle.std.proofs.lemmas.Bool.{false≢true}
use Rattle.batch_records.specs.DayRecord.{Day}
use Rattle.commit_journal.specs.declared.line.Code.TheVariants as line_codes
use Rattle.commit_journal.specs.declared.line.Kind.TheVariants as kinds
use Rattle.commit_journal.specs.declared.line.Want.TheVariants as wants
use Rattle.commit_journal.specs.Line.{History}
use Rattle.machine.specs.declared.answers.Why.{Why}
use Rattle.machine.specs.declared.answers.Why.TheVariants as whys
use Rattle.machine.specs.Words.{first_some, some_passes, unless, when}
use Rattle.machine.specs.Records.Messages.{sort_of, is_b, part, item_numbers}
use Rattle.machine.specs.Stages.Phases.{phase, is_open}
use Rattle.machine.specs.Stages.Pending.{item, debtors, is_blocked, is_pending}
use Rattle.machine.specs.Making.Lines.{line, may_book, may_expire, may_settle_whole, expiry_code, reversal, expire_line, is_short_debtor, is_free_part, is_covered_part}
use Rattle.machine.specs.Making.Reasons.{why_not_all, over, untaken, other_phase, blocked_on, short}
use Rattle.machine.specs.Orders.Hints.{unfinished}
use Rattle.settlement_laws.proofs.Wants.ReasonsMatchLines.{free_on_all, none_short}
use Rattle.proc_b.specs.Reasons.{why_waits_b, may_book_b, next_want, why_not_book_b}
use Rattle.proc_b.proofs.OfB.{pending-is, sort-is}

-- ---- the reasons

all_rows : (o u p b s : Option Why) (q : Bool) (x : Why) → q ≡ true → first_some (o ∷ unless q x ∷ u ∷ p ∷ b ∷ s ∷ []) ≡ first_some (o ∷ u ∷ p ∷ first_some (b ∷ s ∷ []) ∷ [])
all_rows o u p b s false x h = absurd (false≢true h)
all_rows (Some y) u p b s true x h = refl
all_rows None (Some y) p b s true x h = refl
all_rows None None (Some y) b s true x h = refl
all_rows None None None (Some y) s true x h = refl
all_rows None None None None (Some y) true x h = refl
all_rows None None None None None true x h = refl

pub why_not_all-is : (day : Day) (J : History) (n : ℕ) → is_b (sort_of day n) ≡ true → why_not_all day J n ≡ why_not_book_b day J n
unfolding why_not_all why_not_book_b why_waits_b
why_not_all-is day J n h =
    all_rows (over J) (untaken J n) (other_phase day J n (is_open (phase day J n))) (blocked_on day J (item n 0) (debtors day n))
    (option_map (short day J) (find (is_short_debtor day J n) (debtors day n))) (is_b (sort_of day n)) whys.NoSuch h

pub expire_line-is : (day : Day) (J : History) (n : ℕ) → is_b (sort_of day n) ≡ true → expire_line day J n ≡ line kinds.Expire n 0 line_codes.Pe []
expire_line-is day J n h = ap (λ s. line kinds.Expire n 0 (expiry_code s day J n) (reversal s day J n)) (sort-is day n h)

-- ---- what is left

neither : (b s : Option Why) → (is_none b && is_none s) ≡ is_none (first_some (b ∷ s ∷ []))
neither (Some x) s = refl
neither None (Some x) = refl
neither None None = refl

and_regroup : (a b c d : Bool) → a ≡ true → (a && b && c && d) ≡ (b && (c && d))
and_regroup true true c d h = refl
and_regroup true false c d h = refl
and_regroup false b c d h = absurd (false≢true h)

pub settle-is : (day : Day) (J : History) (n : ℕ) → is_b (sort_of day n) ≡ true → may_settle_whole day J n ≡ may_book_b day J n
unfolding why_waits_b
settle-is day J n h =
    and_regroup (is_b (sort_of day n)) (is_pending day J (item n 0)) (list_all (λ a. not (is_blocked day J (item n 0) a)) (debtors day n)) (list_all (λ a. not (is_short_debtor day J n a)) (debtors day n)) h
    ∙ ap (λ b. b && (list_all (λ a. not (is_blocked day J (item n 0) a)) (debtors day n) && list_all (λ a. not (is_short_debtor day J n a)) (debtors day n))) (pending-is day J n h)
    ∙ ap (λ b. is_open (phase day J n) && (b && list_all (λ a. not (is_short_debtor day J n a)) (debtors day n))) (free_on_all day J (item n 0) (debtors day n))
    ∙ ap (λ b. is_open (phase day J n) && (is_none (blocked_on day J (item n 0) (debtors day n)) && b)) (none_short day J n (debtors day n))
    ∙ ap (λ b. is_open (phase day J n) && b) (neither (blocked_on day J (item n 0) (debtors day n)) (option_map (short day J) (find (is_short_debtor day J n) (debtors day n))))

never_booked : (p b c : Bool) → b ≡ true → (p && not b && c) ≡ false
never_booked true true c h = refl
never_booked false true c h = refl
never_booked p false c h = absurd (false≢true h)

none_found : (test : ℕ → Bool) → ((k : ℕ) → test k ≡ false) → (ks : List ℕ) → find test ks ≡ None
none_found test h [] = refl
none_found test h (k ∷ ks) = ap (λ b. cond b (Some k) (find test ks)) (h k) ∙ none_found test h ks

pub unfinished-is : (day : Day) (J : History) (n : ℕ) → is_b (sort_of day n) ≡ true → unfinished day J n ≡ next_want day J n
unfolding next_want
unfinished-is day J n h =
    ap (λ o. first_some (option_map (wants.Book n) o ∷ when (may_settle_whole day J n) (wants.All n) ∷ when (may_expire day J n) (wants.Expire n) ∷ []))
    (none_found (may_book day J n) (λ k. never_booked (is_pending day J (item n k)) (is_b (sort_of day n)) (some_passes (λ e. is_free_part day J (item n k) e && is_covered_part day J n e) (part day n k)) h) (item_numbers day n))
    ∙ ap (λ b. first_some (when b (wants.All n) ∷ when (may_expire day J n) (wants.Expire n) ∷ [])) (settle-is day J n h)
