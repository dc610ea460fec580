-- Wants that nothing has: after the End line stands only that there is no such item.
use Rattle.std.proofs.Common.{◌≡◌, ℕ, zero, suc, Bool, true, false, List, [], ◌∷◌, Option, Some, None, is_some, refl, sym, ap, ◌∙◌}
use Rattle.std.proofs.lemmas.Bool.{false≢true, and_right}
use Rattle.batch_records.specs.DayRecord.{Day}
use Rattle.commit_journal.specs.Line.{History}
use Rattle.machine.specs.declared.answers.Why.{Why}
use Rattle.machine.specs.declared.answers.Why.TheVariants as whys
use Rattle.machine.specs.Words.{first_some, is_zero, unless}
use Rattle.machine.specs.Records.Messages.{Sort, Pay, BatchA, BatchB, BatchC, BatchE, sort_of, is_a, is_b, is_c, is_e, is_pay, part}
use Rattle.machine.specs.Making.Lines.{may_lapse}
use Rattle.machine.specs.Making.Reasons.{books, is_bookable, over, why_not_all, why_not_book, why_not_expire}

-- the second row shows where its test fails
second : (o : Option Why) (b : Bool) (x w : Why) (rows : List (Option Why)) → b ≡ false → Some w ≡ first_some (o ∷ Some x ∷ []) → first_some (o ∷ unless b x ∷ rows) ≡ Some w
second (Some v) b x w rows is h = sym h
second None false x w rows is h = sym h
second None true x w rows is h = absurd (false≢true (sym is))

pub no_book : (day : Day) (J : History) (n k : ℕ) (w : Why) → books (sort_of day n) k ≡ false → Some w ≡ first_some (over J ∷ Some whys.NoSuch ∷ []) → why_not_book day J n k ≡ Some w
unfolding why_not_book
no_book day J n k w h e = second (over J) (is_bookable day n k) whys.NoSuch w _ (and_right (is_some (part day n k)) (books (sort_of day n) k) h) e

pub no_all : (day : Day) (J : History) (n : ℕ) (w : Why) → is_b (sort_of day n) ≡ false → Some w ≡ first_some (over J ∷ Some whys.NoSuch ∷ []) → why_not_all day J n ≡ Some w
unfolding why_not_all
no_all day J n w h e = second (over J) (is_b (sort_of day n)) whys.NoSuch w _ h e

pub no_expire : (day : Day) (J : History) (n : ℕ) (w : Why) → may_lapse (sort_of day n) ≡ false → Some w ≡ first_some (over J ∷ Some whys.NoSuch ∷ []) → why_not_expire day J n ≡ Some w
unfolding why_not_expire
no_expire day J n w h e = second (over J) (may_lapse (sort_of day n)) whys.NoSuch w _ h e

-- ---- which sorts these are

pub other_entry : (s : Sort) (k : ℕ) → is_pay s ≡ true → is_zero k ≡ false → books s k ≡ false
other_entry Pay k h z = z
other_entry _ k h z = absurd (false≢true h)

pub unbooked_sort : (s : Sort) (k : ℕ) → is_pay s ≡ false → is_a s ≡ false → is_c s ≡ false → is_e s ≡ false → books s k ≡ false
unbooked_sort Pay k p a c e = absurd (false≢true (sym p))
unbooked_sort BatchA k p a c e = absurd (false≢true (sym a))
unbooked_sort BatchC k p a c e = absurd (false≢true (sym c))
unbooked_sort BatchE k p a c e = absurd (false≢true (sym e))
unbooked_sort _ k p a c e = refl

pub lasting_sort : (s : Sort) → is_pay s ≡ false → is_a s ≡ false → is_b s ≡ false → is_c s ≡ false → is_e s ≡ false → may_lapse s ≡ false
lasting_sort Pay p a b c e = absurd (false≢true (sym p))
lasting_sort BatchA p a b c e = absurd (false≢true (sym a))
lasting_sort BatchB p a b c e = absurd (false≢true (sym b))
lasting_sort BatchC p a b c e = absurd (false≢true (sym c))
lasting_sort BatchE p a b c e = absurd (false≢true (sym e))
lasting_sort _ p a b c e = refl

-- ---- what a failed test of a message's sort tells

pub fails : (test : Sort → Bool) (d day : Day) (n : ℕ) (b : Bool) → b ≡ test (sort_of d n) → b ≡ false → d ≡ day → test (sort_of day n) ≡ false
fails test d day n b is failed same = ap (λ x. test (sort_of x n)) (sym same) ∙ sym is ∙ failed

pub not_zero : (k : ℕ) → (k ≡ 0 → ⊥) → is_zero k ≡ false
not_zero zero h = absurd (h refl)
not_zero (suc k) h = refl
