-- What a line does to what is kept of the batch that its message names, and to that of the others.
use Rattle.std.proofs.Common.{◌≡◌, ◌∙◌, ℕ, suc, Bool, true, false, List, [], ◌∷◌, Option, Some, None, length, refl, sym, ap, map}
use Rattle.std.specs.Prelude.{is_some}
use Rattle.std.specs.List.{range_with_len}
use Rattle.std.specs.Option.{IfSome, option_or}
use Rattle.batch_records.specs.DayRecord.{Day}
use Rattle.batch_records.specs.declared.day.Body.TheVariants as bodies
use Rattle.commit_journal.specs.Line.{Line, History}
use Rattle.machine.specs.Records.Messages.{Sort, BatchA, BatchB, BatchE, entries, message_numbers, sort_of}
use Rattle.machine.specs.Telling.History.{place_of, read_first}
use Rattle.machine.specs.Telling.Facts.{answer, answer_taken, answered, objects, revoked, revokes}
use Rattle.machine.specs.Legal.{IsLegal}
use Rattle.day_facts.specs.declared.told.Told.{Told}
use Rattle.day_facts.specs.Objectors.{fresh, repeats_objection}
use Rattle.day_facts.specs.Own.{owns_of}
use Rattle.day_facts.specs.Told.{line_aim, parts_of, revoked_after, revoked_as, revoked_row, revoked_rows, revoked_rule, ruled, told_of, told_rule, told_with, tolds_of}
use Rattle.day_facts.proofs.Lists.{map_from}
use Rattle.day_facts.proofs.AgainLines.{again_same}
use Rattle.day_facts.proofs.AimLines.{aim_lines}
use Rattle.day_facts.proofs.OwnLines.{place_more, place_same}
use Rattle.day_facts.proofs.ToldParts.{with_map}

-- ---- the parts

abbrev the_told : Option ℕ → Option Bool → Told
the_told a y = record { answered = a; answer = y }

same_told : (a b : Option ℕ) (x y : Option Bool) → a ≡ b → x ≡ y → the_told a x ≡ the_told b y
same_told a b x y p q = λ i. the_told (p i) (q i)

told_is : (day : Day) (J : History) (n : ℕ) → told_of day J n ≡ the_told (answered day J n) (answer day J n)
unfolding told_of
told_is day J n = refl

abbrev answers : Day → ℕ → Line → Bool
answers day n l = is_some (answer_taken day n l)

answer_more : (day : Day) (l : Line) (J : History) (n : ℕ) (o : Option Bool) → answer_taken day n l ≡ o → option_or (answer day J n) o ≡ answer day (l ∷ J) n
unfolding read_first
answer_more day l J n o e = ap (option_or (answer day J n)) (sym e)

or_nothing : {X : Type 0} (o : Option X) → option_or o None ≡ o
or_nothing (Some x) = refl
or_nothing None = refl

answer_same : (day : Day) (l : Line) (J : History) (n : ℕ) → answer_taken day n l ≡ None → answer day J n ≡ answer day (l ∷ J) n
answer_same day l J n e = sym (or_nothing (answer day J n)) ∙ answer_more day l J n None e

revoked_same : (day : Day) (l : Line) (J : History) (n len : ℕ) → ((k : ℕ) → revokes day n k l ≡ false) → map (revoked day J n) (range_with_len 0 len) ≡ map (revoked day (l ∷ J) n) (range_with_len 0 len)
revoked_same day l J n len h = map_from _ _ 0 len (λ k low. place_same (revokes day n k) l J (h k))

told_same : (day : Day) (l : Line) (J : History) (n : ℕ) → answer_taken day n l ≡ None → told_of day J n ≡ told_of day (l ∷ J) n
told_same day l J n a =
    told_is day J n
    ∙ same_told _ _ _ _ (place_same (answers day n) l J (ap is_some a)) (answer_same day l J n a)
    ∙ sym (told_is day (l ∷ J) n)

-- ---- the batch to which it objects

objected : (s : Sort) (day : Day) (l : Line) (J : History) (n : ℕ) (bank : List ℕ) → ((k : ℕ) → revokes day n k l ≡ objects day s n k bank) →
    revoked_as s day n bank (suc (length J)) (map (revoked day J n) (range_with_len 0 (parts_of s day n))) ≡ map (revoked day (l ∷ J) n) (range_with_len 0 (parts_of s day n))
objected BatchA day l J n bank h = ap (λ o. o ∷ []) (place_more (revokes day n 0) l J true (h 0))
objected BatchB day l J n bank h = ap (λ o. o ∷ []) (place_more (revokes day n 0) l J true (h 0))
objected BatchE day l J n bank h = with_map _ (suc (length J)) (revoked day J n) (revoked day (l ∷ J) n) 0 (suc (length (entries day n))) (λ k. place_more (revokes day n k) l J _ (h k))
objected _ day l J n bank h = revoked_same day l J n 1 h

-- ---- the batch that it confirms

told_confirmed : (day : Day) (l : Line) (J : History) (n : ℕ) (id : List ℕ) (reply : Bool) → answer_taken day n l ≡ Some reply →
    ruled (suc (length J)) (bodies.Confirm id reply) (told_of day J n) ≡ told_of day (l ∷ J) n
told_confirmed day l J n id reply a =
    ap (ruled (suc (length J)) (bodies.Confirm id reply)) (told_is day J n)
    ∙ same_told _ _ _ _ (place_more (answers day n) l J true (ap is_some a)) (answer_more day l J n (Some reply) a)
    ∙ sym (told_is day (l ∷ J) n)

-- ---- all of them

pub told_lines : (day : Day) (l : Line) (J : History) → told_with day (line_aim day l.head) (suc (length J)) l.head (tolds_of day J) ≡ tolds_of day (l ∷ J)
told_lines day l J = aim_lines day l (told_of day J) (told_of day (l ∷ J)) (told_rule (suc (length J)))
    (λ n h a. told_same day l J n a) (λ n bank system id h a. told_same day l J n a) (λ n bank id reply h a. told_confirmed day l J n id reply a)

pub revoking_lines : (day : Day) (l : Line) (J : History) (earlier : Option ℕ) → IsLegal day J → IfSome earlier (λ m. repeats_objection day (owns_of day J) m l.head.msg ≡ true)
    → revoked_after day (fresh (line_aim day l.head) earlier) (suc (length J)) l.head (revoked_rows day J) ≡ revoked_rows day (l ∷ J)
revoking_lines day l J None legal h = aim_lines day l (revoked_row day J) (revoked_row day (l ∷ J)) (revoked_rule day (suc (length J)))
    (λ n h a. revoked_same day l J n _ h) (λ n bank system id h a. objected (sort_of day n) day l J n bank h) (λ n bank id reply h a. revoked_same day l J n _ h)
revoking_lines day l J (Some m) legal h = λ i. map (λ n. map (λ k. again_same day l J m legal h n k i) (range_with_len 0 (parts_of (sort_of day n) day n))) (message_numbers day)

-- ---- no lines

pub told_first : (day : Day) (n : ℕ) → the_told None None ≡ told_of day [] n
unfolding told_of place_of read_first
told_first day n = refl

pub revoked_first : (day : Day) (n count : ℕ) → count ≡ parts_of (sort_of day n) day n → map (λ k. None) (range_with_len 0 count) ≡ revoked_row day [] n
unfolding place_of
revoked_first day n count e = ap (λ len. map (λ k. None) (range_with_len 0 len)) e
