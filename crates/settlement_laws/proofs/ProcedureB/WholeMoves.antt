-- The moves of a line that settles a B batch whole: one for each entry, to its accounts or from the fund.
use Rattle.std.proofs.Common.{◌≡◌, ℕ, Bool, true, false, ◌&&◌, ◌||◌, List, [], ◌∷◌, ◌++◌, Option, Some, None, refl, sym, ◌∙◌, ap, cond, length, take, drop}
use Rattle.std.proofs.lemmas.Bool.{or_left, or_right, and_from}
use Rattle.std.specs.Prelude.{nat_eq, map, filter, if◌then◌else◌, unwrap_or}
use Rattle.std.proofs.lemmas.Bool.{eqb-true, eq-eqb}
use Rattle.std.proofs.lemmas.List.{length-map}
use Rattle.std.proofs.Math.Seq.{take-append_seam, drop-append_seam}
use Rattle.batch_records.specs.DayRecord.{Day}
use Rattle.batch_records.specs.declared.day.Entry.{Entry}
use Rattle.commit_journal.specs.declared.line.Move.{Move}
use Rattle.commit_journal.specs.Line.{History}
use Rattle.machine.specs.Words.{same_account}
use Rattle.machine.specs.Records.Setup.{account_named}
use Rattle.machine.specs.Records.Messages.{is_debit_entry, debit_account, credit_account, move_of, technical_of, technical_account, fund_account}
use Rattle.machine.specs.Making.Lines.{cover_of, covered_debit, is_short_debtor}
use Rattle.machine.specs.Laws.{pays_for, each_pays}

-- ---- each move pays for its entry

pub same_numbers : (x y : Option ℕ) → same_account x y ≡ true → unwrap_or x 0 ≡ unwrap_or y 0
same_numbers None y h = cc
same_numbers (Some a) None h = cc
same_numbers (Some a) (Some b) h = eqb-true a b h

three : (a b c d : Bool) → a ≡ true → b ≡ true → (c || d) ≡ true → (a && b && (c || d)) ≡ true
three true true c d h i j = j
three false b c d h i j = cc
three true false c d h i j = cc

-- the move with which a line settles a debit entry pays for it
debit_pays : (day : Day) (J : History) (n : ℕ) (e : Entry) → is_debit_entry day n e ≡ true → pays_for day n (covered_debit day J n e) e ≡ true
debit_pays day J n e h = here (is_short_debtor day J n (debit_account day e))
  where
    here : (b : Bool) → pays_for day n (if b then cover_of day n e else move_of day e) e ≡ true
    here true = three (nat_eq (technical_account day n) (credit_account day e)) (nat_eq e.amount e.amount) (nat_eq (fund_account day n) (debit_account day e)) (nat_eq (fund_account day n) (fund_account day n))
        (eq-eqb _ _ (sym (same_numbers (account_named day e.credit) (technical_of day n) h))) (eq-eqb e.amount e.amount refl) (or_right (nat_eq (fund_account day n) (debit_account day e)) _ (eq-eqb (fund_account day n) (fund_account day n) refl))
    here false = three (nat_eq (credit_account day e) (credit_account day e)) (nat_eq e.amount e.amount) (nat_eq (debit_account day e) (debit_account day e)) (nat_eq (debit_account day e) (fund_account day n))
        (eq-eqb (credit_account day e) (credit_account day e) refl) (eq-eqb e.amount e.amount refl) (or_left (nat_eq (debit_account day e) (debit_account day e)) _ (eq-eqb (debit_account day e) (debit_account day e) refl))

pub debits_pay : (day : Day) (J : History) (n : ℕ) (es : List Entry) → each_pays day n (map (covered_debit day J n) (filter (is_debit_entry day n) es)) (filter (is_debit_entry day n) es) ≡ true
debits_pay day J n [] = refl
debits_pay day J n (e ∷ es) = here (is_debit_entry day n e) refl (debits_pay day J n es)
  where
    rest : List Entry
    rest = filter (is_debit_entry day n) es

    here : (b : Bool) → is_debit_entry day n e ≡ b → each_pays day n (map (covered_debit day J n) rest) rest ≡ true → each_pays day n (map (covered_debit day J n) (cond b (e ∷ rest) rest)) (cond b (e ∷ rest) rest) ≡ true
    here true p k = and_from (pays_for day n (covered_debit day J n e) e) (each_pays day n (map (covered_debit day J n) rest) rest) (debit_pays day J n e p) k
    here false p k = k

pub front : (f : Entry → Move) (es : List Entry) (ms : List Move) → take (length es) (map f es ++ ms) ≡ map f es
front f es ms = ap (λ k. take k (map f es ++ ms)) (sym (length-map es f)) ∙ take-append_seam (map f es) ms

pub back : (f : Entry → Move) (es : List Entry) (ms : List Move) → drop (length es) (map f es ++ ms) ≡ ms
back f es ms = ap (λ k. drop k (map f es ++ ms)) (sym (length-map es f)) ∙ drop-append_seam (map f es) ms
