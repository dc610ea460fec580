-- What code OK tells of a message: each test of the table failed.
use Rattle.std.proofs.Common.{◌≡◌, ℕ, Bool, true, false, not, List, [], ◌∷◌, Option, Some, None, refl, subst}
use Rattle.std.specs.List.{list_all}
use Rattle.std.specs.Option.{option_or}
use Rattle.std.specs.Prelude.{nat_eq}
use Rattle.batch_records.specs.DayRecord.{Day}
use Rattle.commit_journal.specs.declared.line.Code.{Code}
use Rattle.commit_journal.specs.declared.line.Code.TheVariants as line_codes
use Rattle.commit_journal.specs.declared.line.Kind.{Kind}
use Rattle.commit_journal.specs.declared.line.Kind.TheVariants as kinds
use Rattle.commit_journal.specs.declared.line.Move.{Move}
use Rattle.commit_journal.specs.Line.{Line, History}
use Rattle.machine.specs.Words.{first_case, some_passes, when}
use Rattle.machine.specs.Records.Messages.{sort_of, sender, entries, is_repeat}
use Rattle.machine.specs.Telling.History.{read_first, taken_code, is_accepted, is_ok, is_in, is_in_of}
use Rattle.machine.specs.Stages.Intake.{intake_code, sender_is_wrong, procedure_is_unused, count_is_wrong, sum_is_wrong, is_not_zero, entry_fits, times_are_wrong, cycle_is_wrong, accounts_are_wrong, debit_is_locked, debit_is_short, target_is_missing, phase_is_wrong, is_no_party}
use Rattle.machine.specs.Legal.{IsLegal}
use Rattle.machine.specs.Making.Lines.{may_take}
use Rattle.settlement_laws.proofs.Base.Made.{Made, made_facts}
use Rattle.std.proofs.lemmas.Bool.{eqb-true, and_parts}

abbrev pub table : Bool → Bool → Bool → Bool → Bool → Bool → Bool → Bool → Bool → Bool → Bool → Bool → Bool → Bool → Bool → Code
table b0 b1 b2 b3 b4 b5 b6 b7 b8 b9 b10 b11 b12 b13 b14 = first_case (
    (b0, line_codes.Du)
    ∷ (b1, line_codes.Us)
    ∷ (b2, line_codes.Pr)
    ∷ (b3, line_codes.Ct)
    ∷ (b4, line_codes.Sm)
    ∷ (b5, line_codes.Nz)
    ∷ (b6, line_codes.En)
    ∷ (b7, line_codes.Ti)
    ∷ (b8, line_codes.Cy)
    ∷ (b9, line_codes.Ac)
    ∷ (b10, line_codes.Lk)
    ∷ (b11, line_codes.Nc)
    ∷ (b12, line_codes.Bt)
    ∷ (b13, line_codes.Ph)
    ∷ (b14, line_codes.Np)
    ∷ []) line_codes.Ok

pub record Passed (b0 b1 b2 b3 b4 b5 b6 b7 b8 b9 b10 b11 b12 b13 b14 : Bool) : Type 0 where
  pub repeat_right : b0 ≡ false
  pub sender_right : b1 ≡ false
  pub procedure_right : b2 ≡ false
  pub count_right : b3 ≡ false
  pub total_right : b4 ≡ false
  pub zero_right : b5 ≡ false
  pub entries_right : b6 ≡ false
  pub times_right : b7 ≡ false
  pub cycle_right : b8 ≡ false
  pub accounts_right : b9 ≡ false
  pub locked_right : b10 ≡ false
  pub short_right : b11 ≡ false
  pub target_right : b12 ≡ false
  pub phase_right : b13 ≡ false
  pub party_right : b14 ≡ false

passed : (b0 b1 b2 b3 b4 b5 b6 b7 b8 b9 b10 b11 b12 b13 b14 : Bool) → is_ok (table b0 b1 b2 b3 b4 b5 b6 b7 b8 b9 b10 b11 b12 b13 b14) ≡ true → Passed b0 b1 b2 b3 b4 b5 b6 b7 b8 b9 b10 b11 b12 b13 b14
passed false false false false false false false false false false false false false false false h = record { repeat_right = refl; sender_right = refl; procedure_right = refl; count_right = refl; total_right = refl; zero_right = refl; entries_right = refl; times_right = refl; cycle_right = refl; accounts_right = refl; locked_right = refl; short_right = refl; target_right = refl; phase_right = refl; party_right = refl }
passed true b1 b2 b3 b4 b5 b6 b7 b8 b9 b10 b11 b12 b13 b14 h = cc
passed false true b2 b3 b4 b5 b6 b7 b8 b9 b10 b11 b12 b13 b14 h = cc
passed false false true b3 b4 b5 b6 b7 b8 b9 b10 b11 b12 b13 b14 h = cc
passed false false false true b4 b5 b6 b7 b8 b9 b10 b11 b12 b13 b14 h = cc
passed false false false false true b5 b6 b7 b8 b9 b10 b11 b12 b13 b14 h = cc
passed false false false false false true b6 b7 b8 b9 b10 b11 b12 b13 b14 h = cc
passed false false false false false false true b7 b8 b9 b10 b11 b12 b13 b14 h = cc
passed false false false false false false false true b8 b9 b10 b11 b12 b13 b14 h = cc
passed false false false false false false false false true b9 b10 b11 b12 b13 b14 h = cc
passed false false false false false false false false false true b10 b11 b12 b13 b14 h = cc
passed false false false false false false false false false false true b11 b12 b13 b14 h = cc
passed false false false false false false false false false false false true b12 b13 b14 h = cc
passed false false false false false false false false false false false false true b13 b14 h = cc
passed false false false false false false false false false false false false false true b14 h = cc
passed false false false false false false false false false false false false false false true h = cc

abbrev pub IsPassed : Day → History → ℕ → Type 0
IsPassed day J n = Passed (is_repeat day n) (sender_is_wrong (sort_of day n) day (sender day n)) (procedure_is_unused (sort_of day n) day (sender day n))
    (count_is_wrong day n) (sum_is_wrong day n) (is_not_zero (sort_of day n) day n) (not (list_all (entry_fits (sort_of day n) day n) (entries day n)))
    (times_are_wrong (sort_of day n) day J n) (cycle_is_wrong day J n) (accounts_are_wrong (sort_of day n) day n) (debit_is_locked day J n) (debit_is_short day J n)
    (target_is_missing (sort_of day n) day J n) (phase_is_wrong (sort_of day n) day J n) (is_no_party (sort_of day n) day J n)

pub passed_intake : (day : Day) (J : History) (n : ℕ) → is_ok (intake_code day J n) ≡ true → IsPassed day J n
unfolding intake_code
passed_intake day J n h = passed _ _ _ _ _ _ _ _ _ _ _ _ _ _ _ h

-- ---- an accepted message was taken so

passes_when : (b : Bool) (c : Code) → some_passes is_ok (when b c) ≡ true → (b ≡ true) × (is_ok c ≡ true)
passes_when true c h = (refl, h)
passes_when false c h = cc

made_in : (kind : Kind) (day : Day) (J : History) (n k : ℕ) (code : Code) (moves : List Move) → is_in kind ≡ true → Made kind day J n k code moves → Made kinds.In day J n k code moves
made_in kinds.In day J n k code moves h m = m
made_in _ day J n k code moves h m = cc

-- the history after which the message was taken, and that it passed there
pub record Taken (day : Day) (n : ℕ) : Type 0 where
  pub past : History
  pub taken_then : may_take day past n ≡ true
  pub passed_then : IsPassed day past n

taken_here : (day : Day) (J : History) (l : Line) (n : ℕ) → Made l.head.kind day J l.head.msg l.head.entry l.head.code l.moves → is_in_of n l ≡ true → is_ok l.head.code ≡ true → Taken day n
taken_here day J l n m h o =
    let i : (is_in l.head.kind ≡ true) × (nat_eq l.head.msg n ≡ true) = and_parts _ _ h in
    let e : l.head.msg ≡ n = eqb-true _ _ i.1 in
    let f : Made kinds.In day J l.head.msg l.head.entry l.head.code l.moves = made_in l.head.kind day J _ _ _ _ i.0 m in
    record {
      past = J;
      taken_then = subst (λ x. may_take day J x ≡ true) e f.0;
      passed_then = passed_intake day J n (subst (λ x. is_ok (intake_code day J x) ≡ true) e (subst (λ c. is_ok c ≡ true) f.1 o));
    }

pub accepted_taken : (day : Day) (J : History) (n : ℕ) → IsLegal day J → is_accepted J n ≡ true → Taken day n
unfolding read_first
accepted_taken day [] n legal h = cc
accepted_taken day (l ∷ J) n legal h = here (taken_code J n) (accepted_taken day J n legal.0) h
  where
    here : (o : Option Code) → (some_passes is_ok o ≡ true → Taken day n) → some_passes is_ok (option_or o (when (is_in_of n l) l.head.code)) ≡ true → Taken day n
    here (Some c) before h = before h
    here None before h =
        let i : (is_in_of n l ≡ true) × (is_ok l.head.code ≡ true) = passes_when _ _ h in
        taken_here day J l n (made_facts day J l legal.1).1 i.0 i.1
