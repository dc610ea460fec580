-- The code with which a legal journal took a message is one that the message would get after the lines before.
use Rattle.std.proofs.Common.{◌≡◌, ◌≢◌, ◌∙◌, ℕ, Bool, true, false, List, [], ◌∷◌, Option, Some, None, refl, ap, sym}
use Rattle.std.specs.Prelude.{nat_eq}
use Rattle.std.specs.Option.{option_or}
use Rattle.std.proofs.lemmas.Bool.{and_parts, eqb-true}
use Rattle.batch_records.specs.DayRecord.{Day}
use Rattle.commit_journal.specs.declared.line.Code.{Code}
use Rattle.commit_journal.specs.declared.line.Kind.{Kind}
use Rattle.commit_journal.specs.declared.line.Kind.TheVariants as kinds
use Rattle.commit_journal.specs.declared.line.Move.{Move}
use Rattle.commit_journal.specs.Line.{History}
use Rattle.machine.specs.Words.{when}
use Rattle.machine.specs.Telling.History.{is_in, is_in_of, read_first, taken_code}
use Rattle.machine.specs.Stages.Intake.{intake_code}
use Rattle.machine.specs.Legal.{IsLegal}
use Rattle.settlement_laws.proofs.Base.Made.{Made, made_facts}

code_in : (kind : Kind) (day : Day) (J : History) (m k : ℕ) (code : Code) (moves : List Move) → is_in kind ≡ true → Made kind day J m k code moves → code ≡ intake_code day J m
code_in kinds.In day J m k code moves h line = line.1
code_in _ day J m k code moves h line = cc

same_inside : (c d : Code) → Some c ≡ Some d → c ≡ d
same_inside c d same = cc

-- a code that the message gets after no lines at all
pub taken_never : (day : Day) (n : ℕ) (code : Code) → ((K : History) → intake_code day K n ≢ code) → (J : History) → IsLegal day J → taken_code J n ≢ Some code
unfolding read_first
taken_never day n code never [] legal same = cc
taken_never day n code never (l ∷ J) legal same = here (taken_code J n) (taken_never day n code never J legal.0) same
  where
    newest : (b : Bool) → is_in_of n l ≡ b → when b l.head.code ≢ Some code
    newest false i same = cc
    newest true i same =
        let parts = and_parts (is_in l.head.kind) (nat_eq l.head.msg n) i in
        let of_n : l.head.msg ≡ n = eqb-true l.head.msg n parts.1 in
        let then : l.head.code ≡ intake_code day J l.head.msg = code_in l.head.kind day J l.head.msg l.head.entry l.head.code l.moves parts.0 (made_facts day J l legal.1).1 in
        never J (ap (intake_code day J) (sym of_n) ∙ sym then ∙ same_inside l.head.code code same)

    here : (o : Option Code) → o ≢ Some code → option_or o (when (is_in_of n l) l.head.code) ≢ Some code
    here (Some c) before same = before same
    here None before same = newest (is_in_of n l) refl same
