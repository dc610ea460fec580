-- What a line tells of the history that it was made after.
use Rattle.std.proofs.Common.{◌≡◌, ℕ, true, false, List, [], ◌∷◌, Option, Some, None, refl, sym, ap}
use Rattle.std.specs.Prelude.{is_some, unwrap_or}
use Rattle.batch_records.specs.DayRecord.{Day}
use Rattle.commit_journal.specs.declared.line.Move.{Move}
use Rattle.commit_journal.specs.declared.line.Code.{Code}
use Rattle.commit_journal.specs.declared.line.Code.TheVariants as line_codes
use Rattle.commit_journal.specs.declared.line.Kind.{Kind}
use Rattle.commit_journal.specs.declared.line.Kind.TheVariants as kinds
use Rattle.commit_journal.specs.Line.{Line, History}
use Rattle.machine.specs.Records.Messages.{sort_of, part, move_of, debit_entries, credit_entries}
use Rattle.machine.specs.Telling.History.{is_ask, is_book, is_ended}
use Rattle.machine.specs.Stages.Intake.{intake_code, intake_moves}
use Rattle.machine.specs.Making.Lines.{line, line_of, may, made, may_take, may_book, may_settle_whole, may_ask, may_expire, may_cover, may_sweep, may_pass, may_end, refusal, moves_of_part, reversal, expiry_code, cover_moves, sweep_move, next_stop}
use Rattle.settlement_laws.proofs.Base.Induction.{line_of-some}
use Rattle.machine.specs.Legal.{want_as}
use Rattle.std.specs.Prelude.{map, ◌++◌}

abbrev of_code : Line → Code
of_code l = l.head.code

abbrev of_moves : Line → List Move
of_moves l = l.moves

abbrev of_msg : Line → ℕ
of_msg l = l.head.msg

abbrev of_entry : Line → ℕ
of_entry l = l.head.entry

-- what stands in a line of each sort
abbrev pub Made : Kind → Day → History → ℕ → ℕ → Code → List Move → Type 0
Made kinds.In day J n k code moves = (may_take day J n ≡ true) × (code ≡ intake_code day J n) × (moves ≡ intake_moves day J n (intake_code day J n)) × (n ≡ n) × (k ≡ 0)
Made kinds.Book day J n k code moves = (may_book day J n k ≡ true) × (code ≡ line_codes.Ok) × (moves ≡ moves_of_part day (part day n k)) × (n ≡ n) × (k ≡ k)
Made kinds.All day J n k code moves = (may_settle_whole day J n ≡ true) × (code ≡ line_codes.Ok) × (moves ≡ map (move_of day) (debit_entries day n) ++ map (move_of day) (credit_entries day n)) × (n ≡ n) × (k ≡ 0)
Made kinds.Time day J n k code moves = (may_pass day J ≡ true) × (code ≡ line_codes.Ok) × (moves ≡ []) × (n ≡ 0) × (k ≡ next_stop day J)
Made kinds.Expire day J n k code moves = (may_expire day J n ≡ true) × (code ≡ expiry_code (sort_of day n) day J n) × (moves ≡ reversal (sort_of day n) day J n) × (n ≡ n) × (k ≡ 0)
Made kinds.Ask day J n k code moves = (may_ask day J n ≡ true) × (code ≡ line_codes.Ok) × (moves ≡ []) × (n ≡ n) × (k ≡ 0)
Made kinds.Cover day J n k code moves = (may_cover day J n ≡ true) × (code ≡ line_codes.Ok) × (moves ≡ cover_moves (sort_of day n) day J n) × (n ≡ n) × (k ≡ 0)
Made kinds.Refuse day J n k code moves = (refusal day J n ≡ Some code) × (code ≡ code) × (moves ≡ reversal (sort_of day n) day J n) × (n ≡ n) × (k ≡ 0)
Made kinds.Sweep day J n k code moves = (may_sweep day J k ≡ true) × (code ≡ line_codes.Ok) × (moves ≡ sweep_move day J k ∷ []) × (n ≡ 0) × (k ≡ k)
Made kinds.End day J n k code moves = (may_end day J ≡ true) × (code ≡ line_codes.Ok) × (moves ≡ []) × (n ≡ 0) × (k ≡ 0)

is_the_code : (o : Option Code) (c d : Code) → is_some o ≡ true → unwrap_or o c ≡ d → o ≡ Some d
is_the_code None c d h e = cc
is_the_code (Some x) c d h e = ap Some e

row_made : (kind : Kind) (day : Day) (J : History) (n k : ℕ) (code : Code) (moves : List Move) → may day J (want_as kind n k) ≡ true →
    made day J (want_as kind n k) ≡ line kind n k code moves → Made kind day J n k code moves
row_made kinds.In day J n k code moves h e = (h, ap of_code (sym e), ap of_moves (sym e), refl, ap of_entry (sym e))
row_made kinds.Book day J n k code moves h e = (h, ap of_code (sym e), ap of_moves (sym e), refl, refl)
row_made kinds.All day J n k code moves h e = (h, ap of_code (sym e), ap of_moves (sym e), refl, ap of_entry (sym e))
row_made kinds.Time day J n k code moves h e = (h, ap of_code (sym e), ap of_moves (sym e), ap of_msg (sym e), ap of_entry (sym e))
row_made kinds.Expire day J n k code moves h e = (h, ap of_code (sym e), ap of_moves (sym e), refl, ap of_entry (sym e))
row_made kinds.Ask day J n k code moves h e = (h, ap of_code (sym e), ap of_moves (sym e), refl, ap of_entry (sym e))
row_made kinds.Cover day J n k code moves h e = (h, ap of_code (sym e), ap of_moves (sym e), refl, ap of_entry (sym e))
row_made kinds.Refuse day J n k code moves h e = (is_the_code (refusal day J n) line_codes.Ge code h (ap of_code e), refl, ap of_moves (sym e), refl, ap of_entry (sym e))
row_made kinds.Sweep day J n k code moves h e = (h, ap of_code (sym e), ap of_moves (sym e), ap of_msg (sym e), refl)
row_made kinds.End day J n k code moves h e = (h, ap of_code (sym e), ap of_moves (sym e), ap of_msg (sym e), ap of_entry (sym e))

pub made_facts : (day : Day) (J : History) (l : Line) → line_of day J (want_as l.head.kind l.head.msg l.head.entry) ≡ Some l →
    (is_ended J ≡ false) × Made l.head.kind day J l.head.msg l.head.entry l.head.code l.moves
made_facts day J l e =
    let h = line_of-some day J (want_as l.head.kind l.head.msg l.head.entry) l e in
    (h.0, row_made l.head.kind day J l.head.msg l.head.entry l.head.code l.moves h.1 h.2)

-- ---- what a line of one sort tells first

pub made_ask : (kind : Kind) (day : Day) (J : History) (n k : ℕ) (code : Code) (moves : List Move) → is_ask kind ≡ true → Made kind day J n k code moves → may_ask day J n ≡ true
made_ask kinds.Ask day J n k code moves h m = m.0
made_ask _ day J n k code moves h m = cc

pub made_book : (kind : Kind) (day : Day) (J : History) (n k : ℕ) (code : Code) (moves : List Move) → is_book kind ≡ true → Made kind day J n k code moves → may_book day J n k ≡ true
made_book kinds.Book day J n k code moves h m = m.0
made_book _ day J n k code moves h m = cc
