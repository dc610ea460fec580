-- What a line tells of the A batch that it names.
use Rattle.std.proofs.Common.{◌≡◌, ℕ, true, not, ◌&&◌, List, subst}
use Rattle.std.specs.Prelude.{nat_eq}
use Rattle.std.proofs.lemmas.Bool.{eqb-true, and_parts}
use Rattle.batch_records.specs.DayRecord.{Day}
use Rattle.commit_journal.specs.declared.line.Move.{Move}
use Rattle.commit_journal.specs.declared.line.Code.{Code}
use Rattle.commit_journal.specs.declared.line.Kind.{Kind}
use Rattle.commit_journal.specs.declared.line.Kind.TheVariants as kinds
use Rattle.commit_journal.specs.Line.{Line, History}
use Rattle.machine.specs.Records.Messages.{sort_of, is_b}
use Rattle.machine.specs.Telling.History.{is_book, is_ask, is_cover, is_expire_or_refuse, is_book_of, is_ask_of, is_cover_of, is_closing_of}
use Rattle.machine.specs.Stages.Phases.{phase}
use Rattle.machine.specs.Stages.Pending.{item, is_pending}
use Rattle.machine.specs.Making.Lines.{may_book, may_cover}
use Rattle.settlement_laws.proofs.Base.Made.{Made, made_book}
use Rattle.settlement_laws.proofs.ProcedureA.PhasesOfA.{ask_late, expire_late, is_late, refuse_late}

-- ---- what a line wants, by the message and the entry that it names

cover_wants : (kind : Kind) (day : Day) (J : History) (n k : ℕ) (code : Code) (moves : List Move) → is_cover kind ≡ true → Made kind day J n k code moves → may_cover day J n ≡ true
cover_wants kinds.Cover day J n k code moves h m = m.0
cover_wants _ day J n k code moves h m = cc

ask_wants : (kind : Kind) (day : Day) (J : History) (n k : ℕ) (code : Code) (moves : List Move) → is_ask kind ≡ true → Made kind day J n k code moves → is_late (phase day J n) ≡ true
ask_wants kinds.Ask day J n k code moves h m = ask_late day J n m.0
ask_wants _ day J n k code moves h m = cc

closing_wants : (kind : Kind) (day : Day) (J : History) (n k : ℕ) (code : Code) (moves : List Move) → is_expire_or_refuse kind ≡ true → Made kind day J n k code moves → is_late (phase day J n) ≡ true
closing_wants kinds.Expire day J n k code moves h m = expire_late day J n m.0
closing_wants kinds.Refuse day J n k code moves h m = refuse_late day J n code m.0
closing_wants _ day J n k code moves h m = cc

abbrev pub MadeLine : Day → History → Line → Type 0
MadeLine day J l = Made l.head.kind day J l.head.msg l.head.entry l.head.code l.moves

pub book_of : (day : Day) (J : History) (l : Line) (n k : ℕ) → MadeLine day J l → is_book_of n k l ≡ true → may_book day J n k ≡ true
book_of day J l n k m h =
    let i = and_parts (is_book l.head.kind && nat_eq l.head.msg n) (nat_eq l.head.entry k) h in
    let j = and_parts (is_book l.head.kind) (nat_eq l.head.msg n) i.0 in
    subst (λ x. may_book day J x k ≡ true) (eqb-true l.head.msg n j.1) (subst (λ y. may_book day J l.head.msg y ≡ true) (eqb-true l.head.entry k i.1) (made_book l.head.kind day J _ _ _ _ j.0 m))

pub cover_of_line : (day : Day) (J : History) (l : Line) (n : ℕ) → MadeLine day J l → is_cover_of n l ≡ true → may_cover day J n ≡ true
cover_of_line day J l n m h =
    let j = and_parts (is_cover l.head.kind) (nat_eq l.head.msg n) h in
    subst (λ x. may_cover day J x ≡ true) (eqb-true l.head.msg n j.1) (cover_wants l.head.kind day J _ _ _ _ j.0 m)

pub ask_of_line : (day : Day) (J : History) (l : Line) (n : ℕ) → MadeLine day J l → is_ask_of n l ≡ true → is_late (phase day J n) ≡ true
ask_of_line day J l n m h =
    let j = and_parts (is_ask l.head.kind) (nat_eq l.head.msg n) h in
    subst (λ x. is_late (phase day J x) ≡ true) (eqb-true l.head.msg n j.1) (ask_wants l.head.kind day J _ _ _ _ j.0 m)

pub closing_of_line : (day : Day) (J : History) (l : Line) (n : ℕ) → MadeLine day J l → is_closing_of n l ≡ true → is_late (phase day J n) ≡ true
closing_of_line day J l n m h =
    let j = and_parts (is_expire_or_refuse l.head.kind) (nat_eq l.head.msg n) h in
    subst (λ x. is_late (phase day J x) ≡ true) (eqb-true l.head.msg n j.1) (closing_wants l.head.kind day J _ _ _ _ j.0 m)

pub may_book_pending : (day : Day) (J : History) (n k : ℕ) → may_book day J n k ≡ true → is_pending day J (item n k) ≡ true
may_book_pending day J n k h = (and_parts (is_pending day J (item n k)) _ (and_parts (is_pending day J (item n k) && not (is_b (sort_of day n))) _ h).0).0
