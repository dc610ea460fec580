-- Changes of rows by cases are changes of one row by cases.
use Rattle.std.proofs.Common.{◌≡◌, ℕ, Bool, true, false, List, Option, refl, if◌then◌else◌}
use Rattle.std.specs.Prelude.{slice_set}
use Rattle.batch_records.specs.DayRecord.{Day}
use Rattle.batch_records.specs.declared.day.Body.{Body}
use Rattle.batch_records.specs.declared.day.Body.TheVariants as bodies
use Rattle.commit_journal.specs.declared.line.Head.{Head}
use Rattle.machine.specs.Records.Messages.{Sort, BatchA, BatchB, BatchE, sort_of}
use Rattle.machine.specs.Telling.History.{is_book}
use Rattle.day_facts.specs.Lists.{changed, placed}
use Rattle.day_facts.specs.Left.{fallen_at, row_booked, row_revoked, row_rule, rows_booked, rows_revoked, rows_ruled}
use Rattle.day_facts.specs.Own.{booked_with, row_noted, rows_noted}
use Rattle.day_facts.specs.Told.{revoked_as, revoked_rule, rows_objected, places_revoked}
use Rattle.day_facts.proofs.RowLemmas.{changed_id}

pub booked_by_row : (head : Head) (rows : List (List Bool)) → rows_booked head rows ≡ changed head.msg (row_booked head) rows
booked_by_row head rows = here (is_book head.kind)
  where
    here : (b : Bool) → (if b then changed head.msg (λ row. slice_set row head.entry false) rows else rows) ≡ changed head.msg (fallen_at b head.entry) rows
    here true = refl
    here false = changed_id head.msg (λ row. row) rows (λ row. refl)

pub noted_by_row : (place : ℕ) (head : Head) (rows : List (List (Option ℕ))) → rows_noted place head rows ≡ changed head.msg (row_noted place head) rows
noted_by_row place head rows = here (is_book head.kind)
  where
    here : (b : Bool) → (if b then changed head.msg (placed head.entry place) rows else rows) ≡ changed head.msg (booked_with b head.entry place) rows
    here true = refl
    here false = changed_id head.msg (λ row. row) rows (λ row. refl)

fallen_by_row : (s : Sort) (day : Day) (n : ℕ) (bank : List ℕ) (rows : List (List Bool)) → rows_revoked s day n bank rows ≡ changed n (row_revoked s day n bank) rows
fallen_by_row BatchE day n bank rows = refl
fallen_by_row _ day n bank rows = changed_id n (λ row. row) rows (λ row. refl)

pub ruled_by_row : (day : Day) (b : ℕ) (from : List ℕ) (body : Body) (rows : List (List Bool)) → rows_ruled day b from body rows ≡ changed b (row_rule day b from body) rows
ruled_by_row day b from (bodies.Object system id) rows = fallen_by_row (sort_of day b) day b from rows
ruled_by_row day b from _ rows = changed_id b (λ row. row) rows (λ row. refl)

objected_by_row : (s : Sort) (day : Day) (n : ℕ) (bank : List ℕ) (place : ℕ) (rows : List (List (Option ℕ))) → rows_objected s day n bank place rows ≡ changed n (revoked_as s day n bank place) rows
objected_by_row BatchA day n bank place rows = refl
objected_by_row BatchB day n bank place rows = refl
objected_by_row BatchE day n bank place rows = refl
objected_by_row _ day n bank place rows = changed_id n (λ row. row) rows (λ row. refl)

pub revoked_by_row : (day : Day) (place b : ℕ) (from : List ℕ) (body : Body) (rows : List (List (Option ℕ))) → places_revoked day place b from body rows ≡ changed b (revoked_rule day place b from body) rows
revoked_by_row day place b from (bodies.Object system id) rows = objected_by_row (sort_of day b) day b from place rows
revoked_by_row day place b from _ rows = changed_id b (λ row. row) rows (λ row. refl)
