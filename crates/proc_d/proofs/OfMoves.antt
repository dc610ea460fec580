-- What the moves of a batch's entries tell of the entries.
use Rattle.std.proofs.Common.{◌≡◌, ◌-◌, ℕ, Bool, true, false, ◌&&◌, List, [], ◌∷◌, map, refl, ap}
use Rattle.std.specs.Prelude.{nat_lt}
use Rattle.std.specs.List.{list_all}
use Rattle.batch_records.specs.DayRecord.{Day}
use Rattle.batch_records.specs.declared.day.Entry.{Entry}
use Rattle.commit_journal.specs.declared.line.Move.{Move}
use Rattle.machine.specs.Words.{is_dca}
use Rattle.machine.specs.Records.Messages.{BatchD, entries, move_of, technical_of}
use Rattle.machine.specs.Stages.Intake.{afforded_in_order, entry_fits}
use Rattle.rule_book.specs.Moves.{entry_moves}
use Rattle.rule_book.proofs.MoveFacts.{all_moves, comes_is, passes_is}
use Rattle.proc_d.specs.Booked.{afforded, is_paid_out}

fits_is : (day : Day) (n : ℕ) (e : Entry) → is_paid_out day (technical_of day n) (move_of day e) ≡ entry_fits BatchD day n e
fits_is day n e = λ i. comes_is day n e i && passes_is day (λ r. is_dca r.kind) e.credit i

pub all_fit_is : (day : Day) (n : ℕ) → list_all (is_paid_out day (technical_of day n)) (entry_moves day n) ≡ list_all (entry_fits BatchD day n) (entries day n)
all_fit_is day n = all_moves (move_of day) (entry_fits BatchD day n) (is_paid_out day (technical_of day n)) (fits_is day n) (entries day n)

pub afforded_is : (day : Day) (available : ℕ) (es : List Entry) → afforded available (map (move_of day) es) ≡ map (move_of day) (afforded_in_order available es)
afforded_is day available [] = refl
afforded_is day available (e ∷ es) = one_more day available e es (nat_lt available e.amount) (afforded_is day available es) (afforded_is day (available - e.amount) es)
  where
    one_more : (day : Day) (available : ℕ) (e : Entry) (es : List Entry) (b : Bool) → afforded available (map (move_of day) es) ≡ map (move_of day) (afforded_in_order available es)
        → afforded (available - e.amount) (map (move_of day) es) ≡ map (move_of day) (afforded_in_order (available - e.amount) es)
        → elim b as (λ _. List Move) [ true ↦ afforded available (map (move_of day) es) | false ↦ move_of day e ∷ afforded (available - e.amount) (map (move_of day) es) ]
        ≡ map (move_of day) (elim b as (λ _. List Entry) [ true ↦ afforded_in_order available es | false ↦ e ∷ afforded_in_order (available - e.amount) es ])
    one_more day available e es true h k = h
    one_more day available e es false h k = ap (λ (ms : List Move). move_of day e ∷ ms) k
