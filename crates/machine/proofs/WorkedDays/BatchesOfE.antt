-- Days of E batches: objections, a repeat, and the stops of time.
use Rattle.std.specs.Prelude.{◌≡◌, [], ◌∷◌, reverse, Some, None, refl, codes}
use Rattle.batch_records.specs.DayRecord.{Day}
use Rattle.cash_amounts.specs.declared.records.Procedure.TheVariants.{E}
use Rattle.commit_journal.specs.declared.line.Kind.TheVariants as kinds
use Rattle.commit_journal.specs.declared.line.Code.TheVariants as line_codes
use Rattle.machine.specs.Making.Lines.{line}
use Rattle.machine.specs.Orders.Order.{plain}
use Rattle.machine.proofs.WorkedDays.Words.{funded, entry, bat, obj, m, X1, Y1, Z1, BANKA, BANKB, BANKC, CH1, B1}
use Rattle.machine.proofs.WorkedDays.Open.{everything}

-- an objection revokes one entry, and one comes too late

abbrev pub one_objects_day : Day
one_objects_day = funded 10000 10000 0 0 (35999 ∷ 36000 ∷ [])
    (bat 0 CH1 B1 E (Some 36000) (Some 39600) 2 3000
    (entry X1 Y1 1000 ∷ entry Y1 Z1 2000 ∷ [])
    ∷ obj 1 BANKA (codes "O1") CH1 B1
    ∷ obj 2 BANKC (codes "O2") CH1 B1
    ∷ [])

one_objects : reverse (plain one_objects_day) ≡
    line kinds.In 1 0 line_codes.Ok []
    ∷ line kinds.Time 0 35999 line_codes.Ok []
    ∷ line kinds.In 2 0 line_codes.Ok []
    ∷ line kinds.Time 0 36000 line_codes.Ok []
    ∷ line kinds.In 3 0 line_codes.Ph []
    ∷ line kinds.Book 1 2 line_codes.Ok (m 2 3 2000 ∷ [])
    ∷ line kinds.Time 0 39600 line_codes.Ok []
    ∷ line kinds.Time 0 86400 line_codes.Ok []
    ∷ line kinds.End 0 0 line_codes.Ok []
    ∷ []
unfolding everything
one_objects = refl

-- two objections revoke both entries

abbrev pub both_object_day : Day
both_object_day = funded 10000 10000 0 0 (35999 ∷ 36000 ∷ [])
    (bat 0 CH1 B1 E (Some 36000) (Some 39600) 2 3000
    (entry X1 Y1 1000 ∷ entry Y1 Z1 2000 ∷ [])
    ∷ obj 1 BANKA (codes "O1") CH1 B1
    ∷ obj 1 BANKB (codes "O3") CH1 B1
    ∷ obj 2 BANKC (codes "O2") CH1 B1
    ∷ [])

both_object : reverse (plain both_object_day) ≡
    line kinds.In 1 0 line_codes.Ok []
    ∷ line kinds.Time 0 35999 line_codes.Ok []
    ∷ line kinds.In 2 0 line_codes.Ok []
    ∷ line kinds.In 3 0 line_codes.Ok []
    ∷ line kinds.Time 0 36000 line_codes.Ok []
    ∷ line kinds.In 4 0 line_codes.Ph []
    ∷ line kinds.Time 0 39600 line_codes.Ok []
    ∷ line kinds.Time 0 86400 line_codes.Ok []
    ∷ line kinds.End 0 0 line_codes.Ok []
    ∷ []
unfolding everything
both_object = refl

-- a repeat of a message that was rejected

abbrev pub repeated_day : Day
repeated_day = funded 10000 0 0 0 []
    (bat 0 CH1 B1 E None None 1 1001
    (entry X1 Y1 1000 ∷ [])
    ∷ bat 0 CH1 B1 E None None 1 1000
    (entry X1 Y1 1000 ∷ [])
    ∷ [])

repeated : reverse (plain repeated_day) ≡
    line kinds.In 1 0 line_codes.Sm []
    ∷ line kinds.In 2 0 line_codes.Du []
    ∷ line kinds.Time 0 86400 line_codes.Ok []
    ∷ line kinds.End 0 0 line_codes.Ok []
    ∷ []
unfolding everything
repeated = refl

-- time stops at the ends that a batch states and at those of the day

abbrev pub stops_day : Day
stops_day = funded 1000 0 0 0 (32400 ∷ 61200 ∷ [])
    (bat 1 CH1 B1 E (Some 36000) (Some 39600) 1 1000
    (entry X1 Y1 1000 ∷ [])
    ∷ [])

stops : reverse (plain stops_day) ≡
    line kinds.Time 0 32400 line_codes.Ok []
    ∷ line kinds.In 1 0 line_codes.Ok []
    ∷ line kinds.Time 0 36000 line_codes.Ok []
    ∷ line kinds.Book 1 1 line_codes.Ok (m 1 2 1000 ∷ [])
    ∷ line kinds.Time 0 39600 line_codes.Ok []
    ∷ line kinds.Time 0 61200 line_codes.Ok []
    ∷ line kinds.Time 0 86400 line_codes.Ok []
    ∷ line kinds.End 0 0 line_codes.Ok []
    ∷ []
unfolding everything
stops = refl
