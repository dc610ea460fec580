-- Why wants have no line, and what workers are told to look at: after so many lines of the worked days, and on days of their own.
use Rattle.std.specs.Prelude.{◌≡◌, true, false, List, [], ◌∷◌, Option, Some, None, ℕ, map, refl, codes}
use Rattle.batch_records.specs.DayRecord.{Day}
use Rattle.cash_amounts.specs.declared.records.Procedure.TheVariants.{B, E}
use Rattle.commit_journal.specs.declared.line.Want.{Want}
use Rattle.commit_journal.specs.declared.line.Want.TheVariants as wants
use Rattle.commit_journal.specs.Histories.{oldest}
use Rattle.machine.specs.declared.answers.Phase.TheVariants as phases
use Rattle.machine.specs.declared.answers.Why.{Why}
use Rattle.machine.specs.declared.answers.Why.TheVariants as whys
use Rattle.machine.specs.Stages.Pending.{item}
use Rattle.machine.specs.Making.Reasons.{why_of}
use Rattle.machine.specs.Orders.Order.{plain}
use Rattle.machine.specs.Orders.Hints.{hint}
use Rattle.machine.proofs.WorkedDays.Words.{funded, entry, bat, pay, X1, Y1, Z1, TB, BANKA, CH1, B1}
use Rattle.machine.proofs.WorkedDays.Open.{everything}
use Rattle.machine.proofs.WorkedDays.Payments.{two_day, high_holds_back_day}
use Rattle.machine.proofs.WorkedDays.BatchesOfA.{covered_day, reversed_day, paid_by_fund_day, fund_short_day, no_answer_day, never_ends_day}
use Rattle.machine.proofs.WorkedDays.BatchesOfB.{waits_day, holds_day, fund_says_no_day}
use Rattle.machine.proofs.WorkedDays.BatchesOfE.{one_objects_day, repeated_day}
use Rattle.machine.proofs.WorkedDays.LiquidityAndCycles.{transfers_day}

-- the reasons after the first i lines
abbrev after : Day → ℕ → List Want → List (Option Why)
after day i these = map (why_of day (oldest (plain day) i)) these

-- ---- messages and payments

first_take : after two_day 0 (wants.In 1 ∷ wants.In 2 ∷ wants.In 3 ∷ wants.In 0 ∷ wants.Book 1 0 ∷ wants.Time ∷ wants.End ∷ [])
    ≡ None ∷ Some (whys.Earlier 1) ∷ Some whys.NoSuch ∷ Some whys.NoSuch ∷ Some whys.Untaken ∷ Some (whys.Left 1) ∷ Some (whys.Clock 0) ∷ []
unfolding everything
first_take = refl

next_round_first : after paid_by_fund_day 2 (wants.In 2 ∷ []) ≡ Some (whys.Round 1) ∷ []
unfolding everything
next_round_first = refl

high_blocks : after high_holds_back_day 2 (wants.In 1 ∷ wants.Book 2 0 ∷ wants.Book 1 0 ∷ wants.Book 1 1 ∷ wants.All 1 ∷ wants.Expire 1 ∷ wants.Ask 1 ∷ wants.Sweep 8 ∷ wants.Sweep 1 ∷ wants.Time ∷ [])
    ≡ Some (whys.Taken 1) ∷ Some (whys.Blocked 1 1 0) ∷ Some (whys.Short 1 5000) ∷ Some whys.NoSuch ∷ Some whys.NoSuch
    ∷ Some (whys.Phase phases.Open 0) ∷ Some whys.NoSuch ∷ Some (whys.Clock 0) ∷ Some whys.NoSuch ∷ None ∷ []
unfolding everything
high_blocks = refl

day_is_over : after high_holds_back_day 6 (wants.In 3 ∷ wants.Book 1 0 ∷ wants.Sweep 8 ∷ wants.Time ∷ wants.End ∷ [])
    ≡ Some (whys.Over 6) ∷ Some (whys.Over 6) ∷ Some (whys.Over 6) ∷ Some (whys.Over 6) ∷ Some (whys.Over 6) ∷ []
unfolding everything
day_is_over = refl

rejected_stays : after repeated_day 2 (wants.Book 1 1 ∷ wants.Book 2 1 ∷ wants.Expire 1 ∷ [])
    ≡ Some (whys.Phase phases.Rejected 0) ∷ Some (whys.Phase phases.Rejected 0) ∷ Some (whys.Phase phases.Rejected 0) ∷ []
unfolding everything
rejected_stays = refl

sub_is_empty : after transfers_day 3 (wants.Sweep 8 ∷ wants.Time ∷ wants.End ∷ []) ≡ None ∷ Some (whys.Clock 86400) ∷ Some (whys.Ready (wants.Sweep 8)) ∷ []
unfolding everything
sub_is_empty = refl

sub_was_emptied : after transfers_day 4 (wants.Sweep 8 ∷ wants.End ∷ []) ≡ Some whys.Empty ∷ None ∷ []
unfolding everything
sub_was_emptied = refl

-- ---- A batches and the fund

debits_first : after covered_day 2 (wants.Book 1 1 ∷ wants.Book 1 2 ∷ wants.Book 1 3 ∷ wants.Book 1 4 ∷ wants.Book 1 0 ∷ wants.Time ∷ [])
    ≡ Some (whys.Booked 2) ∷ None ∷ Some (whys.Debits 2) ∷ Some whys.NoSuch ∷ Some whys.NoSuch ∷ Some (whys.Ready (wants.Book 1 2)) ∷ []
unfolding everything
debits_first = refl

fund_is_asked : after paid_by_fund_day 3 (wants.Ask 1 ∷ wants.Expire 1 ∷ wants.Book 1 2 ∷ wants.Cover 1 ∷ wants.Refuse 1 ∷ wants.Time ∷ [])
    ≡ None ∷ Some (whys.Fund 9) ∷ Some (whys.Phase phases.Overdue 39600) ∷ Some (whys.Phase phases.Overdue 39600) ∷ Some (whys.Phase phases.Overdue 39600)
    ∷ Some (whys.Ready (wants.Ask 1)) ∷ []
unfolding everything
fund_is_asked = refl

fund_covers : after paid_by_fund_day 6 (wants.Cover 1 ∷ wants.Refuse 1 ∷ wants.Time ∷ []) ≡ None ∷ Some (whys.Enough 8000 6000) ∷ Some (whys.Ready (wants.Cover 1)) ∷ []
unfolding everything
fund_covers = refl

fund_has_paid : after paid_by_fund_day 7 (wants.Book 1 1 ∷ wants.Book 1 2 ∷ wants.Book 1 3 ∷ wants.Cover 1 ∷ [])
    ≡ Some (whys.Booked 2) ∷ Some (whys.Covered 7) ∷ None ∷ Some (whys.Phase phases.Covered 43200) ∷ []
unfolding everything
fund_has_paid = refl

-- the fund is short: the refusal is ready, though workers are told the cover
fund_is_short : after fund_short_day 6 (wants.Cover 1 ∷ wants.Refuse 1 ∷ wants.Time ∷ []) ≡ Some (whys.Short 9 5999) ∷ None ∷ Some (whys.Ready (wants.Refuse 1)) ∷ []
unfolding everything
fund_is_short = refl

fund_is_absent : after reversed_day 3 (wants.Ask 1 ∷ wants.Expire 1 ∷ []) ≡ Some whys.NoFund ∷ None ∷ []
unfolding everything
fund_is_absent = refl

no_question_at_midnight : after never_ends_day 3 (wants.Ask 1 ∷ wants.Expire 1 ∷ []) ≡ Some (whys.Clock 86400) ∷ None ∷ []
unfolding everything
no_question_at_midnight = refl

question_until_midnight : after no_answer_day 4 (wants.Refuse 1 ∷ wants.Time ∷ []) ≡ Some (whys.Phase phases.Asking 39600) ∷ None ∷ []
unfolding everything
question_until_midnight = refl

-- ---- B batches

debtor_is_short : after waits_day 1 (wants.All 1 ∷ wants.Book 1 1 ∷ []) ≡ Some (whys.Short 2 5999) ∷ Some whys.NoSuch ∷ []
unfolding everything
debtor_is_short = refl

batch_blocks : after holds_day 2 (wants.Book 2 0 ∷ wants.All 1 ∷ []) ≡ Some (whys.Blocked 1 1 0) ∷ Some (whys.Short 2 0) ∷ []
unfolding everything
batch_blocks = refl

answer_is_no : after fund_says_no_day 5 (wants.Cover 1 ∷ wants.Refuse 1 ∷ []) ≡ Some whys.Answer ∷ None ∷ []
unfolding everything
answer_is_no = refl

-- two batches of one debtor: the second is free on its first account, and blocked on its second one
abbrev two_batches : Day
two_batches = funded 1000 1000 0 0 []
    (bat 0 CH1 B1 B None None 2 4000 (entry Y1 TB 2000 ∷ entry TB Z1 2000 ∷ [])
    ∷ bat 0 CH1 (codes "B2") B None None 3 4000 (entry X1 TB 1000 ∷ entry Y1 TB 1000 ∷ entry TB Z1 2000 ∷ [])
    ∷ [])

second_account_blocked : after two_batches 2 (wants.All 1 ∷ wants.All 2 ∷ []) ≡ Some (whys.Short 2 1000) ∷ Some (whys.Blocked 2 1 0) ∷ []
unfolding everything
second_account_blocked = refl

-- ---- E batches, and places

information_lasts : after one_objects_day 3 (wants.Book 1 1 ∷ wants.Time ∷ []) ≡ Some (whys.Phase phases.Information 35999) ∷ None ∷ []
unfolding everything
information_lasts = refl

entry_is_revoked : after one_objects_day 5 (wants.Book 1 1 ∷ wants.Book 1 2 ∷ []) ≡ Some (whys.Revoked 3) ∷ None ∷ []
unfolding everything
entry_is_revoked = refl

-- the batch that was taken first becomes active with the end of its information period, and so stands after the second
abbrev late_active : Day
late_active = funded 500 0 0 0 []
    (bat 0 CH1 B1 E (Some 36000) (Some 39600) 1 1000 (entry X1 Y1 1000 ∷ [])
    ∷ bat 0 CH1 (codes "B2") E None None 1 1000 (entry X1 Z1 1000 ∷ [])
    ∷ [])

second_stands_first : after late_active 3 (wants.Book 1 1 ∷ wants.Book 2 1 ∷ []) ≡ Some (whys.Blocked 1 2 1) ∷ Some (whys.Short 1 500) ∷ []
unfolding everything
second_stands_first = refl

-- of two batches that stand before a payment, the first is told of, and that is the second in the file where it became active first
abbrev two_before : Option ℕ → Option ℕ → Day
two_before info till = funded 500 0 0 0 []
    (bat 0 CH1 B1 E info till 1 1000 (entry X1 Y1 1000 ∷ [])
    ∷ bat 0 CH1 (codes "B2") E None None 1 1000 (entry X1 Z1 1000 ∷ [])
    ∷ pay 0 BANKA (codes "P1") false X1 Y1 100
    ∷ [])

first_in_file_is_told : after (two_before None None) 3 (wants.Book 3 0 ∷ []) ≡ Some (whys.Blocked 1 1 1) ∷ []
unfolding everything
first_in_file_is_told = refl

first_active_is_told : after (two_before (Some 36000) (Some 39600)) 4 (wants.Book 3 0 ∷ []) ≡ Some (whys.Blocked 1 2 1) ∷ []
unfolding everything
first_active_is_told = refl

-- a batch stands before a high payment that was taken before it
abbrev high_and_batch : Day
high_and_batch = funded 500 0 0 0 []
    (pay 0 BANKA (codes "P1") true X1 Y1 1000
    ∷ bat 0 CH1 B1 E None None 1 1000 (entry X1 Z1 1000 ∷ [])
    ∷ pay 0 BANKA (codes "P2") false X1 Y1 100
    ∷ [])

highest_is_told : after high_and_batch 3 (wants.Book 3 0 ∷ wants.Book 1 0 ∷ []) ≡ Some (whys.Blocked 1 2 1) ∷ Some (whys.Blocked 1 2 1) ∷ []
unfolding everything
highest_is_told = refl

-- ---- what workers are told

hints : hint covered_day (oldest (plain covered_day) 2) (item 0 0) ∷ hint covered_day (oldest (plain covered_day) 2) (item 1 3)
    ∷ hint covered_day (oldest (plain covered_day) 3) (item 1 3) ∷ hint covered_day (oldest (plain covered_day) 4) (item 0 0)
    ∷ hint paid_by_fund_day (oldest (plain paid_by_fund_day) 3) (item 0 0) ∷ hint paid_by_fund_day (oldest (plain paid_by_fund_day) 3) (item 1 1)
    ∷ hint reversed_day (oldest (plain reversed_day) 3) (item 1 0) ∷ hint fund_short_day (oldest (plain fund_short_day) 6) (item 0 0)
    ∷ hint fund_says_no_day (oldest (plain fund_says_no_day) 5) (item 0 7) ∷ hint no_answer_day (oldest (plain no_answer_day) 4) (item 0 0)
    ∷ hint no_answer_day (oldest (plain no_answer_day) 5) (item 0 0) ∷ hint holds_day (oldest (plain holds_day) 2) (item 1 0)
    ∷ hint holds_day (oldest (plain holds_day) 2) (item 1 1) ∷ []
    ≡ Some (wants.Book 1 2) ∷ None
    ∷ Some (wants.Book 1 3) ∷ None
    ∷ Some (wants.Ask 1) ∷ None
    ∷ Some (wants.Expire 1) ∷ Some (wants.Cover 1)
    ∷ Some (wants.Refuse 1) ∷ None
    ∷ Some (wants.Refuse 1) ∷ Some (wants.All 1)
    ∷ Some (wants.Book 2 0) ∷ []
unfolding everything
hints = refl
