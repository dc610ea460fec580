-- Which of two reasons is told where both hold: the one that stands first in the table of the want.
use Rattle.std.specs.Prelude.{◌≡◌, true, false, List, [], ◌∷◌, Option, Some, None, ℕ, map, refl, codes}
use Rattle.batch_records.specs.DayRecord.{Day}
use Rattle.cash_amounts.specs.declared.records.Procedure.TheVariants.{A, B}
use Rattle.commit_journal.specs.declared.line.Want.{Want}
use Rattle.commit_journal.specs.declared.line.Want.TheVariants as wants
use Rattle.commit_journal.specs.Histories.{oldest}
use Rattle.machine.specs.declared.answers.Phase.TheVariants as phases
use Rattle.machine.specs.declared.answers.Why.{Why}
use Rattle.machine.specs.declared.answers.Why.TheVariants as whys
use Rattle.machine.specs.Making.Reasons.{why_of}
use Rattle.machine.specs.Orders.Order.{plain}
use Rattle.machine.proofs.WorkedDays.Words.{funded, unfunded, entry, bat, pay, cnf, X1, Y1, Z1, TA, TB, BANKA, CH1, B1}
use Rattle.machine.proofs.WorkedDays.Open.{everything}
use Rattle.machine.proofs.WorkedDays.Payments.{two_day, high_holds_back_day}

-- the reasons after the first i lines
abbrev after : Day → ℕ → List Want → List (Option Why)
after day i these = map (why_of day (oldest (plain day) i)) these

-- ---- the day is over, no such item, untaken

over_before_no_such : after high_holds_back_day 6 (wants.In 0 ∷ wants.Book 9 0 ∷ wants.All 1 ∷ wants.Expire 9 ∷ wants.Ask 1 ∷ wants.Cover 1 ∷ wants.Refuse 1 ∷ wants.Sweep 1 ∷ wants.End ∷ [])
    ≡ Some (whys.Over 6) ∷ Some (whys.Over 6) ∷ Some (whys.Over 6) ∷ Some (whys.Over 6) ∷ Some (whys.Over 6) ∷ Some (whys.Over 6) ∷ Some (whys.Over 6) ∷ Some (whys.Over 6) ∷ Some (whys.Over 6) ∷ []
unfolding everything
over_before_no_such = refl

no_such_before_untaken : after high_holds_back_day 0 (wants.Book 1 1 ∷ wants.All 1 ∷ wants.Expire 9 ∷ wants.Ask 1 ∷ wants.Cover 1 ∷ wants.Refuse 1 ∷ [])
    ≡ Some whys.NoSuch ∷ Some whys.NoSuch ∷ Some whys.NoSuch ∷ Some whys.NoSuch ∷ Some whys.NoSuch ∷ Some whys.NoSuch ∷ []
unfolding everything
no_such_before_untaken = refl

-- ---- taking

-- the second message is of a round that isn't reached, and the first one of its sender is untaken
abbrev two_rounds : Day
two_rounds = funded 1000 0 0 0 (36000 ∷ [])
    (pay 0 BANKA (codes "P1") false X1 Y1 100
    ∷ pay 1 BANKA (codes "P2") false X1 Y1 100
    ∷ [])

round_before_earlier : after two_rounds 0 (wants.In 1 ∷ wants.In 2 ∷ []) ≡ None ∷ Some (whys.Round 1) ∷ []
unfolding everything
round_before_earlier = refl

-- ---- booking

-- a settled payment is booked
phase_before_booked : after two_day 3 (wants.Book 1 0 ∷ []) ≡ Some (whys.Phase phases.Settled 0) ∷ []
unfolding everything
phase_before_booked = refl

-- the credit of the second batch stands after that of the first, and its own debit isn't booked
abbrev two_credits : Day
two_credits = funded 1000 0 0 0 []
    (bat 0 CH1 B1 A None None 2 2000 (entry X1 TA 1000 ∷ entry TA Y1 1000 ∷ [])
    ∷ bat 0 CH1 (codes "B2") A None None 2 1000 (entry Z1 TA 500 ∷ entry TA Y1 500 ∷ [])
    ∷ [])

debits_before_blocked : after two_credits 3 (wants.Book 1 2 ∷ wants.Book 2 1 ∷ wants.Book 2 2 ∷ []) ≡ None ∷ Some (whys.Short 3 0) ∷ Some (whys.Debits 1) ∷ []
unfolding everything
debits_before_blocked = refl

-- ---- a whole batch of B

-- two batches of one debtor that covers neither
abbrev two_short : Day
two_short = funded 0 1000 0 0 []
    (bat 0 CH1 B1 B None None 2 4000 (entry Y1 TB 2000 ∷ entry TB Z1 2000 ∷ [])
    ∷ bat 0 CH1 (codes "B2") B None None 2 3000 (entry Y1 TB 1500 ∷ entry TB Z1 1500 ∷ [])
    ∷ [])

blocked_before_short : after two_short 2 (wants.All 1 ∷ wants.All 2 ∷ []) ≡ Some (whys.Short 2 1000) ∷ Some (whys.Blocked 2 1 0) ∷ []
unfolding everything
blocked_before_short = refl

phase_before_short : after two_short 3 (wants.All 1 ∷ []) ≡ Some (whys.Phase phases.Overdue 86400) ∷ []
unfolding everything
phase_before_short = refl

-- ---- the fund

-- a batch that is never covered, of a system without a fund
abbrev without_fund : Day
without_fund = unfunded 0 0 0 []
    (bat 0 CH1 B1 A None None 2 2000 (entry X1 TA 1000 ∷ entry TA Y1 1000 ∷ [])
    ∷ [])

phase_before_no_fund : after without_fund 1 (wants.Ask 1 ∷ []) ≡ Some (whys.Phase phases.Open 0) ∷ []
unfolding everything
phase_before_no_fund = refl

no_fund_before_clock : after without_fund 2 (wants.Ask 1 ∷ wants.Expire 1 ∷ []) ≡ Some whys.NoFund ∷ None ∷ []
unfolding everything
no_fund_before_clock = refl

-- the answer is N, and the fund is empty
abbrev no_and_empty : Day
no_and_empty = funded 4000 5999 0 0 (43200 ∷ [])
    (bat 0 CH1 B1 B None (Some 39600) 3 20000 (entry X1 TB 4000 ∷ entry Y1 TB 6000 ∷ entry TB Z1 10000 ∷ [])
    ∷ cnf 1 CH1 (codes "C1") B1 false
    ∷ [])

answer_before_short : after no_and_empty 5 (wants.Cover 1 ∷ []) ≡ Some whys.Answer ∷ []
unfolding everything
answer_before_short = refl

-- the answer was Y, and after the cover the fund still has what the batch needed
abbrev yes_and_plenty : Day
yes_and_plenty = funded 4000 0 0 20000 (43200 ∷ [])
    (bat 0 CH1 B1 A None (Some 39600) 3 20000 (entry X1 TA 4000 ∷ entry Y1 TA 6000 ∷ entry TA Z1 10000 ∷ [])
    ∷ cnf 1 CH1 (codes "C1") B1 true
    ∷ [])

phase_before_enough : after yes_and_plenty 7 (wants.Refuse 1 ∷ []) ≡ Some (whys.Phase phases.Covered 43200) ∷ []
unfolding everything
phase_before_enough = refl

-- ---- time and the end

-- the first payment can be booked, and the second isn't taken
left_before_ready : after two_day 1 (wants.Book 1 0 ∷ wants.Time ∷ []) ≡ None ∷ Some (whys.Left 2) ∷ []
unfolding everything
left_before_ready = refl

clock_before_ready : after two_day 2 (wants.End ∷ []) ≡ Some (whys.Clock 0) ∷ []
unfolding everything
clock_before_ready = refl
