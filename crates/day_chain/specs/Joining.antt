-- How a day joins the one before it: it is the next open day, systems and accounts are the same but for openings, and each
-- account opens with what the day before left it.
use Rattle.std.specs.Prelude.{ℕ, Bool, true, false, not, ◌&&◌, if◌then◌else◌, List, [], ◌∷◌, Option, Some, None, option_map, nat_eq, length, max}
use lib.Pointwise.{pointwise}
use Rattle.std.specs.List.{find, list_all, range_with_len}
use Rattle.cash_amounts.specs.declared.records.AccountKind.{AccountKind}
use Rattle.cash_amounts.specs.declared.records.AccountKind.TheVariants.{Dca, Sub, Tech, Fund}
use Rattle.cash_amounts.specs.declared.records.AccountRecord.{AccountRecord}
use Rattle.cash_amounts.specs.declared.records.SystemRecord.{SystemRecord}
use Rattle.batch_records.specs.DayRecord.{Day}
use Rattle.machine.specs.Words.{first_some, numbered, numbers, same_name, same_procedure, unless}
use Rattle.machine.specs.Records.Setup.{account_numbers, opening}
use Rattle.day_chain.specs.declared.joining.JoinFault.{JoinFault}
use Rattle.day_chain.specs.declared.joining.JoinFault.TheVariants as join_faults
use Rattle.day_chain.specs.DayEnds.{carried}
use Rattle.day_chain.specs.NextDay.{is_next}

-- ---- two records say the same

-- both are absent, or both are there and alike
abbrev pub same_option : {X : Type 0} → (X → X → Bool) → Option X → Option X → Bool
same_option test None None = true
same_option test (Some x) (Some y) = test x y
same_option test _ _ = false

abbrev pub kind_number : AccountKind → ℕ
kind_number Dca = 0
kind_number Sub = 1
kind_number Tech = 2
kind_number Fund = 3

abbrev pub same_kind : AccountKind → AccountKind → Bool
same_kind k l = nat_eq (kind_number k) (kind_number l)

-- in all but the opening
abbrev pub same_terms : AccountRecord → AccountRecord → Bool
same_terms r s =
    same_name r.name s.name
    && same_kind r.kind s.kind
    && same_name r.owner s.owner
    && same_option same_name r.system s.system
    && same_option same_procedure r.procedure s.procedure

abbrev pub same_flag : Bool → Bool → Bool
same_flag true b = b
same_flag false b = not b

abbrev pub same_system : SystemRecord → SystemRecord → Bool
same_system r s = same_name r.name s.name && pointwise same_flag r.procedures s.procedures

-- ---- what differs

abbrev pub same_systems : List SystemRecord → List SystemRecord → Bool
same_systems before later =
    nat_eq (length before) (length later)
    && list_all (λ s. same_option same_system (numbered before s) (numbered later s)) (numbers later)

-- an account differs, or one side has none of this number
abbrev pub differs : List AccountRecord → List AccountRecord → ℕ → Bool
differs before later a = not (same_option same_terms (numbered before a) (numbered later a))

-- the first account that differs or is missing on one side
abbrev pub first_difference : List AccountRecord → List AccountRecord → Option ℕ
first_difference before later = find (differs before later) (range_with_len 1 (max (length before) (length later)))

-- 0 for the systems, else the account
abbrev pub setup_of_two : List AccountRecord → List SystemRecord → List AccountRecord → List SystemRecord → Option ℕ
setup_of_two accounts systems later_accounts later_systems =
    if same_systems systems later_systems then first_difference accounts later_accounts else Some 0

abbrev pub setup_difference : Day → Day → Option ℕ
setup_difference before later = setup_of_two before.accounts before.systems later.accounts later.systems

-- the first account that doesn't open with what the day before left it
abbrev pub other_opening : Day → Day → Option ℕ
other_opening before later = find (λ a. not (nat_eq (opening later a) (carried before a))) (account_numbers later)

-- ---- the first thing that is wrong

unfoldable pub join_fault : Day → Day → Option JoinFault
join_fault before later = first_some (
    unless (is_next before.date later.date) join_faults.Gap
    ∷ option_map join_faults.Setup (setup_difference before later)
    ∷ option_map join_faults.Open (other_opening before later)
    ∷ [])
