-- Histories that break the laws. Each law fails on a short history that the machine would not make, so none of them is kept by whatever
-- is written.
use Rattle.std.proofs.Common.{◌≡◌, ℕ, zero, suc, ◌+◌, ◌≤◌, ◌<◌, Bool, true, false, cond, List, [], ◌∷◌, Option, Some, None, refl, sym, ◌∙◌, subst, arith, ◌⊎◌, inl, inr}
use Rattle.std.specs.Prelude.{◌^◌, IsSome, length, map, sum_by, codes}
use Rattle.std.specs.List.{list_all}
use Rattle.cash_amounts.specs.declared.records.AccountRecord.{AccountRecord}
use Rattle.cash_amounts.specs.declared.records.AccountKind.TheVariants as account_kinds
use Rattle.cash_amounts.specs.declared.records.Procedure.{Procedure}
use Rattle.cash_amounts.specs.declared.records.Procedure.TheVariants.{A, B, C, D, E}
use Rattle.cash_amounts.specs.SoundSetup.{sound_setup}
use Rattle.batch_records.specs.Sound.{is_sound_body, fits_version}
use Rattle.batch_records.specs.DayRecord.{Day, no_room}
use Rattle.batch_records.specs.declared.day.Message.{Message}
use Rattle.batch_records.specs.declared.day.Entry.{Entry}
use Rattle.batch_records.specs.declared.day.Body.TheVariants as bodies
use Rattle.commit_journal.specs.declared.line.Move.{Move}
use Rattle.commit_journal.specs.declared.line.Kind.TheVariants as kinds
use Rattle.commit_journal.specs.declared.line.Code.TheVariants as line_codes
use Rattle.commit_journal.specs.declared.line.Want.{Want}
use Rattle.commit_journal.specs.declared.line.Want.TheVariants as wants
use Rattle.commit_journal.specs.Line.{Line, History}
use Rattle.machine.specs.Telling.History.{place_of, read_first, clock, covered, is_ended}
use Rattle.machine.specs.Telling.Balances.{balance, credited, debited}
use Rattle.machine.specs.Telling.Facts.{open_cycle, cycle_ended}
use Rattle.machine.specs.Records.Setup.{account_numbers}
use Rattle.machine.specs.Records.Messages.{move_of}
use Rattle.machine.specs.Stages.Phases.{phase}
use Rattle.machine.specs.Records.Reserves.{kept, must_leave}
use Rattle.machine.specs.Stages.Pending.{item, standing, is_ahead, is_pending, is_blocked, is_blocked_by, first_unbooked_debit}
use Rattle.machine.specs.Stages.Intake.{intake_code}
use Rattle.machine.specs.Making.Lines.{line, line_of, next_stop}
use Rattle.machine.specs.Orders.Hints.{unfinished}
use Rattle.machine.specs.Laws.{EachLine, IsNeverBelowZero, IsConservedThroughout, CreditsFollowDebits, IsWholeOrNothing, SettlesWhole, moving_lines, NothingIsDue, AllIsDone, ClosedCancels, ClosedMovesNothing, RepeatsDoNothing, IsBookedOnce, EntriesAreDone, NoneIsTakenTwice, EachIsTakenOnce, FollowsSender, IsBounded, AlwaysGoesOn, NoneIsBookedTwice, MovedAsStated, MovesWhatIsAfforded, BatchesOfDMoveInTurn, OnlyAcceptedGoOn, ObjectionsHaveForce, FundPaysOnYes, QueueIsInOrder, SweepsAll, SubsAreEmpty, IsOver, EndsInItsTime, TimeWaits, TakenAsDue, NothingFollowsTheEnd}
use Rattle.machine.specs.OtherLaws.{SettlesInTime, TouchesItsAccounts, MovesAreReal, TechnicalOfBIsEmpty, StaysInRange, BalancesCatchUp}
use Rattle.machine.specs.Legal.{is_complete}
use Rattle.settlement_laws.specs.Rejected.{RejectedDoNothing}
use Rattle.settlement_laws.specs.Unfinished.{UnfinishedIsFirstWithLine}
use Rattle.settlement_laws.specs.LineLimits.{AfterItsStart, BeforeItsEnd, BookedInItsCycle, ReservesAreKept, IsUnlocked, LockedInCycles}
use Rattle.settlement_laws.specs.TechnicalOfA.{HoldsItsBatches, NoPartIsBelowZero, IsCreditOn, EarliestCreditIsFree}

-- a proof that unfolds this name computes with all that it opens
unfoldable opened : ℕ
unfolding place_of read_first clock credited debited open_cycle cycle_ended phase intake_code is_pending is_blocked_by is_blocked next_stop line_of
opened = 0

-- ---- a day: a payment, its repeat and another one of the same bank, and a batch each of A, B and E

abbrev X1 : List ℕ
X1 = codes "X1"

abbrev Y1 : List ℕ
Y1 = codes "Y1"

abbrev TA : List ℕ
TA = codes "TA"

abbrev TB : List ℕ
TB = codes "TB"

abbrev BANKA : List ℕ
BANKA = codes "BANKA"

abbrev BANKB : List ℕ
BANKB = codes "BANKB"

abbrev CH1 : List ℕ
CH1 = codes "CH1"

abbrev pay : List ℕ → Message
pay id = record { round = 0; sender = BANKA; id = id; body = bodies.Pay false X1 Y1 500 }

abbrev bat : List ℕ → Procedure → ℕ → List Entry → Message
bat id p sum entries = record { round = 0; sender = CH1; id = id; body = bodies.Batch p None None None 2 sum entries }

abbrev entry : List ℕ → List ℕ → ℕ → Entry
entry debit credit amount = record { debit = debit; credit = credit; amount = amount }

abbrev account : List ℕ → List ℕ → ℕ → AccountRecord
account name owner opening = record { name = name; kind = account_kinds.Dca; owner = owner; system = None; procedure = None; opening = opening }

abbrev technical : List ℕ → Procedure → AccountRecord
technical name p = record { name = name; kind = account_kinds.Tech; owner = CH1; system = None; procedure = Some p; opening = 0 }

abbrev fund : AccountRecord
fund = record { name = codes "GF"; kind = account_kinds.Fund; owner = CH1; system = None; procedure = None; opening = 1000 }

-- account 1 holds 1000 and 2 nothing; 3 and 4 are the technical accounts of A and B, and 5 is the fund
abbrev the_day : Day
the_day = record {
  version = 1;
  date = record { year = 2025; month = 6; day = 2 };
  accounts = account X1 BANKA 1000 ∷ account Y1 BANKB 0 ∷ technical TA A ∷ technical TB B ∷ fund ∷ [];
  systems = record { name = CH1; procedures = true ∷ true ∷ false ∷ false ∷ true ∷ [] } ∷ [];
  reserves = [];
  stops = [];
  room = no_room;
  messages =
      pay (codes "P1") ∷ pay (codes "P1") ∷ pay (codes "P2")
      ∷ bat (codes "B1") A 200 (entry X1 TA 100 ∷ entry TA Y1 100 ∷ [])
      ∷ bat (codes "B2") B 200 (entry X1 TB 100 ∷ entry TB Y1 100 ∷ [])
      ∷ bat (codes "B3") E 150 (entry X1 Y1 100 ∷ entry Y1 X1 50 ∷ [])
      ∷ [];
}

-- a day without accounts and messages
abbrev bare_day : Day
bare_day = record { version = 1; date = record { year = 2025; month = 6; day = 2 }; accounts = []; systems = []; reserves = []; stops = []; messages = []; room = no_room }

-- the setup and the messages of the first are sound
setup_is_sound : sound_setup the_day.accounts the_day.systems ≡ true
setup_is_sound = refl

messages_are_sound : list_all (λ message. is_sound_body message.body) the_day.messages ≡ true
messages_are_sound = refl

-- ---- lines

abbrev m : ℕ → ℕ → ℕ → Move
m debit credit amount = record { debit = debit; credit = credit; amount = amount }

abbrev taken : ℕ → Line
taken n = line kinds.In n 0 line_codes.Ok []

abbrev book : ℕ → ℕ → List Move → Line
book n k moves = line kinds.Book n k line_codes.Ok moves

abbrev all : List Move → Line
all moves = line kinds.All 5 0 line_codes.Ok moves

abbrev cover : List Move → Line
cover moves = line kinds.Cover 5 0 line_codes.Ok moves

abbrev midnight : Line
midnight = line kinds.Time 0 86400 line_codes.Ok []

abbrev last : Line
last = line kinds.End 0 0 line_codes.Ok []

different : true ≡ false → ⊥
different h = cc

first_debit : (x y : Move) (xs ys : List Move) → x ∷ xs ≡ y ∷ ys → x.debit ≡ y.debit
first_debit x y xs ys e = cc

first_amount : (x y : Move) → x ∷ [] ≡ y ∷ [] → x.amount ≡ y.amount
first_amount x y e = cc

some_none : (i : ℕ) → Some i ≡ None → ⊥
some_none i e = cc

-- ---- balances

-- a payment of more than the account holds
overdrawn : IsNeverBelowZero the_day (book 1 0 (m 1 2 2000 ∷ []) ∷ []) → ⊥
unfolding opened
overdrawn h = let k : 2000 ≤ 1000 = h.1 1 1 in omega (arith, k)

-- one that is paid back in the same line
overdrawn_between : IsNeverBelowZero the_day (book 1 0 (m 2 1 500 ∷ m 1 2 500 ∷ []) ∷ []) → ⊥
unfolding opened
overdrawn_between h = let k : 500 ≤ 0 = h.1 2 1 in omega (arith, k)

-- money that goes to no account
lost : IsConservedThroughout the_day (book 1 0 (m 1 9 500 ∷ []) ∷ []) → ⊥
unfolding opened
lost h = let k : 1500 ≡ 2000 = h.1 in omega (arith, k)

-- so the accounts of the day have not received what they have paid
lost_in_all : sum_by (credited (book 1 0 (m 1 9 500 ∷ []) ∷ [])) (account_numbers the_day) ≡ sum_by (debited (book 1 0 (m 1 9 500 ∷ []) ∷ [])) (account_numbers the_day) → ⊥
unfolding opened
lost_in_all h = let k : 0 ≡ 500 = h in omega (arith, k)

-- a balance above 10^18
too_much : balance the_day (book 1 0 (m 2 1 1000000000000000000 ∷ []) ∷ []) 1 ≤ 10 ^ 18 → ⊥
unfolding opened
too_much h = let k : 1000000000000001000 ≤ 1000000000000000000 = h in omega (arith, k)

too_much_on_the_way : StaysInRange the_day [] (book 1 0 (m 2 1 1000000000000000000 ∷ []) ∷ []) → ⊥
unfolding opened
too_much_on_the_way h = let k : 1000000000000001000 ≤ 1000000000000000000 = (h 1 1).1 in omega (arith, k)

overdrawn_on_the_way : StaysInRange the_day (book 1 0 (m 1 2 400 ∷ []) ∷ []) (book 3 0 (m 1 2 700 ∷ []) ∷ []) → ⊥
unfolding opened
overdrawn_on_the_way h = let k : 1100 ≤ 1000 = (h 1 1).0 in omega (arith, k)

-- the balance of an account that is overdrawn stays at zero, and so doesn't catch up
no_catching_up : BalancesCatchUp the_day (book 1 0 (m 1 2 400 ∷ []) ∷ []) (book 3 0 (m 1 2 700 ∷ []) ∷ []) → ⊥
unfolding opened
no_catching_up h = let k : 700 ≡ 600 = h 1 in omega (arith, k)

-- a payment into the technical account of B
left_on_technical : TechnicalOfBIsEmpty the_day (book 1 0 (m 1 4 500 ∷ []) ∷ []) → ⊥
unfolding opened
left_on_technical h = let k : 500 ≡ 0 = h 4 refl in omega (arith, k)

-- moves of nothing, and to the account itself
moves_nothing : EachLine MovesAreReal (book 1 0 (m 1 2 0 ∷ []) ∷ []) → ⊥
moves_nothing h = different (sym h.1)

moves_to_itself : EachLine MovesAreReal (book 1 0 (m 1 1 500 ∷ []) ∷ []) → ⊥
moves_to_itself h = different (sym h.1)

-- an account that the payment doesn't name
other_account : EachLine (TouchesItsAccounts the_day) (book 1 0 (m 1 5 500 ∷ []) ∷ []) → ⊥
other_account h = different (sym h.1)

-- ---- batches of A

-- the credit before the debit
credit_first : CreditsFollowDebits the_day (book 4 2 (m 3 2 100 ∷ []) ∷ taken 4 ∷ []) → ⊥
unfolding opened
credit_first h = here (h.1 4 2 refl refl refl)
  where
    here : (first_unbooked_debit the_day (taken 4 ∷ []) 4 ≡ None) ⊎ IsSome (covered (taken 4 ∷ []) 4) → ⊥
    here (inl e) = cc
    here (inr s) = cc

-- the debit is booked, time passes, and the credit isn't booked
credit_forgotten : EachLine (SettlesInTime the_day) (midnight ∷ book 4 1 (m 1 3 100 ∷ []) ∷ taken 4 ∷ []) → ⊥
unfolding opened
credit_forgotten h = cc (h.1 refl 4 refl refl (inl refl))

-- the debit's line moves nothing, so the credit is pending and the technical account has nothing
abbrev unpaid : History
unpaid = book 4 1 [] ∷ taken 4 ∷ []

only_credit : (n k : ℕ) (e : Entry) → IsCreditOn the_day unpaid 3 (item n k) e → is_ahead (standing the_day unpaid (item n k)) (standing the_day unpaid (item 4 2)) ≡ false
unfolding opened
only_credit (suc (suc (suc (suc zero)))) zero e c = absurd (let k : None ≡ Some e = c.entry in cc)
only_credit (suc (suc (suc (suc zero)))) (suc zero) e c = absurd (different (sym c.pending))
only_credit (suc (suc (suc (suc zero)))) (suc (suc zero)) e c = refl
only_credit (suc (suc (suc (suc zero)))) (suc (suc (suc k))) e c = absurd (let k : None ≡ Some e = c.entry in cc)
only_credit zero k e c = absurd (different (sym c.of_a))
only_credit (suc zero) k e c = absurd (different (sym c.of_a))
only_credit (suc (suc zero)) k e c = absurd (different (sym c.of_a))
only_credit (suc (suc (suc zero))) k e c = absurd (different (sym c.of_a))
only_credit (suc (suc (suc (suc (suc zero))))) k e c = absurd (different (sym c.of_a))
only_credit (suc (suc (suc (suc (suc (suc zero)))))) k e c = absurd (different (sym c.of_a))
only_credit (suc (suc (suc (suc (suc (suc (suc n))))))) k e c = absurd (different (sym c.of_a))

credit_without_money : EarliestCreditIsFree the_day unpaid → ⊥
unfolding opened
credit_without_money h =
    let one : IsCreditOn the_day unpaid 3 (item 4 2) (entry TA Y1 100) = record { of_a = refl; entry = refl; credit = refl; account = refl; pending = refl } in
    let k : 100 ≤ 0 = (h 3 (item 4 2) (entry TA Y1 100) (one, λ y f c. only_credit y.msg y.entry f c)).1 in
    omega (arith, k)

-- so the technical account doesn't hold what its batch brought; and it holds too much after a payment to it
not_brought : HoldsItsBatches the_day unpaid → ⊥
unfolding opened
not_brought h = let k : 0 ≡ 100 = h CH1 3 refl in omega (arith, k)

paid_to_technical : HoldsItsBatches the_day (book 1 0 (m 1 3 500 ∷ []) ∷ []) → ⊥
unfolding opened
paid_to_technical h = let k : 500 ≡ 0 = h CH1 3 refl in omega (arith, k)

-- the batch pays its credit, and its debit isn't booked
more_paid_than_brought : NoPartIsBelowZero the_day (book 4 2 (m 3 2 100 ∷ []) ∷ taken 4 ∷ []) → ⊥
unfolding opened
more_paid_than_brought h = let k : 100 ≤ 0 = h 4 refl in omega (arith, k)

-- it ends, and the debit isn't given back
kept_back : ClosedCancels the_day (line kinds.Expire 4 0 line_codes.Pe [] ∷ book 4 1 (m 1 3 100 ∷ []) ∷ taken 4 ∷ []) → ⊥
unfolding opened
kept_back h = let k : 0 ≡ 100 = h 4 1 refl refl in omega (arith, k)

-- ---- batches of B

-- no single line settles it whole
abbrev NotWhole : Line → Type 0
NotWhole l = SettlesWhole the_day 5 l → ⊥

not_whole : (l : Line) → moving_lines 5 (l ∷ []) ≡ l ∷ [] → NotWhole l → IsWholeOrNothing the_day (l ∷ []) → ⊥
not_whole l one fails h = here (h 5 refl)
  where
    first : (x y : Line) → x ∷ [] ≡ y ∷ [] → x ≡ y
    first x y e = cc

    here : (moving_lines 5 (l ∷ []) ≡ []) ⊎ ((x : Line) × (moving_lines 5 (l ∷ []) ≡ x ∷ []) × SettlesWhole the_day 5 x) → ⊥
    here (inl e) = absurd (let k : l ∷ [] ≡ [] = sym one ∙ e in cc)
    here (inr s) = fails (subst (SettlesWhole the_day 5) (first s.0 l (sym s.1 ∙ one)) s.2)

-- the credit is left out
debit_alone : IsWholeOrNothing the_day (all (m 1 4 100 ∷ []) ∷ []) → ⊥
debit_alone = not_whole (all (m 1 4 100 ∷ [])) refl fails
  where
    fails : NotWhole (all (m 1 4 100 ∷ []))
    fails (inl s) = absurd (let k : m 1 4 100 ∷ [] ≡ m 1 4 100 ∷ m 4 2 100 ∷ [] = s.1 in cc)
    fails (inr s) = different (sym s.0)

-- the credit comes first
credit_then_debit : IsWholeOrNothing the_day (all (m 4 2 100 ∷ m 1 4 100 ∷ []) ∷ []) → ⊥
credit_then_debit = not_whole (all (m 4 2 100 ∷ m 1 4 100 ∷ [])) refl fails
  where
    fails : NotWhole (all (m 4 2 100 ∷ m 1 4 100 ∷ []))
    fails (inl s) = let k : 4 ≡ 1 = first_debit (m 4 2 100) (m 1 4 100) (m 1 4 100 ∷ []) (m 4 2 100 ∷ []) s.1 in omega (arith, k)
    fails (inr s) = different (sym s.0)

-- the fund pays the credit
fund_pays_credit : IsWholeOrNothing the_day (cover (m 5 4 100 ∷ m 5 2 100 ∷ []) ∷ []) → ⊥
fund_pays_credit = not_whole (cover (m 5 4 100 ∷ m 5 2 100 ∷ [])) refl fails
  where
    fails : NotWhole (cover (m 5 4 100 ∷ m 5 2 100 ∷ []))
    fails (inl s) = different (sym s.0)
    fails (inr s) = let k : 5 ≡ 4 = first_debit (m 5 2 100) (m 4 2 100) [] [] s.2 in omega (arith, k)

-- another account pays the debit
other_pays : IsWholeOrNothing the_day (cover (m 2 4 100 ∷ m 4 2 100 ∷ []) ∷ []) → ⊥
other_pays = not_whole (cover (m 2 4 100 ∷ m 4 2 100 ∷ [])) refl fails
  where
    fails : NotWhole (cover (m 2 4 100 ∷ m 4 2 100 ∷ []))
    fails (inl s) = different (sym s.0)
    fails (inr s) = different (sym s.1)

-- it settles twice
twice_whole : IsWholeOrNothing the_day (all (m 1 4 100 ∷ m 4 2 100 ∷ []) ∷ all (m 1 4 100 ∷ m 4 2 100 ∷ []) ∷ []) → ⊥
twice_whole h = here (h 5 refl)
  where
    two : List Line
    two = all (m 1 4 100 ∷ m 4 2 100 ∷ []) ∷ all (m 1 4 100 ∷ m 4 2 100 ∷ []) ∷ []

    here : (two ≡ []) ⊎ ((x : Line) × (two ≡ x ∷ []) × SettlesWhole the_day 5 x) → ⊥
    here (inl e) = cc
    here (inr s) = absurd (let k : two ≡ s.0 ∷ [] = s.1 in cc)

-- it is refused after it has settled
settled_and_refused : ClosedMovesNothing the_day (line kinds.Refuse 5 0 line_codes.Gn [] ∷ all (m 1 4 100 ∷ m 4 2 100 ∷ []) ∷ []) → ⊥
unfolding opened
settled_and_refused h = cc (h 5 refl refl)

-- ---- batches of D

abbrev TD : List ℕ
TD = codes "TD"

-- account 1 is the technical account of D, and 2 the payee's; message 1 is a batch of one entry
abbrev day_of_d : Day
day_of_d = record {
  version = 1;
  date = record { year = 2025; month = 6; day = 2 };
  accounts = technical TD D ∷ account Y1 BANKB 0 ∷ [];
  systems = record { name = CH1; procedures = false ∷ false ∷ false ∷ true ∷ false ∷ [] } ∷ [];
  reserves = [];
  stops = [];
  room = no_room;
  messages = record { round = 0; sender = CH1; id = codes "B1"; body = bodies.Batch D None None None 1 100 (entry TD Y1 100 ∷ []) } ∷ [];
}

-- the one move of the line, where the entry is moved
abbrev if_moved : Bool → List Move
if_moved b = map (move_of day_of_d) (map (λ (x : ℕ × Entry). x.1) (cond b ((1, entry TD Y1 100) ∷ []) []))

-- the account holds nothing, and the entry is moved
moved_beyond : BatchesOfDMoveInTurn day_of_d (line kinds.In 1 0 line_codes.Ok (m 1 2 100 ∷ []) ∷ []) → ⊥
unfolding opened
moved_beyond h = here (h.1 refl refl)
  where
    here : MovesWhatIsAfforded day_of_d [] (line kinds.In 1 0 line_codes.Ok (m 1 2 100 ∷ [])) → ⊥
    here c =
        let moved : c.is_moved 1 ≡ false = c.covered 1 (entry TD Y1 100) refl in
        let k : m 1 2 100 ∷ [] ≡ [] = subst (λ b. m 1 2 100 ∷ [] ≡ if_moved b) moved c.moves in
        cc

-- it holds enough, and the entry isn't moved
left_unmoved : BatchesOfDMoveInTurn day_of_d (line kinds.In 1 0 line_codes.Ok [] ∷ book 2 0 (m 2 1 100 ∷ []) ∷ []) → ⊥
unfolding opened
left_unmoved h = here (h.1 refl refl)
  where
    here : MovesWhatIsAfforded day_of_d (book 2 0 (m 2 1 100 ∷ []) ∷ []) (line kinds.In 1 0 line_codes.Ok []) → ⊥
    here c =
        let moved : c.is_moved 1 ≡ true = c.covered 1 (entry TD Y1 100) refl in
        let k : [] ≡ m 1 2 100 ∷ [] = subst (λ b. [] ≡ if_moved b) moved c.moves in
        cc

-- ---- times, cycles, and what accounts keep

abbrev TC : List ℕ
TC = codes "TC"

abbrev S1 : List ℕ
S1 = codes "S1"

abbrev S2 : List ℕ
S2 = codes "S2"

abbrev sub : List ℕ → List ℕ → AccountRecord
sub name owner = record { name = name; kind = account_kinds.Sub; owner = owner; system = Some CH1; procedure = None; opening = 0 }

-- a batch of A that states an information end, an earliest time or a settlement end
abbrev timed : List ℕ → Option ℕ → Option ℕ → Option ℕ → Message
timed id info from till = record { round = 0; sender = CH1; id = id; body = bodies.Batch A info from till 2 200 (entry X1 TA 100 ∷ entry TA Y1 100 ∷ []) }

abbrev cycle : List ℕ → Bool → Message
cycle id start = record { round = 0; sender = CH1; id = id; body = bodies.Cycle start }

abbrev move_money : List ℕ → List ℕ → List ℕ → ℕ → Message
move_money id debit credit amount = record { round = 0; sender = BANKA; id = id; body = bodies.Liquidity debit credit amount }

-- account 1 holds 1000 and keeps 600 of it from normal payments; 3 and 4 are sub-accounts; 5 and 6 are the technical accounts of A and C,
-- and 7 is the fund
abbrev limited_day : Day
limited_day = record {
  version = 2;
  date = record { year = 2025; month = 6; day = 2 };
  accounts = account X1 BANKA 1000 ∷ account Y1 BANKB 0 ∷ sub S1 BANKA ∷ sub S2 BANKB ∷ technical TA A ∷ technical TC C ∷ fund ∷ [];
  systems = record { name = CH1; procedures = true ∷ false ∷ true ∷ false ∷ false ∷ [] } ∷ [];
  reserves = record { account = 1; urgent = 400; high = 200 } ∷ [];
  stops = [];
  room = no_room;
  messages =
      pay (codes "P1")
      ∷ timed (codes "B1") None (Some 3600) (Some 7200) ∷ timed (codes "B2") (Some 1800) None None
      ∷ cycle (codes "C1") true
      ∷ bat (codes "B3") C 200 (entry S1 TC 100 ∷ entry TC S2 100 ∷ [])
      ∷ cycle (codes "C2") false
      ∷ move_money (codes "L1") S1 X1 100 ∷ move_money (codes "L2") X1 S1 500
      ∷ [];
}

limited_setup_is_sound : sound_setup limited_day.accounts limited_day.systems ≡ true
limited_setup_is_sound = refl

limited_messages_are_sound : list_all (λ message. is_sound_body message.body) limited_day.messages ≡ true
limited_messages_are_sound = refl

limited_day_fits : fits_version limited_day ≡ true
limited_day_fits = refl

-- a batch is booked before its earliest time, and one before its information end
booked_early : AfterItsStart limited_day (book 2 1 (m 1 5 100 ∷ []) ∷ taken 2 ∷ []) → ⊥
unfolding opened
booked_early h = let k : 3600 ≤ 0 = h.1 refl 3600 (inr refl) in omega (arith, k)

booked_in_information : AfterItsStart limited_day (book 3 1 (m 1 5 100 ∷ []) ∷ taken 3 ∷ []) → ⊥
unfolding opened
booked_in_information h = let k : 1800 ≤ 0 = h.1 refl 1800 (inl refl) in omega (arith, k)

-- the fund is asked before the earliest time, and pays before it
asked_early : AfterItsStart limited_day (line kinds.Ask 2 0 line_codes.Ok [] ∷ taken 2 ∷ []) → ⊥
unfolding opened
asked_early h = let k : 3600 ≤ 0 = h.1 refl 3600 (inr refl) in omega (arith, k)

covered_early : AfterItsStart limited_day (line kinds.Cover 2 0 line_codes.Ok (m 7 5 100 ∷ []) ∷ taken 2 ∷ []) → ⊥
unfolding opened
covered_early h = let k : 3600 ≤ 0 = h.1 refl 3600 (inr refl) in omega (arith, k)

-- a batch is booked at its settlement end, and a payment at midnight
booked_at_its_end : BeforeItsEnd limited_day (book 2 1 (m 1 5 100 ∷ []) ∷ line kinds.Time 0 7200 line_codes.Ok [] ∷ taken 2 ∷ []) → ⊥
unfolding opened
booked_at_its_end h = let k : 7200 < 7200 = h.1 refl refl in omega (arith, k)

booked_at_midnight : BeforeItsEnd limited_day (book 1 0 (m 1 2 500 ∷ []) ∷ midnight ∷ taken 1 ∷ []) → ⊥
unfolding opened
booked_at_midnight h = let k : 86400 < 86400 = h.1 refl refl in omega (arith, k)

-- an entry is booked after the end of the cycle
booked_after_cycle : BookedInItsCycle limited_day (book 5 1 (m 3 6 100 ∷ []) ∷ taken 6 ∷ taken 5 ∷ taken 4 ∷ []) → ⊥
unfolding opened
booked_after_cycle h = different (h.1 refl refl)

-- a line that makes one move is the line of that move
one_move : (P : Move → Type 0) (x y : Move) → x ∷ [] ≡ y ∷ [] → P y → P x
one_move P x y e h = subst P (sym (same e)) h
  where
    same : x ∷ [] ≡ y ∷ [] → x ≡ y
    same e = cc

-- a normal payment, and a transfer, take what the account keeps; and a payment is booked that moves nothing
booked_otherwise : MovedAsStated limited_day (book 1 0 (m 2 1 500 ∷ []) ∷ taken 1 ∷ []) → ⊥
unfolding opened
booked_otherwise h = let k : 2 ≡ 1 = first_debit (m 2 1 500) (m 1 2 500) [] [] (h.1.0 refl) in omega (arith, k)

moved_otherwise : MovedAsStated limited_day (line kinds.In 8 0 line_codes.Ok (m 3 1 500 ∷ []) ∷ []) → ⊥
unfolding opened
moved_otherwise h = let k : 3 ≡ 1 = first_debit (m 3 1 500) (m 1 3 500) [] [] (h.1.1 refl refl) in omega (arith, k)

-- time passes and moves money, and so do a payment that is taken and one that ends
time_moves : MovedAsStated the_day (line kinds.Time 0 86400 line_codes.Ok (m 1 2 500 ∷ []) ∷ []) → ⊥
unfolding opened
time_moves h = let k : m 1 2 500 ∷ [] ≡ [] = h.1.3 refl in cc

intake_moves_money : MovedAsStated the_day (line kinds.In 1 0 line_codes.Ok (m 1 2 500 ∷ []) ∷ []) → ⊥
unfolding opened
intake_moves_money h = let k : m 1 2 500 ∷ [] ≡ [] = h.1.3 refl in cc

end_of_payment_moves : MovedAsStated the_day (line kinds.Expire 1 0 line_codes.Ed (m 1 2 500 ∷ []) ∷ midnight ∷ taken 1 ∷ []) → ⊥
unfolding opened
end_of_payment_moves h = let k : m 1 2 500 ∷ [] ≡ [] = h.1.3 refl in cc

-- a line settles a batch of A whole, and one settles a batch of B and moves nothing; and the fund pays for a batch of E
whole_line_of_a : MovedAsStated the_day (line kinds.All 4 0 line_codes.Ok (m 1 2 100 ∷ []) ∷ taken 4 ∷ []) → ⊥
unfolding opened
whole_line_of_a h = let k : m 1 2 100 ∷ [] ≡ [] = h.1.3 refl in cc

whole_without_moves : MovedAsStated the_day (all [] ∷ taken 5 ∷ []) → ⊥
unfolding opened
whole_without_moves h = let k : [] ≡ m 1 4 100 ∷ m 4 2 100 ∷ [] = h.1.4 refl in cc

fund_pays_for_e : MovedAsStated the_day (line kinds.Cover 6 0 line_codes.Ok (m 5 2 100 ∷ []) ∷ taken 6 ∷ []) → ⊥
unfolding opened
fund_pays_for_e h = let k : m 5 2 100 ∷ [] ≡ [] = h.1.3 refl in cc

-- a batch of A ends, and its booked debit isn't given back; and one that isn't booked is
not_given_back : MovedAsStated the_day (line kinds.Expire 4 0 line_codes.Pe [] ∷ book 4 1 (m 1 3 100 ∷ []) ∷ taken 4 ∷ []) → ⊥
unfolding opened
not_given_back h = let k : [] ≡ m 3 1 100 ∷ [] = h.1.2 refl refl in cc

given_back_unbooked : MovedAsStated the_day (line kinds.Expire 4 0 line_codes.Pe (m 3 1 100 ∷ []) ∷ taken 4 ∷ []) → ⊥
unfolding opened
given_back_unbooked h = let k : m 3 1 100 ∷ [] ≡ [] = h.1.2 refl refl in cc

-- a payment is booked that isn't taken, and one that is rejected, that has ended, and that is booked
booked_untaken : OnlyAcceptedGoOn the_day (book 1 0 (m 1 2 500 ∷ []) ∷ []) → ⊥
unfolding opened
booked_untaken h = different (sym (h.1 refl).0)

booked_though_rejected : OnlyAcceptedGoOn the_day (book 1 0 (m 1 2 500 ∷ []) ∷ line kinds.In 1 0 line_codes.Ac [] ∷ []) → ⊥
unfolding opened
booked_though_rejected h = different (sym (h.1 refl).0)

booked_after_its_end : OnlyAcceptedGoOn the_day (book 1 0 (m 1 2 500 ∷ []) ∷ line kinds.Expire 1 0 line_codes.Ed [] ∷ midnight ∷ taken 1 ∷ []) → ⊥
unfolding opened
booked_after_its_end h = different (h.1 refl).1

ended_after_booking : OnlyAcceptedGoOn the_day (line kinds.Expire 1 0 line_codes.Ed [] ∷ book 1 0 (m 1 2 500 ∷ []) ∷ taken 1 ∷ []) → ⊥
unfolding opened
ended_after_booking h = different (h.1 refl).1

reserve_spent : ReservesAreKept limited_day (book 1 0 (m 1 2 500 ∷ []) ∷ taken 1 ∷ []) → ⊥
unfolding opened
reserve_spent h =
    let s = h.1.0 refl in
    let k : 1100 ≤ 1000 = one_move (λ x. x.amount + must_leave limited_day 1 x.debit ≤ balance limited_day (taken 1 ∷ []) x.debit) (m 1 2 500) s.0 s.1 s.2 in
    omega (arith, k)

reserve_moved : ReservesAreKept limited_day (line kinds.In 8 0 line_codes.Ok (m 1 3 500 ∷ []) ∷ []) → ⊥
unfolding opened
reserve_moved h =
    let s = h.1.1 refl refl in
    let k : 1100 ≤ 1000 = one_move (λ x. x.amount + kept limited_day x.debit false ≤ balance limited_day [] x.debit) (m 1 3 500) s.0 s.1 s.2 in
    omega (arith, k)

booked_without_move : ReservesAreKept limited_day (book 1 0 [] ∷ taken 1 ∷ []) → ⊥
unfolding opened
booked_without_move h = let s = h.1.0 refl in let k : [] ≡ s.0 ∷ [] = s.1 in cc

-- a transfer takes from a sub-account in its system's cycle
paid_while_locked : LockedInCycles limited_day (line kinds.In 7 0 line_codes.Ok (m 3 1 100 ∷ []) ∷ taken 4 ∷ []) → ⊥
unfolding opened
paid_while_locked h = let s = h.1 refl refl in some_none 1 (one_move (λ x. IsUnlocked limited_day (taken 4 ∷ []) x.debit) (m 3 1 100) s.0 s.1 s.2 refl CH1 refl)

-- ---- objections, answers and the queue

abbrev object : List ℕ → List ℕ → Message
object id batch = record { round = 0; sender = BANKB; id = id; body = bodies.Object CH1 batch }

abbrev confirm : List ℕ → List ℕ → Bool → Message
confirm id batch answer = record { round = 0; sender = CH1; id = id; body = bodies.Confirm batch answer }

-- a batch of A and one of E, and the objections of a bank to them; then a batch of B, a larger one, and answers on them
abbrev answered_day : Day
answered_day = record the_day {
  messages =
      bat (codes "B1") A 200 (entry X1 TA 100 ∷ entry TA Y1 100 ∷ [])
      ∷ bat (codes "B2") E 150 (entry X1 Y1 100 ∷ entry Y1 X1 50 ∷ [])
      ∷ object (codes "O1") (codes "B1") ∷ object (codes "O2") (codes "B2")
      ∷ bat (codes "B3") B 200 (entry X1 TB 100 ∷ entry TB Y1 100 ∷ [])
      ∷ bat (codes "B4") B 4000 (entry X1 TB 2000 ∷ entry TB Y1 2000 ∷ [])
      ∷ confirm (codes "N1") (codes "B3") false ∷ confirm (codes "N2") (codes "B3") true ∷ confirm (codes "N3") (codes "B4") true ∷ confirm (codes "N4") (codes "B1") true
      ∷ [];
}

answered_messages_are_sound : list_all (λ message. is_sound_body message.body) answered_day.messages ≡ true
answered_messages_are_sound = refl

-- an entry of E is booked that an objection has revoked, and a batch of A that is revoked as a whole is booked, and ends
booked_revoked : ObjectionsHaveForce answered_day (book 2 1 (m 1 2 100 ∷ []) ∷ taken 4 ∷ taken 2 ∷ []) → ⊥
unfolding opened
booked_revoked h = some_none 2 (h.1 refl).1

booked_revoked_whole : ObjectionsHaveForce answered_day (book 1 1 (m 1 3 100 ∷ []) ∷ taken 3 ∷ taken 1 ∷ []) → ⊥
unfolding opened
booked_revoked_whole h = different (h.1 refl).0

ended_revoked : ObjectionsHaveForce answered_day (line kinds.Expire 1 0 line_codes.Pe [] ∷ taken 3 ∷ taken 1 ∷ []) → ⊥
unfolding opened
ended_revoked h = different (h.1 refl).0

-- the fund pays on a no, and where there is no answer
paid_on_no : FundPaysOnYes answered_day (line kinds.Cover 5 0 line_codes.Ok (m 1 4 100 ∷ m 4 2 100 ∷ []) ∷ taken 7 ∷ taken 5 ∷ []) → ⊥
unfolding opened
paid_on_no h = let k : Some false ≡ Some true = (h.0.1 refl).0 in cc

paid_unanswered : FundPaysOnYes answered_day (line kinds.Cover 5 0 line_codes.Ok (m 1 4 100 ∷ m 4 2 100 ∷ []) ∷ taken 5 ∷ []) → ⊥
unfolding opened
paid_unanswered h = let k : None ≡ Some true = (h.0.1 refl).0 in cc

-- of A it pays less than a debit, and a debit that is booked
paid_too_little : FundPaysOnYes answered_day (line kinds.Cover 1 0 line_codes.Ok (m 5 3 50 ∷ []) ∷ taken 10 ∷ taken 1 ∷ []) → ⊥
unfolding opened
paid_too_little h = let k : 50 ≡ 100 = first_amount (m 5 3 50) (m 5 3 100) ((h.0.1 refl).1 refl) in omega (arith, k)

paid_though_booked : FundPaysOnYes answered_day (line kinds.Cover 1 0 line_codes.Ok (m 5 3 100 ∷ []) ∷ taken 10 ∷ book 1 1 (m 1 3 100 ∷ []) ∷ taken 1 ∷ []) → ⊥
unfolding opened
paid_though_booked h = let k : m 5 3 100 ∷ [] ≡ [] = (h.0.1 refl).1 refl in cc

-- the fund pays twice, it pays before it is asked, and it is asked for a batch of E
paid_twice : FundPaysOnYes answered_day (line kinds.Cover 1 0 line_codes.Ok (m 5 3 100 ∷ []) ∷ line kinds.Cover 1 0 line_codes.Ok (m 5 3 100 ∷ []) ∷ line kinds.Ask 1 0 line_codes.Ok [] ∷ taken 10 ∷ taken 1 ∷ []) → ⊥
unfolding opened
paid_twice h = different (sym (h.0.1 refl).3)

paid_unasked : FundPaysOnYes answered_day (line kinds.Cover 1 0 line_codes.Ok (m 5 3 100 ∷ []) ∷ taken 10 ∷ taken 1 ∷ []) → ⊥
unfolding opened
paid_unasked h = different (sym (h.0.1 refl).3)

asked_for_e : FundPaysOnYes the_day (line kinds.Ask 6 0 line_codes.Ok [] ∷ taken 6 ∷ []) → ⊥
unfolding opened
asked_for_e h = different (sym (h.2.1 refl).0)

-- a debit is booked that the fund has paid
booked_though_paid : FundPaysOnYes answered_day (book 1 1 (m 1 3 100 ∷ []) ∷ line kinds.Cover 1 0 line_codes.Ok (m 5 3 100 ∷ []) ∷ taken 10 ∷ taken 1 ∷ []) → ⊥
unfolding opened
booked_though_paid h = different (sym (h.1.1 refl refl refl))

some_debit : (x y : Move) → Some x ≡ Some y → x.debit ≡ y.debit
some_debit x y e = cc

-- of B it pays for an account that holds enough, and an account pays that doesn't
paid_for_the_able : FundPaysOnYes answered_day (line kinds.Cover 5 0 line_codes.Ok (m 5 4 100 ∷ m 4 2 100 ∷ []) ∷ taken 8 ∷ taken 5 ∷ []) → ⊥
unfolding opened
paid_for_the_able h = let k : 5 ≡ 1 = some_debit (m 5 4 100) (m 1 4 100) (((h.0.1 refl).2 refl 0 (entry X1 TB 100) refl).1 refl) in omega (arith, k)

short_pays : FundPaysOnYes answered_day (line kinds.Cover 6 0 line_codes.Ok (m 1 4 2000 ∷ m 4 2 2000 ∷ []) ∷ taken 9 ∷ taken 6 ∷ []) → ⊥
unfolding opened
short_pays h = let k : 1 ≡ 5 = some_debit (m 1 4 2000) (m 5 4 2000) (((h.0.1 refl).2 refl 0 (entry X1 TB 2000) refl).0 refl) in omega (arith, k)

-- a normal payment is booked before an urgent entry of E on its account, and a batch of B settles before an earlier debit of A
overtaken : QueueIsInOrder the_day (book 1 0 (m 1 2 500 ∷ []) ∷ taken 6 ∷ taken 1 ∷ []) → ⊥
unfolding opened
overtaken h = different ((h.1 refl).1 1 refl)

overtaken_whole : QueueIsInOrder the_day (all (m 1 4 100 ∷ m 4 2 100 ∷ []) ∷ taken 5 ∷ taken 4 ∷ []) → ⊥
unfolding opened
overtaken_whole h = different ((h.1 refl).1 1 refl)

-- a debit is booked in the information period of its batch
booked_before_it_is_pending : QueueIsInOrder limited_day (book 3 1 (m 1 5 100 ∷ []) ∷ taken 3 ∷ []) → ⊥
unfolding opened
booked_before_it_is_pending h = different (sym (h.1 refl).0)

-- ---- sub-accounts at midnight

-- a sub-account that holds 100 gives half of it, all of it to another bank, and all of it before midnight
abbrev set_aside : Line
set_aside = line kinds.In 8 0 line_codes.Ok (m 1 3 100 ∷ [])

abbrev swept : List Move → Line
swept moves = line kinds.Sweep 0 3 line_codes.Ok moves

first_credit : (x y : Move) → x ∷ [] ≡ y ∷ [] → x.credit ≡ y.credit
first_credit x y e = cc

same_account : (a b : ℕ) → Some a ≡ Some b → a ≡ b
same_account a b e = cc

half_given : EachLine (SweepsAll limited_day) (swept (m 3 1 50 ∷ []) ∷ midnight ∷ set_aside ∷ []) → ⊥
unfolding opened
half_given h = let s = h.1 refl in let k : 50 ≡ 100 = first_amount (m 3 1 50) (m 3 s.2 100) s.4 in omega (arith, k)

given_to_another : EachLine (SweepsAll limited_day) (swept (m 3 2 100 ∷ []) ∷ midnight ∷ set_aside ∷ []) → ⊥
unfolding opened
given_to_another h =
    let s = h.1 refl in
    let k : 2 ≡ s.2 = first_credit (m 3 2 100) (m 3 s.2 100) s.4 in
    let j : 1 ≡ s.2 = same_account 1 s.2 s.3 in
    omega (arith, k, j)

given_early : EachLine (SweepsAll limited_day) (swept (m 3 1 100 ∷ []) ∷ set_aside ∷ []) → ⊥
unfolding opened
given_early h = let k : 0 ≡ 86400 = (h.1 refl).0 in omega (arith, k)

-- the day ends, and it holds 100
left_on_sub : SubsAreEmpty limited_day (last ∷ midnight ∷ set_aside ∷ []) → ⊥
unfolding opened
left_on_sub h = let k : 100 ≡ 0 = h refl 3 refl in omega (arith, k)

-- ---- time

-- time passes over a payment whose day is over, and the day ends over it
time_over_due : EachLine (NothingIsDue the_day) (midnight ∷ midnight ∷ taken 1 ∷ []) → ⊥
unfolding opened
time_over_due h = different (h.1 refl 1 refl)

end_over_due : EachLine (NothingIsDue the_day) (last ∷ midnight ∷ taken 1 ∷ []) → ⊥
unfolding opened
end_over_due h = different (h.1 refl 1 refl)

-- a payment ends before midnight, a batch of C in its cycle, and the fund is asked before the settlement end
ended_early : EndsInItsTime the_day (line kinds.Expire 1 0 line_codes.Ed [] ∷ taken 1 ∷ []) → ⊥
unfolding opened
ended_early h = here (h.1 refl)
  where
    here : IsOver the_day (taken 1 ∷ []) 1 → ⊥
    here (inl e) = let k : 86400 ≤ 0 = e in omega (arith, k)
    here (inr c) = different (sym c.0)

ended_in_cycle : EndsInItsTime limited_day (line kinds.Expire 5 0 line_codes.Ce [] ∷ taken 5 ∷ taken 4 ∷ []) → ⊥
unfolding opened
ended_in_cycle h = here (h.1 refl)
  where
    here : IsOver limited_day (taken 5 ∷ taken 4 ∷ []) 5 → ⊥
    here (inl e) = let k : 86400 ≤ 0 = e in omega (arith, k)
    here (inr c) = different (sym c.1)

asked_before_the_end : EndsInItsTime limited_day (line kinds.Ask 2 0 line_codes.Ok [] ∷ line kinds.Time 0 3600 line_codes.Ok [] ∷ taken 2 ∷ []) → ⊥
unfolding opened
asked_before_the_end h = here (h.1 refl)
  where
    here : IsOver limited_day (line kinds.Time 0 3600 line_codes.Ok [] ∷ taken 2 ∷ []) 2 → ⊥
    here (inl e) = let k : 7200 ≤ 3600 = e in omega (arith, k)
    here (inr c) = different (sym c.0)

-- time passes where a payment could be booked, and where a message could be taken; and the day ends where a payment could
time_over_ready : TimeWaits the_day (midnight ∷ taken 1 ∷ []) → ⊥
unfolding opened
time_over_ready h = let k : wants.Book 1 0 ≡ wants.Time = h.0.1 refl (wants.Book 1 0) refl in cc

time_over_untaken : TimeWaits the_day (midnight ∷ []) → ⊥
unfolding opened
time_over_untaken h = let k : wants.In 1 ≡ wants.Time = h.0.1 refl (wants.In 1) refl in cc

end_over_ready : TimeWaits the_day (last ∷ midnight ∷ taken 1 ∷ []) → ⊥
unfolding opened
end_over_ready h = let k : wants.Expire 1 ≡ wants.End = h.0.1 refl (wants.Expire 1) refl in cc

-- time passes to what is no stop, and past one
time_to_no_stop : TimeWaits the_day (line kinds.Time 0 3600 line_codes.Ok [] ∷ []) → ⊥
unfolding opened
time_to_no_stop h = let k : 3600 ≡ 86400 = h.1.1 refl in omega (arith, k)

time_past_a_stop : TimeWaits limited_day (line kinds.Time 0 3600 line_codes.Ok [] ∷ taken 3 ∷ []) → ⊥
unfolding opened
time_past_a_stop h = let k : 3600 ≡ 1800 = h.1.1 refl in omega (arith, k)

-- a message is taken that the day doesn't have, one before its stop, and a repeat with code OK
taken_from_nowhere : TakenAsDue the_day (taken 9 ∷ []) → ⊥
unfolding opened
taken_from_nowhere h = different (sym (h.1 refl).0)

taken_before_its_stop : TakenAsDue (record the_day { messages = record { round = 1; sender = BANKA; id = codes "P1"; body = bodies.Pay false X1 Y1 500 } ∷ [] }) (taken 1 ∷ []) → ⊥
unfolding opened
taken_before_its_stop h = different (sym (h.1 refl).1)

taken_with_another_code : TakenAsDue the_day (taken 2 ∷ []) → ⊥
unfolding opened
taken_with_another_code h = let k : line_codes.Ok ≡ line_codes.Du = (h.1 refl).2 in cc

-- a message is taken when the day has ended
taken_after_the_end : NothingFollowsTheEnd (taken 1 ∷ last ∷ []) → ⊥
unfolding opened
taken_after_the_end h = different h.1

-- the day ends, and a payment is open
end_over_open : AllIsDone the_day (last ∷ taken 1 ∷ []) → ⊥
unfolding opened
end_over_open h = different (sym (h refl 1 refl refl))

-- the day has ended, and the payment could be booked
left_unfinished : unfinished the_day (last ∷ taken 1 ∷ []) 1 ≡ None → ⊥
unfolding opened
left_unfinished h = let k : Some (wants.Book 1 0) ≡ None = h in cc

-- a line stands after the End line
goes_on_after_the_end : is_ended (taken 1 ∷ last ∷ []) ≡ is_complete (taken 1 ∷ last ∷ []) → ⊥
unfolding opened
goes_on_after_the_end h = let k : true ≡ false = h in different k

-- the day has ended, and what is named as unfinished has no line
nothing_to_finish : UnfinishedIsFirstWithLine the_day (last ∷ taken 1 ∷ []) → ⊥
unfolding opened
nothing_to_finish h = different (sym (h 1 (wants.Book 1 0) refl).2)

-- ---- repeats, and what is rejected

-- a repeat that is taken well, one that moves something, and one that is booked
repeat_accepted : RepeatsDoNothing the_day (taken 2 ∷ []) → ⊥
repeat_accepted h = let k : line_codes.Ok ≡ line_codes.Du = (h.1 refl).1 in cc

repeat_moves : RepeatsDoNothing the_day (line kinds.In 2 0 line_codes.Du (m 1 2 500 ∷ []) ∷ []) → ⊥
repeat_moves h = let k : m 1 2 500 ∷ [] ≡ [] = (h.1 refl).2 in cc

repeat_booked : RepeatsDoNothing the_day (book 2 0 [] ∷ []) → ⊥
repeat_booked h = let k : kinds.Book ≡ kinds.In = (h.1 refl).0 in cc

-- a payment that is booked though it was rejected, and one that is rejected and moves something
rejected_booked : RejectedDoNothing (book 1 0 [] ∷ line kinds.In 1 0 line_codes.Ac [] ∷ []) → ⊥
unfolding opened
rejected_booked h = let k : kinds.Book ≡ kinds.In = (h.1 refl).0 in cc

rejected_moves : RejectedDoNothing (line kinds.In 1 0 line_codes.Ac (m 1 2 500 ∷ []) ∷ []) → ⊥
unfolding opened
rejected_moves h = let k : m 1 2 500 ∷ [] ≡ [] = (h.1 refl).2 in cc

-- ---- once

-- a payment that is booked twice, and an entry
booked_twice : NoneIsBookedTwice (book 1 0 [] ∷ book 1 0 [] ∷ []) → ⊥
booked_twice h = let k : 2 ≤ 1 = h 1 0 in omega (arith, k)

entry_booked_twice : IsBookedOnce the_day (book 6 2 [] ∷ taken 6 ∷ book 6 2 [] ∷ []) → ⊥
entry_booked_twice h = let k : 2 ≤ 1 = h 6 2 refl in omega (arith, k)

-- the last entry isn't booked when the day has ended
entry_left : EntriesAreDone the_day (last ∷ book 6 1 [] ∷ taken 6 ∷ []) → ⊥
unfolding opened
entry_left h = different (sym (h refl 6 2 refl refl (omega arith) (omega arith)))

-- a message that is taken twice, one that is never taken, and one before an earlier one of its bank
taken_twice : NoneIsTakenTwice (taken 1 ∷ midnight ∷ taken 1 ∷ []) → ⊥
taken_twice h = let k : 2 ≤ 1 = h 1 in omega (arith, k)

never_taken : EachIsTakenOnce the_day (last ∷ taken 1 ∷ []) → ⊥
never_taken h = let k : 0 ≡ 1 = h refl 3 (omega arith) (omega arith) in omega (arith, k)

out_of_order : EachLine (FollowsSender the_day) (taken 3 ∷ []) → ⊥
unfolding opened
out_of_order h = different (sym (h.1 3 1 refl (omega arith) (omega arith) refl))

-- ---- the day goes on

-- where the clock is past midnight neither time passes nor the day ends
abbrev late : History
late = line kinds.Time 0 86401 line_codes.Ok [] ∷ []

no_line : (want : Want) → IsSome (line_of bare_day late want) → ⊥
unfolding opened
no_line (wants.In zero) s = cc
no_line (wants.In (suc n)) s = cc
no_line (wants.Book zero k) s = cc
no_line (wants.Book (suc n) k) s = cc
no_line (wants.All zero) s = cc
no_line (wants.All (suc n)) s = cc
no_line wants.Time s = cc
no_line (wants.Expire zero) s = cc
no_line (wants.Expire (suc n)) s = cc
no_line (wants.Ask zero) s = cc
no_line (wants.Ask (suc n)) s = cc
no_line (wants.Cover zero) s = cc
no_line (wants.Cover (suc n)) s = cc
no_line (wants.Refuse zero) s = cc
no_line (wants.Refuse (suc n)) s = cc
no_line (wants.Sweep zero) s = cc
no_line (wants.Sweep (suc a)) s = cc
no_line wants.End s = cc

stands_still : AlwaysGoesOn bare_day late → ⊥
unfolding opened
stands_still h = let g = h.1 refl in no_line g.0 g.1

-- more lines, and more moves, than the day can bring
too_many_lines : (J : History) → 86402 ≤ length J → IsBounded bare_day J → ⊥
too_many_lines J long h = let k : length J ≤ 86401 = h.0 in omega (arith, k, long)

too_many_moves : IsBounded bare_day (book 1 0 (m 1 2 500 ∷ []) ∷ []) → ⊥
too_many_moves h = let k : 1 ≤ 0 = h.1 in omega (arith, k)
