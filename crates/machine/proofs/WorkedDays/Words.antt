-- Days in the words of the day file. Amounts are cents, times are seconds.
use Rattle.std.specs.Prelude.{ℕ, Bool, true, List, [], ◌∷◌, ◌++◌, Option, Some, None, codes}
use Rattle.cash_amounts.specs.declared.records.AccountRecord.{AccountRecord}
use Rattle.cash_amounts.specs.declared.records.SystemRecord.{SystemRecord}
use Rattle.cash_amounts.specs.declared.records.AccountKind.TheVariants as account_kinds
use Rattle.cash_amounts.specs.declared.records.Procedure.{Procedure}
use Rattle.cash_amounts.specs.declared.records.Procedure.TheVariants.{A, B, C, D}
use Rattle.batch_records.specs.DayRecord.{Day, no_room}
use Rattle.batch_records.specs.declared.day.Message.{Message}
use Rattle.batch_records.specs.declared.day.Entry.{Entry}
use Rattle.batch_records.specs.declared.day.Body.TheVariants as bodies
use Rattle.commit_journal.specs.declared.line.Move.{Move}

-- ---- records

abbrev pub dca : List ℕ → List ℕ → ℕ → AccountRecord
dca name bank opening = record { name = name; kind = account_kinds.Dca; owner = bank; system = None; procedure = None; opening = opening }

abbrev pub sub : List ℕ → List ℕ → List ℕ → AccountRecord
sub name bank system = record { name = name; kind = account_kinds.Sub; owner = bank; system = Some system; procedure = None; opening = 0 }

abbrev pub tec : List ℕ → List ℕ → Procedure → AccountRecord
tec name system p = record { name = name; kind = account_kinds.Tech; owner = system; system = None; procedure = Some p; opening = 0 }

abbrev pub fnd : List ℕ → List ℕ → ℕ → AccountRecord
fnd name system opening = record { name = name; kind = account_kinds.Fund; owner = system; system = None; procedure = None; opening = opening }

-- the flags say which of A to E it lists
abbrev pub system : List ℕ → List Bool → SystemRecord
system name flags = record { name = name; procedures = flags }

abbrev pub entry : List ℕ → List ℕ → ℕ → Entry
entry debit credit amount = record { debit = debit; credit = credit; amount = amount }

-- ---- messages; the first number is the round

abbrev pub bat : ℕ → List ℕ → List ℕ → Procedure → Option ℕ → Option ℕ → ℕ → ℕ → List Entry → Message
bat round sender id p info till count sum entries = record { round = round; sender = sender; id = id; body = bodies.Batch p info None till count sum entries }

abbrev pub pay : ℕ → List ℕ → List ℕ → Bool → List ℕ → List ℕ → ℕ → Message
pay round sender id high debit credit amount = record { round = round; sender = sender; id = id; body = bodies.Pay high debit credit amount }

abbrev pub liq : ℕ → List ℕ → List ℕ → List ℕ → List ℕ → ℕ → Message
liq round sender id debit credit amount = record { round = round; sender = sender; id = id; body = bodies.Liquidity debit credit amount }

abbrev pub obj : ℕ → List ℕ → List ℕ → List ℕ → List ℕ → Message
obj round sender id system batch = record { round = round; sender = sender; id = id; body = bodies.Object system batch }

abbrev pub cnf : ℕ → List ℕ → List ℕ → List ℕ → Bool → Message
cnf round sender id batch answer = record { round = round; sender = sender; id = id; body = bodies.Confirm batch answer }

abbrev pub cyc : ℕ → List ℕ → List ℕ → Bool → Message
cyc round sender id start = record { round = round; sender = sender; id = id; body = bodies.Cycle start }

abbrev pub a_day : List AccountRecord → List SystemRecord → List ℕ → List Message → Day
a_day accounts systems stops messages = record { version = 1; date = record { year = 2025; month = 6; day = 2 }; accounts = accounts; systems = systems; reserves = []; stops = stops; messages = messages; room = no_room }

-- a move from account d to account c
abbrev pub m : ℕ → ℕ → ℕ → Move
m d c amount = record { debit = d; credit = c; amount = amount }

-- ---- names

abbrev pub X1 : List ℕ
X1 = codes "X1"

abbrev pub Y1 : List ℕ
Y1 = codes "Y1"

abbrev pub Z1 : List ℕ
Z1 = codes "Z1"

abbrev pub BANKA : List ℕ
BANKA = codes "BANKA"

abbrev pub BANKB : List ℕ
BANKB = codes "BANKB"

abbrev pub BANKC : List ℕ
BANKC = codes "BANKC"

abbrev pub CH1 : List ℕ
CH1 = codes "CH1"

abbrev pub TA : List ℕ
TA = codes "TA"

abbrev pub TB : List ℕ
TB = codes "TB"

abbrev pub TC : List ℕ
TC = codes "TC"

abbrev pub TD : List ℕ
TD = codes "TD"

abbrev pub SX : List ℕ
SX = codes "SX"

abbrev pub GF : List ℕ
GF = codes "GF"

abbrev pub B1 : List ℕ
B1 = codes "B1"

-- ---- the setup of most days: three banks with the openings x, y and z, and a system that uses A to E; without a fund, and with one

abbrev pub accounts : ℕ → ℕ → ℕ → List AccountRecord
accounts x y z =
    dca X1 BANKA x ∷ dca Y1 BANKB y ∷ dca Z1 BANKC z ∷ tec TA CH1 A ∷ tec TB CH1 B ∷ tec TC CH1 C ∷ tec TD CH1 D ∷ sub SX BANKA CH1 ∷ []

abbrev pub ch1 : List SystemRecord
ch1 = system CH1 (true ∷ true ∷ true ∷ true ∷ true ∷ []) ∷ []

abbrev pub unfunded : ℕ → ℕ → ℕ → List ℕ → List Message → Day
unfunded x y z stops messages = a_day (accounts x y z) ch1 stops messages

abbrev pub funded : ℕ → ℕ → ℕ → ℕ → List ℕ → List Message → Day
funded x y z g stops messages = a_day (accounts x y z ++ fnd GF CH1 g ∷ []) ch1 stops messages
