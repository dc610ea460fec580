-- Trials worked out apart from the definitions: draws, the accounts, messages and summaries.
use Rattle.std.specs.Prelude.{◌≡◌, ℕ, List, [], ◌∷◌, refl, None, Some, map, codes}
use Rattle.std.specs.List.{range_with_len}
use Rattle.std.specs.Fmt.{digits}
use Rattle.cash_amounts.specs.declared.records.AccountRecord.{AccountRecord}
use Rattle.cash_amounts.specs.declared.records.AccountKind.TheVariants as account_kinds
use Rattle.cash_amounts.specs.declared.records.Procedure.{Procedure}
use Rattle.cash_amounts.specs.declared.records.Procedure.TheVariants.{A, B, E}
use Rattle.batch_records.specs.declared.day.Entry.{Entry}
use Rattle.batch_records.specs.declared.day.Message.{Message}
use Rattle.batch_records.specs.declared.day.Body.TheVariants as bodies
use Rattle.trial_day.specs.Trial.{number_behind, draw, drawn_entries, trial_accounts, trial_systems, trial_message, generated}
use Rattle.trial_day.specs.Summary.{holdings_text, summary}

unfoldable all_of_it : ℕ
unfolding digits number_behind draw drawn_entries trial_accounts trial_systems trial_message generated holdings_text summary
all_of_it = 0

first_draws : map (draw 1) (range_with_len 1 12) ≡ 16838 ∷ 5758 ∷ 10113 ∷ 17515 ∷ 31051 ∷ 5627 ∷ 23010 ∷ 7419 ∷ 16212 ∷ 4086 ∷ 2749 ∷ 12767 ∷ []
unfolding all_of_it
first_draws = refl

abbrev cash : List ℕ → List ℕ → AccountRecord
cash name owner = record { name = name; kind = account_kinds.Dca; owner = owner; system = None; procedure = None; opening = 100000000000 }

abbrev tec : List ℕ → List ℕ → Procedure → AccountRecord
tec name owner p = record { name = name; kind = account_kinds.Tech; owner = owner; system = None; procedure = Some p; opening = 0 }

abbrev entry : List ℕ → List ℕ → ℕ → Entry
entry debit credit amount = record { debit = debit; credit = credit; amount = amount }

abbrev message : List ℕ → List ℕ → Procedure → ℕ → ℕ → List Entry → Message
message sender id p count sum es = record { round = 0; sender = sender; id = id; body = bodies.Batch p None None None count sum es }

the_accounts : trial_accounts ≡
    cash (codes "DCA01") (codes "BANK01")
    ∷ cash (codes "DCA02") (codes "BANK02")
    ∷ cash (codes "DCA03") (codes "BANK03")
    ∷ cash (codes "DCA04") (codes "BANK04")
    ∷ cash (codes "DCA05") (codes "BANK05")
    ∷ cash (codes "DCA06") (codes "BANK06")
    ∷ cash (codes "DCA07") (codes "BANK07")
    ∷ cash (codes "DCA08") (codes "BANK08")
    ∷ cash (codes "DCA09") (codes "BANK09")
    ∷ cash (codes "DCA10") (codes "BANK10")
    ∷ cash (codes "DCA11") (codes "BANK11")
    ∷ cash (codes "DCA12") (codes "BANK12")
    ∷ cash (codes "DCA13") (codes "BANK13")
    ∷ cash (codes "DCA14") (codes "BANK14")
    ∷ cash (codes "DCA15") (codes "BANK15")
    ∷ cash (codes "DCA16") (codes "BANK16")
    ∷ tec (codes "TA1") (codes "CH1") A
    ∷ tec (codes "TB1") (codes "CH1") B
    ∷ tec (codes "TA2") (codes "CH2") A
    ∷ tec (codes "TB2") (codes "CH2") B
    ∷ tec (codes "TA3") (codes "CH3") A
    ∷ tec (codes "TB3") (codes "CH3") B
    ∷ tec (codes "TA4") (codes "CH4") A
    ∷ tec (codes "TB4") (codes "CH4") B
    ∷ tec (codes "TA5") (codes "CH5") A
    ∷ tec (codes "TB5") (codes "CH5") B
    ∷ tec (codes "TA6") (codes "CH6") A
    ∷ tec (codes "TB6") (codes "CH6") B
    ∷ tec (codes "TA7") (codes "CH7") A
    ∷ tec (codes "TB7") (codes "CH7") B
    ∷ tec (codes "TA8") (codes "CH8") A
    ∷ tec (codes "TB8") (codes "CH8") B
    ∷ []
unfolding all_of_it
the_accounts = refl

messages_1_3 : (generated 1 3).messages ≡
    message (codes "CH1") (codes "M1") A 8 29446
    (entry (codes "DCA07") (codes "TA1") 114
    ∷ entry (codes "DCA12") (codes "TA1") 5628
    ∷ entry (codes "DCA03") (codes "TA1") 6213
    ∷ entry (codes "DCA07") (codes "TA1") 2768
    ∷ entry (codes "TA1") (codes "DCA15") 114
    ∷ entry (codes "TA1") (codes "DCA12") 5628
    ∷ entry (codes "TA1") (codes "DCA12") 6213
    ∷ entry (codes "TA1") (codes "DCA14") 2768
    ∷ [])
    ∷ message (codes "CH2") (codes "M2") B 8 21378
    (entry (codes "DCA13") (codes "TB2") 2226
    ∷ entry (codes "DCA08") (codes "TB2") 1184
    ∷ entry (codes "DCA02") (codes "TB2") 6967
    ∷ entry (codes "DCA03") (codes "TB2") 312
    ∷ entry (codes "TB2") (codes "DCA13") 2226
    ∷ entry (codes "TB2") (codes "DCA02") 1184
    ∷ entry (codes "TB2") (codes "DCA15") 6967
    ∷ entry (codes "TB2") (codes "DCA16") 312
    ∷ [])
    ∷ message (codes "CH3") (codes "M3") E 4 30232
    (entry (codes "DCA08") (codes "DCA02") 7032
    ∷ entry (codes "DCA10") (codes "DCA02") 5737
    ∷ entry (codes "DCA13") (codes "DCA03") 8395
    ∷ entry (codes "DCA07") (codes "DCA03") 9068
    ∷ [])
    ∷ []
unfolding all_of_it
messages_1_3 = refl

messages_2147483647_9 : (generated 2147483647 9).messages ≡
    message (codes "CH1") (codes "M1") A 8 69386
    (entry (codes "DCA10") (codes "TA1") 9863
    ∷ entry (codes "DCA15") (codes "TA1") 8227
    ∷ entry (codes "DCA09") (codes "TA1") 8033
    ∷ entry (codes "DCA15") (codes "TA1") 8570
    ∷ entry (codes "TA1") (codes "DCA10") 9863
    ∷ entry (codes "TA1") (codes "DCA10") 8227
    ∷ entry (codes "TA1") (codes "DCA16") 8033
    ∷ entry (codes "TA1") (codes "DCA14") 8570
    ∷ [])
    ∷ message (codes "CH2") (codes "M2") B 8 38244
    (entry (codes "DCA12") (codes "TB2") 9950
    ∷ entry (codes "DCA15") (codes "TB2") 1283
    ∷ entry (codes "DCA08") (codes "TB2") 4026
    ∷ entry (codes "DCA13") (codes "TB2") 3863
    ∷ entry (codes "TB2") (codes "DCA01") 9950
    ∷ entry (codes "TB2") (codes "DCA16") 1283
    ∷ entry (codes "TB2") (codes "DCA14") 4026
    ∷ entry (codes "TB2") (codes "DCA03") 3863
    ∷ [])
    ∷ message (codes "CH3") (codes "M3") E 4 24995
    (entry (codes "DCA11") (codes "DCA01") 2163
    ∷ entry (codes "DCA01") (codes "DCA04") 8356
    ∷ entry (codes "DCA10") (codes "DCA06") 7075
    ∷ entry (codes "DCA11") (codes "DCA15") 7401
    ∷ [])
    ∷ message (codes "CH4") (codes "M4") A 8 50458
    (entry (codes "DCA03") (codes "TA4") 5407
    ∷ entry (codes "DCA05") (codes "TA4") 4797
    ∷ entry (codes "DCA14") (codes "TA4") 8598
    ∷ entry (codes "DCA05") (codes "TA4") 6427
    ∷ entry (codes "TA4") (codes "DCA10") 5407
    ∷ entry (codes "TA4") (codes "DCA04") 4797
    ∷ entry (codes "TA4") (codes "DCA05") 8598
    ∷ entry (codes "TA4") (codes "DCA13") 6427
    ∷ [])
    ∷ message (codes "CH5") (codes "M5") B 8 54508
    (entry (codes "DCA06") (codes "TB5") 7890
    ∷ entry (codes "DCA01") (codes "TB5") 5729
    ∷ entry (codes "DCA09") (codes "TB5") 5758
    ∷ entry (codes "DCA14") (codes "TB5") 7877
    ∷ entry (codes "TB5") (codes "DCA09") 7890
    ∷ entry (codes "TB5") (codes "DCA07") 5729
    ∷ entry (codes "TB5") (codes "DCA09") 5758
    ∷ entry (codes "TB5") (codes "DCA12") 7877
    ∷ [])
    ∷ message (codes "CH6") (codes "M6") E 4 21778
    (entry (codes "DCA16") (codes "DCA15") 9635
    ∷ entry (codes "DCA06") (codes "DCA02") 7732
    ∷ entry (codes "DCA01") (codes "DCA12") 3689
    ∷ entry (codes "DCA08") (codes "DCA11") 722
    ∷ [])
    ∷ message (codes "CH7") (codes "M7") A 8 27136
    (entry (codes "DCA14") (codes "TA7") 7718
    ∷ entry (codes "DCA16") (codes "TA7") 1325
    ∷ entry (codes "DCA07") (codes "TA7") 298
    ∷ entry (codes "DCA03") (codes "TA7") 4227
    ∷ entry (codes "TA7") (codes "DCA16") 7718
    ∷ entry (codes "TA7") (codes "DCA03") 1325
    ∷ entry (codes "TA7") (codes "DCA13") 298
    ∷ entry (codes "TA7") (codes "DCA10") 4227
    ∷ [])
    ∷ message (codes "CH8") (codes "M8") B 8 26738
    (entry (codes "DCA12") (codes "TB8") 7119
    ∷ entry (codes "DCA16") (codes "TB8") 218
    ∷ entry (codes "DCA08") (codes "TB8") 4608
    ∷ entry (codes "DCA03") (codes "TB8") 1424
    ∷ entry (codes "TB8") (codes "DCA08") 7119
    ∷ entry (codes "TB8") (codes "DCA05") 218
    ∷ entry (codes "TB8") (codes "DCA05") 4608
    ∷ entry (codes "TB8") (codes "DCA03") 1424
    ∷ [])
    ∷ message (codes "CH1") (codes "M9") E 4 28119
    (entry (codes "DCA16") (codes "DCA11") 1656
    ∷ entry (codes "DCA10") (codes "DCA13") 9237
    ∷ entry (codes "DCA01") (codes "DCA09") 7400
    ∷ entry (codes "DCA02") (codes "DCA05") 9826
    ∷ [])
    ∷ []
unfolding all_of_it
messages_2147483647_9 = refl

summary_1_1 : summary 1 1 ≡ codes "TRIAL;1;11;8\nB;DCA01;1000000000.00\nB;DCA02;1000000000.00\nB;DCA03;999999937.87\nB;DCA04;1000000000.00\nB;DCA05;1000000000.00\nB;DCA06;1000000000.00\nB;DCA07;999999971.18\nB;DCA08;1000000000.00\nB;DCA09;1000000000.00\nB;DCA10;1000000000.00\nB;DCA11;1000000000.00\nB;DCA12;1000000062.13\nB;DCA13;1000000000.00\nB;DCA14;1000000027.68\nB;DCA15;1000000001.14\nB;DCA16;1000000000.00\n"
unfolding all_of_it
summary_1_1 = refl

summary_1_3 : summary 1 3 ≡ codes "TRIAL;3;18;20\nB;DCA01;1000000000.00\nB;DCA02;1000000069.86\nB;DCA03;1000000109.38\nB;DCA04;1000000000.00\nB;DCA05;1000000000.00\nB;DCA06;1000000000.00\nB;DCA07;999999880.50\nB;DCA08;999999917.84\nB;DCA09;1000000000.00\nB;DCA10;999999942.63\nB;DCA11;1000000000.00\nB;DCA12;1000000062.13\nB;DCA13;999999916.05\nB;DCA14;1000000027.68\nB;DCA15;1000000070.81\nB;DCA16;1000000003.12\n"
unfolding all_of_it
summary_1_3 = refl

summary_7_4 : summary 7 4 ≡ codes "TRIAL;4;27;28\nB;DCA01;1000000119.30\nB;DCA02;999999895.25\nB;DCA03;999999857.43\nB;DCA04;999999936.82\nB;DCA05;999999966.54\nB;DCA06;999999931.81\nB;DCA07;1000000000.00\nB;DCA08;1000000132.58\nB;DCA09;1000000000.25\nB;DCA10;1000000036.55\nB;DCA11;999999959.32\nB;DCA12;1000000000.00\nB;DCA13;999999959.24\nB;DCA14;1000000085.71\nB;DCA15;1000000119.20\nB;DCA16;1000000000.00\n"
unfolding all_of_it
summary_7_4 = refl

summary_2147483647_9 : summary 2147483647 9 ≡ codes "TRIAL;9;50;60\nB;DCA01;999999869.39\nB;DCA02;999999979.06\nB;DCA03;999999955.54\nB;DCA04;1000000131.53\nB;DCA05;1000000120.26\nB;DCA06;999999914.53\nB;DCA07;1000000054.31\nB;DCA08;999999977.63\nB;DCA09;1000000072.57\nB;DCA10;1000000015.49\nB;DCA11;999999928.14\nB;DCA12;999999944.97\nB;DCA13;1000000120.99\nB;DCA14;999999884.03\nB;DCA15;999999989.56\nB;DCA16;1000000042.00\n"
unfolding all_of_it
summary_2147483647_9 = refl

summary_0_2 : summary 0 2 ≡ codes "TRIAL;2;13;16\nB;DCA01;999999962.45\nB;DCA02;1000000000.00\nB;DCA03;1000000000.00\nB;DCA04;999999937.66\nB;DCA05;1000000000.00\nB;DCA06;1000000001.25\nB;DCA07;1000000000.00\nB;DCA08;1000000000.00\nB;DCA09;1000000000.00\nB;DCA10;1000000034.72\nB;DCA11;999999998.75\nB;DCA12;999999989.12\nB;DCA13;1000000094.92\nB;DCA14;1000000004.97\nB;DCA15;1000000010.88\nB;DCA16;999999965.28\n"
unfolding all_of_it
summary_0_2 = refl
