-- A day that meets the rules is kept by its records.
use Rattle.std.proofs.Common.{◌≡◌, ◌+◌, ◌^◌, ℕ, List, [], ◌∷◌, ◌++◌, Option, Some, None, Bool, true, false, length, map, refl, arith, sym, subst, append_assoc, append-nil, ◌∙◌}
use Rattle.std.specs.Prelude.{◌==◌, ◌&&◌, decimal, filter_map, codes, is_none, nat_lt, option_map}
use Rattle.std.specs.List.{cons_option, enumerate_from, list_all, slice_range}
use Rattle.cash_amounts.specs.AmountText.{amount_text}
use Rattle.cash_amounts.specs.Names.{is_name}
use Rattle.cash_amounts.specs.SoundSetup.{accounts_are_sound}
use Rattle.cash_amounts.specs.declared.records.AccountKind.{AccountKind}
use Rattle.cash_amounts.specs.declared.records.AccountKind.TheVariants as account_kinds
use Rattle.cash_amounts.specs.declared.records.AccountRecord.{AccountRecord}
use Rattle.cash_amounts.specs.declared.records.Procedure.{Procedure}
use Rattle.cash_amounts.specs.declared.records.Procedure.TheVariants as procedures
use Rattle.cash_amounts.specs.declared.records.SystemRecord.{SystemRecord}
use Rattle.batch_records.specs.Codes.{code_of, first_code}
use Rattle.batch_records.specs.CountText.{count_of}
use Rattle.batch_records.specs.Days.{bad_records, fault_at}
use Rattle.batch_records.specs.DayTexts.{account_record, body_record, end_record, entry_record, inner_records, kind_word, link_text, message_records, moment_records, reserve_record, stop_record, system_record, written_records, day_record, procedure_word, version_records}
use Rattle.batch_records.specs.Kinds.{has_bad_number, has_other_link, has_other_word, kind_named}
use Rattle.batch_records.specs.Made.{accounts_of, so_far_of, is_ver, version_of}
use Rattle.batch_records.specs.Meets.{MeetsRules, are_own_links, has_own_links, has_times, has_typed_body, is_cents, is_typed}
use Rattle.batch_records.specs.Records.{Fields}
use Rattle.batch_records.specs.Sound.{are_times, entries_in, is_open_date, is_spelled_account}
use Rattle.batch_records.specs.Step.{IsInStep}
use Rattle.batch_records.specs.Words.{account_kind_named, technical_named}
use Rattle.batch_records.specs.declared.day.Body.{Body}
use Rattle.batch_records.specs.declared.day.Body.TheVariants as body
use Rattle.batch_records.specs.DayRecord.{Day}
use Rattle.batch_records.specs.declared.day.DayCode.{DayCode}
use Rattle.batch_records.specs.declared.day.Entry.{Entry}
use Rattle.batch_records.specs.declared.day.Message.{Message}
use Rattle.batch_records.specs.declared.kinds.RecordKind.TheVariants as record_kinds
use Rattle.batch_records.specs.declared.so_far.SoFar.{SoFar}
use Rattle.batch_records.proofs.BoolFacts.{and_both, lt_failed, lt_meant}
use Rattle.batch_records.proofs.Fine.{IsFine, fine, ids_hold, names_hold}
use Rattle.batch_records.proofs.KeptDay.{IsKept, is_kept_account, is_kept_entry, is_kept_link, is_kept_message, is_kept_system}
use Rattle.batch_records.proofs.ListFacts.{AllIn, all_in_first, all_in_then}
use Rattle.batch_records.proofs.SpellingFacts.{count_never}
use Rattle.batch_records.specs.Versions.{is_version}
use Rattle.batch_records.proofs.BatchFields.{count_is}
use Rattle.batch_records.proofs.JudgeFacts.{bad-split}
use Rattle.batch_records.proofs.KeptFacts.{in_step_first, in_step_next, setup_so_far}
use Rattle.batch_records.proofs.ReserveNames.{reserves_kept}
use Rattle.batch_records.proofs.MadeBack.{IsNoVer, accounts_back, head_version, rest_no_ver}
use Rattle.batch_records.proofs.StepFacts.{so_far_next, version_from-next}

-- ---- each record is fine after some others

-- in a day of this version
abbrev IsFineRecord : ℕ → Fields → Type 0
IsFineRecord version r = (s : SoFar) × (first_code s r ≡ None) × (s.version ≡ version)

pub last_none : {X : Type 0} (xs ys : List X) → xs ++ ys ≡ [] → (xs ≡ []) × (ys ≡ [])
last_none [] ys e = (refl, e)
last_none (x ∷ xs) ys e = cc e

pub no_code : (n : ℕ) (o : Option DayCode) (others : List (ℕ × DayCode)) → cons_option (option_map (λ c. (n, c)) o) others ≡ [] → o ≡ None
no_code n None others e = refl
no_code n (Some c) others e = cc e

-- the code of a record after others where all are fine
pub code_behind : (taken : List Fields) (r : Fields) (rest : List Fields) → bad_records (taken ++ r ∷ rest) ≡ [] → code_of taken r ≡ None
code_behind taken r rest fine =
    let others = filter_map (fault_at (taken ++ r ∷ rest)) (enumerate_from (length taken + 1) rest) in
    let parts = last_none (bad_records taken) (cons_option (option_map (λ c. (length taken + 1, c)) (code_of taken r)) others) (sym (bad-split taken r rest) ∙ fine) in
    no_code (length taken + 1) (code_of taken r) others parts.1

version_kept : (taken : List Fields) (r : Fields) → is_ver r ≡ false → version_of (taken ++ r ∷ []) ≡ version_of taken
unfolding version_of
version_kept taken r none = version_from-next 1 taken r ∙ rw none refl

version_there : (taken : List Fields) → (so_far_of taken).version ≡ version_of taken
unfolding so_far_of
version_there taken = refl

fine_from : (version : ℕ) (taken rest : List Fields) → version_of taken ≡ version → AllIn IsNoVer rest → bad_records (taken ++ rest) ≡ [] → AllIn (IsFineRecord version) rest
fine_from version taken [] held none fine = tt
fine_from version taken (r ∷ rest) held none fine =
    let same = append_assoc taken (r ∷ []) rest in (
      (so_far_of taken, code_behind taken r rest fine, version_there taken ∙ held),
      fine_from version (taken ++ r ∷ []) rest (version_kept taken r none.0 ∙ held) none.1 (rw (← same) at fine),
    )

records_fine : (day : Day) → is_version day.version ≡ true → bad_records (written_records day) ≡ [] → AllIn (IsFineRecord day.version) (day_record day.date ∷ (inner_records day ++ end_record ∷ []))
unfolding written_records
records_fine day known fine = fine_from day.version (version_records day.version) (day_record day.date ∷ (inner_records day ++ end_record ∷ [])) (head_version day.version known) (rest_no_ver day) fine

-- ---- so its item is kept, where its values are of their types

all_from : {X : Type 0} (version : ℕ) (f : X → Fields) (p q : X → Bool) → ((x : X) → IsFineRecord version (f x) → q x ≡ true → p x ≡ true) → (xs : List X) → AllIn (IsFineRecord version) (map f xs) → list_all q xs ≡ true → list_all p xs ≡ true
all_from version f p q h [] all typed = refl
all_from version f p q h (x ∷ xs) all typed =
    let both = and_both (q x) (list_all q xs) typed in
    rw (h x all.0 both.0, all_from version f p q h xs all.1 both.1) refl

system_kept : (version : ℕ) (s : SystemRecord) → IsFineRecord version (system_record s) → (length s.procedures == 5) ≡ true → is_kept_system s ≡ true
unfolding kind_named
system_kept version s h five = rw ((names_hold record_kinds.As h.0 (system_record s) (fine record_kinds.As h.0 (system_record s) h.1 refl)).0, five) refl

-- the record of an account by its parts
abbrev account_fields : List ℕ → AccountKind → List ℕ → Option (List ℕ) → Option Procedure → List ℕ → Fields
account_fields name kind owner system p opening = codes "ACC" ∷ name ∷ kind_word kind ∷ owner ∷ link_text kind system p ∷ opening ∷ []

none_is : {X : Type 0} (o : Option X) → is_none o ≡ true → o ≡ None
none_is None e = refl
none_is (Some x) e = cc e

sub_link : (system : Option (List ℕ)) (p : Option Procedure) → is_name (link_text account_kinds.Sub system p) ≡ true → is_none p ≡ true → is_kept_link account_kinds.Sub system p ≡ true
sub_link None None name own = cc name
sub_link (Some system) None name own = name
sub_link system (Some p) name own = cc own

tech_link : (system : Option (List ℕ)) (p : Option Procedure) → is_none (technical_named (link_text account_kinds.Tech system p)) ≡ false → is_none system ≡ true → is_kept_link account_kinds.Tech system p ≡ true
unfolding technical_named
tech_link None None word own = cc word
tech_link None (Some procedures.A) word own = refl
tech_link None (Some procedures.B) word own = refl
tech_link None (Some procedures.C) word own = refl
tech_link None (Some procedures.D) word own = refl
tech_link None (Some procedures.E) word own = cc word
tech_link (Some system) p word own = cc own

bare_link : (kind : AccountKind) (system : Option (List ℕ)) (p : Option Procedure) → is_kept_link kind None None ≡ true → (is_none system && is_none p) ≡ true → is_kept_link kind system p ≡ true
bare_link kind None None bare own = bare
bare_link kind None (Some p) bare own = cc own
bare_link kind (Some system) p bare own = cc own

link_kept : (kind : AccountKind) (s : SoFar) (name owner opening : List ℕ) (system : Option (List ℕ)) (p : Option Procedure) → IsFine record_kinds.Acc s (account_fields name kind owner system p opening) → are_own_links kind system p ≡ true → is_kept_link kind system p ≡ true
unfolding account_kind_named has_other_word has_other_link
link_kept account_kinds.Dca s name owner opening system p f own = bare_link account_kinds.Dca system p refl own
link_kept account_kinds.Fund s name owner opening system p f own = bare_link account_kinds.Fund system p refl own
link_kept account_kinds.Sub s name owner opening system p f own = sub_link system p (names_hold record_kinds.Acc s (account_fields name account_kinds.Sub owner system p opening) f).1.1.0 own
link_kept account_kinds.Tech s name owner opening system p f own = tech_link system p f.words own

account_kept : (version : ℕ) (a : AccountRecord) → IsFineRecord version (account_record a) → (is_cents a.opening && has_own_links a) ≡ true → is_kept_account a ≡ true
unfolding kind_named
account_kept version a h typed =
    let both = and_both (is_cents a.opening) (has_own_links a) typed in
    let f = fine record_kinds.Acc h.0 (account_record a) h.1 refl in
    let names = names_hold record_kinds.Acc h.0 (account_record a) f in
    rw (names.0, names.1.0, both.0, link_kept a.kind h.0 a.name a.owner (amount_text a.opening) a.system a.procedure f both.1) refl

entry_kept : (version : ℕ) (e : Entry) → IsFineRecord version (entry_record e) → is_cents e.amount ≡ true → is_kept_entry e ≡ true
unfolding kind_named
entry_kept version e h typed =
    let names = names_hold record_kinds.Ent h.0 (entry_record e) (fine record_kinds.Ent h.0 (entry_record e) h.1 refl) in
    rw (names.0, names.1.0, typed) refl

count_kept : (count : ℕ) → nat_lt count (2 ^ 32) ≡ true → is_none (count_of (decimal count)) ≡ false → nat_lt count 10000000 ≡ true
count_kept count typed read =
    (elim (nat_lt count 10000000) as (λ b. nat_lt count 10000000 ≡ b → b ≡ true) [
      | true ↦ λ e. refl
      | false ↦ λ e.
          let small = lt_meant count (2 ^ 32) typed in
          cc (rw (count_never count (lt_failed count 10000000 e) (omega arith)) at read)
    ]) refl

-- the count of a batch is one that is read
count_read : (version : ℕ) (s : SoFar) (sender id : List ℕ) (p : Procedure) (info early till : Option ℕ) (count sum : ℕ) (entries : List Entry) → s.version ≡ version
    → IsFine record_kinds.Bat s (body_record version sender id (body.Batch p info early till count sum entries)) → is_none (count_of (decimal count)) ≡ false
unfolding has_bad_number
count_read version s sender id p info early till count sum entries same f = rw (same, count_is version sender id (procedure_word p) info early till count sum) at f.numbers

-- a message whose record and entries are fine
message_kept : (version round : ℕ) (sender id : List ℕ) (b : Body) → IsFineRecord version (body_record version sender id b) → AllIn (IsFineRecord version) (map entry_record (entries_in b)) → (has_times b && has_typed_body b) ≡ true
    → is_kept_message (record { round = round; sender = sender; id = id; body = b }) ≡ true
unfolding kind_named
message_kept version round sender id (body.Batch p info early till count sum entries) h es typed =
    let r = body_record version sender id (body.Batch p info early till count sum entries) in
    let f = fine record_kinds.Bat h.0 r h.1 refl in
    let all = and_both (are_times info early till) (nat_lt count (2 ^ 32) && is_cents sum && list_all (λ e. is_cents e.amount) entries) typed in
    let rest = and_both (nat_lt count (2 ^ 32) && is_cents sum) (list_all (λ e. is_cents e.amount) entries) all.1 in
    let numbers = and_both (nat_lt count (2 ^ 32)) (is_cents sum) rest.0 in
    rw (
      (names_hold record_kinds.Bat h.0 r f).0,
      (ids_hold record_kinds.Bat h.0 r f).0,
      all.0,
      count_kept count numbers.0 (count_read version h.0 sender id p info early till count sum entries h.2 f),
      numbers.1,
      all_from version entry_record is_kept_entry (λ e. is_cents e.amount) (entry_kept version) entries es rest.1,
    ) refl
message_kept version round sender id (body.Pay high debit credit amount) h es typed =
    let r = body_record version sender id (body.Pay high debit credit amount) in
    let f = fine record_kinds.Pay h.0 r h.1 refl in
    let names = names_hold record_kinds.Pay h.0 r f in
    rw (names.0, (ids_hold record_kinds.Pay h.0 r f).0, names.1.0, names.1.1.0, typed) refl
message_kept version round sender id (body.Liquidity debit credit amount) h es typed =
    let r = body_record version sender id (body.Liquidity debit credit amount) in
    let f = fine record_kinds.Liq h.0 r h.1 refl in
    let names = names_hold record_kinds.Liq h.0 r f in
    rw (names.0, (ids_hold record_kinds.Liq h.0 r f).0, names.1.0, names.1.1.0, typed) refl
message_kept version round sender id (body.Object system batch) h es typed =
    let r = body_record version sender id (body.Object system batch) in
    let f = fine record_kinds.Obj h.0 r h.1 refl in
    let names = names_hold record_kinds.Obj h.0 r f in
    let ids = ids_hold record_kinds.Obj h.0 r f in
    rw (names.0, ids.0, names.1.0, ids.1.0) refl
message_kept version round sender id (body.Confirm batch answer) h es typed =
    let r = body_record version sender id (body.Confirm batch answer) in
    let f = fine record_kinds.Cnf h.0 r h.1 refl in
    let ids = ids_hold record_kinds.Cnf h.0 r f in
    rw ((names_hold record_kinds.Cnf h.0 r f).0, ids.0, ids.1.0) refl
message_kept version round sender id (body.Cycle start) h es typed =
    let r = body_record version sender id (body.Cycle start) in
    let f = fine record_kinds.Cyc h.0 r h.1 refl in
    rw ((names_hold record_kinds.Cyc h.0 r f).0, (ids_hold record_kinds.Cyc h.0 r f).0) refl

moments_kept : (version : ℕ) (stops : List ℕ) (passed : ℕ) (ms : List Message) → AllIn (IsFineRecord version) (moment_records version stops passed ms) → list_all (λ m. has_times m.body) ms ≡ true → list_all (λ m. has_typed_body m.body) ms ≡ true
    → list_all is_kept_message ms ≡ true
unfolding moment_records
moments_kept version stops passed [] all times typed = refl
moments_kept version stops passed (m ∷ ms) all times typed =
    let stops_part = map stop_record (slice_range stops passed m.round) in
    let front = all_in_first (IsFineRecord version) (stops_part ++ message_records version m) (moment_records version stops m.round ms) all in
    let own = all_in_then (IsFineRecord version) stops_part (message_records version m) front in
    let time = and_both (has_times m.body) (list_all (λ m. has_times m.body) ms) times in
    let type = and_both (has_typed_body m.body) (list_all (λ m. has_typed_body m.body) ms) typed in
    let both : (has_times m.body && has_typed_body m.body) ≡ true = rw (time.0, type.0) refl in
    let kept : is_kept_message m ≡ true = message_kept version m.round m.sender m.id m.body own.0 own.1 both in
    rw (kept, moments_kept version stops m.round ms (all_in_then (IsFineRecord version) (stops_part ++ message_records version m) (moment_records version stops m.round ms) all) time.1 type.1) refl

all_both : {X : Type 0} (p q : X → Bool) (xs : List X) → list_all p xs ≡ true → list_all q xs ≡ true → list_all (λ x. p x && q x) xs ≡ true
all_both p q [] a b = refl
all_both p q (x ∷ xs) a b =
    let first = and_both (p x) (list_all p xs) a in
    let second = and_both (q x) (list_all q xs) b in
    rw (first.0, second.0, all_both p q xs first.1 second.1) refl

-- what the types hold, one by one
pub record AreTyped (day : Day) : Type 0 where
  pub date : is_open_date day.date ≡ true
  pub systems : list_all (λ s. length s.procedures == 5) day.systems ≡ true
  pub openings : list_all (λ a. is_cents a.opening) day.accounts ≡ true
  pub reserves : list_all (λ x. is_cents x.urgent && is_cents x.high) day.reserves ≡ true
  pub bodies : list_all (λ m. has_typed_body m.body) day.messages ≡ true

pub typed_parts : (day : Day) → is_typed day ≡ true → AreTyped day
typed_parts day e =
    let bodies = and_both _ (list_all (λ m. has_typed_body m.body) day.messages) e in
    let reserves = and_both _ (list_all (λ x. is_cents x.urgent && is_cents x.high) day.reserves) bodies.0 in
    let openings = and_both _ (list_all (λ a. is_cents a.opening) day.accounts) reserves.0 in
    let systems = and_both (is_open_date day.date) (list_all (λ s. length s.procedures == 5) day.systems) openings.0 in
    record { date = systems.0; systems = systems.1; openings = openings.1; reserves = reserves.1; bodies = bodies.1 }

pub in_step_all : (taken rest : List Fields) → IsInStep (so_far_of taken) → bad_records (taken ++ rest) ≡ [] → IsInStep (so_far_of (taken ++ rest))
in_step_all taken [] h fine = rw (append-nil taken) h
in_step_all taken (r ∷ rest) h fine =
    let code = code_behind taken r rest fine in
    let next : IsInStep (so_far_of (taken ++ r ∷ [])) = rw (so_far_next taken r code) (in_step_next (so_far_of taken) r code h) in
    let same = append_assoc taken (r ∷ []) rest in
    rw (← same) (in_step_all (taken ++ r ∷ []) rest next (rw (← same) at fine))

accounts_there : (records : List Fields) → (so_far_of records).accounts ≡ accounts_of records
unfolding so_far_of
accounts_there records = refl

-- the names of its accounts are those of a sound setup
record HasSoundNames (day : Day) : Type 0 where
  systems : List SystemRecord
  fit : accounts_are_sound systems [] day.accounts ≡ true
  spelled : list_all is_spelled_account day.accounts ≡ true

sound_names : (day : Day) → list_all is_kept_account day.accounts ≡ true → bad_records (written_records day) ≡ [] → HasSoundNames day
sound_names day kept fine =
    let s : SoFar = so_far_of (written_records day) in
    let setup = setup_so_far s (in_step_all [] (written_records day) in_step_first fine) in
    let same : s.accounts ≡ day.accounts = accounts_there (written_records day) ∙ accounts_back day kept in
    record {
      systems = s.systems;
      fit = subst (λ (xs : List AccountRecord). accounts_are_sound s.systems [] xs ≡ true) same setup.accounts_fit;
      spelled = subst (λ (xs : List AccountRecord). list_all is_spelled_account xs ≡ true) same setup.spelled_accounts;
    }

pub meets_kept : (day : Day) → MeetsRules day → IsKept day
unfolding inner_records
meets_kept day m =
    let version = day.version in
    let typed = typed_parts day m.typed in
    let all = records_fine day m.version m.fine in
    let inner = all_in_first (IsFineRecord version) (inner_records day) (end_record ∷ []) all.1 in
    let systems = map system_record day.systems in
    let accounts = map account_record day.accounts in
    let moments = moment_records version day.stops 0 day.messages in
    let kept = map (reserve_record day.accounts) day.reserves in
    let later = all_in_then (IsFineRecord version) systems (accounts ++ (kept ++ moments)) inner in
    let rest = all_in_then (IsFineRecord version) accounts (kept ++ moments) later in
    let own_accounts : list_all is_kept_account day.accounts ≡ true =
    all_from version account_record is_kept_account (λ a. is_cents a.opening && has_own_links a) (account_kept version) day.accounts (all_in_first (IsFineRecord version) accounts (kept ++ moments) later) (all_both (λ (a : AccountRecord). is_cents a.opening) has_own_links day.accounts typed.openings m.links) in
    let names = sound_names day own_accounts m.fine in
    record {
      version = m.version;
      date = typed.date;
      systems = all_from version system_record is_kept_system (λ s. length s.procedures == 5) (system_kept version) day.systems (all_in_first (IsFineRecord version) systems (accounts ++ (kept ++ moments)) inner) typed.systems;
      accounts = own_accounts;
      reserves = reserves_kept names.systems day.accounts day.reserves names.fit names.spelled m.reserves typed.reserves;
      earliest = m.earliest;
      stops = m.stops;
      messages = moments_kept version day.stops 0 day.messages (all_in_then (IsFineRecord version) kept moments rest) m.ends typed.bodies;
      rounds = m.rounds;
      room = m.room;
    }
