-- The records of a sound setup are fine, the systems before the accounts.
use Rattle.std.proofs.Common.{◌≡◌, ◌<◌, ◌≤◌, ◌+◌, ℕ, List, [], ◌∷◌, ◌++◌, Option, Some, None, true, false, not, length, map, refl, sym, subst, arith, append_assoc, append-nil, length-append, ◌∙◌, inl, inr, Bool, ap}
use Rattle.std.specs.Prelude.{◌==◌, ◌&&◌, ◌||◌, codes, bytes_eq, nat_eq, nat_le, sum_by}
use Rattle.std.specs.List.{list_all, list_any}
use Rattle.std.proofs.lemmas.Bool.{eqb-true, ne_eqb}
use Rattle.std.proofs.lemmas.List.Sums.{sum_by-cons}
use Rattle.cash_amounts.specs.Kinds.{is_dca}
use Rattle.cash_amounts.specs.Names.{is_name}
use Rattle.cash_amounts.specs.SoundSetup.{accounts_are_sound, fits, is_fund_for, is_name_twice, is_role_twice, is_system_name, is_technical_for, lists, owns_dca, systems_are_sound}
use Rattle.cash_amounts.specs.declared.cents.TheConstants.{MAX_CENTS}
use Rattle.cash_amounts.specs.declared.records.AccountKind.{AccountKind}
use Rattle.cash_amounts.specs.declared.records.AccountKind.TheVariants as account_kinds
use Rattle.cash_amounts.specs.declared.records.AccountRecord.{AccountRecord}
use Rattle.cash_amounts.specs.declared.records.Procedure.{Procedure}
use Rattle.cash_amounts.specs.declared.records.Procedure.TheVariants as procedures
use Rattle.cash_amounts.specs.declared.records.SystemRecord.{SystemRecord}
use Rattle.cash_amounts.specs.AmountText.{amount_text}
use Rattle.period_calendar.specs.Calendar.{CivilDay}
use Rattle.period_calendar.proofs.DateLemmas.{date_text_reads}
use Rattle.batch_records.specs.Codes.{has_bad_setup, has_bad_time, is_kept_already, is_out_of_place, is_past_limit, is_role_taken, is_twice, is_unfit}
use Rattle.batch_records.specs.DayTexts.{account_record, day_record, name_of_account, reserve_record, kind_word, link_text, system_record, version_records}
use Rattle.batch_records.specs.Kinds.{fields_in, has_bad_amount, has_bad_date, has_bad_id, has_bad_name, has_bad_number, has_closing_date, has_other_fields, has_other_link, has_other_word, kind_named, link_names}
use Rattle.batch_records.specs.Made.{accounts_of, messages_from, number_named, reserves_from, so_far_of, stops_of, systems_of, version_of}
use Rattle.batch_records.specs.Meets.{is_cents}
use Rattle.batch_records.specs.Records.{Fields}
use Rattle.batch_records.specs.Sound.{are_kept_once, is_dca_number, is_kept_among, is_open_date, is_sound_reserve, is_spelled_system, lists_some}
use Rattle.batch_records.specs.Step.{after_kind}
use Rattle.batch_records.specs.Words.{is_version_word, technical_named, version_named}
use Rattle.batch_records.specs.declared.kinds.RecordKind.TheVariants as record_kinds
use Rattle.batch_records.specs.declared.so_far.SoFar.{SoFar}
use Rattle.batch_records.proofs.BoolFacts.{and_both, le_meant, not_true, or_false, or_neither}
use Rattle.batch_records.proofs.KeptDay.{is_kept_account, is_kept_link, is_kept_reserve, is_kept_system, is_numbered, numbered_back}
use Rattle.batch_records.proofs.SoundFacts.{any_next}
use Rattle.batch_records.specs.declared.day.Reserve.{Reserve}
use Rattle.batch_records.proofs.MadeBack.{link_procedure, link_system}
use Rattle.batch_records.proofs.RunFacts.{RunsTo, Same, Step, first_none, le_not, lt_not, same_next, state}
use Rattle.batch_records.proofs.SpellingFacts.{amount_back, amount_reads, kind_reads, letters_are, letters_back}
use Rattle.batch_records.specs.Versions.{has_labels, is_version}
use Rattle.batch_records.proofs.BatchFields.{version_cases}

-- ---- VER and DAY

-- what is so far before DAY
abbrev head : ℕ → SoFar
head version = record {
  version = version;
  date = None;
  accounts = [];
  systems = [];
  reserves = [];
  stops = [];
  messages = [];
  opened = 0;
  started = false;
  begun = false;
  ended = false;
  in_batch = false;
  entries = 0;
}

nothing_yet : so_far_of [] ≡ head 1
unfolding so_far_of accounts_of systems_of reserves_from stops_of messages_from version_of
nothing_yet = refl

version_step : (word : List ℕ) → is_version_word word ≡ true → Step (head 1) (codes "VER" ∷ word ∷ []) (head (version_named word))
unfolding kind_named fields_in has_other_fields after_kind has_other_word is_out_of_place has_bad_date has_closing_date has_bad_name has_bad_id has_bad_number has_bad_amount has_bad_time is_twice has_bad_setup is_past_limit
version_step word known = (
  first_none record_kinds.Ver (head 1) (codes "VER" ∷ word ∷ []) refl refl (record {
    words = rw known refl;
    place = refl;
    dates = refl;
    closed = refl;
    names = refl;
    ids = refl;
    numbers = refl;
    amounts = refl;
    times = refl;
    twice = refl;
    setup = refl;
    limit = refl;
  }),
  refl,
)

day_step : (version : ℕ) (date : CivilDay) → is_open_date date ≡ true → Step (head version) (day_record date) (state version date [] [] [] [] [] 0 false false 0)
unfolding kind_named fields_in has_other_fields after_kind has_other_word is_out_of_place has_bad_date has_closing_date has_bad_name has_bad_id has_bad_number has_bad_amount has_bad_time is_twice has_bad_setup is_past_limit
day_step version date dated =
    let reads = date_text_reads date dated in (
      first_none record_kinds.Day (head version) (day_record date) refl refl (record {
        words = refl;
        place = refl;
        dates = rw reads refl;
        closed = rw reads refl;
        names = refl;
        ids = refl;
        numbers = refl;
        amounts = refl;
        times = refl;
        twice = refl;
        setup = refl;
        limit = refl;
      }),
      rw reads refl,
    )

pub head_run : (version : ℕ) (date : CivilDay) → is_version version ≡ true → is_open_date date ≡ true
    → RunsTo (so_far_of []) (version_records version ++ day_record date ∷ []) (state version date [] [] [] [] [] 0 false false 0)
unfolding version_records
head_run version date known dated =
    elim (version_cases version known) [
      | inl one ↦ rw (one, nothing_yet) (state 1 date [] [] [] [] [] 0 false false 0, day_step 1 date dated, refl)
      | inr (inl two) ↦ rw (two, nothing_yet) (head 2, version_step (codes "2") refl, (state 2 date [] [] [] [] [] 0 false false 0, day_step 2 date dated, refl))
      | inr (inr three) ↦ rw (three, nothing_yet) (head 3, version_step (codes "3") refl, (state 3 date [] [] [] [] [] 0 false false 0, day_step 3 date dated, refl))
    ]

-- ---- systems

system_step : (version : ℕ) (date : CivilDay) (done : List SystemRecord) (x : SystemRecord) → is_kept_system x ≡ true → lists_some x ≡ true → is_system_name done x.name ≡ false → length done < 256
    → Step (state version date [] done [] [] [] 0 false false 0) (system_record x) (state version date [] (done ++ x ∷ []) [] [] [] 0 false false 0)
unfolding kind_named fields_in has_other_fields after_kind has_other_word is_out_of_place has_bad_date has_closing_date has_bad_name has_bad_id has_bad_number has_bad_amount has_bad_time is_twice has_bad_setup is_past_limit
system_step version date done x kept some new few =
    let both = and_both (is_name x.name) (length x.procedures == 5) kept in
    let five = eqb-true (length x.procedures) 5 both.1 in (
      first_none record_kinds.As (state version date [] done [] [] [] 0 false false 0) (system_record x) refl refl (record {
        words = rw (letters_are x.procedures five some) refl;
        place = refl;
        dates = refl;
        closed = refl;
        names = rw both.0 refl;
        ids = refl;
        numbers = refl;
        amounts = refl;
        times = refl;
        twice = new;
        setup = refl;
        limit = le_not 256 (length done) few;
      }),
      rw (letters_back x.procedures five) refl,
    )

pub systems_run : (version : ℕ) (date : CivilDay) (before done ss : List SystemRecord) → Same before done → systems_are_sound before ss ≡ true → list_all is_kept_system ss ≡ true → list_all is_spelled_system ss ≡ true → length done + length ss ≤ 256
    → RunsTo (state version date [] done [] [] [] 0 false false 0) (map system_record ss) (state version date [] (done ++ ss) [] [] [] 0 false false 0)
systems_run version date before done [] same sound kept spelled few = rw (append-nil done) refl
systems_run version date before done (x ∷ ss) same sound kept spelled few =
    let rest = and_both (not (is_system_name before x.name)) (systems_are_sound (x ∷ before) ss) sound in
    let new : is_system_name done x.name ≡ false = sym (same (λ r. bytes_eq r.name x.name)) ∙ not_true (is_system_name before x.name) rest.0 in
    let kept_parts = and_both (is_kept_system x) (list_all is_kept_system ss) kept in
    let spelled_parts = and_both (is_spelled_system x) (list_all is_spelled_system ss) spelled in
    let long = length-append done (x ∷ []) in
    let more = systems_run version date (x ∷ before) (done ++ x ∷ []) ss (same_next before done x same) rest.1 kept_parts.1 spelled_parts.1 (omega arith) in (
      state version date [] (done ++ x ∷ []) [] [] [] 0 false false 0,
      system_step version date done x kept_parts.0 (and_both (is_name x.name) (lists_some x) spelled_parts.0).1 new (omega arith),
      subst (λ (l : List SystemRecord). RunsTo (state version date [] (done ++ x ∷ []) [] [] [] 0 false false 0) (map system_record ss) (state version date [] l [] [] [] 0 false false 0)) (append_assoc done (x ∷ []) ss) more,
    )

-- ---- accounts

-- the record of an account by its parts
abbrev account_fields : List ℕ → AccountKind → List ℕ → Option (List ℕ) → Option Procedure → ℕ → Fields
account_fields name kind owner system p opening = codes "ACC" ∷ name ∷ kind_word kind ∷ owner ∷ link_text kind system p ∷ amount_text opening ∷ []

abbrev account_whole : List ℕ → AccountKind → List ℕ → Option (List ℕ) → Option Procedure → ℕ → AccountRecord
account_whole name kind owner system p opening = record { name = name; kind = kind; owner = owner; system = system; procedure = p; opening = opening }

link_fine : (kind : AccountKind) (name owner : List ℕ) (system : Option (List ℕ)) (p : Option Procedure) (opening : ℕ) → is_kept_link kind system p ≡ true
    → (has_other_link kind (account_fields name kind owner system p opening) ≡ false) × (list_any (λ f. not (is_name f)) (link_names kind (account_fields name kind owner system p opening)) ≡ false)
unfolding has_other_link technical_named
link_fine account_kinds.Dca name owner system p opening h = (refl, refl)
link_fine account_kinds.Fund name owner system p opening h = (refl, refl)
link_fine account_kinds.Sub name owner None p opening h = cc h
link_fine account_kinds.Sub name owner (Some system) None opening h = (refl, rw h refl)
link_fine account_kinds.Sub name owner (Some system) (Some p) opening h = cc h
link_fine account_kinds.Tech name owner None None opening h = cc h
link_fine account_kinds.Tech name owner None (Some procedures.A) opening h = (refl, refl)
link_fine account_kinds.Tech name owner None (Some procedures.B) opening h = (refl, refl)
link_fine account_kinds.Tech name owner None (Some procedures.C) opening h = (refl, refl)
link_fine account_kinds.Tech name owner None (Some procedures.D) opening h = (refl, refl)
link_fine account_kinds.Tech name owner None (Some procedures.E) opening h = cc h
link_fine account_kinds.Tech name owner (Some system) p opening h = cc h

role_fine : (kind : AccountKind) (s : SoFar) (name owner : List ℕ) (system : Option (List ℕ)) (p : Option Procedure) (opening : ℕ) → is_kept_link kind system p ≡ true
    → is_role_twice kind p s.accounts (account_whole name kind owner system p opening) ≡ false → is_role_taken kind s (account_fields name kind owner system p opening) ≡ false
unfolding is_role_taken technical_named
role_fine account_kinds.Dca s name owner system p opening h e = refl
role_fine account_kinds.Sub s name owner system p opening h e = refl
role_fine account_kinds.Fund s name owner system p opening h e = e
role_fine account_kinds.Tech s name owner system None opening h e = refl
role_fine account_kinds.Tech s name owner system (Some procedures.A) opening h e = e
role_fine account_kinds.Tech s name owner system (Some procedures.B) opening h e = e
role_fine account_kinds.Tech s name owner system (Some procedures.C) opening h e = e
role_fine account_kinds.Tech s name owner system (Some procedures.D) opening h e = e
role_fine account_kinds.Tech s name owner None (Some procedures.E) opening h e = refl
role_fine account_kinds.Tech s name owner (Some system) (Some procedures.E) opening h e = refl

setup_fine : (kind : AccountKind) (s : SoFar) (name owner : List ℕ) (system : Option (List ℕ)) (p : Option Procedure) (opening : ℕ) → opening ≤ MAX_CENTS → is_kept_link kind system p ≡ true
    → fits kind s.systems s.accounts (account_whole name kind owner system p opening) ≡ true → is_unfit kind s (account_fields name kind owner system p opening) ≡ false
unfolding is_unfit technical_named
setup_fine account_kinds.Dca s name owner None None opening small h e = not_true (is_system_name s.systems owner) e
setup_fine account_kinds.Dca s name owner None (Some p) opening small h e = cc h
setup_fine account_kinds.Dca s name owner (Some system) p opening small h e = cc h
setup_fine account_kinds.Fund s name owner None None opening small h e = rw e refl
setup_fine account_kinds.Fund s name owner None (Some p) opening small h e = cc h
setup_fine account_kinds.Fund s name owner (Some system) p opening small h e = cc h
setup_fine account_kinds.Sub s name owner None p opening small h e = cc h
setup_fine account_kinds.Sub s name owner (Some system) None opening small h e =
    let opens = and_both _ (nat_eq opening 0) e in
    let plain = and_both _ true opens.0 in
    let linked = and_both (owns_dca s.accounts owner) (lists s.systems system procedures.C) plain.0 in
    rw (amount_back opening small, linked.0, linked.1, opens.1) refl
setup_fine account_kinds.Sub s name owner (Some system) (Some p) opening small h e = cc h
setup_fine account_kinds.Tech s name owner None None opening small h e = cc e
setup_fine account_kinds.Tech s name owner None (Some procedures.A) opening small h e = let opens = and_both (lists s.systems owner procedures.A) (nat_eq opening 0) e in rw (amount_back opening small, opens.0, opens.1) refl
setup_fine account_kinds.Tech s name owner None (Some procedures.B) opening small h e = let opens = and_both (lists s.systems owner procedures.B) (nat_eq opening 0) e in rw (amount_back opening small, opens.0, opens.1) refl
setup_fine account_kinds.Tech s name owner None (Some procedures.C) opening small h e = let opens = and_both (lists s.systems owner procedures.C) (nat_eq opening 0) e in rw (amount_back opening small, opens.0, opens.1) refl
setup_fine account_kinds.Tech s name owner None (Some procedures.D) opening small h e = let opens = and_both (lists s.systems owner procedures.D) (nat_eq opening 0) e in rw (amount_back opening small, opens.0, opens.1) refl
setup_fine account_kinds.Tech s name owner None (Some procedures.E) opening small h e = cc e
setup_fine account_kinds.Tech s name owner (Some system) p opening small h e = cc h

account_step : (version : ℕ) (date : CivilDay) (systems : List SystemRecord) (done : List AccountRecord) (opened : ℕ) (a : AccountRecord) → is_kept_account a ≡ true → is_name_twice done a ≡ false → is_role_twice a.kind a.procedure done a ≡ false
    → fits a.kind systems done a ≡ true → length done < 4096 → opened + a.opening ≤ MAX_CENTS
    → Step (state version date done systems [] [] [] opened false false 0) (account_record a) (state version date (done ++ a ∷ []) systems [] [] [] (opened + a.opening) false false 0)
unfolding kind_named fields_in has_other_fields after_kind has_other_word is_out_of_place has_bad_date has_closing_date has_bad_name has_bad_id has_bad_number has_bad_amount has_bad_time is_twice has_bad_setup is_past_limit
account_step version date systems done opened a kept name role fit few sum =
    let s = state version date done systems [] [] [] opened false false 0 in
    let all = and_both (is_name a.name && is_name a.owner && is_cents a.opening) (is_kept_link a.kind a.system a.procedure) kept in
    let front = and_both (is_name a.name && is_name a.owner) (is_cents a.opening) all.0 in
    let names = and_both (is_name a.name) (is_name a.owner) front.0 in
    let small = le_meant a.opening MAX_CENTS front.1 in
    let link = link_fine a.kind a.name a.owner a.system a.procedure a.opening all.1 in
    let taken = role_fine a.kind s a.name a.owner a.system a.procedure a.opening all.1 role in
    let unfit = setup_fine a.kind s a.name a.owner a.system a.procedure a.opening small all.1 fit in (
      first_none record_kinds.Acc s (account_record a) refl refl (record {
        words = rw (kind_reads a.kind, link.0) refl;
        place = refl;
        dates = refl;
        closed = refl;
        names = rw (names.0, names.1, kind_reads a.kind, link.1) refl;
        ids = refl;
        numbers = refl;
        amounts = rw (amount_reads a.opening small) refl;
        times = refl;
        twice = rw (name, kind_reads a.kind, taken) refl;
        setup = rw (kind_reads a.kind) unfit;
        limit = rw (le_not 4096 (length done) few, amount_back a.opening small, lt_not MAX_CENTS (opened + a.opening) sum) refl;
      }),
      rw (kind_reads a.kind, link_system a.kind a.system a.procedure all.1, link_procedure a.kind a.system a.procedure all.1, amount_back a.opening small) refl,
    )

role_same : (kind : AccountKind) (p : Option Procedure) (before done : List AccountRecord) (a : AccountRecord) → Same before done → is_role_twice kind p before a ≡ is_role_twice kind p done a
role_same account_kinds.Tech (Some p) before done a same = same (is_technical_for a.owner p)
role_same account_kinds.Tech None before done a same = refl
role_same account_kinds.Fund p before done a same = same (is_fund_for a.owner)
role_same account_kinds.Dca p before done a same = refl
role_same account_kinds.Sub p before done a same = refl

fits_same : (kind : AccountKind) (systems : List SystemRecord) (before done : List AccountRecord) (a : AccountRecord) → Same before done → fits kind systems before a ≡ fits kind systems done a
fits_same account_kinds.Sub systems before done a same = rw (same (λ (r : AccountRecord). is_dca r.kind && bytes_eq r.owner a.owner)) refl
fits_same account_kinds.Dca systems before done a same = refl
fits_same account_kinds.Tech systems before done a same = refl
fits_same account_kinds.Fund systems before done a same = refl

pub accounts_run : (version : ℕ) (date : CivilDay) (systems : List SystemRecord) (before done xs : List AccountRecord) (opened : ℕ) → Same before done → accounts_are_sound systems before xs ≡ true → list_all is_kept_account xs ≡ true
    → length done + length xs ≤ 4096 → opened + sum_by (λ a. a.opening) xs ≤ MAX_CENTS
    → (o : ℕ) × RunsTo (state version date done systems [] [] [] opened false false 0) (map account_record xs) (state version date (done ++ xs) systems [] [] [] o false false 0)
accounts_run version date systems before done [] opened same sound kept few sum = (opened, rw (append-nil done) refl)
accounts_run version date systems before done (a ∷ xs) opened same sound kept few sum =
    let rest = and_both _ (accounts_are_sound systems (a ∷ before) xs) sound in
    let fit = and_both (not (is_name_twice before a) && not (is_role_twice a.kind a.procedure before a)) (fits a.kind systems before a) rest.0 in
    let new = and_both (not (is_name_twice before a)) (not (is_role_twice a.kind a.procedure before a)) fit.0 in
    let kept_parts = and_both (is_kept_account a) (list_all is_kept_account xs) kept in
    let long = length-append done (a ∷ []) in
    let total = sum_by-cons (λ (a : AccountRecord). a.opening) a xs in
    let more = accounts_run version date systems (a ∷ before) (done ++ a ∷ []) xs (opened + a.opening) (same_next before done a same) rest.1 kept_parts.1 (omega arith) (omega arith) in (
      more.0,
      (
        state version date (done ++ a ∷ []) systems [] [] [] (opened + a.opening) false false 0,
        account_step version date systems done opened a kept_parts.0
            (sym (same (λ q. bytes_eq q.name a.name)) ∙ not_true (is_name_twice before a) new.0)
            (sym (role_same a.kind a.procedure before done a same) ∙ not_true (is_role_twice a.kind a.procedure before a) new.1)
            (sym (fits_same a.kind systems before done a same) ∙ fit.1) (omega arith) (omega arith),
        subst (λ (l : List AccountRecord). RunsTo (state version date (done ++ a ∷ []) systems [] [] [] (opened + a.opening) false false 0) (map account_record xs) (state version date l systems [] [] [] more.0 false false 0)) (append_assoc done (a ∷ []) xs) more.1,
      ),
    )

-- ---- what accounts keep

-- its parts
record IsReserveKept (accounts : List AccountRecord) (x : Reserve) : Type 0 where
  name : is_name (name_of_account accounts x.account) ≡ true
  urgent : x.urgent ≤ MAX_CENTS
  high : x.high ≤ MAX_CENTS
  number : number_named accounts (name_of_account accounts x.account) ≡ Some x.account

reserve_parts : (accounts : List AccountRecord) (x : Reserve) → is_kept_reserve accounts x ≡ true → IsReserveKept accounts x
reserve_parts accounts x kept =
    let all = and_both (is_name (name_of_account accounts x.account) && is_cents x.urgent && is_cents x.high) (is_numbered accounts x.account) kept in
    let front = and_both (is_name (name_of_account accounts x.account) && is_cents x.urgent) (is_cents x.high) all.0 in
    let names = and_both (is_name (name_of_account accounts x.account)) (is_cents x.urgent) front.0 in
    record {
      name = names.0;
      urgent = le_meant x.urgent MAX_CENTS names.1;
      high = le_meant x.high MAX_CENTS front.1;
      number = numbered_back accounts x.account all.1;
    }

-- no reserve of the account is among those before it
reserve_step : (version : ℕ) (date : CivilDay) (accounts : List AccountRecord) (systems : List SystemRecord) (opened : ℕ) (done : List Reserve) (x : Reserve) → has_labels version ≡ true → is_kept_reserve accounts x ≡ true
    → is_sound_reserve accounts x ≡ true → list_any (λ y. nat_eq y.account x.account) done ≡ false
    → Step (state version date accounts systems done [] [] opened false false 0) (reserve_record accounts x) (state version date accounts systems (done ++ x ∷ []) [] [] opened false false 0)
unfolding kind_named fields_in has_other_fields after_kind has_other_word is_out_of_place has_bad_date has_closing_date has_bad_name has_bad_id has_bad_number has_bad_amount has_bad_time is_twice is_kept_already has_bad_setup is_past_limit
reserve_step version date accounts systems opened done x second kept sound new =
    let s = state version date accounts systems done [] [] opened false false 0 in
    let p = reserve_parts accounts x kept in
    let own = and_both (is_dca_number accounts x.account) (nat_le (x.urgent + x.high) MAX_CENTS) sound in
    let sum = le_meant (x.urgent + x.high) MAX_CENTS own.1 in (
      first_none record_kinds.Res s (reserve_record accounts x) refl (rw second refl) (record {
        words = rw second refl;
        place = refl;
        dates = refl;
        closed = refl;
        names = rw p.name refl;
        ids = refl;
        numbers = refl;
        amounts = rw (amount_reads x.urgent p.urgent, amount_reads x.high p.high) refl;
        times = refl;
        twice = rw (p.number, new) refl;
        setup = rw (p.number, own.0) refl;
        limit = rw (amount_back x.urgent p.urgent, amount_back x.high p.high, lt_not MAX_CENTS (x.urgent + x.high) sum) refl;
      }),
      rw (p.number, amount_back x.urgent p.urgent, amount_back x.high p.high) refl,
    )

-- those that are new after some are new after one more that isn't among them
abbrev are_new : List Reserve → List Reserve → Bool
are_new done xs = list_all (λ z. not (list_any (λ y. nat_eq y.account z.account) done)) xs

pub new_behind_none : (xs : List Reserve) → are_new [] xs ≡ true
new_behind_none [] = refl
new_behind_none (x ∷ xs) = new_behind_none xs

new_next : (done xs : List Reserve) (x : Reserve) → are_new done xs ≡ true → is_kept_among xs x ≡ false → are_new (done ++ x ∷ []) xs ≡ true
new_next done [] x h k = refl
new_next done (z ∷ zs) x h k =
    let both = and_both (not (list_any (λ y. nat_eq y.account z.account) done)) (are_new done zs) h in
    let neither = or_neither (nat_eq x.account z.account) (is_kept_among zs x) k in
    let own = any_next (λ (y : Reserve). nat_eq y.account z.account) done x (not_true (list_any (λ y. nat_eq y.account z.account) done) both.0) neither.0 in
    λ i. not (own i) && new_next done zs x both.1 neither.1 i

pub reserves_run : (version : ℕ) (date : CivilDay) (accounts : List AccountRecord) (systems : List SystemRecord) (opened : ℕ) (done xs : List Reserve) → (has_labels version || nat_eq (length xs) 0) ≡ true → list_all (is_sound_reserve accounts) xs ≡ true
    → are_kept_once xs ≡ true → are_new done xs ≡ true → list_all (is_kept_reserve accounts) xs ≡ true
    → RunsTo (state version date accounts systems done [] [] opened false false 0) (map (reserve_record accounts) xs) (state version date accounts systems (done ++ xs) [] [] opened false false 0)
reserves_run version date accounts systems opened done [] second each once new kept = rw (append-nil done) refl
reserves_run version date accounts systems opened done (x ∷ xs) second each once new kept =
    let some : nat_eq (length (x ∷ xs)) 0 ≡ false = ne_eqb (length (x ∷ xs)) 0 (λ none. omega (arith, none)) in
    let is : has_labels version ≡ true = sym (or_false (has_labels version)) ∙ ap (λ b. has_labels version || b) (sym some) ∙ second in
    let sound = and_both (is_sound_reserve accounts x) (list_all (is_sound_reserve accounts) xs) each in
    let single = and_both (not (is_kept_among xs x)) (are_kept_once xs) once in
    let fresh = and_both (not (list_any (λ y. nat_eq y.account x.account) done)) (are_new done xs) new in
    let kept_parts = and_both (is_kept_reserve accounts x) (list_all (is_kept_reserve accounts) xs) kept in
    let more = reserves_run version date accounts systems opened (done ++ x ∷ []) xs (λ i. is i || nat_eq (length xs) 0) sound.1 single.1 (new_next done xs x fresh.1 (not_true (is_kept_among xs x) single.0)) kept_parts.1 in (
      state version date accounts systems (done ++ x ∷ []) [] [] opened false false 0,
      reserve_step version date accounts systems opened done x is kept_parts.0 sound.0 (not_true (list_any (λ y. nat_eq y.account x.account) done) fresh.0),
      subst (λ (l : List Reserve). RunsTo (state version date accounts systems (done ++ x ∷ []) [] [] opened false false 0) (map (reserve_record accounts) xs) (state version date accounts systems l [] [] opened false false 0)) (append_assoc done (x ∷ []) xs) more,
    )
