-- A record with more fields than any of a day has is refused for its first field alone, whatever follows it.
use Rattle.std.proofs.Common.{◌≡◌, ◌∙◌, ◌+◌, ◌<◌, ◌≤◌, ℕ, Bool, true, false, not, cond, List, [], ◌∷◌, ◌++◌, Option, Some, None, length, refl, sym, ap, arith}
use Rattle.std.specs.Prelude.{◌==◌, ◌&&◌, nat_le, filter_map, find, option_map, if◌then◌else◌, Err, Result}
use Rattle.std.specs.List.{cons_option, enumerate_from}
use Rattle.std.specs.Option.{option_map_or}
use Rattle.std.proofs.lemmas.Bool.{ne_eqb}
use Rattle.batch_records.specs.Codes.{applies, code_of, codes_in_order, first_code}
use Rattle.batch_records.specs.Days.{bad_records, fault_at, missing_end, unless_bad}
use Rattle.batch_records.specs.DayAnswers.{day_of}
use Rattle.batch_records.specs.Kinds.{fields_in, has_other_word, kind_of, has_other_fields}
use Rattle.batch_records.specs.Made.{day_made}
use Rattle.batch_records.specs.Records.{Fields, field}
use Rattle.batch_records.specs.DayRecord.{Day}
use Rattle.batch_records.specs.declared.day.DayCode.{DayCode}
use Rattle.batch_records.specs.declared.day.DayCode.TheVariants as day_codes
use Rattle.batch_records.specs.declared.kinds.RecordKind.{RecordKind}
use Rattle.batch_records.specs.declared.kinds.RecordKind.TheVariants as record_kinds
use Rattle.batch_records.specs.declared.so_far.SoFar.{SoFar}
use Rattle.batch_records.proofs.BoolFacts.{not_false, not_true}
use Rattle.batch_records.proofs.JudgeFacts.{bad-split}
use Rattle.batch_records.specs.Versions.{behind, from_label, from_place, has_label, has_stated_times, info_label, is_never_early, has_labels, states_from, till_label, till_place}

differs : (n m : ℕ) → m < n → (n == m) ≡ false
differs n m less = ne_eqb n m (λ is. absurd (omega (arith, less, is)))

-- no record of a kind has so many fields, in a day of either version
behind_by : (b : Bool) (i : ℕ) → (if b then i + 1 else i) ≤ i + 1
behind_by true i = omega arith
behind_by false i = omega arith

-- a batch of version 2 states at most three times
pub few_behind : (r : Fields) → behind till_label r (till_place r) ≤ 9
few_behind r =
    let from = behind_by (has_label info_label (field r 6)) 6 in
    let till = behind_by (has_label from_label (field r (from_place r))) (from_place r) in
    let last = behind_by (has_label till_label (field r (till_place r))) (till_place r) in
    omega (arith, from, till, last)

-- no batch of version 2 has so many fields
long_times : (r : Fields) → 9 < length r → has_stated_times r ≡ false
unfolding has_stated_times
long_times r l =
    let few = few_behind r in
    let other : (behind till_label r (till_place r) == length r) ≡ false = ne_eqb (behind till_label r (till_place r)) (length r) (λ is. absurd (omega (arith, l, few, is))) in
    third (nat_le 6 (length r)) (behind till_label r (till_place r) == length r) (not (states_from r && is_never_early (field r 3))) other
  where
    third : (a b c : Bool) → b ≡ false → (a && b && c) ≡ false
    third true b c e = rw e refl
    third false b c e = refl

-- RES is no kind of a day of version 1
abbrev pub is_foreign : ℕ → RecordKind → Bool
is_foreign version record_kinds.Res = not (has_labels version)
is_foreign version _ = false

other_long : (version : ℕ) (kind : RecordKind) (r : Fields) → 9 < length r → is_foreign version kind ≡ false → has_other_fields version kind r ≡ true
unfolding has_other_fields fields_in
other_long version record_kinds.Bat r l own =
    let times = long_times r l in
    let eight = differs (length r) 8 (omega (arith, l)) in
    elim (has_labels version) as (λ b. not (if b then has_stated_times r else length r == fields_in record_kinds.Bat) ≡ true) [
      | true ↦ ap not times
      | false ↦ rw eight refl
    ]
other_long version record_kinds.Res r l own = rw (not_false (has_labels version) own, differs (length r) 4 (omega (arith, l))) refl
other_long version record_kinds.Ver r l own = ap not (differs (length r) 2 (omega (arith, l)))
other_long version record_kinds.Day r l own = ap not (differs (length r) 2 (omega (arith, l)))
other_long version record_kinds.As r l own = ap not (differs (length r) 3 (omega (arith, l)))
other_long version record_kinds.Acc r l own = ap not (differs (length r) 6 (omega (arith, l)))
other_long version record_kinds.Ent r l own = ap not (differs (length r) 4 (omega (arith, l)))
other_long version record_kinds.Pay r l own = ap not (differs (length r) 7 (omega (arith, l)))
other_long version record_kinds.Liq r l own = ap not (differs (length r) 6 (omega (arith, l)))
other_long version record_kinds.Obj r l own = ap not (differs (length r) 5 (omega (arith, l)))
other_long version record_kinds.Cnf r l own = ap not (differs (length r) 5 (omega (arith, l)))
other_long version record_kinds.Cyc r l own = ap not (differs (length r) 4 (omega (arith, l)))
other_long version record_kinds.Tim r l own = ap not (differs (length r) 2 (omega (arith, l)))
other_long version record_kinds.End r l own = ap not (differs (length r) 1 (omega (arith, l)))

foreign_word : (version : ℕ) (kind : RecordKind) (r : Fields) → is_foreign version kind ≡ true → (has_other_fields version kind r ≡ false) × (has_other_word version kind r ≡ true)
unfolding has_other_fields has_other_word
foreign_word version record_kinds.Res r e = let first = not_true (has_labels version) e in (rw first refl, rw first refl)
foreign_word version _ r e = cc e

-- what is told of it, in a day of this version
pub long_code : ℕ → Option RecordKind → DayCode
long_code version None = day_codes.Kind
long_code version (Some kind) = if is_foreign version kind then day_codes.Kind else day_codes.Fields

rest : List DayCode
rest = day_codes.Kind ∷ day_codes.Place ∷ day_codes.Date ∷ day_codes.Closed ∷ day_codes.Name ∷ day_codes.Id ∷ day_codes.Number ∷ day_codes.Amount ∷ day_codes.Time ∷ day_codes.Twice ∷ day_codes.Setup ∷ day_codes.Limit ∷ []

late : List DayCode
late = day_codes.Place ∷ day_codes.Date ∷ day_codes.Closed ∷ day_codes.Name ∷ day_codes.Id ∷ day_codes.Number ∷ day_codes.Amount ∷ day_codes.Time ∷ day_codes.Twice ∷ day_codes.Setup ∷ day_codes.Limit ∷ []

pub long : (s : SoFar) (r : Fields) → 9 < length r → first_code s r ≡ Some (long_code s.version (kind_of r))
unfolding first_code long_code rest late
long s r l = by (kind_of r) refl
  where
    told : (fields word : Bool) → applies day_codes.Fields s r ≡ fields → applies day_codes.Kind s r ≡ word → find (λ c. applies c s r) codes_in_order ≡ cond fields (Some day_codes.Fields) (cond word (Some day_codes.Kind) (find (λ c. applies c s r) late))
    told fields word f w = ap (λ b. cond b (Some day_codes.Fields) (find (λ c. applies c s r) rest)) f ∙ ap (λ b. cond fields (Some day_codes.Fields) (cond b (Some day_codes.Kind) (find (λ c. applies c s r) late))) w

    of_kind : (kind : RecordKind) → kind_of r ≡ Some kind → (b : Bool) → is_foreign s.version kind ≡ b → find (λ c. applies c s r) codes_in_order ≡ Some (if b then day_codes.Kind else day_codes.Fields)
    of_kind kind e true g =
        let both = foreign_word s.version kind r g in
        let fields : applies day_codes.Fields s r ≡ false = ap (λ x. option_map_or (λ kind. has_other_fields s.version kind r) x false) e ∙ both.0 in
        let word : applies day_codes.Kind s r ≡ true = ap (λ x. option_map_or (λ kind. has_other_word s.version kind r) x true) e ∙ both.1 in
        told false true fields word
    of_kind kind e false g =
        let fields : applies day_codes.Fields s r ≡ true = ap (λ x. option_map_or (λ kind. has_other_fields s.version kind r) x false) e ∙ other_long s.version kind r l g in
        ap (λ b. cond b (Some day_codes.Fields) (find (λ c. applies c s r) rest)) fields

    by : (o : Option RecordKind) → kind_of r ≡ o → find (λ c. applies c s r) codes_in_order ≡ Some (long_code s.version (kind_of r))
    by None e =
        let fields : applies day_codes.Fields s r ≡ false = ap (λ x. option_map_or (λ kind. has_other_fields s.version kind r) x false) e in
        let word : applies day_codes.Kind s r ≡ true = ap (λ x. option_map_or (λ kind. has_other_word s.version kind r) x true) e in
        told false true fields word ∙ sym (ap (λ x. Some (long_code s.version x)) e)
    by (Some kind) e = of_kind kind e (is_foreign s.version kind) refl ∙ sym (ap (λ x. Some (long_code s.version x)) e)

-- the first of some faults and one after them
pub told : List (ℕ × DayCode) → ℕ × DayCode → ℕ × DayCode
told [] f = f
told (b ∷ bs) f = b

tells : (bad others more : List (ℕ × DayCode)) (f : ℕ × DayCode) (day : Day) → unless_bad ((bad ++ f ∷ others) ++ more) day ≡ Err (told bad f)
unfolding told
tells [] others more f day = refl
tells (b ∷ bs) others more f day = refl

-- what is told where a record after others has a code
abbrev pub told_at : List Fields → DayCode → Result Day (ℕ × DayCode)
told_at taken c = Err (told (bad_records taken) (length taken + 1, c))

pub day_tells : (taken : List Fields) (r : Fields) (more : List Fields) (c : DayCode) → code_of taken r ≡ Some c → day_of (taken ++ r ∷ more) ≡ told_at taken c
day_tells taken r more c e =
    let all = taken ++ r ∷ more in
    ap (λ bad. unless_bad (bad ++ missing_end all) (day_made all)) (bad-split taken r more ∙ ap (λ o. bad_records taken ++ cons_option (option_map (λ x. (length taken + 1, x)) o) (filter_map (fault_at all) (enumerate_from (length taken + 1) more))) e)
    ∙ tells (bad_records taken) (filter_map (fault_at all) (enumerate_from (length taken + 1) more)) (missing_end all) (length taken + 1, c) (day_made all)
