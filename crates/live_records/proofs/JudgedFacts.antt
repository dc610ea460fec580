-- A record that is fine where the day has begun, or a batch is closed, is fine after the accepted records alone.
use Rattle.std.proofs.Common.{◌≡◌, Bool, true, false, not, None, refl}
use Rattle.std.specs.Prelude.{◌||◌, bytes_eq}
use Rattle.std.specs.List.{list_any}
use Rattle.cash_amounts.specs.declared.records.AccountKind.{AccountKind}
use Rattle.cash_amounts.specs.declared.records.AccountKind.TheVariants as account_kinds
use Rattle.batch_records.specs.Codes.{first_code, has_bad_setup, has_bad_time, is_kept_already, is_out_of_place, is_past_limit, is_role_taken, is_twice, is_unfit}
use Rattle.batch_records.specs.Kinds.{account_kind_in}
use Rattle.batch_records.specs.Records.{Fields, field}
use Rattle.batch_records.specs.declared.kinds.RecordKind.{RecordKind}
use Rattle.batch_records.specs.declared.kinds.RecordKind.TheVariants as record_kinds
use Rattle.batch_records.specs.declared.so_far.SoFar.{SoFar}
use Rattle.batch_records.proofs.Fine.{fine, fine_form, kind_known}
use Rattle.batch_records.proofs.RunFacts.{first_none}

-- what is so far, where one says by itself whether the day has begun and a batch is open
abbrev pub told_so : SoFar → Bool → Bool → SoFar
told_so s begun in_batch = record s { begun = begun; in_batch = in_batch }

last_less : (x y b c : Bool) → (c ≡ true → b ≡ true) → (x || y || b) ≡ false → (x || y || c) ≡ false
last_less false false false false h e = refl
last_less false false false true h e = let clash : false ≡ true = h refl in cc clash
last_less false false true c h e = cc e
last_less false true b c h e = cc e
last_less true y b c h e = cc e

turned : (a b : Bool) → (a ≡ true → b ≡ true) → not b ≡ true → not a ≡ true
turned false b h e = refl
turned true false h e = let clash : false ≡ true = h refl in cc clash
turned true true h e = cc e

less_place : (kind : RecordKind) (s : SoFar) (b c : Bool) → (s.begun ≡ true → b ≡ true) → (c ≡ true → s.in_batch ≡ true) → is_out_of_place kind (told_so s b c) ≡ false → is_out_of_place kind s ≡ false
unfolding is_out_of_place
less_place record_kinds.Ver s b c h g e = e
less_place record_kinds.Day s b c h g e = e
less_place record_kinds.As s b c h g e = last_less (not s.started) s.ended b s.begun h e
less_place record_kinds.Acc s b c h g e = last_less (not s.started) s.ended b s.begun h e
less_place record_kinds.Res s b c h g e = last_less (not s.started) s.ended b s.begun h e
less_place record_kinds.Bat s b c h g e = e
less_place record_kinds.Ent s b c h g e = last_less (not s.started) s.ended (not c) (not s.in_batch) (turned c s.in_batch g) e
less_place record_kinds.Pay s b c h g e = e
less_place record_kinds.Liq s b c h g e = e
less_place record_kinds.Obj s b c h g e = e
less_place record_kinds.Cnf s b c h g e = e
less_place record_kinds.Cyc s b c h g e = e
less_place record_kinds.Tim s b c h g e = e
less_place record_kinds.End s b c h g e = e

less_time : (kind : RecordKind) (s : SoFar) (b c : Bool) (r : Fields) → has_bad_time kind (told_so s b c) r ≡ false → has_bad_time kind s r ≡ false
unfolding has_bad_time
less_time record_kinds.Ver s b c r e = e
less_time record_kinds.Day s b c r e = e
less_time record_kinds.As s b c r e = e
less_time record_kinds.Acc s b c r e = e
less_time record_kinds.Res s b c r e = e
less_time record_kinds.Bat s b c r e = e
less_time record_kinds.Ent s b c r e = e
less_time record_kinds.Pay s b c r e = e
less_time record_kinds.Liq s b c r e = e
less_time record_kinds.Obj s b c r e = e
less_time record_kinds.Cnf s b c r e = e
less_time record_kinds.Cyc s b c r e = e
less_time record_kinds.Tim s b c r e = e
less_time record_kinds.End s b c r e = e

less_twice : (kind : RecordKind) (s : SoFar) (b c : Bool) (r : Fields) → is_twice kind (told_so s b c) r ≡ false → is_twice kind s r ≡ false
unfolding is_twice is_role_taken is_kept_already
less_twice record_kinds.Ver s b c r e = e
less_twice record_kinds.Day s b c r e = e
less_twice record_kinds.As s b c r e = e
less_twice record_kinds.Acc s b c r e = by (account_kind_in r) e
  where
    by : (a : AccountKind) → (list_any (λ x. bytes_eq x.name (field r 1)) s.accounts || is_role_taken a (told_so s b c) r) ≡ false → (list_any (λ x. bytes_eq x.name (field r 1)) s.accounts || is_role_taken a s r) ≡ false
    by account_kinds.Dca e = e
    by account_kinds.Sub e = e
    by account_kinds.Tech e = e
    by account_kinds.Fund e = e
less_twice record_kinds.Res s b c r e = e
less_twice record_kinds.Bat s b c r e = e
less_twice record_kinds.Ent s b c r e = e
less_twice record_kinds.Pay s b c r e = e
less_twice record_kinds.Liq s b c r e = e
less_twice record_kinds.Obj s b c r e = e
less_twice record_kinds.Cnf s b c r e = e
less_twice record_kinds.Cyc s b c r e = e
less_twice record_kinds.Tim s b c r e = e
less_twice record_kinds.End s b c r e = e

less_setup : (kind : RecordKind) (s : SoFar) (b c : Bool) (r : Fields) → has_bad_setup kind (told_so s b c) r ≡ false → has_bad_setup kind s r ≡ false
unfolding has_bad_setup is_unfit
less_setup record_kinds.Ver s b c r e = e
less_setup record_kinds.Day s b c r e = e
less_setup record_kinds.As s b c r e = e
less_setup record_kinds.Acc s b c r e = by (account_kind_in r) e
  where
    by : (a : AccountKind) → is_unfit a (told_so s b c) r ≡ false → is_unfit a s r ≡ false
    by account_kinds.Dca e = e
    by account_kinds.Sub e = e
    by account_kinds.Tech e = e
    by account_kinds.Fund e = e
less_setup record_kinds.Res s b c r e = e
less_setup record_kinds.Bat s b c r e = e
less_setup record_kinds.Ent s b c r e = e
less_setup record_kinds.Pay s b c r e = e
less_setup record_kinds.Liq s b c r e = e
less_setup record_kinds.Obj s b c r e = e
less_setup record_kinds.Cnf s b c r e = e
less_setup record_kinds.Cyc s b c r e = e
less_setup record_kinds.Tim s b c r e = e
less_setup record_kinds.End s b c r e = e

less_limit : (kind : RecordKind) (s : SoFar) (b c : Bool) (r : Fields) → is_past_limit kind (told_so s b c) r ≡ false → is_past_limit kind s r ≡ false
unfolding is_past_limit
less_limit record_kinds.Ver s b c r e = e
less_limit record_kinds.Day s b c r e = e
less_limit record_kinds.As s b c r e = e
less_limit record_kinds.Acc s b c r e = e
less_limit record_kinds.Res s b c r e = e
less_limit record_kinds.Bat s b c r e = e
less_limit record_kinds.Ent s b c r e = e
less_limit record_kinds.Pay s b c r e = e
less_limit record_kinds.Liq s b c r e = e
less_limit record_kinds.Obj s b c r e = e
less_limit record_kinds.Cnf s b c r e = e
less_limit record_kinds.Cyc s b c r e = e
less_limit record_kinds.Tim s b c r e = e
less_limit record_kinds.End s b c r e = e

pub code_less : (s : SoFar) (b c : Bool) (r : Fields) → (s.begun ≡ true → b ≡ true) → (c ≡ true → s.in_batch ≡ true) → first_code (told_so s b c) r ≡ None → first_code s r ≡ None
code_less s b c r h g e =
    let known = kind_known (told_so s b c) r e in
    let kind : RecordKind = known.0 in
    let f = fine kind (told_so s b c) r e known.1 in
    first_none kind s r known.1 (fine_form kind (told_so s b c) r e known.1) (record {
      words = f.words;
      place = less_place kind s b c h g f.place;
      dates = f.dates;
      closed = f.closed;
      names = f.names;
      ids = f.ids;
      numbers = f.numbers;
      amounts = f.amounts;
      times = less_time kind s b c r f.times;
      twice = less_twice kind s b c r f.twice;
      setup = less_setup kind s b c r f.setup;
      limit = less_limit kind s b c r f.limit;
    })
