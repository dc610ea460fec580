-- A setup with one more record that is fine is no larger than a day's may be; and by which records it is over.
use Rattle.std.proofs.Common.{◌≡◌, ◌<◌, Bool, true, false, not, [], ◌∷◌, ◌++◌, Some, None, length, refl, sym, arith, subst}
use Rattle.std.specs.Prelude.{◌||◌}
use Rattle.std.proofs.lemmas.List.{length_push}
use Rattle.cash_amounts.specs.declared.limits.TheConstants.{MAX_ACCOUNTS}
use Rattle.batch_records.specs.Codes.{first_code, is_out_of_place}
use Rattle.batch_records.specs.Kinds.{kind_of}
use Rattle.batch_records.specs.Made.{reserve_from}
use Rattle.batch_records.specs.Records.{Fields}
use Rattle.batch_records.specs.Step.{IsInStep, after, after_kind}
use Rattle.batch_records.specs.Tallies.{is_behind_setup, is_over_kind, is_setup_kind, is_setup_over}
use Rattle.batch_records.specs.declared.kinds.RecordKind.{RecordKind}
use Rattle.batch_records.specs.declared.kinds.RecordKind.TheVariants as record_kinds
use Rattle.batch_records.specs.declared.so_far.SoFar.{SoFar}
use Rattle.batch_records.proofs.BoolFacts.{not_false, or_neither}
use Rattle.batch_records.proofs.Fine.{fine, kind_known}
use Rattle.batch_records.proofs.KeptFacts.{in_step_next, setup_so_far, version_so_far}
use Rattle.batch_records.proofs.SoundFacts.{few_reserves}

with_reserve : (s : SoFar) (r : Fields) → kind_of r ≡ Some record_kinds.Res → (after s r).reserves ≡ s.reserves ++ reserve_from s.accounts r ∷ []
unfolding after_kind
with_reserve s r is = rw is refl

with_reserve_accounts : (s : SoFar) (r : Fields) → kind_of r ≡ Some record_kinds.Res → (after s r).accounts ≡ s.accounts
unfolding after_kind
with_reserve_accounts s r is = rw is refl

-- no more accounts keep amounts than there are
pub reserve_count : (s : SoFar) (r : Fields) → first_code s r ≡ None → IsInStep s → kind_of r ≡ Some record_kinds.Res → length s.reserves < MAX_ACCOUNTS
reserve_count s r none step is =
    let next = in_step_next s r none step in
    let v = version_so_far (after s r) next in
    let few = few_reserves (after s r).accounts (after s r).reserves v.each v.once in
    let now = rw (with_reserve s r is, with_reserve_accounts s r is) at few in
    omega (arith, now, length_push s.reserves (reserve_from s.accounts r), (setup_so_far s step).few_accounts)

-- ---- by which records it is over

over_placed : (kind : RecordKind) (s : SoFar) → is_over_kind kind ≡ true → is_out_of_place kind s ≡ false → s.started ≡ true
unfolding is_out_of_place
over_placed record_kinds.Ver s over place = cc over
over_placed record_kinds.Day s over place = cc over
over_placed record_kinds.As s over place = cc over
over_placed record_kinds.Acc s over place = cc over
over_placed record_kinds.Res s over place = cc over
over_placed record_kinds.Ent s over place = not_false s.started (or_neither (not s.started) s.ended (or_neither (not s.started || s.ended) (not s.in_batch) place).0).0
over_placed record_kinds.Bat s over place = not_false s.started (or_neither (not s.started) s.ended place).0
over_placed record_kinds.Pay s over place = not_false s.started (or_neither (not s.started) s.ended place).0
over_placed record_kinds.Liq s over place = not_false s.started (or_neither (not s.started) s.ended place).0
over_placed record_kinds.Obj s over place = not_false s.started (or_neither (not s.started) s.ended place).0
over_placed record_kinds.Cnf s over place = not_false s.started (or_neither (not s.started) s.ended place).0
over_placed record_kinds.Cyc s over place = not_false s.started (or_neither (not s.started) s.ended place).0
over_placed record_kinds.Tim s over place = not_false s.started (or_neither (not s.started) s.ended place).0
over_placed record_kinds.End s over place = not_false s.started (or_neither (not s.started) s.ended place).0

-- before it the day began
pub over_started : (s : SoFar) (r : Fields) → first_code s r ≡ None → is_setup_over r ≡ true → s.started ≡ true
over_started s r none over =
    let known = kind_known s r none in
    over_placed known.0 s (rw known.1 at over) (fine known.0 s r none known.1).place

behind : (kind : RecordKind) (b : Bool) → is_over_kind kind ≡ true → (b || not (is_setup_kind kind)) ≡ true
behind kind true over = refl
behind record_kinds.Ver false over = refl
behind record_kinds.Day false over = refl
behind record_kinds.As false over = cc over
behind record_kinds.Acc false over = cc over
behind record_kinds.Res false over = cc over
behind record_kinds.Ent false over = refl
behind record_kinds.Bat false over = refl
behind record_kinds.Pay false over = refl
behind record_kinds.Liq false over = refl
behind record_kinds.Obj false over = refl
behind record_kinds.Cnf false over = refl
behind record_kinds.Cyc false over = refl
behind record_kinds.Tim false over = refl
behind record_kinds.End false over = refl

-- and it stands after the setup
pub over_behind : (s : SoFar) (r : Fields) → first_code s r ≡ None → is_setup_over r ≡ true → is_behind_setup s r ≡ true
over_behind s r none over =
    let known = kind_known s r none in
    rw known.1 (behind known.0 s.begun (rw known.1 at over))

-- what is taken, or stays out, leaves what records come to in step
pub step_kept : (s new : SoFar) (r : Fields) (taken : Bool) → first_code s r ≡ None → IsInStep s → (taken ≡ true → new ≡ after s r) → (taken ≡ false → new ≡ s) → IsInStep new
step_kept s new r true none step added stays = subst IsInStep (sym (added refl)) (in_step_next s r none step)
step_kept s new r false none step added stays = subst IsInStep (sym (stays refl)) step
