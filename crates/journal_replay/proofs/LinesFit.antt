-- Each line of a legal journal of a sound day can be said by a text: its numbers are within the limits of one.
use Rattle.std.proofs.Common.{◌≡◌, ℕ, suc, ◌+◌, ◌<◌, ◌≤◌, inl, inr, true, not, List, [], ◌∷◌, length, Option, Some, None, is_none, refl, sym, subst, arith}
use Rattle.std.specs.Prelude.{nat_lt}
use Rattle.std.specs.Option.{IsSomeAnd}
use Rattle.std.proofs.lemmas.Bool.{and_parts, ltb-true}
use Rattle.std.proofs.lemmas.List.{length-map}
use Rattle.cash_amounts.specs.declared.cents.TheConstants.{MAX_CENTS}
use Rattle.cash_amounts.specs.declared.limits.TheConstants.{MAX_ACCOUNTS, MAX_ENTRIES}
use Rattle.batch_records.specs.DayRecord.{Day}
use Rattle.batch_records.specs.Sound.{is_sound}
use Rattle.batch_records.specs.Versions.{most_messages}
use Rattle.commit_journal.specs.declared.line.Move.{Move}
use Rattle.commit_journal.specs.declared.line.Code.{Code}
use Rattle.commit_journal.specs.declared.line.Code.TheVariants as line_codes
use Rattle.commit_journal.specs.declared.line.Kind.{Kind}
use Rattle.commit_journal.specs.declared.line.Kind.TheVariants as kinds
use Rattle.commit_journal.specs.Line.{Line, History}
use Rattle.commit_journal.specs.LineLaws.{FitMoves, FitsLine}
use Rattle.commit_journal.proofs.FieldLemmas.{some_is}
use Rattle.machine.specs.Words.{some_passes}
use Rattle.machine.specs.Records.Setup.{is_sub_account}
use Rattle.machine.specs.Records.Messages.{Sort, BatchD, Liquidity, sort_of, is_message, is_b, is_a_or_b, entries, part, transfer, move_of, technical_account}
use Rattle.machine.specs.Telling.History.{clock, taken}
use Rattle.machine.specs.Telling.Balances.{balance}
use Rattle.machine.specs.Stages.Phases.{phase, is_overdue, is_answered}
use Rattle.machine.specs.Telling.Facts.{is_reached, untaken_earlier}
use Rattle.machine.specs.Stages.Intake.{intake_code, intake_moves, moves_as, afforded_in_order}
use Rattle.machine.specs.Stages.Pending.{is_pending, pending_as}
use Rattle.machine.specs.Making.Accounts.{accounts_of_want}
use Rattle.machine.specs.Making.Lines.{may_lapse, fund_suffices, is_ready}
use Rattle.machine.specs.Legal.{IsLegal, want_of}
use Rattle.rule_book.proofs.FewEntries.{few_entries}
use Rattle.settlement_laws.proofs.Base.Lists.{IsIn, all_of}
use Rattle.settlement_laws.proofs.Base.Made.{Made, made_facts}
use Rattle.settlement_laws.proofs.DayEnd.Stops.{message_is, next_stop-bounds}
use Rattle.settlement_laws.proofs.Base.SoundParts.{few_lines, sound_parts}
use Rattle.settlement_laws.proofs.DayEnd.LineBound.{account_within, a_or_b_message, b_message, bookable, lapses_message, length-bound, part_within, refused_row}
use Rattle.settlement_laws.proofs.Balances.MovesOfTheDay.{MovesInRange, line_in_range}
use Rattle.settlement_laws.proofs.Balances.MovesAreReal.{line_fair}
use Rattle.settlement_laws.proofs.Base.Sound.{subs_have_dca}
use Rattle.settlement_laws.proofs.DayEnd.MoveBound.{turn_length, whole_length, one_transfer, one_part, reversal_length, cover_length}
use Rattle.settlement_laws.proofs.Base.PhaseLaws.{open_unsettled}
use Rattle.settle_floor.specs.Carrying.{CanMoveAll, moved_by}
use Rattle.settle_floor.proofs.Making.{moves_can}

-- ---- lengths

taken_length : (s : Sort) (day : Day) (J : History) (n : ℕ) → length (entries day n) ≤ MAX_ENTRIES → length (moves_as s day J n) ≤ MAX_ENTRIES
taken_length Liquidity day J n few = omega (arith, one_transfer day (transfer day n))
taken_length BatchD day J n few =
    let a = length-map (afforded_in_order (balance day J (technical_account day n)) (entries day n)) (move_of day) in
    let b = turn_length (balance day J (technical_account day n)) (entries day n) in
    omega (arith, a, b, few)
taken_length _ day J n few = omega arith

intake_length : (code : Code) (day : Day) (J : History) (n : ℕ) → length (entries day n) ≤ MAX_ENTRIES → length (intake_moves day J n code) ≤ MAX_ENTRIES
intake_length line_codes.Ok day J n few = taken_length (sort_of day n) day J n few
intake_length _ day J n few = omega arith

-- ---- the numbers of each line

record IsSmall (day : Day) (n k : ℕ) (moves : List Move) : Type 0 where
  msg : n ≤ most_messages day.version
  entry : k ≤ 86400
  count : length moves ≤ MAX_ENTRIES

message_small : (day : Day) (n : ℕ) → is_sound day ≡ true → is_message (sort_of day n) ≡ true → n ≤ most_messages day.version
message_small day n sound m =
    let at = message_is day n m in
    let number : n ≡ suc at.place = at.number in
    let within : at.place < length day.messages = at.within in
    let few = (sound_parts day sound).messages_fit in
    omega (arith, number, within, few)

few_moves : (moves these : List Move) → moves ≡ these → length these ≤ MAX_ENTRIES → length moves ≤ MAX_ENTRIES
few_moves moves these e h = subst (λ (xs : List Move). length xs ≤ MAX_ENTRIES) (sym e) h

module _ (day : Day) (n : ℕ) (sound : is_sound day ≡ true) where
  few : length (entries day n) ≤ MAX_ENTRIES
  few = few_entries day n sound

  small : (kind : Kind) (J : History) (k : ℕ) (code : Code) (moves : List Move) → Made kind day J n k code moves → IsSmall day n k moves
  unfolding is_pending
  small kinds.In J k code moves m =
      let a = and_parts _ (is_none (untaken_earlier day J n)) m.0 in
      let b = and_parts _ (is_reached day J n) a.0 in
      let c = and_parts (is_message (sort_of day n)) (is_none (taken J n)) b.0 in
      let none = m.4 in
      record { msg = message_small day n sound c.0; entry = omega (arith, none); count = few_moves moves _ m.2 (intake_length (intake_code day J n) day J n few) }
  small kinds.Book J k code moves m =
      let a = and_parts _ (some_passes _ (part day n k)) m.0 in
      let b = and_parts (pending_as (sort_of day n) day J n k (phase day J n)) (not (is_b (sort_of day n))) a.0 in
      let can = bookable (sort_of day n) day J n k (phase day J n) (open_unsettled day J n) b.1 b.0 in
      let one = one_part day (part day n k) in
      record {
        msg = message_small day n sound can.message;
        entry = elim can.whole_or_entry [
          | inl z ↦ let none = z.0 in omega (arith, none)
          | inr low ↦ let within = part_within day n k _ low.0 a.1 in omega (arith, within, few)
        ];
        count = few_moves moves _ m.2 (omega (arith, one));
      }
  small kinds.All J k code moves m =
      let b = and_parts (is_b (sort_of day n)) (pending_as (sort_of day n) day J n 0 (phase day J n)) (and_parts _ _ (and_parts _ _ m.0).0).0 in
      let none = m.4 in
      let same = whole_length day n (move_of day) (move_of day) in
      record { msg = message_small day n sound (b_message (sort_of day n) b.0); entry = omega (arith, none); count = few_moves moves _ m.2 (omega (arith, same, few)) }
  small kinds.Time J k code moves m =
      let early : clock J < 86400 = ltb-true _ _ (and_parts (nat_lt (clock J) 86400) _ (and_parts _ (not (is_ready day J)) m.0).0).0 in
      let next = (next_stop-bounds day J early).1 in
      let none = m.3 in
      let at = m.4 in
      record { msg = omega (arith, none); entry = omega (arith, at, next); count = few_moves moves _ m.2 (omega arith) }
  small kinds.Expire J k code moves m =
      let b = and_parts (may_lapse (sort_of day n)) (is_overdue (phase day J n)) (and_parts _ _ m.0).0 in
      let none = m.4 in
      let long = reversal_length (sort_of day n) day J n in
      record { msg = message_small day n sound (lapses_message (sort_of day n) b.0); entry = omega (arith, none); count = few_moves moves _ m.2 (omega (arith, long, few)) }
  small kinds.Ask J k code moves m =
      let b = and_parts (is_a_or_b (sort_of day n)) (is_overdue (phase day J n)) (and_parts _ _ (and_parts _ _ m.0).0).0 in
      let none = m.4 in
      record { msg = message_small day n sound (a_or_b_message (sort_of day n) b.0); entry = omega (arith, none); count = few_moves moves _ m.2 (omega arith) }
  small kinds.Cover J k code moves m =
      let b = and_parts (is_a_or_b (sort_of day n)) (is_answered (phase day J n)) (and_parts _ _ (and_parts _ _ m.0).0).0 in
      let none = m.4 in
      let long = cover_length (sort_of day n) day J n in
      record { msg = message_small day n sound (a_or_b_message (sort_of day n) b.0); entry = omega (arith, none); count = few_moves moves _ m.2 (omega (arith, long, few)) }
  small kinds.Refuse J k code moves m =
      let r = refused_row (is_a_or_b (sort_of day n)) (phase day J n) _ (fund_suffices day J n) _ _ _ _ code m.0 in
      let none = m.4 in
      let long = reversal_length (sort_of day n) day J n in
      record { msg = message_small day n sound (a_or_b_message (sort_of day n) r.0); entry = omega (arith, none); count = few_moves moves _ m.2 (omega (arith, long, few)) }
  small kinds.Sweep J k code moves m =
      let sub = (and_parts (is_sub_account day k) _ (and_parts _ _ m.0).0).0 in
      let at = (account_within day k sub).1 in
      let accounts = (sound_parts day sound).few_accounts in
      let none = m.3 in
      record { msg = omega (arith, none); entry = omega (arith, at, accounts); count = few_moves moves _ m.2 (omega arith) }
  small kinds.End J k code moves m =
      let none = m.3 in
      let zero_entry = m.4 in
      record { msg = omega (arith, none); entry = omega (arith, zero_entry); count = few_moves moves _ m.2 (omega arith) }

-- ---- the moves of each line

-- what has room on an account is no greater than what an account can hold
below_limit : (o : Option ℕ) (amount : ℕ) → IsSomeAnd o (λ held. held + amount ≤ MAX_CENTS) → amount ≤ MAX_CENTS
below_limit (Some held) amount h = omega (arith, h)
below_limit None amount h = absurd h

fit_moves : (day : Day) (holdings : ℕ → Option ℕ) (moves : List Move) → length day.accounts ≤ MAX_ACCOUNTS → MovesInRange day moves → ((m : Move) → IsIn m moves → 1 ≤ m.amount) → CanMoveAll holdings moves → FitMoves moves
fit_moves day holdings [] few range some can = tt
fit_moves day holdings (m ∷ moves) few range some can =
    let debit = range.0.0 in
    let credit = range.0.1 in
    let from = debit.1 in
    let from_within = debit.2 in
    let to = credit.1 in
    let to_within = credit.2 in (
      record {
        debit_from = omega (arith, from);
        debit_to = omega (arith, from, from_within, few);
        credit_from = omega (arith, to);
        credit_to = omega (arith, to, to_within, few);
        amount_from = some m (inl refl);
        amount_to = below_limit (holdings m.credit) m.amount can.0.fits;
      },
      fit_moves day (moved_by holdings m) moves few range.1 (λ x i. some x (inr i)) can.1,
    )

pub line_fits : (day : Day) → is_sound day ≡ true → (J : History) (l : Line) → IsLegal day (l ∷ J) → FitsLine (most_messages day.version) (suc (length J)) l
line_fits day sound J l legal =
    let m : Made l.head.kind day J l.head.msg l.head.entry l.head.code l.moves = (made_facts day J l legal.1).1 in
    let s = small day l.head.msg sound l.head.kind J l.head.entry l.head.code l.moves m in
    let bound = length-bound day sound (l ∷ J) legal in
    let few = few_lines day sound in
    let held : ℕ → Option ℕ = λ a. Some (balance day J a) in
    record {
      place_from = omega arith;
      place_to = omega (arith, bound, few);
      msg = s.msg;
      entry = s.entry;
      count = s.count;
      moves = fit_moves day held l.moves (sound_parts day sound).few_accounts
          (line_in_range l.head.kind day J l.head.msg l.head.entry l.head.code l.moves (subs_have_dca day sound) legal.0 m)
          (λ x i. (line_fair l.head.kind day J l.head.msg l.head.entry l.head.code l.moves sound legal.0 m x i).amount)
          (moves_can day sound J (want_of l) l legal.0 legal.1 held (λ a b e. sym (some_is _ _ e)) (all_of _ (accounts_of_want day (want_of l)) (λ a i. refl)));
    }
