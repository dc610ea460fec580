-- At midnight each sub-account gives all that it holds to its owner, and at the end none holds anything.
use Rattle.std.proofs.Common.{◌≡◌, ℕ, ◌≤◌, Bool, true, false, ◌&&◌, not, List, [], ◌∷◌, Option, Some, None, refl, sym, ap, ◌∙◌, subst, arith}
use Rattle.std.specs.Prelude.{is_some, length, nat_eq, nat_lt, unwrap_or}
use Rattle.std.specs.List.{list_any}
use Rattle.std.proofs.lemmas.Bool.{false≢true, and_parts, and_from, or_parts, not-true, eqb-true, ltb-false}
use Rattle.period_calendar.specs.declared.time.TheConstants.{MIDNIGHT}
use Rattle.batch_records.specs.DayRecord.{Day}
use Rattle.batch_records.specs.Sound.{is_sound}
use Rattle.commit_journal.specs.declared.line.Move.{Move}
use Rattle.commit_journal.specs.declared.line.Code.{Code}
use Rattle.commit_journal.specs.declared.line.Kind.{Kind}
use Rattle.commit_journal.specs.declared.line.Kind.TheVariants as kinds
use Rattle.commit_journal.specs.Line.{Line, History}
use Rattle.machine.specs.Records.Setup.{account_numbers, owner, is_sub_account, first_dca}
use Rattle.machine.specs.Records.Messages.{message_numbers}
use Rattle.machine.specs.Telling.History.{is_sweep, is_end, clock}
use Rattle.machine.specs.Telling.Balances.{balance, credited, debited}
use Rattle.machine.specs.Making.Lines.{may_sweep, may_end, sweep_move, is_ready, is_ready_message, end_line}
use Rattle.machine.specs.Legal.{IsLegal}
use Rattle.machine.specs.Laws.{EachLine, SweepsAll, SubsAreEmpty, SubsGiveBack}
use Rattle.settlement_laws.proofs.Base.Made.{Made, made_facts}
use Rattle.settlement_laws.proofs.Base.Sound.{subs_have_dca}
use Rattle.settlement_laws.proofs.Base.Sums.{any-from}
use Rattle.settlement_laws.proofs.Balances.MovesOfTheDay.{SubsHaveDca}
use Rattle.settlement_laws.proofs.DayEnd.LineBound.{account_within}
use Rattle.settlement_laws.proofs.DayEnd.EndChangesNothing.{end_is}

-- ---- a Sweep line

abbrev GivesAll : Day → History → ℕ → List Move → Type 0
GivesAll day J a moves = (clock J ≡ MIDNIGHT) × (is_sub_account day a ≡ true)
    × (b : ℕ) × (first_dca day (owner day a) ≡ Some b) × (moves ≡ record { debit = a; credit = b; amount = balance day J a } ∷ [])

given_to : (day : Day) (J : History) (a : ℕ) (moves : List Move) (o : Option ℕ) → clock J ≡ MIDNIGHT → is_sub_account day a ≡ true → is_some o ≡ true → first_dca day (owner day a) ≡ o → moves ≡ sweep_move day J a ∷ [] → GivesAll day J a moves
given_to day J a moves None late sub s e m = cc
given_to day J a moves (Some b) late sub s e m = (late, sub, b, e, m ∙ ap with_credit (ap (λ o. unwrap_or o 0) e))
  where
    with_credit : ℕ → List Move
    with_credit c = record { debit = a; credit = c; amount = balance day J a } ∷ []

line_sweeps : (kind : Kind) (day : Day) (J : History) (n k : ℕ) (code : Code) (moves : List Move) → SubsHaveDca day → is_sweep kind ≡ true → Made kind day J n k code moves → GivesAll day J k moves
line_sweeps kinds.Sweep day J n k code moves subs h m =
    let b = and_parts (is_sub_account day k && nat_eq (clock J) MIDNIGHT) (nat_lt 0 (balance day J k)) m.0 in
    let c = and_parts (is_sub_account day k) (nat_eq (clock J) MIDNIGHT) b.0 in
    given_to day J k moves (first_dca day (owner day k)) (eqb-true (clock J) MIDNIGHT c.1) c.0 (subs k c.0) refl m.2
line_sweeps _ day J n k code moves subs h m = cc

sweeps_all : (day : Day) (l : Line) (J : History) → SubsHaveDca day → Made l.head.kind day J l.head.msg l.head.entry l.head.code l.moves → SweepsAll day l J
sweeps_all day l J subs m h = line_sweeps l.head.kind day J l.head.msg l.head.entry l.head.code l.moves subs h m

-- ---- the End line

made_end : (kind : Kind) (day : Day) (J : History) (n k : ℕ) (code : Code) (moves : List Move) → is_end kind ≡ true → Made kind day J n k code moves → may_end day J ≡ true
made_end kinds.End day J n k code moves h m = m.0
made_end _ day J n k code moves h m = cc

-- where nothing is ready at midnight, a sub-account holds nothing
holds_nothing : (day : Day) (J : History) (a : ℕ) → may_end day J ≡ true → is_sub_account day a ≡ true → balance day J a ≡ 0
unfolding is_ready
holds_nothing day J a h s = let least : balance day J a ≤ 0 = ltb-false 0 (balance day J a) (unswept (nat_lt 0 (balance day J a)) refl) in omega (arith, least)
  where
    late : nat_eq (clock J) MIDNIGHT ≡ true
    late = (and_parts (nat_eq (clock J) MIDNIGHT) (not (is_ready day J)) h).0

    none : list_any (may_sweep day J) (account_numbers day) ≡ false
    none = (or_parts (list_any (is_ready_message day J) (message_numbers day)) (list_any (may_sweep day J) (account_numbers day)) (not-true (is_ready day J) (and_parts (nat_eq (clock J) MIDNIGHT) (not (is_ready day J)) h).1)).1

    unswept : (b : Bool) → nat_lt 0 (balance day J a) ≡ b → nat_lt 0 (balance day J a) ≡ false
    unswept false e = e
    unswept true e =
        let w = account_within day a s in
        absurd (false≢true (sym none ∙ any-from (may_sweep day J) 1 (length day.accounts) a w.0 w.1 (and_from (is_sub_account day a && nat_eq (clock J) MIDNIGHT) (nat_lt 0 (balance day J a)) (and_from (is_sub_account day a) (nat_eq (clock J) MIDNIGHT) s late) e)))

end_leaves : (day : Day) (J : History) (a : ℕ) → balance day (end_line ∷ J) a ≡ balance day J a
unfolding credited debited
end_leaves day J a = omega arith

pub subs_are_empty : (day : Day) (J : History) → IsLegal day J → SubsAreEmpty day J
subs_are_empty day [] legal c = cc
subs_are_empty day (l ∷ J) legal c = λ a s.
    subst (λ x. balance day (x ∷ J) a ≡ 0) (end_is day l J legal c) (end_leaves day J a ∙ holds_nothing day J a (made_end l.head.kind day J _ _ _ _ c (made_facts day J l legal.1).1) s)

each_sweeps : (day : Day) (J : History) → SubsHaveDca day → IsLegal day J → EachLine (SweepsAll day) J
each_sweeps day [] subs legal = tt
each_sweeps day (l ∷ J) subs legal = (each_sweeps day J subs legal.0, sweeps_all day l J subs (made_facts day J l legal.1).1)

pub subs_give_back : (day : Day) (J : History) → is_sound day ≡ true → IsLegal day J → SubsGiveBack day J
subs_give_back day J sound legal = (each_sweeps day J (subs_have_dca day sound) legal, subs_are_empty day J legal)
