-- Texts that are put.
use Rattle.std.proofs.Common.{◌≡◌, ℕ, suc, ◌+◌, false, List, ◌++◌, Option, Some, None, Result, refl, sym, ap, subst}
use Rattle.std.specs.Prelude.{option_map}
use Rattle.std.specs.List.{flat_map, range_with_len}
use Rattle.std.specs.Option.{option_map_or}
use Rattle.batch_records.specs.DayRecord.{Day}
use Rattle.batch_records.specs.declared.day.Entry.{Entry}
use Rattle.commit_journal.specs.declared.line.Move.{Move}
use Rattle.commit_journal.specs.Line.{History}
use Rattle.machine.specs.Records.Messages.{Sort, Missing, Pay, BatchA, BatchB, BatchC, BatchD, BatchE, Liquidity, Object, Confirm, Cycle, is_a, is_b, move_of, sort_of}
use Rattle.machine.specs.Making.Lines.{need, need_as}
use Rattle.std.proofs.lemmas.Bool.{false≢true}
use Rattle.outside_io.specs.Pieces.{SinkState}
use Rattle.outside_io.specs.Calls.{Puts}

-- what puts a text puts another one that is the same
pub same_put : {T E : Type 0} (old new : SinkState) (text all : List ℕ) (result : Result T E) → text ≡ all → Puts old new text result → Puts old new all result
same_put old new text all result same put = subst (λ (bytes : List ℕ). Puts old new bytes result) same put

-- the texts of item 0 and of those from 1 on
pub first_and_rest : (f : ℕ → List ℕ) (n : ℕ) → f 0 ++ flat_map f (range_with_len 1 n) ≡ flat_map f (range_with_len 0 (suc n))
first_and_rest f n = refl

-- what a payment or an entry has to find on its account
pub needed_some : (day : Day) (o : Option Entry) (m : Move) (left : ℕ) → option_map (move_of day) o ≡ Some m → m.amount + left ≡ option_map_or (λ (e : Entry). e.amount + left) o 0
needed_some day None m left h = cc
needed_some day (Some e) m left h = let same : (move_of day e).amount ≡ m.amount = cc in ap (λ (x : ℕ). x + left) (sym same)

pub needed_none : (day : Day) (o : Option Entry) (left : ℕ) → option_map (move_of day) o ≡ None → 0 ≡ option_map_or (λ (e : Entry). e.amount + left) o 0
needed_none day None left h = refl
needed_none day (Some e) left h = cc

-- of no other message the fund pays anything
pub no_need : (day : Day) (J : History) (n : ℕ) → is_a (sort_of day n) ≡ false → is_b (sort_of day n) ≡ false → 0 ≡ need day J n
no_need day J n a b = here (sort_of day n) a b
  where
    here : (s : Sort) → is_a s ≡ false → is_b s ≡ false → 0 ≡ need_as s day J n
    here Missing a b = refl
    here Pay a b = refl
    here BatchA a b = absurd (false≢true (sym a))
    here BatchB a b = absurd (false≢true (sym b))
    here BatchC a b = refl
    here BatchD a b = refl
    here BatchE a b = refl
    here Liquidity a b = refl
    here Object a b = refl
    here Confirm a b = refl
    here Cycle a b = refl
