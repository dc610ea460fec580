use Rattle.std.proofs.Common.{◌≡◌, ◌∙◌, ℕ, [], ap, arith, length, subst}
use Rattle.atomic_table.specs.Seated.{TableId}
use Rattle.batch_records.specs.DayRecord.{Day}
use Rattle.journal_pass.specs.Known.{TableOf}
use Rattle.settle_floor.specs.Floors.{IsFor}
use Rattle.lock_book.specs.declared.group.Part.{Part}
use Rattle.lock_book.specs.Kits.{IsPart}
use Rattle.lock_book.specs.RoundTills.{IsRoundTill}
use Rattle.lock_book.proofs.hall.Hall.open.Goals as goal

-- a part of the kit's table and day is one of the hall's
named : (table hall : TableId) (day own : Day) (number : ℕ) (part : Part) → table ≡ hall → day ≡ own → IsPart table day number part → IsPart hall own number part
named table hall day own number part t d is = subst (λ (x : TableId). IsPart x own number part) t (subst (λ (x : Day). IsPart table x number part) d is)

pub new-requires : goal.new-requires
new-requires g c =
    (omega arith, named _ _ _ _ 0 c.kit.inside.parts.low.a (ap (λ (k : TableOf). k.table) c.kit.view_is ∙ c.requires.0) (ap (λ (k : TableOf). k.day) c.kit.view_is ∙ c.requires.1) c.kit.invariant.low.a_is)

pub new-requires-3 : goal.new-requires-3
new-requires-3 g c =
    (omega arith, named _ _ _ _ 1 c.kit.inside.parts.low.b (ap (λ (k : TableOf). k.table) c.kit.view_is ∙ c.requires.0) (ap (λ (k : TableOf). k.day) c.kit.view_is ∙ c.requires.1) c.kit.invariant.low.b_is)

pub new-requires-5 : goal.new-requires-5
new-requires-5 g c =
    (omega arith, named _ _ _ _ 2 c.kit.inside.parts.low.c (ap (λ (k : TableOf). k.table) c.kit.view_is ∙ c.requires.0) (ap (λ (k : TableOf). k.day) c.kit.view_is ∙ c.requires.1) c.kit.invariant.low.c_is)

pub new-requires-7 : goal.new-requires-7
new-requires-7 g c =
    (omega arith, named _ _ _ _ 3 c.kit.inside.parts.low.d (ap (λ (k : TableOf). k.table) c.kit.view_is ∙ c.requires.0) (ap (λ (k : TableOf). k.day) c.kit.view_is ∙ c.requires.1) c.kit.invariant.low.d_is)

pub new-requires-9 : goal.new-requires-9
new-requires-9 g c =
    (omega arith, named _ _ _ _ 4 c.kit.inside.parts.high.a (ap (λ (k : TableOf). k.table) c.kit.view_is ∙ c.requires.0) (ap (λ (k : TableOf). k.day) c.kit.view_is ∙ c.requires.1) c.kit.invariant.high.a_is)

pub new-requires-11 : goal.new-requires-11
new-requires-11 g c =
    (omega arith, named _ _ _ _ 5 c.kit.inside.parts.high.b (ap (λ (k : TableOf). k.table) c.kit.view_is ∙ c.requires.0) (ap (λ (k : TableOf). k.day) c.kit.view_is ∙ c.requires.1) c.kit.invariant.high.b_is)

pub new-requires-13 : goal.new-requires-13
new-requires-13 g c =
    (omega arith, named _ _ _ _ 6 c.kit.inside.parts.high.c (ap (λ (k : TableOf). k.table) c.kit.view_is ∙ c.requires.0) (ap (λ (k : TableOf). k.day) c.kit.view_is ∙ c.requires.1) c.kit.invariant.high.c_is)

pub new-requires-15 : goal.new-requires-15
new-requires-15 g c =
    (omega arith, named _ _ _ _ 7 c.kit.inside.parts.high.d (ap (λ (k : TableOf). k.table) c.kit.view_is ∙ c.requires.0) (ap (λ (k : TableOf). k.day) c.kit.view_is ∙ c.requires.1) c.kit.invariant.high.d_is)

pub new-requires-17-clause-floor : goal.new-requires-17-clause-floor
new-requires-17-clause-floor g c = (
  c.kit.invariant.floor_is,
  subst (λ (d : Day). IsFor d c.kit.inside.parts.floor) (ap (λ (k : TableOf). k.day) c.kit.view_is ∙ c.requires.1) c.kit.invariant.opened,
)

pub new-requires-19-clause-till : goal.new-requires-19-clause-till
new-requires-19-clause-till g c =
    let parts = c.kit.inside.parts in
    let table = ap (λ (k : TableOf). k.table) c.kit.view_is ∙ c.requires.0 in
    let day = ap (λ (k : TableOf). k.day) c.kit.view_is ∙ c.requires.1 in
    subst (λ (t : TableId). IsRoundTill t g.H.HallName.day parts.till_pass parts.till) table
    (subst (λ (d : Day). IsRoundTill parts.table.table d parts.till_pass parts.till) day c.kit.invariant.till_is)

pub new-requires-17-clause-teller : goal.new-requires-17-clause-teller
new-requires-17-clause-teller g c =
    let table = ap (λ (k : TableOf). k.table) c.kit.view_is ∙ c.requires.0 in
    let day = ap (λ (k : TableOf). k.day) c.kit.view_is ∙ c.requires.1 in
    c.kit.invariant.teller_is ∙ (λ i. record { table = table i; day = day i; lines = [] })

pub new-requires-19-clause-count : goal.new-requires-19-clause-count
new-requires-19-clause-count g c =
    c.kit.invariant.till_count ∙ ap (λ (k : TableOf). length k.day.accounts) c.kit.view_is ∙ ap (λ (d : Day). length d.accounts) c.requires.1

pub returns-clause-pass : goal.returns-clause-pass
returns-clause-pass g c =
    let table = ap (λ (k : TableOf). k.table) c.kit.view_is ∙ c.requires.0 in
    let day = ap (λ (k : TableOf). k.day) c.kit.view_is ∙ c.requires.1 in
    c.kit.invariant.first_is ∙ (λ i. record { table = table i; day = day i; lines = []; lane = 0 })

pub invariant_of-hall : goal.invariant_of-hall
invariant_of-hall g c =
    let table = ap (λ (k : TableOf). k.table) c.kit.view_is ∙ c.requires.0 in
    let day = ap (λ (k : TableOf). k.day) c.kit.view_is ∙ c.requires.1 in
    (day, table, c.kit.invariant.table_day ∙ day)
