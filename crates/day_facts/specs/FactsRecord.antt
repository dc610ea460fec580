-- The record of what is kept of a day and its lines.
use Rattle.std.specs.Prelude.{ℕ, Bool, List, Option}
use Rattle.day_facts.specs.declared.own.Own.{Own}
use Rattle.day_facts.specs.declared.told.Told.{Told}
use Rattle.day_facts.specs.declared.cycles.Cycles.{Cycles}
use Rattle.day_facts.specs.declared.stages.Stage.{Stage}

-- for how many more messages, and items of all of them, there is room
pub record FactsRoom : Type 0 where
  pub messages : ℕ
  pub items : ℕ

pub record Facts : Type 0 where
  -- by message: what the lines about it say
  pub own : List Own
  -- by message: what accepted messages that name it say
  pub told : List Told
  -- by message and item: the place of the Book line, and of the objection that revoked it
  pub booked : List (List (Option ℕ))
  pub revoked : List (List (Option ℕ))
  -- by message and item: whether it is a debit that isn't booked, still has to be booked, isn't revoked
  pub debits : List (List Bool)
  pub waiting : List (List Bool)
  pub kept : List (List Bool)
  -- by message: the place of the debit that was booked last
  pub last : List ℕ
  -- by message: how far its lines have brought it
  pub stages : List Stage
  -- by system
  pub cycles : List Cycles
  -- by second: the line with which the clock came to it
  pub openings : List (Option ℕ)
  -- the first message that isn't taken
  pub next : ℕ
  pub clock : ℕ
  pub round : ℕ
  pub ended : Option ℕ
  pub lines : ℕ
  pub room : FactsRoom
