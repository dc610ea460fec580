pub mod OneLineLaws
pub mod OnceAndInOrder
pub mod RejectedDoNothing
pub mod AllLaws
mod BrokenLaws
pub mod WithinLimits
pub mod SameVersion
pub mod SameOrder
pub mod ObjectionsHaveForce
pub mod FundPaysOnYes
pub mod OnlyAcceptedGoOn
pub mod TakenAsDue
pub mod QueueIsInOrder
pub mod EndsInItsTime
