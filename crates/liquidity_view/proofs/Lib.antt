mod CountFacts
mod Others
mod Positions
mod Small
mod Sums
mod Texts
mod ViewLines
