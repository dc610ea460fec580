pub mod AppendFacts
