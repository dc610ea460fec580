mod Along
mod Answering
mod Judged
mod Pending
mod PutFacts
mod Settling
