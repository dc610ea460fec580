mod FrontFacts
mod SureFacts
