-- What the program promises, by what its words ask for.
use Rattle.std.proofs.Common.{◌≡◌, ◌∙◌, ◌⊎◌, ℕ, List, Some, None, ap, sym, subst}
use Rattle.std.specs.Prelude.{is_some}
use Rattle.std.proofs.lemmas.Bool.{true≢false}
use Rattle.std.proofs.lemmas.Option.{same_Some}
use Rattle.outside_io.specs.Pieces.{HasPut, IsCutShort}
use Rattle.program_answers.specs.LivePrograms.{LivePromises, LiveRun}
use Rattle.party_gate.specs.Out.{out_program}
use Rattle.party_gate.specs.Promises.{KeepsPromises, request_of, usage_text}
use Rattle.party_gate.proofs.OwnLines.{own_alone}
use Rattle.party_gate.proofs.SeenFacts.{told_on}

some_none : (name : List ℕ) → Some name ≡ None → ⊥
some_none name e = true≢false (ap is_some e)

pub keeps_asked : (words : List (List ℕ)) (name : List ℕ) (run : LiveRun) → request_of words ≡ Some name → LivePromises (out_program name) run → KeepsPromises words run
keeps_asked words name run asked promises = record {
  usage = λ none. absurd (some_none name (sym asked ∙ none));
  asked = λ other is. subst (λ (n : List ℕ). LivePromises (out_program n) run) (same_Some name other (sym asked ∙ is)) promises;
  own = own_alone;
  begins = λ name front rest. told_on name rest front;
}

pub keeps_none : (words : List (List ℕ)) (run : LiveRun) → request_of words ≡ None → ((run.status ≡ 2) × HasPut run.port run.port_after usage_text) ⊎ ((run.status ≡ 5) × IsCutShort run.port run.port_after usage_text) → KeepsPromises words run
keeps_none words run none said = record {
  usage = λ _. said;
  asked = λ name is. absurd (some_none name (sym is ∙ none));
  own = own_alone;
  begins = λ name front rest. told_on name rest front;
}
