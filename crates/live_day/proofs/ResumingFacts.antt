-- What a day tells of what was read before.
use Rattle.std.proofs.Common.{◌≡◌, ◌∙◌, ◌≤◌, ◌++◌, ℕ, List, [], length, Result, Ok, Err, sym, ap, subst, arith}
use Rattle.std.specs.Borrow.{GName}
use Rattle.outside_io.specs.Calls.{Puts}
use Rattle.outside_io.specs.Pieces.{HasPut, IsCutShort, SinkState}
use Rattle.program_answers.specs.LivePrograms.{LiveProgram, MayHear, TellsMore}
use Rattle.live_day.specs.Answers.{longest_input}
use Rattle.live_day.specs.Comparing.{beyond}
use Rattle.live_day.specs.Promises.{Runs, program_of}
use Rattle.live_day.specs.Told.{told}
use Rattle.live_day.specs.Ends.{none_told}
use Rattle.live_day.proofs.EndFacts.{looked_whole, none_settles}

pub first_hearing : (program : LiveProgram) (Heard : List ℕ → Type 0) (n : ℕ) → program ≡ program_of Runs → Heard [] → n ≤ longest_input → MayHear program Heard n
first_hearing program Heard n is heard within = record {
  bytes = [];
  heard = heard;
  unsettled = ap (λ (p : LiveProgram). p.is_settled []) is ∙ none_settles;
  within = let most = ap (λ (p : LiveProgram). p.longest) is in omega (arith, within, most);
}

pub first_told : {T E : Type 0} (program : LiveProgram) (read : List ℕ) (old new : SinkState) (result : Result T E) → program ≡ program_of Runs → length read ≤ longest_input → TellsMore program [] ([] ++ read) old new result → Puts old new (told read) result
first_told program read old new result is within more =
    let whole : more.text ≡ told read = ap (λ (t : List ℕ). t ++ more.text) (sym (ap (λ (p : LiveProgram). p.told []) is ∙ none_told)) ∙ sym more.is ∙ ap (λ (p : LiveProgram). p.told read) is ∙ ap told (looked_whole read within) in
    subst (λ (t : List ℕ). Puts old new t result) whole more.put

-- the same of a call that gives another value, by what the sink was made over
pub caught_up : {S T U E F : Type 0} (state : S → SinkState) (name began ended : GName) (sink below last out : S) (wanted kept text : List ℕ) (value : T) (other : U) → began ≡ name → below ≡ sink → kept ≡ wanted → ended ≡ began
    → Puts {E = E} (state below) (state last) (beyond kept text) (Ok value) → (name ≡ ended → out ≡ last) → Puts {E = F} (state sink) (state out) (beyond wanted text) (Ok other)
caught_up state name began ended sink below last out wanted kept text value other named is w same put ends =
    let over : out ≡ last = ends (sym (same ∙ named)) in
    record {
      ok = subst (λ (s : _). HasPut (state sink) (state s) (beyond wanted text)) (sym over) (subst (λ (s : _). HasPut (state s) (state last) (beyond wanted text)) is (subst (λ (l : List ℕ). HasPut (state below) (state last) (beyond l text)) w put.ok));
      err = tt;
    }

pub caught_short : {S T U E F : Type 0} (state : S → SinkState) (name began ended : GName) (sink below last out : S) (wanted kept text : List ℕ) (fault : E) (other : F) → began ≡ name → below ≡ sink → kept ≡ wanted → ended ≡ began
    → Puts {T = T} (state below) (state last) (beyond kept text) (Err fault) → (name ≡ ended → out ≡ last) → Puts {T = U} (state sink) (state out) (beyond wanted text) (Err other)
caught_short state name began ended sink below last out wanted kept text fault other named is w same put ends =
    let over : out ≡ last = ends (sym (same ∙ named)) in
    record {
      ok = tt;
      err = subst (λ (s : _). IsCutShort (state sink) (state s) (beyond wanted text)) (sym over) (subst (λ (s : _). IsCutShort (state s) (state last) (beyond wanted text)) is (subst (λ (l : List ℕ). IsCutShort (state below) (state last) (beyond l text)) w put.err));
    }
