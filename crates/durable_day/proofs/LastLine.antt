-- The newest line of a journal is put down after the lines before it.
use Rattle.std.proofs.Common.{◌≡◌, ◌⊎◌, ℕ, suc, ◌+◌, ◌≤◌, ◌^◌, Bool, true, List, ◌∷◌, ◌++◌, length, take, drop, sym, ap, subst, ◌∙◌, arith}
use Rattle.std.proofs.lemmas.List.{length-append}
use Rattle.batch_records.specs.DayRecord.{Day}
use Rattle.batch_records.specs.Sound.{is_sound}
use Rattle.commit_journal.specs.Line.{Line, History}
use Rattle.commit_journal.specs.Text.{line_text}
use Rattle.machine.specs.Legal.{IsLegal}
use Rattle.disk_model.specs.Crashes.{Only}
use Rattle.disk_model.specs.Cut.{IsCut}
use Rattle.disk_model.specs.Runs.{LeavesOnly}
use Rattle.durable_day.specs.Appending.{HasGrown, MayHaveGrown, appended_by, newest_by, newest_bytes}
use Rattle.durable_day.specs.Bytes.{gated, stored, StandsFor, is_closed}
use Rattle.durable_day.specs.Pieces.{behind_gate}
use Rattle.durable_day.specs.Stores.{IsDurable}
use Rattle.durable_day.proofs.AppendFacts.{durable_closed, durable_front, leaves_weaker, length-piece, piece_of, stands_either, stands_with, stored_limit, stored_small}
use Rattle.durable_day.proofs.StoreFacts.{length-gated}
use Rattle.durable_day.proofs.TextSizes.{line_in_room}

-- H is m after P, and the place is that of m
module _ (H P : History) (m : Line) (place : ℕ) (is : H ≡ m ∷ P) (at : place ≡ length H) where
  place_is : place ≡ suc (length P)
  place_is = at ∙ ap length is

  pub last_piece : behind_gate (line_text place m) ≡ piece_of P m
  last_piece = ap (λ (n : ℕ). behind_gate (line_text n m)) place_is

  pub last_short : (day : Day) → is_sound day ≡ true → IsLegal day H → length (line_text place m) ≤ 2 ^ 21
  last_short day sound legal = subst (λ (n : ℕ). length (line_text n m) ≤ 2 ^ 21) (sym place_is) (line_in_room day sound P m (subst (IsLegal day) is legal))

  pub last_size : length (behind_gate (line_text place m)) ≡ 5 + length (line_text place m)
  last_size = ap length last_piece ∙ length-piece P m ∙ ap (λ (n : ℕ). 5 + length (line_text n m)) (sym place_is)

  end_after : (end : ℕ) → end ≡ length (stored P) → end + length (behind_gate (line_text place m)) ≡ length (stored (m ∷ P))
  unfolding stored
  end_after end e =
      let text : List ℕ = line_text (suc (length P)) m in
      let size : length (behind_gate (line_text place m)) ≡ 5 + length text = ap length last_piece ∙ length-piece P m in
      omega (arith, e, size, length-append (stored P) (gated text), length-gated text)

  pub last_bytes : length (behind_gate (line_text place m)) + 1 ≡ newest_bytes H
  last_bytes =
      let text : List ℕ = line_text (suc (length P)) m in
      let size : length (behind_gate (line_text place m)) ≡ 5 + length text = ap length last_piece ∙ length-piece P m in
      omega (arith, size, ap newest_bytes is, length-gated text)

  module _ {D : Type 0} (seen : D → List ℕ) (image : D → List ℕ → Type 0) where
    pub older : (end : ℕ) (disk : D) → IsDurable seen image (drop 1 H) end disk → IsDurable seen image P end disk
    older end disk durable = subst (λ (K : History). IsDurable seen image (drop 1 K) end disk) is durable

    pub last_closed : (end : ℕ) (disk : D) → IsDurable seen image (drop 1 H) end disk → is_closed (drop end (seen disk)) ≡ true
    last_closed end disk durable = durable_closed seen image P end disk (older end disk durable)

    pub last_small : (day : Day) → is_sound day ≡ true → IsLegal day H → (end : ℕ) (disk : D) → IsDurable seen image (drop 1 H) end disk → end ≤ stored_limit
    last_small day sound legal end disk durable =
        let small = stored_small day sound P (subst (IsLegal day) is legal).0 in
        omega (arith, small, (older end disk durable).end_is)

    pub last_stored : (end : ℕ) (old new : D) → IsDurable seen image (drop 1 H) end old → HasGrown (take end (seen old)) (behind_gate (line_text place m)) (seen new) → Only (seen new) (image new) → IsDurable seen image H (end + length (behind_gate (line_text place m))) new
    last_stored end old new durable grown only =
        let front = durable_front seen image P end old (older end old durable) in
        let bytes : seen new ≡ stored P ++ 1 ∷ (piece_of P m ++ grown.0) = grown.1 ∙ (λ i. front i ++ 1 ∷ (last_piece i ++ grown.0)) in
        let now : IsDurable seen image (m ∷ P) (end + length (behind_gate (line_text place m))) new = record {
          stands = stands_with P m (seen new) grown.0 bytes;
          only = only;
          end_is = end_after end (older end old durable).end_is;
        } in
        subst (λ (K : History). IsDurable seen image K (end + length (behind_gate (line_text place m))) new) (sym is) now

    pub last_moments : (clock : D → ℕ) (since : D → ℕ → List ℕ → Type 0) (end : ℕ) (old new : D) → IsDurable seen image (drop 1 H) end old → LeavesOnly clock since old new (MayHaveGrown (take end (seen old)) (behind_gate (line_text place m))) →
        LeavesOnly clock since old new (λ c. StandsFor (drop 1 H) c ⊎ StandsFor H c)
    last_moments clock since end old new durable run =
        let front = durable_front seen image P end old (older end old durable) in
        leaves_weaker clock since old new (MayHaveGrown (take end (seen old)) (behind_gate (line_text place m))) (λ c. StandsFor (drop 1 H) c ⊎ StandsFor H c) run (λ c grown.
        subst (λ (K : History). StandsFor (drop 1 K) c ⊎ StandsFor K c) (sym is)
        (stands_either P m (take end (seen old)) c front (subst (λ (piece : List ℕ). MayHaveGrown (take end (seen old)) piece c) last_piece grown)))

    pub last_cut : (cut_after : D → ℕ → ℕ → ℕ → Type 0) (end : ℕ) (old new : D) (well : Bool) → IsDurable seen image (drop 1 H) end old → IsCut seen cut_after old new well 4 4 (length (behind_gate (line_text place m)) + 1) (appended_by end (behind_gate (line_text place m)) (seen old)) →
        IsCut seen cut_after old new well 4 4 (newest_bytes H) (newest_by H (seen old))
    last_cut cut_after end old new well durable cut =
        let at_end : end ≡ length (stored P) = (older end old durable).end_is in
        let shows : appended_by end (behind_gate (line_text place m)) (seen old) ≡ newest_by H (seen old) = (λ i. appended_by (at_end i) (last_piece i) (seen old)) ∙ sym (ap (λ (K : History). newest_by K (seen old)) is) in
        subst (λ (f : ℕ → List ℕ). IsCut seen cut_after old new well 4 4 (newest_bytes H) f) shows
        (subst (λ (n : ℕ). IsCut seen cut_after old new well 4 4 n (appended_by end (behind_gate (line_text place m)) (seen old))) last_bytes cut)
