-- What stands on a disk while a piece is kept.
use Rattle.std.proofs.Common.{◌≡◌, ◌≢◌, ◌⊎◌, inl, inr, ⊎_elim, ℕ, ◌+◌, ◌<◌, ◌≤◌, Bool, true, false, List, [], ◌∷◌, ◌++◌, length, take, drop, Option, Some, None, Result, Ok, Err, refl, sym, ap, subst, ◌∙◌, arith, append_assoc, length-drop}
use Rattle.std.specs.Prelude.{bytes_eq, is_err, OnOk}
use Rattle.std.specs.Int.{w32, to_be_bytes}
use Rattle.std.specs.Option.{option_map_or}
use Rattle.std.proofs.lemmas.Bool.{false≢true}
use Rattle.std.proofs.Math.Seq.{take-length}
use Rattle.std.proofs.lemmas.List.{append-nil, drop_all, length-append, length-take-le, take_at}
use Rattle.std.proofs.lemmas.Slice.Eq.{bytes_eq-Decides}
use Rattle.disk_model.specs.Crashes.{Only, overwritten}
use Rattle.disk_model.specs.Runs.{LeavesOnly}
use Rattle.gated_disk.specs.Gates.{HasGrown, MayHaveGrown, is_closed}
use Rattle.kept_port.specs.Logs.{FindsOne}
use Rattle.kept_text.specs.Frames.{chained, digest_in, end_in, first_digest, frame, header, is_piece, text_in}
use Rattle.kept_text.specs.Laws.{HasPiece}
use Rattle.kept_text.proofs.FileFacts.{closed_at_end, nothing_behind_counts, pieces_are_added, pieces_count_whole}
use Rattle.frame_log.proofs.FindingFacts.{ended_so_far, first_so_far}
use Rattle.frame_log.specs.Reads.{IsLookedAt}
use Rattle.frame_log.specs.Standing.{FindsAll, IsStanding, StandsAt, finds_from, frame_with, text_up_to}

zero_shut : ◌≢◌ {A = ℕ} 0 1
zero_shut e = absurd (omega (arith, e))

abbrev or_none : Option (List ℕ) → List ℕ
or_none found = option_map_or (λ (text : List ℕ). text) found []

-- what was read stands there
pub up_to_end : (bytes text : List ℕ) (end : ℕ) → text_in bytes ≡ Some text → end_in bytes ≡ end → text_up_to end bytes ≡ text
up_to_end bytes text end is ends =
    ap (λ (n : ℕ). text_up_to n bytes) (sym ends) ∙ ap or_none (nothing_behind_counts bytes text 0 [] is zero_shut)

pub stands_there : (bytes text digest : List ℕ) (end : ℕ) → text_in bytes ≡ Some text → digest_in bytes ≡ digest → end_in bytes ≡ end → StandsAt end digest bytes
stands_there bytes text digest end is last ends = (is ∙ ap (λ (t : List ℕ). Some t) (sym (up_to_end bytes text end is ends)), ends, last)

pub gate_shut : (end : ℕ) (digest bytes : List ℕ) → StandsAt end digest bytes → is_closed (drop end bytes) ≡ true
gate_shut end digest bytes stands = ap (λ (n : ℕ). is_closed (drop n bytes)) (sym stands.1) ∙ closed_at_end bytes (text_up_to end bytes) stands.0

-- ---- a new log

pub over_nothing : (piece : List ℕ) → overwritten 0 piece [] ≡ piece
over_nothing piece = ap (λ (xs : List ℕ). piece ++ xs) (drop_all (0 + length piece) [] (omega arith)) ∙ append-nil piece

pub new_bytes : (seen old piece xs : List ℕ) → seen ≡ overwritten 0 piece old → old ≡ [] → piece ≡ xs ++ 0 ∷ [] → xs ≡ header → seen ≡ header ++ 0 ∷ []
new_bytes seen old piece xs is none first same =
    is ∙ ap (λ (before : List ℕ). overwritten 0 piece before) none ∙ over_nothing piece ∙ first ∙ ap (λ (ys : List ℕ). ys ++ 0 ∷ []) same

pub new_stands : (bytes digest : List ℕ) → bytes ≡ header ++ 0 ∷ [] → digest ≡ first_digest → StandsAt 16 digest bytes
new_stands bytes digest is first =
    let found = ended_so_far bytes [] first_digest 16 0 0 [] (first_so_far bytes 0 [] is) zero_shut in
    stands_there bytes [] digest 16 found.0 (found.1 ∙ sym first) found.2

pub new_text : (bytes : List ℕ) → bytes ≡ header ++ 0 ∷ [] → text_up_to 16 bytes ≡ []
new_text bytes is =
    let found = ended_so_far bytes [] first_digest 16 0 0 [] (first_so_far bytes 0 [] is) zero_shut in
    up_to_end bytes [] 16 found.0 found.2

-- ---- what is found

pub found_begun : (sure text c : List ℕ) → text_in c ≡ Some (sure ++ text) → finds_from sure c ≡ true
found_begun sure text c is =
    ap (λ (found : Option (List ℕ)). option_map_or (λ (t : List ℕ). bytes_eq (take (length sure) t) sure) found false) is
    ∙ (bytes_eq-Decides (take (length sure) (sure ++ text)) sure).1 (take_at sure text (length sure) refl)

pub found_same : (sure c : List ℕ) → text_in c ≡ Some sure → finds_from sure c ≡ true
found_same sure c is =
    ap (λ (found : Option (List ℕ)). option_map_or (λ (t : List ℕ). bytes_eq (take (length sure) t) sure) found false) is
    ∙ (bytes_eq-Decides (take (length sure) sure) sure).1 (take-length sure)

pub found_one : (sure piece c : List ℕ) → FindsOne text_in sure (sure ++ piece) c → finds_from sure c ≡ true
found_one sure piece c (inl is) = found_same sure c is
found_one sure piece c (inr is) = found_begun sure piece c is

pub finds_all : {D : Type 0} (seen : D → List ℕ) (image : D → List ℕ → Type 0) (end : ℕ) (digest : List ℕ) (disk : D) → IsStanding seen image end digest disk → FindsAll seen image end disk
finds_all seen image end digest disk stands c left = found_same (text_up_to end (seen disk)) c (ap text_in (stands.1 c left) ∙ stands.0.0)

-- ---- a piece more

-- what is put down behind the gate
abbrev pub behind_gate : List ℕ → List ℕ → List ℕ
behind_gate digest piece = frame_with (chained digest piece) piece

behind_is : (digest piece : List ℕ) → behind_gate digest piece ≡ frame digest piece ++ 0 ∷ []
behind_is digest piece = ap (λ (xs : List ℕ). xs ++ 0 ∷ []) (append_assoc (to_be_bytes w32 (length piece)) (chained digest piece) piece)

-- a crash meanwhile leaves the text, or that with the whole piece
pub either_way : (end : ℕ) (digest bytes piece c : List ℕ) → StandsAt end digest bytes → is_piece piece ≡ true → MayHaveGrown (take end bytes) (behind_gate digest piece) c → FindsOne text_in (text_up_to end bytes) (text_up_to end bytes ++ piece) c
either_way end digest bytes piece c stands is grown =
    pieces_count_whole bytes (text_up_to end bytes) piece c stands.0 is
    (subst (λ (n : ℕ). MayHaveGrown (take n bytes) (frame (digest_in bytes) piece ++ 0 ∷ []) c) (sym stands.1)
    (subst (λ (d : List ℕ). MayHaveGrown (take end bytes) (frame d piece ++ 0 ∷ []) c) (sym stands.2)
    (subst (λ (p : List ℕ). MayHaveGrown (take end bytes) p c) (behind_is digest piece) grown)))

-- and once it is kept it has the piece
pub one_more : (end : ℕ) (digest bytes piece c : List ℕ) → StandsAt end digest bytes → is_piece piece ≡ true → HasGrown (take end bytes) (behind_gate digest piece) c → HasPiece bytes (text_up_to end bytes) piece c
one_more end digest bytes piece c stands is grown =
    pieces_are_added bytes (text_up_to end bytes) piece c stands.0 is
    (subst (λ (n : ℕ). HasGrown (take n bytes) (frame (digest_in bytes) piece ++ 0 ∷ []) c) (sym stands.1)
    (subst (λ (d : List ℕ). HasGrown (take end bytes) (frame d piece ++ 0 ∷ []) c) (sym stands.2)
    (subst (λ (p : List ℕ). HasGrown (take end bytes) p c) (behind_is digest piece) grown)))

pub later_end : (end later : ℕ) (digest bytes piece c : List ℕ) → StandsAt end digest bytes → is_piece piece ≡ true → HasGrown (take end bytes) (behind_gate digest piece) c → later ≡ end + (37 + length piece) → end_in c ≡ later
later_end end later digest bytes piece c stands is grown added =
    let has = one_more end digest bytes piece c stands is grown in
    omega (arith, has.end_is, stands.1, added)

pub later_stands : (end later : ℕ) (digest bytes piece c : List ℕ) → StandsAt end digest bytes → is_piece piece ≡ true → HasGrown (take end bytes) (behind_gate digest piece) c → later ≡ end + (37 + length piece) → StandsAt later (chained digest piece) c
later_stands end later digest bytes piece c stands is grown added =
    let has = one_more end digest bytes piece c stands is grown in
    stands_there c (text_up_to end bytes ++ piece) (chained digest piece) later has.text_is (has.digest_is ∙ ap (λ (d : List ℕ). chained d piece) stands.2) (later_end end later digest bytes piece c stands is grown added)

pub later_text : (end later : ℕ) (digest bytes piece c : List ℕ) → StandsAt end digest bytes → is_piece piece ≡ true → HasGrown (take end bytes) (behind_gate digest piece) c → later ≡ end + (37 + length piece) → text_up_to later c ≡ text_up_to end bytes ++ piece
later_text end later digest bytes piece c stands is grown added =
    let has = one_more end digest bytes piece c stands is grown in
    up_to_end c (text_up_to end bytes ++ piece) later has.text_is (later_end end later digest bytes piece c stands is grown added)

end_within : (end : ℕ) (bytes xs : List ℕ) → drop end bytes ≡ xs → is_closed (drop end bytes) ≡ true → end ≤ length bytes
end_within end bytes [] e shut = absurd (false≢true (sym (ap is_closed e) ∙ shut))
end_within end bytes (x ∷ xs) e shut = omega (arith, ap length e, length-drop end bytes)

-- the text up to the gate stays, whatever stands behind it
pub same_up_to : (end : ℕ) (digest bytes piece c : List ℕ) → StandsAt end digest bytes → MayHaveGrown (take end bytes) piece c → text_up_to end c ≡ text_up_to end bytes
same_up_to end digest bytes piece c stands grown =
    let inside = end_within end bytes (drop end bytes) refl (gate_shut end digest bytes stands) in
    let front : length (take end bytes) ≡ end = length-take-le end bytes inside in
    ap (λ (xs : List ℕ). or_none (text_in (xs ++ 0 ∷ []))) (ap (take end) grown.bytes_are ∙ take_at (take end bytes) (grown.gate ∷ grown.rest) end front)

-- ---- calls

-- what a call that went well ensures
pub went_well : {T E : Type 0} (result : Result T E) (P : Type 0) → is_err result ≡ false → OnOk result P → P
went_well (Ok value) P well so = so
went_well (Err fault) P well so = absurd (false≢true (sym well))

module _ {D : Type 0} (seen : D → List ℕ) (image : D → List ℕ → Type 0) (clock : D → ℕ) (since : D → ℕ → List ℕ → Type 0) (end : ℕ) (digest new_digest piece : List ℕ) (old new : D) where
  module _ (stands : StandsAt end digest (seen old)) (is : is_piece piece ≡ true) (same : new_digest ≡ chained digest piece) (run : LeavesOnly clock since old new (MayHaveGrown (take end (seen old)) (frame_with new_digest piece))) where
    -- whatever a crash leaves since the call began
    pub either_since : (c : List ℕ) → since new (clock old) c → FindsOne text_in (text_up_to end (seen old)) (text_up_to end (seen old) ++ piece) c
    either_since c left = either_way end digest (seen old) piece c stands is (subst (λ (d : List ℕ). MayHaveGrown (take end (seen old)) (frame_with d piece) c) same (run.each c left))

    module _ (counts : (t : ℕ) (c : List ℕ) → t ≤ clock new → image new c → since new t c) (reads : image new (seen new)) where
      pub same_text : text_up_to end (seen new) ≡ text_up_to end (seen old)
      same_text = same_up_to end digest (seen old) (frame_with new_digest piece) (seen new) stands (run.each (seen new) (counts (clock old) (seen new) run.later reads))

      pub finds_still : FindsAll seen image end new
      finds_still c left = ap (λ (text : List ℕ). finds_from text c) same_text ∙ found_one (text_up_to end (seen old)) piece c (either_since c (counts (clock old) c run.later left))

  module _ (stands : StandsAt end digest (seen old)) (is : is_piece piece ≡ true) (same : new_digest ≡ chained digest piece) (grown : HasGrown (take end (seen old)) (frame_with new_digest piece) (seen new)) where
    as_chained : HasGrown (take end (seen old)) (behind_gate digest piece) (seen new)
    as_chained = subst (λ (d : List ℕ). HasGrown (take end (seen old)) (frame_with d piece) (seen new)) same grown

    pub standing_later : Only (seen new) (image new) → IsStanding seen image (end + (37 + length piece)) new_digest new
    standing_later only = (subst (λ (d : List ℕ). StandsAt (end + (37 + length piece)) d (seen new)) (sym same) (later_stands end (end + (37 + length piece)) digest (seen old) piece (seen new) stands is as_chained refl), only)

    pub text_later : text_up_to (end + (37 + length piece)) (seen new) ≡ text_up_to end (seen old) ++ piece
    text_later = later_text end (end + (37 + length piece)) digest (seen old) piece (seen new) stands is as_chained refl

-- ---- an opening

module _ {D : Type 0} (seen : D → List ℕ) (image : D → List ℕ → Type 0) (clock : D → ℕ) (since : D → ℕ → List ℕ → Type 0) (disk start mid final : D) (start_is : start ≡ disk) (looked : IsLookedAt seen image clock since start mid) (final_is : final ≡ mid) where
  pub found_looked : IsLookedAt seen image clock since disk final
  found_looked = subst (λ (d : D). IsLookedAt seen image clock since disk d) (sym final_is) (subst (λ (d : D). IsLookedAt seen image clock since d mid) start_is looked)

  pub found_standing : (text digest : List ℕ) (end : ℕ) → Only (seen disk) (image disk) → text_in (seen disk) ≡ Some text → digest_in (seen disk) ≡ digest → end_in (seen disk) ≡ end → IsStanding seen image end digest final
  found_standing text digest end only is last ends =
      (subst (StandsAt end digest) (sym found_looked.same) (stands_there (seen disk) text digest end is last ends), λ c left. only c (found_looked.images c left) ∙ sym found_looked.same)
