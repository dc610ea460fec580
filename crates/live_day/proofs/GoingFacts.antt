-- A day that goes on, as far as what comes counts.
use Rattle.std.proofs.Common.{◌≡◌, ◌∙◌, ◌+◌, ◌-◌, ◌≤◌, ◌++◌, ◌⊎◌, ℕ, Bool, true, false, List, [], Result, Ok, Err, append_assoc, append-nil, drop, length, length-append, take, take-append-drop, refl, sym, ap, arith, inl, inr}
use Rattle.std.specs.Prelude.{OnOk, min, nat_le}
use Rattle.std.proofs.lemmas.Bool.{cases_Bool, leb-true, leb-false}
use Rattle.std.proofs.lemmas.List.{length-take-le, take_all}
use Rattle.outside_io.specs.Pieces.{SinkState}
use Rattle.outside_io.proofs.PutLemmas.{has_put_none}
use Rattle.program_answers.specs.LivePrograms.{LiveProgram, MayHear, TellsMore}
use Rattle.live_day.specs.Answers.{is_settled_by, longest_input, looked_at}
use Rattle.live_day.specs.Ends.{long_settles}
use Rattle.live_day.specs.GoingOn.{HasGone}
use Rattle.live_day.specs.Promises.{Runs, program_of}
use Rattle.live_day.specs.Told.{told}
use Rattle.live_day.proofs.EndFacts.{settled_told}

-- what a day answers of the bytes that count
pub front_settled : (program : LiveProgram) (front : List ℕ) (r x : Bool) → program ≡ program_of Runs → r ≡ program.is_settled front → r ≡ x → is_settled_by front ≡ x
front_settled program front r x is said e = sym (ap (λ (p : LiveProgram). p.is_settled front) is) ∙ sym said ∙ e

-- ---- where nothing counts any more

pub nothing_told : {E : Type 0} (Heard : List ℕ → Type 0) (bytes piece : List ℕ) (s : SinkState) (gone : HasGone Heard bytes) → is_settled_by gone.front ≡ true → TellsMore {T = Unit {0}} {E = E} (program_of Runs) bytes (bytes ++ piece) s s (Ok tt)
nothing_told Heard bytes piece s gone settled = record {
  text = [];
  is = ap (λ (b : List ℕ). told (looked_at (b ++ piece))) gone.is
      ∙ ap (λ (b : List ℕ). told (looked_at b)) (append_assoc gone.front gone.more piece)
      ∙ settled_told gone.front (gone.more ++ piece) settled
      ∙ sym (settled_told gone.front gone.more settled)
      ∙ ap (λ (b : List ℕ). told (looked_at b)) (sym gone.is)
      ∙ sym (append-nil (told (looked_at bytes)));
  put = record { ok = has_put_none s; err = tt };
}

pub nothing_heard : (Heard : List ℕ → Type 0) (bytes piece : List ℕ) (gone : HasGone Heard bytes) → is_settled_by gone.front ≡ true → HasGone Heard (bytes ++ piece)
nothing_heard Heard bytes piece gone settled = record {
  front = gone.front;
  more = gone.more ++ piece;
  is = ap (λ (b : List ℕ). b ++ piece) gone.is ∙ append_assoc gone.front gone.more piece;
  heard = gone.heard;
  counts = inr settled;
}

-- ---- where it goes on

pub all_counts : (Heard : List ℕ → Type 0) (bytes : List ℕ) (gone : HasGone Heard bytes) → is_settled_by gone.front ≡ false → bytes ≡ gone.front
all_counts Heard bytes gone going = elim gone.counts [
  | inl none ↦ gone.is ∙ ap (λ (m : List ℕ). gone.front ++ m) none ∙ append-nil gone.front
  | inr settled ↦ absurd (let clash : true ≡ false = sym settled ∙ going in cc clash)
]

-- so much of a piece is all of it, or settles the answer
pub enough : (program : LiveProgram) (front piece : List ℕ) (most n : ℕ) → program ≡ program_of Runs → most ≡ program.longest + 1 - length front → n ≡ min most (length piece) → (take n piece ≡ piece) ⊎ (is_settled_by (front ++ take n piece) ≡ true)
enough program front piece most n is room count = elim (cases_Bool (nat_le (length piece) most)) [
  | inl all ↦ inl (take_all n piece (let l = leb-true (length piece) most all in omega (arith, l, count)))
  | inr part ↦ inr (long_settles (front ++ take n piece) (
      let less = leb-false (length piece) most part in
      let size = length-append front (take n piece) in
      let taken = length-take-le n piece (omega (arith, less, count)) in
      let longest = ap (λ (p : LiveProgram). p.longest) is in
      omega (arith, less, size, taken, longest, room, count)
      ))
]

parts_told : (front piece part : List ℕ) (n : ℕ) → (take n piece ≡ piece) ⊎ (is_settled_by (front ++ take n piece) ≡ true) → told (looked_at (front ++ piece)) ≡ told (looked_at (front ++ take n piece))
parts_told front piece part n either = elim either [
  | inl all ↦ ap (λ (p : List ℕ). told (looked_at (front ++ p))) (sym all)
  | inr settled ↦
      ap (λ (p : List ℕ). told (looked_at p)) (ap (λ (p : List ℕ). front ++ p) (sym (take-append-drop n piece)) ∙ sym (append_assoc front (take n piece) (drop n piece)))
      ∙ settled_told (front ++ take n piece) (drop n piece) settled
]

pub part_told : {T E : Type 0} (program : LiveProgram) (front bytes piece : List ℕ) (n : ℕ) (old new : SinkState) (result : Result T E) → program ≡ program_of Runs → bytes ≡ front → (take n piece ≡ piece) ⊎ (is_settled_by (front ++ take n piece) ≡ true)
    → TellsMore program front (front ++ take n piece) old new result → TellsMore (program_of Runs) bytes (bytes ++ piece) old new result
part_told program front bytes piece n old new result is all either more = record {
  text = more.text;
  is = ap (λ (b : List ℕ). told (looked_at (b ++ piece))) all ∙ parts_told front piece [] n either
      ∙ sym (ap (λ (p : LiveProgram). p.told (front ++ take n piece)) is) ∙ more.is ∙ ap (λ (p : LiveProgram). p.told front ++ more.text) is
      ∙ ap (λ (b : List ℕ). told (looked_at b) ++ more.text) (sym all);
  put = more.put;
}

pub part_heard : {T E : Type 0} (Heard : List ℕ → Type 0) (front bytes piece : List ℕ) (n : ℕ) (result : Result T E) → bytes ≡ front → (take n piece ≡ piece) ⊎ (is_settled_by (front ++ take n piece) ≡ true)
    → OnOk result (Heard (front ++ take n piece)) → OnOk result (HasGone Heard (bytes ++ piece))
part_heard {T} {E} Heard front bytes piece n result all either = by result
  where
    gone : Heard (front ++ take n piece) → HasGone Heard (bytes ++ piece)
    gone h = elim either [
      | inl whole ↦ record { front = front ++ take n piece; more = []; is = (λ i. all i ++ sym whole i) ∙ sym (append-nil (front ++ take n piece)); heard = h; counts = inl refl }
      | inr settled ↦ record {
        front = front ++ take n piece;
        more = drop n piece;
        is = ap (λ (b : List ℕ). b ++ piece) all ∙ ap (λ (p : List ℕ). front ++ p) (sym (take-append-drop n piece)) ∙ sym (append_assoc front (take n piece) (drop n piece));
        heard = h;
        counts = inr settled;
      }
    ]

    by : (r : Result T E) → OnOk r (Heard (front ++ take n piece)) → OnOk r (HasGone Heard (bytes ++ piece))
    by (Ok v) h = gone h
    by (Err f) h = tt

short : (front : List ℕ) → is_settled_by front ≡ false → length front ≤ longest_input
short front going = elim (cases_Bool (nat_le (length front) longest_input)) [
  | inl few ↦ leb-true (length front) longest_input few
  | inr many ↦ absurd (let clash : true ≡ false = sym (long_settles front (leb-false (length front) longest_input many)) ∙ going in cc clash)
]

pub may_go_on : (program : LiveProgram) (Heard : List ℕ → Type 0) (bytes piece : List ℕ) (most n : ℕ) (gone : HasGone Heard bytes) → program ≡ program_of Runs → is_settled_by gone.front ≡ false → most ≡ program.longest + 1 - length gone.front → n ≡ min most (length piece) → MayHear program Heard (length (take n piece))
may_go_on program Heard bytes piece most n gone is going room count = record {
  bytes = gone.front;
  heard = gone.heard;
  unsettled = ap (λ (p : LiveProgram). p.is_settled gone.front) is ∙ going;
  within = let taken = length-take-le n piece (omega (arith, count)) in let l = short gone.front going in let longest = ap (λ (p : LiveProgram). p.longest) is in omega (arith, taken, l, longest, room, count);
}
