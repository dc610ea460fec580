-- Which lines of a text begin with one of two bytes.
use Rattle.std.proofs.Common.{◌≡◌, ◌∙◌, ℕ, Bool, true, false, List, [], ◌∷◌, ◌++◌, cond, refl, sym, ap, subst, append_assoc, append-nil, inl, inr, length}
use Rattle.std.specs.Prelude.{◌||◌, ◌==◌, codes, decimal, filter, if◌then◌else◌}
use Rattle.std.specs.List.{flat_map, join_with_byte}
use Rattle.cash_amounts.specs.AmountText.{amount_text}
use Rattle.outside_io.specs.TextLine.{line_feed, semicolon, text_line}
use Rattle.batch_records.specs.declared.day.DayCode.{DayCode}
use Rattle.batch_records.specs.declared.day.DayCode.TheVariants as day_codes
use Rattle.commit_journal.specs.declared.line.Head.{Head}
use Rattle.commit_journal.specs.declared.line.Move.{Move}
use Rattle.commit_journal.specs.Line.{Line}
use Rattle.commit_journal.specs.Text.{code_text, head_text, kind_text, line_text, move_text}
use Rattle.commit_journal.proofs.FieldLemmas.{is_free}
use Rattle.program_answers.specs.Answers.{day_code_text, refusal_text, size_text}
use Rattle.status_messages.specs.declared.status.Status.{Status}
use Rattle.status_messages.specs.declared.status.Status.TheVariants as status
use Rattle.status_messages.specs.StatusLaws.{FitsStatus}
use Rattle.status_messages.specs.StatusTexts.{side_text, status_text, turn_text}
use Rattle.status_messages.specs.Telling.{texts}
use Rattle.as_client.specs.TextLaws.{AllFit}
use Rattle.as_client.specs.Views.{text_lines}
use Rattle.as_client.proofs.TextFacts.{AllFree, amount_free, code_free, id_free, join_free, kind_free, name_free, number_free, side_free, text_cut, turn_free}
use Rattle.settlement_laws.proofs.Base.Lists.{IsIn}
use Rattle.live_day.specs.Promises.{begins_line, lines_with}
use Rattle.live_day.specs.Told.{refused_text}

-- in front of what follows, a text adds these lines
abbrev pub Adds : ℕ → ℕ → List ℕ → List ℕ → Type 0
Adds first second text lines = (rest : List ℕ) → lines_with first second (text ++ rest) ≡ lines ++ lines_with first second rest

-- what a text adds that does so where a test passes, and else adds nothing
abbrev pub added : Bool → List ℕ → List ℕ
added b text = if b then text else []

-- the lines of a text that begin so, and a text of lines
abbrev picked : ℕ → ℕ → List (List ℕ) → List (List ℕ)
picked first second lines = filter (λ line. begins_line first line || begins_line second line) lines

abbrev spelled : List (List ℕ) → List ℕ
spelled lines = flat_map (λ line. line ++ 10 ∷ []) lines

day_code_free : (code : DayCode) → is_free line_feed (day_code_text code) ≡ true
day_code_free day_codes.Fields = refl
day_code_free day_codes.Kind = refl
day_code_free day_codes.Place = refl
day_code_free day_codes.Date = refl
day_code_free day_codes.Closed = refl
day_code_free day_codes.Name = refl
day_code_free day_codes.Id = refl
day_code_free day_codes.Number = refl
day_code_free day_codes.Amount = refl
day_code_free day_codes.Time = refl
day_code_free day_codes.Twice = refl
day_code_free day_codes.Setup = refl
day_code_free day_codes.Limit = refl
day_code_free day_codes.Cut = refl

module _ (first second : ℕ) where
  pub adds_nothing : Adds first second [] []
  adds_nothing rest = refl

  pub adds_append : (a b x y : List ℕ) → Adds first second a x → Adds first second b y → Adds first second (a ++ b) (x ++ y)
  adds_append a b x y h k rest =
      ap (lines_with first second) (append_assoc a b rest) ∙ h (b ++ rest) ∙ ap (λ (l : List ℕ). x ++ l) (k rest) ∙ sym (append_assoc x y (lines_with first second rest))

  pub adds_same : (text lines same : List ℕ) → lines ≡ same → Adds first second text lines → Adds first second text same
  adds_same text lines same e h = subst (λ (l : List ℕ). Adds first second text l) e h

  -- none of these adds anything
  pub adds_none : {X : Type 0} (f : X → List ℕ) (xs : List X) → ((x : X) → IsIn x xs → Adds first second (f x) []) → Adds first second (flat_map f xs) []
  adds_none f [] h = adds_nothing
  adds_none f (x ∷ xs) h = adds_append (f x) (flat_map f xs) [] [] (h x (inl refl)) (adds_none f xs (λ y i. h y (inr i)))

  -- each adds itself
  pub adds_each : {X : Type 0} (f : X → List ℕ) (xs : List X) → ((x : X) → IsIn x xs → Adds first second (f x) (f x)) → Adds first second (flat_map f xs) (flat_map f xs)
  adds_each f [] h = adds_nothing
  adds_each f (x ∷ xs) h = adds_append (f x) (flat_map f xs) (f x) (flat_map f xs) (h x (inl refl)) (adds_each f xs (λ y i. h y (inr i)))

  -- a whole text
  pub adds_whole : (text lines : List ℕ) → Adds first second text lines → lines_with first second text ≡ lines
  unfolding text_lines
  adds_whole text lines h = ap (lines_with first second) (sym (append-nil text)) ∙ h [] ∙ append-nil lines

  -- ---- one line

  -- of some fields
  pub line_adds : (b : ℕ) (word field : List ℕ) (fields : List (List ℕ)) (found : Bool) → (b == first || b == second) ≡ found → AllFree ((b ∷ word) ∷ field ∷ fields)
      → Adds first second (text_line ((b ∷ word) ∷ field ∷ fields)) (added found (text_line ((b ∷ word) ∷ field ∷ fields)))
  line_adds b word field fields found is free rest =
      ap (λ (lines : List (List ℕ)). spelled (picked first second lines)) (text_cut (join_with_byte semicolon ((b ∷ word) ∷ field ∷ fields)) rest (join_free ((b ∷ word) ∷ field ∷ fields) free))
      ∙ ap (λ (c : Bool). spelled (cond c (join_with_byte semicolon ((b ∷ word) ∷ field ∷ fields) ∷ picked first second (text_lines rest)) (picked first second (text_lines rest)))) is
      ∙ by found
    where
      by : (c : Bool) → spelled (cond c (join_with_byte semicolon ((b ∷ word) ∷ field ∷ fields) ∷ picked first second (text_lines rest)) (picked first second (text_lines rest)))
          ≡ added c (text_line ((b ∷ word) ∷ field ∷ fields)) ++ lines_with first second rest
      by true = refl
      by false = refl

  pub head_adds : (place : ℕ) (head : Head) (count : ℕ) (found : Bool) → (74 == first || 74 == second) ≡ found → Adds first second (head_text place head count) (added found (head_text place head count))
  head_adds place head count found is =
      line_adds 74 [] (decimal place) (kind_text head.kind ∷ decimal head.msg ∷ decimal head.entry ∷ code_text head.code ∷ decimal count ∷ []) found is
      (refl, (number_free place, (kind_free head.kind, (number_free head.msg, (number_free head.entry, (code_free head.code, (number_free count, tt)))))))

  pub move_adds : (m : Move) (found : Bool) → (77 == first || 77 == second) ≡ found → Adds first second (move_text m) (added found (move_text m))
  move_adds m found is = line_adds 77 [] (decimal m.debit) (decimal m.credit ∷ amount_text m.amount ∷ []) found is (refl, (number_free m.debit, (number_free m.credit, (amount_free m.amount, tt))))

  pub status_adds : (most : ℕ) (s : Status) (found : Bool) → FitsStatus most s → (83 == first || 83 == second) ≡ found → Adds first second (status_text s) (added found (status_text s))
  unfolding status_text
  status_adds most (status.Turn place to turn msg from id entry reason) found h is =
      line_adds 83 [] (decimal place) (to ∷ turn_text turn ∷ decimal msg ∷ from ∷ id ∷ decimal entry ∷ code_text reason ∷ []) found is
      (refl, (number_free place, (name_free to h.to_named, (turn_free turn, (number_free msg, (name_free from h.from_named, (id_free id h.id_given, (number_free entry, (code_free reason, tt)))))))))
  status_adds most (status.Moved place to debit account amount) found h is =
      line_adds 83 [] (decimal place) (to ∷ side_text debit ∷ account ∷ amount_text amount ∷ []) found is
      (refl, (number_free place, (name_free to h.to_named, (side_free debit, (name_free account h.account_named, (amount_free amount, tt))))))

  pub refused_adds : (number : ℕ) (code : DayCode) (found : Bool) → (82 == first || 82 == second) ≡ found → Adds first second (refused_text number code) (added found (refused_text number code))
  refused_adds number code found is = line_adds 82 [] (decimal number) (day_code_text code ∷ []) found is (refl, (number_free number, (day_code_free code, tt)))

  -- a line of the journal adds itself, or nothing
  pub made_none : (place : ℕ) (l : Line) → (74 == first || 74 == second) ≡ false → (77 == first || 77 == second) ≡ false → Adds first second (line_text place l) []
  unfolding line_text
  made_none place l no_head no_move =
      adds_append (head_text place l.head (length l.moves)) (flat_map move_text l.moves) [] [] (head_adds place l.head (length l.moves) false no_head) (adds_none move_text l.moves (λ m i. move_adds m false no_move))

  pub made_all : (place : ℕ) (l : Line) → (74 == first || 74 == second) ≡ true → (77 == first || 77 == second) ≡ true → Adds first second (line_text place l) (line_text place l)
  unfolding line_text
  made_all place l head move =
      adds_append (head_text place l.head (length l.moves)) (flat_map move_text l.moves) (head_text place l.head (length l.moves)) (flat_map move_text l.moves) (head_adds place l.head (length l.moves) true head)
      (adds_each move_text l.moves (λ m i. move_adds m true move))

  -- and so do statuses
  pub statuses_none : (most : ℕ) (ss : List Status) → AllFit most ss → (83 == first || 83 == second) ≡ false → Adds first second (texts ss) []
  statuses_none most [] h other = adds_nothing
  statuses_none most (s ∷ ss) h other = adds_append (status_text s) (texts ss) [] [] (status_adds most s false h.0 other) (statuses_none most ss h.1 other)

  pub statuses_all : (most : ℕ) (ss : List Status) → AllFit most ss → (83 == first || 83 == second) ≡ true → Adds first second (texts ss) (texts ss)
  statuses_all most [] h is = adds_nothing
  statuses_all most (s ∷ ss) h is = adds_append (status_text s) (texts ss) (status_text s) (texts ss) (status_adds most s true h.0 is) (statuses_all most ss h.1 is)

  -- the lines of faults and of sums
  pub fault_adds : (number : ℕ) (code : DayCode) (found : Bool) → (69 == first || 69 == second) ≡ found → Adds first second (refusal_text number code) (added found (refusal_text number code))
  fault_adds number code found is = line_adds 69 [] (decimal number) (day_code_text code ∷ []) found is (refl, (number_free number, (day_code_free code, tt)))

  pub fault_none : (number : ℕ) (code : DayCode) → (69 == first || 69 == second) ≡ false → Adds first second (refusal_text number code) []
  fault_none number code other = fault_adds number code false other

  pub size_adds : (found : Bool) → (69 == first || 69 == second) ≡ found → Adds first second size_text (added found size_text)
  size_adds found is = line_adds 69 [] (codes "0") (codes "SIZE" ∷ []) found is (refl, (refl, (refl, tt)))

  pub size_none : (69 == first || 69 == second) ≡ false → Adds first second size_text []
  size_none other = size_adds false other
