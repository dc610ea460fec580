-- The text of a message is read as that message, and nothing else is read.
use Rattle.std.proofs.Common.{◌≡◌, ℕ, ◌≤◌, Bool, true, false, not, List, [], ◌∷◌, ◌++◌, Option, Some, None, refl, sym, ap, ◌∙◌, subst, arith}
use Rattle.std.specs.Prelude.{decimal, ◌≢◌, IsTrue, codes}
use Rattle.std.specs.List.{list_all, join_with_byte}
use Rattle.std.proofs.lemmas.Bool.{and_from, ne_eqb}
use Rattle.std.proofs.lemmas.List.{append_cancel_right}
use Rattle.cash_amounts.specs.AmountText.{amount_text}
use Rattle.cash_amounts.specs.Names.{is_name, is_name_byte, is_id, is_id_byte}
use Rattle.outside_io.specs.TextLine.{semicolon, line_feed}
use Rattle.commit_journal.specs.declared.line.Code.{Code}
use Rattle.commit_journal.specs.declared.line.Code.TheVariants as line_codes
use Rattle.commit_journal.specs.Text.{code_text}
use Rattle.commit_journal.specs.FieldGrammar.{when, read_field, read_number, read_code}
use Rattle.commit_journal.proofs.FieldLemmas.{both, is_free, some_is, when_some, then_some, then_only, cut-at, cut-only, field_read, field_only, word_read, word_only, number_read, number_only, number_free, amount_read, amount_only}
use Rattle.commit_journal.proofs.LineLemmas.{found_text, code_only, no_semicolon}
use Rattle.status_messages.specs.declared.status.TurnCode.{TurnCode}
use Rattle.status_messages.specs.declared.status.TurnCode.TheVariants as turn_codes
use Rattle.status_messages.specs.declared.status.Status.{Status}
use Rattle.status_messages.specs.declared.status.Status.TheVariants as status
use Rattle.status_messages.specs.StatusTexts.{turn_text, side_text, status_text}
use Rattle.status_messages.specs.StatusGrammar.{most_count, all_turns, all_sides, read_turn, read_side, read_name, read_id, read_front, read_about, read_taken, read_moved, by_word, read_status}
use Rattle.status_messages.specs.StatusLaws.{FitsTurn, FitsMoved, FitsStatus, StatusesAreRead, OnlyStatusesAreRead}

-- ---- words

turn_read : (turn : TurnCode) → (read_turn (turn_text turn) ≡ Some turn) × (is_free semicolon (turn_text turn) ≡ true)
unfolding read_turn
turn_read turn_codes.Acpt = (refl, refl)
turn_read turn_codes.Rjct = (refl, refl)
turn_read turn_codes.Dupl = (refl, refl)
turn_read turn_codes.Info = (refl, refl)
turn_read turn_codes.Setl = (refl, refl)
turn_read turn_codes.Askg = (refl, refl)
turn_read turn_codes.Fail = (refl, refl)
turn_read turn_codes.Rvkd = (refl, refl)

side_read : (debit : Bool) → (read_side (side_text debit) ≡ Some debit) × (is_free semicolon (side_text debit) ≡ true)
unfolding read_side
side_read true = (refl, refl)
side_read false = (refl, refl)

-- the word for a side is no turn's
no_turn : (debit : Bool) → read_turn (side_text debit) ≡ None
unfolding read_turn
no_turn true = refl
no_turn false = refl

code_read : (code : Code) → read_code (code_text code) ≡ Some code
unfolding read_code
code_read line_codes.Ok = refl
code_read line_codes.Du = refl
code_read line_codes.Us = refl
code_read line_codes.Pr = refl
code_read line_codes.Ct = refl
code_read line_codes.Sm = refl
code_read line_codes.Nz = refl
code_read line_codes.En = refl
code_read line_codes.Ti = refl
code_read line_codes.Cy = refl
code_read line_codes.Ac = refl
code_read line_codes.Lk = refl
code_read line_codes.Nc = refl
code_read line_codes.Bt = refl
code_read line_codes.Ph = refl
code_read line_codes.Np = refl
code_read line_codes.Pe = refl
code_read line_codes.Ce = refl
code_read line_codes.Ed = refl
code_read line_codes.Gn = refl
code_read line_codes.Gs = refl
code_read line_codes.Ge = refl

turn_only : (bytes : List ℕ) (turn : TurnCode) → read_turn bytes ≡ Some turn → bytes ≡ turn_text turn
unfolding read_turn
turn_only bytes turn h = found_text turn_text all_turns bytes turn h

side_only : (bytes : List ℕ) (debit : Bool) → read_side bytes ≡ Some debit → bytes ≡ side_text debit
unfolding read_side
side_only bytes debit h = found_text side_text all_sides bytes debit h

-- ---- names and numbers

-- bytes that all pass a test hold no mark that fails it
pub passed_free : (test : ℕ → Bool) (mark : ℕ) → test mark ≡ false → (bytes : List ℕ) → list_all test bytes ≡ true → is_free mark bytes ≡ true
passed_free test mark fails [] h = refl
passed_free test mark fails (b ∷ bytes) h =
    let parts = both (test b) (list_all test bytes) h in
    let apart : b ≢ mark = λ e. differ (test mark) fails (sym (ap test e) ∙ parts.0) in
    and_from _ _ (ap not (ne_eqb b mark apart)) (passed_free test mark fails bytes parts.1)
  where
    differ : (b : Bool) → b ≡ false → b ≡ true → ⊥
    differ b f t = cc

name_field : (name rest : List ℕ) → IsTrue (is_name name) → read_field semicolon read_name (name ++ semicolon ∷ rest) ≡ Some (name, rest)
name_field name rest h =
    field_read semicolon read_name name rest name (passed_free is_name_byte semicolon refl name (both _ _ h).1) (ap (λ b. when b name) h)

id_field : (id rest : List ℕ) → IsTrue (is_id id) → read_field semicolon read_id (id ++ semicolon ∷ rest) ≡ Some (id, rest)
id_field id rest h =
    field_read semicolon read_id id rest id (passed_free is_id_byte semicolon refl id (both _ _ h).1) (ap (λ b. when b id) h)

number_field : (low high n : ℕ) (rest : List ℕ) → low ≤ n → n ≤ high → high ≤ most_count → read_field semicolon (read_number low high) (decimal n ++ semicolon ∷ rest) ≡ Some (n, rest)
number_field low high n rest least most few =
    field_read semicolon (read_number low high) (decimal n) rest n (number_free semicolon n no_semicolon (omega (arith, most, few))) (number_read low high n least most (omega (arith, most, few)))

-- ---- texts are read

front_read : (place : ℕ) (to rest : List ℕ) → 1 ≤ place → place ≤ most_count → IsTrue (is_name to) →
    read_front (codes "S" ++ semicolon ∷ (decimal place ++ semicolon ∷ (to ++ semicolon ∷ rest))) ≡ Some ((place, to), rest)
unfolding read_front
front_read place to rest least most named =
    then_some _ _ _ _ (word_read (codes "S") _ refl)
    (then_some _ _ _ _ (number_field 1 most_count place _ least most (omega arith))
    (then_some _ _ _ _ (name_field to rest named) refl))

about_read : (most msg : ℕ) (from id rest : List ℕ) → 1 ≤ msg → msg ≤ most → most ≤ most_count → IsTrue (is_name from) → IsTrue (is_id id) →
    read_about most (decimal msg ++ semicolon ∷ (from ++ semicolon ∷ (id ++ semicolon ∷ rest))) ≡ Some ((msg, from, id), rest)
unfolding read_about
about_read most msg from id rest least within few named given =
    then_some _ _ _ _ (number_field 1 most msg _ least within few)
    (then_some _ _ _ _ (name_field from _ named)
    (then_some _ _ _ _ (id_field id rest given) refl))

taken_read : (most place : ℕ) (to : List ℕ) (turn : TurnCode) (msg : ℕ) (from id : List ℕ) (entry : ℕ) (reason : Code) → most ≤ most_count → FitsTurn most place to msg from id entry →
    read_taken most place to turn (decimal msg ++ semicolon ∷ (from ++ semicolon ∷ (id ++ semicolon ∷ (decimal entry ++ semicolon ∷ code_text reason)))) ≡ Some (status.Turn place to turn msg from id entry reason)
unfolding read_taken
taken_read most place to turn msg from id entry reason few h =
    then_some _ _ _ _ (about_read most msg from id _ h.msg_from h.msg_to few h.from_named h.id_given)
    (then_some _ _ _ _ (number_field 0 most_count entry _ (omega arith) h.entry_to (omega arith))
    (then_some _ _ _ _ (code_read reason) refl))

moved_read : (place : ℕ) (to : List ℕ) (debit : Bool) (account : List ℕ) (amount : ℕ) → FitsMoved place to account amount →
    read_moved place to debit (account ++ semicolon ∷ amount_text amount) ≡ Some (status.Moved place to debit account amount)
unfolding read_moved
moved_read place to debit account amount h =
    then_some _ _ _ _ (name_field account _ h.account_named)
    (then_some _ _ _ _ (amount_read amount h.amount_from h.amount_to) refl)

turn_is_read : (most place : ℕ) (to : List ℕ) (turn : TurnCode) (msg : ℕ) (from id : List ℕ) (entry : ℕ) (reason : Code) → most ≤ most_count → FitsTurn most place to msg from id entry →
    read_status most (join_with_byte semicolon (codes "S" ∷ decimal place ∷ to ∷ turn_text turn ∷ decimal msg ∷ from ∷ id ∷ decimal entry ∷ code_text reason ∷ [])) ≡ Some (status.Turn place to turn msg from id entry reason)
unfolding read_status
turn_is_read most place to turn msg from id entry reason few h =
    then_some _ _ _ _ (front_read place to _ h.place_from h.place_to h.to_named)
    (then_some _ _ _ _ (cut-at semicolon (turn_text turn) _ (turn_read turn).1)
    (ap (by_word most place to (turn_text turn) _) (turn_read turn).0 ∙ taken_read most place to turn msg from id entry reason few h))

moved_is_read : (most place : ℕ) (to : List ℕ) (debit : Bool) (account : List ℕ) (amount : ℕ) → FitsMoved place to account amount →
    read_status most (join_with_byte semicolon (codes "S" ∷ decimal place ∷ to ∷ side_text debit ∷ account ∷ amount_text amount ∷ [])) ≡ Some (status.Moved place to debit account amount)
unfolding read_status
moved_is_read most place to debit account amount h =
    then_some _ _ _ _ (front_read place to _ h.place_from h.place_to h.to_named)
    (then_some _ _ _ _ (cut-at semicolon (side_text debit) _ (side_read debit).1)
    (ap (by_word most place to (side_text debit) _) (no_turn debit)
    ∙ then_some _ _ _ _ (side_read debit).0 (moved_read place to debit account amount h)))

pub statuses_are_read : StatusesAreRead
unfolding status_text
statuses_are_read most (status.Turn place to turn msg from id entry reason) line few h e =
    ap (read_status most) (sym (append_cancel_right _ _ (line_feed ∷ []) e)) ∙ turn_is_read most place to turn msg from id entry reason few h
statuses_are_read most (status.Moved place to debit account amount) line few h e =
    ap (read_status most) (sym (append_cancel_right _ _ (line_feed ∷ []) e)) ∙ moved_is_read most place to debit account amount h

-- ---- only texts are read

number_was : (low high : ℕ) (bytes : List ℕ) (y : ℕ × List ℕ) → read_field semicolon (read_number low high) bytes ≡ Some y → (bytes ≡ decimal y.0 ++ semicolon ∷ y.1) × (low ≤ y.0) × (y.0 ≤ high)
number_was low high bytes y h =
    let f = field_only semicolon (read_number low high) bytes y h in
    let n = number_only low high y.0 f.0 f.1 in
    (f.2 ∙ ap (λ text. text ++ semicolon ∷ y.1) n.0, n.1, n.2)

name_was : (bytes : List ℕ) (y : List ℕ × List ℕ) → read_field semicolon read_name bytes ≡ Some y → (bytes ≡ y.0 ++ semicolon ∷ y.1) × IsTrue (is_name y.0)
name_was bytes y h =
    let f = field_only semicolon read_name bytes y h in
    let w = when_some (is_name f.0) f.0 y.0 f.1 in
    (f.2 ∙ ap (λ text. text ++ semicolon ∷ y.1) w.1, ap is_name (sym w.1) ∙ w.0)

id_was : (bytes : List ℕ) (y : List ℕ × List ℕ) → read_field semicolon read_id bytes ≡ Some y → (bytes ≡ y.0 ++ semicolon ∷ y.1) × IsTrue (is_id y.0)
id_was bytes y h =
    let f = field_only semicolon read_id bytes y h in
    let w = when_some (is_id f.0) f.0 y.0 f.1 in
    (f.2 ∙ ap (λ text. text ++ semicolon ∷ y.1) w.1, ap is_id (sym w.1) ∙ w.0)

record FrontWas (bytes : List ℕ) (y : (ℕ × List ℕ) × List ℕ) : Type 0 where
  text : bytes ≡ codes "S" ++ semicolon ∷ (decimal y.0.0 ++ semicolon ∷ (y.0.1 ++ semicolon ∷ y.1))
  place_from : 1 ≤ y.0.0
  place_to : y.0.0 ≤ most_count
  to_named : IsTrue (is_name y.0.1)

front_only : (bytes : List ℕ) (y : (ℕ × List ℕ) × List ℕ) → read_front bytes ≡ Some y → FrontWas bytes y
unfolding read_front
front_only bytes y h =
    let word = then_only _ _ y h in
    let place = then_only _ _ y word.2 in
    let to = then_only _ _ y place.2 in
    let place_was = number_was 1 most_count word.0 place.0 place.1 in
    let to_was = name_was place.0.1 to.0 to.1 in
    let made : FrontWas bytes ((place.0.0, to.0.0), to.0.1) = record {
      text = word_only (codes "S") bytes word.0 word.1
          ∙ ap (λ (xs : List ℕ). codes "S" ++ semicolon ∷ xs) (place_was.0 ∙ ap (λ (xs : List ℕ). decimal place.0.0 ++ semicolon ∷ xs) to_was.0);
      place_from = place_was.1;
      place_to = place_was.2;
      to_named = to_was.1;
    } in
    subst (FrontWas bytes) (some_is _ _ to.2) made

record AboutWas (most : ℕ) (bytes : List ℕ) (y : (ℕ × List ℕ × List ℕ) × List ℕ) : Type 0 where
  text : bytes ≡ decimal y.0.0 ++ semicolon ∷ (y.0.1 ++ semicolon ∷ (y.0.2 ++ semicolon ∷ y.1))
  msg_from : 1 ≤ y.0.0
  msg_to : y.0.0 ≤ most
  from_named : IsTrue (is_name y.0.1)
  id_given : IsTrue (is_id y.0.2)

about_only : (most : ℕ) (bytes : List ℕ) (y : (ℕ × List ℕ × List ℕ) × List ℕ) → read_about most bytes ≡ Some y → AboutWas most bytes y
unfolding read_about
about_only most bytes y h =
    let msg = then_only _ _ y h in
    let from = then_only _ _ y msg.2 in
    let id = then_only _ _ y from.2 in
    let msg_was = number_was 1 most bytes msg.0 msg.1 in
    let from_was = name_was msg.0.1 from.0 from.1 in
    let id_was = id_was from.0.1 id.0 id.1 in
    let made : AboutWas most bytes ((msg.0.0, from.0.0, id.0.0), id.0.1) = record {
      text = msg_was.0 ∙ ap (λ (xs : List ℕ). decimal msg.0.0 ++ semicolon ∷ xs) (from_was.0 ∙ ap (λ (xs : List ℕ). from.0.0 ++ semicolon ∷ xs) id_was.0);
      msg_from = msg_was.1;
      msg_to = msg_was.2;
      from_named = from_was.1;
      id_given = id_was.1;
    } in
    subst (AboutWas most bytes) (some_is _ _ id.2) made

-- a line with this place, this name and what stands after them
abbrev told_behind : ℕ → List ℕ → List ℕ → List ℕ
told_behind place to rest = (codes "S" ++ semicolon ∷ (decimal place ++ semicolon ∷ (to ++ semicolon ∷ rest))) ++ line_feed ∷ []

abbrev IsTold : ℕ → ℕ → List ℕ → List ℕ → Status → Type 0
IsTold most place to rest s = FitsStatus most s × (status_text s ≡ told_behind place to rest)

taken_only : (most place : ℕ) (to : List ℕ) (turn : TurnCode) (rest : List ℕ) (s : Status) → 1 ≤ place → place ≤ most_count → IsTrue (is_name to) →
    read_taken most place to turn rest ≡ Some s → IsTold most place to (turn_text turn ++ semicolon ∷ rest) s
unfolding read_taken status_text
taken_only most place to turn rest s least within named h =
    let about = then_only _ _ s h in
    let entry = then_only _ _ s about.2 in
    let reason = then_only _ _ s entry.2 in
    let about_was = about_only most rest about.0 about.1 in
    let entry_was = number_was 0 most_count about.0.1 entry.0 entry.1 in
    let last : about.0.1 ≡ decimal entry.0.0 ++ semicolon ∷ code_text reason.0 =
    entry_was.0 ∙ ap (λ (xs : List ℕ). decimal entry.0.0 ++ semicolon ∷ xs) (code_only entry.0.1 reason.0 reason.1) in
    let text : rest ≡ decimal about.0.0.0 ++ semicolon ∷ (about.0.0.1 ++ semicolon ∷ (about.0.0.2 ++ semicolon ∷ (decimal entry.0.0 ++ semicolon ∷ code_text reason.0))) =
    about_was.text ∙ ap (λ (xs : List ℕ). decimal about.0.0.0 ++ semicolon ∷ (about.0.0.1 ++ semicolon ∷ (about.0.0.2 ++ semicolon ∷ xs))) last in
    let fits : FitsTurn most place to about.0.0.0 about.0.0.1 about.0.0.2 entry.0.0 = record {
      place_from = least;
      place_to = within;
      to_named = named;
      msg_from = about_was.msg_from;
      msg_to = about_was.msg_to;
      from_named = about_was.from_named;
      id_given = about_was.id_given;
      entry_to = entry_was.2;
    } in
    subst (IsTold most place to (turn_text turn ++ semicolon ∷ rest)) (some_is _ _ reason.2)
    (fits, ap (λ (xs : List ℕ). told_behind place to (turn_text turn ++ semicolon ∷ xs)) (sym text))

moved_only : (most place : ℕ) (to : List ℕ) (debit : Bool) (rest : List ℕ) (s : Status) → 1 ≤ place → place ≤ most_count → IsTrue (is_name to) →
    read_moved place to debit rest ≡ Some s → IsTold most place to (side_text debit ++ semicolon ∷ rest) s
unfolding read_moved status_text
moved_only most place to debit rest s least within named h =
    let account = then_only _ _ s h in
    let amount = then_only _ _ s account.2 in
    let account_was = name_was rest account.0 account.1 in
    let amount_was = amount_only amount.0 account.0.1 amount.1 in
    let text : rest ≡ account.0.0 ++ semicolon ∷ amount_text amount.0 = account_was.0 ∙ ap (λ (xs : List ℕ). account.0.0 ++ semicolon ∷ xs) amount_was.0 in
    let fits : FitsMoved place to account.0.0 amount.0 = record {
      place_from = least;
      place_to = within;
      to_named = named;
      account_named = account_was.1;
      amount_from = amount_was.1;
      amount_to = amount_was.2;
    } in
    subst (IsTold most place to (side_text debit ++ semicolon ∷ rest)) (some_is _ _ amount.2)
    (fits, ap (λ (xs : List ℕ). told_behind place to (side_text debit ++ semicolon ∷ xs)) (sym text))

word_was : (most place : ℕ) (to word rest : List ℕ) (s : Status) (turn : Option TurnCode) → 1 ≤ place → place ≤ most_count → IsTrue (is_name to) → read_turn word ≡ turn →
    by_word most place to word rest turn ≡ Some s → IsTold most place to (word ++ semicolon ∷ rest) s
word_was most place to word rest s (Some turn) least within named e h =
    subst (λ (w : List ℕ). IsTold most place to (w ++ semicolon ∷ rest) s) (sym (turn_only word turn e)) (taken_only most place to turn rest s least within named h)
word_was most place to word rest s None least within named e h =
    let side = then_only _ _ s h in
    subst (λ (w : List ℕ). IsTold most place to (w ++ semicolon ∷ rest) s) (sym (side_only word side.0 side.1)) (moved_only most place to side.0 rest s least within named side.2)

pub only_statuses_are_read : OnlyStatusesAreRead
unfolding read_status
only_statuses_are_read most s line h =
    let front = then_only _ _ s h in
    let word = then_only _ _ s front.2 in
    let was = front_only line front.0 front.1 in
    let told = word_was most front.0.0.0 front.0.0.1 word.0.0 word.0.1 s _ was.place_from was.place_to was.to_named refl word.2 in
    let text : line ≡ codes "S" ++ semicolon ∷ (decimal front.0.0.0 ++ semicolon ∷ (front.0.0.1 ++ semicolon ∷ (word.0.0 ++ semicolon ∷ word.0.1))) =
    was.text ∙ ap (λ (xs : List ℕ). codes "S" ++ semicolon ∷ (decimal front.0.0.0 ++ semicolon ∷ (front.0.0.1 ++ semicolon ∷ xs))) (cut-only semicolon front.0.1 word.0.0 word.0.1 word.1) in
    (told.0, told.1 ∙ ap (λ (xs : List ℕ). xs ++ line_feed ∷ []) (sym text))
