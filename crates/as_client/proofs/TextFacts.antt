-- The lines of a text of statuses and of other lines, and which of them are statuses.
use Rattle.std.proofs.Common.{◌≡◌, ◌∙◌, ◌≤◌, ◌+◌, ◌<◌, ◌/◌, ◌%◌, ℕ, zero, suc, Bool, true, false, not, List, [], ◌∷◌, ◌++◌, Option, None, refl, sym, ap, arith, append_assoc, append-nil, inl, inr, length}
use Rattle.std.specs.Prelude.{bytes_eq, codes, decimal, if◌then◌else◌, nat_lt, option_and_then, ◌==◌}
use Rattle.std.specs.Fmt.{digit_glyph, digits, digits_onto}
use Rattle.std.specs.List.{cons_option, flat_map, join_with_byte, list_all}
use Rattle.std.proofs.lemmas.Bool.{and_from, and_parts, ne_eqb, not-true}
use Rattle.cash_amounts.specs.AmountText.{amount_text}
use Rattle.cash_amounts.specs.declared.limits.TheConstants.{MAX_MESSAGES, MAX_MESSAGES_BEFORE_THIRD}
use Rattle.cash_amounts.specs.Names.{is_id, is_id_byte, is_name, is_name_byte}
use Rattle.outside_io.specs.TextLine.{line_feed, semicolon, text_line}
use Rattle.batch_records.specs.DayRecord.{Day}
use Rattle.batch_records.specs.Sound.{is_sound}
use Rattle.batch_records.specs.Versions.{is_third, most_messages}
use Rattle.machine.specs.Legal.{IsLegal}
use Rattle.machine.specs.Records.Setup.{account_numbers}
use Rattle.machine.specs.Telling.Balances.{balance}
use Rattle.settlement_laws.proofs.Base.Lists.{IsIn}
use Rattle.settlement_laws.proofs.Balances.MovesOfTheDay.{IsAccount}
use Rattle.commit_journal.specs.declared.line.Code.{Code}
use Rattle.commit_journal.specs.declared.line.Code.TheVariants as line_codes
use Rattle.commit_journal.specs.declared.line.Kind.{Kind}
use Rattle.commit_journal.specs.declared.line.Kind.TheVariants as kinds
use Rattle.commit_journal.specs.declared.line.Move.{Move}
use Rattle.commit_journal.specs.FieldGrammar.{after_word, when}
use Rattle.commit_journal.specs.Line.{Line, History}
use Rattle.commit_journal.specs.Text.{code_text, head_text, journal_text, kind_text, line_text, move_text}
use Rattle.commit_journal.proofs.FieldLemmas.{cut-at, is_free, then_some, free_append}
use Rattle.status_messages.specs.declared.status.Status.{Status}
use Rattle.status_messages.specs.declared.status.Status.TheVariants as status
use Rattle.status_messages.specs.declared.status.TurnCode.{TurnCode}
use Rattle.status_messages.specs.declared.status.TurnCode.TheVariants as turn_codes
use Rattle.status_messages.specs.StatusGrammar.{most_count, most_told, read_front, read_status}
use Rattle.status_messages.specs.StatusLaws.{FitsStatus}
use Rattle.status_messages.specs.Statuses.{account_name, all_statuses}
use Rattle.status_messages.specs.StatusTexts.{side_text, status_text, turn_text}
use Rattle.status_messages.proofs.StatusLemmas.{statuses_are_read, passed_free}
use Rattle.as_client.specs.Reports.{count_text, holding_text}
use Rattle.status_messages.specs.Telling.{statuses_text}
use Rattle.as_client.specs.TextLaws.{AllFit, OutputsAgree, TellsNothing, TextsAgree, statuses_in}
use Rattle.as_client.specs.Views.{before_lines, text_lines}
use Rattle.as_client.proofs.AccountNames.{name_spelled}
use Rattle.as_client.proofs.LineFacts.{lines_agree}
use Rattle.as_client.proofs.StatusFits.{below_end, legal_statuses_fit}
use Rattle.as_client.proofs.WordSteps.{above_start}

-- ---- no line feed in a field

glyph_free : (d : ℕ) → not (digit_glyph false d == line_feed) ≡ true
glyph_free d = here (nat_lt d 10)
  where
    here : (b : Bool) → not ((if b then 48 + d else 87 + d) == line_feed) ≡ true
    here true = ap not (ne_eqb (48 + d) line_feed (λ e. omega arith))
    here false = ap not (ne_eqb (87 + d) line_feed (λ e. omega arith))

digits_free : (k n : ℕ) (acc : List ℕ) → is_free line_feed acc ≡ true → is_free line_feed (digits_onto k 10 false n acc) ≡ true
digits_free zero n acc h = h
digits_free (suc k) n acc h = here (n / 10 == 0) (digits_free k (n / 10) (digit_glyph false (n % 10) ∷ acc) more)
  where
    more : is_free line_feed (digit_glyph false (n % 10) ∷ acc) ≡ true
    more = and_from _ _ (glyph_free (n % 10)) h

    here : (b : Bool) → is_free line_feed (digits_onto k 10 false (n / 10) (digit_glyph false (n % 10) ∷ acc)) ≡ true
        → is_free line_feed (if b then digit_glyph false (n % 10) ∷ acc else digits_onto k 10 false (n / 10) (digit_glyph false (n % 10) ∷ acc)) ≡ true
    here true go = more
    here false go = go

pub number_free : (n : ℕ) → is_free line_feed (decimal n) ≡ true
unfolding digits
number_free n = digits_free 64 n [] refl

pub amount_free : (n : ℕ) → is_free line_feed (amount_text n) ≡ true
amount_free n =
    free_append line_feed (decimal (n / 100)) (46 ∷ (48 + n / 10 % 10) ∷ (48 + n % 10) ∷ []) (number_free (n / 100))
    (and_from _ _ (ap not (ne_eqb (48 + n / 10 % 10) line_feed (λ e. omega arith))) (and_from _ _ (ap not (ne_eqb (48 + n % 10) line_feed (λ e. omega arith))) refl))

pub name_free : (name : List ℕ) → is_name name ≡ true → is_free line_feed name ≡ true
name_free name h = passed_free is_name_byte line_feed refl name (and_parts _ (list_all is_name_byte name) h).1

pub id_free : (id : List ℕ) → is_id id ≡ true → is_free line_feed id ≡ true
id_free id h = passed_free is_id_byte line_feed refl id (and_parts _ (list_all is_id_byte id) h).1

pub code_free : (code : Code) → is_free line_feed (code_text code) ≡ true
code_free line_codes.Ok = refl
code_free line_codes.Du = refl
code_free line_codes.Us = refl
code_free line_codes.Pr = refl
code_free line_codes.Ct = refl
code_free line_codes.Sm = refl
code_free line_codes.Nz = refl
code_free line_codes.En = refl
code_free line_codes.Ti = refl
code_free line_codes.Cy = refl
code_free line_codes.Ac = refl
code_free line_codes.Lk = refl
code_free line_codes.Nc = refl
code_free line_codes.Bt = refl
code_free line_codes.Ph = refl
code_free line_codes.Np = refl
code_free line_codes.Pe = refl
code_free line_codes.Ce = refl
code_free line_codes.Ed = refl
code_free line_codes.Gn = refl
code_free line_codes.Gs = refl
code_free line_codes.Ge = refl

pub kind_free : (kind : Kind) → is_free line_feed (kind_text kind) ≡ true
kind_free kinds.In = refl
kind_free kinds.Book = refl
kind_free kinds.All = refl
kind_free kinds.Time = refl
kind_free kinds.Expire = refl
kind_free kinds.Ask = refl
kind_free kinds.Cover = refl
kind_free kinds.Refuse = refl
kind_free kinds.Sweep = refl
kind_free kinds.End = refl

pub turn_free : (turn : TurnCode) → is_free line_feed (turn_text turn) ≡ true
turn_free turn_codes.Acpt = refl
turn_free turn_codes.Rjct = refl
turn_free turn_codes.Dupl = refl
turn_free turn_codes.Info = refl
turn_free turn_codes.Setl = refl
turn_free turn_codes.Askg = refl
turn_free turn_codes.Fail = refl
turn_free turn_codes.Rvkd = refl

pub side_free : (debit : Bool) → is_free line_feed (side_text debit) ≡ true
side_free true = refl
side_free false = refl

-- none in any of the fields
abbrev pub AllFree : List (List ℕ) → Type 0
AllFree [] = Unit {0}
AllFree (x ∷ xs) = (is_free line_feed x ≡ true) × AllFree xs

pub join_free : (fields : List (List ℕ)) → AllFree fields → is_free line_feed (join_with_byte semicolon fields) ≡ true
join_free [] h = refl
join_free (x ∷ []) h = h.0
join_free (x ∷ y ∷ xs) h = free_append line_feed x (semicolon ∷ join_with_byte semicolon (y ∷ xs)) h.0 (join_free (y ∷ xs) h.1)

-- ---- a line is cut off

line_cut : (line rest : List ℕ) → is_free line_feed line ≡ true → text_lines (line ++ line_feed ∷ rest) ≡ line ∷ text_lines rest
unfolding text_lines
line_cut [] rest h = refl
line_cut (b ∷ line) rest h =
    let parts = and_parts (not (b == line_feed)) (is_free line_feed line) h in
    ap (before_lines b) (line_cut line rest parts.1) ∙ ap (λ c. if c then ([] ∷ line ∷ text_lines rest) else ((b ∷ line) ∷ text_lines rest)) (not-true (b == line_feed) parts.0)

pub text_cut : (line rest : List ℕ) → is_free line_feed line ≡ true → text_lines ((line ++ line_feed ∷ []) ++ rest) ≡ line ∷ text_lines rest
text_cut line rest h = ap text_lines (append_assoc line (line_feed ∷ []) rest) ∙ line_cut line rest h

-- ---- lines that are no statuses

none_first : {A B : Type 0} (f : A → Option B) (o : Option A) → o ≡ None → option_and_then f o ≡ None
none_first f o e = ap (option_and_then f) e

no_word : (word rest : List ℕ) → is_free semicolon word ≡ true → bytes_eq word (codes "S") ≡ false → after_word (codes "S") (word ++ semicolon ∷ rest) ≡ None
unfolding after_word
no_word word rest free other = then_some _ _ _ _ (cut-at semicolon word rest free) (ap (λ b. when b rest) other)

no_front : (word rest : List ℕ) → is_free semicolon word ≡ true → bytes_eq word (codes "S") ≡ false → read_front (word ++ semicolon ∷ rest) ≡ None
unfolding read_front
no_front word rest free other = none_first _ _ (no_word word rest free other)

unread : (most : ℕ) (word rest : List ℕ) → is_free semicolon word ≡ true → bytes_eq word (codes "S") ≡ false → read_status most (word ++ semicolon ∷ rest) ≡ None
unfolding read_status
unread most word rest free other = none_first _ _ (no_front word rest free other)

-- a line with this first word, and no line feed in its fields
pub other_line : (most : ℕ) (word field : List ℕ) (fields : List (List ℕ)) → is_free semicolon word ≡ true → bytes_eq word (codes "S") ≡ false → AllFree (word ∷ field ∷ fields) → TellsNothing most (text_line (word ∷ field ∷ fields))
other_line most word field fields free other h rest =
    ap (statuses_in most) (text_cut (join_with_byte semicolon (word ∷ field ∷ fields)) rest (join_free (word ∷ field ∷ fields) h))
    ∙ ap (λ o. cons_option o (statuses_in most (text_lines rest))) (unread most word (join_with_byte semicolon (field ∷ fields)) free other)

pub nothing_append : (most : ℕ) (xs ys : List ℕ) → TellsNothing most xs → TellsNothing most ys → TellsNothing most (xs ++ ys)
nothing_append most xs ys h k rest = ap (λ zs. statuses_in most (text_lines zs)) (append_assoc xs ys rest) ∙ h (ys ++ rest) ∙ k rest

pub nothing_flat : (most : ℕ) {X : Type 0} (f : X → List ℕ) (xs : List X) → ((x : X) → IsIn x xs → TellsNothing most (f x)) → TellsNothing most (flat_map f xs)
nothing_flat most f [] h rest = refl
nothing_flat most f (x ∷ xs) h rest = nothing_append most (f x) (flat_map f xs) (h x (inl refl)) (nothing_flat most f xs (λ y i. h y (inr i))) rest

-- ---- a journal's lines

move_nothing : (most : ℕ) (m : Move) → TellsNothing most (move_text m)
move_nothing most m = other_line most (codes "M") (decimal m.debit) (decimal m.credit ∷ amount_text m.amount ∷ []) refl refl (refl, (number_free m.debit, (number_free m.credit, (amount_free m.amount, tt))))

line_nothing : (most place : ℕ) (l : Line) → TellsNothing most (line_text place l)
unfolding line_text
line_nothing most place l =
    nothing_append most (head_text place l.head (length l.moves)) (flat_map move_text l.moves)
    (other_line most (codes "J") (decimal place) (kind_text l.head.kind ∷ decimal l.head.msg ∷ decimal l.head.entry ∷ code_text l.head.code ∷ decimal (length l.moves) ∷ []) refl refl
    (refl, (number_free place, (kind_free l.head.kind, (number_free l.head.msg, (number_free l.head.entry, (code_free l.head.code, (number_free (length l.moves), tt))))))))
    (nothing_flat most move_text l.moves (λ m i. move_nothing most m))

pub journal_nothing : (most : ℕ) (J : History) → TellsNothing most (journal_text J)
unfolding journal_text
journal_nothing most [] rest = refl
journal_nothing most (l ∷ J) rest = nothing_append most (journal_text J) (line_text (suc (length J)) l) (journal_nothing most J) (line_nothing most (suc (length J)) l) rest

-- ---- statuses

-- the line of a status, without its end
pub record HasLine (s : Status) : Type 0 where
  pub line : List ℕ
  pub is : status_text s ≡ line ++ line_feed ∷ []
  pub free : is_free line_feed line ≡ true

pub has_line : (most : ℕ) (s : Status) → FitsStatus most s → HasLine s
unfolding status_text
has_line most (status.Turn place to turn msg from id entry reason) h = record {
  line = join_with_byte semicolon (codes "S" ∷ decimal place ∷ to ∷ turn_text turn ∷ decimal msg ∷ from ∷ id ∷ decimal entry ∷ code_text reason ∷ []);
  is = refl;
  free = join_free (codes "S" ∷ decimal place ∷ to ∷ turn_text turn ∷ decimal msg ∷ from ∷ id ∷ decimal entry ∷ code_text reason ∷ [])
      (refl, (number_free place, (name_free to h.to_named, (turn_free turn, (number_free msg, (name_free from h.from_named, (id_free id h.id_given, (number_free entry, (code_free reason, tt)))))))));
}
has_line most (status.Moved place to debit account amount) h = record {
  line = join_with_byte semicolon (codes "S" ∷ decimal place ∷ to ∷ side_text debit ∷ account ∷ amount_text amount ∷ []);
  is = refl;
  free = join_free (codes "S" ∷ decimal place ∷ to ∷ side_text debit ∷ account ∷ amount_text amount ∷ [])
      (refl, (number_free place, (name_free to h.to_named, (side_free debit, (name_free account h.account_named, (amount_free amount, tt))))));
}

pub statuses_read : (most : ℕ) (xs : List Status) (rest : List ℕ) → most ≤ most_count → AllFit most xs → statuses_in most (text_lines (flat_map status_text xs ++ rest)) ≡ xs ++ statuses_in most (text_lines rest)
statuses_read most [] rest few h = refl
statuses_read most (x ∷ xs) rest few h =
    let l = has_line most x h.0 in
    ap (λ t. statuses_in most (text_lines t)) (append_assoc (status_text x) (flat_map status_text xs) rest ∙ ap (λ t. t ++ (flat_map status_text xs ++ rest)) l.is)
    ∙ ap (statuses_in most) (text_cut l.line (flat_map status_text xs ++ rest) l.free)
    ∙ ap (λ o. cons_option o (statuses_in most (text_lines (flat_map status_text xs ++ rest)))) (statuses_are_read most x l.line few h.0 l.is)
    ∙ ap (λ ys. x ∷ ys) (statuses_read most xs rest few h.1)

-- ---- the whole output

none_left : (most : ℕ) → statuses_in most (text_lines []) ≡ []
unfolding text_lines
none_left most = refl

told_by : (third : Bool) → ((if third then MAX_MESSAGES else MAX_MESSAGES_BEFORE_THIRD) ≤ (if third then MAX_MESSAGES else most_count)) × ((if third then MAX_MESSAGES else most_count) ≤ most_count)
told_by true = (omega arith, omega arith)
told_by false = (omega arith, omega arith)

-- what fits a smaller number of messages fits a greater
fits_more : (few most : ℕ) (s : Status) → few ≤ most → FitsStatus few s → FitsStatus most s
fits_more few most (status.Moved place to debit account amount) le h = h
fits_more few most (status.Turn place to turn msg from id entry reason) le h = let msg_few : msg ≤ few = h.msg_to in record {
  place_from = h.place_from;
  place_to = h.place_to;
  to_named = h.to_named;
  msg_from = h.msg_from;
  msg_to = omega (arith, msg_few, le);
  from_named = h.from_named;
  id_given = h.id_given;
  entry_to = h.entry_to;
}

all_fit_more : (few most : ℕ) (ss : List Status) → few ≤ most → AllFit few ss → AllFit most ss
all_fit_more few most [] le h = tt
all_fit_more few most (s ∷ ss) le h = (fits_more few most s le h.0, all_fit_more few most ss le h.1)

told_fit : (day : Day) (J : History) → is_sound day ≡ true → IsLegal day J → AllFit (most_told day.version) (all_statuses day J)
told_fit day J sound legal = all_fit_more (most_messages day.version) (most_told day.version) (all_statuses day J) (told_by (is_third day.version)).0 (legal_statuses_fit day J sound legal)

pub texts_agree : TextsAgree
texts_agree day J name before after sound legal b a =
    lines_agree day J name (text_lines (before ++ (statuses_text day J ++ after))) sound legal (
    b (statuses_text day J ++ after)
    ∙ statuses_read (most_told day.version) (all_statuses day J) after (told_by (is_third day.version)).1 (told_fit day J sound legal)
    ∙ ap (λ ys. all_statuses day J ++ ys) (ap (λ t. statuses_in (most_told day.version) (text_lines t)) (sym (append-nil after)) ∙ a [] ∙ none_left (most_told day.version))
    ∙ append-nil (all_statuses day J))

holding_nothing : (most : ℕ) (day : Day) (a balance : ℕ) → is_free line_feed (account_name day a) ≡ true → TellsNothing most (holding_text day a balance)
holding_nothing most day a balance free = other_line most (codes "B") (account_name day a) (amount_text balance ∷ []) refl refl (refl, (free, (amount_free balance, tt)))

pub account_of : (day : Day) (a : ℕ) → IsIn a (account_numbers day) → IsAccount day a
account_of day zero i = let l : 1 ≤ 0 = above_start 1 (length day.accounts) 0 i in absurd (omega (arith, l))
account_of day (suc p) i = let l : suc p < 1 + length day.accounts = below_end 1 (length day.accounts) (suc p) i in (p, omega arith, omega (arith, l))

pub outputs_agree : OutputsAgree
outputs_agree day J name sound legal =
    texts_agree day J name (journal_text J) (flat_map (λ a. holding_text day a (balance day J a)) (account_numbers day) ++ count_text (length J)) sound legal
    (journal_nothing (most_told day.version) J)
    (nothing_append (most_told day.version) (flat_map (λ a. holding_text day a (balance day J a)) (account_numbers day)) (count_text (length J))
    (nothing_flat (most_told day.version) (λ a. holding_text day a (balance day J a)) (account_numbers day) (λ a i. holding_nothing (most_told day.version) day a (balance day J a) (name_free (account_name day a) (name_spelled day a sound (account_of day a i)))))
    (other_line (most_told day.version) (codes "OK") (decimal (length J)) [] refl refl (refl, (number_free (length J), tt))))
