-- The texts of a line by its causes are those of its statuses.
use Rattle.std.proofs.Common.{◌≡◌, ◌∙◌, ℕ, zero, suc, ◌+◌, ◌≤◌, ◌<◌, Bool, true, false, not, ◌&&◌, ◌||◌, List, [], ◌∷◌, ◌++◌, Option, Some, None, refl, sym, ap, arith, length, map, cond, append-nil, append_assoc, ◌⊎◌, inl, inr, if◌then◌else◌}
use Rattle.std.specs.Prelude.{is_some, filter, nat_eq}
use Rattle.std.specs.List.{flat_map, range_with_len}
use Rattle.std.specs.Option.{option_map_or, option_or}
use Rattle.std.proofs.lemmas.Bool.{and_parts, and_right, eq-eqb, eqb-true, eqb-false, ne_eqb}
use Rattle.std.proofs.lemmas.Grind.{flat_map-append}
use Rattle.std.proofs.lemmas.List.Folds.{flat_map-map}
use Rattle.std.proofs.lemmas.Option.{slice_get_within}
use Rattle.batch_records.specs.DayRecord.{Day}
use Rattle.batch_records.specs.declared.day.Message.{Message}
use Rattle.commit_journal.specs.declared.line.Code.{Code}
use Rattle.commit_journal.specs.declared.line.Code.TheVariants as line_codes
use Rattle.commit_journal.specs.declared.line.Kind.{Kind}
use Rattle.commit_journal.specs.declared.line.Kind.TheVariants as kinds
use Rattle.commit_journal.specs.declared.line.Move.{Move}
use Rattle.commit_journal.specs.Line.{Line, History}
use Rattle.number_set.specs.Members.{has}
use Rattle.number_set.proofs.WalkLemmas.{none_between}
use Rattle.machine.specs.Words.{some_passes, when}
use Rattle.machine.specs.Records.Setup.{account_numbers, owner}
use Rattle.machine.specs.Records.Messages.{Sort, Missing, Object, BatchA, BatchB, BatchD, BatchE, sort_of, sort_of_body, entries, entry_numbers, message_at, message_numbers, technical_account}
use Rattle.machine.specs.Telling.History.{is_ask, is_expire_or_refuse, is_in, is_ok, place_of}
use Rattle.machine.specs.Telling.Balances.{balance}
use Rattle.machine.specs.Telling.Facts.{revoked, revokes, takes_well}
use Rattle.machine.specs.Stages.Intake.{intake_moves, moves_as}
use Rattle.machine.specs.Laws.{is_order}
use Rattle.machine.specs.Legal.{IsLegal}
use Rattle.machine.specs.Stages.Phases.{is_revoked_entry, phase}
use Rattle.settlement_laws.proofs.Base.Counting.{place_within}
use Rattle.settlement_laws.proofs.Base.LinesOf.{placed_more}
use Rattle.settlement_laws.proofs.Base.Made.{Made, made_facts}
use Rattle.status_messages.specs.declared.status.Status.{Status}
use Rattle.status_messages.specs.declared.status.TurnCode.TheVariants as turn_codes
use Rattle.status_messages.specs.StatusTexts.{status_text}
use Rattle.status_messages.specs.Statuses.{ask_statuses, banks, failure_statuses, information_statuses, intake_statuses, is_first_dca, is_party_of, is_revoked, is_revoked_now, is_settled, is_settled_now, move_statuses, objection_statuses, objection_target, place_after, rejection_statuses, rejections_as, revocation, revocations_as, revocations_of, settlement_statuses, statuses, turn_of, turn_told, unafforded_in_order, whole_revocation}
use Rattle.status_messages.specs.LineTexts.{ask_text, entries_of, entry_revocation, failure_text, information_text, information_to, informs, intake_text, is_called, is_informed, is_revoked_by, is_settled_in, is_whole_revoked, line_text, moves_text, objected_batch, objection_text, rejections_of, rejections_text, settlement_text, subject_of, text_if, unmoved}
use Rattle.status_messages.specs.Telling.{texts}
use Rattle.status_messages.proofs.Called.{called_is, past_uncalled, zero_uncalled}
use Rattle.status_messages.proofs.Objections.{NoObjection, Objection, objection_or_none}
use Rattle.status_messages.proofs.Unmoved.{unmoved-uncovered}
use Rattle.status_messages.proofs.Untouched.{settled_same}

-- ---- texts of lists

texts_append : (xs ys : List Status) → texts (xs ++ ys) ≡ texts xs ++ texts ys
texts_append xs ys = flat_map-append status_text xs ys

if_text : (b : Bool) (s : Status) → texts (if b then (s ∷ []) else []) ≡ text_if b s
if_text true s = append-nil (status_text s)
if_text false s = refl

if_texts : (b : Bool) (xs : List Status) (t : List ℕ) → texts xs ≡ t → texts (if b then xs else []) ≡ (if b then t else [])
if_texts true xs t e = e
if_texts false xs t e = refl

nested : {X : Type 0} (g : X → List Status) (xs : List X) → texts (flat_map g xs) ≡ flat_map (λ x. texts (g x)) xs
nested g [] = refl
nested g (x ∷ xs) = texts_append (g x) (flat_map g xs) ∙ ap (λ t. texts (g x) ++ t) (nested g xs)

filtered : {X : Type 0} (p : X → Bool) (f : X → Status) (xs : List X) → texts (map f (filter p xs)) ≡ flat_map (λ x. text_if (p x) (f x)) xs
filtered p f [] = refl
filtered p f (x ∷ xs) = here (p x) (filtered p f xs)
  where
    here : (b : Bool) → texts (map f (filter p xs)) ≡ flat_map (λ x. text_if (p x) (f x)) xs → texts (map f (cond b (x ∷ filter p xs) (filter p xs))) ≡ text_if b (f x) ++ flat_map (λ x. text_if (p x) (f x)) xs
    here true e = ap (λ t. status_text (f x) ++ t) e
    here false e = e

chosen : (q p : ℕ → Bool) (f : ℕ → Status) (xs : List ℕ) → flat_map (λ x. text_if (p x) (f x)) (filter q xs) ≡ flat_map (λ x. text_if (q x && p x) (f x)) xs
chosen q p f [] = refl
chosen q p f (x ∷ xs) = here (q x) (chosen q p f xs)
  where
    here : (b : Bool) → flat_map (λ x. text_if (p x) (f x)) (filter q xs) ≡ flat_map (λ x. text_if (q x && p x) (f x)) xs →
        flat_map (λ x. text_if (p x) (f x)) (cond b (x ∷ filter q xs) (filter q xs)) ≡ text_if (b && p x) (f x) ++ flat_map (λ x. text_if (q x && p x) (f x)) xs
    here true e = ap (λ t. text_if (p x) (f x) ++ t) e
    here false e = e

-- ---- information

none_kept : (p : ℕ → Bool) (xs : List ℕ) → filter (λ a. false && p a) xs ≡ []
none_kept p [] = refl
none_kept p (x ∷ xs) = none_kept p xs

-- the first number doesn't pass
from_one : (p : ℕ → Bool) (f : ℕ → Status) (len : ℕ) → p 0 ≡ false → flat_map (λ x. text_if (p x) (f x)) (range_with_len 0 (suc len)) ≡ flat_map (λ x. text_if (p x) (f x)) (range_with_len 1 len)
from_one p f len none = ap (λ c. text_if c (f 0) ++ flat_map (λ x. text_if (p x) (f x)) (range_with_len 1 len)) none

-- the banks of the definition are those that are called
called_told : (day : Day) (place n : ℕ) →
    texts (map (λ bank. turn_of day place bank turn_codes.Info n 0 line_codes.Ok) (filter (is_party_of day n) (banks day)))
    ≡ flat_map (information_to day place n) (filter (is_called day n) (range_with_len 0 (suc (length day.accounts))))
called_told day place n =
    let f : List ℕ → Status = λ bank. turn_of day place bank turn_codes.Info n 0 line_codes.Ok in
    let to : ℕ → Status = λ a. f (owner day a) in
    let numbers = range_with_len 0 (suc (length day.accounts)) in
    filtered (is_party_of day n) f (banks day)
    ∙ flat_map-map (λ bank. text_if (is_party_of day n bank) (f bank)) (owner day) (filter (is_first_dca day) (account_numbers day))
    ∙ chosen (is_first_dca day) (λ a. is_party_of day n (owner day a)) to (account_numbers day)
    ∙ (λ i. flat_map (λ a. text_if (sym (called_is day n a) i) (to a)) (account_numbers day))
    ∙ sym (from_one (is_called day n) to (length day.accounts) (zero_uncalled day n))
    ∙ sym (filtered (is_called day n) to numbers)
    ∙ flat_map-map status_text to (filter (is_called day n) numbers)

information_told : (day : Day) (J : History) (l : Line) (flags : List Bool) → length day.accounts < length flags → ((a : ℕ) → has flags a ≡ is_informed day l.head a) →
    texts (information_statuses day J l) ≡ information_text day (place_after J) l.head.msg flags
information_told day J l flags len each =
    here (informs day l.head) refl
    ∙ ap (flat_map (information_to day (place_after J) l.head.msg)) (sym (none_between (is_informed day l.head) (suc (length day.accounts)) (length flags) (omega (arith, len)) past) ∙ (λ i. filter (λ a. sym (each a) i) (range_with_len 0 (length flags))))
  where
    -- no bank's first cash account is above the last account
    past : (a : ℕ) → suc (length day.accounts) ≤ a → a < length flags → is_informed day l.head a ≡ false
    past a above within = ap (λ c. informs day l.head && c) (past_uncalled day l.head.msg a (omega (arith, above))) ∙ and_right (informs day l.head) false refl

    here : (c : Bool) → informs day l.head ≡ c →
        texts (if c then map (λ bank. turn_of day (place_after J) bank turn_codes.Info l.head.msg 0 line_codes.Ok) (filter (is_party_of day l.head.msg) (banks day)) else [])
        ≡ flat_map (information_to day (place_after J) l.head.msg) (filter (λ a. c && is_called day l.head.msg a) (range_with_len 0 (suc (length day.accounts))))
    here true e = called_told day (place_after J) l.head.msg
    here false e = sym (ap (flat_map (information_to day (place_after J) l.head.msg)) (none_kept (is_called day l.head.msg) (range_with_len 0 (suc (length day.accounts)))))

-- ---- objections

abbrev entry_list : Sort → Day → History → Line → ℕ → List Status
entry_list BatchE day J l b = map (revocation day J b) (filter (is_revoked_now day J l b) (entry_numbers day b))
entry_list _ day J l b = []

abbrev whole_list : Sort → Day → History → Line → ℕ → List Status
whole_list BatchA day J l b = revocation day J b 0 ∷ []
whole_list BatchB day J l b = revocation day J b 0 ∷ []
whole_list BatchE day J l b = whole_revocation day J l b
whole_list _ day J l b = []

split : (s : Sort) (day : Day) (J : History) (l : Line) (b : ℕ) → revocations_as s day J l b ≡ entry_list s day J l b ++ whole_list s day J l b
split BatchE day J l b = refl
split _ day J l b = refl

-- an entry that a line revokes was revoked before it, or by it
placed_here : (o : Option ℕ) (b : Bool) (place : ℕ) → ((p : ℕ) → o ≡ Some p → p < place) → some_passes (nat_eq place) (option_or o (when b place)) ≡ ((is_some o || b) && not (is_some o))
placed_here (Some p) b place low = ne_eqb place p (λ e. let l = low p refl in omega (arith, e, l))
placed_here None true place low = eq-eqb place place refl
placed_here None false place low = refl

pub revoked_now : (day : Day) (J : History) (l : Line) (b k : ℕ) → is_revoked_by day (l ∷ J) (place_after J) b k ≡ is_revoked_now day J l b k
unfolding place_of
revoked_now day J l b k =
    placed_here (revoked day J b k) (revokes day b k l) (place_after J) (λ p e. let w = place_within (revokes day b k) J p e in omega (arith, w))
    ∙ ap (λ c. c && not (is_revoked_entry day J b k)) (sym (placed_more (revokes day b k) l J))

revoked_text : (day : Day) (J : History) (l : Line) (b k : ℕ) → entry_revocation day (l ∷ J) (place_after J) b k ≡ text_if (is_revoked_now day J l b k) (revocation day J b k)
revoked_text day J l b k = ap (λ c. text_if c (revocation day J b k)) (revoked_now day J l b k)

entries_as : (s : Sort) (day : Day) (J : History) (l : Line) (b : ℕ) → entries_of s day (l ∷ J) (place_after J) b ≡ texts (entry_list s day J l b)
entries_as BatchE day J l b = (λ i. flat_map (λ k. revoked_text day J l b k i) (entry_numbers day b)) ∙ sym (filtered (is_revoked_now day J l b) (revocation day J b) (entry_numbers day b))
entries_as _ day J l b = refl

whole_as : (s : Sort) (day : Day) (J : History) (l : Line) (b : ℕ) → text_if (is_whole_revoked s day (l ∷ J) b) (revocation day J b 0) ≡ texts (whole_list s day J l b)
whole_as BatchA day J l b = sym (append-nil (status_text (revocation day J b 0)))
whole_as BatchB day J l b = sym (append-nil (status_text (revocation day J b 0)))
whole_as BatchE day J l b = sym (if_text (is_revoked (phase day (l ∷ J) b)) (revocation day J b 0))
whole_as _ day J l b = refl

-- no message has the number 0
none_objected : (day : Day) (J : History) (place : ℕ) → objection_text day J place 0 ≡ []
none_objected day J place = refl

objection_told : (day : Day) (J : History) (l : Line) → IsLegal day (l ∷ J) → (b : ℕ) → b ≡ objected_batch day l.head → texts (objection_statuses day J l) ≡ objection_text day (l ∷ J) (place_after J) b
objection_told day J l legal b named = here (objection_or_none day J l legal)
  where
    nothing : NoObjection day J l → (c : Bool) → takes_well l ≡ c → texts (if c then revocations_of day J l (objection_target (sort_of day l.head.msg) day J l.head.msg) else []) ≡ []
    nothing v true t = ap (λ o. texts (revocations_of day J l o)) (v.no_aim t)
    nothing v false t = refl

    here : NoObjection day J l ⊎ ((b : ℕ) × Objection day J l b) → texts (objection_statuses day J l) ≡ objection_text day (l ∷ J) (place_after J) b
    here (inl v) = nothing v (takes_well l) refl ∙ sym (none_objected day (l ∷ J) (place_after J)) ∙ ap (objection_text day (l ∷ J) (place_after J)) (sym (named ∙ v.unnamed))
    here (inr (c, v)) =
        ap (λ t. texts (if t then revocations_of day J l (objection_target (sort_of day l.head.msg) day J l.head.msg) else [])) v.takes
        ∙ ap (λ s. texts (revocations_of day J l (objection_target s day J l.head.msg))) v.is_object
        ∙ ap (λ o. texts (revocations_of day J l o)) v.aim
        ∙ ap texts (split (sort_of day c) day J l c)
        ∙ texts_append (entry_list (sort_of day c) day J l c) (whole_list (sort_of day c) day J l c)
        ∙ (λ i. sym (entries_as (sort_of day c) day J l c) i ++ sym (whole_as (sort_of day c) day J l c) i)
        ∙ ap (objection_text day (l ∷ J) (place_after J)) (sym (named ∙ v.named))

-- ---- rejections

ok_is : (c : Code) → is_ok c ≡ true → c ≡ line_codes.Ok
ok_is line_codes.Ok h = refl
ok_is _ h = cc

pub in_made : (kind : Kind) (day : Day) (J : History) (n k : ℕ) (code : Code) (moves : List Move) → is_in kind ≡ true → is_ok code ≡ true → Made kind day J n k code moves → moves ≡ moves_as (sort_of day n) day J n
in_made kinds.In day J n k code moves h o m = m.2 ∙ ap (intake_moves day J n) (sym m.1 ∙ ok_is code o)
in_made _ day J n k code moves h o m = cc

rejections_as_told : (s : Sort) (day : Day) (J : History) (n : ℕ) (moves : List Move) → moves ≡ moves_as s day J n → texts (rejections_as s day J n) ≡ rejections_of s day (place_after J) n moves
rejections_as_told BatchD day J n moves h =
    let available = balance day J (technical_account day n) in
    let f : ℕ → Status = λ k. turn_told day (place_after J) turn_codes.Rjct n k line_codes.Nc in
    flat_map-map status_text f (unafforded_in_order available 1 (entries day n))
    ∙ ap (flat_map (λ k. status_text (f k))) (sym (unmoved-uncovered day available 1 (entries day n)) ∙ ap (unmoved 1 (entries day n)) (sym h))
rejections_as_told _ day J n moves h = refl

rejection_told : (day : Day) (J : History) (l : Line) → IsLegal day (l ∷ J) → texts (rejection_statuses day J l) ≡ rejections_text day (place_after J) l.head l.moves
rejection_told day J l legal = here (takes_well l) refl
  where
    n : ℕ
    n = l.head.msg

    here : (c : Bool) → takes_well l ≡ c → texts (if c then rejections_as (sort_of day l.head.msg) day J l.head.msg else []) ≡ (if c then rejections_of (sort_of day l.head.msg) day (place_after J) l.head.msg l.moves else [])
    here false t = refl
    here true t =
        let parts = and_parts (is_in l.head.kind) (is_ok l.head.code) t in
        rejections_as_told (sort_of day l.head.msg) day J l.head.msg l.moves (in_made l.head.kind day J l.head.msg l.head.entry l.head.code l.moves parts.0 parts.1 (made_facts day J l legal.1).1)

-- ---- settlement

none_pass : (p : ℕ → Bool) (f : ℕ → Status) (s len : ℕ) → ((j : ℕ) → s ≤ j → p j ≡ false) → flat_map (λ x. text_if (p x) (f x)) (range_with_len s len) ≡ []
none_pass p f s zero h = refl
none_pass p f s (suc len) h = ap (λ c. text_if c (f s) ++ flat_map (λ x. text_if (p x) (f x)) (range_with_len (s + 1) len)) (h s (omega arith)) ∙ none_pass p f (s + 1) len (λ j l. h j (omega arith))

-- at most one number passes, and that one is in the range
pub one_passes : (p : ℕ → Bool) (f : ℕ → Status) (s len n : ℕ) → s ≤ n → n < s + len → ((j : ℕ) → (j ≡ n → ⊥) → p j ≡ false) → flat_map (λ x. text_if (p x) (f x)) (range_with_len s len) ≡ text_if (p n) (f n)
one_passes p f s zero n low high h = absurd (omega arith)
one_passes p f s (suc len) n low high h = here (nat_eq s n) refl (λ above. one_passes p f (s + 1) len n above (omega arith) h)
  where
    here : (c : Bool) → nat_eq s n ≡ c → (s + 1 ≤ n → flat_map (λ x. text_if (p x) (f x)) (range_with_len (s + 1) len) ≡ text_if (p n) (f n)) →
        text_if (p s) (f s) ++ flat_map (λ x. text_if (p x) (f x)) (range_with_len (s + 1) len) ≡ text_if (p n) (f n)
    here true e k =
        let same : s ≡ n = eqb-true s n e in
        ap (λ t. text_if (p s) (f s) ++ t) (none_pass p f (s + 1) len (λ j l. h j (λ q. omega (arith, q, same)))) ∙ append-nil (text_if (p s) (f s)) ∙ ap (λ j. text_if (p j) (f j)) same
    here false e k =
        let ne : s ≡ n → ⊥ = eqb-false s n e in
        ap (λ c. text_if c (f s) ++ flat_map (λ x. text_if (p x) (f x)) (range_with_len (s + 1) len)) (h s ne) ∙ k (omega (arith, ne))

-- where none passes, the text of a number that isn't there is none either
all_or_one : (p : ℕ → Bool) (f : ℕ → Status) (len n : ℕ) → (p n ≡ true → (1 ≤ n) × (n < 1 + len)) → ((j : ℕ) → (j ≡ n → ⊥) → p j ≡ false) → flat_map (λ x. text_if (p x) (f x)) (range_with_len 1 len) ≡ text_if (p n) (f n)
all_or_one p f len n there others = here (p n) refl
  where
    off : p n ≡ false → (j : ℕ) (c : Bool) → nat_eq j n ≡ c → p j ≡ false
    off e j true q = ap p (eqb-true j n q) ∙ e
    off e j false q = others j (eqb-false j n q)

    here : (c : Bool) → p n ≡ c → flat_map (λ x. text_if (p x) (f x)) (range_with_len 1 len) ≡ text_if c (f n)
    here true e = let within = there e in one_passes p f 1 len n within.0 within.1 others ∙ ap (λ c. text_if c (f n)) e
    here false e = none_pass p f 1 len (λ j l. off e j (nat_eq j n) refl)

order_there : (day : Day) (n : ℕ) → is_order (sort_of day n) ≡ true → (1 ≤ n) × (n < 1 + length day.messages)
order_there day zero h = cc
order_there day (suc i) h = here (message_at day (suc i)) refl h
  where
    here : (o : Option Message) → message_at day (suc i) ≡ o → is_order (option_map_or (λ (m : Message). sort_of_body m.body) o Missing) ≡ true → (1 ≤ suc i) × (suc i < 1 + length day.messages)
    here None e h = cc
    here (Some m) e h = let low : i < length day.messages = slice_get_within day.messages i m e in (omega arith, omega arith)

now_is : (o a b : Bool) → ((o && a) && not b) ≡ ((o && a) && not (o && b))
now_is true a b = refl
now_is false a b = refl

settled_now_is : (day : Day) (J : History) (l : Line) (n : ℕ) → is_settled_now day J l n ≡ (is_settled_in day (l ∷ J) n && not (is_settled_in day J n))
settled_now_is day J l n = now_is (is_order (sort_of day n)) (is_settled (phase day (l ∷ J) n)) (is_settled (phase day J n))

never_both : (a b : Bool) → a ≡ b → (a && not b) ≡ false
never_both true b e = ap not (sym e)
never_both false b e = refl

object_unsettled : (day : Day) (J : History) (l : Line) (n : ℕ) → sort_of day n ≡ Object → is_settled_now day J l n ≡ false
object_unsettled day J l n e = ap (λ s. (is_order s && is_settled (phase day (l ∷ J) n)) && not (is_settled (phase day J n))) e

same_at : (day : Day) (J : History) (l : Line) (n : ℕ) → is_settled_in day (l ∷ J) n ≡ is_settled_in day J n → is_settled_now day J l n ≡ false
same_at day J l n e = settled_now_is day J l n ∙ never_both _ _ e

others_unsettled : (day : Day) (J : History) (l : Line) → IsLegal day (l ∷ J) → (b n : ℕ) → b ≡ objected_batch day l.head → (n ≡ subject_of b l.head.msg → ⊥) → is_settled_now day J l n ≡ false
others_unsettled day J l legal b n named other = here (objection_or_none day J l legal)
  where
    by_message : (c : ℕ) (v : Objection day J l c) → (n ≡ c → ⊥) → (d : Bool) → nat_eq l.head.msg n ≡ d → is_settled_now day J l n ≡ false
    by_message c v ne true e = object_unsettled day J l n (ap (sort_of day) (sym (eqb-true l.head.msg n e)) ∙ v.is_object)
    by_message c v ne false e = same_at day J l n (settled_same day l J n (eqb-false l.head.msg n e) (λ k. v.others n k ne))

    is_subject : (c : ℕ) → is_some (message_at day c) ≡ true → subject_of c l.head.msg ≡ c
    is_subject zero h = cc
    is_subject (suc i) h = refl

    here : NoObjection day J l ⊎ ((b : ℕ) × Objection day J l b) → is_settled_now day J l n ≡ false
    here (inl v) = same_at day J l n (settled_same day l J n (λ e. other (sym e ∙ sym (ap (λ x. subject_of x l.head.msg) (named ∙ v.unnamed)))) (v.unrevoked n))
    here (inr (c, v)) = by_message c v (λ e. other (e ∙ sym (ap (λ x. subject_of x l.head.msg) (named ∙ v.named) ∙ is_subject c v.is_batch_there))) (nat_eq l.head.msg n) refl

abbrev subject : Day → Line → ℕ
subject day l = subject_of (objected_batch day l.head) l.head.msg

settlement_told : (day : Day) (J : History) (l : Line) → IsLegal day (l ∷ J) →
    texts (settlement_statuses day J l) ≡ settlement_text day (place_after J) (subject day l) (is_settled_in day J (subject day l)) (is_settled_in day (l ∷ J) (subject day l))
settlement_told day J l legal =
    let n = subject day l in
    let f : ℕ → Status = λ m. turn_told day (place_after J) turn_codes.Setl m 0 line_codes.Ok in
    filtered (is_settled_now day J l) f (message_numbers day)
    ∙ all_or_one (is_settled_now day J l) f (length day.messages) n
    (λ e. order_there day n (and_parts (is_order (sort_of day n)) _ (and_parts _ _ e).0).0)
    (λ j ne. others_unsettled day J l legal (objected_batch day l.head) j refl ne)
    ∙ ap (λ c. text_if c (f n)) (settled_now_is day J l n)

-- ---- all of them

all_parts : (m i n o r a f s : List Status) → texts (m ++ i ++ n ++ o ++ r ++ a ++ f ++ s) ≡ texts m ++ texts i ++ texts n ++ texts o ++ texts r ++ texts a ++ texts f ++ texts s
all_parts m i n o r a f s = simp flat_map-append

regrouped : (m i n o r a f s : List ℕ) → m ++ i ++ n ++ o ++ r ++ a ++ f ++ s ≡ (m ++ (i ++ n)) ++ (o ++ ((r ++ (a ++ f)) ++ s))
regrouped m i n o r a f s = simp append_assoc

same_parts : (m1 m2 i1 i2 n1 n2 o1 o2 r1 r2 a1 a2 f1 f2 s1 s2 : List ℕ) → m1 ≡ m2 → i1 ≡ i2 → n1 ≡ n2 → o1 ≡ o2 → r1 ≡ r2 → a1 ≡ a2 → f1 ≡ f2 → s1 ≡ s2 →
    m1 ++ i1 ++ n1 ++ o1 ++ r1 ++ a1 ++ f1 ++ s1 ≡ m2 ++ i2 ++ n2 ++ o2 ++ r2 ++ a2 ++ f2 ++ s2
same_parts m1 m2 i1 i2 n1 n2 o1 o2 r1 r2 a1 a2 f1 f2 s1 s2 pm pi pn po pr pa pf ps = λ t. pm t ++ pi t ++ pn t ++ po t ++ pr t ++ pa t ++ pf t ++ ps t

pub all_told : (day : Day) (J : History) (l : Line) (flags : List Bool) → IsLegal day (l ∷ J) → length day.accounts < length flags → ((a : ℕ) → has flags a ≡ is_informed day l.head a) →
    line_text day (l ∷ J) (place_after J) l.head l.moves flags (objected_batch day l.head) (is_settled_in day J (subject day l)) ≡ texts (statuses day J l)
unfolding statuses
all_told day J l flags legal len each = sym (
    all_parts (flat_map (move_statuses day (place_after J)) l.moves) (intake_statuses day J l) (information_statuses day J l) (objection_statuses day J l) (rejection_statuses day J l) (ask_statuses day J l) (failure_statuses day J l) (settlement_statuses day J l)
    ∙ same_parts _ _ _ _ _ _ _ _ _ _ _ _ _ _ _ _
    (nested (move_statuses day (place_after J)) l.moves)
    (if_text (is_in l.head.kind) _)
    (information_told day J l flags len each)
    (objection_told day J l legal (objected_batch day l.head) refl)
    (rejection_told day J l legal)
    (if_text (is_ask l.head.kind) _)
    (if_text (is_expire_or_refuse l.head.kind) _)
    (settlement_told day J l legal)
    ∙ regrouped (moves_text day (place_after J) l.moves) (intake_text day (place_after J) l.head) (information_text day (place_after J) l.head.msg flags)
    (objection_text day (l ∷ J) (place_after J) (objected_batch day l.head))
    (rejections_text day (place_after J) l.head l.moves) (ask_text day (place_after J) l.head) (failure_text day (place_after J) l.head)
    (settlement_text day (place_after J) (subject day l) (is_settled_in day J (subject day l)) (is_settled_in day (l ∷ J) (subject day l))))
