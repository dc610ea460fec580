-- The statuses of a legal journal keep to the grammar of their texts.
use Rattle.std.proofs.Common.{◌≡◌, ◌∙◌, ◌≤◌, ◌<◌, ◌+◌, ◌-◌, ℕ, zero, suc, Bool, true, false, not, ◌&&◌, List, [], ◌∷◌, ◌++◌, Option, refl, sym, ap, subst, arith, inl, inr, length}
use Rattle.std.specs.Prelude.{filter, if◌then◌else◌, is_none, is_some, map, nat_eq, nat_lt}
use Rattle.std.specs.List.{flat_map, list_all, range_with_len}
use Rattle.std.specs.Option.{option_map_or}
use Rattle.std.proofs.lemmas.Bool.{and_from, and_parts, eqb-true, ltb-true}
use Rattle.cash_amounts.specs.declared.cents.TheConstants.{MAX_CENTS}
use Rattle.cash_amounts.specs.declared.limits.TheConstants.{MAX_ENTRIES}
use Rattle.cash_amounts.specs.Names.{is_id, is_name}
use Rattle.batch_records.specs.declared.day.Body.TheVariants as bodies
use Rattle.batch_records.specs.DayRecord.{Day}
use Rattle.batch_records.specs.declared.day.Entry.{Entry}
use Rattle.batch_records.specs.declared.day.Message.{Message}
use Rattle.batch_records.specs.Sound.{entries_in, is_sound, is_sound_body, is_spelled_body, is_spelled_message}
use Rattle.batch_records.specs.Versions.{most_messages}
use Rattle.batch_records.proofs.SoundFacts.{message_parts}
use Rattle.commit_journal.specs.declared.line.Code.{Code}
use Rattle.commit_journal.specs.declared.line.Code.TheVariants as line_codes
use Rattle.commit_journal.specs.declared.line.Kind.{Kind}
use Rattle.commit_journal.specs.declared.line.Kind.TheVariants as kinds
use Rattle.commit_journal.specs.declared.line.Move.{Move}
use Rattle.commit_journal.specs.Line.{Line, History}
use Rattle.machine.specs.Records.Setup.{account_numbers, opening, owner}
use Rattle.machine.specs.Records.Messages.{Sort, BatchA, BatchB, BatchD, BatchE, entries, entry_numbers, info_end, is_batch, is_message, message_numbers, sender, sort_of, technical_account}
use Rattle.machine.specs.Telling.History.{is_ask, is_expire_or_refuse, is_in, is_in_of, is_ok, taken}
use Rattle.machine.specs.Telling.Balances.{balance, credited, debited}
use Rattle.machine.specs.Telling.Facts.{is_reached, takes_well, untaken_earlier}
use Rattle.machine.specs.OtherLaws.{is_real}
use Rattle.machine.specs.Orders.Bounds.{line_limit_of}
use Rattle.machine.specs.Legal.{IsLegal}
use Rattle.machine.specs.Stages.Phases.{phase}
use Rattle.machine.proofs.Lists.{all_get}
use Rattle.rule_book.proofs.FewEntries.{few_in}
use Rattle.settlement_laws.proofs.EachLaw.AllLaws.{goes_on}
use Rattle.settlement_laws.proofs.Base.Counting.{newest}
use Rattle.settlement_laws.proofs.Balances.MovesAreReal.{moves_are_real}
use Rattle.settlement_laws.proofs.Base.Lists.{IsIn, from_filter, from_map}
use Rattle.settlement_laws.proofs.Base.Made.{Made, made_facts}
use Rattle.settlement_laws.proofs.Base.PhaseLaws.{overdue_going}
use Rattle.settlement_laws.proofs.Base.OngoingPhases.{going_taken}
use Rattle.settlement_laws.proofs.Base.Places.{same-number}
use Rattle.settlement_laws.proofs.Balances.MovesOfTheDay.{IsAccount, MovesInRange, line_in_range}
use Rattle.settlement_laws.proofs.Base.SoundParts.{line_limits, sound_parts}
use Rattle.settlement_laws.proofs.Base.Sound.{subs_have_dca}
use Rattle.settlement_laws.proofs.DayEnd.Stops.{MessageAt, message_is}
use Rattle.status_messages.specs.declared.status.Status.{Status}
use Rattle.status_messages.specs.declared.status.TurnCode.{TurnCode}
use Rattle.status_messages.specs.declared.status.TurnCode.TheVariants as turn_codes
use Rattle.status_messages.specs.StatusGrammar.{most_count}
use Rattle.status_messages.specs.StatusLaws.{FitsStatus}
use Rattle.status_messages.specs.Statuses.{all_statuses, ask_statuses, banks, failure_statuses, id_of, information_statuses, intake_statuses, is_first_dca, is_party_of, is_revoked, is_revoked_now, is_settled_now, move_statuses, moved_on, objection_statuses, objection_target, place_after, rejection_statuses, rejections_as, reply, revocation, revocations_as, revocations_of, settlement_statuses, statuses, turn_of, turn_told, unafforded_in_order, whole_revocation}
use Rattle.status_messages.proofs.Objections.{objection_or_none}
use Rattle.as_client.specs.TextLaws.{AllFit, LegalStatusesFit}
use Rattle.as_client.proofs.AccountNames.{name_spelled, owner_spelled}
use Rattle.as_client.proofs.OwnLines.{line_keeps}
use Rattle.as_client.proofs.OwnBalances.{adds}
use Rattle.as_client.proofs.OwnMoves.{KeepsRange, debit_fits, keeps_on}
use Rattle.as_client.proofs.WordFacts.{asking_overdue, closing_going, none_placed}
use Rattle.as_client.proofs.WordLines.{order_message, settling_order}
use Rattle.as_client.proofs.WordSteps.{above_start}

-- ---- lists

fit_map : (most : ℕ) {X : Type 0} (f : X → Status) (xs : List X) → ((x : X) → IsIn x xs → FitsStatus most (f x)) → AllFit most (map f xs)
fit_map most f [] h = tt
fit_map most f (x ∷ xs) h = (h x (inl refl), fit_map most f xs (λ y i. h y (inr i)))

fit_append : (most : ℕ) (xs ys : List Status) → AllFit most xs → AllFit most ys → AllFit most (xs ++ ys)
fit_append most [] ys h k = k
fit_append most (x ∷ xs) ys h k = (h.0, fit_append most xs ys h.1 k)

fit_if : (most : ℕ) (b : Bool) (xs : List Status) → (b ≡ true → AllFit most xs) → AllFit most (if b then xs else [])
fit_if most true xs h = h refl
fit_if most false xs h = tt

-- ---- places and messages

abbrev IsPlace : ℕ → Type 0
IsPlace place = (1 ≤ place) × (place ≤ most_count)

line_place : (day : Day) (J : History) (l : Line) → is_sound day ≡ true → IsLegal day (l ∷ J) → IsPlace (place_after J)
line_place day J l sound legal = let few : length (l ∷ J) < line_limit_of day.version = (goes_on day (l ∷ J) sound legal).0.2 in (omega arith, omega (arith, few, line_limits day.version))

message_spelled : (day : Day) (n : ℕ) → is_sound day ≡ true → (at : MessageAt day n) → is_spelled_message at.message ≡ true
message_spelled day n sound at = all_get is_spelled_message day.messages at.place at.message (message_parts day sound).spelled_messages at.there

sender_spelled : (day : Day) (n : ℕ) → is_sound day ≡ true → is_message (sort_of day n) ≡ true → is_name (sender day n) ≡ true
sender_spelled day n sound h =
    let at = message_is day n h in
    let names = and_parts (is_name at.message.sender && is_id at.message.id) (is_spelled_body at.message.body) (message_spelled day n sound at) in
    ap is_name (ap (sender day) at.number ∙ ap (λ o. option_map_or (λ (m : Message). m.sender) o []) at.there) ∙ (and_parts (is_name at.message.sender) (is_id at.message.id) names.0).0

id_spelled : (day : Day) (n : ℕ) → is_sound day ≡ true → is_message (sort_of day n) ≡ true → is_id (id_of day n) ≡ true
id_spelled day n sound h =
    let at = message_is day n h in
    let names = and_parts (is_name at.message.sender && is_id at.message.id) (is_spelled_body at.message.body) (message_spelled day n sound at) in
    ap is_id (ap (id_of day) at.number ∙ ap (λ o. option_map_or (λ (m : Message). m.id) o []) at.there) ∙ (and_parts (is_name at.message.sender) (is_id at.message.id) names.0).1

turn_fits : (day : Day) (place : ℕ) (to : List ℕ) (turn : TurnCode) (n k : ℕ) (reason : Code) → is_sound day ≡ true → IsPlace place → is_name to ≡ true → is_message (sort_of day n) ≡ true → k ≤ MAX_ENTRIES → FitsStatus (most_messages day.version) (turn_of day place to turn n k reason)
turn_fits day place to turn n k reason sound at to_named h few =
    let m = message_is day n h in
    let number : n ≡ suc m.place = m.number in
    let within : m.place < length day.messages = m.within in
    let most : length day.messages ≤ most_messages day.version = (sound_parts day sound).messages_fit in
    record {
      place_from = at.0;
      place_to = at.1;
      to_named = to_named;
      msg_from = omega (arith, number);
      msg_to = omega (arith, number, within, most);
      from_named = sender_spelled day n sound h;
      id_given = id_spelled day n sound h;
      entry_to = omega (arith, few);
    }

told_fits : (day : Day) (place : ℕ) (turn : TurnCode) (n k : ℕ) (reason : Code) → is_sound day ≡ true → IsPlace place → is_message (sort_of day n) ≡ true → k ≤ MAX_ENTRIES → FitsStatus (most_messages day.version) (turn_told day place turn n k reason)
told_fits day place turn n k reason sound at h few = turn_fits day place (sender day n) turn n k reason sound at (sender_spelled day n sound h) h few

few_entries : (day : Day) (n : ℕ) → is_sound day ≡ true → is_message (sort_of day n) ≡ true → length (entries day n) ≤ MAX_ENTRIES
few_entries day n sound h =
    let at = message_is day n h in
    let same : entries day n ≡ entries_in at.message.body = ap (entries day) at.number ∙ ap (λ o. option_map_or (λ (m : Message). entries_in m.body) o []) at.there in
    subst (λ (es : List Entry). length es ≤ MAX_ENTRIES) (sym same) (few_in at.message.body (all_get (λ (m : Message). is_sound_body m.body) day.messages at.place at.message (message_parts day sound).bodies at.there))

pub below_end : (s len k : ℕ) → IsIn k (range_with_len s len) → k < s + len
below_end s zero k i = absurd i
below_end s (suc len) k (inl e) = omega arith
below_end s (suc len) k (inr i) = let l : k < (s + 1) + len = below_end (s + 1) len k i in omega arith

entry_within : (day : Day) (n k : ℕ) → is_sound day ≡ true → is_message (sort_of day n) ≡ true → IsIn k (entry_numbers day n) → k ≤ MAX_ENTRIES
entry_within day n k sound h i = let l : k < 1 + length (entries day n) = below_end 1 (length (entries day n)) k i in let most = few_entries day n sound h in omega (arith, l, most)

-- a message that is taken is one of the day
intake_message : (kind : Kind) (day : Day) (J : History) (n k : ℕ) (code : Code) (moves : List Move) → is_in kind ≡ true → Made kind day J n k code moves → is_message (sort_of day n) ≡ true
intake_message kinds.In day J n k code moves h m = (and_parts (is_message (sort_of day n)) (is_none (taken J n)) (and_parts _ (is_reached day J n) (and_parts _ (is_none (untaken_earlier day J n)) m.0).0).0).0
intake_message _ day J n k code moves h m = cc

own_message : (day : Day) (J : History) (l : Line) → IsLegal day (l ∷ J) → is_in l.head.kind ≡ true → is_message (sort_of day l.head.msg) ≡ true
own_message day J l legal h = intake_message l.head.kind day J l.head.msg l.head.entry l.head.code l.moves h (made_facts day J l legal.1).1

taken_message : (day : Day) (J : History) (n : ℕ) → IsLegal day J → is_some (taken J n) ≡ true → is_message (sort_of day n) ≡ true
taken_message day [] n legal h = absurd (none_placed (is_in_of n) h)
taken_message day (l ∷ J) n legal h = here (is_some (taken J n)) refl (taken_message day J n legal.0)
  where
    here : (b : Bool) → is_some (taken J n) ≡ b → (is_some (taken J n) ≡ true → is_message (sort_of day n) ≡ true) → is_message (sort_of day n) ≡ true
    here true e before = before e
    here false e before =
        let b = and_parts (is_in l.head.kind) (nat_eq l.head.msg n) (newest (is_in_of n) l J h e) in
        subst (λ x. is_message (sort_of day x) ≡ true) (eqb-true l.head.msg n b.1) (own_message day J l legal b.0)

-- ---- moves

moves_fit : (day : Day) → is_sound day ≡ true → (place : ℕ) → IsPlace place → (moves : List Move) (came went : ℕ → ℕ) → MovesInRange day moves → list_all is_real moves ≡ true → KeepsRange day came went moves
    → AllFit (most_messages day.version) (flat_map (move_statuses day place) moves)
moves_fit day sound place at [] came went range real keeps = tt
moves_fit day sound place at (m ∷ moves) came went range real keeps =
    let reals = and_parts (is_real m) (list_all is_real moves) real in
    let some : 0 < m.amount = ltb-true 0 m.amount (and_parts (not (nat_eq m.debit m.credit)) (nat_lt 0 m.amount) reals.0).1 in
    let taken : went m.debit + m.amount ≤ opening day m.debit + came m.debit = debit_fits day m moves came went reals.0 keeps in
    let most : (opening day m.debit + came m.debit) + 0 ≤ MAX_CENTS + (went m.debit + 0) = (keeps m.debit 0).1 in
    let within : m.amount ≤ MAX_CENTS = omega (arith, taken, most) in
    let rest = moves_fit day sound place at moves (λ a. came a + adds m.credit m.amount a) (λ a. went a + adds m.debit m.amount a) range.1 reals.1 (keeps_on day m moves came went keeps) in
    (on m.debit true range.0.0 some within, (on m.credit false range.0.1 some within, rest))
  where
    on : (a : ℕ) (debit : Bool) → IsAccount day a → 0 < m.amount → m.amount ≤ MAX_CENTS → FitsStatus (most_messages day.version) (moved_on day place debit a m.amount)
    on a debit h some within = record { place_from = at.0; place_to = at.1; to_named = owner_spelled day a sound h; account_named = name_spelled day a sound h; amount_from = omega (arith, some); amount_to = within }

-- ---- turns

bank_spelled : (day : Day) (n : ℕ) (bank : List ℕ) → is_sound day ≡ true → IsIn bank (filter (is_party_of day n) (banks day)) → is_name bank ≡ true
bank_spelled day n bank sound i =
    let a = from_map (owner day) (filter (is_first_dca day) (account_numbers day)) bank (from_filter (is_party_of day n) (banks day) bank i).0 in
    subst (λ name. is_name name ≡ true) a.2 (owner_spelled day a.0 sound (an_account a.0 (from_filter (is_first_dca day) (account_numbers day) a.0 a.1).0))
  where
    an_account : (a : ℕ) → IsIn a (account_numbers day) → IsAccount day a
    an_account zero j = let l : 1 ≤ 0 = above_start 1 (length day.accounts) 0 j in absurd (omega (arith, l))
    an_account (suc p) j = let l : suc p < 1 + length day.accounts = below_end 1 (length day.accounts) (suc p) j in (p, omega arith, omega (arith, l))

revocations_fit : (s : Sort) (day : Day) (J : History) (l : Line) (b : ℕ) → is_sound day ≡ true → IsPlace (place_after J) → is_message (sort_of day b) ≡ true → AllFit (most_messages day.version) (revocations_as s day J l b)
revocations_fit BatchA day J l b sound at h = (told_fits day (place_after J) turn_codes.Rvkd b 0 line_codes.Ok sound at h (omega arith), tt)
revocations_fit BatchB day J l b sound at h = (told_fits day (place_after J) turn_codes.Rvkd b 0 line_codes.Ok sound at h (omega arith), tt)
revocations_fit BatchE day J l b sound at h =
    fit_append (most_messages day.version) (map (revocation day J b) (filter (is_revoked_now day J l b) (entry_numbers day b))) (whole_revocation day J l b)
    (fit_map (most_messages day.version) (revocation day J b) (filter (is_revoked_now day J l b) (entry_numbers day b))
    (λ k i. told_fits day (place_after J) turn_codes.Rvkd b k line_codes.Ok sound at h (entry_within day b k sound h (from_filter (is_revoked_now day J l b) (entry_numbers day b) k i).0)))
    (fit_if (most_messages day.version) (is_revoked (phase day (l ∷ J) b)) (revocation day J b 0 ∷ []) (λ e. (told_fits day (place_after J) turn_codes.Rvkd b 0 line_codes.Ok sound at h (omega arith), tt)))
revocations_fit _ day J l b sound at h = tt

objection_fits : (day : Day) (J : History) (l : Line) → is_sound day ≡ true → IsLegal day (l ∷ J) → IsPlace (place_after J) → AllFit (most_messages day.version) (objection_statuses day J l)
objection_fits day J l sound legal at = fit_if (most_messages day.version) (takes_well l) (revocations_of day J l aim) (λ e. elim (objection_or_none day J l legal) [
  | inl none ↦ subst (λ o. AllFit (most_messages day.version) (revocations_of day J l o)) (sym (none.no_aim e)) tt
  | inr some ↦ subst (λ o. AllFit (most_messages day.version) (revocations_of day J l o)) (sym (ap (λ s. objection_target s day J l.head.msg) some.1.is_object ∙ some.1.aim)) (revocations_fit (sort_of day some.0) day J l some.0 sound at (batch_message (sort_of day some.0) some.1.is_a_batch))
])
  where
    aim : Option ℕ
    aim = objection_target (sort_of day l.head.msg) day J l.head.msg

    batch_message : (s : Sort) → is_batch s ≡ true → is_message s ≡ true
    batch_message Sort.Missing h = cc
    batch_message _ h = refl

uncovered_within : (available s : ℕ) (es : List Entry) (k : ℕ) → IsIn k (unafforded_in_order available s es) → k < s + length es
unfolding unafforded_in_order
uncovered_within available s [] k i = absurd i
uncovered_within available s (e ∷ es) k i = here (nat_lt available e.amount) i (uncovered_within available (suc s) es k) (uncovered_within (available - e.amount) (suc s) es k)
  where
    here : (b : Bool) → IsIn k (elim b [ true ↦ s ∷ unafforded_in_order available (suc s) es | false ↦ unafforded_in_order (available - e.amount) (suc s) es ])
        → (IsIn k (unafforded_in_order available (suc s) es) → k < suc s + length es) → (IsIn k (unafforded_in_order (available - e.amount) (suc s) es) → k < suc s + length es) → k < s + suc (length es)
    here true (inl f) h j = omega arith
    here true (inr f) h j = let l : k < suc s + length es = h f in omega arith
    here false f h j = let l : k < suc s + length es = j f in omega arith

rejections_fit : (s : Sort) (day : Day) (J : History) (n : ℕ) → is_sound day ≡ true → IsPlace (place_after J) → is_message (sort_of day n) ≡ true → AllFit (most_messages day.version) (rejections_as s day J n)
rejections_fit BatchD day J n sound at h = fit_map (most_messages day.version) (λ k. turn_told day (place_after J) turn_codes.Rjct n k line_codes.Nc) (unafforded_in_order (balance day J (technical_account day n)) 1 (entries day n)) (λ k i.
    let l : k < 1 + length (entries day n) = uncovered_within (balance day J (technical_account day n)) 1 (entries day n) k i in
    let most : length (entries day n) ≤ MAX_ENTRIES = few_entries day n sound h in
    told_fits day (place_after J) turn_codes.Rjct n k line_codes.Nc sound at h (omega (arith, l, most)))
rejections_fit _ day J n sound at h = tt

-- ---- a line

line_fits : (day : Day) (J : History) (l : Line) → is_sound day ≡ true → IsLegal day (l ∷ J) → AllFit (most_messages day.version) (statuses day J l)
unfolding statuses
line_fits day J l sound legal =
    fit_append (most_messages day.version) _ (settlement_statuses day J l)
    (fit_append (most_messages day.version) _ (failure_statuses day J l)
    (fit_append (most_messages day.version) _ (ask_statuses day J l)
    (fit_append (most_messages day.version) _ (rejection_statuses day J l)
    (fit_append (most_messages day.version) _ (objection_statuses day J l)
    (fit_append (most_messages day.version) _ (information_statuses day J l)
    (fit_append (most_messages day.version) (flat_map (move_statuses day (place_after J)) l.moves) (intake_statuses day J l)
    (moves_fit day sound (place_after J) at l.moves (credited J) (debited J) (line_in_range l.head.kind day J l.head.msg l.head.entry l.head.code l.moves (subs_have_dca day sound) legal.0 (made_facts day J l legal.1).1) (moves_are_real day (l ∷ J) sound legal).1 (line_keeps day J l sound legal))
    (fit_if (most_messages day.version) (is_in l.head.kind) _ (λ e. (told_fits day (place_after J) (reply l.head.code) l.head.msg 0 l.head.code sound at (own_message day J l legal e) (omega arith), tt))))
    (fit_if (most_messages day.version) (takes_well l && is_some (info_end day l.head.msg)) _ (λ e. fit_map (most_messages day.version) (λ bank. turn_of day (place_after J) bank turn_codes.Info l.head.msg 0 line_codes.Ok) (filter (is_party_of day l.head.msg) (banks day))
    (λ bank i. turn_fits day (place_after J) bank turn_codes.Info l.head.msg 0 line_codes.Ok sound at (bank_spelled day l.head.msg bank sound i) (well (and_parts (takes_well l) _ e).0) (omega arith)))))
    (objection_fits day J l sound legal at))
    (fit_if (most_messages day.version) (takes_well l) _ (λ e. rejections_fit (sort_of day l.head.msg) day J l.head.msg sound at (well e))))
    (fit_if (most_messages day.version) (is_ask l.head.kind) _ (λ e. (told_fits day (place_after J) turn_codes.Askg l.head.msg 0 line_codes.Ok sound at (asked e) (omega arith), tt))))
    (fit_if (most_messages day.version) (is_expire_or_refuse l.head.kind) _ (λ e. (told_fits day (place_after J) turn_codes.Fail l.head.msg 0 l.head.code sound at (ended e) (omega arith), tt))))
    (fit_map (most_messages day.version) (λ n. turn_told day (place_after J) turn_codes.Setl n 0 line_codes.Ok) (filter (is_settled_now day J l) (message_numbers day))
    (λ n i. told_fits day (place_after J) turn_codes.Setl n 0 line_codes.Ok sound at (order_message (sort_of day n) (settling_order day J l n (from_filter (is_settled_now day J l) (message_numbers day) n i).1)) (omega arith)))
  where
    at : IsPlace (place_after J)
    at = line_place day J l sound legal

    well : takes_well l ≡ true → is_message (sort_of day l.head.msg) ≡ true
    well e = own_message day J l legal (and_parts (is_in l.head.kind) (is_ok l.head.code) e).0

    asked : is_ask l.head.kind ≡ true → is_message (sort_of day l.head.msg) ≡ true
    asked e = taken_message day J l.head.msg legal.0 (going_taken day J l.head.msg (overdue_going (phase day J l.head.msg) (asking_overdue day J l l.head.msg legal (and_from (is_ask l.head.kind) (nat_eq l.head.msg l.head.msg) e (same-number l.head.msg)))))

    ended : is_expire_or_refuse l.head.kind ≡ true → is_message (sort_of day l.head.msg) ≡ true
    ended e = taken_message day J l.head.msg legal.0 (going_taken day J l.head.msg (closing_going day J l l.head.msg legal (and_from (is_expire_or_refuse l.head.kind) (nat_eq l.head.msg l.head.msg) e (same-number l.head.msg))))

-- ---- a journal

pub legal_statuses_fit : LegalStatusesFit
unfolding all_statuses
legal_statuses_fit day [] sound legal = tt
legal_statuses_fit day (l ∷ J) sound legal = fit_append (most_messages day.version) (all_statuses day J) (statuses day J l) (legal_statuses_fit day J sound legal.0) (line_fits day J l sound legal)
