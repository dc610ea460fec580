-- The text of a day, part by part.
use Rattle.std.proofs.Common.{◌≡◌, ◌<◌, ◌≤◌, ◌+◌, ℕ, zero, suc, List, [], ◌∷◌, ◌++◌, Result, Ok, Err, IsErr, Some, true, length, get_or, map, drop, take, refl, ap, sym, arith, append_assoc, append-nil, take-append-drop, ◌∙◌}
use Rattle.std.specs.Prelude.{Bool, nat_le, slice_get}
use Rattle.std.specs.List.{flat_map, list_all, slice_range}
use Rattle.std.specs.Option.{option_map_or}
use Rattle.std.proofs.lemmas.Option.{same_Some}
use Rattle.std.proofs.lemmas.Grind.{flat_map-append}
use Rattle.std.proofs.lemmas.List.{take_more, drop_more}
use Rattle.std.proofs.lemmas.List.Concat.{flat_map-cons}
use Rattle.std.proofs.lemmas.List.Folds.{flat_map-map}
use Rattle.outside_io.specs.Pieces.{HasPut, SinkState}
use Rattle.outside_io.specs.Calls.{Puts}
use Rattle.outside_io.specs.TextLine.{text_line}
use Rattle.outside_io.proofs.PutLemmas.{has_put_more, has_put_none, puts_front, puts_last}
use Rattle.batch_records.specs.DayTexts.{account_record, account_text, body_record, day_record, day_text, end_record, entry_record, entry_text, inner_records, message_records, message_text, moment_records, stop_record, stop_text, system_record, reserve_record, reserve_text, system_text, written_records, version_records}
use Rattle.batch_records.specs.Flat.{body_with_entries, with_entries}
use Rattle.batch_records.specs.Meets.{has_times}
use Rattle.batch_records.specs.Parts.{entries_at}
use Rattle.batch_records.specs.Sound.{entries_in, rounds_rise}
use Rattle.batch_records.specs.declared.day.Entry.{Entry}
use Rattle.batch_records.specs.declared.day.MessageRecord.{MessageRecord}
use Rattle.batch_records.specs.declared.day.RecordBody.{RecordBody}
use Rattle.batch_records.specs.declared.day.RecordBody.TheVariants as records
use Rattle.batch_records.specs.DayRecord.{Day}
use Rattle.batch_records.specs.declared.day.Message.{Message}
use Rattle.batch_records.proofs.FlatFacts.{got}
use Rattle.batch_records.proofs.BoolFacts.{and_both, le_meant}

texts_of : {X : Type 0} (f : X → List (List ℕ)) (xs : List X) → flat_map text_line (map f xs) ≡ flat_map (λ x. text_line (f x)) xs
texts_of f xs = flat_map-map text_line f xs

message_is : (version : ℕ) (m : Message) → flat_map text_line (message_records version m) ≡ message_text version m
message_is version m =
    flat_map-cons text_line (body_record version m.sender m.id m.body) (map entry_record (entries_in m.body))
    ∙ ap (λ (t : List ℕ). text_line (body_record version m.sender m.id m.body) ++ t) (texts_of entry_record (entries_in m.body))

pub moment_step : (version : ℕ) (stops : List ℕ) (passed : ℕ) (m : Message) (ms : List Message)
    → (flat_map stop_text (slice_range stops passed m.round) ++ message_text version m) ++ flat_map text_line (moment_records version stops m.round ms) ≡ flat_map text_line (moment_records version stops passed (m ∷ ms))
unfolding moment_records
moment_step version stops passed m ms =
    let part = map stop_record (slice_range stops passed m.round) in
    let front : flat_map text_line (part ++ message_records version m) ≡ flat_map stop_text (slice_range stops passed m.round) ++ message_text version m =
    flat_map-append text_line part (message_records version m)
    ∙ ap (λ (t : List ℕ). t ++ flat_map text_line (message_records version m)) (texts_of stop_record (slice_range stops passed m.round))
    ∙ ap (λ (t : List ℕ). flat_map stop_text (slice_range stops passed m.round) ++ t) (message_is version m) in
    sym (flat_map-append text_line (part ++ message_records version m) (moment_records version stops m.round ms)
    ∙ ap (λ (t : List ℕ). t ++ flat_map text_line (moment_records version stops m.round ms)) front)

moments_end : (version : ℕ) (stops : List ℕ) (passed : ℕ) → flat_map stop_text (drop passed stops) ≡ flat_map text_line (moment_records version stops passed [])
unfolding moment_records
moments_end version stops passed = sym (texts_of stop_record (drop passed stops))

-- some text was put, and the moments that are left make it whole
pub record HasMoments (old new : SinkState) (version : ℕ) (stops : List ℕ) (messages : List Message) (passed : ℕ) (rest : List Message) : Type 0 where
  pub so_far : List ℕ
  pub put : HasPut old new so_far
  pub whole : so_far ++ flat_map text_line (moment_records version stops passed rest) ≡ flat_map text_line (moment_records version stops 0 messages)
  pub rounds : rounds_rise (length stops) passed rest ≡ true
  pub within : passed ≤ length stops

pub moments_none : (old : SinkState) (version : ℕ) (stops : List ℕ) (messages : List Message) → rounds_rise (length stops) 0 messages ≡ true → HasMoments old old version stops messages 0 messages
moments_none old version stops messages rounds = record { so_far = []; put = has_put_none old; whole = refl; rounds = rounds; within = omega arith }

-- the next message's round
round_next : (stops : List ℕ) (messages : List Message) (passed i : ℕ) (m : Message) → rounds_rise (length stops) passed (drop i messages) ≡ true → drop i messages ≡ m ∷ drop (i + 1) messages
    → (passed ≤ m.round) × (m.round ≤ length stops) × (rounds_rise (length stops) m.round (drop (i + 1) messages) ≡ true)
round_next stops messages passed i m rounds is =
    let both = and_both _ (rounds_rise (length stops) m.round (drop (i + 1) messages)) (rw is at rounds) in
    let ends = and_both (nat_le passed m.round) (nat_le m.round (length stops)) both.0 in
    (le_meant passed m.round ends.0, le_meant m.round (length stops) ends.1, both.1)

next_is : (messages : List Message) (i : ℕ) (m : Message) → i < length messages → m ≡ get_or messages i m → drop i messages ≡ m ∷ drop (i + 1) messages
next_is messages i m lt at = drop_more messages i m lt ∙ ap (λ (x : Message). x ∷ drop (i + 1) messages) (sym at)

pub moment_round : (old new : SinkState) (version : ℕ) (stops : List ℕ) (messages : List Message) (passed i : ℕ) (m : Message) → i < length messages → m ≡ get_or messages i m
    → HasMoments old new version stops messages passed (drop i messages) → (passed ≤ m.round) × (m.round ≤ length stops)
moment_round old new version stops messages passed i m lt at h =
    let next = round_next stops messages passed i m h.rounds (next_is messages i m lt at) in
    (next.0, next.1)

whole_next : (old new : SinkState) (version : ℕ) (stops : List ℕ) (messages : List Message) (passed i : ℕ) (m : Message) → drop i messages ≡ m ∷ drop (i + 1) messages
    → (h : HasMoments old new version stops messages passed (drop i messages))
    → h.so_far ++ ((flat_map stop_text (slice_range stops passed m.round) ++ message_text version m) ++ flat_map text_line (moment_records version stops m.round (drop (i + 1) messages))) ≡ flat_map text_line (moment_records version stops 0 messages)
whole_next old new version stops messages passed i m is h =
    ap (λ (t : List ℕ). h.so_far ++ t) (moment_step version stops passed m (drop (i + 1) messages)
    ∙ ap (λ (ms : List Message). flat_map text_line (moment_records version stops passed ms)) (sym is))
    ∙ h.whole

-- a message of a list, by its record and its entries
same_record : (version : ℕ) (sender id : List ℕ) (b : RecordBody) (es : List Entry) → body_record version sender id (body_with_entries b []) ≡ body_record version sender id (body_with_entries b es)
same_record version sender id (records.Batch procedure info from till count sum) es = refl
same_record version sender id (records.Pay high debit credit amount) es = refl
same_record version sender id (records.Liquidity debit credit amount) es = refl
same_record version sender id (records.Object system batch) es = refl
same_record version sender id (records.Confirm batch answer) es = refl
same_record version sender id (records.Cycle start) es = refl

same_times : (b : RecordBody) (es : List Entry) → has_times (body_with_entries b es) ≡ has_times (body_with_entries b [])
same_times (records.Batch procedure info from till count sum) es = refl
same_times (records.Pay high debit credit amount) es = refl
same_times (records.Liquidity debit credit amount) es = refl
same_times (records.Object system batch) es = refl
same_times (records.Confirm batch answer) es = refl
same_times (records.Cycle start) es = refl

pub message_parts : (version : ℕ) (m : MessageRecord) (es : List Entry) → entries_in (body_with_entries m.body es) ≡ es
    → text_line (body_record version m.sender m.id (body_with_entries m.body [])) ++ flat_map entry_text es ≡ message_text version (with_entries m es)
message_parts version m es own = λ i. text_line (same_record version m.sender m.id m.body es i) ++ flat_map entry_text (sym own i)

passes_there : {X : Type 0} (p : X → Bool) (xs : List X) (i : ℕ) (x : X) → list_all p xs ≡ true → slice_get xs i ≡ Some x → p x ≡ true
passes_there p [] i x h e = cc
passes_there p (y ∷ xs) zero x h e = sym (ap p (same_Some y x e)) ∙ (and_both (p y) (list_all p xs) h).0
passes_there p (y ∷ xs) (suc i) x h e = passes_there p xs i x (and_both (p y) (list_all p xs) h).1 e

pub message_here : (messages : List Message) (i : ℕ) (r : MessageRecord) (es : List Entry) → slice_get messages i ≡ Some (with_entries r (entries_at messages i)) → es ≡ entries_at messages i
    → with_entries r es ≡ get_or messages i (with_entries r es)
message_here messages i r es at e = got messages i (with_entries r es) (at ∙ ap (λ xs. Some (with_entries r xs)) (sym e))

pub times_here : (messages : List Message) (i : ℕ) (r : MessageRecord) → list_all (λ m. has_times m.body) messages ≡ true → slice_get messages i ≡ Some (with_entries r (entries_at messages i)) → has_times (body_with_entries r.body []) ≡ true
times_here messages i r all at = sym (same_times r.body (entries_at messages i)) ∙ passes_there (λ m. has_times m.body) messages i (with_entries r (entries_at messages i)) all at

pub entries_here : (messages : List Message) (i : ℕ) (r : MessageRecord) (es : List Entry) → slice_get messages i ≡ Some (with_entries r (entries_at messages i)) → es ≡ entries_at messages i → entries_in (body_with_entries r.body es) ≡ es
entries_here messages i r es at e =
    ap (λ xs. entries_in (body_with_entries r.body xs)) e ∙ sym (ap (λ o. option_map_or (λ m. entries_in m.body) o []) at) ∙ sym e

pub moments_more : {T E : Type 0} (old mid new : SinkState) (version : ℕ) (stops : List ℕ) (messages : List Message) (passed i : ℕ) (m : Message) (value : T) → i < length messages → m ≡ get_or messages i m
    → HasMoments old mid version stops messages passed (drop i messages) → Puts {E = E} mid new (flat_map stop_text (slice_range stops passed m.round) ++ message_text version m) (Ok value)
    → HasMoments old new version stops messages m.round (drop (i + 1) messages)
moments_more old mid new version stops messages passed i m value lt at h put =
    let is = next_is messages i m lt at in
    let more = flat_map stop_text (slice_range stops passed m.round) ++ message_text version m in
    record {
      so_far = h.so_far ++ more;
      put = has_put_more old mid new h.so_far more value h.put put;
      whole = append_assoc h.so_far more (flat_map text_line (moment_records version stops m.round (drop (i + 1) messages))) ∙ whole_next old mid version stops messages passed i m is h;
      rounds = (round_next stops messages passed i m h.rounds is).2;
      within = (round_next stops messages passed i m h.rounds is).1;
    }

pub moments_stop : {T U E F : Type 0} (old mid new : SinkState) (version : ℕ) (stops : List ℕ) (messages : List Message) (passed i : ℕ) (m : Message) (fault : E) (result : Result U F) → IsErr result → i < length messages → m ≡ get_or messages i m
    → HasMoments old mid version stops messages passed (drop i messages) → Puts {T = T} mid new (flat_map stop_text (slice_range stops passed m.round) ++ message_text version m) (Err fault)
    → Puts old new (flat_map text_line (moment_records version stops 0 messages)) result
moments_stop old mid new version stops messages passed i m fault result failed lt at h put =
    puts_front old mid new h.so_far (flat_map stop_text (slice_range stops passed m.round) ++ message_text version m) (flat_map text_line (moment_records version stops m.round (drop (i + 1) messages)))
    (flat_map text_line (moment_records version stops 0 messages)) fault result failed (whole_next old mid version stops messages passed i m (next_is messages i m lt at) h) h.put put

pub moments_all : {T E : Type 0} (old mid new : SinkState) (version : ℕ) (stops : List ℕ) (messages : List Message) (passed : ℕ) (result : Result T E)
    → HasMoments old mid version stops messages passed [] → Puts mid new (flat_map stop_text (drop passed stops)) result
    → Puts old new (flat_map text_line (moment_records version stops 0 messages)) result
moments_all old mid new version stops messages passed result h put =
    puts_last old mid new h.so_far (flat_map stop_text (drop passed stops)) (flat_map text_line (moment_records version stops 0 messages)) result
    (ap (λ (t : List ℕ). h.so_far ++ t) (moments_end version stops passed) ∙ h.whole) h.put put

-- the texts of some stops up to a place, that of the stop there, and the rest
pub stops_parts : (stops : List ℕ) (i d : ℕ) → i < length stops → flat_map stop_text (take i stops) ++ (stop_text (get_or stops i d) ++ flat_map stop_text (drop (i + 1) stops)) ≡ flat_map stop_text stops
stops_parts stops i d inside =
    ap (λ (t : List ℕ). flat_map stop_text (take i stops) ++ t) (sym (flat_map-cons stop_text (get_or stops i d) (drop (i + 1) stops)) ∙ sym (ap (flat_map stop_text) (drop_more stops i d inside)))
    ∙ sym (flat_map-append stop_text (take i stops) (drop i stops)) ∙ ap (flat_map stop_text) (take-append-drop i stops)

-- those up to a place, and that of the stop there
pub stops_next : (stops : List ℕ) (i d : ℕ) → i < length stops → flat_map stop_text (take i stops) ++ stop_text (get_or stops i d) ≡ flat_map stop_text (take (i + 1) stops)
stops_next stops i d inside =
    ap (λ (t : List ℕ). flat_map stop_text (take i stops) ++ t) (sym (append-nil (stop_text (get_or stops i d)))) ∙ sym (flat_map-append stop_text (take i stops) (get_or stops i d ∷ []))
    ∙ ap (flat_map stop_text) (sym (take_more stops i d inside))

-- the whole text
pub day_parts : (day : Day)
    → (((flat_map text_line (version_records day.version) ++ text_line (day_record day.date)) ++ flat_map system_text day.systems ++ flat_map account_text day.accounts) ++ flat_map (reserve_text day.accounts) day.reserves)
    ++ (flat_map text_line (moment_records day.version day.stops 0 day.messages) ++ text_line end_record) ≡ day_text day
unfolding day_text written_records inner_records
day_parts day =
    let head = version_records day.version in
    let moments = moment_records day.version day.stops 0 day.messages in
    let kept = map (reserve_record day.accounts) day.reserves in
    let accounts = map account_record day.accounts in
    let systems = map system_record day.systems in
    let behind_accounts : flat_map text_line (kept ++ moments) ≡ flat_map (reserve_text day.accounts) day.reserves ++ flat_map text_line moments =
    flat_map-append text_line kept moments ∙ ap (λ (t : List ℕ). t ++ flat_map text_line moments) (texts_of (reserve_record day.accounts) day.reserves) in
    let inner : flat_map text_line (systems ++ (accounts ++ (kept ++ moments))) ≡ flat_map system_text day.systems ++ (flat_map account_text day.accounts ++ (flat_map (reserve_text day.accounts) day.reserves ++ flat_map text_line moments)) =
    flat_map-append text_line systems (accounts ++ (kept ++ moments))
    ∙ ap (λ (t : List ℕ). t ++ flat_map text_line (accounts ++ (kept ++ moments))) (texts_of system_record day.systems)
    ∙ ap (λ (t : List ℕ). flat_map system_text day.systems ++ t) (flat_map-append text_line accounts (kept ++ moments)
    ∙ ap (λ (t : List ℕ). t ++ flat_map text_line (kept ++ moments)) (texts_of account_record day.accounts)
    ∙ ap (λ (t : List ℕ). flat_map account_text day.accounts ++ t) behind_accounts) in
    let whole : flat_map text_line ((systems ++ (accounts ++ (kept ++ moments))) ++ end_record ∷ []) ≡ (flat_map system_text day.systems ++ (flat_map account_text day.accounts ++ (flat_map (reserve_text day.accounts) day.reserves ++ flat_map text_line moments))) ++ text_line end_record =
    flat_map-append text_line (systems ++ (accounts ++ (kept ++ moments))) (end_record ∷ [])
    ∙ ap (λ (t : List ℕ). t ++ flat_map text_line (end_record ∷ [])) inner in
    let rows = day_record day.date ∷ ((systems ++ (accounts ++ (kept ++ moments))) ++ end_record ∷ []) in
    let behind : flat_map text_line rows ≡ text_line (day_record day.date) ++ ((flat_map system_text day.systems ++ (flat_map account_text day.accounts ++ (flat_map (reserve_text day.accounts) day.reserves ++ flat_map text_line moments))) ++ text_line end_record) =
    flat_map-cons text_line (day_record day.date) ((systems ++ (accounts ++ (kept ++ moments))) ++ end_record ∷ []) ∙ ap (λ (t : List ℕ). text_line (day_record day.date) ++ t) whole in
    sym (flat_map-append text_line head rows
    ∙ ap (λ (t : List ℕ). flat_map text_line head ++ t) behind
    ∙ regrouped (flat_map text_line head) (text_line (day_record day.date)) (flat_map system_text day.systems) (flat_map account_text day.accounts) (flat_map (reserve_text day.accounts) day.reserves) (flat_map text_line moments) (text_line end_record))
  where
    regrouped : (v a b c k d e : List ℕ) → v ++ (a ++ ((b ++ (c ++ (k ++ d))) ++ e)) ≡ (((v ++ a) ++ b ++ c) ++ k) ++ (d ++ e)
    regrouped v a b c k d e =
        ap (λ (t : List ℕ). v ++ (a ++ t)) (append_assoc b (c ++ (k ++ d)) e ∙ ap (λ (t : List ℕ). b ++ t) (append_assoc c (k ++ d) e ∙ ap (λ (t : List ℕ). c ++ t) (append_assoc k d e)))
        ∙ sym (append_assoc ((v ++ a) ++ b ++ c) k (d ++ e) ∙ append_assoc ((v ++ a) ++ b) c (k ++ (d ++ e)) ∙ append_assoc (v ++ a) b (c ++ (k ++ (d ++ e))) ∙ append_assoc v a (b ++ (c ++ (k ++ (d ++ e)))))
