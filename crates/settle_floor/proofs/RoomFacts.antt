-- A floor of a day that goes on.
use Rattle.std.proofs.Common.{◌≡◌, ◌∙◌, ℕ, zero, suc, ◌+◌, ◌*◌, ◌≤◌, ◌<◌, ◌-◌, true, ◌&&◌, List, [], ◌∷◌, ◌++◌, length, get_or, sum_by, take, drop, Some, refl, sym, ap, subst, arith}
use Rattle.std.specs.Prelude.{min, nat_lt, slice_get}
use Rattle.cash_amounts.specs.declared.limits.TheConstants.{MAX_ENTRIES_OF_DAY, MAX_MESSAGES}
use Rattle.std.proofs.lemmas.Bool.{and_parts, ltb-true}
use Rattle.std.proofs.lemmas.List.{append-nil, drop_all, length-append, take_all, take_more}
use Rattle.std.proofs.lemmas.List.Sums.{sum_by-append}
use Rattle.period_calendar.specs.declared.time.TheConstants.{MIDNIGHT}
use Rattle.batch_records.specs.DayRecord.{Day}
use Rattle.batch_records.specs.declared.day.Message.{Message}
use Rattle.batch_records.specs.Sound.{is_sound, stops_rise}
use Rattle.commit_journal.specs.declared.line.Head.{Head}
use Rattle.commit_journal.specs.declared.line.Move.{Move}
use Rattle.commit_journal.specs.Kept.{Kept, pushed, with_room}
use Rattle.commit_journal.specs.Line.{History}
use Rattle.machine.specs.Legal.{IsLegal}
use Rattle.machine.specs.Telling.History.{clock}
use Rattle.settlement_laws.proofs.Base.SoundParts.{sound_parts}
use Rattle.machine.specs.Orders.Bounds.{entries_of_all, most_lines, most_moves, moved}
use Rattle.machine.specs.Records.Messages.{entries, entries_in}
use Rattle.settlement_laws.specs.Fits.{Fits}
use Rattle.live_order.specs.Longer.{longer}
use Rattle.due_items.specs.Kept.{Due}
use Rattle.due_items.specs.Index.{Index as DueIndex}
use Rattle.due_items.specs.Room as of_due_room
use Rattle.day_facts.proofs.Room as of_facts
use Rattle.pending_items.proofs.Room as of_pending
use Rattle.due_items.proofs.Room as of_due
use Rattle.ready_items.proofs.Room as of_ready
use Rattle.live_order.specs.Coming.{ComesNext, setup}
use Rattle.settle_floor.specs.Floors.{HasPlaces, HasRoomFor, IsFor, IsIndex, OnFloor, entries_left, messages_left}
use Rattle.settle_floor.specs.Room.{HasCome, IsOpen, entries_from, front, up_to_stop}

-- ---- the message that comes

got : (before : List Message) (m : Message) (behind : List Message) → slice_get (before ++ m ∷ behind) (length before) ≡ Some m
got [] m behind = refl
got (x ∷ before) m behind = got before m behind

-- the whole day says of it what it brings
pub entries_next : (whole : Day) (n : ℕ) (day : Day) (m : Message) (ms : List Message) (ss : List ℕ) → ComesNext whole n day m ms ss → entries whole n ≡ entries_in m.body
entries_next whole n day m ms ss next =
    subst (λ (d : Day). entries d n ≡ entries_in m.body) (sym next.is)
    (subst (λ (k : ℕ). entries (longer day (m ∷ ms) ss) k ≡ entries_in m.body) (number (length day.messages) n next.number) (at day.messages))
  where
    number : (count n : ℕ) → n ≡ count + 1 → suc count ≡ n
    number count n e = omega (arith, e)

    at : (before : List Message) → entries (record day { messages = before ++ m ∷ ms; stops = day.stops ++ ss }) (suc (length before)) ≡ entries_in m.body
    at before = rw (got before m ms) refl

-- ---- what the longer day can bring

one_more : (f : Message → ℕ) (xs : List Message) (m : Message) → sum_by f (xs ++ m ∷ []) ≡ sum_by f xs + f m
one_more f xs m =
    let sum = sum_by-append f xs (m ∷ []) in
    let one : sum_by f (m ∷ []) ≡ f m = omega arith in
    omega (arith, sum, one)

pub lines_more : (day : Day) (m : Message) → most_lines (longer day (m ∷ []) []) ≡ most_lines day + (4 + length (entries_in m.body))
lines_more day m =
    let sum = one_more (λ (x : Message). length (entries_in x.body)) day.messages m in
    let count = length-append day.messages (m ∷ []) in
    omega (arith, sum, count)

pub moves_more : (day : Day) (m : Message) → most_moves (longer day (m ∷ []) []) ≡ most_moves day + (1 + 2 * length (entries_in m.body))
moves_more day m =
    let sum = one_more (λ (x : Message). length (entries_in x.body)) day.messages m in
    let count = length-append day.messages (m ∷ []) in
    omega (arith, sum, count)

-- the journal that had room for one more has room for it, and for the rest
pub fits_longer : (whole : Day) (n : ℕ) (day : Day) (m : Message) (ms : List Message) (ss : List ℕ) (messages more : ℕ) (floor new : OnFloor) → ComesNext whole n day m ms ss →
    IsLegal (longer day (m ∷ []) []) floor.journal.history → HasRoomFor day (messages + 1) (more + length (entries whole n)) floor → new.journal ≡ floor.journal →
    HasPlaces messages more new.index → IsIndex (longer day (m ∷ []) []) floor.journal.history new.index → IsOpen (longer day (m ∷ []) []) messages more new
fits_longer whole n day m ms ss messages more floor new next legal room same places index =
    let later = longer day (m ∷ []) [] in
    let brings : length (entries whole n) ≡ length (entries_in m.body) = ap length (entries_next whole n day m ms ss next) in
    let l = room.lines in
    let v = room.moves in
    let a = lines_more day m in
    let b = moves_more day m in
    let lines : most_lines later + (4 * messages + more) ≤ length floor.journal.history + floor.journal.room_for_lines = omega (arith, l, a, brings) in
    let moves : most_moves later + (messages + 2 * more) ≤ moved floor.journal.history + floor.journal.room_for_moves = omega (arith, v, b, brings) in
    let fits : Fits later floor.journal = record { legal = legal; room_for_lines = omega (arith, lines); room_for_moves = omega (arith, moves) } in
    record {
      fits = subst (Fits later) (sym same) fits;
      index = subst (λ (j : Kept). IsIndex later j.history new.index) (sym same) index;
      room = record {
        places = places;
        lines = subst (λ (j : Kept). most_lines later + (4 * messages + more) ≤ length j.history + j.room_for_lines) (sym same) lines;
        moves = subst (λ (j : Kept). most_moves later + (messages + 2 * more) ≤ moved j.history + j.room_for_moves) (sym same) moves;
      };
    }

-- a floor that is open for a day with the room that the day has
pub for_day : (day : Day) (messages more : ℕ) (floor : OnFloor) → messages ≡ messages_left day → more ≡ entries_left day → IsOpen day messages more floor → IsFor day floor
for_day day messages more floor m e o = record {
  fits = o.fits;
  index = o.index;
  room = subst (λ (k : ℕ). HasRoomFor day (messages_left day) k floor) e (subst (λ (k : ℕ). HasRoomFor day k more floor) m o.room);
}

-- what is left after the message that comes, and before it
pub messages_one_less : (day : Day) (m : Message) → length day.messages < min day.room.messages MAX_MESSAGES → messages_left (longer day (m ∷ []) []) + 1 ≡ messages_left day
messages_one_less day m low =
    let count = length-append day.messages (m ∷ []) in
    omega (arith, low, count)

pub entries_less : (day : Day) (m : Message) (k : ℕ) → k ≡ length (entries_in m.body) → entries_of_all day + k ≤ min day.room.entries MAX_ENTRIES_OF_DAY → entries_left (longer day (m ∷ []) []) + k ≡ entries_left day
entries_less day m k e low =
    let sum = one_more (λ (x : Message). length (entries_in x.body)) day.messages m in
    omega (arith, low, sum, e)

pub room_longer : (whole : Day) (n : ℕ) (day : Day) (m : Message) (ms : List Message) (ss : List ℕ) (floor : OnFloor) → ComesNext whole n day m ms ss → length day.messages < min day.room.messages MAX_MESSAGES →
    entries_of_all day + length (entries whole n) ≤ min day.room.entries MAX_ENTRIES_OF_DAY → IsFor day floor →
    HasRoomFor day (messages_left (longer day (m ∷ []) []) + 1) (entries_left (longer day (m ∷ []) []) + length (entries whole n)) floor
room_longer whole n day m ms ss floor next low few was =
    let brings : length (entries whole n) ≡ length (entries_in m.body) = ap length (entries_next whole n day m ms ss next) in
    subst (λ (k : ℕ). HasRoomFor day (messages_left (longer day (m ∷ []) []) + 1) k floor) (sym (entries_less day m (length (entries whole n)) brings few))
    (subst (λ (k : ℕ). HasRoomFor day k (entries_left day) floor) (sym (messages_one_less day m low)) was.room)

-- ---- a line

-- what can still come hangs on what a line leaves as it is
pub due_still : (messages more : ℕ) (old new : Due) → new.index ≡ old.index → of_due_room.HasRoom messages more old → of_due_room.HasRoom messages more new
due_still messages more old new e r = record {
  rows = subst (λ (i : DueIndex). messages ≤ i.row.room.messages) (sym e) r.rows;
  items = subst (λ (i : DueIndex). messages + more ≤ i.row.room.items) (sym e) r.items;
}

-- it is made in the room that there is for what the day can bring
pub room_after : (day : Day) (messages more : ℕ) (floor new : OnFloor) (head : Head) (moves : List Move) → new.journal ≡ pushed floor.journal head moves → 0 < floor.journal.room_for_lines → length moves ≤ floor.journal.room_for_moves →
    ((k l : ℕ) → HasPlaces k l floor.index → HasPlaces k l new.index) → HasRoomFor day messages more floor → HasRoomFor day messages more new
room_after day messages more floor new head moves is some fit places room =
    let l = room.lines in
    let v = room.moves in
    let line : length (pushed floor.journal head moves).history + (pushed floor.journal head moves).room_for_lines ≡ length floor.journal.history + floor.journal.room_for_lines = omega (arith, some) in
    let move : moved (pushed floor.journal head moves).history + (pushed floor.journal head moves).room_for_moves ≡ moved floor.journal.history + floor.journal.room_for_moves = omega (arith, fit) in
    record {
      places = places messages more room.places;
      lines = subst (λ (j : Kept). most_lines day + (4 * messages + more) ≤ length j.history + j.room_for_lines) (sym is) (omega (arith, l, line));
      moves = subst (λ (j : Kept). most_moves day + (messages + 2 * more) ≤ moved j.history + j.room_for_moves) (sym is) (omega (arith, v, move));
    }

-- ---- a stop

lines_still : (day : Day) (t : ℕ) → most_lines (longer day [] (t ∷ [])) ≡ most_lines day
lines_still day t = ap (λ (ms : List Message). most_lines (record day { messages = ms })) (append-nil day.messages)

moves_still : (day : Day) (t : ℕ) → most_moves (longer day [] (t ∷ [])) ≡ most_moves day
moves_still day t = ap (λ (ms : List Message). most_moves (record day { messages = ms })) (append-nil day.messages)

pub stop_for : (day : Day) (t : ℕ) (floor new : OnFloor) → IsLegal (longer day [] (t ∷ [])) floor.journal.history → IsFor day floor → new.journal ≡ floor.journal →
    HasPlaces (messages_left day) (entries_left day) new.index → IsIndex (longer day [] (t ∷ [])) floor.journal.history new.index → IsFor (longer day [] (t ∷ [])) new
stop_for day t floor new legal opened same places index =
    let later = longer day [] (t ∷ []) in
    let messages = messages_left day in
    let more = entries_left day in
    let l = opened.room.lines in
    let v = opened.room.moves in
    let a = lines_still day t in
    let b = moves_still day t in
    let lines : most_lines later + (4 * messages + more) ≤ length floor.journal.history + floor.journal.room_for_lines = omega (arith, l, a) in
    let moves : most_moves later + (messages + 2 * more) ≤ moved floor.journal.history + floor.journal.room_for_moves = omega (arith, v, b) in
    let fits : Fits later floor.journal = record { legal = legal; room_for_lines = omega (arith, lines); room_for_moves = omega (arith, moves) } in
    for_day later messages more new (ap (λ (ms : List Message). messages_left (record day { messages = ms })) (sym (append-nil day.messages))) (ap (λ (ms : List Message). entries_left (record day { messages = ms })) (sym (append-nil day.messages)))
    (record {
      fits = subst (Fits later) (sym same) fits;
      index = subst (λ (j : Kept). IsIndex later j.history new.index) (sym same) index;
      room = record {
        places = places;
        lines = subst (λ (j : Kept). most_lines later + (4 * messages + more) ≤ length j.history + j.room_for_lines) (sym same) lines;
        moves = subst (λ (j : Kept). most_moves later + (messages + 2 * more) ≤ moved j.history + j.room_for_moves) (sym same) moves;
      };
    })

-- ---- nothing has come

pub empty_fits : (day : Day) (messages more accounts : ℕ) (floor : OnFloor) → length day.accounts ≤ accounts → floor.journal ≡ with_room (4 * messages + more + accounts + (MIDNIGHT + 1)) (messages + 2 * more + accounts) →
    HasPlaces messages more floor.index → IsIndex (setup day) [] floor.index → IsOpen (setup day) messages more floor
empty_fits day messages more accounts floor a is places index =
    let room = with_room (4 * messages + more + accounts + (MIDNIGHT + 1)) (messages + 2 * more + accounts) in
    let fits : Fits (setup day) room = record { legal = tt; room_for_lines = omega (arith, a); room_for_moves = omega (arith, a) } in
    let lines : most_lines (setup day) + (4 * messages + more) ≤ length room.history + room.room_for_lines = omega (arith, a) in
    let moves : most_moves (setup day) + (messages + 2 * more) ≤ moved room.history + room.room_for_moves = omega (arith, a) in
    record {
      fits = subst (Fits (setup day)) (sym is) fits;
      index = subst (λ (j : Kept). IsIndex (setup day) j.history floor.index) (sym is) index;
      room = record {
        places = places;
        lines = subst (λ (j : Kept). most_lines (setup day) + (4 * messages + more) ≤ length j.history + j.room_for_lines) (sym is) lines;
        moves = subst (λ (j : Kept). most_moves (setup day) + (messages + 2 * more) ≤ moved j.history + j.room_for_moves) (sym is) moves;
      };
    }

-- ---- a whole day comes

pub places_less : (messages more fewer less : ℕ) (floor : OnFloor) → fewer ≤ messages → less ≤ more → HasPlaces messages more floor.index → HasPlaces fewer less floor.index
places_less messages more fewer less floor a b p = record {
  facts = of_facts.room_less messages more fewer less floor.index.facts a b p.facts;
  pending = of_pending.room_less messages more fewer less floor.index.pending a b p.pending;
  due = of_due.room_less messages more fewer less floor.index.due a b p.due;
  ready = of_ready.room_less messages more fewer less floor.index.ready a b p.ready;
}

-- a floor that is open for at least as much as may come to the day
pub opened_for : (day : Day) (messages more : ℕ) (floor : OnFloor) → messages_left day ≤ messages → entries_left day ≤ more → IsOpen day messages more floor → IsFor day floor
opened_for day messages more floor few less is =
    let l = is.room.lines in
    let v = is.room.moves in
    record {
      fits = is.fits;
      index = is.index;
      room = record { places = places_less messages more (messages_left day) (entries_left day) floor few less is.room.places; lines = omega (arith, l, few, less); moves = omega (arith, v, few, less) };
    }

-- a list is what stands before a place, the item there, and what stands after it
pub record IsCut (ms : List Message) (i : ℕ) : Type 0 where
  pub one : Message
  pub whole : take i ms ++ (one ∷ drop (suc i) ms) ≡ ms
  pub front : take i ms ++ (one ∷ []) ≡ take (suc i) ms
  pub count : length (take i ms) ≡ i
  pub rest : drop i ms ≡ one ∷ drop (suc i) ms

pub cut_at : (ms : List Message) (i : ℕ) → i < length ms → IsCut ms i
cut_at [] i low = absurd (omega (arith, low))
cut_at (m ∷ ms) zero low = record { one = m; whole = refl; front = refl; count = refl; rest = refl }
cut_at (m ∷ ms) (suc i) low =
    let c = cut_at ms i (omega (arith, low)) in
    record { one = c.one; whole = ap (λ xs. m ∷ xs) c.whole; front = ap (λ xs. m ∷ xs) c.front; count = ap suc c.count; rest = c.rest }

-- message i + 1 is the next after the first i
pub next_of_front : (day : Day) (i : ℕ) (c : IsCut day.messages i) → ComesNext day (i + 1) (front day i) c.one (drop (suc i) day.messages) day.stops
next_of_front day i c = record {
  is = sym (ap (λ (ms : List Message). record day { messages = ms }) c.whole);
  number = let e = c.count in omega (arith, e);
}

pub front_more : (day : Day) (i : ℕ) (c : IsCut day.messages i) → longer (front day i) (c.one ∷ []) [] ≡ front day (i + 1)
front_more day i c = let e : suc i ≡ i + 1 = omega arith in ap (λ (ms : List Message). record day { messages = ms; stops = [] }) (c.front ∙ ap (λ k. take k day.messages) e)

pub brings : (day : Day) (i : ℕ) (c : IsCut day.messages i) → entries_from day i ≡ entries_from day (i + 1) + length (entries day (i + 1))
brings day i c =
    let f : Message → ℕ = λ m. length (entries_in m.body) in
    let e : suc i ≡ i + 1 = omega arith in
    let all : entries_from day i ≡ sum_by f (c.one ∷ drop (i + 1) day.messages) = ap (sum_by f) (c.rest ∙ ap (λ k. c.one ∷ drop k day.messages) e) in
    let sum : sum_by f (c.one ∷ drop (i + 1) day.messages) ≡ f c.one + entries_from day (i + 1) = sum_by-append f (c.one ∷ []) (drop (i + 1) day.messages) ∙ ap (λ k. k + entries_from day (i + 1)) (one_of f c.one) in
    let own : length (entries day (i + 1)) ≡ f c.one = ap length (entries_next day (i + 1) (front day i) c.one (drop (suc i) day.messages) day.stops (next_of_front day i c)) in
    omega (arith, all, sum, own)
  where
    one_of : (f : Message → ℕ) (m : Message) → sum_by f (m ∷ []) ≡ f m
    one_of f m = omega arith

pub room_for_next : (day : Day) (i : ℕ) (floor : OnFloor) → i < length day.messages → HasCome day i floor → HasPlaces 1 (length (entries day (i + 1))) floor.index
room_for_next day i floor low come =
    let b = brings day i (cut_at day.messages i low) in
    places_less (length day.messages - i + messages_left day) (entries_from day i + entries_left day) 1 (length (entries day (i + 1))) floor (omega (arith, low)) (omega (arith, b)) come.opened.room.places

abbrev pub Arrives : Day → ℕ → OnFloor → OnFloor → Type 0
Arrives day n floor new = (d : Day) (m : Message) (ms : List Message) (ss : List ℕ) (messages more : ℕ) → ComesNext day n d m ms ss → IsLegal (longer d (m ∷ []) []) floor.journal.history →
    IsOpen d (messages + 1) (more + length (entries day n)) floor → IsOpen (longer d (m ∷ []) []) messages more new

pub comes_next : (day : Day) (i : ℕ) (floor new : OnFloor) → i < length day.messages → HasCome day i floor → new.journal ≡ floor.journal → Arrives day (i + 1) floor new → HasCome day (i + 1) new
comes_next day i floor new low come same arrives =
    let c = cut_at day.messages i low in
    let b = brings day i c in
    let messages = length day.messages - (i + 1) + messages_left day in
    let more = entries_from day (i + 1) + entries_left day in
    let one : length day.messages - i + messages_left day ≡ messages + 1 = omega (arith, low) in
    let some : entries_from day i + entries_left day ≡ more + length (entries day (i + 1)) = omega (arith, b) in
    let room = subst (λ (k : ℕ). IsOpen (front day i) k (more + length (entries day (i + 1))) floor) one (subst (λ (k : ℕ). IsOpen (front day i) (length day.messages - i + messages_left day) k floor) some come.opened) in
    let legal = subst (IsLegal (longer (front day i) (c.one ∷ []) [])) (sym come.empty) tt in
    let made = arrives (front day i) c.one (drop (suc i) day.messages) day.stops messages more (next_of_front day i c) legal room in
    record {
      empty = ap (λ (j : Kept). j.history) same ∙ come.empty;
      opened = subst (λ (d : Day). IsOpen d messages more new) (front_more day i c) made;
    }

-- with all messages it is the day but for its stops
pub all_come : (day : Day) (i : ℕ) (floor : OnFloor) → i ≡ length day.messages → HasCome day i floor → IsFor (up_to_stop day 0) floor
all_come day i floor all come =
    let messages = length day.messages - i + messages_left day in
    let more = entries_from day i + entries_left day in
    let none : entries_from day i ≡ 0 = ap (sum_by (λ (m : Message). length (entries_in m.body))) (drop_all i day.messages (omega (arith, all))) in
    for_day (up_to_stop day 0) messages more floor (omega (arith, all)) (omega (arith, none))
    (subst (λ (ms : List Message). IsOpen (record day { messages = ms; stops = [] }) messages more floor) (take_all i day.messages (omega (arith, all))) come.opened)

-- ---- its stops come

stop_in : (before : ℕ) (stops : List ℕ) (i : ℕ) → stops_rise before stops ≡ true → i < length stops → (before < get_or stops i 0) × (get_or stops i 0 < MIDNIGHT)
stop_in before [] i rise low = absurd (omega (arith, low))
stop_in before (t ∷ ts) zero rise low =
    let p = and_parts (nat_lt before t && nat_lt t MIDNIGHT) (stops_rise t ts) rise in
    let q = and_parts (nat_lt before t) (nat_lt t MIDNIGHT) p.0 in
    (ltb-true before t q.0, ltb-true t MIDNIGHT q.1)
stop_in before (t ∷ ts) (suc i) rise low =
    let p = and_parts (nat_lt before t && nat_lt t MIDNIGHT) (stops_rise t ts) rise in
    let q = and_parts (nat_lt before t) (nat_lt t MIDNIGHT) p.0 in
    let over = ltb-true before t q.0 in
    let r = stop_in t ts i p.1 (omega (arith, low)) in
    let above = r.0 in
    (omega (arith, over, above), r.1)

abbrev pub StopsAt : OnFloor → OnFloor → ℕ → Type 0
StopsAt floor new t = (day : Day) → t < 86401 → clock floor.journal.history < t → IsLegal (longer day [] (t ∷ [])) floor.journal.history → IsFor day floor → IsFor (longer day [] (t ∷ [])) new

pub stops_next : (day : Day) (i : ℕ) (floor new : OnFloor) → is_sound day ≡ true → i < length day.stops → floor.journal.history ≡ [] → IsFor (up_to_stop day i) floor → StopsAt floor new (get_or day.stops i 0) → IsFor (up_to_stop day (i + 1)) new
unfolding clock
stops_next day i floor new sound low empty opened stops =
    let t = get_or day.stops i 0 in
    let at = stop_in 0 day.stops i (sound_parts day sound).stops low in
    let a = at.0 in
    let b = at.1 in
    let early : t < 86401 = omega (arith, b) in
    let rise : clock floor.journal.history < t = subst (λ (J : History). clock J < t) (sym empty) a in
    let legal = subst (IsLegal (longer (up_to_stop day i) [] (t ∷ []))) (sym empty) tt in
    let made = stops (up_to_stop day i) early rise legal opened in
    subst (λ (d : Day). IsFor d new) (λ j. record day { messages = append-nil day.messages j; stops = sym (take_more day.stops i 0 low) j }) made

pub all_stops : (day : Day) (i : ℕ) (floor : OnFloor) → length day.stops ≤ i → IsFor (up_to_stop day i) floor → IsFor day floor
all_stops day i floor past opened = subst (λ (ts : List ℕ). IsFor (record day { stops = ts }) floor) (take_all i day.stops past) opened

-- before the first message
pub none_come : (day : Day) (messages more : ℕ) (floor : OnFloor) → messages ≡ length day.messages + messages_left day → more ≡ entries_of_all day + entries_left day → floor.journal.history ≡ [] → IsOpen (setup day) messages more floor → HasCome day 0 floor
none_come day messages more floor m e empty opened =
    let all : messages ≡ length day.messages - 0 + messages_left day = omega (arith, m) in
    record {
      empty = empty;
      opened = subst (λ (k : ℕ). IsOpen (setup day) k (entries_from day 0 + entries_left day) floor) all (subst (λ (k : ℕ). IsOpen (setup day) messages k floor) e opened);
    }

-- ---- and the whole day has come

pub lines_of_all : (day : Day) (messages more accounts : ℕ) (floor empty : OnFloor) → messages ≡ length day.messages + messages_left day → more ≡ entries_of_all day + entries_left day → accounts ≡ length day.accounts → floor.journal ≡ empty.journal →
    empty.journal ≡ with_room (4 * messages + more + accounts + (MIDNIGHT + 1)) (messages + 2 * more + accounts) →
    floor.journal ≡ with_room (most_lines day + (4 * messages_left day + entries_left day)) (most_moves day + (messages_left day + 2 * entries_left day))
lines_of_all day messages more accounts floor empty m e a same is =
    let lines : 4 * messages + more + accounts + (MIDNIGHT + 1) ≡ most_lines day + (4 * messages_left day + entries_left day) = omega (arith, m, e, a) in
    let moves : messages + 2 * more + accounts ≡ most_moves day + (messages_left day + 2 * entries_left day) = omega (arith, m, e, a) in
    same ∙ is ∙ (λ i. with_room (lines i) (moves i))
