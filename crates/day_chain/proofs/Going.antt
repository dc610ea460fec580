-- From day to day: what is kept and what was written.
use Rattle.std.proofs.Common.{◌≡◌, ◌∙◌, ℕ, zero, suc, ◌+◌, ◌-◌, ◌*◌, ◌<◌, ◌≤◌, inl, inr, Bool, true, false, List, [], ◌∷◌, ◌++◌, length, drop, take, map, Some, Result, Ok, Err, refl, sym, ap, subst, arith, length-drop, append-nil, append_assoc}
use Rattle.std.specs.Prelude.{IfOk, is_err}
use Rattle.std.proofs.lemmas.Bool.{false≢true}
use Rattle.std.proofs.lemmas.List.{drop-drop, take_rest}
use Rattle.std.specs.Prelude.{if◌then◌else◌}
use Rattle.std.specs.List.{range_with_len}
use Rattle.outside_io.specs.Pieces.{HasPut, IsCutShort, SinkState}
use Rattle.outside_io.specs.Calls.{Puts}
use Rattle.outside_io.proofs.PutLemmas.{cut_front, has_put_none, has_put_then}
use Rattle.batch_records.specs.DayRecord.{Day}
use Rattle.batch_records.specs.DayPart.{is_line_ends}
use Rattle.commit_journal.specs.Line.{History}
use Rattle.commit_journal.specs.Histories.{moves_of}
use Rattle.machine.specs.Orders.Order.{plain}
use Rattle.day_chain.specs.declared.days.Prepared.{Prepared}
use Rattle.day_chain.specs.declared.joining.DayBefore.{DayBefore}
use Rattle.day_chain.specs.declared.ledger.Ledger.{Ledger}
use Rattle.day_chain.specs.declared.ledger.YearSums.{YearSums}
use Rattle.day_chain.specs.declared.sums.Sums.{Sums}
use Rattle.program_answers.specs.Answers.{Answer}
use Rattle.program_answers.specs.Giving.{Says}
use Rattle.day_chain.specs.Answers.{answer_from, answer_of, behind, longest_input, next_day, IsFrontOf, TellsAll, whole}
use Rattle.day_chain.specs.Chains.{GoesOn, IsFront}
use Rattle.day_chain.specs.ChainTexts.{part_text, parts_text}
use Rattle.day_chain.specs.DayEnds.{set_aside}
use Rattle.day_chain.specs.Ledgers.{IsLeftBy, IsOpened, most_amounts, most_days, Stands, StandsBehind, sums_before}
use Rattle.day_chain.specs.Statements.{sums_of}
use Rattle.day_chain.specs.Steps.{IsPrepared, TakesNext, TellsDay}
use Rattle.day_chain.specs.Summing.{asides_to, HaveRoom, with_moves}
use Rattle.day_chain.proofs.Answering.{behind_more, from_err, from_ok, front_more, front_none, next_is, short_answer, shorter, then_from}
use Rattle.day_chain.proofs.Moving.{less_rooms}
use Rattle.day_chain.proofs.SumFacts.{added, day_added, sums_first, sums_later}
use Rattle.day_chain.proofs.Changes.{map-from}

-- ---- a day is added

with_it : (day : Day) (days : List Day) (n : ℕ) → map (λ a. added day a (sums_before day days a)) (range_with_len 1 n) ≡ map (sums_of (day ∷ days)) (range_with_len 1 n)
with_it day [] n = map-from (λ a. added day a (sums_before day [] a)) (sums_of (day ∷ [])) 1 n (λ a low high. sums_first day a)
with_it day (last ∷ days) n = map-from (λ a. added day a (sums_before day (last ∷ days) a)) (sums_of (day ∷ last ∷ days)) 1 n (λ a low high. sums_later day last days a)

pub room_of_day : (told : List Day) (xs : List Sums) → length told < most_days → HaveRoom (most_amounts * (most_days - length told)) xs → HaveRoom most_amounts xs
room_of_day told xs few h = less_rooms (most_amounts * (most_days - length told) - most_amounts) most_amounts xs (subst (λ n. HaveRoom n xs) (omega arith) h)

pub stood : (day : Day) (told : List Day) (book later : YearSums) (books : List YearSums) (before : DayBefore) (J : History) → IsOpened day told book books → length told < most_days → J ≡ plain day → later.year ≡ book.year →
    later.sums.items ≡ asides_to (set_aside day) (length day.accounts) (with_moves (moves_of J) book.sums.items) → ((n : ℕ) → HaveRoom (n + most_amounts) book.sums.items → HaveRoom n later.sums.items) → IsLeftBy day before → StandsBehind day told (record { before = before; year = later }) books
stood day told book later books before J opened few e year sums spends left =
    let k = most_amounts * (most_days - length (day ∷ told)) in
    let room : HaveRoom k later.sums.items = spends k (subst (λ n. HaveRoom n book.sums.items) (omega arith) opened.room) in
    record {
      days = day ∷ opened.days;
      years = opened.years;
      are = opened.are;
      left = left;
      latest = record {
        year = year ∙ opened.year;
        sums = sums ∙ ap (λ xs. asides_to (set_aside day) (length day.accounts) (with_moves (moves_of J) xs)) opened.sums ∙ day_added day J (sums_before day opened.days) (length day.accounts) e ∙ with_it day opened.days (length day.accounts);
        room = less_rooms k 0 later.sums.items (subst (λ n. HaveRoom n later.sums.items) (omega arith) room);
      };
      earlier = opened.earlier;
      room = room;
    }

-- what is kept after a day that is prepared
pub kept : (told : List Day) (day : Day) (prepared : Prepared) (later : YearSums) (before : DayBefore) → IsPrepared told day prepared → prepared.count < longest_input → later.year ≡ prepared.year.year →
    later.sums.items ≡ asides_to (set_aside prepared.settled.setting.day) (length prepared.settled.setting.day.accounts) (with_moves (moves_of prepared.settled.journal.history) prepared.year.sums.items) →
    ((n : ℕ) → HaveRoom (n + most_amounts) prepared.year.sums.items → HaveRoom n later.sums.items) → IsLeftBy prepared.settled.setting.day before → Stands (day ∷ told) (record { count = prepared.count + 1; years = prepared.years; last = Some (record { before = before; year = later }) })
kept told day prepared later before is few year sums spends left =
    let count = is.count in
    record {
      count = omega (arith, count);
      at = stood day told prepared.year later prepared.years.items before prepared.settled.journal.history is.opened (omega (arith, few, count)) is.lines year
          (sums ∙ (λ i. asides_to (set_aside (is.same i)) (length (is.same i).accounts) (with_moves (moves_of prepared.settled.journal.history) prepared.year.sums.items))) spends (subst (λ d. IsLeftBy d before) is.same left);
    }

-- ---- what was written

-- a day was written, or a front of it
pub whole_day : {T E : Type 0} (old new : SinkState) (day same : Day) (result : Result T E) → day ≡ same → is_err result ≡ false → Puts old new (part_text day) result → HasPut old new (part_text same)
whole_day old new day same (Ok value) e h put = subst (λ (d : Day). HasPut old new (part_text d)) e put.ok
whole_day old new day same (Err fault) e h put = absurd (false≢true (sym h))

pub cut_day : {T E : Type 0} (old new : SinkState) (day same : Day) (result : Result T E) → day ≡ same → is_err result ≡ true → Puts old new (part_text day) result → IsCutShort old new (part_text same)
cut_day old new day same (Ok value) e h put = absurd (false≢true h)
cut_day old new day same (Err fault) e h put = subst (λ (d : Day). IsCutShort old new (part_text d)) e put.err

-- ---- the next day

pub taken : (told : List Day) (bytes : List ℕ) (day : Day) (n : ℕ) (old new : SinkState) (ledger : Ledger) → next_day told bytes ≡ Ok (day, n) → n ≤ length bytes → TellsDay told day old new (Ok ledger) → TakesNext told bytes old new (Ok (ledger, n))
taken told bytes day n old new ledger e within tells = (day, e, within, tells.0, tells.1)

pub length_within : (taken : Result (Ledger × ℕ) ℕ) (n m : ℕ) → IfOk taken (λ t. t.1 ≡ n) → n ≤ m → IfOk taken (λ t. t.1 ≤ m)
length_within (Ok t) n m is within = omega (arith, is, within)
length_within (Err status) n m is within = tt

pub not_taken : (told : List Day) (bytes : List ℕ) (day : Day) (n : ℕ) (old new : SinkState) (status : ℕ) → next_day told bytes ≡ Ok (day, n) → TellsDay told day old new (Err status) → TakesNext told bytes old new (Err status)
not_taken told bytes day n old new status e (inl short) = inl short
not_taken told bytes day n old new status e (inr cut) = inr (inr (day, n, e, cut.0, cut.1))

-- ---- the way along a chain

-- After some days the answer is what they are, and then what the rest is answered. Each day took some bytes.
pub record Way (bytes : List ℕ) (at : ℕ) (ledger : Ledger) (old now : SinkState) : Type 0 where
  pub told : List Day
  pub stands : Stands told ledger
  pub front : IsFront bytes told (drop at bytes)
  pub goes_on : GoesOn told (drop at bytes)
  pub put : HasPut old now (parts_text told)
  pub steps : ℕ
  pub left : length (drop at bytes) < steps
  pub same : answer_from (suc (length bytes)) [] bytes ≡ behind (parts_text told) (answer_from steps told (drop at bytes))
  pub within : at ≤ length bytes
  pub few : length told ≤ at

pub way_starts : (bytes : List ℕ) (ledger : Ledger) (old : SinkState) → Stands [] ledger → Way bytes 0 ledger old old
unfolding parts_text
way_starts bytes ledger old stands = record {
  told = [];
  stands = stands;
  front = front_none bytes;
  goes_on = inl refl;
  put = has_put_none old;
  steps = suc (length bytes);
  left = omega arith;
  same = refl;
  within = omega arith;
  few = omega arith;
}

-- what is known after one more day, before it is asked whether more follows
pub record Stop (bytes : List ℕ) (at : ℕ) (ledger : Ledger) (old now : SinkState) : Type 0 where
  pub told : List Day
  pub stands : Stands told ledger
  pub front : IsFront bytes told (drop at bytes)
  pub some : told ≡ [] → ⊥
  pub put : HasPut old now (parts_text told)
  pub steps : ℕ
  pub left : is_line_ends (drop at bytes) ≡ false → length (drop at bytes) < steps
  pub same : answer_from (suc (length bytes)) [] bytes ≡ behind (parts_text told) (then_from steps told (drop at bytes))
  pub within : at ≤ length bytes
  pub few : is_line_ends (drop at bytes) ≡ false → length told ≤ at

put_parts : (old mid new : SinkState) (told : List Day) (day : Day) → HasPut old mid (parts_text told) → HasPut mid new (part_text day) → HasPut old new (parts_text (day ∷ told))
unfolding parts_text
put_parts old mid new told day so_far put = has_put_then old mid new (parts_text told) (part_text day) so_far put

step_at : (bytes : List ℕ) (at : ℕ) (told : List Day) (day : Day) (n steps : ℕ) → length (drop at bytes) < steps → next_day told (drop at bytes) ≡ Ok (day, n) → answer_from (suc (length bytes)) [] bytes ≡ behind (parts_text told) (answer_from steps told (drop at bytes)) →
    (k : ℕ) × (steps ≡ suc k) × (answer_from (suc (length bytes)) [] bytes ≡ behind (parts_text (day ∷ told)) (then_from k (day ∷ told) (drop (at + n) bytes)))
step_at bytes at told day n zero left e same = absurd (omega arith)
step_at bytes at told day n (suc k) left e same = (
  k,
  refl,
  same ∙ ap (behind (parts_text told)) (from_ok k told (drop at bytes) day n e) ∙ behind_more told day (then_from k (day ∷ told) (drop n (drop at bytes)))
      ∙ ap (λ rest. behind (parts_text (day ∷ told)) (then_from k (day ∷ told) rest)) (drop-drop n at bytes),
)

pub way_on : (bytes : List ℕ) (at n : ℕ) (ledger more : Ledger) (old mid new : SinkState) → Way bytes at ledger old mid → ((told : List Day) → Stands told ledger → TakesNext told (drop at bytes) mid new (Ok (more, n))) → Stop bytes (at + n) more old new
way_on bytes at n ledger more old mid new way takes =
    let t = takes way.told way.stands in
    let day = t.0 in
    let read = next_is way.told (drop at bytes) (day, n) t.1 in
    let step = step_at bytes at way.told day n way.steps way.left t.1 way.same in
    let rest : drop n (drop at bytes) ≡ drop (at + n) bytes = drop-drop n at bytes in
    let long = length-drop at bytes in
    record {
      told = day ∷ way.told;
      stands = t.4;
      front = subst (IsFront bytes (day ∷ way.told)) rest (front_more bytes way.told (drop at bytes) day n way.front way.goes_on read.0 read.1);
      some = λ none. cc;
      put = put_parts old mid new way.told day way.put t.3;
      steps = step.0;
      left = λ h. let l = shorter (drop at bytes) day n read.0 (ap is_line_ends rest ∙ h) in let w = way.left in let s = step.1 in let r = ap length rest in omega arith;
      same = step.2;
      within = let w = t.2 in let within = way.within in omega arith;
      few = λ h. let l = shorter (drop at bytes) day n read.0 (ap is_line_ends rest ∙ h) in let f = way.few in let d = length-drop n (drop at bytes) in omega arith;
    }

-- a part of a slice from a place on is the rest from there
pub at_rest : (bytes : List ℕ) (at : ℕ) (ledger : Ledger) (mid new : SinkState) (result : Result (Ledger × ℕ) ℕ) → ((told : List Day) → Stands told ledger → TakesNext told (take (length bytes - at) (drop at bytes)) mid new result) → (told : List Day) → Stands told ledger → TakesNext told (drop at bytes) mid new result
at_rest bytes at ledger mid new result takes = λ told stands. subst (λ rest. TakesNext told rest mid new result) (take_rest bytes at) (takes told stands)

pub blank_rest : (bytes : List ℕ) (at : ℕ) (b c : Bool) → b ≡ is_line_ends (take (length bytes - at) (drop at bytes)) → b ≡ c → is_line_ends (drop at bytes) ≡ c
blank_rest bytes at b c is e = sym (is ∙ ap is_line_ends (take_rest bytes at)) ∙ e

-- each day takes some bytes, where more follows
pub fewer : (bytes : List ℕ) (at n : ℕ) (ledger more : Ledger) (old mid new : SinkState) → Way bytes at ledger old mid → ((told : List Day) → Stands told ledger → TakesNext told (drop at bytes) mid new (Ok (more, n))) → is_line_ends (drop (at + n) bytes) ≡ false → length bytes - (at + n) < length bytes - at
fewer bytes at n ledger more old mid new way takes open' =
    let t = takes way.told way.stands in
    let read = next_is way.told (drop at bytes) (t.0, n) t.1 in
    let rest : drop n (drop at bytes) ≡ drop (at + n) bytes = drop-drop n at bytes in
    let less = shorter (drop at bytes) t.0 n read.0 (ap is_line_ends rest ∙ open') in
    let same = ap length rest in
    let long = length-drop at bytes in
    let longer = length-drop (at + n) bytes in
    omega (arith, less, same, long, longer)

pub way_again : (bytes : List ℕ) (at : ℕ) (ledger : Ledger) (old now : SinkState) → Stop bytes at ledger old now → is_line_ends (drop at bytes) ≡ false → Way bytes at ledger old now
way_again bytes at ledger old now stop more = record {
  told = stop.told;
  stands = stop.stands;
  front = stop.front;
  goes_on = inr more;
  put = stop.put;
  steps = stop.steps;
  left = stop.left more;
  same = stop.same ∙ ap (λ b. behind (parts_text stop.told) (if b then whole stop.told else answer_from stop.steps stop.told (drop at bytes))) more;
  within = stop.within;
  few = stop.few more;
}

-- so there is room to count one day more
some_left : (bytes : List ℕ) → is_line_ends bytes ≡ false → 0 < length bytes
some_left [] h = absurd (false≢true (sym h))
some_left (c ∷ bytes) h = omega arith

pub few_so_far : (bytes : List ℕ) (at : ℕ) (ledger : Ledger) (old now : SinkState) → length bytes ≤ longest_input → Way bytes at ledger old now → ledger.count < longest_input
few_so_far bytes at ledger old now short way = go way.goes_on
  where
    go : GoesOn way.told (drop at bytes) → ledger.count < longest_input
    go (inl none) = let c = way.stands.count in let z : length way.told ≡ 0 = ap length none in omega arith
    go (inr more) = let c = way.stands.count in let f = way.few in let s = some_left (drop at bytes) more in let d = length-drop at bytes in omega arith

-- ---- what is answered

cut_behind : (old mid new : SinkState) (text more rest all : List ℕ) → text ++ (more ++ rest) ≡ all → HasPut old mid text → IsCutShort mid new more → IsCutShort old new all
cut_behind old mid new text more rest all same so_far cut = subst (IsCutShort old new) same (cut_front old mid new text more rest so_far cut)

says_behind : (old mid new : SinkState) (text : List ℕ) (answer : Answer) (status : ℕ) → HasPut old mid text → Says mid new answer status → Says old new (behind text answer) status
says_behind old mid new text answer status so_far (inl said) = inl (said.0, has_put_then old mid new text answer.text so_far said.1)
says_behind old mid new text answer status so_far (inr cut) = inr (cut.0, cut_behind old mid new text answer.text [] (text ++ answer.text) (ap (λ (rest : List ℕ). text ++ rest) (append-nil answer.text)) so_far cut.1)

pub ended : (bytes : List ℕ) (at : ℕ) (ledger : Ledger) (old mid new : SinkState) (status : ℕ) → length bytes ≤ longest_input → Stop bytes at ledger old mid → is_line_ends (drop at bytes) ≡ true → ((told : List Day) → Stands told ledger → Says mid new (whole told) status) → TellsAll bytes old new status
ended bytes at ledger old mid new status short stop over says =
    let is : answer_of bytes ≡ behind (parts_text stop.told) (whole stop.told) =
    short_answer bytes short ∙ stop.same ∙ ap (λ b. behind (parts_text stop.told) (if b then whole stop.told else answer_from stop.steps stop.told (drop at bytes))) over in
    inr (subst (λ (a : Answer). Says old new a status) (sym is) (says_behind old mid new (parts_text stop.told) (whole stop.told) status stop.put (says stop.told stop.stands)))

err_at : (bytes : List ℕ) (at : ℕ) (told : List Day) (answer : Answer) (steps : ℕ) → length (drop at bytes) < steps → next_day told (drop at bytes) ≡ Err answer → answer_from steps told (drop at bytes) ≡ answer
err_at bytes at told answer zero left e = absurd (omega arith)
err_at bytes at told answer (suc k) left e = from_err k told (drop at bytes) answer e

regroup : (told : List Day) (day : Day) (rest : List ℕ) → parts_text told ++ (part_text day ++ rest) ≡ parts_text (day ∷ told) ++ rest
unfolding parts_text
regroup told day rest = sym (append_assoc (parts_text told) (part_text day) rest)

-- the days so far are told at the front of the answer
begins : (bytes : List ℕ) (at : ℕ) (ledger : Ledger) (old now : SinkState) → length bytes ≤ longest_input → (way : Way bytes at ledger old now) → IsFrontOf way.told (answer_of bytes)
begins bytes at ledger old now short way =
    ((answer_from way.steps way.told (drop at bytes)).text, sym (ap (λ (a : Answer). a.text) (short_answer bytes short ∙ way.same)))

pub stopped : (bytes : List ℕ) (at : ℕ) (ledger : Ledger) (old mid new : SinkState) (status : ℕ) → length bytes ≤ longest_input → Way bytes at ledger old mid → ((told : List Day) → Stands told ledger → TakesNext told (drop at bytes) mid new (Err status)) → TellsAll bytes old new status
stopped bytes at ledger old mid new status short way takes = go (takes way.told way.stands)
  where
    go : TakesNext way.told (drop at bytes) mid new (Err status) → TellsAll bytes old new status
    go (inl lack) = inl (record {
      short = lack.0;
      refused = lack.2;
      told = way.told;
      rest = drop at bytes;
      front = way.front;
      begun = begins bytes at ledger old mid short way;
      put = subst (λ (s : SinkState). HasPut old s (parts_text way.told)) (sym lack.1) way.put;
    })
    go (inr (inl (answer, e, says))) =
        let is : answer_of bytes ≡ behind (parts_text way.told) answer = short_answer bytes short ∙ way.same ∙ ap (behind (parts_text way.told)) (err_at bytes at way.told answer way.steps way.left e) in
        inr (subst (λ (a : Answer). Says old new a status) (sym is) (says_behind old mid new (parts_text way.told) answer status way.put says))
    go (inr (inr (day, n, e, five, cut))) =
        let step = step_at bytes at way.told day n way.steps way.left e way.same in
        let is = short_answer bytes short ∙ step.2 in
        inr (inr (five, cut_behind old mid new (parts_text way.told) (part_text day) (then_from step.0 (day ∷ way.told) (drop (at + n) bytes)).text (answer_of bytes).text (regroup way.told day _ ∙ sym (ap (λ (a : Answer). a.text) is)) way.put cut))
