-- What a disk in memory is enough for, from step to step of a run.
use Rattle.std.proofs.Common.{◌≡◌, ◌⊎◌, inl, inr, ℕ, zero, suc, ◌+◌, ◌*◌, ◌-◌, ◌/◌, ◌<◌, ◌≤◌, Bool, true, false, List, [], ◌∷◌, length, Result, Ok, Err, refl, sym, ap, subst, ◌∙◌, arith}
use Rattle.std.specs.Prelude.{min, nat_lt, if◌then◌else◌}
use Rattle.std.proofs.lemmas.Bool.{false≢true, le-ltb, lt-ltb, ltb-false, ltb-true}
use Rattle.outside_io.specs.Causes.{one_more}
use Rattle.outside_io.specs.Pieces.{SinkState}
use Rattle.batch_records.specs.DayRecord.{Day}
use Rattle.batch_records.specs.Sound.{is_sound}
use Rattle.commit_journal.specs.Line.{History}
use Rattle.machine.specs.Orders.Bounds.{most_lines}
use Rattle.machine.specs.Legal.{IsLegal}
use Rattle.settlement_laws.proofs.DayEnd.LineBound.{length-bound}
use Rattle.settlement_laws.proofs.DayEnd.MoveBound.{moved-bound}
use Rattle.settlement_laws.proofs.Base.SoundParts.{few_lines}
use Rattle.refused_memory.specs.declared.memory.Memory.{Memory}
use Rattle.disk_model.specs.Cut.{IsCut, once}
use Rattle.disk_model.specs.Lasting.{StillLasts}
use Rattle.disk_model.specs.Runs.{OnlyLooks}
use Rattle.disk_model.specs.Memory.{CutAfter, LastsFor, MemoryDisk, bytes_after, cut_for_less, disk_image, disk_seen, disk_since, lasts_for_less, new_disk, read_is_image}
use Rattle.disk_model.proofs.CutFacts.{cut_as, cut_none}
use Rattle.durable_day.specs.declared.words.Request.TheVariants as requests
use Rattle.durable_day.specs.declared.words.Request.{Request}
use Rattle.durable_day.specs.declared.open_fault.OpenFault.{OpenFault}
use Rattle.durable_day.specs.declared.open_fault.OpenFault.TheVariants as open_faults
use Rattle.program_answers.specs.Answers.{Answer}
use Rattle.program_answers.specs.Giving.{Says, SaysOneIfRoom}
use Rattle.durable_day.specs.Answers.{AnswersOver, IsForeignTo, IsWhole, NoneFails, SaysOne, StopsIt, calls_of_run, calls_to_open, foreign_text, journal_in, lines_to_add, making_time, seen_after, seen_at_end, shown_text, store_of}
use Rattle.durable_day.specs.Bytes.{StandsFor, front, is_closed}
use Rattle.durable_day.specs.Onward.{HasGoneOn, StoppedOnTheWay, gone_by, gone_on, missing, missing_bytes}
use Rattle.durable_day.specs.Running.{IsAtItsEnd, IsFresh, IsMadeOf, IsOnTheWay, IsReady, RunsOut, SaysOneOrBack, most_bytes, status_of}
use Rattle.durable_day.specs.Pieces.{room_size}
use Rattle.durable_day.specs.Stores.{CutsOpening, IsStore, OnStore, Opens, StandsForNone, disk_of, opening_time}
use Rattle.durable_day.proofs.AppendFacts.{stored_short}
use Rattle.durable_day.proofs.GoneOn.{begins_same, grows-gone_on, on_the_way}
use Rattle.durable_day.proofs.ReadFacts.{three_at_most}
use Rattle.durable_day.proofs.ShownFacts.{once_later}
use Rattle.durable_day.proofs.StoreFacts.{closed_fronts_stand, closed_stops, fronts_are_found, one_journal_each, stops_here}

-- ---- how much the rest of a day asks for

pub few_missing : (day : Day) (J : History) → is_sound day ≡ true → IsLegal day J → missing day J ≤ most_lines day
few_missing day J sound legal = let bound = length-bound day sound (gone_on day J) ((grows-gone_on day J).legal legal) in omega (arith, bound)

pub few_bytes : (day : Day) (J : History) → is_sound day ≡ true → IsLegal day J → missing_bytes day J ≤ most_bytes day
few_bytes day J sound legal =
    let whole = (grows-gone_on day J).legal legal in
    let lines = length-bound day sound (gone_on day J) whole in
    let moves = moved-bound day sound (gone_on day J) whole in
    omega (arith, stored_short day sound (gone_on day J) whole, lines, moves, few_missing day J sound legal)

-- ---- how many calls pass

abbrev failures : MemoryDisk → ℕ
failures disk = disk.faults

abbrev clock_of : MemoryDisk → ℕ
clock_of disk = disk.clock

-- where a disk without faults was sure to last, none came
none_failed : (old new : MemoryDisk) (calls changes bytes : ℕ) → old.faults ≡ 0 → StillLasts LastsFor failures old new calls changes bytes → LastsFor old calls changes bytes → new.faults ≡ one_more old.faults → ⊥
none_failed old new calls changes bytes none still lasts counted =
    let same = (still.each 0 0 0 (lasts_for_less old calls changes bytes (calls + 0) (changes + 0) (bytes + 0) (omega arith) (omega arith) (omega arith) lasts)).1 in
    let one : one_more old.faults ≡ 1 = ap one_more none in
    absurd (omega (arith, none, same, counted, one))

-- so the calls weren't enough
too_few : (calls n : ℕ) → (n ≤ calls → ⊥) → calls < n
too_few calls n never = go (nat_lt calls n) refl
  where
    go : (b : Bool) → nat_lt calls n ≡ b → calls < n
    go true e = ltb-true calls n e
    go false e = absurd (never (ltb-false calls n e))

-- the calls were enough, or one of them failed
pub record AllPass (old new : MemoryDisk) (well : Bool) (calls c changes bytes : ℕ) (shows : ℕ → List ℕ) : Type 0 where
  pub enough : c ≤ calls
  pub well_is : well ≡ true
  pub cut : CutAfter new (calls - c) changes bytes
  pub seen : disk_seen new ≡ shows c

pub record OneFails (new : MemoryDisk) (well : Bool) (calls c : ℕ) (shows : ℕ → List ℕ) : Type 0 where
  pub few : calls < c
  pub well_is : well ≡ false
  pub seen : disk_seen new ≡ shows calls

pub pass_or_fail : (old new : MemoryDisk) (well : Bool) (calls c e b changes bytes : ℕ) (shows : ℕ → List ℕ) → IsCut disk_seen CutAfter old new well c e b shows → CutAfter old calls (e + changes) (b + bytes) → AllPass old new well calls c changes bytes shows ⊎ OneFails new well calls c shows
pass_or_fail old new well calls c e b changes bytes shows cut is = here (nat_lt calls c) refl
  where
    here : (t : Bool) → nat_lt calls c ≡ t → AllPass old new well calls c changes bytes shows ⊎ OneFails new well calls c shows
    here true h =
        let low = ltb-true calls c h in
        let done = cut.short calls changes bytes low is in
        inr (record { few = low; well_is = done.0; seen = done.1 })
    here false h =
        let low : c ≤ calls = ltb-false calls c h in
        let all : calls ≡ c + (calls - c) = omega (arith, low) in
        let done = cut.enough (calls - c) changes bytes (subst (λ (n : ℕ). CutAfter old n (e + changes) (b + bytes)) all is) in
        inl (record { enough = low; well_is = done.0; cut = done.1; seen = done.2 })

-- no bytes are written meanwhile
and_none : (disk : MemoryDisk) (calls changes bytes : ℕ) → CutAfter disk calls changes bytes → CutAfter disk calls changes (0 + bytes)
and_none disk calls changes bytes is = cut_for_less disk calls changes bytes changes (0 + bytes) (omega arith) (omega arith) is

-- what went well had calls enough
pub all_pass : (old new : MemoryDisk) (calls c e b changes bytes : ℕ) (shows : ℕ → List ℕ) → IsCut disk_seen CutAfter old new true c e b shows → CutAfter old calls (e + changes) (b + bytes) → AllPass old new true calls c changes bytes shows
all_pass old new calls c e b changes bytes shows cut is = here (pass_or_fail old new true calls c e b changes bytes shows cut is)
  where
    here : AllPass old new true calls c changes bytes shows ⊎ OneFails new true calls c shows → AllPass old new true calls c changes bytes shows
    here (inl all) = all
    here (inr one) = absurd (false≢true (sym one.well_is))

-- and what didn't hadn't
pub one_fails : (old new : MemoryDisk) (calls c e b changes bytes : ℕ) (shows : ℕ → List ℕ) → IsCut disk_seen CutAfter old new false c e b shows → CutAfter old calls (e + changes) (b + bytes) → OneFails new false calls c shows
one_fails old new calls c e b changes bytes shows cut is = here (pass_or_fail old new false calls c e b changes bytes shows cut is)
  where
    here : AllPass old new false calls c changes bytes shows ⊎ OneFails new false calls c shows → OneFails new false calls c shows
    here (inl all) = absurd (false≢true all.well_is)
    here (inr one) = one

-- ---- a new disk

pub fresh_disk : (rest : List ℕ) (room records passes : ℕ) (disk : MemoryDisk) → disk ≡ new_disk rest room records passes → IsFresh passes records room rest disk
unfolding bytes_after
fresh_disk rest room records passes disk is =
    subst (IsFresh passes records room rest) (sym is) (record { seen = refl; none = refl; cut = record { time = omega arith; records = omega arith; room = omega arith } })

-- ---- a new store

nothing_taken : (bytes : List ℕ) (n : ℕ) → n ≡ length bytes → (n ≡ 0 → ⊥) → making_time bytes ≡ 0
nothing_taken [] n count some = absurd (some count)
nothing_taken (byte ∷ bytes) n count some = refl

always : (k : ℕ) (bytes new : List ℕ) → bytes ≡ new → bytes ≡ once bytes new k
always zero bytes new same = refl
always (suc k) bytes new same = same

pub made_nothing : (disk : MemoryDisk) → disk_seen disk ≡ store_of (disk_seen disk) → (n : ℕ) → n ≡ length (disk_seen disk) → (n ≡ 0 → ⊥) → IsCut disk_seen CutAfter disk disk true (making_time (disk_seen disk)) 2 1 (once (disk_seen disk) (store_of (disk_seen disk)))
made_nothing disk same n count some =
    subst (λ (m : ℕ). IsCut disk_seen CutAfter disk disk true m 2 1 (once (disk_seen disk) (store_of (disk_seen disk)))) (sym (nothing_taken (disk_seen disk) n count some))
    (cut_as disk_seen CutAfter cut_for_less disk disk true 0 0 0 2 1 (λ (k : ℕ). disk_seen disk) (once (disk_seen disk) (store_of (disk_seen disk))) (omega arith) (omega arith) (λ k low. always k (disk_seen disk) (store_of (disk_seen disk)) same) (cut_none disk_seen CutAfter cut_for_less disk))

pub made_new : (disk new : MemoryDisk) (well : Bool) → disk_seen disk ≡ [] → IsCut disk_seen CutAfter disk new well 2 2 1 (once (disk_seen disk) (0 ∷ [])) → IsCut disk_seen CutAfter disk new well (making_time (disk_seen disk)) 2 1 (once (disk_seen disk) (store_of (disk_seen disk)))
made_new disk new well none cut =
    let taken : 2 ≡ making_time (disk_seen disk) = sym (ap making_time none) in
    let store : 0 ∷ [] ≡ store_of (disk_seen disk) = sym (ap store_of none) in
    subst (λ (m : ℕ). IsCut disk_seen CutAfter disk new well m 2 1 (once (disk_seen disk) (store_of (disk_seen disk)))) taken
    (subst (λ (bytes : List ℕ). IsCut disk_seen CutAfter disk new well 2 2 1 (once (disk_seen disk) bytes)) store cut)

pub made_of : (calls changes bytes : ℕ) (rest : List ℕ) (old new : MemoryDisk) → IsFresh calls (2 + changes) (1 + bytes) rest old → disk_seen new ≡ store_of (disk_seen old) → new.faults ≡ old.faults → IsCut disk_seen CutAfter old new true (making_time (disk_seen old)) 2 1 (once (disk_seen old) (store_of (disk_seen old))) → IsMadeOf calls changes bytes rest new
made_of calls changes bytes rest old new fresh seen kept cut =
    let all = all_pass old new calls (making_time (disk_seen old)) 2 1 changes bytes _ cut fresh.cut in
    let taken : making_time (disk_seen old) ≡ making_time rest = ap making_time fresh.seen in
    record {
      seen = seen ∙ ap store_of fresh.seen;
      none = kept ∙ fresh.none;
      enough = subst (λ (n : ℕ). n ≤ calls) taken all.enough;
      cut = subst (λ (n : ℕ). CutAfter new (calls - n) changes bytes) taken all.cut;
    }

-- where the calls are as many as can be, one is made
pub makes_it : (changes bytes : ℕ) (rest : List ℕ) (old new : MemoryDisk) → IsFresh 4294967295 (2 + changes) (1 + bytes) rest old → IsCut disk_seen CutAfter old new false (making_time (disk_seen old)) 2 1 (once (disk_seen old) (store_of (disk_seen old))) → ⊥
makes_it changes bytes rest old new fresh cut =
    let one = one_fails old new 4294967295 (making_time (disk_seen old)) 2 1 changes bytes _ cut fresh.cut in
    absurd (omega (arith, one.few, two_at_most (disk_seen old)))
  where
    two_at_most : (xs : List ℕ) → making_time xs ≤ 2
    two_at_most [] = omega arith
    two_at_most (x ∷ xs) = omega arith

-- ---- what stands on a store that wasn't opened

shut_zero : (n : ℕ) → n ≡ 0 → n ≡ 1 → ⊥
shut_zero n z one = absurd (omega (arith, z, one))

pub new_front : (day : Day) → front day (0 ∷ []) ≡ ([], 0 ∷ [])
new_front day = stops_here day [] (0 ∷ []) (closed_stops day [] 0 [] (shut_zero 0 refl))

pub new_whole : (day : Day) → IsWhole day []
new_whole day = ap (λ (f : History × List ℕ). is_closed f.1) (new_front day)

-- what is seen before the store is open
early : (calls : ℕ) (day : Day) (rest : List ℕ) → calls < calls_to_open day rest → seen_at_end calls day rest ≡ once rest (store_of rest) calls
early calls day rest few =
    let all : min calls (calls_of_run day rest) ≡ calls = omega (arith, few) in
    ap (λ (n : ℕ). seen_after n day rest) all
    ∙ ap (λ (b : Bool). if b then once rest (store_of rest) calls else gone_by day (journal_in day rest) (store_of rest) (calls - calls_to_open day rest)) (lt-ltb calls (calls_to_open day rest) few)

-- the store as it came, or the one that was made
made_once : (calls : ℕ) (rest : List ℕ) → making_time rest ≤ calls → once rest (store_of rest) calls ≡ store_of rest
made_once calls [] low = once_later calls [] (0 ∷ []) (omega (arith, low))
made_once calls (byte ∷ bytes) low = sym (always calls (byte ∷ bytes) (byte ∷ bytes) refl)

-- the bytes of the store as it came, or of the new one
not_opened : (day : Day) → is_sound day ≡ true → (rest : List ℕ) (calls : ℕ) (text : List ℕ) → text ≡ store_of rest → text ≡ once rest (store_of rest) calls → calls < calls_to_open day rest → StopsIt day rest calls text
not_opened day sound [] calls text is shows few =
    let J : History = journal_in day [] in
    let legal = (fronts_are_found day (0 ∷ []) sound).legal in
    let stands : StandsFor J text = subst (StandsFor J) (sym is) (closed_fronts_stand day (0 ∷ []) sound (new_whole day)) in
    record {
      few = omega (arith, few);
      shows = shows ∙ sym (early calls day [] few);
      left = inr (new_whole day, on_the_way day J J ((calls - calls_to_open day []) / 4) text legal (begins_same J) refl (omega (arith, few)) stands);
    }
not_opened day sound (byte ∷ bytes) calls text is shows few = record { few = omega (arith, few); shows = shows ∙ sym (early calls day (byte ∷ bytes) few); left = inl (is, few) }

-- those of a disk that was to be made a new store
once_of_none : (calls : ℕ) → calls < 2 → (once [] (0 ∷ []) calls ≡ []) ⊎ (once [] (0 ∷ []) calls ≡ 0 ∷ [])
once_of_none zero few = inl refl
once_of_none (suc k) few = inr refl

unmade : (day : Day) → is_sound day ≡ true → (rest : List ℕ) (calls : ℕ) (text : List ℕ) → calls < making_time rest → text ≡ once rest (store_of rest) calls → StopsIt day rest calls text
unmade day sound [] calls text few shows = here (once_of_none calls few)
  where
    less : calls < calls_to_open day []
    less = omega (arith, few)

    here : (once [] (0 ∷ []) calls ≡ []) ⊎ (once [] (0 ∷ []) calls ≡ 0 ∷ []) → StopsIt day [] calls text
    here (inl none) = record { few = omega (arith, few); shows = shows ∙ sym (early calls day [] less); left = inl (shows ∙ none, less) }
    here (inr one) = not_opened day sound [] calls text (shows ∙ one) shows less
unmade day sound (byte ∷ bytes) calls text few shows = absurd (omega (arith, few))

pub not_made : (day : Day) → is_sound day ≡ true → (calls changes bytes : ℕ) (rest : List ℕ) (old new : MemoryDisk) → IsFresh calls (2 + changes) (1 + bytes) rest old → IsCut disk_seen CutAfter old new false (making_time (disk_seen old)) 2 1 (once (disk_seen old) (store_of (disk_seen old))) → StopsIt day rest calls (disk_seen new)
not_made day sound calls changes bytes rest old new fresh cut =
    let one = one_fails old new calls (making_time (disk_seen old)) 2 1 changes bytes _ cut fresh.cut in
    unmade day sound rest calls (disk_seen new) (subst (λ (xs : List ℕ). calls < making_time xs) fresh.seen one.few) (one.seen ∙ ap (λ (xs : List ℕ). once xs (store_of xs) calls) fresh.seen)

-- ---- an opening

pub open_ready : (calls : ℕ) (day : Day) (rest : List ℕ) (disk : MemoryDisk) (store : OnStore MemoryDisk) → IsMadeOf calls (1 + 4 * most_lines day) (most_bytes day) rest disk → IsStore disk_seen disk_image store → store.day ≡ day → store.history ≡ (front day (disk_seen disk)).0 →
    store.disk.faults ≡ disk.faults → IsCut disk_seen CutAfter disk store.disk true (opening_time day (disk_seen disk)) 1 0 (λ (k : ℕ). disk_seen disk) → (calls_to_open day rest ≤ calls) × IsReady (calls - calls_to_open day rest) store.day store.history store.disk
open_ready calls day rest disk store made is same lines kept cut =
    let sound : is_sound day ≡ true = subst (λ (d : Day). is_sound d ≡ true) same is.sound in
    let legal : IsLegal day store.history = subst (λ (d : Day). IsLegal d store.history) same is.legal in
    let count : missing store.day store.history ≡ missing day store.history = ap (λ (d : Day). missing d store.history) same in
    let bytes : missing_bytes store.day store.history ≡ missing_bytes day store.history = ap (λ (d : Day). missing_bytes d store.history) same in
    let all = all_pass disk store.disk (calls - making_time rest) (opening_time day (disk_seen disk)) 1 0 (4 * most_lines day) (most_bytes day) _ cut (and_none _ _ _ _ made.cut) in
    let taken : opening_time day (disk_seen disk) ≡ opening_time day (store_of rest) = ap (opening_time day) made.seen in
    let left : calls - making_time rest - opening_time day (disk_seen disk) ≡ calls - calls_to_open day rest = omega (arith, taken, made.enough, all.enough) in (
      omega (arith, taken, made.enough, all.enough),
      record {
        none = kept ∙ made.none;
        cut = subst (λ (n : ℕ). CutAfter store.disk n (4 * missing store.day store.history) (missing_bytes store.day store.history)) left
            (cut_for_less store.disk (calls - making_time rest - opening_time day (disk_seen disk)) (4 * most_lines day) (most_bytes day) (4 * missing store.day store.history) (missing_bytes store.day store.history) (omega (arith, count, few_missing day store.history sound legal)) (omega (arith, bytes, few_bytes day store.history sound legal)) all.cut);
      },
    )

-- where it is shown, it doesn't fail
always_opens : (day : Day) → is_sound day ≡ true → (rest : List ℕ) (disk later : MemoryDisk) → IsMadeOf 4294967295 1 0 rest disk → IsCut disk_seen CutAfter disk later false (opening_time day (disk_seen disk)) 1 0 (λ (k : ℕ). disk_seen disk) → ⊥
always_opens day sound rest disk later made cut =
    let one = one_fails disk later (4294967295 - making_time rest) (opening_time day (disk_seen disk)) 1 0 0 0 _ cut made.cut in
    let legal = (fronts_are_found day (disk_seen disk) sound).legal in
    let lines = length-bound day sound (front day (disk_seen disk)).0 legal in
    absurd (omega (arith, one.few, two_at_most rest, three_at_most room_size (front day (disk_seen disk)).1, lines, few_lines day sound))
  where
    two_at_most : (xs : List ℕ) → making_time xs ≤ 2
    two_at_most [] = omega arith
    two_at_most (x ∷ xs) = omega arith

-- the bytes stand for none
pub foreign_to : (day : Day) → is_sound day ≡ true → (rest : List ℕ) (seen : List ℕ) (place : ℕ) → seen ≡ store_of rest → StandsForNone day seen → place ≡ suc (length (front day seen).0) → IsForeignTo day rest (foreign_text place)
foreign_to day sound rest seen place is none at =
    (go (is_closed (front day (store_of rest)).1) refl, ap foreign_text (at ∙ ap (λ (xs : List ℕ). suc (length (front day xs).0)) is))
  where
    go : (b : Bool) → is_closed (front day (store_of rest)).1 ≡ b → is_closed (front day (store_of rest)).1 ≡ false
    go false e = e
    go true e =
        let stands = closed_fronts_stand day (store_of rest) sound e in
        absurd (none (front day (store_of rest)).0 (fronts_are_found day (store_of rest) sound).legal (subst (StandsFor (front day (store_of rest)).0) (sym is) stands))

-- a store stands for its journal, which is that of the bytes
pub opened_whole : (day : Day) (rest : List ℕ) (disk : MemoryDisk) (store : OnStore MemoryDisk) → disk_seen disk ≡ store_of rest → IsStore disk_seen disk_image store → store.day ≡ day → store.history ≡ (front day (disk_seen disk)).0 → disk_seen store.disk ≡ disk_seen disk → IsWhole day rest × (store.history ≡ journal_in day rest)
opened_whole day rest disk store seen is same lines still =
    let sound : is_sound day ≡ true = subst (λ (d : Day). is_sound d ≡ true) same is.sound in
    let legal : IsLegal day store.history = subst (λ (d : Day). IsLegal d store.history) same is.legal in
    let stands : StandsFor store.history (store_of rest) = subst (StandsFor store.history) (still ∙ seen) is.stands in
    let one = one_journal_each day (store_of rest) store.history sound legal stands in
    (one.1, one.0)

-- ---- going on

pub went_on : (calls : ℕ) (store : OnStore MemoryDisk) (disk : MemoryDisk) → IsReady calls store.day store.history store.disk → StoppedOnTheWay disk_seen disk_image (λ (d : MemoryDisk). d.clock) LastsFor CutAfter failures store disk → IsOnTheWay calls store.day store.history (disk_seen store.disk) (disk_seen disk)
went_on calls store disk ready stopped =
    let n : ℕ = stopped.lines + 1 in
    let one = one_fails store.disk disk calls (4 * missing store.day store.history) (4 * missing store.day store.history) (missing_bytes store.day store.history) 0 0 _ stopped.cut (cut_for_less store.disk calls _ _ (4 * missing store.day store.history + 0) (missing_bytes store.day store.history + 0) (omega arith) (omega arith) ready.cut) in
    let less : calls < 4 * n = too_few calls (4 * n) (λ enough. none_failed store.disk disk (4 * n) (4 * n) (missing_bytes store.day store.history) ready.none stopped.sure (record { time = omega (arith, ready.cut.time, enough); records = omega (arith, ready.cut.records, stopped.not_all); room = omega (arith, ready.cut.room) }) stopped.counted) in
    let stands = stopped.stands (disk_seen disk) (read_is_image disk.first disk.past) in
    record {
      few = one.few;
      shows = one.seen;
      stands = record {
        journal = stands.journal;
        legal = stands.legal;
        from = stands.from;
        to = stands.to;
        count = omega (arith, less, stands.count);
        stands = stands.stands;
      };
    }

pub ended_with : (calls : ℕ) (store later : OnStore MemoryDisk) → IsReady calls store.day store.history store.disk → HasGoneOn disk_seen disk_image (λ (d : MemoryDisk). d.clock) LastsFor CutAfter failures store later → IsAtItsEnd calls store.day store.history (disk_seen store.disk) (disk_seen later.disk)
ended_with calls store later ready gone =
    let all = all_pass store.disk later.disk calls (4 * missing store.day store.history) (4 * missing store.day store.history) (missing_bytes store.day store.history) 0 0 _ gone.cut (cut_for_less store.disk calls _ _ (4 * missing store.day store.history + 0) (missing_bytes store.day store.history + 0) (omega arith) (omega arith) ready.cut) in
    record {
      enough = all.enough;
      shows = all.seen;
      stands = subst (λ (H : History). StandsFor H (disk_seen later.disk)) gone.lines gone.is.stands;
    }

-- ---- what is answered

pub to_add : (day : Day) (rest : List ℕ) → IsWhole day rest → lines_to_add day rest ≡ missing day (journal_in day rest)
to_add day rest whole = ap (λ (b : Bool). if b then missing day (journal_in day rest) else 0) whole

pub none_to_add : (day : Day) (rest : List ℕ) → is_closed (front day (store_of rest)).1 ≡ false → lines_to_add day rest ≡ 0
none_to_add day rest other = ap (λ (b : Bool). if b then missing day (journal_in day rest) else 0) other

-- what is seen once the store is open
pub late : (calls n : ℕ) (day : Day) (rest : List ℕ) → calls_to_open day rest ≤ calls → n ≡ min calls (calls_of_run day rest) - calls_to_open day rest → seen_at_end calls day rest ≡ gone_by day (journal_in day rest) (store_of rest) n
late calls n day rest low is =
    let at : ℕ = min calls (calls_of_run day rest) in
    let open_then : calls_to_open day rest ≤ at = omega (arith, low) in
    ap (λ (b : Bool). if b then once rest (store_of rest) at else gone_by day (journal_in day rest) (store_of rest) (at - calls_to_open day rest)) (le-ltb at (calls_to_open day rest) open_then)
    ∙ ap (gone_by day (journal_in day rest) (store_of rest)) (sym is)

-- what is said of an open store is said of the bytes that came
runs_over : (calls : ℕ) (day : Day) (rest : List ℕ) (answer : Answer) → IsWhole day rest → calls_to_open day rest ≤ calls → RunsOut (calls - calls_to_open day rest) day (journal_in day rest) (store_of rest) answer → AnswersOver (requests.Run calls) day rest answer
runs_over calls day rest answer whole low (inl ended) =
    let add = to_add day rest whole in
    let enough : calls_of_run day rest ≤ calls = omega (arith, low, add, ended.1.enough) in
    inl (
      ended.0,
      record {
        whole = whole;
        enough = enough;
        shows = ended.1.shows ∙ sym (late calls (4 * missing day (journal_in day rest)) day rest low (omega (arith, low, add, enough)));
        stands = ended.1.stands;
      },
    )
runs_over calls day rest answer whole low (inr way) =
    let add = to_add day rest whole in
    let few : calls < calls_of_run day rest = omega (arith, low, add, way.1.few) in
    inr (inl (
      way.0,
      record {
        few = few;
        shows = way.1.shows ∙ sym (late calls (calls - calls_to_open day rest) day rest low (omega (arith, low, few)));
        left = inr (whole, way.1.stands);
      },
    ))

pub run_says : (old new : SinkState) (calls status : ℕ) (day : Day) (rest : List ℕ) (store : OnStore MemoryDisk) (disk : MemoryDisk) → store.day ≡ day → IsWhole day rest × (store.history ≡ journal_in day rest) → disk_seen store.disk ≡ disk_seen disk → disk_seen disk ≡ store_of rest → calls_to_open day rest ≤ calls →
    SaysOne old new (RunsOut (calls - calls_to_open day rest) store.day store.history (disk_seen store.disk)) status → SaysOne old new (AnswersOver (requests.Run calls) day rest) status
run_says old new calls status day rest store disk same whole still seen low said =
    let k : ℕ = calls - calls_to_open day rest in
    (said.0, runs_over calls day rest said.0 whole.0 low (subst (λ (bytes : List ℕ). RunsOut k day (journal_in day rest) bytes said.0) (still ∙ seen) (subst (λ (H : History). RunsOut k day H (disk_seen store.disk) said.0) whole.1 (subst (λ (d : Day). RunsOut k d store.history (disk_seen store.disk) said.0) same said.1))), said.2)

-- ---- bytes or none

pub has_bytes : (bytes : List ℕ) (n : ℕ) → n ≡ length bytes → (n ≡ 0 → ⊥) → bytes ≡ store_of bytes
has_bytes [] n count some = absurd (some count)
has_bytes (byte ∷ bytes) n count some = refl

pub no_bytes : (bytes : List ℕ) → length bytes ≡ 0 → bytes ≡ []
no_bytes [] none = refl
no_bytes (byte ∷ bytes) none = absurd (omega (arith, none))

pub fresh_by : (rest : List ℕ) (room records a b passes : ℕ) (disk : MemoryDisk) → room ≡ a → records ≡ b → disk ≡ new_disk rest room records passes → IsFresh passes b a rest disk
fresh_by rest room records a b passes disk is_room is_records is = fresh_disk rest a b passes disk (is ∙ (λ i. new_disk rest (is_room i) (is_records i) passes))

pub fresh_as : (calls a b bytes : ℕ) (rest : List ℕ) (disk : MemoryDisk) → a ≡ b → IsFresh calls a bytes rest disk → IsFresh calls b bytes rest disk
fresh_as calls a b bytes rest disk same fresh = subst (λ (n : ℕ). IsFresh calls n bytes rest disk) same fresh

-- ---- what an opening says

pub fault_says : (old new : SinkState) (calls status : ℕ) (day : Day) (rest : List ℕ) (disk later : MemoryDisk) (fault : OpenFault MemoryDisk) → is_sound day ≡ true → IsMadeOf calls (1 + 4 * most_lines day) (most_bytes day) rest disk → fault ≡ open_faults.Fault later →
    OnlyLooks disk_seen disk_image clock_of disk_since disk (disk_of {D = MemoryDisk} (Err fault)) (opening_time day (disk_seen disk)) → CutsOpening disk_seen CutAfter disk (opening_time day (disk_seen disk)) 1 (Err fault) →
    Says old new (record { status = 8; text = disk_seen later }) status → SaysOne old new (AnswersOver (requests.Run calls) day rest) status
fault_says old new calls status day rest disk later fault sound made is looks cuts said =
    let looked = subst (λ (f : OpenFault MemoryDisk). OnlyLooks disk_seen disk_image clock_of disk_since disk (disk_of {D = MemoryDisk} (Err f)) (opening_time day (disk_seen disk))) is looks in
    let cut = subst (λ (f : OpenFault MemoryDisk). CutsOpening disk_seen CutAfter disk (opening_time day (disk_seen disk)) 1 (Err f)) is cuts in
    let one = one_fails disk later (calls - making_time rest) (opening_time day (disk_seen disk)) 1 0 (4 * most_lines day) (most_bytes day) _ cut (and_none _ _ _ _ made.cut) in
    let bytes : disk_seen later ≡ store_of rest = looked.same ∙ made.seen in
    let few : calls < calls_to_open day rest = omega (arith, made.enough, one.few, ap (opening_time day) made.seen) in
    (record { status = 8; text = disk_seen later }, inr (inl (refl, not_opened day sound rest calls (disk_seen later) bytes (bytes ∙ sym (made_once calls rest made.enough)) few)), said)

-- memory was wanting, and no call failed
pub unfailed : (calls changes bytes : ℕ) (day : Day) (rest : List ℕ) (disk later : MemoryDisk) (memory : Memory) (fault : OpenFault MemoryDisk) → IsMadeOf calls changes bytes rest disk → fault ≡ open_faults.Memory later memory → Opens disk_seen disk_image failures day disk (Err fault) → later.faults ≡ 0
unfailed calls changes bytes day rest disk later memory fault made is opens = subst (λ (f : OpenFault MemoryDisk). Opens disk_seen disk_image failures day disk (Err f)) is opens ∙ made.none

pub says_or_back : {S : Type 0} (state : S → SinkState) (old new : S) (Is : Answer → Type 0) (ended : Result ℕ MemoryDisk) → SaysOneOrBack state old new Is ended → SaysOneIfRoom state old new Is (status_of ended)
says_or_back state old new Is (Ok status) said = inr said
says_or_back state old new Is (Err disk) back = inl (refl, back.1, back.2)

foreign_over : (old new : SinkState) (r : Request) (place status : ℕ) (day : Day) (rest : List ℕ) (disk later : MemoryDisk) (fault : OpenFault MemoryDisk) → is_sound day ≡ true → disk_seen disk ≡ store_of rest → fault ≡ open_faults.Foreign later place → Opens disk_seen disk_image failures day disk (Err fault) → (is_closed (front day (store_of rest)).1 ≡ false → NoneFails r day rest) →
    Says old new (record { status = 9; text = foreign_text place }) status → SaysOne old new (AnswersOver r day rest) status
foreign_over old new r place status day rest disk later fault sound seen is opens none said =
    let foreign = subst (λ (f : OpenFault MemoryDisk). Opens disk_seen disk_image failures day disk (Err f)) is opens in
    let to = foreign_to day sound rest (disk_seen disk) place seen foreign.0 foreign.1 in
    (record { status = 9; text = foreign_text place }, inr (inr (refl, to, none to.0)), said)

-- of a run
pub stranger_says : (old new : SinkState) (calls place status : ℕ) (day : Day) (rest : List ℕ) (disk later : MemoryDisk) (fault : OpenFault MemoryDisk) → is_sound day ≡ true → IsMadeOf calls (1 + 4 * most_lines day) (most_bytes day) rest disk → fault ≡ open_faults.Foreign later place → Opens disk_seen disk_image failures day disk (Err fault) →
    CutsOpening disk_seen CutAfter disk (opening_time day (disk_seen disk)) 1 (Err fault) → Says old new (record { status = 9; text = foreign_text place }) status → SaysOne old new (AnswersOver (requests.Run calls) day rest) status
stranger_says old new calls place status day rest disk later fault sound made is opens cuts said =
    let cut = subst (λ (f : OpenFault MemoryDisk). CutsOpening disk_seen CutAfter disk (opening_time day (disk_seen disk)) 1 (Err f)) is cuts in
    let all = all_pass disk later (calls - making_time rest) (opening_time day (disk_seen disk)) 1 0 (4 * most_lines day) (most_bytes day) _ cut (and_none _ _ _ _ made.cut) in
    foreign_over old new (requests.Run calls) place status day rest disk later fault sound made.seen is opens (λ other. omega (arith, made.enough, all.enough, ap (opening_time day) made.seen, none_to_add day rest other)) said

-- where it is shown
pub foreign_says : (old new : SinkState) (place status : ℕ) (day : Day) (rest : List ℕ) (disk later : MemoryDisk) (fault : OpenFault MemoryDisk) → is_sound day ≡ true → disk_seen disk ≡ store_of rest → fault ≡ open_faults.Foreign later place → Opens disk_seen disk_image failures day disk (Err fault) →
    Says old new (record { status = 9; text = foreign_text place }) status → SaysOne old new (AnswersOver requests.Show day rest) status
foreign_says old new place status day rest disk later fault sound seen is opens said = foreign_over old new requests.Show place status day rest disk later fault sound seen is opens (λ other. tt) said

pub never_fails : (day : Day) (rest : List ℕ) (disk later : MemoryDisk) (fault : OpenFault MemoryDisk) → is_sound day ≡ true → IsMadeOf 4294967295 1 0 rest disk → fault ≡ open_faults.Fault later → CutsOpening disk_seen CutAfter disk (opening_time day (disk_seen disk)) 1 (Err fault) → ⊥
never_fails day rest disk later fault sound made is cuts =
    always_opens day sound rest disk later made (subst (λ (f : OpenFault MemoryDisk). CutsOpening disk_seen CutAfter disk (opening_time day (disk_seen disk)) 1 (Err f)) is cuts)

pub show_says : (old new : SinkState) (status : ℕ) (day : Day) (rest : List ℕ) (store : OnStore MemoryDisk) → IsWhole day rest × (store.history ≡ journal_in day rest) → Says old new (record { status = 0; text = shown_text store.history }) status → SaysOne old new (AnswersOver requests.Show day rest) status
show_says old new status day rest store whole said =
    (record { status = 0; text = shown_text store.history }, inl (refl, (whole.0, ap shown_text whole.1)), said)
