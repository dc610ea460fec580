-- How the past of a disk in memory grows, and what a crash may have left meanwhile.
use Rattle.std.proofs.Common.{◌≡◌, ◌⊎◌, inl, inr, ⊎_elim, ℕ, suc, true, ◌+◌, ◌-◌, ◌<◌, ◌≤◌, ◌^◌, List, [], ◌∷◌, ◌++◌, length, take, drop, reverse, refl, sym, ◌∙◌, ap, subst, arith}
use Rattle.std.proofs.lemmas.List.{reverse-append, length-reverse, reverse-reverse}
use Rattle.std.proofs.Math.Seq.{take-append_seam, drop-append_seam}
use Rattle.outside_io.specs.Causes.{one_more}
use Rattle.disk_model.specs.declared.memory.Call.TheVariants as calls
use Rattle.disk_model.specs.declared.memory.Done.{Done}
use Rattle.disk_model.specs.Crashes.{Torn, Follows, AddsNone, Only, Elapses}
use Rattle.disk_model.specs.Cut.{IsCut}
use Rattle.disk_model.specs.Memory.{CutAfter, Event, Written, Synced, Past, MemoryDisk, IsImage, HadBeen, bytes_after, after_event, disk_seen, disk_image, disk_since, happened, read_is_image}
use Rattle.disk_model.specs.Stored.{told, AreUpTo}
use Rattle.disk_model.proofs.WriteFacts.{torn_whole}

-- ---- what was stored

told-write : (ds : List Done) (bytes piece : List ℕ) (moment at : ℕ) → told (reverse (ds ++ record { moment = moment; call = calls.Write at (length piece) } ∷ [])) (reverse (bytes ++ piece)) ≡ record { moment = moment; event = Written at piece } ∷ told (reverse ds) (reverse bytes)
unfolding told
told-write ds bytes piece moment at =
    let d : Done = record { moment = moment; call = calls.Write at (length piece) } in
    let a : reverse (ds ++ d ∷ []) ≡ d ∷ reverse ds = reverse-append ds (d ∷ []) in
    let b : reverse (bytes ++ piece) ≡ reverse piece ++ reverse bytes = reverse-append bytes piece in
    let t : take (length piece) (reverse piece ++ reverse bytes) ≡ reverse piece = subst (λ n. take n (reverse piece ++ reverse bytes) ≡ reverse piece) (length-reverse piece) (take-append_seam (reverse piece) (reverse bytes)) in
    let r : drop (length piece) (reverse piece ++ reverse bytes) ≡ reverse bytes = subst (λ n. drop n (reverse piece ++ reverse bytes) ≡ reverse bytes) (length-reverse piece) (drop-append_seam (reverse piece) (reverse bytes)) in
    let f : List ℕ → List ℕ → List Past = λ x y. record { moment = moment; event = Written at (reverse x) } ∷ told (reverse ds) y in
    let g : List ℕ → List Past = λ x. record { moment = moment; event = Written at x } ∷ told (reverse ds) (reverse bytes) in
    ap (λ l. told l (reverse (bytes ++ piece))) a
    ∙ ap (λ l. told (d ∷ reverse ds) l) b
    ∙ ap (λ l. f l (drop (length piece) (reverse piece ++ reverse bytes))) t
    ∙ ap (λ l. f (reverse piece) l) r
    ∙ ap g (reverse-reverse piece)

told-sync : (ds : List Done) (bytes : List ℕ) (moment : ℕ) → told (reverse (ds ++ record { moment = moment; call = calls.Sync } ∷ [])) (reverse bytes) ≡ record { moment = moment; event = Synced } ∷ told (reverse ds) (reverse bytes)
unfolding told
told-sync ds bytes moment =
    let d : Done = record { moment = moment; call = calls.Sync } in
    let a : reverse (ds ++ d ∷ []) ≡ d ∷ reverse ds = reverse-append ds (d ∷ []) in
    ap (λ l. told l (reverse bytes)) a

pub told_written : (ds more : List Done) (bytes longer piece : List ℕ) (moment at : ℕ) → more ≡ ds ++ record { moment = moment; call = calls.Write at (length piece) } ∷ [] → longer ≡ bytes ++ piece → told (reverse more) (reverse longer) ≡ record { moment = moment; event = Written at piece } ∷ told (reverse ds) (reverse bytes)
told_written ds more bytes longer piece moment at is_more is_longer =
    ap (λ (l : List Done). told (reverse l) (reverse longer)) is_more
    ∙ ap (λ (l : List ℕ). told (reverse (ds ++ record { moment = moment; call = calls.Write at (length piece) } ∷ [])) (reverse l)) is_longer
    ∙ told-write ds bytes piece moment at

pub told_synced : (ds more : List Done) (bytes : List ℕ) (moment : ℕ) → more ≡ ds ++ record { moment = moment; call = calls.Sync } ∷ [] → told (reverse more) (reverse bytes) ≡ record { moment = moment; event = Synced } ∷ told (reverse ds) (reverse bytes)
told_synced ds more bytes moment is_more = ap (λ (l : List Done). told (reverse l) (reverse bytes)) is_more ∙ told-sync ds bytes moment

-- what contracts see after an event
pub made : (was old : MemoryDisk) (past : List Past) (event : Event) (room : MemoryDisk → ℕ) (clock : ℕ) → was ≡ old → clock ≡ was.clock + 1 → was.clock < 2 ^ 32 → past ≡ record { moment = clock; event = event } ∷ was.past →
    record { first = was.first; past = past; room = room was; records = was.records - 1; passes = was.passes; clock = clock; faults = was.faults } ≡ happened old event (room old)
made was old past event room clock view one small is =
    let same : clock ≡ one_more was.clock = omega (arith, one, small) in
    let whole : past ≡ record { moment = one_more was.clock; event = event } ∷ was.past = is ∙ ap (λ (m : ℕ). record { moment = m; event = event } ∷ was.past) same in
    let so : record { first = was.first; past = past; room = room was; records = was.records - 1; passes = was.passes; clock = clock; faults = was.faults } ≡ happened was event (room was)
    = λ i. record { first = was.first; past = whole i; room = room was; records = was.records - 1; passes = was.passes; clock = same i; faults = was.faults } in
    so ∙ ap (λ (d : MemoryDisk). happened d event (room d)) view

-- ---- moments

pub up_to_later : (now later : ℕ) (ps : List Past) → now ≤ later → AreUpTo now ps → AreUpTo later ps
unfolding AreUpTo
up_to_later now later [] le h = tt
up_to_later now later (p ∷ ps) le h = (omega (arith, h.0, le), up_to_later now later ps le h.1)

pub up_to_event : (now : ℕ) (p : Past) (ps : List Past) → p.moment ≡ now → AreUpTo now ps → AreUpTo now (p ∷ ps)
unfolding AreUpTo
up_to_event now p ps is h = (omega (arith, is), h)

had_been : (first : List ℕ) (ps : List Past) (t now later : ℕ) (c : List ℕ) → AreUpTo now ps → HadBeen first ps t later c → HadBeen first ps t now c
unfolding HadBeen AreUpTo
had_been first [] t now later c upto had = had
had_been first (p ∷ ps) t now later c upto (inl had) = inl (had.0, upto.0, had.2)
had_been first (p ∷ ps) t now later c upto (inr had) = inr (had_been first ps t now later c upto.1 had)

had_been_more : (first : List ℕ) (p : Past) (ps : List Past) (t now : ℕ) (c : List ℕ) → HadBeen first ps t now c → HadBeen first (p ∷ ps) t now c
unfolding HadBeen
had_been_more first p ps t now c had = inr had

was_before : (first : List ℕ) (p : Past) (ps : List Past) (t now : ℕ) (c : List ℕ) → t < p.moment → p.moment ≤ now → IsImage first ps c → HadBeen first (p ∷ ps) t now c
unfolding HadBeen
was_before first p ps t now c after upto is = inl (after, upto, is)

before_it : (first : List ℕ) (p : Past) (ps : List Past) (t now : ℕ) (c : List ℕ) → HadBeen first (p ∷ ps) t now c → IsImage first ps c ⊎ HadBeen first ps t now c
unfolding HadBeen
before_it first p ps t now c (inl had) = inl had.2
before_it first p ps t now c (inr had) = inr had

-- ---- time goes on

-- a call that left the bytes and the images as they were
kept_so : (old : MemoryDisk) (clock faults : ℕ) → AreUpTo old.clock old.past → old.clock ≤ clock → clock ≤ suc old.clock →
    Elapses disk_seen disk_image (λ disk. disk.clock) disk_since old (record { first = old.first; past = old.past; room = old.room; records = old.records; passes = old.passes; clock = clock; faults = faults })
kept_so old clock faults upto le one = record {
  later = le;
  at_most_one = one;
  still = λ _. (refl, λ c. (λ is. is, λ is. is));
  keeps = λ t c low left. ⊎_elim (λ now. inl now) (λ had. inr (had_been old.first old.past t clock old.clock c (up_to_later old.clock clock old.past le upto) had)) left;
  nothing_else = λ t c low left. inl (⊎_elim (λ now. inl now) (λ had. inr (had_been old.first old.past t old.clock clock c upto had)) left);
}

pub elapses_kept : (was old : MemoryDisk) (clock faults : ℕ) → was ≡ old → AreUpTo was.clock was.past → clock ≡ one_more was.clock → was.clock < 2 ^ 64 →
    Elapses disk_seen disk_image (λ disk. disk.clock) disk_since old (record { first = was.first; past = was.past; room = was.room; records = was.records; passes = was.passes; clock = clock; faults = faults })
elapses_kept was old clock faults is upto one small =
    let new : MemoryDisk = record { first = was.first; past = was.past; room = was.room; records = was.records; passes = was.passes; clock = clock; faults = faults } in
    subst (λ (from : MemoryDisk). Elapses disk_seen disk_image (λ disk. disk.clock) disk_since from new) is (kept_so was clock faults upto (omega (arith, one, small)) (omega (arith, one, small)))

-- one more event
elapses_event : (old : MemoryDisk) (event : Event) (room records : ℕ) → AreUpTo old.clock old.past →
    Elapses disk_seen disk_image (λ disk. disk.clock) disk_since old (record { first = old.first; past = record { moment = old.clock + 1; event = event } ∷ old.past; room = room; records = records; passes = old.passes; clock = old.clock + 1; faults = old.faults })
elapses_event old event room records upto =
    let now : ℕ = old.clock + 1 in
    let p : Past = record { moment = now; event = event } in
    let first = old.first in
    let ps = old.past in
    record {
      later = omega arith;
      at_most_one = omega arith;
      still = λ same. absurd (omega (arith, same));
      keeps = λ t c low left. inr (⊎_elim
          (λ is. was_before first p ps t now c (omega (arith, low)) (omega arith) is)
          (λ had. had_been_more first p ps t now c (had_been first ps t now old.clock c (up_to_later old.clock now ps (omega arith) upto) had))
          left);
      nothing_else = λ t c low left. ⊎_elim
          (λ is. inr is)
          (λ had. inl (⊎_elim (λ is. inl is) (λ older. inr (had_been first ps t old.clock now c upto older)) (before_it first p ps t now c had)))
          left;
    }

pub elapses_to : (was old : MemoryDisk) (past : List Past) (event : Event) (room records clock : ℕ) → was ≡ old → AreUpTo was.clock was.past → clock ≡ was.clock + 1 → past ≡ record { moment = clock; event = event } ∷ was.past →
    Elapses disk_seen disk_image (λ disk. disk.clock) disk_since old (record { first = was.first; past = past; room = room; records = records; passes = was.passes; clock = clock; faults = was.faults })
elapses_to was old past event room records clock view upto one is =
    let made_of : List Past → ℕ → MemoryDisk = λ l n. record { first = was.first; past = l; room = room; records = records; passes = was.passes; clock = n; faults = was.faults } in
    subst (λ (from : MemoryDisk). Elapses disk_seen disk_image (λ disk. disk.clock) disk_since from (made_of past clock)) view
    (subst (λ (l : List Past). Elapses disk_seen disk_image (λ disk. disk.clock) disk_since was (made_of l clock)) (sym is)
    (subst (λ (n : ℕ). Elapses disk_seen disk_image (λ disk. disk.clock) disk_since was (made_of (record { moment = n; event = event } ∷ was.past) n)) (sym one)
    (elapses_event was event room records upto)))

-- ---- bytes and images after an event

pub bytes_with : (first : List ℕ) (past ps : List Past) (p : Past) → past ≡ p ∷ ps → bytes_after first past ≡ after_event p.event (bytes_after first ps)
unfolding bytes_after
bytes_with first past ps p is = ap (bytes_after first) is

pub seen_after : (was old : MemoryDisk) (past : List Past) (p : Past) → was ≡ old → past ≡ p ∷ was.past → bytes_after was.first past ≡ after_event p.event (disk_seen old)
seen_after was old past p view is = bytes_with was.first past was.past p is ∙ ap (λ (d : MemoryDisk). after_event p.event (disk_seen d)) view

written_so : (first : List ℕ) (ps : List Past) (moment at : ℕ) (piece : List ℕ) → at ≤ length (bytes_after first ps) → (c : List ℕ) → IsImage first (record { moment = moment; event = Written at piece } ∷ ps) c →
    (d : List ℕ) × IsImage first ps d × Torn at (length piece) d c
unfolding IsImage bytes_after
written_so first ps moment at piece low c (inl read) = (bytes_after first ps, read_is_image first ps, subst (Torn at (length piece) (bytes_after first ps)) (sym read) (torn_whole at piece (bytes_after first ps) low))
written_so first ps moment at piece low c (inr torn) = torn

pub images_written : (was old : MemoryDisk) (past : List Past) (moment at : ℕ) (piece : List ℕ) → was ≡ old → past ≡ record { moment = moment; event = Written at piece } ∷ was.past → at ≤ length (disk_seen old) →
    Follows (Torn at (length piece)) (disk_image old) (IsImage was.first past)
images_written was old past moment at piece view is low c left =
    subst (λ (from : MemoryDisk). (d : List ℕ) × disk_image from d × Torn at (length piece) d c) view
    (written_so was.first was.past moment at piece (subst (λ (from : MemoryDisk). at ≤ length (disk_seen from)) (sym view) low) c (subst (λ (l : List Past). IsImage was.first l c) is left))

synced_so : (first : List ℕ) (ps : List Past) (moment : ℕ) → Only (bytes_after first ps) (IsImage first (record { moment = moment; event = Synced } ∷ ps))
unfolding IsImage bytes_after
synced_so first ps moment c left = left

pub only_synced : (was old : MemoryDisk) (past : List Past) (moment : ℕ) → was ≡ old → past ≡ record { moment = moment; event = Synced } ∷ was.past → Only (disk_seen old) (IsImage was.first past)
only_synced was old past moment view is =
    subst (λ (from : MemoryDisk). Only (disk_seen from) (IsImage was.first past)) view
    (subst (λ (l : List Past). Only (disk_seen was) (IsImage was.first l)) (sym is) (synced_so was.first was.past moment))

pub none_synced : (was old : MemoryDisk) (past : List Past) (moment : ℕ) → was ≡ old → past ≡ record { moment = moment; event = Synced } ∷ was.past → AddsNone (disk_image old) (IsImage was.first past)
none_synced was old past moment view is c left =
    subst (disk_image old) (sym (only_synced was old past moment view is c left)) (read_is_image old.first old.past)

-- an event of a disk that passes one more call
after_cut : (old : MemoryDisk) (event : Event) (room n : ℕ) (shows : ℕ → List ℕ) → old.clock < old.passes → old.passes < 2 ^ 32 → old.room ≤ room + n → after_event event (disk_seen old) ≡ shows 1 → IsCut disk_seen CutAfter old (happened old event room) true 1 1 n shows
unfolding bytes_after
after_cut old event room n shows passes small low is = record {
  enough = λ c e b h. (refl, record { time = omega (arith, h.time, passes, small); records = omega (arith, h.records); room = omega (arith, h.room, low) }, is);
  short = λ c e b few h. absurd (omega (arith, few, h.time, passes));
}

pub cut_event : (was old new : MemoryDisk) (event : Event) (room n : ℕ) (shows : ℕ → List ℕ) → was ≡ old → new ≡ happened old event room → was.clock < was.passes → was.passes < 2 ^ 32 → old.room ≤ room + n → after_event event (disk_seen old) ≡ shows 1 → IsCut disk_seen CutAfter old new true 1 1 n shows
cut_event was old new event room n shows view is passes small low seen =
    subst (λ (d : MemoryDisk). IsCut disk_seen CutAfter old d true 1 1 n shows) (sym is)
    (after_cut old event room n shows (subst (λ (d : MemoryDisk). d.clock < d.passes) view passes) (subst (λ (d : MemoryDisk). d.passes < 2 ^ 32) view small) low seen)

-- ---- a new disk

pub none_told : (ds : List Done) (bytes : List ℕ) → ds ≡ [] → bytes ≡ [] → (told (reverse ds) (reverse bytes) ≡ []) × ((now : ℕ) → AreUpTo now (told (reverse ds) (reverse bytes)))
unfolding told AreUpTo
none_told ds bytes no_calls none =
    let is : told (reverse ds) (reverse bytes) ≡ [] = ap (λ (l : List Done). told (reverse l) (reverse bytes)) no_calls in
    (is, λ now. subst (AreUpTo now) (sym is) tt)

pub seen_first : (bytes first : List ℕ) (past : List Past) → bytes ≡ first → past ≡ [] → bytes ≡ bytes_after first past
unfolding bytes_after
seen_first bytes first past same none = same ∙ sym (ap (bytes_after first) none)
