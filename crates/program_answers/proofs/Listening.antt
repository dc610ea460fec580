-- A run over a port, step by step.
use Rattle.std.proofs.Common.{◌≡◌, ◌∙◌, ◌+◌, ◌-◌, ◌++◌, ◌<◌, ◌≤◌, ◌⊎◌, ℕ, Bool, true, false, List, [], ◌∷◌, Option, Some, None, Result, Ok, Err, append_assoc, append-nil, inl, inr, ⊎_elim, refl, sym, ap, subst, take, length, arith, nat_eq}
use Rattle.std.proofs.lemmas.Bool.{cases_lt, false≢true}
use Rattle.std.specs.Prelude.{option_map}
use Rattle.std.specs.Borrow.{GName}
use Rattle.std.proofs.lemmas.List.{append_cancel_left, append_cancel_right, length-append, length-take-le}
use Rattle.std.proofs.KnownBytes.{Consumes-kept, Consumes-nil, Consumes-trans}
use Rattle.std.specs.Io.KnownBytes.{Appends, Consumes, IsAtEnd, append_known}
use Rattle.outside_io.specs.Causes.{one_more}
use Rattle.outside_io.specs.Gathered.{gathering_state, held, sink_below, through}
use Rattle.outside_io.specs.Gathering.{HandsOn, gathering}
use Rattle.outside_io.specs.Pieces.{HasPut, IsCutShort, Moment, Reading, SinkState, ToldOnce}
use Rattle.outside_io.specs.Ports.{Asks, moment_of, with_moment}
use Rattle.outside_io.specs.declared.gathering.GatheringSink.{GatheringSink}
use Rattle.outside_io.proofs.GatheringLemmas.{cut_below, put_below, short_below}
use Rattle.outside_io.proofs.PutLemmas.{cut_front, has_put_none, has_put_then}
use Rattle.program_answers.specs.Giving.{HandsOver}
use Rattle.program_answers.specs.LivePrograms.{Finishes, IsLater, IsOneOf, KeepsMoments, LiveProgram, LivePromises, TellsMore, WasAnswered, WereRead, WereWritten, sink_of}
use Rattle.program_answers.specs.LiveSteps.{HasAllHeard, HasListened, IsPrompt, IsUnderway, Listens, run_between}
use Rattle.program_answers.specs.Programs.{is_no_answer}
use Rattle.program_answers.proofs.Statuses.{none_of, other}

-- ---- moments

one_of_last : (m x : Moment) (xs : List Moment) → IsOneOf m (xs ++ x ∷ []) → IsOneOf m xs ⊎ (x ≡ m)
one_of_last m x [] (inl e) = inr e
one_of_last m x [] (inr none) = absurd none
one_of_last m x (y ∷ xs) (inl e) = inl (inl e)
one_of_last m x (y ∷ xs) (inr i) = by (one_of_last m x xs i)
  where
    by : (IsOneOf m xs ⊎ (x ≡ m)) → (IsOneOf m (y ∷ xs) ⊎ (x ≡ m))
    by (inl j) = inl (inr j)
    by (inr e) = inr e

-- after one moment more
later_more : (old now new : Option (List Moment)) (x m : Moment) → KeepsMoments old now → new ≡ option_map (λ (ms : List Moment). ms ++ x ∷ []) now → IsLater old new m → IsLater old now m ⊎ (x ≡ m)
later_more None now new x m grew e later = absurd later
later_more (Some b) None new x m grew e later = absurd grew
later_more (Some b) (Some n) None x m grew e later = absurd later
later_more (Some b) (Some n) (Some w) x m grew e later =
    let same : w ≡ n ++ x ∷ [] = same_some w (n ++ x ∷ []) e in
    let both : b ++ later.0 ≡ b ++ (grew.0 ++ x ∷ []) = sym later.1 ∙ same ∙ ap (λ (ms : List Moment). ms ++ x ∷ []) grew.1 ∙ append_assoc b grew.0 (x ∷ []) in
    by (one_of_last m x grew.0 (subst (IsOneOf m) (append_cancel_left b later.0 (grew.0 ++ x ∷ []) both) later.2))
  where
    same_some : (a c : List Moment) → Some a ≡ Some c → a ≡ c
    same_some a c e = cc e

    by : (IsOneOf m grew.0 ⊎ (x ≡ m)) → (IsLater (Some b) (Some n) m ⊎ (x ≡ m))
    by (inl i) = inl (grew.0, grew.1, i)
    by (inr e) = inr e

keeps_more : (old now new : Option (List Moment)) (x : Moment) → KeepsMoments old now → new ≡ option_map (λ (ms : List Moment). ms ++ x ∷ []) now → KeepsMoments old new
keeps_more None now new x grew e = tt
keeps_more (Some b) None new x grew e = absurd grew
keeps_more (Some b) (Some n) new x grew e =
    subst (KeepsMoments (Some b)) (sym e) (grew.0 ++ x ∷ [], ap (λ (ms : List Moment). ms ++ x ∷ []) grew.1 ∙ append_assoc b grew.0 (x ∷ []))

keeps_all : (o : Option (List Moment)) → KeepsMoments o o
keeps_all None = tt
keeps_all (Some ms) = ([], sym (append-nil ms))

no_later : (o : Option (List Moment)) (m : Moment) → IsLater o o m → ⊥
no_later None m later = later
no_later (Some ms) m later = subst (IsOneOf m) (append_cancel_left ms later.0 [] (sym later.1 ∙ sym (append-nil ms))) later.2

-- ---- what is told of what was read and written is what was

read_is : (before now : Option (List ℕ)) (heard read : List ℕ) → Consumes before now heard → WereRead before now read → read ≡ heard
read_is None now heard read took were = absurd were
read_is (Some xs) None heard read took were = absurd took
read_is (Some xs) (Some ys) heard read took were = append_cancel_right read heard ys (sym were ∙ took)

written_is : (before now : Option (List ℕ)) (told written : List ℕ) → Appends before now told → WereWritten before now written → written ≡ told
written_is None now told written put were = absurd were
written_is (Some xs) None told written put were = absurd put
written_is (Some xs) (Some ys) told written put were = append_cancel_left xs written told (sym were ∙ put)

-- ---- where reads aren't looked at

put_alone : (old new : SinkState) (text : List ℕ) → HasPut old new text → HasPut (sink_of old) (sink_of new) text
put_alone old new text put = record { written = put.written; passed = put.passed; kept = put.kept; unread = refl; sure = put.sure }

cut_alone : (old new : SinkState) (text : List ℕ) → IsCutShort old new text → IsCutShort (sink_of old) (sink_of new) text
cut_alone old new text cut = record {
  count = cut.count;
  short = cut.short;
  front = cut.front;
  passed = cut.passed;
  later = cut.later;
  counted = cut.counted;
  stopped = cut.stopped;
  unread = refl;
  sure = cut.sure;
}

appends_known : (old new : Option (List ℕ)) (text : List ℕ) → Appends old new text → Appends (append_known old []) (append_known new []) text
appends_known None new text put = tt
appends_known (Some x) None text put = absurd put
appends_known (Some x) (Some y) text put = append-nil y ∙ put ∙ ap (λ (front : List ℕ). front ++ text) (sym (append-nil x))

-- what was put below is put above, where nothing is held
put_above : (old new : SinkState) (name same : GName) (b c : Bool) (text : List ℕ) → same ≡ name → HasPut old new text → HasPut (gathering name [] b old) (gathering same [] c new) text
put_above old new name same b c text named put = record {
  written = appends_known old.written new.written text put.written;
  passed = (named, length text, omega arith, put.passed);
  kept = put.kept;
  unread = put.unread;
  sure = omega (arith, put.sure);
}

-- it stops in the second of two texts
cut_last : (old mid new : SinkState) (text more all : List ℕ) → all ≡ text ++ more → HasPut old mid text → IsCutShort mid new more → IsCutShort old new all
cut_last old mid new text more all is put cut =
    subst (IsCutShort old new) (ap (λ (rest : List ℕ). text ++ rest) (append-nil more) ∙ sym is) (cut_front old mid new text more [] put cut)

-- it read no more than may come
pub within_more : (heard buf : List ℕ) (n most longest : ℕ) → n ≤ length buf → n ≤ most → most ≡ longest + 1 - length heard → 0 < n → length (heard ++ take n buf) ≤ longest + 1
within_more heard buf n most longest few room left some =
    let whole = length-append heard (take n buf) in
    let part = length-take-le n buf few in
    omega (arith, whole, part, room, left, some)

-- bytes that don't settle the answer are no more than an input may have
pub unsettled_short : (program : LiveProgram) (heard : List ℕ) → (program.longest < length heard → program.is_settled heard ≡ true) → program.is_settled heard ≡ false → length heard ≤ program.longest
unsettled_short program heard long e =
    ⊎_elim (λ (l : program.longest < length heard). absurd (false≢true (sym e ∙ long l))) (λ (l : length heard ≤ program.longest). l) (cases_lt program.longest (length heard))

pub heard_longer : (heard buf : List ℕ) (n : ℕ) → n ≤ length buf → 0 < n → length heard < length (heard ++ take n buf)
heard_longer heard buf n few some =
    let whole = length-append heard (take n buf) in
    let part = length-take-le n buf few in
    omega (arith, whole, part, some)

-- ---- the run so far

module _ (program : LiveProgram) where
  -- a port that was asked, and answered, where all was handed on that was called for
  prompt_more : (start now : SinkState) (moments : Option (List Moment)) (heard : List ℕ) → Listens program start now.reading heard → Appends start.written now.written (program.told heard) → program.is_settled heard ≡ false
      → moments ≡ with_moment now → IsPrompt program start moments
  prompt_more start now moments heard l told unsettled marked read written was =
      by (later_more start.reading.moments now.reading.moments moments (moment_of now) was.0 l.moments marked was.1)
    where
      by : IsLater start.reading.moments now.reading.moments was.0 ⊎ (moment_of now ≡ was.0) → (written ≡ program.told read) × (program.is_settled read ≡ false)
      by (inl later) = l.prompt read written (was.0, later, was.2, was.3)
      by (inr e) =
          let left : WereRead start.reading.left now.reading.left read = subst (λ (m : Moment). WereRead start.reading.left m.left read) (sym e) was.2 in
          let put : WereWritten start.written now.written written = subst (λ (m : Moment). WereWritten start.written m.written written) (sym e) was.3 in
          let same : read ≡ heard = read_is start.reading.left now.reading.left heard read l.taken left in
          (written_is start.written now.written (program.told heard) written told put ∙ ap program.told (sym same), ap program.is_settled same ∙ unsettled)

  listens_first : (start : SinkState) → Listens program start start.reading []
  listens_first start = record {
    taken = Consumes-nil start.reading.left;
    within = omega arith;
    faults = refl;
    ends = refl;
    moments = keeps_all start.reading.moments;
    prompt = λ read written was. absurd (no_later start.reading.moments was.0 was.1);
  }

  -- it answered with some bytes
  listens_more : {E : Type 0} (start now new : SinkState) (heard buf : List ℕ) (n : ℕ) → Listens program start now.reading heard → Appends start.written now.written (program.told heard) → program.is_settled heard ≡ false
      → Asks {E = E} now new (Ok n) buf → 0 < n → length (heard ++ take n buf) ≤ program.longest + 1 → Listens program start new.reading (heard ++ take n buf)
  listens_more start now new heard buf n l told unsettled asks some within = record {
    taken = Consumes-trans start.reading.left now.reading.left new.reading.left heard (take n buf) l.taken asks.bytes.0;
    within = within;
    faults = asks.count.kept ∙ l.faults;
    ends = asks.end.1 some ∙ l.ends;
    moments = keeps_more start.reading.moments now.reading.moments new.reading.moments (moment_of now) l.moments asks.moment;
    prompt = prompt_more start now new.reading.moments heard l told unsettled asks.moment;
  }

  -- it told its end
  listened_to_end : {E : Type 0} (start now new : SinkState) (heard buf : List ℕ) (n : ℕ) → Listens program start now.reading heard → Appends start.written now.written (program.told heard) → program.is_settled heard ≡ false
      → Asks {E = E} now new (Ok n) buf → n ≡ 0 → 0 < length buf → HasListened program start new.reading heard
  listened_to_end start now new heard buf n l told unsettled asks none room = record {
    taken = subst (Consumes start.reading.left new.reading.left) (ap (λ (k : ℕ). heard ++ take k buf) none ∙ append-nil heard)
        (Consumes-trans start.reading.left now.reading.left new.reading.left heard (take n buf) l.taken asks.bytes.0);
    within = l.within;
    faults = asks.count.kept ∙ l.faults;
    ended = inr (asks.bytes.1 none room, subst (λ (o : Option ℕ). ToldOnce o new.reading.ends) l.ends (asks.end.0 none));
    moments = keeps_more start.reading.moments now.reading.moments new.reading.moments (moment_of now) l.moments asks.moment;
    prompt = prompt_more start now new.reading.moments heard l told unsettled asks.moment;
  }

  listened_settled : (start : SinkState) (now : Reading) (heard : List ℕ) → Listens program start now heard → program.is_settled heard ≡ true → HasListened program start now heard
  listened_settled start now heard l settled = record {
    taken = l.taken;
    within = l.within;
    faults = l.faults;
    ended = inl (settled, l.ends);
    moments = l.moments;
    prompt = l.prompt;
  }

  -- ---- ways to end

  -- a write failed while more could come
  cut_underway : (start now : SinkState) (heard : List ℕ) → Listens program start now.reading heard → IsCutShort (sink_of start) (sink_of now) (program.told heard)
      → LivePromises program (record { status = 5; port = start; port_after = now })
  cut_underway start now heard l cut = record {
    status = inl (inr refl);
    prompt = λ read written was. (l.prompt read written was).0;
    needs_more = λ read written was. (l.prompt read written was).1;
    moments = l.moments;
    read_fault = λ e. absurd (omega (arith, e));
    write_fault = λ e. record {
      bytes = heard;
      taken = record { taken = l.taken; within = l.within };
      due = program.told heard;
      is = inl refl;
      front = cut;
    };
    no_read_fault = λ other. l.faults;
    no_write_fault = λ other. absurd (other refl);
    end_told_once = inl l.ends;
    complete = λ reads writes. absurd (writes (omega (arith, cut.counted)));
  }

  either_end : (start : SinkState) (now : Reading) (heard : List ℕ) → HasListened program start now heard → (now.ends ≡ start.reading.ends) ⊎ ToldOnce start.reading.ends now.ends
  either_end start now heard l = by l.ended
    where
      by : ((program.is_settled heard ≡ true) × (now.ends ≡ start.reading.ends)) ⊎ (IsAtEnd now.left × ToldOnce start.reading.ends now.ends) → (now.ends ≡ start.reading.ends) ⊎ ToldOnce start.reading.ends now.ends
      by (inl settled) = inl settled.1
      by (inr told) = inr told.1

  -- a write failed where nothing more was to come
  cut_answer : (start now : SinkState) (heard : List ℕ) → HasListened program start now.reading heard → IsCutShort (sink_of start) (sink_of now) (program.answer heard).text
      → LivePromises program (record { status = 5; port = start; port_after = now })
  cut_answer start now heard l cut = record {
    status = inl (inr refl);
    prompt = λ read written was. (l.prompt read written was).0;
    needs_more = λ read written was. (l.prompt read written was).1;
    moments = l.moments;
    read_fault = λ e. absurd (omega (arith, e));
    write_fault = λ e. record {
      bytes = heard;
      taken = record { taken = l.taken; within = l.within };
      due = (program.answer heard).text;
      is = inr (l.ended, refl);
      front = cut;
    };
    no_read_fault = λ other. l.faults;
    no_write_fault = λ other. absurd (other refl);
    end_told_once = either_end start now.reading heard l;
    complete = λ reads writes. absurd (writes (omega (arith, cut.counted)));
  }

  -- a read failed
  read_failed : {E : Type 0} (start now new : SinkState) (heard buf : List ℕ) (fault : E) → Listens program start now.reading heard → HasPut (sink_of start) (sink_of now) (program.told heard) → program.is_settled heard ≡ false
      → Asks now new (Err fault) buf → LivePromises program (record { status = 4; port = start; port_after = new })
  read_failed start now new heard buf fault l told unsettled asks =
      let text : HasPut (sink_of start) (sink_of new) (program.told heard) = subst (λ (s : SinkState). HasPut (sink_of start) (sink_of s) (program.told heard)) (sym asks.unwritten) told in
      let counted : new.reading.faults ≡ one_more start.reading.faults = asks.count.counted ∙ ap one_more l.faults in
      record {
        status = inl (inl refl);
        prompt = λ read written was. (still read written was).0;
        needs_more = λ read written was. (still read written was).1;
        moments = subst (KeepsMoments start.reading.moments) (sym asks.moment) l.moments;
        read_fault = λ e. record {
          bytes = heard;
          taken = record { taken = Consumes-kept start.reading.left now.reading.left new.reading.left heard l.taken asks.bytes; within = l.within };
          unsettled = unsettled;
          text = text;
          counted = counted;
        };
        write_fault = λ e. absurd (omega (arith, e));
        no_read_fault = λ other. absurd (other refl);
        no_write_fault = λ other. text.kept;
        end_told_once = inl (asks.end ∙ l.ends);
        complete = λ reads writes. absurd (reads (omega (arith, counted)));
      }
    where
      still : IsPrompt program start new.reading.moments
      still = subst (IsPrompt program start) (sym asks.moment) l.prompt

  -- the answer was given whole
  answered_whole : (start now : SinkState) (heard : List ℕ) (status : ℕ) → HasListened program start now.reading heard → is_no_answer (program.answer heard).status ≡ false → status ≡ (program.answer heard).status
      → HasPut (sink_of start) (sink_of now) (program.answer heard).text → LivePromises program (record { status = status; port = start; port_after = now })
  answered_whole start now heard status l own is text =
      let no = none_of (program.answer heard).status own in
      let answered : WasAnswered program (record { status = status; port = start; port_after = now }) = record {
        bytes = heard;
        taken = record { taken = l.taken; within = l.within };
        ended = l.ended;
        status = is;
        text = text;
      } in
      record {
        status = inr answered;
        prompt = λ read written was. (l.prompt read written was).0;
        needs_more = λ read written was. (l.prompt read written was).1;
        moments = l.moments;
        read_fault = λ e. absurd (other status (program.answer heard).status 4 is no.2 e);
        write_fault = λ e. absurd (other status (program.answer heard).status 5 is no.3 e);
        no_read_fault = λ failed. l.faults;
        no_write_fault = λ failed. text.kept;
        end_told_once = either_end start now.reading heard l;
        complete = λ reads writes. answered;
      }

  -- ---- over a sink that gathers

  module _ {S : Type 0} (state : S → SinkState) where
    -- a sink that held nothing
    from_empty : (first : GatheringSink S) → held first ≡ [] → gathering_state state first ≡ gathering (through first) [] first.failed (state (sink_below first))
    from_empty first none = ap (λ (h : List ℕ). gathering (through first) h first.failed (state (sink_below first))) none

    pub sets_out : (first : GatheringSink S) → program.told [] ≡ [] → IsUnderway program state first first []
    sets_out first none = record {
      listens = listens_first (state (sink_below first));
      told = subst (HasPut (sink_of (gathering_state state first)) (sink_of (gathering_state state first))) (sym none) (has_put_none (sink_of (gathering_state state first)));
    }

    -- all that was called for was handed on
    handed_all : {T E : Type 0} (first now new : GatheringSink S) (text : List ℕ) (value : T) → held first ≡ [] → HasPut (sink_of (gathering_state state first)) (sink_of (gathering_state state now)) text →
        HandsOn {E = E} (state (sink_below now)) (state (sink_below new)) (held now) (held new) (Ok value) → HasPut (sink_of (state (sink_below first))) (sink_of (state (sink_below new))) text
    handed_all first now new text value none told handed =
        put_below (sink_of (state (sink_below first))) (sink_of (state (sink_below now))) (sink_of (state (sink_below new))) (through first) (through now) (held now) text first.failed now.failed
        (subst (λ (s : SinkState). HasPut (sink_of s) (sink_of (gathering_state state now)) text) (from_empty first none) told)
        (put_alone (state (sink_below now)) (state (sink_below new)) (held now) handed.ok.1)

    handed_short : {T E : Type 0} (first now new : GatheringSink S) (text : List ℕ) (fault : E) → held first ≡ [] → HasPut (sink_of (gathering_state state first)) (sink_of (gathering_state state now)) text →
        HandsOn {T = T} (state (sink_below now)) (state (sink_below new)) (held now) (held new) (Err fault) → IsCutShort (sink_of (state (sink_below first))) (sink_of (state (sink_below new))) text
    handed_short first now new text fault none told handed =
        short_below (sink_of (state (sink_below first))) (sink_of (state (sink_below now))) (sink_of (state (sink_below new))) (through first) (through now) (held now) text first.failed now.failed
        (subst (λ (s : SinkState). HasPut (sink_of s) (sink_of (gathering_state state now)) text) (from_empty first none) told)
        (cut_alone (state (sink_below now)) (state (sink_below new)) (held now) handed.err.0)

    -- a write failed, and what is held isn't handed on
    cut_gathered : (first now : GatheringSink S) (text : List ℕ) → held first ≡ [] → IsCutShort (sink_of (gathering_state state first)) (sink_of (gathering_state state now)) text →
        IsCutShort (sink_of (state (sink_below first))) (sink_of (state (sink_below now))) text
    cut_gathered first now text none cut =
        cut_below (sink_of (state (sink_below first))) (sink_of (state (sink_below now))) (through first) (through now) (held now) text first.failed now.failed
        (subst (λ (s : SinkState). IsCutShort (sink_of s) (sink_of (gathering_state state now)) text) (from_empty first none) cut)

    -- all that was called for couldn't be handed on
    pub hand_on_failed : {T E : Type 0} (first now new : GatheringSink S) (heard : List ℕ) (fault : E) → held first ≡ [] → IsUnderway program state first now heard →
        HandsOn {T = T} (state (sink_below now)) (state (sink_below new)) (held now) (held new) (Err fault) → LivePromises program (run_between program state first new 5)
    hand_on_failed first now new heard fault none way handed =
        cut_underway (state (sink_below first)) (state (sink_below new)) heard (subst (λ (r : Reading). Listens program (state (sink_below first)) r heard) (sym handed.err.0.unread) way.listens)
        (handed_short first now new (program.told heard) fault none way.told handed)

    -- what stands where the port is asked
    pub record CanAsk (first now : GatheringSink S) (heard : List ℕ) : Type 0 where
      pub listens : Listens program (state (sink_below first)) (state (sink_below now)).reading heard
      pub told : HasPut (sink_of (state (sink_below first))) (sink_of (state (sink_below now))) (program.told heard)
      pub empty : held now ≡ []
      pub named : through now ≡ through first

    pub can_ask : {T E : Type 0} (first now new : GatheringSink S) (heard : List ℕ) (value : T) → held first ≡ [] → IsUnderway program state first now heard → through new ≡ through now →
        HandsOn {E = E} (state (sink_below now)) (state (sink_below new)) (held now) (held new) (Ok value) → CanAsk first new heard
    can_ask first now new heard value none way same handed = record {
      listens = subst (λ (r : Reading). Listens program (state (sink_below first)) r heard) (sym handed.ok.1.unread) way.listens;
      told = handed_all first now new (program.told heard) value none way.told handed;
      empty = handed.ok.0;
      named = same ∙ way.told.passed.0;
    }

    pub ask_failed : {E : Type 0} (first now new : GatheringSink S) (heard buf : List ℕ) (fault : E) → CanAsk first now heard → program.is_settled heard ≡ false →
        Asks (state (sink_below now)) (state (sink_below new)) (Err fault) buf → LivePromises program (run_between program state first new 4)
    ask_failed first now new heard buf fault can unsettled asks = read_failed (state (sink_below first)) (state (sink_below now)) (state (sink_below new)) heard buf fault can.listens can.told unsettled asks

    -- what was gathered where the port has answered
    gathered_still : {E : Type 0} (first now new : GatheringSink S) (heard buf : List ℕ) (result : Result ℕ E) → held first ≡ [] → CanAsk first now heard → through new ≡ through now → held new ≡ held now →
        Asks (state (sink_below now)) (state (sink_below new)) result buf → HasPut (sink_of (gathering_state state first)) (sink_of (gathering_state state new)) (program.told heard)
    gathered_still first now new heard buf result none can same stays asks =
        let below : HasPut (sink_of (state (sink_below first))) (sink_of (state (sink_below new))) (program.told heard) =
        subst (λ (s : SinkState). HasPut (sink_of (state (sink_below first))) (sink_of s) (program.told heard)) (sym asks.unwritten) can.told in
        let above : HasPut (sink_of (gathering (through first) [] first.failed (state (sink_below first)))) (sink_of (gathering (through new) [] new.failed (state (sink_below new)))) (program.told heard) =
        put_above (sink_of (state (sink_below first))) (sink_of (state (sink_below new))) (through first) (through new) first.failed new.failed (program.told heard) (same ∙ can.named) below in
        subst (λ (s : SinkState). HasPut (sink_of s) (sink_of (gathering_state state new)) (program.told heard)) (sym (from_empty first none))
        (subst (λ (s : SinkState). HasPut (sink_of (gathering (through first) [] first.failed (state (sink_below first)))) (sink_of s) (program.told heard)) (sym (from_empty new (stays ∙ can.empty))) above)

    pub ask_ended : {E : Type 0} (first now new : GatheringSink S) (heard buf : List ℕ) (n : ℕ) → held first ≡ [] → CanAsk first now heard → program.is_settled heard ≡ false → through new ≡ through now → held new ≡ held now →
        Asks {E = E} (state (sink_below now)) (state (sink_below new)) (Ok n) buf → n ≡ 0 → 0 < length buf → HasAllHeard program state first new heard
    ask_ended first now new heard buf n none can unsettled same stays asks no_more room = record {
      listened = listened_to_end (state (sink_below first)) (state (sink_below now)) (state (sink_below new)) heard buf n can.listens can.told.written unsettled asks no_more room;
      told = gathered_still first now new heard buf (Ok n) none can same stays asks;
    }

    -- some bytes came, and were heard
    pub heard_more : {T E F : Type 0} (first now mid new : GatheringSink S) (heard after buf : List ℕ) (n : ℕ) (value : T) → held first ≡ [] → CanAsk first now heard → program.is_settled heard ≡ false → through mid ≡ through now → held mid ≡ held now →
        Asks {E = E} (state (sink_below now)) (state (sink_below mid)) (Ok n) buf → 0 < n → length (heard ++ take n buf) ≤ program.longest + 1 → after ≡ heard ++ take n buf →
        TellsMore {E = F} program heard after (gathering_state state mid) (gathering_state state new) (Ok value) → IsUnderway program state first new after
    heard_more first now mid new heard after buf n value none can unsettled same stays asks some within is more = record {
      listens = subst (λ (r : Reading). Listens program (state (sink_below first)) r after) (sym more.put.ok.unread)
          (subst (Listens program (state (sink_below first)) (state (sink_below mid)).reading) (sym is)
          (listens_more (state (sink_below first)) (state (sink_below now)) (state (sink_below mid)) heard buf n can.listens can.told.written unsettled asks some within));
      told = subst (HasPut (sink_of (gathering_state state first)) (sink_of (gathering_state state new))) (sym more.is)
          (has_put_then (sink_of (gathering_state state first)) (sink_of (gathering_state state mid)) (sink_of (gathering_state state new)) (program.told heard) more.text
          (gathered_still first now mid heard buf (Ok n) none can same stays asks)
          (put_alone (gathering_state state mid) (gathering_state state new) more.text more.put.ok));
    }

    -- and what they call for was not written whole
    pub heard_short : {T E F : Type 0} (first now mid new : GatheringSink S) (heard after buf : List ℕ) (n : ℕ) (fault : F) → held first ≡ [] → CanAsk first now heard → program.is_settled heard ≡ false → through mid ≡ through now → held mid ≡ held now →
        Asks {E = E} (state (sink_below now)) (state (sink_below mid)) (Ok n) buf → 0 < n → length (heard ++ take n buf) ≤ program.longest + 1 → after ≡ heard ++ take n buf →
        TellsMore {T = T} program heard after (gathering_state state mid) (gathering_state state new) (Err fault) → LivePromises program (run_between program state first new 5)
    heard_short first now mid new heard after buf n fault none can unsettled same stays asks some within is more =
        cut_underway (state (sink_below first)) (state (sink_below new)) after
        (subst (λ (r : Reading). Listens program (state (sink_below first)) r after) (sym more.put.err.unread)
        (subst (Listens program (state (sink_below first)) (state (sink_below mid)).reading) (sym is)
        (listens_more (state (sink_below first)) (state (sink_below now)) (state (sink_below mid)) heard buf n can.listens can.told.written unsettled asks some within)))
        (cut_gathered first new (program.told after) none
        (cut_last (sink_of (gathering_state state first)) (sink_of (gathering_state state mid)) (sink_of (gathering_state state new)) (program.told heard) more.text (program.told after) more.is
        (gathered_still first now mid heard buf (Ok n) none can same stays asks)
        (cut_alone (gathering_state state mid) (gathering_state state new) more.text more.put.err)))

    pub all_heard : (first now : GatheringSink S) (heard : List ℕ) → IsUnderway program state first now heard → program.is_settled heard ≡ true → HasAllHeard program state first now heard
    all_heard first now heard way settled = record {
      listened = listened_settled (state (sink_below first)) (state (sink_below now)).reading heard way.listens settled;
      told = way.told;
    }

    -- ---- the rest of the answer

    pub finish_failed : {E : Type 0} (first now new : GatheringSink S) (heard : List ℕ) (fault : E) → held first ≡ [] → HasAllHeard program state first now heard →
        Finishes program heard (gathering_state state now) (gathering_state state new) (Err fault) → LivePromises program (run_between program state first new 5)
    finish_failed first now new heard fault none all rest =
        cut_answer (state (sink_below first)) (state (sink_below new)) heard
        (subst (λ (r : Reading). HasListened program (state (sink_below first)) r heard) (sym rest.put.err.unread) all.listened)
        (cut_gathered first new (program.answer heard).text none
        (cut_last (sink_of (gathering_state state first)) (sink_of (gathering_state state now)) (sink_of (gathering_state state new)) (program.told heard) rest.text (program.answer heard).text rest.is all.told
        (cut_alone (gathering_state state now) (gathering_state state new) rest.text rest.put.err)))

    -- it was written, and what is held is handed over
    pub finished : {E : Type 0} (first now mid new : GatheringSink S) (heard : List ℕ) (status end : ℕ) → held first ≡ [] → is_no_answer (program.answer heard).status ≡ false → HasAllHeard program state first now heard →
        Finishes {E = E} program heard (gathering_state state now) (gathering_state state mid) (Ok status) → HandsOver state (sink_below mid) (sink_below new) (held mid) status end →
        LivePromises program (run_between program state first new end)
    finished first now mid new heard status end none own all rest over =
        by (over.rest (other status (program.answer heard).status 1 rest.status no.0) (other status (program.answer heard).status 5 rest.status no.3))
      where
        no : (nat_eq (program.answer heard).status 1 ≡ false) × (nat_eq (program.answer heard).status 2 ≡ false) × (nat_eq (program.answer heard).status 4 ≡ false) × (nat_eq (program.answer heard).status 5 ≡ false)
        no = none_of (program.answer heard).status own

        listened : HasListened program (state (sink_below first)) (state (sink_below mid)).reading heard
        listened = subst (λ (r : Reading). HasListened program (state (sink_below first)) r heard) (sym rest.put.ok.unread) all.listened

        told : HasPut (sink_of (gathering (through first) [] first.failed (state (sink_below first)))) (sink_of (gathering_state state mid)) (program.answer heard).text
        told = subst (λ (s : SinkState). HasPut (sink_of s) (sink_of (gathering_state state mid)) (program.answer heard).text) (from_empty first none)
            (subst (HasPut (sink_of (gathering_state state first)) (sink_of (gathering_state state mid))) (sym rest.is)
            (has_put_then (sink_of (gathering_state state first)) (sink_of (gathering_state state now)) (sink_of (gathering_state state mid)) (program.told heard) rest.text all.told
            (put_alone (gathering_state state now) (gathering_state state mid) rest.text rest.put.ok)))

        by : ((end ≡ status) × HasPut (state (sink_below mid)) (state (sink_below new)) (held mid)) ⊎ ((end ≡ 5) × IsCutShort (state (sink_below mid)) (state (sink_below new)) (held mid)) →
            LivePromises program (run_between program state first new end)
        by (inl put) =
            answered_whole (state (sink_below first)) (state (sink_below new)) heard end
            (subst (λ (r : Reading). HasListened program (state (sink_below first)) r heard) (sym put.1.unread) listened) own (put.0 ∙ rest.status)
            (put_below (sink_of (state (sink_below first))) (sink_of (state (sink_below mid))) (sink_of (state (sink_below new))) (through first) (through mid) (held mid) (program.answer heard).text first.failed mid.failed told
            (put_alone (state (sink_below mid)) (state (sink_below new)) (held mid) put.1))
        by (inr cut) =
            subst (λ (s : ℕ). LivePromises program (run_between program state first new s)) (sym cut.0)
            (cut_answer (state (sink_below first)) (state (sink_below new)) heard
            (subst (λ (r : Reading). HasListened program (state (sink_below first)) r heard) (sym cut.1.unread) listened)
            (short_below (sink_of (state (sink_below first))) (sink_of (state (sink_below mid))) (sink_of (state (sink_below new))) (through first) (through mid) (held mid) (program.answer heard).text first.failed mid.failed told
            (cut_alone (state (sink_below mid)) (state (sink_below new)) (held mid) cut.1)))
