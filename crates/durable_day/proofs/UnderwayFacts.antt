-- A store on its way to the end of the day.
use Rattle.std.proofs.Common.{◌≡◌, ◌⊎◌, inl, inr, ℕ, suc, ◌+◌, ◌*◌, ◌-◌, ◌<◌, ◌≤◌, Bool, true, false, List, [], ◌∷◌, ◌++◌, length, refl, sym, ap, subst, ◌∙◌, arith}
use Rattle.std.proofs.lemmas.List.{length-append}
use Rattle.outside_io.specs.Causes.{one_more}
use Rattle.batch_records.specs.DayRecord.{Day}
use Rattle.batch_records.specs.Sound.{is_sound}
use Rattle.commit_journal.specs.Line.{Line, History}
use Rattle.commit_journal.specs.Histories.{Begins}
use Rattle.machine.specs.Telling.History.{is_ended}
use Rattle.machine.specs.Legal.{IsLegal, is_complete}
use Rattle.disk_model.specs.Cut.{IsCut, IsCutForLess}
use Rattle.disk_model.specs.Lasting.{LastsForLess, StillLasts}
use Rattle.disk_model.specs.Runs.{LeavesOnly}
use Rattle.disk_model.proofs.CutFacts.{cut_as, cut_none, cut_off, cut_on}
use Rattle.disk_model.proofs.RunFacts.{lasts_less, lasts_on, lasts_still, started, then_run}
use Rattle.durable_day.specs.Appending.{newest_by, newest_bytes}
use Rattle.durable_day.specs.Bytes.{entry, stored, StandsFor}
use Rattle.durable_day.specs.Onward.{HasGoneOn, StandsOnTheWay, StoppedOnTheWay, gone_by, gone_on, missing, missing_bytes, next_want, with_next}
use Rattle.durable_day.specs.Stores.{IsStore, OnStore}
use Rattle.durable_day.proofs.ShownFacts.{gone_line, gone_none}
use Rattle.durable_day.proofs.GoneOn.{appended, begins_more, begins_same, gone_complete, gone_next, gone_over, grows-gone_on, on_the_way, runs-next, some_line}
use Rattle.durable_day.proofs.OnwardFacts.{next_has_line}

-- ---- bytes

stored_grows : (J more : History) → length (stored J) ≤ length (stored (more ++ J))
unfolding stored
stored_grows J [] = omega arith
stored_grows J (l ∷ more) = let so_far = stored_grows J more in omega (arith, so_far, length-append (stored (more ++ J)) (entry (suc (length (more ++ J))) l))

stored_begins : (J K : History) → Begins J K → length (stored J) ≤ length (stored K)
stored_begins J K (more, is) = let grows = stored_grows J more in omega (arith, grows, ap (λ (H : History). length (stored H)) is)

length_begins : (J K : History) → Begins J K → length J ≤ length K
length_begins J K (more, is) = omega (arith, ap length is, length-append more J)

newest_is : (J : History) (l : Line) → newest_bytes (l ∷ J) + length (stored J) ≡ length (stored (l ∷ J)) + 1
unfolding stored
newest_is J l = omega (arith, length-append (stored J) (entry (suc (length J)) l))

-- ---- a line more

-- of a journal that goes on, what the next line adds
record IsNextLine (day : Day) (J : History) : Type 0 where
  line : Line
  is : with_next day J ≡ line ∷ J
  legal : IsLegal day (with_next day J)
  same : gone_on day (with_next day J) ≡ gone_on day J
  to : Begins (with_next day J) (gone_on day J)

next_line_of : (day : Day) (J : History) → is_sound day ≡ true → IsLegal day J → is_ended J ≡ false → IsNextLine day J
next_line_of day J sound legal e =
    let line = some_line day J (next_want day J) (next_has_line day J sound legal e) in
    let is : with_next day J ≡ line.0 ∷ J = appended day J (next_want day J) line.0 line.1 in
    let same : gone_on day (with_next day J) ≡ gone_on day J = sym (gone_next day J sound legal e) in
    let to = (grows-gone_on day (with_next day J)).beginning in
    record {
      line = line.0;
      is = is;
      legal = ((runs-next day sound).grows J).legal legal;
      same = same;
      to = (to.0, sym same ∙ to.1);
    }

-- ---- underway

pub record IsUnderway {D : Type 0} (seen : D → List ℕ) (clock : D → ℕ) (since : D → ℕ → List ℕ → Type 0) (lasts cut_after : D → ℕ → ℕ → ℕ → Type 0) (faults : D → ℕ) (start now : OnStore D) : Type 0 where
  pub day : now.day ≡ start.day
  pub same : gone_on start.day now.history ≡ gone_on start.day start.history
  pub from : Begins start.history now.history
  pub moments : LeavesOnly clock since start.disk now.disk (StandsOnTheWay start.day start.history 0)
  pub time : clock now.disk + 4 * length start.history ≤ clock start.disk + 4 * length now.history
  pub kept : faults now.disk ≡ faults start.disk
  pub stands : StandsFor start.history (seen start.disk)
  pub cut : IsCut seen cut_after start.disk now.disk true (4 * (length now.history - length start.history)) (4 * (length now.history - length start.history)) (length (stored now.history) - length (stored start.history) + (length now.history - length start.history)) (gone_by start.day start.history (seen start.disk))
  pub sure : StillLasts lasts faults start.disk now.disk (4 * (length now.history - length start.history)) (4 * (length now.history - length start.history)) (length (stored now.history) - length (stored start.history) + (length now.history - length start.history))

module _ {D : Type 0} (seen : D → List ℕ) (image : D → List ℕ → Type 0) (clock : D → ℕ) (since : D → ℕ → List ℕ → Type 0) (lasts cut_after : D → ℕ → ℕ → ℕ → Type 0) (faults : D → ℕ) (less : LastsForLess lasts) (cut_less : IsCutForLess cut_after) where
  pub sets_out : (start : OnStore D) → IsStore seen image start → ((c : List ℕ) → since start.disk (clock start.disk) c → image start.disk c) → IsUnderway seen clock since lasts cut_after faults start start
  sets_out start known now = record {
    day = refl;
    same = refl;
    from = begins_same start.history;
    moments = started seen image clock since start.disk (StandsOnTheWay start.day start.history 0)
        (λ c left. on_the_way start.day start.history start.history 0 c known.legal (begins_same start.history) refl (omega arith) (subst (StandsFor start.history) (sym (known.only c (now c left))) known.stands));
    time = omega arith;
    kept = refl;
    stands = known.stands;
    cut =
        let none : 0 ≡ 4 * (length start.history - length start.history) = omega arith in
        subst (λ (n : ℕ). IsCut seen cut_after start.disk start.disk true n (4 * (length start.history - length start.history)) (length (stored start.history) - length (stored start.history) + (length start.history - length start.history)) (gone_by start.day start.history (seen start.disk))) none
        (cut_as seen cut_after cut_less start.disk start.disk true 0 0 0 _ _ (λ (k : ℕ). seen start.disk) (gone_by start.day start.history (seen start.disk)) (omega arith) (omega arith) (λ k low. sym (gone_none start.day start.history (seen start.disk) k (omega (arith, low)))) (cut_none seen cut_after cut_less start.disk));
    sure = lasts_still lasts faults less start.disk _ _ _;
  }

  -- what may be left while the next line is appended
  either_on_the_way : (start now : OnStore D) (lines : ℕ) (c : List ℕ) → IsUnderway seen clock since lasts cut_after faults start now → IsStore seen image now → is_ended now.history ≡ false → length start.history + lines ≤ length now.history → StandsFor now.history c ⊎ StandsFor (with_next now.day now.history) c → StandsOnTheWay start.day start.history lines c
  either_on_the_way start now lines c way known e few (inl older) = on_the_way start.day start.history now.history lines c (subst (λ (d : Day). IsLegal d now.history) way.day known.legal) way.from way.same few older
  either_on_the_way start now lines c way known e few (inr newer) =
      let next = next_line_of start.day now.history (subst (λ (d : Day). is_sound d ≡ true) way.day known.sound) (subst (λ (d : Day). IsLegal d now.history) way.day known.legal) e in
      let longer : Begins start.history (with_next start.day now.history) = subst (λ (H : History). Begins start.history H) (sym next.is) (begins_more start.history now.history next.line way.from) in
      on_the_way start.day start.history (with_next start.day now.history) lines c next.legal longer (next.same ∙ way.same) (omega (arith, few, ap length next.is)) (subst (λ (d : Day). StandsFor (with_next d now.history) c) way.day newer)

  -- the sum of what was sure and what the next line takes
  bytes_on : (start now : OnStore D) → IsUnderway seen clock since lasts cut_after faults start now → IsNextLine start.day now.history →
      length (stored now.history) - length (stored start.history) + (length now.history - length start.history) + newest_bytes (with_next start.day now.history)
      ≤ length (stored (with_next start.day now.history)) - length (stored start.history) + (length (with_next start.day now.history) - length start.history)
  bytes_on start now way next =
      let size = ap newest_bytes next.is in
      let whole = newest_is now.history next.line in
      let longer = ap (λ (H : History). length (stored H)) next.is in
      let low = stored_begins start.history now.history way.from in
      let low_lines = length_begins start.history now.history way.from in
      omega (arith, size, whole, longer, low, low_lines, ap length next.is)

  -- what it shows that is cut while the next line is appended
  line_cut : (start now : OnStore D) (disk : D) (well : Bool) → IsUnderway seen clock since lasts cut_after faults start now → IsNextLine start.day now.history → now.day ≡ start.day →
      IsCut seen cut_after now.disk disk well 4 4 (newest_bytes (with_next now.day now.history)) (newest_by (with_next now.day now.history) (seen now.disk)) →
      IsCut seen cut_after start.disk disk well (4 * (length now.history - length start.history) + 4) (4 * (length now.history - length start.history) + 4) (length (stored (with_next start.day now.history)) - length (stored start.history) + (length (with_next start.day now.history) - length start.history)) (gone_by start.day start.history (seen start.disk))
  line_cut start now disk well way next same cut =
      let n : ℕ = 4 * (length now.history - length start.history) in
      let old : List ℕ = seen start.disk in
      let is : with_next now.day now.history ≡ next.line ∷ now.history = ap (λ (d : Day). with_next d now.history) same ∙ next.is in
      let further : Begins (next.line ∷ now.history) (gone_on start.day start.history) = (next.to.0, sym way.same ∙ next.to.1 ∙ ap (λ (H : History). next.to.0 ++ H) next.is) in
      let to : Begins now.history (gone_on start.day start.history) = let on = (grows-gone_on start.day now.history).beginning in (on.0, sym way.same ∙ on.1) in
      let second : IsCut seen cut_after now.disk disk well 4 4 (newest_bytes (with_next now.day now.history)) (newest_by (next.line ∷ now.history) (seen now.disk)) =
      subst (λ (H : History). IsCut seen cut_after now.disk disk well 4 4 (newest_bytes (with_next now.day now.history)) (newest_by H (seen now.disk))) is cut in
      cut_on seen cut_after cut_less start.disk now.disk disk well n n (length (stored now.history) - length (stored start.history) + (length now.history - length start.history)) 4 4 (newest_bytes (with_next now.day now.history)) (n + 4) (n + 4) _
      (gone_by start.day start.history old) (newest_by (next.line ∷ now.history)) (gone_by start.day start.history old) refl (omega arith) (omega (arith, bytes_on start now way next, ap newest_bytes (ap (λ (d : Day). with_next d now.history) same)))
      (λ k low. refl) (λ k low. gone_line start.day start.history now.history old way.stands way.from to next.line further k low) way.cut second

  pub goes_further : (start now later : OnStore D) → IsUnderway seen clock since lasts cut_after faults start now → IsStore seen image now → is_ended now.history ≡ false →
      (later.day ≡ now.day) × (later.history ≡ with_next now.day now.history) × IsStore seen image later × (faults later.disk ≡ faults now.disk) →
      LeavesOnly clock since now.disk later.disk (λ c. StandsFor now.history c ⊎ StandsFor (with_next now.day now.history) c) → clock later.disk ≤ clock now.disk + 4 →
      StillLasts lasts faults now.disk later.disk 4 4 (newest_bytes (with_next now.day now.history)) → IsCut seen cut_after now.disk later.disk true 4 4 (newest_bytes (with_next now.day now.history)) (newest_by (with_next now.day now.history) (seen now.disk)) → IsUnderway seen clock since lasts cut_after faults start later
  goes_further start now later way known e made run few sure cut =
      let next = next_line_of start.day now.history (subst (λ (d : Day). is_sound d ≡ true) way.day known.sound) (subst (λ (d : Day). IsLegal d now.history) way.day known.legal) e in
      let is : later.history ≡ with_next start.day now.history = made.1 ∙ ap (λ (d : Day). with_next d now.history) way.day in
      let lines = ap length (is ∙ next.is) in
      let low = length_begins start.history now.history way.from in
      let bytes = bytes_on start now way next in
      let taken = ap newest_bytes (ap (λ (d : Day). with_next d now.history) way.day) in
      let ends = ap (λ (H : History). length (stored H)) is in
      let lines_so_far : ℕ = length now.history - length start.history in
      let bytes_so_far : ℕ = length (stored now.history) - length (stored start.history) in
      record {
        day = made.0 ∙ way.day;
        same = ap (gone_on start.day) is ∙ next.same ∙ way.same;
        from = subst (λ (H : History). Begins start.history H) (sym (is ∙ next.is)) (begins_more start.history now.history next.line way.from);
        moments = then_run seen image clock since start.disk now.disk later.disk (StandsOnTheWay start.day start.history 0) _ way.moments run (λ c stands. either_on_the_way start now 0 c way known e (omega (arith, low)) stands);
        time = omega (arith, way.time, few, lines);
        kept = made.3 ∙ way.kept;
        stands = way.stands;
        cut =
            let count : 4 * (length now.history - length start.history) + 4 ≡ 4 * (length later.history - length start.history) = omega (arith, lines, low) in
            subst (λ (k : ℕ). IsCut seen cut_after start.disk later.disk true k (4 * (length later.history - length start.history)) (length (stored later.history) - length (stored start.history) + (length later.history - length start.history)) (gone_by start.day start.history (seen start.disk))) count
            (cut_as seen cut_after cut_less start.disk later.disk true (4 * (length now.history - length start.history) + 4) (4 * (length now.history - length start.history) + 4) _ _ _ (gone_by start.day start.history (seen start.disk)) (gone_by start.day start.history (seen start.disk)) (omega (arith, lines, low)) (omega (arith, ends, ap length is)) (λ k few. refl)
            (line_cut start now later.disk true way next way.day cut));
        sure = lasts_on lasts faults less start.disk now.disk later.disk (4 * lines_so_far) (4 * lines_so_far) (bytes_so_far + lines_so_far) 4 4 (newest_bytes (with_next now.day now.history))
            (4 * (length later.history - length start.history)) (4 * (length later.history - length start.history)) (length (stored later.history) - length (stored start.history) + (length later.history - length start.history)) (omega (arith, lines, low)) (omega (arith, lines, low)) (omega (arith, bytes, taken, ends, ap length is)) way.sure sure;
      }

  -- a call failed while the next line was appended
  pub stops_there : (start now : OnStore D) (disk : D) → IsUnderway seen clock since lasts cut_after faults start now → IsStore seen image now → is_ended now.history ≡ false →
      faults disk ≡ one_more (faults now.disk) → LeavesOnly clock since now.disk disk (λ c. StandsFor now.history c ⊎ StandsFor (with_next now.day now.history) c) → clock disk ≤ clock now.disk + 4 →
      StillLasts lasts faults now.disk disk 4 4 (newest_bytes (with_next now.day now.history)) → IsCut seen cut_after now.disk disk false 4 4 (newest_bytes (with_next now.day now.history)) (newest_by (with_next now.day now.history) (seen now.disk)) → ((t : ℕ) (c : List ℕ) → t ≤ clock disk → image disk c → since disk t c) → StoppedOnTheWay seen image clock lasts cut_after faults start disk
  stops_there start now disk way known e fault run few sure cut counts =
      let next = next_line_of start.day now.history (subst (λ (d : Day). is_sound d ≡ true) way.day known.sound) (subst (λ (d : Day). IsLegal d now.history) way.day known.legal) e in
      let lines : ℕ = length now.history - length start.history in
      let low = length_begins start.history now.history way.from in
      let most = length_begins (with_next start.day now.history) (gone_on start.day now.history) next.to in
      let whole = stored_begins (with_next start.day now.history) (gone_on start.day now.history) next.to in
      let longer = ap length next.is in
      let end = ap length way.same in
      let ends = ap (λ (H : History). length (stored H)) way.same in
      let bytes = bytes_on start now way next in
      let taken = ap newest_bytes (ap (λ (d : Day). with_next d now.history) way.day) in
      record {
        lines = lines;
        not_all = omega (arith, low, most, longer, end);
        stands = λ c left. either_on_the_way start now lines c way known e (omega (arith, low)) (run.each c (counts (clock now.disk) c run.later left));
        time = omega (arith, way.time, few, low);
        counted = fault ∙ ap one_more way.kept;
        cut = cut_off seen cut_after cut_less start.disk disk (4 * lines + 4) (4 * lines + 4) _ (4 * missing start.day start.history) (4 * missing start.day start.history) (missing_bytes start.day start.history) (gone_by start.day start.history (seen start.disk)) (gone_by start.day start.history (seen start.disk))
            (omega (arith, low, most, longer, end)) (omega (arith, low, most, longer, end)) (omega (arith, whole, ends, most, end, longer, low)) (λ k few. refl) (line_cut start now disk false way next way.day cut);
        sure = lasts_on lasts faults less start.disk now.disk disk (4 * lines) (4 * lines) (length (stored now.history) - length (stored start.history) + lines) 4 4 (newest_bytes (with_next now.day now.history))
            (4 * (lines + 1)) (4 * (lines + 1)) (missing_bytes start.day start.history) (omega (arith, low)) (omega (arith, low)) (omega (arith, bytes, taken, whole, ends, most, end, longer, low)) way.sure sure;
      }

  pub stops_moments : (start now : OnStore D) (disk : D) → IsUnderway seen clock since lasts cut_after faults start now → IsStore seen image now → is_ended now.history ≡ false → LeavesOnly clock since now.disk disk (λ c. StandsFor now.history c ⊎ StandsFor (with_next now.day now.history) c) → LeavesOnly clock since start.disk disk (StandsOnTheWay start.day start.history 0)
  stops_moments start now disk way known e run =
      let low = length_begins start.history now.history way.from in
      then_run seen image clock since start.disk now.disk disk (StandsOnTheWay start.day start.history 0) _ way.moments run (λ c stands. either_on_the_way start now 0 c way known e (omega (arith, low)) stands)

  -- the End line stands
  pub arrives : (start now : OnStore D) → IsUnderway seen clock since lasts cut_after faults start now → IsStore seen image now → is_ended now.history ≡ true → HasGoneOn seen image clock lasts cut_after faults start now
  arrives start now way known e =
      let is : now.history ≡ gone_on start.day start.history = sym (gone_over start.day now.history e) ∙ way.same in
      let sound = subst (λ (d : Day). is_sound d ≡ true) way.day known.sound in
      let legal = subst (λ (d : Day). IsLegal d now.history) way.day known.legal in
      let lines = ap length is in
      let low = length_begins start.history now.history way.from in
      let ends = ap (λ (H : History). length (stored H)) is in
      record {
        day = way.day;
        lines = is;
        complete = ap is_complete (sym (gone_over start.day now.history e)) ∙ gone_complete start.day now.history sound legal;
        is = known;
        time = omega (arith, way.time, lines, low);
        kept = way.kept;
        cut =
            let count : 4 * (length now.history - length start.history) ≡ 4 * missing start.day start.history = omega (arith, lines) in
            subst (λ (k : ℕ). IsCut seen cut_after start.disk now.disk true k (4 * missing start.day start.history) (missing_bytes start.day start.history) (gone_by start.day start.history (seen start.disk))) count
            (cut_as seen cut_after cut_less start.disk now.disk true (4 * (length now.history - length start.history)) (4 * (length now.history - length start.history)) _ _ _ (gone_by start.day start.history (seen start.disk)) (gone_by start.day start.history (seen start.disk)) (omega (arith, lines)) (omega (arith, lines, ends)) (λ k few. refl) way.cut);
        sure = lasts_less lasts faults less start.disk now.disk (4 * (length now.history - length start.history)) (4 * (length now.history - length start.history)) (length (stored now.history) - length (stored start.history) + (length now.history - length start.history))
            (4 * missing start.day start.history) (4 * missing start.day start.history) (missing_bytes start.day start.history) (omega (arith, lines)) (omega (arith, lines)) (omega (arith, lines, ends)) way.sure;
      }

  -- how far it is still
  pub comes_nearer : (start now later : OnStore D) → IsUnderway seen clock since lasts cut_after faults start now → IsStore seen image now → is_ended now.history ≡ false → later.history ≡ with_next now.day now.history → length (gone_on start.day start.history) - length later.history < length (gone_on start.day start.history) - length now.history
  comes_nearer start now later way known e is =
      let next = next_line_of start.day now.history (subst (λ (d : Day). is_sound d ≡ true) way.day known.sound) (subst (λ (d : Day). IsLegal d now.history) way.day known.legal) e in
      let most = length_begins (with_next start.day now.history) (gone_on start.day now.history) next.to in
      let one = ap length (is ∙ ap (λ (d : Day). with_next d now.history) way.day ∙ next.is) in
      omega (arith, most, one, ap length next.is, ap length way.same)
