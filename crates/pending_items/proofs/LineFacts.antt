-- The rows after one more line: those of the items that it doesn't concern stay as they are.
use Rattle.std.proofs.Common.{◌≡◌, ℕ, Bool, true, false, ◌&&◌, List, ◌∷◌, Option, Some, refl, sym, ap, ◌∙◌, subst}
use Rattle.std.specs.Prelude.{is_some, unwrap_or}
use Rattle.std.proofs.lemmas.Bool.{and_parts}
use Rattle.batch_records.specs.DayRecord.{Day}
use Rattle.commit_journal.specs.declared.line.Head.{Head}
use Rattle.commit_journal.specs.Line.{Line, History}
use Rattle.machine.specs.declared.answers.Item.{Item}
use Rattle.machine.specs.Records.Messages.{sort_of}
use Rattle.machine.specs.Telling.History.{taken}
use Rattle.machine.specs.Legal.{IsLegal}
use Rattle.machine.specs.Stages.Pending.{Standing, active_place, is_pending, item, standing}
use Rattle.payment_queue.specs.declared.row.Row.{Row}
use Rattle.payment_queue.specs.Queued.{row_in}
use Rattle.scan_laws.specs.Items.{IsSameItem, concerns_item}
use Rattle.scan_laws.proofs.Items.{same_item}
use Rattle.scan_laws.proofs.Queues.{standing_kept}
use Rattle.pending_items.specs.Numbers.{is_item, number}
use Rattle.pending_items.specs.Parts.{is_part, band, priority_of, row_of, waits, whole}
use Rattle.pending_items.specs.Items.{Fits, IsRight, KeepsRows, Lists, Renews}
use Rattle.pending_items.specs.Concerned.{IsMetBy}
use Rattle.pending_items.specs.Cycles.{AreBatches, Batches}
use Rattle.pending_items.specs.Ends.{AreEnds}
use Rattle.pending_items.proofs.HeadFacts.{whole_msg}

whole_is : (day : Day) (x : Item) → whole day x ≡ item x.msg (whole day x).entry
whole_is day x = λ i. record { msg = whole_msg day x i; entry = (whole day x).entry }

module _ (day : Day) (J : History) (l : Line) (legal : IsLegal day (l ∷ J)) where
  -- where the item of a row stands
  stood : (x : Item) → is_pending day J (whole day x) ≡ true → standing day (l ∷ J) (whole day x) ≡ standing day J (whole day x)
  stood x p =
      subst (λ (z : Item). standing day (l ∷ J) z ≡ standing day J z) (sym (whole_is day x))
      (standing_kept day J l x.msg (whole day x).entry legal (subst (λ (z : Item). is_pending day J z ≡ true) (whole_is day x) p))

  same_row : (x : Item) → waits day J x ≡ true → row_of day J x ≡ row_of day (l ∷ J) x
  same_row x w =
      let s = stood x (and_parts (is_part day x) (is_pending day J (whole day x)) w).1 in
      let own = λ (K : History). ap (λ n. unwrap_or (taken K n) 0) (sym (whole_msg day x)) in
      let intake : unwrap_or (taken J x.msg) 0 ≡ unwrap_or (taken (l ∷ J) x.msg) 0 = own J ∙ (sym (ap (λ (t : Standing). t.intake) s) ∙ sym (own (l ∷ J))) in
      let active : active_place day J (whole day x) ≡ active_place day (l ∷ J) (whole day x) = sym (ap (λ (t : Standing). t.active) s) in
      λ i. record {
        account = band day x;
        item = x;
        priority = priority_of (sort_of day x.msg) day x.msg;
        place = record { active = active i; intake = intake i; entry = number day x };
      }

  pub line_fits : (v : Lists) → KeepsRows day J v → Fits day (l ∷ J) v
  line_fits v k = record { sound = k.fits.sound; starts = k.fits.starts; items = k.fits.items; accounts = k.fits.accounts; rows = rows }
    where
      rows : (s : ℕ) (r : Row) → row_in v.queue.slots s ≡ Some r → (is_item day r.item ≡ true) × (r ≡ row_of day (l ∷ J) r.item)
      rows s r e =
          let old = k.fits.rows s r e in
          let does : waits day J r.item ≡ true = sym (k.right r.item old.0) ∙ ap is_some (k.fits.sound.back s r e) in
          (old.0, old.1 ∙ same_row r.item does)

  pub line_keeps : (old new : Lists) (head : Head) (ends : List (Option ℕ)) (batches : Batches) → l.head ≡ head → AreEnds day J ends → AreBatches day J batches → KeepsRows day J old → Renews day (l ∷ J) (IsMetBy day head ends batches (l ∷ J)) old new → KeepsRows day (l ∷ J) new
  line_keeps old new head ends batches e ae ab k r = record { fits = r.fits; right = λ x i. here x i (concerns_item day J l x.msg (whole day x).entry) refl }
    where
      here : (x : Item) → is_item day x ≡ true → (b : Bool) → concerns_item day J l x.msg (whole day x).entry ≡ b → IsRight day (l ∷ J) new x
      here x i true c = r.own x i (e, c, ae, ab)
      here x i false c =
          let same : IsSameItem day (l ∷ J) J x.msg (whole day x).entry = same_item day J l x.msg (whole day x).entry legal c in
          let pending : is_pending day J (whole day x) ≡ is_pending day (l ∷ J) (whole day x) =
          ap (is_pending day J) (whole_is day x) ∙ (sym same.same_pending ∙ ap (is_pending day (l ∷ J)) (sym (whole_is day x))) in
          r.others x i (k.right x i ∙ ap (λ b. is_part day x && b) pending)
