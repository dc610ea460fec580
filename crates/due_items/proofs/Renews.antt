-- Flags brought up to date in steps.
use Rattle.std.proofs.Common.{◌≡◌, ◌∙◌, ◌≢◌, ℕ, ◌+◌, ◌<◌, ◌≤◌, Bool, true, Some, None, length, refl, sym, ap, subst, arith, ◌⊎◌, inl, inr, ⊎_elim, get_or-set_same, get_or-set_other}
use Rattle.std.proofs.lemmas.Bool.{cases_eq}
use Rattle.std.proofs.lemmas.List.{length-set}
use Rattle.batch_records.specs.DayRecord.{Day}
use Rattle.commit_journal.specs.Line.{History}
use Rattle.machine.specs.Records.Messages.{entries}
use Rattle.machine.specs.Stages.Pending.{item}
use Rattle.number_set.specs.Members.{has}
use Rattle.scan_laws.specs.Numbers.{IsItem, item_count, item_number, item_of}
use Rattle.scan_laws.proofs.NumberFacts.{item-is, number-back}
use Rattle.day_facts.specs.Facts.{Facts, StandsFor}
use Rattle.due_items.specs.Due.{due_at, is_due}
use Rattle.due_items.specs.Index.{Index, IsIndexOf}
use Rattle.due_items.specs.Renewing.{Flags, HaveRoom, IsBelow, IsOf, IsOfBelow, IsThis, Renews, RenewsBy, put_at}
use Rattle.due_items.specs.Row.{IsNumber}

-- ---- none, one after the other, fewer

pub renews_none : (day : Day) (K : History) (which : ℕ → ℕ → Type 0) (set : Flags) → HaveRoom day set → ((m j : ℕ) → IsItem day m j → which m j → ⊥) → Renews day K which set set
renews_none day K which set room none = record {
  room = room;
  keeps = λ i e. e;
  renewed = λ i h is. absurd (none (item_of day i).msg (item_of day i).entry (item-is day i h) is);
  spare = refl;
  still_told = λ i e. e;
  told = λ i h is. absurd (none (item_of day i).msg (item_of day i).entry (item-is day i h) is);
}

pub renews_then : (day : Day) (K : History) (first second which : ℕ → ℕ → Type 0) (a b c : Flags) → Renews day K first a b → Renews day K second b c → ((m j : ℕ) → IsItem day m j → which m j → first m j ⊎ second m j) → Renews day K which a c
renews_then day K first second which a b c r s either = record {
  room = s.room;
  keeps = λ i e. s.keeps i (r.keeps i e);
  renewed = λ i h is. ⊎_elim
      (λ (x : first (item_of day i).msg (item_of day i).entry). s.keeps i (r.renewed i h x))
      (λ (y : second (item_of day i).msg (item_of day i).entry). s.renewed i h y)
      (either (item_of day i).msg (item_of day i).entry (item-is day i h) is);
  spare = s.spare ∙ r.spare;
  still_told = λ i e. s.still_told i (r.still_told i e);
  told = λ i h is. ⊎_elim
      (λ (x : first (item_of day i).msg (item_of day i).entry). s.still_told i (r.told i h x))
      (λ (y : second (item_of day i).msg (item_of day i).entry). s.told i h y)
      (either (item_of day i).msg (item_of day i).entry (item-is day i h) is);
}

pub renews_fewer : (day : Day) (K : History) (which fewer : ℕ → ℕ → Type 0) (a b : Flags) → Renews day K which a b → ((m j : ℕ) → IsItem day m j → fewer m j → which m j) → Renews day K fewer a b
renews_fewer day K which fewer a b r into = record {
  room = r.room;
  keeps = r.keeps;
  renewed = λ i h is. r.renewed i h (into (item_of day i).msg (item_of day i).entry (item-is day i h) is);
  spare = r.spare;
  still_told = r.still_told;
  told = λ i h is. r.told i h (into (item_of day i).msg (item_of day i).entry (item-is day i h) is);
}

-- the same by facts

pub by_none : (day : Day) (facts : Facts) (index : Index) (which : History → ℕ → ℕ → Type 0) (set : Flags) → ((K : History) → StandsFor day K facts → (m j : ℕ) → IsItem day m j → which K m j → ⊥) → RenewsBy day facts index which set set
by_none day facts index which set none K stands r len = renews_none day K (which K) set len (none K stands)

pub by_then : (day : Day) (facts : Facts) (index : Index) (first second which : History → ℕ → ℕ → Type 0) (a b c : Flags) → RenewsBy day facts index first a b → RenewsBy day facts index second b c → ((K : History) → StandsFor day K facts → (m j : ℕ) → IsItem day m j → which K m j → first K m j ⊎ second K m j) → RenewsBy day facts index which a c
by_then day facts index first second which a b c r s either K stands e len =
    let x = r K stands e len in
    renews_then day K (first K) (second K) (which K) a b c x (s K stands e x.room) (either K stands)

pub by_fewer : (day : Day) (facts : Facts) (index : Index) (which fewer : History → ℕ → ℕ → Type 0) (a b : Flags) → RenewsBy day facts index which a b → ((K : History) → StandsFor day K facts → (m j : ℕ) → IsItem day m j → fewer K m j → which K m j) → RenewsBy day facts index fewer a b
by_fewer day facts index which fewer a b r into K stands e len = renews_fewer day K (which K) (fewer K) a b (r K stands e len) (into K stands)

-- ---- one item

-- its number is found, and the flag put
pub renews_this : (day : Day) (facts : Facts) (index : Index) (n k i : ℕ) (due : Bool) (old new : Flags) → (IsIndexOf day index → IsNumber day n k (Some i)) → ((K : History) → StandsFor day K facts → due ≡ is_due day K (item n k)) → new ≡ put_at i due old → RenewsBy day facts index (λ K. IsThis n k) old new
renews_this day facts index n k i due old new number right e K stands r len = record {
  room = record {
    due = ap (λ (x : Flags). length x.due) e ∙ length-set old.due i due ∙ len.due;
    renewed = ap (λ (x : Flags). length x.renewed) e ∙ length-set old.renewed i true ∙ len.renewed;
  };
  keeps = λ j before. ⊎_elim
      (λ (q : j ≡ i). ap (λ x. has new.due x) q ∙ here ∙ ap (due_at day K) (sym q))
      (λ (ne : j ≢ i). ap (λ (x : Flags). has x.due j) e ∙ get_or-set_other old.due i j due _ ne ∙ before)
      (cases_eq j i);
  renewed = λ j h is. let q = same j h is in ap (λ x. has new.due x) q ∙ here ∙ ap (due_at day K) (sym q);
  spare = ap (λ (x : Flags). x.room) e;
  still_told = λ j before. ⊎_elim
      (λ (q : j ≡ i). ap (λ x. has new.renewed x) q ∙ told_here)
      (λ (ne : j ≢ i). ap (λ (x : Flags). has x.renewed j) e ∙ get_or-set_other old.renewed i j true _ ne ∙ before)
      (cases_eq j i);
  told = λ j h is. ap (λ x. has new.renewed x) (same j h is) ∙ told_here;
}
  where
    at : (i < item_count day) × (item_of day i ≡ item n k)
    at = number r

    here : has new.due i ≡ due_at day K i
    here =
        let w = at.0 in
        let l : length old.due ≡ item_count day = len.due in
        ap (λ (x : Flags). has x.due i) e ∙ get_or-set_same old.due i due _ (omega (arith, w, l)) ∙ right K stands ∙ ap (is_due day K) (sym at.1)

    told_here : has new.renewed i ≡ true
    told_here =
        let w = at.0 in
        let l : length old.renewed ≡ item_count day = len.renewed in
        ap (λ (x : Flags). has x.renewed i) e ∙ get_or-set_same old.renewed i true _ (omega (arith, w, l))

    same : (j : ℕ) → j < item_count day → IsThis n k (item_of day j).msg (item_of day j).entry → j ≡ i
    same j h is =
        sym (number-back day j h)
        ∙ (λ t. item_number day (is.0 t) (is.1 t))
        ∙ (λ t. item_number day (sym at.1 t).msg (sym at.1 t).entry)
        ∙ number-back day i at.0

-- the day doesn't have it
pub renews_missing : (day : Day) (facts : Facts) (index : Index) (n k : ℕ) (set : Flags) → (IsIndexOf day index → IsNumber day n k None) → RenewsBy day facts index (λ K. IsThis n k) set set
renews_missing day facts index n k set missing K stands r len = renews_none day K (IsThis n k) set len (λ m j is this. missing r (subst (λ x. IsItem day x k) this.0 (subst (λ y. IsItem day m y) this.1 is)))

-- ---- the items of a message, one after the other

pub renews_first : (day : Day) (facts : Facts) (index : Index) (n : ℕ) (set : Flags) → RenewsBy day facts index (λ K. IsOfBelow n 0) set set
renews_first day facts index n set = by_none day facts index (λ K. IsOfBelow n 0) set (λ K stands m j is of. let f = of.1 in omega (arith, f))

pub renews_more : (day : Day) (facts : Facts) (index : Index) (n k : ℕ) (a b c : Flags) → RenewsBy day facts index (λ K. IsOfBelow n k) a b → RenewsBy day facts index (λ K. IsThis n k) b c → RenewsBy day facts index (λ K. IsOfBelow n (k + 1)) a c
renews_more day facts index n k a b c r s = by_then day facts index (λ K. IsOfBelow n k) (λ K. IsThis n k) (λ K. IsOfBelow n (k + 1)) a b c r s (λ K stands m j is of.
    ⊎_elim
    (λ (q : j ≡ k). inr (of.0, q))
    (λ (ne : j ≢ k). let f = of.1 in inl (of.0, omega (arith, f, ne)))
    (cases_eq j k))

pub renews_message : (day : Day) (facts : Facts) (index : Index) (n k count : ℕ) (a b : Flags) → count ≡ length (entries day n) → k ≡ count + 1 → RenewsBy day facts index (λ K. IsOfBelow n k) a b → RenewsBy day facts index (λ K. IsOf n) a b
renews_message day facts index n k count a b c e r = by_fewer day facts index (λ K. IsOfBelow n k) (λ K. IsOf n) a b r (λ K stands m j is of.
    let l : j ≤ length (entries day n) = subst (λ x. j ≤ length (entries day x)) of is.entry in
    (of, omega (arith, l, c, e)))

-- ---- all items of the day

pub renews_begin : (day : Day) (facts : Facts) (index : Index) (set : Flags) → RenewsBy day facts index (λ K. IsBelow 1) set set
renews_begin day facts index set = by_none day facts index (λ K. IsBelow 1) set (λ K stands m j is below. let f = is.first in omega (arith, below, f))

pub renews_next : (day : Day) (facts : Facts) (index : Index) (n : ℕ) (a b c : Flags) → RenewsBy day facts index (λ K. IsBelow n) a b → RenewsBy day facts index (λ K. IsOf n) b c → RenewsBy day facts index (λ K. IsBelow (n + 1)) a c
renews_next day facts index n a b c r s = by_then day facts index (λ K. IsBelow n) (λ K. IsOf n) (λ K. IsBelow (n + 1)) a b c r s (λ K stands m j is below.
    ⊎_elim
    (λ (q : m ≡ n). inr q)
    (λ (ne : m ≢ n). inl (omega (arith, below, ne)))
    (cases_eq m n))

pub renews_all : (day : Day) (facts : Facts) (index : Index) (n : ℕ) (a b : Flags) → n ≡ length day.messages + 1 → RenewsBy day facts index (λ K. IsBelow n) a b → RenewsBy day facts index (λ K. IsBelow (length day.messages + 1)) a b
renews_all day facts index n a b e r = by_fewer day facts index (λ K. IsBelow n) (λ K. IsBelow (length day.messages + 1)) a b r (λ K stands m j is below. omega (arith, below, e))
