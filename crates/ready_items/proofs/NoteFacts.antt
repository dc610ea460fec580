-- After one more line what is kept is that of it and the lines before it.
use Rattle.std.proofs.Common.{◌≡◌, ◌∙◌, ℕ, ◌+◌, ◌<◌, ◌≤◌, Bool, true, false, not, ◌&&◌, ◌||◌, List, ◌∷◌, Option, Some, None, length, refl, sym, ap, subst, arith, ◌⊎◌, ⊎_elim, if◌then◌else◌, get_or-set_same, get_or-set_other}
use Rattle.std.specs.Prelude.{nat_le, nat_lt, option_map, slice_set, unwrap_or}
use Rattle.std.proofs.lemmas.Bool.{cases_Bool, cases_eq, cases_lt, false_from_ne_true, false≢true, ltb-true}
use Rattle.std.proofs.lemmas.List.{length-set}
use Rattle.batch_records.specs.DayRecord.{Day}
use Rattle.batch_records.specs.declared.day.Entry.{Entry}
use Rattle.commit_journal.specs.Line.{Line, History}
use Rattle.machine.specs.declared.answers.Item.{Item}
use Rattle.machine.specs.Records.Messages.{part}
use Rattle.machine.specs.Telling.Balances.{balance}
use Rattle.machine.specs.Stages.Pending.{is_blocked, is_pending, item, stands_on}
use Rattle.machine.specs.Legal.{IsLegal}
use Rattle.settlement_laws.proofs.Base.Lists.{never}
use Rattle.number_set.specs.Members.{IsEmpty, has}
use Rattle.scan_laws.specs.Candidates.{IsFirstRound}
use Rattle.scan_laws.specs.Items.{IsSameItem, concerns_item}
use Rattle.scan_laws.specs.Numbers.{IsItem, item_count, item_number, item_of}
use Rattle.scan_laws.specs.Queues.{HasSameQueue}
use Rattle.scan_laws.specs.Touched.{moves_on}
use Rattle.scan_laws.proofs.Frame.{balance_stays}
use Rattle.scan_laws.proofs.Items.{same_item}
use Rattle.scan_laws.proofs.NumberFacts.{item-is, item-there, number-back, number-within}
use Rattle.scan_laws.proofs.Queues.{queue_blocked}
use Rattle.number_set.specs.Next.{IsLeast, IsNext}
use Rattle.due_items.specs.Kept.{Due, KeepsDue, Tells}
use Rattle.pending_items.specs.Parts.{account_of, band}
use Rattle.pending_items.proofs.PartFacts.{row_there}
use Rattle.ready_items.specs.Goes.{asks, by_itself_at, goes_at, goes_on, is_placed}
use Rattle.ready_items.specs.Found.{candidate}
use Rattle.ready_items.specs.Normals.{Normals, pending_amount}
use Rattle.ready_items.specs.Kept.{Fits, KeepsReady, Ready}
use Rattle.ready_items.specs.Noting.{Grows, IsRight, PutsNormal, Renews, Touches, TouchesMoves}
use Rattle.ready_items.proofs.GoesFacts.{same_round}
use Rattle.ready_items.proofs.NormalFacts.{item_zero}

-- ---- flags that grow

pub grows_none : (flags : List Bool) → Grows flags flags
grows_none flags = record { size = refl; stay = λ a h. h }

pub grows_then : (a b c : List Bool) → Grows a b → Grows b c → Grows a c
grows_then a b c r s = record { size = s.size ∙ r.size; stay = λ i h. s.stay i (r.stay i h) }

-- ---- renewals

module _ (day : Day) (K : History) where
  pub renews_none : (which : ℕ → Type 0) (v : Ready) → Fits day v → ((i : ℕ) → i < item_count day → which i → ⊥) → Renews day K which v v
  renews_none which v fits none = record {
    fits = fits;
    found = refl;
    at = refl;
    grows = grows_none v.touched;
    keeps = λ i w r. r;
    right = λ i w is. absurd (none i w is);
    told = λ i w is. absurd (none i w is);
  }

  pub renews_then : (first second which : ℕ → Type 0) (a b c : Ready) → Renews day K first a b → Renews day K second b c → ((i : ℕ) → i < item_count day → which i → first i ⊎ second i) → Renews day K which a c
  renews_then first second which a b c r s either = record {
    fits = s.fits;
    found = s.found ∙ r.found;
    at = s.at ∙ r.at;
    grows = grows_then a.touched b.touched c.touched r.grows s.grows;
    keeps = λ i w k. s.keeps i w (r.keeps i w k);
    right = λ i w is. ⊎_elim (λ (x : first i). s.keeps i w (r.right i w x)) (λ (y : second i). s.right i w y) (either i w is);
    told = λ i w is. ⊎_elim
        (λ (x : first i). record { grows = grows_then a.touched b.touched c.touched r.grows s.grows; told = λ y n k e f l. s.grows.stay n ((r.told i w x).told y n k e f l) })
        (λ (y : second i). record { grows = grows_then a.touched b.touched c.touched r.grows s.grows; told = λ z n k e f l. let t = s.told i w y in t.told z n k e f (let g = r.grows.size in omega (arith, g, l)) })
        (either i w is);
  }

  -- one item
  pub renews_this : (i : ℕ) (x : Item) (flag : Bool) (normals : Normals) (set touched : List Bool) (v : Ready) → i < item_count day → x ≡ item_of day i → Fits day v → flag ≡ by_itself_at day K i → set ≡ slice_set v.alone i flag → Touches day x v.touched touched → PutsNormal day K i v.normals normals
      → Renews day K (λ j. j ≡ i) v (record { normals = normals; alone = set; found = v.found; touched = touched; at = v.at })
  renews_this i x flag normals set touched v inside e fits flag_is set_is touches puts = record {
    fits = record {
      payments = puts.have;
      alone = ap length set_is ∙ (length-set v.alone i flag ∙ fits.alone);
      members = fits.members;
      candidates = fits.candidates ∙ sym touches.grows.size;
      touched = subst (λ k. length day.accounts + 1 ≤ k) (sym touches.grows.size) fits.touched;
    };
    found = refl;
    at = refl;
    grows = touches.grows;
    keeps = λ j w r. ⊎_elim
        (λ (q : j ≡ i). this j q)
        (λ (ne : j ≡ i → ⊥). record {
          alone = ap (λ s. has s j) set_is ∙ (get_or-set_other v.alone i j flag _ ne ∙ r.alone);
          amount = λ n low high is normal. puts.keeps n low high normal (r.amount n low high is normal);
        })
        (cases_eq j i);
    right = λ j w q. this j q;
    told = λ j w q. subst (λ y. Touches day y v.touched touched) (e ∙ ap (item_of day) (sym q)) touches;
  }
    where
      this : (j : ℕ) → j ≡ i → IsRight day K (record { normals = normals; alone = set; found = v.found; touched = touched; at = v.at }) j
      this j q = record {
        alone = ap (has set) q ∙ (ap (λ s. has s i) set_is ∙ (get_or-set_same v.alone i flag _ (let l = fits.alone in omega (arith, l, inside)) ∙ (flag_is ∙ ap (by_itself_at day K) (sym q))));
        amount = λ n low high is normal. puts.right n low high (ap (item_of day) (sym q) ∙ is) normal;
      }

-- ---- what the line leaves

and_same : (b p q : Bool) → (b ≡ true → p ≡ q) → (b && p) ≡ (b && q)
and_same true p q h = h refl
and_same false p q h = refl

four_same : (p q s u v w z : Bool) → (s ≡ true → (p ≡ q) × (q ≡ true → u ≡ v)) → w ≡ z → (p && s && u && w) ≡ (q && s && v && z)
four_same true true true u v w z h e = λ t. (h refl).1 refl t && e t
four_same true false true u v w z h e = absurd (false≢true (sym (h refl).0))
four_same false true true u v w z h e = absurd (false≢true (h refl).0)
four_same false false true u v w z h e = refl
four_same true true false u v w z h e = refl
four_same true false false u v w z h e = refl
four_same false true false u v w z h e = refl
four_same false false false u v w z h e = refl

module _ (day : Day) (J : History) (l : Line) (legal : IsLegal day (l ∷ J)) (told : List Bool) (tells : Tells day J l told) (v w new : Ready) (keeps : KeepsReady day J v) (moved : TouchesMoves l.moves v.touched w.touched)
    (same : w ≡ record { normals = v.normals; alone = v.alone; found = v.found; touched = w.touched; at = v.at }) (renews : Renews day (l ∷ J) (λ j. has told j ≡ true) w new) where
  abbrev K : History
  K = l ∷ J

  unconcerned : (n k : ℕ) → concerns_item day J l n k ≡ false → IsSameItem day K J n k
  unconcerned n k c = same_item day J l n k legal c

  same_itself : (i : ℕ) → concerns_item day J l (item_of day i).msg (item_of day i).entry ≡ false → by_itself_at day K i ≡ by_itself_at day J i
  same_itself i c =
      let s = unconcerned (item_of day i).msg (item_of day i).entry c in
      λ t. unwrap_or (s.same_alone t) false || s.same_pending t && not (is_placed day (item_of day i))

  same_amount : (n : ℕ) → concerns_item day J l n 0 ≡ false → pending_amount day K n ≡ pending_amount day J n
  same_amount n c = let s = unconcerned n 0 c in λ t. if s.same_pending t then option_map (λ (e : Entry). e.amount) (part day n 0) else None

  still_right : (i : ℕ) → i < item_count day → concerns_item day J l (item_of day i).msg (item_of day i).entry ≡ false → IsRight day K w i
  still_right i low c = subst (λ (x : Ready). IsRight day K x i) (sym same) (record {
    alone = keeps.alone i low ∙ sym (same_itself i c);
    amount = λ n first last is normal. keeps.amounts n first last normal ∙ sym (same_amount n (subst (λ (x : Item). concerns_item day J l x.msg x.entry ≡ false) is c));
  })

  now_right : (i : ℕ) → i < item_count day → IsRight day K new i
  now_right i low = ⊎_elim
      (λ (c : concerns_item day J l (item_of day i).msg (item_of day i).entry ≡ true).
      renews.right i low (subst (λ j. has told j ≡ true) (number-back day i low) (tells (item_of day i).msg (item_of day i).entry (item-is day i low) c)))
      (λ (c : concerns_item day J l (item_of day i).msg (item_of day i).entry ≡ false). renews.keeps i low (still_right i low c))
      (cases_Bool (concerns_item day J l (item_of day i).msg (item_of day i).entry))

  -- ---- an account that isn't touched

  module _ (a : ℕ) (first : 1 ≤ a) (last : a ≤ length day.accounts) (clean : has new.touched a ≡ false) where
    clean_w : has w.touched a ≡ false
    clean_w = false_from_ne_true (has w.touched a) (λ h. never (has new.touched a) (renews.grows.stay a h) clean)

    clean_v : has v.touched a ≡ false
    clean_v = false_from_ne_true (has v.touched a) (λ h. never (has w.touched a) (moved.grows.stay a h) clean_w)

    room : a < length v.touched
    room = let r = keeps.fits.touched in omega (arith, r, last)

    not_moved : moves_on a l.moves ≡ false
    not_moved = false_from_ne_true (moves_on a l.moves) (λ h. never (has w.touched a) (moved.told a room h) clean_w)

    account_is : (x : Item) → band day x ≡ a + 1 → account_of day x ≡ Some a
    account_is x e = here (account_of day x) e
      where
        here : (o : Option ℕ) → unwrap_or o 0 + 1 ≡ a + 1 → o ≡ Some a
        here None q = absurd (omega (arith, q, first))
        here (Some b) q = (let s : b ≡ a = omega (arith, q) in ap Some s)

    -- a pending item that stands there isn't concerned
    apart : (H : History) (n k : ℕ) → IsItem day n k → is_pending day H (item n k) ≡ true → stands_on day a (item n k) ≡ true → concerns_item day J l n k ≡ true → ⊥
    apart H n k is p on c =
        let row = row_there day H a (item n k) p on in
        let y : Item = row.0 in
        let i : ℕ = item_number day n k in
        let touches = renews.told i (number-within day n k is) (tells n k is c) in
        let known : IsItem day y.msg y.entry = record { first = row.1.known.first; last = row.1.known.last; entry = row.1.known.within } in
        let size = moved.grows.size in
        never (has new.touched a) (touches.told y a known (row.1.of ∙ sym (item-there day n k is)) (account_is y row.1.on) (omega (arith, size, room))) clean

    queue : HasSameQueue day K J a
    queue n k low high within on = here (is_pending day K (item n k)) (is_pending day J (item n k)) refl refl
      where
        is : IsItem day n k
        is = record { first = low; last = high; entry = within }

        by : ((concerns_item day J l n k ≡ true) → ⊥) → is_pending day K (item n k) ≡ is_pending day J (item n k)
        by never_so = (unconcerned n k (false_from_ne_true (concerns_item day J l n k) never_so)).same_pending

        here : (b c : Bool) → is_pending day K (item n k) ≡ b → is_pending day J (item n k) ≡ c → is_pending day K (item n k) ≡ is_pending day J (item n k)
        here true c e f = by (apart K n k is e on)
        here false true e f = by (apart J n k is f on)
        here false false e f = e ∙ sym f

    goes_same : (x : ℕ) → goes_at day J a x ≡ goes_at day K a x
    goes_same x = and_same (nat_lt x (item_count day)) (goes_on day J a (item_of day x)) (goes_on day K a (item_of day x)) (λ b.
        let is = item-is day x (ltb-true x (item_count day) b) in
        let n = (item_of day x).msg in
        let k = (item_of day x).entry in
        sym (four_same (is_pending day K (item n k)) (is_pending day J (item n k)) (stands_on day a (item n k)) (not (is_blocked day K (item n k) a)) (not (is_blocked day J (item n k) a)) (nat_le (asks day (item n k) a) (balance day K a)) (nat_le (asks day (item n k) a) (balance day J a))
        (λ s. (queue n k is.first is.last is.entry s, λ p. ap not (queue_blocked day J l a n k legal queue p)))
        (ap (nat_le (asks day (item n k) a)) (balance_stays day J l a not_moved))))

    still_first : IsFirstRound (goes_at day K a) new.at (candidate new.found a)
    still_first =
        let found : new.found ≡ v.found = renews.found ∙ ap (λ (x : Ready). x.found) same in
        let at : new.at ≡ v.at = renews.at ∙ ap (λ (x : Ready). x.at) same in
        subst (λ f. IsFirstRound (goes_at day K a) new.at (candidate f a)) (sym found) (subst (λ p. IsFirstRound (goes_at day K a) p (candidate v.found a)) (sym at)
        (same_round (goes_at day J a) (goes_at day K a) v.at (candidate v.found a) goes_same (keeps.first a first last clean_v)))

  pub note_keeps : KeepsReady day K new
  note_keeps = record {
    fits = renews.fits;
    alone = λ i low. (now_right i low).alone;
    amounts = λ n first last normal.
        let is = item_zero day n first last in
        (now_right (item_number day n 0) (number-within day n 0 is)).amount n first last (item-there day n 0 is) normal;
    first = still_first;
  }

-- ---- the item of a number

pub some_item : (x y : Item) → Some x ≡ Some y → x ≡ y
some_item x y e = cc

pub no_item : {A : Type 0} (x : Item) → None ≡ Some x → A
no_item x e = cc

-- ---- the items that are told of, one after the other

pub renews_more : (day : Day) (K : History) (which more : ℕ → Type 0) (a b : Ready) → Renews day K which a b → ((i : ℕ) → i < item_count day → more i → which i) → Renews day K more a b
renews_more day K which more a b r into = record {
  fits = r.fits;
  found = r.found;
  at = r.at;
  grows = r.grows;
  keeps = r.keeps;
  right = λ i w m. r.right i w (into i w m);
  told = λ i w m. r.told i w (into i w m);
}

-- what is told of below the next one is below where it was looked for
pub looked_at : (from i j : ℕ) (old now : Due) → IsLeast (has now.renewed) from i → ((k : ℕ) → from ≤ k → has now.renewed k ≡ has old.renewed k) → j < i + 1 → has old.renewed j ≡ true → (j ≡ i → ⊥) → j < from
looked_at from i j old now least same low told ne = ⊎_elim
    (λ (l : j < from). l)
    (λ (l : from ≤ j). never (has now.renewed j) (same j l ∙ told) (least.none_before j l (omega (arith, low, ne))))
    (cases_lt j from)

pub below_end : (from j : ℕ) (old now : Due) → IsNext (has now.renewed) from None → ((k : ℕ) → from ≤ k → has now.renewed k ≡ has old.renewed k) → has old.renewed j ≡ true → j < from
below_end from j old now none same told = ⊎_elim
    (λ (l : j < from). l)
    (λ (l : from ≤ j). never (has now.renewed j) (same j l ∙ told) (none j l))
    (cases_lt j from)

pub due_forgets : (day : Day) (K : History) (due : Due) (i : ℕ) (new : Due) → KeepsDue day K due → new ≡ record { index = due.index; set = due.set; renewed = slice_set due.renewed i false; room = due.room } → KeepsDue day K new
due_forgets day K due i new k e = subst (KeepsDue day K) (sym e) (record { index = k.index; exact = k.exact; room = length-set due.renewed i false ∙ k.room; rest = k.rest })

pub touched_fits : (day : Day) (v : Ready) (touched : List Bool) → Fits day v → length touched ≡ length v.touched → Fits day (record { normals = v.normals; alone = v.alone; found = v.found; touched = touched; at = v.at })
touched_fits day v touched fits size = record { payments = fits.payments; alone = fits.alone; members = fits.members; candidates = fits.candidates ∙ sym size; touched = subst (λ k. length day.accounts + 1 ≤ k) (sym size) fits.touched }

-- ---- what is forgotten

-- the flag at i is taken away, and those below it are gone
pub gone_then : (set : List Bool) (from i j : ℕ) → ((k : ℕ) → k < from → has set k ≡ false) → IsLeast (has set) from i → i < length set → j < i + 1 → has (slice_set set i false) j ≡ false
gone_then set from i j gone least within l = ⊎_elim
    (λ (e : j ≡ i). ap (has (slice_set set i false)) e ∙ get_or-set_same set i false _ within)
    (λ (ne : j ≡ i → ⊥). get_or-set_other set i j false _ ne ∙ ⊎_elim (λ (low : j < from). gone j low) (λ (high : from ≤ j). least.none_before j high (omega (arith, l, ne))) (cases_lt j from))
    (cases_eq j i)

pub none_left : (set : List Bool) (from : ℕ) → ((k : ℕ) → k < from → has set k ≡ false) → IsNext (has set) from None → IsEmpty set
none_left set from gone none k = ⊎_elim (λ (low : k < from). gone k low) (λ (high : from ≤ k). none k high) (cases_lt k from)
