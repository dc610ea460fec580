-- What is kept of what is ready, where more messages and stops follow.
use Rattle.std.proofs.Common.{◌≡◌, ◌∙◌, ℕ, zero, suc, ◌+◌, ◌-◌, ◌<◌, ◌≤◌, ◌⊎◌, Bool, true, false, not, ◌&&◌, ◌||◌, List, [], ◌∷◌, ◌++◌, Option, Some, None, length, append_assoc, replicate, refl, sym, ap, subst, arith, inl, inr, ⊎_elim, if◌then◌else◌}
use Rattle.std.specs.Prelude.{nat_le, nat_lt, option_map, slice_index, unwrap_or}
use Rattle.std.specs.List.{list_all, list_any}
use Rattle.std.specs.Option.{option_map_or}
use Rattle.std.proofs.Math.Nat.{sub-zero}
use Rattle.std.proofs.lemmas.Bool.{and_right, cases_lt, le-ltb, lt-ltb}
use Rattle.std.proofs.lemmas.List.{append-nil, get_or_append_left, get_or-append_right, get_or-replicate, length-append, length-replicate}
use Rattle.batch_records.specs.DayRecord.{Day}
use Rattle.batch_records.specs.declared.day.Entry.{Entry}
use Rattle.batch_records.specs.declared.day.Message.{Message}
use Rattle.commit_journal.specs.Line.{History}
use Rattle.machine.specs.declared.answers.Item.{Item}
use Rattle.machine.specs.declared.answers.Phase.TheVariants as phases
use Rattle.machine.specs.Legal.{IsLegal}
use Rattle.machine.specs.Records.Messages.{debit_account, entries, is_b, is_pay, part, sort_of}
use Rattle.machine.specs.Telling.Balances.{balance}
use Rattle.machine.specs.Telling.History.{clock}
use Rattle.machine.specs.Stages.Pending.{is_pending, item, stands_on}
use Rattle.live_order.specs.Coming.{ComesNext}
use Rattle.live_order.specs.Longer.{SpeaksOf, longer}
use Rattle.live_order.proofs.Longer.Known.{debtors_same, gross_same, high_same, part_same, sort_same}
use Rattle.live_order.proofs.Longer.LinesSame.{leave_same}
use Rattle.live_order.proofs.Longer.PendingSame.{blocked_same, debit_accounts_same, never_pending, pending_same, phase_untaken, stands_same}
use Rattle.live_order.proofs.Longer.Spoken.{never_taken}
use Rattle.live_order.proofs.Runs.Speaking.{speaks}
use Rattle.least_tree.specs.Amounts.{amount_at}
use Rattle.amount_forest.specs.Lists.{list_at, numbers_at}
use Rattle.number_set.specs.Members.{has}
use Rattle.scan_laws.specs.Candidates.{IsFirstRound}
use Rattle.scan_laws.specs.Numbers.{IsItem, item_count, item_number, item_of}
use Rattle.scan_laws.specs.Views.{alone}
use Rattle.scan_laws.proofs.NumberFacts.{item-is, number-back, number-within}
use Rattle.scan_laws.proofs.Sizes.{number-last, number-message}
use Rattle.due_items.proofs.LongerFacts.{alone_there, item_same, number_same}
use Rattle.due_items.proofs.RowFacts.{start_below}
use Rattle.live_order.proofs.Longer.Known as known
use Rattle.ready_items.specs.Goes.{by_itself, by_itself_at, goes_at, goes_on, is_account, is_placed, takes}
use Rattle.ready_items.specs.Found.{AreMembers, Found, MayStand, candidate, is_all_of, is_b_at, is_candidate, with_numbers}
use Rattle.ready_items.specs.Normals.{HavePayments, IsAmount, IsArrived, IsPayment, Normals, amount_of, is_normal_pay, payer, pending_amount, place_of}
use Rattle.ready_items.specs.Kept.{KeepsReady, Ready}

not_alone : (day : Day) (n k t : ℕ) → unwrap_or (alone day n k phases.Untaken t) false ≡ false
not_alone day n zero t = refl
not_alone day n (suc k) t = refl

none_of_four : (p s f c : Bool) → p ≡ false → (p && s && f && c) ≡ false
none_of_four p s f c e = ap (λ b. b && s && f && c) e

module _ (day : Day) (ms : List Message) (ss : List ℕ) where
  -- ---- payments

  pub normal_same : (n : ℕ) → n ≤ length day.messages → is_normal_pay (longer day ms ss) n ≡ is_normal_pay day n
  normal_same n h = λ i. is_pay (sort_same day ms ss n h i) && not (high_same day ms ss n h i)

  pub payer_same : (n : ℕ) → n ≤ length day.messages → payer (longer day ms ss) n ≡ payer day n
  payer_same n h = ap (λ (o : Option Entry). unwrap_or (option_map (debit_account day) o) 0) (part_same day ms ss n 0 h)

  payment_later : (count n : ℕ) → count ≤ length day.messages → IsPayment day count n → IsPayment (longer day ms ss) count n
  payment_later count n h is = record { first = is.first; last = is.last; normal = normal_same n (let l = is.last in omega (arith, l, h)) ∙ is.normal }

  payment_was : (count n : ℕ) → count ≤ length day.messages → IsPayment (longer day ms ss) count n → IsPayment day count n
  payment_was count n h is = record { first = is.first; last = is.last; normal = sym (normal_same n (let l = is.last in omega (arith, l, h))) ∙ is.normal }

  pub payments_same : (count : ℕ) (v : Normals) → count ≤ length day.messages → HavePayments day count v → HavePayments (longer day ms ss) count v
  payments_same count v h have = record {
    lists = have.lists;
    both = have.both;
    sizes = have.sizes;
    came = have.came;
    rise = have.rise;
    sound = λ a q w.
        let own = have.sound a q w in
        let last = own.1.payment.last in
        let low : own.0 ≤ length day.messages = omega (arith, last, h) in
        (own.0, record { payment = payment_later count own.0 h own.1.payment; account = payer_same own.0 low ∙ own.1.account; number = own.1.number ∙ sym (number_same day ms ss own.0 0 (omega (arith, low))) });
    placed = λ n is.
        let p = payment_was count n h is in
        let at = have.placed n p in
        let last = p.last in
        let low : n ≤ length day.messages = omega (arith, last, h) in
        record {
          within = subst (λ (b : ℕ). place_of v n < length (numbers_at v.numbers b)) (sym (payer_same n low)) at.within;
          number = ap (λ (b : ℕ). slice_index (numbers_at v.numbers b) (place_of v n)) (payer_same n low) ∙ (at.number ∙ sym (number_same day ms ss n 0 (omega (arith, low))));
        };
  }

  amount_same : (v : Normals) (n : ℕ) → n ≤ length day.messages → amount_of (longer day ms ss) v n ≡ amount_of day v n
  amount_same v n h = ap (λ (b : ℕ). amount_at (list_at v.lists b) (place_of v n)) (payer_same n h)

  pending_amount_same : (J : History) → SpeaksOf (length day.messages) J → (n : ℕ) → n ≤ length day.messages → pending_amount (longer day ms ss) J n ≡ pending_amount day J n
  pending_amount_same J f n h = λ i. if pending_same day ms ss J f (item n 0) h i then option_map (λ (e : Entry). e.amount) (part_same day ms ss n 0 h i) else None

  -- ---- what goes, and what is ready by itself

  takes_same : (x : Item) (a : ℕ) → x.msg ≤ length day.messages → takes (longer day ms ss) x a ≡ takes day x a
  takes_same x a h = λ i. if is_b (sort_same day ms ss x.msg h i) then gross_same day ms ss x.msg a h i else option_map_or (λ (e : Entry). e.amount) (part_same day ms ss x.msg x.entry h i) 0

  goes_on_same : (J : History) → SpeaksOf (length day.messages) J → (a : ℕ) (x : Item) → x.msg ≤ length day.messages → goes_on (longer day ms ss) J a x ≡ goes_on day J a x
  goes_on_same J f a x h = λ i.
      pending_same day ms ss J f x h i && stands_same day ms ss a x h i && not (blocked_same day ms ss J f x a h i) && nat_le (takes_same x a h i + leave_same day ms ss x.msg a h i) (balance day J a)

  placed_same : (x : Item) → x.msg ≤ length day.messages → is_placed (longer day ms ss) x ≡ is_placed day x
  placed_same x h = λ i. list_any (is_account day) (debit_accounts_same day ms ss x h i) && list_all (is_account day) (debit_accounts_same day ms ss x h i)

  by_itself_same : (J : History) → SpeaksOf (length day.messages) J → (x : Item) → x.msg ≤ length day.messages → by_itself (longer day ms ss) J x ≡ by_itself day J x
  by_itself_same J f x h = λ i. unwrap_or (alone_there day ms ss J f x.msg x.entry h i) false || pending_same day ms ss J f x h i && not (placed_same x h i)

  -- ---- of what comes nothing is

  not_yet : (J : History) → SpeaksOf (length day.messages) J → (x : Item) → length day.messages < x.msg → is_pending (longer day ms ss) J x ≡ false
  not_yet J f x new = never_pending (longer day ms ss) J x (never_taken (length day.messages) x.msg J f new)

  goes_not : (J : History) → SpeaksOf (length day.messages) J → (a : ℕ) (x : Item) → length day.messages < x.msg → goes_on (longer day ms ss) J a x ≡ false
  goes_not J f a x new = none_of_four (is_pending (longer day ms ss) J x) _ _ _ (not_yet J f x new)

  itself_not : (J : History) → SpeaksOf (length day.messages) J → (x : Item) → length day.messages < x.msg → by_itself (longer day ms ss) J x ≡ false
  itself_not J f x new =
      let untaken = phase_untaken (longer day ms ss) J x.msg (never_taken (length day.messages) x.msg J f new) in
      (λ i. unwrap_or (alone (longer day ms ss) x.msg x.entry (untaken i) (clock J)) false || not_yet J f x new i && not (is_placed (longer day ms ss) x))
      ∙ ap (λ b. b || false && not (is_placed (longer day ms ss) x)) (not_alone (longer day ms ss) x.msg x.entry (clock J))

  -- ---- by number

  count_grows : item_count day ≤ item_count (longer day ms ss)
  count_grows =
      let len : length (day.messages ++ ms) ≡ length day.messages + length ms = length-append day.messages ms in
      let below = start_below (longer day ms ss) (length day.messages + 1) (omega arith) (omega (arith, len)) in
      let same : item_number (longer day ms ss) (length day.messages + 1) 0 ≡ item_count day = number_same day ms ss (length day.messages + 1) 0 (omega arith) ∙ number-last day in
      omega (arith, below, same)

  -- the items from the count of the day on are of further messages
  new_item : (i : ℕ) → item_count day ≤ i → i < item_count (longer day ms ss) → length day.messages < (item_of (longer day ms ss) i).msg
  new_item i past within = ⊎_elim
      (λ (h : length day.messages < x.msg). h)
      (λ (h : x.msg ≤ length day.messages).
      let is = item-is (longer day ms ss) i within in
      let there : IsItem day x.msg x.entry = record { first = is.first; last = h; entry = subst (λ k. x.entry ≤ k) (ap length (known.entries_same day ms ss x.msg h)) is.entry } in
      let w : item_number day x.msg x.entry < item_count day = number-within day x.msg x.entry there in
      let back : item_number day x.msg x.entry ≡ i = sym (number_same day ms ss x.msg x.entry (omega (arith, h))) ∙ number-back (longer day ms ss) i within in
      absurd (omega (arith, w, back, past)))
      (cases_lt (length day.messages) x.msg)
    where
      x : Item
      x = item_of (longer day ms ss) i

  pub goes_at_same : (J : History) → SpeaksOf (length day.messages) J → (a i : ℕ) → goes_at (longer day ms ss) J a i ≡ goes_at day J a i
  goes_at_same J f a i = ⊎_elim
      (λ (h : i < item_count day).
      let grows = count_grows in
      let last = (item-is day i h).last in
      let one = lt-ltb i (item_count (longer day ms ss)) (omega (arith, h, grows)) in
      let other = lt-ltb i (item_count day) h in
      (λ j. one j && (ap (goes_on (longer day ms ss) J a) (item_same day ms ss i h) ∙ goes_on_same J f a (item_of day i) last) j) ∙ sym (ap (λ b. b && goes_on day J a (item_of day i)) other))
      (λ (h : item_count day ≤ i).
      ⊎_elim
      (λ (w : i < item_count (longer day ms ss)). and_right (nat_lt i (item_count (longer day ms ss))) (goes_on (longer day ms ss) J a (item_of (longer day ms ss) i)) (goes_not J f a (item_of (longer day ms ss) i) (new_item i h w)))
      (λ (p : item_count (longer day ms ss) ≤ i). ap (λ b. b && goes_on (longer day ms ss) J a (item_of (longer day ms ss) i)) (le-ltb i (item_count (longer day ms ss)) p))
      (cases_lt i (item_count (longer day ms ss)))
      ∙ sym (ap (λ b. b && goes_on day J a (item_of day i)) (le-ltb i (item_count day) h)))
      (cases_lt i (item_count day))

  itself_at_same : (J : History) → SpeaksOf (length day.messages) J → (i : ℕ) → i < item_count day → by_itself_at (longer day ms ss) J i ≡ by_itself_at day J i
  itself_at_same J f i h = ap (by_itself (longer day ms ss) J) (item_same day ms ss i h) ∙ by_itself_same J f (item_of day i) (item-is day i h).last

  -- ---- members

  may_same : (a : ℕ) (o : Option ℕ) → MayStand day a o → MayStand (longer day ms ss) a o
  may_same a None h = tt
  may_same a (Some y) h = (
    (let low = h.0 in let grows = count_grows in omega (arith, low, grows)),
    ap (stands_on (longer day ms ss) a) (item_same day ms ss y h.0) ∙ (stands_same day ms ss a (item_of day y) (item-is day y h.0).last ∙ h.1),
  )

  pub members_same : (f : Found) (more : ℕ) → item_count day + more ≡ item_count (longer day ms ss) → AreMembers day f → AreMembers (longer day ms ss) (with_numbers more f)
  members_same f more size m = record {
    room =
        (let len : length (f.members ++ replicate more false) ≡ length f.members + length (replicate more false) = length-append f.members (replicate more false) in
        let n : length (replicate more false) ≡ more = length-replicate more false in
        let was = m.room in
        omega (arith, len, n, was, size));
    stands = λ a. may_same a (candidate f a) (m.stands a);
    single = λ a y e b.
        (let low = below a y e in
        kept y low ∙ m.single a y e (sym (batch_same y low) ∙ b));
    whole = λ a y e b all.
        (let low = below a y e in
        kept y low ∙ m.whole a y e (sym (batch_same y low) ∙ b) (sym (all_same y low) ∙ all));
  }
    where
      below : (a y : ℕ) → candidate f a ≡ Some y → y < item_count day
      below a y e = (subst (MayStand day a) e (m.stands a)).0

      kept : (y : ℕ) → y < item_count day → has (f.members ++ replicate more false) y ≡ has f.members y
      kept y low = let was = m.room in get_or_append_left f.members (replicate more false) false y (omega (arith, low, was))

      batch_same : (y : ℕ) → y < item_count day → is_b_at (longer day ms ss) y ≡ is_b_at day y
      batch_same y low = ap (λ (x : Item). is_b (sort_of (longer day ms ss) x.msg)) (item_same day ms ss y low) ∙ ap is_b (sort_same day ms ss (item_of day y).msg (item-is day y low).last)

      all_same : (y : ℕ) → y < item_count day → is_all_of (longer day ms ss) (with_numbers more f) (item_of (longer day ms ss) y).msg y ≡ is_all_of day f (item_of day y).msg y
      all_same y low = ap (λ (x : Item). is_all_of (longer day ms ss) (with_numbers more f) x.msg y) (item_same day ms ss y low) ∙ ap (list_all (is_candidate f y)) (debtors_same day ms ss (item_of day y).msg (item-is day y low).last)

  -- ---- all of it

  pub ready_longer : (J : History) (v : Ready) (normals : Normals) (more : ℕ) → SpeaksOf (length day.messages) J → item_count day + more ≡ item_count (longer day ms ss) →
      HavePayments (longer day ms ss) (length (longer day ms ss).messages) normals →
      ((n : ℕ) → 1 ≤ n → n ≤ length day.messages → amount_of (longer day ms ss) normals n ≡ amount_of (longer day ms ss) v.normals n) →
      ((n : ℕ) → length day.messages < n → n ≤ length (longer day ms ss).messages → is_normal_pay (longer day ms ss) n ≡ true → amount_of (longer day ms ss) normals n ≡ None) →
      KeepsReady day J v → KeepsReady (longer day ms ss) J (record { normals = normals; alone = v.alone ++ replicate more false; found = with_numbers more v.found; touched = v.touched; at = v.at })
  ready_longer J v normals more f size have old new k = record {
    fits = record {
      payments = have;
      alone =
          (let len : length (v.alone ++ replicate more false) ≡ length v.alone + length (replicate more false) = length-append v.alone (replicate more false) in
          let n : length (replicate more false) ≡ more = length-replicate more false in
          let was = k.fits.alone in
          omega (arith, len, n, was, size));
      members = members_same v.found more size k.fits.members;
      candidates = k.fits.candidates;
      touched = k.fits.touched;
    };
    alone = λ i low. flag i low (cases_lt i (item_count day));
    amounts = λ n first last normal. amount n first last normal (cases_lt (length day.messages) n);
    first = λ a low high clean. subst (λ (p : ℕ → Bool). IsFirstRound p v.at (candidate v.found a)) (λ j x. sym (goes_at_same J f a x) j) (k.first a low high clean);
  }
    where
      flag : (i : ℕ) → i < item_count (longer day ms ss) → (i < item_count day) ⊎ (item_count day ≤ i) → has (v.alone ++ replicate more false) i ≡ by_itself_at (longer day ms ss) J i
      flag i low (inl h) = let was = k.fits.alone in get_or_append_left v.alone (replicate more false) false i (omega (arith, was, h)) ∙ (k.alone i h ∙ sym (itself_at_same J f i h))
      flag i low (inr h) =
          get_or-append_right v.alone (replicate more false) (item_count day) i false k.fits.alone h
          ∙ (get_or-replicate more (i - item_count day) false false (omega (arith, low, h, size)) ∙ sym (itself_not J f (item_of (longer day ms ss) i) (new_item i h low)))

      amount : (n : ℕ) → 1 ≤ n → n ≤ length (longer day ms ss).messages → is_normal_pay (longer day ms ss) n ≡ true → (length day.messages < n) ⊎ (n ≤ length day.messages) → IsAmount (longer day ms ss) J normals n
      amount n first last normal (inl h) = new n h last normal ∙ sym (ap (λ b. if b then option_map (λ (e : Entry). e.amount) (part (longer day ms ss) n 0) else None) (not_yet J f (item n 0) h))
      amount n first last normal (inr h) =
          old n first h ∙ (amount_same v.normals n h ∙ (k.amounts n first h (sym (normal_same n h) ∙ normal) ∙ sym (pending_amount_same J f n h)))

-- a stop makes nothing ready
pub stop_ready : (day : Day) (t : ℕ) (J : History) (v : Ready) → clock J < t → IsLegal (longer day [] (t ∷ [])) J → KeepsReady day J v → KeepsReady (longer day [] (t ∷ [])) J v
stop_ready day t J v after legal k =
    subst (KeepsReady later J) none
    (ready_longer day [] (t ∷ []) J v v.normals 0 speak size
    (subst (λ n. HavePayments later n v.normals) (sym same) (payments_same day [] (t ∷ []) (length day.messages) v.normals (omega arith) k.fits.payments))
    (λ n first h. refl)
    (λ n h last normal. absurd (omega (arith, h, last, same)))
    k)
  where
    later : Day
    later = longer day [] (t ∷ [])

    same : length (day.messages ++ []) ≡ length day.messages
    same = ap length (append-nil day.messages)

    speak : SpeaksOf (length day.messages) J
    speak = subst (λ n. SpeaksOf n J) same (speaks later J legal)

    size : item_count day + 0 ≡ item_count later
    size =
        let a = number-last later in
        let b : item_number later (length (day.messages ++ []) + 1) 0 ≡ item_number later (length day.messages + 1) 0 = ap (λ n. item_number later (n + 1) 0) same in
        let c : item_number later (length day.messages + 1) 0 ≡ item_count day = number_same day [] (t ∷ []) (length day.messages + 1) 0 (omega arith) ∙ number-last day in
        omega (arith, a, b, c)

    none : record { normals = v.normals; alone = v.alone ++ replicate 0 false; found = with_numbers 0 v.found; touched = v.touched; at = v.at } ≡ v
    none = λ i. record { normals = v.normals; alone = append-nil v.alone i; found = record { candidates = v.found.candidates; members = append-nil v.found.members i; room = sub-zero v.found.room i }; touched = v.touched; at = v.at }

-- message n comes, and no amount with it
pub ready_arrives : (day : Day) (m : Message) (J : History) (v : Ready) (normals : Normals) (more : ℕ) → SpeaksOf (length day.messages) J → item_count day + more ≡ item_count (longer day (m ∷ []) []) → IsArrived (longer day (m ∷ []) []) (length day.messages + 1) v.normals normals → KeepsReady day J v →
    KeepsReady (longer day (m ∷ []) []) J (record { normals = normals; alone = v.alone ++ replicate more false; found = with_numbers more v.found; touched = v.touched; at = v.at })
ready_arrives day m J v normals more f size arrived k =
    ready_longer day (m ∷ []) [] J v normals more f size
    (subst (λ n. HavePayments later n normals) (sym count) arrived.have)
    (λ n first h. arrived.others n first (omega (arith, h)))
    (λ n h last normal. let is : n ≡ length day.messages + 1 = omega (arith, h, last, count) in
    ap (amount_of later normals) is ∙ arrived.own (subst (λ i. is_normal_pay later i ≡ true) is normal))
    k
  where
    later : Day
    later = longer day (m ∷ []) []

    count : length later.messages ≡ length day.messages + 1
    count = length-append day.messages (m ∷ [])

-- ---- of a whole day

pub whole_is : (whole : Day) (n : ℕ) (day : Day) (m : Message) (ms : List Message) (ss : List ℕ) → ComesNext whole n day m ms ss → whole ≡ longer (longer day (m ∷ []) []) ms ss
whole_is whole n day m ms ss next = next.is ∙ (λ i. record day { messages = sym (append_assoc day.messages (m ∷ []) ms) i; stops = sym (ap (λ xs. xs ++ ss) (append-nil day.stops)) i })

-- how many items the next message has
pub next_size : (whole : Day) (n : ℕ) (day : Day) (m : Message) (ms : List Message) (ss : List ℕ) → ComesNext whole n day m ms ss → item_count day + (length (entries whole n) + 1) ≡ item_count (longer day (m ∷ []) [])
next_size whole n day m ms ss next =
    let later : Day = longer day (m ∷ []) [] in
    let number = next.number in
    let count : length (day.messages ++ m ∷ []) ≡ length day.messages + 1 = length-append day.messages (m ∷ []) in
    let low : n ≤ length later.messages = omega (arith, number, count) in
    let size : length (entries whole n) ≡ length (entries later n) = ap (λ (d : Day). length (entries d n)) (whole_is whole n day m ms ss next) ∙ ap length (known.entries_same later ms ss n low) in
    let more = number-message later n (omega (arith, number)) in
    let last = number-last later in
    let at : item_number later (length later.messages + 1) 0 ≡ item_number later (n + 1) 0 = let e : length later.messages ≡ n = omega (arith, number, count) in ap (λ k. item_number later (k + 1) 0) e in
    let first : item_number later n 0 ≡ item_number later (length day.messages + 1) 0 = ap (λ k. item_number later k 0) number in
    let same : item_number later (length day.messages + 1) 0 ≡ item_count day = number_same day (m ∷ []) [] (length day.messages + 1) 0 (omega arith) ∙ number-last day in
    omega (arith, size, more, last, at, first, same)
