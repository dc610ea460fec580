-- What the statuses of a line do to the word of a message.
use Rattle.std.proofs.Common.{◌≡◌, ◌∙◌, ◌≤◌, ◌+◌, ◌-◌, ℕ, zero, suc, Bool, true, false, ◌&&◌, List, [], ◌∷◌, ◌++◌, refl, sym, ap, arith, inl, inr, length}
use Rattle.std.specs.Prelude.{filter, if◌then◌else◌, map, nat_eq, nat_lt}
use Rattle.std.specs.List.{flat_map, range_with_len}
use Rattle.std.proofs.lemmas.Bool.{eq-eqb, eqb-true}
use Rattle.batch_records.specs.DayRecord.{Day}
use Rattle.batch_records.specs.declared.day.Entry.{Entry}
use Rattle.commit_journal.specs.declared.line.Code.TheVariants as line_codes
use Rattle.commit_journal.specs.declared.line.Move.{Move}
use Rattle.commit_journal.specs.Line.{Line, History}
use Rattle.machine.specs.Words.{is_zero}
use Rattle.machine.specs.Records.Messages.{Sort, BatchA, BatchB, BatchD, BatchE, entries, entry_numbers, message_numbers}
use Rattle.machine.specs.Telling.History.{is_ask, is_ask_of, is_closing_of, is_expire_or_refuse, is_in, is_in_of}
use Rattle.machine.specs.Stages.Phases.{phase}
use Rattle.settlement_laws.proofs.Base.Lists.{IsIn, from_filter, never}
use Rattle.status_messages.specs.declared.status.Status.{Status}
use Rattle.status_messages.specs.declared.status.TurnCode.TheVariants as turn_codes
use Rattle.status_messages.specs.Statuses.{ask_statuses, failure_statuses, intake_statuses, is_revoked, is_revoked_now, is_settled_now, move_statuses, place_after, rejections_as, reply, revocation, revocations_as, settlement_statuses, turn_of, turn_told, unafforded_in_order, whole_revocation}
use Rattle.as_client.specs.declared.view.Word.{Word}
use Rattle.as_client.specs.declared.view.Word.TheVariants as words
use Rattle.as_client.specs.PartyWords.{word_after, word_after_status}

-- the word of message n after these statuses, the oldest of them first
unfoldable pub along : ℕ → Word → List Status → Word
along n word [] = word
along n word (s ∷ later) = along n (word_after_status n s word) later

pub along-append : (n : ℕ) (word : Word) (xs ys : List Status) → along n word (xs ++ ys) ≡ along n (along n word xs) ys
unfolding along
along-append n word [] ys = refl
along-append n word (x ∷ xs) ys = along-append n (word_after_status n x word) xs ys

same_both : (b : Bool) (word : Word) → (if b then word else word) ≡ word
same_both true word = refl
same_both false word = refl

-- ---- statuses that leave the word as it is

pub along_map : {X : Type 0} (n : ℕ) (f : X → Status) (xs : List X) → ((x : X) → IsIn x xs → (word : Word) → word_after_status n (f x) word ≡ word) → (word : Word) → along n word (map f xs) ≡ word
unfolding along
along_map n f [] h word = refl
along_map n f (x ∷ xs) h word = ap (λ w. along n w (map f xs)) (h x (inl refl) word) ∙ along_map n f xs (λ y i. h y (inr i)) word

pub along_moves : (n : ℕ) (day : Day) (place : ℕ) (moves : List Move) (word : Word) → along n word (flat_map (move_statuses day place) moves) ≡ word
unfolding along
along_moves n day place [] word = refl
along_moves n day place (m ∷ moves) word = along_moves n day place moves word

pub along_information : (n : ℕ) (day : Day) (place m : ℕ) (b : Bool) (names : List (List ℕ)) (word : Word) → along n word (if b then map (λ bank. turn_of day place bank turn_codes.Info m 0 line_codes.Ok) names else []) ≡ word
unfolding along
along_information n day place m true names word = along_map n (λ bank. turn_of day place bank turn_codes.Info m 0 line_codes.Ok) names (λ x i w. same_both (nat_eq m n && true) w) word
along_information n day place m false names word = refl

-- a turn of an entry
of_entry : (b z : Bool) (other word : Word) → z ≡ false → (if (b && z) then other else word) ≡ word
of_entry b true other word h = cc
of_entry true false other word h = refl
of_entry false false other word h = refl

not_first : (k : ℕ) → 1 ≤ k → is_zero k ≡ false
not_first zero h = absurd (omega arith)
not_first (suc k) h = refl

pub above_start : (s len k : ℕ) → IsIn k (range_with_len s len) → s ≤ k
above_start s zero k i = absurd i
above_start s (suc len) k (inl e) = omega arith
above_start s (suc len) k (inr i) = let l : s + 1 ≤ k = above_start (s + 1) len k i in omega arith

above_turn : (available s : ℕ) (es : List Entry) (k : ℕ) → IsIn k (unafforded_in_order available s es) → s ≤ k
unfolding unafforded_in_order
above_turn available s [] k i = absurd i
above_turn available s (e ∷ es) k i = here (nat_lt available e.amount) i (above_turn available (suc s) es k) (above_turn (available - e.amount) (suc s) es k)
  where
    here : (b : Bool) → IsIn k (elim b [ true ↦ s ∷ unafforded_in_order available (suc s) es | false ↦ unafforded_in_order (available - e.amount) (suc s) es ])
        → (IsIn k (unafforded_in_order available (suc s) es) → suc s ≤ k) → (IsIn k (unafforded_in_order (available - e.amount) (suc s) es) → suc s ≤ k) → s ≤ k
    here true (inl f) h j = omega arith
    here true (inr f) h j = let l : suc s ≤ k = h f in omega arith
    here false f h j = let l : suc s ≤ k = j f in omega arith

along_rejections_as : (s : Sort) (n : ℕ) (day : Day) (J : History) (m : ℕ) (word : Word) → along n word (rejections_as s day J m) ≡ word
unfolding along
along_rejections_as BatchD n day J m word =
    along_map n (λ k. turn_told day (place_after J) turn_codes.Rjct m k line_codes.Nc) (unafforded_in_order _ 1 (entries day m))
    (λ k i w. of_entry (nat_eq m n) (is_zero k) words.Rejected w (not_first k (above_turn _ 1 (entries day m) k i))) word
along_rejections_as _ n day J m word = refl

pub along_rejections : (b : Bool) (s : Sort) (n : ℕ) (day : Day) (J : History) (m : ℕ) (word : Word) → along n word (if b then rejections_as s day J m else []) ≡ word
unfolding along
along_rejections true s n day J m word = along_rejections_as s n day J m word
along_rejections false s n day J m word = refl

-- ---- the turns of a message itself

one_turn : (k b : Bool) (other word : Word) → (if (k && b) then other else word) ≡ (if k then (if (b && true) then other else word) else word)
one_turn true true other word = refl
one_turn true false other word = refl
one_turn false b other word = refl

pub along_intake : (n : ℕ) (day : Day) (J : History) (l : Line) (word : Word) → along n word (intake_statuses day J l) ≡ (if is_in_of n l then word_after (reply l.head.code) word else word)
unfolding along
along_intake n day J l word = here (is_in l.head.kind) ∙ sym (one_turn (is_in l.head.kind) (nat_eq l.head.msg n) (word_after (reply l.head.code) word) word)
  where
    here : (b : Bool) → along n word (if b then (turn_told day (place_after J) (reply l.head.code) l.head.msg 0 l.head.code ∷ []) else [])
        ≡ (if b then (if (nat_eq l.head.msg n && true) then word_after (reply l.head.code) word else word) else word)
    here true = refl
    here false = refl

pub along_ask : (n : ℕ) (day : Day) (J : History) (l : Line) (word : Word) → along n word (ask_statuses day J l) ≡ (if is_ask_of n l then words.Asked else word)
unfolding along
along_ask n day J l word = here (is_ask l.head.kind) ∙ sym (one_turn (is_ask l.head.kind) (nat_eq l.head.msg n) words.Asked word)
  where
    here : (b : Bool) → along n word (if b then (turn_told day (place_after J) turn_codes.Askg l.head.msg 0 line_codes.Ok ∷ []) else []) ≡ (if b then (if (nat_eq l.head.msg n && true) then words.Asked else word) else word)
    here true = refl
    here false = refl

pub along_failure : (n : ℕ) (day : Day) (J : History) (l : Line) (word : Word) → along n word (failure_statuses day J l) ≡ (if is_closing_of n l then words.Failed else word)
unfolding along
along_failure n day J l word = here (is_expire_or_refuse l.head.kind) ∙ sym (one_turn (is_expire_or_refuse l.head.kind) (nat_eq l.head.msg n) words.Failed word)
  where
    here : (b : Bool) → along n word (if b then (turn_told day (place_after J) turn_codes.Fail l.head.msg 0 l.head.code ∷ []) else []) ≡ (if b then (if (nat_eq l.head.msg n && true) then words.Failed else word) else word)
    here true = refl
    here false = refl

-- ---- what an objection to batch b revokes

-- the word of that batch
abbrev pub word_objected : Sort → Bool → Word → Word
word_objected BatchA shown word = words.Revoked
word_objected BatchB shown word = words.Revoked
word_objected BatchE shown word = if shown then words.Revoked else word
word_objected _ shown word = word

along_entries : (n : ℕ) (day : Day) (J : History) (l : Line) (b : ℕ) (word : Word) → along n word (map (revocation day J b) (filter (is_revoked_now day J l b) (entry_numbers day b))) ≡ word
along_entries n day J l b word =
    along_map n (revocation day J b) (filter (is_revoked_now day J l b) (entry_numbers day b))
    (λ k i w. of_entry (nat_eq b n) (is_zero k) words.Revoked w (not_first k (above_start 1 (length (entries day b)) k (from_filter (is_revoked_now day J l b) (entry_numbers day b) k i).0))) word

about_it : (n : ℕ) (other word : Word) → (if (nat_eq n n && true) then other else word) ≡ other
about_it n other word = ap (λ b. if (b && true) then other else word) (eq-eqb n n refl)

about_other : (b n : ℕ) (other word : Word) → nat_eq b n ≡ false → (if (nat_eq b n && true) then other else word) ≡ word
about_other b n other word h = ap (λ c. if (c && true) then other else word) h

pub along_objection : (s : Sort) (n : ℕ) (day : Day) (J : History) (l : Line) (word : Word) → along n word (revocations_as s day J l n) ≡ word_objected s (is_revoked (phase day (l ∷ J) n)) word
unfolding along
along_objection BatchA n day J l word = about_it n words.Revoked word
along_objection BatchB n day J l word = about_it n words.Revoked word
along_objection BatchE n day J l word =
    along-append n word (map (revocation day J n) (filter (is_revoked_now day J l n) (entry_numbers day n))) (whole_revocation day J l n)
    ∙ ap (λ w. along n w (whole_revocation day J l n)) (along_entries n day J l n word)
    ∙ here (is_revoked (phase day (l ∷ J) n))
  where
    here : (b : Bool) → along n word (if b then (revocation day J n 0 ∷ []) else []) ≡ (if b then words.Revoked else word)
    here true = about_it n words.Revoked word
    here false = refl
along_objection _ n day J l word = refl

pub along_objection_other : (s : Sort) (n b : ℕ) (day : Day) (J : History) (l : Line) (word : Word) → nat_eq b n ≡ false → along n word (revocations_as s day J l b) ≡ word
unfolding along
along_objection_other BatchA n b day J l word h = about_other b n words.Revoked word h
along_objection_other BatchB n b day J l word h = about_other b n words.Revoked word h
along_objection_other BatchE n b day J l word h =
    along-append n word (map (revocation day J b) (filter (is_revoked_now day J l b) (entry_numbers day b))) (whole_revocation day J l b)
    ∙ ap (λ w. along n w (whole_revocation day J l b)) (along_entries n day J l b word)
    ∙ here (is_revoked (phase day (l ∷ J) b))
  where
    here : (c : Bool) → along n word (if c then (revocation day J b 0 ∷ []) else []) ≡ word
    here true = about_other b n words.Revoked word h
    here false = refl
along_objection_other _ n b day J l word h = refl

-- ---- settlement

abbrev settled_turn : Day → History → ℕ → Status
settled_turn day J m = turn_told day (place_after J) turn_codes.Setl m 0 line_codes.Ok

settled_stays : (n : ℕ) (day : Day) (J : History) (xs : List ℕ) → along n words.Settled (map (settled_turn day J) xs) ≡ words.Settled
unfolding along
settled_stays n day J [] = refl
settled_stays n day J (x ∷ xs) = ap (λ w. along n w (map (settled_turn day J) xs)) (same_both (nat_eq x n && true) words.Settled) ∙ settled_stays n day J xs

settled_by : (n : ℕ) (day : Day) (J : History) (xs : List ℕ) (word : Word) → IsIn n xs → along n word (map (settled_turn day J) xs) ≡ words.Settled
unfolding along
settled_by n day J [] word i = absurd i
settled_by n day J (x ∷ xs) word (inl e) =
    ap (λ b. along n (if (b && true) then words.Settled else word) (map (settled_turn day J) xs)) (eq-eqb x n e) ∙ settled_stays n day J xs
settled_by n day J (x ∷ xs) word (inr i) = settled_by n day J xs (if (nat_eq x n && true) then words.Settled else word) i

pub along_settlement : (n : ℕ) (day : Day) (J : History) (l : Line) (word : Word) → (is_settled_now day J l n ≡ true → IsIn n (filter (is_settled_now day J l) (message_numbers day)))
    → along n word (settlement_statuses day J l) ≡ (if is_settled_now day J l n then words.Settled else word)
unfolding along
along_settlement n day J l word there = here (is_settled_now day J l n) refl
  where
    other : (xs : List ℕ) → is_settled_now day J l n ≡ false → (x : ℕ) → IsIn x (filter (is_settled_now day J l) xs) → (w : Word) → word_after_status n (settled_turn day J x) w ≡ w
    other xs h x i w = by (nat_eq x n) refl
      where
        by : (b : Bool) → nat_eq x n ≡ b → (if (b && true) then words.Settled else w) ≡ w
        by true e = never (is_settled_now day J l x) (from_filter (is_settled_now day J l) xs x i).1 (ap (is_settled_now day J l) (eqb-true x n e) ∙ h)
        by false e = refl

    here : (b : Bool) → is_settled_now day J l n ≡ b → along n word (settlement_statuses day J l) ≡ (if b then words.Settled else word)
    here true e = settled_by n day J (filter (is_settled_now day J l) (message_numbers day)) word (there e)
    here false e = along_map n (settled_turn day J) (filter (is_settled_now day J l) (message_numbers day)) (other (message_numbers day) e) word
