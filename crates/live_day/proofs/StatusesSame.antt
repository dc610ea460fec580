-- What a line tells of a day's own messages it tells with a longer day too.
use Rattle.std.proofs.Common.{◌≡◌, ◌∙◌, ℕ, ◌+◌, ◌<◌, ◌≤◌, arith, Bool, true, false, not, ◌&&◌, List, [], ◌∷◌, ◌++◌, length, Option, Some, None, refl, sym, ap, cond}
use Rattle.std.specs.Prelude.{if◌then◌else◌, filter, is_some, map}
use Rattle.std.specs.List.{flat_map, list_any, range_with_len}
use Rattle.std.specs.Option.{option_map_or}
use Rattle.batch_records.specs.declared.day.Body.{Body}
use Rattle.batch_records.specs.declared.day.Body.TheVariants as bodies
use Rattle.batch_records.specs.DayRecord.{Day}
use Rattle.batch_records.specs.declared.day.Message.{Message}
use Rattle.commit_journal.specs.declared.line.Code.{Code}
use Rattle.commit_journal.specs.declared.line.Code.TheVariants as line_codes
use Rattle.commit_journal.specs.Line.{Line, History}
use Rattle.machine.specs.Records.Messages.{Sort, BatchA, BatchB, BatchD, BatchE, sort_of, message_at}
use Rattle.machine.specs.Telling.History.{is_ask, is_expire_or_refuse, is_in}
use Rattle.machine.specs.Telling.Balances.{balance}
use Rattle.machine.specs.Telling.Facts.{accepted_batch, is_party, takes_well}
use Rattle.machine.specs.Stages.Phases.{phase}
use Rattle.machine.specs.Stages.Intake.{target_in, target_of_message}
use Rattle.machine.specs.Laws.{is_order}
use Rattle.status_messages.specs.declared.status.Status.TheVariants as status
use Rattle.status_messages.specs.declared.status.TurnCode.{TurnCode}
use Rattle.status_messages.specs.declared.status.TurnCode.TheVariants as turn_codes
use Rattle.status_messages.specs.Statuses.{ask_statuses, banks, failure_statuses, id_of, information_statuses, intake_statuses, is_revoked, is_revoked_now, is_settled, is_settled_now, move_statuses, objection_statuses, objection_target, place_after, rejection_statuses, rejections_as, reply, revocation, revocations_as, revocations_of, settlement_statuses, statuses, turn_of, turn_told, unafforded_in_order}
use Rattle.live_order.specs.Longer.{longer, SpeaksOf}
use Rattle.live_order.proofs.Longer.Ranges.{find_within}
use Rattle.live_order.proofs.Longer.Known.{by_sort, entries_same, entry_numbers_same, info_end_same, message_same, sender_same, sort_same, technical_same}
use Rattle.live_order.proofs.Longer.Spoken.{never_taken}
use Rattle.live_order.proofs.Longer.FactsSame.{phase_same, revoked_same}
use Rattle.live_order.proofs.Longer.IntakeSame.{target_same}
use Rattle.live_order.proofs.Longer.PendingSame.{phase_untaken}

-- ---- a list over the numbers that pass

none_pass : {X Y : Type 0} (f : ℕ → X) (p : ℕ → Bool) (s : ℕ) (ys : List Y) → ((n : ℕ) → s ≤ n → p n ≡ false) → map f (filter p (range_with_len s (length ys))) ≡ []
none_pass f p s [] none = refl
none_pass f p s (y ∷ ys) none =
    (λ i. map f (cond (none s (omega arith) i) (s ∷ filter p (range_with_len (s + 1) (length ys))) (filter p (range_with_len (s + 1) (length ys)))))
    ∙ none_pass f p (s + 1) ys (λ n l. none n (omega arith))

split_test : {X : Type 0} (f : ℕ → X) (b : Bool) (s : ℕ) (ns : List ℕ) → map f (cond b (s ∷ ns) ns) ≡ cond b (f s ∷ map f ns) (map f ns)
split_test f true s ns = refl
split_test f false s ns = refl

pass_front : {X Z : Type 0} (f g : ℕ → X) (p q : ℕ → Bool) (s : ℕ) (xs ys : List Z) → ((n : ℕ) → n < s + length xs → f n ≡ g n) → ((n : ℕ) → n < s + length xs → p n ≡ q n) → ((n : ℕ) → s + length xs ≤ n → p n ≡ false)
    → map f (filter p (range_with_len s (length (xs ++ ys)))) ≡ map g (filter q (range_with_len s (length xs)))
pass_front f g p q s [] ys same alike none = none_pass f p s ys (λ n l. none n (omega arith))
pass_front f g p q s (x ∷ xs) ys same alike none =
    split_test f (p s) s (filter p (range_with_len (s + 1) (length (xs ++ ys))))
    ∙ (λ i. cond (alike s (omega arith) i) (same s (omega arith) i ∷ pass_front f g p q (s + 1) xs ys (λ n l. same n (omega arith)) (λ n l. alike n (omega arith)) (λ n l. none n (omega arith)) i)
    (pass_front f g p q (s + 1) xs ys (λ n l. same n (omega arith)) (λ n l. alike n (omega arith)) (λ n l. none n (omega arith)) i))
    ∙ sym (split_test g (q s) s (filter q (range_with_len (s + 1) (length xs))))

-- the batch that a message objects to is one of the day's
found_within : (day : Day) (J : History) (system id : List ℕ) (b : ℕ) → accepted_batch day J system id ≡ Some b → b ≤ length day.messages
found_within day J system id b e = let there = find_within _ 1 day.messages b e in omega (arith, there)

aimed_within : (day : Day) (J : History) (o : Option Message) (b : ℕ) → target_of_message day J o ≡ Some b → b ≤ length day.messages
aimed_within day J None b e = cc e
aimed_within day J (Some m) b e = by m.body e
  where
    by : (body : Body) → target_in day J m.sender body ≡ Some b → b ≤ length day.messages
    by (bodies.Object system id) e = found_within day J system id b e
    by (bodies.Confirm id answer) e = found_within day J m.sender id b e
    by _ e = cc e

target_within : (s : Sort) (day : Day) (J : History) (n b : ℕ) → objection_target s day J n ≡ Some b → b ≤ length day.messages
target_within Sort.Object day J n b e = aimed_within day J (message_at day n) b e
target_within _ day J n b e = cc e

module _ (day : Day) (ms : List Message) (ss : List ℕ) where
  id_same : (n : ℕ) → n ≤ length day.messages → id_of (longer day ms ss) n ≡ id_of day n
  id_same n h = ap (λ (o : Option Message). option_map_or (λ m. m.id) o []) (message_same day ms ss n h)

  turn_same : (place : ℕ) (to : List ℕ) (turn : TurnCode) (n k : ℕ) (reason : Code) → n ≤ length day.messages → turn_of (longer day ms ss) place to turn n k reason ≡ turn_of day place to turn n k reason
  turn_same place to turn n k reason h = λ i. status.Turn place to turn n (sender_same day ms ss n h i) (id_same n h i) k reason

  told_same : (place : ℕ) (turn : TurnCode) (n k : ℕ) (reason : Code) → n ≤ length day.messages → turn_told (longer day ms ss) place turn n k reason ≡ turn_told day place turn n k reason
  told_same place turn n k reason h = λ i. status.Turn place (sender_same day ms ss n h i) turn n (sender_same day ms ss n h i) (id_same n h i) k reason

  intake_same : (J : History) (l : Line) → l.head.msg ≤ length day.messages → intake_statuses (longer day ms ss) J l ≡ intake_statuses day J l
  intake_same J l h = λ i. if is_in l.head.kind then (told_same (place_after J) (reply l.head.code) l.head.msg 0 l.head.code h i ∷ []) else []

  ask_same : (J : History) (l : Line) → l.head.msg ≤ length day.messages → ask_statuses (longer day ms ss) J l ≡ ask_statuses day J l
  ask_same J l h = λ i. if is_ask l.head.kind then (told_same (place_after J) turn_codes.Askg l.head.msg 0 line_codes.Ok h i ∷ []) else []

  failure_same : (J : History) (l : Line) → l.head.msg ≤ length day.messages → failure_statuses (longer day ms ss) J l ≡ failure_statuses day J l
  failure_same J l h = λ i. if is_expire_or_refuse l.head.kind then (told_same (place_after J) turn_codes.Fail l.head.msg 0 l.head.code h i ∷ []) else []

  information_same : (J : History) (l : Line) → l.head.msg ≤ length day.messages → information_statuses (longer day ms ss) J l ≡ information_statuses day J l
  information_same J l h = λ i.
      if takes_well l && is_some (info_end_same day ms ss l.head.msg h i)
      then map (λ bank. turn_same (place_after J) bank turn_codes.Info l.head.msg 0 line_codes.Ok h i) (filter (λ bank. list_any (is_party day bank) (entries_same day ms ss l.head.msg h i)) (banks day))
      else []

  -- ---- objections

  revocation_same : (J : History) (b k : ℕ) → b ≤ length day.messages → revocation (longer day ms ss) J b k ≡ revocation day J b k
  revocation_same J b k h = told_same (place_after J) turn_codes.Rvkd b k line_codes.Ok h

  revoked_now_same : (J : History) (l : Line) → SpeaksOf (length day.messages) (l ∷ J) → (b k : ℕ) → b ≤ length day.messages → is_revoked_now (longer day ms ss) J l b k ≡ is_revoked_now day J l b k
  revoked_now_same J l spoken b k h = λ i. is_some (revoked_same day ms ss (l ∷ J) spoken b k h i) && not (is_some (revoked_same day ms ss J spoken.0 b k h i))

  revocations_by : (J : History) (l : Line) → SpeaksOf (length day.messages) (l ∷ J) → (b : ℕ) → b ≤ length day.messages → (s : Sort) → revocations_as s (longer day ms ss) J l b ≡ revocations_as s day J l b
  revocations_by J l spoken b h BatchA = λ i. revocation_same J b 0 h i ∷ []
  revocations_by J l spoken b h BatchB = λ i. revocation_same J b 0 h i ∷ []
  revocations_by J l spoken b h BatchE = λ i.
      map (λ k. revocation_same J b k h i) (filter (λ k. revoked_now_same J l spoken b k h i) (entry_numbers_same day ms ss b h i))
      ++ (if is_revoked (phase_same day ms ss (l ∷ J) spoken b h i) then (revocation_same J b 0 h i ∷ []) else [])
  revocations_by J l spoken b h _ = refl

  revocations_same : (J : History) (l : Line) → SpeaksOf (length day.messages) (l ∷ J) → (o : Option ℕ) → ((b : ℕ) → o ≡ Some b → b ≤ length day.messages) → revocations_of (longer day ms ss) J l o ≡ revocations_of day J l o
  revocations_same J l spoken None within = refl
  revocations_same J l spoken (Some b) within =
      let h : b ≤ length day.messages = within b refl in
      by_sort day ms ss (λ s. revocations_as s (longer day ms ss) J l b) (λ s. revocations_as s day J l b) (revocations_by J l spoken b h) b h

  aim_by : (J : History) → SpeaksOf (length day.messages) J → (n : ℕ) → n ≤ length day.messages → (s : Sort) → objection_target s (longer day ms ss) J n ≡ objection_target s day J n
  aim_by J spoken n h Sort.Object = target_same day ms ss J spoken n h
  aim_by J spoken n h _ = refl

  objection_same : (J : History) (l : Line) → SpeaksOf (length day.messages) (l ∷ J) → objection_statuses (longer day ms ss) J l ≡ objection_statuses day J l
  objection_same J l spoken =
      let aim : objection_target (sort_of (longer day ms ss) l.head.msg) (longer day ms ss) J l.head.msg ≡ objection_target (sort_of day l.head.msg) day J l.head.msg =
      by_sort day ms ss (λ s. objection_target s (longer day ms ss) J l.head.msg) (λ s. objection_target s day J l.head.msg) (aim_by J spoken.0 l.head.msg spoken.1) l.head.msg spoken.1 in
      (λ i. if takes_well l then revocations_of (longer day ms ss) J l (aim i) else [])
      ∙ (λ i. if takes_well l then revocations_same J l spoken (objection_target (sort_of day l.head.msg) day J l.head.msg) (target_within (sort_of day l.head.msg) day J l.head.msg) i else [])

  -- ---- batches of D

  rejections_by : (J : History) (n : ℕ) → n ≤ length day.messages → (s : Sort) → rejections_as s (longer day ms ss) J n ≡ rejections_as s day J n
  rejections_by J n h BatchD = λ i.
      map (λ k. told_same (place_after J) turn_codes.Rjct n k line_codes.Nc h i) (unafforded_in_order (balance day J (technical_same day ms ss n h i)) 1 (entries_same day ms ss n h i))
  rejections_by J n h _ = refl

  rejection_same : (J : History) (l : Line) → l.head.msg ≤ length day.messages → rejection_statuses (longer day ms ss) J l ≡ rejection_statuses day J l
  rejection_same J l h = λ i.
      if takes_well l then by_sort day ms ss (λ s. rejections_as s (longer day ms ss) J l.head.msg) (λ s. rejections_as s day J l.head.msg) (rejections_by J l.head.msg h) l.head.msg h i else []

  -- ---- what is settled now

  settled_now_same : (J : History) (l : Line) → SpeaksOf (length day.messages) (l ∷ J) → (n : ℕ) → n ≤ length day.messages → is_settled_now (longer day ms ss) J l n ≡ is_settled_now day J l n
  settled_now_same J l spoken n h = λ i. is_order (sort_same day ms ss n h i) && is_settled (phase_same day ms ss (l ∷ J) spoken n h i) && not (is_settled (phase_same day ms ss J spoken.0 n h i))

  settled_never : (J : History) (l : Line) → SpeaksOf (length day.messages) (l ∷ J) → (n : ℕ) → length day.messages < n → is_settled_now (longer day ms ss) J l n ≡ false
  settled_never J l spoken n h =
      let untaken : is_settled (phase (longer day ms ss) (l ∷ J) n) ≡ false = ap is_settled (phase_untaken (longer day ms ss) (l ∷ J) n (never_taken (length day.messages) n (l ∷ J) spoken h)) in
      (λ i. is_order (sort_of (longer day ms ss) n) && untaken i && not (is_settled (phase (longer day ms ss) J n)))
      ∙ by (is_order (sort_of (longer day ms ss) n)) (not (is_settled (phase (longer day ms ss) J n)))
    where
      by : (x y : Bool) → (x && false && y) ≡ false
      by true y = refl
      by false y = refl

  settlement_same : (J : History) (l : Line) → SpeaksOf (length day.messages) (l ∷ J) → settlement_statuses (longer day ms ss) J l ≡ settlement_statuses day J l
  settlement_same J l spoken =
      pass_front (λ n. turn_told (longer day ms ss) (place_after J) turn_codes.Setl n 0 line_codes.Ok) (λ n. turn_told day (place_after J) turn_codes.Setl n 0 line_codes.Ok)
      (is_settled_now (longer day ms ss) J l) (is_settled_now day J l) 1 day.messages ms
      (λ n h. told_same (place_after J) turn_codes.Setl n 0 line_codes.Ok (omega (arith, h)))
      (λ n h. settled_now_same J l spoken n (omega (arith, h)))
      (λ n h. settled_never J l spoken n (omega (arith, h)))

  -- ---- all

  pub statuses_same : (J : History) (l : Line) → SpeaksOf (length day.messages) (l ∷ J) → statuses (longer day ms ss) J l ≡ statuses day J l
  unfolding statuses
  statuses_same J l spoken = λ i.
      flat_map (move_statuses day (place_after J)) l.moves
      ++ intake_same J l spoken.1 i
      ++ information_same J l spoken.1 i
      ++ objection_same J l spoken i
      ++ rejection_same J l spoken.1 i
      ++ ask_same J l spoken.1 i
      ++ failure_same J l spoken.1 i
      ++ settlement_same J l spoken i
