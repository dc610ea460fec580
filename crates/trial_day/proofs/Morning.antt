-- Before time has passed on an ample day: there are only lines that take and settle, and each message is settled or open.
use Rattle.std.proofs.Common.{◌≡◌, ℕ, zero, suc, ◌+◌, ◌≤◌, Bool, true, false, not, ◌&&◌, List, [], ◌∷◌, Option, Some, None, refl, sym, ap, ◌∙◌, subst, arith, length, ◌⊎◌, inl, inr}
use Rattle.std.specs.Prelude.{is_some, is_none, nat_lt, unwrap_or, if◌then◌else◌}
use Rattle.std.specs.List.{list_all, range_with_len}
use Rattle.std.specs.Option.{option_or, option_map_or}
use Rattle.std.proofs.lemmas.Bool.{and_left}
use Rattle.batch_records.specs.DayRecord.{Day}
use Rattle.batch_records.specs.declared.day.Message.{Message}
use Rattle.batch_records.specs.declared.day.Entry.{Entry}
use Rattle.batch_records.specs.declared.day.Body.{Body}
use Rattle.batch_records.specs.declared.day.Body.TheVariants as bodies
use Rattle.commit_journal.specs.declared.line.Code.{Code}
use Rattle.commit_journal.specs.declared.line.Code.TheVariants as line_codes
use Rattle.commit_journal.specs.declared.line.Kind.TheVariants as kinds
use Rattle.commit_journal.specs.Line.{Line, History}
use Rattle.machine.specs.declared.answers.Phase.TheVariants as phases
use Rattle.machine.specs.Words.{some_passes, when}
use Rattle.machine.specs.Records.Messages.{Sort, Missing, BatchA, BatchB, BatchE, sort_of, sort_of_body, is_message, is_a, is_b, message_at, settlement_end, entries, entry_at, transfer, transfer_in, move_of}
use Rattle.machine.specs.Telling.History.{is_in_of, is_ok, is_ask_of, is_cover_of, is_closing_of, taken, taken_code, is_accepted, asked, covered, closed, clock, place_of, read_first}
use Rattle.machine.specs.Telling.Facts.{answered, revoked, revokes, objection_in}
use Rattle.machine.specs.Stages.Phases.{phase, is_no_order, is_revoked_entry, revoked_as, settled_as, open_as}
use Rattle.machine.specs.Making.Lines.{line, book_line, all_line}
use Rattle.machine.specs.Laws.{EachLine}
use Rattle.settlement_laws.proofs.Base.Counting.{not_some, not_none}
use Rattle.settlement_laws.proofs.Base.Lists.{never}
use Rattle.settlement_laws.proofs.Base.PhaseLaws.{table}
use Rattle.trial_day.proofs.Ample.{Ample, is_drawn}

-- ---- lines that take and settle

pub record Takes (day : Day) (l : Line) : Type 0 where
  pub msg : ℕ
  pub message : is_message (sort_of day msg) ≡ true
  pub is : l ≡ line kinds.In msg 0 line_codes.Ok []

pub record Books (day : Day) (l : Line) : Type 0 where
  pub msg : ℕ
  pub entry : ℕ
  pub message : is_message (sort_of day msg) ≡ true
  pub not_b : is_b (sort_of day msg) ≡ false
  pub moves : Entry
  pub there : entry_at day msg entry ≡ Some moves
  pub is : l ≡ line kinds.Book msg entry line_codes.Ok (move_of day moves ∷ [])
  pub made : l ≡ book_line day msg entry

pub record SettlesAll (day : Day) (l : Line) : Type 0 where
  pub msg : ℕ
  pub of_b : is_b (sort_of day msg) ≡ true
  pub is : l ≡ all_line day msg

abbrev pub IsWork : Day → Line → Type 0
IsWork day l = Takes day l ⊎ (Books day l ⊎ SettlesAll day l)

pub record Morning (day : Day) (J : History) : Type 0 where
  pub no_time : clock J ≡ 0
  pub works : EachLine (λ l before. IsWork day l) J

-- a test that no such line passes is passed by none of them
pub none_there : (day : Day) (test : Line → Bool) → ((l : Line) → IsWork day l → test l ≡ false) → (J : History) → EachLine (λ l before. IsWork day l) J → is_none (place_of test J) ≡ true
unfolding place_of
none_there day test h [] w = refl
none_there day test h (l ∷ J) w = here (place_of test J) (test l) (none_there day test h J w.0) (h l w.1)
  where
    here : (o : Option ℕ) (b : Bool) → is_none o ≡ true → b ≡ false → is_none (option_or o (when b (suc (length J)))) ≡ true
    here None false n e = refl
    here None true n e = cc
    here (Some p) b n e = cc

-- a test of the line's kind
abbrev no_work : (Line → Bool) → Type 0
no_work test = ((n : ℕ) → test (line kinds.In n 0 line_codes.Ok []) ≡ false) × (((n k : ℕ) (ms : List _) → test (line kinds.Book n k line_codes.Ok ms) ≡ false) × ((n : ℕ) (ms : List _) → test (line kinds.All n 0 line_codes.Ok ms) ≡ false))

pub by_kind : (day : Day) (test : Line → Bool) → no_work test → (l : Line) → IsWork day l → test l ≡ false
by_kind day test h l (inl t) = subst (λ x. test x ≡ false) (sym t.is) (h.0 t.msg)
by_kind day test h l (inr (inl b)) = subst (λ x. test x ≡ false) (sym b.is) (h.1.0 b.msg b.entry _)
by_kind day test h l (inr (inr a)) = subst (λ x. test x ≡ false) (sym a.is) (h.1.1 a.msg _)

-- ---- batches revoke nothing, and have no transfer

body_revokes_nothing : (day : Day) (n k : ℕ) (from : List ℕ) (b : Body) → is_drawn (sort_of_body b) ≡ true → objection_in day n k from b ≡ false
body_revokes_nothing day n k from (bodies.Object system id) d = cc
body_revokes_nothing day n k from _ d = refl

revokes_nothing : (day : Day) (n k : ℕ) (o : Option Message) → is_drawn (option_map_or (λ m. sort_of_body m.body) o Missing) ≡ true → some_passes (λ m. objection_in day n k m.sender m.body) o ≡ false
revokes_nothing day n k None d = refl
revokes_nothing day n k (Some m) d = body_revokes_nothing day n k m.sender m.body d

body_no_transfer : (b : Body) → is_drawn (sort_of_body b) ≡ true → transfer_in b ≡ None
body_no_transfer (bodies.Pay high debit credit amount) d = cc
body_no_transfer (bodies.Liquidity debit credit amount) d = cc
body_no_transfer _ d = refl

pub no_transfer : (day : Day) (n : ℕ) → is_drawn (sort_of day n) ≡ true → transfer day n ≡ None
no_transfer day n d = here (message_at day n) d
  where
    here : (o : Option Message) → is_drawn (option_map_or (λ m. sort_of_body m.body) o Missing) ≡ true → option_map_or (λ m. transfer_in m.body) o None ≡ None
    here None d = refl
    here (Some m) d = body_no_transfer m.body d

-- ---- what the lines tell

-- a taken message is accepted
taken_or_not : (day : Day) (J : History) (n : ℕ) → EachLine (λ l before. IsWork day l) J →
    ((is_some (taken J n) ≡ false) × (taken_code J n ≡ None)) ⊎ ((is_some (taken J n) ≡ true) × (taken_code J n ≡ Some line_codes.Ok))
unfolding place_of read_first
taken_or_not day [] n w = inl (refl, refl)
taken_or_not day (l ∷ J) n w = here (taken J n) (taken_code J n) (is_in_of n l) l.head.code (taken_or_not day J n w.0) (code_is_ok w.1)
  where
    code_is_ok : IsWork day l → l.head.code ≡ line_codes.Ok
    code_is_ok (inl t) = ap (λ (x : Line). x.head.code) t.is
    code_is_ok (inr (inl b)) = ap (λ (x : Line). x.head.code) b.is
    code_is_ok (inr (inr a)) = ap (λ (x : Line). x.head.code) a.is

    here : (o : Option ℕ) (p : Option Code) (b : Bool) (c : Code) →
        ((is_some o ≡ false) × (p ≡ None)) ⊎ ((is_some o ≡ true) × (p ≡ Some line_codes.Ok)) → c ≡ line_codes.Ok →
        ((is_some (option_or o (when b (suc (length J)))) ≡ false) × (option_or p (when b c) ≡ None))
        ⊎ ((is_some (option_or o (when b (suc (length J)))) ≡ true) × (option_or p (when b c) ≡ Some line_codes.Ok))
    here None p true c (inl h) e = inr (refl, ap (λ q. option_or q (Some c)) h.1 ∙ ap Some e)
    here None p false c (inl h) e = inl (refl, ap (λ q. option_or q None) h.1)
    here (Some i) p b c (inl h) e = cc
    here (Some i) p b c (inr h) e = inr (refl, ap (λ q. option_or q (when b c)) h.1)
    here None p b c (inr h) e = cc

pub taken_accepted : (day : Day) (J : History) (n : ℕ) → EachLine (λ l before. IsWork day l) J → is_some (taken J n) ≡ true → is_accepted J n ≡ true
taken_accepted day J n w t = here (taken_or_not day J n w)
  where
    here : ((is_some (taken J n) ≡ false) × (taken_code J n ≡ None)) ⊎ ((is_some (taken J n) ≡ true) × (taken_code J n ≡ Some line_codes.Ok)) → is_accepted J n ≡ true
    here (inl h) = never (is_some (taken J n)) t h.0
    here (inr h) = ap (some_passes is_ok) h.1

module _ (day : Day) (ample : Ample day) (J : History) (morning : Morning day J) (n : ℕ) where
  none_by : (test : Line → Bool) → no_work test → is_some (place_of test J) ≡ false
  none_by test h = not_some (place_of test J) (none_there day test (by_kind day test h) J morning.works)

  pub not_closed : is_some (closed J n) ≡ false
  not_closed = none_by (is_closing_of n) (λ m. refl, (λ m k ms. refl, λ m ms. refl))

  pub not_asked : is_some (asked J n) ≡ false
  not_asked = none_by (is_ask_of n) (λ m. refl, (λ m k ms. refl, λ m ms. refl))

  pub not_covered : is_some (covered J n) ≡ false
  not_covered = none_by (is_cover_of n) (λ m. refl, (λ m k ms. refl, λ m ms. refl))

  pub not_revoked : (k : ℕ) → is_revoked_entry day J n k ≡ false
  not_revoked k = not_some (revoked day J n k) (none_there day (revokes day n k) line_revokes_nothing J morning.works)
    where
      line_revokes_nothing : (l : Line) → IsWork day l → revokes day n k l ≡ false
      line_revokes_nothing l (inl t) = ap (revokes day n k) t.is ∙ revokes_nothing day n k (message_at day t.msg) (ample.drawn t.msg t.message)
      line_revokes_nothing l (inr (inl b)) = ap (revokes day n k) b.is
      line_revokes_nothing l (inr (inr a)) = ap (revokes day n k) a.is

  all_fail : (test : ℕ → Bool) → ((k : ℕ) → test k ≡ false) → (s m : ℕ) → 1 ≤ m → list_all test (range_with_len s m) ≡ false
  all_fail test h s zero low = absurd (omega arith)
  all_fail test h s (suc m) low = and_left (test s) (list_all test (range_with_len (s + 1) m)) (h s)

  revoked_as_no : (s : Sort) → 1 ≤ length (entries day n) → revoked_as s day J n ≡ false
  revoked_as_no BatchA low = not_revoked 0
  revoked_as_no BatchB low = not_revoked 0
  revoked_as_no BatchE low = all_fail (is_revoked_entry day J n) not_revoked 1 (length (entries day n)) low
  revoked_as_no _ low = refl

  in_time : nat_lt (clock J) (settlement_end day n) ≡ true
  in_time = λ i. nat_lt (morning.no_time i) (unwrap_or (ample.no_end n i) 86400)

  open_as_yes : (s : Sort) → is_drawn s ≡ true → open_as s day J n ≡ true
  open_as_yes BatchA d = in_time
  open_as_yes BatchB d = in_time
  open_as_yes BatchE d = in_time
  open_as_yes _ d = cc

  is_an_order : (s : Sort) → is_drawn s ≡ true → is_no_order s ≡ false
  is_an_order BatchA d = refl
  is_an_order BatchB d = refl
  is_an_order BatchE d = refl
  is_an_order _ d = cc

  -- a message that is taken is settled, or it is open
  pub morning_phase : is_message (sort_of day n) ≡ true → is_some (taken J n) ≡ true → phase day J n ≡ (if settled_as (sort_of day n) day J n then phases.Settled else phases.Open)
  unfolding phase
  morning_phase m t = (λ i. table
      (not_none (taken J n) t i)
      (ap not (taken_accepted day J n morning.works t) i)
      (is_an_order (sort_of day n) (ample.drawn n m) i)
      (not_closed i)
      (revoked_as_no (sort_of day n) (ample.filled n m) i)
      (settled_as (sort_of day n) day J n)
      (no_and (is_a (sort_of day n)) (is_some (covered J n)) not_covered i)
      (no_or (is_some (asked J n)) (is_some (answered day J n)) not_asked i)
      (not_asked i)
      (ap (some_passes (nat_lt (clock J))) (ample.no_info n) i)
      (ap (some_passes (nat_lt (clock J))) (ample.no_early n) i)
      (open_as_yes (sort_of day n) (ample.drawn n m) i)) ∙ last (settled_as (sort_of day n) day J n)
    where
      no_and : (a b : Bool) → b ≡ false → (a && b) ≡ false
      no_and true b h = h
      no_and false b h = refl

      no_or : (a b : Bool) → a ≡ false → (a && b) ≡ false
      no_or true b h = cc
      no_or false b h = refl

      last : (s : Bool) → table false false false false false s false false false false false true ≡ (if s then phases.Settled else phases.Open)
      last true = refl
      last false = refl
