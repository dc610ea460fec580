-- A message that is rejected has no line but its In line, which moves nothing.
use Rattle.std.proofs.Common.{◌≡◌, ℕ, zero, suc, Bool, true, false, ◌&&◌, not, [], ◌∷◌, Option, Some, None, refl, sym, ap, ◌∙◌, subst, arith, inl, inr}
use Rattle.std.specs.Prelude.{is_none, length, nat_eq}
use Rattle.std.specs.Option.{option_or}
use Rattle.std.proofs.lemmas.Bool.{and_parts, not-true, ne_eqb}
use Rattle.batch_records.specs.DayRecord.{Day}
use Rattle.commit_journal.specs.declared.line.Code.{Code}
use Rattle.commit_journal.specs.declared.line.Code.TheVariants as line_codes
use Rattle.commit_journal.specs.declared.line.Want.{Want}
use Rattle.commit_journal.specs.declared.line.Want.TheVariants as wants
use Rattle.commit_journal.specs.Line.{Line, History}
use Rattle.machine.specs.Words.{some_passes, when}
use Rattle.machine.specs.Records.Messages.{sort_of, is_message}
use Rattle.machine.specs.Telling.History.{is_in, is_in_of, is_ok, place_of, read_first, taken, taken_code}
use Rattle.machine.specs.Telling.Facts.{is_reached, untaken_earlier}
use Rattle.machine.specs.Stages.Intake.{intake_code, intake_moves}
use Rattle.machine.specs.Making.Lines.{may, made, may_take}
use Rattle.machine.specs.Legal.{IsLegal}
use Rattle.machine.specs.Laws.{EachLine}
use Rattle.settlement_laws.specs.Rejected.{is_rejected, IsRejection, RejectedDoNothing}
use Rattle.settlement_laws.proofs.Base.Induction.{legal_induction}
use Rattle.settlement_laws.proofs.Base.Lists.{never}
use Rattle.settlement_laws.proofs.Base.Made.{made_facts}
use Rattle.settlement_laws.proofs.Base.Places.{same-number}
use Rattle.settlement_laws.proofs.EachLaw.OneLineLaws.{Tells, tells}

-- ---- the code of an intake, as lines are added

pub untaken_code : (J : History) (n : ℕ) → is_none (taken J n) ≡ true → taken_code J n ≡ None
unfolding place_of read_first
untaken_code [] n h = refl
untaken_code (l ∷ J) n h = here (taken_code J n) (taken J n) (is_in_of n l) h (untaken_code J n)
  where
    here : (o : Option Code) (p : Option ℕ) (b : Bool) → is_none (option_or p (when b (suc (length J)))) ≡ true → (is_none p ≡ true → o ≡ None) → option_or o (when b l.head.code) ≡ None
    here o (Some p) b h k = cc
    here o None true h k = cc
    here o None false h k = ap (λ x. option_or x None) (k refl)

code_stays : (l : Line) (J : History) (n : ℕ) (c : Code) → taken_code J n ≡ Some c → taken_code (l ∷ J) n ≡ Some c
unfolding read_first
code_stays l J n c e = ap (λ o. option_or o (when (is_in_of n l) l.head.code)) e

pub code_now : (l : Line) (J : History) (n : ℕ) → is_in_of n l ≡ true → taken_code J n ≡ None → taken_code (l ∷ J) n ≡ Some l.head.code
unfolding read_first
code_now l J n h e = ap (λ o. option_or o (when (is_in_of n l) l.head.code)) e ∙ ap (λ b. when b l.head.code) h

-- no message has the number 0
zero_step : (day : Day) (J : History) (w : Want) → taken_code J 0 ≡ None → may day J w ≡ true → taken_code (made day J w ∷ J) 0 ≡ None
unfolding read_first
zero_step day J (wants.In zero) e h = cc
zero_step day J (wants.In (suc n)) e h = ap (λ o. option_or o (when (nat_eq (suc n) 0) (intake_code day J (suc n)))) e ∙ ap (λ b. when b (intake_code day J (suc n))) (ne_eqb (suc n) 0 (λ z. omega (arith, z)))
zero_step day J (wants.Book n k) e h = ap (λ o. option_or o None) e
zero_step day J (wants.All n) e h = ap (λ o. option_or o None) e
zero_step day J wants.Time e h = ap (λ o. option_or o None) e
zero_step day J (wants.Expire n) e h = ap (λ o. option_or o None) e
zero_step day J (wants.Ask n) e h = ap (λ o. option_or o None) e
zero_step day J (wants.Cover n) e h = ap (λ o. option_or o None) e
zero_step day J (wants.Refuse n) e h = ap (λ o. option_or o None) e
zero_step day J (wants.Sweep a) e h = ap (λ o. option_or o None) e
zero_step day J wants.End e h = ap (λ o. option_or o None) e

none_of_zero : (day : Day) (J : History) → IsLegal day J → taken_code J 0 ≡ None
unfolding read_first
none_of_zero day = legal_induction day (λ J. taken_code J 0 ≡ None) refl (λ J w legal before e h. zero_step day J w before h)

-- ---- the law, of each line of a beginning

rejected_code : (J : History) (n : ℕ) (c : Code) → taken_code J n ≡ Some c → is_rejected J n ≡ true → is_ok c ≡ false
rejected_code J n c e r = not-true (is_ok c) (subst (λ o. some_passes (λ code. not (is_ok code)) o ≡ true) e r)

accepted_code : (o : Option Code) → some_passes is_ok o ≡ true → (c : Code) × (o ≡ Some c) × (is_ok c ≡ true)
accepted_code None h = cc
accepted_code (Some c) h = (c, refl, h)

rejected_moves : (day : Day) (J : History) (n : ℕ) (c : Code) → is_ok c ≡ false → intake_moves day J n c ≡ []
rejected_moves day J n line_codes.Ok h = cc
rejected_moves day J n _ h = refl

-- what the beginning tells of a code, the whole tells too
abbrev Keeps : History → History → Type 0
Keeps all J = (n : ℕ) (c : Code) → taken_code J n ≡ Some c → taken_code all n ≡ Some c

untaken : (day : Day) (J : History) (n : ℕ) → may_take day J n ≡ true → is_none (taken J n) ≡ true
untaken day J n h = (and_parts (is_message (sort_of day n)) (is_none (taken J n)) (and_parts _ (is_reached day J n) (and_parts _ (is_none (untaken_earlier day J n)) h).0).0).1

line_rejected : (day : Day) (all : History) (l : Line) (J : History) → taken_code all 0 ≡ None → Keeps all (l ∷ J) → Tells l.head.kind day J l.head.msg l.head.entry l.head.code l.moves → is_rejected all l.head.msg ≡ true → IsRejection l
line_rejected day all l J z keeps (inl t) r =
    let here : is_in_of l.head.msg l ≡ true = ap (λ kind. is_in kind && nat_eq l.head.msg l.head.msg) t.intake ∙ same-number l.head.msg in
    let code : taken_code all l.head.msg ≡ Some l.head.code = keeps l.head.msg l.head.code (code_now l J l.head.msg here (untaken_code J l.head.msg (untaken day J l.head.msg t.made_so.0))) in
    let bad : is_ok l.head.code ≡ false = rejected_code all l.head.msg l.head.code code r in
    (t.intake, bad, t.made_so.2 ∙ rejected_moves day J l.head.msg (intake_code day J l.head.msg) (ap is_ok (sym t.made_so.1) ∙ bad))
line_rejected day all l J z keeps (inr (inl e)) r = absurd (none (sym (ap (λ n. is_rejected all n) e ∙ ap (some_passes (λ code. not (is_ok code))) z) ∙ r))
  where
    none : false ≡ true → ⊥
    none h = cc
line_rejected day all l J z keeps (inr (inr a)) r =
    let c : (c : Code) × (taken_code J l.head.msg ≡ Some c) × (is_ok c ≡ true) = accepted_code (taken_code J l.head.msg) a in
    never (is_ok c.0) c.2 (rejected_code all l.head.msg c.0 (keeps l.head.msg c.0 (code_stays l J l.head.msg c.0 c.1)) r)

beginning : (day : Day) (all J : History) → taken_code all 0 ≡ None → Keeps all J → IsLegal day J → EachLine (λ l before. is_rejected all l.head.msg ≡ true → IsRejection l) J
beginning day all [] z keeps legal = tt
beginning day all (l ∷ J) z keeps legal =
    (beginning day all J z (λ n c e. keeps n c (code_stays l J n c e)) legal.0, line_rejected day all l J z keeps (tells l.head.kind day J _ _ _ _ (made_facts day J l legal.1).1))

pub rejected_do_nothing : (day : Day) (J : History) → IsLegal day J → RejectedDoNothing J
rejected_do_nothing day J legal = beginning day J J (none_of_zero day J legal) (λ n c e. e) legal
