-- What a crash leaves is opened as a journal with every line that was on the disk; a message that is taken is not taken again.
use Rattle.std.proofs.Common.{◌≡◌, inl, inr, ℕ, Bool, true, false, ◌∷◌, List, Option, Some, None, is_some, is_none, refl, sym, ap, subst, ◌∙◌}
use Rattle.std.specs.Prelude.{nat_eq, option_map}
use Rattle.std.proofs.lemmas.Bool.{and_parts, eqb-true, false≢true}
use Rattle.batch_records.specs.DayRecord.{Day}
use Rattle.batch_records.specs.Sound.{is_sound}
use Rattle.commit_journal.specs.declared.line.Want.{Want}
use Rattle.commit_journal.specs.declared.line.Want.TheVariants as wants
use Rattle.commit_journal.specs.Line.{Line, History}
use Rattle.machine.specs.declared.answers.Why.{Why}
use Rattle.machine.specs.declared.answers.Why.TheVariants as whys
use Rattle.machine.specs.Words.{first_some, unless}
use Rattle.machine.specs.Records.Messages.{is_message, sort_of}
use Rattle.machine.specs.Telling.Facts.{is_reached, untaken_earlier}
use Rattle.machine.specs.Telling.History.{ended, is_ended, is_in_of, place_of, taken}
use Rattle.machine.specs.Legal.{IsLegal}
use Rattle.machine.specs.Making.Lines.{line_of, made, may}
use Rattle.machine.specs.Making.Reasons.{why_not_in}
use Rattle.settlement_laws.proofs.Base.Induction.{legal_induction, line_of-some, want_of-line}
use Rattle.settlement_laws.proofs.Base.Places.{place-other}
use Rattle.durable_day.specs.Bytes.{StandsFor}
use Rattle.durable_day.specs.StoreLaws.{DaysGoOn, Finds, NoneIsTakenAgain, RunsSurvive, StepsSurvive}
use Rattle.durable_day.proofs.GoneOn.{gone_complete, grows-gone_on}
use Rattle.durable_day.proofs.OnwardFacts.{not_ended}
use Rattle.durable_day.proofs.StoreFacts.{one_journal_each}

finds : (day : Day) (bytes : List ℕ) (J : History) → is_sound day ≡ true → IsLegal day J → StandsFor J bytes → Finds day bytes J
finds day bytes J sound legal stands =
    let one = one_journal_each day bytes J sound legal stands in
    (one.1, sym one.0)

pub steps_survive : StepsSurvive
steps_survive day J want bytes sound legal (inl was) = inl (finds day bytes J sound legal was)
steps_survive day J want bytes sound legal (inr (l, made, stands)) = inr (l, made, finds day bytes (l ∷ J) sound (legal, ap (line_of day J) (want_of-line day J want l made) ∙ made) stands)

pub runs_survive : RunsSurvive
runs_survive day J lines bytes sound way = (way.journal, finds day bytes way.journal sound way.legal way.stands, way.legal, way.from, way.to, way.count)

pub days_go_on : DaysGoOn
days_go_on day J sound legal =
    let grows = grows-gone_on day J in
    (grows.legal legal, gone_complete day J sound legal, grows.beginning)

-- ---- none is taken again

-- a message that is taken is one
taken_is_message : (day : Day) (n : ℕ) (J : History) → IsLegal day J → is_some (taken J n) ≡ true → is_message (sort_of day n) ≡ true
unfolding place_of
taken_is_message day n = legal_induction day (λ J. is_some (taken J n) ≡ true → is_message (sort_of day n) ≡ true) (λ h. absurd (false≢true h)) step
  where
    other : (J : History) (l : Line) → is_in_of n l ≡ false → (is_some (taken J n) ≡ true → is_message (sort_of day n) ≡ true) → is_some (taken (l ∷ J) n) ≡ true → is_message (sort_of day n) ≡ true
    other J l not_in before h = before (ap is_some (sym (place-other (is_in_of n) l J not_in)) ∙ h)

    step : (J : History) (w : Want) → IsLegal day J → (is_some (taken J n) ≡ true → is_message (sort_of day n) ≡ true) → is_ended J ≡ false → may day J w ≡ true → is_some (taken (made day J w ∷ J) n) ≡ true → is_message (sort_of day n) ≡ true
    step J (wants.In m) legal before e h t = here (nat_eq m n) refl
      where
        here : (b : Bool) → nat_eq m n ≡ b → is_message (sort_of day n) ≡ true
        here true same =
            let a = and_parts _ (is_none (untaken_earlier day J m)) h in
            let b = and_parts _ (is_reached day J m) a.0 in
            subst (λ k. is_message (sort_of day k) ≡ true) (eqb-true m n same) (and_parts (is_message (sort_of day m)) (is_none (taken J m)) b.0).0
        here false apart = other J (made day J (wants.In m)) apart before t
    step J (wants.Book m k) legal before e h t = other J (made day J (wants.Book m k)) refl before t
    step J (wants.All m) legal before e h t = other J (made day J (wants.All m)) refl before t
    step J wants.Time legal before e h t = other J (made day J wants.Time) refl before t
    step J (wants.Expire m) legal before e h t = other J (made day J (wants.Expire m)) refl before t
    step J (wants.Ask m) legal before e h t = other J (made day J (wants.Ask m)) refl before t
    step J (wants.Cover m) legal before e h t = other J (made day J (wants.Cover m)) refl before t
    step J (wants.Refuse m) legal before e h t = other J (made day J (wants.Refuse m)) refl before t
    step J (wants.Sweep a) legal before e h t = other J (made day J (wants.Sweep a)) refl before t
    step J wants.End legal before e h t = other J (made day J wants.End) refl before t

taken_row : (o : Option ℕ) (is : Bool) (x : Why) (t : Option ℕ) (place : ℕ) (rest : List (Option Why)) → is ≡ true → t ≡ Some place → o ≡ None → first_some (option_map whys.Over o ∷ unless is x ∷ option_map whys.Taken t ∷ rest) ≡ Some (whys.Taken place)
taken_row (Some i) is x t place rest m e none = absurd (cc)
taken_row None true x (Some i) place rest m e none = ap (option_map whys.Taken) e
taken_row None true x None place rest m e none = absurd (cc)
taken_row None false x t place rest m e none = absurd (false≢true m)

no_line : (day : Day) (J : History) (n place : ℕ) → taken J n ≡ Some place → (o : Option Line) → line_of day J (wants.In n) ≡ o → o ≡ None
no_line day J n place t None h = refl
no_line day J n place t (Some l) h =
    let made = line_of-some day J (wants.In n) l h in
    let a = and_parts _ (is_none (untaken_earlier day J n)) made.1 in
    let b = and_parts _ (is_reached day J n) a.0 in
    absurd (false≢true (ap is_none (sym t) ∙ (and_parts (is_message (sort_of day n)) (is_none (taken J n)) b.0).1))

pub none_is_taken_again : NoneIsTakenAgain
unfolding why_not_in
none_is_taken_again day J n place sound legal t =
    let message : is_message (sort_of day n) ≡ true = taken_is_message day n J legal (ap is_some t) in
    (no_line day J n place t (line_of day J (wants.In n)) refl, λ e. taken_row (ended J) (is_message (sort_of day n)) whys.NoSuch (taken J n) place _ message t (not_ended J e))
