-- The answer to a trial.
use Rattle.std.proofs.Common.{◌≡◌, ◌∙◌, ℕ, true, List, length, Option, Some, None, refl, ap, sym, subst, arith, inl, inr}
use Rattle.std.specs.Prelude.{◌⊎◌, Ok, is_some}
use Rattle.std.proofs.lemmas.Bool.{false≢true}
use Rattle.outside_io.specs.Pieces.{SinkState}
use Rattle.batch_records.specs.DayRecord.{Day}
use Rattle.batch_records.specs.Days.{day_of_bytes}
use Rattle.batch_records.specs.DayTexts.{day_text}
use Rattle.batch_records.specs.Sound.{is_sound}
use Rattle.batch_records.proofs.RoundTrip.{read_back}
use Rattle.commit_journal.specs.Kept.{Kept}
use Rattle.commit_journal.specs.Line.{History}
use Rattle.machine.specs.Telling.Balances.{balance}
use Rattle.machine.specs.Legal.{IsLegal, is_complete}
use Rattle.settle_floor.specs.Floors.{IsBalanced}
use Rattle.settlement_laws.proofs.Base.Sums.{all-at}
use Rattle.trial_day.specs.Summary.{HoldsDcas, summary, summary_of_journal}
use Rattle.trial_day.specs.Trial.{generated, trial_accounts}
use Rattle.trial_day.proofs.SummaryLaw.{is_summary}
use Rattle.trial_day.proofs.TrialSound.{generated_is_sound, generated_meets}
use Rattle.program_answers.specs.Giving.{SaysIfRoom, SaysOneIfRoom}
use Rattle.rtgs_engine.specs.Answers.{tried}
use Rattle.rtgs_engine.specs.Promises.{IsAnswer}
use Rattle.rtgs_engine.specs.Trials.{IsInRange}
use Rattle.rtgs_engine.specs.declared.words.Command.{Command}
use Rattle.rtgs_engine.specs.declared.words.Command.TheVariants as commands
use Rattle.rtgs_engine.specs.declared.words.Trial.{Trial}

-- what every journal of a trial comes to
every : (trial : Trial) → IsInRange trial → (J : History) → IsLegal (generated trial.seed trial.batches) J → is_complete J ≡ true → summary_of_journal (generated trial.seed trial.batches) J ≡ summary trial.seed trial.batches
every trial is J legal complete = is_summary (generated trial.seed trial.batches) trial.seed trial.batches J is.seed is.least is.most refl legal complete

-- the day is sound, and read back
sound : (trial : Trial) → IsInRange trial → is_sound (generated trial.seed trial.batches) ≡ true
sound trial is = generated_is_sound trial.seed trial.batches is.most

back : (trial : Trial) → IsInRange trial → day_of_bytes (day_text (generated trial.seed trial.batches)) ≡ Ok (generated trial.seed trial.batches, length (day_text (generated trial.seed trial.batches)))
back trial is = read_back (generated trial.seed trial.batches) (generated_meets trial.seed trial.batches is.most)

-- the answer to a trial, where there is one, whatever was read
pub says_tried : {S : Type 0} (state : S → SinkState) (old new : S) (command : Command) (bytes : List ℕ) (trial : Trial) (status : ℕ) → command ≡ commands.Trial trial → IsInRange trial → SaysIfRoom state old new (tried trial) status → SaysOneIfRoom state old new (IsAnswer command bytes) status
says_tried state old new command bytes trial status e is (inl none) = inl none
says_tried state old new command bytes trial status e is (inr said) =
    inr (tried trial, subst (λ c. IsAnswer c bytes (tried trial)) (sym e) (refl, record { sound = sound trial is; read_back = back trial is; is = refl; every = every trial is }), said)

-- ---- what the accounts hold

wide : (seed batches : ℕ) → length (generated seed batches).accounts ≡ 32
unfolding generated trial_accounts
wide seed batches = refl

-- the balances of all accounts are those of the dedicated cash accounts too
pub holds_dcas : (trial : Trial) (day : Day) (journal : Kept) (holdings : ℕ → Option ℕ) → day ≡ generated trial.seed trial.batches → IsBalanced day journal holdings → HoldsDcas day journal.history holdings
holds_dcas trial day journal holdings is balanced a least most = go (holdings a) refl
  where
    there : is_some (holdings a) ≡ true
    there =
        let many = ap (λ (d : Day). length d.accounts) is ∙ wide trial.seed trial.batches in
        all-at (λ b. is_some (holdings b)) 1 (length day.accounts) a balanced.all (omega (arith, least)) (omega (arith, most, many))

    go : (o : Option ℕ) → holdings a ≡ o → holdings a ≡ Some (balance day journal.history a)
    go None e = absurd (false≢true (sym (ap is_some e) ∙ there))
    go (Some held) e = e ∙ ap Some (balanced.kept a held e)
