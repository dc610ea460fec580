-- Over no lines nothing is ready.
use Rattle.std.proofs.Common.{◌≡◌, ◌≤◌, ◌∙◌, ℕ, zero, suc, ◌+◌, Bool, false, not, ◌&&◌, ◌||◌, List, [], Option, Some, None, length, replicate, get_or, refl, sym, ap, subst, arith, if◌then◌else◌}
use Rattle.std.specs.Prelude.{nat_lt, option_map, unwrap_or}
use Rattle.std.proofs.lemmas.Bool.{and_right, false_from_ne_true}
use Rattle.std.proofs.lemmas.List.{length-replicate}
use Rattle.batch_records.specs.DayRecord.{Day}
use Rattle.batch_records.specs.declared.day.Entry.{Entry}
use Rattle.machine.specs.declared.answers.Item.{Item}
use Rattle.machine.specs.declared.answers.Phase.TheVariants as phases
use Rattle.machine.specs.Records.Messages.{part}
use Rattle.machine.specs.Telling.History.{clock, place_of}
use Rattle.machine.specs.Stages.Phases.{phase}
use Rattle.machine.specs.Stages.Pending.{is_pending, item}
use Rattle.settlement_laws.proofs.Base.Lists.{never}
use Rattle.settlement_laws.proofs.Base.PhaseLaws.{untaken_phase}
use Rattle.settlement_laws.proofs.Wants.PlacesDiffer.{pending_taken}
use Rattle.std.specs.List.Sorted.{IsStrictlyIncreasing}
use Rattle.amount_forest.specs.Lists.{numbers_at}
use Rattle.number_set.specs.Members.{has}
use Rattle.scan_laws.specs.Candidates.{IsFirstRound}
use Rattle.scan_laws.specs.Numbers.{item_count, item_of}
use Rattle.scan_laws.specs.Views.{alone}
use Rattle.ready_items.specs.Goes.{by_itself, goes_at, goes_on, is_placed}
use Rattle.ready_items.specs.Found.{AreMembers, Found, MayStand, candidate}
use Rattle.ready_items.specs.Normals.{HavePayments, IsPayment, Normals, amount_of, pending_amount}
use Rattle.ready_items.specs.Kept.{KeepsReady}

same_at : {X : Type 0} (n i : ℕ) (x : X) → get_or (replicate n x) i x ≡ x
same_at zero i x = refl
same_at (suc n) zero x = refl
same_at (suc n) (suc i) x = same_at n i x

none_pending : (day : Day) (x : Item) → is_pending day [] x ≡ false
unfolding place_of
none_pending day x = false_from_ne_true (is_pending day [] x) (λ h. never false (pending_taken day [] x h) refl)

untaken : (day : Day) (n : ℕ) → phase day [] n ≡ phases.Untaken
unfolding place_of
untaken day n = untaken_phase day [] n refl

not_alone : (day : Day) (n k t : ℕ) → unwrap_or (alone day n k phases.Untaken t) false ≡ false
not_alone day n zero t = refl
not_alone day n (suc k) t = refl

none_by_itself : (day : Day) (x : Item) → by_itself day [] x ≡ false
none_by_itself day x =
    (λ t. unwrap_or (alone day x.msg x.entry (untaken day x.msg t) (clock [])) false || none_pending day x t && not (is_placed day x))
    ∙ ap (λ b. b || false && not (is_placed day x)) (not_alone day x.msg x.entry (clock []))

none_goes : (day : Day) (a i : ℕ) → goes_at day [] a i ≡ false
none_goes day a i = and_right (nat_lt i (item_count day)) (goes_on day [] a (item_of day i)) (here (is_pending day [] (item_of day i)) _ _ _ (none_pending day (item_of day i)))
  where
    here : (p s f c : Bool) → p ≡ false → (p && s && f && c) ≡ false
    here p s f c e = ap (λ b. b && s && f && c) e

none_amount : (day : Day) (n : ℕ) → pending_amount day [] n ≡ None
none_amount day n = ap (λ b. if b then option_map (λ (e : Entry). e.amount) (part day n 0) else None) (none_pending day (item n 0))

abbrev none_found : ℕ → ℕ → ℕ → Found
none_found accounts items room = record { candidates = replicate accounts None; members = replicate items false; room = room }

no_candidate : (accounts items room a : ℕ) → candidate (none_found accounts items room) a ≡ None
no_candidate accounts items room a = same_at accounts a None

none_members : (day : Day) (accounts items room : ℕ) → items ≡ item_count day → AreMembers day (none_found accounts items room)
none_members day accounts items room e = record {
  room = length-replicate items false ∙ e;
  stands = λ a. subst (MayStand day a) (sym (no_candidate accounts items room a)) tt;
  single = λ a y h b. gone (sym (no_candidate accounts items room a) ∙ h);
  whole = λ a y h b all. gone (sym (no_candidate accounts items room a) ∙ h);
}
  where
    gone : {X : Type 0} {y : ℕ} → None ≡ Some y → X
    gone h = cc

pub none_keeps : (day : Day) (normals : Normals) (set touched : List Bool) (found : Found) (accounts items room : ℕ) → HavePayments day (length day.messages) normals → ((n : ℕ) → IsPayment day (length day.messages) n → amount_of day normals n ≡ None) → set ≡ replicate items false → found ≡ none_found accounts items room → touched ≡ replicate accounts false
    → items ≡ item_count day → length day.accounts + 1 ≤ accounts → KeepsReady day [] (record { normals = normals; alone = set; found = found; touched = touched; at = 0 })
none_keeps day normals set touched found accounts items room have amounts s f t i a = record {
  fits = record {
    payments = have;
    alone = ap length s ∙ (length-replicate items false ∙ i);
    members = subst (AreMembers day) (sym f) (none_members day accounts items room i);
    candidates = ap (λ (x : Found). length x.candidates) f ∙ (length-replicate {A = Option ℕ} accounts None ∙ sym (ap length t ∙ length-replicate accounts false));
    touched = subst (λ k. length day.accounts + 1 ≤ k) (sym (ap length t ∙ length-replicate accounts false)) a;
  };
  alone = λ j low. ap (λ xs. has xs j) s ∙ (same_at items j false ∙ sym (none_by_itself day (item_of day j)));
  amounts = λ n first last normal. amounts n (record { first = first; last = last; normal = normal }) ∙ sym (none_amount day n);
  first = λ b low high clean. subst (IsFirstRound (goes_at day [] b) 0) (sym (ap (λ (x : Found). candidate x b) f ∙ no_candidate accounts items room b)) (none_goes day b);
}

-- of no messages there are no payments
pub no_payments : (day : Day) (accounts messages : ℕ) (v : Normals) → v ≡ record { lists = replicate accounts []; numbers = replicate accounts []; spots = []; room = messages } → length day.accounts + 1 ≤ accounts → HavePayments day 0 v
no_payments day accounts messages v e size = subst (HavePayments day 0) (sym e) (record {
  lists = subst (λ k. length day.accounts + 1 ≤ k) (sym (length-replicate {A = List (Option ℕ)} accounts [])) size;
  both = length-replicate accounts [] ∙ sym (length-replicate accounts []);
  sizes = λ a. ap length (same_at {X = List (Option ℕ)} accounts a []) ∙ sym (ap length (same_at {X = List ℕ} accounts a []));
  came = refl;
  rise = λ a. subst IsStrictlyIncreasing (sym (same_at {X = List ℕ} accounts a [])) (λ k h. absurd (omega (arith, h)));
  sound = λ a q w. let none : length (numbers_at (replicate accounts []) a) ≡ 0 = ap length (same_at {X = List ℕ} accounts a []) in absurd (omega (arith, w, none));
  placed = λ n is. let low = is.first in let high = is.last in absurd (omega (arith, low, high));
})
