use Rattle.std.proofs.Common.{◌≡◌, ◌∙◌, ◌≤◌, ◌+◌, ◌-◌, ℕ, List, Option, None, Some, refl, sym, ap, subst, rules, length}
use Rattle.std.specs.Prelude.{slice_get}
use Rattle.std.specs.Option.{IsSome, SomeIff}
use Rattle.std.proofs.lemmas.Option.{same_Some}
use Rattle.cash_amounts.specs.declared.cents.TheConstants.{MAX_CENTS}
use Rattle.batch_records.specs.DayRecord.{Day}
use Rattle.machine.specs.Records.Reserves.{kept, kept_high, kept_of, kept_urgent}
use Rattle.rule_book.proofs.KeptFacts.{both_kept, kept_got, kept_size, kept_small}
use Rattle.rule_book.proofs.setting.Setting.kept.Goals as goal

-- what is kept at a number is what the day says of it
same_pair : (day : Day) (all : List (ℕ × ℕ)) (a : ℕ) (p : ℕ × ℕ) → all ≡ kept_of day → 1 ≤ a → a ≤ length day.accounts → slice_get all (a - 1) ≡ Some p → p ≡ both_kept day a
same_pair day all a p is low high got = same_Some p (both_kept day a) (sym got ∙ ap (λ (l : List (ℕ × ℕ)). slice_get l (a - 1)) is ∙ kept_got day a low high)

is_there : (o : Option ℕ) (n : ℕ) → SomeIff o (n ≤ MAX_CENTS) n → n ≤ MAX_CENTS → IsSome o
is_there None n iff within = absurd (iff within)
is_there (Some x) n iff within = refl

pub at-urgent-requires-clause-within : goal.at-urgent-requires-clause-within
at-urgent-requires-clause-within c =
    let s = c.args.self.now in
    subst (λ n. c.args.a ≤ n) (sym (ap length s.entered ∙ kept_size s.day)) c.requires.within

pub unwrap-requires : goal.unwrap-requires
unwrap-requires c =
    let s = c.args.self.now in
    let same = same_pair s.day s.kept c.args.a c.at-urgent.result s.entered c.requires.from_one c.requires.within c.at-urgent.ensures in
    let sum : c.get.result + c.get-else-high.result ≡ kept_urgent s.day c.args.a + kept_high s.day c.args.a =
    (λ i. c.get.ensures.value i + c.get-else-high.ensures.value i) ∙ ap (λ (p : ℕ × ℕ). p.0 + p.1) same in
    is_there c.of.result (c.get.result + c.get-else-high.result) c.of.ensures (subst (λ n. n ≤ 1000000000000000000) (sym sum) (kept_small s.day c.args.a s.sound))

pub returns-then-high : goal.returns-then-high
returns-then-high c =
    let s = c.args.self.now in
    let same = same_pair s.day s.kept c.args.a c.at-urgent.result s.entered c.requires.from_one c.requires.within c.at-urgent.ensures in
    ap (λ (p : ℕ × ℕ). p.0) same ∙ ap (kept s.day c.args.a) (sym c.if-high.true)

pub returns-else-high : goal.returns-else-high
returns-else-high c =
    let s = c.args.self.now in
    let same = same_pair s.day s.kept c.args.a c.at-urgent.result s.entered c.requires.from_one c.requires.within c.at-urgent.ensures in
    let value : c.unwrap.result ≡ c.get.result + c.get-else-high.result = search rules in
    value ∙ (λ i. c.get.ensures.value i + c.get-else-high.ensures.value i) ∙ ap (λ (p : ℕ × ℕ). p.0 + p.1) same ∙ ap (kept s.day c.args.a) (sym c.if-high.false)
