use Rattle.std.proofs.Common.{◌≡◌, ◌∙◌, ℕ, List, [], ◌∷◌, length, Option, Some, sym}
use Rattle.std.specs.Prelude.{slice_get}
use Rattle.rtgs_engine.specs.CommandLines.{command_of, command_of_five, command_of_four, command_of_two}
use Rattle.rtgs_engine.specs.declared.words.Command.{Command}
use Rattle.rtgs_engine.proofs.words.command_of.Goals as goal

of_two : (words : List (List ℕ)) (one other : List ℕ) (result : Option Command) → length words ≡ 2 → slice_get words 0 ≡ Some one → slice_get words 1 ≡ Some other → result ≡ command_of_two one other → result ≡ command_of words
of_two [] one other result e f g is = absurd (cc)
of_two (a ∷ []) one other result e f g is = absurd (cc)
of_two (a ∷ b ∷ []) one other result e f g is = cc
of_two (a ∷ b ∷ c ∷ more) one other result e f g is = absurd (cc)

pub returns-in-2 : goal.returns-in-2
returns-in-2 c = of_two c.args.words.now _ _ _ (sym c.len.ensures ∙ c.in-2.is) c.word-in-2.ensures c.word-in-2-2.ensures c.command_of_two.ensures

of_four : (words : List (List ℕ)) (w x y z : List ℕ) (result : Option Command) → length words ≡ 4 → slice_get words 0 ≡ Some w → slice_get words 1 ≡ Some x → slice_get words 2 ≡ Some y → slice_get words 3 ≡ Some z →
    result ≡ command_of_four w x y z → result ≡ command_of words
of_four [] w x y z result e f g h i is = absurd (cc)
of_four (a ∷ []) w x y z result e f g h i is = absurd (cc)
of_four (a ∷ b ∷ []) w x y z result e f g h i is = absurd (cc)
of_four (a ∷ b ∷ c ∷ []) w x y z result e f g h i is = absurd (cc)
of_four (a ∷ b ∷ c ∷ d ∷ []) w x y z result e f g h i is = cc
of_four (a ∷ b ∷ c ∷ d ∷ k ∷ more) w x y z result e f g h i is = absurd (cc)

of_five : (words : List (List ℕ)) (w x y z u : List ℕ) (result : Option Command) → length words ≡ 5 → slice_get words 0 ≡ Some w → slice_get words 1 ≡ Some x → slice_get words 2 ≡ Some y → slice_get words 3 ≡ Some z → slice_get words 4 ≡ Some u →
    result ≡ command_of_five w x y z u → result ≡ command_of words
of_five [] w x y z u result e f g h i j is = absurd (cc)
of_five (a ∷ []) w x y z u result e f g h i j is = absurd (cc)
of_five (a ∷ b ∷ []) w x y z u result e f g h i j is = absurd (cc)
of_five (a ∷ b ∷ c ∷ []) w x y z u result e f g h i j is = absurd (cc)
of_five (a ∷ b ∷ c ∷ d ∷ []) w x y z u result e f g h i j is = absurd (cc)
of_five (a ∷ b ∷ c ∷ d ∷ k ∷ []) w x y z u result e f g h i j is = cc
of_five (a ∷ b ∷ c ∷ d ∷ k ∷ l ∷ more) w x y z u result e f g h i j is = absurd (cc)

pub returns-in-4 : goal.returns-in-4
returns-in-4 c =
    of_four c.args.words.now _ _ _ _ _ (sym c.len.ensures ∙ c.in-4.is) c.word-in-4.ensures c.word-in-4-2.ensures c.word-in-4-3.ensures c.word-in-4-4.ensures c.command_of_four.ensures

pub returns-in-5 : goal.returns-in-5
returns-in-5 c =
    of_five c.args.words.now _ _ _ _ _ _ (sym c.len.ensures ∙ c.in-5.is) c.word-in-5.ensures c.word-in-5-2.ensures c.word-in-5-3.ensures c.word-in-5-4.ensures c.word-in-5-5.ensures c.command_of_five.ensures
