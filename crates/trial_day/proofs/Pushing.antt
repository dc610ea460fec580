-- A batch that is put at the end entry by entry.
use Rattle.std.proofs.Common.{◌≡◌, ◌∙◌, true, List, [], ◌∷◌, ◌++◌, refl, ap}
use Rattle.batch_records.specs.Flat.{body_with_entries, has_entries, with_entries}
use Rattle.batch_records.specs.Step.{body_with, with_entry, with_last}
use Rattle.batch_records.specs.declared.day.Entry.{Entry}
use Rattle.batch_records.specs.declared.day.Message.{Message}
use Rattle.batch_records.specs.declared.day.MessageRecord.{MessageRecord}
use Rattle.batch_records.specs.declared.day.RecordBody.{RecordBody}
use Rattle.batch_records.specs.declared.day.RecordBody.TheVariants as records

last_of : {X : Type 0} (f : X → X) (xs : List X) (x : X) → with_last f (xs ++ x ∷ []) ≡ xs ++ f x ∷ []
unfolding with_last
last_of f [] x = refl
last_of f (a ∷ []) x = refl
last_of f (a ∷ b ∷ rest) x = ap (λ l. a ∷ l) (last_of f (b ∷ rest) x)

one_more : (e : Entry) (b : RecordBody) (es : List Entry) → has_entries b ≡ true → body_with e (body_with_entries b es) ≡ body_with_entries b (es ++ e ∷ [])
one_more e (records.Batch procedure info from till count sum) es h = refl
one_more e (records.Pay high debit credit amount) es h = cc
one_more e (records.Liquidity debit credit amount) es h = cc
one_more e (records.Object system batch) es h = cc
one_more e (records.Confirm batch answer) es h = cc
one_more e (records.Cycle start) es h = cc

grown : (e : Entry) (m : MessageRecord) (es : List Entry) → has_entries m.body ≡ true → with_entry e (with_entries m es) ≡ with_entries m (es ++ e ∷ [])
grown e m es h = λ i. record { round = m.round; sender = m.sender; id = m.id; body = one_more e m.body es h i }

pub goes_on : (old now new : List Message) (e : Entry) (m : MessageRecord) (es : List Entry) → has_entries m.body ≡ true → now ≡ old ++ with_entries m es ∷ [] → new ≡ with_last (with_entry e) now → new ≡ old ++ with_entries m (es ++ e ∷ []) ∷ []
goes_on old now new e m es h was is = is ∙ ap (with_last (with_entry e)) was ∙ last_of (with_entry e) old (with_entries m es) ∙ ap (λ x. old ++ x ∷ []) (grown e m es h)
