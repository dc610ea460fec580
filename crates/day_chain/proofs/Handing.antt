-- What is said to a sink that gathers, and handed over, is said to the sink below.
use Rattle.std.proofs.Common.{◌≡◌, ◌∙◌, ℕ, Bool, false, List, [], ◌++◌, ap, sym, subst, refl, inl, inr}
use Rattle.std.specs.Prelude.{nat_eq, ◌⊎◌}
use Rattle.std.specs.Borrow.{GName}
use Rattle.outside_io.specs.declared.gathering.GatheringSink.{GatheringSink}
use Rattle.outside_io.specs.Gathered.{gathering_state, held, sink_below, through}
use Rattle.outside_io.specs.Gathering.{gathering}
use Rattle.outside_io.specs.Pieces.{HasPut, IsCutShort, SinkState}
use Rattle.outside_io.proofs.GatheringLemmas.{cut_below}
use Rattle.outside_io.proofs.PutLemmas.{cut_front, has_put_none}
use Rattle.program_answers.specs.Answers.{Answer}
use Rattle.program_answers.specs.Giving.{Says}
use Rattle.program_answers.proofs.Handing.{rest_over}
use Rattle.program_answers.proofs.Statuses.{other}
use Rattle.day_chain.specs.Answers.{answer_of, HandsOver, RunsShort, TellsAll}
use Rattle.day_chain.specs.ChainTexts.{parts_text}

-- an answer to a sink that gathers, and its rest handed over
handed_over : {S : Type 0} (state : S → SinkState) (old : SinkState) (mid new : S) (name same : GName) (rest : List ℕ) (b c : Bool) (answer : Answer) (status end : ℕ) →
    nat_eq answer.status 5 ≡ false → Says (gathering name [] b old) (gathering same rest c (state mid)) answer status → HandsOver state mid new rest status end → (same ≡ name) × Says old (state new) answer end
handed_over state old mid new name same rest b c answer status end not_five (inl said) over =
    (said.1.passed.0, rest_over old (state mid) (state new) name same rest answer.text b c answer.status status end said.0 said.1 (over.rest (other status answer.status 5 said.0 not_five)))
handed_over state old mid new name same rest b c answer status end not_five (inr said) over =
    let stays = over.cut said.0 in
    let cut : Says old (state mid) answer end = inr (stays.0, cut_below old (state mid) name same rest answer.text b c said.1) in
    (said.1.passed.0, subst (λ s. Says old (state s) answer end) (sym stays.1) cut)

-- a text that is cut short is that of all that it begins
longer_cut : (old new : SinkState) (text more all : List ℕ) → text ++ more ≡ all → IsCutShort old new text → IsCutShort old new all
longer_cut old new text more all same cut = subst (IsCutShort old new) same (cut_front old old new [] text more (has_put_none old) cut)

-- the days before memory was wanting, and their rest handed over
short_over : (bytes : List ℕ) (above beyond old new : SinkState) (status end : ℕ) → (short : RunsShort bytes above beyond status) →
    ((end ≡ 1) × HasPut old new (parts_text short.told)) ⊎ ((end ≡ 5) × IsCutShort old new (parts_text short.told)) → TellsAll bytes old new end
short_over bytes above beyond old new status end short (inl all) =
    inl (record { short = all.0; refused = short.refused; told = short.told; rest = short.rest; front = short.front; begun = short.begun; put = all.1 })
short_over bytes above beyond old new status end short (inr cut) =
    inr (inr (cut.0, longer_cut old new (parts_text short.told) short.begun.0 (answer_of bytes).text short.begun.1 cut.1))

handed_all : {S : Type 0} (state : S → SinkState) (old : SinkState) (mid new : S) (name same : GName) (rest : List ℕ) (b c : Bool) (bytes : List ℕ) (status end : ℕ) →
    nat_eq (answer_of bytes).status 5 ≡ false → TellsAll bytes (gathering name [] b old) (gathering same rest c (state mid)) status → HandsOver state mid new rest status end → (same ≡ name) × TellsAll bytes old (state new) end
handed_all state old mid new name same rest b c bytes status end not_five (inl short) over =
    let whole = over.rest (other status 1 5 short.short refl) in (
      short.put.passed.0,
      short_over bytes (gathering name [] b old) (gathering same rest c (state mid)) old (state new) status end short
          (rest_over old (state mid) (state new) name same rest (parts_text short.told) b c 1 status end short.short short.put whole),
    )
handed_all state old mid new name same rest b c bytes status end not_five (inr said) over =
    let handed = handed_over state old mid new name same rest b c (answer_of bytes) status end not_five said over in
    (handed.0, inr handed.1)

module _ {S : Type 0} (state : S → SinkState) (first : GatheringSink S) (old out : S) (name : GName) (named : through first ≡ name) (below : sink_below first ≡ old) (none : held first ≡ []) where
  starts : gathering_state state first ≡ gathering (through first) [] first.failed (state old)
  starts = ap (λ h. gathering (through first) h first.failed (state (sink_below first))) none ∙ ap (λ s. gathering (through first) [] first.failed (state s)) below

  pub said_below : (mid last : GatheringSink S) (answer : Answer) (status end : ℕ) → nat_eq answer.status 5 ≡ false → Says (gathering_state state first) (gathering_state state mid) answer status →
      through last ≡ through mid → HandsOver state (sink_below mid) (sink_below last) (held mid) status end → (name ≡ through last → out ≡ sink_below last) → Says (state old) (state out) answer end
  said_below mid last answer status end not_five said same over ends =
      let handed = handed_over state (state old) (sink_below mid) (sink_below last) (through first) (through mid) (held mid) first.failed mid.failed answer status end not_five (subst (λ s. Says s (gathering_state state mid) answer status) starts said) over in
      subst (λ s. Says (state old) (state s) answer end) (sym (ends (sym named ∙ sym (same ∙ handed.0)))) handed.1

  pub told_below : (mid last : GatheringSink S) (bytes : List ℕ) (status end : ℕ) → nat_eq (answer_of bytes).status 5 ≡ false → TellsAll bytes (gathering_state state first) (gathering_state state mid) status →
      through last ≡ through mid → HandsOver state (sink_below mid) (sink_below last) (held mid) status end → (name ≡ through last → out ≡ sink_below last) → TellsAll bytes (state old) (state out) end
  told_below mid last bytes status end not_five tells same over ends =
      let handed = handed_all state (state old) (sink_below mid) (sink_below last) (through first) (through mid) (held mid) first.failed mid.failed bytes status end not_five (subst (λ s. TellsAll bytes s (gathering_state state mid) status) starts tells) over in
      subst (λ s. TellsAll bytes (state old) (state s) end) (sym (ends (sym named ∙ sym (same ∙ handed.0)))) handed.1
