-- What is said to a sink that gathers, and handed over, is said to the sink below.
use Rattle.std.proofs.Common.{◌≡◌, ◌∙◌, ℕ, Bool, false, List, [], ap, sym, subst, inl, inr}
use Rattle.std.specs.Prelude.{nat_eq, ◌⊎◌}
use Rattle.std.specs.Borrow.{GName}
use Rattle.outside_io.specs.declared.gathering.GatheringSink.{GatheringSink}
use Rattle.outside_io.specs.Gathered.{gathering_state, held, sink_below, through}
use Rattle.outside_io.specs.Gathering.{gathering}
use Rattle.outside_io.specs.Pieces.{HasPut, IsCutShort, SinkState}
use Rattle.outside_io.proofs.GatheringLemmas.{cut_below, put_below, short_below}
use Rattle.program_answers.specs.Answers.{Answer}
use Rattle.refused_memory.specs.{WasRefused}
use Rattle.program_answers.specs.Giving.{HandsOver, Says, SaysIfRoom, SaysOneIfRoom}
use Rattle.program_answers.specs.Programs.{is_no_answer}
use Rattle.program_answers.proofs.Statuses.{none_of, other}

-- the rest is handed over after a text that was written whole
pub rest_over : (old mid new : SinkState) (name same : GName) (rest text : List ℕ) (b c : Bool) (answer status end : ℕ) → status ≡ answer → HasPut (gathering name [] b old) (gathering same rest c mid) text →
    ((end ≡ status) × HasPut mid new rest) ⊎ ((end ≡ 5) × IsCutShort mid new rest) → ((end ≡ answer) × HasPut old new text) ⊎ ((end ≡ 5) × IsCutShort old new text)
rest_over old mid new name same rest text b c answer status end is put (inl all) = inl (all.0 ∙ is, put_below old mid new name same rest text b c put all.1)
rest_over old mid new name same rest text b c answer status end is put (inr cut) = inr (cut.0, short_below old mid new name same rest text b c put cut.1)

-- an answer to a sink that gathers, and its rest handed over
handed_over : {S : Type 0} (state : S → SinkState) (old : SinkState) (mid new : S) (name same : GName) (rest : List ℕ) (b c : Bool) (answer : Answer) (status end : ℕ) →
    nat_eq answer.status 1 ≡ false → nat_eq answer.status 5 ≡ false → Says (gathering name [] b old) (gathering same rest c (state mid)) answer status → HandsOver state mid new rest status end →
    (same ≡ name) × Says old (state new) answer end
handed_over state old mid new name same rest b c answer status end not_one not_five (inl said) over =
    let whole = over.rest (other status answer.status 1 said.0 not_one) (other status answer.status 5 said.0 not_five) in
    (said.1.passed.0, rest_over old (state mid) (state new) name same rest answer.text b c answer.status status end said.0 said.1 whole)
handed_over state old mid new name same rest b c answer status end not_one not_five (inr said) over =
    let stays = over.cut said.0 in
    let cut : Says old (state mid) answer end = inr (stays.0, cut_below old (state mid) name same rest answer.text b c said.1) in
    (said.1.passed.0, subst (λ s. Says old (state s) answer end) (sym stays.1) cut)

module _ {S : Type 0} (state : S → SinkState) (first : GatheringSink S) (old out : S) (name : GName) (named : through first ≡ name) (below : sink_below first ≡ old) where
  -- the sink below ends as the sink that gathers left it
  pub left_below : (name ≡ through first → out ≡ sink_below first) → out ≡ old
  left_below ends = ends (sym named) ∙ below

  pub said_below : (mid last : GatheringSink S) (answer : Answer) (status end : ℕ) → held first ≡ [] → nat_eq answer.status 1 ≡ false → nat_eq answer.status 5 ≡ false →
      Says (gathering_state state first) (gathering_state state mid) answer status → through last ≡ through mid → HandsOver state (sink_below mid) (sink_below last) (held mid) status end →
      (name ≡ through last → out ≡ sink_below last) → Says (state old) (state out) answer end
  said_below mid last answer status end none not_one not_five said same over ends =
      let start : gathering_state state first ≡ gathering (through first) [] first.failed (state old) =
      ap (λ h. gathering (through first) h first.failed (state (sink_below first))) none ∙ ap (λ s. gathering (through first) [] first.failed (state s)) below in
      let handed = handed_over state (state old) (sink_below mid) (sink_below last) (through first) (through mid) (held mid) first.failed mid.failed answer status end not_one not_five (subst (λ s. Says s (gathering_state state mid) answer status) start said) over in
      subst (λ s. Says (state old) (state s) answer end) (sym (ends (sym named ∙ sym (same ∙ handed.0)))) handed.1

  pub said_if_room_below : (mid last : GatheringSink S) (answer : Answer) (status end : ℕ) → held first ≡ [] → nat_eq answer.status 1 ≡ false → nat_eq answer.status 5 ≡ false →
      SaysIfRoom (gathering_state state) first mid answer status → through last ≡ through mid → HandsOver state (sink_below mid) (sink_below last) (held mid) status end →
      (name ≡ through last → out ≡ sink_below last) → ((end ≡ 1) × (state out ≡ state old) × WasRefused) ⊎ Says (state old) (state out) answer end
  said_if_room_below mid last answer status end none not_one not_five (inl room) same over ends =
      let stays = over.none room.0 in
      let is : out ≡ old = ends (sym named ∙ sym (same ∙ ap (through {S = S}) room.1)) ∙ stays.1 ∙ ap (sink_below {S = S}) room.1 ∙ below in
      inl (stays.0, ap state is, room.2)
  said_if_room_below mid last answer status end none not_one not_five (inr said) same over ends =
      inr (said_below mid last answer status end none not_one not_five said same over ends)

  -- one of some answers, or nothing
  pub said_one_below : (mid last : GatheringSink S) (Is : Answer → Type 0) (status end : ℕ) → held first ≡ [] → ((answer : Answer) → Is answer → is_no_answer answer.status ≡ false) →
      SaysOneIfRoom (gathering_state state) first mid Is status → through last ≡ through mid → HandsOver state (sink_below mid) (sink_below last) (held mid) status end →
      (name ≡ through last → out ≡ sink_below last) → ((end ≡ 1) × (state out ≡ state old) × WasRefused) ⊎ ((answer : Answer) × Is answer × Says (state old) (state out) answer end)
  said_one_below mid last Is status end none own (inl room) same over ends =
      let stays = over.none room.0 in
      let is : out ≡ old = ends (sym named ∙ sym (same ∙ ap (through {S = S}) room.1)) ∙ stays.1 ∙ ap (sink_below {S = S}) room.1 ∙ below in
      inl (stays.0, ap state is, room.2)
  said_one_below mid last Is status end none own (inr said) same over ends =
      let no = none_of said.0.status (own said.0 said.1) in
      inr (said.0, said.1, said_below mid last said.0 status end none no.0 no.3 said.2 same over ends)
