use Rattle.std.proofs.Common.{◌∙◌, ◌≤◌, Err, refl, sym, ap, length, arith, subst, inl}
use Rattle.outside_io.specs.Gathered.{sink_below, through}
use Rattle.outside_io.specs.Pieces.{TakesAtMost}
use Rattle.program_answers.specs.Programs.{HasTaken}
use Rattle.program_answers.proofs.Handing.{said_below}
use Rattle.program_answers.proofs.Promising.{promise-fault, promise-memory, promise-said, promise-usage, taken-none, taken-read}
use Rattle.program_answers.proofs.Reading.{read-all, read-long}
use Rattle.program_answers.proofs.serving.take_request.Goals as goal

pub returns-in_default-clause-over : goal.returns-in_default-clause-over
returns-in_default-clause-over g c =
    let first = c.args.gathering.now in
    promise-usage g.A.Answering.program _ (sym c.in_default.ensures) (record { left = refl; ends = refl; faults = refl })
    (said_below g.S.Sink.state first _ (sink_below c.hand_over.new.gathering) (through first) refl refl c.refuse_words-status.new.output c.hand_over.new.gathering _ _ _ c.requires.empty refl refl (rw c.usage.ensures at c.refuse_words-status.ensures) c.hand_over.ensures.same_reference c.hand_over.ensures.handed (λ same. refl))

pub returns-then-not-reads-clause-taken : goal.returns-then-not-reads-clause-taken
returns-then-not-reads-clause-taken g c status sink sink_after =
    subst (HasTaken g.A.Answering.program _ c.in-Some.request) (sym c.new.ensures.items) (taken-none g.A.Answering.program _ c.in-Some.request (sym c.in-Some.ensures) (sym c.reads.ensures ∙ c.if-not-reads.true) (record { left = refl; ends = refl; faults = refl }))

pub returns-in-Ok-clause-taken : goal.returns-in-Ok-clause-taken
returns-in-Ok-clause-taken g c status sink sink_after =
    let program = g.A.Answering.program in
    let bytes = c.in-Ok.bytes.items in
    let within : length bytes ≤ program.longest_input = subst (λ n. length bytes ≤ n) c.longest_input.ensures.limit c.in-Ok.ensures.within in
    taken-read program _ c.in-Some.request bytes (sym c.in-Some.ensures) (sym c.reads.ensures ∙ c.if-not-reads.false)
    (read-all program.longest_input _ bytes bytes refl c.in-Ok.ensures.taken c.in-Ok.ensures.end c.in-Ok.ensures.asked within) within (c.in-Ok.ensures.kept (λ h. cc h))

pub returns-in-Err-Size-clause-over : goal.returns-in-Err-Size-clause-over
returns-in-Err-Size-clause-over g c =
    let program = g.A.Answering.program in
    let request = c.in-Some.request in
    let front = c.in-Err-Size.ensures.size (ap Err c.in-Err-Size.field-0-is) in
    let limit = c.longest_input.ensures.limit in
    let reading = sym c.reads.ensures ∙ c.if-not-reads.false in
    let first = c.args.gathering.now in
    promise-said program _ request front.0 _ (sym c.in-Some.ensures) reading (read-long program.longest_input _ front.0 (omega (arith, front.1, limit)) front.2 c.in-Err-Size.ensures.asked) (g.met.A.Answering.long request front.0 reading (omega (arith, front.1, limit))) refl
    (said_below g.S.Sink.state first _ (sink_below c.hand_over-in-Err-Size.new.gathering) (through first) refl refl c.refuse_size-status.new.output c.hand_over-in-Err-Size.new.gathering _ _ _ c.requires.empty refl refl c.refuse_size-status.ensures c.hand_over-in-Err-Size.ensures.same_reference c.hand_over-in-Err-Size.ensures.handed (λ same. refl))
    (c.in-Err-Size.ensures.kept (λ h. cc (sym (ap Err c.in-Err-Size.field-0-is) ∙ h)))

pub returns-in-Err-Fault-clause-over : goal.returns-in-Err-Fault-clause-over
returns-in-Err-Fault-clause-over g c =
    let failed = ap Err c.in-Err-Fault.field-0-is in
    let took = subst (TakesAtMost _ _) c.longest_input.ensures.limit (c.in-Err-Fault.ensures.fault failed) in
    promise-fault g.A.Answering.program _ c.in-Some.request (sym c.in-Some.ensures) (sym c.reads.ensures ∙ c.if-not-reads.false) refl took c.in-Err-Fault.ensures.asked refl (c.in-Err-Fault.ensures.cause failed) c.read_all.ensures.later

pub returns-clause-over : goal.returns-clause-over
returns-clause-over g c =
    let wanting = ap Err c.in-Err-Memory.field-0-is in
    let took = subst (TakesAtMost _ _) c.longest_input.ensures.limit (c.in-Err-Memory.ensures.memory _ wanting) in
    promise-memory g.A.Answering.program _ c.in-Some.request (sym c.in-Some.ensures) (sym c.reads.ensures ∙ c.if-not-reads.false) refl c.in-Err-Memory.field-0-0.cause (g.met.A.Answering.short _ (took, refl)) (inl c.in-Err-Memory.ensures.asked) refl (c.in-Err-Memory.ensures.kept (λ h. cc (sym wanting ∙ h)))
