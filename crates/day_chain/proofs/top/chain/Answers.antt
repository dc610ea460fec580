use Rattle.std.proofs.Common.{◌∙◌, ◌≤◌, Err, refl, sym, ap, length, arith, subst}
use Rattle.program_answers.proofs.Handing.{left_below}
use Rattle.program_answers.proofs.Promising.{promise-fault, promise-usage}
use Rattle.program_answers.proofs.Reading.{read-all, read-long}
use Rattle.day_chain.specs.Answers.{longest_input}
use Rattle.day_chain.proofs.Handing.{said_below, told_below}
use Rattle.day_chain.specs.Promises.{chain_program}
use Rattle.day_chain.proofs.Promising.{never_five, no_words, promise-long, promise-told, promise-unread, some_words}
use Rattle.day_chain.proofs.top.chain.Goals as goal

pub returns-then-len-gt0 : goal.returns-then-len-gt0
returns-then-len-gt0 g c =
    promise-usage chain_program _ (some_words c.args.words.now _ c.len.ensures c.if-len-gt0.true) (record { left = refl; ends = refl; faults = refl })
    (said_below g.S.Sink.state c.over-gathering.result _ _ _ c.over-gathering.ensures.same_reference c.over-gathering.ensures.same c.over-gathering.ensures.none c.refuse_words-status.new.output c.hand_over.new.gathering _ _ _ refl c.refuse_words-status.ensures c.hand_over.ensures.same_reference c.hand_over.ensures.handed (search))

pub returns-in-Ok : goal.returns-in-Ok
returns-in-Ok g c =
    let within = subst (λ bytes. length bytes ≤ longest_input) (sym c.deref.ensures.value) c.in-Ok.ensures.within in
    let bytes = c.deref.result.now in
    promise-told _ bytes (no_words c.args.words.now _ c.len.ensures c.if-len-gt0.false) (read-all longest_input _ c.in-Ok.bytes.items bytes c.deref.ensures.value c.in-Ok.ensures.taken c.in-Ok.ensures.end c.in-Ok.ensures.asked c.in-Ok.ensures.within) within
    (told_below g.S.Sink.state c.over-gathering.result _ _ _ c.over-gathering.ensures.same_reference c.over-gathering.ensures.same c.over-gathering.ensures.none c.answer_bytes-status.new.output c.hand_over-in-Ok.new.gathering bytes _ _ (never_five bytes within) c.answer_bytes-status.ensures c.hand_over-in-Ok.ensures.same_reference c.hand_over-in-Ok.ensures.handed (search))
    (c.in-Ok.ensures.kept (λ h. cc h))

pub returns-in-Err-Size : goal.returns-in-Err-Size
returns-in-Err-Size g c =
    let front = c.in-Err-Size.ensures.size (ap Err c.in-Err-Size.field-0-is) in
    promise-long _ front.0 (no_words c.args.words.now _ c.len.ensures c.if-len-gt0.false) (read-long longest_input _ front.0 front.1 front.2 c.in-Err-Size.ensures.asked) (omega (arith, front.1))
    (said_below g.S.Sink.state c.over-gathering.result _ _ _ c.over-gathering.ensures.same_reference c.over-gathering.ensures.same c.over-gathering.ensures.none c.refuse_size-status.new.output c.hand_over-in-Err-Size.new.gathering _ _ _ refl c.refuse_size-status.ensures c.hand_over-in-Err-Size.ensures.same_reference c.hand_over-in-Err-Size.ensures.handed (search))
    (c.in-Err-Size.ensures.kept (λ h. cc (sym (ap Err c.in-Err-Size.field-0-is) ∙ h)))

pub returns-in-Err-Fault : goal.returns-in-Err-Fault
returns-in-Err-Fault g c =
    let failed = ap Err c.in-Err-Fault.field-0-is in
    promise-fault chain_program _ tt (no_words c.args.words.now _ c.len.ensures c.if-len-gt0.false) refl refl (c.in-Err-Fault.ensures.fault failed) c.in-Err-Fault.ensures.asked (ap g.S.Sink.state (left_below g.S.Sink.state c.over-gathering.result _ _ _ c.over-gathering.ensures.same_reference c.over-gathering.ensures.same (search))) (c.in-Err-Fault.ensures.cause failed) c.read_all.ensures.later

pub returns-in-Err-Memory : goal.returns-in-Err-Memory
returns-in-Err-Memory g c =
    promise-unread _ (no_words c.args.words.now _ c.len.ensures c.if-len-gt0.false) refl c.in-Err-Memory.field-0-0.cause (c.in-Err-Memory.ensures.memory _ (ap Err c.in-Err-Memory.field-0-is)) c.in-Err-Memory.ensures.asked (ap g.S.Sink.state (left_below g.S.Sink.state c.over-gathering.result _ _ _ c.over-gathering.ensures.same_reference c.over-gathering.ensures.same (search))) (c.in-Err-Memory.ensures.kept (λ h. cc (sym (ap Err c.in-Err-Memory.field-0-is) ∙ h)))
