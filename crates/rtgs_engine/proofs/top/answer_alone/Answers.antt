use Rattle.std.proofs.Common.{◌∙◌, Some, ap}
use Rattle.rtgs_engine.proofs.Texts.{says_input}
use Rattle.rtgs_engine.proofs.TrialAnswers.{says_tried}
use Rattle.rtgs_engine.proofs.WordLimits.{trial_in_range}
use Rattle.rtgs_engine.proofs.top.answer_alone.Goals as goal

pub try_alone-requires : goal.try_alone-requires
try_alone-requires g c = record { range = trial_in_range c.requires.asked.0 c.in-Some.trial (c.requires.asked.1 ∙ ap Some c.in-Some.ensures.asked) }

pub returns-in-Some : goal.returns-in-Some
returns-in-Some g c =
    says_tried g.S.Sink.state _ _ c.args.command.now c.args.bytes.items c.in-Some.trial _ c.in-Some.ensures.asked (trial_in_range c.requires.asked.0 c.in-Some.trial (c.requires.asked.1 ∙ ap Some c.in-Some.ensures.asked)) c.try_alone.ensures

pub returns-in-None : goal.returns-in-None
returns-in-None g c = says_input g.S.Sink.state _ _ c.args.command.now c.args.bytes.items _ c.in-None.ensures.asked c.answer_bytes.ensures
