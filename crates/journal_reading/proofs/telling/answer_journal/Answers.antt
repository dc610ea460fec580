use Rattle.std.proofs.Common.{◌∙◌, false, inr, sym, true}
use Rattle.journal_replay.proofs.Following.{few_so_far}
use Rattle.journal_reading.proofs.Judging.{says_followed}
use Rattle.journal_reading.proofs.telling.answer_journal.Goals as goal

pub refuse_behind-requires : goal.refuse_behind-requires
refuse_behind-requires g c = record { few = few_so_far c.args.setting.now.day c.args.setting.now.sound c.args.journal.now.history c.requires.legal }

pub returns-then-ends : goal.returns-then-ends
returns-then-ends g c behind e =
    says_followed (g.T.Telling.told c.args.request.now) g.S.Sink.state _ _ c.args.setting.now.day c.args.journal.now.history behind true _ (sym e ∙ c.if-ends.true) c.tell.ensures

pub returns : goal.returns
returns g c behind e =
    says_followed (g.T.Telling.told c.args.request.now) g.S.Sink.state _ _ c.args.setting.now.day c.args.journal.now.history behind false _ (sym e ∙ c.if-ends.false) (inr c.refuse_behind.ensures)
