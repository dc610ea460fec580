use Rattle.std.proofs.Common.{sym, subst}
use Rattle.due_items.specs.Kept.{KeepsDue}
use Rattle.due_items.proofs.Noted.{note_keeps, note_tells}
use Rattle.due_items.proofs.items.DueItems.note.Goals as goal

pub returns-clause-kept : goal.returns-clause-kept
returns-clause-kept c = λ J l e stands keeps. note_keeps c.args.setting.now.day c.args.setting.now.sound c.args.facts.now c.args.head (record { index = c.self.inside.index; set = c.self.inside.flags.due; renewed = c.self.inside.flags.renewed; room = c.self.inside.flags.room }) _ c.note_line.ensures J l e stands (subst (KeepsDue c.args.setting.now.day J) (sym c.self.view_is) keeps)

pub returns-clause-told : goal.returns-clause-told
returns-clause-told c = λ J l e stands keeps. note_tells c.args.setting.now.day c.args.setting.now.sound c.args.facts.now c.args.head (record { index = c.self.inside.index; set = c.self.inside.flags.due; renewed = c.self.inside.flags.renewed; room = c.self.inside.flags.room }) _ c.note_line.ensures J l e stands (subst (KeepsDue c.args.setting.now.day J) (sym c.self.view_is) keeps)
