use Rattle.std.proofs.Common.{inr}
use Rattle.batch_records.specs.Counts.{record_count}
use Rattle.rtgs_engine.specs.declared.words.Command.TheVariants as commands
use Rattle.rtgs_engine.proofs.Texts.{says_any, says_by}
use Rattle.rtgs_engine.proofs.top.answer_day.Goals as goal

pub returns-in-Settle : goal.returns-in-Settle
returns-in-Settle g c = says_by g.S.Sink.state _ _ c.args.command.now _ c.args.day c.args.rest (record_count c.args.day) _ c.in-Settle.is c.settle_alone.ensures

pub returns-in-Check : goal.returns-in-Check
returns-in-Check g c = says_any g.S.Sink.state _ _ c.args.command.now commands.Check c.args.day c.args.rest (record_count c.args.day) _ c.requires.sound c.in-Check.is (λ J. inr (c.check_alone.ensures J))

pub returns-in-Migrate : goal.returns-in-Migrate
returns-in-Migrate g c = says_any g.S.Sink.state _ _ c.args.command.now commands.Migrate c.args.day c.args.rest (record_count c.args.day) _ c.requires.sound c.in-Migrate.is (λ J. inr (c.migrate_alone.ensures J))

pub returns-in-Replay : goal.returns-in-Replay
returns-in-Replay g c = says_any g.S.Sink.state _ _ c.args.command.now commands.Replay c.args.day c.args.rest (record_count c.args.day) _ c.requires.sound c.in-Replay.is c.replay_rest.ensures

pub returns-in-Follow : goal.returns-in-Follow
returns-in-Follow g c = says_any g.S.Sink.state _ _ c.args.command.now (commands.Follow c.in-Follow.name) c.args.day c.args.rest (record_count c.args.day) _ c.requires.sound c.in-Follow.is c.follow_rest.ensures
