use Rattle.std.proofs.Common.{arith}
use Rattle.as_client.proofs.TurnoverFacts.{room_for, turnovers-more}
use Rattle.as_client.proofs.netting.turnovers.Goals as goal

pub add_trade-requires : goal.add_trade-requires
add_trade-requires c = room_for c.args.trades.now c.loop-trade.trade-index c.trade-item.result (omega arith) c.trade-item.is _ c.loop-trade.invariant c.requires

pub loop-trade-preserved : goal.loop-trade-preserved
loop-trade-preserved c = turnovers-more c.args.trades.now c.loop-trade.trade-index c.trade-item.result (omega arith) c.trade-item.is _ _ c.loop-trade.invariant c.in_ok-add_trade.ensures.names c.in_ok-add_trade.ensures.added
