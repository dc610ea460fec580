use Rattle.day_page.proofs.StakeFacts.{peaks_more}
use Rattle.day_page.proofs.peaks.raised.Goals as goal

pub returns : goal.returns
returns c = λ day r J l kept top. peaks_more day r J l c.args.ledger.now c.args.top _ kept top (λ i. record { urgent = c.max.ensures i; high = c.max-2.ensures i; normal = c.max-3.ensures i })
