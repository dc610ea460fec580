use Rattle.day_page.proofs.StakeFacts.{peaks_first}
use Rattle.day_page.proofs.peaks.first_peaks.Goals as goal

pub returns : goal.returns
returns c = λ day r kept. peaks_first day r c.args.ledger.now kept
