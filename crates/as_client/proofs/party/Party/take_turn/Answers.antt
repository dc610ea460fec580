use Rattle.std.proofs.Common.{sym, arith, ap, ◌≡◌, ◌∙◌}
use Rattle.as_client.specs.Knowing.{Known, word_kept}
use Rattle.as_client.proofs.KeptFacts.{turned}
use Rattle.as_client.proofs.party.Party.take_turn.Goals as goal

pub returns-in-Some : goal.returns-in-Some
returns-in-Some c =
    let whole : c.args.entry ≡ 0 = omega arith in
    let there = ap (λ (v : Known). word_kept v c.args.msg) c.self.view_is ∙ sym c.in-Some.ensures in
    rw (← c.self.view_is, c.word_after.ensures) (turned _ c.args.turn c.args.msg c.args.entry c.in-Some.word whole there)
