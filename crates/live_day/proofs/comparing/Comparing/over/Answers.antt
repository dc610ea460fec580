use Rattle.std.proofs.Common.{◌∙◌, ap, sym}
use Rattle.live_day.specs.Comparing.{common, differ}
use Rattle.live_day.proofs.PlaceFacts.{none_common, none_differ, none_handed}
use Rattle.live_day.proofs.comparing.Comparing.over.Goals as goal

pub invariant_of-result : goal.invariant_of-result
invariant_of-result g c = record {
  at_is = sym (ap (common c.args.wanted.now) c.requires.none ∙ none_common c.args.wanted.now);
  differs_is = sym (ap (differ c.args.wanted.now) c.requires.none ∙ none_differ c.args.wanted.now);
  handed = none_handed _ _ c.args.wanted.now _ (ap (λ s. (g.S.Sink.state s).written) c.requires.first) c.requires.none;
}
