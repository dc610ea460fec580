use Rattle.std.proofs.Common.{◌≡◌, take}
use Rattle.std.specs.List.{flat_map}
use Rattle.outside_io.specs.Pieces.{HasPut}
use Rattle.commit_journal.specs.Histories.{oldest}
use Rattle.liquidity_view.specs.Viewed.{places, text_at}
use Rattle.liquidity_view.specs.Views.{StandsFor}
use Rattle.liquidity_view.proofs.report.put_lines.Given as goal

abbrev pub invariant-loop-before : goal.invariant-loop-before
invariant-loop-before g l = record {
  put : HasPut (g.S.Sink.state l.initial.sink) (g.S.Sink.state l.sink) (flat_map (text_at l.setting.day l.request l.journal.history) (take l.before (places l.journal.history)));
  stands : StandsFor l.setting.day (oldest l.journal.history l.before) l.view;
  name : l.view.name ≡ l.request.name;
}
