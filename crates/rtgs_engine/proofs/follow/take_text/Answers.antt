use Rattle.std.proofs.Common.{◌∙◌, length, arith, sym}
use Rattle.std.proofs.lemmas.Bool.{eqb-true}
use Rattle.as_client.specs.Views.{text_lines}
use Rattle.rtgs_engine.proofs.LineTexts.{lines-none}
use Rattle.rtgs_engine.proofs.FollowFacts.{ends, goes_on, starts, stops}
use Rattle.rtgs_engine.proofs.follow.take_text.Goals as goal

pub loop-left-init : goal.loop-left-init
loop-left-init c = record {
  way = starts c.args.day.now c.args.name.now (text_lines c.args.text.now) _ c.requires.fresh;
  lines = omega arith;
  few = omega arith;
}

pub take_line-requires : goal.take_line-requires
take_line-requires c = record { knows = (c.loop-left.invariant.way.now, c.loop-left.invariant.way.knows) }

pub loop-left-preserved : goal.loop-left-preserved
loop-left-preserved c =
    let way = c.loop-left.invariant.way in
    let lines = c.loop-left.invariant.lines in
    let few = c.loop-left.invariant.few in
    let shorter = c.first_line.ensures.shorter in
    let more = c.in-Ok.ensures.few in
    record {
      way = goes_on c.args.day.now c.args.name.now (text_lines c.args.text.now) (text_lines c.loop-left.left.now) (text_lines c.first_line.result.1.now) c.first_line.result.0.now _ _ c.loop-left.number c.loop-left.taken c.in-Ok.more c.first_line.ensures.lines way (c.in-Ok.ensures.takes way.now way.knows);
      lines = omega (arith, lines, shorter);
      few = omega (arith, few, more);
    }

pub returns-in-Err : goal.returns-in-Err
returns-in-Err c =
    let way = c.loop-left.invariant.way in
    stops c.args.day.now c.args.name.now (text_lines c.args.text.now) (text_lines c.loop-left.left.now) (text_lines c.first_line.result.1.now) c.first_line.result.0.now _ c.loop-left.number c.loop-left.taken c.first_line.ensures.lines way (c.in-Err.ensures.takes way.now way.knows)

pub returns : goal.returns
returns c = ends c.args.day.now c.args.name.now (text_lines c.args.text.now) (text_lines c.loop-left.left.now) _ c.loop-left.number c.loop-left.taken (lines-none c.loop-left.left.now (eqb-true (length c.loop-left.left.now) 0 (sym c.is_empty.ensures ∙ c.loop-left-test.false))) c.loop-left.invariant.way
