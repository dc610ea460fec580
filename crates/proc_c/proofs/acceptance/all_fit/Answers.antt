use Rattle.std.proofs.Common.{◌≡◌, ◌∙◌, ℕ, ◌&&◌, ◌||◌}
use Rattle.std.specs.List.{list_all}
use Rattle.batch_records.specs.DayRecord.{Day}
use Rattle.batch_records.specs.declared.day.Entry.{Entry}
use Rattle.machine.specs.Words.{is_sub, same_name, some_passes}
use Rattle.machine.specs.Records.Messages.{BatchC, entries, move_of, sender, technical_of}
use Rattle.machine.specs.Stages.Intake.{entry_fits}
use Rattle.rule_book.proofs.MoveFacts.{all_moves, comes_is, passes_is, pays_is}
use Rattle.proc_c.specs.Reasons.{joins_sub}
use Rattle.proc_c.proofs.acceptance.all_fit.Goals as goal

move_fits : (day : Day) (n : ℕ) (e : Entry) → joins_sub day (sender day n) (technical_of day n) (move_of day e) ≡ entry_fits BatchC day n e
move_fits day n e = λ i.
    passes_is day (λ r. is_sub r.kind && some_passes (λ link. same_name link (sender day n)) r.system) e.debit i && pays_is day n e i
    || comes_is day n e i && passes_is day (λ r. is_sub r.kind && some_passes (λ link. same_name link (sender day n)) r.system) e.credit i

pub returns : goal.returns
returns c =
    let day = c.args.setting.now.day in
    let n = c.args.n in
    c.join_subs.ensures ∙ (λ i. list_all (joins_sub day (c.sender-system.ensures i) (c.technical_of.ensures i)) (c.entry_moves.ensures i))
    ∙ all_moves (move_of day) (entry_fits BatchC day n) (joins_sub day (sender day n) (technical_of day n)) (move_fits day n) (entries day n)
