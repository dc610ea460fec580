-- An entry that is due is pending on its debit account, which is at hand.
use Rattle.std.proofs.Common.{◌≡◌, ◌∙◌, None, Some, ap, subst, sym}
use Rattle.std.specs.Prelude.{is_none, option_map}
use Rattle.machine.specs.Records.Messages.{entry_at, move_of}
use Rattle.settlement_laws.proofs.Wants.Answering.{none_is}
use Rattle.settle_floor.proofs.FirstReady.{book_entry, held_entry, no_entry, pending_due, stands_entry}
use Rattle.settle_floor.proofs.ready.is_ready_entry.Goals as goal

pub why_waits-requires-clause-pending : goal.why_waits-requires-clause-pending
why_waits-requires-clause-pending g c = pending_due (g.D.Desk.day c.args.desk.now) (g.D.Desk.past c.args.desk.now) c.args.n c.args.k c.requires.entry c.requires.due

pub why_waits-requires-clause-there : goal.why_waits-requires-clause-there
why_waits-requires-clause-there g c =
    let day = g.D.Desk.day c.args.desk.now in
    let past = g.D.Desk.past c.args.desk.now in
    let moved : option_map (move_of day) (entry_at day c.args.n c.args.k) ≡ Some c.in-Some.part =
    subst (λ d. option_map (move_of d) (entry_at d c.args.n c.args.k) ≡ Some c.in-Some.part) c.setting.ensures (sym c.entry_move.ensures ∙ c.in-Some.is) in
    stands_entry day past c.args.n c.args.k c.in-Some.part c.requires.entry (pending_due day past c.args.n c.args.k c.requires.entry c.requires.due) moved

pub why_waits-requires-clause-held : goal.why_waits-requires-clause-held
why_waits-requires-clause-held g c =
    let day = g.D.Desk.day c.args.desk.now in
    let past = g.D.Desk.past c.args.desk.now in
    let moved : option_map (move_of day) (entry_at day c.args.n c.args.k) ≡ Some c.in-Some.part =
    subst (λ d. option_map (move_of d) (entry_at d c.args.n c.args.k) ≡ Some c.in-Some.part) c.setting.ensures (sym c.entry_move.ensures ∙ c.in-Some.is) in
    held_entry (g.D.Desk.held c.args.desk.now) day past c.args.n c.args.k c.in-Some.part (g.D.Desk.legal c.args.desk.now) c.requires.all c.requires.entry
    (pending_due day past c.args.n c.args.k c.requires.entry c.requires.due) moved

pub returns-in-Some : goal.returns-in-Some
returns-in-Some g c =
    let day = g.D.Desk.day c.args.desk.now in
    let past = g.D.Desk.past c.args.desk.now in
    let moved : option_map (move_of day) (entry_at day c.args.n c.args.k) ≡ Some c.in-Some.part =
    subst (λ d. option_map (move_of d) (entry_at d c.args.n c.args.k) ≡ Some c.in-Some.part) c.setting.ensures (sym c.entry_move.ensures ∙ c.in-Some.is) in
    none_is c.why_waits.result c.is_none.result c.is_none.ensures ∙ ap is_none c.why_waits.ensures
    ∙ sym (book_entry day past c.args.n c.args.k c.in-Some.part c.requires.entry (pending_due day past c.args.n c.args.k c.requires.entry c.requires.due) moved)

pub returns-in-None : goal.returns-in-None
returns-in-None g c =
    let day = g.D.Desk.day c.args.desk.now in
    let past = g.D.Desk.past c.args.desk.now in
    let none : option_map (move_of day) (entry_at day c.args.n c.args.k) ≡ None =
    subst (λ d. option_map (move_of d) (entry_at d c.args.n c.args.k) ≡ None) c.setting.ensures (sym c.entry_move.ensures ∙ c.in-None.is) in
    sym (no_entry day past c.args.n c.args.k c.requires.entry none)
