use Rattle.std.proofs.Common.{◌≡◌, ◌∙◌, not, true, false, ap, subst, sym}
use Rattle.batch_records.specs.Codes.{first_code}
use Rattle.batch_records.specs.Made.{is_late}
use Rattle.batch_records.specs.Step.{after}
use Rattle.batch_records.specs.Tallies.{is_behind_setup}
use Rattle.batch_records.specs.declared.so_far.SoFar.{SoFar}
use Rattle.live_records.specs.Setups.{IsOfSetup}
use Rattle.live_records.specs.declared.setup.Setup.{Setup}
use Rattle.live_records.proofs.SetupFacts.{adds_none, breaks_setup, either_setup, hears_setup, next_of_setup}
use Rattle.live_records.proofs.setup.Setup.hear.Goals as goal

pub take_in_room-requires : goal.take_in_room-requires
take_in_room-requires c = c.requires.step

pub returns-then-taken-clause-heard : goal.returns-then-taken-clause-heard
returns-then-taken-clause-heard c = λ e.
    let now = c.in-Ok.ensures.taken c.if-taken.true in
    let none = c.in-Ok.ensures.none in
    let late = adds_none c.args.self.now.so_far c.take_in_room.new.self c.args.row.now c.in-Ok.ensures.fine now none.0 none.1 in
    hears_setup c.args.self.now.so_far c.take_in_room.new.self c.args.row.now c.requires late c.in-Ok.ensures.fine now

pub returns-then-taken-clause-setup : goal.returns-then-taken-clause-setup
returns-then-taken-clause-setup c =
    let now = c.in-Ok.ensures.taken c.if-taken.true in
    let none = c.in-Ok.ensures.none in
    let late = adds_none c.args.self.now.so_far c.take_in_room.new.self c.args.row.now c.in-Ok.ensures.fine now none.0 none.1 in
    subst (λ (s : SoFar). IsOfSetup s) (sym now) (next_of_setup c.args.self.now.so_far c.args.row.now c.requires c.in-Ok.ensures.fine late)

pub hear_end-requires-clause-setup : goal.hear_end-requires-clause-setup
hear_end-requires-clause-setup c = let over = c.in-Ok.ensures.over c.if-taken.false in subst (λ (s : SoFar). IsOfSetup s) (sym over.0) c.requires

pub hear_end-requires-clause-fine : goal.hear_end-requires-clause-fine
hear_end-requires-clause-fine c = let over = c.in-Ok.ensures.over c.if-taken.false in ap (λ (s : SoFar). first_code s c.args.row.now) over.0 ∙ c.in-Ok.ensures.fine

pub hear_end-requires-clause-started : goal.hear_end-requires-clause-started
hear_end-requires-clause-started c = let over = c.in-Ok.ensures.over c.if-taken.false in ap (λ (s : SoFar). s.started) over.0 ∙ over.1

pub hear_end-requires-clause-behind : goal.hear_end-requires-clause-behind
hear_end-requires-clause-behind c = let over = c.in-Ok.ensures.over c.if-taken.false in ap (λ (s : SoFar). is_behind_setup s c.args.row.now) over.0 ∙ over.2

pub returns-else-taken-clause-heard : goal.returns-else-taken-clause-heard
returns-else-taken-clause-heard c = λ e.
    let over = c.in-Ok.ensures.over c.if-taken.false in
    let late : is_late c.args.row.now ≡ false = c.hear_end.ensures.late ∙ ap not e in
    hears_setup c.args.self.now.so_far c.hear_end.new.self.so_far c.args.row.now c.requires late c.in-Ok.ensures.fine (c.hear_end.ensures.heard e ∙ ap (λ (s : SoFar). after s c.args.row.now) over.0)

pub returns-else-taken-clause-over : goal.returns-else-taken-clause-over
returns-else-taken-clause-over c = λ e.
    let over = c.in-Ok.ensures.over c.if-taken.false in
    let late : is_late c.args.row.now ≡ true = c.hear_end.ensures.late ∙ ap not e in
    (c.hear_end.ensures.over e ∙ (λ i. record c.args.self.now { so_far = over.0 i }), over.1, late)

pub returns-else-taken-clause-setup : goal.returns-else-taken-clause-setup
returns-else-taken-clause-setup c =
    let over = c.in-Ok.ensures.over c.if-taken.false in
    either_setup c.hear_end.result c.args.self.now.so_far c.hear_end.new.self.so_far c.args.row.now c.requires c.in-Ok.ensures.fine
    (λ e. c.hear_end.ensures.heard e ∙ ap (λ (s : SoFar). after s c.args.row.now) over.0) (λ e. ap (λ (x : Setup). x.so_far) (c.hear_end.ensures.over e) ∙ over.0) c.hear_end.ensures.late

pub returns-in-Err-clause-code : goal.returns-in-Err-clause-code
returns-in-Err-clause-code c =
    let code = c.in-Err.ensures.code in
    (breaks_setup c.args.self.now.so_far c.args.row.now c.in-Err.code c.requires code.0, λ i. record c.args.self.now { so_far = code.1 i })

pub returns-in-Err-clause-setup : goal.returns-in-Err-clause-setup
returns-in-Err-clause-setup c = subst (λ (s : SoFar). IsOfSetup s) (sym c.in-Err.ensures.code.1) c.requires
