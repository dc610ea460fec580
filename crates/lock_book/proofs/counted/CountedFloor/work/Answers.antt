use Rattle.std.proofs.Common.{◌≡◌, true, [], ◌∷◌, ◌∙◌, length, sym, ap, subst, is_some}
use Rattle.batch_records.specs.DayRecord.{Day}
use Rattle.commit_journal.specs.Kept.{Kept}
use Rattle.commit_journal.specs.Line.{History}
use Rattle.commit_journal.specs.Histories.{Begins}
use Rattle.rule_book.specs.Answering.{has_accounts}
use Rattle.settle_floor.specs.Floors.{OnFloor}
use Rattle.settle_floor.specs.Tills.{KeepsBalances}
use Rattle.journal_pass.specs.Known.{Known, Told}
use Rattle.lock_book.specs.Locked.{holdings_of}
use Rattle.lock_book.proofs.Counting.{counted_again, counted_line, counted_still}
use Rattle.lock_book.proofs.Locking.{holds_still, keeps}
use Rattle.lock_book.proofs.Telling.{adds_made, tells_made, tells_why}
use Rattle.lock_book.proofs.counted.CountedFloor.work.Goals as goal

pub enter-requires-clause-kept : goal.enter-requires-clause-kept
enter-requires-clause-kept g c =
    let day = g.H.HallName.day in
    let locks = c.catch_up.new.self.zero ∷ c.catch_up.new.self.one ∷ c.catch_up.new.self.two ∷ c.catch_up.new.self.three ∷ c.catch_up.new.self.four ∷ c.catch_up.new.self.five ∷ c.catch_up.new.self.six ∷ c.catch_up.new.self.seven ∷ [] in
    subst (λ (d : Day). KeepsBalances (holdings_of day locks) d c.self.inside.floor.journal.history) (sym c.requires.hall.0)
    (subst (λ (j : Kept). KeepsBalances (holdings_of day locks) day j.history) c.journal-2.ensures (keeps day locks c.journal-2.result.now.history c.catch_up.ensures.seen))

pub enter-requires-clause-held : goal.enter-requires-clause-held
enter-requires-clause-held g c =
    let day = g.H.HallName.day in
    let locks = c.catch_up.new.self.zero ∷ c.catch_up.new.self.one ∷ c.catch_up.new.self.two ∷ c.catch_up.new.self.three ∷ c.catch_up.new.self.four ∷ c.catch_up.new.self.five ∷ c.catch_up.new.self.six ∷ c.catch_up.new.self.seven ∷ [] in
    let before = c.args.held.now.zero ∷ c.args.held.now.one ∷ c.args.held.now.two ∷ c.args.held.now.three ∷ c.args.held.now.four ∷ c.args.held.now.five ∷ c.args.held.now.six ∷ c.args.held.now.seven ∷ [] in
    subst (λ (d : Day). has_accounts (λ a. is_some (holdings_of day locks a)) d c.args.want ≡ true) (sym c.requires.hall.0)
    (holds_still day c.args.want locks before c.catch_up.ensures.same c.requires.accounts)

pub count-requires-clause-begins : goal.count-requires-clause-begins
count-requires-clause-begins g c =
    let e = c.in-Ok.ensures.entered in
    let teller = ap (λ (t : Told). t.lines) (c.catch_up.ensures.teller ∙ c.look-seen.ensures.teller) in
    (e.0 ∷ [], ap (λ (j : Kept). j.history) c.journal-in-Ok-2.ensures ∙ (e.2 ∙ ap (λ (J : History). e.0 ∷ J) (sym (teller ∙ c.self.invariant.whole))))

pub catch_up-requires-in-Ok-clause-whole : goal.catch_up-requires-in-Ok-clause-whole
catch_up-requires-in-Ok-clause-whole g c =
    let e = c.in-Ok.ensures.entered in
    let stays = c.catch_up.ensures.teller ∙ c.look-seen.ensures.teller in
    let whole = ap (λ (t : Told). t.lines) stays ∙ c.self.invariant.whole in
    let told = counted_again c.self.inside.floor c.enter.new.self c.catch_up.new.teller c.count.new.self e.0 c.journal-in-Ok-2.result.now whole e.2 c.journal-in-Ok-2.ensures c.count.ensures in
    ap (λ (j : Kept). j.history) c.journal-in-Ok-3.ensures ∙ sym (ap (λ (t : Told). t.lines) told)

pub look-requires-clause-whole : goal.look-requires-clause-whole
look-requires-clause-whole g c =
    let e = c.in-Ok.ensures.entered in
    let stays = c.catch_up.ensures.teller ∙ c.look-seen.ensures.teller in
    let whole = ap (λ (t : Told). t.lines) stays ∙ c.self.invariant.whole in
    let told = counted_again c.self.inside.floor c.enter.new.self c.catch_up.new.teller c.count.new.self e.0 c.journal-in-Ok-2.result.now whole e.2 c.journal-in-Ok-2.ensures c.count.ensures in
    ap (λ (j : Kept). j.history) c.journal-in-Ok-4.ensures ∙ sym (ap (λ (t : Told). t.lines) (c.catch_up-in-Ok.ensures.teller ∙ told))

pub invariant_of-self : goal.invariant_of-self
invariant_of-self g c =
    let e = c.in-Ok.ensures.entered in
    let stays = c.catch_up.ensures.teller ∙ c.look-seen.ensures.teller in
    let whole = ap (λ (t : Told). t.lines) stays ∙ c.self.invariant.whole in
    let told = counted_again c.self.inside.floor c.enter.new.self c.catch_up.new.teller c.count.new.self e.0 c.journal-in-Ok-2.result.now whole e.2 c.journal-in-Ok-2.ensures c.count.ensures in
    counted_line g.H.HallName.table g.H.HallName.day c.args.setting.now.day c.self.inside.floor c.enter.new.self c.self.inside.teller c.catch_up.new.teller c.look.new.teller c.self.invariant stays
    (c.look.ensures.teller ∙ c.catch_up-in-Ok.ensures.teller ∙ told) c.requires.hall.0 c.enter.ensures.opened

pub invariant_of-self-in-Err : goal.invariant_of-self-in-Err
invariant_of-self-in-Err g c =
    let stays = c.catch_up.ensures.teller ∙ c.look-seen.ensures.teller in
    counted_still g.H.HallName.table g.H.HallName.day c.args.setting.now.day c.self.inside.floor c.enter.new.self c.self.inside.teller c.catch_up.new.teller c.self.invariant stays
    c.in-Err.ensures.entered.1 c.requires.hall.0 c.enter.ensures.opened

pub returns-in-Ok-clause-adds : goal.returns-in-Ok-clause-adds
returns-in-Ok-clause-adds g c =
    let e = c.in-Ok.ensures.entered in
    adds_made g.H.HallName.day c.args.setting.now.day c.self.inside.floor c.enter.new.self c.args.want e.0 c.line.result.0 c.line.result.1.now c.args.self.now c.in-Ok.place c.journal-in-Ok.result.now c.requires.hall.0
    c.self.view_is e.1 e.2 e.3 c.journal-in-Ok.ensures c.line.ensures

pub returns-in-Err-clause-adds : goal.returns-in-Err-clause-adds
returns-in-Err-clause-adds g c = ap (λ (f : OnFloor). f.journal.history) c.in-Err.ensures.entered.1 ∙ c.self.view_is

pub returns-in-Ok-clause-before : goal.returns-in-Ok-clause-before
returns-in-Ok-clause-before g c =
    let e = c.in-Ok.ensures.entered in
    let b = c.look-seen.ensures.before in
    let lines = ap (λ (k : Known). k.lines) c.look-seen.ensures.seen ∙ ap (λ (j : Kept). j.history) c.journal.ensures in
    (e.0 ∷ b.0, e.2 ∙ ap (λ (J : History). e.0 ∷ J) (sym lines ∙ b.1))

pub returns-in-Err-clause-before : goal.returns-in-Err-clause-before
returns-in-Err-clause-before g c =
    let b = c.look-seen.ensures.before in
    let lines = ap (λ (k : Known). k.lines) c.look-seen.ensures.seen ∙ ap (λ (j : Kept). j.history) c.journal.ensures in
    (b.0, ap (λ (f : OnFloor). f.journal.history) c.in-Err.ensures.entered.1 ∙ sym lines ∙ b.1)

pub returns-in-Ok-clause-tells : goal.returns-in-Ok-clause-tells
returns-in-Ok-clause-tells g c =
    let e = c.in-Ok.ensures.entered in
    let P = c.args.pass.now.lines in
    let lines = ap (λ (k : Known). k.lines) c.look-seen.ensures.seen ∙ ap (λ (j : Kept). j.history) c.journal.ensures in
    tells_made g.H.HallName.day c.args.setting.now.day c.self.inside.floor c.enter.new.self c.args.want e.0 c.line.result.0 c.line.result.1.now P c.in-Ok.place c.journal-in-Ok.result.now c.requires.hall.0
    (subst (Begins P) lines c.look-seen.ensures.before) e.1 e.2 e.3 c.journal-in-Ok.ensures c.line.ensures

pub returns-in-Err-clause-tells : goal.returns-in-Err-clause-tells
returns-in-Err-clause-tells g c =
    let e = c.in-Err.ensures.entered in
    tells_why g.H.HallName.day c.args.setting.now.day c.self.inside.floor c.enter.new.self c.args.want c.in-Err.why c.args.pass.now.lines c.look-seen.result c.requires.hall.0 e.0 e.1
    (c.look-seen.ensures.length ∙ ap (λ (j : Kept). length j.history) c.journal.ensures)
