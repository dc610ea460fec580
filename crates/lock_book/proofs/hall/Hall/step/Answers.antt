use Rattle.std.proofs.Common.{◌≡◌, [], ◌∷◌, ap, ◌∙◌, refl}
use Rattle.batch_records.specs.DayRecord.{Day}
use Rattle.machine.specs.Making.Accounts.{accounts_of_want}
use Rattle.lock_book.specs.declared.needs.Needs.{Needs}
use Rattle.lock_book.specs.Needs.{needs_of}
use Rattle.lock_book.proofs.Locking.{holds_all}
use Rattle.lock_book.proofs.hall.Hall.step.Goals as goal

pub work-requires-clause-accounts : goal.work-requires-clause-accounts
work-requires-clause-accounts g c =
    let day = g.H.HallName.day in
    let held = c.lock_groups-held.result in
    let locked = c.lock_groups-held.ensures in
    let needs : c.needed_by-needs.result ≡ needs_of (accounts_of_want day c.args.want) = c.needed_by-needs.ensures ∙ ap (λ (d : Day). needs_of (accounts_of_want d c.args.want)) c.self.invariant.0 in
    holds_all day c.args.want (held.zero ∷ held.one ∷ held.two ∷ held.three ∷ held.four ∷ held.five ∷ held.six ∷ held.seven ∷ []) refl (
      locked.0 ∙ ap (λ (n : Needs). n.zero) needs,
      (
        locked.1 ∙ ap (λ (n : Needs). n.one) needs,
        (
          locked.2 ∙ ap (λ (n : Needs). n.two) needs,
          (
            locked.3 ∙ ap (λ (n : Needs). n.three) needs,
            (
              locked.4 ∙ ap (λ (n : Needs). n.four) needs,
              (
                locked.5 ∙ ap (λ (n : Needs). n.five) needs,
                (
                  locked.6 ∙ ap (λ (n : Needs). n.six) needs,
                  (
                    locked.7 ∙ ap (λ (n : Needs). n.seven) needs,
                    tt,
                  ),
                ),
              ),
            ),
          ),
        ),
      ),
    )
