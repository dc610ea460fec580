use Rattle.std.proofs.Common.{◌∙◌, ap, arith, length, subst, sym}
use Rattle.rule_book.specs.Parties.{AreBefore, Arrived, Listed}
use Rattle.rule_book.proofs.FewEntries.{few_entries}
use Rattle.rule_book.proofs.parties.Parties.arrive.Goals as goal

pub arrive-requires-clause-numbered : goal.arrive-requires-clause-numbered
arrive-requires-clause-numbered c = c.as_slice.ensures.value ∙ ap (λ (l : Listed). l.numbers) c.self.view_is ∙ c.requires.numbered

pub arrive-requires-clause-before : goal.arrive-requires-clause-before
arrive-requires-clause-before c = subst (AreBefore c.args.n) (sym (ap (λ (l : Listed). l.keys) c.self.view_is)) c.requires.before

pub arrive-requires-clause-room : goal.arrive-requires-clause-room
arrive-requires-clause-room c =
    let keys = ap (λ (l : Listed). length l.keys) c.self.view_is in
    let most = ap (λ (l : Listed). l.most) c.self.view_is in
    omega (arith, keys, most, c.requires.room, c.self.invariant.fits, c.self.inside.keys.ok.0)

pub arrive-requires-clause-own_room : goal.arrive-requires-clause-own_room
arrive-requires-clause-own_room c =
    let most = ap (λ (l : Listed). l.most) c.self.view_is in
    omega (arith, most, c.requires.room, few_entries c.args.day.now c.args.n c.requires.sound, c.self.invariant.own_fits)

pub invariant_of-self : goal.invariant_of-self
invariant_of-self c = record {
  rising = c.arrive.ensures.arrived.rising;
  empty = c.arrive.ensures.empty;
  fits = omega (arith, c.self.invariant.fits, c.arrive.ensures.capacity);
  own_fits = omega (arith, c.self.invariant.own_fits, c.arrive.ensures.own_room);
}

pub returns-clause-arrived : goal.returns-clause-arrived
returns-clause-arrived c = subst (λ keys. Arrived c.args.day.now c.args.n keys c.arrive.new.keys.items) (ap (λ (l : Listed). l.keys) c.self.view_is) c.arrive.ensures.arrived

pub returns-clause-len : goal.returns-clause-len
returns-clause-len c =
    let keys = ap (λ (l : Listed). length l.keys) c.self.view_is in
    omega (arith, keys, c.arrive.ensures.len, c.self.inside.keys.ok.0, c.arrive.new.keys.ok.0)
