use Rattle.std.proofs.Common.{◌≡◌, ◌∙◌, ◌+◌, ◌<◌, true, false, refl, ap, inl, inr, ⊎_elim, arith, length, get_or-set_other}
use Rattle.std.proofs.lemmas.Bool.{cases_eq}
use Rattle.std.proofs.lemmas.List.{length-set}
use Rattle.number_set.specs.Members.{has}
use Rattle.due_items.specs.Kept.{Due}
use Rattle.ready_items.proofs.NoteFacts.{below_end, due_forgets, gone_then, none_left, looked_at, renews_more, renews_none, renews_then}
use Rattle.ready_items.proofs.Room.{same_room, same_then}
use Rattle.ready_items.proofs.ready.ReadyItems.renew_told.Goals as goal

pub loop-i-init : goal.loop-i-init
loop-i-init c = record {
  room = same_room c.args.self.now;
  index = refl;
  ready = λ K stands due fits. renews_none c.args.setting.now.day K _ c.args.self.now fits (λ i w h. let l = h.0 in omega (arith, l));
  due = λ day K k. k;
  size = refl;
  gone = λ j l. absurd (omega (arith, l));
  same = λ j l. refl;
}

pub loop-i-preserved : goal.loop-i-preserved
loop-i-preserved c =
    let day = c.args.setting.now.day in
    let from = c.loop-i.from in
    let i = c.in-Some.i in
    let old = c.args.due.now in
    let least = c.in-Some.ensures.next in
    record {
      room = same_then c.args.self.now c.loop-i.self c.renew_number.new.self c.loop-i.invariant.room c.renew_number.ensures.room;
      index = ap (λ (x : Due). x.index) c.forget.ensures ∙ c.loop-i.invariant.index;
      ready = λ K stands due fits.
          let before = c.loop-i.invariant.ready K stands due fits in
          let kept = c.loop-i.invariant.due day K due in
          let within = c.in-Some.ensures.within in
          let room = kept.room in
          renews_then day K (λ j. (j < from) × (has old.renewed j ≡ true)) (λ j. j ≡ i) (λ j. (j < i + 1) × (has old.renewed j ≡ true)) c.args.self.now c.loop-i.self c.renew_number.new.self before
          (c.renew_number.ensures.renews K stands kept (omega (arith, within, room)) before.fits)
          (λ j w h. ⊎_elim
          (λ (e : j ≡ i). inr e)
          (λ (ne : j ≡ i → ⊥). inl ((looked_at from i j old c.loop-i.due least c.loop-i.invariant.same h.0 h.1 ne), h.1))
          (cases_eq j i));
      due = λ d K k. due_forgets d K c.loop-i.due i _ (c.loop-i.invariant.due d K k) c.forget.ensures;
      size = ap (λ (x : Due). length x.renewed) c.forget.ensures ∙ (length-set c.loop-i.due.renewed i false ∙ c.loop-i.invariant.size);
      gone = λ j l. ap (λ (x : Due). has x.renewed j) c.forget.ensures ∙ gone_then c.loop-i.due.renewed from i j c.loop-i.invariant.gone least c.in-Some.ensures.within l;
      same = λ j l. ap (λ (x : Due). has x.renewed j) c.forget.ensures ∙ (get_or-set_other c.loop-i.due.renewed i j false _ (λ e. omega (arith, l, e)) ∙ (let a = least.at_least in c.loop-i.invariant.same j (omega (arith, l, a))));
    }

pub returns-clause-ready : goal.returns-clause-ready
returns-clause-ready c = λ K stands due fits. renews_more c.args.setting.now.day K (λ j. (j < c.loop-i.from) × (has c.args.due.now.renewed j ≡ true)) (λ j. has c.args.due.now.renewed j ≡ true) c.args.self.now c.loop-i.self
    (c.loop-i.invariant.ready K stands due fits) (λ j w h. (below_end c.loop-i.from j c.args.due.now c.loop-i.due c.in_default.ensures.next c.loop-i.invariant.same h, h))

pub returns-clause-room : goal.returns-clause-room
returns-clause-room c = c.loop-i.invariant.room

pub returns-clause-index : goal.returns-clause-index
returns-clause-index c = c.loop-i.invariant.index

pub returns-clause-due : goal.returns-clause-due
returns-clause-due c = c.loop-i.invariant.due

pub returns-clause-forgotten : goal.returns-clause-forgotten
returns-clause-forgotten c = none_left c.loop-i.due.renewed c.loop-i.from c.loop-i.invariant.gone c.in_default.ensures.next
