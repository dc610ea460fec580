use Rattle.std.proofs.Common.{◌≡◌, ◌∙◌, ◌+◌, ◌-◌, ◌≤◌, ◌<◌, ◌∷◌, get_or, length, ap, sym, refl, arith}
use Rattle.std.specs.Prelude.{slice_set}
use Rattle.row_list.specs.Cut.{cut}
use Rattle.row_list.specs.Rows.{changed, row_at}
use Rattle.row_list.proofs.CutLemmas.{begins_within, cut_changed, ends_within, no_item, row_size, same_shown, there, unchanged}
use Rattle.row_list.proofs.rows.RowList.set.Goals as goal

pub returns-then-i-len : goal.returns-then-i-len
returns-then-i-len g c =
    let past : length c.self.inside.ends.items ≤ c.args.i = omega (arith, c.if-i-len.true, c.len.ensures, c.self.inside.ends.ok.0) in
    sym c.self.view_is ∙ same_shown _ _ _ _ _ _ (sym (unchanged c.args.i c.args.k (cut 0 c.self.inside.ends.items c.self.inside.items.items) c.args.item (no_item c.self.inside.ends.items c.args.i c.args.k c.self.inside.items.items past))) refl refl ∙ ap (changed c.args.i c.args.k c.args.item) c.self.view_is

pub overflow_sub-size : goal.overflow_sub-size
overflow_sub-size g c =
    let inside : c.args.i < length c.self.inside.ends.items = omega (arith, c.if-i-len.false, c.len.ensures, c.self.inside.ends.ok.0) in
    let start : c.start_of-start.result ≡ get_or (0 ∷ c.self.inside.ends.items) c.args.i 0 = c.start_of-start.ensures ∙ ap (λ es. get_or (0 ∷ es) c.args.i 0) c.as_slice.ensures.value in
    let end : c.index.result.now ≡ get_or c.self.inside.ends.items c.args.i 0 = there c.self.inside.ends.items c.args.i _ _ inside c.index.ensures in
    let low : get_or (0 ∷ c.self.inside.ends.items) c.args.i 0 ≤ get_or c.self.inside.ends.items c.args.i 0 = begins_within 0 c.self.inside.ends.items (length c.self.inside.items.items) c.args.i c.self.invariant inside in
    omega (arith, start, end, low)

pub index_mut-requires : goal.index_mut-requires
index_mut-requires g c =
    let inside : c.args.i < length c.self.inside.ends.items = omega (arith, c.if-i-len.false, c.len.ensures, c.self.inside.ends.ok.0) in
    let start : c.start_of-start.result ≡ get_or (0 ∷ c.self.inside.ends.items) c.args.i 0 = c.start_of-start.ensures ∙ ap (λ es. get_or (0 ∷ es) c.args.i 0) c.as_slice.ensures.value in
    let end : c.index.result.now ≡ get_or c.self.inside.ends.items c.args.i 0 = there c.self.inside.ends.items c.args.i _ _ inside c.index.ensures in
    let high : get_or c.self.inside.ends.items c.args.i 0 ≤ length c.self.inside.items.items = ends_within 0 c.self.inside.ends.items (length c.self.inside.items.items) c.args.i c.self.invariant inside in
    omega (arith, start, end, high, c.if-k-size.true, c.self.inside.items.ok.0)

pub returns-then-k-size : goal.returns-then-k-size
returns-then-k-size g c =
    let inside : c.args.i < length c.self.inside.ends.items = omega (arith, c.if-i-len.false, c.len.ensures, c.self.inside.ends.ok.0) in
    let start : c.start_of-start.result ≡ get_or (0 ∷ c.self.inside.ends.items) c.args.i 0 = c.start_of-start.ensures ∙ ap (λ es. get_or (0 ∷ es) c.args.i 0) c.as_slice.ensures.value in
    let end : c.index.result.now ≡ get_or c.self.inside.ends.items c.args.i 0 = there c.self.inside.ends.items c.args.i _ _ inside c.index.ensures in
    let fits : get_or (0 ∷ c.self.inside.ends.items) c.args.i 0 + c.args.k < get_or c.self.inside.ends.items c.args.i 0 = omega (arith, start, end, c.if-k-size.true) in
    same_shown _ _ _ _ _ _
    (ap (λ j. cut 0 c.self.inside.ends.items (slice_set c.self.inside.items.items (j + c.args.k) c.args.item)) start ∙ cut_changed c.self.inside.ends.items (length c.self.inside.items.items) c.args.i c.args.k c.self.inside.items.items c.args.item c.self.invariant inside fits)
    refl
    refl
    ∙ ap (changed c.args.i c.args.k c.args.item) c.self.view_is

pub returns-else-k-size : goal.returns-else-k-size
returns-else-k-size g c =
    let inside : c.args.i < length c.self.inside.ends.items = omega (arith, c.if-i-len.false, c.len.ensures, c.self.inside.ends.ok.0) in
    let start : c.start_of-start.result ≡ get_or (0 ∷ c.self.inside.ends.items) c.args.i 0 = c.start_of-start.ensures ∙ ap (λ es. get_or (0 ∷ es) c.args.i 0) c.as_slice.ensures.value in
    let end : c.index.result.now ≡ get_or c.self.inside.ends.items c.args.i 0 = there c.self.inside.ends.items c.args.i _ _ inside c.index.ensures in
    let size : length (row_at (cut 0 c.self.inside.ends.items c.self.inside.items.items) c.args.i) ≡ get_or c.self.inside.ends.items c.args.i 0 - get_or (0 ∷ c.self.inside.ends.items) c.args.i 0 = row_size c.self.inside.ends.items c.args.i c.self.inside.items.items c.self.invariant inside in
    let past : length (row_at (cut 0 c.self.inside.ends.items c.self.inside.items.items) c.args.i) ≤ c.args.k = omega (arith, size, start, end, c.if-k-size.false) in
    sym c.self.view_is ∙ same_shown _ _ _ _ _ _ (sym (unchanged c.args.i c.args.k (cut 0 c.self.inside.ends.items c.self.inside.items.items) c.args.item past)) refl refl ∙ ap (changed c.args.i c.args.k c.args.item) c.self.view_is
