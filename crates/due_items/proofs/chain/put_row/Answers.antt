use Rattle.std.proofs.Common.{◌∙◌, ℕ, List, ap, arith, slice_set, sym}
use Rattle.due_items.proofs.PageFacts.{nothing-past, place-within, row-set, set-are}
use Rattle.due_items.proofs.chain.put_row.Goals as goal

pub returns-then-key-seconds-clause-rows : goal.returns-then-key-seconds-clause-rows
returns-then-key-seconds-clause-rows c = nothing-past c.args.top.now.items c.args.pages.now.items c.args.key c.args.n (let past = c.if-key-seconds.true in let all = c.seconds.ensures in omega (arith, past, all))

pub index_mut-requires : goal.index_mut-requires
index_mut-requires c = let l = place-within c.make_page-page.new.top.items c.make_page-page.new.pages.items c.args.key c.make_page-page.result c.make_page-page.ensures.pages (sym c.make_page-page.ensures.number) c.make_page-page.ensures.made in omega (arith, l)

pub returns-clause-rows : goal.returns-clause-rows
returns-clause-rows c =
    row-set c.make_page-page.new.top.items c.make_page-page.new.pages.items c.args.key c.make_page-page.result c.args.n c.make_page-page.ensures.pages (let low = c.if-key-seconds.false in let all = c.seconds.ensures in omega (arith, low, all)) (sym c.make_page-page.ensures.number) c.make_page-page.ensures.made
    ∙ ap (λ (v : List ℕ). slice_set v c.args.key c.args.n) c.make_page-page.ensures.rows

pub returns-clause-pages : goal.returns-clause-pages
returns-clause-pages c = set-are c.make_page-page.new.top.items c.make_page-page.new.pages.items _ c.args.n c.make_page-page.ensures.pages
