use Rattle.std.proofs.Common.{◌≡◌, ◌+◌, ◌/◌, length, arith}
use Rattle.due_items.proofs.PageFacts.{made-are, none-there, number-is, page-lacks, page-made}
use Rattle.due_items.proofs.chain.make_page.Goals as goal

pub add_page-requires : goal.add_page-requires
add_page-requires c =
    let top = c.args.top.now.items in
    let none = none-there top c.as_slice.result.now c.args.b c.at-page.result c.as_slice.ensures.value c.at-page.ensures c.if-page-ne0.false in
    let room = page-lacks top c.args.pages.now.items c.args.b c.requires.pages c.requires.below none in
    let all = c.requires.room in
    omega (arith, room, all)

pub returns-clause-made : goal.returns-clause-made
returns-clause-made c = let long = c.add_page.ensures.long in let len = c.len.ensures in omega (arith, long, len)

pub returns-clause-rows : goal.returns-clause-rows
returns-clause-rows c =
    let top = c.args.top.now.items in
    let pages = c.args.pages.now.items in
    let new = c.add_page.new.pages.items in
    let none = none-there top c.as_slice.result.now c.args.b c.at-page.result c.as_slice.ensures.value c.at-page.ensures c.if-page-ne0.false in
    let long : length new ≡ length pages + 256 = let l = c.add_page.ensures.long in omega (arith, l) in
    let number = number-is top pages (length new) (c.len.result / 256) c.requires.pages long (let l = c.len.ensures in omega (arith, l)) in
    page-made top pages new c.args.b (c.len.result / 256) c.requires.pages c.requires.below none c.add_page.ensures.same long number

pub returns-clause-pages : goal.returns-clause-pages
returns-clause-pages c =
    let top = c.args.top.now.items in
    let pages = c.args.pages.now.items in
    let new = c.add_page.new.pages.items in
    let none = none-there top c.as_slice.result.now c.args.b c.at-page.result c.as_slice.ensures.value c.at-page.ensures c.if-page-ne0.false in
    let long : length new ≡ length pages + 256 = let l = c.add_page.ensures.long in omega (arith, l) in
    let number = number-is top pages (length new) (c.len.result / 256) c.requires.pages long (let l = c.len.ensures in omega (arith, l)) in
    made-are top pages new c.args.b (c.len.result / 256) c.requires.pages c.requires.below none long number
