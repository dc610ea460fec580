-- How a page looks: colours for light, dark and print, and a pattern for each phase of a batch, so that colour isn't the only sign.
use Rattle.std.specs.Prelude.{ℕ, List, codes}

abbrev pub style_text : List ℕ
style_text = codes "<style>:root{color-scheme:light dark;--paper:#fff;--ink:#1b1b1b;--soft:#565656;--rule:#c4c4c4;--line:#0b57a4;--light:#cfe3f7;--mid:#7db3e8;--dark:#1f5f9e}@media (prefers-color-scheme:dark){:root{--paper:#151515;--ink:#ececec;--soft:#b6b6b6;--rule:#4c4c4c;--line:#7cb8ff;--light:#24425f;--mid:#3f78b0;--dark:#9cc9f5}}@media print{:root{--paper:#fff;--ink:#000;--soft:#333;--rule:#999;--line:#000;--light:#e4e4e4;--mid:#a8a8a8;--dark:#333}svg,tr{break-inside:avoid-page}h2,h3,h3+p{break-after:avoid-page}nav{display:none}.wide{overflow:visible!important}table{font-size:.85rem}th,td{padding:.15rem .3rem!important}svg{min-width:0!important;print-color-adjust:exact}.bar{width:14rem!important}.bars td:first-child,.bars th[scope=row]{white-space:normal!important;overflow-wrap:anywhere}}body{margin:0;background:var(--paper);color:var(--ink);font:1rem/1.5 system-ui,sans-serif}main{max-width:62rem;margin:0 auto;padding:1rem}a{color:var(--line)}h1,h3,summary,.lines{overflow-wrap:anywhere}table{border-collapse:collapse;font-variant-numeric:tabular-nums}caption{text-align:left;color:var(--soft);padding:.3rem 0}th,td{padding:.15rem .6rem;text-align:right;vertical-align:top;border-bottom:1px solid var(--rule);font-weight:400}thead th{font-weight:600}th:first-child,.codes :is(th,td):last-child,.bars :is(th,td):not(:nth-child(4)){text-align:left}th[scope=row],.bars td,.bars th{white-space:nowrap}.wide{overflow-x:auto;margin-bottom:1rem}svg{display:block;width:100%;min-width:40rem;height:auto}svg text{fill:var(--soft);font-size:14px}.bar{min-width:18rem;height:1rem;border:1px solid var(--rule);shape-rendering:crispEdges}.legend{display:flex;flex-wrap:wrap;gap:.3rem 1.2rem;list-style:none;padding:0}.legend svg{display:inline-block;width:2.5rem;min-width:0;height:.9rem;border:1px solid var(--rule)}.axis{stroke:var(--rule);fill:none}.line{stroke:var(--line);stroke-width:2;fill:none}.information{fill:url(#dots)}.waiting{fill:var(--paper);stroke:var(--dark);vector-effect:non-scaling-stroke}.open{fill:var(--mid)}.asking{fill:url(#slant)}.covered{fill:url(#rows)}.overdue,.answered{fill:var(--dark)}.settled,.closed,.revoked,.untaken,.rejected{fill:var(--paper)}.patterns{position:absolute;width:0;height:0;min-width:0}.patterns .base{fill:var(--light)}.patterns .top{fill:var(--dark)}.patterns .stroke{stroke:var(--dark);stroke-width:2;fill:none}.lines{padding-left:4rem}</style>"

-- the end of the head, and the patterns that the body begins with
abbrev pub patterns_text : List ℕ
patterns_text = codes "</head>\n<body><svg class='patterns' aria-hidden='true'><defs><pattern id='dots' width='16' height='6' patternUnits='userSpaceOnUse'><rect class='base' width='16' height='6'/><ellipse class='top' cx='8' cy='3' rx='2.4' ry='1.2'/></pattern><pattern id='slant' width='16' height='6' patternUnits='userSpaceOnUse'><rect class='base' width='16' height='6'/><path class='stroke' d='M0 6L16 0'/></pattern><pattern id='rows' width='6' height='4' patternUnits='userSpaceOnUse'><rect class='base' width='6' height='4'/><path class='stroke' d='M0 2H6'/></pattern></defs></svg>"
