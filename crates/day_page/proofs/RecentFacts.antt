-- The newest lines, one line less to look at.
use Rattle.std.proofs.Common.{◌≡◌, ◌∙◌, ◌-◌, ◌+◌, ◌<◌, ◌≤◌, ℕ, suc, List, [], ◌∷◌, ◌++◌, length, sym, ap, arith, append-nil}
use Rattle.std.proofs.lemmas.List.{drop_all, length-drop}
use Rattle.batch_records.specs.DayRecord.{Day}
use Rattle.commit_journal.specs.Line.{History, Line}
use Rattle.commit_journal.specs.Histories.{oldest}
use Rattle.day_page.specs.declared.words.Request.{Request}
use Rattle.day_page.specs.LineTexts.{budget_after, recent_part, recent_text}
use Rattle.day_page.proofs.TextFacts.{whole}

pub recent_all : (day : Day) (r : Request) (most count : ℕ) (H : History) → count ≡ length H → recent_text day r most (oldest H (count - 0)) ≡ recent_text day r most H
recent_all day r most count H e =
    let k : count - 0 ≡ length H = omega (arith, e) in
    ap (λ (i : ℕ). recent_text day r most (oldest H i)) k ∙ ap (recent_text day r most) (whole H)

-- the text of a line, and of those before it
recent_line : (day : Day) (r : Request) (budget place : ℕ) (l : Line) (later J : History) → later ≡ l ∷ J → place ≡ suc (length J) → recent_text day r budget later ≡ recent_part day r budget place l ++ recent_text day r (budget_after day r budget l) J
unfolding recent_text
recent_line day r budget place l later J e at =
    ap (recent_text day r budget) e ∙ ap (λ (p : ℕ). recent_part day r budget p l ++ recent_text day r (budget_after day r budget l) J) (sym at)

pub recent_next : (day : Day) (r : Request) (budget count done : ℕ) (l : Line) (H : History) → count ≡ length H → done < count → oldest H (count - done) ≡ l ∷ oldest H (count - done - 1) →
    recent_text day r budget (oldest H (count - done)) ≡ recent_part day r budget (count - done) l ++ recent_text day r (budget_after day r budget l) (oldest H (count - (done + 1)))
recent_next day r budget count done l H e inside is =
    let k : count - done - 1 ≡ count - (done + 1) = omega arith in
    let long : length (oldest H (count - done - 1)) ≡ length H - (length H - (count - done - 1)) = length-drop (length H - (count - done - 1)) H in
    let place : count - done ≡ suc (length (oldest H (count - done - 1))) = omega (arith, long, e, inside) in
    recent_line day r budget (count - done) l (oldest H (count - done)) (oldest H (count - done - 1)) is place
    ∙ ap (λ (i : ℕ). recent_part day r budget (count - done) l ++ recent_text day r (budget_after day r budget l) (oldest H i)) k

-- nothing is left
pub recent_none : (day : Day) (r : Request) (budget count done : ℕ) (H : History) (told : List ℕ) → count ≤ done → told ++ recent_text day r budget (oldest H (count - done)) ≡ told
unfolding recent_text
recent_none day r budget count done H told past =
    let k : count - done ≡ 0 = omega (arith, past) in
    let none : oldest H (count - done) ≡ [] = ap (oldest H) k ∙ drop_all (length H - 0) H (omega arith) in
    ap (λ (J : History). told ++ recent_text day r budget J) none ∙ append-nil told
