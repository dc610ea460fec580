-- The course of a row, and its points, by what was kept of it.
use Rattle.std.proofs.Common.{◌≡◌, ℕ, List, [], ◌∷◌, refl, ap}
use Rattle.batch_records.specs.DayRecord.{Day}
use Rattle.commit_journal.specs.Line.{History}
use Rattle.day_page.specs.declared.courses.Running.{Running}
use Rattle.day_page.specs.Courses.{course_on, members, point, total}
use Rattle.day_page.specs.Running.{running}

pub course_is : (day : Day) (members : List ℕ) (J : History) (n opening : ℕ) (at : Running) → at ≡ running day members J → opening ≡ total day members [] →
    record { account = n; opening = opening; lowest = at.lowest; highest = at.highest; closing = at.held } ≡ course_on day members J n
course_is day members J n opening at e o = λ i. record { account = n; opening = o i; lowest = (e i).lowest; highest = (e i).highest; closing = (e i).held }

pub point_is : (day : Day) (members : List ℕ) (J : History) (n : ℕ) (at : Running) → at ≡ running day members J → record { account = n; clock = at.clock; cents = at.held } ≡ point day members n J
point_is day members J n at e = λ i. record { account = n; clock = (e i).clock; cents = (e i).held }

-- of all that are shown, or of one account
pub all_members : (accounts : List ℕ) (n : ℕ) → n ≡ 0 → members accounts n ≡ accounts
all_members accounts n e = ap (members accounts) e

pub one_member : (accounts : List ℕ) (n : ℕ) → (n ≡ 0 → ⊥) → members accounts n ≡ n ∷ []
one_member accounts ℕ.zero other = absurd (other refl)
one_member accounts (ℕ.suc n) other = refl
