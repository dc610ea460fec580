-- Sorts of messages, by cases.
use Rattle.std.proofs.Common.{◌≡◌, ℕ, true, false, ◌||◌, [], refl}
use Rattle.batch_records.specs.DayRecord.{Day}
use Rattle.commit_journal.specs.Line.{History}
use Rattle.machine.specs.Making.Lines.{reversal}
use Rattle.machine.specs.Records.Messages.{BatchA, BatchB, BatchC, BatchD, BatchE, Pay, Sort, is_a, is_a_or_b, is_b, is_c, is_d, is_e, is_pay}

pub either_is : (s : Sort) → (is_a s || is_b s) ≡ is_a_or_b s
either_is BatchA = refl
either_is BatchB = refl
either_is _ = refl

pub a_is : (s : Sort) → is_a s ≡ true → s ≡ BatchA
a_is BatchA h = refl
a_is _ h = cc

pub b_is : (s : Sort) → is_b s ≡ true → s ≡ BatchB
b_is BatchB h = refl
b_is _ h = cc

pub c_is : (s : Sort) → is_c s ≡ true → s ≡ BatchC
c_is BatchC h = refl
c_is _ h = cc

pub d_is : (s : Sort) → is_d s ≡ true → s ≡ BatchD
d_is BatchD h = refl
d_is _ h = cc

pub e_is : (s : Sort) → is_e s ≡ true → s ≡ BatchE
e_is BatchE h = refl
e_is _ h = cc

pub pay_is : (s : Sort) → is_pay s ≡ true → s ≡ Pay
pay_is Pay h = refl
pay_is _ h = cc

-- another message gives nothing back
pub no_reversal : (s : Sort) (day : Day) (J : History) (n : ℕ) → is_a s ≡ false → reversal s day J n ≡ []
no_reversal BatchA day J n h = cc
no_reversal _ day J n h = refl
