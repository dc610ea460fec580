-- Which first fields name a batch, an entry, and a message or a stop; and what is kept of a record is of its kind.
use Rattle.std.proofs.Common.{◌≡◌, ◌∙◌, ◌<◌, ◌≤◌, ◌⊎◌, inl, inr, ℕ, Bool, true, false, List, [], ◌∷◌, Some, None, length, refl, sym, ap, subst, arith}
use Rattle.std.specs.Prelude.{◌||◌, if◌then◌else◌, bytes_eq, codes, nat_le}
use Rattle.std.specs.Option.{option_map_or}
use Rattle.std.proofs.lemmas.Bool.{cases_Bool}
use Rattle.std.proofs.lemmas.Slice.Eq.{bytes_eq-Decides}
use Rattle.batch_records.specs.Kinds.{kind_named, kind_of}
use Rattle.batch_records.specs.Made.{is_batch_kind, is_entry_kind, is_late_kind}
use Rattle.batch_records.specs.Records.{Fields}
use Rattle.batch_records.specs.declared.kinds.RecordKind.TheVariants as record_kinds
use Rattle.batch_records.proofs.BoolFacts.{le_failed, le_meant}
use Rattle.batch_records.proofs.CutCodes.{kept_all}
use Rattle.batch_records.proofs.CutFields.{alike, at_field, cut}
use Rattle.batch_records.proofs.LongTexts.{long_kind}
use Rattle.record_rows.specs.Rows.{kept_row}

other_entry : (a b c d e g h j k l m n o : Bool) → option_map_or is_entry_kind (if a then Some record_kinds.Ver else if b then Some record_kinds.Day else if c then Some record_kinds.As else if d then Some record_kinds.Acc else if e then Some record_kinds.Bat else if false then Some record_kinds.Ent else if g then Some record_kinds.Pay else if h then Some record_kinds.Liq else if j then Some record_kinds.Obj else if k then Some record_kinds.Cnf else if l then Some record_kinds.Cyc else if m then Some record_kinds.Tim else if n then Some record_kinds.End else if o then Some record_kinds.Res else None) false ≡ false
other_entry true b c d e g h j k l m n o = refl
other_entry false true c d e g h j k l m n o = refl
other_entry false false true d e g h j k l m n o = refl
other_entry false false false true e g h j k l m n o = refl
other_entry false false false false true g h j k l m n o = refl
other_entry false false false false false true h j k l m n o = refl
other_entry false false false false false false true j k l m n o = refl
other_entry false false false false false false false true k l m n o = refl
other_entry false false false false false false false false true l m n o = refl
other_entry false false false false false false false false false true m n o = refl
other_entry false false false false false false false false false false true n o = refl
other_entry false false false false false false false false false false false true o = refl
other_entry false false false false false false false false false false false false true = refl
other_entry false false false false false false false false false false false false false = refl

pub names_entry : (word : List ℕ) → bytes_eq word (codes "ENT") ≡ option_map_or is_entry_kind (kind_named word) false
unfolding kind_named
names_entry word = by (bytes_eq word (codes "ENT")) refl
  where
    by : (x : Bool) → bytes_eq word (codes "ENT") ≡ x → x ≡ option_map_or is_entry_kind (kind_named word) false
    by true e = subst (λ (text : List ℕ). true ≡ option_map_or is_entry_kind (kind_named text) false) (sym ((bytes_eq-Decides word (codes "ENT")).0 e)) refl
    by false e = sym (ap (λ (x : Bool). option_map_or is_entry_kind (if bytes_eq word (codes "VER") then Some record_kinds.Ver else if bytes_eq word (codes "DAY") then Some record_kinds.Day else if bytes_eq word (codes "AS") then Some record_kinds.As else if bytes_eq word (codes "ACC") then Some record_kinds.Acc else if bytes_eq word (codes "BAT") then Some record_kinds.Bat else if x then Some record_kinds.Ent else if bytes_eq word (codes "PAY") then Some record_kinds.Pay else if bytes_eq word (codes "LIQ") then Some record_kinds.Liq else if bytes_eq word (codes "OBJ") then Some record_kinds.Obj else if bytes_eq word (codes "CNF") then Some record_kinds.Cnf else if bytes_eq word (codes "CYC") then Some record_kinds.Cyc else if bytes_eq word (codes "TIM") then Some record_kinds.Tim else if bytes_eq word (codes "END") then Some record_kinds.End else if bytes_eq word (codes "RES") then Some record_kinds.Res else None) false) e ∙ other_entry (bytes_eq word (codes "VER")) (bytes_eq word (codes "DAY")) (bytes_eq word (codes "AS")) (bytes_eq word (codes "ACC")) (bytes_eq word (codes "BAT")) (bytes_eq word (codes "PAY")) (bytes_eq word (codes "LIQ")) (bytes_eq word (codes "OBJ")) (bytes_eq word (codes "CNF")) (bytes_eq word (codes "CYC")) (bytes_eq word (codes "TIM")) (bytes_eq word (codes "END")) (bytes_eq word (codes "RES")))

other_batch : (a b c d f g h j k l m n o : Bool) → option_map_or is_batch_kind (if a then Some record_kinds.Ver else if b then Some record_kinds.Day else if c then Some record_kinds.As else if d then Some record_kinds.Acc else if false then Some record_kinds.Bat else if f then Some record_kinds.Ent else if g then Some record_kinds.Pay else if h then Some record_kinds.Liq else if j then Some record_kinds.Obj else if k then Some record_kinds.Cnf else if l then Some record_kinds.Cyc else if m then Some record_kinds.Tim else if n then Some record_kinds.End else if o then Some record_kinds.Res else None) false ≡ false
other_batch true b c d f g h j k l m n o = refl
other_batch false true c d f g h j k l m n o = refl
other_batch false false true d f g h j k l m n o = refl
other_batch false false false true f g h j k l m n o = refl
other_batch false false false false true g h j k l m n o = refl
other_batch false false false false false true h j k l m n o = refl
other_batch false false false false false false true j k l m n o = refl
other_batch false false false false false false false true k l m n o = refl
other_batch false false false false false false false false true l m n o = refl
other_batch false false false false false false false false false true m n o = refl
other_batch false false false false false false false false false false true n o = refl
other_batch false false false false false false false false false false false true o = refl
other_batch false false false false false false false false false false false false true = refl
other_batch false false false false false false false false false false false false false = refl

pub names_batch : (word : List ℕ) → bytes_eq word (codes "BAT") ≡ option_map_or is_batch_kind (kind_named word) false
unfolding kind_named
names_batch word = by (bytes_eq word (codes "BAT")) refl
  where
    by : (x : Bool) → bytes_eq word (codes "BAT") ≡ x → x ≡ option_map_or is_batch_kind (kind_named word) false
    by true e = subst (λ (text : List ℕ). true ≡ option_map_or is_batch_kind (kind_named text) false) (sym ((bytes_eq-Decides word (codes "BAT")).0 e)) refl
    by false e = sym (ap (λ (x : Bool). option_map_or is_batch_kind (if bytes_eq word (codes "VER") then Some record_kinds.Ver else if bytes_eq word (codes "DAY") then Some record_kinds.Day else if bytes_eq word (codes "AS") then Some record_kinds.As else if bytes_eq word (codes "ACC") then Some record_kinds.Acc else if x then Some record_kinds.Bat else if bytes_eq word (codes "ENT") then Some record_kinds.Ent else if bytes_eq word (codes "PAY") then Some record_kinds.Pay else if bytes_eq word (codes "LIQ") then Some record_kinds.Liq else if bytes_eq word (codes "OBJ") then Some record_kinds.Obj else if bytes_eq word (codes "CNF") then Some record_kinds.Cnf else if bytes_eq word (codes "CYC") then Some record_kinds.Cyc else if bytes_eq word (codes "TIM") then Some record_kinds.Tim else if bytes_eq word (codes "END") then Some record_kinds.End else if bytes_eq word (codes "RES") then Some record_kinds.Res else None) false) e ∙ other_batch (bytes_eq word (codes "VER")) (bytes_eq word (codes "DAY")) (bytes_eq word (codes "AS")) (bytes_eq word (codes "ACC")) (bytes_eq word (codes "ENT")) (bytes_eq word (codes "PAY")) (bytes_eq word (codes "LIQ")) (bytes_eq word (codes "OBJ")) (bytes_eq word (codes "CNF")) (bytes_eq word (codes "CYC")) (bytes_eq word (codes "TIM")) (bytes_eq word (codes "END")) (bytes_eq word (codes "RES")))

-- tests of a word agree where they agree on one text, and where it is another one
known : (f g : List ℕ → Bool) (word text : List ℕ) → f text ≡ g text → (bytes_eq word text ≡ false → f word ≡ g word) → f word ≡ g word
known f g word text here other = by (bytes_eq word text) refl
  where
    by : (x : Bool) → bytes_eq word text ≡ x → f word ≡ g word
    by true e = subst (λ (t : List ℕ). f t ≡ g t) (sym ((bytes_eq-Decides word text).0 e)) here
    by false e = other e

abbrev names : List ℕ → Bool
names word = (bytes_eq word (codes "BAT") || bytes_eq word (codes "PAY") || bytes_eq word (codes "LIQ")) || (bytes_eq word (codes "OBJ") || bytes_eq word (codes "CNF") || bytes_eq word (codes "CYC")) || bytes_eq word (codes "TIM")

abbrev is_named : List ℕ → Bool
is_named word = option_map_or is_late_kind (kind_named word) false

pub names_late : (word : List ℕ) → ((bytes_eq word (codes "BAT") || bytes_eq word (codes "PAY") || bytes_eq word (codes "LIQ")) || (bytes_eq word (codes "OBJ") || bytes_eq word (codes "CNF") || bytes_eq word (codes "CYC")) || bytes_eq word (codes "TIM")) ≡ option_map_or is_late_kind (kind_named word) false
unfolding kind_named
names_late word =
    known names is_named word (codes "VER") refl (λ a.
    known names is_named word (codes "DAY") refl (λ b.
    known names is_named word (codes "AS") refl (λ c.
    known names is_named word (codes "ACC") refl (λ d.
    known names is_named word (codes "BAT") refl (λ e.
    known names is_named word (codes "ENT") refl (λ f.
    known names is_named word (codes "PAY") refl (λ g.
    known names is_named word (codes "LIQ") refl (λ h.
    known names is_named word (codes "OBJ") refl (λ j.
    known names is_named word (codes "CNF") refl (λ k.
    known names is_named word (codes "CYC") refl (λ l.
    known names is_named word (codes "TIM") refl (λ m.
    known names is_named word (codes "END") refl (λ n.
    known names is_named word (codes "RES") refl (λ o.
    (λ i. (e i || g i || h i) || (j i || k i || l i) || m i) ∙ sym (λ i. option_map_or is_late_kind (if a i then Some record_kinds.Ver else if b i then Some record_kinds.Day else if c i then Some record_kinds.As else if d i then Some record_kinds.Acc else if e i then Some record_kinds.Bat else if f i then Some record_kinds.Ent else if g i then Some record_kinds.Pay else if h i then Some record_kinds.Liq else if j i then Some record_kinds.Obj else if k i then Some record_kinds.Cnf else if l i then Some record_kinds.Cyc else if m i then Some record_kinds.Tim else if n i then Some record_kinds.End else if o i then Some record_kinds.Res else None) false)))))))))))))))

-- ---- what is kept of a record

kind_cut : (r : Fields) → kind_of (cut r) ≡ kind_of r
kind_cut r = at_field kind_named (alike kind_named None long_kind) r 0

first_kept : (r : Fields) → 9 < length r → kind_of (kept_row r) ≡ kind_of (cut r)
first_kept [] l = absurd (omega (arith, l))
first_kept (x ∷ r) l = refl

few_or_many : (r : Fields) → (length r ≤ 9) ⊎ (9 < length r)
few_or_many r = elim (cases_Bool (nat_le (length r) 9)) [ inl e ↦ inl (le_meant (length r) 9 e) | inr e ↦ inr (le_failed (length r) 9 e) ]

pub kept_kind : (r : Fields) → kind_of (kept_row r) ≡ kind_of r
kept_kind r = elim (few_or_many r) [ inl l ↦ ap kind_of (kept_all r l) ∙ kind_cut r | inr l ↦ first_kept r l ∙ kind_cut r ]
