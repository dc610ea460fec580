-- The tests by which two setups are compared decide what they say.
use Rattle.std.proofs.Common.{◌≡◌, ◌∙◌, ℕ, zero, suc, Bool, true, false, List, [], ◌∷◌, map, Option, Some, None, refl, sym, ap}
use Rattle.std.specs.Prelude.{slice_get, option_map}
use Rattle.std.proofs.lemmas.Bool.{and_parts, and_from, eq-eqb, eqb-true}
use lib.Pointwise.{pointwise, pointwise_decides, bytes_decides}
use Rattle.cash_amounts.specs.declared.records.AccountKind.{AccountKind}
use Rattle.cash_amounts.specs.declared.records.AccountKind.TheVariants.{Dca, Sub, Tech, Fund}
use Rattle.cash_amounts.specs.declared.records.AccountRecord.{AccountRecord}
use Rattle.cash_amounts.specs.declared.records.Procedure.{Procedure}
use Rattle.cash_amounts.specs.declared.records.Procedure.TheVariants.{A, B, C, D, E}
use Rattle.cash_amounts.specs.declared.records.SystemRecord.{SystemRecord}
use Rattle.machine.specs.Words.{flag_of, same_name, same_procedure}
use Rattle.day_chain.specs.Chains.{terms}
use Rattle.day_chain.specs.Joining.{kind_number, same_flag, same_kind, same_option, same_system, same_terms}

-- the test decides whether the two show the same
abbrev pub Decides : {X Y : Type 0} → (X → X → Bool) → (X → Y) → Type 0
Decides {X} test view = (x y : X) → (test x y ≡ true → view x ≡ view y) × (view x ≡ view y → test x y ≡ true)

-- ---- names, kinds, procedures, flags

pub names : Decides same_name (λ (name : List ℕ). name)
names x y = bytes_decides x y

abbrev kind_of : ℕ → AccountKind
kind_of zero = Dca
kind_of (suc zero) = Sub
kind_of (suc (suc zero)) = Tech
kind_of _ = Fund

kind_again : (k : AccountKind) → kind_of (kind_number k) ≡ k
kind_again Dca = refl
kind_again Sub = refl
kind_again Tech = refl
kind_again Fund = refl

kinds : Decides same_kind (λ (kind : AccountKind). kind)
kinds x y = (λ h. sym (kind_again x) ∙ ap kind_of (eqb-true (kind_number x) (kind_number y) h) ∙ kind_again y, λ e. eq-eqb (kind_number x) (kind_number y) (ap kind_number e))

abbrev procedure_of : ℕ → Procedure
procedure_of zero = A
procedure_of (suc zero) = B
procedure_of (suc (suc zero)) = C
procedure_of (suc (suc (suc zero))) = D
procedure_of _ = E

procedure_again : (p : Procedure) → procedure_of (flag_of p) ≡ p
procedure_again A = refl
procedure_again B = refl
procedure_again C = refl
procedure_again D = refl
procedure_again E = refl

procedures : Decides same_procedure (λ (p : Procedure). p)
procedures x y = (λ h. sym (procedure_again x) ∙ ap procedure_of (eqb-true (flag_of x) (flag_of y) h) ∙ procedure_again y, λ e. eq-eqb (flag_of x) (flag_of y) (ap flag_of e))

flags : (x y : Bool) → (same_flag x y ≡ true → x ≡ y) × (x ≡ y → same_flag x y ≡ true)
flags true true = (λ h. refl, λ e. refl)
flags true false = (λ h. sym h, λ e. sym e)
flags false true = (λ h. h, λ e. e)
flags false false = (λ h. refl, λ e. refl)

-- ---- what may be absent

pub options : {X Y : Type 0} (test : X → X → Bool) (view : X → Y) → Decides test view → Decides (same_option test) (option_map view)
options test view d None None = (λ h. refl, λ e. refl)
options test view d None (Some y) = (λ h. cc, λ e. cc)
options test view d (Some x) None = (λ h. cc, λ e. cc)
options test view d (Some x) (Some y) = (λ h. ap Some ((d x y).0 h), λ e. (d x y).1 (cc))

mapped : {X : Type 0} (o : Option X) → option_map (λ (x : X). x) o ≡ o
mapped None = refl
mapped (Some x) = refl

plain_options : {X : Type 0} (test : X → X → Bool) → Decides test (λ (x : X). x) → Decides (same_option test) (λ (o : Option X). o)
plain_options test d x y =
    let both = options test (λ z. z) d x y in
    (λ h. sym (mapped x) ∙ both.0 h ∙ mapped y, λ e. both.1 (mapped x ∙ e ∙ sym (mapped y)))

-- ---- records

pub all_terms : Decides same_terms terms
all_terms r s = (
  λ h.
      let a = and_parts _ (same_option same_procedure r.procedure s.procedure) h in
      let b = and_parts _ (same_option same_name r.system s.system) a.0 in
      let c = and_parts _ (same_name r.owner s.owner) b.0 in
      let d = and_parts (same_name r.name s.name) (same_kind r.kind s.kind) c.0 in
      let name = (names r.name s.name).0 d.0 in
      let kind = (kinds r.kind s.kind).0 d.1 in
      let owner = (names r.owner s.owner).0 c.1 in
      let system = (plain_options same_name names r.system s.system).0 b.1 in
      let procedure = (plain_options same_procedure procedures r.procedure s.procedure).0 a.1 in
      (λ i. record { name = name i; kind = kind i; owner = owner i; system = system i; procedure = procedure i; opening = 0 }),
  λ e.
      and_from _ _ (and_from _ _ (and_from _ _ (and_from _ _
      ((names r.name s.name).1 (ap (λ (x : AccountRecord). x.name) e))
      ((kinds r.kind s.kind).1 (ap (λ (x : AccountRecord). x.kind) e)))
      ((names r.owner s.owner).1 (ap (λ (x : AccountRecord). x.owner) e)))
      ((plain_options same_name names r.system s.system).1 (ap (λ (x : AccountRecord). x.system) e)))
      ((plain_options same_procedure procedures r.procedure s.procedure).1 (ap (λ (x : AccountRecord). x.procedure) e)),
)

pub systems : Decides same_system (λ (r : SystemRecord). r)
systems r s = (
  λ h.
      let a = and_parts (same_name r.name s.name) (pointwise same_flag r.procedures s.procedures) h in
      let name = (names r.name s.name).0 a.0 in
      let listed = (pointwise_decides flags r.procedures s.procedures).0 a.1 in
      (λ i. record { name = name i; procedures = listed i }),
  λ e. and_from _ _ ((names r.name s.name).1 (ap (λ (x : SystemRecord). x.name) e)) ((pointwise_decides flags r.procedures s.procedures).1 (ap (λ (x : SystemRecord). x.procedures) e)),
)

-- ---- lists

got : {X Y : Type 0} (view : X → Y) (xs : List X) (i : ℕ) → slice_get (map view xs) i ≡ option_map view (slice_get xs i)
got view [] i = refl
got view (x ∷ xs) zero = refl
got view (x ∷ xs) (suc i) = got view xs i

-- lists that show the same at each place are the same
pub lists : {X Y : Type 0} (view : X → Y) (xs ys : List X) → ((i : ℕ) → option_map view (slice_get xs i) ≡ option_map view (slice_get ys i)) → map view xs ≡ map view ys
lists view [] [] h = refl
lists view [] (y ∷ ys) h = let e = h 0 in absurd (cc)
lists view (x ∷ xs) [] h = let e = h 0 in absurd (cc)
lists view (x ∷ xs) (y ∷ ys) h =
    let e : Some (view x) ≡ Some (view y) = h 0 in
    let here : view x ≡ view y = cc in
    λ i. here i ∷ lists view xs ys (λ k. h (suc k)) i

pub places : {X Y : Type 0} (view : X → Y) (xs ys : List X) → map view xs ≡ map view ys → (i : ℕ) → option_map view (slice_get xs i) ≡ option_map view (slice_get ys i)
places view xs ys e i = sym (got view xs i) ∙ ap (λ zs. slice_get zs i) e ∙ got view ys i

pub map_id : {X : Type 0} (xs : List X) → map (λ (x : X). x) xs ≡ xs
map_id [] = refl
map_id (x ∷ xs) = ap (λ ys. x ∷ ys) (map_id xs)
