-- The model, tried on small disks: what a crash may leave of them, and what it may not.
use Rattle.std.proofs.Common.{◌≡◌, inl, inr, ℕ, List, [], ◌∷◌, ◌++◌, length, take, drop, refl, sym, ◌∙◌, ap, arith}
use Rattle.std.proofs.lemmas.List.{take-append-drop}
use Rattle.disk_model.specs.Memory.{Written, Synced, Past, MemoryDisk, bytes_after, IsImage, HadBeen, disk_since}

-- a proof that unfolds this name computes with all that it opens
unfoldable opened : ℕ
unfolding bytes_after IsImage HadBeen
opened = 0

-- three bytes; after the first call the second of them is overwritten, and after the second call it is synced
abbrev three : List ℕ
three = 1 ∷ 2 ∷ 3 ∷ []

abbrev one_write : List Past
one_write = record { moment = 1; event = Written 1 (9 ∷ []) } ∷ []

abbrev and_a_sync : List Past
and_a_sync = record { moment = 2; event = Synced } ∷ one_write

-- two bytes are appended to three
abbrev longer : List Past
longer = record { moment = 1; event = Written 3 (4 ∷ 5 ∷ []) } ∷ []

-- the second byte is overwritten, then the third
abbrev two_writes : List Past
two_writes = record { moment = 2; event = Written 2 (8 ∷ []) } ∷ one_write

-- ---- a read gives what was written

reads : bytes_after three and_a_sync ≡ 1 ∷ 9 ∷ 3 ∷ []
unfolding opened
reads = refl

reads_longer : bytes_after three longer ≡ 1 ∷ 2 ∷ 3 ∷ 4 ∷ 5 ∷ []
unfolding opened
reads_longer = refl

-- ---- before the sync a crash may leave any byte there

any_byte : (x : ℕ) → IsImage three one_write (1 ∷ x ∷ 3 ∷ [])
unfolding opened
any_byte x = inr (three, refl, record { before = refl; behind = λ _. refl; no_shorter = omega arith })

-- and no other byte elsewhere, nor fewer or more bytes

nothing_else : (c : List ℕ) → IsImage three one_write c → (x : ℕ) × (c ≡ 1 ∷ x ∷ 3 ∷ [])
unfolding opened
nothing_else c (inl is) = (9, is)
nothing_else [] (inr (d, refl_d, torn)) = absurd (omega (arith, ap length refl_d, torn.no_shorter))
nothing_else (a ∷ []) (inr (d, is, torn)) = absurd (omega (arith, ap length is, torn.no_shorter))
nothing_else (a ∷ x ∷ rest) (inr (d, is, torn)) =
    let front : a ∷ [] ≡ 1 ∷ [] = torn.before ∙ ap (take 1) is in
    let back : rest ≡ 3 ∷ [] = torn.behind (omega (arith, ap length is)) ∙ ap (drop 2) is in
    (x, λ i. first (front i) ∷ x ∷ back i)
  where
    first : List ℕ → ℕ
    first [] = 0
    first (b ∷ bs) = b

-- ---- after it nothing but what a read gives

only_what_is_read : (c : List ℕ) → IsImage three and_a_sync c → c ≡ 1 ∷ 9 ∷ 3 ∷ []
unfolding opened
only_what_is_read c is = is

-- ---- past the old end: nothing, a part, any bytes, or more than were written

none_of_it : IsImage three longer three
unfolding opened
none_of_it = inr (three, refl, record { before = refl; behind = λ _. refl; no_shorter = omega arith })

a_part_of_it : (x : ℕ) → IsImage three longer (1 ∷ 2 ∷ 3 ∷ x ∷ [])
unfolding opened
a_part_of_it x = inr (three, refl, record { before = refl; behind = λ _. refl; no_shorter = omega arith })

all_of_it : (x y : ℕ) → IsImage three longer (1 ∷ 2 ∷ 3 ∷ x ∷ y ∷ [])
unfolding opened
all_of_it x y = inr (three, refl, record { before = refl; behind = λ _. refl; no_shorter = omega arith })

more_than_it : (more : List ℕ) → IsImage three longer (1 ∷ 2 ∷ 3 ∷ more)
unfolding opened
more_than_it more = inr (three, refl, record { before = refl; behind = λ le. absurd (omega (arith, le)); no_shorter = omega arith })

-- and what was there stays

no_less : (c : List ℕ) → IsImage three longer c → (more : List ℕ) × (c ≡ 1 ∷ 2 ∷ 3 ∷ more)
unfolding opened
no_less c (inl is) = (4 ∷ 5 ∷ [], is)
no_less c (inr (d, is, torn)) = (drop 3 c, sym (take-append-drop 3 c) ∙ ap (λ (front : List ℕ). front ++ drop 3 c) (torn.before ∙ ap (take 3) is))

-- ---- two writes without a sync may both be torn, or the second alone be there

both_torn : (x y : ℕ) → IsImage three two_writes (1 ∷ x ∷ y ∷ [])
unfolding opened
both_torn x y = inr (1 ∷ x ∷ 3 ∷ [], inr (three, refl, record { before = refl; behind = λ _. refl; no_shorter = omega arith }), record { before = refl; behind = λ _. refl; no_shorter = omega arith })

-- ---- the moments

abbrev disk : MemoryDisk
disk = record { first = three; past = and_a_sync; room = 0; records = 0; passes = 9; clock = 2; faults = 0 }

-- a crash since the write may have left a torn byte
torn_since : (x : ℕ) → disk_since disk 1 (1 ∷ x ∷ 3 ∷ [])
unfolding opened
torn_since x = inr (inl (omega arith, omega arith, inr (three, refl, record { before = refl; behind = λ _. refl; no_shorter = omega arith })))

-- and a crash since the start the old bytes
old_since : disk_since disk 0 three
unfolding opened
old_since = inr (inl (omega arith, omega arith, inr (three, refl, record { before = refl; behind = λ _. refl; no_shorter = omega arith })))

-- a crash since the sync has left what a read gives
not_since : (c : List ℕ) → disk_since disk 2 c → c ≡ 1 ∷ 9 ∷ 3 ∷ []
unfolding opened
not_since c (inl is) = is
not_since c (inr (inl had)) = absurd (omega (arith, had.0))
not_since c (inr (inr (inl had))) = absurd (omega (arith, had.0))
not_since c (inr (inr (inr none))) = absurd none
