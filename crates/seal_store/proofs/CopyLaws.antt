-- The writes of a copy, one cell after the other.
use Rattle.std.proofs.Common.{◌≡◌, ℕ, inl, zero, suc, ◌+◌, ◌<◌, List, [], ◌∷◌, ◌++◌, length, take, drop, get_or, refl, sym, ap, subst, ◌∙◌, arith}
use Rattle.seal_parts.specs.declared.PartClass.{PartClass}
use Rattle.seal_parts.specs.declared.UnitKind.TheVariants.{Line}
use Rattle.seal_parts.specs.declared.UnitContent.TheVariants.{Holds}
use Rattle.seal_parts.specs.declared.LineBody.TheVariants.{Copies}
use Rattle.seal_parts.specs.Parts.{PartFlash, ProgramsUnit, CutsProgramming}
use Rattle.seal_parts.specs.Designs.{PartWrite, erases_bank, programs_unit, DoesPartWrites, CutsPartWrites}
use Rattle.seal_laws.specs.Writes.{cell_writes, copy_writes}
use Rattle.seal_store.proofs.WriteLaws.{does_then, cuts_then}

cells_split : (bank g i : ℕ) (xs : List (List ℕ)) (cell : List ℕ) (ys : List (List ℕ))
    → cell_writes bank g i (xs ++ cell ∷ ys) ≡ cell_writes bank g i xs ++ cell_writes bank g (i + length xs) (cell ∷ ys)
cells_split bank g i [] cell ys = ap (λ (n : ℕ). cell_writes bank g n (cell ∷ ys)) (let e : i ≡ i + 0 = omega arith in e)
cells_split bank g i (x ∷ xs) cell ys = ap (λ (ws : List PartWrite). programs_unit bank i Line (Holds (record { generation = g; body = Copies i x })) ∷ ws)
    (cells_split bank g (suc i) xs cell ys ∙ ap (λ (n : ℕ). cell_writes bank g (suc i) xs ++ cell_writes bank g n (cell ∷ ys)) (let e : suc i + length xs ≡ i + suc (length xs) = omega arith in e))

pub taken : (xs : List (List ℕ)) (i : ℕ) → i < length xs → (take (suc i) xs ≡ take i xs ++ get_or xs i [] ∷ []) × ((xs ≡ take i xs ++ get_or xs i [] ∷ drop (suc i) xs) × (length (take i xs) ≡ i))
taken [] i below = absurd (omega (arith, below))
taken (x ∷ xs) zero below = (refl, (refl, refl))
taken (x ∷ xs) (suc i) below = (let h = taken xs i (omega (arith, below)) in (ap (λ (zs : List (List ℕ)). x ∷ zs) h.0, (ap (λ (zs : List (List ℕ)). x ∷ zs) h.1.0, ap suc h.1.1)))

module _ (class : PartClass) (bank g : ℕ) (cells : List (List ℕ)) (i : ℕ) (below : i < length cells) (f now h : PartFlash)
    (done : DoesPartWrites class (copy_writes bank g (take i cells)) f now) where
  -- the writes of the cells before this one, and those from this one on
  split : (rest : List (List ℕ)) → copy_writes bank g (take i cells ++ get_or cells i [] ∷ rest) ≡ copy_writes bank g (take i cells) ++ cell_writes bank g i (get_or cells i [] ∷ rest)
  split rest = ap (λ (ws : List PartWrite). erases_bank bank ∷ ws)
      (cells_split bank g 0 (take i cells) (get_or cells i []) rest
      ∙ ap (λ (n : ℕ). cell_writes bank g 0 (take i cells) ++ cell_writes bank g n (get_or cells i [] ∷ rest)) (let e = (taken cells i below).1.1 in let z : 0 + length (take i cells) ≡ i = omega (arith, e) in z))

  pub copy_more : (next : ℕ) → next ≡ suc i → ProgramsUnit class bank i Line (Holds (record { generation = g; body = Copies i (get_or cells i []) })) now h → DoesPartWrites class (copy_writes bank g (take next cells)) f h
  copy_more next is p = subst (λ (n : ℕ). DoesPartWrites class (copy_writes bank g (take n cells)) f h) (sym is)
      (subst (λ (zs : List (List ℕ)). DoesPartWrites class (copy_writes bank g zs) f h) (sym (taken cells i below).0)
      (subst (λ (ws : List PartWrite). DoesPartWrites class ws f h) (sym (split []))
      (does_then class (copy_writes bank g (take i cells)) (cell_writes bank g i (get_or cells i [] ∷ [])) f now h done (h, (p, refl)))))

  pub copy_cuts : CutsProgramming class bank i Line (Holds (record { generation = g; body = Copies i (get_or cells i []) })) now h → CutsPartWrites class (copy_writes bank g cells) f h
  copy_cuts c = subst (λ (zs : List (List ℕ)). CutsPartWrites class (copy_writes bank g zs) f h) (sym (taken cells i below).1.0)
      (subst (λ (ws : List PartWrite). CutsPartWrites class ws f h) (sym (split (drop (suc i) cells)))
      (cuts_then class (copy_writes bank g (take i cells)) (cell_writes bank g i (get_or cells i [] ∷ drop (suc i) cells)) f now h done (inl c)))
