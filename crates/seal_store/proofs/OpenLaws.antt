-- The writes of the deeds that open a bank, one deed after the other.
use Rattle.std.proofs.Common.{◌≡◌, ℕ, zero, suc, ◌+◌, Option, Some, List, ◌++◌, refl, sym, ap, subst, ◌∙◌, arith}
use Rattle.seal_parts.specs.declared.PartClass.TheVariants.{Blanks}
use Rattle.seal_parts.specs.declared.DeedBody.TheVariants.{Opens}
use Rattle.seal_parts.specs.Parts.{PartFlash}
use Rattle.seal_parts.specs.Designs.{PartWrite, DoesPartWrites, CutsPartWrites, MayDoPartWrites}
use Rattle.seal_laws.specs.Writes.{deed_writes, seal_line, deed_of, opening_writes, last_after}
use Rattle.seal_store.proofs.WriteLaws.{does_then, cuts_then, cuts_left, may_left, may_right}

last_step : (next i : ℕ) → last_after (suc next) (Some next) i ≡ Some (next + i)
last_step next zero = ap (λ (n : ℕ). Some n) (let e : next ≡ next + 0 = omega arith in e)
last_step next (suc i) = ap (λ (n : ℕ). Some n) (let e : suc next + i ≡ next + suc i = omega arith in e)

pub last_more : (next i : ℕ) (last : Option ℕ) → last_after next last (suc i) ≡ Some (next + i)
last_more next i last = refl

-- one deed, and those behind it
abbrev pub opening_from : ℕ → ℕ → ℕ → Option ℕ → ℕ → List PartWrite
opening_from b g at last m = deed_writes Blanks b at (seal_line g (deed_of last Opens)) ++ opening_writes Blanks b g (suc at) (Some at) m

same_from : (b g at next m : ℕ) (last lst : Option ℕ) → at ≡ next → lst ≡ last → opening_from b g next last m ≡ opening_from b g at lst m
same_from b g at next m last lst e d = ap (λ (n : ℕ). opening_from b g n last m) (sym e) ∙ ap (λ (l : Option ℕ). opening_from b g at l m) (sym d)

pub openings_split : (b g i m next at n : ℕ) (last lst : Option ℕ) → n ≡ i + suc m → at ≡ next + i → lst ≡ last_after next last i
    → opening_writes Blanks b g next last n ≡ opening_writes Blanks b g next last i ++ opening_from b g at lst m
openings_split b g zero m next at n last lst is there before =
    ap (λ (k : ℕ). opening_writes Blanks b g next last k) (let e : n ≡ suc m = omega (arith, is) in e) ∙ same_from b g at next m last lst (omega (arith, there)) before
openings_split b g (suc i) m next at zero last lst is there before = absurd (omega (arith, is))
openings_split b g (suc i) m next at (suc n) last lst is there before =
    ap (λ (ws : List PartWrite). deed_writes Blanks b next (seal_line g (deed_of last Opens)) ++ ws)
    (openings_split b g i m (suc next) at n (Some next) lst (omega (arith, is)) (omega (arith, there)) (before ∙ sym (last_step next i)))

module _ (b g i next at : ℕ) (last lst : Option ℕ) (f now h : PartFlash) (there : at ≡ next + i) (before : lst ≡ last_after next last i) where
  -- what this deed and the rest may write
  pub opening_may : (m n : ℕ) → n ≡ suc m → MayDoPartWrites Blanks (opening_writes Blanks b g at lst n) now → MayDoPartWrites Blanks (deed_writes Blanks b at (seal_line g (deed_of lst Opens))) now
  opening_may m n is may = may_left Blanks (deed_writes Blanks b at (seal_line g (deed_of lst Opens))) (opening_writes Blanks b g (suc at) (Some at) m) now
      (subst (λ (k : ℕ). MayDoPartWrites Blanks (opening_writes Blanks b g at lst k) now) is may)

  pub opening_rest : (m n then : ℕ) → n ≡ suc m → then ≡ suc at → MayDoPartWrites Blanks (opening_writes Blanks b g at lst n) now → DoesPartWrites Blanks (deed_writes Blanks b at (seal_line g (deed_of lst Opens))) now h
      → MayDoPartWrites Blanks (opening_writes Blanks b g then (Some at) m) h
  opening_rest m n then is e may does = subst (λ (k : ℕ). MayDoPartWrites Blanks (opening_writes Blanks b g k (Some at) m) h) (sym e)
      (may_right Blanks (deed_writes Blanks b at (seal_line g (deed_of lst Opens))) (opening_writes Blanks b g (suc at) (Some at) m) now h
      (subst (λ (k : ℕ). MayDoPartWrites Blanks (opening_writes Blanks b g at lst k) now) is may) does)

  pub opening_done : (n : ℕ) → n ≡ suc i → DoesPartWrites Blanks (opening_writes Blanks b g next last i) f now → DoesPartWrites Blanks (deed_writes Blanks b at (seal_line g (deed_of lst Opens))) now h
      → DoesPartWrites Blanks (opening_writes Blanks b g next last n) f h
  opening_done n is done does = subst (λ (ws : List PartWrite). DoesPartWrites Blanks ws f h) (sym (openings_split b g i 0 next at n last lst (let e : n ≡ i + suc 0 = omega (arith, is) in e) there before))
      (does_then Blanks (opening_writes Blanks b g next last i) (deed_writes Blanks b at (seal_line g (deed_of lst Opens))) f now h done does)

  pub opening_cuts : (m n : ℕ) → n ≡ i + suc m → DoesPartWrites Blanks (opening_writes Blanks b g next last i) f now → CutsPartWrites Blanks (deed_writes Blanks b at (seal_line g (deed_of lst Opens))) now h
      → CutsPartWrites Blanks (opening_writes Blanks b g next last n) f h
  opening_cuts m n is done cut = subst (λ (ws : List PartWrite). CutsPartWrites Blanks ws f h) (sym (openings_split b g i m next at n last lst is there before))
      (cuts_then Blanks (opening_writes Blanks b g next last i) (opening_from b g at lst m) f now h done
      (cuts_left Blanks (deed_writes Blanks b at (seal_line g (deed_of lst Opens))) (opening_writes Blanks b g (suc at) (Some at) m) now h cut))
