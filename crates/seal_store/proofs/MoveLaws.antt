-- The writes of a move, and of the first store, part by part.
use Rattle.std.proofs.Common.{◌≡◌, ℕ, suc, ◌+◌, Option, Some, None, List, ◌++◌, sym, ap, subst, ◌∙◌}
use Rattle.seal_parts.specs.declared.PartClass.TheVariants.{Blanks}
use Rattle.seal_parts.specs.declared.SealLine.{SealLine}
use Rattle.seal_parts.specs.declared.DeedBody.TheVariants.{Moves, IsNew}
use Rattle.seal_parts.specs.Parts.{PartFlash}
use Rattle.seal_parts.specs.Designs.{PartWrite, DoesPartWrites, CutsPartWrites, MayDoPartWrites}
use Rattle.seal_laws.specs.declared.SealSizes.{SealSizes}
use Rattle.seal_laws.specs.declared.SealPoint.{SealPoint}
use Rattle.seal_laws.specs.Writes.{deed_writes, seal_line, deed_of, copy_writes, opening_writes, last_after, bank_after, move_deed, move_writes, first_writes}
use Rattle.seal_store.proofs.WriteLaws.{does_then, cuts_then, cuts_left, may_left, may_right}

abbrev opens : SealPoint → List PartWrite
opens p = opening_writes Blanks p.bank p.generation p.next p.last p.lacking

module _ (s : SealSizes) (p : SealPoint) (cells : List (List ℕ)) (to gen : ℕ) (last : Option ℕ) (line : SealLine) (to_is : to ≡ bank_after s.log.banks p.bank) (gen_is : gen ≡ suc p.generation)
    (last_is : last ≡ last_after p.next p.last p.lacking) (line_is : line ≡ seal_line p.generation (deed_of last (Moves to gen))) where
  line_moves : line ≡ seal_line p.generation (move_deed s p)
  line_moves = line_is
      ∙ (ap (λ (z : Option ℕ). seal_line p.generation (deed_of z (Moves to gen))) last_is
      ∙ (ap (λ (z : ℕ). seal_line p.generation (deed_of (last_after p.next p.last p.lacking) (Moves z gen))) to_is
      ∙ ap (λ (z : ℕ). seal_line p.generation (deed_of (last_after p.next p.last p.lacking) (Moves (bank_after s.log.banks p.bank) z))) gen_is))

  -- the copy and the deed of the move
  ends : copy_writes to gen cells ++ deed_writes Blanks p.bank (p.next + p.lacking) line
      ≡ copy_writes (bank_after s.log.banks p.bank) (suc p.generation) cells ++ deed_writes Blanks p.bank (p.next + p.lacking) (seal_line p.generation (move_deed s p))
  ends = ap (λ (z : ℕ). copy_writes z gen cells ++ deed_writes Blanks p.bank (p.next + p.lacking) line) to_is
      ∙ (ap (λ (z : ℕ). copy_writes (bank_after s.log.banks p.bank) z cells ++ deed_writes Blanks p.bank (p.next + p.lacking) line) gen_is
      ∙ ap (λ (z : SealLine). copy_writes (bank_after s.log.banks p.bank) (suc p.generation) cells ++ deed_writes Blanks p.bank (p.next + p.lacking) z) line_moves)

  parts : opens p ++ (copy_writes to gen cells ++ deed_writes Blanks p.bank (p.next + p.lacking) line) ≡ move_writes Blanks s p cells
  parts = ap (λ (ws : List PartWrite). opens p ++ ws) ends

  may_parts : (f : PartFlash) → MayDoPartWrites Blanks (move_writes Blanks s p cells) f → MayDoPartWrites Blanks (opens p ++ (copy_writes to gen cells ++ deed_writes Blanks p.bank (p.next + p.lacking) line)) f
  may_parts f m = subst (λ (ws : List PartWrite). MayDoPartWrites Blanks ws f) (sym parts) m

  pub move_opens : (f : PartFlash) → MayDoPartWrites Blanks (move_writes Blanks s p cells) f → MayDoPartWrites Blanks (opens p) f
  move_opens f m = may_left Blanks (opens p) (copy_writes to gen cells ++ deed_writes Blanks p.bank (p.next + p.lacking) line) f (may_parts f m)

  module _ (f a b h : PartFlash) (opened : DoesPartWrites Blanks (opens p) f a) where
    pub copy_cut : CutsPartWrites Blanks (copy_writes to gen cells) a h → CutsPartWrites Blanks (move_writes Blanks s p cells) f h
    copy_cut x = subst (λ (ws : List PartWrite). CutsPartWrites Blanks ws f h) parts
        (cuts_then Blanks (opens p) (copy_writes to gen cells ++ deed_writes Blanks p.bank (p.next + p.lacking) line) f a h opened
        (cuts_left Blanks (copy_writes to gen cells) (deed_writes Blanks p.bank (p.next + p.lacking) line) a h x))

    pub move_deed_may : MayDoPartWrites Blanks (move_writes Blanks s p cells) f → DoesPartWrites Blanks (copy_writes to gen cells) a b → MayDoPartWrites Blanks (deed_writes Blanks p.bank (p.next + p.lacking) line) b
    move_deed_may m copied = may_right Blanks (copy_writes to gen cells) (deed_writes Blanks p.bank (p.next + p.lacking) line) a b
        (may_right Blanks (opens p) (copy_writes to gen cells ++ deed_writes Blanks p.bank (p.next + p.lacking) line) f a (may_parts f m) opened) copied

    pub deed_cut : DoesPartWrites Blanks (copy_writes to gen cells) a b → CutsPartWrites Blanks (deed_writes Blanks p.bank (p.next + p.lacking) line) b h → CutsPartWrites Blanks (move_writes Blanks s p cells) f h
    deed_cut copied x = subst (λ (ws : List PartWrite). CutsPartWrites Blanks ws f h) parts
        (cuts_then Blanks (opens p) (copy_writes to gen cells ++ deed_writes Blanks p.bank (p.next + p.lacking) line) f a h opened
        (cuts_then Blanks (copy_writes to gen cells) (deed_writes Blanks p.bank (p.next + p.lacking) line) a b h copied x))

    pub move_does : DoesPartWrites Blanks (copy_writes to gen cells) a b → DoesPartWrites Blanks (deed_writes Blanks p.bank (p.next + p.lacking) line) b h → DoesPartWrites Blanks (move_writes Blanks s p cells) f h
    move_does copied x = subst (λ (ws : List PartWrite). DoesPartWrites Blanks ws f h) parts
        (does_then Blanks (opens p) (copy_writes to gen cells ++ deed_writes Blanks p.bank (p.next + p.lacking) line) f a h opened
        (does_then Blanks (copy_writes to gen cells) (deed_writes Blanks p.bank (p.next + p.lacking) line) a b h copied x))

  pub opens_cut : (f h : PartFlash) → CutsPartWrites Blanks (opens p) f h → CutsPartWrites Blanks (move_writes Blanks s p cells) f h
  opens_cut f h x = subst (λ (ws : List PartWrite). CutsPartWrites Blanks ws f h) parts
      (cuts_left Blanks (opens p) (copy_writes to gen cells ++ deed_writes Blanks p.bank (p.next + p.lacking) line) f h x)

-- ---- the first store

module _ (next n1 n2 : ℕ) (cells : List (List ℕ)) (l1 l2 l3 : SealLine) (n1_is : n1 ≡ suc next) (n2_is : n2 ≡ suc (suc next)) (l1_is : l1 ≡ seal_line 1 (deed_of None IsNew))
    (l2_is : l2 ≡ seal_line 1 (deed_of (Some next) IsNew)) (l3_is : l3 ≡ seal_line 1 (deed_of (Some n1) (Moves 1 2))) where
  abbrev third : List PartWrite
  third = copy_writes 1 2 cells ++ deed_writes Blanks 0 n2 l3

  abbrev second : List PartWrite
  second = deed_writes Blanks 0 n1 l2 ++ third

  last_is : l3 ≡ seal_line 1 (deed_of (Some (suc next)) (Moves 1 2))
  last_is = l3_is ∙ ap (λ (z : ℕ). seal_line 1 (deed_of (Some z) (Moves 1 2))) n1_is

  first_parts : deed_writes Blanks 0 next l1 ++ second ≡ first_writes Blanks next cells
  first_parts =
      ap (λ (z : SealLine). deed_writes Blanks 0 next z ++ second) l1_is
      ∙ (ap (λ (z : SealLine). deed_writes Blanks 0 next (seal_line 1 (deed_of None IsNew)) ++ (deed_writes Blanks 0 n1 z ++ third)) l2_is
      ∙ (ap (λ (z : ℕ). deed_writes Blanks 0 next (seal_line 1 (deed_of None IsNew)) ++ (deed_writes Blanks 0 z (seal_line 1 (deed_of (Some next) IsNew)) ++ third)) n1_is
      ∙ (ap (λ (z : SealLine). deed_writes Blanks 0 next (seal_line 1 (deed_of None IsNew)) ++ (deed_writes Blanks 0 (suc next) (seal_line 1 (deed_of (Some next) IsNew)) ++ (copy_writes 1 2 cells ++ deed_writes Blanks 0 n2 z))) last_is
      ∙ ap (λ (z : ℕ). deed_writes Blanks 0 next (seal_line 1 (deed_of None IsNew))
      ++ (deed_writes Blanks 0 (suc next) (seal_line 1 (deed_of (Some next) IsNew)) ++ (copy_writes 1 2 cells ++ deed_writes Blanks 0 z (seal_line 1 (deed_of (Some (suc next)) (Moves 1 2)))))) n2_is)))

  first_may : (f : PartFlash) → MayDoPartWrites Blanks (first_writes Blanks next cells) f → MayDoPartWrites Blanks (deed_writes Blanks 0 next l1 ++ second) f
  first_may f m = subst (λ (ws : List PartWrite). MayDoPartWrites Blanks ws f) (sym first_parts) m

  pub first_deed_may : (f : PartFlash) → MayDoPartWrites Blanks (first_writes Blanks next cells) f → MayDoPartWrites Blanks (deed_writes Blanks 0 next l1) f
  first_deed_may f m = may_left Blanks (deed_writes Blanks 0 next l1) second f (first_may f m)

  module _ (f a b c h : PartFlash) (m : MayDoPartWrites Blanks (first_writes Blanks next cells) f) (one : DoesPartWrites Blanks (deed_writes Blanks 0 next l1) f a) where
    after_one : MayDoPartWrites Blanks second a
    after_one = may_right Blanks (deed_writes Blanks 0 next l1) second f a (first_may f m) one

    pub second_deed_may : MayDoPartWrites Blanks (deed_writes Blanks 0 n1 l2) a
    second_deed_may = may_left Blanks (deed_writes Blanks 0 n1 l2) third a after_one

    pub third_deed_may : DoesPartWrites Blanks (deed_writes Blanks 0 n1 l2) a b → DoesPartWrites Blanks (copy_writes 1 2 cells) b c → MayDoPartWrites Blanks (deed_writes Blanks 0 n2 l3) c
    third_deed_may two copied = may_right Blanks (copy_writes 1 2 cells) (deed_writes Blanks 0 n2 l3) b c (may_right Blanks (deed_writes Blanks 0 n1 l2) third a b after_one two) copied

    pub first_does : DoesPartWrites Blanks (deed_writes Blanks 0 n1 l2) a b → DoesPartWrites Blanks (copy_writes 1 2 cells) b c → DoesPartWrites Blanks (deed_writes Blanks 0 n2 l3) c h
        → DoesPartWrites Blanks (first_writes Blanks next cells) f h
    first_does two copied last = subst (λ (ws : List PartWrite). DoesPartWrites Blanks ws f h) first_parts
        (does_then Blanks (deed_writes Blanks 0 next l1) second f a h one
        (does_then Blanks (deed_writes Blanks 0 n1 l2) third a b h two (does_then Blanks (copy_writes 1 2 cells) (deed_writes Blanks 0 n2 l3) b c h copied last)))
