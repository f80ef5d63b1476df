-- Laws of copies and of what lines make of cells.
use Rattle.std.proofs.Common.{◌≡◌, ℕ, suc, ◌+◌, ◌<◌, ◌≤◌, Option, Some, List, [], ◌∷◌, ◌++◌, length, set, get_or, refl, ap, subst, ◌∙◌, arith}
use Rattle.std.proofs.Math.ListN.{length-set}
use Rattle.flash_places.specs.declared.FlashLine.{FlashLine}
use Rattle.flash_places.specs.declared.FlashLine.TheVariants.{Head, Entry}
use Rattle.flash_places.specs.Places.{FlashPlace, whole_place}
use Rattle.flash_laws.specs.Logs.{CellList, copy_lines, after_lines, Spells}
use Rattle.flash_laws.proofs.Reading.{Keeps}

pub length-copy : (i : ℕ) (cells : CellList) → length (copy_lines i cells) ≡ length cells
length-copy i [] = refl
length-copy i (c ∷ cs) = omega (arith, length-copy (suc i) cs)

pub length-after : (lines : List FlashLine) (cells : CellList) → length (after_lines lines cells) ≡ length cells
length-after [] cells = refl
length-after (Entry i p ∷ lines) cells = length-after lines (set cells i p) ∙ length-set cells i p
length-after (Head g ∷ lines) cells = length-after lines cells

pub after-append : (xs ys : List FlashLine) (cells : CellList) → after_lines (xs ++ ys) cells ≡ after_lines ys (after_lines xs cells)
after-append [] ys cells = refl
after-append (Entry i p ∷ xs) ys cells = after-append xs ys (set cells i p)
after-append (Head g ∷ xs) ys cells = after-append xs ys cells

-- a copy of so many cells, and what comes after it, are read in one way
pub record SameParts (a b : CellList) (xs ys : List FlashLine) : Type 0 where
  pub cells : a ≡ b
  pub lines : xs ≡ ys

pub copy_once : (i : ℕ) (a b : CellList) (xs ys : List FlashLine) → length a ≡ length b
    → copy_lines i a ++ xs ≡ copy_lines i b ++ ys → SameParts a b xs ys
copy_once i [] [] xs ys sized e = record { cells = refl; lines = e }
copy_once i [] (c ∷ b) xs ys sized e = absurd (omega arith)
copy_once i (c ∷ a) [] xs ys sized e = absurd (omega arith)
copy_once i (c ∷ a) (d ∷ b) xs ys sized e =
    let h : c ≡ d = cc in
    let t : copy_lines (suc i) a ++ xs ≡ copy_lines (suc i) b ++ ys = cc in
    let r = copy_once (suc i) a b xs ys (omega arith) t in
    record { cells = ap (λ z. z ∷ a) h ∙ ap (λ zs. d ∷ zs) r.cells; lines = r.lines }

-- places that hold a copy
pub keeps_copy : (u : ℕ → FlashPlace) (k j : ℕ) (cells : CellList)
    → ((i : ℕ) → i < length cells → u (k + i) ≡ whole_place (Entry (j + i) (get_or cells i [])))
    → Keeps u k (copy_lines j cells)
keeps_copy u k j [] each = tt
keeps_copy u k j (c ∷ cs) each = (
  subst (λ z. u z ≡ whole_place (Entry j c)) (let e : k + 0 ≡ k = omega arith in e) (subst (λ z. u (k + 0) ≡ whole_place (Entry z c)) (let e : j + 0 ≡ j = omega arith in e) (each 0 (omega arith))),
  keeps_copy u (suc k) (suc j) cs (λ i below.
      subst (λ z. u z ≡ whole_place (Entry (suc j + i) (get_or cs i []))) (let e : k + suc i ≡ suc k + i = omega arith in e)
      (subst (λ z. u (k + suc i) ≡ whole_place (Entry z (get_or cs i []))) (let e : j + suc i ≡ suc j + i = omega arith in e) (each (suc i) (omega arith)))),
)

-- the same, at the places after a head
pub keeps_all : (u : ℕ → FlashPlace) (cells : CellList) → ((i : ℕ) → i < length cells → u (suc i) ≡ whole_place (Entry i (get_or cells i [])))
    → Keeps u 1 (copy_lines 0 cells)
keeps_all u cells each = keeps_copy u 1 0 cells (λ i below.
    subst (λ k. u k ≡ whole_place (Entry (0 + i) (get_or cells i []))) (let e : suc i ≡ 1 + i = omega arith in e)
    (subst (λ k. u (suc i) ≡ whole_place (Entry k (get_or cells i []))) (let e : i ≡ 0 + i = omega arith in e) (each i below)))

-- what is read at places that have, if anything, a copy's lines
pub spells_copy : (r : ℕ → Option FlashLine) (k j : ℕ) (cells : CellList) (xs : List FlashLine)
    → ((i : ℕ) (line : FlashLine) → r (k + i) ≡ Some line → (i < length cells) × (line ≡ Entry (j + i) (get_or cells i [])))
    → Spells r k xs → length cells ≤ length xs → xs ≡ copy_lines j cells
spells_copy r k j [] [] each said far = refl
spells_copy r k j [] (x ∷ xs) each said far =
    absurd (let h = (each 0 x (ap r (let e : k + 0 ≡ k = omega arith in e) ∙ said.0)).0 in omega arith)
spells_copy r k j (c ∷ cs) [] each said far = absurd (omega arith)
spells_copy r k j (c ∷ cs) (x ∷ xs) each said far =
    let h : x ≡ Entry j c = (each 0 x (ap r (let e : k + 0 ≡ k = omega arith in e) ∙ said.0)).1 ∙ ap (λ z. Entry z c) (let e : j + 0 ≡ j = omega arith in e) in
    let t = spells_copy r (suc k) (suc j) cs xs (λ i line is.
    let e = each (suc i) line (ap r (let e : k + suc i ≡ suc k + i = omega arith in e) ∙ is) in
    (omega (arith, e.0), e.1 ∙ ap (λ z. Entry z (get_or cs i [])) (let e : j + suc i ≡ suc j + i = omega arith in e))) said.1 (omega arith) in
    ap (λ z. z ∷ xs) h ∙ ap (λ zs. Entry j c ∷ zs) t

pub append_twice : (xs ys zs : List FlashLine) → (xs ++ ys) ++ zs ≡ xs ++ (ys ++ zs)
append_twice [] ys zs = refl
append_twice (x ∷ xs) ys zs = ap (λ t. x ∷ t) (append_twice xs ys zs)

pub append_none : (xs : List FlashLine) → xs ++ [] ≡ xs
append_none [] = refl
append_none (x ∷ xs) = ap (λ t. x ∷ t) (append_none xs)
