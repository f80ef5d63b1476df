-- The matrices of MixColumns and of its inverse: each undoes the other.
use Rattle.std.proofs.Common.{◌≡◌, ℕ, ◌<◌, Bool, true, List, [], ◌∷◌, ◌++◌, length, slice_index, refl, sym, ap, ◌∙◌}
use Rattle.std.specs.Prelude.{◌==◌, ◌&&◌}
use Rattle.std.specs.Int.Bits.{bit_xor, xor_comm, xor_zero_r}
use Rattle.std.proofs.lemmas.Bool.{agree_below, agree_below_at, and_parts, eqb-true}
use Rattle.she_aes.specs.Field.{product, cancelled, remainder, mul}
use Rattle.she_aes.specs.FieldFacts.{xor_swap, mul-xor}
use Rattle.she_aes.specs.Cipher.{circulant, on_columns, mix_columns, inv_mix_columns}
use Rattle.she_aes.specs.ReadBytes.{ReadsBytes}
use Rattle.she_aes.proofs.CipherFacts.{block_of_self}

-- ---- sums of four and sixteen

-- the sum of four
abbrev pub four : ℕ → ℕ → ℕ → ℕ → ℕ
four a b c d = bit_xor (bit_xor a b) (bit_xor c d)

two_fours : (a b c d e f g h : ℕ) → bit_xor (four a b c d) (four e f g h) ≡ four (bit_xor a e) (bit_xor b f) (bit_xor c g) (bit_xor d h)
two_fours a b c d e f g h =
    xor_swap (bit_xor a b) (bit_xor c d) (bit_xor e f) (bit_xor g h) ∙ ap (λ t. bit_xor t (bit_xor (bit_xor c d) (bit_xor g h))) (xor_swap a b e f) ∙ ap (λ t. bit_xor (bit_xor (bit_xor a e) (bit_xor b f)) t) (xor_swap c d g h)

-- sixteen by rows, and by columns
sixteen : (a b c d e f g h i j k l m n o p : ℕ) → four (four a b c d) (four e f g h) (four i j k l) (four m n o p) ≡ four (four a e i m) (four b f j n) (four c g k o) (four d h l p)
sixteen a b c d e f g h i j k l m n o p =
    ap (λ t. bit_xor t (bit_xor (four i j k l) (four m n o p))) (two_fours a b c d e f g h) ∙ ap (λ t. bit_xor (four (bit_xor a e) (bit_xor b f) (bit_xor c g) (bit_xor d h)) t) (two_fours i j k l m n o p) ∙ two_fours (bit_xor a e) (bit_xor b f) (bit_xor c g) (bit_xor d h) (bit_xor i m) (bit_xor j n) (bit_xor k o) (bit_xor l p)

-- the last one to the beginning
pub turned : (a b c d : ℕ) → four a b c d ≡ four d a b c
turned a b c d =
    xor_comm (bit_xor a b) (bit_xor c d) ∙ ap (λ t. bit_xor t (bit_xor a b)) (xor_comm c d) ∙ xor_swap d c a b ∙ ap (λ t. bit_xor (bit_xor d a) t) (xor_comm c b)

mul-four : (p a b c d : ℕ) → mul p (four a b c d) ≡ four (mul p a) (mul p b) (mul p c) (mul p d)
mul-four p a b c d =
    mul-xor p (bit_xor a b) (bit_xor c d) ∙ ap (λ t. bit_xor t (mul p (bit_xor c d))) (mul-xor p a b) ∙ ap (λ t. bit_xor (bit_xor (mul p a) (mul p b)) t) (mul-xor p c d)

four_same : {a b c d e f g h : ℕ} → a ≡ e → b ≡ f → c ≡ g → d ≡ h → four a b c d ≡ four e f g h
four_same p q r s = cc

four_alone : (a : ℕ) → four a 0 0 0 ≡ a
four_alone a = xor_zero_r (bit_xor a 0) ∙ xor_zero_r a

-- ---- two matrices

list_same : {a b c d e f g h : ℕ} → a ≡ e → b ≡ f → c ≡ g → d ≡ h → a ∷ b ∷ c ∷ d ∷ [] ≡ e ∷ f ∷ g ∷ h ∷ []
list_same p q r s = cc

joined_same : {a b c d e f g h : List ℕ} → a ≡ e → b ≡ f → c ≡ g → d ≡ h → a ++ b ++ c ++ d ≡ e ++ f ++ g ++ h
joined_same p q r s = cc

-- what a byte adds in one place, after the matrices with these entries
abbrev part : ℕ → ℕ → ℕ → ℕ → ℕ → ℕ → ℕ → ℕ → ℕ → ℕ
part p q r s a b c d x = four (mul p (mul a x)) (mul q (mul b x)) (mul r (mul c x)) (mul s (mul d x))

-- the matrix whose entries are e f g h
abbrev composes : ℕ → ℕ → ℕ → ℕ → ℕ → ℕ → ℕ → ℕ → ℕ → ℕ → ℕ → ℕ → ℕ → Bool
composes p q r s a b c d e f g h x =
    (part p q r s a d c b x == mul e x) && (part p q r s b a d c x == mul f x) && (part p q r s c b a d x == mul g x) && (part p q r s d c b a x == mul h x)

abbrev all_compose : ℕ → ℕ → ℕ → ℕ → ℕ → ℕ → ℕ → ℕ → ℕ → ℕ → ℕ → ℕ → Bool
all_compose p q r s a b c d e f g h = agree_below (composes p q r s a b c d e f g h) (λ _. true) 256

-- the product of the two matrices that begin with a and with p is the one that begins with e
module _ (p q r s a b c d e f g h : ℕ) (ok : all_compose p q r s a b c d e f g h ≡ true) where
  parts : (x : ℕ) → x < 256 → (part p q r s a d c b x ≡ mul e x) × (part p q r s b a d c x ≡ mul f x) × (part p q r s c b a d x ≡ mul g x) × (part p q r s d c b a x ≡ mul h x)
  parts x lt =
      let all = agree_below_at (composes p q r s a b c d e f g h) (λ _. true) 256 x ok lt in
      let e0 = part p q r s a d c b x == mul e x in
      let e1 = part p q r s b a d c x == mul f x in
      let e2 = part p q r s c b a d x == mul g x in
      let e3 = part p q r s d c b a x == mul h x in
      let h3 = and_parts (e0 && e1 && e2) e3 all in
      let h2 = and_parts (e0 && e1) e2 h3.0 in
      let h1 = and_parts e0 e1 h2.0 in (
        eqb-true (part p q r s a d c b x) (mul e x) h1.0,
        eqb-true (part p q r s b a d c x) (mul f x) h1.1,
        eqb-true (part p q r s c b a d x) (mul g x) h2.1,
        eqb-true (part p q r s d c b a x) (mul h x) h3.1,
      )

  -- a byte of a column after the first matrix
  once : ℕ → ℕ → ℕ → ℕ → ℕ
  once w x y z = four (mul a w) (mul b x) (mul c y) (mul d z)

  -- the first byte after both
  twice : (w x y z : ℕ) → w < 256 → x < 256 → y < 256 → z < 256 → four (mul p (once w x y z)) (mul q (once x y z w)) (mul r (once y z w x)) (mul s (once z w x y)) ≡ four (mul e w) (mul f x) (mul g y) (mul h z)
  unfolding once
  twice w x y z lw lx ly lz =
      let f0 = mul-four p (mul a w) (mul b x) (mul c y) (mul d z) in
      let f1 = ap (λ t. mul q t) (turned (mul a x) (mul b y) (mul c z) (mul d w)) ∙ mul-four q (mul d w) (mul a x) (mul b y) (mul c z) in
      let f2 = ap (λ t. mul r t) (turned (mul a y) (mul b z) (mul c w) (mul d x) ∙ turned (mul d x) (mul a y) (mul b z) (mul c w)) ∙ mul-four r (mul c w) (mul d x) (mul a y) (mul b z) in
      let f3 = ap (λ t. mul s t) (sym (turned (mul b w) (mul c x) (mul d y) (mul a z))) ∙ mul-four s (mul b w) (mul c x) (mul d y) (mul a z) in
      let rows = sixteen (mul p (mul a w)) (mul p (mul b x)) (mul p (mul c y)) (mul p (mul d z)) (mul q (mul d w)) (mul q (mul a x)) (mul q (mul b y)) (mul q (mul c z)) (mul r (mul c w)) (mul r (mul d x)) (mul r (mul a y)) (mul r (mul b z)) (mul s (mul b w)) (mul s (mul c x)) (mul s (mul d y)) (mul s (mul a z)) in
      four_same f0 f1 f2 f3 ∙ rows ∙ four_same (parts w lw).0 (parts x lx).1 (parts y ly).2 (parts z lz).3

  column_composed : (w x y z : ℕ) → w < 256 → x < 256 → y < 256 → z < 256 → circulant p q r s (circulant a b c d (w ∷ x ∷ y ∷ z ∷ [])) ≡ circulant e f g h (w ∷ x ∷ y ∷ z ∷ [])
  unfolding circulant once
  column_composed w x y z lw lx ly lz =
      list_same (twice w x y z lw lx ly lz) (twice x y z w lx ly lz lw) (twice y z w x ly lz lw lx) (twice z w x y lz lw lx ly)

  columns_composed : (t : List ℕ) → ReadsBytes t → on_columns (circulant p q r s) (on_columns (circulant a b c d) t) ≡ on_columns (circulant e f g h) t
  unfolding circulant
  columns_composed t bytes =
      let at = λ (i : ℕ). slice_index t i in
      joined_same (column_composed (at 0) (at 1) (at 2) (at 3) (bytes 0) (bytes 1) (bytes 2) (bytes 3)) (column_composed (at 4) (at 5) (at 6) (at 7) (bytes 4) (bytes 5) (bytes 6) (bytes 7)) (column_composed (at 8) (at 9) (at 10) (at 11) (bytes 8) (bytes 9) (bytes 10) (bytes 11)) (column_composed (at 12) (at 13) (at 14) (at 15) (bytes 12) (bytes 13) (bytes 14) (bytes 15))

-- ---- the matrix of 1, 0, 0 and 0

same_ok : agree_below (λ x. (mul 1 x == x) && (mul 0 x == 0)) (λ _. true) 256 ≡ true
unfolding product cancelled remainder mul
same_ok = refl

same_byte : (w x y z : ℕ) → w < 256 → x < 256 → y < 256 → z < 256 → four (mul 1 w) (mul 0 x) (mul 0 y) (mul 0 z) ≡ w
same_byte w x y z lw lx ly lz =
    let at = λ (b : ℕ) (lt : b < 256). and_parts (mul 1 b == b) (mul 0 b == 0) (agree_below_at (λ x. (mul 1 x == x) && (mul 0 x == 0)) (λ _. true) 256 b same_ok lt) in
    four_same (eqb-true (mul 1 w) w (at w lw).0) (eqb-true (mul 0 x) 0 (at x lx).1) (eqb-true (mul 0 y) 0 (at y ly).1) (eqb-true (mul 0 z) 0 (at z lz).1) ∙ four_alone w

same_column : (w x y z : ℕ) → w < 256 → x < 256 → y < 256 → z < 256 → circulant 1 0 0 0 (w ∷ x ∷ y ∷ z ∷ []) ≡ w ∷ x ∷ y ∷ z ∷ []
unfolding circulant
same_column w x y z lw lx ly lz =
    list_same (same_byte w x y z lw lx ly lz) (same_byte x y z w lx ly lz lw) (same_byte y z w x ly lz lw lx) (same_byte z w x y lz lw lx ly)

same_columns : (t : List ℕ) → length t ≡ 16 → ReadsBytes t → on_columns (circulant 1 0 0 0) t ≡ t
unfolding circulant
same_columns t long bytes =
    let at = λ (i : ℕ). slice_index t i in
    joined_same (same_column (at 0) (at 1) (at 2) (at 3) (bytes 0) (bytes 1) (bytes 2) (bytes 3)) (same_column (at 4) (at 5) (at 6) (at 7) (bytes 4) (bytes 5) (bytes 6) (bytes 7)) (same_column (at 8) (at 9) (at 10) (at 11) (bytes 8) (bytes 9) (bytes 10) (bytes 11)) (same_column (at 12) (at 13) (at 14) (at 15) (bytes 12) (bytes 13) (bytes 14) (bytes 15)) ∙ block_of_self t long

there : all_compose 14 11 13 9 2 3 1 1 1 0 0 0 ≡ true
unfolding product cancelled remainder mul
there = refl

back : all_compose 2 3 1 1 14 11 13 9 1 0 0 0 ≡ true
unfolding product cancelled remainder mul
back = refl

-- the matrix of the inverse, as that of MixColumns times a plainer one
factors : all_compose 2 3 1 1 5 0 4 0 14 11 13 9 ≡ true
unfolding product cancelled remainder mul
factors = refl

pub inv_mix_columns-mix_columns : (s : List ℕ) → length s ≡ 16 → ReadsBytes s → inv_mix_columns (mix_columns s) ≡ s
unfolding inv_mix_columns mix_columns
inv_mix_columns-mix_columns s long bytes = columns_composed 14 11 13 9 2 3 1 1 1 0 0 0 there s bytes ∙ same_columns s long bytes

pub mix_columns-inv_mix_columns : (s : List ℕ) → length s ≡ 16 → ReadsBytes s → mix_columns (inv_mix_columns s) ≡ s
unfolding inv_mix_columns mix_columns
mix_columns-inv_mix_columns s long bytes = columns_composed 2 3 1 1 14 11 13 9 1 0 0 0 back s bytes ∙ same_columns s long bytes

pub mix_columns-first : (s : List ℕ) → ReadsBytes s → mix_columns (on_columns (circulant 5 0 4 0) s) ≡ inv_mix_columns s
unfolding inv_mix_columns mix_columns
mix_columns-first s bytes = columns_composed 2 3 1 1 5 0 4 0 14 11 13 9 factors s bytes
