-- How the last piece of a message, the blocks before it and their chained value change with more bytes
use Rattle.std.proofs.Common.{◌≡◌, ℕ, ◌+◌, ◌-◌, ◌*◌, ◌<◌, ◌≤◌, zero, suc, List, [], ◌∷◌, ◌++◌, length, take, drop, set, map, replicate, refl, sym, ap, subst, ◌∙◌, arith, length-take, length-drop}
use Rattle.std.specs.List.{range_with_len}
use Rattle.std.proofs.Math.Seq.{take-append_seam, drop-append-add}
use Rattle.std.proofs.lemmas.List.{take_all, take-append-le, drop-append-le, drop_at, drop-replicate, set_at, length-append, take-append-drop}
use Rattle.std.proofs.lemmas.List.FromFn.{map-range_with_len_more}
use borrow.Rule.Slice.PartMut.{put_mid}
use Rattle.std.proofs.lemmas.Slice.{take-put_mid, drop-put_mid}
use Rattle.std.proofs.lemmas.Grind.{fold-append}
use Rattle.she_aes.specs.Cipher.{enc, zero_block, xor_blocks}
use Rattle.she_cmac.specs.Cmac.{before_last, block_at, front_blocks, last_piece, chained}
use Rattle.she_cmac.specs.Took.{Holds, Took}
use Rattle.she_cmac.specs.declared.pieces.Mac.{Mac}

-- how the length of a message lies between its blocks
bounds : (m : List ℕ) → (16 * before_last m ≤ length m) × (length m ≤ 16 * before_last m + 16)
unfolding before_last
bounds m = (omega arith, omega arith)

length-last_piece : (m : List ℕ) → length (last_piece m) + 16 * before_last m ≡ length m
unfolding last_piece block_at
length-last_piece m =
    let b = bounds m in
    omega (arith, length-take 16 (drop (16 * before_last m) m), length-drop (16 * before_last m) m, b.0, b.1)

pub length-last_piece-le : (m : List ℕ) → length (last_piece m) ≤ 16
length-last_piece-le m = let b = bounds m in omega (arith, length-last_piece m, b.0, b.1)

last_piece_is : (m : List ℕ) → last_piece m ≡ drop (16 * before_last m) m
unfolding last_piece block_at
last_piece_is m =
    let b = bounds m in
    take_all 16 (drop (16 * before_last m) m) (omega (arith, length-drop (16 * before_last m) m, b.0, b.1))

-- bytes that the last piece has room for
before_last-more : (m xs : List ℕ) → length (last_piece m) + length xs ≤ 16 → before_last (m ++ xs) ≡ before_last m
unfolding before_last
before_last-more m xs room = omega (arith, length-last_piece m, length-append m xs)

last_piece-more : (m xs : List ℕ) → length (last_piece m) + length xs ≤ 16 → last_piece (m ++ xs) ≡ last_piece m ++ xs
last_piece-more m xs room =
    let b = bounds m in
    last_piece_is (m ++ xs) ∙ ap (λ n. drop (16 * n) (m ++ xs)) (before_last-more m xs room) ∙ drop-append-le (16 * before_last m) m xs b.0 ∙ ap (λ p. p ++ xs) (sym (last_piece_is m))

-- bytes after a complete block
before_last_full : (m xs : List ℕ) → length (last_piece m) ≡ 16 → 0 < length xs → length xs ≤ 16 → before_last (m ++ xs) ≡ before_last m + 1
unfolding before_last
before_last_full m xs full some most = omega (arith, length-last_piece m, length-append m xs)

last_piece_full : (m xs : List ℕ) → length (last_piece m) ≡ 16 → 0 < length xs → length xs ≤ 16 → last_piece (m ++ xs) ≡ xs
last_piece_full m xs full some most =
    last_piece_is (m ++ xs) ∙ ap (λ n. drop (16 * n) (m ++ xs)) (before_last_full m xs full some most) ∙ drop_at m xs (16 * (before_last m + 1)) (omega (arith, length-last_piece m))

-- a block that is whole stays as it is where the message goes on
block_at-append : (m ys : List ℕ) (i : ℕ) → 16 * i + 16 ≤ length m → block_at (m ++ ys) i ≡ block_at m i
unfolding block_at
block_at-append m ys i h =
    ap (take 16) (drop-append-le (16 * i) m ys (omega arith)) ∙ take-append-le 16 (drop (16 * i) m) ys (omega (arith, length-drop (16 * i) m))

blocks_from : (m ys : List ℕ) (a n : ℕ) → 16 * (a + n) ≤ length m → map (block_at (m ++ ys)) (range_with_len a n) ≡ map (block_at m) (range_with_len a n)
blocks_from m ys a zero h = refl
blocks_from m ys a (suc n) h =
    let head : block_at (m ++ ys) a ≡ block_at m a = block_at-append m ys a (omega arith) in
    let rest : map (block_at (m ++ ys)) (range_with_len (a + 1) n) ≡ map (block_at m) (range_with_len (a + 1) n) = blocks_from m ys (a + 1) n (omega arith) in
    cc

front_blocks-more : (m xs : List ℕ) → length (last_piece m) + length xs ≤ 16 → front_blocks (m ++ xs) ≡ front_blocks m
unfolding front_blocks
front_blocks-more m xs room =
    let b = bounds m in
    ap (λ n. map (block_at (m ++ xs)) (range_with_len 0 n)) (before_last-more m xs room) ∙ blocks_from m xs 0 (before_last m) (omega (arith, b.0))

front_blocks_full : (m xs : List ℕ) → length (last_piece m) ≡ 16 → 0 < length xs → length xs ≤ 16 → front_blocks (m ++ xs) ≡ front_blocks m ++ last_piece m ∷ []
unfolding front_blocks last_piece
front_blocks_full m xs full some most =
    ap (λ n. map (block_at (m ++ xs)) (range_with_len 0 n)) (before_last_full m xs full some most) ∙ blocks_from m xs 0 (before_last m + 1) (omega (arith, length-last_piece m)) ∙ map-range_with_len_more (block_at m) 0 (before_last m) (before_last m) (omega arith)

-- chaining one more block
pub chained-push : (key : List ℕ) (xs : List (List ℕ)) (x : List ℕ) → chained key (xs ++ x ∷ []) ≡ enc key (xor_blocks (chained key xs) x)
unfolding chained
chained-push key xs x = fold-append (λ c y. enc key (xor_blocks c y)) zero_block xs (x ∷ [])

-- ---- what a `Mac` took

module _ (key m xs : List ℕ) (mac : Mac) where
  pub took_more : length (last_piece m) + length xs ≤ 16 → Holds key (front_blocks m) (last_piece m ++ xs) mac → Took key (m ++ xs) mac
  took_more room holds =
      subst (λ (p : List ℕ). Holds key (front_blocks (m ++ xs)) p mac) (sym (last_piece-more m xs room)) (subst (λ (bs : List (List ℕ)). Holds key bs (last_piece m ++ xs) mac) (sym (front_blocks-more m xs room)) holds)

  pub took_full : length (last_piece m) ≡ 16 → 0 < length xs → length xs ≤ 16 → Holds key (front_blocks m ++ last_piece m ∷ []) xs mac → Took key (m ++ xs) mac
  took_full full some most holds =
      subst (λ (p : List ℕ). Holds key (front_blocks (m ++ xs)) p mac) (sym (last_piece_full m xs full some most)) (subst (λ (bs : List (List ℕ)). Holds key bs xs mac) (sym (front_blocks_full m xs full some most)) holds)

-- ---- the block that is kept

-- a byte written after the piece
pub written_behind : (p : List ℕ) (x : ℕ) → length p < 16 → set (p ++ replicate (16 - length p) 0) (length p) x ≡ p ++ x ∷ replicate (15 - length p) 0
written_behind p x h =
    let e : 16 - length p ≡ suc (15 - length p) = omega arith in
    ap (λ n. set (p ++ replicate n 0) (length p) x) e ∙ set_at p 0 (replicate (15 - length p) 0) x (length p) refl

-- bytes written after the piece
pub kept_behind : (p xs : List ℕ) → length p + length xs ≤ 16 → take (length p) (p ++ replicate (16 - length p) 0) ++ xs ++ drop (length p + length xs) (p ++ replicate (16 - length p) 0) ≡ (p ++ xs) ++ replicate (16 - length (p ++ xs)) 0
kept_behind p xs room =
    let zeros : List ℕ = replicate (16 - length p) 0 in
    let rest : 16 - length p - length xs ≡ 16 - length (p ++ xs) = omega (arith, length-append p xs) in
    ap (λ f. f ++ xs ++ drop (length p + length xs) (p ++ zeros)) (take-append_seam p zeros)
    ∙ ap (λ r. p ++ xs ++ r) (drop-append-add p zeros (length xs) ∙ drop-replicate (length xs) (16 - length p) 0 ∙ ap (λ n. replicate n 0) rest)

-- what these bytes make of a block that is the piece followed by zeros
pub written_is : (p xs block copied : List ℕ) (filled count : ℕ) → block ≡ p ++ replicate (16 - length p) 0 → filled ≡ length p → length xs ≡ count → copied ≡ xs → length p + length xs ≤ 16 → put_mid filled (filled + count - filled) block copied ≡ (p ++ xs) ++ replicate (16 - length (p ++ xs)) 0
written_is p xs block copied filled count block_is filled_is count_is copied_is room =
    let padded : List ℕ = p ++ replicate (16 - length p) 0 in
    let k : ℕ = filled + count - filled in
    let whole : List ℕ = put_mid filled k block copied in
    let n : ℕ = filled + length copied in
    let same = ap length copied_is in
    let inside : filled ≤ length block = omega (arith, ap length block_is, length-append p (replicate (16 - length p) 0)) in
    let cut : whole ≡ (take filled block ++ copied) ++ drop n block =
    sym (take-append-drop n whole) ∙ ap (λ t. t ++ drop n whole) (take-put_mid filled k block copied n refl inside) ∙ ap (λ t. (take filled block ++ copied) ++ t) (drop-put_mid filled k block copied n (omega arith) inside (omega arith)) in
    cut
    ∙ ap (λ b. (take filled b ++ copied) ++ drop n b) block_is
    ∙ ap (λ f. (take f padded ++ copied) ++ drop (f + length copied) padded) filled_is
    ∙ ap (λ c. (take (length p) padded ++ c) ++ drop (length p + length c) padded) copied_is
    ∙ kept_behind p xs room
