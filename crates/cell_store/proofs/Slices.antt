-- What a write to a part of a slice leaves.
use Rattle.std.proofs.Common.{◌≡◌, ℕ, ◌+◌, ◌*◌, ◌-◌, ◌∙◌, ◌<◌, ◌≤◌, [], ◌∷◌, ◌++◌, List, length, set, take, drop, replicate, sym, ap, arith, rules, length-append}
use Rattle.std.specs.List.{flat_map}
use borrow.Rule.Slice.PartMut.{put_mid, mid_of}
use Rattle.std.proofs.lemmas.List.{places, same_lists, append-nil, take_more, drop_all, length-replicate, length-set, length-take-le, get_or-take}
use Rattle.std.proofs.lemmas.List.Concat.{flat_map-append}
use Rattle.std.proofs.Common.{get_or}
use Rattle.cut_disk.specs.Images.{splice}
use Rattle.cut_disk.proofs.CallerLemmas.{splice-beside, length-splice}
use Rattle.cell_store.specs.Log.{bank_rest}
use Rattle.cell_store.proofs.FreshLaws.{Sized}
use Rattle.cell_store.proofs.BankLaws.{length-cells}

pub put_mid-splice : {X : Type 0} → (at k : ℕ) (xs ys : List X) → k ≡ length ys → at + length ys ≤ length xs → put_mid at k xs ys ≡ splice at ys xs
unfolding splice
put_mid-splice at k xs ys same inside = same_lists _ _ (search (rules, places)) (λ i d h. grind (arith, places))

pub splice-all : (ys xs : List ℕ) → length ys ≡ length xs → splice 0 ys xs ≡ ys
unfolding splice
splice-all ys xs e =
    let gone : drop (0 + length ys) xs ≡ [] = drop_all (0 + length ys) xs (omega arith) in
    ap (λ t. ys ++ t) gone ∙ append-nil ys

pub splice-none : (at : ℕ) (x : List ℕ) → splice at [] x ≡ x
unfolding splice
splice-none at x = same_lists _ _ (search (rules, places)) (λ i d h. grind (arith, places))

pub set-splice : (x : List ℕ) (m : ℕ) → 1 ≤ length x → set x 0 m ≡ splice 0 (m ∷ []) x
unfolding splice
set-splice x m h = same_lists _ _ (search (rules, places)) (λ i d l. grind (arith, places))

-- the first cells, and one more
pub cells_more : (cells : List (List ℕ)) (i : ℕ) → i < length cells → flat_map (λ c. c) (take i cells) ++ get_or cells i [] ≡ flat_map (λ c. c) (take (i + 1) cells)
cells_more cells i below =
    ap (λ one. flat_map (λ c. c) (take i cells) ++ one) (sym (append-nil (get_or cells i [])))
    ∙ sym (flat_map-append (λ c. c) (take i cells) (get_or cells i [] ∷ []))
    ∙ ap (flat_map (λ c. c)) (sym (take_more cells i [] below))

-- one more cell is written after the first i
pub fill-step : (x room : List ℕ) (cells : List (List ℕ)) (i k : ℕ) (one : List ℕ) → Sized cells → i < length cells → length room ≡ 2241 + 32 * length cells → x ≡ splice 1 (flat_map (λ c. c) (take i cells)) room → k ≡ 32 → one ≡ get_or cells i [] → put_mid (1 + 32 * i) k x one ≡ splice 1 (flat_map (λ c. c) (take (i + 1) cells)) room
fill-step x room cells i k one sized below space so-far wide is =
    let w : length one ≡ 32 = ap length is ∙ sized i below in
    let f : length (flat_map (λ c. c) (take i cells)) ≡ 32 * i = length-front cells i sized (omega arith) in
    let l : length x ≡ length room = ap length so-far ∙ length-splice 1 (flat_map (λ c. c) (take i cells)) room (omega arith) in
    put_mid-splice (1 + 32 * i) k x one (omega arith) (omega arith)
    ∙ (ap (splice (1 + 32 * i) one) so-far
    ∙ ((let e : 1 + 32 * i ≡ 1 + length (flat_map (λ c. c) (take i cells)) = omega arith in ap (λ a. splice a one (splice 1 (flat_map (λ c. c) (take i cells)) room)) e)
    ∙ (splice-beside 1 (flat_map (λ c. c) (take i cells)) one room (omega arith)
    ∙ ap (λ b. splice 1 b room) (ap (λ b. flat_map (λ c. c) (take i cells) ++ b) is ∙ cells_more cells i below)))) where
      length-front : (cells : List (List ℕ)) (i : ℕ) → Sized cells → i ≤ length cells → length (flat_map (λ c. c) (take i cells)) ≡ 32 * i
      length-front cells i sized le =
          length-cells (take i cells) (λ j l. let e = length-take-le i cells le in ap length (get_or-take i cells j [] (omega arith)) ∙ sized j (omega arith))
          ∙ ap (λ n. 32 * n) (length-take-le i cells le)

-- a mark, all cells and closed places fill the room
pub fill-whole : (room mid : List ℕ) (m k : ℕ) (cells : List (List ℕ)) (zeros : List ℕ) → Sized cells → length room ≡ 2241 + 32 * length cells → mid ≡ splice 1 (flat_map (λ c. c) cells) (set room 0 m) → k ≡ 2240 → zeros ≡ replicate 2240 0 → (n : ℕ) → length cells ≡ n
    → put_mid (1 + 32 * n) k mid zeros ≡ bank_rest m cells
fill-whole room mid m k cells zeros sized space is wide none n count =
    (ap (λ a. put_mid (1 + 32 * a) k mid zeros) (sym count)) ∙ (
    let z : length zeros ≡ 2240 = ap length none ∙ length-replicate {A = ℕ} 2240 0 in
    let f : length (flat_map (λ c. c) cells) ≡ 32 * length cells = length-cells cells sized in
    let one : splice 0 (m ∷ []) room ≡ set room 0 m = sym (set-splice room m (omega arith)) in
    let lm : length (set room 0 m) ≡ length room = length-set room 0 m in
    let l : length mid ≡ length room = ap length is ∙ (length-splice 1 (flat_map (λ c. c) cells) (set room 0 m) (omega arith) ∙ lm) in
    let two : splice 1 (flat_map (λ c. c) cells) (set room 0 m) ≡ splice 0 (m ∷ flat_map (λ c. c) cells) room = ap (splice 1 (flat_map (λ c. c) cells)) (sym one) ∙ splice-beside 0 (m ∷ []) (flat_map (λ c. c) cells) room (omega arith) in
    let front : length (m ∷ flat_map (λ c. c) cells) ≡ 1 + 32 * length cells = omega arith in
    put_mid-splice (1 + 32 * length cells) k mid zeros (omega arith) (omega arith)
    ∙ (ap (splice (1 + 32 * length cells) zeros) (is ∙ two)
    ∙ ((let e : 1 + 32 * length cells ≡ 0 + length (m ∷ flat_map (λ c. c) cells) = omega arith in ap (λ a. splice a zeros (splice 0 (m ∷ flat_map (λ c. c) cells) room)) e)
    ∙ (splice-beside 0 (m ∷ flat_map (λ c. c) cells) zeros room (omega arith)
    ∙ (splice-all (m ∷ flat_map (λ c. c) cells ++ zeros) room (let a = length-append (flat_map (λ c. c) cells) zeros in omega arith)
    ∙ ap (λ b. m ∷ flat_map (λ c. c) cells ++ b) none)))))

-- how long the rest of a slice is
pub mid-length : (at n : ℕ) (x : List ℕ) → length x ≡ at + n → length (mid_of at (length x - at) x) ≡ n
mid-length at n x e = search (rules, places)
