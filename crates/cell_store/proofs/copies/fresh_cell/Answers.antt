-- The two copies stand one after the other.
use Rattle.std.proofs.Common.{◌≡◌, ℕ, ◌++◌, [], List, length, take, drop, replicate, refl, ap, ◌∙◌, arith}
use Rattle.std.proofs.lemmas.List.{take_at, drop_at, drop_all, append-nil}
use borrow.Rule.Slice.PartMut.{put_mid}
use Rattle.cell_store.specs.Twin.{live_copy}
use Rattle.cell_store.proofs.copies.fresh_cell.Goals as goal

halves : (a b z : List ℕ) → length a ≡ 34 → length z ≡ 34 → put_mid 34 34 (a ++ z) b ≡ a ++ b
halves a b z la lz =
    let front : take 34 (a ++ z) ≡ a = take_at a z 34 la in
    let back : drop 34 (a ++ z) ≡ z = drop_at a z 34 la in
    let gone : drop 34 z ≡ [] = drop_all 34 z (omega arith) in
    ap (λ t. t ++ (b ++ drop 34 (drop 34 (a ++ z)))) front ∙ (ap (λ t. a ++ (b ++ drop 34 t)) back ∙ (ap (λ t. a ++ (b ++ t)) gone ∙ ap (λ t. a ++ t) (append-nil b)))

pub returns : goal.returns
returns c =
    let p = c.args.payload.now in
    let one = c.copy_from_slice.ensures.after ∙ c.live_copy.ensures in
    let two = c.copy_from_slice-2.ensures.after ∙ c.live_copy-2.ensures in
    halves c.copy_from_slice.new.self c.copy_from_slice-2.new.self (replicate 34 0) c.copy_from_slice.ensures.len refl
    ∙ (ap (λ t. t ++ c.copy_from_slice-2.new.self) one ∙ ap (λ t. live_copy 0 p ++ t) two)
