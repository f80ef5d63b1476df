use Rattle.std.proofs.Common.{◌≡◌, ◌↔◌, ◌≤◌, ℕ, List, length, take, IsTrue, length-take, sym, ap, subst, ◌∙◌, arith}
use Rattle.std.specs.Int.{w16}
use Rattle.basics.specs.Numbers.{bytes_of}
use Rattle.basics.proofs.CallerLemmas.{to_be_bytes-is, length-bytes_of}
use Rattle.cut_disk.specs.Images.{splice}
use Rattle.cell_store.specs.declared.kinds.Version.TheVariants.{One}
use Rattle.cell_store.specs.Layout.{header, twin_layout}
use Rattle.store_plan.proofs.GatedLaws.{put_mid-splice}
use Rattle.store_plan.proofs.GrowingLaws.{take-splice}
use Rattle.store_plan.proofs.growing.has_head_but_count.Goals as goal

pub returns : goal.returns
returns c =
    let x = c.args.image.now in
    let n = c.args.cells in
    let room : 32 ≤ length x = c.requires in
    let first : c.copy_from_slice.new.self ≡ take 32 x = c.copy_from_slice.ensures.after in
    let second : c.copy_from_slice-2.new.self ≡ bytes_of 2 n = c.copy_from_slice-2.ensures.after ∙ (c.to_be_bytes.ensures ∙ to_be_bytes-is w16 n) in
    let two : length c.copy_from_slice-2.new.self ≡ 2 = ap length second ∙ length-bytes_of 2 n in
    let long : length c.copy_from_slice.new.self ≡ 32 = ap length first ∙ omega (arith, length-take 32 x, room) in
    subst (λ (l : List ℕ). IsTrue c.is_header.result ↔ (l ≡ header (twin_layout One) n))
    (put_mid-splice 10 2 c.copy_from_slice.new.self c.copy_from_slice-2.new.self (sym two) (omega (arith, two, long))
    ∙ (ap (λ (b : List ℕ). splice 10 b c.copy_from_slice.new.self) second
    ∙ (ap (splice 10 (bytes_of 2 n)) first ∙ sym (take-splice 10 32 (bytes_of 2 n) x (omega (arith, length-bytes_of 2 n)) room))))
    c.is_header.ensures
