use Rattle.std.proofs.Common.{rules, ap, ◌∙◌}
use Rattle.secure_boot.specs.Booting.{bootmac}
use Rattle.secure_boot.proofs.Decided.{slot_got, Boots-filled}
use Rattle.secure_boot.proofs.boot.decide.Goals as goal

-- src/boot.rt:25:1
pub returns : goal.returns
returns c =
    let first = slot_got c.args.slots.now c.unwrap.result 2 _ _ c.get-boot_mac_key.ensures.value (search rules) c.in-Filled-Filled.is-0 in
    let second = slot_got c.args.slots.now c.unwrap-2.result 3 _ _ c.get-stored.ensures.value (search rules) c.in-Filled-Filled.is-1 in
    Boots-filled c.args.slots.now c.args.image.now _ _ c.boot_mac.result _ _ _ _ c.eq.result first second c.eq.ensures (c.boot_mac.ensures.value ∙ ap (λ key. bootmac key c.args.image.now) c.expand.ensures.value)
