use Rattle.std.proofs.Common.{◌≡◌, ℕ, List, ◌++◌, sym, ap, subst, ◌∙◌, arith}
use Rattle.she_cmac.specs.declared.pieces.MacParts.{MacParts}
use Rattle.she_cmac.specs.Took.{TookParts}
use Rattle.rathonsi_c.proofs.macs.updated.Goals as goal

pub returns-in_default-clause-none : goal.returns-in_default-clause-none
returns-in_default-clause-none c = λ b.
    let same = ap (λ (p : MacParts). p.filled) c.parts_of.ensures in
    omega (arith, b.filled, same, c.in_default.ensures)

pub returns-clause-some : goal.returns-clause-some
returns-clause-some c =
    let old = c.args.mac.now in
    let bytes = c.args.bytes.now in
    let schedule = c.expand-schedule.result in
    let same = ap (λ (p : MacParts). p.filled) c.parts_of.ensures in (
      record { begun = c.if-mac-ne1.false; filled = omega (arith, same, c.in-Some.ensures.within) },
      λ key message t.
          let under : schedule ≡ key = c.expand-schedule.ensures.value ∙ (c.of-key.ensures.value ∙ t.key_is) in
          let kept = subst (λ (k : List ℕ). TookParts k message c.parts_of.result) (sym under) (subst (λ (p : MacParts). TookParts key message p) (sym c.parts_of.ensures) t.took) in
          let went = c.parts.ensures schedule (message ++ bytes) (c.update.ensures schedule message (c.in-Some.ensures.some message kept)) in
          record {
            is_key = t.is_key;
            key_is = c.mac_struct.ensures.key ∙ (c.of-key.ensures.value ∙ t.key_is);
            begun = c.mac_struct.ensures.begun;
            took = subst (λ (p : MacParts). TookParts key (message ++ bytes) p) (sym c.mac_struct.ensures.parts) (subst (λ (k : List ℕ). TookParts k (message ++ bytes) c.parts.result) under went);
          },
    )
