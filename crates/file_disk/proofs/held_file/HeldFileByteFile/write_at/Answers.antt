-- What the file below left, and what memory holds then.
use Rattle.std.proofs.Common.{◌≡◌, ℕ, length, arith, refl, sym, ap, subst, ◌∙◌}
use Rattle.std.specs.Vec.{with_items}
use Rattle.std.proofs.lemmas.List.{with_items_is}
use Rattle.std.proofs.lemmas.Option.{same_Some}
use Rattle.file_disk.specs.FileBytes.{IsInside}
use Rattle.file_disk.proofs.Marks.{any_of_same, any_of_either, on_err}
use Rattle.file_disk.proofs.Held.{inside_put}
use Rattle.file_disk.proofs.held_file.HeldFileByteFile.write_at.Goals as goal

pub returns-in_err-asked-clause-torn : goal.returns-in_err-asked-clause-torn
returns-in_err-asked-clause-torn g c =
    on_err c.from_residual.result (any_of_same c.args.at (length c.args.bytes.now) refl (λ bytes is. omega (arith, c.requires.inside, ap length (same_Some _ _ is))))

pub invariant_of-self : goal.invariant_of-self
invariant_of-self g c = record {
  open_below = λ there. c.write_at.ensures.open ∙ c.args.self.now.open_below there;
  inside_below = λ there.
      inside_put c.args.at (g.F.ByteFile.told c.args.self.now.file) c.write_at.ensures.tells
      (any_of_either c.args.at c.args.bytes.now c.write_at.result c.write_at.ensures.written c.write_at.ensures.torn)
      c.requires.inside (c.args.self.now.inside_below there);
}

pub returns-in_err-write_at-clause-torn : goal.returns-in_err-write_at-clause-torn
returns-in_err-write_at-clause-torn g c =
    on_err c.from_residual-in_err-write_at.result
    (any_of_same c.args.at (length c.args.bytes.now) refl (λ bytes is. omega (arith, c.requires.inside, ap length (same_Some _ _ is))))

pub invariant_of-self-2 : goal.invariant_of-self-2
invariant_of-self-2 g c =
    let held = c.args.self.now.bytes in
    let kept : length (with_items held c.hold.new.held).items ≡ length held.items =
    ap length (with_items_is held c.hold.new.held (omega (arith, c.hold.auto.held, c.deref_mut.ensures.len)))
    ∙ omega (arith, c.hold.auto.held, ap length c.deref_mut.ensures.value) in
    record {
      open_below = λ there. c.write_at.ensures.open ∙ c.args.self.now.open_below there;
      inside_below = λ there.
          subst (λ (n : ℕ). IsInside 0 n (g.F.ByteFile.told c.write_at.new.self)) (sym kept)
          (inside_put c.args.at (g.F.ByteFile.told c.args.self.now.file) c.write_at.ensures.tells
          (any_of_either c.args.at c.args.bytes.now c.write_at.result c.write_at.ensures.written c.write_at.ensures.torn)
          c.requires.inside (c.args.self.now.inside_below there));
    }
