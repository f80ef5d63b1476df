use Rattle.std.proofs.Common.{◌≡◌, ◌+◌, ◌-◌, ◌≤◌, List, ℕ, ◌++◌, length, take, drop, length-drop, sym, ap, subst, ◌∙◌, arith}
use Rattle.std.proofs.Math.Seq.{take-add}
use Rattle.std.proofs.lemmas.List.{append_assoc, take_all}
use Rattle.she_cmac.specs.Took.{Took}
use Rattle.she_cmac.proofs.pieces.Mac.update.Goals as goal

pub loop-done-preserved : goal.loop-done-preserved
loop-done-preserved c =
    let bytes = c.args.bytes.now in
    let done = c.loop-done.done in
    let n = c.take-done.result in
    let rest : take (length bytes - done) (drop done bytes) ≡ drop done bytes = take_all (length bytes - done) (drop done bytes) (omega (arith, length-drop done bytes)) in
    let within : done + n ≤ length bytes = omega (arith, ap length rest, length-drop done bytes, c.take-done.ensures.some.1) in (
      within,
      λ key message took.
          let so_far = c.loop-done.invariant.1 key message took in
          let joined = ap (λ t. message ++ take done bytes ++ take n t) rest ∙ append_assoc message (take done bytes) (take n (drop done bytes)) ∙ ap (λ t. message ++ t) (sym (take-add done n bytes)) in
          subst (λ (m : List ℕ). Took key m c.take-done.new.self) joined (c.take-done.ensures.took key (message ++ take done bytes) so_far),
    )
