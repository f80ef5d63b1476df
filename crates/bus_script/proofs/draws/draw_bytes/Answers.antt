use Rattle.std.proofs.Common.{ℕ, ◌%◌, List, [], ◌∷◌, ◌++◌, sym, ap, ◌∙◌}
use Rattle.bus_script.specs.Draws.{after_draws, draw}
use Rattle.bus_script.proofs.Drawing.{state_more, byte_more}
use Rattle.bus_script.proofs.draws.draw_bytes.Goals as goal

pub loop-done-preserved : goal.loop-done-preserved
loop-done-preserved c =
    let x = c.args.draws.now in
    let done = c.loop-done._done in
    record {
      bytes = c.in_ok-push.ensures.items
          ∙ ap (λ b. c.loop-done.bytes.items ++ b ∷ []) (c.below.ensures.value ∙ ap (λ s. draw s 0 % 256) c.loop-done.invariant.state)
          ∙ ap (λ (l : List ℕ). l ++ draw x done % 256 ∷ []) c.loop-done.invariant.bytes
          ∙ sym (byte_more x done);
      state = c.below.ensures.state ∙ ap (λ s. after_draws s 1) c.loop-done.invariant.state ∙ sym (state_more x done);
    }
