use Rattle.std.proofs.Common.{◌≡◌, ◌≤◌, ℕ, sym, ap, ◌∙◌, subst}
use Rattle.std.specs.Prelude.{Option, unwrap_or}
use Rattle.endpoint_commands.specs.Lines.{fd_length}
use Rattle.endpoint_commands.proofs.Padding.{fd_bounds}
use Rattle.endpoint_commands.proofs.answering.padded_length.Goals as goal

pub returns : goal.returns
unfolding fd_length
returns c =
    let next : c.unwrap_or.result ≡ fd_length c.args.size = c.unwrap_or.ensures ∙ ap (λ (o : Option ℕ). unwrap_or o c.args.size) c.length_above.ensures in
    let bounds = fd_bounds c.args.size c.requires in
    record {
      next = next;
      above = subst (λ (n : ℕ). c.args.size ≤ n) (sym next) bounds.0;
      most = subst (λ (n : ℕ). n ≤ 64) (sym next) bounds.1;
    }
