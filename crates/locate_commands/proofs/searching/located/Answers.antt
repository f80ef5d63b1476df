use Rattle.std.proofs.Common.{ℕ, List, sym, ◌∙◌}
use Rattle.locate_commands.specs.Locating.{fits}
use Rattle.locate_commands.proofs.Fitting.{found_none, none_fits}
use Rattle.locate_commands.proofs.searching.located.Goals as goal

pub returns-in_err-first : goal.returns-in_err-first
returns-in_err-first c =
    let frames : List (List ℕ) = c.args.frames.now in
    c.from_residual.ensures
    ∙ sym (found_none (fits c.args.receiver.now frames) c.args.candidates.first c.args.candidates.last
    (λ w from to. none_fits c.args.receiver.now frames w c.in_err-first.ensures.cases))
