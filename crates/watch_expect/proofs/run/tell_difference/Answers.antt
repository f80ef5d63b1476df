use Rattle.std.proofs.Common.{◌≡◌, ℕ, List, ap, ◌∙◌, subst}
use Rattle.program_edge.specs.Told.{EndingTold}
use Rattle.watch_expect.specs.Comparing.{difference_text}
use Rattle.watch_expect.proofs.run.tell_difference.Goals as goal

pub returns : goal.returns
returns g c =
    let text_is : c.as_slice-2.result.now ≡ difference_text c.args.kept.now.text.items c.args.place c.args.came.now =
    c.as_slice-2.ensures.value ∙ c.put_difference.ensures ∙ ap (λ (t : List ℕ). difference_text t c.args.place c.args.came.now) c.as_slice.ensures.value in
    subst (λ (t : List ℕ). EndingTold (g.E.Sink.state c.args.errors.now) (g.E.Sink.state c.tell.new.sink) t 1 c.tell.result) text_is c.tell.ensures
