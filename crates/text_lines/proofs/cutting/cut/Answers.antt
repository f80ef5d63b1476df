use Rattle.std.proofs.Common.{◌≡◌, List, [], ◌∷◌, ◌++◌, length, sym, ◌∙◌, ap, arith, append-nil}
use Rattle.std.specs.Prelude.{option_to_list}
use Rattle.std.proofs.lemmas.List.Elements.{All-push}
use Rattle.text_lines.specs.declared.span.Cut.{Cut}
use Rattle.text_lines.specs.Spans.{EndWithin}
use Rattle.text_lines.proofs.Rows.{lines_begin, cut_step, cut_done}
use Rattle.text_lines.proofs.cutting.cut.Goals as goal
use Rattle.text_lines.proofs.cutting.cut.Goals.{in-Some+in_ok-push, in_default}

pub loop-at-init : goal.loop-at-init
loop-at-init c = record {
  whole = rw c.new-cuts.ensures.items (lines_begin c.args.text.now);
  within = λ k d h. absurd (let none = ap length c.new-cuts.ensures.items in omega arith);
  numbered = omega arith;
  inside = omega arith;
  short = omega arith;
}

pub loop-at-preserved : goal.loop-at-preserved
loop-at-preserved c =
    let text = c.args.text.now in
    let end = c.in_ok-found.end in
    let so_far = c.loop-at.invariant in
    let found = c.in_ok-found.ensures in
    elim c.match-found.branch [
      | in-Some+in_ok-push w ↦
          let one : option_to_list c.in_ok-found.found ≡ w.in-Some.cut ∷ [] = ap option_to_list w.in-Some.is in
          let items : c.match-found.cuts.items ≡ c.loop-at.cuts.items ++ w.in-Some.cut ∷ [] = cc w.in_ok-push.ensures.items in
          let pushed : c.match-found.cuts.items ≡ c.loop-at.cuts.items ++ option_to_list c.in_ok-found.found = items ∙ ap (λ (l : List Cut). c.loop-at.cuts.items ++ l) (sym one) in
          record {
            whole = cut_step text c.loop-at.number c.loop-at.at end _ _ _ _ found.end found.exact pushed so_far.whole;
            within = rw items (All-push (λ (cut : Cut). EndWithin (length text) cut.words) _ _ so_far.within (rw w.in-Some.is at found.inside));
            numbered = omega (arith, found.behind);
            inside = omega (arith, found.within);
            short = so_far.short;
          }
      | in_default w ↦
          let none : option_to_list c.in_ok-found.found ≡ [] = ap option_to_list w.in_default.is in
          let items : c.match-found.cuts.items ≡ c.loop-at.cuts.items = cc in
          let pushed : c.match-found.cuts.items ≡ c.loop-at.cuts.items ++ option_to_list c.in_ok-found.found = items ∙ sym (append-nil c.loop-at.cuts.items) ∙ ap (λ (l : List Cut). c.loop-at.cuts.items ++ l) (sym none) in
          record {
            whole = cut_step text c.loop-at.number c.loop-at.at end _ _ _ _ found.end found.exact pushed so_far.whole;
            within = rw items so_far.within;
            numbered = omega (arith, found.behind);
            inside = omega (arith, found.within);
            short = so_far.short;
          }
    ]

pub returns-clause-exact : goal.returns-clause-exact
returns-clause-exact c = cut_done c.args.text.now c.loop-at.number c.loop-at.at _ c.loop-at-test.false c.loop-at.invariant.whole
