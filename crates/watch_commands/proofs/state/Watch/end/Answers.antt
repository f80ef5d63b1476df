use Rattle.std.proofs.Common.{◌≡◌, ◌++◌, List, ℕ, refl, ap, ◌∙◌}
use Rattle.std.specs.List.{flat_map}
use Rattle.watch_commands.specs.WatchTotals.{total_line_at, map_places, counts_text, line_over_at, log_over}
use Rattle.watch_commands.specs.States.{WatchState, totals_in, end_text, end_status}
use Rattle.watch_commands.proofs.Parts.{four_parts}
use Rattle.watch_commands.proofs.state.Watch.end.Goals as goal

-- the totals were added, and then what is more than it may be
ended : (old totals new : WatchState)
    → totals ≡ record old { text = (old.text ++ flat_map (total_line_at old.mapping (totals_in old)) (map_places old.mapping)) ++ counts_text old.mapping.options.json old.counts }
    → new ≡ record totals { text = (totals.text ++ flat_map (line_over_at totals.mapping (totals_in totals)) (map_places totals.mapping)) ++ log_over totals.mapping.options totals.counts }
    → new ≡ record old { text = old.text ++ end_text old }
ended old totals new p q =
    q ∙ ap (λ (s : WatchState). record s { text = (s.text ++ flat_map (line_over_at s.mapping (totals_in s)) (map_places s.mapping)) ++ log_over s.mapping.options s.counts }) p
    ∙ ap (λ (t : List ℕ). record old { text = t })
    (four_parts old.text (flat_map (total_line_at old.mapping (totals_in old)) (map_places old.mapping)) (counts_text old.mapping.options.json old.counts)
    (flat_map (line_over_at old.mapping (totals_in old)) (map_places old.mapping)) (log_over old.mapping.options old.counts)
    _ _ _ _ refl refl refl refl)

pub returns-clause-text : goal.returns-clause-text
returns-clause-text c = ended c.args.self.now c.push_totals.new.self c.push_over.new.self c.push_totals.ensures.text c.push_over.ensures

pub returns-clause-status : goal.returns-clause-status
returns-clause-status c =
    c.status.ensures ∙ ap end_status (ended c.args.self.now c.push_totals.new.self c.push_over.new.self c.push_totals.ensures.text c.push_over.ensures)
