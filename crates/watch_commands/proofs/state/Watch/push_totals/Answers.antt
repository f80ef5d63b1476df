use Rattle.std.proofs.Common.{◌≡◌, ℕ, Bool, ◌++◌, List, length, sym, ap, ◌∙◌, arith, append_assoc}
use Rattle.std.specs.List.{flat_map, range_with_len}
use Rattle.watch_commands.specs.declared.options.WatchOptions.{WatchOptions}
use Rattle.watch_commands.specs.WatchTotals.{total_line_at, counts_text}
use Rattle.watch_commands.specs.States.{WatchState, totals_in}
use Rattle.watch_commands.specs.contracts.state.Watch.{the_view}
use Rattle.can_logs.proofs.CallerLemmas.{texts_more}
use Rattle.watch_commands.proofs.state.Watch.push_totals.Goals as goal

pub loop-place-preserved : goal.loop-place-preserved
loop-place-preserved c =
    let old : WatchState = c.args.self.now in
    let place : ℕ = c.loop-place.place in
    let text : ℕ → List ℕ = total_line_at old.mapping (totals_in old) in
    record {
      so_far = c.push_line_counts.ensures.text
          ∙ ap (λ (s : WatchState). record s { text = s.text ++ total_line_at s.mapping (totals_in s) place }) c.loop-place.invariant.so_far
          ∙ ap (λ (t : List ℕ). record old { text = t })
          (append_assoc old.text (flat_map text (range_with_len 0 place)) (text place) ∙ ap (λ (t : List ℕ). old.text ++ t) (sym (texts_more text place)));
      room = omega (arith, c.loop-place.invariant.room, c.push_line_counts.ensures.few);
    }

pub returns-clause-text : goal.returns-clause-text
returns-clause-text c =
    let old : WatchState = c.args.self.now in
    let place : ℕ = c.loop-place.place in
    let text : ℕ → List ℕ = total_line_at old.mapping (totals_in old) in
    let size : length c.lines-size.result.now ≡ length old.mapping.lines =
    ap length c.lines-size.ensures.value ∙ ap (λ (s : WatchState). length s.mapping.lines) c.self.view_is in
    let whole : place ≡ length old.mapping.lines = omega (arith, c.loop-place-test.false, c.loop-place.auto.place-end, size) in
    let json : Bool = old.mapping.options.json in
    ap (λ (t : List ℕ). record (the_view c.self-2.inside) { text = t })
    (c.add_counts.ensures.lines ∙ ap (λ (o : WatchOptions). (the_view c.self-2.inside).text ++ counts_text o.json (the_view c.self-2.inside).counts) c.options.ensures)
    ∙ ap (λ (v : WatchState). record v { text = v.text ++ counts_text v.mapping.options.json v.counts }) (c.self-2.view_is ∙ c.loop-place.invariant.so_far)
    ∙ ap (λ (n : ℕ). record old { text = (old.text ++ flat_map text (range_with_len 0 n)) ++ counts_text json old.counts }) whole
