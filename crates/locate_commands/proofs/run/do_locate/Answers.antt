use Rattle.std.proofs.Common.{◌≡◌, ℕ, List, Bool, refl, ap, ◌∙◌, subst, inl}
use Rattle.std.specs.Prelude.{Some, if◌then◌else◌}
use Rattle.bus_port.specs.Sink.{SinkState}
use Rattle.program_edge.specs.Told.{EndingTold}
use Rattle.line_stream.specs.Pieces.{log_lines}
use Rattle.locate_commands.specs.declared.run.Locating.{Locating}
use Rattle.locate_commands.specs.Locating.{FoundIn, fresh_of, fresh_by, filled, are_settled, located_text, locate_status}
use Rattle.locate_commands.specs.LocateRows.{located_row}
use Rattle.locate_commands.specs.LocateSteps.{found_in}
use Rattle.locate_commands.proofs.run.do_locate.Goals as goal

pub returns-in-Ok : goal.returns-in-Ok
returns-in-Ok g c =
    let l : Locating = c.args.locating.now in
    let f : FoundIn = found_in l in
    let before : SinkState = g.K.Sink.state c.args.sink.now in
    let after : SinkState = g.K.Sink.state c.tell.new.sink in
    let finder_is : c.of-finder.result ≡ f =
    c.of-finder.ensures ∙ ap (λ (log : List ℕ). record { mapping = l.map; log = log; candidates = l.candidates }) c.as_slice.ensures.value in
    let text_is : c.as_slice-in-Ok.result.now ≡ located_text l.text.items f =
    c.as_slice-in-Ok.ensures.value ∙ c.in-Ok.ensures.text
    ∙ ap (λ (t : List ℕ). filled (fresh_by (Some c.of-finder.result)) t) c.as_slice-2.ensures.value
    ∙ ap (λ (h : FoundIn). filled (fresh_of h) l.text.items) finder_is in
    let settled_is : c.in-Ok.filled.is_settled ≡ are_settled (fresh_of f) 1 (log_lines l.text.items) =
    c.in-Ok.ensures.settled
    ∙ ap (λ (t : List ℕ). are_settled (fresh_by (Some c.of-finder.result)) 1 (log_lines t)) c.as_slice-2.ensures.value
    ∙ ap (λ (h : FoundIn). are_settled (fresh_of h) 1 (log_lines l.text.items)) finder_is in
    let status_is : c.status_of.result ≡ locate_status l.text.items f = c.status_of.ensures ∙ ap (λ (b : Bool). if b then 0 else 1) settled_is in
    inl (
      record {
        row = located_row l.text.items f;
        comes = refl;
        told = subst (λ (s : ℕ). EndingTold before after (located_text l.text.items f) s c.tell.result) status_is
            (subst (λ (t : List ℕ). EndingTold before after t c.status_of.result c.tell.result) text_is c.tell.ensures);
      },
      refl,
    )
