use Rattle.std.proofs.Common.{◌≡◌, ℕ, ◌<◌, List, length, get_or, sym, ap, ◌∙◌, subst, arith}
use Rattle.std.specs.Prelude.{slice_index}
use Rattle.can_logs.specs.declared.map_lines.MapLine.{MapLine}
use Rattle.can_logs.specs.MapTables.{list_of_can, IsNextIn, AreNexts}
use Rattle.can_logs.proofs.TableLists.{LookedTo, LookedTo-first, LookedTo-next, LookedTo-found, LookedTo-none}
use Rattle.can_logs.proofs.map_tables.MapTable.place_for.Goals as goal

pub loop-at-init : goal.loop-at-init
loop-at-init c =
    let lines : List MapLine = c.args.self.now in
    let can : List ℕ = c.args.can.now in
    let table = c.self.invariant in
    let links : List ℕ = c.self.inside.links.firsts in
    let at_is : c.from-at.result ≡ slice_index links (list_of_can can) = c.from-at.ensures ∙ ap (slice_index links) c.list_of.ensures.value in
    let first : IsNextIn lines (list_of_can can) 0 (slice_index links (list_of_can can)) =
    subst (λ ls. IsNextIn ls (list_of_can can) 0 (slice_index links (list_of_can can))) c.self.view_is
    (table.1 (list_of_can can) (subst (λ n. n < 256) c.list_of.ensures.value c.list_of.ensures.within)) in
    LookedTo-first lines can c.args.channel.now c.from-at.result (subst (IsNextIn lines (list_of_can can) 0) (sym at_is) first)

pub loop-at-preserved : goal.loop-at-preserved
loop-at-preserved c =
    let lines : List MapLine = c.args.self.now in
    let at : ℕ = c.loop-at.at in
    let line : MapLine = c.index-lines-at.result in
    let own : c.as_slice-lines.result.now ≡ lines = c.as_slice-lines.ensures.value ∙ c.self.view_is in
    let line_is : line ≡ get_or lines at line = subst (λ (ls : List MapLine). line ≡ get_or ls at line) own c.index-lines-at.is in
    let inside : at < length lines = subst (λ (ls : List MapLine). at < length ls) own c.loop-at-test.true in
    subst (LookedTo lines c.args.can.now c.args.channel.now) (sym c.from-at-in-loop-at.ensures)
    (LookedTo-next lines c.args.can.now c.args.channel.now at line c.self.inside.links.nexts line_is inside (sym c.does_hear.ensures ∙ c.if-does_hear.false)
    (subst (λ (ls : List MapLine). AreNexts ls 0 c.self.inside.links.nexts) c.self.view_is c.self.invariant.2) c.loop-at.invariant)

pub loop-at-smaller : goal.loop-at-smaller
loop-at-smaller c =
    let lines : List MapLine = c.args.self.now in
    let at : ℕ = c.loop-at.at in
    let own : c.as_slice-lines.result.now ≡ lines = c.as_slice-lines.ensures.value ∙ c.self.view_is in
    let inside : at < length lines = subst (λ (ls : List MapLine). at < length ls) own c.loop-at-test.true in
    let nexts : AreNexts lines 0 c.self.inside.links.nexts = subst (λ (ls : List MapLine). AreNexts ls 0 c.self.inside.links.nexts) c.self.view_is c.self.invariant.2 in
    omega (arith, inside, (nexts at c.index-lines-at.result (omega arith) inside).after, c.from-at-in-loop-at.ensures)

pub returns-then-does_hear : goal.returns-then-does_hear
returns-then-does_hear c =
    let lines : List MapLine = c.args.self.now in
    let at : ℕ = c.loop-at.at in
    let line : MapLine = c.index-lines-at.result in
    let own : c.as_slice-lines.result.now ≡ lines = c.as_slice-lines.ensures.value ∙ c.self.view_is in
    let line_is : line ≡ get_or lines at line = subst (λ (ls : List MapLine). line ≡ get_or ls at line) own c.index-lines-at.is in
    let inside : at < length lines = subst (λ (ls : List MapLine). at < length ls) own c.loop-at-test.true in
    sym (LookedTo-found lines c.args.can.now c.args.channel.now at line line_is inside (sym c.does_hear.ensures ∙ c.if-does_hear.true) c.loop-at.invariant)

pub returns : goal.returns
returns c =
    let lines : List MapLine = c.args.self.now in
    let own : c.as_slice-lines.result.now ≡ lines = c.as_slice-lines.ensures.value ∙ c.self.view_is in
    sym (LookedTo-none lines c.args.can.now c.args.channel.now c.loop-at.at (omega (arith, ap length own, c.loop-at-test.false)) c.loop-at.invariant)
