use Rattle.std.proofs.Common.{◌≡◌, ℕ, ◌+◌, ◌-◌, List, length, sym, ap, ◌∙◌, subst, arith}
use Rattle.std.specs.Prelude.{slice_index}
use Rattle.std.proofs.lemmas.List.{get_or-replicate, length-replicate, length-set}
use Rattle.can_logs.specs.declared.map_lines.MapLine.{MapLine}
use Rattle.can_logs.specs.MapTables.{list_of_can, IsNextIn, AreFirsts, AreNexts}
use Rattle.can_logs.proofs.TableLists.{IsNextIn-end, AreFirsts-more, AreNexts-more}
use Rattle.can_logs.proofs.map_tables.Links.of.Goals as goal

pub loop-place-init : goal.loop-place-init
loop-place-init c =
    let lines : List MapLine = c.args.lines.now in
    record {
      within = omega arith;
      firsts_many = ap length c.to_none-firsts.ensures ∙ length-replicate 256 (length lines);
      nexts_many = ap length c.to_none-nexts.ensures ∙ length-replicate 256 (length lines);
      firsts = λ list below.
          subst (IsNextIn lines list (length lines)) (sym (ap (λ (fs : List ℕ). slice_index fs list) c.to_none-firsts.ensures ∙ get_or-replicate 256 list (length lines) 0 below))
          (IsNextIn-end lines list (length lines) (omega arith));
      nexts = λ place d from inside. absurd (omega (arith, from, inside));
    }

pub loop-place-preserved : goal.loop-place-preserved
loop-place-preserved c =
    let lines : List MapLine = c.args.lines.now in
    let place : ℕ = c.loop-place.place - 1 in
    let list : ℕ = c.list_of-list.result in
    let line : MapLine = c.index-lines-place.result in
    let next : place + 1 ≡ c.loop-place.place = omega arith in
    let list_is : list ≡ list_of_can line.can =
    c.list_of-list.ensures.value ∙ ap list_of_can c.digits.ensures.value ∙ ap (λ (x : MapLine). list_of_can x.can) (sym c.index-lines-place.is) in
    let firsts : AreFirsts lines (place + 1) c.loop-place.firsts = subst (λ p. AreFirsts lines p c.loop-place.firsts) (sym next) c.loop-place.invariant.firsts in
    let nexts : AreNexts lines (place + 1) c.loop-place.nexts = subst (λ p. AreNexts lines p c.loop-place.nexts) (sym next) c.loop-place.invariant.nexts in
    record {
      within = omega arith;
      firsts_many = length-set c.loop-place.firsts list place ∙ c.loop-place.invariant.firsts_many;
      nexts_many = length-set c.loop-place.nexts place (slice_index c.loop-place.firsts list) ∙ c.loop-place.invariant.nexts_many;
      firsts = AreFirsts-more lines place list line c.loop-place.firsts c.index-lines-place.is (omega arith) list_is c.loop-place.invariant.firsts_many firsts;
      nexts = AreNexts-more lines place (slice_index c.loop-place.firsts list) list line c.loop-place.nexts c.index-lines-place.is (omega arith) list_is (omega (arith, c.loop-place.invariant.nexts_many, c.requires))
          (firsts list c.list_of-list.ensures.within) nexts;
    }

pub returns-clause-nexts : goal.returns-clause-nexts
returns-clause-nexts c =
    subst (λ p. AreNexts c.args.lines.now p c.loop-place.nexts) (omega arith) c.loop-place.invariant.nexts
