use Rattle.std.proofs.Common.{ℕ, List, sym, subst, rules}
use Rattle.std.proofs.lemmas.Result.{err_from_is_err_and}
use Rattle.program_edge.specs.Inputs.{Reading, ReadsWhole}
use Rattle.secoc_node.specs.Words.{IsImage}
use Rattle.endpoint_commands.specs.Steps.{unread_image, other_length}
use Rattle.endpoint_commands.proofs.boot.image_from.Goals as goal

pub returns-in_err-bytes : goal.returns-in_err-bytes
returns-in_err-bytes g c =
    let p = err_from_is_err_and c.from_residual.result c.from_residual.ensures.1 in
    rw (p.1, p.2, c.if-not-is_asked.false) (unread_image c.in_err-bytes.field-0.0 c.in_err-bytes.ensures.refused)

pub returns-then-not-is_image : goal.returns-then-not-is_image
returns-then-not-is_image g c =
    let other : ¬ IsImage c.as_slice.result.now = search rules in
    rw (c.fixed.ensures, c.if-not-is_asked.false) (other_length c.in_ok-bytes.bytes.items c.in_ok-bytes.ensures.ok (subst (λ (bytes : List ℕ). ¬ IsImage bytes) c.as_slice.ensures.value other))

pub returns : goal.returns
returns g c =
    let source : Reading = record { before = g.S.Source.state c.args.image.now; after = g.S.Source.state c.read_input.new.source } in
    rw c.if-not-is_asked.false
    (subst (λ (bytes : List ℕ). ReadsWhole source bytes × IsImage bytes) (sym c.of.ensures)
    (c.in_ok-bytes.ensures.ok, subst IsImage c.as_slice.ensures.value (c.is_image.ensures.0 c.if-not-is_image.false)))
