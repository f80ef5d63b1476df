use Rattle.std.specs.Int.{w16, from_be_bytes}
use Rattle.std.proofs.Common.{◌≡◌, [], ◌∷◌, get_or, ◌+◌, ◌*◌, sym, ap, subst, ◌∙◌, arith}
use Rattle.std.proofs.lemmas.Bool.{false≢true}
use Rattle.cell_store.specs.declared.kinds.Kind.{Kind}
use Rattle.cell_store.specs.Layout.{header}
use Rattle.cell_store.specs.Store.{FewCells}
use Rattle.cell_store.proofs.StoreLaws.{header-cells, header-kind_byte}
use Rattle.cell_store.proofs.probing.probe_of.Goals as goal

pub returns-else-is_store-clause-is : goal.returns-else-is_store-clause-is
returns-else-is_store-clause-is c = (
  λ blank. false≢true (sym c.if-is_blank.false ∙ c.is_blank.ensures.1 blank),
  λ kind n few e.
      let number : n ≡ c.from_be_bytes-cells.result = header-cells (record { kind = kind; version = c.args.version }) n c.args.bytes.now (let f = few in omega arith) e ∙ (let f : from_be_bytes w16 (get_or c.args.bytes.now 10 0 ∷ get_or c.args.bytes.now 11 0 ∷ []) ≡ 256 * get_or c.args.bytes.now 10 0 + get_or c.args.bytes.now 11 0 = omega arith in omega (arith, c.from_be_bytes-cells.ensures, f)) in
      let same : c.kind_of-kind.result ≡ kind = c.kind_of-kind.ensures kind (header-kind_byte (record { kind = kind; version = c.args.version }) n c.args.bytes.now e ∙ omega arith) in
      false≢true (sym c.if-is_store.false ∙ c.is_store.ensures.1 (
        subst (λ m. FewCells m) number few,
        e ∙ (ap (header (record { kind = kind; version = c.args.version })) number ∙ ap (λ (k : Kind). header (record { kind = k; version = c.args.version }) c.from_be_bytes-cells.result) (sym same)),
      )),
)
