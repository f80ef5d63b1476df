use Rattle.std.proofs.Common.{◌≡◌, ◌≢◌, ℕ, refl, sym, arith}
use Rattle.cell_store.specs.declared.kinds.Kind.{Kind}
use Rattle.cell_store.specs.declared.kinds.Kind.TheVariants.{Twin, Log}
use Rattle.cell_store.specs.Layout.{kind_byte}
use Rattle.cell_store.proofs.probing.kind_of.Goals as goal

is-twin : (kind : Kind) (byte : ℕ) → kind_byte kind ≡ byte → byte ≡ 1 → Twin ≡ kind
is-twin Twin byte e one = refl
is-twin Log byte e one = absurd (omega arith)

is-log : (kind : Kind) (byte : ℕ) → kind_byte kind ≡ byte → byte ≢ 1 → Log ≡ kind
is-log Twin byte e not = absurd (not (sym e))
is-log Log byte e not = refl

pub returns-then-byte-eq1 : goal.returns-then-byte-eq1
returns-then-byte-eq1 c kind e = is-twin kind c.args.byte e (omega arith)

pub returns-else-byte-eq1 : goal.returns-else-byte-eq1
returns-else-byte-eq1 c kind e = is-log kind c.args.byte e (λ one. omega arith)
