use Rattle.std.proofs.Common.{◌≡◌, ◌+◌, ◌<◌, ℕ, List, [], ◌∷◌, ◌++◌, length, take, get_or, sym, ap, ◌∙◌, arith, append-nil, append_assoc, take_all}
use Rattle.std.proofs.lemmas.Grind.{flat_map-append}
use Rattle.std.proofs.lemmas.List.{take_more}
use Rattle.watch_commands.specs.Stamps.{escaped_byte, escaped}
use Rattle.watch_commands.proofs.stamps.add_escaped.Goals as goal

-- one more byte
escaped_more : (bytes : List ℕ) (i : ℕ) → i < length bytes → escaped (take (i + 1) bytes) ≡ escaped (take i bytes) ++ escaped_byte (get_or bytes i 0)
escaped_more bytes i inside =
    ap escaped (take_more bytes i 0 inside)
    ∙ flat_map-append escaped_byte (take i bytes) (get_or bytes i 0 ∷ [])
    ∙ ap (λ (t : List ℕ). escaped (take i bytes) ++ t) (append-nil (escaped_byte (get_or bytes i 0)))

pub loop-byte-init : goal.loop-byte-init
loop-byte-init c = record { so_far = sym (append-nil c.args.text.now.items); few = omega arith; capacity = omega arith }

pub loop-byte-preserved : goal.loop-byte-preserved
loop-byte-preserved c =
    let so_far = c.loop-byte.invariant in
    let bytes : List ℕ = c.args.bytes.now in
    let at : ℕ = c.loop-byte.byte-index in
    let byte : ℕ = get_or bytes at 0 in
    record {
      so_far = c.add_escaped_byte.ensures.escaped
          ∙ ap (λ (t : List ℕ). t ++ escaped_byte byte) so_far.so_far
          ∙ append_assoc c.args.text.now.items (escaped (take at bytes)) (escaped_byte byte)
          ∙ ap (λ (t : List ℕ). c.args.text.now.items ++ t) (sym (escaped_more bytes at c.loop-byte-test.true));
      few = omega (arith, so_far.few, c.add_escaped_byte.ensures.few);
      capacity = omega (arith, so_far.capacity, c.add_escaped_byte.ensures.capacity);
    }

pub returns-clause-escaped : goal.returns-clause-escaped
returns-clause-escaped c =
    c.loop-byte.invariant.so_far
    ∙ ap (λ (t : List ℕ). c.args.text.now.items ++ escaped t) (take_all c.loop-byte.byte-index c.args.bytes.now (omega (arith, c.loop-byte-test.false)))
