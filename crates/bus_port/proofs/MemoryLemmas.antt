-- What the ports over memory do, as any source and any sink.
use Rattle.std.proofs.Common.{◌≡◌, ℕ, ◌+◌, ◌<◌, ◌≤◌, min, List, ◌++◌, length, take, drop, Some, sym, ap, ◌∙◌, arith}
use Rattle.std.proofs.lemmas.List.{take-append-drop, nil_from_length, length-take}
use Rattle.std.proofs.lemmas.Option.{same_Some}
use Rattle.bus_port.specs.Source.{SourceState, HandsOut}

-- a source that tells, and moved n of the bytes left to the beginning of the buffer
pub HandsOut-from_left : (before after : SourceState) (old new left : List ℕ) (most n : ℕ) → before.told ≡ Some left → after.told ≡ Some (drop n left)
    → after.taken ≡ before.taken + n → after.faults ≡ before.faults → length new ≡ length old → (0 < length old → 1 ≤ most) → n ≡ min (min most (length old)) (length left)
    → take n new ≡ take n left → drop n new ≡ drop n old → HandsOut before after old new n
HandsOut-from_left before after old new left most n told left_now taken faults same_length some count front beyond =
    let size : length (take n new) ≡ n = omega (arith, length-take n new) in
    record {
      fits = omega arith;
      came = record {
        next = λ bytes known.
            let same : bytes ≡ left = same_Some bytes left (sym known ∙ told) in
            (drop n left, left_now, same ∙ sym (take-append-drop n left) ∙ ap (λ xs. xs ++ drop n left) (sym front));
        counted = omega arith;
        later = omega arith;
      };
      beyond = beyond;
      no_fault = faults;
      ended = λ room bytes known.
          let same : length bytes ≡ length left = ap length (same_Some bytes left (sym known ∙ told)) in
          let piece = some room in
          ((λ none. nil_from_length bytes (omega arith)), (λ none. let nothing : length bytes ≡ 0 = ap length none in omega arith));
    }
