use Rattle.std.proofs.Common.{◌≡◌, length, take, drop, sym, ◌∙◌, arith, rules, length-drop}
use Rattle.std.proofs.lemmas.List.{take_all}
use Rattle.std.specs.Cmp.Lexicographic.{same_text, bytes_decides}
use Rattle.std.specs.Int.{w64}
use Rattle.basics.proofs.CallerLemmas.{to_be_bytes-is}
use Rattle.rathonsi_c.proofs.sync.ends_in_counter.Goals as goal

-- the last eight of 88 bytes
pub returns : goal.returns
returns c =
    let bytes = c.args.input.now.bytes in
    let size : length c.args.input.now.bytes ≡ 88 = search rules in
    let whole : take 8 (drop 80 c.args.input.now.bytes) ≡ drop 80 c.args.input.now.bytes = take_all 8 (drop 80 bytes) (omega (arith, size, length-drop 80 bytes)) in
    let counter_is = c.to_be_bytes.ensures ∙ to_be_bytes-is w64 c.args.input.now.counter in
    let end_is : c.copy_from_slice.new.self ≡ drop 80 c.args.input.now.bytes = c.copy_from_slice.ensures.after ∙ whole in (
      λ yes. sym end_is ∙ (same_text _ _ (sym yes ∙ c.eq.ensures) ∙ counter_is),
      λ is. c.eq.ensures ∙ (bytes_decides _ _).1 (end_is ∙ (is ∙ sym counter_is)),
    )
