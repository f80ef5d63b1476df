use Rattle.std.proofs.Common.{◌≡◌, ◌∙◌, refl, sym, ap, drop, map, length, string_bytes}
use Rattle.std.specs.Vec.Iter.{into_iter_items, into_iter_len}
use Rattle.std.proofs.lemmas.Iterator.{items_from_drains}
use Rattle.std.proofs.lemmas.Iterator.Adapters.{YieldsList-from_vec}
use Rattle.std.proofs.lemmas.List.{map-id}
use Rattle.program_edge.proofs.words.words_after_name.Goals as goal

pub returns-in_ok-all-in-Ok-clause-words : goal.returns-in_ok-all-in-Ok-clause-words
returns-in_ok-all-in-Ok-clause-words c =
    let ran = c.in_ok-all-in-Ok.ensures.ran in
    let counted : into_iter_len c.in-Ok.all ≡ length (into_iter_items c.in-Ok.all) = c.in-Ok.all.rest.ok.0 in
    let came : c.in_ok-all-in-Ok.all.items ≡ into_iter_items c.in-Ok.all =
    ran.2.0 ∙ (sym (map-id ran.0) ∙ items_from_drains ran.0 ran.1 (YieldsList-from_vec (into_iter_items c.in-Ok.all) refl counted)) in
    rw c.in-Ok.is (c.after_name.ensures ∙ ap (λ words. drop 1 (map string_bytes words)) came)
