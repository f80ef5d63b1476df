-- What the first read of the file gave.
use Rattle.std.proofs.Common.{◌≡◌, ℕ, ◌≤◌, min, List, length, take, true, Option, arith, refl, sym, ap, subst, ◌∙◌}
use Rattle.std.specs.Vec.{with_items}
use Rattle.std.proofs.lemmas.List.{with_items_is, length-take}
use Rattle.file_disk.specs.FileBytes.{TellsSize, IsInside, GivesBytes}
use Rattle.file_disk.proofs.held_file.HeldFile.over.Goals as goal

-- the first bytes of a file lie in what it tells
inside_first : {size : ℕ} {told : Option (List ℕ)} (count : ℕ) → TellsSize size told → count ≤ size → IsInside 0 count told
inside_first count tells few bytes is = let sized = tells bytes is in omega (arith, sized, few)

sized_first : (count size : ℕ) (room : List ℕ) → count ≡ min size 131072 → length room ≡ 131072 → length (take count room) ≡ min size 131072
sized_first count size room is sized = omega (arith, length-take count room, is, sized)

pub reads_first-is_open-requires-clause-inside : goal.reads_first-is_open-requires-clause-inside
reads_first-is_open-requires-clause-inside g c = inside_first _ c.requires.sized (omega (arith, c.min-count.ensures, c.size.ensures))

pub returns : goal.returns
returns g c =
    let count = c.min-count.result in
    let room = c.reads_first-is_open.new.room in
    let sized : length room ≡ 131072 = omega (arith, c.reads_first-is_open.ensures.sized, ap length c.deref_mut.ensures.value, c.requires.room) in
    let kept : (with_items c.args.room room).items ≡ room =
    with_items_is c.args.room room (omega (arith, c.reads_first-is_open.ensures.sized, c.deref_mut.ensures.len)) in
    let first = λ (there : c.reads_first-is_open.result ≡ true). c.first_held-bytes.ensures.opened there ∙ ap (take count) kept in
    record {
      out = take count room;
      read = c.reads_first-is_open.ensures.notes;
      opened = first;
      sized = λ there. ap length (first there) ∙ sized_first count (g.F.ByteFile.length_at_first c.args.file) room (c.min-count.ensures ∙ ap (λ n. min n 131072) c.size.ensures) sized;
      as_told = λ there. subst (λ (bytes : List ℕ). GivesBytes 0 bytes (g.F.ByteFile.told c.args.file)) (sym (first there)) (c.reads_first-is_open.ensures.bytes there);
      none = c.first_held-bytes.ensures.none;
      as_written = refl;
    }
