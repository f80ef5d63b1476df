use Rattle.std.specs.Int.{w16, from_be_bytes}
use Rattle.std.proofs.Common.{◌≡◌, ℕ, ◌+◌, ◌*◌, ◌/◌, ◌%◌, ◌^◌, ◌<◌, List, [], ◌∷◌, get_or, sym, ap, ◌∙◌, arith}
use Rattle.std.proofs.lemmas.Bool.{false≢true}
use Rattle.basics.specs.Numbers.{bytes_of}
use Rattle.cell_store.specs.declared.kinds.Version.TheVariants.{One}
use Rattle.cell_store.specs.Layout.{header, twin_layout}
use Rattle.store_plan.proofs.growing.count_in.Goals as goal

-- where a header has its number of cells
number_of_head : (n : ℕ) (head : List ℕ) → n < 2 ^ 16 → head ≡ header (twin_layout One) n → n ≡ 256 * get_or head 10 0 + get_or head 11 0
unfolding header bytes_of
number_of_head n head small e =
    let high : get_or head 10 0 ≡ n / 256 ^ 1 % 256 = ap (λ l. get_or l 10 0) e in
    let low : get_or head 11 0 ≡ n / 256 ^ 0 % 256 = ap (λ l. get_or l 11 0) e in
    omega arith

number_there : (n count : ℕ) (head : List ℕ) → n < 2 ^ 16 → head ≡ header (twin_layout One) n → count ≡ from_be_bytes w16 (get_or head 10 0 ∷ get_or head 11 0 ∷ []) → n ≡ count
number_there n count head small e read =
    let f : from_be_bytes w16 (get_or head 10 0 ∷ get_or head 11 0 ∷ []) ≡ 256 * get_or head 10 0 + get_or head 11 0 = omega arith in
    omega (arith, number_of_head n head small e, read, f)

pub returns-then-count-lt1 : goal.returns-then-count-lt1
returns-then-count-lt1 c = λ n few e.
    let same : n ≡ c.from_be_bytes-count.result = number_there n c.from_be_bytes-count.result c.args.head.now (let m = few.most in omega arith) e c.from_be_bytes-count.ensures in
    absurd (omega (arith, few.some, few.most, same))

pub returns-else-is_header : goal.returns-else-is_header
returns-else-is_header c = λ n few e.
    let same : n ≡ c.from_be_bytes-count.result = number_there n c.from_be_bytes-count.result c.args.head.now (let m = few.most in omega arith) e c.from_be_bytes-count.ensures in
    false≢true (sym c.if-is_header.false ∙ c.is_header.ensures.1 (e ∙ ap (header (twin_layout One)) same))
