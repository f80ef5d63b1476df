-- How many banks a start, a put and a move erase.
use Rattle.std.proofs.Common.{◌≡◌, ℕ, zero, suc, ◌+◌, Bool, true, false, nat_lt, if◌then◌else◌, Option, Some, None, List, [], ◌∷◌, ◌++◌, refl, ap, ◌∙◌, arith}
use Rattle.seal_parts.specs.declared.PartClass.{PartClass}
use Rattle.seal_parts.specs.declared.PartClass.TheVariants.{Guards, Blanks, Settled}
use Rattle.seal_parts.specs.declared.SealLine.{SealLine}
use Rattle.seal_parts.specs.declared.DeedBody.{DeedBody}
use Rattle.seal_parts.specs.declared.DeedBody.TheVariants.{Opens, Puts, Moves, IsNew}
use Rattle.seal_parts.specs.Designs.{PartWrite, erases_bank, programs_unit}
use Rattle.seal_logs.specs.declared.starting.FoundStore.{FoundStore}
use Rattle.seal_logs.specs.Starts.{IsMove}
use Rattle.seal_laws.specs.declared.SealSizes.{SealSizes}
use Rattle.seal_laws.specs.declared.SealPoint.{SealPoint}
use Rattle.seal_laws.specs.Writes.{seal_line, deed_of, deed_writes, cell_writes, copy_writes, opening_writes, bank_after, move_deed, move_writes, put_deed, put_writes, restate_writes, open_writes, start_writes, erases_begun_by}

erases_both : (xs ys : List PartWrite) → erases_begun_by (xs ++ ys) ≡ erases_begun_by xs + erases_begun_by ys
erases_both [] ys = (let e : erases_begun_by ys ≡ 0 + erases_begun_by ys = omega arith in e)
erases_both (erases_bank bank ∷ xs) ys = (let h = erases_both xs ys in let e : suc (erases_begun_by (xs ++ ys)) ≡ suc (erases_begun_by xs) + erases_begun_by ys = omega (arith, h) in e)
erases_both (programs_unit bank place kind content ∷ xs) ys = erases_both xs ys

deed_erases : (class : PartClass) (bank k : ℕ) (line : SealLine) → erases_begun_by (deed_writes class bank k line) ≡ 0
deed_erases Guards bank k line = refl
deed_erases Blanks bank k line = refl
deed_erases Settled bank k line = refl

cells_erase : (bank g i : ℕ) (cells : List (List ℕ)) → erases_begun_by (cell_writes bank g i cells) ≡ 0
cells_erase bank g i [] = refl
cells_erase bank g i (cell ∷ cells) = cells_erase bank g (suc i) cells

opening_erases : (class : PartClass) (bank g next : ℕ) (last : Option ℕ) (count : ℕ) → erases_begun_by (opening_writes class bank g next last count) ≡ 0
opening_erases class bank g next last zero = refl
opening_erases class bank g next last (suc count) =
    let x = erases_both (deed_writes class bank next (seal_line g (deed_of last Opens))) (opening_writes class bank g (suc next) (Some next) count) in
    let y = deed_erases class bank next (seal_line g (deed_of last Opens)) in
    let z = opening_erases class bank g (suc next) (Some next) count in
    omega (arith, x, y, z)

restate_erases : (class : PartClass) (f : FoundStore) (c : Bool) → erases_begun_by (if c then [] else deed_writes class f.latest.bank f.next (seal_line f.latest.generation f.latest.deed)) ≡ 0
restate_erases class f true = refl
restate_erases class f false = deed_erases class f.latest.bank f.next (seal_line f.latest.generation f.latest.deed)

open_if : (class : PartClass) (s : SealSizes) (f : FoundStore) (c : Bool) → erases_begun_by (if c then deed_writes class f.home f.home_next (seal_line f.generation (deed_of None Opens)) else []) ≡ 0
open_if class s f true = deed_erases class f.home f.home_next (seal_line f.generation (deed_of None Opens))
open_if class s f false = refl

open_erases : (class : PartClass) (s : SealSizes) (f : FoundStore) (body : DeedBody) → erases_begun_by (open_writes class s f body) ≡ 0
open_erases class s f (Moves to next) = open_if class s f (nat_lt s.log.cells f.home_next)
open_erases class s f Opens = refl
open_erases class s f (Puts cell payload) = refl
open_erases class s f IsNew = refl

pub start_erases : (class : PartClass) (s : SealSizes) (f : FoundStore) → erases_begun_by (start_writes class s f) ≡ 0
start_erases class s f =
    let x = erases_both (restate_writes class f) (open_writes class s f f.latest.deed.body) in
    let y = restate_erases class f f.is_clean in
    let z = open_erases class s f f.latest.deed.body in
    omega (arith, x, y, z)

open_none : (class : PartClass) (s : SealSizes) (f : FoundStore) (body : DeedBody) → (IsMove body → ⊥) → open_writes class s f body ≡ []
open_none class s f (Moves to next) still = absurd (still tt)
open_none class s f Opens still = refl
open_none class s f (Puts cell payload) still = refl
open_none class s f IsNew still = refl

pub clean_writes : (class : PartClass) (s : SealSizes) (f : FoundStore) → f.is_clean ≡ true → (IsMove f.latest.deed.body → ⊥) → start_writes class s f ≡ []
clean_writes class s f clean still =
    ap (λ (c : Bool). (if c then [] else deed_writes class f.latest.bank f.next (seal_line f.latest.generation f.latest.deed)) ++ open_writes class s f f.latest.deed.body) clean
    ∙ open_none class s f f.latest.deed.body still

pub put_erases : (class : PartClass) (p : SealPoint) (cell : ℕ) (payload : List ℕ) → erases_begun_by (put_writes class p cell payload) ≡ 0
put_erases class p cell payload = deed_erases class p.bank p.next (seal_line p.generation (put_deed p cell payload))

pub move_erases : (class : PartClass) (s : SealSizes) (p : SealPoint) (cells : List (List ℕ)) → erases_begun_by (move_writes class s p cells) ≡ 1
move_erases class s p cells =
    let deed = deed_writes class p.bank (p.next + p.lacking) (seal_line p.generation (move_deed s p)) in
    let copy = copy_writes (bank_after s.log.banks p.bank) (suc p.generation) cells in
    let x = erases_both (opening_writes class p.bank p.generation p.next p.last p.lacking) (copy ++ deed) in
    let y = erases_both copy deed in
    let z = opening_erases class p.bank p.generation p.next p.last p.lacking in
    let v = cells_erase (bank_after s.log.banks p.bank) (suc p.generation) 0 cells in
    let w = deed_erases class p.bank (p.next + p.lacking) (seal_line p.generation (move_deed s p)) in
    omega (arith, x, y, z, v, w)
