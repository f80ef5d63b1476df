-- What the parts of a cell are, if it is the cell of an entry.
use Rattle.std.proofs.Common.{◌≡◌, ℕ, ◌+◌, ◌^◌, ◌<◌, List, [], ◌∷◌, ◌++◌, length, get_or, take, drop, replicate, refl, sym, ap, ◌∙◌, arith}
use mir.Val.{bool_byte}
use Rattle.std.specs.Prelude.{Bool, true, false, None, Some, nat_eq}
use Rattle.std.proofs.lemmas.List.{get_or-drop}
use Rattle.std.proofs.Math.Seq.{take-append_seam, drop-append_seam}
use Rattle.basics.specs.Numbers.{number_of, bytes_of}
use Rattle.basics.proofs.CallerLemmas.{number_of-bytes_of-lt}
use Rattle.key_slots.specs.Flags.{bit}
use Rattle.key_campaign.specs.declared.entries.LedgerEntry.{LedgerEntry}
use Rattle.key_campaign.specs.Cell.{place_cell}

-- what stands after the UID
abbrev pub behind : LedgerEntry → List ℕ
behind e = e.id ∷ bytes_of 4 e.counter ++ bit e.confirmed ∷ replicate 10 0

pub first_is : (cell : List ℕ) (e : LedgerEntry) → cell ≡ place_cell (Some e) → get_or cell 0 0 ≡ 3
unfolding place_cell
first_is cell e is = rw is refl

pub uid_is : (cell : List ℕ) (e : LedgerEntry) → cell ≡ place_cell (Some e) → length e.uid ≡ 15 → take 15 (drop 1 cell) ≡ e.uid
unfolding place_cell
uid_is cell e is size =
    ap (λ c. take 15 (drop 1 c)) is ∙ ap (λ n. take n (e.uid ++ behind e)) (sym size) ∙ take-append_seam e.uid (behind e)

pub rest_is : (cell : List ℕ) (e : LedgerEntry) → cell ≡ place_cell (Some e) → length e.uid ≡ 15 → drop 16 cell ≡ behind e
unfolding place_cell
rest_is cell e is size = ap (λ c. drop 16 c) is ∙ ap (λ n. drop n (e.uid ++ behind e)) (sym size) ∙ drop-append_seam e.uid (behind e)

-- ---- in what stands after the UID

at_rest : (cell : List ℕ) (e : LedgerEntry) (k : ℕ) → cell ≡ place_cell (Some e) → length e.uid ≡ 15 → get_or cell (16 + k) 0 ≡ get_or (behind e) k 0
at_rest cell e k is size = sym (get_or-drop 16 cell k 0) ∙ ap (λ xs. get_or xs k 0) (rest_is cell e is size)

pub id_is : (cell : List ℕ) (e : LedgerEntry) → cell ≡ place_cell (Some e) → length e.uid ≡ 15 → get_or cell 16 0 ≡ e.id
id_is cell e is size = at_rest cell e 0 is size

four_are : (cell : List ℕ) (e : LedgerEntry) → cell ≡ place_cell (Some e) → length e.uid ≡ 15
    → get_or cell 17 0 ∷ get_or cell 18 0 ∷ get_or cell 19 0 ∷ get_or cell 20 0 ∷ [] ≡ bytes_of 4 e.counter
unfolding bytes_of
four_are cell e is size = rw (at_rest cell e 1 is size, at_rest cell e 2 is size, at_rest cell e 3 is size, at_rest cell e 4 is size) refl

pub counter_is : (cell : List ℕ) (e : LedgerEntry) → cell ≡ place_cell (Some e) → length e.uid ≡ 15 → e.counter < 2 ^ 28
    → number_of (get_or cell 17 0 ∷ get_or cell 18 0 ∷ get_or cell 19 0 ∷ get_or cell 20 0 ∷ []) ≡ e.counter
counter_is cell e is size fits = ap number_of (four_are cell e is size) ∙ number_of-bytes_of-lt 4 e.counter (omega arith)

pub state_is : (cell : List ℕ) (e : LedgerEntry) → cell ≡ place_cell (Some e) → length e.uid ≡ 15 → get_or cell 21 0 ≡ bit e.confirmed
unfolding bytes_of
state_is cell e is size = at_rest cell e 5 is size

pub same_bit : (b c : Bool) → bit b ≡ bit c → b ≡ c
same_bit true true e = refl
same_bit false false e = refl
same_bit true false e = absurd (omega (arith, e))
same_bit false true e = absurd (omega (arith, e))

-- the byte that is made of a state
pub from_bool : (b : Bool) → bool_byte b ≡ bit b
from_bool true = refl
from_bool false = refl

-- and what a byte tells of it
pub told_bit : (byte : ℕ) (b : Bool) → byte ≡ bit b → nat_eq byte 1 ≡ b
told_bit byte true e = ap (λ n. nat_eq n 1) e
told_bit byte false e = ap (λ n. nat_eq n 1) e

pub empty_first : (cell : List ℕ) → cell ≡ place_cell None → get_or cell 0 0 ≡ 0
unfolding place_cell
empty_first cell e = rw e refl
