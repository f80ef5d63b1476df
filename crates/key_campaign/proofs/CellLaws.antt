-- A cell is one place, and has 32 bytes.
use Rattle.std.proofs.Common.{◌≡◌, ℕ, suc, ◌<◌, List, [], ◌∷◌, ◌++◌, map, get_or, All, replicate, refl, sym, ap, ◌∙◌, arith, length-append, lit<}
use Rattle.std.specs.Prelude.{Option, None, Some, Bool, true, false}
use Rattle.std.proofs.lemmas.List.Elements.{All-cons, All-append, All-replicate}
use Rattle.basics.specs.Bytes.{IsBytes}
use Rattle.basics.specs.Numbers.{bytes_of}
use Rattle.basics.proofs.CallerLemmas.{IsBytes-bytes_of}
use Rattle.key_slots.specs.Flags.{bit}
use Rattle.key_campaign.specs.declared.entries.LedgerEntry.{LedgerEntry}
use Rattle.key_campaign.specs.Entries.{IsEntry, AreLedgerEntries}
use Rattle.key_campaign.specs.Cell.{place_cell, IsLedgerPlace, HoldsPlace, HoldEntries}
use Rattle.key_campaign.proofs.Parts.{first_is, empty_first, uid_is, id_is, counter_is, state_is, same_bit}

pub one_entry : (cell : List ℕ) (e f : LedgerEntry) → IsEntry e → IsEntry f → cell ≡ place_cell (Some e) → cell ≡ place_cell (Some f) → e ≡ f
one_entry cell e f is_e is_f at_e at_f =
    let size_e = is_e.is_unit.0.size in
    let size_f = is_f.is_unit.0.size in
    let uid : e.uid ≡ f.uid = sym (uid_is cell e at_e size_e) ∙ uid_is cell f at_f size_f in
    let id : e.id ≡ f.id = sym (id_is cell e at_e size_e) ∙ id_is cell f at_f size_f in
    let counter : e.counter ≡ f.counter =
    sym (counter_is cell e at_e size_e (omega (arith, is_e.counter_fits))) ∙ counter_is cell f at_f size_f (omega (arith, is_f.counter_fits)) in
    let confirmed : e.confirmed ≡ f.confirmed = same_bit e.confirmed f.confirmed (sym (state_is cell e at_e size_e) ∙ state_is cell f at_f size_f) in
    let Make : List ℕ → ℕ → ℕ → Bool → LedgerEntry = λ u i c b. record { uid = u; id = i; counter = c; confirmed = b } in
    let all : Make e.uid e.id e.counter e.confirmed ≡ Make f.uid f.id f.counter f.confirmed = rw (uid, id, counter, confirmed) refl in
    all

pub one_place : (cell : List ℕ) (place other : Option LedgerEntry) → HoldsPlace cell place → HoldsPlace cell other → place ≡ other
one_place cell None None h k = refl
one_place cell None (Some f) h k = absurd (omega (arith, empty_first cell h.cell_is, first_is cell f k.cell_is))
one_place cell (Some e) None h k = absurd (omega (arith, empty_first cell k.cell_is, first_is cell e h.cell_is))
one_place cell (Some e) (Some f) h k = ap Some (one_entry cell e f h.is_place k.is_place h.cell_is k.cell_is)

-- what stands at each place is a place
pub place_at : (entries : List (Option LedgerEntry)) → AreLedgerEntries entries → (k : ℕ) (place : Option LedgerEntry) → get_or entries k None ≡ place → IsLedgerPlace place
place_at entries all k None at = tt
place_at entries all k (Some e) at = all.are k e at

same_places : (places others : List (Option LedgerEntry)) → ((k : ℕ) → IsLedgerPlace (get_or places k None)) → ((k : ℕ) → IsLedgerPlace (get_or others k None))
    → map place_cell places ≡ map place_cell others → places ≡ others
same_places [] [] h k e = refl
same_places [] (other ∷ others) h k e = cc
same_places (place ∷ places) [] h k e = cc
same_places (place ∷ places) (other ∷ others) h k e =
    let front : place_cell place ≡ place_cell other = cc in
    let back : map place_cell places ≡ map place_cell others = cc in
    let one : place ≡ other = one_place (place_cell place) place other (record { is_place = h 0; cell_is = refl }) (record { is_place = k 0; cell_is = front }) in
    let rest : places ≡ others = same_places places others (λ n. h (suc n)) (λ n. k (suc n)) back in
    rw (one, rest) refl

pub one_ledger : (cells : List (List ℕ)) (entries others : List (Option LedgerEntry)) → HoldEntries cells entries → HoldEntries cells others → entries ≡ others
one_ledger cells entries others h k =
    same_places entries others (λ n. place_at entries h.entries_are n (get_or entries n None) refl) (λ n. place_at others k.entries_are n (get_or others n None) refl)
    (sym h.cells_are ∙ k.cells_are)

bit_fits : (b : Bool) → bit b < 256
bit_fits true = omega arith
bit_fits false = omega arith

pub cell_bytes : (place : Option LedgerEntry) → IsLedgerPlace place → IsBytes 32 (place_cell place)
unfolding place_cell
cell_bytes None is = record { size = refl; bytes = All-replicate (λ b. b < 256) 32 0 (lit< tt) }
cell_bytes (Some e) is =
    let B : ℕ → Type 0 = λ b. b < 256 in
    let count = IsBytes-bytes_of 4 e.counter in
    let uid = is.is_unit.0 in
    let zeros : List ℕ = bit e.confirmed ∷ replicate 10 0 in
    let zeros_are : All B zeros = All-cons B (bit e.confirmed) (replicate 10 0) (bit_fits e.confirmed) (All-replicate B 10 0 (lit< tt)) in
    let numbers_are : All B (e.id ∷ bytes_of 4 e.counter) = All-cons B e.id (bytes_of 4 e.counter) (omega (arith, is.id_to_13)) count.bytes in
    let behind_are : All B (e.id ∷ bytes_of 4 e.counter ++ zeros) = All-append B (e.id ∷ bytes_of 4 e.counter) zeros numbers_are zeros_are in
    record {
      size = omega (arith, length-append e.uid (e.id ∷ bytes_of 4 e.counter ++ zeros), length-append (bytes_of 4 e.counter) zeros, count.size, uid.size);
      bytes = All-cons B 3 (e.uid ++ (e.id ∷ bytes_of 4 e.counter ++ zeros)) (lit< tt) (All-append B e.uid (e.id ∷ bytes_of 4 e.counter ++ zeros) uid.bytes behind_are);
    }
