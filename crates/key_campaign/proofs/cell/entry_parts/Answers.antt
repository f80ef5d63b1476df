-- The parts of the cell of an entry, if it is one.
use Rattle.std.proofs.Common.{◌≡◌, ◌^◌, ◌<◌, ◌∷◌, [], List, ℕ, refl, sym, get_or, ◌∙◌, arith}
use Rattle.std.specs.Prelude.{Bool, Some, nat_eq}
use Rattle.basics.proofs.CallerLemmas.{from_be_bytes-32}
use Rattle.key_campaign.specs.declared.entries.LedgerEntry.{LedgerEntry}
use Rattle.key_campaign.proofs.Parts.{uid_is, id_is, counter_is, state_is, told_bit}
use Rattle.key_campaign.proofs.cell.entry_parts.Goals as goal

pub returns-in_err-id-clause-whole : goal.returns-in_err-id-clause-whole
returns-in_err-id-clause-whole c e h =
    let is = id_is _ e h.cell_is h.is_place.is_unit.0.size in
    absurd (c.in_err-id.ensures (let fits : get_or c.args.cell.now 16 0 < 14 = omega (arith, is, h.is_place.id_to_13) in fits))

pub returns-in_err-counter-clause-whole : goal.returns-in_err-counter-clause-whole
returns-in_err-counter-clause-whole c e h =
    let is = c.from_be_bytes.ensures ∙ from_be_bytes-32 (get_or c.args.cell.now 17 0 ∷ get_or c.args.cell.now 18 0 ∷ get_or c.args.cell.now 19 0 ∷ get_or c.args.cell.now 20 0 ∷ []) refl
    ∙ counter_is _ e h.cell_is h.is_place.is_unit.0.size (omega (arith, h.is_place.counter_fits)) in
    absurd (c.in_err-counter.ensures (let fits : c.from_be_bytes.result < 2 ^ 28 = omega (arith, is, h.is_place.counter_fits) in fits))

pub returns-then-is_zero-clause-whole : goal.returns-then-is_zero-clause-whole
returns-then-is_zero-clause-whole c e h =
    let is = c.of-uid.ensures.value ∙ c.copy_from_slice.ensures.after ∙ uid_is _ e h.cell_is h.is_place.is_unit.0.size in
    absurd (h.is_place.is_unit.1 (sym is ∙ c.if-is_zero.ensures.zero.0 refl))

pub returns-then-number-eq0-clause-whole : goal.returns-then-number-eq0-clause-whole
returns-then-number-eq0-clause-whole c e h =
    let is = id_is _ e h.cell_is h.is_place.is_unit.0.size in
    absurd (omega (arith, is, c.in_ok-id.ensures.1, c.number.ensures.value, c.if-number-eq0.true, h.is_place.id_from_1))

pub returns-then-number-eq0-2-clause-whole : goal.returns-then-number-eq0-2-clause-whole
returns-then-number-eq0-2-clause-whole c e h =
    let is = c.from_be_bytes.ensures ∙ from_be_bytes-32 (get_or c.args.cell.now 17 0 ∷ get_or c.args.cell.now 18 0 ∷ get_or c.args.cell.now 19 0 ∷ get_or c.args.cell.now 20 0 ∷ []) refl
    ∙ counter_is _ e h.cell_is h.is_place.is_unit.0.size (omega (arith, h.is_place.counter_fits)) in
    absurd (omega (arith, is, c.in_ok-counter.ensures.1, c.number-2.ensures.value, c.if-number-eq0-2.true, h.is_place.counter_from_1))

pub returns-clause-whole : goal.returns-clause-whole
returns-clause-whole c e h =
    let size = h.is_place.is_unit.0.size in
    let uid : c.of-uid.result ≡ e.uid = c.of-uid.ensures.value ∙ c.copy_from_slice.ensures.after ∙ uid_is _ e h.cell_is size in
    let id : c.in_ok-id.id ≡ e.id = c.in_ok-id.ensures.1 ∙ id_is _ e h.cell_is size in
    let counter : c.in_ok-counter.counter ≡ e.counter =
    c.in_ok-counter.ensures.1 ∙ c.from_be_bytes.ensures
    ∙ from_be_bytes-32 (get_or c.args.cell.now 17 0 ∷ get_or c.args.cell.now 18 0 ∷ get_or c.args.cell.now 19 0 ∷ get_or c.args.cell.now 20 0 ∷ []) refl
    ∙ counter_is _ e h.cell_is size (omega (arith, h.is_place.counter_fits)) in
    let Make : List ℕ → ℕ → ℕ → Bool → LedgerEntry = λ u i n b. record { uid = u; id = i; counter = n; confirmed = b } in
    let byte : ℕ = get_or c.args.cell.now 21 0 in
    let confirmed : nat_eq byte 1 ≡ e.confirmed = told_bit byte e.confirmed (state_is _ e h.cell_is size) in
    let all : Some (Make c.of-uid.result c.in_ok-id.id c.in_ok-counter.counter (nat_eq byte 1)) ≡ Some (Make e.uid e.id e.counter e.confirmed) =
    rw (uid, id, counter, confirmed) refl in
    all
