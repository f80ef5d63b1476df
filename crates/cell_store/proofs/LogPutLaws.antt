-- After a finished put of a log store the bytes stand for the list with the new cell.
use Rattle.std.proofs.Common.{◌≡◌, ℕ, zero, suc, ◌+◌, ◌*◌, ◌<◌, ◌≤◌, inl, inr, List, [], length, set, refl, sym, ap, subst, ◌∙◌, arith, length-drop}
use Rattle.std.proofs.lemmas.List.FromFn.{get_or-map-range_with_len, length-map-range_with_len}
use Rattle.std.proofs.lemmas.Bool.{cases_lt}
use Rattle.cut_disk.specs.Images.{splice}
use Rattle.cell_store.specs.declared.kinds.Version.{Version}
use Rattle.cell_store.specs.Layout.{base, from_base, log_layout}
use Rattle.cell_store.specs.declared.copies.Side.{Side}
use Rattle.cell_store.specs.declared.banks.Bank.{Bank}
use Rattle.cell_store.proofs.LayoutLaws.{length-part}
use Rattle.cell_store.specs.Twin.{is_live, mark, next}
use Rattle.cell_store.specs.Copies.{other}
use Rattle.cell_store.specs.Log.{log_size, bank_at, bank_head, bank_cell, place_at, place, content, listed, live_record, live_bank}
use Rattle.cell_store.proofs.LogLaws.{bank_bounds}
use Rattle.cell_store.proofs.BankLaws.{Sized-set}
use Rattle.cell_store.proofs.FreshLaws.{Sized}
use Rattle.cell_store.specs.Store.{FewCells, HoldsCells, Stands, LogPut}
use Rattle.cell_store.proofs.StoreLaws.{header-number, bank_once, used_once}
use Rattle.cell_store.specs.LogKept.{HoldsInBank, KeepsLog}
use Rattle.cell_store.proofs.LogKeptLaws.{log-stands, append-keeps}
use Rattle.cell_store.proofs.RefillKept.{refill-keeps}

-- the cells of a bank, with so many of its records, have 32 bytes each
pub Sized-listed : (n : ℕ) (side : Side) (x : List ℕ) (used : ℕ) → log_size n ≤ length x → used ≤ 64 → Sized (listed n side x used)
Sized-listed n side x zero room most = λ i l.
    let b = bank_bounds n side in
    let small : i < n = omega (arith, length-map-range_with_len (bank_cell n side x) 0 n) in
    ap length (get_or-map-range_with_len (bank_cell n side x) 0 n i i [] small (omega arith)) ∙ length-part (bank_at n side + 2 + 32 * i) 32 x (omega arith)
Sized-listed n side x (suc used) room most =
    let b = bank_bounds n side in
    let one : length (content (place n side x used)) ≡ 32 = (let p = length-part (place_at n side used) 35 x (omega arith) in let d = length-drop 3 (place n side x used) in omega arith) in
    Sized-set (listed n side x used) _ (content (place n side x used)) (Sized-listed n side x used room (omega arith)) one

-- the other bank holds all cells
abbrev Refilled : Version → List ℕ → List ℕ → ℕ → List ℕ → ℕ → Side → ℕ → Type 0
Refilled version x y i c n side used = y ≡ splice (base version + bank_at n (other side)) (live_bank (next (mark (bank_head n side (from_base version x)))) (set (listed n side (from_base version x) used) i c)) x

-- what stands, in the bank that counts and its places
record LogStands (version : Version) (x : List ℕ) (cells : List (List ℕ)) : Type 0 where
  few : FewCells (length cells)
  side : Side
  used : ℕ
  holds : HoldsInBank version (length cells) (from_base version x) cells side used

in-bank : (version : Version) (x : List ℕ) (cells : List (List ℕ)) → Stands (log_layout version) x cells → LogStands version x cells
unfolding HoldsCells
in-bank version x cells s =
    let h = s.holds in
    record {
      few = s.few;
      side = h.side;
      used = h.used;
      holds = record {
        count = refl;
        room = (let r = s.room in omega (arith, length-drop (base version) x));
        head = s.head;
        counting = h.counting;
        places = h.places;
        list = h.list;
      };
    }

module _ (version : Version) (x y : List ℕ) (cells : List (List ℕ)) (i : ℕ) (c : List ℕ) (s : LogStands version x cells) (below : i < length cells) (one : length c ≡ 32) (p : LogPut version x i c y) where
  n : ℕ
  n = length cells

  bank : Bank
  bank = record { side = s.side; mark = mark (bank_head (length cells) s.side (from_base version x)); used = s.used; spare_is_live = is_live (bank_head (length cells) (other s.side) (from_base version x)) }

  keeps : KeepsLog version (length cells) x cells (record { side = s.side; mark = mark (bank_head (length cells) s.side (from_base version x)); used = s.used; spare_is_live = is_live (bank_head (length cells) (other s.side) (from_base version x)) })
  keeps = record { holds = s.holds; marked = refl; spare = refl }

  sized : Sized cells
  sized = subst (λ l. Sized l) s.holds.list (Sized-listed (length cells) s.side (from_base version x) s.used s.holds.room s.holds.places.most)

  as-many : p.count ≡ length cells
  as-many = header-number (log_layout version) (log_layout version) _ _ (let f = p.few in omega arith) (let f = s.few in omega arith) (sym p.head ∙ s.holds.head)

  same-side : p.side ≡ s.side
  same-side = bank_once (length cells) (from_base version x) p.side s.side (rw as-many at p.counting) s.holds.counting

  same-used : p.used ≡ s.used
  same-used = used_once (length cells) s.side (from_base version x) p.used s.used (rw (as-many, same-side) at p.places) s.holds.places

  stands-after : Stands (log_layout version) y (set cells i c)
  stands-after = elim (cases_lt s.used 64) [
    | inl free ↦
        (let e : y ≡ splice (base version + place_at (length cells) s.side s.used) (live_record i c) x = (rw (as-many, same-side, same-used) at p.appended) free in
        let k = append-keeps version (length cells) x cells _ i c s.few keeps free below one in
        subst (λ (z : List ℕ). Stands (log_layout version) z (set cells i c)) (sym e) (log-stands version (length cells) _ (set cells i c) s.side (s.used + 1) s.few k.holds))
    | inr full ↦
        (let e : y ≡ splice (base version + bank_at (length cells) (other s.side)) (live_bank (next (mark (bank_head (length cells) s.side (from_base version x)))) (set (listed (length cells) s.side (from_base version x) s.used) i c)) x = subst (λ u. Refilled version x y i c (length cells) s.side u) same-used (subst (λ a. Refilled version x y i c (length cells) a p.used) same-side (subst (λ m. Refilled version x y i c m p.side p.used) as-many (p.refilled (omega (arith, same-used))))) in
        let f : y ≡ splice (base version + bank_at (length cells) (other s.side)) (live_bank (next (mark (bank_head (length cells) s.side (from_base version x)))) (set cells i c)) x = e ∙ ap (λ (l : List (List ℕ)). splice (base version + bank_at (length cells) (other s.side)) (live_bank (next (mark (bank_head (length cells) s.side (from_base version x)))) (set l i c)) x) s.holds.list in
        let k = refill-keeps version (length cells) x cells _ i c s.few keeps sized one in
        subst (λ (z : List ℕ). Stands (log_layout version) z (set cells i c)) (sym f) (log-stands version (length cells) _ (set cells i c) (other s.side) 0 s.few k.holds))
  ]

pub log_put-stands : (version : Version) (x y : List ℕ) (cells : List (List ℕ)) (i : ℕ) (c : List ℕ) → Stands (log_layout version) x cells → i < length cells → length c ≡ 32 → LogPut version x i c y → Stands (log_layout version) y (set cells i c)
log_put-stands version x y cells i c stands below sized put = stands-after version x y cells i c (in-bank version x cells stands) below sized put
