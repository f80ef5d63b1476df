-- A fresh store stands for its cells, of either kind.
use Rattle.std.proofs.Common.{◌≡◌, Option, Some, ℕ, suc, ◌+◌, ◌*◌, ◌≤◌, inl, List, [], ◌∷◌, ◌++◌, length, take, drop, replicate, refl, sym, ap, subst, ◌∙◌, arith, length-append}
use Rattle.std.proofs.lemmas.List.{take_at, drop_at, length-replicate}
use Rattle.cut_disk.specs.Images.{splice, firm}
use Rattle.cell_store.specs.declared.kinds.Kind.{Kind}
use Rattle.cell_store.specs.declared.kinds.Kind.TheVariants.{Twin, Log}
use Rattle.cell_store.specs.declared.kinds.Version.{Version}
use Rattle.cell_store.specs.declared.kinds.Layout.{Layout}
use Rattle.cell_store.specs.declared.copies.Side.TheVariants.{First, Second}
use Rattle.cell_store.specs.Layout.{part, base, from_base, header, log_layout}
use Rattle.cell_store.specs.Twin.{is_live}
use Rattle.cell_store.specs.Log.{log_size, bank_at, bank_head, BankCounts, live_bank, fresh_banks}
use Rattle.cell_store.specs.Store.{FewCells, Stands, size_from_base, store_size, fresh_cells, Fresh}
use Rattle.cut_disk.specs.State.{Told}
use Rattle.cell_store.specs.Formats.{FirmCells}
use Rattle.cell_store.proofs.LayoutLaws.{splice-at_base}
use Rattle.cell_store.proofs.TwinLaws.{counts-from}
use Rattle.cell_store.proofs.StoreLaws.{length-header}
use Rattle.cell_store.proofs.FreshLaws.{Sized, behind_head, at_head, twin_stands-fresh}
use Rattle.cell_store.proofs.BankLaws.{length-bank_rest, whole-head, whole-holds}
use Rattle.cell_store.proofs.LogKeptLaws.{log-stands}

abbrev pub second_bank : ℕ → List ℕ
second_bank n = 0 ∷ 2 ∷ replicate (2240 + 32 * n) 0

pub length-live_bank : (cells : List (List ℕ)) → Sized cells → length (live_bank 0 cells) ≡ 2242 + 32 * length cells
length-live_bank cells sized = let e = length-bank_rest 0 cells (length cells) sized refl in omega arith

pub length-second_bank : (n : ℕ) → length (second_bank n) ≡ 2242 + 32 * n
length-second_bank n = let e = length-replicate {A = ℕ} (2240 + 32 * n) 0 in omega arith

pub length-fresh_banks : (cells : List (List ℕ)) → Sized cells → length (fresh_banks cells) ≡ 4484 + 64 * length cells
length-fresh_banks cells sized =
    length-append (live_bank 0 cells) (second_bank (length cells)) ∙ omega (arith, length-live_bank cells sized, length-second_bank (length cells))

-- the banks of a fresh log store, after a header
module _ (cells : List (List ℕ)) (h r : List ℕ) (sized : Sized cells) (head : length h ≡ 32) where
  store : List ℕ
  store = h ++ fresh_banks cells ++ r

  wide : length (fresh_banks cells) ≡ 4484 + 64 * length cells
  wide = length-fresh_banks cells sized

  pub first-bank : part (bank_at (length cells) First) (suc (2241 + 32 * length cells)) (h ++ fresh_banks cells ++ r) ≡ live_bank 0 cells
  first-bank =
      (let e : suc (2241 + 32 * length cells) ≡ 2242 + 32 * length cells = omega arith in ap (λ k. part 32 k (h ++ fresh_banks cells ++ r)) e)
      ∙ behind_head h (fresh_banks cells) r 32 0 (2242 + 32 * length cells) head (omega (arith, wide))
      ∙ take_at (live_bank 0 cells) (second_bank (length cells)) (2242 + 32 * length cells) (length-live_bank cells sized)

  second-head : bank_head (length cells) Second (h ++ fresh_banks cells ++ r) ≡ 0 ∷ 2 ∷ []
  second-head =
      (let e : 2274 + 32 * length cells ≡ 32 + (2242 + 32 * length cells) = omega arith in ap (λ k. part k 2 (h ++ fresh_banks cells ++ r)) e)
      ∙ behind_head h (fresh_banks cells) r 32 (2242 + 32 * length cells) 2 head (omega (arith, wide))
      ∙ ap (take 2) (drop_at (live_bank 0 cells) (second_bank (length cells)) (2242 + 32 * length cells) (length-live_bank cells sized))

  pub long-enough : log_size (length cells) ≤ length (h ++ fresh_banks cells ++ r)
  long-enough = omega (arith, wide, length-append (h ++ fresh_banks cells) r, length-append h (fresh_banks cells))

  pub first-counts : BankCounts (length cells) First (h ++ fresh_banks cells ++ r)
  unfolding is_live
  first-counts =
      rw (whole-head (length cells) 0 cells sized refl First (h ++ fresh_banks cells ++ r) long-enough first-bank, second-head)
      (counts-from (0xa7 ∷ 0 ∷ []) (0 ∷ 2 ∷ []) (record { live = refl; small = omega arith; after = inl refl }))

log-fresh : (version : Version) (cells : List (List ℕ)) (x : List ℕ) → FewCells (length cells) → store_size (log_layout version) (length cells) ≤ length x → Sized cells
    → Stands (log_layout version) (splice (base version) (header (log_layout version) (length cells) ++ fresh_banks cells) x) cells
log-fresh version cells x few room sized =
    let h = header (log_layout version) (length cells) in
    let f = fresh_banks cells in
    let r = drop (base version + length (h ++ f)) x in
    let head : length (header (log_layout version) (length cells)) ≡ 32 = length-header (log_layout version) (length cells) in
    let from : from_base version (splice (base version) (h ++ f) x) ≡ h ++ f ++ r = splice-at_base (base version) (h ++ f) x (omega arith) in
    log-stands version (length cells) (splice (base version) (h ++ f) x) cells First 0 few
    (rw from (whole-holds (length cells) 0 cells sized refl First (h ++ f ++ r) (long-enough cells h r sized head) (first-bank cells h r sized head) version (at_head h f r 32 head) (first-counts cells h r sized head)))

by_kind : (kind : Kind) (version : Version) (cells : List (List ℕ)) (x y : List ℕ) → FewCells (length cells) → store_size (record { kind = kind; version = version }) (length cells) ≤ length x → Sized cells
    → Fresh (record { kind = kind; version = version }) cells x y → Stands (record { kind = kind; version = version }) y cells
unfolding Fresh fresh_cells
by_kind Twin version cells x y few room sized fresh = twin_stands-fresh version cells x y few room sized fresh
by_kind Log version cells x y few room sized fresh = subst (λ (z : List ℕ). Stands (log_layout version) z cells) (sym fresh) (log-fresh version cells x few room sized)

pub fresh_stands : (layout : Layout) (cells : List (List ℕ)) (x y : List ℕ) → FewCells (length cells) → store_size layout (length cells) ≤ length x → Sized cells → Fresh layout cells x y → Stands layout y cells
fresh_stands layout cells x y few room sized fresh = by_kind layout.kind layout.version cells x y few room sized fresh

-- what stands after the header has the rest of the store's size
pub length-fresh_log : (cells : List (List ℕ)) → Sized cells → length (fresh_cells Log cells) ≡ 4484 + 64 * length cells
unfolding fresh_cells
length-fresh_log cells sized = length-fresh_banks cells sized

pub fresh_banks-cells : (version : Version) (cells : List (List ℕ)) (old new : Option Told) → ((t : Told) → old ≡ Some t → new ≡ Some (firm (splice (base version + 32) (fresh_banks cells) t.bytes))) → FirmCells (log_layout version) cells old new
unfolding fresh_cells
fresh_banks-cells version cells old new banks = banks

pub log-rest : (n : ℕ) → size_from_base Log n ≡ 32 + (4484 + 64 * n)
log-rest n = omega arith
