-- What a put that fills the bank that doesn't count makes of a log store.
use Rattle.std.proofs.Common.{◌≡◌, ℕ, suc, ◌+◌, ◌*◌, ◌≤◌, inl, inr, true, Option, Some, List, ◌∷◌, length, set, refl, sym, ap, subst, ◌∙◌, arith, length-drop}
use Rattle.std.proofs.lemmas.List.{length-set}
use Rattle.cut_disk.specs.State.{Told}
use Rattle.cut_disk.specs.Images.{splice, firm}
use Rattle.cut_disk.specs.Lasting.{Lasts}
use Rattle.cell_store.specs.declared.copies.Side.{Side}
use Rattle.cell_store.specs.declared.banks.Bank.{Bank}
use Rattle.cell_store.specs.declared.kinds.Version.{Version}
use Rattle.cell_store.specs.Layout.{part, SameOutside, base, from_base}
use Rattle.cell_store.proofs.LayoutLaws.{part-splice, SameOutside-splice, SameOutside-drop, part-drop}
use Rattle.cell_store.specs.Twin.{is_live, mark, next}
use Rattle.cell_store.proofs.TwinLaws.{counting, counts-beside_closed}
use Rattle.cell_store.specs.Copies.{other}
use Rattle.cell_store.proofs.CopiesLaws.{other-other}
use Rattle.cell_store.specs.Log.{bank_at, bank_head, bank_rest, live_bank}
use Rattle.cell_store.proofs.LogLaws.{bank_bounds}
use Rattle.cell_store.proofs.BankLaws.{part-part, length-bank_rest, Sized-set, same-head, holds-still, holds-refilled, new-head}
use Rattle.cell_store.proofs.FreshLaws.{Sized}
use Rattle.cell_store.specs.Store.{FewCells, LogPut}
use Rattle.cell_store.specs.Writing.{Unfinished, LeavesUnfinished, LeavesOutside}
use Rattle.cell_store.proofs.GateLaws.{is_live-wide, is_live-part, gated-lasts, gated-leaves}
use Rattle.cell_store.specs.LogKept.{KeepsLog, PutsLog, LogStandsForEither, LeavesEither, LogBesides}
use Rattle.cell_store.proofs.LogKeptLaws.{log-stands, within-besides}

-- the bank that counts after such a put
abbrev pub refilled : Bank → Bank
refilled bank = record { side = other bank.side; mark = next bank.mark; used = 0; spare_is_live = true }

module _ (version : Version) (n : ℕ) (x : List ℕ) (cells : List (List ℕ)) (bank : Bank) (i : ℕ) (c : List ℕ) (few : FewCells n) (k : KeepsLog version n x cells bank) (sized : Sized cells) (one : length c ≡ 32) where
  abbrev pub at : ℕ
  at = bank_at n (other bank.side)

  abbrev pub rest : List ℕ
  rest = bank_rest (next bank.mark) (set cells i c)

  inside : base version + (at + suc (2241 + 32 * n)) ≤ length x
  inside =
      let b = bank_bounds n (other bank.side) in
      let r = k.holds.room in
      let e = length-drop (base version) x in
      omega arith

  long : length rest ≡ 2241 + 32 * n
  long = length-bank_rest (next bank.mark) (set cells i c) n (Sized-set cells i c sized one) (length-set cells i c ∙ k.holds.count)

  live-is : 0xa7 ∷ rest ≡ live_bank (next (mark (bank_head n bank.side (from_base version x)))) (set cells i c)
  live-is = ap (λ m. live_bank (next m) (set cells i c)) (sym k.marked)

  now-is : (y : List ℕ) → length y ≡ length x → part at (suc (2241 + 32 * n)) (from_base version y) ≡ part (base version + at) (suc (2241 + 32 * n)) y
  now-is y e = part-drop (base version) at (suc (2241 + 32 * n)) y (let z = inside in omega arith)

  -- the head of the bank is a part of the bank
  head-of : (y : List ℕ) → length y ≡ length x → bank_head n (other bank.side) (from_base version y) ≡ part 0 2 (part (base version + at) (suc (2241 + 32 * n)) y)
  head-of y e =
      let room : at + suc (2241 + 32 * n) ≤ length (from_base version y) = (let z = inside in let d = length-drop (base version) y in omega arith) in
      (let f : at ≡ at + 0 = omega arith in ap (λ a. part a 2 (from_base version y)) f)
      ∙ (part-part at (suc (2241 + 32 * n)) 0 2 (from_base version y) (omega arith) room ∙ ap (part 0 2) (now-is y e))

  -- at each moment before its end
  pub refill-either : (y : List ℕ) → Unfinished (2241 + 32 * n) (base version + at) (0xa7 ∷ rest) x y → LogStandsForEither version i c cells y
  refill-either y u =
      let s : SameOutside at (suc (2241 + 32 * n)) (from_base version x) (from_base version y) = SameOutside-drop (base version) at (suc (2241 + 32 * n)) x y u.same in
      let e : length y ≡ length x = u.same.lengths in
      elim u.spare [
        | inl closed ↦ inl (log-stands version n y cells bank.side bank.used few (holds-still version n _ _ cells bank.side bank.used k.holds s
            (counts-beside_closed _ _ _ k.holds.counting
            (is_live-part 1 at (from_base version y) ∙ (sym (is_live-part (2241 + 32 * n) at (from_base version y)) ∙ (ap is_live (now-is y e) ∙ closed))))))
        | inr more ↦ elim more [
          | inl same ↦ inl (log-stands version n y cells bank.side bank.used few (holds-still version n _ _ cells bank.side bank.used k.holds s
              (rw (head-of y e ∙ (ap (part 0 2) same ∙ sym (head-of x refl))) k.holds.counting)))
          | inr new ↦ inr (log-stands version n y (set cells i c) (other bank.side) 0 few (holds-refilled version n _ _ cells bank.side bank.used k.holds s (set cells i c) (Sized-set cells i c sized one) (length-set cells i c ∙ k.holds.count)
              (now-is y e ∙ (new ∙ live-is))))
        ]
      ]

  -- at its end
  abbrev pub done : List ℕ
  done = splice (base version + at) (0xa7 ∷ rest) x

  fits : base version + at + length (0xa7 ∷ rest) ≤ length x
  fits = let z = inside in let l = long in omega arith

  whole : SameOutside (base version + at) (suc (2241 + 32 * n)) x done
  whole = subst (λ m. SameOutside (base version + at) (suc m) x done) long (SameOutside-splice (base version + at) (0xa7 ∷ rest) x fits)

  behind : SameOutside at (suc (2241 + 32 * n)) (from_base version x) (from_base version done)
  behind = SameOutside-drop (base version) at (suc (2241 + 32 * n)) x done whole

  is : part at (suc (2241 + 32 * n)) (from_base version done) ≡ live_bank (next (mark (bank_head n bank.side (from_base version x)))) (set cells i c)
  is = now-is done whole.lengths ∙ (part-splice (base version + at) (suc (2241 + 32 * n)) (0xa7 ∷ rest) x (sym (ap suc long)) fits ∙ live-is)

  pub refill-keeps : KeepsLog version n done (set cells i c) (refilled bank)
  refill-keeps = record {
    holds = holds-refilled version n _ _ cells bank.side bank.used k.holds behind (set cells i c) (Sized-set cells i c sized one) (length-set cells i c ∙ k.holds.count) is;
    marked = ap mark (new-head version n _ _ cells bank.side bank.used k.holds behind (set cells i c) (Sized-set cells i c sized one) (length-set cells i c ∙ k.holds.count) is) ∙ ap next k.marked;
    spare = rw (other-other bank.side) (ap is_live (same-head n bank.side _ _ behind) ∙ (counting _ _ k.holds.counting).live);
  }

  pub refill-put : 64 ≤ bank.used → LogPut version x i c done
  refill-put full = record {
    count = n;
    few = few;
    head = k.holds.head;
    side = bank.side;
    counting = k.holds.counting;
    used = bank.used;
    places = k.holds.places;
    appended = λ free. absurd (omega arith);
    refilled = λ _. rw (k.holds.list) (ap (λ b. splice (base version + at) b x) live-is);
  }

-- The same, as the code has it: the place and the bytes under names of their own.
module _ (version : Version) (n : ℕ) (cells : List (List ℕ)) (bank : Bank) (i : ℕ) (c : List ℕ) (old new : Option Told) (few : FewCells n) (full : 64 ≤ bank.used) (at' : ℕ) (place-is : at' ≡ base version + bank_at n (other bank.side)) (bytes : List ℕ) (bytes-is : bytes ≡ bank_rest (next bank.mark) (set cells i c)) (sized : Sized cells) (one : length c ≡ 32) (as-many : length cells ≡ n) (keeps : (t : Told) → old ≡ Some t → KeepsLog version n t.bytes cells bank) where
  pub refill-gate : (t : Told) → old ≡ Some t → is_live (part at' 1 t.bytes) ≡ bank.spare_is_live
  refill-gate t told =
      let k = keeps t told in
      let z = inside version n t.bytes cells bank i c few k sized one in
      let f : is_live (part (base version + bank_at n (other bank.side)) 2 t.bytes) ≡ bank.spare_is_live = ap is_live (sym (part-drop (base version) (bank_at n (other bank.side)) 2 t.bytes (omega arith))) ∙ k.spare in
      subst (λ a. is_live (part a 1 t.bytes) ≡ bank.spare_is_live) (sym place-is) (sym (is_live-wide 1 (base version + bank_at n (other bank.side)) t.bytes) ∙ f)

  pub refill-images : LeavesUnfinished (length bytes) at' (167 ∷ bytes) old new → LeavesEither version i c cells old new
  refill-images l x told t is y image =
      let k = keeps (firm x) told in
      let l' : LeavesUnfinished (2241 + 32 * n) at' (167 ∷ bank_rest (next bank.mark) (set cells i c)) old new = gated-leaves (2241 + 32 * n) at' bytes (bank_rest (next bank.mark) (set cells i c)) old new bytes-is (long version n x cells bank i c few k sized one) l in
      let l'' : LeavesUnfinished (2241 + 32 * n) (base version + bank_at n (other bank.side)) (167 ∷ bank_rest (next bank.mark) (set cells i c)) old new = subst (λ a. LeavesUnfinished (2241 + 32 * n) a (167 ∷ bank_rest (next bank.mark) (set cells i c)) old new) place-is l' in
      refill-either version n x cells bank i c few k sized one y (l'' x told t is y image)

  pub refill-done : Lasts at' (167 ∷ bytes) old new → PutsLog version n i c cells (refilled bank) old new
  refill-done l t told =
      let k = keeps t told in
      let l' : Lasts at' (167 ∷ bank_rest (next bank.mark) (set cells i c)) old new = gated-lasts at' bytes (bank_rest (next bank.mark) (set cells i c)) old new bytes-is l in
      let l'' : Lasts (base version + bank_at n (other bank.side)) (167 ∷ bank_rest (next bank.mark) (set cells i c)) old new = subst (λ a. Lasts a (167 ∷ bank_rest (next bank.mark) (set cells i c)) old new) place-is l' in
      record {
        bytes = splice (base version + bank_at n (other bank.side)) (167 ∷ bank_rest (next bank.mark) (set cells i c)) t.bytes;
        told = l'' t told;
        keeps = refill-keeps version n t.bytes cells bank i c few k sized one;
        put = refill-put version n t.bytes cells bank i c few k sized one full;
      }

-- it stays within the store
pub refill-besides : (version : Version) (n : ℕ) (side : Side) (at' : ℕ) (bytes : List ℕ) (old new : Option Told) → at' ≡ base version + bank_at n side → length bytes ≡ 2241 + 32 * n → LeavesOutside at' (1 + length bytes) old new → LogBesides version n old new
refill-besides version n side at' bytes old new place-is long outside =
    let b = bank_bounds n side in
    let e : 1 + length bytes ≡ 2242 + 32 * n = omega (arith, long) in
    within-besides version n (bank_at n side) (2242 + 32 * n) old new (omega arith) (omega arith) (subst (λ k. LeavesOutside (base version + bank_at n side) k old new) e (subst (λ a. LeavesOutside a (1 + length bytes) old new) place-is outside))
