-- What the writes of a plan leave of a disk.
use Rattle.std.proofs.Common.{◌≡◌, ℕ, suc, ◌+◌, ◌<◌, ◌≤◌, inl, inr, Bool, true, false, Option, Some, Result, Ok, Err, OnOk, OnErr, List, [], ◌∷◌, length, set, refl, sym, ap, subst, ◌∙◌, arith}
use Rattle.std.proofs.lemmas.Bool.{cases_Bool}
use Rattle.std.proofs.lemmas.Option.{same_Some}
use Rattle.cut_disk.specs.State.{DiskState, Told}
use Rattle.cut_disk.specs.Images.{splice, firm, Tears}
use Rattle.cut_disk.specs.Calls.{Rose, Runs}
use Rattle.cut_disk.specs.Lasting.{Lasts}
use Rattle.cell_store.specs.declared.kinds.Version.TheVariants.{One}
use Rattle.cell_store.specs.Layout.{SameOutside, part, twin_layout}
use Rattle.cell_store.specs.Twin.{twin_size, is_live}
use Rattle.cell_store.specs.Copies.{other, copy}
use Rattle.cell_store.specs.Writing.{ClosesGate, LeavesUnfinished}
use Rattle.cell_store.specs.Store.{SameBesides}
use Rattle.cell_store.specs.Cells.{Puts, FailsPut}
use Rattle.cell_store.proofs.CallerLemmas.{SameOutside-widen, side_bounds, torn-outside, closing, closed-write, closed-already, filling, opening}
use Rattle.cell_store.proofs.CallerLemmas.{opened, lasts-outside, put_stands}
use Rattle.store_plan.specs.declared.planning.Write.{Write}
use Rattle.store_plan.specs.declared.planning.Plan.{Plan}
use Rattle.store_plan.specs.Plans.{WritesAt, Gated, PlansPut}
use Rattle.store_plan.specs.Performing.{WriteDone, WriteTorn, Serves, store_on}
use Rattle.store_plan.proofs.GatedLaws.{no_bytes, new_at, behind, long, inside, spliced-put, unfinished-stands}

-- two clauses on one result
pub on_ok_both : {T E P Q R : Type 0} (r : Result T E) → (P → Q → R) → OnOk r P → OnOk r Q → OnOk r R
on_ok_both (Ok x) f p q = f p q
on_ok_both (Err e) f p q = tt

pub on_err_both : {T E P Q R : Type 0} (r : Result T E) → (P → Q → R) → OnErr r P → OnErr r Q → OnErr r R
on_err_both (Ok x) f p q = tt
on_err_both (Err e) f p q = f p q

-- the gate is closed first, if it is live
pub gate-closed : (plan : Plan) (n at : ℕ) (live : Bool) (rest : List ℕ) (a b : Option Told) → Gated plan at live rest → ((t : Told) → a ≡ Some t → at + 1 ≤ length t.bytes) → ((t : Told) → a ≡ Some t → is_live (part at (suc n) t.bytes) ≡ live) → WriteDone plan.first a b → ClosesGate n at a b
gate-closed plan n at live rest a b gated fits gate done = elim (cases_Bool live) [
  | inl on ↦ closed-write n at a b fits (done.lasts at (0 ∷ []) (omega arith) (gated.closes on))
  | inr off ↦ subst (λ (o : Option Told). ClosesGate n at a o) (sym (done.none (no_bytes plan.first (gated.closed off)))) (closed-already n at a (λ t h. gate t h ∙ off))
]

-- a torn write, at its place
torn-at : (w : Write) (at : ℕ) (new : List ℕ) (a b : Option Told) → WritesAt w at new → WriteTorn w a b → Tears at (length new) a b
torn-at w at new a b p t = subst (λ n. Tears at n a b) p.count (subst (λ n. Tears n w.size a b) p.place t.torn)

-- it fails there only if it was live
gate-torn : (plan : Plan) (n at : ℕ) (live : Bool) (rest new : List ℕ) (a b : Option Told) → Gated plan at live rest → ((t : Told) → a ≡ Some t → at + 1 ≤ length t.bytes) → ((t : Told) → a ≡ Some t → is_live (part at (suc n) t.bytes) ≡ live) → WriteTorn plan.first a b → LeavesUnfinished n at new a b
gate-torn plan n at live rest new a b gated fits gate torn = elim (cases_Bool live) [
  | inl on ↦ closing n at new a b (λ t h. gate t h ∙ on) (torn-outside at 1 a b fits (torn-at plan.first at (0 ∷ []) a b (gated.closes on) torn))
  | inr off ↦ absurd (let z = no_bytes plan.first (gated.closed off) in let s = torn.some in omega arith)
]

-- A disk of this size, whose told bytes the plan serves, before and after each of its writes.
module _ (plan : Plan) (size i : ℕ) (c : List ℕ) (old mid late new : Option Told) (t : Told) (told : old ≡ Some t) (p : PlansPut plan t.bytes i c) (sized : (s : Told) → old ≡ Some s → length s.bytes ≡ size) where
  abbrev at : ℕ
  at = new_at plan t.bytes i c p

  abbrev rest : List ℕ
  rest = behind plan t.bytes i c p

  room : at + 34 ≤ size
  room = let n = inside plan t.bytes i c p in let e = sized t told in omega arith

  fits : (s : Told) → old ≡ Some s → at + 1 ≤ length s.bytes
  fits s h = let r = room in let e = sized s h in omega arith

  wide : (s : Told) → old ≡ Some s → at + 34 ≤ length s.bytes
  wide s h = let r = room in let e = sized s h in omega arith

  gate : (s : Told) → old ≡ Some s → is_live (part at 34 s.bytes) ≡ is_live (copy t.bytes i (other p.side))
  gate s h = ap (λ (u : Told). is_live (part at 34 u.bytes)) (same_Some _ _ (sym h ∙ told))

  many : length rest ≡ 33
  many = long plan t.bytes i c p

  -- each stage that fails
  pub first-torn : WriteTorn plan.first old mid → LeavesUnfinished 33 at (167 ∷ rest) old mid
  first-torn torn = gate-torn plan 33 at _ rest (167 ∷ rest) old mid p.gated fits gate torn

  closed : WriteDone plan.first old mid → ClosesGate 33 at old mid
  closed one = gate-closed plan 33 at _ rest old mid p.gated fits gate one

  pub second-torn : WriteDone plan.first old mid → ((s : Told) → mid ≡ Some s → length s.bytes ≡ size) → WriteTorn plan.second mid late → LeavesUnfinished 33 at (167 ∷ rest) old late
  second-torn one mid-sized torn =
      filling 33 at (167 ∷ rest) old mid late (closed one)
      (torn-outside (at + 1) 33 mid late (λ s h. let r = room in let e = mid-sized s h in omega arith)
      (subst (λ n. Tears (at + 1) n mid late) many (torn-at plan.second (at + 1) rest mid late p.gated.fills torn)))

  filled : WriteDone plan.second mid late → Lasts (at + 1) rest mid late
  filled two = two.lasts (at + 1) rest (let m = many in omega arith) p.gated.fills

  pub third-torn : WriteDone plan.first old mid → WriteDone plan.second mid late → ((s : Told) → late ≡ Some s → length s.bytes ≡ size) → WriteTorn plan.third late new → LeavesUnfinished 33 at (167 ∷ rest) old new
  third-torn one two late-sized torn =
      opening 33 at rest many old mid late new wide (closed one) (filled two)
      (torn-outside at 1 late new (λ s h. let r = room in let e = late-sized s h in omega arith) (torn-at plan.third at (167 ∷ []) late new p.gated.opens torn))

  -- and the end
  pub all-done : WriteDone plan.first old mid → WriteDone plan.second mid late → WriteDone plan.third late new → Lasts at (167 ∷ rest) old new
  all-done one two three = opened 33 at rest many old mid late new wide (closed one) (filled two) (three.lasts at (167 ∷ []) (omega arith) p.gated.opens)

-- What that says of the store. The disk's state before and after, and the list that stands there.
module _ (plan : Plan) (i : ℕ) (c : List ℕ) (cells : List (List ℕ)) (old new : DiskState) (below : i < length cells) (serves : Serves plan old.told i c) where
  -- what is left is unfinished, whichever call failed
  abbrev pub AnyUnfinished : Type 0
  AnyUnfinished = (t : Told) (told : old.told ≡ Some t) → LeavesUnfinished 33 (new_at plan t.bytes i c (serves t told)) (167 ∷ behind plan t.bytes i c (serves t told)) old.told new.told

  abbrev pub AnyLasts : Type 0
  AnyLasts = (t : Told) (told : old.told ≡ Some t) → Lasts (new_at plan t.bytes i c (serves t told)) (167 ∷ behind plan t.bytes i c (serves t told)) old.told new.told

  besides-of : (b x : List ℕ) (p : PlansPut plan b i c) → SameOutside (new_at plan b i c p) 34 b x → SameBesides (twin_layout One) (length cells) b x
  besides-of b x p s = let e = side_bounds i (other p.side) in SameOutside-widen (new_at plan b i c p) 34 0 (twin_size (length cells)) b x (omega arith) (omega arith) s

  pub fails-put : Runs [] 6 old new → Rose old.faults new.faults → AnyUnfinished → FailsPut i c (store_on cells old false) (store_on cells new true)
  fails-put runs rose leaves = record {
    layout = refl;
    runs = runs;
    besides = λ b was t told x image. besides-of b x (serves (firm b) was) (leaves (firm b) was b was t told x image).same;
    failed = rose;
    kept = refl;
    broken = refl;
    images = λ settled t told x image. unfinished-stands plan settled.bytes i c (serves (firm settled.bytes) settled.told) x cells settled.stands below (leaves (firm settled.bytes) settled.told settled.bytes settled.told t told x image);
  }

  pub puts : Runs [] 6 old new → new.faults ≡ old.faults → ((t : Told) → old.told ≡ Some t → length t.bytes ≡ old.size) → AnyLasts → Puts i c (store_on cells old false) (store_on (set cells i c) new false)
  puts runs faults sized lasts = record {
    layout = refl;
    runs = runs;
    besides = λ b was t told x image.
        (let p = serves (firm b) was in
        let m = long plan b i c p in
        besides-of b x p (lasts-outside (new_at plan b i c p) 34 (167 ∷ behind plan b i c p) old.told new.told (ap suc m) (λ s h. let r = inside plan b i c p in let e = sized s h in let f = sized (firm b) was in omega arith) (lasts (firm b) was) b was t told x image));
    faults = faults;
    cells = refl;
    whole = refl;
    settled = λ tells. record {
      whole = refl;
      bytes = splice (new_at plan tells.now.bytes i c (serves tells.now tells.told)) (167 ∷ behind plan tells.now.bytes i c (serves tells.now tells.told)) tells.now.bytes;
      told = lasts tells.now tells.told tells.now tells.told;
      stands = (let p = serves tells.now tells.told in put_stands (twin_layout One) tells.now.bytes _ cells i c tells.stands below p.sized (spliced-put plan tells.now.bytes i c p));
    };
    done = λ tells. record {
      before = tells.now;
      after = splice (new_at plan tells.now.bytes i c (serves tells.now tells.told)) (167 ∷ behind plan tells.now.bytes i c (serves tells.now tells.told)) tells.now.bytes;
      told_before = tells.told;
      told_after = lasts tells.now tells.told tells.now tells.told;
      put = spliced-put plan tells.now.bytes i c (serves tells.now tells.told);
    };
  }
