-- Laws of writes that aren't synced yet.
use Rattle.std.proofs.Common.{◌≡◌, ℕ, ◌+◌, ◌*◌, ◌<◌, ◌≤◌, true, Option, Some, None, List, [], ◌++◌, length, take, get_or, replicate, refl, sym, ap, subst, ◌∙◌, arith}
use Rattle.std.specs.Option.{is_some}
use Rattle.std.specs.List.{flat_map}
use Rattle.std.proofs.lemmas.List.{take_all, length-take-le, get_or-take, replicate-append-replicate}
use Rattle.std.proofs.lemmas.Option.{same_Some}
use Rattle.cut_disk.specs.State.{Told, DiskState}
use Rattle.cut_disk.specs.Images.{splice, firm, with_bytes, Image, WritesLoose, Tears, Syncs}
use Rattle.cut_disk.proofs.CallerLemmas.{image_of_firm, image_under_write, splice-beside, runs_none, runs_then}
use Rattle.cut_disk.specs.Calls.{Call, Runs}
use Rattle.cell_store.specs.Layout.{SameOutside}
use Rattle.cell_store.specs.Writing.{LeavesOutside, Loosens, Wrote}
use Rattle.cell_store.proofs.LayoutLaws.{SameOutside-refl, SameOutside-splice, SameOutside-after, SameOutside-widen}
use Rattle.cell_store.proofs.WritingLaws.{told-before}
use Rattle.cell_store.proofs.FreshLaws.{Sized}
use Rattle.cell_store.proofs.BankLaws.{length-cells}
use Rattle.cell_store.proofs.Slices.{splice-none, cells_more}

-- nothing is written
pub wrote-none : (at : ℕ) (a : Option Told) → Wrote at [] a a
wrote-none at a t is = record { loose = t.loose; told = is ∙ ap (λ bytes. Some (record { bytes = bytes; loose = t.loose })) (sym (splice-none at t.bytes)) }

-- one write, and one after another
pub wrote-call : (address at : ℕ) (bytes : List ℕ) (a b : Option Told) → address ≡ at → WritesLoose address bytes a b → Wrote at bytes a b
wrote-call address at bytes a b place writes t is =
    let w : WritesLoose at bytes a b = rw (← place) writes in
    record { loose = splice at (replicate (length bytes) true) t.loose; told = w t is }

pub wrote-then : (at next : ℕ) (bytes more : List ℕ) (a b c : Option Told) → next ≡ at + length bytes → ((t : Told) → a ≡ Some t → at + length bytes + length more ≤ length t.bytes) → Wrote at bytes a b → Wrote next more b c → Wrote at (bytes ++ more) a c
wrote-then at next bytes more a b c place room first second t is =
    let one = first t is in
    let two = second (record { bytes = splice at bytes t.bytes; loose = one.loose }) one.told in
    record {
      loose = two.loose;
      told = two.told ∙ ap (λ bytes. Some (record { bytes = bytes; loose = two.loose }))
          (ap (λ n. splice n more (splice at bytes t.bytes)) place ∙ splice-beside at bytes more t.bytes (room t is));
    }

pub wrote-same : (at : ℕ) (bytes others : List ℕ) (a b : Option Told) → bytes ≡ others → Wrote at bytes a b → Wrote at others a b
wrote-same at bytes others a b same wrote = subst (λ (x : List ℕ). Wrote at x a b) same wrote

pub wrote-at : (address at : ℕ) (bytes : List ℕ) (a b : Option Told) → address ≡ at → Wrote address bytes a b → Wrote at bytes a b
wrote-at address at bytes a b place wrote = subst (λ n. Wrote n bytes a b) place wrote

-- and then all is synced
pub wrote-synced : (at : ℕ) (bytes : List ℕ) (a b c : Option Told) → Wrote at bytes a b → Syncs b c → (t : Told) → a ≡ Some t → c ≡ Some (firm (splice at bytes t.bytes))
wrote-synced at bytes a b c wrote syncs t is = let one = wrote t is in syncs (record { bytes = splice at bytes t.bytes; loose = one.loose }) one.told

-- what a power cut may leave in between
pub loosens-none : (at n : ℕ) (a : Option Told) → Loosens at n a a
loosens-none at n a t is u now y image =
    let e : u ≡ t = same_Some _ _ (sym now ∙ is) in
    record { before = y; image = subst (λ (s : Told). Image s y) e image; same = SameOutside-refl at n y }

pub loosens-widen : (at n lo k : ℕ) (a b : Option Told) → lo ≤ at → at + n ≤ lo + k → Loosens at n a b → Loosens lo k a b
loosens-widen at n lo k a b low high loosens t is u now y image =
    let one = loosens t is u now y image in
    record { before = one.before; image = one.image; same = SameOutside-widen at n lo k one.before y low high one.same }

pub loosens-join : (at n : ℕ) (a b c : Option Told) → is_some b ≡ is_some a → Loosens at n a b → Loosens at n b c → Loosens at n a c
loosens-join at n a b c tells first second t is u now y image =
    let mid = told-before b a t (sym tells) is in
    let two = second mid.0 mid.1 u now y image in
    let one = first t is mid.0 mid.1 two.before two.image in
    record { before = one.before; image = one.image; same = SameOutside-after at n one.before two.before y one.same two.same }

pub loosens-tears : (at n : ℕ) (a b : Option Told) → ((t : Told) → a ≡ Some t → (at + n ≤ length t.bytes) × (length t.loose ≡ length t.bytes)) → Tears at n a b → Loosens at n a b
loosens-tears at n a b sizes tears t is u now y image =
    let any = tears t is in
    let e : u ≡ with_bytes at any.left t = same_Some _ _ (sym now ∙ any.now) in
    let z = sizes t is in
    let under = image_under_write at any.left t y (let s = any.sized in let f = z.0 in omega arith) z.1 (subst (λ (s : Told). Image s y) e image) in
    let l : length under.patched.left ≡ n = under.patched.sized ∙ any.sized in
    let m : length under.before ≡ length t.bytes = under.image.sized in
    record {
      before = under.before;
      image = under.image;
      same = subst (λ q. SameOutside at q under.before y) l (subst (λ (x : List ℕ). SameOutside at (length under.patched.left) under.before x) (sym under.patched.is) (SameOutside-splice at under.patched.left under.before (let f = z.0 in omega (arith, l, m))));
    }

pub writes-loosens : (at n : ℕ) (bytes : List ℕ) (a b : Option Told) → ((t : Told) → a ≡ Some t → (at + n ≤ length t.bytes) × (length t.loose ≡ length t.bytes)) → length bytes ≡ n → WritesLoose at bytes a b → Loosens at n a b
writes-loosens at n bytes a b sizes sized writes = loosens-tears at n a b sizes (λ t is. record { left = bytes; sized = sized; now = writes t is })

-- of bytes of which none was loose
pub loosens-outside : (at n : ℕ) (a b : Option Told) → Loosens at n a b → LeavesOutside at n a b
loosens-outside at n a b loosens x was u now y image =
    let one = loosens (firm x) was u now y image in
    subst (λ (z : List ℕ). SameOutside at n z y) (image_of_firm one.image) one.same

-- so many chunks of 32 bytes are written, each in one call
pub record ChunksSoFar (at all : ℕ) (bytes : List ℕ) (count : ℕ) (start now : DiskState) : Type 0 where
  pub runs : Runs [] count start now
  pub faults : now.faults ≡ start.faults
  pub wrote : Wrote at bytes start.told now.told
  pub loosens : Loosens at all start.told now.told

pub chunks-none : (at all : ℕ) (s : DiskState) → ChunksSoFar at all [] 0 s s
chunks-none at all s = record { runs = runs_none s; faults = refl; wrote = wrote-none at s.told; loosens = loosens-none at all s.told }

module _ (at all address count : ℕ) (bytes : List ℕ) (start mid new : DiskState) (so : ChunksSoFar at all bytes count start mid) (place : address ≡ at + 32 * count) (long : length bytes ≡ 32 * count) (inside : 32 * count + 32 ≤ all)
    (sizes : (t : Told) → start.told ≡ Some t → at + all ≤ length t.bytes) (mid-sizes : (t : Told) → mid.told ≡ Some t → (at + all ≤ length t.bytes) × (length t.loose ≡ length t.bytes)) (call : Call None mid new) where
  chunk-loosens : Loosens address 32 mid.told new.told → Loosens at all start.told new.told
  chunk-loosens l = loosens-join at all start.told mid.told new.told so.runs.tells so.loosens (loosens-widen address 32 at all mid.told new.told (omega arith) (omega arith) l)

  chunk-sizes : (t : Told) → mid.told ≡ Some t → (address + 32 ≤ length t.bytes) × (length t.loose ≡ length t.bytes)
  chunk-sizes t is = let z = mid-sizes t is in let f = z.0 in (omega arith, z.1)

  -- one more is written
  pub chunk-more : (chunk longer : List ℕ) → length chunk ≡ 32 → bytes ++ chunk ≡ longer → new.faults ≡ mid.faults → WritesLoose address chunk mid.told new.told → ChunksSoFar at all longer (count + 1) start new
  chunk-more chunk longer sized same faults writes = record {
    runs = runs_then so.runs call;
    faults = faults ∙ so.faults;
    wrote = wrote-same at (bytes ++ chunk) longer start.told new.told same
        (wrote-then at address bytes chunk start.told mid.told new.told (omega arith) (λ t is. let z = sizes t is in omega arith) so.wrote (wrote-call address address chunk mid.told new.told refl writes));
    loosens = chunk-loosens (writes-loosens address 32 chunk mid.told new.told chunk-sizes sized writes);
  }

  -- or that failed
  pub chunk-failed : Tears address 32 mid.told new.told → Loosens at all start.told new.told
  chunk-failed tears = chunk-loosens (loosens-tears address 32 mid.told new.told chunk-sizes tears)

-- the bytes of the first cells, and of zeros
pub length-front : (cells : List (List ℕ)) (i : ℕ) → Sized cells → i ≤ length cells → length (flat_map (λ c. c) (take i cells)) ≡ 32 * i
length-front cells i sized le =
    length-cells (take i cells) (λ j l. let e = length-take-le i cells le in ap length (get_or-take i cells j [] (omega arith)) ∙ sized j (omega arith))
    ∙ ap (λ n. 32 * n) (length-take-le i cells le)

pub front-more : (cells : List (List ℕ)) (i : ℕ) (one : List ℕ) → i < length cells → one ≡ get_or cells i [] → flat_map (λ c. c) (take i cells) ++ one ≡ flat_map (λ c. c) (take (i + 1) cells)
front-more cells i one below is = ap (λ (c : List ℕ). flat_map (λ c. c) (take i cells) ++ c) is ∙ cells_more cells i below

pub front-all : (cells : List (List ℕ)) (n : ℕ) → length cells ≤ n → flat_map (λ c. c) (take n cells) ≡ flat_map (λ c. c) cells
front-all cells n all = ap (flat_map (λ c. c)) (take_all n cells all)

pub zeros-more : (i : ℕ) → replicate {A = ℕ} (32 * i) 0 ++ replicate 32 0 ≡ replicate (32 * (i + 1)) 0
zeros-more i = replicate-append-replicate (32 * i) 32 0 ∙ (let e : 32 * i + 32 ≡ 32 * (i + 1) = omega arith in ap (λ n. replicate n 0) e)
