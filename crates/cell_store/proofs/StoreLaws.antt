-- Laws of what bytes stand for: their header, and at most one list.
use Rattle.std.proofs.Common.{◌≡◌, ◌≢◌, ℕ, zero, suc, inl, inr, ◌+◌, ◌*◌, ◌/◌, ◌%◌, ◌^◌, ◌<◌, List, [], length, get_or, replicate, refl, sym, ap, ◌∙◌, arith}
use Rattle.std.proofs.lemmas.List.{ext_get_or}
use Rattle.std.proofs.lemmas.Bool.{false≢true, cases_order, cases_lt}
use Rattle.std.proofs.lemmas.Option.{same_Some, none-some}
use Rattle.basics.specs.Numbers.{bytes_of}
use Rattle.cell_store.specs.declared.copies.Side.{Side}
use Rattle.cell_store.specs.declared.copies.Side.TheVariants.{First, Second}
use Rattle.cell_store.specs.Log.{BankCounts, Places, LogHolds, LogDamaged}
use Rattle.cell_store.proofs.TwinLaws.{counts-once}
use Rattle.cell_store.specs.declared.kinds.Kind.{Kind}
use Rattle.cell_store.specs.declared.kinds.Kind.TheVariants.{Twin, Log}
use Rattle.cell_store.specs.declared.kinds.Version.{Version}
use Rattle.cell_store.specs.declared.kinds.Version.TheVariants.{One, Two}
use Rattle.cell_store.specs.declared.kinds.Layout.{Layout}
use Rattle.cell_store.specs.Layout.{header, kind_byte, version_byte}
use Rattle.cell_store.specs.Store.{HoldsCells, Stands, IsDamaged, FirstDamaged}

pub length-header : (layout : Layout) (n : ℕ) → length (header layout n) ≡ 32
unfolding header bytes_of
length-header layout n = refl

-- a header tells its number of cells, its kind and its version
pub header-number : (layout that : Layout) (n m : ℕ) → n < 2 ^ 16 → m < 2 ^ 16 → header layout n ≡ header that m → n ≡ m
unfolding header bytes_of
header-number layout that n m small fits e =
    let high : n / 256 ^ 1 % 256 ≡ m / 256 ^ 1 % 256 = ap (λ l. get_or l 10 0) e in
    let low : n / 256 ^ 0 % 256 ≡ m / 256 ^ 0 % 256 = ap (λ l. get_or l 11 0) e in
    omega arith

kind_byte-once : (a b : Kind) → kind_byte a ≡ kind_byte b → a ≡ b
kind_byte-once Twin Twin e = refl
kind_byte-once Twin Log e = absurd (omega arith)
kind_byte-once Log Twin e = absurd (omega arith)
kind_byte-once Log Log e = refl

version_byte-once : (a b : Version) → version_byte a ≡ version_byte b → a ≡ b
version_byte-once One One e = refl
version_byte-once One Two e = absurd (omega arith)
version_byte-once Two One e = absurd (omega arith)
version_byte-once Two Two e = refl

pub header-kind : (layout that : Layout) (n m : ℕ) → header layout n ≡ header that m → layout.kind ≡ that.kind
unfolding header
header-kind layout that n m e = kind_byte-once layout.kind that.kind (ap (λ l. get_or l 8 0) e)

pub header-version : (layout that : Layout) (n m : ℕ) → header layout n ≡ header that m → layout.version ≡ that.version
unfolding header
header-version layout that n m e = version_byte-once layout.version that.version (ap (λ l. get_or l 9 0) e)

-- and is never blank
pub header-not_blank : (layout : Layout) (n : ℕ) → header layout n ≢ replicate 32 0
unfolding header
header-not_blank layout n e = let first : ◌≡◌ {A = ℕ} 0x53 0 = ap (λ l. get_or l 0 0) e in absurd (omega arith)

-- where in a header its number of cells stands
pub header-cells : (layout : Layout) (n : ℕ) (bytes : List ℕ) → n < 2 ^ 16 → bytes ≡ header layout n → n ≡ 256 * get_or bytes 10 0 + get_or bytes 11 0
unfolding header bytes_of
header-cells layout n bytes small e =
    let high : get_or bytes 10 0 ≡ n / 256 ^ 1 % 256 = ap (λ l. get_or l 10 0) e in
    let low : get_or bytes 11 0 ≡ n / 256 ^ 0 % 256 = ap (λ l. get_or l 11 0) e in
    omega arith

pub header-kind_byte : (layout : Layout) (n : ℕ) (bytes : List ℕ) → bytes ≡ header layout n → kind_byte layout.kind ≡ get_or bytes 8 0
unfolding header
header-kind_byte layout n bytes e = sym (ap (λ l. get_or l 8 0) e)

-- one bank counts
pub bank_once : (n : ℕ) (store : List ℕ) (a b : Side) → BankCounts n a store → BankCounts n b store → a ≡ b
bank_once n store First First h k = refl
bank_once n store First Second h k = absurd (false≢true (sym (counts-once _ _ h) ∙ k))
bank_once n store Second First h k = absurd (false≢true (sym (counts-once _ _ h) ∙ k))
bank_once n store Second Second h k = refl

-- and so many of its places are live
pub used_once : (n : ℕ) (side : Side) (store : List ℕ) (u v : ℕ) → Places n side store u → Places n side store v → u ≡ v
used_once n side store u v p q = elim (cases_order u v) [
  | inl e ↦ e
  | inr order ↦ elim order [
    | inl l ↦ (let m = q.most in absurd (false≢true (sym (p.free u (omega arith) (omega arith)) ∙ q.live u l)))
    | inr l ↦ (let m = p.most in absurd (false≢true (sym (q.free v (omega arith) (omega arith)) ∙ p.live v l)))
  ]
]

log_once : (store : List ℕ) (cells others : List (List ℕ)) → length cells ≡ length others → LogHolds store cells → LogHolds store others → cells ≡ others
log_once store cells others e s t =
    let f : s.side ≡ t.side = bank_once (length cells) store s.side t.side s.counting (rw e t.counting) in
    let g : s.used ≡ t.used = used_once (length cells) s.side store s.used t.used s.places (rw (e, f) t.places) in
    sym s.list ∙ (rw (e, f, g) t.list)

-- a log store that stands isn't damaged
log_whole : (store : List ℕ) (cells : List (List ℕ)) (n i : ℕ) → LogHolds store cells → length cells ≡ n → LogDamaged store n i → ⊥
log_whole store cells n zero h e d = d h.side (rw (← e) h.counting)
log_whole store cells n (suc p) h e d =
    let f : d.side ≡ h.side = bank_once n store d.side h.side d.counting (rw (← e) h.counting) in
    let q : Places n d.side store h.used = rw (f, ← e) h.places in
    let l = d.below in
    elim (cases_lt p h.used) [
      | inl b ↦ (let z = q.below p b in elim d.damaged.wrong [
        | inl w ↦ omega arith
        | inr w ↦ (let y = w.before in false≢true (sym w.closed ∙ q.live w.place (omega arith)))
      ])
      | inr a ↦ false≢true (sym (q.free p a l) ∙ d.damaged.live)
    ]

-- the bytes of a store hold at most one list of a length
holds_once : (kind : Kind) (store : List ℕ) (cells others : List (List ℕ)) → length cells ≡ length others → HoldsCells kind store cells → HoldsCells kind store others → cells ≡ others
unfolding HoldsCells
holds_once Twin store cells others e s t = ext_get_or [] cells others e (λ i l. same_Some _ _ (sym (s i l) ∙ t i (omega arith)))
holds_once Log store cells others e s t = log_once store cells others e s t

-- bytes stand for at most one list in a layout
pub stands_once : (layout : Layout) (x : List ℕ) (cells others : List (List ℕ)) → Stands layout x cells → Stands layout x others → cells ≡ others
stands_once layout x cells others s t = holds_once layout.kind _ cells others (header-number layout layout _ _ (let f = s.few in omega arith) (let f = t.few in omega arith) (sym s.head ∙ t.head)) s.holds t.holds

holds_whole : (kind : Kind) (store : List ℕ) (cells : List (List ℕ)) (n i : ℕ) → HoldsCells kind store cells → length cells ≡ n → IsDamaged kind store n i → ⊥
unfolding HoldsCells IsDamaged
holds_whole Twin store cells n i s e d = let l = d.below in none-some (get_or cells i []) (sym d.damaged ∙ s i (omega arith))
holds_whole Log store cells n i s e d = log_whole store cells n i s e d

-- and nothing in them is damaged
pub stands-whole : (layout : Layout) (x : List ℕ) (cells : List (List ℕ)) (n i : ℕ) → Stands layout x cells → length cells ≡ n → FirstDamaged layout x n i → ⊥
stands-whole layout x cells n i s e d = holds_whole layout.kind _ cells n i s.holds e d
