-- Laws of writes that are synced.
use Rattle.std.proofs.Common.{◌≡◌, ℕ, ◌+◌, ◌≤◌, Option, Some, None, List, length, refl, ap, sym, subst, ◌∙◌, arith}
use Rattle.std.specs.Option.{is_some}
use Rattle.std.proofs.lemmas.Bool.{false≢true}
use Rattle.std.proofs.lemmas.Option.{same_Some}
use Rattle.cut_disk.specs.State.{Told}
use Rattle.cut_disk.specs.Images.{splice, firm, with_bytes, Image, Tears, WritesLoose}
use Rattle.cut_disk.proofs.CallerLemmas.{firm_under_write, image_under_write, image_of_firm}
use Rattle.cell_store.specs.Layout.{SameOutside}
use Rattle.cell_store.specs.Writing.{LeavesOutside}
use Rattle.cell_store.proofs.LayoutLaws.{SameOutside-splice, SameOutside-after, SameOutside-widen, SameOutside-refl}

-- what tells after told before
pub told-before : (a b : Option Told) (t : Told) → is_some b ≡ is_some a → b ≡ Some t → (s : Told) × (a ≡ Some s)
told-before None b t e h = absurd (false≢true (sym e ∙ ap is_some h))
told-before (Some s) b t e h = (s, refl)

-- no write yet
pub outside-none : (lo k : ℕ) (a : Option Told) → LeavesOutside lo k a a
outside-none lo k a bytes was t told x image =
    let te : t ≡ firm bytes = same_Some _ _ (sym told ∙ was) in
    let xe : x ≡ bytes = image_of_firm (subst (λ (s : Told). Image s x) te image) in
    subst (λ (y : List ℕ). SameOutside lo k bytes y) (sym xe) (SameOutside-refl lo k bytes)

-- one more write within a range, done or torn
pub outside-more : (lo k at n : ℕ) (a b c : Option Told) → lo ≤ at → at + n ≤ lo + k → ((t : Told) → b ≡ Some t → (lo + k ≤ length t.bytes) × (length t.loose ≡ length t.bytes))
    → is_some c ≡ is_some b → LeavesOutside lo k a b → Tears at n b c → LeavesOutside lo k a c
outside-more lo k at n a b c low high sizes tells leaves tears bytes was t told x image =
    let before = told-before b c t tells told in
    let s = before.0 in
    let any = tears s before.1 in
    let te : t ≡ with_bytes at any.left s = same_Some _ _ (sym told ∙ any.now) in
    let z = sizes s before.1 in
    let under = image_under_write at any.left s x (let e = any.sized in let f = z.0 in omega arith) z.1 (subst (λ (u : Told). Image u x) te image) in
    let l : length under.patched.left ≡ n = under.patched.sized ∙ any.sized in
    let m : length under.before ≡ length s.bytes = under.image.sized in
    let step : SameOutside at n under.before x = subst (λ q. SameOutside at q under.before x) l (subst (λ (y : List ℕ). SameOutside at (length under.patched.left) under.before y) (sym under.patched.is) (SameOutside-splice at under.patched.left under.before (let f = z.0 in omega (arith, l, m)))) in
    SameOutside-after lo k bytes under.before x (leaves bytes was s before.1 under.before under.image) (SameOutside-widen at n lo k under.before x low high step)

pub writes-tear : (at n : ℕ) (bytes : List ℕ) (b c : Option Told) → length bytes ≡ n → WritesLoose at bytes b c → Tears at n b c
writes-tear at n bytes b c size w t told = record { left = bytes; sized = size; now = w t told }

-- an image of a write over firm bytes
image-outside : (at n : ℕ) (left b x : List ℕ) → length left ≡ n → at + n ≤ length b → Image (with_bytes at left (firm b)) x → SameOutside at n b x
image-outside at n left b x e inside image =
    let p = firm_under_write at left b x (omega arith) image in
    let s : SameOutside at (length p.left) b (splice at p.left b) = SameOutside-splice at p.left b (let z = p.sized in omega arith) in
    subst (λ (y : List ℕ). SameOutside at n b y) (sym p.is) (subst (λ m. SameOutside at m b (splice at p.left b)) (p.sized ∙ e) s)

pub torn-outside : (at n : ℕ) (a b : Option Told) → ((t : Told) → a ≡ Some t → at + n ≤ length t.bytes) → Tears at n a b → LeavesOutside at n a b
torn-outside at n a b inside torn bytes told t is x image =
    let l = torn (firm bytes) told in
    let e : t ≡ with_bytes at l.left (firm bytes) = same_Some _ _ (sym is ∙ l.now) in
    image-outside at n l.left bytes x l.sized (inside (firm bytes) told) (subst (λ (s : Told). Image s x) e image)
