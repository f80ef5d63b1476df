-- How many places of its banks a store has taken and needs: a bound that goes through its lives.
use Rattle.std.proofs.Common.{◌≡◌, ℕ, suc, ◌+◌, ◌-◌, ◌<◌, ◌≤◌, Option, Some, None, List, [], ◌∷◌, length, refl, ◌∙◌, arith}
use Rattle.seal_parts.specs.declared.UnitKind.{UnitKind}
use Rattle.seal_parts.specs.declared.UnitKind.TheVariants.{Line, SecondConfirm}
use Rattle.seal_parts.specs.declared.UnitContent.TheVariants.{Mark}
use Rattle.seal_parts.specs.Parts.{PartFlash, whole_unit}
use Rattle.seal_logs.specs.declared.PlaceRead.{PlaceRead}
use Rattle.seal_logs.specs.declared.LogSizes.{LogSizes}
use Rattle.seal_logs.specs.Reads.{IsChain}
use Rattle.seal_laws.proofs.Sealed.{FreeFrom}

-- nothing stands behind the last deed, and its second confirm is firm: a start writes nothing
pub record IsWholeEnd (s : LogSizes) (f : PartFlash) (b last : ℕ) : Type 0 where
  pub free : FreeFrom s f b (suc last)
  pub closed : f.unit b last SecondConfirm ≡ whole_unit Mark

-- The places that were begun end within the limit, with those that the store needs yet; and with one more for the deed that a start programs again, unless the end is whole.
pub data EndsWithin (s : LogSizes) (f : PartFlash) (limit b last need : ℕ) : Type 0 where
  whole_within : IsWholeEnd s f b last → suc last + need ≤ limit → EndsWithin s f limit b last need
  next_within : (next : ℕ) → FreeFrom s f b next → next + need < limit → EndsWithin s f limit b last need

-- .. of the bank that was left: no place of it is taken any more, if its end is whole
pub data LeftWithin (s : LogSizes) (f : PartFlash) (limit b last : ℕ) : Type 0 where
  left_whole : IsWholeEnd s f b last → LeftWithin s f limit b last
  left_within : (next : ℕ) → FreeFrom s f b next → next < limit → LeftWithin s f limit b last

-- .. and of the bank that it moved to, which needs two deeds
pub record HomeWithin (s : LogSizes) (f : PartFlash) (limit b : ℕ) : Type 0 where
  pub next : ℕ
  pub from : s.cells ≤ next
  pub free : FreeFrom s f b next
  pub room : next + 2 ≤ limit

module _ (s : LogSizes) (f h : PartFlash) (limit more b : ℕ) (far : limit ≤ more) (same : (k : ℕ) (kind : UnitKind) → h.unit b k kind ≡ f.unit b k kind) where
  free_same : (next : ℕ) → FreeFrom s f b next → FreeFrom s h b next
  free_same next free k past below = same k Line ∙ free k past below

  -- the bank stays as it was
  pub left_same : (last : ℕ) → LeftWithin s f limit b last → LeftWithin s h more b last
  left_same last (left_whole w) = left_whole (record { free = free_same (suc last) w.free; closed = same last SecondConfirm ∙ w.closed })
  left_same last (left_within next free room) = left_within next (free_same next free) (omega (arith, room, far))

  pub home_same : HomeWithin s f limit b → HomeWithin s h more b
  home_same w = record { next = w.next; from = w.from; free = free_same w.next w.free; room = (let x = w.room in omega (arith, x, far)) }

pub left_more : (s : LogSizes) (f : PartFlash) (limit more b last : ℕ) → limit ≤ more → LeftWithin s f limit b last → LeftWithin s f more b last
left_more s f limit more b last far w = left_same s f f limit more b far (λ k kind. refl) last w

pub home_more : (s : LogSizes) (f : PartFlash) (limit more b : ℕ) → limit ≤ more → HomeWithin s f limit b → HomeWithin s f more b
home_more s f limit more b far w = home_same s f f limit more b far (λ k kind. refl) w

-- ---- how many deeds a bank lacks

-- a chain has no more deeds than places of deeds before its limit
pub chain_short : (s : LogSizes) (p : ℕ → PlaceRead) (g limit : ℕ) (last : Option ℕ) (ks : List ℕ) → s.cells ≤ limit → IsChain s p g limit last ks → length ks + s.cells ≤ limit
chain_short s p g limit None [] from h = omega (arith, from)
chain_short s p g limit None (k ∷ ks) from h = absurd h
chain_short s p g limit (Some at) [] from h = absurd h
chain_short s p g limit (Some at) (k ∷ ks) from h =
    let more = chain_short s p g at h.1.1.1.0.prev ks h.1.0 h.1.1.1.1.1 in
    let less = h.1.1.0 in
    let e : suc (length ks) + s.cells ≤ limit = omega (arith, more, less) in e

pub lacks_enough : (n : ℕ) → 2 ≤ (2 - n) + n
lacks_enough n = omega arith

pub lacks_within : (n need : ℕ) → 2 ≤ need + n → 2 - n ≤ need
lacks_within n need enough = omega (arith, enough)

pub one_less : (need n least : ℕ) → suc least ≤ suc n → 2 ≤ need + least → 2 ≤ (need - 1) + suc n
one_less need n least more enough = omega (arith, more, enough)
