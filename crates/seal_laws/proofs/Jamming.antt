-- A start on a part of blanks finds a place, as long as the limit isn't above the places of a bank.
use Rattle.std.proofs.Common.{◌≡◌, ◌⊎◌, inl, inr, ℕ, suc, ◌≤◌, List, refl, sym, ap, subst, arith}
use Rattle.std.proofs.lemmas.Bool.{cases_lt}
use Rattle.seal_parts.specs.declared.PartClass.TheVariants.{Blanks}
use Rattle.seal_parts.specs.declared.LogDeed.{LogDeed}
use Rattle.seal_parts.specs.declared.DeedBody.{DeedBody}
use Rattle.seal_parts.specs.declared.DeedBody.TheVariants.{Moves}
use Rattle.seal_parts.specs.Parts.{PartFlash, PartView, ReadsUnits}
use Rattle.seal_logs.specs.declared.finding.FoundDeed.{FoundDeed}
use Rattle.seal_logs.specs.declared.starting.FoundStore.{FoundStore}
use Rattle.seal_logs.specs.declared.starting.StartEnd.{StartEnd}
use Rattle.seal_logs.specs.declared.starting.StartEnd.TheVariants.{NoStore, Damaged, Exhausted, Found}
use Rattle.seal_logs.specs.Reads.{LogReads, ReadsDeed, EndsBefore}
use Rattle.seal_logs.specs.Starts.{IsMove, IsLatestDeed, IsClean, home_bank, home_generation, StartFinds}
use Rattle.seal_logs.proofs.CallerLemmas.{one_deed}
use Rattle.seal_laws.specs.declared.SealSizes.{SealSizes}
use Rattle.seal_laws.specs.Writes.{reads_of}
use Rattle.seal_laws.proofs.Flashes.{reads_firm, line_held}
use Rattle.seal_laws.proofs.Sealed.{StaysHome, MayStand, stands_again, stands_put, stands_move, InBank, AtMove}
use Rattle.seal_laws.proofs.Within.{EndsWithin, whole_within, next_within, LeftWithin, left_whole, left_within, HomeWithin}
use Rattle.seal_laws.proofs.Writing.{Rests, rests_in, rests_at, last_from, last_before}
use Rattle.seal_laws.proofs.Starting.{mk, stay_not_move, latest_in, ends_by, end_clean}
use Rattle.seal_laws.proofs.StartingMoved.{latest_at}
use Rattle.seal_laws.proofs.Finding.{finds_store}

module _ (P : List (List ℕ) → Type 0) (s : SealSizes) (f after : PartFlash) (view : PartView) (reads : ReadsUnits Blanks f view after) (limit : ℕ) (low : limit ≤ s.log.places) where
  abbrev seen : LogReads
  seen = reads_of Blanks view

  -- no place is left for the deed again, or for the one that opens its home
  abbrev IsFullAt : FoundDeed → Type 0
  IsFullAt d = (EndsBefore s.log (seen d.bank) d.generation s.log.places × (IsClean seen d s.log.places → ⊥))
      ⊎ (IsMove d.deed.body × EndsBefore s.log (seen (home_bank d d.deed.body)) (home_generation d d.deed.body) s.log.places)

  -- ---- the log is in a bank

  module _ (b g last : ℕ) (cur : LogDeed) (chain : List ℕ) (copy now : List (List ℕ)) (i : InBank P s.log f b g last cur chain copy now) (need : ℕ) (p : ℕ) (d : LogDeed) (l : IsLatestDeed s.log seen (mk b p g d)) (more : last ≤ p) where
    here_full : EndsWithin s.log f limit b last need → EndsBefore s.log (seen b) g s.log.places → (IsClean seen (mk b p g d) s.log.places → ⊥) → ⊥
    here_full (whole_within w room) ends never = never (end_clean s.log f after view reads b g last cur chain i.deeds w p d l more s.log.places ends)
    here_full (next_within n blank room) ends never =
        let from = last_from s.log f b g last cur chain i.deeds in
        let past = last_before s.log f b g last cur chain i.deeds n blank in
        let most = ends_by s.log f after view reads b g s.log.places n i.deeds.sound.erased (omega (arith, from, past)) blank ends in
        omega (arith, most, room, low)

    stays_full : StaysHome d.body → IsMove d.body → ⊥
    stays_full home moves = stay_not_move d.body home moves

    again_full : d ≡ cur → IsMove d.body → ⊥
    again_full e moves = stays_full (subst (λ (z : LogDeed). StaysHome z.body) (sym e) i.home) moves

    move_full : MayStand P s.log f b g last now cur d → IsMove d.body → EndsBefore s.log (seen (home_bank (mk b p g d) d.body)) (home_generation (mk b p g d) d.body) s.log.places → ⊥
    move_full (stands_again e) moves ends = again_full e moves
    move_full (stands_put body e home may) moves ends = stays_full (subst (λ (z : LogDeed). StaysHome z.body) (sym e) home) moves
    move_full (stands_move to cells e apart ready may) moves ends =
        let is : d.body ≡ Moves to (suc g) = ap (λ (z : LogDeed). z.body) e in
        let there : EndsBefore s.log (seen to) (suc g) s.log.places = subst (λ (z : DeedBody). EndsBefore s.log (seen (home_bank (mk b p g d) z)) (home_generation (mk b p g d) z) s.log.places) is ends in
        let most = ends_by s.log f after view reads to (suc g) s.log.places s.log.cells ready.sound.erased (omega arith) ready.free there in
        let from = l.inside.1.0 in
        let below = l.inside.1.1 in
        omega (arith, most, from, below)

    in_full : EndsWithin s.log f limit b last need → IsFullAt (mk b p g d) → ⊥
    in_full within (inl full) = here_full within full.0 full.1
    in_full within (inr full) = elim (cases_lt last p) [
      | inl less ↦ move_full (i.stand p d less l.inside.1.1 (line_held f after view reads b p _ l.is)) full.0 full.1
      | inr far ↦ (
          let e : p ≡ last = omega (arith, more, far) in
          again_full (one_deed (seen b last) g d cur (subst (λ (z : ℕ). ReadsDeed (seen b z) g d) e l.is) (reads_firm f after view reads b last _ i.deeds.is)) full.0)
    ]

  -- ---- the log has just moved

  module _ (m g last : ℕ) (cur : LogDeed) (chain : List ℕ) (b : ℕ) (copy : List (List ℕ)) (i : AtMove P s.log f m g last cur chain b copy) (home : HomeWithin s.log f limit b) where
    home_full : EndsBefore s.log (seen b) (suc g) s.log.places → ⊥
    home_full ends = (let most = ends_by s.log f after view reads b (suc g) s.log.places home.next i.sound.erased home.from home.free ends in let room = home.room in omega (arith, most, room, low))

    left_full : LeftWithin s.log f limit m last → (p : ℕ) → IsLatestDeed s.log seen (mk m p g cur) → last ≤ p → EndsBefore s.log (seen m) g s.log.places → (IsClean seen (mk m p g cur) s.log.places → ⊥) → ⊥
    left_full (left_whole w) p l more ends never = never (end_clean s.log f after view reads m g last cur chain i.deeds w p cur l more s.log.places ends)
    left_full (left_within n blank room) p l more ends never =
        let from = last_from s.log f m g last cur chain i.deeds in
        let past = last_before s.log f m g last cur chain i.deeds n blank in
        let most = ends_by s.log f after view reads m g s.log.places n i.deeds.sound.erased (omega (arith, from, past)) blank ends in
        omega (arith, most, room, low)

    at_full : LeftWithin s.log f limit m last → (p : ℕ) → IsLatestDeed s.log seen (mk m p g cur) → last ≤ p → IsFullAt (mk m p g cur) → ⊥
    at_full left p l more (inl full) = left_full left p l more full.0 full.1
    at_full left p l more (inr full) = home_full (subst (λ (z : DeedBody). EndsBefore s.log (seen (home_bank (mk m p g cur) z)) (home_generation (mk m p g cur) z) s.log.places) i.move full.1)

    first_full : (p : ℕ) (d : LogDeed) → StaysHome d.body → IsFullAt (mk b p (suc g) d) → ⊥
    first_full p d stays (inl full) = home_full full.0
    first_full p d stays (inr full) = stay_not_move d.body stays full.0

  -- ---- each start

  full_rests : Rests P s.log limit f → (d : FoundDeed) → IsLatestDeed s.log seen d → IsFullAt d → ⊥
  full_rests (rests_in b g last cur chain copy now i need enough within) d l full =
      let e = latest_in P s f after view reads b g last cur chain copy now i d l in
      in_full b g last cur chain copy now i need d.place d.deed (subst (λ (z : FoundDeed). IsLatestDeed s.log seen z) e.0 l) e.1 within (subst IsFullAt e.0 full)
  full_rests (rests_at m g last cur chain b copy i left home) d l full =
      elim (latest_at P s f after view reads m g last cur chain b copy i d l) [
        | inl e ↦ at_full m g last cur chain b copy i home left d.place (subst (λ (z : FoundDeed). IsLatestDeed s.log seen z) e.0 l) e.1 (subst IsFullAt e.0 full)
        | inr e ↦ first_full m g last cur chain b copy i home d.place d.deed (subst (λ (z : LogDeed). StaysHome z.body) (sym e.1.is) e.1.home) (subst IsFullAt e.0 full)
      ]

  pub finds_place : Rests P s.log limit f → (end : StartEnd) (cells : List (List ℕ)) → StartFinds s.log seen end cells → (found : FoundStore) × (end ≡ Found found)
  finds_place rests NoStore cells x = absurd ((finds_store P s f after view reads limit rests NoStore cells x).0 refl)
  finds_place rests Damaged cells x = absurd ((finds_store P s f after view reads limit rests Damaged cells x).1 refl)
  finds_place rests Exhausted cells x = absurd (full_rests rests x.deed x.whole.latest x.full)
  finds_place rests (Found found) cells x = (found, refl)
