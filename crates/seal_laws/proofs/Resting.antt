-- A start after a put or a move that was done finds a clean end.
use Rattle.std.proofs.Common.{◌≡◌, inl, inr, ℕ, suc, ◌≤◌, Bool, if◌then◌else◌, None, List, [], ◌++◌, sym, ap, subst, ◌∙◌, arith}
use Rattle.std.proofs.lemmas.Bool.{le-ltb}
use Rattle.seal_parts.specs.declared.PartClass.TheVariants.{Blanks}
use Rattle.seal_parts.specs.declared.UnitKind.TheVariants.{Line}
use Rattle.seal_parts.specs.declared.LogDeed.{LogDeed}
use Rattle.seal_parts.specs.declared.DeedBody.{DeedBody}
use Rattle.seal_parts.specs.declared.DeedBody.TheVariants.{Opens}
use Rattle.seal_parts.specs.Parts.{PartFlash, PartView, ReadsUnits, blank_unit}
use Rattle.seal_logs.specs.declared.finding.FoundDeed.{FoundDeed}
use Rattle.seal_logs.specs.declared.starting.FoundStore.{FoundStore}
use Rattle.seal_logs.specs.Reads.{LogReads, EndsBefore}
use Rattle.seal_logs.specs.Starts.{IsMove, IsStoreFound, home_bank, home_generation}
use Rattle.seal_laws.specs.declared.SealSizes.{SealSizes}
use Rattle.seal_laws.specs.Writes.{reads_of, seal_line, deed_of, deed_writes, open_writes, start_writes}
use Rattle.seal_laws.proofs.Flashes.{blank_no_content, line_held}
use Rattle.seal_laws.proofs.Sealed.{FreeFrom, InBank, AtMove}
use Rattle.seal_laws.proofs.Within.{IsWholeEnd}
use Rattle.seal_laws.proofs.Starting.{FoundAt, found_at, mk, stay_not_move, latest_in, ends_at_cells, end_clean, end_latest}
use Rattle.seal_laws.proofs.StartingMoved.{latest_at}
use Rattle.seal_laws.proofs.Erasing.{clean_writes}

module _ (P : List (List ℕ) → Type 0) (s : SealSizes) (f after : PartFlash) (view : PartView) (reads : ReadsUnits Blanks f view after) (found : FoundStore) (cells : List (List ℕ)) where
  abbrev seen_here : LogReads
  seen_here = reads_of Blanks view

  -- the log is in a bank
  pub nothing_written : (b g last : ℕ) (cur : LogDeed) (chain : List ℕ) (copy now : List (List ℕ)) → InBank P s.log f b g last cur chain copy now → IsWholeEnd s.log f b last
      → IsStoreFound s.log seen_here found cells → start_writes Blanks s found ≡ []
  nothing_written b g last cur chain copy now i w x =
      let e = latest_in P s f after view reads b g last cur chain copy now i found.latest x.whole.latest in
      let y : FoundAt s.log seen_here found cells (mk b found.latest.place g found.latest.deed) = subst (λ (z : FoundDeed). FoundAt s.log seen_here found cells z) e.0 (found_at s.log seen_here found cells x) in
      let clean = y.clean.1 (end_clean s.log f after view reads b g last cur chain i.deeds w found.latest.place found.latest.deed y.whole.latest e.1 found.next y.next) in
      let same = end_latest s.log f after view reads b g last cur chain i.deeds w found.latest.place found.latest.deed y.whole.latest e.1 in
      clean_writes Blanks s found clean (subst (λ (z : LogDeed). IsMove z.body → ⊥) (sym same) (stay_not_move cur.body i.home))

  -- the log has moved, and its new bank has no deed
  module _ (m g last : ℕ) (cur : LogDeed) (chain : List ℕ) (b : ℕ) (copy : List (List ℕ)) (i : AtMove P s.log f m g last cur chain b copy) (w : IsWholeEnd s.log f m last) (apart : FreeFrom s.log f b s.log.cells) where
    -- the latest deed is the move
    module _ (p : ℕ) (y : FoundAt s.log seen_here found cells (mk m p g cur)) (is : found.latest.deed ≡ cur) (more : last ≤ p) where
      home_is : found.home ≡ b
      home_is = y.home ∙ ap (λ (z : DeedBody). home_bank (mk m p g cur) z) i.move

      generation_is : found.generation ≡ suc g
      generation_is = y.generation ∙ ap (λ (z : DeedBody). home_generation (mk m p g cur) z) i.move

      home_end : found.home_next ≡ s.log.cells
      home_end = ends_at_cells s.log f after view reads b (suc g) found.home_next i.sound.erased apart
          (subst (λ (n : ℕ). EndsBefore s.log (seen_here n) (suc g) found.home_next) home_is (subst (λ (n : ℕ). EndsBefore s.log (seen_here found.home) n found.home_next) generation_is y.home_next))

      open_none : open_writes Blanks s found found.latest.deed.body ≡ []
      open_none = ap (λ (z : LogDeed). open_writes Blanks s found z.body) is ∙ (ap (λ (z : DeedBody). open_writes Blanks s found z) i.move
          ∙ ap (λ (z : Bool). if z then deed_writes Blanks found.home found.home_next (seal_line found.generation (deed_of None Opens)) else []) (le-ltb s.log.cells found.home_next (let e = home_end in omega (arith, e))))

      moved_none : start_writes Blanks s found ≡ []
      moved_none = ap (λ (c : Bool). (if c then [] else deed_writes Blanks found.latest.bank found.next (seal_line found.latest.generation found.latest.deed)) ++ open_writes Blanks s found found.latest.deed.body)
          (y.clean.1 (end_clean s.log f after view reads m g last cur chain i.deeds w p cur y.whole.latest more found.next y.next)) ∙ open_none

    pub nothing_moved : IsStoreFound s.log seen_here found cells → start_writes Blanks s found ≡ []
    nothing_moved x = elim (latest_at P s f after view reads m g last cur chain b copy i found.latest x.whole.latest) [
      | inl there ↦ moved_none found.latest.place (subst (λ (z : FoundDeed). FoundAt s.log seen_here found cells z) there.0 (found_at s.log seen_here found cells x)) (ap (λ (z : FoundDeed). z.deed) there.0) there.1
      | inr first ↦ (
          let bank : found.latest.bank ≡ b = ap (λ (z : FoundDeed). z.bank) first.0 in
          let blank = subst (λ (n : ℕ). f.unit n found.latest.place Line ≡ blank_unit) (sym bank) (apart found.latest.place x.whole.latest.inside.1.0 x.whole.latest.inside.1.1) in
          absurd (blank_no_content (f.unit found.latest.bank found.latest.place Line) _ blank (line_held f after view reads found.latest.bank found.latest.place _ x.whole.latest.is)))
    ]
