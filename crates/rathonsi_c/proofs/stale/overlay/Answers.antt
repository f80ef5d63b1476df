use Rattle.std.proofs.Common.{◌≡◌, ℕ, ◌+◌, ◌<◌, ◌≤◌, ◌⊎◌, inl, inr, length, sym, ◌∙◌, arith}
use Rattle.cell_store.specs.Twin.{first_at}
use Rattle.store_plan.specs.declared.planning.Write.{Write}
use Rattle.rathonsi_c.proofs.StaleLaws.{put_mid-is, write-over, write-beside}
use Rattle.rathonsi_c.proofs.stale.overlay.Goals.{then-from-at, else-from-at, then-end-at, else-end-at, else-first-last-via-then-first-last+else-write-le40, else-first-last-via-else-first-last}
use Rattle.rathonsi_c.proofs.stale.overlay.Goals as goal

-- if none of the bytes is here
apart : (w : Write) (at first last : ℕ) → (first ≡ at) ⊎ (first ≡ w.offset) → (last ≡ at + 68) ⊎ (last ≡ w.offset + w.size) → last ≤ first → (w.size ≡ 0) ⊎ ((at + 68 ≤ w.offset) ⊎ (w.offset + w.size ≤ at))
apart w at first last begins ends none = elim begins [
  | inl here ↦ elim ends [ inl all ↦ absurd (omega arith) | inr end ↦ inr (inr (omega arith)) ]
  | inr there ↦ elim ends [ inl all ↦ inr (inl (omega arith)) | inr end ↦ inl (omega arith) ]
]

pub returns-then-write-le40 : goal.returns-then-write-le40
returns-then-write-le40 c = λ x room f e.
    let w = c.args.write.now in
    let at = first_at c.args.cell in
    let first = c.if-from-at.first in
    let last = c.if-end-at.last in
    let begins : (at ≤ first) × ((w.offset ≤ first) × ((first ≡ at) ⊎ (first ≡ w.offset))) = elim c.if-from-at.branch [
      | then-from-at b ↦ (let t = b.if-from-at.true in let i = b.first-is in (omega arith, (omega arith, inl (omega arith))))
      | else-from-at b ↦ (let t = b.if-from-at.false in let i = b.first-is in (omega arith, (omega arith, inr (omega arith))))
    ] in
    let ends : (last ≤ at + 68) × ((last ≤ w.offset + w.size) × ((last ≡ at + 68) ⊎ (last ≡ w.offset + w.size))) = elim c.if-end-at.branch [
      | then-end-at b ↦ (let t = b.if-end-at.true in let i = b.last-is in (omega arith, (omega arith, inr (omega arith))))
      | else-end-at b ↦ (let t = b.if-end-at.false in let i = b.last-is in (omega arith, (omega arith, inl (omega arith))))
    ] in
    let some : first < last = (let t = c.if-first-last.true in omega arith) in
    let few : w.size ≤ 40 = f.few in
    let forty : length w.bytes ≡ 40 = (let t = c.fits-write in omega arith) in
    put_mid-is first last at w.offset w.bytes x c.args.pair.now c.copy_from_slice.new.self begins.0 begins.1.0 some forty (let a = ends.1.0 in omega arith) ends.0 room e c.copy_from_slice.ensures.after
    ∙ write-over w x at first last f forty room begins.0 begins.1.0 begins.1.1 ends.0 ends.1.0 ends.1.1 some

pub returns-else-first-last : goal.returns-else-first-last
returns-else-first-last c = λ x room f e. elim c.else-first-last.branch [
  | else-first-last-via-then-first-last+else-write-le40 b ↦ absurd (let few = f.few in let t = b.if-write-le40.false in omega arith)
  | else-first-last-via-else-first-last b ↦
      let w = c.args.write.now in
      let at = first_at c.args.cell in
      let first = c.if-from-at.first in
      let last = c.if-end-at.last in
      let begins : (first ≡ at) ⊎ (first ≡ w.offset) = elim c.if-from-at.branch [
        | then-from-at d ↦ (let i = d.first-is in inl (omega arith))
        | else-from-at d ↦ (let i = d.first-is in inr (omega arith))
      ] in
      let ends : (last ≡ at + 68) ⊎ (last ≡ w.offset + w.size) = elim c.if-end-at.branch [
        | then-end-at d ↦ (let i = d.last-is in inr (omega arith))
        | else-end-at d ↦ (let i = d.last-is in inl (omega arith))
      ] in
      e ∙ sym (write-beside w x at 68 f (apart w at first last begins ends (let t = b.if-first-last.false in omega arith)))
]
