-- A start on a part of blanks finds the store: it doesn't say that there is none, nor that a line was lost.
use Rattle.std.proofs.Common.{◌≡◌, ◌≢◌, ◌⊎◌, inl, inr, ℕ, suc, ◌<◌, ◌≤◌, Bool, true, false, if◌then◌else◌, List, [], ◌∷◌, length, refl, sym, ap, subst, ◌∙◌, arith}
use Rattle.std.proofs.lemmas.Bool.{cases_lt, cases_eq}
use Rattle.seal_parts.specs.declared.PartClass.TheVariants.{Blanks}
use Rattle.seal_parts.specs.declared.UnitKind.TheVariants.{Line, Confirm, SecondConfirm}
use Rattle.seal_parts.specs.declared.UnitContent.TheVariants.{Mark}
use Rattle.seal_parts.specs.declared.LogDeed.{LogDeed}
use Rattle.seal_parts.specs.declared.DeedBody.{DeedBody}
use Rattle.seal_parts.specs.declared.DeedBody.TheVariants.{Opens, Puts, Moves, IsNew}
use Rattle.seal_parts.specs.Parts.{PartFlash, PartView, ReadsUnits}
use Rattle.seal_logs.specs.declared.LogSizes.{LogSizes}
use Rattle.seal_logs.specs.declared.finding.FoundDeed.{FoundDeed}
use Rattle.seal_logs.specs.declared.starting.StartEnd.{StartEnd}
use Rattle.seal_logs.specs.declared.starting.StartEnd.TheVariants.{NoStore, Damaged, Exhausted, Found}
use Rattle.seal_logs.specs.Reads.{LogReads, IsDeedPlace, ReadsDeed, HasDeedIn, HasNoDeedIn, HasTwoLatestIn, LacksLine, IsChain, IsCopyRead, after_body}
use Rattle.seal_logs.specs.Starts.{IsLatestDeed, HasChain, HasHome, LacksHomeLine, IsWholeLog, home_bank, home_generation, IsLogNew, has_no_deed, is_begun, IsLogDamaged, has_two_latest, lacks_line, lacks_deed, lacks_copy, lacks_home_line, StartFinds}
use Rattle.seal_logs.proofs.CallerLemmas.{one_deed}
use Rattle.seal_laws.specs.declared.SealSizes.{SealSizes}
use Rattle.seal_laws.specs.Writes.{reads_of, reads_mark}
use Rattle.seal_laws.proofs.Flashes.{firm_reads, blank_no_content, chain_extends, copy_extends, reads_firm, line_held, mark_held}
use Rattle.seal_laws.proofs.Sealed.{SoundBank, StaysHome, MayStand, stands_again, stands_put, stands_move, InBank, StandsFirst, AtMove, line_one, Before, before_again, before_next}
use Rattle.seal_laws.proofs.Writing.{Rests, rests_in, rests_at, again_chain, last_from, last_below}
use Rattle.seal_laws.proofs.Starting.{mk, stay_bank, stay_generation, latest_in}
use Rattle.seal_laws.proofs.StartingMoved.{latest_at}

either_mark : (x y : Bool) → (if x then true else y) ≡ true → (x ≡ true) ⊎ (y ≡ true)
either_mark true y e = inl refl
either_mark false y e = inr e

stay_old : (body : DeedBody) → StaysHome body → body ≢ IsNew
stay_old Opens h e = absurd (cc)
stay_old (Puts cell payload) h e = absurd (cc)
stay_old (Moves bank generation) h e = h
stay_old IsNew h e = h

move_old : (bank generation : ℕ) (body : DeedBody) → body ≡ Moves bank generation → body ≢ IsNew
move_old bank generation body is new = (let e : Moves bank generation ≡ IsNew = sym is ∙ new in absurd (cc))

-- a copy is read in the bank of a deed that stays, and no line of it was lost
has_home_stay : (s : LogSizes) (r : LogReads) (d : FoundDeed) (copy : List (List ℕ)) → StaysHome d.deed.body → d.bank < s.banks → length copy ≡ s.cells → IsCopyRead (r d.bank) d.generation copy → HasHome s r d copy
has_home_stay s r d copy h inside count copied = record {
  inside = subst (λ (z : ℕ). z < s.banks) (sym (stay_bank d d.deed.body h)) inside;
  count = count;
  copied = subst (λ (z : ℕ). IsCopyRead (r z) (home_generation d d.deed.body) copy) (sym (stay_bank d d.deed.body h))
      (subst (λ (z : ℕ). IsCopyRead (r d.bank) z copy) (sym (stay_generation d d.deed.body h)) copied);
}

stay_lines : (s : LogSizes) (r : LogReads) (d : FoundDeed) → StaysHome d.deed.body → (LacksLine s (r d.bank) d.generation → ⊥) → LacksHomeLine s r d → ⊥
stay_lines s r d h lines lost = lines (subst (λ (z : ℕ). LacksLine s (r z) d.generation) (stay_bank d d.deed.body h)
    (subst (λ (z : ℕ). LacksLine s (r (home_bank d d.deed.body)) z) (stay_generation d d.deed.body h) lost))

has_home_moved : (s : LogSizes) (r : LogReads) (d : FoundDeed) (to g : ℕ) (copy : List (List ℕ)) → d.deed.body ≡ Moves to g → to < s.banks → length copy ≡ s.cells → IsCopyRead (r to) g copy → HasHome s r d copy
has_home_moved s r d to g copy is inside count copied = record {
  inside = subst (λ (z : DeedBody). home_bank d z < s.banks) (sym is) inside;
  count = count;
  copied = subst (λ (z : DeedBody). IsCopyRead (r (home_bank d z)) (home_generation d z) copy) (sym is) copied;
}

moved_lines : (s : LogSizes) (r : LogReads) (d : FoundDeed) (to g : ℕ) → d.deed.body ≡ Moves to g → (LacksLine s (r to) g → ⊥) → LacksHomeLine s r d → ⊥
moved_lines s r d to g is lines lost = lines (subst (λ (z : DeedBody). LacksLine s (r (home_bank d z)) (home_generation d z)) is lost)

-- a log that is whole, with this latest deed
abbrev WholeOf : LogSizes → LogReads → FoundDeed → Type 0
WholeOf s r d = (xs : List ℕ) × ((copy : List (List ℕ)) × IsWholeLog s r d xs copy)

module _ (P : List (List ℕ) → Type 0) (s : SealSizes) (f after : PartFlash) (view : PartView) (reads : ReadsUnits Blanks f view after) where
  abbrev seen : LogReads
  seen = reads_of Blanks view

  confirmed_firm : (b g p : ℕ) → SoundBank s.log f b g → s.log.cells ≤ p → (seen b p).is_confirmed ≡ true → (d : LogDeed) × ReadsDeed (firm_reads f b p) g d
  confirmed_firm b g p sound far is = elim (either_mark (reads_mark (view b p Confirm)) (reads_mark (view b p SecondConfirm)) is) [
    | inl one ↦ elim (sound.confirm p far) [
      | inl blank ↦ absurd (blank_no_content (f.unit b p Confirm) Mark blank (mark_held f after view reads b p Confirm one))
      | inr firm ↦ firm
    ]
    | inr other ↦ elim (sound.second p far) [
      | inl blank ↦ absurd (blank_no_content (f.unit b p SecondConfirm) Mark blank (mark_held f after view reads b p SecondConfirm other))
      | inr firm ↦ firm
    ]
  ]

  lines_whole : (b g : ℕ) → SoundBank s.log f b g → LacksLine s.log (seen b) g → ⊥
  lines_whole b g sound lost = (let firm = confirmed_firm b g lost.place sound lost.from lost.confirmed in lost.lacks firm.0 (reads_firm f after view reads b lost.place _ firm.1))

  -- the chain of a deed that is read
  chain_read : (b g p : ℕ) (d : LogDeed) (ks : List ℕ) → s.log.cells ≤ p → p < s.log.places → ReadsDeed (seen b p) g d → IsChain s.log (firm_reads f b) g p d.prev ks → HasChain s.log seen (mk b p g d) (p ∷ ks)
  chain_read b g p d ks far below is chain = (refl, (far, (below, (d, (is, chain_extends s.log (firm_reads f b) (seen b) g (reads_firm f after view reads b) p d.prev ks chain)))))

  -- ---- the log is in a bank

  module _ (b g last : ℕ) (cur : LogDeed) (chain : List ℕ) (copy now : List (List ℕ)) (i : InBank P s.log f b g last cur chain copy now) where
    last_read : ReadsDeed (seen b last) g cur
    last_read = reads_firm f after view reads b last _ i.deeds.is

    last_inside : IsDeedPlace s.log b last
    last_inside = (i.deeds.sound.inside, (last_from s.log f b g last cur chain i.deeds, last_below s.log f b g last cur chain i.deeds))

    module _ (p : ℕ) (d : LogDeed) (l : IsLatestDeed s.log seen (mk b p g d)) (more : last ≤ p) where
      abbrev at : FoundDeed
      at = mk b p g d

      stay_whole : (made : List (List ℕ)) → Before s.log f b g p copy d made → StaysHome d.body → WholeOf s.log seen at
      stay_whole made z home = (
        p ∷ z.ks,
        (
          copy,
          record {
            latest = l;
            lines = lines_whole b g i.deeds.sound;
            followed = chain_read b g p d z.ks l.inside.1.0 l.inside.1.1 l.is z.chain;
            old = stay_old d.body home;
            home = has_home_stay s.log seen at copy home i.deeds.sound.inside i.cells.count (copy_extends s.log (firm_reads f b) (seen b) g (reads_firm f after view reads b) copy i.cells.copied);
            home_lines = stay_lines s.log seen at home (lines_whole b g i.deeds.sound);
          },
        ),
      )

      again_whole : d ≡ cur → WholeOf s.log seen at
      again_whole e = stay_whole now (subst (λ (z : LogDeed). Before s.log f b g p copy z now) (sym e) (before_again s.log f b g last cur copy now chain i.deeds i.cells.makes p more))
          (subst (λ (z : LogDeed). StaysHome z.body) (sym e) i.home)

      stand_whole : last < p → MayStand P s.log f b g last now cur d → WholeOf s.log seen at
      stand_whole less (stands_again e) = again_whole e
      stand_whole less (stands_put body e home may) = stay_whole _
          (subst (λ (z : LogDeed). Before s.log f b g p copy z (after_body body now)) (sym e) (before_next s.log f b g last cur copy now chain i.deeds i.cells.makes p less body))
          (subst (λ (z : LogDeed). StaysHome z.body) (sym e) home)
      stand_whole less (stands_move to cells e apart ready may) =
          let z = before_next s.log f b g last cur copy now chain i.deeds i.cells.makes p less (Moves to (suc g)) in
          let is : d.body ≡ Moves to (suc g) = ap (λ (w : LogDeed). w.body) e in (
            p ∷ z.ks,
            (
              cells,
              record {
                latest = l;
                lines = lines_whole b g i.deeds.sound;
                followed = chain_read b g p d z.ks l.inside.1.0 l.inside.1.1 l.is (subst (λ (w : LogDeed). IsChain s.log (firm_reads f b) g p w.prev z.ks) (sym e) z.chain);
                old = move_old to (suc g) d.body is;
                home = has_home_moved s.log seen at to (suc g) cells is ready.sound.inside ready.count (copy_extends s.log (firm_reads f to) (seen to) (suc g) (reads_firm f after view reads to) cells ready.copied);
                home_lines = moved_lines s.log seen at to (suc g) is (lines_whole to (suc g) ready.sound);
              },
            ),
          )

      in_whole : WholeOf s.log seen at
      in_whole = elim (cases_lt last p) [
        | inl less ↦ stand_whole less (i.stand p d less l.inside.1.1 (line_held f after view reads b p _ l.is))
        | inr far ↦ (
            let e : p ≡ last = omega (arith, more, far) in
            again_whole (one_deed (seen b last) g d cur (subst (λ (z : ℕ). ReadsDeed (seen b z) g d) e l.is) last_read))
      ]

    whole_in : (d : FoundDeed) → IsLatestDeed s.log seen d → WholeOf s.log seen d
    whole_in d l =
        let e = latest_in P s f after view reads b g last cur chain copy now i d l in
        subst (λ (z : FoundDeed). WholeOf s.log seen z) (sym e.0) (in_whole d.place d.deed (subst (λ (z : FoundDeed). IsLatestDeed s.log seen z) e.0 l) e.1)

    two_in : (t : ℕ) → HasTwoLatestIn (IsDeedPlace s.log) seen t → ⊥
    two_in t two =
        let most = two.most b last g cur last_inside last_read in
        let here : (x : ℕ) → HasDeedIn (IsDeedPlace s.log) seen x t → x ≡ b = λ x h. elim (cases_eq x b) [
          | inl is ↦ is
          | inr ne ↦ (let z = i.older x ne h.place t h.deed h.inside.1.0 h.inside.1.1 (line_held f after view reads x h.place _ h.is) in absurd (omega (arith, z, most)))
        ] in
        two.differ (here two.bank two.one ∙ sym (here two.other two.another))

  -- ---- the log has just moved

  module _ (m g last : ℕ) (cur : LogDeed) (chain : List ℕ) (b : ℕ) (copy : List (List ℕ)) (i : AtMove P s.log f m g last cur chain b copy) where
    move_read : ReadsDeed (seen m last) g cur
    move_read = reads_firm f after view reads m last _ i.deeds.is

    move_inside : IsDeedPlace s.log m last
    move_inside = (i.deeds.sound.inside, (last_from s.log f m g last cur chain i.deeds, last_below s.log f m g last cur chain i.deeds))

    copy_seen : IsCopyRead (seen b) (suc g) copy
    copy_seen = copy_extends s.log (firm_reads f b) (seen b) (suc g) (reads_firm f after view reads b) copy i.copied

    whole_move : (p : ℕ) → IsLatestDeed s.log seen (mk m p g cur) → last ≤ p → WholeOf s.log seen (mk m p g cur)
    whole_move p l more =
        let c = again_chain s.log f m g last cur chain i.deeds p more in (
          p ∷ c.0,
          (
            copy,
            record {
              latest = l;
              lines = lines_whole m g i.deeds.sound;
              followed = chain_read m g p cur c.0 l.inside.1.0 l.inside.1.1 l.is c.1;
              old = move_old b (suc g) cur.body i.move;
              home = has_home_moved s.log seen (mk m p g cur) b (suc g) copy i.move i.sound.inside i.count copy_seen;
              home_lines = moved_lines s.log seen (mk m p g cur) b (suc g) i.move (lines_whole b (suc g) i.sound);
            },
          ),
        )

    whole_first : (p : ℕ) (d : LogDeed) → IsLatestDeed s.log seen (mk b p (suc g) d) → StandsFirst P copy d → WholeOf s.log seen (mk b p (suc g) d)
    whole_first p d l st =
        let home : StaysHome d.body = subst (λ (z : LogDeed). StaysHome z.body) (sym st.is) st.home in (
          p ∷ [],
          (
            copy,
            record {
              latest = l;
              lines = lines_whole b (suc g) i.sound;
              followed = chain_read b (suc g) p d [] l.inside.1.0 l.inside.1.1 l.is (subst (λ (z : LogDeed). IsChain s.log (firm_reads f b) (suc g) p z.prev []) (sym st.is) tt);
              old = stay_old d.body home;
              home = has_home_stay s.log seen (mk b p (suc g) d) copy home i.sound.inside i.count copy_seen;
              home_lines = stay_lines s.log seen (mk b p (suc g) d) home (lines_whole b (suc g) i.sound);
            },
          ),
        )

    whole_at : (d : FoundDeed) → IsLatestDeed s.log seen d → WholeOf s.log seen d
    whole_at d l = elim (latest_at P s f after view reads m g last cur chain b copy i d l) [
      | inl e ↦ subst (λ (z : FoundDeed). WholeOf s.log seen z) (sym e.0) (whole_move d.place (subst (λ (z : FoundDeed). IsLatestDeed s.log seen z) e.0 l) e.1)
      | inr e ↦ subst (λ (z : FoundDeed). WholeOf s.log seen z) (sym e.0) (whole_first d.place d.deed (subst (λ (z : FoundDeed). IsLatestDeed s.log seen z) e.0 l) e.1)
    ]

    two_at : (t : ℕ) → HasTwoLatestIn (IsDeedPlace s.log) seen t → ⊥
    two_at t two =
        let most = two.most m last g cur move_inside move_read in
        let here : (x : ℕ) → HasDeedIn (IsDeedPlace s.log) seen x t → ((x ≡ b) × (t ≡ suc g)) ⊎ ((x ≡ m) × (t ≡ g)) = λ x h.
        let held = line_held f after view reads x h.place _ h.is in
        elim (cases_eq x b) [
          | inl is ↦ (
              let at = i.sound.lines h.place _ h.inside.1.0 h.inside.1.1 (ap (λ (z : ℕ). (f.unit z h.place Line).content) (sym is) ∙ held) in
              inl (is, (line_one t (suc g) h.deed at.0 at.1).0))
          | inr ne ↦ elim (cases_eq x m) [
            | inl is ↦ (
                let at = i.deeds.sound.lines h.place _ h.inside.1.0 h.inside.1.1 (ap (λ (z : ℕ). (f.unit z h.place Line).content) (sym is) ∙ held) in
                inr (is, (line_one t g h.deed at.0 at.1).0))
            | inr apart ↦ (let z = i.older x apart ne h.place t h.deed h.inside.1.0 h.inside.1.1 held in absurd (omega (arith, z, most)))
          ]
        ] in
        elim (here two.bank two.one) [
          | inl x ↦ elim (here two.other two.another) [
            | inl y ↦ two.differ (x.0 ∙ sym y.0)
            | inr y ↦ (let u = x.1 in let v = y.1 in omega (arith, u, v))
          ]
          | inr x ↦ elim (here two.other two.another) [
            | inl y ↦ (let u = x.1 in let v = y.1 in omega (arith, u, v))
            | inr y ↦ two.differ (x.0 ∙ sym y.0)
          ]
        ]

  -- ---- each start

  module _ (limit : ℕ) where
    whole_rests : Rests P s.log limit f → (d : FoundDeed) → IsLatestDeed s.log seen d → WholeOf s.log seen d
    whole_rests (rests_in b g last cur chain copy now i need enough ends) d l = whole_in b g last cur chain copy now i d l
    whole_rests (rests_at m g last cur chain b copy i left home) d l = whole_at m g last cur chain b copy i d l

    two_rests : Rests P s.log limit f → (t : ℕ) → HasTwoLatestIn (IsDeedPlace s.log) seen t → ⊥
    two_rests (rests_in b g last cur chain copy now i need enough ends) t two = two_in b g last cur chain copy now i t two
    two_rests (rests_at m g last cur chain b copy i left home) t two = two_at m g last cur chain b copy i t two

    some_rests : Rests P s.log limit f → HasNoDeedIn (IsDeedPlace s.log) seen → ⊥
    some_rests (rests_in b g last cur chain copy now i need enough ends) none = none b last g cur (last_inside b g last cur chain copy now i) (last_read b g last cur chain copy now i)
    some_rests (rests_at m g last cur chain b copy i left home) none = none m last g cur (move_inside m g last cur chain b copy i) (move_read m g last cur chain b copy i)

    not_new : Rests P s.log limit f → IsLogNew s.log seen → ⊥
    not_new i (has_no_deed none) = some_rests i none
    not_new i (is_begun d xs l lines chain new) = (whole_rests i d l).1.1.old new

    not_damaged : Rests P s.log limit f → IsLogDamaged s.log seen → ⊥
    not_damaged i (has_two_latest t two) = two_rests i t two
    not_damaged i (lacks_line d l lost) = (whole_rests i d l).1.1.lines lost
    not_damaged i (lacks_deed d l none) = (let w = whole_rests i d l in none w.0 w.1.1.followed)
    not_damaged i (lacks_copy d l old none) = (let w = whole_rests i d l in none w.1.0 w.1.1.home)
    not_damaged i (lacks_home_line d l lost) = (whole_rests i d l).1.1.home_lines lost

    pub finds_store : Rests P s.log limit f → (end : StartEnd) (cells : List (List ℕ)) → StartFinds s.log seen end cells → (end ≢ NoStore) × (end ≢ Damaged)
    finds_store i NoStore cells x = absurd (not_new i x)
    finds_store i Damaged cells x = absurd (not_damaged i x)
    finds_store i Exhausted cells x = (λ e. absurd (cc), λ e. absurd (cc))
    finds_store i (Found found) cells x = (λ e. absurd (cc), λ e. absurd (cc))
