-- The lists of a table over CAN identifiers: how they are linked, and how far a frame was looked for
use Rattle.std.proofs.Common.{◌≡◌, ◌≢◌, ℕ, ◌+◌, ◌<◌, ◌≤◌, ◌&&◌, ◌==◌, Bool, true, false, cond, List, [], ◌∷◌, length, get_or, set, refl, sym, ◌∙◌, ap, subst, arith, inl, inr, get_or-set_same, get_or-set_other}
use Rattle.std.specs.Prelude.{nat_lt, slice_index, bytes_eq, None, Some}
use Rattle.std.specs.List.{position_or_len}
use Rattle.std.proofs.lemmas.Bool.{cases_lt}
use Rattle.std.proofs.lemmas.Bool.Decides.{not_from_Decides, Decides-eqb, Decides-ltb, eqb_tells, nat_tests}
use Rattle.std.proofs.lemmas.List.{get_or_default}
use Rattle.std.proofs.lemmas.List.Sums.{position_or_len_is}
use Rattle.std.proofs.lemmas.Slice.Eq.{bytes_eq-Decides}
use Rattle.can_logs.specs.declared.map_lines.MapLine.{MapLine}
use Rattle.can_logs.specs.MapLines.{hears, hears_frame, place_of_frame}
use Rattle.can_logs.specs.MapTables.{list_of_can, is_in_list, IsNextIn, AreFirsts, AreNexts}

-- ---- one list

-- a line of another list hears no frame of this CAN identifier
hears_not : (b : Bool) (l : MapLine) (can channel : List ℕ) → bytes_eq l.can can ≡ b → is_in_list (list_of_can can) l ≡ false → hears_frame l can channel ≡ false
hears_not true l can channel same other =
    absurd (not_from_Decides (list_of_can l.can == list_of_can can) (Decides-eqb (list_of_can l.can) (list_of_can can)) other
    (ap list_of_can ((bytes_eq-Decides l.can can).0 same)))
hears_not false l can channel differs other = ap (λ b. b && hears l.channel channel) differs

other_list : (l : MapLine) (can channel : List ℕ) → is_in_list (list_of_can can) l ≡ false → hears_frame l can channel ≡ false
other_list l can channel other = hears_not (bytes_eq l.can can) l can channel refl other

tells_apart : (a b : ℕ) → a ≢ b → (b == a) ≡ false
tells_apart a b differs = grind (arith, nat_tests, differs)

not_below : (a b : ℕ) → b ≤ a → nat_lt a b ≡ false
not_below a b le = grind (arith, nat_tests, le)

no_first : (test : MapLine → Bool) (lines : List MapLine) → ((k : ℕ) (d : MapLine) → k < length lines → test (get_or lines k d) ≡ false) → position_or_len test lines ≡ length lines
no_first test [] none = refl
no_first test (l ∷ lines) none = position_or_len_is test (l ∷ lines) (length (l ∷ lines)) l (omega arith) (λ k below. none k l below) (λ within. absurd (omega (arith, within)))

module _ (lines : List MapLine) where
  -- nothing comes after the last line
  pub IsNextIn-end : (list n : ℕ) → n ≡ length lines → IsNextIn lines list n n
  IsNextIn-end list n is = record {
    after = omega arith;
    within = omega (arith, is);
    between = λ place d from below. absurd (omega (arith, from, below));
    there = λ d inside. absurd (omega (arith, inside, is));
  }

  -- a line of the list itself
  IsNextIn-here : (list place : ℕ) (l : MapLine) → l ≡ get_or lines place l → place < length lines → list ≡ list_of_can l.can → IsNextIn lines list place place
  IsNextIn-here list place l l_is inside is = record {
    after = omega arith;
    within = omega (arith, inside);
    between = λ k d from below. absurd (omega (arith, from, below));
    there = λ d within. ap (is_in_list list) (get_or_default lines place d l inside ∙ sym l_is)
        ∙ (Decides-eqb (list_of_can l.can) list).1 (sym is);
  }

  -- a line of another list is passed over
  IsNextIn-over : (list place next : ℕ) (l : MapLine) → l ≡ get_or lines place l → place < length lines → list ≢ list_of_can l.can → IsNextIn lines list (place + 1) next → IsNextIn lines list place next
  IsNextIn-over list place next l l_is inside differs n = record {
    after = omega (arith, n.after);
    within = n.within;
    between = λ k d from below. elim (cases_lt place k) [
      | inl beyond ↦ n.between k d (omega (arith, beyond)) below
      | inr here ↦
          let is : k ≡ place = omega (arith, from, here) in
          let same : get_or lines k d ≡ l = ap (λ j. get_or lines j d) is ∙ get_or_default lines place d l inside ∙ sym l_is in
          ap (is_in_list list) same ∙ tells_apart list (list_of_can l.can) differs
    ];
    there = n.there;
  }

  -- one line more is linked before the others
  pub AreFirsts-more : (place list : ℕ) (l : MapLine) (firsts : List ℕ) → l ≡ get_or lines place l → place < length lines → list ≡ list_of_can l.can → length firsts ≡ 256
      → AreFirsts lines (place + 1) firsts → AreFirsts lines place (set firsts list place)
  AreFirsts-more place list l firsts l_is inside is size all = λ other below. elim (eqb_tells other list) [
    | inl (tells, same) ↦
        subst (IsNextIn lines other place) (sym (ap (slice_index (set firsts list place)) same ∙ get_or-set_same firsts list place 0 (omega (arith, same, below, size))))
        (IsNextIn-here other place l l_is inside (same ∙ is))
    | inr (tells, differs) ↦
        subst (IsNextIn lines other place) (sym (get_or-set_other firsts list other place 0 differs))
        (IsNextIn-over other place (slice_index firsts other) l l_is inside (λ same. differs (same ∙ sym is)) (all other below))
  ]

  pub AreNexts-more : (place next list : ℕ) (l : MapLine) (nexts : List ℕ) → l ≡ get_or lines place l → place < length lines → list ≡ list_of_can l.can → place < length nexts
      → IsNextIn lines list (place + 1) next → AreNexts lines (place + 1) nexts → AreNexts lines place (set nexts place next)
  AreNexts-more place next list l nexts l_is inside is fits here all = λ k d from within. elim (cases_lt place k) [
    | inl beyond ↦
        subst (IsNextIn lines (list_of_can (get_or lines k d).can) (k + 1)) (sym (get_or-set_other nexts place k next 0 (λ same. absurd (omega (arith, beyond, same)))))
        (all k d (omega (arith, beyond)) within)
    | inr at ↦
        let same : k ≡ place = omega (arith, from, at) in
        let line_is : get_or lines k d ≡ l = ap (λ j. get_or lines j d) same ∙ get_or_default lines place d l inside ∙ sym l_is in
        let list_is : list ≡ list_of_can (get_or lines k d).can = is ∙ ap (λ (x : MapLine). list_of_can x.can) (sym line_is) in
        subst (IsNextIn lines (list_of_can (get_or lines k d).can) (k + 1)) (sym (ap (slice_index (set nexts place next)) same ∙ get_or-set_same nexts place next 0 fits))
        (subst (λ j. IsNextIn lines (list_of_can (get_or lines k d).can) (j + 1) next) (sym same)
        (subst (λ j. IsNextIn lines j (place + 1) next) list_is here))
  ]

  -- ---- looking for the first line that hears a frame

  -- no line before this place hears the frame, and the one there is of its list
  pub record LookedTo (can channel : List ℕ) (at : ℕ) : Type 0 where
    pub within : at ≤ length lines
    pub deaf : (k : ℕ) (d : MapLine) → k < at → hears_frame (get_or lines k d) can channel ≡ false
    pub there : (d : MapLine) → at < length lines → is_in_list (list_of_can can) (get_or lines at d) ≡ true

  module _ (can channel : List ℕ) where
    pub LookedTo-first : (at : ℕ) → IsNextIn lines (list_of_can can) 0 at → LookedTo can channel at
    LookedTo-first at n = record {
      within = n.within;
      deaf = λ k d below. other_list (get_or lines k d) can channel (n.between k d (omega arith) below);
      there = n.there;
    }

    pub LookedTo-next : (at : ℕ) (l : MapLine) (nexts : List ℕ) → l ≡ get_or lines at l → at < length lines → hears_frame l can channel ≡ false → AreNexts lines 0 nexts
        → LookedTo can channel at → LookedTo can channel (slice_index nexts at)
    LookedTo-next at l nexts l_is inside hears_none all s =
        let own : list_of_can (get_or lines at l).can ≡ list_of_can can = (Decides-eqb (list_of_can (get_or lines at l).can) (list_of_can can)).0 (s.there l inside) in
        let n : IsNextIn lines (list_of_can can) (at + 1) (slice_index nexts at) =
        subst (λ list. IsNextIn lines list (at + 1) (slice_index nexts at)) own (all at l (omega arith) inside) in
        record {
          within = n.within;
          deaf = λ k d below. elim (cases_lt at k) [
            | inl beyond ↦ other_list (get_or lines k d) can channel (n.between k d (omega (arith, beyond)) below)
            | inr to ↦ elim (cases_lt k at) [
              | inl before ↦ s.deaf k d before
              | inr from ↦
                  let same : k ≡ at = omega (arith, to, from) in
                  ap (λ (x : MapLine). hears_frame x can channel) (ap (λ j. get_or lines j d) same ∙ get_or_default lines at d l inside ∙ sym l_is) ∙ hears_none
            ]
          ];
          there = n.there;
        }

    -- it was found
    pub LookedTo-found : (at : ℕ) (l : MapLine) → l ≡ get_or lines at l → at < length lines → hears_frame l can channel ≡ true → LookedTo can channel at
        → place_of_frame lines can channel ≡ Some at
    LookedTo-found at l l_is inside hears_it s =
        let test : MapLine → Bool = λ (x : MapLine). hears_frame x can channel in
        let first : position_or_len test lines ≡ at = position_or_len_is test lines at l s.within (λ k below. s.deaf k l below) (λ within. ap test (sym l_is) ∙ hears_it) in
        subst (λ n. cond (nat_lt n (length lines)) (Some n) None ≡ Some at) (sym first) (ap (λ b. cond b (Some at) None) ((Decides-ltb at (length lines)).1 inside))

    -- no line hears it
    pub LookedTo-none : (at : ℕ) → length lines ≤ at → LookedTo can channel at → place_of_frame lines can channel ≡ None
    LookedTo-none at all s =
        let test : MapLine → Bool = λ (x : MapLine). hears_frame x can channel in
        let none : position_or_len test lines ≡ length lines = no_first test lines (λ k d below. s.deaf k d (omega (arith, below, all))) in
        subst (λ n. cond (nat_lt n (length lines)) (Some n) None ≡ None) (sym none) (ap (λ b. cond b (Some (length lines)) None) (not_below (length lines) (length lines) (omega arith)))
