-- The lemmas that crates above cite.
use Rattle.std.specs.List.{slice_range}
use Rattle.std.specs.Option.{option_to_list}
use Rattle.std.proofs.Common.{◌≡◌, ℕ, ◌+◌, ◌-◌, ◌<◌, ◌≤◌, List, ◌++◌, length, get_or, arith, rules, true, false}
use Rattle.std.proofs.Common.{slice_index, replicate, ⊎_elim, refl, sym, ap, ◌∙◌, Bool, ◌&&◌, [], ◌∷◌, Option, Some}
use Rattle.std.proofs.Common.{None}
use Rattle.std.proofs.lemmas.List.{places, same_lists, length-append, length-take, length-drop, ext_get_or}
use Rattle.std.proofs.lemmas.List.{length-replicate, get_or-replicate, get_or_default, append_assoc, append-nil}
use Rattle.std.proofs.lemmas.Bool.{cases_lt, false≢true}
use Rattle.std.proofs.lemmas.List.Elements.{filter_map-append}
use Rattle.cut_disk.specs.Images.{splice, Image, firm, with_bytes, Patched, UnderWrite}
use Rattle.cut_disk.specs.State.{Told, Mark, Entry, past_entry, DiskState}
use Rattle.cut_disk.specs.declared.Mark.TheVariants.{Cut, Stop, Fail}
use Rattle.cut_disk.specs.Calls.{Rose, KeepsQuiet, StaysQuiet, IsQuiet, arms_nothing, Call, marks_of, newest}
use Rattle.cut_disk.specs.Calls.{AddsEntries, Runs, Later, Grows, AsBefore}
pub use Rattle.basics.proofs.CallerLemmas.{rose_then, rose_after}

-- ---- laws of `splice`, which replaces elements of a list by as many others

pub length-splice : {X : Type 0} → (at : ℕ) (ys xs : List X) → at + length ys ≤ length xs
    → length (splice at ys xs) ≡ length xs
unfolding splice
length-splice {X} at ys xs inside = simp (length-append, length-take, length-drop) (omega arith)

-- an element before, in and after the new part
pub get_or-splice_before : {X : Type 0} → (at : ℕ) (ys xs : List X) (i : ℕ) (d : X) → at + length ys ≤ length xs
    → i < at → get_or (splice at ys xs) i d ≡ get_or xs i d
unfolding splice
get_or-splice_before at ys xs i d inside before = search (rules, places)

pub get_or-splice_in : {X : Type 0} → (at : ℕ) (ys xs : List X) (i : ℕ) (d : X) → at + length ys ≤ length xs → at ≤ i
    → i < at + length ys → get_or (splice at ys xs) i d ≡ get_or ys (i - at) d
unfolding splice
get_or-splice_in at ys xs i d inside from to = search (rules, places)

pub get_or-splice_behind : {X : Type 0} → (at : ℕ) (ys xs : List X) (i : ℕ) (d : X) → at + length ys ≤ length xs
    → at + length ys ≤ i → get_or (splice at ys xs) i d ≡ get_or xs i d
unfolding splice
get_or-splice_behind at ys xs i d inside behind = search (rules, places)

-- a list that agrees with another but in this part
pub splice-alike : {X : Type 0} → (at n : ℕ) (xs ys : List X) → at + n ≤ length xs → length ys ≡ length xs
    → ((i : ℕ) (d : X) → i < at → get_or ys i d ≡ get_or xs i d)
    → ((i : ℕ) (d : X) → at + n ≤ i → i < length xs → get_or ys i d ≡ get_or xs i d)
    → ys ≡ splice at (slice_range ys at (at + n)) xs
unfolding splice
splice-alike at n xs ys inside sized before behind =
    same_lists _ _ (search (rules, places)) (λ k d h. grind (arith, places, before k d, behind k d))

-- over an earlier part of the same length only the later stays
pub splice-splice : {X : Type 0} → (at : ℕ) (zs ys xs : List X) → at + length ys ≤ length xs → length zs ≡ length ys
    → splice at zs (splice at ys xs) ≡ splice at zs xs
unfolding splice
splice-splice at zs ys xs inside sized = same_lists _ _ (search (rules, places)) (λ k d h. grind (arith, places))

-- two parts side by side are one
pub splice-beside : {X : Type 0} → (at : ℕ) (ys zs xs : List X) → at + length ys + length zs ≤ length xs
    → splice (at + length ys) zs (splice at ys xs) ≡ splice at (ys ++ zs) xs
unfolding splice
splice-beside at ys zs xs inside = same_lists _ _ (search (rules, places)) (λ k d h. grind (arith, places))

-- two parts that lie apart, in either order
pub splice-apart : {X : Type 0} → (at : ℕ) (ys : List X) (from : ℕ) (zs xs : List X) → at + length ys ≤ from
    → from + length zs ≤ length xs → splice from zs (splice at ys xs) ≡ splice at ys (splice from zs xs)
unfolding splice
splice-apart at ys from zs xs apart inside = same_lists _ _ (search (rules, places)) (λ k d h. grind (arith, places))

-- ---- laws of the lists that a power cut may leave

-- the bytes as read are always one of the images
pub image_is_read : (t : Told) → Image t t.bytes
image_is_read t = record { sized = refl; agrees = λ i h l. refl }

-- if no byte is loose there is no other
pub image_of_firm : {x y : List ℕ} → Image (firm x) y → y ≡ x
image_of_firm {x} {y} image =
    ext_get_or 0 y x image.sized
    (λ i h. image.agrees i h (get_or-replicate (length x) i false false (omega (arith, image.sized))))

-- the part that is cut out has as many elements
length-left : (at n : ℕ) (xs : List ℕ) → at + n ≤ length xs → length (slice_range xs at (at + n)) ≡ n
length-left at n xs inside = search (rules, places)

-- if y agrees with x but in a range, y is patched there
pub patched_alike : (at count : ℕ) (x y : List ℕ) → at + count ≤ length x → length y ≡ length x
    → ((i : ℕ) → i < at → slice_index y i ≡ slice_index x i)
    → ((i : ℕ) → at + count ≤ i → i < length x → slice_index y i ≡ slice_index x i)
    → Patched at count x y
patched_alike at count x y inside sized before behind = record {
  left = slice_range y at (at + count);
  sized = length-left at count y (omega arith);
  is = splice-alike at count x y inside sized (λ i d h. grind (arith, get_or_default, before i h))
      (λ i d h l. grind (arith, get_or_default, behind i h l));
}

-- outside the range of a write an image agrees with what was there, wherever that wasn't loose
low : (at : ℕ) (ys : List ℕ) (t : Told) (y : List ℕ) → at + length ys ≤ length t.bytes → length t.loose ≡ length t.bytes
    → Image (with_bytes at ys t) y → (i : ℕ) → i < at → get_or t.loose i false ≡ false
    → get_or y i 0 ≡ get_or t.bytes i 0
low at ys t y inside sized image i h l =
    let fits : at + length (replicate (length ys) true) ≤ length t.loose =
    omega (arith, length-replicate (length ys) true) in
    let below : i < length y = omega (arith, image.sized, length-splice at ys t.bytes inside) in
    image.agrees i below (get_or-splice_before at (replicate (length ys) true) t.loose i false fits h ∙ l)
    ∙ get_or-splice_before at ys t.bytes i 0 inside h

high : (at : ℕ) (ys : List ℕ) (t : Told) (y : List ℕ) → at + length ys ≤ length t.bytes
    → length t.loose ≡ length t.bytes
    → Image (with_bytes at ys t) y → (i : ℕ) → at + length ys ≤ i → i < length y → get_or t.loose i false ≡ false
    → get_or y i 0 ≡ get_or t.bytes i 0
high at ys t y inside sized image i h below l =
    let fits : at + length (replicate (length ys) true) ≤ length t.loose =
    omega (arith, length-replicate (length ys) true) in
    let past : at + length (replicate (length ys) true) ≤ i = omega (arith, length-replicate (length ys) true) in
    image.agrees i below (get_or-splice_behind at (replicate (length ys) true) t.loose i false fits past ∙ l)
    ∙ get_or-splice_behind at ys t.bytes i 0 inside h

-- what is put back is what was read
put_back : (at n : ℕ) (xs y : List ℕ) (i : ℕ) → at + n ≤ length xs → length y ≡ length xs → at ≤ i → i < at + n
    → get_or (splice at (slice_range xs at (at + n)) y) i 0 ≡ get_or xs i 0
unfolding splice
put_back at n xs y i inside same from to = grind (arith, places)

-- the image that was allowed before: y with what was read in the range
unwritten : (at : ℕ) (ys : List ℕ) (t : Told) (y : List ℕ) → at + length ys ≤ length t.bytes
    → length t.loose ≡ length t.bytes
    → Image (with_bytes at ys t) y → Image t (splice at (slice_range t.bytes at (at + length ys)) y)
unwritten at ys t y inside sized image =
    let part = length-left at (length ys) t.bytes inside in
    let same : length y ≡ length t.bytes = image.sized ∙ length-splice at ys t.bytes inside in
    let fits : at + length (slice_range t.bytes at (at + length ys)) ≤ length y = omega (arith, part, same) in
    let all : length (splice at (slice_range t.bytes at (at + length ys)) y) ≡ length y =
    length-splice at (slice_range t.bytes at (at + length ys)) y fits in
    record {
      sized = all ∙ same;
      agrees = λ i h l.
          ⊎_elim
          (λ before. get_or-splice_before at (slice_range t.bytes at (at + length ys)) y i 0 fits before
          ∙ low at ys t y inside sized image i before l)
          (λ from. ⊎_elim
          (λ to. put_back at (length ys) t.bytes y i inside same from to)
          (λ behind. get_or-splice_behind at (slice_range t.bytes at (at + length ys)) y i 0 fits (omega (arith, part))
          ∙ high at ys t y inside sized image i behind (omega (arith, all)) l)
          (cases_lt i (at + length ys)))
          (cases_lt i at);
    }

pub image_under_write : (at : ℕ) (ys : List ℕ) (t : Told) (y : List ℕ) → at + length ys ≤ length t.bytes
    → length t.loose ≡ length t.bytes
    → Image (with_bytes at ys t) y → UnderWrite at (length ys) t y
image_under_write at ys t y inside sized image =
    let part = length-left at (length ys) t.bytes inside in
    let same : length y ≡ length t.bytes = image.sized ∙ length-splice at ys t.bytes inside in
    let fits : at + length (slice_range t.bytes at (at + length ys)) ≤ length y = omega (arith, part, same) in
    let all : length (splice at (slice_range t.bytes at (at + length ys)) y) ≡ length y =
    length-splice at (slice_range t.bytes at (at + length ys)) y fits in
    record {
      before = splice at (slice_range t.bytes at (at + length ys)) y;
      image = unwritten at ys t y inside sized image;
      patched =
          patched_alike at (length ys) (splice at (slice_range t.bytes at (at + length ys)) y) y
          (omega (arith, all, same)) (sym all)
          (λ i h. sym (get_or-splice_before at (slice_range t.bytes at (at + length ys)) y i 0 fits h))
          (λ i h l. sym
          (get_or-splice_behind at (slice_range t.bytes at (at + length ys)) y i 0 fits (omega (arith, part))));
    }

-- over bytes that aren't loose
pub firm_under_write : (at : ℕ) (ys x y : List ℕ) → at + length ys ≤ length x → Image (with_bytes at ys (firm x)) y
    → Patched at (length ys) x y
firm_under_write at ys x y inside image =
    let under = image_under_write at ys (firm x) y inside (length-replicate (length x) false) image in
    record {
      left = under.patched.left;
      sized = under.patched.sized;
      is = under.patched.is
          ∙ ap (splice at under.patched.left) (image_of_firm under.image);
    }

-- ---- laws of calls and of stretches of calls

-- of marks and of the last state, over joined lists
pub arms_nothing-append : (ms ns : List Mark) → arms_nothing (ms ++ ns) ≡ arms_nothing ms && arms_nothing ns
arms_nothing-append [] ns = refl
arms_nothing-append (Cut torn ∷ ms) ns = arms_nothing-append ms ns
arms_nothing-append (Stop calls ∷ ms) ns = refl
arms_nothing-append (Fail calls ∷ ms) ns = refl

pub marks_of-append : (es fs : List Entry) → marks_of (es ++ fs) ≡ marks_of es ++ marks_of fs
marks_of-append es fs = filter_map-append (λ e. e.mark) es fs

pub newest-append : (told : Option Told) (es fs : List Entry) → newest told (es ++ fs) ≡ newest (newest told es) fs
newest-append told [] fs = refl
newest-append told (e ∷ es) fs = newest-append (Some e.state) es fs

-- no call at all
pub runs_none : (s : DiskState) → Runs [] 0 s s
runs_none s = record {
  size = refl;
  later = omega arith;
  tells = refl;
  quiet = λ _ q. record { quiet = q.quiet; faults = refl };
  past = λ all is. record {
    earlier = all;
    added = [];
    was = is;
    whole = sym (append-nil all);
    few = omega arith;
    marked = refl;
    now = refl;
  };
}

pub marks_of_one : (t : Told) (mark : Option Mark) → marks_of (past_entry t mark ∷ []) ≡ option_to_list mark
marks_of_one t None = refl
marks_of_one t (Some m) = refl

-- one call
pub runs_of_call : {mark : Option Mark} {a b : DiskState} → Call mark a b → Runs (option_to_list mark) 1 a b
runs_of_call {mark} call = record {
  size = call.size;
  later = call.later;
  tells = call.tells;
  quiet = call.quiet;
  past = λ all is. let p = call.past all is in record {
    earlier = p.earlier;
    added = past_entry p.state mark ∷ [];
    was = p.was;
    whole = p.whole;
    few = omega arith;
    marked = marks_of_one p.state mark;
    now = p.told;
  };
}

-- a longer stretch may be allowed
pub runs_more : {marks : List Mark} {few : ℕ} {a b : DiskState} (most : ℕ) → few ≤ most → Runs marks few a b
    → Runs marks most a b
runs_more most le runs = record {
  size = runs.size;
  later = runs.later;
  tells = runs.tells;
  quiet = runs.quiet;
  past = λ all is. let p =
      runs.past all is
      in record {
        earlier = p.earlier;
        added = p.added;
        was = p.was;
        whole = p.whole;
        few = omega arith;
        marked = p.marked;
        now = p.now;
      };
}

both_true : (p q : Bool) → p && q ≡ true → (p ≡ true) × (q ≡ true)
both_true true q h = (refl, h)
both_true false q h = absurd (false≢true h)

join_adds : {ms ns : List Mark} {m n : ℕ} {a b c : DiskState} {all : List Entry} → (second : AddsEntries ns n b c all)
    → AddsEntries ms m a b second.earlier → AddsEntries (ms ++ ns) (m + n) a c all
join_adds {a = a} second first = record {
  earlier = first.earlier;
  added = first.added ++ second.added;
  was = first.was;
  whole = second.whole ∙ ap (λ es. es ++ second.added) first.whole
      ∙ append_assoc first.earlier first.added second.added;
  few = simp length-append (omega arith);
  marked = marks_of-append first.added second.added ∙ cc;
  now = second.now ∙ ap (λ told. newest told second.added) first.now
      ∙ sym (newest-append a.told first.added second.added);
}

join_quiet : {a b c : DiskState} → KeepsQuiet a b → KeepsQuiet b c → KeepsQuiet a c
join_quiet first second q =
    let one = first q in
    let two = second (record { quiet = one.quiet; below = rw one.faults q.below }) in
    record { quiet = two.quiet; faults = two.faults ∙ one.faults }

-- one stretch after another
pub runs_join : {ms ns : List Mark} {m n : ℕ} {a b c : DiskState} → Runs ms m a b → Runs ns n b c
    → Runs (ms ++ ns) (m + n) a c
runs_join {ms} {ns} first second = record {
  size = second.size ∙ first.size;
  later = omega arith;
  tells = second.tells ∙ first.tells;
  quiet = λ h. let both =
      both_true (arms_nothing ms) (arms_nothing ns) (sym (arms_nothing-append ms ns) ∙ h)
      in join_quiet (first.quiet both.0) (second.quiet both.1);
  past = λ all is. let later = second.past all is in join_adds later (first.past later.earlier later.was);
}

-- a stretch, and then one more call
pub runs_then : {ms : List Mark} {m : ℕ} {mark : Option Mark} {a b c : DiskState} → Runs ms m a b → Call mark b c
    → Runs (ms ++ option_to_list mark) (m + 1) a c
runs_then first call = runs_join first (runs_of_call call)

-- what a past told earlier stands first in what it tells later
pub later_of_runs : {marks : List Mark} {most : ℕ} {a b : DiskState} → Runs marks most a b → Later a b
later_of_runs runs = record {
  faults = runs.later;
  past = λ all is. let p =
      runs.past all is in record { earlier = p.earlier; added = p.added; was = p.was; whole = p.whole };
}

pub later_join : {a b c : DiskState} → Later a b → Later b c → Later a c
later_join first second = record {
  faults = omega arith;
  past = λ all is.
      let two = second.past all is in
      let one = first.past two.earlier two.was in
      record {
        earlier = one.earlier;
        added = one.added ++ two.added;
        was = one.was;
        whole = two.whole ∙ ap (λ es. es ++ two.added) one.whole ∙ append_assoc one.earlier one.added two.added;
      };
}

longer : (xs ys : List Entry) {all : List Entry} → all ≡ xs ++ ys → length all ≡ length xs + length ys
longer xs ys e = ap length e ∙ length-append xs ys

-- a call makes a told past longer, and so does a stretch with a call in it
pub grows_of_call : {mark : Option Mark} {a b : DiskState} → Call mark a b → Grows a b
grows_of_call {mark} call = record {
  past = λ all is. let p =
      call.past all is
      in record {
        earlier = p.earlier;
        was = p.was;
        more = omega (arith, longer p.earlier (past_entry p.state mark ∷ []) p.whole);
      };
}

pub grows_then : {marks : List Mark} {most : ℕ} {a b c : DiskState} → Grows a b → Runs marks most b c → Grows a c
grows_then grown runs = record {
  past = λ all is.
      let two = runs.past all is in
      let one = grown.past two.earlier two.was in
      record { earlier = one.earlier; was = one.was; more = omega (arith, longer two.earlier two.added two.whole) };
}

pub grows_after : {marks : List Mark} {most : ℕ} {a b c : DiskState} → Runs marks most a b → Grows b c → Grows a c
grows_after runs grown = record {
  past = λ all is.
      let two = grown.past all is in
      let one = runs.past two.earlier two.was in
      record { earlier = one.earlier; was = one.was; more = omega (arith, longer one.earlier one.added one.whole) };
}

-- a call of a quiet disk doesn't fail
pub quiet_never_rose : {a b : DiskState} → IsQuiet a → StaysQuiet a b → Rose a.faults b.faults → ⊥
quiet_never_rose quiet stays rose = omega arith

-- a disk that is as before
pub as_before_none : (s : DiskState) → AsBefore 0 s s
as_before_none s = record { runs = runs_none s; told = refl; faults = refl }

pub as_before_then : {most : ℕ} {a b c : DiskState} → AsBefore most a b → Call None b c → c.told ≡ b.told
    → c.faults ≡ b.faults → AsBefore (most + 1) a c
as_before_then before call told faults =
    record { runs = runs_then before.runs call; told = told ∙ before.told; faults = faults ∙ before.faults }

pub as_before_join : {m n : ℕ} {a b c : DiskState} → AsBefore m a b → AsBefore n b c → AsBefore (m + n) a c
as_before_join first second =
    record {
      runs = runs_join first.runs second.runs;
      told = second.told ∙ first.told;
      faults = second.faults
          ∙ first.faults;
    }

pub as_before_more : {few : ℕ} {a b : DiskState} (most : ℕ) → few ≤ most → AsBefore few a b → AsBefore most a b
as_before_more most le before =
    record { runs = runs_more most le before.runs; told = before.told; faults = before.faults }
