-- Writes that follow one another.
use Rattle.std.proofs.Common.{inl, inr, Result, Ok, Err, OnOk, OnErr, List, [], ◌∷◌, ◌++◌, sym, subst, ◌∙◌, arith}
use Rattle.seal_parts.specs.declared.PartClass.{PartClass}
use Rattle.seal_parts.specs.Parts.{PartFlash}
use Rattle.seal_parts.specs.State.{PartState, PartRuns}
use Rattle.seal_parts.specs.Designs.{PartWrite, DoesPartWrites, CutsPartWrites, MayDoPartWrites}

module _ (class : PartClass) where
  pub does_then : (xs ys : List PartWrite) (f g h : PartFlash) → DoesPartWrites class xs f g → DoesPartWrites class ys g h → DoesPartWrites class (xs ++ ys) f h
  does_then [] ys f g h x y = subst (λ (z : PartFlash). DoesPartWrites class ys z h) x y
  does_then (w ∷ xs) ys f g h x y = (x.0, (x.1.0, does_then xs ys x.0 g h x.1.1 y))

  pub cuts_then : (xs ys : List PartWrite) (f g h : PartFlash) → DoesPartWrites class xs f g → CutsPartWrites class ys g h → CutsPartWrites class (xs ++ ys) f h
  cuts_then [] ys f g h x y = subst (λ (z : PartFlash). CutsPartWrites class ys z h) x y
  cuts_then (w ∷ xs) ys f g h x y = inr (x.0, (x.1.0, cuts_then xs ys x.0 g h x.1.1 y))

  pub cuts_left : (xs ys : List PartWrite) (f h : PartFlash) → CutsPartWrites class xs f h → CutsPartWrites class (xs ++ ys) f h
  cuts_left [] ys f h x = absurd x
  cuts_left (w ∷ xs) ys f h (inl c) = inl c
  cuts_left (w ∷ xs) ys f h (inr d) = inr (d.0, (d.1.0, cuts_left xs ys d.0 h d.1.1))

  pub may_left : (xs ys : List PartWrite) (f : PartFlash) → MayDoPartWrites class (xs ++ ys) f → MayDoPartWrites class xs f
  may_left [] ys f m = tt
  may_left (w ∷ xs) ys f m = (m.0, λ g d. may_left xs ys g (m.1 g d))

  pub may_right : (xs ys : List PartWrite) (f g : PartFlash) → MayDoPartWrites class (xs ++ ys) f → DoesPartWrites class xs f g → MayDoPartWrites class ys g
  may_right [] ys f g m d = subst (λ (z : PartFlash). MayDoPartWrites class ys z) (sym d) m
  may_right (w ∷ xs) ys f g m d = may_right xs ys d.0 g (m.1 d.0 d.1.0) d.1.1

pub runs_then : (a b c : PartState) → PartRuns a b → PartRuns b c → PartRuns a c
runs_then a b c x y = record {
  class = y.class ∙ x.class;
  banks = y.banks ∙ x.banks;
  places = y.places ∙ x.places;
  later = (let p = x.later in let q = y.later in omega (arith, p, q));
}

pub ok_then : {T E : Type 0} {P Q : Type 0} → (r : Result T E) → (P → Q) → OnOk r P → OnOk r Q
ok_then (Ok x) f h = f h
ok_then (Err e) f h = tt

pub err_then : {T E : Type 0} {P Q : Type 0} → (r : Result T E) → (P → Q) → OnErr r P → OnErr r Q
err_then (Ok x) f h = tt
err_then (Err e) f h = f h

pub err_any : {T E : Type 0} {P : Type 0} → (r : Result T E) → P → OnErr r P
err_any (Ok x) p = tt
err_any (Err e) p = p

pub ok_any : {T E : Type 0} {P : Type 0} → (r : Result T E) → P → OnOk r P
ok_any (Ok x) p = p
ok_any (Err e) p = tt
