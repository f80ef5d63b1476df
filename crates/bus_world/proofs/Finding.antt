-- The first element of a list that passes a test
use Rattle.std.specs.Prelude.{◌≡◌, ℕ, suc, ◌<◌, Bool, true, false, cond, None, Some, List, [], ◌∷◌, length, get_or, map, find}
use Rattle.std.proofs.Common.{refl, sym, ap, ◌∙◌, arith, subst, inl, inr, zero}
use Rattle.std.proofs.lemmas.Bool.{cases_Bool}
use Rattle.std.proofs.lemmas.Option.{same_Some}
use Rattle.bus_machine.specs.Bus.{SentLine}
use Rattle.bus_world.specs.declared.records.Record.{Record}
use Rattle.bus_world.specs.History.{line_of}

pub find_none : {X : Type 0} (q : X → Bool) (xs : List X) → ((k : ℕ) (d : X) → k < length xs → q (get_or xs k d) ≡ false) → find q xs ≡ None
find_none q [] none = refl
find_none q (x ∷ xs) none =
    ap (λ b. cond b (Some x) (find q xs)) (none 0 x (omega arith)) ∙ find_none q xs (λ k d h. none (suc k) d (omega arith))

-- the element at a place passes, and none before it
pub find_first : {X : Type 0} (q : X → Bool) (xs : List X) (i : ℕ) (x : X) → i < length xs → ((d : X) → get_or xs i d ≡ x) → q x ≡ true
    → ((k : ℕ) (d : X) → k < i → q (get_or xs k d) ≡ false) → find q xs ≡ Some x
find_first q [] i x fits at passes before = absurd (omega arith)
find_first q (y ∷ ys) zero x fits at passes before =
    ap (λ z. cond (q z) (Some z) (find q ys)) (at y) ∙ ap (λ b. cond b (Some x) (find q ys)) passes
find_first q (y ∷ ys) (suc i) x fits at passes before =
    ap (λ b. cond b (Some y) (find q ys)) (before 0 y (omega arith))
    ∙ find_first q ys i x (omega arith) (λ d. at d) passes (λ k d h. before (suc k) d (omega arith))

-- ---- the same over records, each as its line

pub find_no_line : (q : SentLine → Bool) (records : List Record) → ((k : ℕ) (d : Record) → k < length records → q (line_of (get_or records k d)) ≡ false)
    → find q (map line_of records) ≡ None
find_no_line q [] none = refl
find_no_line q (x ∷ xs) none =
    ap (λ b. cond b (Some (line_of x)) (find q (map line_of xs))) (none 0 x (omega arith)) ∙ find_no_line q xs (λ k d h. none (suc k) d (omega arith))

pub find_line : (q : SentLine → Bool) (records : List Record) (i : ℕ) (r : Record) → i < length records → r ≡ get_or records i r → q (line_of r) ≡ true
    → ((k : ℕ) (d : Record) → k < i → q (line_of (get_or records k d)) ≡ false) → find q (map line_of records) ≡ Some (line_of r)
find_line q [] i r fits at passes before = absurd (omega arith)
find_line q (y ∷ ys) zero r fits at passes before =
    ap (λ z. cond (q (line_of z)) (Some (line_of z)) (find q (map line_of ys))) (sym at) ∙ ap (λ b. cond b (Some (line_of r)) (find q (map line_of ys))) passes
find_line q (y ∷ ys) (suc i) r fits at passes before =
    ap (λ b. cond b (Some (line_of y)) (find q (map line_of ys))) (before 0 y (omega arith))
    ∙ find_line q ys i r (omega arith) at passes (λ k d h. before (suc k) d (omega arith))

-- what holds of each line holds of the one that is found
pub found_line : (q : SentLine → Bool) (P : SentLine → Type 0) (records : List Record) (s : SentLine) → ((k : ℕ) (d : Record) → k < length records → P (line_of (get_or records k d)))
    → find q (map line_of records) ≡ Some s → P s
found_line q P [] s each is = cc
found_line q P (r ∷ rs) s each is =
    elim (cases_Bool (q (line_of r))) [
      | inl passes ↦ subst P (same_Some (line_of r) s (sym (ap (λ b. cond b (Some (line_of r)) (find q (map line_of rs))) passes) ∙ is)) (each 0 r (omega arith))
      | inr not ↦ found_line q P rs s (λ k d h. each (suc k) d (omega arith)) (sym (ap (λ b. cond b (Some (line_of r)) (find q (map line_of rs))) not) ∙ is)
    ]
