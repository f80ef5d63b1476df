-- Texts that are joined in another order
use Rattle.std.specs.Prelude.{◌≡◌, ℕ, List, [], ◌∷◌, ◌++◌, codes}
use Rattle.std.proofs.Common.{refl, sym, ap, ◌∙◌, append_assoc, append-nil}

-- pieces, joined two by two
pub data Pieces : Type 0 where
  one : (text : List ℕ) → Pieces
  both : (a b : Pieces) → Pieces

-- their text, and the same with another text after it, from the beginning on
abbrev pub joined : Pieces → List ℕ
joined (one text) = text
joined (both a b) = joined a ++ joined b

abbrev pub joined_before : Pieces → List ℕ → List ℕ
joined_before (one text) rest = text ++ rest
joined_before (both a b) rest = joined_before a (joined_before b rest)

before_is : (p : Pieces) (rest : List ℕ) → joined_before p rest ≡ joined p ++ rest
before_is (one text) rest = refl
before_is (both a b) rest =
    before_is a (joined_before b rest)
    ∙ ap (λ (xs : List ℕ). joined a ++ xs) (before_is b rest)
    ∙ sym (append_assoc (joined a) (joined b) rest)

-- pieces that are the same from the beginning on have the same text
pub same_text : (p q : Pieces) → joined_before p [] ≡ joined_before q [] → joined p ≡ joined q
same_text p q same =
    sym (append-nil (joined p))
    ∙ sym (before_is p [])
    ∙ same
    ∙ before_is q []
    ∙ append-nil (joined q)

-- ---- pieces one after the other, and those of elements

abbrev pub row_of : List ℕ → List (List ℕ) → Pieces
row_of first [] = one first
row_of first (next ∷ more) = both (one first) (row_of next more)

-- an attribute, whose value is made of pieces
pub record Valued : Type 0 where
  pub name : List ℕ
  pub value : Pieces

abbrev pub valued : List ℕ → List ℕ → Valued
valued name value = record { name = name; value = one value }

abbrev pub attribute_pieces : Valued → Pieces
attribute_pieces a = both (one (codes " ")) (both (one a.name) (both (one (codes "=\"")) (both a.value (one (codes "\"")))))

abbrev pub attributes_pieces : List Valued → Pieces
attributes_pieces [] = one []
attributes_pieces (a ∷ attributes) = both (attribute_pieces a) (attributes_pieces attributes)

abbrev pub tag_pieces : List ℕ → List Valued → Pieces
tag_pieces name attributes = both (one (codes "<")) (both (one name) (attributes_pieces attributes))

abbrev pub empty_pieces : List ℕ → List Valued → Pieces
empty_pieces name attributes = both (tag_pieces name attributes) (one (codes "/>"))

abbrev pub element_pieces : List ℕ → List Valued → Pieces → Pieces
element_pieces name attributes content =
    both (tag_pieces name attributes) (both (one (codes ">")) (both content (both (one (codes "</")) (both (one name) (one (codes ">"))))))
