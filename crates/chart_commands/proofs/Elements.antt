-- The content of elements, made of its parts
use Rattle.std.specs.Prelude.{◌≡◌, ℕ, true, List, [], ◌∷◌, ◌++◌}
use Rattle.std.specs.List.{list_all, flat_map}
use Rattle.std.proofs.Common.{refl, sym, subst, append_assoc, append-nil}
use Rattle.std.proofs.lemmas.Bool.{and_from}
use Rattle.chart_commands.specs.Grammar.{is_content_text, is_tag_name, Attribute, is_attribute, have_own_names, IsTag, empty_element, element, IsContent, nothing, text_first, empty_first, element_first}

-- ---- tags

abbrev pub named_value : List ℕ → List ℕ → Attribute
named_value name value = record { name = name; value = value }

-- each attribute has a name, and a value of content
abbrev pub AreRight : List Attribute → Type 0
AreRight [] = Unit {0}
AreRight (a ∷ attributes) = (is_tag_name a.name ≡ true) × (is_content_text a.value ≡ true) × AreRight attributes

are_attributes : (attributes : List Attribute) → AreRight attributes → list_all is_attribute attributes ≡ true
are_attributes [] are = refl
are_attributes (a ∷ attributes) are =
    and_from (is_attribute a) (list_all is_attribute attributes)
    (and_from (is_tag_name a.name) (is_content_text a.value) are.0 are.1) (are_attributes attributes are.2)

pub tag : (name : List ℕ) (attributes : List Attribute) → is_tag_name name ≡ true → have_own_names attributes ≡ true → AreRight attributes → IsTag name attributes
tag name attributes named own are = record { named = named; are_attributes = are_attributes attributes are; own_names = own }

-- ---- contents

-- a content, and another after it
pub IsContent-append : {a : List ℕ} (b : List ℕ) → IsContent a → IsContent b → IsContent (a ++ b)
IsContent-append b nothing more = more
IsContent-append b (text_first text rest right inner) more =
    subst IsContent (sym (append_assoc text rest b)) (text_first text (rest ++ b) right (IsContent-append b inner more))
IsContent-append b (empty_first name attributes rest is_tag inner) more =
    subst IsContent (sym (append_assoc (empty_element name attributes) rest b))
    (empty_first name attributes (rest ++ b) is_tag (IsContent-append b inner more))
IsContent-append b (element_first name attributes content rest is_tag inner after) more =
    subst IsContent (sym (append_assoc (element name attributes content) rest b))
    (element_first name attributes content (rest ++ b) is_tag inner (IsContent-append b after more))

pub IsContent-text : (text : List ℕ) → is_content_text text ≡ true → IsContent text
IsContent-text text right = subst IsContent (append-nil text) (text_first text [] right nothing)

pub IsContent-empty : (name : List ℕ) (attributes : List Attribute) → IsTag name attributes → IsContent (empty_element name attributes)
IsContent-empty name attributes tag = subst IsContent (append-nil (empty_element name attributes)) (empty_first name attributes [] tag nothing)

pub IsContent-element : (name : List ℕ) (attributes : List Attribute) (content : List ℕ) → IsTag name attributes → IsContent content
    → IsContent (element name attributes content)
IsContent-element name attributes content tag inner =
    subst IsContent (append-nil (element name attributes content)) (element_first name attributes content [] tag inner nothing)

-- what each of a list is written as
pub IsContent-each : {A : Type 0} (f : A → List ℕ) → ((x : A) → IsContent (f x)) → (xs : List A) → IsContent (flat_map f xs)
IsContent-each f each [] = nothing
IsContent-each f each (x ∷ xs) = IsContent-append (flat_map f xs) (each x) (IsContent-each f each xs)
