-- A small grammar of XML documents, narrower than the standard's (Extensible Markup Language 1.0): no declaration, no
-- reference, no comment, no prefix and no empty name (own)
use Rattle.std.specs.Prelude.{◌≡◌, ℕ, Bool, true, not, ◌&&◌, ◌||◌, ◌==◌, bytes_eq, nat_le, nat_lt, IsTrue, List, []}
use Rattle.std.specs.Prelude.{◌∷◌, ◌++◌, length, codes}
use Rattle.std.specs.List.{flat_map, list_all, list_any}

-- a character that may stand in a text or in the value of an attribute. It is a line feed, which is 10, or printed,
-- from space to ~. It is none of " & ' < and >, which are 34, 38, 39, 60 and 62
abbrev pub is_content : ℕ → Bool
is_content c =
    (c == 10)
    || (nat_le 32 c && nat_le c 126
    && not (c == 34) && not (c == 38) && not (c == 39) && not (c == 60) && not (c == 62))

abbrev pub is_content_text : List ℕ → Bool
is_content_text = list_all is_content

-- a name has letters alone, at least one: from A to Z, which are 65 and 90, and from a to z, which are 97 and 122
abbrev pub is_letter_of_name : ℕ → Bool
is_letter_of_name c = (nat_le 65 c && nat_le c 90) || (nat_le 97 c && nat_le c 122)

abbrev pub is_tag_name : List ℕ → Bool
is_tag_name name = nat_lt 0 (length name) && list_all is_letter_of_name name

-- an attribute: its name and its value, which stands between quotes
pub record Attribute : Type 0 where
  pub name : List ℕ
  pub value : List ℕ

abbrev pub is_attribute : Attribute → Bool
is_attribute a = is_tag_name a.name && is_content_text a.value

-- no two attributes have one name
abbrev pub have_own_names : List Attribute → Bool
have_own_names [] = true
have_own_names (a ∷ attributes) = not (list_any (λ b. bytes_eq b.name a.name) attributes) && have_own_names attributes

-- what an element may begin with
pub record IsTag (name : List ℕ) (attributes : List Attribute) : Type 0 where
  pub named : IsTrue (is_tag_name name)
  pub are_attributes : IsTrue (list_all is_attribute attributes)
  pub own_names : IsTrue (have_own_names attributes)

abbrev pub attribute_text : Attribute → List ℕ
attribute_text a = codes " " ++ (a.name ++ (codes "=\"" ++ (a.value ++ codes "\"")))

abbrev pub tag_text : List ℕ → List Attribute → List ℕ
tag_text name attributes = codes "<" ++ (name ++ flat_map attribute_text attributes)

-- an element without content, and one with content, which is closed by its own name
abbrev pub empty_element : List ℕ → List Attribute → List ℕ
empty_element name attributes = tag_text name attributes ++ codes "/>"

abbrev pub element : List ℕ → List Attribute → List ℕ → List ℕ
element name attributes content =
    tag_text name attributes ++ (codes ">" ++ (content ++ (codes "</" ++ (name ++ codes ">"))))

-- the content of an element: texts and elements, one after the other
pub data IsContent : List ℕ → Type 0 where
  nothing : IsContent []
  text_first : (text rest : List ℕ) → IsTrue (is_content_text text) → IsContent rest → IsContent (text ++ rest)
  empty_first : (name : List ℕ) (attributes : List Attribute) (rest : List ℕ) → IsTag name attributes → IsContent rest
      → IsContent (empty_element name attributes ++ rest)
  element_first : (name : List ℕ) (attributes : List Attribute) (content rest : List ℕ) → IsTag name attributes
      → IsContent content → IsContent rest → IsContent (element name attributes content ++ rest)

-- a document: one element, and a line feed
pub record IsDocument (text : List ℕ) : Type 0 where
  pub name : List ℕ
  pub attributes : List Attribute
  pub content : List ℕ
  pub tag : IsTag name attributes
  pub inner : IsContent content
  pub is : text ≡ element name attributes content ++ 10 ∷ []
