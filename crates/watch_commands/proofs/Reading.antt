-- What one more word asks for behind others
use Rattle.std.proofs.Common.{◌≡◌, ℕ, ◌+◌, ◌<◌, ◌≤◌, List, [], ◌∷◌, length, drop, get_or, refl, sym, ◌∙◌, ap, add-one, suc, arith}
use Rattle.std.proofs.Math.Seq.{drop-cons}
use Rattle.std.proofs.lemmas.List.{drop_all}
use Rattle.watch_commands.specs.declared.options.WordKind.{WordKind}
use Rattle.watch_commands.specs.declared.options.WordKind.TheVariants as kind
use Rattle.watch_commands.specs.OptionWords.{Asked, AskedWords, OptionStep, next_option, is_input, is_no_value, step_of, TakesWord, asked_behind, nothing_asked, watch_inputs}

module _ (asked next : Asked) (word : List ℕ) (rest : List (List ℕ)) (is : WordKind) where
  one_option : (s : OptionStep) → step_of asked word ≡ s → TakesWord s asked next is → is ≡ kind.Option → asked_behind asked (word ∷ rest) ≡ asked_behind next rest
  unfolding asked_behind
  one_option (next_option n) step (same, new) option = rw (step, asked_behind) (ap (λ (a : Asked). asked_behind a rest) (sym new))
  one_option is_input step (same, new) option = let clash : kind.Input ≡ kind.Option = sym same ∙ option in cc
  one_option is_no_value step (same, new) option = let clash : kind.NoValue ≡ kind.Option = sym same ∙ option in cc

  first_input : (s : OptionStep) → step_of asked word ≡ s → TakesWord s asked next is → is ≡ kind.Input
      → asked_behind asked (word ∷ rest) ≡ record { asked = next; inputs = word ∷ rest }
  unfolding asked_behind
  first_input (next_option n) step (same, new) input = let clash : kind.Option ≡ kind.Input = sym same ∙ input in cc
  first_input is_input step (same, new) input = rw (step, asked_behind) (ap (λ (a : Asked). let w : AskedWords = record { asked = a; inputs = word ∷ rest } in w) (sym new))
  first_input is_no_value step (same, new) input = let clash : kind.NoValue ≡ kind.Input = sym same ∙ input in cc

  no_value : (s : OptionStep) → step_of asked word ≡ s → TakesWord s asked next is → is ≡ kind.NoValue
      → asked_behind asked (word ∷ rest) ≡ record { asked = next; inputs = [] }
  unfolding asked_behind
  no_value (next_option n) step (same, new) none = let clash : kind.Option ≡ kind.NoValue = sym same ∙ none in cc
  no_value is_input step (same, new) none = let clash : kind.Input ≡ kind.NoValue = sym same ∙ none in cc
  no_value is_no_value step (same, new) none = rw (step, asked_behind) (ap (λ (a : Asked). let w : AskedWords = record { asked = a; inputs = [] } in w) (sym new))

-- the same of the word at a place
module _ (words : List (List ℕ)) (place : ℕ) (word : List ℕ) (inside : place < length words) (word_is : get_or words place [] ≡ word) where
  at_place : drop place words ≡ word ∷ drop (place + 1) words
  at_place = drop-cons words place [] inside ∙ ap (λ (w : List ℕ). w ∷ drop (suc place) words) word_is ∙ ap (λ n. word ∷ drop n words) (sym (add-one place))

  module _ (asked next : Asked) (is : WordKind) (takes : TakesWord (step_of asked word) asked next is) where
    pub takes_option : is ≡ kind.Option → asked_behind asked (drop place words) ≡ asked_behind next (drop (place + 1) words)
    takes_option option = ap (asked_behind asked) at_place ∙ one_option asked next word (drop (place + 1) words) is (step_of asked word) refl takes option

    pub takes_input : is ≡ kind.Input → asked_behind asked (drop place words) ≡ record { asked = next; inputs = drop place words }
    takes_input input =
        ap (asked_behind asked) at_place ∙ first_input asked next word (drop (place + 1) words) is (step_of asked word) refl takes input
        ∙ ap (λ (ws : List (List ℕ)). let w : AskedWords = record { asked = next; inputs = ws } in w) (sym at_place)

    pub takes_no_value : is ≡ kind.NoValue → asked_behind asked (drop place words) ≡ record { asked = next; inputs = [] }
    takes_no_value none = ap (asked_behind asked) at_place ∙ no_value asked next word (drop (place + 1) words) is (step_of asked word) refl takes none

-- ---- behind the last word

none_left : (words : List (List ℕ)) (place : ℕ) → length words ≤ place → drop place words ≡ []
none_left words place all = drop_all place words all

pub no_words_left : (asked : Asked) (words : List (List ℕ)) (place : ℕ) → length words ≤ place → asked_behind asked (drop place words) ≡ record { asked = asked; inputs = [] }
unfolding asked_behind
no_words_left asked words place all = ap (asked_behind asked) (none_left words place all)

pub at_no_input : (asked : Asked) (words : List (List ℕ)) (place : ℕ) → length words ≤ place
    → (let w : AskedWords = record { asked = asked; inputs = [] } in w) ≡ record { asked = asked; inputs = drop place words }
at_no_input asked words place all = ap (λ (ws : List (List ℕ)). let w : AskedWords = record { asked = asked; inputs = ws } in w) (sym (none_left words place all))

-- ---- no more words are inputs than there are

few_behind : (before : Asked) (words : List (List ℕ)) → length (asked_behind before words).inputs ≤ length words
unfolding asked_behind
few_behind before [] = omega arith
few_behind before (word ∷ rest) =
    (elim (step_of before word) as (λ (s : OptionStep). step_of before word ≡ s → length (asked_behind before (word ∷ rest)).inputs ≤ length (word ∷ rest)) [
      | next_option next ↦ λ is. rw (is, asked_behind) (omega (arith, few_behind next rest))
      | is_input ↦ λ is. rw (is, asked_behind) (omega arith)
      | is_no_value ↦ λ is. rw (is, asked_behind) (omega arith)
    ]) refl

pub few_inputs : (words : List (List ℕ)) → length (watch_inputs words) ≤ length words
few_inputs words = few_behind nothing_asked words
