-- Texts of entries, piece by piece and place by place
use Rattle.std.specs.Prelude.{◌≡◌, ℕ, ◌+◌, ◌<◌, Option, None, Some, is_some, option_map, List, [], ◌∷◌, ◌++◌, length, take}
use Rattle.std.specs.List.{flat_map}
use Rattle.std.proofs.Common.{refl, sym, ap, ◌∙◌, append_assoc, add-one, arith}
use Rattle.std.proofs.Math.Seq.{take-suc}
use Rattle.std.proofs.lemmas.List.{flat_map_more, take_all}
use Rattle.text_lines.specs.Written.{written}
use Rattle.text_lines.specs.Spaced.{spaced}
use Rattle.text_lines.proofs.CallerLemmas.{written-spaced}
use Rattle.key_campaign.specs.declared.entries.LedgerEntry.{LedgerEntry}
use Rattle.key_campaign.specs.Entries.{place_count, entry_at}
use Rattle.key_campaign.specs.Steps.{told_entry}

-- the pieces of places, with one more
pub places_more : {A : Type 0} (f : Option LedgerEntry → List A) (before : List A) (places : List (Option LedgerEntry)) (k : ℕ) → k < length places
    → (before ++ flat_map f (take k places)) ++ f (entry_at places k) ≡ before ++ flat_map f (take (k + 1) places)
places_more f before places k inside =
    flat_map_more f before (take k places) (entry_at places k)
    ∙ ap (λ l. before ++ flat_map f l) (sym (take-suc places k None inside) ∙ ap (λ n. take n places) (sym (add-one k)))

-- all places of a ledger, of which there are 256
pub all_places : (places : List (Option LedgerEntry)) → length places ≡ place_count → take 256 places ≡ places
unfolding place_count
all_places places count = take_all 256 places (omega (arith, count))

pub is_place : (places : List (Option LedgerEntry)) (k : ℕ) → length places ≡ place_count → k < 256 → k < length places
unfolding place_count
is_place places k count below = omega (arith, count, below)

-- a line whose words were added one after the other
pub line_added : (before word : List ℕ) (words : List (List ℕ)) (t1 t2 t3 : List ℕ) → t1 ≡ before ++ word → t2 ≡ t1 ++ spaced words → t3 ≡ t2 ++ 10 ∷ []
    → t3 ≡ before ++ written (word ∷ words)
line_added before word words t1 t2 t3 first rest end =
    end ∙ ap (λ t. t ++ 10 ∷ []) (rest ∙ ap (λ t. t ++ spaced words) first)
    ∙ append_assoc (before ++ word) (spaced words) (10 ∷ []) ∙ append_assoc before word (spaced words ++ 10 ∷ [])
    ∙ ap (λ t. before ++ t) (sym (written-spaced word words))

-- what is told of an entry is there exactly if the entry is
pub some_told : (place : Option LedgerEntry) → is_some (option_map told_entry place) ≡ is_some place
some_told None = refl
some_told (Some e) = refl
