-- Lines of a list, and findings of a check, one after another
use Rattle.std.proofs.Common.{◌≡◌, ℕ, ◌+◌, ◌<◌, List, [], ◌∷◌, ◌++◌, length, get_or, refl, sym, ap, subst, ◌∙◌, ⊎_elim, inl, inr, append_assoc, append-nil, length-append, arith}
use Rattle.std.specs.Prelude.{Option, Some, None, Bool, IsTrue, nat_eq, ◌↔◌}
use Rattle.std.proofs.lemmas.Bool.Decides.{nat_tests}
use Rattle.cut_disk.specs.State.{DiskState}
use Rattle.any_cells.specs.declared.finding.CountingStore.{CountingStore}
use Rattle.key_commands.specs.Opening.{layout_of}
use Rattle.slot_commands.specs.StillDisks.{HasFound}
use Rattle.std.proofs.lemmas.Grind.{flat_map-append}
use Rattle.std.proofs.lemmas.List.{get_or_append_left}
use Rattle.std.proofs.Math.Seq.{get_or-append_seam}
use Rattle.std.proofs.lemmas.Bool.{cases_lt}
use Rattle.text_lines.specs.Written.{written}
use Rattle.freshness_routes.specs.declared.routes.Route.{Route}
use Rattle.slot_commands.specs.Cells.{SaysCell, AddsCell}
use Rattle.slot_commands.specs.RouteFindings.{FindsAt, lacking_lines}
use Rattle.slot_commands.specs.Checked.{Checked, PushesFinding, PushesFindings, PushesPlaces, PushesFound, PushesLayout}
use Rattle.slot_commands.specs.Stores.{head_words, wanted_words, ListsCells, FindsFrom, at_end, a_finding, nothing, written_lines}
use Rattle.slot_commands.specs.Stores.{none_wanted, as_wanted, another}

-- the text of one line more
lines_more : (lines : List (List (List ℕ))) (words : List (List ℕ)) → written_lines (lines ++ words ∷ []) ≡ written_lines lines ++ written words
lines_more lines words =
    flat_map-append written lines (words ∷ []) ∙ ap (λ (l : List ℕ). written_lines lines ++ l) (append-nil (written words))

text_more : (old text next : List ℕ) (lines : List (List (List ℕ))) (words : List (List ℕ)) → text ≡ old ++ written_lines lines
    → next ≡ text ++ written words → next ≡ old ++ written_lines (lines ++ words ∷ [])
text_more old text next lines words is more =
    more ∙ ap (λ (l : List ℕ). l ++ written words) is ∙ append_assoc old (written_lines lines) (written words)
    ∙ ap (λ (l : List ℕ). old ++ l) (sym (lines_more lines words))

-- the text of some lines and of some more
lines_joined : (old text next : List ℕ) (some more : List (List (List ℕ))) → text ≡ old ++ written_lines some → next ≡ text ++ written_lines more
    → next ≡ old ++ written_lines (some ++ more)
lines_joined old text next some more is also =
    also ∙ ap (λ (l : List ℕ). l ++ written_lines more) is ∙ append_assoc old (written_lines some) (written_lines more)
    ∙ ap (λ (l : List ℕ). old ++ l) (sym (flat_map-append written some more))

-- ---- a list

-- the lines of the first cells were added to a text
pub record ListedTo (cells : List (List ℕ)) (head : List ℕ) (n : ℕ) (text : List ℕ) : Type 0 where
  pub lines : List (List (List ℕ))
  pub count : length lines ≡ n
  pub each : (place : ℕ) → place < n → SaysCell place (get_or cells place []) (get_or lines place [])
  pub text_is : text ≡ head ++ written_lines lines

pub listed_none : (cells : List (List ℕ)) (head text : List ℕ) → text ≡ head → ListedTo cells head 0 text
listed_none cells head text is = record {
  lines = [];
  count = refl;
  each = λ place below. absurd (omega (arith, below));
  text_is = is ∙ sym (append-nil head);
}

-- the line at a place, after one line more
line_at : (cells : List (List ℕ)) (lines : List (List (List ℕ))) (words : List (List ℕ)) (place n : ℕ) → length lines ≡ n → place < n + 1
    → ((k : ℕ) → k < n → SaysCell k (get_or cells k []) (get_or lines k [])) → SaysCell n (get_or cells n []) words
    → SaysCell place (get_or cells place []) (get_or (lines ++ words ∷ []) place [])
line_at cells lines words place n count below each says =
    ⊎_elim
    (λ low. subst (SaysCell place (get_or cells place []))
    (sym (get_or_append_left lines (words ∷ []) [] place (omega (arith, low, count)))) (each place low))
    (λ high.
    let is : n ≡ place = omega (arith, high, below) in
    let at : get_or (lines ++ words ∷ []) place [] ≡ words =
    ap (λ (k : ℕ). get_or (lines ++ words ∷ []) k []) (sym is ∙ sym count) ∙ get_or-append_seam lines words [] [] in
    subst (SaysCell place (get_or cells place [])) (sym at)
    (subst (λ (k : ℕ). SaysCell k (get_or cells k []) words) is says))
    (cases_lt place n)

pub listed_more : (cells : List (List ℕ)) (head : List ℕ) (n : ℕ) (text next : List ℕ) → ListedTo cells head n text
    → AddsCell n (get_or cells n []) text next → ListedTo cells head (n + 1) next
listed_more cells head n text next listed (words, says, more) = record {
  lines = listed.lines ++ words ∷ [];
  count = length-append listed.lines (words ∷ []) ∙ ap (λ (k : ℕ). k + 1) listed.count;
  each = λ place below. line_at cells listed.lines words place n listed.count below listed.each says;
  text_is = text_more head text next listed.lines words listed.text_is more;
}

-- the lines of all cells
pub listed_all : (cells : List (List ℕ)) (head : List (List ℕ)) (n : ℕ) (text : List ℕ) → ListedTo cells (written head) n text
    → n ≡ length cells → ListsCells head cells text
listed_all cells head n text listed all = (
  listed.lines,
  record { count = listed.count ∙ all; each = λ place below. listed.each place (omega (arith, below, all)) },
  listed.text_is,
)

-- ---- a check

-- one place more
finds_more : (routes : Option (List Route)) (what : ℕ → Option (List ℕ)) (from n : ℕ) (findings : List (List (List ℕ))) (words : List (List ℕ))
    → FindsFrom routes what from n findings → FindsAt routes n (what n) (Some words) → FindsFrom routes what from (1 + n) (findings ++ words ∷ [])
finds_more routes what from n findings words (at_end m) finds = a_finding m (1 + m) words [] (omega arith) finds (at_end (1 + m))
finds_more routes what from n findings words (a_finding place m first rest below at more) finds =
    a_finding place (1 + m) first (rest ++ words ∷ []) (omega (arith, below)) at (finds_more routes what (1 + place) m rest words more finds)
finds_more routes what from n findings words (nothing place m rest below at more) finds =
    nothing place (1 + m) (rest ++ words ∷ []) (omega (arith, below)) at (finds_more routes what (1 + place) m rest words more finds)

finds_none : (routes : Option (List Route)) (what : ℕ → Option (List ℕ)) (from n : ℕ) (findings : List (List (List ℕ)))
    → FindsFrom routes what from n findings → FindsAt routes n (what n) None → FindsFrom routes what from (1 + n) findings
finds_none routes what from n findings (at_end m) none = nothing m (1 + m) [] (omega arith) none (at_end (1 + m))
finds_none routes what from n findings (a_finding place m first rest below at more) none =
    a_finding place (1 + m) first rest (omega (arith, below)) at (finds_none routes what (1 + place) m rest more none)
finds_none routes what from n findings (nothing place m rest below at more) none =
    nothing place (1 + m) rest (omega (arith, below)) at (finds_none routes what (1 + place) m rest more none)

next_number : (n : ℕ) → 1 + n ≡ n + 1
next_number n = omega arith

pub found_none : (routes : Option (List Route)) (what : ℕ → Option (List ℕ)) (old text : List ℕ) → text ≡ old → PushesFindings routes what 0 old text
found_none routes what old text is = ([], at_end 0, is ∙ sym (append-nil old))

pub found_more : (routes : Option (List Route)) (what : ℕ → Option (List ℕ)) (n : ℕ) (old text next : List ℕ) → PushesFindings routes what n old text
    → PushesFinding routes n (what n) text next → PushesFindings routes what (n + 1) old next
found_more routes what n old text next (findings, finds, is) (inl (words, found, more)) = (
  findings ++ words ∷ [],
  subst (λ (k : ℕ). FindsFrom routes what 0 k (findings ++ words ∷ [])) (next_number n) (finds_more routes what 0 n findings words finds found),
  text_more old text next findings words is more,
)
found_more routes what n old text next (findings, finds, is) (inr (none, same)) = (
  findings,
  subst (λ (k : ℕ). FindsFrom routes what 0 k findings) (next_number n) (finds_none routes what 0 n findings finds none),
  same ∙ is,
)

-- what is found of what stands at a place is found of the same
pub found_there : (routes : Option (List Route)) (place : ℕ) (here there : Option (List ℕ)) (old new : List ℕ) → here ≡ there
    → PushesFinding routes place there old new → PushesFinding routes place here old new
found_there routes place here there old new is finding =
    subst (λ (at : Option (List ℕ)). PushesFinding routes place at old new) (sym is) finding

-- the places, and then the routes that have no cell
pub found_all : (routes : Option (List Route)) (x : List ℕ) (found : CountingStore) (old text next : List ℕ) → PushesPlaces routes x found old text
    → next ≡ text ++ written_lines (lacking_lines routes found.cells) → PushesFound routes x found old next
found_all routes x found old text next (findings, finds, is) more =
    (findings, finds, lines_joined old text next findings (lacking_lines routes found.cells) is more)

-- ---- what is found of kind and version

pub layout_unwanted : (found : CountingStore) (wanted : Option CountingStore) (old text : List ℕ) → wanted ≡ None → text ≡ old
    → PushesLayout wanted found old text
layout_unwanted found wanted old text none is =
    subst (λ (w : Option CountingStore). PushesLayout w found old text) (sym none) ([], none_wanted, is ∙ sym (append-nil old))

pub layout_as_wanted : (found wanted : CountingStore) (old text : List ℕ) → layout_of found ≡ layout_of wanted → text ≡ old
    → PushesLayout (Some wanted) found old text
layout_as_wanted found wanted old text same is = ([], as_wanted wanted same, is ∙ sym (append-nil old))

pub layout_another : (found wanted : CountingStore) (old text : List ℕ) → ¬ (layout_of found ≡ layout_of wanted)
    → text ≡ old ++ written (wanted_words wanted) → PushesLayout (Some wanted) found old text
layout_another found wanted old text other is =
    (wanted_words wanted ∷ [], another wanted other, is ∙ ap (λ (l : List ℕ). old ++ l) (sym (append-nil (written (wanted_words wanted)))))

-- ---- nothing was added exactly if nothing was found

some_text : (words : List (List ℕ)) (rest : List (List (List ℕ))) → 0 < length (written_lines (words ∷ rest))
some_text words rest = simp (length-append) (omega arith)

pub none_if_same : (old text : List ℕ) (findings : List (List (List ℕ))) → text ≡ old ++ written_lines findings → length text ≡ length old
    → findings ≡ []
none_if_same old text [] is same = refl
none_if_same old text (words ∷ rest) is same =
    absurd (omega (arith, ap length is, same, length-append old (written_lines (words ∷ rest)), some_text words rest))

pub same_if_none : (old text : List ℕ) (findings : List (List (List ℕ))) → text ≡ old ++ written_lines findings → findings ≡ []
    → length text ≡ length old
same_if_none old text findings is none =
    ap length is ∙ ap (λ (f : List (List (List ℕ))). length (old ++ written_lines f)) none ∙ ap length (append-nil old)

-- the text of a check, and whether nothing was found
pub checked_text : (wanted : Option CountingStore) (routes : Option (List Route)) (x : List ℕ) (found : CountingStore) (disk : DiskState)
    (head middle text : List ℕ) (good : Bool) → HasFound x found disk → head ≡ written (head_words found) → PushesLayout wanted found head middle
    → PushesFound routes x found middle text → (IsTrue good ↔ (length text ≡ length head)) → Checked wanted routes x text good
checked_text wanted routes x found disk head middle text good has head_is (of_layout, laid, first) (of_places, placed, second) decides =
    let findings = of_layout ++ (of_places ++ lacking_lines routes found.cells) in
    let is : text ≡ head ++ written_lines findings =
    lines_joined head middle text of_layout (of_places ++ lacking_lines routes found.cells) first second in (
      findings,
      record {
        found = found;
        has = record { counts = has.counts; wide = has.wide; room = has.room };
        finds = record { of_layout = of_layout; of_places = of_places; finds_layout = laid; finds = placed; all = refl };
        text_is = is ∙ ap (λ (h : List ℕ). h ++ written_lines findings) head_is;
      },
      (λ yes_. none_if_same head text findings is (decides.0 yes_), λ none. decides.1 (same_if_none head text findings is none)),
    )

-- a test of two lengths
pub lengths_same : (m n : ℕ) (a b : List ℕ) → m ≡ length a → n ≡ length b → IsTrue (nat_eq m n) ↔ (length a ≡ length b)
lengths_same m n a b first second = (λ same. grind (arith, nat_tests, same, first, second), λ same. grind (arith, nat_tests, same, first, second))
