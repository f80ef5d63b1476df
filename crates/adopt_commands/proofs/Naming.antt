-- What arguments name, and how taking over entries over it ends
use Rattle.std.proofs.Common.{◌≡◌, ◌∙◌, ◌+◌, ℕ, Bool, true, false, List, [], ◌∷◌, ◌++◌, length, refl, sym, ap, subst, arith}
use Rattle.std.proofs.lemmas.List.{append-nil, length-append, nil_from_length}
use Rattle.std.specs.Prelude.{Some, if◌then◌else◌}
use Rattle.bus_port.specs.Source.{SourceState}
use Rattle.program_edge.specs.NamedSources.{Openings, behind, IsNamed}
use Rattle.program_edge.specs.Inputs.{Reading}
use Rattle.ledger_commands.specs.Named.{AllNamed, none_yet, one_more, OverAllNamed}
use Rattle.adopt_commands.specs.AdoptsOver.{MakesOpened}

-- nothing was opened
pub over_none_named : (opens : List ℕ → SourceState → Type 0) (before after : Openings) (words : List (List ℕ)) (left : List SourceState)
    (Has : List Reading → Type 0) → after ≡ before → left ≡ [] → Has [] → OverAllNamed opens before after words left Has
over_none_named opens before after words left Has same none has = record {
  files = [];
  number = 0;
  named = subst (λ o. AllNamed opens before [] [] o) (sym same) none_yet;
  left_is = sym none;
  has = has;
}

-- one argument was
pub over_one_named : (opens : List ℕ → SourceState → Type 0) (before after : Openings) (word named : List ℕ) (left : List SourceState)
    (Has : List Reading → Type 0) (r : Reading) → word ≡ named → IsNamed opens before (Some word) r.before → after ≡ behind (Some word) before
    → left ≡ r.after ∷ [] → Has (r ∷ []) → OverAllNamed opens before after (named ∷ []) left Has
over_one_named opens before after word named left Has r word_is is later left_is has = record {
  files = r ∷ [];
  number = 1;
  named = subst (λ w. AllNamed opens before (w ∷ []) (r ∷ []) after) word_is
      (subst (λ o. AllNamed opens before (word ∷ []) (r ∷ []) o) (sym later) (one_more [] [] before word r none_yet is));
  left_is = sym left_is;
  has = has;
}

-- ---- the files that were made, of the words that opened disks

none_added : (may : Bool) (made : List (List ℕ)) → made ≡ made ++ (if may then [] else [])
none_added true made = sym (append-nil made)
none_added false made = sym (append-nil made)

pub makes_none : (may : Bool) (before after made_before made_after : List (List ℕ)) → after ≡ before → made_after ≡ made_before
    → MakesOpened may before after made_before made_after
makes_none may before after made_before made_after same unmade = ([], same ∙ sym (append-nil before), unmade ∙ none_added may made_before)

pub makes_nothing : (may : Bool) (opened made : List (List ℕ)) → MakesOpened may opened opened made made
makes_nothing may opened made = makes_none may opened opened made made refl refl

pub none_without : (may : Bool) (before after made_before made_after : List (List ℕ)) → MakesOpened may before after made_before made_after → may ≡ false
    → made_after ≡ made_before
none_without true before after made_before made_after (words, opened, made) none = absurd (cc)
none_without false before after made_before made_after (words, opened, made) none = made ∙ append-nil made_before

pub none_unopened : (may : Bool) (before after made_before made_after : List (List ℕ)) → MakesOpened may before after made_before made_after → after ≡ before
    → made_after ≡ made_before
none_unopened may before after made_before made_after (words, opened, made) same =
    let longer : length before ≡ length before + length words = ap length (sym same ∙ opened) ∙ length-append before words in
    let none : words ≡ [] = nil_from_length words (omega (arith, longer)) in
    (rw none at made) ∙ sym (none_added may made_before)
