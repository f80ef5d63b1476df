-- Places behind the end of a log: they are looked at last, and change nothing of what was read before.
use Rattle.std.proofs.Common.{◌≡◌, ◌≢◌, ◌<◌, ◌≤◌, ◌+◌, inl, inr, Bool, true, false, not, ℕ, suc, Option, Some, None, List, [], ◌∷◌, ◌++◌, length, refl, sym, ap, subst, ◌∙◌, arith}
use Rattle.std.proofs.lemmas.Option.{same_Some}
use Rattle.std.proofs.lemmas.Bool.{cases_eq, cases_lt}
use Rattle.flash_places.specs.declared.FlashLine.{FlashLine}
use Rattle.flash_places.specs.declared.FlashLine.TheVariants.{Head, Entry}
use Rattle.flash_places.specs.declared.Answer.{Answer}
use Rattle.flash_places.specs.declared.Answer.TheVariants.{Whole, Blank, Nothing}
use Rattle.flash_places.specs.Places.{FlashPlace, Flash, Looks, LooksAt, SameFlash, SameOthers, blank_place, line_in, sees, sees_nothing}
use Rattle.flash_places.specs.State.{BlankBehind}
use Rattle.flash_laws.specs.Logs.{CellList, copy_lines, Spells, IsLog}
use Rattle.flash_log.specs.declared.reading.LogEnd.{LogEnd}
use Rattle.flash_log.specs.Going.{BlankFrom}
use Rattle.flash_log.specs.Taking.{ReadsLog, ReadsBankPart, generation_in}
use Rattle.flash_log.proofs.GoingLaws.{others_then}
use Rattle.flash_log.proofs.TakingLaws.{ends_of, answer_of, unlooked}
use Rattle.flash_log.proofs.BankLaws.{no_head_line, no_line}

-- an answer that is known
pub as_answer : (p q : FlashPlace) (a b : Answer) → Looks p (line_in a) q → a ≡ b → Looks p (line_in b) q
as_answer p q a b looks e = subst (λ (z : Answer). Looks p (line_in z) q) e looks

pub not_not : (b : Bool) → not b ≡ false → b ≡ true
not_not true e = refl
not_not false e = absurd (cc)

-- what the first place of a bank was read as
pub head_looks : (a : Answer) (g : ℕ) (p q : FlashPlace) → generation_in a ≡ Some g → Looks p (line_in a) q → Looks p (Some (Head g)) q
head_looks (Whole (Head x)) g p q e looks = subst (λ z. Looks p (Some (Head z)) q) (same_Some _ _ e) looks
head_looks (Whole (Entry i payload)) g p q e looks = absurd (cc)
head_looks Blank g p q e looks = absurd (cc)
head_looks Nothing g p q e looks = absurd (cc)

pub no_head : (a : Answer) (n : ℕ) (u v : ℕ → FlashPlace) (cells : CellList) → generation_in a ≡ None → Looks (u 0) (line_in a) (v 0)
    → ((k : ℕ) → k ≢ 0 → v k ≡ u k) → ReadsLog n None cells u v
no_head (Whole (Head x)) n u v cells e looks rest = absurd (cc)
no_head (Whole (Entry i payload)) n u v cells e looks rest = no_head_line n u v cells i payload looks rest
no_head Blank n u v cells e looks rest = no_line n u v cells looks rest
no_head Nothing n u v cells e looks rest = no_line n u v cells looks rest

-- a blank place stays so, however it is read
pub blank_stays : (p q : FlashPlace) (a : Option FlashLine) → Looks p a q → p ≡ blank_place → q ≡ p
blank_stays p q a looks is = elim looks [
  | sees line held said now ↦ (let e : None ≡ Some line = sym (ap (λ (z : FlashPlace). z.content) is) ∙ held in absurd (cc))
  | sees_nothing ends said now ↦ now
]

-- one place is looked at, in a flash that is as before
module _ (bank at : ℕ) (answer : Answer) (f m g : Flash) (same : SameFlash f m) (d : LooksAt bank at answer m g) where
  at_first : Looks (f bank at) (line_in answer) (g bank at)
  at_first = subst (λ (p : FlashPlace). Looks p (line_in answer) (g bank at)) (same bank at) d.looks

  look_of : (k : ℕ) → (a : Option FlashLine) × Looks (f bank k) a (g bank k)
  look_of k = elim (cases_eq k at) [
    | inl here ↦ (line_in answer, subst (λ j. Looks (f bank j) (line_in answer) (g bank j)) (sym here) at_first)
    | inr there ↦ (
      answer_of (f bank k),
      subst (λ (q : FlashPlace). Looks (f bank k) (answer_of (f bank k)) q) (sym (d.same.rest k there ∙ same bank k)) (unlooked (f bank k)),
    )
  ]

  pub one_look : ReadsBankPart (f bank) (g bank)
  one_look = record { read = λ k. (look_of k).0; looks = λ k. (look_of k).1 }

  pub look_others : SameOthers bank f g
  look_others = others_then bank f m g (λ x ne k. same x k) d.same.others

  pub look_before : (next : ℕ) → next ≤ at → f bank next ≡ blank_place → (k : ℕ) → k ≤ next → g bank k ≡ f bank k
  look_before next from blank k below = elim (cases_eq k at) [
    | inl here ↦ subst (λ j. g bank j ≡ f bank j) (sym here)
        (blank_stays (f bank at) (g bank at) (line_in answer) at_first (subst (λ j. f bank j ≡ blank_place) (let e : next ≡ at = omega (arith, here, from, below) in e) blank))
    | inr there ↦ d.same.rest k there ∙ same bank k
  ]

  pub look_same : line_in answer ≡ None → SameFlash f g
  look_same none x k = elim (cases_eq x bank) [
    | inl here ↦ subst (λ y. g y k ≡ f y k) (sym here) (elim (cases_eq k at) [
      | inl at_it ↦ subst (λ j. g bank j ≡ f bank j) (sym at_it)
          ((ends_of (f bank at) (g bank at) (subst (λ (a : Option FlashLine). Looks (f bank at) a (g bank at)) none at_first)).1)
      | inr not_it ↦ d.same.rest k not_it ∙ same bank k
    ])
    | inr there ↦ look_others x there k
  ]

pub same_part : (bank : ℕ) (f g : Flash) → SameFlash f g → ReadsBankPart (f bank) (g bank)
same_part bank f g same = record {
  read = λ k. answer_of (f bank k);
  looks = λ k. subst (λ (q : FlashPlace). Looks (f bank k) (answer_of (f bank k)) q) (sym (same bank k)) (unlooked (f bank k));
}

-- one place more is blank
pub blank_more : (f g : Flash) (bank next at later : ℕ) → SameFlash f g → later ≡ suc at → g bank at ≡ blank_place
    → ((k : ℕ) → next ≤ k → k < at → f bank k ≡ blank_place) → (k : ℕ) → next ≤ k → k < later → g bank k ≡ blank_place
blank_more f g bank next at later same e here before k from below = elim (cases_eq k at) [
  | inl is ↦ subst (λ j. g bank j ≡ blank_place) (sym is) here
  | inr ne ↦ same bank k ∙ before k from (omega (arith, below, e, ne))
]

pub blank_to_end : (f : Flash) (bank next at places : ℕ) → BlankBehind places f → places ≤ at
    → ((k : ℕ) → next ≤ k → k < at → f bank k ≡ blank_place) → BlankFrom f bank next
blank_to_end f bank next at places beyond far before k from = elim (cases_lt k at) [
  | inl below ↦ before k from below
  | inr above ↦ beyond bank k (omega (arith, above, far))
]

-- ---- a log and what lies behind it

spells_like : (r s : ℕ → Option FlashLine) (k : ℕ) (ls : List FlashLine) → ((j : ℕ) → j ≤ k + length ls → s j ≡ r j) → Spells r k ls → Spells s k ls
spells_like r s k [] same h = same k (omega arith) ∙ h
spells_like r s k (l ∷ ls) same h = (same k (omega arith) ∙ h.0, spells_like r s (suc k) ls (λ j below. same j (omega (arith, below))) h.1)

log_like : (n : ℕ) (r s : ℕ → Option FlashLine) (g : ℕ) (cells : CellList) (next : ℕ) → ((j : ℕ) → j ≤ next → s j ≡ r j) → IsLog n r g cells next → IsLog n s g cells next
log_like n r s g cells next same l = record {
  first = l.first;
  count = l.count;
  puts = l.puts;
  head = same 0 (omega arith) ∙ l.head;
  lines = spells_like r s 1 (copy_lines 0 l.first ++ l.puts) (λ j below. same j (omega (arith, below, l.ends))) l.lines;
  now = l.now;
  ends = l.ends;
}

module _ (u v w : ℕ → FlashPlace) (next : ℕ) (read : ℕ → Option FlashLine) (looks : (k : ℕ) → Looks (u k) (read k) (v k)) (beyond : (k : ℕ) → next ≤ k → v k ≡ u k)
    (more : ReadsBankPart v w) (before : (k : ℕ) → k ≤ next → w k ≡ v k) where
  abbrev pub both : (k : ℕ) → (a : Option FlashLine) × (Looks (u k) a (w k) × (k ≤ next → a ≡ read k))
  both k = elim (cases_lt next k) [
    | inl far ↦ (more.read k, (subst (λ (p : FlashPlace). Looks p (more.read k) (w k)) (beyond k (omega (arith, far))) (more.looks k), λ le. absurd (omega (arith, le, far))))
    | inr near ↦ (read k, (subst (λ (q : FlashPlace). Looks (u k) (read k) q) (sym (before k (omega (arith, near)))) (looks k), λ le. refl))
  ]

  abbrev pub part_more : ReadsBankPart u w
  part_more = record { read = λ k. (both k).0; looks = λ k. (both k).1.0 }

  pub log_more : (n g : ℕ) (cells : CellList) → IsLog n read g cells next → IsLog n (λ k. (both k).0) g cells next
  log_more n g cells l = log_like n read (λ k. (both k).0) g cells next (λ j below. (both j).1.1 below) l

pub reads_more : (n : ℕ) (log : LogEnd) (cells : CellList) (u v w : ℕ → FlashPlace) → ReadsLog n (Some log) cells u v → ((k : ℕ) → log.next ≤ k → v k ≡ u k)
    → ReadsBankPart v w → ((k : ℕ) → k ≤ log.next → w k ≡ v k) → ReadsLog n (Some log) cells u w
reads_more n log cells u v w r beyond more before =
    let now = part_more u v w log.next r.read r.looks beyond more before in
    record {
      read = now.read;
      looks = now.looks;
      is_log = λ other e. subst (λ (z : LogEnd). IsLog n now.read z.generation cells z.next) (let h : log ≡ other = cc in h)
          (log_more u v w log.next r.read r.looks beyond more before n log.generation cells (r.is_log log refl));
      no_log = λ e g left end l. absurd (cc);
    }
