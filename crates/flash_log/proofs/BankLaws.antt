-- What a bank is read as.
use Rattle.std.proofs.Common.{◌≡◌, ◌≢◌, ◌+◌, ◌<◌, ◌≤◌, inl, inr, Bool, ℕ, zero, suc, Option, Some, None, List, [], ◌∷◌, ◌++◌, length, take, set, length-take, refl, sym, ap, subst, ◌∙◌, arith, length-append}
use Rattle.std.proofs.lemmas.Option.{same_Some}
use Rattle.std.proofs.lemmas.Bool.{cases_eq}
use Rattle.flash_places.specs.declared.FlashLine.{FlashLine}
use Rattle.flash_places.specs.declared.FlashLine.TheVariants.{Head, Entry}
use Rattle.flash_places.specs.declared.Answer.{Answer}
use Rattle.flash_places.specs.declared.Answer.TheVariants.{Whole}
use Rattle.flash_places.specs.Places.{FlashPlace, Flash, Looks, LooksAt, line_in}
use Rattle.flash_laws.specs.Logs.{CellList, copy_lines, after_lines, IsLog}
use Rattle.flash_laws.proofs.CallerLemmas.{length-copy, after-append}
use Rattle.flash_places.specs.State.{BlankBehind}
use Rattle.flash_log.specs.declared.reading.LogEnd.{LogEnd}
use Rattle.flash_log.specs.Taking.{LooksLine, places_behind, from_place, Taken, Ends, TakesNoCopy, TakesPuts, TakesTo, ReadsLog, ReadsBankPart}
use Rattle.flash_log.proofs.TakingLaws.{ends_of, answer_of, ends_answer, taken_same, taken_from, taken_rest, taken_append, taken_snoc, copy_snoc, told, taken_looks, told_end, told_at, spells_shift, told_spells, log_entry}

pub taken_part : (u v : ℕ → FlashPlace) (ls : List FlashLine) → Taken u v ls → ReadsBankPart u v
taken_part u v ls h = record { read = told ls (λ i. answer_of (u i)); looks = taken_looks u v ls h }

-- there is no log of n cells where the head is another line
pub no_head_line : (n : ℕ) (u v : ℕ → FlashPlace) (cells : CellList) (i : ℕ) (payload : List ℕ) → Looks (u 0) (Some (Entry i payload)) (v 0) → ((k : ℕ) → k ≢ 0 → v k ≡ u k)
    → ReadsLog n None cells u v
no_head_line n u v cells i payload looks rest =
    let h : Taken u v (Entry i payload ∷ []) = (looks, λ k. rest (suc k) (λ e. absurd (omega arith))) in
    record {
      read = told (Entry i payload ∷ []) (λ j. answer_of (u j));
      looks = taken_looks u v (Entry i payload ∷ []) h;
      is_log = λ g e. absurd (cc);
      no_log = λ e g left end l. (let f : Some (Entry i payload) ≡ Some (Head g) = l.head in absurd (cc));
    }

all_same : (u v : ℕ → FlashPlace) → v 0 ≡ u 0 → ((k : ℕ) → k ≢ 0 → v k ≡ u k) → (k : ℕ) → v k ≡ u k
all_same u v e rest zero = e
all_same u v e rest (suc k) = rest (suc k) (λ x. absurd (omega arith))

pub no_line : (n : ℕ) (u v : ℕ → FlashPlace) (cells : CellList) → Looks (u 0) None (v 0) → ((k : ℕ) → k ≢ 0 → v k ≡ u k)
    → ReadsLog n None cells u v
no_line n u v cells looks rest =
    let e = ends_of (u 0) (v 0) looks in
    record {
      read = λ j. answer_of (u j);
      looks = taken_looks u v [] (all_same u v e.1 rest);
      is_log = λ g f. absurd (cc);
      no_log = λ x g left end l. (let f : None ≡ Some (Head g) = sym (ends_answer (u 0) e.0) ∙ l.head in absurd (cc));
    }

-- behind a head: u before, m behind the head's read, p behind the copy_lines's, q behind the puts'
module _ (n : ℕ) (u m p : ℕ → FlashPlace) (g : ℕ) (looks : Looks (u 0) (Some (Head g)) (m 0)) (rest : (k : ℕ) → k ≢ 0 → m k ≡ u k) (head : p 0 ≡ m 0) where
  taken_head : (ls : List FlashLine) → Taken (places_behind m) (places_behind p) ls → Taken u p (Head g ∷ ls)
  taken_head ls h = (
    subst (λ (q : FlashPlace). Looks (u 0) (Some (Head g)) q) (sym head) looks,
    taken_from (places_behind m) (places_behind u) (places_behind p) ls (λ k. sym (rest (suc k) (λ e. absurd (omega arith)))) h,
  )

  pub head_part : (ls : List FlashLine) → Taken (places_behind m) (places_behind p) ls → ReadsBankPart u p
  head_part ls h = taken_part u p (Head g ∷ ls) (taken_head ls h)

  pub no_copy : (cells : CellList) → TakesNoCopy n (places_behind m) (places_behind p) → ReadsLog n None cells u p
  no_copy cells t = record {
    read = told (Head g ∷ t.lines) (λ j. answer_of (u j));
    looks = taken_looks u p (Head g ∷ t.lines) (taken_head t.lines t.taken);
    is_log = λ x f. absurd (cc);
    no_log = λ x now left end l. elim t.odd [
      | inl short ↦ (
          let some = log_entry n (told (Head g ∷ t.lines) (λ j. answer_of (u j))) now left end (length t.lines) l short.1 in
          let same : m (suc (length t.lines)) ≡ u (suc (length t.lines)) = rest (suc (length t.lines)) (λ e. absurd (omega arith)) in
          let none : answer_of (u (suc (length t.lines))) ≡ None = ends_answer (u (suc (length t.lines))) (subst (λ (z : FlashPlace). Ends z) same short.0) in
          let said : told (Head g ∷ t.lines) (λ j. answer_of (u j)) (suc (length t.lines)) ≡ None = told_end t.lines (λ j. answer_of (u (suc j))) (length t.lines) refl ∙ none in
          let f : None ≡ Some (Entry (length t.lines) some.0) = sym said ∙ some.1 in absurd (cc))
      | inr odd ↦ (
          let before = odd.0 in
          let line = odd.1.0 in
          let some = log_entry n (told (Head g ∷ t.lines) (λ j. answer_of (u j))) now left end (length before) l odd.1.1.1.0 in
          let said : told t.lines (λ j. answer_of (u (suc j))) (length before) ≡ Some line =
          ap (λ (ls : List FlashLine). told ls (λ j. answer_of (u (suc j))) (length before)) odd.1.1.0 ∙ told_at before [] line (λ j. answer_of (u (suc j))) (length before) refl in
          odd.1.1.1.1 some.0 (same_Some _ _ (sym said ∙ some.1)))
    ];
  }

  module _ (q : ℕ → FlashPlace) (first : CellList) (count : length first ≡ n) (taken : Taken (places_behind m) (places_behind p) (copy_lines 0 first)) (before : (k : ℕ) → k ≤ n → q k ≡ p k) where
    taken_all : (ls : List FlashLine) → Taken (λ k. p (1 + n + k)) (λ k. q (1 + n + k)) ls → Taken u q (Head g ∷ (copy_lines 0 first ++ ls))
    taken_all ls more =
        let sized : length (copy_lines 0 first) ≡ n = length-copy 0 first ∙ count in (
          subst (λ (z : FlashPlace). Looks (u 0) (Some (Head g)) z) (sym (before 0 (omega arith) ∙ head)) looks,
          taken_append (places_behind u) (places_behind p) (places_behind q) (copy_lines 0 first) ls (taken_head (copy_lines 0 first) taken).1 (λ k below. before (suc k) (omega arith))
              (taken_same (λ k. places_behind p (length (copy_lines 0 first) + k)) (λ k. q (1 + n + k)) (λ k. places_behind q (length (copy_lines 0 first) + k)) ls (λ k. ap q (let e : suc (length (copy_lines 0 first) + k) ≡ 1 + n + k = omega arith in e))
              (taken_from (λ k. p (1 + n + k)) (λ k. places_behind p (length (copy_lines 0 first) + k)) (λ k. q (1 + n + k)) ls (λ k. ap p (let e : suc (length (copy_lines 0 first) + k) ≡ 1 + n + k = omega arith in e)) more)),
        )

    pub puts_part : (ls : List FlashLine) → Taken (λ k. p (1 + n + k)) (λ k. q (1 + n + k)) ls → ReadsBankPart u q
    puts_part ls more = taken_part u q (Head g ∷ (copy_lines 0 first ++ ls)) (taken_all ls more)

    pub read_beyond : (cells : CellList) (next : ℕ) → TakesPuts n (λ k. p (1 + n + k)) (λ k. q (1 + n + k)) first cells next → (k : ℕ) → next ≤ k → q k ≡ u k
    read_beyond cells next t k far =
        let sized : length (copy_lines 0 first) ≡ n = length-copy 0 first ∙ count in
        taken_rest u q (Head g ∷ (copy_lines 0 first ++ t.puts)) (taken_all t.puts t.taken) k (omega (arith, far, t.place, length-append (copy_lines 0 first) t.puts))

    pub is_read : (free : Bool) (cells : CellList) (next : ℕ) → TakesPuts n (λ k. p (1 + n + k)) (λ k. q (1 + n + k)) first cells next
        → ReadsLog n (Some (record { generation = g; next = next; is_free = free })) cells u q
    is_read free cells next t =
        let ls : List FlashLine = copy_lines 0 first ++ t.puts in
        let rest_of : ℕ → Option FlashLine = λ j. answer_of (u (suc j)) in
        let sized : length (copy_lines 0 first) ≡ n = length-copy 0 first ∙ count in
        let place : suc (length ls) ≡ 1 + n + length t.puts = omega (arith, length-append (copy_lines 0 first) t.puts) in
        let here : places_behind p (length ls) ≡ places_behind u (length ls) = taken_rest (places_behind u) (places_behind p) (copy_lines 0 first) (taken_head (copy_lines 0 first) taken).1 (length ls) (omega (arith, length-append (copy_lines 0 first) t.puts)) in
        let ends : Ends (p (suc (length ls))) = subst (λ k. Ends (p k)) (sym place) t.ends in
        let none : rest_of (length ls) ≡ None = ends_answer (u (suc (length ls))) (subst (λ (z : FlashPlace). Ends z) here ends) in
        record {
          read = told (Head g ∷ ls) (λ j. answer_of (u j));
          looks = taken_looks u q (Head g ∷ ls) (taken_all t.puts t.taken);
          is_log = λ log e. subst (λ (z : LogEnd). IsLog n (told (Head g ∷ ls) (λ j. answer_of (u j))) z.generation cells z.next) (same_Some _ _ e) (record {
            first = first;
            count = count;
            puts = t.puts;
            head = refl;
            lines = spells_shift (told (Head g ∷ ls) (λ j. answer_of (u j))) 0 ls (told_spells ls rest_of none);
            now = t.made;
            ends = omega (arith, t.place, place);
          });
          no_log = λ e now left end l. absurd (cc);
        }

-- ---- one read more

all_other : (v w : ℕ → FlashPlace) (at : ℕ) → w at ≡ v at → ((k : ℕ) → k ≢ at → w k ≡ v k) → (k : ℕ) → w k ≡ v k
all_other v w at e rest k = elim (cases_eq k at) [
  | inl here ↦ subst (λ j. w j ≡ v j) (sym here) e
  | inr there ↦ rest k there
]

copied_length : (i : ℕ) (cells : CellList) → i ≤ length cells → length (copy_lines 0 (take i cells)) ≡ i
copied_length i cells below = omega (arith, length-copy 0 (take i cells), length-take i cells)

module _ (n i : ℕ) (u v w : ℕ → FlashPlace) (cells : CellList) (sized : length cells ≡ n) (below : i < n) (taken : Taken (places_behind u) (places_behind v) (copy_lines 0 (take i cells)))
    (at : ℕ) (is : at ≡ suc i) (rest : (k : ℕ) → k ≢ at → w k ≡ v k) where
  so_many : length (copy_lines 0 (take i cells)) ≡ i
  so_many = copied_length i cells (omega arith)

  more : (line : FlashLine) → Looks (v at) (Some line) (w at) → Taken (places_behind u) (places_behind w) (copy_lines 0 (take i cells) ++ line ∷ [])
  more line looks = taken_snoc (places_behind u) (places_behind v) (places_behind w) (copy_lines 0 (take i cells)) i line (sym so_many) taken
      (subst (λ k. Looks (v k) (Some line) (w k)) is looks) (λ k ne. rest (suc k) (λ e. ne (omega arith)))

  pub copy_odd : (line : FlashLine) → Looks (v at) (Some line) (w at) → ((payload : List ℕ) → line ≢ Entry i payload) → TakesNoCopy n (places_behind u) (places_behind w)
  copy_odd line looks ne = record {
    lines = copy_lines 0 (take i cells) ++ line ∷ [];
    taken = more line looks;
    odd = inr (copy_lines 0 (take i cells), (line, (refl, ((let m = so_many in omega arith), λ payload e. ne payload (e ∙ ap (λ z. Entry z payload) so_many)))));
  }

  pub copy_ends : Looks (v at) None (w at) → TakesNoCopy n (places_behind u) (places_behind w)
  copy_ends looks =
      let e = ends_of (v at) (w at) looks in
      let there : Ends (places_behind v (length (copy_lines 0 (take i cells)))) = subst (λ k. Ends (v k)) (let x : at ≡ suc (length (copy_lines 0 (take i cells))) = (let m = so_many in omega arith) in x) e.0 in
      record {
        lines = copy_lines 0 (take i cells);
        taken = taken_same (places_behind u) (places_behind v) (places_behind w) (copy_lines 0 (take i cells)) (λ k. all_other v w at e.1 rest (suc k)) taken;
        odd = inl (subst (λ (z : FlashPlace). Ends z) (taken_rest (places_behind u) (places_behind v) (copy_lines 0 (take i cells)) taken (length (copy_lines 0 (take i cells))) (omega arith)) there, (let m = so_many in omega arith));
      }

  pub copy_on : (cell : ℕ) (payload : List ℕ) (next : ℕ) → Looks (v at) (Some (Entry cell payload)) (w at) → cell ≡ i → next ≡ suc i
      → Taken (places_behind u) (places_behind w) (copy_lines 0 (take next (set cells i payload)))
  copy_on cell payload next looks e f =
      subst (λ k. Taken (places_behind u) (places_behind w) (copy_lines 0 (take k (set cells i payload)))) (sym f)
      (subst (λ (ls : List FlashLine). Taken (places_behind u) (places_behind w) ls) (sym (copy_snoc 0 i cells payload (omega arith)))
      (subst (λ k. Taken (places_behind u) (places_behind w) (copy_lines 0 (take i cells) ++ Entry k payload ∷ [])) (let x : cell ≡ 0 + i = omega arith in x) (more (Entry cell payload) looks)))

-- ---- the puts

module _ (n place : ℕ) (bank : ℕ) (f g h : Flash) (before cells : CellList) (to : TakesTo n place bank f g before cells) (rest : (k : ℕ) → k ≢ place → h bank k ≡ g bank k) where
  pub puts_end : Looks (g bank place) None (h bank place) → TakesPuts n (from_place f bank (1 + n)) (from_place h bank (1 + n)) before cells place
  puts_end looks =
      let e = ends_of (g bank place) (h bank place) looks in
      record {
        puts = to.puts;
        taken = taken_same (from_place f bank (1 + n)) (from_place g bank (1 + n)) (from_place h bank (1 + n)) to.puts (λ k. all_other (g bank) (h bank) place e.1 rest (1 + n + k)) to.taken;
        ends = subst (λ (z : FlashPlace). Ends z) (taken_rest (from_place f bank (1 + n)) (from_place g bank (1 + n)) to.puts to.taken (length to.puts) (omega arith))
            (subst (λ k. Ends (g bank k)) (sym to.count) e.0);
        made = to.made;
        place = to.count;
      }

  pub puts_on : (line : FlashLine) (next : ℕ) (now : CellList) → Looks (g bank place) (Some line) (h bank place) → next ≡ suc place → now ≡ after_lines (line ∷ []) cells
      → TakesTo n next bank f h before now
  puts_on line next now looks e made = record {
    puts = to.puts ++ line ∷ [];
    taken = taken_snoc (from_place f bank (1 + n)) (from_place g bank (1 + n)) (from_place h bank (1 + n)) to.puts (length to.puts) line refl to.taken
        (subst (λ k. Looks (g bank k) (Some line) (h bank k)) (sym to.count) looks) (λ k ne. rest (1 + n + k) (λ x. ne (let c = to.count in omega arith)));
    count = (let c = to.count in omega (arith, length-append to.puts (line ∷ [])));
    made = made ∙ (ap (λ (z : CellList). after_lines (line ∷ []) z) to.made ∙ sym (after-append to.puts (line ∷ []) before));
  }

-- the end of the bank
pub puts_full : (n room : ℕ) (bank : ℕ) (f g : Flash) (before cells : CellList) → TakesTo n room bank f g before cells → BlankBehind room g
    → TakesPuts n (from_place f bank (1 + n)) (from_place g bank (1 + n)) before cells room
puts_full n room bank f g before cells to beyond = record {
  puts = to.puts;
  taken = to.taken;
  ends = subst (λ (z : FlashPlace). Ends z) (taken_rest (from_place f bank (1 + n)) (from_place g bank (1 + n)) to.puts to.taken (length to.puts) (omega arith))
      (inl (beyond bank (1 + n + length to.puts) (let c = to.count in omega arith)));
  made = to.made;
  place = to.count;
}

pub is_read_as : (n n' : ℕ) → n ≡ n' → (answer : Option LogEnd) (cells : CellList) (u v : ℕ → FlashPlace) → ReadsLog n answer cells u v → ReadsLog n' answer cells u v
is_read_as n n' e answer cells u v r = subst (λ k. ReadsLog k answer cells u v) e r

pub no_entry : (n : ℕ) (u v : ℕ → FlashPlace) (cells : CellList) (answer : Option FlashLine) (line : FlashLine) {i : ℕ} {payload : List ℕ} → Looks (u 0) answer (v 0) → answer ≡ Some line → line ≡ Entry i payload
    → ((k : ℕ) → k ≢ 0 → v k ≡ u k) → ReadsLog n None cells u v
no_entry n u v cells answer line {i} {payload} looks e f rest =
    no_head_line n u v cells i payload (subst (λ (a : Option FlashLine). Looks (u 0) a (v 0)) (e ∙ ap (λ z. Some z) f) looks) rest

-- a line that was read
pub looks_line : (bank at : ℕ) (answer : Answer) (line : FlashLine) (f g : Flash) → LooksAt bank at answer f g → answer ≡ Whole line → LooksLine bank at (Some line) f g
looks_line bank at answer line f g d is = record {
  looks = subst (λ (a : Answer). Looks (f bank at) (line_in a) (g bank at)) is d.looks;
  same = d.same;
}
