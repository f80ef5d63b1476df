-- Reading one place more of a bank.
use Rattle.std.proofs.Common.{◌≡◌, ◌≢◌, ◌+◌, ◌<◌, ◌≤◌, inl, inr, Bool, true, false, ℕ, zero, suc, Option, Some, None, List, [], ◌∷◌, ◌++◌, length, take, set, get_or, refl, sym, ap, subst, ◌∙◌, arith, append_assoc, length-append}
use Rattle.std.proofs.lemmas.Option.{same_Some}
use Rattle.std.proofs.lemmas.Bool.{cases_eq, cases_lt}
use Rattle.std.proofs.lemmas.List.{length-take, take_all, append-nil}
use Rattle.flash_places.specs.declared.FlashLine.{FlashLine}
use Rattle.flash_places.specs.declared.FlashLine.TheVariants.{Head, Entry}
use Rattle.flash_places.specs.declared.Answer.{Answer}
use Rattle.flash_places.specs.declared.Answer.TheVariants.{Whole, Blank, Nothing}
use Rattle.flash_places.specs.Places.{FlashPlace, Flash, Looks, LooksAt, SameButAt, blank_place, line_in, sees, sees_nothing}
use Rattle.flash_places.specs.State.{BlankBehind}
use Rattle.flash_laws.specs.Logs.{CellList, copy_lines, after_lines, IsLog}
use Rattle.flash_laws.proofs.CallerLemmas.{length-copy, after-append}
use Rattle.flash_log.specs.declared.reading.LogEnd.{LogEnd}
use Rattle.flash_log.specs.declared.scanning.Best.{Best}
use Rattle.flash_log.specs.Taking.{places_behind, Taken, Ends, TakesNoCopy, ReadsLog, NoLaterHead, latest_head, generation_in}
use Rattle.flash_log.specs.Scanned.{NoLaterHeads, is_past}
use Rattle.flash_log.proofs.CallerLemmas.{others_then, ends_of, answer_of, ends_answer, taken_same, taken_snoc, taken_rest, told, taken_looks, spells_shift, told_spells, copy_snoc, no_copy, copy_odd, copy_ends, head_looks, no_head, one_look, look_before, look_same, reads_more, heads_more, scanned_past, past_of, free_same}
use Rattle.flash_plan.specs.Standing.{BankPlaces, BeforeBank, WithinBank, ReadsCopy, ReadsPuts, ReadsBank, ReadsFree}

-- ---- what is known of heads

-- what the first place of a bank was read as says of its head
pub head_noted : (a : Answer) (bank : ℕ) (f g : Flash) → LooksAt bank 0 a f g → NoLaterHead (g bank 0) (latest_head a)
head_noted (Whole (Head x)) bank f g d small y is = elim d.looks [
  | sees line held said now ↦ (let e : Some (Head x) ≡ Some (Head y) = said ∙ (sym (ap (λ (p : FlashPlace). p.content) now) ∙ is) in let h : x ≡ y = cc in omega (arith, h))
  | sees_nothing ends said now ↦ absurd (cc)
]
head_noted (Whole (Entry i payload)) bank f g d small y is = elim d.looks [
  | sees line held said now ↦ (let e : Some (Entry i payload) ≡ Some (Head y) = said ∙ (sym (ap (λ (p : FlashPlace). p.content) now) ∙ is) in absurd (cc))
  | sees_nothing ends said now ↦ absurd (cc)
]
head_noted Blank bank f g d small y is =
    let none : None ≡ Some (Head y) = sym (ap (λ (p : FlashPlace). p.content) ((ends_of (f bank 0) (g bank 0) d.looks).1 ∙ d.is_blank refl)) ∙ is in absurd (cc)
head_noted Nothing bank f g d small y is = absurd (omega (arith, small))

-- no head is read again behind the first place
pub heads_stay : (bank at count : ℕ) (f g : Flash) (latest : List ℕ) → at ≢ 0 → SameButAt bank at f g → NoLaterHeads f count latest → NoLaterHeads g count latest
heads_stay bank at count f g latest ne same before x below =
    subst (λ (p : FlashPlace). NoLaterHead p (get_or latest x 0)) (sym (elim (cases_eq x bank) [
      | inl here ↦ subst (λ y. g y 0 ≡ f y 0) (sym here) (same.rest 0 (λ e. ne (sym e)))
      | inr there ↦ same.others x there 0
    ])) (before x below)

-- ---- one place of the bank that is being read

module _ (n bank : ℕ) (first f g : Flash) (best : Best) (latest : List ℕ) (cells : CellList) (at : ℕ) (answer : Answer) (d : LooksAt bank at answer f g) where
  -- behind its head
  pub within_more : (R S : BankPlaces → BankPlaces → Type 0) → at ≢ 0 → (w : WithinBank n bank first f best latest cells R) → S (w.before bank) (g bank)
      → WithinBank n bank first g best latest cells S
  within_more R S ne w s = record {
    before = w.before;
    scanned = w.scanned;
    free = w.free;
    others = others_then bank w.before f g w.others d.same.others;
    heads = heads_stay bank at (suc bank) f g latest ne d.same w.heads;
    reads = s;
  }

  -- its head
  pub within_first : (later : List ℕ) (S : BankPlaces → BankPlaces → Type 0) → at ≡ 0 → BeforeBank n bank first f best latest cells
      → NoLaterHeads g (suc bank) later → S (f bank) (g bank) → WithinBank n bank first g best later cells S
  within_first later S zero_is b heads s = record {
    before = f;
    scanned = b.scanned;
    free = b.free;
    others = d.same.others;
    heads = heads;
    reads = s;
  }

-- ---- the copy

copied_length : (i : ℕ) (cells : CellList) → i ≤ length cells → length (copy_lines 0 (take i cells)) ≡ i
copied_length i cells below = omega (arith, length-copy 0 (take i cells), length-take i cells)

pub copy_begins : (generation : ℕ) (scratch : CellList) (u v : BankPlaces) → Looks (u 0) (Some (Head generation)) (v 0) → ((k : ℕ) → k ≢ 0 → v k ≡ u k)
    → ReadsCopy generation 0 scratch u v
copy_begins generation scratch u v looks rest = (looks, λ k. rest (suc k) (λ e. absurd (omega arith)))

pub copy_grows : (generation done : ℕ) (scratch : CellList) (payload : List ℕ) (u v w : BankPlaces) → done < length scratch → ReadsCopy generation done scratch u v
    → Looks (v (suc done)) (Some (Entry done payload)) (w (suc done)) → ((k : ℕ) → k ≢ suc done → w k ≡ v k)
    → ReadsCopy generation (suc done) (set scratch done payload) u w
copy_grows generation done scratch payload u v w below taken looks rest =
    subst (λ (ls : List FlashLine). Taken u w (Head generation ∷ ls)) (sym (copy_snoc 0 done scratch payload below ∙ ap (λ z. copy_lines 0 (take done scratch) ++ Entry z payload ∷ []) (let e : 0 + done ≡ done = omega arith in e)))
    (taken_snoc u v w (Head generation ∷ copy_lines 0 (take done scratch)) (suc done) (Entry done payload) (let e = copied_length done scratch (omega arith) in omega (arith, e)) taken looks rest)

pub copy_whole : (n generation done : ℕ) (scratch : CellList) (u v : BankPlaces) → length scratch ≡ n → n ≤ done → ReadsCopy generation done scratch u v
    → ReadsPuts n generation (suc n) scratch u v
copy_whole n generation done scratch u v sized all taken = record {
  first = scratch;
  count = sized;
  puts = [];
  taken = subst (λ (ls : List FlashLine). Taken u v (Head generation ∷ ls)) (ap (λ (cs : CellList). copy_lines 0 cs) (take_all done scratch (omega arith)) ∙ sym (append-nil (copy_lines 0 scratch))) taken;
  place_is = omega arith;
  made = refl;
}

-- the places of a bank of which only the head was read
abbrev head_read : BankPlaces → BankPlaces → ℕ → FlashPlace
head_read u v zero = v 0
head_read u v (suc k) = u (suc k)

head_rest : (u v : BankPlaces) (k : ℕ) → k ≢ 0 → head_read u v k ≡ u k
head_rest u v zero ne = absurd (ne refl)
head_rest u v (suc k) ne = refl

module _ (n generation done : ℕ) (scratch : CellList) (u v w : BankPlaces) (sized : length scratch ≡ n) (below : done < n) (taken : ReadsCopy generation done scratch u v)
    (rest : (k : ℕ) → k ≢ suc done → w k ≡ v k) where
  no_log : TakesNoCopy n (places_behind (head_read u v)) (places_behind w) → ReadsLog n None scratch u w
  no_log t = no_copy n u (head_read u v) w generation taken.0 (head_rest u v) (rest 0 (λ e. absurd (omega arith))) scratch t

  pub copy_breaks : (answer : Answer) → Looks (v (suc done)) (line_in answer) (w (suc done)) → ((payload : List ℕ) → answer ≢ Whole (Entry done payload)) → ReadsLog n None scratch u w
  copy_breaks (Whole line) looks odd = no_log (copy_odd n done (head_read u v) v w scratch sized below taken.1 (suc done) refl rest line looks (λ payload e. odd payload (ap (λ z. Whole z) e)))
  copy_breaks Blank looks odd = no_log (copy_ends n done (head_read u v) v w scratch sized below taken.1 (suc done) refl rest looks)
  copy_breaks Nothing looks odd = no_log (copy_ends n done (head_read u v) v w scratch sized below taken.1 (suc done) refl rest looks)

-- ---- the puts

pub puts_grow : (n generation place : ℕ) (scratch now : CellList) (line : FlashLine) (u v w : BankPlaces) → ReadsPuts n generation place scratch u v
    → Looks (v place) (Some line) (w place) → ((k : ℕ) → k ≢ place → w k ≡ v k) → now ≡ after_lines (line ∷ []) scratch
    → ReadsPuts n generation (suc place) now u w
puts_grow n generation place scratch now line u v w r looks rest is = record {
  first = r.first;
  count = r.count;
  puts = r.puts ++ line ∷ [];
  taken = subst (λ (ls : List FlashLine). Taken u w (Head generation ∷ ls)) (append_assoc (copy_lines 0 r.first) r.puts (line ∷ []))
      (taken_snoc u v w (Head generation ∷ (copy_lines 0 r.first ++ r.puts)) place line
      (omega (arith, r.place_is, r.count, length-append (copy_lines 0 r.first) r.puts, length-copy 0 r.first)) r.taken looks rest);
  place_is = omega (arith, r.place_is, length-append r.puts (line ∷ []));
  made = is ∙ (ap (λ (z : CellList). after_lines (line ∷ []) z) r.made ∙ sym (after-append r.puts (line ∷ []) r.first));
}

pub puts_same : (n generation place : ℕ) (scratch : CellList) (u v w : BankPlaces) → ((k : ℕ) → w k ≡ v k) → ReadsPuts n generation place scratch u v
    → ReadsPuts n generation place scratch u w
puts_same n generation place scratch u v w same r = record {
  first = r.first;
  count = r.count;
  puts = r.puts;
  taken = taken_same u v w (Head generation ∷ (copy_lines 0 r.first ++ r.puts)) same r.taken;
  place_is = r.place_is;
  made = r.made;
}

module _ (n generation place : ℕ) (scratch : CellList) (u v : BankPlaces) (r : ReadsPuts n generation place scratch u v) where
  abbrev lines : List FlashLine
  lines = copy_lines 0 r.first ++ r.puts

  place_of : place ≡ suc (length lines)
  place_of = omega (arith, r.place_is, r.count, length-append (copy_lines 0 r.first) r.puts, length-copy 0 r.first)

  pub puts_beyond : (k : ℕ) → place ≤ k → v k ≡ u k
  puts_beyond k far = taken_rest u v (Head generation ∷ lines) r.taken k (let e = place_of in omega (arith, e, far))

  pub puts_ended : Ends (v place) → (free : Bool) → ReadsLog n (Some (record { generation = generation; next = place; is_free = free })) scratch u v
  puts_ended ends free =
      let there : Ends (u (suc (length lines))) = subst (λ k. Ends (u k)) place_of (subst (λ (p : FlashPlace). Ends p) (puts_beyond place (omega arith)) ends) in
      let none : answer_of (u (suc (length lines))) ≡ None = ends_answer (u (suc (length lines))) there in
      record {
        read = told (Head generation ∷ lines) (λ j. answer_of (u j));
        looks = taken_looks u v (Head generation ∷ lines) r.taken;
        is_log = λ log e. subst (λ (z : LogEnd). IsLog n (told (Head generation ∷ lines) (λ j. answer_of (u j))) z.generation scratch z.next) (same_Some _ _ e) (record {
          first = r.first;
          count = r.count;
          puts = r.puts;
          head = refl;
          lines = spells_shift (told (Head generation ∷ lines) (λ j. answer_of (u j))) 0 lines (told_spells lines (λ j. answer_of (u (suc j))) none);
          now = r.made;
          ends = (let e = place_of in omega (arith, e));
        });
        no_log = λ e now left end l. absurd (cc);
      }

-- ---- behind the log

-- nothing changed
log_same : (n : ℕ) (log : Option LogEnd) (scratch : CellList) (u v w : BankPlaces) → ((k : ℕ) → w k ≡ v k) → ReadsLog n log scratch u v → ReadsLog n log scratch u w
log_same n log scratch u v w same r = record {
  read = r.read;
  looks = λ k. subst (λ (q : FlashPlace). Looks (u k) (r.read k) q) (sym (same k)) (r.looks k);
  is_log = r.is_log;
  no_log = r.no_log;
}

-- whether it is free says nothing of the log
pub log_flagged : (n generation next : ℕ) (free told_free : Bool) (scratch : CellList) (u v : BankPlaces)
    → ReadsLog n (Some (record { generation = generation; next = next; is_free = free })) scratch u v
    → ReadsLog n (Some (record { generation = generation; next = next; is_free = told_free })) scratch u v
log_flagged n generation next free told_free scratch u v r = record {
  read = r.read;
  looks = r.looks;
  is_log = λ log e. subst (λ (z : LogEnd). IsLog n r.read z.generation scratch z.next) (same_Some _ _ e) (r.is_log _ refl);
  no_log = λ e now left end l. absurd (cc);
}

module _ (n generation bank place : ℕ) (scratch : CellList) (u : BankPlaces) (answer : Answer) (f g : Flash) (d : LooksAt bank place answer f g) where
  module _ (next : ℕ) (r : ReadsFree n generation next place scratch u (f bank)) where
    -- the place isn't read as blank
    pub free_breaks : ReadsBank n (Some (record { generation = generation; next = next; is_free = false })) scratch u (g bank)
    free_breaks = record {
      log = log_flagged n generation next true false scratch u (g bank)
          (reads_more n (record { generation = generation; next = next; is_free = true }) scratch u (f bank) (g bank) r.log r.beyond
          (one_look bank place answer f f g (λ x k. refl) d)
          (look_before bank place answer f f g (λ x k. refl) d next (omega (arith, r.ahead)) (r.blank next (omega arith) r.ahead)));
      free = λ e. absurd (cc);
    }

    -- it is
    pub free_grows : answer ≡ Blank → ReadsFree n generation next (suc place) scratch u (g bank)
    free_grows is =
        let none : line_in answer ≡ None = ap (λ (a : Answer). line_in a) is in
        let same = look_same bank place answer f f g (λ x k. refl) d none in
        record {
          log = log_same n (Some (record { generation = generation; next = next; is_free = true })) scratch u (f bank) (g bank) (same bank) r.log;
          beyond = λ k far. same bank k ∙ r.beyond k far;
          ahead = omega (arith, r.ahead);
          blank = λ k from below. same bank k ∙ (elim (cases_lt k place) [
            | inl less ↦ r.blank k from less
            | inr here ↦ subst (λ j. f bank j ≡ blank_place) (let e : place ≡ k = omega (arith, here, below) in e) (d.is_blank is)
          ]);
        }

  module _ (r : ReadsPuts n generation place scratch u (f bank)) where
    -- the puts end here, and the place is blank for sure
    pub free_begins : answer ≡ Blank → ReadsFree n generation place (suc place) scratch u (g bank)
    free_begins is =
        let none : line_in answer ≡ None = ap (λ (a : Answer). line_in a) is in
        let same = look_same bank place answer f f g (λ x k. refl) d none in
        let r' = puts_same n generation place scratch u (f bank) (g bank) (same bank) r in
        let here : g bank place ≡ blank_place = same bank place ∙ d.is_blank is in
        record {
          log = puts_ended n generation place scratch u (g bank) r' (inl here) true;
          beyond = puts_beyond n generation place scratch u (g bank) r';
          ahead = omega arith;
          blank = λ k from below. subst (λ j. g bank j ≡ blank_place) (let e : place ≡ k = omega (arith, from, below) in e) here;
        }

    -- the puts end here, and the place need not be blank
    pub puts_break : answer ≡ Nothing → ReadsBank n (Some (record { generation = generation; next = place; is_free = false })) scratch u (g bank)
    puts_break is =
        let none : line_in answer ≡ None = ap (λ (a : Answer). line_in a) is in
        let same = look_same bank place answer f f g (λ x k. refl) d none in
        let r' = puts_same n generation place scratch u (f bank) (g bank) (same bank) r in
        let ends = (ends_of (f bank place) (g bank place) (subst (λ (a : Option FlashLine). Looks (f bank place) a (g bank place)) none d.looks)).0 in
        record {
          log = puts_ended n generation place scratch u (g bank) r' (subst (λ (p : FlashPlace). Ends p) (sym (same bank place)) ends) false;
          free = λ e. absurd (cc);
        }

-- the puts end with the bank
pub puts_fill : (n generation place places bank : ℕ) (scratch : CellList) (u : BankPlaces) (g : Flash) → BlankBehind places g → places ≤ place
    → ReadsPuts n generation place scratch u (g bank)
    → ReadsBank n (Some (record { generation = generation; next = place; is_free = true })) scratch u (g bank)
puts_fill n generation place places bank scratch u g behind full r = record {
  log = puts_ended n generation place scratch u (g bank) r (inl (behind bank place full)) true;
  free = λ e k from. behind bank k (omega (arith, from, full));
}

-- all from the log's end to that of the bank is blank
pub free_fills : (n generation next place places bank : ℕ) (scratch : CellList) (u : BankPlaces) (g : Flash) → BlankBehind places g → places ≤ place
    → ReadsFree n generation next place scratch u (g bank)
    → ReadsBank n (Some (record { generation = generation; next = next; is_free = true })) scratch u (g bank)
free_fills n generation next place places bank scratch u g behind full r = record {
  log = r.log;
  free = λ e k from. elim (cases_lt k place) [
    | inl below ↦ r.blank k from below
    | inr far ↦ behind bank k (omega (arith, far, full))
  ];
}

-- ---- the steps of a bank

pub within_map : (n bank : ℕ) (first f : Flash) (best : Best) (latest : List ℕ) (cells : CellList) (R S : BankPlaces → BankPlaces → Type 0)
    → (w : WithinBank n bank first f best latest cells R) → S (w.before bank) (f bank) → WithinBank n bank first f best latest cells S
within_map n bank first f best latest cells R S w s = record {
  before = w.before;
  scanned = w.scanned;
  free = w.free;
  others = w.others;
  heads = w.heads;
  reads = s;
}

module _ (n bank : ℕ) (first f g : Flash) (best : Best) (latest later : List ℕ) (cells scratch : CellList) (answer : Answer) (d : LooksAt bank 0 answer f g)
    (b : BeforeBank n bank first f best latest cells) (here : get_or later bank 0 ≡ latest_head answer) (rest : (x : ℕ) → x ≢ bank → get_or later x 0 ≡ get_or latest x 0) where
  heads_now : NoLaterHeads g (suc bank) later
  heads_now = heads_more NoLaterHead f g bank latest later (latest_head answer) (suc bank) refl d.same.others b.heads (head_noted answer bank f g d) here rest

  pub head_is : (generation : ℕ) → generation_in answer ≡ Some generation → WithinBank n bank first g best later cells (ReadsCopy generation 0 scratch)
  head_is generation is = within_first n bank first f g best latest cells 0 answer d later (ReadsCopy generation 0 scratch) refl b heads_now
      (copy_begins generation scratch (f bank) (g bank) (head_looks answer generation (f bank 0) (g bank 0) is d.looks) d.same.rest)

  -- its head is older than the best
  pub head_is_past : (generation : ℕ) → generation_in answer ≡ Some generation → is_past best generation ≡ true → BeforeBank n (suc bank) first g best later cells
  head_is_past generation is past = record {
    scanned = scanned_past n bank first f g best cells scratch b.scanned d.same.others generation (past_of best generation past)
        (head_looks answer generation (f bank 0) (g bank 0) is d.looks) (one_look bank 0 answer f f g (λ x k. refl) d);
    free = free_same n bank b.scanned.read f g cells d.same.others best b.scanned.is b.free;
    heads = heads_now;
  }

  pub head_is_none : generation_in answer ≡ None → WithinBank n bank first g best later cells (ReadsBank n None scratch)
  head_is_none is = within_first n bank first f g best latest cells 0 answer d later (ReadsBank n None scratch) refl b heads_now
      (record { log = no_head answer n (f bank) (g bank) scratch is d.looks d.same.rest; free = tt })

module _ (n bank generation done : ℕ) (first f g : Flash) (best : Best) (latest : List ℕ) (cells scratch : CellList) (answer : Answer) (d : LooksAt bank (suc done) answer f g)
    (sized : length scratch ≡ n) (below : done < n) (w : WithinBank n bank first f best latest cells (ReadsCopy generation done scratch)) where
  pub cell_is_none : ((payload : List ℕ) → answer ≢ Whole (Entry done payload)) → WithinBank n bank first g best latest cells (ReadsBank n None scratch)
  cell_is_none odd = within_more n bank first f g best latest cells (suc done) answer d (ReadsCopy generation done scratch) (ReadsBank n None scratch) (λ e. absurd (omega arith)) w
      (record { log = copy_breaks n generation done scratch (w.before bank) (f bank) (g bank) sized below w.reads d.same.rest answer d.looks odd; free = tt })

  pub cell_is : (payload : List ℕ) → answer ≡ Whole (Entry done payload) → WithinBank n bank first g best latest cells (ReadsCopy generation (suc done) (set scratch done payload))
  cell_is payload is = within_more n bank first f g best latest cells (suc done) answer d (ReadsCopy generation done scratch) (ReadsCopy generation (suc done) (set scratch done payload))
      (λ e. absurd (omega arith)) w
      (copy_grows generation done scratch payload (w.before bank) (f bank) (g bank) (omega arith) w.reads
      (subst (λ (a : Answer). Looks (f bank (suc done)) (line_in a) (g bank (suc done))) is d.looks) d.same.rest)

module _ (n bank generation place : ℕ) (first f g : Flash) (best : Best) (latest : List ℕ) (cells scratch : CellList) (answer : Answer) (d : LooksAt bank place answer f g) where
  module _ (w : WithinBank n bank first f best latest cells (ReadsPuts n generation place scratch)) where
    later_place : place ≢ 0
    later_place e = absurd (omega (arith, e, w.reads.place_is))

    pub put_is : (line : FlashLine) (now : CellList) → answer ≡ Whole line → now ≡ after_lines (line ∷ []) scratch
        → WithinBank n bank first g best latest cells (ReadsPuts n generation (suc place) now)
    put_is line now is made = within_more n bank first f g best latest cells place answer d (ReadsPuts n generation place scratch) (ReadsPuts n generation (suc place) now) later_place w
        (puts_grow n generation place scratch now line (w.before bank) (f bank) (g bank) w.reads
        (subst (λ (a : Answer). Looks (f bank place) (line_in a) (g bank place)) is d.looks) d.same.rest made)

    pub put_is_blank : answer ≡ Blank → WithinBank n bank first g best latest cells (ReadsFree n generation place (suc place) scratch)
    put_is_blank is = within_more n bank first f g best latest cells place answer d (ReadsPuts n generation place scratch) (ReadsFree n generation place (suc place) scratch) later_place w
        (free_begins n generation bank place scratch (w.before bank) answer f g d w.reads is)

    pub put_is_nothing : answer ≡ Nothing
        → WithinBank n bank first g best latest cells (ReadsBank n (Some (record { generation = generation; next = place; is_free = false })) scratch)
    put_is_nothing is = within_more n bank first f g best latest cells place answer d (ReadsPuts n generation place scratch)
        (ReadsBank n (Some (record { generation = generation; next = place; is_free = false })) scratch) later_place w
        (puts_break n generation bank place scratch (w.before bank) answer f g d w.reads is)

  module _ (next : ℕ) (w : WithinBank n bank first f best latest cells (ReadsFree n generation next place scratch)) where
    pub free_is_blank : answer ≡ Blank → WithinBank n bank first g best latest cells (ReadsFree n generation next (suc place) scratch)
    free_is_blank is = within_more n bank first f g best latest cells place answer d (ReadsFree n generation next place scratch) (ReadsFree n generation next (suc place) scratch)
        (λ e. absurd (omega (arith, e, w.reads.ahead))) w (free_grows n generation bank place scratch (w.before bank) answer f g d next w.reads is)

    pub free_is_none : WithinBank n bank first g best latest cells (ReadsBank n (Some (record { generation = generation; next = next; is_free = false })) scratch)
    free_is_none = within_more n bank first f g best latest cells place answer d (ReadsFree n generation next place scratch)
        (ReadsBank n (Some (record { generation = generation; next = next; is_free = false })) scratch)
        (λ e. absurd (omega (arith, e, w.reads.ahead))) w (free_breaks n generation bank place scratch (w.before bank) answer f g d next w.reads)
