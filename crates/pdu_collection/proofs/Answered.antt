-- The answers of lines, one after the other, go on by the answer of one more line.
use Rattle.std.proofs.Common.{◌≡◌, ℕ, zero, suc, arith, ◌<◌, ◌+◌, List, [], ◌∷◌, ◌++◌, length, take, map, get_or, refl, sym, ap, ◌∙◌, subst, append-nil, append_assoc}
use Rattle.std.proofs.lemmas.List.{take_more, map-append}
use Rattle.std.specs.List.{flat_map}
use Rattle.secoc_words.specs.Counting.{next_counter, last_accepted}
use Rattle.secoc_words.proofs.CallerLemmas.{last_accepted-more}
use Rattle.pdu_collection.specs.declared.answering.Receiver.{Receiver}
use Rattle.pdu_collection.specs.declared.pair_lines.Head.{Head}
use Rattle.pdu_collection.specs.declared.pair_lines.Entry.{Entry}
use Rattle.pdu_collection.specs.declared.pair_lines.PairLine.{PairLine}
use Rattle.pdu_collection.specs.declared.pair_lines.PairLine.TheVariants as line
use Rattle.pdu_collection.specs.Joined.{Given}
use Rattle.pdu_collection.specs.Answering.{Said, said_text, arrival_of, said_accepts, counter_behind_lines, Says, none, more}
use Rattle.pdu_collection.specs.Receiving.{Answers, Answered}

flat_more : {X A : Type 0} (f : X → List A) (xs : List X) (x : X) → flat_map f (xs ++ x ∷ []) ≡ flat_map f xs ++ f x
flat_more f [] x = append-nil (f x)
flat_more f (y ∷ xs) x = ap (λ l. f y ++ l) (flat_more f xs x) ∙ sym (append_assoc (f y) (flat_map f xs) (f x))

-- the last of what was said is the last that the counter is taken from
counter_more : (head : Head) (said : List Said) (s : Said)
    → counter_behind_lines head (said ++ s ∷ []) ≡ next_counter 0 (counter_behind_lines head said) (said_accepts s)
counter_more head said s =
    ap (last_accepted 0 head.counter) (map-append said_accepts said (s ∷ []))
    ∙ last_accepted-more 0 head.counter (map said_accepts said) (said_accepts s)

-- one more entry is answered
pub Answered-more : (head : Head) (entries : List Entry) (old new : Receiver) (entry : Entry) (before after : List ℕ)
    → Answered head entries old before → Answers head old new entry before after → Answered head (entries ++ entry ∷ []) new after
Answered-more head entries old new entry before after done (s, after_is, place_is, counter_is, given) =
    let both = given done.arrivals done.given in
    let says : Says head done.arrivals (counter_behind_lines head done.said) entry s =
    subst (λ c. Says head done.arrivals c entry s) done.counter_is both.0 in
    record {
      arrivals = done.arrivals ++ arrival_of entry s;
      said = done.said ++ s ∷ [];
      says = more entries done.arrivals done.said entry s done.says says;
      text_is = after_is ∙ ap (λ t. t ++ said_text s) done.text_is ∙ sym (flat_more said_text done.said s);
      place_is = place_is ∙ done.place_is;
      counter_is = counter_is ∙ ap (λ c. next_counter 0 c (said_accepts s)) done.counter_is ∙ sym (counter_more head done.said s);
      given = both.1;
    }

-- before the first line
pub Answered-none : (head : Head) (receiver : Receiver) → receiver.joiner.place ≡ head.place → receiver.counter ≡ head.counter
    → Given receiver.joiner [] → Answered head [] receiver []
Answered-none head receiver place_is counter_is given = record {
  arrivals = [];
  said = [];
  says = none;
  text_is = refl;
  place_is = place_is;
  counter_is = counter_is;
  given = given;
}

-- the entries of one more line
pub entries-more : (lines : List PairLine) (i : ℕ) (l : PairLine) (entries : List Entry) (entry : Entry) → i < length lines → l ≡ get_or lines i l
    → take i lines ≡ map line.Entry entries → l ≡ line.Entry entry → take (i + 1) lines ≡ map line.Entry (entries ++ entry ∷ [])
entries-more lines i l entries entry within is so_far entry_is =
    take_more lines i l within ∙ ap (λ x. take i lines ++ x ∷ []) (sym is ∙ entry_is) ∙ ap (λ ls. ls ++ line.Entry entry ∷ []) so_far
    ∙ sym (map-append line.Entry entries (entry ∷ []))

-- no entry is a head
is_head : PairLine → Type 0
is_head (line.Head head) = Unit {0}
is_head (line.Entry entry) = ⊥

no_head_at : (entries : List Entry) (i : ℕ) (d : PairLine) → i < length (map line.Entry entries) → is_head (get_or (map line.Entry entries) i d) → ⊥
unfolding is_head
no_head_at [] i d within h = absurd (omega (arith, within))
no_head_at (entry ∷ entries) zero d within h = h
no_head_at (entry ∷ entries) (suc i) d within h = no_head_at entries i d (omega (arith, within)) h

pub no_head : (lines : List PairLine) (i : ℕ) (l : PairLine) (entries : List Entry) (head : Head) → i < length lines → l ≡ get_or lines i l
    → lines ≡ map line.Entry entries → l ≡ line.Head head → ⊥
unfolding is_head
no_head lines i l entries head within is all head_is =
    no_head_at entries i l (subst (λ ls. i < length ls) all within)
    (subst is_head (sym head_is ∙ is ∙ ap (λ ls. get_or ls i l) all) tt)
