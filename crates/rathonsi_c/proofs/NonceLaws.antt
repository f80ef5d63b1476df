-- What a nonce is made of.
use Rattle.std.proofs.Common.{◌≡◌, ◌≢◌, ℕ, ◌+◌, ◌^◌, ◌<◌, ◌⊎◌, inl, inr, List, ◌∷◌, ◌++◌, length, codes, get_or, refl, sym, ap, ◌∙◌, arith}
use Rattle.std.proofs.lemmas.List.{append_cancel_left, length-append}
use Rattle.basics.specs.Numbers.{bytes_of}
use Rattle.basics.proofs.CallerLemmas.{length-bytes_of, same_number}
use Rattle.she_cmac.specs.Cmac.{cmac}
use Rattle.counter_answers.specs.Answering.{SharesMac}
use Rattle.secured_pdu.proofs.CallerLemmas.{parts_same}
use Rattle.rathonsi_c.specs.declared.route.RathonsiRoute.{RathonsiRoute}
use Rattle.rathonsi_c.specs.Nonces.{MakesNonce, nonce_input}

abbrev nonce_label : List ℕ
nonce_label = codes "RATHONSI NONCE OF THIS UNIT: A COUNT THAT IS DURABLE BEFORE IT IS."

length-front : (id : ℕ) → length (nonce_label ++ bytes_of 2 id) ≡ 68
length-front id = (let l : length nonce_label ≡ 66 = refl in omega (arith, l, length-append nonce_label (bytes_of 2 id), length-bytes_of 2 id))

length-named : (id asker : ℕ) → length (nonce_label ++ bytes_of 2 id ++ bytes_of 4 asker) ≡ 72
length-named id asker = omega (arith, length-front id, length-append (nonce_label ++ bytes_of 2 id) (bytes_of 4 asker), length-bytes_of 4 asker)

pub length-nonce_input : (id asker count : ℕ) → length (nonce_input id asker count) ≡ 80
unfolding nonce_input
length-nonce_input id asker count = omega (arith, length-named id asker, length-append (nonce_label ++ bytes_of 2 id ++ bytes_of 4 asker) (bytes_of 8 count), length-bytes_of 8 count)

-- the label begins with an R, which is 82
nonce_begins : (id asker count : ℕ) → get_or (nonce_input id asker count) 0 0 ≡ 82
unfolding nonce_input
nonce_begins id asker count = refl

pub no_boot_input : (id asker count : ℕ) (rest : List ℕ) → nonce_input id asker count ≢ 0 ∷ rest
no_boot_input id asker count rest e = absurd (omega (arith, nonce_begins id asker count, ap (λ (l : List ℕ). get_or l 0 0) e))

-- a nonce's input is of one Data ID, one name and one count
record SameNonce (id other asker named count last : ℕ) : Type 0 where
  ids : id ≡ other
  names : asker ≡ named
  counts : count ≡ last

same_from_nonce_input : (id other asker named count last : ℕ) → id < 2 ^ 16 → other < 2 ^ 16 → asker < 2 ^ 32 → named < 2 ^ 32 → count < 2 ^ 64 → last < 2 ^ 64 → nonce_input id asker count ≡ nonce_input other named last
    → SameNonce id other asker named count last
unfolding nonce_input
same_from_nonce_input id other asker named count last w x u v y z e =
    let ends = parts_same (nonce_label ++ bytes_of 2 id ++ bytes_of 4 asker) (nonce_label ++ bytes_of 2 other ++ bytes_of 4 named) (bytes_of 8 count) (bytes_of 8 last) (length-named id asker ∙ sym (length-named other named)) e in
    let names = parts_same (nonce_label ++ bytes_of 2 id) (nonce_label ++ bytes_of 2 other) (bytes_of 4 asker) (bytes_of 4 named) (length-front id ∙ sym (length-front other)) ends.0 in
    let ids = append_cancel_left nonce_label (bytes_of 2 id) (bytes_of 2 other) names.0 in
    record { ids = same_number 2 id other w x ids; names = same_number 4 asker named u v names.1; counts = same_number 8 count last y z ends.1 }

pub nonces_apart : (r s : RathonsiRoute) (image later nonce : List ℕ) (asker other : ℕ) (m : MakesNonce r image asker nonce) (l : MakesNonce s later other nonce) → m.key ≡ l.key → r.data_id < 2 ^ 16 → s.data_id < 2 ^ 16 → asker < 2 ^ 32 → other < 2 ^ 32
    → r.counter + 1 < 2 ^ 64 → s.counter + 1 < 2 ^ 64 → (r.data_id ≢ s.data_id) ⊎ ((asker ≢ other) ⊎ (r.counter ≢ s.counter))
    → SharesMac m.key (nonce_input r.data_id asker (r.counter + 1)) (nonce_input s.data_id other (s.counter + 1))
nonces_apart r s image later nonce asker other m l e w x u v y z apart = record {
  other = λ same.
      let parts = same_from_nonce_input r.data_id s.data_id asker other (r.counter + 1) (s.counter + 1) w x u v y z same in
      elim apart [
        | inl ids ↦ ids parts.ids
        | inr rest ↦ elim rest [
          | inl names ↦ names parts.names
          | inr counts ↦ counts (let c = parts.counts in omega arith)
        ]
      ];
  same = sym m.nonce_is ∙ (l.nonce_is ∙ ap (λ (k : List ℕ). cmac k (nonce_input s.data_id other (s.counter + 1))) (sym e));
}
