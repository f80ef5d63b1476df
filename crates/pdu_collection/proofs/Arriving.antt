-- An arrival that is given to a joiner.
use Rattle.std.proofs.Common.{◌≡◌, ℕ, List, [], ◌∷◌, ◌++◌, length, refl, sym, ap, ◌∙◌, subst, ⊎_elim}
use Rattle.std.specs.Prelude.{Option, None, Some, IsNone, IfSome}
use Rattle.pdu_collection.specs.Collection.{Place}
use Rattle.pdu_collection.specs.Joining.{Kind, authentic, cryptographic, other_kind, Arrival, link_in, link, arrival_at, partner_at, IsLatestOfKind, IsSingle, Joining}
use Rattle.pdu_collection.specs.Joined.{IsPduAt, NextJoins, JoinerState, waiting, Waits, Given, IsToldOf, Arrives}
use Rattle.pdu_collection.proofs.NextJoined.{kinds, one_latest, partner_new, joins, joins_none, waits_new, waits_old}

-- the link of an arrival whose kind and PDU are known
link_of_known : (place : Place) (a : Arrival) (kind : Kind) (pdu : List ℕ) → a.kind ≡ kind → pdu ≡ a.pdu → link place a ≡ link_in place kind pdu
link_of_known place a kind pdu k p = ap (λ x. link_in place x a.pdu) k ∙ ap (link_in place kind) (sym p)

-- nothing waits after a join
abbrev pub ended : JoinerState → JoinerState
ended state = record { place = state.place; payload = None; pdu = None }

none_waits : (place : Place) (kind : Kind) → waiting (record { place = place; payload = None; pdu = None }) kind ≡ None
none_waits place authentic = refl
none_waits place cryptographic = refl

module _ (state : JoinerState) (kind : Kind) (pdu : List ℕ) where
  abbrev next : Arrival
  next = record { kind = kind; pdu = pdu }

  joins_given : (new : JoinerState) (w : List ℕ) (arrivals : List Arrival) → new ≡ record { place = state.place; payload = None; pdu = None }
      → waiting state (other_kind kind) ≡ Some w → link_in state.place (other_kind kind) w ≡ link_in state.place kind pdu
      → Given state arrivals → NextJoins state.place arrivals next (Some w) × Given new (arrivals ++ next ∷ [])
  joins_given new w arrivals new_is waits same g =
      let (j, latest, single, is) = subst (Waits arrivals g.partners (other_kind kind)) waits (g.waits (other_kind kind)) in
      let same_link : link state.place (arrival_at arrivals j) ≡ link state.place next =
      link_of_known state.place (arrival_at arrivals j) (other_kind kind) w latest.kind_is is ∙ same in
      let more = joins state.place arrivals next g.partners j g.joining latest single same_link in
      let at_end : partner_at (g.partners ++ Some j ∷ []) (length arrivals) ≡ Some j = partner_new g.partners (Some j) (length arrivals) g.joining.as_many in (
        record { partners = g.partners ++ Some j ∷ []; joining = more.0; pdu_is = subst (λ p. IsPduAt arrivals p (Some w)) (sym at_end) is },
        subst (λ s. Given s (arrivals ++ next ∷ [])) (sym new_is) (record {
          partners = g.partners ++ Some j ∷ [];
          joining = more.0;
          waits = λ k. subst (Waits (arrivals ++ next ∷ []) (g.partners ++ Some j ∷ []) k) (sym (none_waits state.place k)) (more.1 k);
        }),
      )

  -- it joins the PDU that waits
  pub Arrives-joins : (new : JoinerState) (w before after : List ℕ) (size : ℕ) → new ≡ record { place = state.place; payload = None; pdu = None }
      → waiting state (other_kind kind) ≡ Some w → link_in state.place (other_kind kind) w ≡ link_in state.place kind pdu
      → IsToldOf next (Some w) before after (Some size) → Arrives state new next before after (Some size)
  Arrives-joins new w before after size new_is waits same tells = record {
    place_is = ap (λ (s : JoinerState). s.place) new_is;
    joined = Some w;
    given = λ arrivals. joins_given new w arrivals new_is waits same;
    tells = tells;
  }

  -- nothing that waits is a partner, so it joins none
  no_partner : (arrivals : List Arrival) (partners : List (Option ℕ)) (w : Option (List ℕ)) → Waits arrivals partners (other_kind kind) w
      → ((x : List ℕ) → w ≡ Some x → link_in state.place (other_kind kind) x ≡ link_in state.place kind pdu → ⊥)
      → (j : ℕ) → IsLatestOfKind arrivals (other_kind kind) (length arrivals) j → IsSingle partners (length arrivals) j
      → link state.place (arrival_at arrivals j) ≡ link state.place next → ⊥
  no_partner arrivals partners None waits differ j latest single same = waits j latest single
  no_partner arrivals partners (Some x) (i, latest_i, single_i, is) differ j latest single same =
      let here : i ≡ j = one_latest arrivals (other_kind kind) (length arrivals) i j latest_i latest in
      differ x refl (sym (link_of_known state.place (arrival_at arrivals j) (other_kind kind) x latest.kind_is (is ∙ ap (λ n. (arrival_at arrivals n).pdu) here)) ∙ same)

  waits_given : (new : JoinerState) (arrivals : List Arrival) → new.place ≡ state.place
      → waiting new kind ≡ Some pdu → waiting new (other_kind kind) ≡ waiting state (other_kind kind)
      → ((x : List ℕ) → waiting state (other_kind kind) ≡ Some x → link_in state.place (other_kind kind) x ≡ link_in state.place kind pdu → ⊥)
      → Given state arrivals → NextJoins state.place arrivals next None × Given new (arrivals ++ next ∷ [])
  waits_given new arrivals place_is mine theirs differ g =
      let none = no_partner arrivals g.partners (waiting state (other_kind kind)) (g.waits (other_kind kind)) differ in
      let more = joins_none state.place arrivals next g.partners g.joining none in
      let at_end : partner_at (g.partners ++ None ∷ []) (length arrivals) ≡ None = partner_new g.partners None (length arrivals) g.joining.as_many in (
        record { partners = g.partners ++ None ∷ []; joining = more; pdu_is = subst (λ p. IsPduAt arrivals p None) (sym at_end) tt },
        record {
          partners = g.partners ++ None ∷ [];
          joining = subst (λ p. Joining p (arrivals ++ next ∷ []) (g.partners ++ None ∷ [])) (sym place_is) more;
          waits = λ k. ⊎_elim
              (λ (e : k ≡ kind). subst (λ a. Waits (arrivals ++ next ∷ []) (g.partners ++ None ∷ []) a (waiting new a)) (sym e)
              (subst (Waits (arrivals ++ next ∷ []) (g.partners ++ None ∷ []) kind) (sym mine) (waits_new state.place arrivals next g.partners g.joining)))
              (λ (e : k ≡ other_kind kind). subst (λ a. Waits (arrivals ++ next ∷ []) (g.partners ++ None ∷ []) a (waiting new a)) (sym e)
              (subst (Waits (arrivals ++ next ∷ []) (g.partners ++ None ∷ []) (other_kind kind)) (sym theirs)
              (waits_old state.place arrivals next g.partners g.joining (waiting state (other_kind kind)) (g.waits (other_kind kind)))))
              (kinds k kind);
        },
      )

  -- it waits itself
  pub Arrives-waits : (new : JoinerState) (before : List ℕ) → new.place ≡ state.place
      → waiting new kind ≡ Some pdu → waiting new (other_kind kind) ≡ waiting state (other_kind kind)
      → ((x : List ℕ) → waiting state (other_kind kind) ≡ Some x → link_in state.place (other_kind kind) x ≡ link_in state.place kind pdu → ⊥)
      → Arrives state new next before before None
  Arrives-waits new before place_is mine theirs differ = record {
    place_is = place_is;
    joined = None;
    given = λ arrivals. waits_given new arrivals place_is mine theirs differ;
    tells = refl;
  }

-- a PDU that isn't too long is kept
pub kept : (o : Option (List ℕ)) (x : List ℕ) → (IsNone o → ⊥) → IfSome o (λ p. p ≡ x) → o ≡ Some x
kept None x some is = absurd (some refl)
kept (Some p) x some is = ap (λ y. Some y) is
