-- What is read is an event that a script can have.
use Rattle.std.proofs.Common.{◌≡◌, ℕ, suc, ◌<◌, ◌≤◌, Bool, cond, List, [], ◌∷◌, length, get_or, All, Option, None, Some, Result, Ok, Err, refl, sym, ap, ◌∙◌, subst, inl, inr, zero, arith}
use Rattle.std.specs.Prelude.{◌==◌, Vec, IfOk, find}
use Rattle.std.specs.Result.{result_unwrap_or}
use Rattle.std.specs.Option.{ok_or}
use Rattle.std.specs.Str.{bytes_eq}
use Rattle.std.specs.declared.alloc.Global.{Global}
use Rattle.std.proofs.lemmas.Bool.{cases_Bool}
use Rattle.std.proofs.lemmas.List.Elements.{All-nil}
use Rattle.std.proofs.lemmas.Option.{same_Some}
use Rattle.text_lines.specs.declared.fault.Cause.{Cause}
use Rattle.text_lines.specs.declared.fault.Cause.TheVariants as cause
use Rattle.text_lines.specs.declared.fault.ScriptFault.{ScriptFault}
use Rattle.memory_update.specs.Identifier.{IsUid}
use Rattle.secoc_words.specs.DiskForms.{torn_form, calls_form}
use Rattle.secoc_words.specs.Forms.{key_form, two_form, data_id_form}
use Rattle.text_lines.specs.Forms.{bytes_form}
use Rattle.text_lines.specs.Readings.{most_lines, nth_word, field, Gives}
use Rattle.secoc_words.specs.KeyForms.{slot_form, counter_form, flags_form}
use Rattle.text_lines.specs.Lines.{lines_of}
use Rattle.text_lines.proofs.CallerLemmas.{number_in_range, bind_ok, field_ok, counted_ok, All-read_from, values_given}
use Rattle.bus_config.specs.declared.node_lines.NodeLine.{NodeLine}
use Rattle.bus_config.specs.Buses.{IsNodeLine, place_named}
use Rattle.bus_config.proofs.CallerLemmas.{named_there}
use Rattle.bus_machine.specs.declared.events.Event.{Event}
use Rattle.bus_machine.specs.declared.events.Event.TheVariants as event
use Rattle.bus_script.specs.declared.kinds.EventKind.{EventKind}
use Rattle.bus_script.specs.declared.kinds.EventKind.TheVariants.{Send, Deliver, Inject, Load, Key, Boot, Cut, Stop, Fail}
use Rattle.bus_script.specs.Canon.{event_kind}
use Rattle.bus_script.specs.EventKinds.{kind_name, kind_of, kind_words, own_kinds, IsOwnKind}
use Rattle.bus_script.specs.EventForms.{no_node, uid_at, event_uid_form, event_form, image_form, send_of, deliver_of, inject_of, load_event_of, key_event_of, boot_of, cut_of, stop_of, fail_of, fields_of, event_among, events_among, own_events_of}
use Rattle.bus_script.specs.ScriptEvents.{IsOwn, IsScriptEvent}
use Rattle.bus_script.proofs.FormValues.{key_form-value, two_form-value, data_id_form-value, bytes_form-value, hex_bytes_form-value, event_uid_form-value, torn_form-value}

-- a node that is found is there
there : (nodes : List NodeLine) (name : List ℕ) (place : ℕ) → field 2 (place_named nodes name) ≡ Ok place → place < length nodes
there nodes name place h = (named_there nodes name place no_node (field_ok 2 (place_named nodes name) place h)).0

-- an event that a script can have, of this kind
abbrev IsEventOf : EventKind → List NodeLine → Event → Type 0
IsEventOf kind nodes e = (event_kind e ≡ kind) × IsScriptEvent nodes e

send_of-value : (nodes : List NodeLine) (words : List (List ℕ)) (e : Event) → send_of nodes words ≡ Ok e → IsEventOf Send nodes e
unfolding send_of
send_of-value nodes words e h =
    let node = bind_ok (field 2 (place_named nodes (nth_word words 2))) _ e h in
    let id = bind_ok (field 3 (data_id_form (nth_word words 3))) _ e node.2 in
    let payload = bind_ok (field 4 (bytes_form (nth_word words 4))) _ e id.2 in
    let same : event.Send node.0 id.0 payload.0 ≡ e = cc payload.2 in
    subst (IsEventOf Send nodes) same (
      refl,
      record {
        node = there nodes (nth_word words 2) node.0 node.1;
        fields = (
          data_id_form-value (nth_word words 3) id.0 (field_ok 3 (data_id_form (nth_word words 3)) id.0 id.1),
          bytes_form-value (nth_word words 4) payload.0 (field_ok 4 (bytes_form (nth_word words 4)) payload.0 payload.1),
        );
      },
    )

inject_of-value : (nodes : List NodeLine) (words : List (List ℕ)) (e : Event) → inject_of nodes words ≡ Ok e → IsEventOf Inject nodes e
unfolding inject_of
inject_of-value nodes words e h =
    let node = bind_ok (field 2 (place_named nodes (nth_word words 2))) _ e h in
    let id = bind_ok (field 3 (data_id_form (nth_word words 3))) _ e node.2 in
    let pdu = bind_ok (field 4 (bytes_form (nth_word words 4))) _ e id.2 in
    let same : event.Inject node.0 id.0 pdu.0 ≡ e = cc pdu.2 in
    subst (IsEventOf Inject nodes) same (
      refl,
      record {
        node = there nodes (nth_word words 2) node.0 node.1;
        fields = (
          data_id_form-value (nth_word words 3) id.0 (field_ok 3 (data_id_form (nth_word words 3)) id.0 id.1),
          bytes_form-value (nth_word words 4) pdu.0 (field_ok 4 (bytes_form (nth_word words 4)) pdu.0 pdu.1),
        );
      },
    )

deliver_of-value : (nodes : List NodeLine) (words : List (List ℕ)) (e : Event) → deliver_of nodes words ≡ Ok e → IsEventOf Deliver nodes e
unfolding deliver_of
deliver_of-value nodes words e h =
    let node = bind_ok (field 2 (place_named nodes (nth_word words 2))) _ e h in
    let number = bind_ok (field 3 (event_form (nth_word words 3))) _ e node.2 in
    let same : event.Deliver node.0 number.0 ≡ e = cc number.2 in
    subst (IsEventOf Deliver nodes) same (
      refl,
      record {
        node = there nodes (nth_word words 2) node.0 node.1;
        fields = number_in_range 1 65536 (nth_word words 3) number.0 (field_ok 3 (event_form (nth_word words 3)) number.0 number.1);
      },
    )

load_event_of-value : (nodes : List NodeLine) (words : List (List ℕ)) (e : Event) → load_event_of nodes words ≡ Ok e → IsEventOf Load nodes e
unfolding load_event_of
load_event_of-value nodes words e h =
    let node = bind_ok (field 2 (place_named nodes (nth_word words 2))) _ e h in
    let m1 = bind_ok (field 3 (key_form (nth_word words 3))) _ e node.2 in
    let m2 = bind_ok (field 4 (two_form (nth_word words 4))) _ e m1.2 in
    let m3 = bind_ok (field 5 (key_form (nth_word words 5))) _ e m2.2 in
    let same : event.Load node.0 (record { m1 = m1.0; m2 = m2.0; m3 = m3.0 }) ≡ e = cc m3.2 in
    let two = two_form-value (nth_word words 4) m2.0 (field_ok 4 (two_form (nth_word words 4)) m2.0 m2.1) in
    subst (IsEventOf Load nodes) same (
      refl,
      record {
        node = there nodes (nth_word words 2) node.0 node.1;
        fields = record {
          m1 = key_form-value (nth_word words 3) m1.0 (field_ok 3 (key_form (nth_word words 3)) m1.0 m1.1);
          two = two.0;
          m2 = two.1;
          m3 = key_form-value (nth_word words 5) m3.0 (field_ok 5 (key_form (nth_word words 5)) m3.0 m3.1);
        };
      },
    )

-- the node's own identifier is one
own_uid : (nodes : List NodeLine) (place : ℕ) → All IsNodeLine nodes → place < length nodes → IsUid (uid_at nodes place)
own_uid nodes place are within = (are place no_node within).config.is_uid

key_event_of-value : (nodes : List NodeLine) (words : List (List ℕ)) (e : Event) → All IsNodeLine nodes → key_event_of nodes words ≡ Ok e → IsEventOf Key nodes e
unfolding key_event_of
key_event_of-value nodes words e are h =
    let node = bind_ok (field 2 (place_named nodes (nth_word words 2))) _ e h in
    let own = uid_at nodes node.0 in
    let uid = bind_ok (field 3 (event_uid_form own (nth_word words 3))) _ e node.2 in
    let id = bind_ok (field 4 (slot_form (nth_word words 4))) _ e uid.2 in
    let auth = bind_ok (field 5 (slot_form (nth_word words 5))) _ e id.2 in
    let authkey = bind_ok (field 6 (key_form (nth_word words 6))) _ e auth.2 in
    let counter = bind_ok (field 7 (counter_form (nth_word words 7))) _ e authkey.2 in
    let flags = bind_ok (field 8 (flags_form (nth_word words 8))) _ e counter.2 in
    let key = bind_ok (field 9 (key_form (nth_word words 9))) _ e flags.2 in
    let same : event.Key node.0 (record { uid = uid.0; id = id.0; auth = auth.0; counter = counter.0; flags = flags.0; key = key.0 }) authkey.0 ≡ e =
    ap (λ (r : Result Event Cause). result_unwrap_or r e) key.2 in
    let here = there nodes (nth_word words 2) node.0 node.1 in
    let ids = number_in_range 0 13 (nth_word words 4) id.0 (field_ok 4 (slot_form (nth_word words 4)) id.0 id.1) in
    let auths = number_in_range 0 13 (nth_word words 5) auth.0 (field_ok 5 (slot_form (nth_word words 5)) auth.0 auth.1) in
    let counters = number_in_range 0 268435455 (nth_word words 7) counter.0 (field_ok 7 (counter_form (nth_word words 7)) counter.0 counter.1) in
    subst (IsEventOf Key nodes) same (
      refl,
      record {
        node = here;
        fields = (
          record {
            is_uid = event_uid_form-value own (nth_word words 3) uid.0 (own_uid nodes node.0 are here) (field_ok 3 (event_uid_form own (nth_word words 3)) uid.0 uid.1);
            id_fits = omega (arith, ids.1);
            auth_fits = omega (arith, auths.1);
            counter_fits = omega (arith, counters.1);
            is_key = key_form-value (nth_word words 9) key.0 (field_ok 9 (key_form (nth_word words 9)) key.0 key.1);
          },
          key_form-value (nth_word words 6) authkey.0 (field_ok 6 (key_form (nth_word words 6)) authkey.0 authkey.1),
        );
      },
    )

boot_of-value : (nodes : List NodeLine) (words : List (List ℕ)) (e : Event) → boot_of nodes words ≡ Ok e → IsEventOf Boot nodes e
unfolding boot_of
boot_of-value nodes words e h =
    let node = bind_ok (field 2 (place_named nodes (nth_word words 2))) _ e h in
    let image = bind_ok (field 3 (image_form (nth_word words 3))) _ e node.2 in
    let same : event.Boot node.0 image.0 ≡ e = cc image.2 in
    subst (IsEventOf Boot nodes) same (
      refl,
      record {
        node = there nodes (nth_word words 2) node.0 node.1;
        fields = hex_bytes_form-value 1 65536 (nth_word words 3) image.0 (field_ok 3 (image_form (nth_word words 3)) image.0 image.1);
      },
    )

cut_of-value : (nodes : List NodeLine) (words : List (List ℕ)) (e : Event) → cut_of nodes words ≡ Ok e → IsEventOf Cut nodes e
unfolding cut_of
cut_of-value nodes words e h =
    let node = bind_ok (field 2 (place_named nodes (nth_word words 2))) _ e h in
    let torn = bind_ok (field 3 (torn_form (nth_word words 3))) _ e node.2 in
    let same : event.Cut node.0 torn.0 ≡ e = cc torn.2 in
    subst (IsEventOf Cut nodes) same (
      refl,
      record {
        node = there nodes (nth_word words 2) node.0 node.1;
        fields = torn_form-value (nth_word words 3) torn.0 (field_ok 3 (torn_form (nth_word words 3)) torn.0 torn.1);
      },
    )

stop_of-value : (nodes : List NodeLine) (words : List (List ℕ)) (e : Event) → stop_of nodes words ≡ Ok e → IsEventOf Stop nodes e
unfolding stop_of
stop_of-value nodes words e h =
    let node = bind_ok (field 2 (place_named nodes (nth_word words 2))) _ e h in
    let calls = bind_ok (field 3 (calls_form (nth_word words 3))) _ e node.2 in
    let same : event.Stop node.0 calls.0 ≡ e = cc calls.2 in
    subst (IsEventOf Stop nodes) same (
      refl,
      record {
        node = there nodes (nth_word words 2) node.0 node.1;
        fields = number_in_range 1 1000000 (nth_word words 3) calls.0 (field_ok 3 (calls_form (nth_word words 3)) calls.0 calls.1);
      },
    )

fail_of-value : (nodes : List NodeLine) (words : List (List ℕ)) (e : Event) → fail_of nodes words ≡ Ok e → IsEventOf Fail nodes e
unfolding fail_of
fail_of-value nodes words e h =
    let node = bind_ok (field 2 (place_named nodes (nth_word words 2))) _ e h in
    let calls = bind_ok (field 3 (calls_form (nth_word words 3))) _ e node.2 in
    let same : event.Fail node.0 calls.0 ≡ e = cc calls.2 in
    subst (IsEventOf Fail nodes) same (
      refl,
      record {
        node = there nodes (nth_word words 2) node.0 node.1;
        fields = number_in_range 1 1000000 (nth_word words 3) calls.0 (field_ok 3 (calls_form (nth_word words 3)) calls.0 calls.1);
      },
    )

fields_of-value : (kind : EventKind) (nodes : List NodeLine) (words : List (List ℕ)) (e : Event) → All IsNodeLine nodes → fields_of kind nodes words ≡ Ok e → IsEventOf kind nodes e
fields_of-value Send nodes words e are h = send_of-value nodes words e h
fields_of-value Deliver nodes words e are h = deliver_of-value nodes words e h
fields_of-value Inject nodes words e are h = inject_of-value nodes words e h
fields_of-value Load nodes words e are h = load_event_of-value nodes words e h
fields_of-value Key nodes words e are h = key_event_of-value nodes words e are h
fields_of-value Boot nodes words e are h = boot_of-value nodes words e h
fields_of-value Cut nodes words e are h = cut_of-value nodes words e h
fields_of-value Stop nodes words e are h = stop_of-value nodes words e h
fields_of-value Fail nodes words e are h = fail_of-value nodes words e h

-- what is found passes what each of the list does
found : {X : Type 0} (q : X → Bool) (P : X → Type 0) (xs : List X) (x : X) → All P xs → find q xs ≡ Some x → P x
found q P [] x each is = cc
found q P (y ∷ ys) x each is =
    elim (cases_Bool (q y)) [
      | inl passes ↦ subst P (same_Some y x (sym (ap (λ b. cond b (Some y) (find q ys)) passes) ∙ is)) (each 0 y (omega arith))
      | inr not ↦ found q P ys x (λ i d h. each (suc i) d (omega arith)) (sym (ap (λ b. cond b (Some y) (find q ys)) not) ∙ is)
    ]

-- the kind of a line is one of those that a script may have
kind_there : (P : EventKind → Type 0) (among : List EventKind) (word : List ℕ) (kind : EventKind) → All P among → ok_or (kind_of among word) cause.Event ≡ Ok kind → P kind
unfolding kind_of
kind_there P among word kind each is =
    found (λ k. bytes_eq word (kind_name k)) P among kind each (ok_or_some (find (λ k. bytes_eq word (kind_name k)) among) cause.Event kind is)
  where
    ok_or_some : (o : Option EventKind) (fault : Cause) (k : EventKind) → ok_or o fault ≡ Ok k → o ≡ Some k
    ok_or_some (Some x) fault k h = cc h
    ok_or_some None fault k h = cc h

-- an event of one of these kinds that a script can have
abbrev IsEventAmong : (EventKind → Type 0) → List NodeLine → Event → Type 0
IsEventAmong P nodes e = P (event_kind e) × IsScriptEvent nodes e

-- a line that gives an event gives one that a script can have, of one of these kinds
event_among-value : (P : EventKind → Type 0) (among : List EventKind) (nodes : List NodeLine) (words : List (List ℕ)) (e : Event) → All P among → All IsNodeLine nodes
    → event_among among nodes words ≡ Ok e → IsEventAmong P nodes e
unfolding event_among
event_among-value P among nodes words e each are h =
    let kind = bind_ok (ok_or (kind_of among (nth_word words 1)) cause.Event) _ e h in
    let is = fields_of-value kind.0 nodes words e are (counted_ok (length words == kind_words kind.0) (fields_of kind.0 nodes words) e kind.2) in
    (subst P (sym is.0) (kind_there P among (nth_word words 1) kind.0 each kind.1), is.1)

-- and so does a script, at most 65,536 of them
events_among-values : (P : EventKind → Type 0) (among : List EventKind) (nodes : List NodeLine) (text : List ℕ) (events : List Event) → All P among → All IsNodeLine nodes
    → events_among among nodes text ≡ Ok events → All (IsEventAmong P nodes) events
unfolding events_among
events_among-values P among nodes text events each are h =
    All-read_from (IsEventAmong P nodes) (λ _ words. event_among among nodes words) (λ seen words e given. event_among-value P among nodes words e each are given)
    most_lines [] (lines_of text) events (All-nil (IsEventAmong P nodes)) h

pub events_among-few : (among : List EventKind) (nodes : List NodeLine) (text : List ℕ) (events : List Event) → events_among among nodes text ≡ Ok events → length events ≤ most_lines
unfolding events_among
events_among-few among nodes text events h = (values_given (λ _ words. event_among among nodes words) most_lines [] (lines_of text) events (omega arith) h).3

-- every kind is one
any_kind : (among : List EventKind) → All (λ (kind : EventKind). Unit {0}) among
any_kind among i d h = tt

pub events_among-are_events : (among : List EventKind) (nodes : List NodeLine) (text : List ℕ) (events : List Event) → All IsNodeLine nodes → events_among among nodes text ≡ Ok events
    → All (IsScriptEvent nodes) events
events_among-are_events among nodes text events are h =
    λ i d inside. (events_among-values (λ kind. Unit {0}) among nodes text events (any_kind among) are h i d inside).1

-- each of these kinds is a node's own
each_own : All IsOwnKind own_kinds
each_own zero d h = tt
each_own (suc zero) d h = tt
each_own (suc (suc zero)) d h = tt
each_own (suc (suc (suc zero))) d h = tt
each_own (suc (suc (suc (suc zero)))) d h = tt
each_own (suc (suc (suc (suc (suc zero))))) d h = tt
each_own (suc (suc (suc (suc (suc (suc zero)))))) d h = tt
each_own (suc (suc (suc (suc (suc (suc (suc i))))))) d h = absurd (omega arith)

own_event : (e : Event) → IsOwnKind (event_kind e) → IsOwn e
own_event (event.Send node id payload) is = is
own_event (event.Deliver node number) is = is
own_event (event.Inject node id pdu) is = tt
own_event (event.Load node request) is = tt
own_event (event.Key node update authkey) is = tt
own_event (event.Boot node image) is = tt
own_event (event.Cut node torn) is = tt
own_event (event.Stop node calls) is = tt
own_event (event.Fail node calls) is = tt

pub own_events : (nodes : List NodeLine) (text : List ℕ) (events : List Event) → All IsNodeLine nodes → own_events_of nodes text ≡ Ok events → All IsOwn events
own_events nodes text events are h =
    λ i d inside. own_event (get_or events i d) (events_among-values IsOwnKind own_kinds nodes text events each_own are h i d inside).0

-- the same of the answer that gives them
pub values_from_gives : (among : List EventKind) (nodes : List NodeLine) (text : List ℕ) (r : Result (Vec Event Global) ScriptFault) → All IsNodeLine nodes → Gives (events_among among nodes text) r
    → IfOk r (λ v. All (IsScriptEvent nodes) v.items)
values_from_gives among nodes text (Ok v) are h = events_among-are_events among nodes text v.items are h
values_from_gives among nodes text (Err fault) are h = tt

pub few_from_gives : (among : List EventKind) (nodes : List NodeLine) (text : List ℕ) (r : Result (Vec Event Global) ScriptFault) → Gives (events_among among nodes text) r
    → IfOk r (λ v. length v.items ≤ most_lines)
few_from_gives among nodes text (Ok v) h = events_among-few among nodes text v.items h
few_from_gives among nodes text (Err fault) h = tt

pub own_from_gives : (nodes : List NodeLine) (text : List ℕ) (r : Result (Vec Event Global) ScriptFault) → All IsNodeLine nodes → Gives (own_events_of nodes text) r
    → IfOk r (λ v. All IsOwn v.items)
own_from_gives nodes text (Ok v) are h = own_events nodes text v.items are h
own_from_gives nodes text (Err fault) are h = tt
