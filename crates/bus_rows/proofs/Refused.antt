-- What each theorem refuses
use Rattle.std.specs.Prelude.{◌≡◌, ◌⊎◌, ℕ, ◌<◌, None, List, [], ◌∷◌, get_or}
use Rattle.std.proofs.Common.{refl, sym, ◌∙◌, ap, arith, inl, inr}
use Rattle.key_slots.specs.declared.memory.Flags.{Flags}
use Rattle.key_slots.specs.declared.memory.Slot.{Slot}
use Rattle.key_slots.specs.declared.memory.Slot.TheVariants.{Empty, Filled}
use Rattle.key_slots.specs.Authority.{is_pair}
use Rattle.bus_machine.specs.declared.events.Event.TheVariants.{Deliver, Inject, Key, Cut}
use Rattle.bus_machine.specs.declared.lines.Line.TheVariants.{Accepted, Keyed, Up, Refused}
use Rattle.bus_machine.specs.declared.lines.Refusal.TheVariants.{MemoryFailure}
use Rattle.memory_update.specs.Loading.{slot_of}
use Rattle.bus_machine.specs.Node.{Node, slot_to, failed}
use Rattle.bus_machine.specs.Steps.{Act, receives, keys, Makes}
use Rattle.bus_machine.specs.Bus.{World, Instant, AtSome}
use Rattle.bus_machine.specs.KeysKept.{Acknowledges, FailsUpdate}
use Rattle.cut_disk.specs.declared.Torn.TheVariants.{Keep, Old}
use Rattle.bus_rows.specs.Buses.{all_ones, bus_key, for_macs, altered_payload, altered_frame}
use Rattle.bus_rows.specs.Breaches.{instant, keyed_node, ReplayIsNoRising, RestartIsNoSingle, OtherCmacIsNoAuthentic, UndoneIsNoKept, ReturnIsNoSettled}
use Rattle.bus_rows.proofs.Frames.{other_frame, other_frame_is}
use Rattle.bus_rows.proofs.Building.{makes_update}
use Rattle.bus_rows.proofs.WorkedRuns.{IsBlock-all_ones, IsBlock-bus_key, IsUid-left, is_update, left0, right0, own_update}

same_differs : (n : ℕ) → n < n → ⊥
same_differs n h = absurd (omega (arith, h))

pub replay : ReplayIsNoRising
replay nodes rising =
    same_differs 0xe93d7e117393172a (rising 0 1 (instant (Deliver 1 3) Up nodes) (omega arith) (omega arith) refl refl)

pub restart : RestartIsNoSingle
restart nodes single =
    same_differs 0xe93d7e117393172a (single 0 2 (instant (Deliver 1 3) Up nodes) (omega arith) (omega arith) refl)

pdu_in : Act → List ℕ
pdu_in (receives id pdu) = pdu
pdu_in _ = []

same_receives : (i j : ℕ) (p q : List ℕ) → receives i p ≡ receives j q → p ≡ q
unfolding pdu_in
same_receives i j p q e = ap pdu_in e

frame_differs : altered_frame ≡ other_frame → ⊥
frame_differs e = let h : 7 ≡ get_or other_frame 7 0 = ap (λ xs. get_or xs 7 0) e in absurd (omega (arith, h))

pub other_cmac : OtherCmacIsNoAuthentic
other_cmac nodes authentic =
    let a = authentic [] (instant (Inject 1 0x6bc1 altered_frame) (Accepted 0x6bc1 0xe93d7e117393172a altered_payload None) nodes) [] refl in
    frame_differs (same_receives _ _ _ _ a.received ∙ a.secured.frame_is ∙ sym other_frame_is)

-- the update is acknowledged, the cut acknowledges nothing and fails nothing, and the slot is empty
own_update_made : Makes left0 (keys (own_update 1) all_ones) (slot_to 4 (slot_of (own_update 1)))
unfolding is_pair
own_update_made =
    makes_update left0 (own_update 1) all_ones refl (record { is_key = IsBlock-all_ones; is_update = is_update _ 4 4 1 for_macs bus_key IsUid-left (omega arith) (omega arith) (omega arith) IsBlock-bus_key; held = refl }) refl

empty_differs : (slot : Slot) (key : List ℕ) (counter : ℕ) (flags : Flags) → slot ≡ Filled key counter flags → slot ≡ Empty → ⊥
empty_differs slot key counter flags e f = cc

up_differs : Up ≡ Refused MemoryFailure → ⊥
up_differs e = cc

cut_takes_nothing : (other : Slot) (world : World) (nodes : List Node) → AtSome (Acknowledges 0 4 other) world (instant (Cut 0 Keep) Up nodes ∷ []) → ⊥
cut_takes_nothing other world nodes (inl here) = here.0
cut_takes_nothing other world nodes (inr none) = none

cut_fails_nothing : (slot : Slot) (world : World) (nodes : List Node) → AtSome (FailsUpdate 0 4 slot) world (instant (Cut 0 Keep) Up nodes ∷ []) → ⊥
cut_fails_nothing slot world nodes (inl here) = up_differs here.0
cut_fails_nothing slot world nodes (inr none) = none

holds_no_longer : (world : World) (nodes : List Node) → (Empty ≡ slot_of (own_update 1)) ⊎ AtSome (FailsUpdate 0 4 Empty) world (instant (Cut 0 Keep) Up nodes ∷ []) → ⊥
holds_no_longer world nodes (inl holds) = empty_differs Empty _ _ _ holds refl
holds_no_longer world nodes (inr failed) = cut_fails_nothing Empty world nodes failed

abbrev nodes_before : List Node
nodes_before = keyed_node left0 1 ∷ right0 ∷ []

abbrev nodes_after : List Node
nodes_after = left0 ∷ right0 ∷ []

abbrev acknowledged : Instant
acknowledged = instant (Key 0 (own_update 1) all_ones) (Keyed 4) nodes_before

pub undone : UndoneIsNoKept
undone kept =
    holds_no_longer acknowledged.after nodes_after
    (kept.updates_hold [] acknowledged (instant (Cut 0 Keep) Up nodes_after ∷ []) [] 0 4 (slot_of (own_update 1)) refl (tt, (refl, own_update_made))
    (λ other a. cut_takes_nothing other acknowledged.after nodes_after a))

-- what a power-up dropped doesn't come back with a later one
cut_returns_nothing : (slot : Slot) (world : World) (nodes : List Node) → (slot ≡ Empty → ⊥)
    → (slot ≡ Empty) ⊎ (AtSome (Acknowledges 0 4 slot) world (instant (Cut 0 Keep) Up nodes ∷ []) ⊎ AtSome (FailsUpdate 0 4 slot) world (instant (Cut 0 Keep) Up nodes ∷ [])) → ⊥
cut_returns_nothing slot world nodes filled (inl empty) = filled empty
cut_returns_nothing slot world nodes filled (inr (inl taken)) = cut_takes_nothing slot world nodes taken
cut_returns_nothing slot world nodes filled (inr (inr failed)) = cut_fails_nothing slot world nodes failed

abbrev unkeyed : Instant
unkeyed = instant (Key 0 (own_update 1) all_ones) (Refused MemoryFailure) (failed (slot_to 4 (slot_of (own_update 1))) left0 ∷ right0 ∷ [])

abbrev dropped : Instant
dropped = instant (Cut 0 Old) Up nodes_after

pub returned : ReturnIsNoSettled
returned settled =
    cut_returns_nothing (slot_of (own_update 1)) dropped.after nodes_before (λ e. empty_differs (slot_of (own_update 1)) _ _ _ refl e)
    (settled (unkeyed ∷ dropped ∷ []) (instant (Cut 0 Keep) Up nodes_before ∷ []) [] 0 4 refl refl)
