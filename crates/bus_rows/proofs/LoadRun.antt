-- The run with the messages of the SHE specification's example
use Rattle.std.proofs.Common.{refl, arith}
use Rattle.basics.specs.Numbers.{number_of}
use Rattle.key_slots.specs.declared.refusals.Erc.TheVariants.{KeyInvalid, KeyEmpty, KeyUpdateError}
use Rattle.key_slots.specs.Authority.{is_pair}
use Rattle.memory_update.specs.declared.messages.Update.{Update}
use Rattle.memory_update.specs.Loading.{slot_of}
use Rattle.memory_update.specs.Messages.{IsUpdate}
use Rattle.bus_machine.specs.declared.lines.Line.TheVariants.{Keyed, Loaded, Refused}
use Rattle.bus_machine.specs.declared.lines.Refusal.TheVariants as why
use Rattle.bus_machine.specs.Node.{Node, with_slot}
use Rattle.bus_machine.specs.Steps.{keys, loads, NodeStep}
use Rattle.bus_rows.specs.Buses.{numbered_uid, bus_a, all_ones, master_key, bus_key, clear_flags, update_of}
use Rattle.bus_rows.specs.Rows.{HasRun}
use Rattle.bus_rows.specs.LoadRows as rows
use Rattle.bus_rows.specs.LoadRows.{example_request, example_reply, request_for_14, other_update}
use Rattle.bus_rows.proofs.Building.{keyed, loaded, not_loaded, not_keyed_by_head, not_keyed_by_mac}
use Rattle.bus_rows.proofs.Messages.{new_key, IsBlock-new_key, example_update, example_builds, example_confirms, other_mac}
use Rattle.bus_rows.proofs.Walks.{walked}
use Rattle.bus_rows.proofs.WorkedRuns.{IsBlock-all_ones, IsBlock-master_key, IsBlock-bus_key, IsUid-left, is_update, left0}

abbrev master_update : Update
master_update = update_of (numbered_uid 1) 1 1 1 clear_flags master_key

abbrev n1 : Node
n1 = with_slot 1 (slot_of master_update) left0

abbrev n2 : Node
n2 = with_slot 4 (slot_of example_update) n1

take1 : NodeStep left0 (keys master_update all_ones) (Keyed 1) n1
unfolding is_pair
take1 =
    keyed left0 master_update all_ones refl (record { is_key = IsBlock-all_ones; is_update = is_update _ 1 1 1 clear_flags master_key IsUid-left (omega arith) (omega arith) (omega arith) IsBlock-master_key; held = refl }) refl

is_example : IsUpdate example_update
is_example = is_update _ 4 1 1 clear_flags new_key IsUid-left (omega arith) (omega arith) (omega arith) IsBlock-new_key

take2 : NodeStep n1 (loads example_request) (Loaded example_reply) n2
unfolding is_pair
take2 =
    loaded n1 example_request example_reply example_update master_key refl example_builds (record { is_key = IsBlock-master_key; is_update = is_example; held = refl }) refl example_confirms

refuse3 : NodeStep n2 (loads example_request) (Refused (why.Key KeyUpdateError)) n2
unfolding is_pair
refuse3 =
    not_loaded n2 example_request example_update master_key KeyUpdateError refl example_builds (record { is_key = IsBlock-master_key; is_update = is_example; held = refl }) refl

refuse4 : NodeStep n2 (keys (update_of (numbered_uid 1) 5 4 1 clear_flags bus_key) bus_key) (Refused (why.Key KeyInvalid)) n2
unfolding is_pair
refuse4 =
    not_keyed_by_head n2 (update_of (numbered_uid 1) 5 4 1 clear_flags bus_key) bus_key KeyInvalid refl (is_update _ 5 4 1 clear_flags bus_key IsUid-left (omega arith) (omega arith) (omega arith) IsBlock-bus_key) refl

refuse5 : NodeStep n2 (keys (update_of (numbered_uid 1) 3 2 1 clear_flags bus_key) all_ones) (Refused (why.Key KeyEmpty)) n2
unfolding is_pair
refuse5 =
    not_keyed_by_head n2 (update_of (numbered_uid 1) 3 2 1 clear_flags bus_key) all_ones KeyEmpty refl (is_update _ 3 2 1 clear_flags bus_key IsUid-left (omega arith) (omega arith) (omega arith) IsBlock-bus_key) refl

refuse6 : NodeStep n2 (keys other_update bus_key) (Refused (why.Key KeyUpdateError)) n2
unfolding is_pair
refuse6 =
    not_keyed_by_mac n2 other_update bus_key master_key refl (is_update _ 4 1 2 clear_flags bus_key IsUid-left (omega arith) (omega arith) (omega arith) IsBlock-bus_key) refl other_mac refl

refuse7 : NodeStep n2 (loads request_for_14) (Refused (why.Key KeyInvalid)) n2
unfolding is_pair number_of
refuse7 = ((refl, refl), refl)

pub load_run : HasRun bus_a rows.example_loaded
load_run = walked bus_a rows.example_loaded (
  left0,
  n1,
  refl,
  take1,
  tt,
  (
    n1,
    n2,
    refl,
    take2,
    tt,
    (
      n2,
      n2,
      refl,
      refuse3,
      tt,
      (
        n2,
        n2,
        refl,
        refuse4,
        tt,
        (
          n2,
          n2,
          refl,
          refuse5,
          tt,
          (
            n2,
            n2,
            refl,
            refuse6,
            tt,
            (
              n2,
              n2,
              refl,
              refuse7,
              tt,
              tt,
            ),
          ),
        ),
      ),
    ),
  ),
)
