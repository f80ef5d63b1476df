-- The lemmas that crates above cite.
pub use Rattle.bus_world.proofs.DisksBack.{no_node}
pub use Rattle.bus_world.proofs.FoundLaws.{blank_not_foreign, counted_once, older_not_blank, older_not_foreign}
pub use Rattle.bus_world.proofs.FoundLaws.{older_one, standing_not_blank, standing_not_foreign, standing_not_older}
pub use Rattle.bus_world.proofs.StepLaws.{turn_fits}
pub use Rattle.bus_world.proofs.Turning.{alone_told, calm_turn, faults_told, receives_no_cut, sends_no_cut, step_config}
pub use Rattle.bus_world.proofs.Turning.{unmoved_by}
pub use Rattle.bus_world.proofs.RoomLaws.{size_of_any}
pub use Rattle.bus_world.proofs.StartRowLaws.{no_disk, no_line, no_room_fault, start_leaves}
pub use Rattle.bus_world.proofs.StartAnswerLaws.{Comes-leaves, Comes-unstarted, failure_told, none_counted, same_known}
pub use Rattle.bus_world.proofs.StartAnswerLaws.{start_complete, start_memory, start_status, start_without_room}
pub use Rattle.bus_world.proofs.TurnLaws.{as_many_nodes, same_commands, same_length, same_lines}
