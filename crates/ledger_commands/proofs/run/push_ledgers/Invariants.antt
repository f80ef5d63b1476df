-- the ledgers of the arguments so far were read, and what the task comes to over them was added
use Rattle.std.proofs.Common.{◌≡◌, ◌≤◌, length, map, take}
use Rattle.std.specs.Prelude.{string_bytes, option_map}
use Rattle.std.specs.Vec.{vec_len, vec_capacity}
use Rattle.program_edge.specs.NamedSources.{openings, word_source}
use Rattle.ledger_commands.proofs.Pushing.{PushedSoFar}
use Rattle.ledger_commands.proofs.run.push_ledgers.Given as goal

abbrev pub invariant-loop-ledger : goal.invariant-loop-ledger
invariant-loop-ledger g l = record {
  so_far : PushedSoFar (g.O.Opener.opens l.fn.opener) (g.O.Opener.opens l.opener)
      (openings (g.O.Opener.opened l.fn.opener) (option_map g.I.Source.state l.fn.input))
      (openings (g.O.Opener.opened l.opener) (option_map g.I.Source.state l.input))
      l.task (take l.ledger-index (map string_bytes l.ledgers))
      (map (word_source g.O.Opened.Source.state g.I.Source.state) l.files.items) l.text.items l.all_found;
  number : vec_len l.files ≡ l.ledger-index;
  room : length l.ledgers ≤ vec_capacity l.files;
}
