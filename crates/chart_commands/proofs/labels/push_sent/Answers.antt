use Rattle.std.proofs.Common.{◌∷◌, ◌%◌}
use Rattle.std.specs.Prelude.{codes}
use Rattle.basics.specs.Numbers.{bytes_of}
use Rattle.hex.specs.Hex.{encode_lower}
use Rattle.chart_commands.proofs.Pieces.{four_added}
use Rattle.chart_commands.proofs.labels.push_sent.Goals as goal

pub returns : goal.returns
returns c =
    four_added c.args.text.now.items (codes "sent") (32 ∷ encode_lower (bytes_of 2 c.args.id)) (codes " ..") (encode_lower (bytes_of 2 (c.args.freshness % 65536))) _ _ _ _
    c.in_ok-extend_from_slice.ensures.items c.in_ok-push_id.ensures.added c.in_ok-extend_from_slice-2.ensures.items c.in_ok-push_low.ensures
