-- The lines of a log that were audited
use Rattle.std.specs.Prelude.{◌≡◌, ℕ, ◌<◌, List, length, slice_index}
use Rattle.std.specs.List.{flat_map}
use Rattle.text_lines.specs.Lines.{TextLine}
use Rattle.can_logs.specs.declared.map_lines.MapLine.{MapLine}
use Rattle.can_logs.specs.declared.findings.FrameTally.TheVariants as tally
use Rattle.can_logs.specs.Findings.{Finding, finding_text, counter_of_place}
use Rattle.trace_audit.specs.Auditing.{others_in, AuditsEach}

-- the lines so far were audited
pub record Audited (mapping : List MapLine) (lines : List TextLine) (counters text : List ℕ) (others : ℕ) : Type 0 where
  pub findings : List Finding
  pub finds : AuditsEach mapping lines findings
  pub text_is : text ≡ flat_map finding_text findings
  pub others_is : others ≡ others_in findings
  pub as_many : length counters ≡ length mapping
  pub counters_are : (place : ℕ) → place < length mapping
      → slice_index counters place ≡ counter_of_place mapping findings place
