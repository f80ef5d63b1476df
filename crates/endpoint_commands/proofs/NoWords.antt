-- A line without words is no rule
use Rattle.std.proofs.Common.{◌≡◌, ℕ, true, List, [], ◌∷◌, length, Err, refl, arith}
use Rattle.std.specs.Prelude.{◌==◌}
use Rattle.text_lines.specs.declared.fault.Cause.TheVariants as cause
use Rattle.freshness_routes.specs.declared.routes.Route.{Route}
use Rattle.endpoint_commands.specs.declared.rules.FrameRule.{FrameRule}
use Rattle.endpoint_commands.specs.Rules.{rule_direction_form, rule_of}

pub no_words : (routes : List Route) (before : List FrameRule) (words : List (List ℕ)) → (length words == 0) ≡ true → rule_of routes before words ≡ Err cause.Event
unfolding rule_of rule_direction_form
no_words routes before [] h = refl
no_words routes before (word ∷ words) h = absurd (let empty : length (word ∷ words) ≡ 0 = grind arith in omega arith)
