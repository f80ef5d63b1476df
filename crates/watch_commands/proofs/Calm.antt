-- Without a limit of silence the silences of the lines of a map are told nowhere
use Rattle.std.proofs.Common.{◌≡◌, ℕ, zero, suc, ◌+◌, ◌<◌, ◌&&◌, ◌||◌, Bool, true, false, List, [], ◌∷◌, ◌++◌, length, map, refl, sym, ap, ◌∙◌, arith, get_or}
use Rattle.std.specs.Prelude.{Option, None, Some, is_some, is_none, option_map, unwrap_or, nat_lt, if◌then◌else◌}
use Rattle.std.specs.List.{flat_map, list_all, list_any, range_with_len, slice_get}
use Rattle.std.proofs.lemmas.List.Folds.{flat_map-map, list_all-map, list_any_at}
use Rattle.std.proofs.lemmas.Option.{slice_get_within, get_or_from_slice_get}
use Rattle.can_logs.specs.declared.map_lines.MapLine.{MapLine}
use Rattle.watch_commands.specs.declared.counts.LineCounts.{LineCounts}
use Rattle.watch_commands.specs.declared.counts.WatchCounts.{WatchCounts}
use Rattle.watch_commands.specs.declared.limits.Limits.{Limits}
use Rattle.watch_commands.specs.declared.options.WatchOptions.{WatchOptions}
use Rattle.watch_commands.specs.Limits.{limits_in, limit_reached, is_within}
use Rattle.watch_commands.specs.Silences.{no_silence, lasts}
use Rattle.watch_commands.specs.WatchedMaps.{WatchedMap}
use Rattle.watch_commands.specs.WatchTotals.{total_line_at, map_places, counts_text, line_over, over_head, silence_text, line_beyond, line_over_at, log_over, silence_limit, is_heard, missed_of, missed_share_of, does_pass, passes_at, log_passes, totals_text_of, status_of}
use Rattle.watch_commands.specs.States.{wants_times}

-- numbers of a line without its silence
abbrev pub calm : LineCounts → LineCounts
calm counts = record counts { silence = no_silence }

-- the same is found of as many places
pub places_same : {X : Type 0} (f g : ℕ → X) (a n m : ℕ) → a + n ≡ m → ((k : ℕ) → k < m → f k ≡ g k) → map f (range_with_len a n) ≡ map g (range_with_len a n)
places_same f g a zero m all same = refl
places_same {X} f g a (suc n) m all same =
    ap (λ (x : X). x ∷ map f (range_with_len (a + 1) n)) (same a (omega (arith, all)))
    ∙ ap (λ (xs : List X). g a ∷ xs) (places_same f g (a + 1) n m (omega (arith, all)) same)

none_of : (o : Option ℕ) → is_some o ≡ false → o ≡ None
none_of None h = refl
none_of (Some n) h = cc

-- of two texts of a limit that is none, both are the same
not_some : (test : MapLine → Bool) (lines : List MapLine) (place : ℕ) (entry : MapLine) (b : Bool) → test entry ≡ b → list_any test lines ≡ false
    → slice_get lines place ≡ Some entry → b ≡ false
not_some test lines place entry true is none there =
    let here : get_or lines place entry ≡ entry = get_or_from_slice_get lines place entry entry there in
    let found : list_any test lines ≡ true = list_any_at test lines place entry (slice_get_within lines place entry there) (ap test here ∙ is) in
    let e : true ≡ false = sym found ∙ none in cc
not_some test lines place entry false is none there = refl

no_limit : (mapping : WatchedMap) → wants_times mapping ≡ false → (place : ℕ) (entry : MapLine) → slice_get mapping.lines place ≡ Some entry
    → silence_limit (limits_in mapping.options) entry ≡ None
no_limit mapping none place entry there =
    let limit : Option ℕ = silence_limit (limits_in mapping.options) entry in
    none_of limit (not_some (λ (l : MapLine). is_some (silence_limit (limits_in mapping.options) l)) mapping.lines place entry (is_some limit) refl none there)

-- ---- of a line

beyond_by : WatchOptions → LineCounts → MapLine → Option ℕ → List ℕ
beyond_by options counts entry limit =
    line_over options counts entry ++ (if entry.optional then []
    else silence_text options.json (over_head options.json counts.number entry) counts.silence (limit_reached limit (lasts counts.silence)))

beyond_calm : (options : WatchOptions) (counts : LineCounts) (entry : MapLine) → silence_limit (limits_in options) entry ≡ None
    → line_beyond options counts entry ≡ line_beyond options (calm counts) entry
unfolding beyond_by
beyond_calm options counts entry none =
    let one : line_beyond options counts entry ≡ beyond_by options counts entry None = ap (beyond_by options counts entry) none in
    let other : line_beyond options (calm counts) entry ≡ beyond_by options (calm counts) entry None = ap (beyond_by options (calm counts) entry) none in
    one ∙ sym other

pass_by : Limits → LineCounts → MapLine → Option ℕ → Bool
pass_by limits counts entry limit =
    is_heard counts.accepted entry && is_within limits.missed (missed_of entry counts) && is_within limits.missed_share (missed_share_of entry counts)
    && (entry.optional || is_none (limit_reached limit (lasts counts.silence)))

pass_calm : (limits : Limits) (counts : LineCounts) (entry : MapLine) → silence_limit limits entry ≡ None → does_pass limits counts entry ≡ does_pass limits (calm counts) entry
unfolding pass_by
pass_calm limits counts entry none =
    let one : does_pass limits counts entry ≡ pass_by limits counts entry None = ap (pass_by limits counts entry) none in
    let other : does_pass limits (calm counts) entry ≡ pass_by limits (calm counts) entry None = ap (pass_by limits (calm counts) entry) none in
    one ∙ sym other

-- ---- of a map

module _ (mapping : WatchedMap) (none : wants_times mapping ≡ false) (totals : ℕ → LineCounts) where
  over_by : (place : ℕ) (found : Option MapLine) → slice_get mapping.lines place ≡ found
      → unwrap_or (option_map (line_beyond mapping.options (totals place)) found) [] ≡ unwrap_or (option_map (line_beyond mapping.options (calm (totals place))) found) []
  over_by place None there = refl
  over_by place (Some entry) there = beyond_calm mapping.options (totals place) entry (no_limit mapping none place entry there)

  over_calm : (place : ℕ) → line_over_at mapping totals place ≡ line_over_at mapping (λ k. calm (totals k)) place
  over_calm place = over_by place (slice_get mapping.lines place) refl

  passes_by : (place : ℕ) (found : Option MapLine) → slice_get mapping.lines place ≡ found
      → unwrap_or (option_map (does_pass (limits_in mapping.options) (totals place)) found) true ≡ unwrap_or (option_map (does_pass (limits_in mapping.options) (calm (totals place))) found) true
  passes_by place None there = refl
  passes_by place (Some entry) there = pass_calm (limits_in mapping.options) (totals place) entry (no_limit mapping none place entry there)

  passes_calm : (place : ℕ) → passes_at mapping totals place ≡ passes_at mapping (λ k. calm (totals k)) place
  passes_calm place = passes_by place (slice_get mapping.lines place) refl

  alike : {X : Type 0} (f g : ℕ → X) → ((place : ℕ) → f place ≡ g place) → map f (map_places mapping) ≡ map g (map_places mapping)
  alike f g same = places_same f g 0 (length mapping.lines) (length mapping.lines) (omega arith) (λ place inside. same place)

  texts_alike : (f g : ℕ → List ℕ) → ((place : ℕ) → f place ≡ g place) → flat_map f (map_places mapping) ≡ flat_map g (map_places mapping)
  texts_alike f g same =
      sym (flat_map-map (λ (t : List ℕ). t) f (map_places mapping)) ∙ ap (flat_map (λ (t : List ℕ). t)) (alike f g same) ∙ flat_map-map (λ (t : List ℕ). t) g (map_places mapping)

  tests_alike : (f g : ℕ → Bool) → ((place : ℕ) → f place ≡ g place) → list_all f (map_places mapping) ≡ list_all g (map_places mapping)
  tests_alike f g same =
      sym (list_all-map (λ (b : Bool). b) f (map_places mapping)) ∙ ap (list_all (λ (b : Bool). b)) (alike f g same) ∙ list_all-map (λ (b : Bool). b) g (map_places mapping)

  pub totals_calm : (counts : WatchCounts) → totals_text_of mapping totals counts ≡ totals_text_of mapping (λ k. calm (totals k)) counts
  totals_calm counts =
      let said : List ℕ = counts_text mapping.options.json counts in
      let over : List ℕ = log_over mapping.options counts in
      let lines : List ℕ = flat_map (total_line_at mapping totals) (map_places mapping) in
      ap (λ (t : List ℕ). lines ++ said ++ t ++ over) (texts_alike (line_over_at mapping totals) (line_over_at mapping (λ k. calm (totals k))) over_calm)
      ∙ ap (λ (t : List ℕ). t ++ said ++ flat_map (line_over_at mapping (λ k. calm (totals k))) (map_places mapping) ++ over)
      (texts_alike (total_line_at mapping totals) (total_line_at mapping (λ k. calm (totals k))) (λ place. refl))

  pub status_calm : (counts : WatchCounts) → status_of mapping totals counts ≡ status_of mapping (λ k. calm (totals k)) counts
  status_calm counts =
      ap (λ (b : Bool). if nat_lt 0 counts.failed then 1 else if (b && nat_lt 0 (length mapping.lines)) && log_passes (limits_in mapping.options) counts then 0 else 3)
      (tests_alike (passes_at mapping totals) (passes_at mapping (λ k. calm (totals k))) passes_calm)
