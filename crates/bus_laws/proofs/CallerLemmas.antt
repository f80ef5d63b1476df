-- The lemmas that crates above cite.
pub use Rattle.bus_laws.proofs.BusSteps.{Grows-bus, Grows-run, Sound-bus, Sound-run, as_many, as_many_run, first_at}
pub use Rattle.bus_laws.proofs.BusSteps.{other_at, step_at}
pub use Rattle.bus_laws.proofs.Effects.{Effect, accepted, decided, effect_of, faulted, powers, refused, routed}
pub use Rattle.bus_laws.proofs.Effects.{send_routed, sent, stays, took}
pub use Rattle.bus_laws.proofs.Growth.{Grows, Grows-on, Grows-same, Grows-step, Renews, slots_by_bound}
pub use Rattle.bus_laws.proofs.Hearing.{facts, heard_line}
pub use Rattle.bus_laws.proofs.Keys.{KeysKept-run, SettledSlotsStay-run}
pub use Rattle.bus_laws.proofs.Lists.{AllPairs-Pairwise, Each, Each-map, Pairwise, Pairwise-map}
pub use Rattle.bus_laws.proofs.Pending.{None≢Some, pending_step}
pub use Rattle.bus_laws.proofs.Rising.{Above, AboveAt, After, AllCovered-run, SenderIn, all_above, tells_reaches}
pub use Rattle.bus_laws.proofs.SoundSteps.{IsSlots-set, Receives≢Sends, Sound-powered, Sound-step, eq_of_test}
pub use Rattle.bus_laws.proofs.SoundSteps.{pending_forward, place_is, same_some, takes_forward}
