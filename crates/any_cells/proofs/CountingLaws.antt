-- Which store counts, by what stands at the two bases
use Rattle.std.proofs.Common.{◌≡◌, ℕ, List, refl, sym, subst, ◌∙◌, arith}
use Rattle.std.specs.Prelude.{Option, None, Some}
use Rattle.cell_store.specs.declared.kinds.Kind.{Kind}
use Rattle.cell_store.specs.declared.kinds.Version.{Version}
use Rattle.cell_store.specs.declared.kinds.Version.TheVariants.{One, Two}
use Rattle.cell_store.specs.declared.kinds.Probe.{Probe}
use Rattle.cell_store.specs.declared.kinds.Probe.TheVariants as probe
use Rattle.cell_store.specs.Layout.{layout, part, from_base}
use Rattle.cell_store.specs.Store.{Probes}
use Rattle.cell_store.proofs.CallerLemmas.{header-number, header-kind, failed_more}
use Rattle.cut_disk.specs.State.{DiskState}
use Rattle.cell_store.specs.declared.faults.StoreFault.{StoreFault}
use Rattle.cell_store.specs.declared.faults.StoreFault.TheVariants as fault
use Rattle.cell_store.specs.Attaching.{NotProbed}
use Rattle.any_cells.specs.declared.finding.CountingStore.{CountingStore}
use Rattle.any_cells.proofs.LookingLaws.{no-header}
use Rattle.any_cells.specs.Finding.{NotLooked, no_header, not_read}
use Rattle.any_cells.specs.Counting.{HasStore, StoreThatCounts, counting_store, moved_up, not_moved, only_second, no_store}

-- a store that a probe doesn't find doesn't stand
other_store : (version : Version) (kind : Kind) (n : ℕ) (x : List ℕ) (p : Probe) → Probes version (part 0 32 (from_base version x)) p
    → ¬ (p ≡ probe.Store kind n) → ¬ HasStore version x kind n
other_store version kind n x p found other has = no-header version kind n (part 0 32 (from_base version x)) p has.0 found other has.1

store_found : (version : Version) (kind : Kind) (n : ℕ) (x : List ℕ) (p : Probe) → Probes version (part 0 32 (from_base version x)) p
    → p ≡ probe.Store kind n → HasStore version x kind n
store_found version kind n x p found is = subst (Probes version (part 0 32 (from_base version x))) is found

module _ (x : List ℕ) (low high : Probe) (at_low : Probes One (part 0 32 (from_base One x)) low) (at_high : Probes Two (part 0 32 (from_base Two x)) high)
    (kind : Kind) (n : ℕ) where
  pub both_stand : low ≡ probe.Store kind n → high ≡ low → StoreThatCounts x (Some (counting_store kind Two n))
  both_stand is same = moved_up kind n (store_found One kind n x low at_low is) (store_found Two kind n x high at_high (same ∙ is))

  pub first_stands : low ≡ probe.Store kind n → ¬ (high ≡ low) → StoreThatCounts x (Some (counting_store kind One n))
  first_stands is other =
      not_moved kind n (store_found One kind n x low at_low is) (other_store Two kind n x high at_high (λ e. other (e ∙ sym is)))

  pub second_stands : ((k : Kind) (m : ℕ) → ¬ (low ≡ probe.Store k m)) → high ≡ probe.Store kind n → StoreThatCounts x (Some (counting_store kind Two n))
  second_stands none is = only_second kind n (λ k m. other_store One k m x low at_low (none k m)) (store_found Two kind n x high at_high is)

module _ (x : List ℕ) (low high : Probe) (at_low : Probes One (part 0 32 (from_base One x)) low) (at_high : Probes Two (part 0 32 (from_base Two x)) high) where
  pub none_stands : ((k : Kind) (m : ℕ) → ¬ (low ≡ probe.Store k m)) → ((k : Kind) (m : ℕ) → ¬ (high ≡ probe.Store k m)) → StoreThatCounts x None
  none_stands low_none high_none = no_store (λ k m. other_store One k m x low at_low (low_none k m)) (λ k m. other_store Two k m x high at_high (high_none k m))

-- why the first 32 bytes aren't read
pub not_probed : (before after : DiskState) (fault : StoreFault) → NotProbed One before after fault → NotLooked before after fault
not_probed before after fault.TooSmall (small, same) = no_header small same
not_probed before after fault.DiskFailed (room, failed) = not_read (failed_more 2 (omega arith) failed)
not_probed before after fault.NotFormatted wrong = absurd wrong
not_probed before after (fault.Damaged i) wrong = absurd wrong
not_probed before after fault.Memory wrong = absurd wrong

-- the bytes at one base are the header of one store
one_kind : (version : Version) (x : List ℕ) (a b : Kind) (n m : ℕ) → HasStore version x a n → HasStore version x b m → a ≡ b
one_kind version x a b n m has other = header-kind (layout a version) (layout b version) n m (sym has.1 ∙ other.1)

one_number : (version : Version) (x : List ℕ) (a b : Kind) (n m : ℕ) → HasStore version x a n → HasStore version x b m → n ≡ m
one_number version x a b n m has other =
    header-number (layout a version) (layout b version) n m (let f = has.0.most in omega (arith, f)) (let f = other.0.most in omega (arith, f)) (sym has.1 ∙ other.1)

same_store : (version : Version) (a b : Kind) (n m : ℕ) → a ≡ b → n ≡ m → Some (counting_store a version n) ≡ Some (counting_store b version m)
same_store version a b n m kind number = rw (kind, number) refl

has_other : (version : Version) (x : List ℕ) (a b : Kind) (n m : ℕ) → a ≡ b → n ≡ m → HasStore version x a n → HasStore version x b m
has_other version x a b n m kind number has = rw (← kind, ← number) has

-- so one store counts
pub counts_once : (x : List ℕ) (a b : Option CountingStore) → StoreThatCounts x a → StoreThatCounts x b → a ≡ b
counts_once x a b (moved_up k n one two) (moved_up l m one' two') =
    same_store Two k l n m (one_kind One x k l n m one one') (one_number One x k l n m one one')
counts_once x a b (moved_up k n one two) (not_moved l m one' none) =
    absurd (none (has_other Two x k l n m (one_kind One x k l n m one one') (one_number One x k l n m one one') two))
counts_once x a b (moved_up k n one two) (only_second l m none two') = absurd (none k n one)
counts_once x a b (moved_up k n one two) (no_store none none') = absurd (none k n one)
counts_once x a b (not_moved k n one none) (moved_up l m one' two') =
    absurd (none (has_other Two x l k m n (one_kind One x l k m n one' one) (one_number One x l k m n one' one) two'))
counts_once x a b (not_moved k n one none) (not_moved l m one' none') =
    same_store One k l n m (one_kind One x k l n m one one') (one_number One x k l n m one one')
counts_once x a b (not_moved k n one none) (only_second l m none' two') = absurd (none' k n one)
counts_once x a b (not_moved k n one none) (no_store none' none'') = absurd (none' k n one)
counts_once x a b (only_second k n none two) (moved_up l m one' two') = absurd (none l m one')
counts_once x a b (only_second k n none two) (not_moved l m one' none') = absurd (none l m one')
counts_once x a b (only_second k n none two) (only_second l m none' two') =
    same_store Two k l n m (one_kind Two x k l n m two two') (one_number Two x k l n m two two')
counts_once x a b (only_second k n none two) (no_store none' none'') = absurd (none'' k n two)
counts_once x a b (no_store none none') (moved_up l m one' two') = absurd (none l m one')
counts_once x a b (no_store none none') (not_moved l m one' none'') = absurd (none l m one')
counts_once x a b (no_store none none') (only_second l m none'' two') = absurd (none' l m two')
counts_once x a b (no_store none none') (no_store none'' none''') = refl
